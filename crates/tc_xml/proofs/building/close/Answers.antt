use Rattle.std.proofs.Common.{◌≡◌, [], ◌∷◌, ◌++◌, ap, ◌∙◌, subst, map, drop}
use Rattle.tc_xml.specs.declared.building.Part.TheVariants.{Done}
use Rattle.tc_tags.proofs.FailedLaws.{failed_some}
use Rattle.tc_xml.proofs.BuildingLaws.{level_closed, tail_is}
use Rattle.tc_xml.proofs.building.close.Goals as goal

pub returns-in-Ok : goal.returns-in-Ok
returns-in-Ok c =
    let from = c.level_start-from.result in
    let mid = c.pop.new.self.items in
    level_closed c.args.parts.now.items c.truncate.new.self.items mid c.push.new.self.items from c.in-Some-Open.name c.in_ok-kids.kids
    (subst (λ xs. drop from xs ≡ map Done c.in_ok-kids.kids.now) c.deref.ensures.value (tail_is c.deref.result.now from c.in_ok-kids.ensures)) c.truncate.ensures.items
    (c.in-Some-Open.ensures.items ∙ ap (λ p. mid ++ p ∷ []) c.in-Some-Open.field-0-is) c.in-Ok.ensures.items

pub returns-in_err-kids : goal.returns-in_err-kids
returns-in_err-kids c = failed_some _ _ c.from_residual.ensures
