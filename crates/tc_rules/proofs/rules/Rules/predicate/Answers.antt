use Rattle.std.proofs.Common.{◌<◌, ◌∙◌, Bor, ap, length, refl, slice_get, sym, arith}
use Rattle.std.proofs.lemmas.List.{length-map}
use Rattle.std.proofs.lemmas.Option.{slice_get_read}
use Rattle.tc_model.specs.Views as see
use Rattle.tc_model.specs.declared.sheet.Test.{Test}
use Rattle.tc_rules.proofs.Answered.{mapped_at}
use Rattle.tc_rules.proofs.rules.Rules.predicate.Goals as goal

pub index-requires : goal.index-requires
index-requires c = omega (arith, c.requires, length-map c.args.self.now.predicates.items (λ t. see.test t.now), c.args.self.now.predicates.ok.0)

pub returns : goal.returns
returns c = λ symbols h.
    let items = c.args.self.now.predicates.items in
    let inside : c.args.i < length items = omega (arith, c.requires, length-map items (λ t. see.test t.now)) in
    ap (λ w. slice_get w c.args.i) (sym h.tells.predicates_are) ∙ mapped_at (λ (t : Bor Test). see.test t.now) items c.args.i _ (slice_get_read items (length items) c.args.i _ refl inside c.index.ensures)
