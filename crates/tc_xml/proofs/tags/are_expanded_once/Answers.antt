use Rattle.std.proofs.Common.{MatchBool, subst, ◌∙◌, ap, map, take_all}
use Rattle.tc_model.specs.Views.{attribute}
use Rattle.std.specs.List.{IsDistinct}
use Rattle.tc_tags.specs.Pairs.{same_pair}
use Rattle.tc_tags.proofs.FailedLaws.{failed_ok}
use Rattle.tc_xml.proofs.MemoryLaws.{out_breaks}
use Rattle.tc_xml.proofs.TagLaws.{once_expanded, pair_expanded}
use Rattle.tc_xml.proofs.tags.are_expanded_once.Goals as goal

pub returns-clause-ok : goal.returns-clause-ok
returns-clause-ok c =
    once_expanded c.all_differ.result c.loop-attribute.names.items _
    (c.loop-attribute.invariant ∙ ap (λ w. map (λ a. a.name) (map attribute w)) (take_all c.loop-attribute.attribute-index c.args.attributes.now c.loop-attribute-test.false))
    (subst (λ w. MatchBool c.all_differ.result (IsDistinct same_pair w) (IsDistinct same_pair w → ⊥)) c.deref_mut.ensures.value c.all_differ.ensures)

pub returns-in_err-push-clause-ok : goal.returns-in_err-push-clause-ok
returns-in_err-push-clause-ok c = failed_ok _ _ _ c.from_residual.ensures.1

pub returns-in_err-push-clause-no : goal.returns-in_err-push-clause-no
returns-in_err-push-clause-no c = out_breaks _ _ c.from_residual.ensures.1

pub loop-attribute-init : goal.loop-attribute-init
loop-attribute-init c = ap (map pair_expanded) c.new-names.ensures.items
