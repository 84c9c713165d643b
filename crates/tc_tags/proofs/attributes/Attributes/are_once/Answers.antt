use Rattle.std.proofs.Common.{MatchBool, ◌∙◌, ap, subst}
use Rattle.std.specs.List.{IsDistinct}
use Rattle.tc_tags.specs.Listed.{all_parts}
use Rattle.tc_tags.specs.Pairs.{same_pair}
use Rattle.tc_tags.proofs.ListedLaws.{once_shown}
use Rattle.tc_tags.proofs.attributes.Attributes.are_once.Goals as goal

pub returns-in-Some-clause-once : goal.returns-in-Some-clause-once
returns-in-Some-clause-once c =
    once_shown c.all_differ.result c.in-Some.found.items _
    (c.in-Some.ensures ∙ ap (all_parts c.args.sort c.args.tag.now c.args.names.now.bytes.items c.args.scopes.now.declared.items) c.deref.ensures.value)
    (subst (λ w. MatchBool c.all_differ.result (IsDistinct same_pair w) (IsDistinct same_pair w → ⊥)) c.deref_mut.ensures.value c.all_differ.ensures)
