use Rattle.std.proofs.Common.{◌≡◌, ◌∙◌, List, ap, length}
use Rattle.tc_model.specs.CompactSyntaxTrees.{choice, interleave}
use Rattle.tc_rnc.specs.Views.{patterns}
use Rattle.tc_rnc.specs.declared.syntax.SPat.{SPat}
use Rattle.tc_rnc.proofs.Views.{see_choice, see_interleave}
use Rattle.tc_simple.proofs.Gathering.{joined_choice, joined_interleave}
use Rattle.tc_simple.proofs.groups.joined.Goals as goal

pub returns-then-group : goal.returns-then-group
returns-then-group c =
    let items = c.args.group.now.bodies.items in
    let same = c.in_ok-bodies.ensures ∙ c.as_slice-bodies.ensures.value in
    let many : length items ≡ 1 → ⊥ = λ e. c.if-bodies-eq1.false (ap length c.as_slice-bodies.ensures.value ∙ e) in
    see_choice _ ∙ (ap (λ (z : List SPat). choice (patterns z)) same ∙ joined_choice c.args.group.now.is_choice items many c.if-group.true)

pub returns-else-group : goal.returns-else-group
returns-else-group c =
    let items = c.args.group.now.bodies.items in
    let same = c.in_ok-bodies.ensures ∙ c.as_slice-bodies.ensures.value in
    let many : length items ≡ 1 → ⊥ = λ e. c.if-bodies-eq1.false (ap length c.as_slice-bodies.ensures.value ∙ e) in
    see_interleave _ ∙ (ap (λ (z : List SPat). interleave (patterns z)) same ∙ joined_interleave c.args.group.now.is_choice items many c.if-group.false)
