use Rattle.std.proofs.Common.{◌<◌, ◌∙◌, ℕ, List, length, map, subst, sym, ap, arith}
use Rattle.std.proofs.lemmas.List.Elements.{All-weaker}
use Rattle.std.proofs.lemmas.Result.{IfOk-weaker}
use Rattle.tc_close.specs.Lines.{tree_ranked}
use Rattle.tc_close.specs.Orders.{AreBelow}
use Rattle.tc_close.specs.RowState.{RowState}
use Rattle.tc_close.proofs.HandedOn.{no_value}
use Rattle.tc_close.proofs.certificate.trees_in_order.Goals as goal

pub trees_at-requires-clause-numbers : goal.trees_at-requires-clause-numbers
trees_at-requires-clause-numbers g c =
    let same = ap (λ (s : RowState). length s.trees) c.tree_order.ensures.same in
    let (within, few) = c.in_ok-numbers.ensures.numbers in
    subst (AreBelow (length c.tree_order.new.rows.trees)) (sym c.deref.ensures.value)
    (All-weaker (λ p. p < length c.args.rows.now.trees) (λ p. p < length c.tree_order.new.rows.trees) (λ p l. omega (arith, l, same)) c.in_ok-numbers.numbers.items within, few)

pub trees_at-requires-clause-ranks : goal.trees_at-requires-clause-ranks
trees_at-requires-clause-ranks g c = c.requires ∙ sym (ap (λ (s : RowState). length s.outputs.matrices) c.tree_order.ensures.same)

pub returns-clause-same : goal.returns-clause-same
returns-clause-same g c = c.trees_at.ensures.same ∙ c.tree_order.ensures.same

pub returns-clause-trees : goal.returns-clause-trees
returns-clause-trees g c =
    let old = c.args.rows.now in
    let ranks : List ℕ = c.args.ranks.now in
    let numbers : List ℕ = c.in_ok-numbers.numbers.items in
    IfOk-weaker c.trees_at.result _ _ (λ trees made x o. record {
      numbers = numbers;
      order = c.in_ok-numbers.ensures.order x o;
      all = made x o ∙ (ap (λ (s : RowState). map (tree_ranked x s ranks) c.deref.result.now) c.tree_order.ensures.same ∙ ap (map (tree_ranked x old ranks)) c.deref.ensures.value);
    }) c.trees_at.ensures.trees

pub returns-in_err-numbers-clause-trees : goal.returns-in_err-numbers-clause-trees
returns-in_err-numbers-clause-trees g c = no_value c.from_residual.result _ _ c.from_residual.ensures.1
