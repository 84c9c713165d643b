use Rattle.std.proofs.Common.{◌<◌, ℕ, List, length, subst, arith}
use Rattle.std.proofs.lemmas.List.Elements.{All-weaker}
use Rattle.tc_beh.specs.Held.{set_at}
use Rattle.tc_beh.specs.Places.{pairs_of}
use Rattle.tc_model.specs.CertificateLines.{pairs_line}
use Rattle.tc_close.specs.Lines.{output_lines, AreTreesInOrder, AreHedgesInOrder}
use Rattle.tc_close.specs.RowState.{RowState}
use Rattle.tc_close.proofs.Pushed.{below_count}
use Rattle.tc_close.proofs.HandedOn.{no_value}
use Rattle.tc_close.proofs.certificate.data_by.Goals as goal

pub ranks_of-requires-clause-within : goal.ranks_of-requires-clause-within
ranks_of-requires-clause-within g c =
    let count = below_count (λ n. pairs_line (pairs_of (set_at c.args.rows.now.outputs n))) (length c.args.rows.now.outputs.matrices) in
    All-weaker (λ p. p < length (output_lines c.args.rows.now)) (λ p. p < c.output_count.result) (λ p l. omega (arith, l, count, c.output_count.ensures.count)) c.args.numbers.now c.requires.within

pub ranks_of-requires-clause-few : goal.ranks_of-requires-clause-few
ranks_of-requires-clause-few g c =
    let count = below_count (λ n. pairs_line (pairs_of (set_at c.args.rows.now.outputs n))) (length c.args.rows.now.outputs.matrices) in
    let few = c.output_count.ensures.known.few in
    let e = c.requires.count in
    omega (arith, e, count, few)

pub outputs_at-requires-clause-within : goal.outputs_at-requires-clause-within
outputs_at-requires-clause-within g c =
    let count = below_count (λ n. pairs_line (pairs_of (set_at c.args.rows.now.outputs n))) (length c.args.rows.now.outputs.matrices) in
    All-weaker (λ p. p < length (output_lines c.args.rows.now)) (λ p. p < length c.args.rows.now.outputs.matrices) (λ p l. omega (arith, l, count)) c.args.numbers.now c.requires.within

pub outputs_at-requires-clause-few : goal.outputs_at-requires-clause-few
outputs_at-requires-clause-few g c =
    let count = below_count (λ n. pairs_line (pairs_of (set_at c.args.rows.now.outputs n))) (length c.args.rows.now.outputs.matrices) in
    let few = c.output_count.ensures.known.few in
    let e = c.requires.count in
    omega (arith, e, count, few)

pub returns-clause-made : goal.returns-clause-made
returns-clause-made g c = λ x o. record {
  ranks = c.in_ok-ranks.ranks.items;
  are = c.in_ok-ranks.ensures.ranks;
  outputs = c.in_ok-outputs.ensures;
  trees = subst (λ (rs : List ℕ). AreTreesInOrder x c.args.rows.now rs c.in_ok-trees.trees) c.deref.ensures.value (c.in_ok-trees.ensures.trees x o);
  hedges =
      subst (λ (s : RowState). AreHedgesInOrder x s c.in_ok-ranks.ranks.items c.in_ok-hedges.hedges) c.in_ok-trees.ensures.same
      (subst (λ (rs : List ℕ). AreHedgesInOrder x c.trees_in_order.new.rows rs c.in_ok-hedges.hedges) c.deref-2.ensures.value (c.in_ok-hedges.ensures.hedges x o));
}

pub returns-in_err-ranks-clause-made : goal.returns-in_err-ranks-clause-made
returns-in_err-ranks-clause-made g c = no_value c.from_residual.result _ _ c.from_residual.ensures.1

pub returns-in_err-outputs-clause-made : goal.returns-in_err-outputs-clause-made
returns-in_err-outputs-clause-made g c = no_value c.from_residual-in_err-outputs.result _ _ c.from_residual-in_err-outputs.ensures.1

pub returns-in_err-trees-clause-made : goal.returns-in_err-trees-clause-made
returns-in_err-trees-clause-made g c = no_value c.from_residual-in_err-trees.result _ _ c.from_residual-in_err-trees.ensures.1

pub returns-in_err-hedges-clause-made : goal.returns-in_err-hedges-clause-made
returns-in_err-hedges-clause-made g c = no_value c.from_residual-in_err-hedges.result _ _ c.from_residual-in_err-hedges.ensures.1
