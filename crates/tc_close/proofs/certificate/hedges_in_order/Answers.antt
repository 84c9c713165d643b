use Rattle.std.proofs.Common.{◌<◌, ◌∙◌, ℕ, List, length, map, subst, sym, ap, arith}
use Rattle.std.proofs.lemmas.List.Elements.{All-weaker}
use Rattle.std.proofs.lemmas.Result.{IfOk-weaker}
use Rattle.tc_close.specs.Lines.{hedge_ranked}
use Rattle.tc_close.specs.Orders.{AreBelow}
use Rattle.tc_close.specs.RowState.{RowState}
use Rattle.tc_close.proofs.HandedOn.{no_value}
use Rattle.tc_close.proofs.certificate.hedges_in_order.Goals as goal

pub hedges_at-requires-clause-numbers : goal.hedges_at-requires-clause-numbers
hedges_at-requires-clause-numbers g c =
    let same = ap (λ (s : RowState). length s.hedges) c.hedge_order.ensures.same in
    let (within, few) = c.in_ok-numbers.ensures.numbers in
    subst (AreBelow (length c.hedge_order.new.rows.hedges)) (sym c.deref.ensures.value)
    (All-weaker (λ p. p < length c.args.rows.now.hedges) (λ p. p < length c.hedge_order.new.rows.hedges) (λ p l. omega (arith, l, same)) c.in_ok-numbers.numbers.items within, few)

pub hedges_at-requires-clause-ranks : goal.hedges_at-requires-clause-ranks
hedges_at-requires-clause-ranks g c = c.requires ∙ sym (ap (λ (s : RowState). length s.outputs.matrices) c.hedge_order.ensures.same)

pub returns-clause-same : goal.returns-clause-same
returns-clause-same g c = c.hedges_at.ensures.same ∙ c.hedge_order.ensures.same

pub returns-clause-hedges : goal.returns-clause-hedges
returns-clause-hedges g c =
    let old = c.args.rows.now in
    let ranks : List ℕ = c.args.ranks.now in
    let numbers : List ℕ = c.in_ok-numbers.numbers.items in
    IfOk-weaker c.hedges_at.result _ _ (λ hedges made x o. record {
      numbers = numbers;
      order = c.in_ok-numbers.ensures.order x o;
      all = made x o ∙ (ap (λ (s : RowState). map (hedge_ranked x s ranks) c.deref.result.now) c.hedge_order.ensures.same ∙ ap (map (hedge_ranked x old ranks)) c.deref.ensures.value);
    }) c.hedges_at.ensures.hedges

pub returns-in_err-numbers-clause-hedges : goal.returns-in_err-numbers-clause-hedges
returns-in_err-numbers-clause-hedges g c = no_value c.from_residual.result _ _ c.from_residual.ensures.1
