use Rattle.std.proofs.Common.{◌≡◌, ◌<◌, ◌≤◌, ◌∷◌, [], ℕ, List, length, map, refl, ap, ◌∙◌, subst, arith, length-append}
use Rattle.std.proofs.lemmas.List.Elements.{All-weaker}
use Rattle.std.proofs.lemmas.Result.{IfOk-weaker}
use Rattle.tc_model.specs.CertificateLines.{tree_line}
use Rattle.tc_model.specs.Numbered.{numbers_below}
use Rattle.tc_close.specs.Lines.{tree_ranked}
use Rattle.tc_close.specs.Orders.{IsOrder}
use Rattle.tc_close.specs.RowState.{RowState}
use Rattle.tc_close.proofs.Pushed.{pushed_below}
use Rattle.tc_close.proofs.HandedOn.{no_value}
use Rattle.tc_close.proofs.certificate.tree_order.Goals as goal

pub push-requires : goal.push-requires
push-requires g c = let e = c.loop-place.invariant.2 in omega (arith, e, c.loop-place-test.true, c.tree_count-place-end.type_inv)

pub loop-place-preserved : goal.loop-place-preserved
loop-place-preserved g c = (
  c.tree_bytes.ensures.same ∙ c.loop-place.invariant.0,
  λ x o. pushed_below (λ p. tree_line (tree_ranked x c.args.rows.now c.args.ranks.now p)) c.loop-place.place c.loop-place.all c.push.new.self c.in_ok-line.line.items (c.loop-place.invariant.1 x o) c.in_ok-push.ensures
      (c.in_ok-line.ensures.line x o ∙ ap (λ (s : RowState). tree_line (tree_ranked x s c.args.ranks.now c.loop-place.place)) c.loop-place.invariant.0),
  (let a = ap length c.in_ok-push.ensures in let b = length-append c.loop-place.all (c.in_ok-line.line.items ∷ []) in let e = c.loop-place.invariant.2 in omega (arith, a, b, e)),
)

pub loop-place-init : goal.loop-place-init
loop-place-init g c = (refl, λ x o. c.new-all.ensures, ap length c.new-all.ensures)

pub returns-clause-order : goal.returns-clause-order
returns-clause-order g c =
    IfOk-weaker c.order.result _ _ (λ numbers order x o.
    let f = λ (p : ℕ). tree_line (tree_ranked x c.args.rows.now c.args.ranks.now p) in
    let all : c.loop-place.place ≡ length c.args.rows.now.trees = omega (arith, c.loop-place-test.false, c.tree_count-place-end.ensures) in
    subst (λ (lines : List (List ℕ)). IsOrder lines numbers.items) (c.loop-place.invariant.1 x o ∙ ap (λ n. map f (numbers_below n)) all) order) c.order.ensures

pub returns-clause-numbers : goal.returns-clause-numbers
returns-clause-numbers g c =
    let e = c.loop-place.invariant.2 in
    let count : length c.loop-place.all ≡ length c.args.rows.now.trees = omega (arith, e, c.loop-place-test.false, c.tree_count-place-end.ensures) in
    let few : length c.loop-place.all ≤ 4294967295 = omega (arith, e, c.loop-place-test.false, c.loop-place.auto.place-end, c.tree_count-place-end.type_inv) in
    IfOk-weaker c.order.result _ _ (λ numbers order. (
      All-weaker (λ p. p < length c.loop-place.all) (λ p. p < length c.args.rows.now.trees) (λ p l. omega (arith, l, count)) numbers.items order.within,
      (let h = order.count in omega (arith, h, few)),
    )) c.order.ensures

pub returns-in_err-line-clause-order : goal.returns-in_err-line-clause-order
returns-in_err-line-clause-order g c = no_value c.from_residual.result _ _ c.from_residual.ensures.1

pub returns-in_err-line-clause-numbers : goal.returns-in_err-line-clause-numbers
returns-in_err-line-clause-numbers g c = no_value c.from_residual.result _ _ c.from_residual.ensures.1

pub returns-in_err-push-clause-order : goal.returns-in_err-push-clause-order
returns-in_err-push-clause-order g c = no_value c.from_residual-in_err-push.result _ _ c.from_residual-in_err-push.ensures.1

pub returns-in_err-push-clause-numbers : goal.returns-in_err-push-clause-numbers
returns-in_err-push-clause-numbers g c = no_value c.from_residual-in_err-push.result _ _ c.from_residual-in_err-push.ensures.1
