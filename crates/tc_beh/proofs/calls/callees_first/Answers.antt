use Rattle.std.proofs.Common.{◌≡◌, ◌<◌, ℕ, List, length, map, subst, sym, ap, ◌∙◌, arith, All}
use Rattle.std.proofs.lemmas.List.{length-map}
use Rattle.tc_model.specs.Views as see
use Rattle.tc_graph.specs.Graph.{rows_of, IsGraph}
use Rattle.tc_graph.specs.Walks.{AreComponents}
use Rattle.tc_beh.specs.Callees.{callees_in}
use Rattle.tc_beh.proofs.Orders.{calls_are_graph, order_low}
use Rattle.tc_beh.proofs.Steps.{no_value}
use Rattle.tc_beh.proofs.calls.callees_first.Goals as goal

pub components-requires : goal.components-requires
components-requires c =
    subst IsGraph (sym c.in_ok-rows.ensures) (calls_are_graph c.args.named.now c.requires)

pub returns-clause-low : goal.returns-clause-low
returns-clause-low c =
    let w = c.in_ok-walk.walk in
    let rows : rows_of c.in_ok-rows.rows.now ≡ map (λ b. callees_in (see.body b.now)) c.args.named.now = c.in_ok-rows.ensures in
    let count : length (rows_of c.in_ok-rows.rows.now) ≡ length c.args.named.now = ap length rows ∙ length-map c.args.named.now (λ b. callees_in (see.body b.now)) in
    let list : c.in_ok-order.order.items ≡ w.order.items = c.in_ok-order.ensures.items ∙ c.deref.ensures.value in
    subst (λ (xs : List ℕ). All (λ n. n < length c.args.named.now) xs) (sym list)
    (λ k d low. let few = order_low (rows_of c.in_ok-rows.rows.now) w.states.items w.order.items c.in_ok-walk.ensures k d low in omega (arith, few, count))

pub returns-clause-order : goal.returns-clause-order
returns-clause-order c =
    let w = c.in_ok-walk.walk in
    let rows : rows_of c.in_ok-rows.rows.now ≡ map (λ b. callees_in (see.body b.now)) c.args.named.now = c.in_ok-rows.ensures in
    let list : c.in_ok-order.order.items ≡ w.order.items = c.in_ok-order.ensures.items ∙ c.deref.ensures.value in
    record { states = w.states.items; are = subst (λ (xs : List ℕ). AreComponents (map (λ b. callees_in (see.body b.now)) c.args.named.now) w.states.items xs) (sym list) (subst (λ rs. AreComponents rs w.states.items w.order.items) rows c.in_ok-walk.ensures) }

pub returns-in_err-rows-clause-low : goal.returns-in_err-rows-clause-low
returns-in_err-rows-clause-low c = no_value c.from_residual.result _ _ c.from_residual.ensures.1

pub returns-in_err-rows-clause-order : goal.returns-in_err-rows-clause-order
returns-in_err-rows-clause-order c = no_value c.from_residual.result _ _ c.from_residual.ensures.1

pub returns-in_err-walk-clause-low : goal.returns-in_err-walk-clause-low
returns-in_err-walk-clause-low c = no_value c.from_residual-in_err-walk.result _ _ c.from_residual-in_err-walk.ensures.1

pub returns-in_err-walk-clause-order : goal.returns-in_err-walk-clause-order
returns-in_err-walk-clause-order c = no_value c.from_residual-in_err-walk.result _ _ c.from_residual-in_err-walk.ensures.1

pub returns-in_err-order-clause-low : goal.returns-in_err-order-clause-low
returns-in_err-order-clause-low c = no_value c.from_residual-in_err-order.result _ _ c.from_residual-in_err-order.ensures.1

pub returns-in_err-order-clause-order : goal.returns-in_err-order-clause-order
returns-in_err-order-clause-order c = no_value c.from_residual-in_err-order.result _ _ c.from_residual-in_err-order.ensures.1
