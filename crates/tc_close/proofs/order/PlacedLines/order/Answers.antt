use Rattle.std.proofs.Common.{◌≡◌, List, ℕ, map, take, subst, sym, ap, ◌∙◌}
use Rattle.std.proofs.lemmas.List.{take_all}
use Rattle.tc_close.specs.Orders.{IsOrder}
use Rattle.tc_close.proofs.Ordered.{sorted_order, place_of, Placed}
use Rattle.tc_close.proofs.HandedOn.{no_value}
use Rattle.tc_close.proofs.order.PlacedLines.order.Goals as goal

pub returns : goal.returns
returns g =
    let old : List Placed = g.self.inside.lines.items in
    let new : List Placed = g.sort.new.self.items in
    let seen : List Placed = g.deref-line-items.result.now in
    let order = sorted_order old new g.self.invariant g.in_ok-sort.ensures.permutation g.in_ok-sort.ensures.sorted in
    let all : take g.loop-line.line-index seen ≡ seen = take_all g.loop-line.line-index seen g.loop-line-test.false in
    let said : g.loop-line.places.items ≡ map place_of new = g.loop-line.invariant ∙ (ap (map place_of) all ∙ ap (map place_of) g.deref-line-items.ensures.value) in
    subst (λ (lines : List (List ℕ)). IsOrder lines g.loop-line.places.items) g.self.view_is (subst (IsOrder (map _ old)) (sym said) order)

pub returns-in_err-sort : goal.returns-in_err-sort
returns-in_err-sort c = no_value c.from_residual.result _ _ c.from_residual.ensures.1

pub returns-in_err-push : goal.returns-in_err-push
returns-in_err-push c = no_value c.from_residual-in_err-push.result _ _ c.from_residual-in_err-push.ensures.1
