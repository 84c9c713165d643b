use Rattle.std.proofs.Common.{◌<◌, ◌-◌, ℕ, List, arith, drop, length, refl, subst, sym}
use Rattle.std.proofs.lemmas.Grind.{common_steps}
use Rattle.std.proofs.lemmas.List.Elements.{All-drop, All-take}
use Rattle.std.specs.List.{All}
use Rattle.tc_graph.proofs.Tops.{error_not_ok, below_lent}
use Rattle.tc_graph.proofs.cycles.Walk.close.Goals as goal

pub returns : goal.returns
returns c = record {
  states = grind (arith, common_steps);
  stack = grind (arith, common_steps);
  starts = grind (arith, common_steps);
  steps = refl;
  order = grind (arith, common_steps);
}

pub index-requires : goal.index-requires
index-requires c = subst (λ n. c.args.start.place < n) (sym c.args.self.now.stack.ok.0) c.requires.within

pub returns-in_err-push : goal.returns-in_err-push
returns-in_err-push c = error_not_ok c.from_residual.result _ _ c.from_residual.ensures.1

pub slice_bounds-finish-count : goal.slice_bounds-finish-count
slice_bounds-finish-count c = below_lent c.deref.ensures.value c.requires.within

pub finish-requires : goal.finish-requires
finish-requires c =
    let place = c.args.start.place in
    let In : ℕ → Type 0 = λ v. v < length c.args.self.now.states.items in
    let all : All In c.deref.result.now = subst (λ (z : List ℕ). All In z) (sym c.deref.ensures.value) c.requires.states in
    All-take In (length c.deref.result.now - place) (drop place c.deref.result.now) (All-drop In place c.deref.result.now all)
