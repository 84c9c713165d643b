use Rattle.std.proofs.Common.{◌∙◌, ◌-◌, List, ap, sym, length, slice_get}
use Rattle.tc_graph.specs.declared.cycles.Start.{Start}
use Rattle.tc_graph.proofs.Tops.{error_not_ok, last_of, nothing_last}
use Rattle.tc_graph.proofs.Walks.{no_stack}
use Rattle.tc_graph.proofs.cycles.Walk.walk.Goals as goal

pub loop-start-init : goal.loop-start-init
loop-start-init c = record { walk = c.in_ok-begin.ensures.walk; old = c.in_ok-begin.ensures.came.old; here = c.in_ok-begin.ensures.came.here }

pub loop-start-preserved : goal.loop-start-preserved
loop-start-preserved c = record {
  walk = c.in_ok-advance.ensures.walk;
  old = λ v come. c.in_ok-advance.ensures.old v (c.loop-start.invariant.old v come);
  here = c.in_ok-advance.ensures.old c.args.number c.loop-start.invariant.here;
}

pub loop-start-smaller : goal.loop-start-smaller
loop-start-smaller c = c.in_ok-advance.ensures.less

pub begin-requires-clause-within : goal.begin-requires-clause-within
begin-requires-clause-within c = c.requires.within

pub returns-clause-rest : goal.returns-clause-rest
returns-clause-rest c =
    let last = ap (λ (z : List Start). slice_get z (length z - 1)) (sym c.deref.ensures.value) ∙ (sym c.last.ensures.value ∙ (sym c.copied.ensures ∙ c.in_default.is)) in
    record {
      graph = c.requires.rest.graph;
      walk = c.loop-start.invariant.walk;
      empty = no_stack c.loop-start.invariant.walk (nothing_last c.loop-start.self.starts.items last);
    }

pub returns-clause-came : goal.returns-clause-came
returns-clause-came c = record { old = c.loop-start.invariant.old; here = c.loop-start.invariant.here }

pub begin-requires-clause-rest : goal.begin-requires-clause-rest
begin-requires-clause-rest c = c.requires.rest

pub advance-requires : goal.advance-requires
advance-requires c = record {
  graph = c.requires.rest.graph;
  walk = c.loop-start.invariant.walk;
  last = last_of c.loop-start.self.starts.items c.in-Some.start (ap (λ (z : List Start). slice_get z (length z - 1)) (sym c.deref.ensures.value) ∙ (sym c.last.ensures.value ∙ (sym c.copied.ensures ∙ c.in-Some.is)));
}

pub returns-in_err-begin-clause-rest : goal.returns-in_err-begin-clause-rest
returns-in_err-begin-clause-rest c = error_not_ok c.from_residual.result _ _ c.from_residual.ensures.1

pub returns-in_err-begin-clause-came : goal.returns-in_err-begin-clause-came
returns-in_err-begin-clause-came c = error_not_ok c.from_residual.result _ _ c.from_residual.ensures.1

pub returns-in_err-advance-clause-rest : goal.returns-in_err-advance-clause-rest
returns-in_err-advance-clause-rest c = error_not_ok c.from_residual-in_err-advance.result _ _ c.from_residual-in_err-advance.ensures.1

pub returns-in_err-advance-clause-came : goal.returns-in_err-advance-clause-came
returns-in_err-advance-clause-came c = error_not_ok c.from_residual-in_err-advance.result _ _ c.from_residual-in_err-advance.ensures.1
