use Rattle.std.proofs.Common.{rules, arith, length, ap, ◌∙◌, sym, subst}
use Rattle.tc_model.specs.Views.{tests, steps, alternatives, path}
use Rattle.tc_path.specs.Scopes.{in_scope}
use Rattle.tc_model.specs.Sheets as s
use Rattle.tc_model.specs.PathTextPhrases as p
use Rattle.tc_model.proofs.ViewsPath.{see_has, see_true, see_false, see_path, tests_then}
use Rattle.tc_path.specs.Views.{mark, form, tokens_of}
use Rattle.tc_path.proofs.NodeTestLaws.{map_read, shorter_by, shorter_by_two, shorter_by_three, attribute_shorter, other_shorter}
use Rattle.tc_path.proofs.Loops.{tests_pushed, ands_start, ands_read, ands_behind, ands_end, ands_fail, ors_start, ors_read, ors_behind, ors_end, ors_fail, predicates_start, predicates_next, predicates_end, predicates_fail}
use Rattle.tc_path.proofs.StepLoops.{steps_pushed, steps_start, steps_next, steps_attribute, steps_end, steps_fail, alternatives_kept, selects_start, selects_read, selects_behind, selects_end, selects_refused}
use Rattle.tc_path.proofs.PhraseLaws.{passed_on, memory_passed_on, out_of_memory, other_alternative, descendant_alternative, no_child_alternative, no_dot_alternative, no_descendant_alternative, truth_at, falsehood_at, parentheses_at, negation_at, no_select_primary, no_dropped_primary, no_parentheses, no_negation, never_closed, not_closed, no_child_step, step_at, no_predicates}
use Rattle.tc_path.proofs.phrases.+phrases.Goals as goal

pub all_tests-loop-found-init : goal.all_tests-loop-found-init
all_tests-loop-found-init t c = record {
  read = ands_start (in_scope c.args.scope.now) (tokens_of c.args.tokens.now) _ c.new-found.result.items c.new-found.ensures.items (ap tokens_of c.split_at.ensures.back);
  within = omega (arith, ap length c.split_at.ensures.back);
}

pub all_tests-loop-found-preserved : goal.all_tests-loop-found-preserved
all_tests-loop-found-preserved t c = record {
  read =
      ands_behind (in_scope c.args.scope.now)
      (ands_read (in_scope c.args.scope.now) c.loop-found.invariant.read c.in_ok-test.ensures.0 (tests_pushed c.loop-found.found.items c.push.new.self.items c.in_ok-test.test c.in_ok-push.ensures.items)) c.in-Some.ensures;
  within = omega (arith, shorter_by c.in_ok-test.after.now c.in-Some.next.now c.in-Some.ensures, c.in_ok-test.ensures.1, c.loop-found.invariant.within);
}

pub all_tests-loop-found-smaller : goal.all_tests-loop-found-smaller
all_tests-loop-found-smaller t c = omega (arith, shorter_by c.in_ok-test.after.now c.in-Some.next.now c.in-Some.ensures, c.in_ok-test.ensures.1)

pub all_tests-primary-requires : goal.all_tests-primary-requires
all_tests-primary-requires t c = omega (arith, c.loop-found.invariant.within)

pub all_tests-returns-in_default : goal.all_tests-returns-in_default
all_tests-returns-in_default t c = (
  subst (λ w. p.AndAt (in_scope c.args.scope.now) (tokens_of c.args.tokens.now) (tests w) (tokens_of c.in_ok-test.after.now)) (sym c.into_bump_slice.ensures)
      (ands_end (in_scope c.args.scope.now)
      (ands_read (in_scope c.args.scope.now) c.loop-found.invariant.read c.in_ok-test.ensures.0 (tests_pushed c.loop-found.found.items c.push.new.self.items c.in_ok-test.test c.in_ok-push.ensures.items)) c.in_default.ensures),
  omega (arith, c.in_ok-test.ensures.1, c.loop-found.invariant.within),
)

pub all_tests-returns-in_err-test : goal.all_tests-returns-in_err-test
all_tests-returns-in_err-test t c = passed_on _ c.from_residual.result c.in_err-test.field-0.0 c.from_residual.ensures.1 (ands_fail (in_scope c.args.scope.now) c.loop-found.invariant.read) c.in_err-test.ensures

pub all_tests-returns-in_err-push : goal.all_tests-returns-in_err-push
all_tests-returns-in_err-push t c = out_of_memory _ _ c.from_residual-in_err-push.result c.from_residual-in_err-push.ensures.1

pub any_tests-loop-found-init : goal.any_tests-loop-found-init
any_tests-loop-found-init t c = record {
  read = ors_start (in_scope c.args.scope.now) (tokens_of c.args.tokens.now) _ c.new-found.result.items c.new-found.ensures.items (ap tokens_of c.split_at.ensures.back);
  within = omega (arith, ap length c.split_at.ensures.back);
}

pub any_tests-loop-found-preserved : goal.any_tests-loop-found-preserved
any_tests-loop-found-preserved t c = record {
  read =
      ors_behind (in_scope c.args.scope.now)
      (ors_read (in_scope c.args.scope.now) c.loop-found.invariant.read c.in_ok-tests.ensures.0 (tests_pushed c.loop-found.found.items c.push.new.self.items c.conjunction.result c.in_ok-push.ensures.items ∙ ap (λ w. tests_then (tests c.loop-found.found.items) (s.test w s.no_test)) c.conjunction.ensures)) c.in-Some.ensures;
  within = omega (arith, shorter_by c.in_ok-tests.after.now c.in-Some.next.now c.in-Some.ensures, c.in_ok-tests.ensures.1, c.loop-found.invariant.within);
}

pub any_tests-loop-found-smaller : goal.any_tests-loop-found-smaller
any_tests-loop-found-smaller t c = omega (arith, shorter_by c.in_ok-tests.after.now c.in-Some.next.now c.in-Some.ensures, c.in_ok-tests.ensures.1)

pub any_tests-all_tests-requires : goal.any_tests-all_tests-requires
any_tests-all_tests-requires t c = omega (arith, c.loop-found.invariant.within)

pub any_tests-returns-in_default : goal.any_tests-returns-in_default
any_tests-returns-in_default t c = (
  subst (λ w. p.OrAt (in_scope c.args.scope.now) (tokens_of c.args.tokens.now) (tests w) (tokens_of c.in_ok-tests.after.now)) (sym c.into_bump_slice.ensures)
      (ors_end (in_scope c.args.scope.now)
      (ors_read (in_scope c.args.scope.now) c.loop-found.invariant.read c.in_ok-tests.ensures.0 (tests_pushed c.loop-found.found.items c.push.new.self.items c.conjunction.result c.in_ok-push.ensures.items ∙ ap (λ w. tests_then (tests c.loop-found.found.items) (s.test w s.no_test)) c.conjunction.ensures)) c.in_default.ensures),
  omega (arith, c.in_ok-tests.ensures.1, c.loop-found.invariant.within),
)

pub any_tests-returns-in_err-tests : goal.any_tests-returns-in_err-tests
any_tests-returns-in_err-tests t c = passed_on _ c.from_residual.result c.in_err-tests.field-0.0 c.from_residual.ensures.1 (ors_fail (in_scope c.args.scope.now) c.loop-found.invariant.read) c.in_err-tests.ensures

pub any_tests-returns-in_err-push : goal.any_tests-returns-in_err-push
any_tests-returns-in_err-push t c = out_of_memory _ _ c.from_residual-in_err-push.result c.from_residual-in_err-push.ensures.1

pub select-loop-found-init : goal.select-loop-found-init
select-loop-found-init t c = record {
  read = selects_start (in_scope c.args.scope.now) (tokens_of c.args.tokens.now) _ c.new-found.result.items c.new-found.ensures.items (ap tokens_of c.split_at.ensures.back);
  within = omega (arith, ap length c.split_at.ensures.back);
}

pub select-loop-found-preserved : goal.select-loop-found-preserved
select-loop-found-preserved t c = record {
  read =
      selects_behind (in_scope c.args.scope.now)
      (selects_read (in_scope c.args.scope.now) c.loop-found.invariant.read c.in_ok-steps.ensures.0
      (alternatives_kept c.loop-found.found.items c.keep.new.alternatives.items c.in_ok-steps.steps (form c.in_ok-steps.form) c.in_ok-drops.ensures.kept) c.in_ok-drops.ensures.drops) c.in-Some.ensures;
  within = omega (arith, shorter_by c.in_ok-steps.after.now c.in-Some.next.now c.in-Some.ensures, c.in_ok-steps.ensures.1, c.loop-found.invariant.within);
}

pub select-loop-found-smaller : goal.select-loop-found-smaller
select-loop-found-smaller t c = omega (arith, shorter_by c.in_ok-steps.after.now c.in-Some.next.now c.in-Some.ensures, c.in_ok-steps.ensures.1)

pub select-alternative-requires : goal.select-alternative-requires
select-alternative-requires t c = omega (arith, c.loop-found.invariant.within)

pub select-returns-in_default : goal.select-returns-in_default
select-returns-in_default t c = (
  subst (λ w. p.SelectAt (in_scope c.args.scope.now) (tokens_of c.args.tokens.now) w c.in_ok-drops.drops (tokens_of c.in_ok-steps.after.now))
      (sym (see_path (record { ref_ptr = c.into_bump_slice-alts.result.ref_ptr; now = c.into_bump_slice-alts.result.now }) ∙ ap alternatives c.into_bump_slice-alts.ensures))
      (selects_end (in_scope c.args.scope.now)
      (selects_read (in_scope c.args.scope.now) c.loop-found.invariant.read c.in_ok-steps.ensures.0
      (alternatives_kept c.loop-found.found.items c.keep.new.alternatives.items c.in_ok-steps.steps (form c.in_ok-steps.form) c.in_ok-drops.ensures.kept) c.in_ok-drops.ensures.drops) c.in_default.ensures),
  omega (arith, c.in_ok-steps.ensures.1, c.loop-found.invariant.within),
)

pub select-returns-in_err-steps : goal.select-returns-in_err-steps
select-returns-in_err-steps t c = passed_on _ c.from_residual.result c.in_err-steps.field-0.0 c.from_residual.ensures.1 (selects_refused (in_scope c.args.scope.now) c.loop-found.invariant.read) c.in_err-steps.ensures

pub select-returns-in_err-drops : goal.select-returns-in_err-drops
select-returns-in_err-drops t c = memory_passed_on _ _ c.from_residual-in_err-drops.result c.in_err-drops.field-0.0 c.from_residual-in_err-drops.ensures.1 c.in_err-drops.ensures.memory

pub steps-loop-after-init : goal.steps-loop-after-init
steps-loop-after-init t c = record {
  read = steps_start (in_scope c.args.scope.now) (tokens_of c.args.tokens.now) _ c.new-found.result.items c.new-found.ensures.items (ap tokens_of c.split_at.ensures.back);
  within = omega (arith, ap length c.split_at.ensures.back);
}

pub steps-loop-after-preserved : goal.steps-loop-after-preserved
steps-loop-after-preserved t c = record {
  read =
      steps_next (in_scope c.args.scope.now) c.in-Some-after_separator.below c.loop-after.invariant.read c.in_ok-next.ensures.0 c.in-Some-after_separator.ensures
      (steps_pushed c.loop-after.found.items c.put_step.new.steps.items c.in_ok-next.next c.in_ok-put_step.ensures.put);
  within = omega (arith, shorter_by c.in_ok-next.after.now c.in-Some-after_separator.behind.now c.in-Some-after_separator.ensures, c.in_ok-next.ensures.1, c.loop-after.invariant.within);
}

pub steps-loop-after-smaller : goal.steps-loop-after-smaller
steps-loop-after-smaller t c = omega (arith, shorter_by c.in_ok-next.after.now c.in-Some-after_separator.behind.now c.in-Some-after_separator.ensures, c.in_ok-next.ensures.1)

pub steps-step-requires : goal.steps-step-requires
steps-step-requires t c = omega (arith, c.loop-after.invariant.within)

pub steps-returns-in-Some : goal.steps-returns-in-Some
steps-returns-in-Some t c = (
  subst (λ w. p.StepsAt (in_scope c.args.scope.now) c.args.is_deep (tokens_of c.args.tokens.now) (steps w) p.dropped (tokens_of c.in-Some.after.now)) (sym c.into_bump_slice.ensures)
      (steps_attribute (in_scope c.args.scope.now) c.loop-after.invariant.read c.in-Some.ensures),
  omega (arith, attribute_shorter c.loop-after.rest.now c.in-Some.after.now c.in-Some.ensures, c.loop-after.invariant.within),
)

pub steps-returns-in_default-after_separator : goal.steps-returns-in_default-after_separator
steps-returns-in_default-after_separator t c = (
  subst (λ w. p.StepsAt (in_scope c.args.scope.now) c.args.is_deep (tokens_of c.args.tokens.now) (steps w) (form c.form_of.result) (tokens_of c.in_ok-next.after.now)) (sym c.into_bump_slice-in_default-after_separator.ensures)
      (steps_end (in_scope c.args.scope.now) c.loop-after.invariant.read c.in_ok-next.ensures.0 (steps_pushed c.loop-after.found.items c.put_step.new.steps.items c.in_ok-next.next c.in_ok-put_step.ensures.put) c.form_of.ensures c.in_default-after_separator.ensures),
  omega (arith, c.in_ok-next.ensures.1, c.loop-after.invariant.within),
)

pub steps-returns-in_err-next : goal.steps-returns-in_err-next
steps-returns-in_err-next t c = passed_on _ c.from_residual.result c.in_err-next.field-0.0 c.from_residual.ensures.1 (steps_fail (in_scope c.args.scope.now) c.loop-after.invariant.read c.in_default.ensures) c.in_err-next.ensures

pub steps-returns-in_err-put_step : goal.steps-returns-in_err-put_step
steps-returns-in_err-put_step t c = memory_passed_on _ _ c.from_residual-in_err-put_step.result c.in_err-put_step.field-0.0 c.from_residual-in_err-put_step.ensures.1 c.in_err-put_step.ensures.memory

pub closed_test-returns : goal.closed_test-returns
closed_test-returns t c = (
  search rules,
  omega (arith, shorter_by c.in_ok-tests.after.now c.in-Some.rest.now c.in-Some.ensures, c.in_ok-tests.ensures.1),
)

pub closed_test-returns-in_default : goal.closed_test-returns-in_default
closed_test-returns-in_default t c = not_closed (in_scope c.args.scope.now) (mark c.args.close) c.in_ok-tests.ensures.0 c.in_default.ensures

pub alternative-returns-in-Some : goal.alternative-returns-in-Some
alternative-returns-in-Some t c = (
  other_alternative (in_scope c.args.scope.now) c.in-Some.ensures,
  other_shorter c.args.tokens.now c.in-Some.rest.now c.in-Some.ensures,
)

pub alternative-returns-in_default-after_mark : goal.alternative-returns-in_default-after_mark
alternative-returns-in_default-after_mark t c = map_read c.steps.result (λ r a. (p.AlternativeAt.from_children a.0, a.1)) (no_child_alternative (in_scope c.args.scope.now) c.in_default.ensures c.in_default-after_mark.ensures) c.steps.ensures

pub alternative-returns-in_default-after_mark-2 : goal.alternative-returns-in_default-after_mark-2
alternative-returns-in_default-after_mark-2 t c = no_dot_alternative (in_scope c.args.scope.now) c.in_default.ensures c.in-Some-after_mark.ensures c.in_default-after_mark-2.ensures

pub alternative-steps-requires-2 : goal.alternative-steps-requires-2
alternative-steps-requires-2 t c = omega (arith, shorter_by c.args.tokens.now c.in-Some-after_mark.behind.now c.in-Some-after_mark.ensures, shorter_by c.in-Some-after_mark.behind.now c.in-Some-after_mark-2.rest.now c.in-Some-after_mark-2.ensures)

pub alternative-returns : goal.alternative-returns
alternative-returns t c = map_read c.steps-2.result
    (λ r a. (
      descendant_alternative (in_scope c.args.scope.now) c.in-Some-after_mark.ensures c.in-Some-after_mark-2.ensures a.0,
      omega (arith, a.1, shorter_by c.args.tokens.now c.in-Some-after_mark.behind.now c.in-Some-after_mark.ensures, shorter_by c.in-Some-after_mark.behind.now c.in-Some-after_mark-2.rest.now c.in-Some-after_mark-2.ensures),
    ))
    (no_descendant_alternative (in_scope c.args.scope.now) c.in_default.ensures c.in-Some-after_mark.ensures c.in-Some-after_mark-2.ensures) c.steps-2.ensures

pub primary-returns-in-Some : goal.primary-returns-in-Some
primary-returns-in-Some t c = (
  subst (λ w. p.PrimaryAt (in_scope c.args.scope.now) (tokens_of c.args.tokens.now) w (tokens_of c.in-Some.rest.now)) (sym see_true) (truth_at (in_scope c.args.scope.now) c.in-Some.ensures),
  shorter_by_three c.args.tokens.now c.in-Some.rest.now c.in-Some.ensures,
)

pub primary-returns-in-Some-after_call : goal.primary-returns-in-Some-after_call
primary-returns-in-Some-after_call t c = (
  subst (λ w. p.PrimaryAt (in_scope c.args.scope.now) (tokens_of c.args.tokens.now) w (tokens_of c.in-Some-after_call.rest.now)) (sym see_false) (falsehood_at (in_scope c.args.scope.now) c.in-Some-after_call.ensures),
  shorter_by_three c.args.tokens.now c.in-Some-after_call.rest.now c.in-Some-after_call.ensures,
)

pub primary-closed_test-requires : goal.primary-closed_test-requires
primary-closed_test-requires t c = omega (arith, shorter_by c.args.tokens.now c.in-Some-after_mark.inside.now c.in-Some-after_mark.ensures)

pub primary-returns-in-Some-after_mark : goal.primary-returns-in-Some-after_mark
primary-returns-in-Some-after_mark t c = map_read c.closed_test.result
    (λ r a. (parentheses_at (in_scope c.args.scope.now) c.in-Some-after_mark.ensures a.0, omega (arith, a.1, shorter_by c.args.tokens.now c.in-Some-after_mark.inside.now c.in-Some-after_mark.ensures)))
    (no_parentheses (in_scope c.args.scope.now) c.in-Some-after_mark.ensures) c.closed_test.ensures

pub primary-closed_test-requires-in-Some-after_open_call : goal.primary-closed_test-requires-in-Some-after_open_call
primary-closed_test-requires-in-Some-after_open_call t c = omega (arith, shorter_by_two c.args.tokens.now c.in-Some-after_open_call.inside.now c.in-Some-after_open_call.ensures)

pub primary-returns-in_err-test : goal.primary-returns-in_err-test
primary-returns-in_err-test t c = passed_on _ c.from_residual.result c.in_err-test.field-0.0 c.from_residual.ensures.1 (no_negation (in_scope c.args.scope.now) c.in-Some-after_open_call.ensures) c.in_err-test.ensures

pub primary-returns-in-Some-after_open_call : goal.primary-returns-in-Some-after_open_call
primary-returns-in-Some-after_open_call t c = (
  negation_at (in_scope c.args.scope.now) (record { ref_ptr = c.in_ok-try_alloc.field-0.ref_ptr; now = c.in_ok-try_alloc.field-0.now }) c.in-Some-after_open_call.ensures c.in_ok-test.ensures.0 c.in_ok-try_alloc.ensures,
  omega (arith, shorter_by_two c.args.tokens.now c.in-Some-after_open_call.inside.now c.in-Some-after_open_call.ensures, c.in_ok-test.ensures.1),
)

pub primary-returns-in_err-path : goal.primary-returns-in_err-path
primary-returns-in_err-path t c = passed_on _ c.from_residual-in_err-path.result c.in_err-path.field-0.0 c.from_residual-in_err-path.ensures.1
    (no_select_primary (in_scope c.args.scope.now) c.in_default.ensures c.in_default-after_call.ensures c.in_default-after_mark.ensures c.in_default-after_open_call.ensures) c.in_err-path.ensures

pub primary-returns-then-drops : goal.primary-returns-then-drops
primary-returns-then-drops t c = no_dropped_primary (in_scope c.args.scope.now) c.in_default.ensures c.in_default-after_call.ensures c.in_default-after_mark.ensures c.in_default-after_open_call.ensures c.in_ok-path.ensures.0 c.if-drops.true

pub primary-returns : goal.primary-returns
primary-returns t c = (
  subst (λ w. p.PrimaryAt (in_scope c.args.scope.now) (tokens_of c.args.tokens.now) w (tokens_of c.in_ok-path.rest.now)) (sym (see_has c.in_ok-path.path))
      (p.PrimaryAt.a_path (subst (λ b. p.SelectAt (in_scope c.args.scope.now) (tokens_of c.args.tokens.now) (path c.in_ok-path.path) b (tokens_of c.in_ok-path.rest.now)) c.if-drops.false c.in_ok-path.ensures.0)),
  c.in_ok-path.ensures.1,
)

pub step-loop-inside-preserved : goal.step-loop-inside-preserved
step-loop-inside-preserved t c = record {
  read =
      predicates_next (in_scope c.args.scope.now) c.loop-inside.invariant.read c.in-Some.ensures c.in_ok-predicate.ensures.0
      (tests_pushed c.loop-inside.found.items c.push.new.self.items c.in_ok-predicate.predicate c.in_ok-push.ensures.items);
  shorter = omega (arith, shorter_by c.loop-inside.rest.now c.in-Some.inside.now c.in-Some.ensures, c.in_ok-predicate.ensures.1, c.loop-inside.invariant.shorter);
}

pub step-loop-inside-init : goal.step-loop-inside-init
step-loop-inside-init t c = record {
  read = predicates_start (in_scope c.args.scope.now) (tokens_of c.in_ok-test.rest.now) c.new-found.result.items c.new-found.ensures.items;
  shorter = c.in_ok-test.ensures.1;
}

pub step-loop-inside-smaller : goal.step-loop-inside-smaller
step-loop-inside-smaller t c = omega (arith, shorter_by c.loop-inside.rest.now c.in-Some.inside.now c.in-Some.ensures, c.in_ok-predicate.ensures.1)

pub step-closed_test-requires : goal.step-closed_test-requires
step-closed_test-requires t c = omega (arith, shorter_by c.loop-inside.rest.now c.in-Some.inside.now c.in-Some.ensures, c.loop-inside.invariant.shorter)

pub step-returns-in_err-predicate : goal.step-returns-in_err-predicate
step-returns-in_err-predicate t c = passed_on _ c.from_residual-in_err-predicate.result c.in_err-predicate.field-0.0 c.from_residual-in_err-predicate.ensures.1
    (λ h. no_predicates (in_scope c.args.scope.now) c.in_ok-test.ensures.0 (predicates_fail (in_scope c.args.scope.now) c.loop-inside.invariant.read c.in-Some.ensures h)) c.in_err-predicate.ensures

pub step-returns : goal.step-returns
step-returns t c = (
  step_at (in_scope c.args.scope.now) c.loop-inside.found.items c.into_bump_slice-predicates.result.now c.in_ok-test.ensures.0
      (predicates_end (in_scope c.args.scope.now) c.loop-inside.invariant.read c.in_default.ensures) c.into_bump_slice-predicates.ensures c.conjunction.ensures c.is_empty.ensures,
  c.loop-inside.invariant.shorter,
)

pub alternative-slice_bounds-result-end : goal.alternative-slice_bounds-result-end
alternative-slice_bounds-result-end t c = search rules

pub alternative-steps-requires : goal.alternative-steps-requires
alternative-steps-requires t c = search rules

pub closed_test-any_tests-requires : goal.closed_test-any_tests-requires
closed_test-any_tests-requires t c = search rules

pub closed_test-returns-in_err-tests : goal.closed_test-returns-in_err-tests
closed_test-returns-in_err-tests t c = passed_on _ c.from_residual.result c.in_err-tests.field-0.0 c.from_residual.ensures.1 (never_closed (in_scope c.args.scope.now) (mark c.args.close)) c.in_err-tests.ensures

pub primary-returns-in_err-try_alloc : goal.primary-returns-in_err-try_alloc
primary-returns-in_err-try_alloc t c = out_of_memory _ _ c.from_residual-in_err-try_alloc.result c.from_residual-in_err-try_alloc.ensures.1

pub primary-select-requires : goal.primary-select-requires
primary-select-requires t c = search rules

pub step-returns-in_err-push : goal.step-returns-in_err-push
step-returns-in_err-push t c = out_of_memory _ _ c.from_residual-in_err-push.result c.from_residual-in_err-push.ensures.1

pub step-returns-in_err-test : goal.step-returns-in_err-test
step-returns-in_err-test t c = passed_on _ c.from_residual.result c.in_err-test.field-0.0 c.from_residual.ensures.1 (no_child_step (in_scope c.args.scope.now)) c.in_err-test.ensures

pub all_tests-split_at-requires : goal.all_tests-split_at-requires
all_tests-split_at-requires t c = omega arith

pub any_tests-split_at-requires : goal.any_tests-split_at-requires
any_tests-split_at-requires t c = omega arith

pub select-split_at-requires : goal.select-split_at-requires
select-split_at-requires t c = omega arith

pub steps-split_at-requires : goal.steps-split_at-requires
steps-split_at-requires t c = omega arith
