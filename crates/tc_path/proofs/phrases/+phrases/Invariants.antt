use Rattle.std.proofs.Common.{◌*◌, ◌+◌, ◌<◌, ◌≤◌, length}
use Rattle.tc_model.specs.Views.{steps, alternatives, tests}
use Rattle.tc_path.specs.Scopes.{in_scope}
use Rattle.tc_path.specs.Views.{tokens_of}
use Rattle.tc_path.proofs.Loops.{AndsSoFar, OrsSoFar, PredicatesSoFar}
use Rattle.tc_path.proofs.StepLoops.{StepsSoFar, SelectsSoFar}
use Rattle.tc_path.proofs.phrases.+phrases.Given as goal

abbrev pub decreases-closed_test : goal.decreases-closed_test
decreases-closed_test l = 8 * length l.tokens.now + 7

abbrev pub decreases-any_tests : goal.decreases-any_tests
decreases-any_tests l = 8 * length l.tokens.now + 6

abbrev pub decreases-all_tests : goal.decreases-all_tests
decreases-all_tests l = 8 * length l.tokens.now + 5

abbrev pub decreases-primary : goal.decreases-primary
decreases-primary l = 8 * length l.tokens.now + 4

abbrev pub decreases-select : goal.decreases-select
decreases-select l = 8 * length l.tokens.now + 3

abbrev pub decreases-alternative : goal.decreases-alternative
decreases-alternative l = 8 * length l.tokens.now + 2

abbrev pub decreases-steps : goal.decreases-steps
decreases-steps l = 8 * length l.tokens.now + 1

abbrev pub decreases-step : goal.decreases-step
decreases-step l = 8 * length l.tokens.now + 0

abbrev pub invariant-all_tests-loop-found : goal.invariant-all_tests-loop-found
invariant-all_tests-loop-found l = record {
  read : AndsSoFar (in_scope l.scope) (tokens_of l.tokens) (tests l.found.items) (tokens_of l.rest);
  within : length l.rest ≤ length l.tokens;
}

abbrev pub decreases-all_tests-loop-found : goal.decreases-all_tests-loop-found
decreases-all_tests-loop-found l = length l.rest

abbrev pub invariant-any_tests-loop-found : goal.invariant-any_tests-loop-found
invariant-any_tests-loop-found l = record {
  read : OrsSoFar (in_scope l.scope) (tokens_of l.tokens) (tests l.found.items) (tokens_of l.rest);
  within : length l.rest ≤ length l.tokens;
}

abbrev pub decreases-any_tests-loop-found : goal.decreases-any_tests-loop-found
decreases-any_tests-loop-found l = length l.rest

abbrev pub invariant-select-loop-found : goal.invariant-select-loop-found
invariant-select-loop-found l = record {
  read : SelectsSoFar (in_scope l.scope) (tokens_of l.tokens) (alternatives l.found.items) l.drops (tokens_of l.rest);
  within : length l.rest ≤ length l.tokens;
}

abbrev pub decreases-select-loop-found : goal.decreases-select-loop-found
decreases-select-loop-found l = length l.rest

abbrev pub invariant-step-loop-inside : goal.invariant-step-loop-inside
invariant-step-loop-inside l = record {
  read : PredicatesSoFar (in_scope l.scope) (tokens_of l.initial.rest) (tests l.found.items) (tokens_of l.rest);
  shorter : length l.rest < length l.tokens;
}

abbrev pub decreases-step-loop-inside : goal.decreases-step-loop-inside
decreases-step-loop-inside l = length l.rest

abbrev pub invariant-steps-loop-after : goal.invariant-steps-loop-after
invariant-steps-loop-after l = record {
  read : StepsSoFar (in_scope l.scope) l.is_deep (tokens_of l.tokens) l.longer (steps l.found.items) l.deep (tokens_of l.rest);
  within : length l.rest ≤ length l.tokens;
}

abbrev pub decreases-steps-loop-after : goal.decreases-steps-loop-after
decreases-steps-loop-after l = length l.rest
