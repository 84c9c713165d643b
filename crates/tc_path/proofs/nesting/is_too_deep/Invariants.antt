use Rattle.std.proofs.Common.{◌≤◌, ◌<◌, drop}
use Rattle.tc_model.specs.PathTextTokens.{most_open, deepest_nesting}
use Rattle.tc_path.specs.Views.{tokens_of}
use Rattle.tc_path.proofs.nesting.is_too_deep.Given as goal

-- what is to come is too deep exactly where the whole is
abbrev pub invariant-loop-token : goal.invariant-loop-token
invariant-loop-token l = record {
  within : l.count ≤ deepest_nesting;
  forth : deepest_nesting < most_open l.count (tokens_of (drop l.token-index l.tokens)) → deepest_nesting < most_open 0 (tokens_of l.tokens);
  back : deepest_nesting < most_open 0 (tokens_of l.tokens) → deepest_nesting < most_open l.count (tokens_of (drop l.token-index l.tokens));
}
