use Rattle.std.proofs.Common.{sym, ◌∙◌}
use Rattle.tc_path.specs.Views.{tokens_of}
use Rattle.tc_path.proofs.PatternLoops.{ends_if_none, ends_if_bar, match_true, no_tokens, some_tokens}
use Rattle.tc_path.proofs.patterns.ends_alternative.Goals as goal

pub returns-then-is_empty : goal.returns-then-is_empty
returns-then-is_empty c = match_true c.is_empty.result _ _ c.if-is_empty.true (ends_if_none (tokens_of c.args.tokens.now) (no_tokens c.args.tokens.now (sym c.is_empty.ensures ∙ c.if-is_empty.true)))

pub returns-else-is_empty : goal.returns-else-is_empty
returns-else-is_empty c = ends_if_bar c.begins_with.result (tokens_of c.args.tokens.now) (some_tokens c.args.tokens.now (sym c.is_empty.ensures ∙ c.if-is_empty.false)) c.begins_with.ensures
