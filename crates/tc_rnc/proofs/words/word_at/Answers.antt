use Rattle.tc_model.specs.CompactSyntaxTokens.{quoted, quoted_long, escaped_name}
use Rattle.tc_rnc.proofs.WordLaws.{no_word, none_map}
use Rattle.tc_rnc.proofs.words.word_at.Goals as goal

pub returns-in-Some-long_literal : goal.returns-in-Some-long_literal
returns-in-Some-long_literal c = quoted_long c.in-Some-long_literal.ensures

pub returns-in-Some-quoted : goal.returns-in-Some-quoted
returns-in-Some-quoted c = quoted c.in-Some-quoted.ensures.0 c.in-Some-quoted.ensures.1 c.in_default-long_literal.ensures

pub returns-in-Some-escaped : goal.returns-in-Some-escaped
returns-in-Some-escaped c = escaped_name c.in-Some-escaped.ensures

pub returns : goal.returns
returns c = none_map _ c.marked.result (no_word c.in_default.ensures c.in_default-quoted.ensures c.in_default-long_literal.ensures c.in_default-escaped.ensures) c.marked.ensures
