use Rattle.tc_rnc.proofs.Escapes.{text_escape, escape_found}
use Rattle.tc_rnc.proofs.faults.escape_at.Goals as goal

pub returns-then-is_escape : goal.returns-then-is_escape
returns-then-is_escape c = text_escape c.in_ok-first.ensures c.if-is_escape.ensures

pub returns : goal.returns
returns c = escape_found _ c.in_ok-first.ensures c.if-is_escape.ensures c.escape_in_literal.ensures
