use Rattle.tc_scan.proofs.NamesLaws.{at_none}
use Rattle.std.proofs.Common.{refl}
use Rattle.tc_rnc.proofs.LexLaws.{no_quote, lacks_escape, has_escape}
use Rattle.tc_rnc.proofs.lexing.unclosed_escape.Goals as goal

pub returns-in_err-inside : goal.returns-in_err-inside
returns-in_err-inside c =
    at_none _ c.from_residual.ensures (no_quote c.args.total c.args.text.now c.in_err-inside.ensures)

pub returns-in_err-before : goal.returns-in_err-before
returns-in_err-before c =
    at_none _ c.from_residual-in_err-before.ensures (lacks_escape c.args.total c.args.text.now c.in_ok-inside.inside.now c.line-line.result.now (_, c.in_ok-inside.ensures) c.line-line.ensures c.in_err-before.ensures)

pub returns : goal.returns
returns c =
    has_escape c.args.total c.args.text.now c.in_ok-inside.inside.now c.line-line.result.now c.in_ok-before.before _ (_, c.in_ok-inside.ensures) c.line-line.ensures c.in_ok-before.ensures refl
