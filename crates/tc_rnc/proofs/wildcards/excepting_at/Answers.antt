use Rattle.tc_scan.proofs.NamesLaws.{at_none}
use Rattle.tc_rnc.specs.Views as seen
use Rattle.tc_rnc.proofs.WildcardLaws.{no_wildcard_no_except, no_minus_no_except}
use Rattle.tc_rnc.proofs.wildcards.excepting_at.Goals as goal

pub returns-in_err-wildcard : goal.returns-in_err-wildcard
returns-in_err-wildcard c = at_none _ c.from_residual.ensures (no_wildcard_no_except c.in_err-wildcard.ensures)

pub returns-in_err-behind : goal.returns-in_err-behind
returns-in_err-behind c = at_none _ c.from_residual-in_err-behind.ensures (no_minus_no_except c.in_ok-wildcard.ensures c.in_err-behind.ensures)

pub returns : goal.returns
returns c = record { rest = seen.tokens c.in_ok-wildcard.rest.now; wildcard = c.in_ok-wildcard.ensures; minus = c.in_ok-behind.ensures }
