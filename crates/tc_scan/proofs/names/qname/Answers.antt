use Rattle.std.proofs.Common.{subst}
use Rattle.tc_model.specs.XmlTextNames.{NcNameAt, unprefixed, prefixed}
use Rattle.tc_scan.proofs.NamesLaws.{at_none, no_local}
use Rattle.tc_scan.proofs.names.qname.Goals as goal

pub returns-in_err-local-in-Some : goal.returns-in_err-local-in-Some
returns-in_err-local-in-Some c =
    at_none _ c.from_residual-in_err-local-in-Some.ensures
    (no_local c.args.text.now c.in_ok-first.first.now c.in_ok-first.rest.now c.in-Some.behind.now c.in_ok-first.ensures c.in-Some.ensures c.in_err-local-in-Some.ensures)

pub returns-in-None : goal.returns-in-None
returns-in-None c = unprefixed c.in_ok-first.ensures c.in-None.ensures

pub returns-in_ok-local-in-Some : goal.returns-in_ok-local-in-Some
returns-in_ok-local-in-Some c =
    prefixed (subst (λ w. NcNameAt c.args.text.now c.in_ok-first.first.now w) c.in-Some.ensures c.in_ok-first.ensures) c.in_ok-local-in-Some.ensures
