use Rattle.std.proofs.Common.{sym}
use Rattle.tc_xml.specs.PlainTags.{as_written}
use Rattle.tc_tags.proofs.FailedLaws.{failed_some}
use Rattle.tc_xml.proofs.PlainTagLaws.{expands_declaring, expands_plain, expands_bound}
use Rattle.tc_xml.proofs.plain_tags.expand.Goals as goal

pub returns-in-Some : goal.returns-in-Some
returns-in-Some c = λ scope t. expands_declaring scope (as_written c.args.name.now) c.in-Some.ensures.0

pub returns-then-eq : goal.returns-then-eq
returns-then-eq c = λ scope t. expands_plain scope (as_written c.args.name.now) c.in_default.ensures (sym c.if-eq.ensures)

pub returns : goal.returns
returns c = λ scope t. expands_bound scope (as_written c.args.name.now) c.in_ok-uri.uri.now t c.in_default.ensures (sym c.if-eq.ensures) c.in_ok-uri.ensures

pub returns-in_err-uri : goal.returns-in_err-uri
returns-in_err-uri c = failed_some _ _ c.from_residual.ensures
