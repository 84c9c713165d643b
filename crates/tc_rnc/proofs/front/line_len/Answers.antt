use Rattle.std.proofs.Common.{refl}
use Rattle.memchr.specs.Find.{is_byte2}
use Rattle.tc_scan.proofs.FrontLaws.{run_to_some, run_to_none}
use Rattle.tc_rnc.specs.Fronts.{is_in_line}
use Rattle.tc_rnc.proofs.front.line_len.Goals as goal

pub returns-in-Some-clause-count : goal.returns-in-Some-clause-count
returns-in-Some-clause-count c =
    run_to_some (is_byte2 0xA 0xD) is_in_line c.as_bytes.result.now c.args.text.now c.memchr2.result c.in-Some.count (λ b. refl) c.as_bytes.ensures.value c.memchr2.ensures c.in-Some.is

pub returns-in-None-clause-count : goal.returns-in-None-clause-count
returns-in-None-clause-count c =
    run_to_none (is_byte2 0xA 0xD) is_in_line c.as_bytes.result.now c.args.text.now c.memchr2.result (λ b. refl) c.as_bytes.ensures.value c.memchr2.ensures c.in-None.is
