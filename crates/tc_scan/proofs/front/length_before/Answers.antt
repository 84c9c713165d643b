use Rattle.std.proofs.Common.{arith}
use Rattle.tc_scan.proofs.FrontLaws.{first_mark, no_mark}
use Rattle.tc_scan.proofs.front.length_before.Goals as goal

pub returns-in-Some : goal.returns-in-Some
returns-in-Some c =
    let (is, within) = first_mark c.args.mark.now c.as_bytes-2.result.now c.args.text.now c.as_bytes.result.now c.find.result c.in-Some.count c.as_bytes.ensures.value c.as_bytes-2.ensures.value c.find.ensures c.in-Some.is in
    record { count = is; within = within }

pub returns-in-None : goal.returns-in-None
returns-in-None c = record {
  count = no_mark c.args.mark.now c.as_bytes-2.result.now c.args.text.now c.as_bytes.result.now c.find.result c.as_bytes.ensures.value c.as_bytes-2.ensures.value c.find.ensures c.in-None.is;
  within = omega arith;
}
