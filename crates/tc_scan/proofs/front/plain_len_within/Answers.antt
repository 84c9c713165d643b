use Rattle.std.proofs.Common.{refl}
use Rattle.memchr.specs.Find.{is_byte3}
use Rattle.tc_model.specs.XmlTextReferences.{is_plain_within}
use Rattle.tc_scan.proofs.FrontLaws.{run_to_some, run_to_none}
use Rattle.tc_scan.proofs.front.plain_len_within.Goals as goal

pub returns-in-Some-clause-count : goal.returns-in-Some-clause-count
returns-in-Some-clause-count c =
    run_to_some (is_byte3 c.args.quote 60 38) (is_plain_within c.args.quote) c.as_bytes.result.now c.args.text.now c.memchr3.result c.in-Some.count (λ b. refl) c.as_bytes.ensures.value c.memchr3.ensures c.in-Some.is

pub returns-in-None-clause-count : goal.returns-in-None-clause-count
returns-in-None-clause-count c =
    run_to_none (is_byte3 c.args.quote 60 38) (is_plain_within c.args.quote) c.as_bytes.result.now c.args.text.now c.memchr3.result (λ b. refl) c.as_bytes.ensures.value c.memchr3.ensures c.in-None.is
