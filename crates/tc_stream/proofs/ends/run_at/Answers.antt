use Rattle.std.proofs.Common.{◌∙◌, ap, sym, take}
use Rattle.std.specs.List.{prefix_len}
use Rattle.tc_model.specs.XmlTextReferences.{is_plain}
use Rattle.tc_stream.specs.Scans.{cdata_scan}
use Rattle.tc_stream.proofs.ends.run_at.Goals as goal

pub returns-in-Some-clause-count : goal.returns-in-Some-clause-count
returns-in-Some-clause-count c = c.in-Some.ensures.0 ∙ ap (prefix_len is_plain) c.as_bytes-bytes.ensures.value

pub returns-in-Some-clause-clear : goal.returns-in-Some-clause-clear
returns-in-Some-clause-clear c = λ h. ap (λ w. cdata_scan 0 (take c.in-Some.count w)) (sym c.as_bytes-bytes.ensures.value) ∙ c.in-Some.ensures.1
