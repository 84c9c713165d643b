use Rattle.std.specs.List.{prefix_len}
use Rattle.std.proofs.Common.{arith, ap, sym, ◌∙◌, get_or, not}
use Rattle.tc_model.specs.XmlTextReferences.{is_plain}
use Rattle.tc_scan.specs.Blocks.{is_clear}
use Rattle.tc_xml.proofs.CharacterDataLaws.{clear_run}
use Rattle.tc_xml.proofs.character_data.clear_data.Goals as goal

pub returns : goal.returns
returns c =
    let same = c.as_bytes-bytes.ensures.value in
    let n = c.in_ok-count.count in
    clear_run c.args.text.now c.split_at.result.0.now c.split_at.result.1.now n (c.in_ok-count.ensures ∙ ap (prefix_len is_clear) same) c.if-count-eq0.false (omega (arith, c.if-count-bytes.false, c.as_bytes-bytes.ensures.len))
    (sym c.if-not-ends_run.false ∙ (c.ends_run.ensures ∙ ap (λ w. not (is_plain (get_or w n 0))) same)) c.split_at.ensures.front c.split_at.ensures.back
