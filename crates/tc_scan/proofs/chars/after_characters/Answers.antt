use Rattle.std.proofs.Common.{sym, ap, ◌∙◌}
use Rattle.std.proofs.Math.Seq.{drop-length}
use Rattle.std.specs.List.{list_all}
use Rattle.tc_scan.specs.Chars.{is_start_of_chars_only}
use Rattle.tc_scan.proofs.CharsFront.{past_plain}
use Rattle.tc_scan.proofs.chars.after_characters.Goals as goal

pub returns-then-start_chars_only : goal.returns-then-start_chars_only
returns-then-start_chars_only c =
    past_plain c.args.text.now c.range_from.result.now c.utf8.text (ap (list_all is_start_of_chars_only) (sym c.as_bytes.ensures.value) ∙ (sym c.start_chars_only.ensures ∙ c.if-start_chars_only.true))
    (c.range_from.ensures.value ∙ drop-length c.args.text.now)
