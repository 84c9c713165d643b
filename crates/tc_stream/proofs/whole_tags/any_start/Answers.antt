use Rattle.std.proofs.Common.{◌∙◌, sym, subst, arith, None}
use Rattle.std.proofs.lemmas.Str.{length-encode}
use Rattle.tc_stream.specs.TagStands.{TellsScanned}
use Rattle.tc_stream.specs.declared.tag_reading.Scanned.TheVariants as scans
use Rattle.tc_stream.proofs.WholeTagReads.{whole_tag}
use Rattle.tc_stream.proofs.whole_tags.any_start.Goals as goal

pub returns-else-count-len_utf8 : goal.returns-else-count-len_utf8
returns-else-count-len_utf8 c =
    let first = c.in_ok-first.first in
    let count = c.in-Ended.count in
    record {
      tag = whole_tag c.in_ok-first.field-0-1.now first count c.in_ok-after_byte.ensures c.in_ok-first.ensures.1 (sym c.is_ncname_start.ensures ∙ c.if-not-is_ncname_start.false)
          (omega (arith, c.if-count-len_utf8.false, c.len_utf8.ensures.value, length-encode first)) (subst (λ z. TellsScanned None z (scans.Ended count)) c.as_bytes.ensures.value c.in-Ended.ensures)
          (omega (arith, c.if-count-gt-LONGEST_TAG.false));
      named = tt;
    }
