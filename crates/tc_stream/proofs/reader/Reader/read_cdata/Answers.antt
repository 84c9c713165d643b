use Rattle.std.proofs.Common.{refl}
use Rattle.tc_stream.specs.Scans.{cdata_scan}
use Rattle.tc_stream.specs.declared.ends.Ended.TheVariants as ends
use Rattle.tc_stream.proofs.ItemReads.{section_grown, section_read}
use Rattle.tc_stream.proofs.ScanEnds.{counted_section, section_told, section_parted, section_cut, section_counted, section_unbroken, left_within, told_broken, told_not}
use Rattle.tc_stream.proofs.reader.Reader.read_cdata.Goals as goal

pub cdata_end-requires : goal.cdata_end-requires
cdata_end-requires c = counted_section c.requires.part c.args.self.now.counted

pub overflow_sub-front : goal.overflow_sub-front
overflow_sub-front c = left_within c.in-Before.left c.args.text.now (cdata_scan c.args.brackets c.args.text.now) (section_told (ends.Before c.in-Before.left) c.args.brackets c.as_bytes-bytes.ensures.value c.in-Before.ensures)

pub split_at-requires : goal.split_at-requires
split_at-requires c = section_cut c.args.text.now c.in-Before.left c.args.brackets c.utf8.text (section_told (ends.Before c.in-Before.left) c.args.brackets c.as_bytes-bytes.ensures.value c.in-Before.ensures)

pub returns-in-Before-clause-ok : goal.returns-in-Before-clause-ok
returns-in-Before-clause-ok c = λ end.
    let told = section_told (ends.Before c.in-Before.left) c.args.brackets c.as_bytes-bytes.ensures.value c.in-Before.ensures in
    section_read end c.args.brackets c.requires.part (counted_section c.requires.part c.args.self.now.counted) c.requires.ready (section_parted c.args.text.now c.in-Before.left c.args.brackets told c.split_at.ensures.front c.split_at.ensures.back) refl refl
    c.end_cdata.ensures.elements c.end_cdata.ensures.part c.end_cdata.ensures.phase

pub returns-in-Before-clause-less : goal.returns-in-Before-clause-less
returns-in-Before-clause-less c =
    let told = section_told (ends.Before c.in-Before.left) c.args.brackets c.as_bytes-bytes.ensures.value c.in-Before.ensures in
    let p = section_parted c.args.text.now c.in-Before.left c.args.brackets told c.split_at.ensures.front c.split_at.ensures.back in
    p.shorter

pub invariant_of-self-clause-counted : goal.invariant_of-self-clause-counted
invariant_of-self-clause-counted c = section_counted c.args.brackets c.in-Not.known c.as_bytes-bytes.result.now (counted_section c.requires.part c.args.self.now.counted) c.in-Not.ensures

pub returns-in-Not-clause-ok : goal.returns-in-Not-clause-ok
returns-in-Not-clause-ok c = λ end.
    let told = section_told (ends.Not c.in-Not.known) c.args.brackets c.as_bytes-bytes.ensures.value c.in-Not.ensures in
    section_grown end c.args.brackets c.in-Not.known c.requires.part (counted_section c.requires.part c.args.self.now.counted) c.requires.ready (told_not c.in-Not.known c.args.text.now (cdata_scan c.args.brackets c.args.text.now) told) c.as_bytes-bytes.ensures.value
    c.is_section_white-is_blank.ensures c.take_text.ensures.elements refl c.take_text.ensures.phase c.take_text.ensures.begun

pub returns-in-Broken-clause-fault : goal.returns-in-Broken-clause-fault
returns-in-Broken-clause-fault c = λ end.
    absurd (section_unbroken c.args.brackets c.as_bytes-bytes.result.now (told_broken c.as_bytes-bytes.result.now (cdata_scan c.args.brackets c.as_bytes-bytes.result.now) c.in-Broken.ensures))

pub returns-in-Before-clause-fault : goal.returns-in-Before-clause-fault
returns-in-Before-clause-fault c = λ end. tt

pub returns-in-Not-clause-less : goal.returns-in-Not-clause-less
returns-in-Not-clause-less c = c.requires.some

pub returns-in-Not-clause-fault : goal.returns-in-Not-clause-fault
returns-in-Not-clause-fault c = λ end. tt

pub returns-in-Broken-clause-ok : goal.returns-in-Broken-clause-ok
returns-in-Broken-clause-ok c = λ end. tt

pub returns-in-Broken-clause-less : goal.returns-in-Broken-clause-less
returns-in-Broken-clause-less c = tt
