use Rattle.std.proofs.Common.{refl, sym, subst}
use Rattle.tc_stream.specs.Reading.{FaultsOn}
use Rattle.tc_stream.specs.Scans.{comment_scan}
use Rattle.tc_stream.specs.declared.ends.Ended.TheVariants as ends
use Rattle.tc_stream.proofs.ItemReads.{comment_faults, comment_grown, comment_read}
use Rattle.tc_stream.proofs.ScanEnds.{counted_comment, comment_told, comment_parted, comment_cut, comment_counted, left_within, told_broken, told_not}
use Rattle.tc_stream.proofs.reader.Reader.read_comment.Goals as goal

pub comment_end-requires : goal.comment_end-requires
comment_end-requires c = counted_comment c.requires.part c.args.self.now.counted

pub overflow_sub-front : goal.overflow_sub-front
overflow_sub-front c = left_within c.in-Before.left c.args.text.now (comment_scan c.args.hyphens c.args.text.now) (comment_told (ends.Before c.in-Before.left) c.args.hyphens c.as_bytes.ensures.value c.in-Before.ensures)

pub split_at-requires : goal.split_at-requires
split_at-requires c = comment_cut c.args.text.now c.in-Before.left c.args.hyphens c.utf8.text (comment_told (ends.Before c.in-Before.left) c.args.hyphens c.as_bytes.ensures.value c.in-Before.ensures)

pub returns-in-Before-clause-ok : goal.returns-in-Before-clause-ok
returns-in-Before-clause-ok c = λ end.
    let told = comment_told (ends.Before c.in-Before.left) c.args.hyphens c.as_bytes.ensures.value c.in-Before.ensures in
    comment_read end c.args.hyphens c.requires.part c.requires.ready (comment_parted c.args.text.now c.in-Before.left c.args.hyphens told c.split_at.ensures.front c.split_at.ensures.back) refl refl refl

pub returns-in-Before-clause-less : goal.returns-in-Before-clause-less
returns-in-Before-clause-less c =
    let told = comment_told (ends.Before c.in-Before.left) c.args.hyphens c.as_bytes.ensures.value c.in-Before.ensures in
    let p = comment_parted c.args.text.now c.in-Before.left c.args.hyphens told c.split_at.ensures.front c.split_at.ensures.back in
    p.shorter

pub invariant_of-self-in-Not-clause-counted : goal.invariant_of-self-in-Not-clause-counted
invariant_of-self-in-Not-clause-counted c = comment_counted c.args.hyphens c.in-Not.known c.as_bytes.result.now (counted_comment c.requires.part c.args.self.now.counted) c.in-Not.ensures

pub returns-in-Not-clause-ok : goal.returns-in-Not-clause-ok
returns-in-Not-clause-ok c = λ end.
    let told = comment_told (ends.Not c.in-Not.known) c.args.hyphens c.as_bytes.ensures.value c.in-Not.ensures in
    comment_grown end c.args.hyphens c.in-Not.known c.requires.part c.requires.ready (told_not c.in-Not.known c.args.text.now (comment_scan c.args.hyphens c.args.text.now) told) refl refl refl refl

pub returns-in-Broken-clause-fault : goal.returns-in-Broken-clause-fault
returns-in-Broken-clause-fault c = λ end.
    let told = comment_told ends.Broken c.args.hyphens c.as_bytes.ensures.value c.in-Broken.ensures in
    subst (FaultsOn c.args.self.now c.args.text.now end) (sym c.malformed.ensures) (comment_faults end c.args.hyphens c.requires.part (told_broken c.args.text.now (comment_scan c.args.hyphens c.args.text.now) told))

pub returns-in-Before-clause-fault : goal.returns-in-Before-clause-fault
returns-in-Before-clause-fault c = λ end. tt

pub returns-in-Not-clause-less : goal.returns-in-Not-clause-less
returns-in-Not-clause-less c = c.requires.some

pub returns-in-Not-clause-fault : goal.returns-in-Not-clause-fault
returns-in-Not-clause-fault c = λ end. tt

pub returns-in-Broken-clause-ok : goal.returns-in-Broken-clause-ok
returns-in-Broken-clause-ok c = λ end. tt

pub returns-in-Broken-clause-less : goal.returns-in-Broken-clause-less
returns-in-Broken-clause-less c = tt
