use Rattle.std.proofs.Common.{refl}
use Rattle.tc_stream.specs.Scans.{instruction_scan}
use Rattle.tc_stream.specs.declared.ends.Ended.TheVariants as ends
use Rattle.tc_stream.proofs.ItemReads.{instruction_grown, instruction_read}
use Rattle.tc_stream.proofs.ScanEnds.{counted_instruction, instruction_told, instruction_parted, instruction_cut, instruction_counted, instruction_unbroken, left_within, told_broken, told_not}
use Rattle.tc_stream.proofs.reader.Reader.read_instruction.Goals as goal

pub instruction_end-requires : goal.instruction_end-requires
instruction_end-requires c = counted_instruction c.requires.part c.args.self.now.counted

pub overflow_sub-front : goal.overflow_sub-front
overflow_sub-front c = left_within c.in-Before.left c.args.text.now (instruction_scan c.args.question c.args.text.now) (instruction_told (ends.Before c.in-Before.left) c.args.question c.as_bytes.ensures.value c.in-Before.ensures)

pub split_at-requires : goal.split_at-requires
split_at-requires c = instruction_cut c.args.text.now c.in-Before.left c.args.question c.utf8.text (instruction_told (ends.Before c.in-Before.left) c.args.question c.as_bytes.ensures.value c.in-Before.ensures)

pub returns-in-Before-clause-ok : goal.returns-in-Before-clause-ok
returns-in-Before-clause-ok c = λ end.
    let told = instruction_told (ends.Before c.in-Before.left) c.args.question c.as_bytes.ensures.value c.in-Before.ensures in
    instruction_read end c.args.question c.requires.part c.requires.ready (instruction_parted c.args.text.now c.in-Before.left c.args.question told c.split_at.ensures.front c.split_at.ensures.back) refl refl refl

pub returns-in-Before-clause-less : goal.returns-in-Before-clause-less
returns-in-Before-clause-less c =
    let told = instruction_told (ends.Before c.in-Before.left) c.args.question c.as_bytes.ensures.value c.in-Before.ensures in
    let p = instruction_parted c.args.text.now c.in-Before.left c.args.question told c.split_at.ensures.front c.split_at.ensures.back in
    p.shorter

pub invariant_of-self-in-Not-clause-counted : goal.invariant_of-self-in-Not-clause-counted
invariant_of-self-in-Not-clause-counted c = instruction_counted c.args.question c.in-Not.known c.as_bytes.result.now (counted_instruction c.requires.part c.args.self.now.counted) c.in-Not.ensures

pub returns-in-Not-clause-ok : goal.returns-in-Not-clause-ok
returns-in-Not-clause-ok c = λ end.
    let told = instruction_told (ends.Not c.in-Not.known) c.args.question c.as_bytes.ensures.value c.in-Not.ensures in
    instruction_grown end c.args.question c.in-Not.known c.requires.part c.requires.ready (told_not c.in-Not.known c.args.text.now (instruction_scan c.args.question c.args.text.now) told) refl refl refl refl

pub returns-in-Broken-clause-fault : goal.returns-in-Broken-clause-fault
returns-in-Broken-clause-fault c = λ end.
    absurd (instruction_unbroken c.args.question c.as_bytes.result.now (told_broken c.as_bytes.result.now (instruction_scan c.args.question c.as_bytes.result.now) c.in-Broken.ensures))

pub returns-in-Before-clause-fault : goal.returns-in-Before-clause-fault
returns-in-Before-clause-fault c = λ end. tt

pub returns-in-Not-clause-less : goal.returns-in-Not-clause-less
returns-in-Not-clause-less c = c.requires.some

pub returns-in-Not-clause-fault : goal.returns-in-Not-clause-fault
returns-in-Not-clause-fault c = λ end. tt

pub returns-in-Broken-clause-ok : goal.returns-in-Broken-clause-ok
returns-in-Broken-clause-ok c = λ end. tt

pub returns-in-Broken-clause-less : goal.returns-in-Broken-clause-less
returns-in-Broken-clause-less c = tt
