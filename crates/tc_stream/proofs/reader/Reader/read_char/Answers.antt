use Rattle.std.proofs.Common.{ap, arith, length}
use Rattle.tc_stream.proofs.CharacterReads.{char_read_at, char_faults_at, rest_shorter}
use Rattle.tc_stream.proofs.ReadingLaws.{read_none}
use Rattle.tc_stream.proofs.reader.Reader.read_char.Goals as goal

pub returns-in_default-clause-ok : goal.returns-in_default-clause-ok
returns-in_default-clause-ok c = read_none c.args.end c.requires.ready

pub returns-in_default-clause-less : goal.returns-in_default-clause-less
returns-in_default-clause-less c = absurd (omega (arith, c.requires.some, ap length c.in_default.ensures))

pub returns-in-Ok-clause-ok : goal.returns-in-Ok-clause-ok
returns-in-Ok-clause-ok c = char_read_at c.args.end c.place_of.result c.in-Some.next c.in-Some.ensures.1 c.place_of.ensures c.in-Ok.ensures.ok

pub returns-in-Ok-clause-less : goal.returns-in-Ok-clause-less
returns-in-Ok-clause-less c = rest_shorter c.in-Some.rest.now c.in-Some.next c.in-Some.ensures.1

pub returns-in-Err-clause-fault : goal.returns-in-Err-clause-fault
returns-in-Err-clause-fault c = char_faults_at c.in-Some.rest.now c.in-Err.fault c.args.end c.place_of.result c.in-Some.next c.in-Some.ensures.1 c.place_of.ensures c.in-Err.ensures.fault

pub returns-in_default-clause-fault : goal.returns-in_default-clause-fault
returns-in_default-clause-fault c = tt

pub returns-in-Ok-clause-fault : goal.returns-in-Ok-clause-fault
returns-in-Ok-clause-fault c = tt

pub returns-in-Err-clause-ok : goal.returns-in-Err-clause-ok
returns-in-Err-clause-ok c = tt

pub returns-in-Err-clause-less : goal.returns-in-Err-clause-less
returns-in-Err-clause-less c = tt

pub take_char-requires-clause-ready : goal.take_char-requires-clause-ready
take_char-requires-clause-ready c = c.requires.ready

pub take_char-requires-clause-part : goal.take_char-requires-clause-part
take_char-requires-clause-part c = c.requires.part

pub take_char-requires-clause-by_char : goal.take_char-requires-clause-by_char
take_char-requires-clause-by_char c = c.requires.by_char
