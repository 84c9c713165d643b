use Rattle.std.proofs.Common.{refl, arith, ap, length}
use Rattle.tc_stream.proofs.MiscReads.{mark_read, mark_not_content}
use Rattle.tc_stream.proofs.reader.Reader.read_front.Goals as goal

pub returns-in-Some-clause-ok : goal.returns-in-Some-clause-ok
returns-in-Some-clause-ok c = mark_read c.args.end c.in-Some.ensures c.requires.part c.requires.front c.requires.ready c.requires.part refl refl

pub returns-in-Some-clause-less : goal.returns-in-Some-clause-less
returns-in-Some-clause-less c = omega (arith, ap length c.in-Some.ensures)

pub read_misc-requires-clause-around : goal.read_misc-requires-clause-around
read_misc-requires-clause-around c = mark_not_content c.requires.front

pub read_misc-requires-clause-no_mark : goal.read_misc-requires-clause-no_mark
read_misc-requires-clause-no_mark c = λ e r. c.in-None.ensures r

pub returns-in-Some-clause-fault : goal.returns-in-Some-clause-fault
returns-in-Some-clause-fault c = tt

pub read_misc-requires-clause-ready : goal.read_misc-requires-clause-ready
read_misc-requires-clause-ready c = c.requires.ready

pub read_misc-requires-clause-part : goal.read_misc-requires-clause-part
read_misc-requires-clause-part c = c.requires.part

pub read_misc-requires-clause-some : goal.read_misc-requires-clause-some
read_misc-requires-clause-some c = c.requires.some

pub read_misc-requires-clause-within : goal.read_misc-requires-clause-within
read_misc-requires-clause-within c = c.requires.within

pub read_misc-requires-clause-low : goal.read_misc-requires-clause-low
read_misc-requires-clause-low c = c.requires.low

pub returns-in-None-clause-ok : goal.returns-in-None-clause-ok
returns-in-None-clause-ok c = c.read_misc.ensures.ok

pub returns-in-None-clause-less : goal.returns-in-None-clause-less
returns-in-None-clause-less c = c.read_misc.ensures.less

pub returns-in-None-clause-fault : goal.returns-in-None-clause-fault
returns-in-None-clause-fault c = c.read_misc.ensures.fault
