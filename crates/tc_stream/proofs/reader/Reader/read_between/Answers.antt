use Rattle.tc_stream.proofs.reader.Reader.read_between.Goals as goal

pub read_misc-requires-clause-around : goal.read_misc-requires-clause-around
read_misc-requires-clause-around c = c.in_default.not-Content

pub read_misc-requires-clause-no_mark : goal.read_misc-requires-clause-no_mark
read_misc-requires-clause-no_mark c = λ e r k. c.in_default.not-Mark e

pub begin_data-requires-clause-ready : goal.begin_data-requires-clause-ready
begin_data-requires-clause-ready c = c.requires.ready

pub begin_data-requires-clause-part : goal.begin_data-requires-clause-part
begin_data-requires-clause-part c = c.requires.part

pub begin_data-requires-clause-content : goal.begin_data-requires-clause-content
begin_data-requires-clause-content c = c.in-Content.is

pub begin_data-requires-clause-some : goal.begin_data-requires-clause-some
begin_data-requires-clause-some c = c.requires.some

pub begin_data-requires-clause-within : goal.begin_data-requires-clause-within
begin_data-requires-clause-within c = c.requires.within

pub begin_data-requires-clause-low : goal.begin_data-requires-clause-low
begin_data-requires-clause-low c = c.requires.low

pub returns-in-Content-clause-ok : goal.returns-in-Content-clause-ok
returns-in-Content-clause-ok c = c.begin_data.ensures.ok

pub returns-in-Content-clause-less : goal.returns-in-Content-clause-less
returns-in-Content-clause-less c = c.begin_data.ensures.less

pub returns-in-Content-clause-fault : goal.returns-in-Content-clause-fault
returns-in-Content-clause-fault c = c.begin_data.ensures.fault

pub read_front-requires-clause-ready : goal.read_front-requires-clause-ready
read_front-requires-clause-ready c = c.requires.ready

pub read_front-requires-clause-part : goal.read_front-requires-clause-part
read_front-requires-clause-part c = c.requires.part

pub read_front-requires-clause-front : goal.read_front-requires-clause-front
read_front-requires-clause-front c = c.in-Mark.is

pub read_front-requires-clause-some : goal.read_front-requires-clause-some
read_front-requires-clause-some c = c.requires.some

pub read_front-requires-clause-within : goal.read_front-requires-clause-within
read_front-requires-clause-within c = c.requires.within

pub read_front-requires-clause-low : goal.read_front-requires-clause-low
read_front-requires-clause-low c = c.requires.low

pub returns-in-Mark-clause-ok : goal.returns-in-Mark-clause-ok
returns-in-Mark-clause-ok c = c.read_front.ensures.ok

pub returns-in-Mark-clause-less : goal.returns-in-Mark-clause-less
returns-in-Mark-clause-less c = c.read_front.ensures.less

pub returns-in-Mark-clause-fault : goal.returns-in-Mark-clause-fault
returns-in-Mark-clause-fault c = c.read_front.ensures.fault

pub read_misc-requires-clause-ready : goal.read_misc-requires-clause-ready
read_misc-requires-clause-ready c = c.requires.ready

pub read_misc-requires-clause-part : goal.read_misc-requires-clause-part
read_misc-requires-clause-part c = c.requires.part

pub read_misc-requires-clause-some : goal.read_misc-requires-clause-some
read_misc-requires-clause-some c = c.requires.some

pub read_misc-requires-clause-within : goal.read_misc-requires-clause-within
read_misc-requires-clause-within c = c.requires.within

pub read_misc-requires-clause-low : goal.read_misc-requires-clause-low
read_misc-requires-clause-low c = c.requires.low

pub returns-in_default-clause-ok : goal.returns-in_default-clause-ok
returns-in_default-clause-ok c = c.read_misc.ensures.ok

pub returns-in_default-clause-less : goal.returns-in_default-clause-less
returns-in_default-clause-less c = c.read_misc.ensures.less

pub returns-in_default-clause-fault : goal.returns-in_default-clause-fault
returns-in_default-clause-fault c = c.read_misc.ensures.fault
