use Rattle.std.proofs.Common.{◌≡◌, ◌+◌, refl, arith, ap, length}
use Rattle.tc_stream.proofs.DataReads.{reference_begun}
use Rattle.tc_stream.proofs.reader.Reader.begin_reference.Goals as goal

pub returns-in-Some-clause-ok : goal.returns-in-Some-clause-ok
returns-in-Some-clause-ok c =
    let place = c.place_of-self.ensures in
    let within = c.requires.within in
    let fits : c.place_of-self.result + length c.args.text.now ≡ c.args.end = omega (arith, place, within) in
    reference_begun c.args.end c.place_of-self.result c.in-Some.ensures c.requires.open_here c.requires.ready refl refl refl refl fits

pub returns-in-Some-clause-less : goal.returns-in-Some-clause-less
returns-in-Some-clause-less c = omega (arith, ap length c.in-Some.ensures)

pub returns-in-Some-clause-fault : goal.returns-in-Some-clause-fault
returns-in-Some-clause-fault c = tt

pub begin_item-requires-clause-ready : goal.begin_item-requires-clause-ready
begin_item-requires-clause-ready c = c.requires.ready

pub begin_item-requires-clause-open_here : goal.begin_item-requires-clause-open_here
begin_item-requires-clause-open_here c = c.requires.open_here

pub begin_item-requires-clause-bare : goal.begin_item-requires-clause-bare
begin_item-requires-clause-bare c = c.requires.bare

pub begin_item-requires-clause-some : goal.begin_item-requires-clause-some
begin_item-requires-clause-some c = c.requires.some

pub begin_item-requires-clause-within : goal.begin_item-requires-clause-within
begin_item-requires-clause-within c = c.requires.within

pub begin_item-requires-clause-low : goal.begin_item-requires-clause-low
begin_item-requires-clause-low c = c.requires.low

pub returns-in-None-clause-ok : goal.returns-in-None-clause-ok
returns-in-None-clause-ok c = c.begin_item.ensures.ok

pub returns-in-None-clause-less : goal.returns-in-None-clause-less
returns-in-None-clause-less c = c.begin_item.ensures.less

pub returns-in-None-clause-fault : goal.returns-in-None-clause-fault
returns-in-None-clause-fault c = c.begin_item.ensures.fault
