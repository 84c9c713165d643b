use Rattle.std.proofs.Common.{◌≡◌, ◌+◌, refl, arith, ap, length}
use Rattle.tc_stream.proofs.DataReads.{markup_begun, plain_or_mark}
use Rattle.tc_stream.proofs.reader.Reader.begin_markup.Goals as goal

pub returns-in-Some-clause-ok : goal.returns-in-Some-clause-ok
returns-in-Some-clause-ok c =
    let place = c.place_of-place.ensures in
    let within = c.requires.within in
    let fits : c.place_of-place.result + length c.args.text.now ≡ c.args.end = omega (arith, place, within) in
    markup_begun c.args.end c.place_of-place.result c.in-Some.ensures c.requires.open_here c.requires.ready refl refl refl refl fits

pub returns-in-Some-clause-less : goal.returns-in-Some-clause-less
returns-in-Some-clause-less c = omega (arith, ap length c.in-Some.ensures)

pub returns-in-None-clause-fault : goal.returns-in-None-clause-fault
returns-in-None-clause-fault c = absurd (plain_or_mark c.args.text.now c.requires.some c.requires.bare c.requires.no_reference c.in-None.ensures)

pub returns-in-Some-clause-fault : goal.returns-in-Some-clause-fault
returns-in-Some-clause-fault c = tt

pub returns-in-None-clause-ok : goal.returns-in-None-clause-ok
returns-in-None-clause-ok c = tt

pub returns-in-None-clause-less : goal.returns-in-None-clause-less
returns-in-None-clause-less c = tt
