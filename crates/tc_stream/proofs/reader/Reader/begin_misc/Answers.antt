use Rattle.std.proofs.Common.{◌≡◌, ◌+◌, refl, arith, ap, sym, subst, length}
use Rattle.tc_stream.specs.Reading.{FaultsOn}
use Rattle.tc_stream.proofs.MiscReads.{misc_begun, stray_faults}
use Rattle.tc_stream.proofs.reader.Reader.begin_misc.Goals as goal

pub returns-in-Some-clause-ok : goal.returns-in-Some-clause-ok
returns-in-Some-clause-ok c =
    let place = c.place_of-place.ensures in
    let within = c.requires.within in
    let fits : c.place_of-place.result + length c.args.text.now ≡ c.args.end = omega (arith, place, within) in
    misc_begun c.args.end c.place_of-place.result c.in-Some.ensures c.requires.part c.requires.around c.requires.ready refl c.without_mark-self.ensures refl refl fits

pub returns-in-Some-clause-less : goal.returns-in-Some-clause-less
returns-in-Some-clause-less c = omega (arith, ap length c.in-Some.ensures)

pub returns-in-None-clause-fault : goal.returns-in-None-clause-fault
returns-in-None-clause-fault c =
    let place = c.place_of-place.ensures in
    let within = c.requires.within in
    let fits : c.place_of-place.result + length c.args.text.now ≡ c.args.end = omega (arith, place, within) in
    subst (FaultsOn c.args.self.now c.args.text.now c.args.end) (sym c.malformed.ensures)
    (stray_faults c.args.end c.place_of-place.result refl c.requires.bare c.requires.some c.in-None.ensures c.requires.part c.requires.around c.requires.no_mark fits)

pub returns-in-Some-clause-fault : goal.returns-in-Some-clause-fault
returns-in-Some-clause-fault c = tt

pub returns-in-None-clause-ok : goal.returns-in-None-clause-ok
returns-in-None-clause-ok c = tt

pub returns-in-None-clause-less : goal.returns-in-None-clause-less
returns-in-None-clause-less c = tt
