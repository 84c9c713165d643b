use Rattle.std.proofs.Common.{◌∙◌}
use Rattle.tc_model.specs.Views as see
use Rattle.tc_rules.specs.Kept.{told}
use Rattle.tc_rules.specs.Views.{mode_of}
use Rattle.tc_rows.specs.Triples.{outputs}
use Rattle.tc_rows.specs.PairSets.{listed}
use Rattle.tc_rows.specs.Rows.{entry}
use Rattle.tc_rows.specs.Bodies.{stay}
use Rattle.tc_beh.specs.Places.{below_of, entries_by}
use Rattle.tc_beh.proofs.OpenLaws.{beside_self}
use Rattle.tc_beh.proofs.PutLaws.{put_nothing, put_same}
use Rattle.tc_beh.proofs.Placed.{none_below, some_below, low_state}
use Rattle.tc_beh.proofs.bodies.put_below.Goals as goal

pub returns-in-None-clause-pairs : goal.returns-in-None-clause-pairs
returns-in-None-clause-pairs c = λ x is.
    let p = c.args.place.now in
    let out = c.args.sets.now.out in
    let mode = mode_of (told p.rules.now).sheet.modes c.args.job in
    let w = see.path c.args.path.now in
    put_same out out (stay x) ((below_of x p).pairs mode w) (none_below x p is c.requires.node mode w (c.in-None.ensures x.symbols is.rules.rules)) (put_nothing out (outputs x) (c.requires.sets.size ∙ is.size))

pub put_entry-requires-clause-state : goal.put_entry-requires-clause-state
put_entry-requires-clause-state c =
    let p = c.args.place.now in
    let (x, is) = c.requires.place in
    low_state x p is c.in-Some.state (mode_of (told p.rules.now).sheet.modes c.args.job) (see.path c.args.path.now) (c.in-Some.ensures x.symbols is.rules.rules)

pub returns-in-Some-clause-pairs : goal.returns-in-Some-clause-pairs
returns-in-Some-clause-pairs c = λ x is.
    let p = c.args.place.now in
    let mode = mode_of (told p.rules.now).sheet.modes c.args.job in
    let w = see.path c.args.path.now in
    put_same c.args.sets.now.out c.put_entry.new.sets.out (listed (entry x (entries_by p.outputs.now.matrices p.entries.now) p.above c.in-Some.state)) ((below_of x p).pairs mode w)
    (some_below x p is c.requires.node mode c.in-Some.state w (c.in-Some.ensures x.symbols is.rules.rules)) (c.put_entry.ensures.pairs x is)

pub returns-in-None-clause-same : goal.returns-in-None-clause-same
returns-in-None-clause-same c = beside_self c.args.place.now.output.now c.args.place.now.outputs.now c.args.sets.now

pub returns-in-Some-clause-same : goal.returns-in-Some-clause-same
returns-in-Some-clause-same c = c.put_entry.ensures.same
