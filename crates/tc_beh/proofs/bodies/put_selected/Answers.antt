use Rattle.std.proofs.Common.{ap, ◌∙◌}
use Rattle.tc_model.specs.Views as see
use Rattle.tc_rules.specs.Kept.{told}
use Rattle.tc_rules.specs.Views.{mode_of}
use Rattle.tc_rows.specs.Triples.{outputs}
use Rattle.tc_rows.specs.Bodies.{stay}
use Rattle.tc_beh.specs.Places.{kind_of, below_of}
use Rattle.tc_beh.proofs.OpenLaws.{beside_self}
use Rattle.tc_beh.proofs.PutLaws.{put_nothing, put_same}
use Rattle.tc_beh.proofs.Placed.{text_below}
use Rattle.tc_beh.proofs.bodies.put_selected.Goals as goal

pub returns-in-Text-clause-pairs : goal.returns-in-Text-clause-pairs
returns-in-Text-clause-pairs c = λ x is.
    let p = c.args.place.now in
    let out = c.args.sets.now.out in
    let mode = mode_of (told p.rules.now).sheet.modes c.args.job in
    put_same out out (stay x) ((below_of x p).pairs mode (see.path c.args.path.now)) (text_below x p is mode (see.path c.args.path.now) (ap kind_of c.in-Text.is)) (put_nothing out (outputs x) (c.requires.sets.size ∙ is.size))

pub returns-in-Text-clause-same : goal.returns-in-Text-clause-same
returns-in-Text-clause-same c = beside_self c.args.place.now.output.now c.args.place.now.outputs.now c.args.sets.now
