use Rattle.std.proofs.Common.{◌∙◌, sym, ap}
use Rattle.tc_model.specs.Views.{place}
use Rattle.tc_rnc.specs.Views.{syntax}
use Rattle.tc_simple.specs.Places.{maybe_place}
use Rattle.tc_simple.proofs.Checked.{undefined_here, undefined_end}
use Rattle.tc_simple.proofs.resolve.defined_start.Goals as goal

pub returns-in-Some-undefined-clause-err : goal.returns-in-Some-undefined-clause-err
returns-in-Some-undefined-clause-err c =
    (sym c.requires.first ∙ ap maybe_place c.in_default.is, undefined_here (syntax c.args.syntax.now) (place c.in-Some-undefined.place) (c.in-Some-undefined.ensures c.requires))

pub returns-in-None-clause-err : goal.returns-in-None-clause-err
returns-in-None-clause-err c =
    (sym c.requires.first ∙ ap maybe_place c.in_default.is, undefined_end (syntax c.args.syntax.now) c.args.table.now c.requires (c.in_default-undefined.ensures c.requires) c.in-None.ensures)
