use Rattle.std.proofs.Common.{subst}
use Rattle.tc_dead.specs.Marked.{plain_schema}
use Rattle.tc_dead.specs.Views.{seen}
use Rattle.tc_dead.proofs.Lawful.{lawful_schema}
use Rattle.tc_decide.specs.Checking.{PassesTripleLimit}
use Rattle.tc_decide.specs.MachinesSeen.{IsCauseBy, IsMachineFor}
use Rattle.tc_decide.proofs.SpotsTold.{stops_limit, telling_by}
use Rattle.tc_decide.proofs.spots.machine_of_spot.Goals as goal
use Rattle.tc_model.specs.Sheets.{Sheet}
use Rattle.tc_model.specs.Views as see
use Rattle.tc_read.proofs.Exits.{err_is}

pub machine_of-requires-clause-input : goal.machine_of-requires-clause-input
machine_of-requires-clause-input c = c.requires.marking.input

pub machine_of-requires-clause-output : goal.machine_of-requires-clause-output
machine_of-requires-clause-output c = (plain_schema, c.requires.marking.plain, lawful_schema)

pub machine_of-requires-clause-sheet : goal.machine_of-requires-clause-sheet
machine_of-requires-clause-sheet c = c.in_ok-sheet.ensures.made.1

pub returns-in_err-machine_of-clause-err : goal.returns-in_err-machine_of-clause-err
returns-in_err-machine_of-clause-err c =
    err_is c.from_residual-in_err-machine_of.result _ _ c.from_residual-in_err-machine_of.ensures.1 (λ i read.
    stops_limit i (see.sheet c.args.marking.now.sheet) (seen c.args.spot) c.in_err-machine_of.field-0.0 (subst (λ (z : Sheet). IsCauseBy (PassesTripleLimit i plain_schema z) c.in_err-machine_of.field-0.0) c.in_ok-sheet.ensures.made.0
    (c.in_err-machine_of.ensures.err i plain_schema read c.requires.marking.plain)))

pub returns-clause-tells : goal.returns-clause-tells
returns-clause-tells c =
    telling_by (see.sheet c.args.marking.now.sheet) _ (seen c.args.spot) c.in_ok-sheet.ensures.made.0 c.in_ok-sheet.ensures.made.1 c.in_ok-sheet.ensures.tells

pub returns-clause-ok : goal.returns-clause-ok
returns-clause-ok c = λ i read.
    subst (λ (z : Sheet). IsMachineFor i plain_schema z c.in_ok-machine_of.field-0) c.in_ok-sheet.ensures.made.0 (c.in_ok-machine_of.ensures.ok i plain_schema read c.requires.marking.plain)
