use Rattle.tc_dead.specs.Views.{seen}
use Rattle.tc_decide.specs.Checking.{IsWithinTripleLimits}
use Rattle.tc_decide.specs.DeadSpotsSeen.{IsToldByRows}
use Rattle.tc_decide.specs.MachinesSeen.{IsReadOf}
use Rattle.tc_decide.proofs.MachineLimits.{some_grammar}
use Rattle.tc_decide.proofs.Triples.{of_triple, to_triple}
use Rattle.tc_decide.proofs.Using.{all_told, all_stopped}
use Rattle.tc_decide.proofs.spots.told_within.Goals as goal
use Rattle.tc_model.specs.Views as see
use Rattle.tc_read.proofs.Exits.{err_is}

pub returns-in_err-machine-clause-err : goal.returns-in_err-machine-clause-err
returns-in_err-machine-clause-err c = err_is c.from_residual.result _ _ c.from_residual.ensures.1 c.in_err-machine.ensures.err

pub told_by_rows-requires : goal.told_by_rows-requires
told_by_rows-requires c =
    let (i, read) = some_grammar _ c.requires.marking.input in
    let made = c.in_ok-machine.ensures.ok i read in
    record { machine = (made.triple, made.machine) }

pub returns-clause-ok : goal.returns-clause-ok
returns-clause-ok c =
    let s = see.sheet c.args.marking.now.sheet in
    let p = seen c.args.spot in
    all_told (λ i. IsReadOf i c.args.marking.now.input) s p c.in_ok-machine.ensures.tells c.told_by_rows.result (λ i read.
    let made = c.in_ok-machine.ensures.ok i read in
    of_triple (λ a b z. IsToldByRows a b z c.told_by_rows.result) made.of (c.told_by_rows.ensures made.triple made.machine (to_triple IsWithinTripleLimits made.of made.within_limits)))

pub returns-clause-err : goal.returns-clause-err
returns-clause-err c =
    let s = see.sheet c.args.marking.now.sheet in
    let p = seen c.args.spot in
    all_stopped (λ i. IsReadOf i c.args.marking.now.input) s p c.told_by_rows.result (λ i read.
    let made = c.in_ok-machine.ensures.ok i read in
    of_triple (λ a b z. IsToldByRows a b z c.told_by_rows.result) made.of (c.told_by_rows.ensures made.triple made.machine (to_triple IsWithinTripleLimits made.of made.within_limits)))
