use Rattle.tc_rows.specs.Triples.{Triple}
use Rattle.tc_beh.specs.Machines.{IsMachineOf}
use Rattle.tc_verify.specs.Rejects.{IsCause}
use Rattle.tc_verify.specs.Checkers.{view_of}
use Rattle.tc_verify.proofs.Verified.{all_fit, unfit_rejected, lacks, is_certified, is_safe, is_all_live, is_rejected, are_in}
use Rattle.tc_verify.proofs.HandedOn.{not_done}
use Rattle.tc_verify.proofs.checking.verify.Goals as goal

pub returns-in-Some-clause-cause : goal.returns-in-Some-clause-cause
returns-in-Some-clause-cause c =
    λ x is. unfit_rejected x c.shape.result c.args.cert.now (c.shape.ensures x is) c.in-Some.line c.told.result c.told.ensures c.in-Some.ensures

pub new-requires : goal.new-requires
new-requires c = record {
  machine = c.requires.machine;
  formed = c.requires.formed;
  fit = λ x is. all_fit x c.shape.result c.args.cert.now (c.shape.ensures x is) c.in_default.ensures;
}

pub returns-in_err-checker-clause-cause : goal.returns-in_err-checker-clause-cause
returns-in_err-checker-clause-cause c =
    lacks (λ e. (x : Triple) → IsMachineOf x c.args.machine.now → IsCause x c.args.cert.now e) c.from_residual.result c.from_residual.ensures.1 (λ x is. all_fit x c.shape.result c.args.cert.now (c.shape.ensures x is) c.in_default.ensures)

pub returns-in-Ok-clause-certificate : goal.returns-in-Ok-clause-certificate
returns-in-Ok-clause-certificate c =
    is_certified c.args.machine.now c.args.cert.now c.requires.formed (λ x is. all_fit x c.shape.result c.args.cert.now (c.shape.ensures x is) c.in_default.ensures) (view_of c.in_ok-checker.checker) c.in_ok-checker.ensures.machine
    c.in_ok-checker.ensures.hedges c.in_ok-checker.ensures.trees c.in-Ok.ensures.first

pub returns-in-Ok-clause-safe : goal.returns-in-Ok-clause-safe
returns-in-Ok-clause-safe c =
    is_safe c.args.machine.now c.args.cert.now c.requires.formed (λ x is. all_fit x c.shape.result c.args.cert.now (c.shape.ensures x is) c.in_default.ensures) (view_of c.in_ok-checker.checker) c.in_ok-checker.ensures.machine
    c.in_ok-checker.ensures.hedges c.in_ok-checker.ensures.trees c.in-Ok.ensures.first

pub returns-in-Ok-clause-all_live : goal.returns-in-Ok-clause-all_live
returns-in-Ok-clause-all_live c =
    is_all_live c.args.machine.now c.args.cert.now c.requires.formed (λ x is. all_fit x c.shape.result c.args.cert.now (c.shape.ensures x is) c.in_default.ensures) (view_of c.in_ok-checker.checker) c.in_ok-checker.ensures.machine
    c.in_ok-checker.ensures.hedges c.in_ok-checker.ensures.trees c.in-Ok.ensures.first

pub reject_of-requires-clause-places : goal.reject_of-requires-clause-places
reject_of-requires-clause-places c =
    are_in c.args.machine.now c.args.cert.now c.requires.formed (λ x is. all_fit x c.shape.result c.args.cert.now (c.shape.ensures x is) c.in_default.ensures) (view_of c.in_ok-checker.checker) c.in_ok-checker.ensures.machine
    c.in_ok-checker.ensures.hedges c.in_ok-checker.ensures.trees c.requires.machine c.in-Err.broken c.in-Err.ensures.first

pub returns-in-Err-clause-cause : goal.returns-in-Err-clause-cause
returns-in-Err-clause-cause c =
    is_rejected c.args.machine.now c.args.cert.now c.requires.formed (λ x is. all_fit x c.shape.result c.args.cert.now (c.shape.ensures x is) c.in_default.ensures) (view_of c.in_ok-checker.checker) c.in_ok-checker.ensures.machine
    c.in_ok-checker.ensures.hedges c.in_ok-checker.ensures.trees c.in-Err.broken c.reject_of.result c.in-Err.ensures.first c.reject_of.ensures

pub returns-in_err-checker-clause-certificate : goal.returns-in_err-checker-clause-certificate
returns-in_err-checker-clause-certificate c = not_done c.from_residual.result _ _ c.from_residual.ensures.1

pub returns-in_err-checker-clause-safe : goal.returns-in_err-checker-clause-safe
returns-in_err-checker-clause-safe c = not_done c.from_residual.result _ _ c.from_residual.ensures.1

pub returns-in_err-checker-clause-all_live : goal.returns-in_err-checker-clause-all_live
returns-in_err-checker-clause-all_live c = not_done c.from_residual.result _ _ c.from_residual.ensures.1
