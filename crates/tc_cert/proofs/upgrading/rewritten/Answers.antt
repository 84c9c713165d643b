use Rattle.tc_cert.specs.Readings.{IsNotUpgraded, upgrade_fault, write_fault}
use Rattle.tc_cert.proofs.Steps.{same_error}
use Rattle.tc_cert.proofs.Upgrades.{not_read, not_written}
use Rattle.tc_cert.proofs.upgrading.rewritten.Goals as goal

pub returns-in_err-cert-clause-fault : goal.returns-in_err-cert-clause-fault
returns-in_err-cert-clause-fault c =
    same_error (λ e. IsNotUpgraded c.args.text.now e) c.from_residual.result (upgrade_fault c.in_err-cert.field-0.0) c.from_residual.ensures.1 (not_read c.args.text.now c.in_err-cert.field-0.0 c.in_err-cert.ensures.fault)

pub returns-in_err-write_cert-clause-fault : goal.returns-in_err-write_cert-clause-fault
returns-in_err-write_cert-clause-fault c =
    same_error (λ e. IsNotUpgraded c.args.text.now e) c.from_residual-in_err-write_cert.result (write_fault c.in_err-write_cert.field-0.0) c.from_residual-in_err-write_cert.ensures.1
    (not_written c.args.text.now c.in_ok-cert.cert c.in_err-write_cert.field-0.0 c.in_ok-cert.ensures.ok c.in_err-write_cert.ensures.long)

pub returns-clause-ok : goal.returns-clause-ok
returns-clause-ok c = record { held = c.in_ok-cert.cert; means = c.in_ok-cert.ensures.ok; spelled = c.in_ok-write_cert.ensures.text; within = c.in_ok-write_cert.ensures.within }
