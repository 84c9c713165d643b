use Rattle.std.proofs.Common.{◌≡◌, ◌∙◌, ◌++◌, length, ap, arith}
use Rattle.tc_cert.specs.Readings.{IsNotUpgraded, upgrade_fault}
use Rattle.tc_cert.proofs.Steps.{same_error, no_value}
use Rattle.tc_cert.proofs.Upgrades.{own_of, not_read}
use Rattle.tc_cert.proofs.upgrading.own.Goals as goal

pub returns-in_err-first_unfit-clause-fault : goal.returns-in_err-first_unfit-clause-fault
returns-in_err-first_unfit-clause-fault c =
    same_error (λ e. IsNotUpgraded c.args.text.now e) c.from_residual.result (upgrade_fault c.in_err-first_unfit.field-0.0) c.from_residual.ensures.1 (not_read c.args.text.now c.in_err-first_unfit.field-0.0 c.in_err-first_unfit.ensures.fault)

pub returns-clause-ok : goal.returns-clause-ok
returns-clause-ok c =
    let same : c.extend_from_slice.new.self.items ≡ c.args.text.now = c.in_ok-extend_from_slice.ensures.items ∙ ap (λ l. l ++ c.args.text.now) c.new-out.ensures.items in
    record {
      held = c.in_ok-first_unfit.ensures.ok.0;
      means = c.in_ok-first_unfit.ensures.ok.1;
      spelled = same ∙ own_of c.args.text.now c.in_ok-first_unfit.ensures.ok.0 c.requires.begins c.in_ok-first_unfit.ensures.ok.1;
      within = omega (arith, ap length same, c.requires.short);
    }

pub returns-in_err-first_unfit-clause-ok : goal.returns-in_err-first_unfit-clause-ok
returns-in_err-first_unfit-clause-ok c = no_value c.from_residual.result _ _ c.from_residual.ensures.1

pub returns-in_err-extend_from_slice-clause-ok : goal.returns-in_err-extend_from_slice-clause-ok
returns-in_err-extend_from_slice-clause-ok c = no_value c.from_residual-in_err-extend_from_slice.result _ _ c.from_residual-in_err-extend_from_slice.ensures.1
