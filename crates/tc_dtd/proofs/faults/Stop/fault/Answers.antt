use Rattle.std.proofs.Common.{◌≡◌, ℕ, ◌-◌, ◌∙◌, ap, sym}
use Rattle.tc_base.specs.declared.Place.{Place}
use Rattle.tc_base.specs.declared.reasons.Why.{Why}
use Rattle.tc_dtd.specs.Faults.{fault_of}
use Rattle.tc_dtd.specs.declared.faults.DtdFault.TheVariants as faults
use Rattle.tc_dtd.specs.declared.faults.Stop.TheVariants as stops
use Rattle.tc_dtd.proofs.faults.Stop.fault.Goals as goal

unsupported_at : (total left : ℕ) (why : Why) (p : Place) → p.0 ≡ total - left → faults.Unsupported p why ≡ fault_of total (stops.Unsupported left why)
unsupported_at total left why p e = ap (λ (n : ℕ). faults.Unsupported (record { 0 = n }) why) e

pub returns-in-Unsupported : goal.returns-in-Unsupported
returns-in-Unsupported c = unsupported_at c.args.total _ _ c.place_of-in-Unsupported.result c.place_of-in-Unsupported.ensures ∙ sym (ap (fault_of c.args.total) c.in-Unsupported.is)
