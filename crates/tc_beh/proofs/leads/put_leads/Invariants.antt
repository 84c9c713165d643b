use Rattle.std.proofs.Common.{◌<◌, ℕ, length, get_or}
use Rattle.tc_beh.specs.Leads.{IsLead}
use Rattle.tc_beh.specs.declared.leads.Lead.{Lead}
use Rattle.tc_beh.proofs.leads.put_leads.Given as goal

abbrev pub invariant-loop-state : goal.invariant-loop-state
invariant-loop-state l = (k : ℕ) (d : Lead) → k < length l.leads → k < l.state → IsLead l.rules l.letter k (get_or l.leads k d)
