use Rattle.std.proofs.Common.{◌<◌, ◌+◌, ℕ, List, length, get_or, subst, sym, arith}
use Rattle.tc_beh.specs.Leads.{IsLead}
use Rattle.tc_beh.specs.declared.leads.Lead.{Lead}
use Rattle.tc_beh.proofs.Led.{leads_put}
use Rattle.tc_beh.proofs.leads.put_leads.Goals as goal
use Rattle.tc_beh.proofs.leads.put_leads.Goals.{then-state-leads, else-state-leads}

pub loop-state-preserved : goal.loop-state-preserved
loop-state-preserved c =
    let r = c.args.rules.now in
    let l = c.args.letter in
    let s = c.loop-state.state in
    elim c.if-state-leads.branch [
      | then-state-leads w ↦ subst (λ (vs : List Lead). (k : ℕ) (d : Lead) → k < length vs → k < s + 1 → IsLead r l k (get_or vs k d)) (sym w.leads-is)
          (leads_put r l c.loop-state.leads s w.lead_of.result c.loop-state.invariant w.lead_of.ensures)
      | else-state-leads w ↦ subst (λ (vs : List Lead). (k : ℕ) (d : Lead) → k < length vs → k < s + 1 → IsLead r l k (get_or vs k d)) (sym w.leads-is)
          (λ k d low next. let past = w.if-state-leads.false in c.loop-state.invariant k d low (omega (arith, low, next, past)))
    ]
