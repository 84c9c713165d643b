use Rattle.std.proofs.Common.{◌≡◌, ◌∙◌, None, Some, refl, sym}
use Rattle.std.proofs.lemmas.Option.{slice_get_past}
use Rattle.tc_rules.proofs.RowPairs.{got_at}
use Rattle.tc_rules.proofs.graph.lead_at.Goals as goal

pub returns-in-Some : goal.returns-in-Some
returns-in-Some c = λ j e.
    let leads = c.args.leads.now in
    let lead = c.in-Some.lead.now in
    let at = c.in-Some.ensures.lookup in
    let same : Some lead ≡ Some j = sym (got_at leads leads c.args.marks lead refl at.3.0 at.1) ∙ e in
    cc

pub returns-in-None : goal.returns-in-None
returns-in-None c = λ j e.
    let no : None ≡ Some j = sym (slice_get_past c.args.leads.now c.args.marks c.in-None.ensures.lookup.3) ∙ e in
    absurd (cc)
