use Rattle.std.proofs.Common.{◌≡◌, ◌<◌, Err, ap, sym, subst, length, arith}
use Rattle.std.proofs.lemmas.List.{length-map}
use Rattle.std.proofs.lemmas.Result.{err_from_is_err_and}
use Rattle.tc_rules.specs.Reached.{IsLead}
use Rattle.tc_rules.specs.Rows.{words, all_words}
use Rattle.tc_rules.specs.Words.{both_words}
use Rattle.tc_rules.specs.declared.graph.GraphFault.TheVariants.{TooManyStates}
use Rattle.tc_rules.proofs.Searching.{staying_led, staying_many, staying_put}
use Rattle.tc_rules.proofs.search.Search.leads_of_class.Goals as goal

pub returns-then-not-is_empty-clause-done : goal.returns-then-not-is_empty-clause-done
returns-then-not-is_empty-clause-done c =
    let marked = all_words c.args.self.now.letters.now.marked.items in
    let none = sym c.if-is_apart.ensures in
    let any : 0 < length c.args.self.now.letters.now.marked.items = grind (arith, c.is_empty.ensures, c.if-not-is_empty.true) in
    let some : 0 < length marked = omega (arith, any, length-map c.args.self.now.letters.now.marked.items words) in
    let done = c.in_ok-lead.ensures.done in
    let new = all_words c.lead_staying.new.states.keys in
    let lead = c.in_ok-lead.lead in (
      record { put = staying_put c.args.self.now.counts (words c.args.staying.now) (both_words (words c.args.waiting.now) (words c.args.kind.now)) none (all_words c.args.states.now.keys) new marked lead some done.0.put done.1; few = done.0.few },
      staying_led c.args.self.now.counts (words c.args.staying.now) (both_words (words c.args.waiting.now) (words c.args.kind.now)) none new marked lead done.1,
      λ k e. let same : lead ≡ k = cc in subst (λ j. IsLead c.args.self.now.counts new j (words c.args.staying.now)) same done.1,
    )

pub returns-in_err-lead-clause-many : goal.returns-in_err-lead-clause-many
returns-in_err-lead-clause-many c = λ e.
    let marked = all_words c.args.self.now.letters.now.marked.items in
    let none = sym c.if-is_apart.ensures in
    let any : 0 < length c.args.self.now.letters.now.marked.items = grind (arith, c.is_empty.ensures, c.if-not-is_empty.true) in
    let some : 0 < length marked = omega (arith, any, length-map c.args.self.now.letters.now.marked.items words) in
    let p = err_from_is_err_and c.from_residual.result c.from_residual.ensures.1 in
    let same : c.in_err-lead.field-0.0 ≡ TooManyStates = cc in
    staying_many c.args.self.now.counts (words c.args.staying.now) (both_words (words c.args.waiting.now) (words c.args.kind.now)) none c.args.self.now.most (all_words c.args.states.now.keys) marked some (c.in_err-lead.ensures.many (ap Err same))
