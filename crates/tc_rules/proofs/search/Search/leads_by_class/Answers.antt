use Rattle.std.proofs.Common.{◌≡◌, Err, ap, inl, inr}
use Rattle.std.proofs.lemmas.Result.{err_from_is_err_and}
use Rattle.tc_rules.specs.Reached.{leads_by_set}
use Rattle.tc_rules.specs.Rows.{words, all_words}
use Rattle.tc_rules.specs.Words.{both_words}
use Rattle.tc_rules.specs.declared.graph.GraphFault.TheVariants.{TooManyStates}
use Rattle.tc_rules.proofs.Pieces.{mapped_at}
use Rattle.tc_rules.proofs.RowPairs.{got_at}
use Rattle.tc_rules.proofs.Searching.{class_led, class_many, class_put, lead_kept}
use Rattle.tc_rules.proofs.search.Search.leads_by_class.Goals as goal

pub loop-kind-preserved : goal.loop-kind-preserved
loop-kind-preserved c =
    let kinds = c.args.self.now.letters.now.kinds.keys in
    let i = c.loop-kind.kind-index in
    let row = c.kind-item.result in
    let at = mapped_at words kinds i row (got_at kinds c.as_slice-kind-items.result.now i row c.as_slice-kind-items.ensures.keys c.loop-kind-test.true c.kind-item.is) in
    let done = c.in_ok-leads.ensures.done in
    let new = all_words c.leads_of_class.new.states.keys in (
      record { put = class_put c.args.self.now.counts (words c.args.staying.now) (words c.args.waiting.now) c.args.self.now.letters.now (all_words c.args.states.now.keys) i (words row) (all_words c.loop-kind.states.keys) new at c.loop-kind.invariant.0.put done.0.put; few = done.0.few },
      class_led c.args.self.now.counts (words c.args.staying.now) (words c.args.waiting.now) c.args.self.now.letters.now (all_words c.args.states.now.keys) i (words row) (all_words c.loop-kind.states.keys) new c.loop-kind.found.items c.push.new.self.items c.in_ok-leads.leads at done.0.put c.in_ok-push.ensures.items c.loop-kind.invariant.1 done.1,
      λ j e. elim (c.known_after-known.ensures j e) [
        | inl f ↦ done.2 j f
        | inr f ↦ lead_kept c.args.self.now.counts (all_words c.loop-kind.states.keys) new (leads_by_set (words c.args.staying.now) (both_words (words c.args.waiting.now) (words row)) (all_words c.args.self.now.letters.now.marked.items)) j (words c.args.staying.now) done.0.put (c.loop-kind.invariant.2 j f)
      ],
    )

pub returns-in_err-leads-clause-many : goal.returns-in_err-leads-clause-many
returns-in_err-leads-clause-many c = λ e.
    let kinds = c.args.self.now.letters.now.kinds.keys in
    let i = c.loop-kind.kind-index in
    let row = c.kind-item.result in
    let at = mapped_at words kinds i row (got_at kinds c.as_slice-kind-items.result.now i row c.as_slice-kind-items.ensures.keys c.loop-kind-test.true c.kind-item.is) in
    let p = err_from_is_err_and c.from_residual-in_err-leads.result c.from_residual-in_err-leads.ensures.1 in
    let same : c.in_err-leads.field-0.0 ≡ TooManyStates = cc in
    class_many c.args.self.now.counts (words c.args.staying.now) (words c.args.waiting.now) c.args.self.now.letters.now (all_words c.args.states.now.keys) i c.args.self.now.most (words row) (all_words c.loop-kind.states.keys) at c.loop-kind.invariant.0.put (c.in_err-leads.ensures.many (ap Err same))
