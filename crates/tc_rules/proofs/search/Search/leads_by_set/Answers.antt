use Rattle.std.proofs.Common.{◌≡◌, ◌∙◌, [], Err, List, Option, ℕ, ap, sym, subst, get_or, slice_get}
use Rattle.std.proofs.lemmas.Result.{err_from_is_err_and}
use Rattle.tc_rules.specs.Rows.{words, all_words}
use Rattle.tc_rules.specs.Words.{both_words}
use Rattle.tc_rules.specs.declared.graph.GraphFault.TheVariants.{TooManyStates}
use Rattle.tc_rules.specs.declared.rows.Row.{Row}
use Rattle.tc_rules.proofs.Pieces.{mapped_at}
use Rattle.tc_rules.proofs.RowPairs.{got_at}
use Rattle.tc_rules.proofs.Searching.{set_known, set_led, set_many, set_put}
use Rattle.tc_rules.proofs.search.Search.leads_by_set.Goals as goal

pub lead-requires-clause-known : goal.lead-requires-clause-known
lead-requires-clause-known c = λ k e.
    let marked = c.args.self.now.letters.now.marked.items in
    let i = c.loop-number.number in
    let row = c.marks-item.result in
    let at = mapped_at words marked i row (got_at marked c.deref-marks-items.result.now i row c.deref-marks-items.ensures.value c.loop-number-test.true c.marks-item.is) in
    let before = c.first_alike-before.result in
    let same = subst (λ (w : List Row). both_words (words c.args.moving.now) (get_or (all_words w) before []) ≡ both_words (words c.args.moving.now) (get_or (all_words w) i [])) c.deref-in-loop-number.ensures.value c.first_alike-before.ensures.alike in
    set_known c.args.self.now.counts (words c.args.staying.now) (words c.args.moving.now) (all_words c.args.states.now.keys) (all_words marked) i (words row) (all_words c.loop-number.states.keys) c.loop-number.leads.items k before at same c.loop-number.invariant.1
    (ap (λ (w : List (Option ℕ)). slice_get w before) (sym c.deref-in-loop-number-2.ensures.value) ∙ (sym c.known_at-known.ensures ∙ e))

pub loop-number-preserved : goal.loop-number-preserved
loop-number-preserved c =
    let marked = c.args.self.now.letters.now.marked.items in
    let i = c.loop-number.number in
    let row = c.marks-item.result in
    let at = mapped_at words marked i row (got_at marked c.deref-marks-items.result.now i row c.deref-marks-items.ensures.value c.loop-number-test.true c.marks-item.is) in
    let done = c.in_ok-lead.ensures.done in
    let new = all_words c.lead.new.states.keys in (
      record { put = set_put c.args.self.now.counts (words c.args.staying.now) (words c.args.moving.now) (all_words c.args.states.now.keys) (all_words marked) i (words row) (all_words c.loop-number.states.keys) new at c.loop-number.invariant.0.put done.0.put; few = done.0.few },
      set_led c.args.self.now.counts (words c.args.staying.now) (words c.args.moving.now) (all_words c.args.states.now.keys) (all_words marked) i (words row) (all_words c.loop-number.states.keys) new c.loop-number.leads.items c.push.new.self.items c.in_ok-lead.lead at done.0.put c.in_ok-push.ensures.items c.loop-number.invariant.1 done.1,
    )

pub returns-in_err-lead-clause-many : goal.returns-in_err-lead-clause-many
returns-in_err-lead-clause-many c = λ e.
    let marked = c.args.self.now.letters.now.marked.items in
    let i = c.loop-number.number in
    let row = c.marks-item.result in
    let at = mapped_at words marked i row (got_at marked c.deref-marks-items.result.now i row c.deref-marks-items.ensures.value c.loop-number-test.true c.marks-item.is) in
    let p = err_from_is_err_and c.from_residual-in_err-lead.result c.from_residual-in_err-lead.ensures.1 in
    let same : c.in_err-lead.field-0.0 ≡ TooManyStates = cc in
    set_many c.args.self.now.counts (words c.args.staying.now) (words c.args.moving.now) (all_words c.args.states.now.keys) (all_words marked) i c.args.self.now.most (words row) (all_words c.loop-number.states.keys) at c.loop-number.invariant.0.put (c.in_err-lead.ensures.many (ap Err same))
