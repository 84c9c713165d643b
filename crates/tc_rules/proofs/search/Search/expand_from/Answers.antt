use Rattle.std.proofs.Common.{◌≡◌, ◌<◌, [], Err, List, ℕ, ap, length, subst, arith}
use Rattle.std.proofs.lemmas.List.{length-append, length-map}
use Rattle.std.proofs.lemmas.Option.{get_or_from_slice_get}
use Rattle.std.proofs.lemmas.Result.{err_from_is_err_and}
use Rattle.tc_rules.specs.Reached.{kept_by, leads_from, ArePut, AreMany}
use Rattle.tc_rules.specs.Rows.{words, all_words}
use Rattle.tc_rules.specs.Words.{same_words}
use Rattle.tc_rules.specs.declared.graph.GraphFault.TheVariants.{TooManyStates}
use Rattle.tc_rules.proofs.LeadRows.{words_self}
use Rattle.tc_rules.proofs.Rounds.{expanding_many, expanding_next}
use Rattle.tc_rules.proofs.Searching.{led_more}
use Rattle.tc_rules.proofs.search.Search.expand_from.Goals as goal

pub loop-number-preserved : goal.loop-number-preserved
loop-number-preserved c =
    let old = all_words c.args.found.now.states.keys in
    let now = all_words c.loop-number.found.states.keys in
    let new = all_words c.expand.new.states.keys in
    let i = c.loop-number.number in
    let done = c.in_ok-leads.ensures.done in
    let inside : i < length old = omega (arith, c.loop-number-test.true, c.len-end.ensures.len, length-map c.args.found.now.states.keys words) in
    let within : i < length now = omega (arith, inside, ap length c.loop-number.invariant.0.grown, length-append old c.loop-number.invariant.0.more) in (
      expanding_next same_words words_self (kept_by c.args.self.now.counts) (leads_from c.args.self.now.letters.now) [] old now new c.args.from i inside (λ x e. subst (λ (y : List ℕ). ArePut c.args.self.now.counts now (leads_from c.args.self.now.letters.now y) new) (get_or_from_slice_get now i x [] e) done.0.put) c.loop-number.invariant.0,
      done.0.few,
      led_more c.args.self.now.counts c.args.self.now.letters.now c.loop-number.found _ i _ done.0.put c.in_ok-leads.leads within c.in_ok-push.ensures.items c.loop-number.invariant.2 done.1,
    )

pub returns-in_err-leads-clause-many : goal.returns-in_err-leads-clause-many
returns-in_err-leads-clause-many c = λ e.
    let old = all_words c.args.found.now.states.keys in
    let now = all_words c.loop-number.found.states.keys in
    let i = c.loop-number.number in
    let inside : i < length old = omega (arith, c.loop-number-test.true, c.len-end.ensures.len, length-map c.args.found.now.states.keys words) in
    let p = err_from_is_err_and c.from_residual.result c.from_residual.ensures.1 in
    let same : c.in_err-leads.field-0.0 ≡ TooManyStates = cc in
    let many = c.in_err-leads.ensures.many (ap Err same) in
    expanding_many same_words words_self (kept_by c.args.self.now.counts) (leads_from c.args.self.now.letters.now) [] old now c.args.from i c.args.self.now.most inside (λ x e. subst (λ (y : List ℕ). AreMany c.args.self.now.counts c.args.self.now.most now (leads_from c.args.self.now.letters.now y)) (get_or_from_slice_get now i x [] e) many) c.loop-number.invariant.0
