use Rattle.std.proofs.Common.{◌≡◌, ◌≤◌, ◌∙◌, Err, ap, drop, length, refl, subst, sym, arith}
use Rattle.std.proofs.lemmas.List.{length-map}
use Rattle.std.proofs.lemmas.Result.{err_from_is_err_and}
use Rattle.tc_rules.specs.Once.{put_all}
use Rattle.tc_rules.specs.Reached.{kept_by, leads_from, leads_of, AreLed}
use Rattle.tc_rules.specs.Rows.{words, all_words}
use Rattle.tc_rules.specs.Words.{same_words}
use Rattle.tc_rules.specs.declared.graph.GraphFault.TheVariants.{TooManyStates}
use Rattle.tc_rules.proofs.LeadRows.{words_self}
use Rattle.tc_rules.proofs.Rounds.{IsSoFar, put_grows, so_far_all, so_far_first, so_far_many, so_far_next}
use Rattle.tc_rules.proofs.search.Search.reached.Goals as goal

pub loop-from-init : goal.loop-from-init
loop-from-init c = record {
  so_far = so_far_first same_words words_self (kept_by c.args.self.now.counts) (leads_from c.args.self.now.letters.now) (words c.args.first) (all_words c.in_ok-found.found.states.keys) c.in_ok-found.ensures.done.0.put;
  few = c.in_ok-found.ensures.done.0.few;
  within = omega arith;
  led = c.in_ok-found.ensures.done.1;
}

pub loop-from-preserved : goal.loop-from-preserved
loop-from-preserved c =
    let xs = all_words c.loop-from.found.states.keys in
    let ys = all_words c.expand_from.new.found.states.keys in
    let done = c.in_ok-expand_from.ensures.done in
    let count : length xs ≡ c.len-end.result = length-map c.loop-from.found.states.keys words ∙ sym c.len-end.ensures.len in
    let grown : length xs ≤ length ys = put_grows same_words xs ys (leads_of same_words (kept_by c.args.self.now.counts) (leads_from c.args.self.now.letters.now) (drop c.loop-from.from xs)) done.0.put in
    record {
      so_far = subst (IsSoFar same_words words_self (kept_by c.args.self.now.counts) (leads_from c.args.self.now.letters.now) (words c.args.first) ys) count (so_far_next same_words words_self (kept_by c.args.self.now.counts) (leads_from c.args.self.now.letters.now) (words c.args.first) xs ys c.loop-from.from done.0.put c.loop-from.invariant.so_far);
      few = done.0.few;
      within = omega (arith, grown, count);
      led = subst (λ n. AreLed c.args.self.now.counts c.args.self.now.letters.now n c.expand_from.new.found) count done.1;
    }

pub returns-clause-done : goal.returns-clause-done
returns-clause-done c =
    let xs = all_words c.loop-from.found.states.keys in
    let past : length xs ≤ c.loop-from.from = omega (arith, c.loop-from-test.false, c.len.ensures.len, length-map c.loop-from.found.states.keys words) in
    let all : c.loop-from.from ≡ length xs = omega (arith, past, c.loop-from.invariant.within) in (
      so_far_all same_words words_self (kept_by c.args.self.now.counts) (leads_from c.args.self.now.letters.now) (words c.args.first) xs c.loop-from.from past c.loop-from.invariant.so_far,
      c.loop-from.invariant.few,
      subst (λ n. AreLed c.args.self.now.counts c.args.self.now.letters.now n c.loop-from.found) all c.loop-from.invariant.led,
    )

pub returns-in_err-expand_from-clause-many : goal.returns-in_err-expand_from-clause-many
returns-in_err-expand_from-clause-many c = λ e.
    let xs = all_words c.loop-from.found.states.keys in
    let ys = put_all same_words xs (leads_of same_words (kept_by c.args.self.now.counts) (leads_from c.args.self.now.letters.now) (drop c.loop-from.from xs)) in
    let p = err_from_is_err_and c.from_residual-in_err-expand_from.result c.from_residual-in_err-expand_from.ensures.1 in
    let same : c.in_err-expand_from.field-0.0 ≡ TooManyStates = cc in
    so_far_many same_words words_self (kept_by c.args.self.now.counts) (leads_from c.args.self.now.letters.now) (words c.args.first) ys (length xs) c.args.self.now.most (c.in_err-expand_from.ensures.many (ap Err same)) (so_far_next same_words words_self (kept_by c.args.self.now.counts) (leads_from c.args.self.now.letters.now) (words c.args.first) xs ys c.loop-from.from refl c.loop-from.invariant.so_far)
