use Rattle.std.proofs.Common.{◌≡◌, ℕ, ap, refl, length, replicate, ◌∙◌}
use Rattle.std.proofs.lemmas.List.{length-replicate}
use Rattle.tc_sets.proofs.Bits.{none_in_zeros, zeros_are, zeros_are_set, error_no_value}
use Rattle.tc_sets.proofs.sets.Set.empty.Goals as goal

pub returns-in_err-words-clause-size : goal.returns-in_err-words-clause-size
returns-in_err-words-clause-size c = error_no_value c.from_residual.result _ _ c.from_residual.ensures.1

pub returns-in_err-words-clause-numbers : goal.returns-in_err-words-clause-numbers
returns-in_err-words-clause-numbers c = error_no_value c.from_residual.result _ _ c.from_residual.ensures.1

pub returns-clause-size : goal.returns-clause-size
returns-clause-size c = refl

pub returns-clause-numbers : goal.returns-clause-numbers
returns-clause-numbers c =
    let items = c.in_ok-words.words.items in
    none_in_zeros items c.args.n (zeros_are c.words_for.result items (c.in_ok-words.ensures.items_if_clones_equal (λ y e. e)))

pub invariant_of-result : goal.invariant_of-result
invariant_of-result c =
    let items = c.in_ok-words.words.items in
    let zeros : items ≡ replicate c.words_for.result 0 = c.in_ok-words.ensures.items_if_clones_equal (λ y e. e) in
    zeros_are_set c.args.n items (ap length zeros ∙ (length-replicate {A = ℕ} c.words_for.result 0 ∙ c.words_for.ensures)) (zeros_are c.words_for.result items zeros)
