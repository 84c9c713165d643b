use Rattle.std.proofs.Common.{◌<◌, ◌≤◌, ◌∙◌, ap, sym, subst, length, List, ℕ, get_or}
use Rattle.std.proofs.lemmas.List.{drop_all}
use Rattle.tc_rules.specs.Words.{are_zero}
use Rattle.tc_rules.proofs.RowLoops.{zero_goes, zero_later, zero_never}
use Rattle.tc_rules.proofs.rows.Row.is_empty.Goals as goal

pub loop-word-preserved : goal.loop-word-preserved
loop-word-preserved c =
    let xs = c.args.self.now.words.items in
    let k = c.loop-word.word-index in
    let l : k < length xs = subst (λ (w : List ℕ). k < length w) c.deref-word-items.ensures.value c.loop-word-test.true in
    zero_later _ _ _ (ap (λ (w : List ℕ). get_or w k 0) (sym c.deref-word-items.ensures.value) ∙ c.if-word-ne0.false) (zero_goes xs k l _ c.loop-word.invariant)

pub returns-then-word-ne0 : goal.returns-then-word-ne0
returns-then-word-ne0 c =
    let xs = c.args.self.now.words.items in
    let k = c.loop-word.word-index in
    let l : k < length xs = subst (λ (w : List ℕ). k < length w) c.deref-word-items.ensures.value c.loop-word-test.true in
    zero_never _ _ _ (λ e. c.if-word-ne0.true (ap (λ (w : List ℕ). get_or w k 0) c.deref-word-items.ensures.value ∙ e)) (zero_goes xs k l _ c.loop-word.invariant)

pub returns : goal.returns
returns c =
    let xs = c.args.self.now.words.items in
    let k = c.loop-word.word-index in
    let past : length xs ≤ k = subst (λ (w : List ℕ). length w ≤ k) c.deref-word-items.ensures.value c.loop-word-test.false in
    sym (c.loop-word.invariant ∙ ap are_zero (drop_all k xs past))
