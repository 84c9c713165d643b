use Rattle.std.proofs.Common.{ℕ, List, ◌++◌, length, take, drop, ap, sym, subst, ◌∙◌}
use Rattle.tc_sets.specs.Numbers.{Numbers, IsSet}
use Rattle.tc_sets.proofs.Bits.{numbers, none_in_zeros, zeros_are, zeros_are_set, written_back}
use Rattle.tc_sets.proofs.sets.Set.clear.Goals as goal

pub returns-clause-size : goal.returns-clause-size
returns-clause-size c = ap (λ (s : Numbers). s.size) c.self.view_is

pub returns-clause-numbers : goal.returns-clause-numbers
returns-clause-numbers c =
    let kept = c.self.inside.words.items in
    let new = c.fill.new.self in
    let len = c.self.inside.words.len in
    let lent = c.as_mut_slice.ensures in
    let whole = take len (new ++ drop (length new) kept) in
    none_in_zeros whole c.self.inside.n (zeros_are (length c.as_mut_slice.result.now) whole
    (written_back kept new len (sym lent.len ∙ ap length lent.value) (c.fill.ensures.len ∙ ap length lent.value) ∙ c.fill.ensures.after (λ y e. e)))

pub invariant_of-self : goal.invariant_of-self
invariant_of-self c =
    let kept = c.self.inside.words.items in
    let new = c.fill.new.self in
    let len = c.self.inside.words.len in
    let lent = c.as_mut_slice.ensures in
    let n = c.self.inside.n in
    let size = c.fill.ensures.len ∙ ap length lent.value in
    subst (λ (ws : List ℕ). IsSet (numbers n ws)) (sym (written_back kept new len (sym lent.len ∙ ap length lent.value) size))
    (zeros_are_set n new (size ∙ c.self.invariant.whole) (zeros_are (length c.as_mut_slice.result.now) new (c.fill.ensures.after (λ y e. e))))
