use Rattle.std.proofs.Common.{◌≡◌, ◌⊎◌, ◌↔◌, ◌++◌, List, ℕ, take, drop, length, subst, sym, ap, ◌∙◌}
use Rattle.tc_sets.specs.Numbers.{Numbers, Has}
use Rattle.tc_sets.proofs.Bits.{numbers, join_set, join_has}
use Rattle.tc_sets.proofs.sets.Set.add_all.Goals as goal

same_size : (c : goal.After-self-1) → c.other.inside.n ≡ c.self.inside.n
same_size c = ap (λ (s : Numbers). s.size) c.other.view_is ∙ (c.requires ∙ sym (ap (λ (s : Numbers). s.size) c.self.view_is))

pub invariant_of-self : goal.invariant_of-self
invariant_of-self c = join_set c.self.inside.words.len c.self.inside.n c.other.inside.n c.self.inside.words.items c.as_mut_slice.result.now c.join.new.words c.deref.result.now c.other.inside.words.items c.as_mut_slice.ensures.value c.as_mut_slice.ensures.len c.join.auto.words c.deref.ensures.value (same_size c) c.self.invariant c.other.invariant c.join.ensures

pub returns-clause-numbers : goal.returns-clause-numbers
returns-clause-numbers c = λ j.
    let new : List ℕ = take c.self.inside.words.len (c.join.new.words ++ drop (length c.join.new.words) c.self.inside.words.items) in
    subst (λ (old : Numbers). Has (numbers c.self.inside.n new) j ↔ (Has old j ⊎ Has c.args.other.now j)) c.self.view_is
    (subst (λ (more : Numbers). Has (numbers c.self.inside.n new) j ↔ (Has (numbers c.self.inside.n c.self.inside.words.items) j ⊎ Has more j)) c.other.view_is (join_has c.self.inside.words.len c.self.inside.n c.other.inside.n c.self.inside.words.items c.as_mut_slice.result.now c.join.new.words c.deref.result.now c.other.inside.words.items c.as_mut_slice.ensures.value c.as_mut_slice.ensures.len c.join.auto.words c.deref.ensures.value (same_size c) c.self.invariant c.other.invariant c.join.ensures j))
