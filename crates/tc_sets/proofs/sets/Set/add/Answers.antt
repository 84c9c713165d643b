use Rattle.std.proofs.Common.{◌≡◌, ◌<◌, ◌⊎◌, ◌↔◌, ◌/◌, ◌%◌, ◌^◌, List, ℕ, set, get_or, bit_or, subst, sym, ap, arith}
use Rattle.tc_sets.specs.Numbers.{Numbers, IsSet, Has}
use Rattle.tc_sets.proofs.Bits.{numbers, set_back, added_is_set, added_numbers}
use Rattle.tc_sets.proofs.sets.Set.add.Goals as goal

below : (c : goal.After-self-1) → c.args.number < c.self.inside.n
below c = let e : c.self.inside.n ≡ c.args.self.now.size = ap (λ (s : Numbers). s.size) c.self.view_is in omega (arith, c.requires)

pub invariant_of-self : goal.invariant_of-self
invariant_of-self c =
    let n = c.self.inside.n in
    let kept = c.self.inside.words.items in
    let is = set_back c.self.inside.words.len c.args.number kept c.as_mut_slice.result.now c.set_bit.new.words c.as_mut_slice.ensures.value c.as_mut_slice.ensures.len c.set_bit.auto.words c.set_bit.ensures in
    subst (λ (words : List ℕ). IsSet (numbers n words)) (sym is) (added_is_set n kept c.args.number c.self.invariant (below c))

pub returns-clause-numbers : goal.returns-clause-numbers
returns-clause-numbers c = λ j.
    let n = c.self.inside.n in
    let kept = c.self.inside.words.items in
    let is = set_back c.self.inside.words.len c.args.number kept c.as_mut_slice.result.now c.set_bit.new.words c.as_mut_slice.ensures.value c.as_mut_slice.ensures.len c.set_bit.auto.words c.set_bit.ensures in
    subst (λ (words : List ℕ). Has (numbers n words) j ↔ (Has c.args.self.now j ⊎ (j ≡ c.args.number))) (sym is)
    (subst (λ (old : Numbers). Has (numbers n (set kept (c.args.number / 64) (bit_or (get_or kept (c.args.number / 64) 0) (2 ^ (c.args.number % 64))))) j ↔ (Has old j ⊎ (j ≡ c.args.number))) c.self.view_is (added_numbers n kept c.args.number c.self.invariant (below c) j))
