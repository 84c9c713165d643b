-- What is put out one after the other.
use Rattle.std.proofs.Common.{◌≡◌, refl, ap, ℕ, ◌+◌, max, arith}
use Rattle.tc_model.specs.Trees.{Trees, none, text, element, beside}
use Rattle.tc_model.specs.Outcomes.{Outcome, nothing, join}

pub beside_none : (h : Trees) → beside h none ≡ h
beside_none none = refl
beside_none (text s rest) = ap (text s) (beside_none rest)
beside_none (element n kids rest) = ap (element n kids) (beside_none rest)

pub beside_assoc : (a b c : Trees) → beside (beside a b) c ≡ beside a (beside b c)
beside_assoc none b c = refl
beside_assoc (text s rest) b c = ap (text s) (beside_assoc rest b c)
beside_assoc (element n kids rest) b c = ap (element n kids) (beside_assoc rest b c)

max_none : (a : ℕ) → max a 0 ≡ a
max_none a = grind arith

max_assoc : (a b c : ℕ) → max (max a b) c ≡ max a (max b c)
max_assoc a b c = grind arith

add_none : (a : ℕ) → a + 0 ≡ a
add_none a = omega arith

add_assoc : (a b c : ℕ) → a + b + c ≡ a + (b + c)
add_assoc a b c = omega arith

none_add : (a : ℕ) → 0 + a ≡ a
none_add a = omega arith

none_max : (a : ℕ) → max 0 a ≡ a
none_max a = grind arith

pub join_none : (a : Outcome) → join a nothing ≡ a
join_none a = λ i. record { out = beside_none a.out i; work = add_none a.work i; nesting = max_none a.nesting i }

pub none_join : (a : Outcome) → join nothing a ≡ a
none_join a = λ i. record { out = a.out; work = none_add a.work i; nesting = none_max a.nesting i }

pub join_assoc : (a b c : Outcome) → join (join a b) c ≡ join a (join b c)
join_assoc a b c = λ i. record { out = beside_assoc a.out b.out c.out i; work = add_assoc a.work b.work c.work i; nesting = max_assoc a.nesting b.nesting c.nesting i }
