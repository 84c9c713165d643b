-- The first row that fails, row by row.
use Rattle.std.proofs.Common.{◌≡◌, ◌<◌, ◌+◌, inl, inr, ℕ, Bool, false, true, MatchBool, subst, sym, arith}
use Rattle.tc_settle.specs.Held.{Held, SameRows}
use Rattle.tc_settle.specs.Closed.{IsClosure, IsFirstFailing}
use Rattle.tc_settle.specs.declared.closed.Closed.{Closed}
use Rattle.tc_settle.proofs.Going.{grows_twice, low_or_high}
use Rattle.tc_settle.proofs.Kept.{below_or_last}

pub same_twice : (s r q : Held) → SameRows s r → SameRows r q → SameRows s q
same_twice s r q (to, back) (on, off) = (grows_twice to on, grows_twice off back)

-- one more passes
pub passes_more : (s r : Held) (n : ℕ) → SameRows s r → n < s.trees → (fails : Bool) → fails ≡ false → MatchBool fails (r.fails n) (r.passes n) → ((t : ℕ) → t < n → s.passes t) → (t : ℕ) → t < n + 1 → s.passes t
passes_more s r n (to, back) low fails e here before t l =
    let passes = subst (λ b. MatchBool b (r.fails n) (r.passes n)) e here in
    let within : n < r.trees = let m = to.trees in omega (arith, low, m) in
    elim (below_or_last t n (n + 1) (omega arith) l) [ inl few ↦ before t few | inr same ↦ subst s.passes (sym same) (back.passes n within passes) ]

-- and it fails
pub first_fails : (s r : Held) (c : Closed) (n : ℕ) → IsClosure s c → SameRows s r → n < s.trees → (fails : Bool) → fails ≡ true → MatchBool fails (r.fails n) (r.passes n) → ((t : ℕ) → t < n → s.passes t) → IsFirstFailing s c n
first_fails s r c n closure (to, back) low fails e here before =
    let bad = subst (λ b. MatchBool b (r.fails n) (r.passes n)) e here in
    let within : n < r.trees = let m = to.trees in omega (arith, low, m) in
    record {
      held = low;
      fails = back.fails n within bad;
      passed = before;
      least = λ t l worse. elim (low_or_high t n) [ inl few ↦ absurd (closure.exact.fails_or_passes t l worse (before t few)) | inr high ↦ closure.kept.trees_in_order n t high l ];
    }
