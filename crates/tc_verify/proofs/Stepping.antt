-- One more place where a rule holds, and that all places were gone through.
use Rattle.std.proofs.Common.{◌≡◌, ◌<◌, ◌≤◌, ◌+◌, ◌⊎◌, inl, inr, ℕ, length, subst, sym, arith}
use Rattle.tc_verify.specs.Listings.{Listing}
use Rattle.tc_verify.specs.Firsts.{symbols}

below_or : (a b : ℕ) → (a < b) ⊎ (b ≤ a)
below_or a b = grind arith

pub one_more_holds : (P : ℕ → Type 0) (i : ℕ) → ((k : ℕ) → k < i → P k) → P i → (k : ℕ) → k < i + 1 → P k
one_more_holds P i all here k low = elim (below_or k i) [ inl l ↦ all k l | inr h ↦ subst P (omega (arith, h, low)) here ]

-- the end that was counted is that of all
ended : (m n k : ℕ) → n ≡ m → n ≤ k → (j : ℕ) → j < m → j < k
ended m n k e h j low = omega (arith, e, h, low)

pub all_trees : (a b : Listing) (n k : ℕ) → a ≡ b → n ≡ length a.trees → n ≤ k → (j : ℕ) → j < length b.trees → j < k
all_trees a b n k same e h j low = ended (length a.trees) n k e h j (subst (λ (l : Listing). j < length l.trees) (sym same) low)

pub all_symbols : (a b : Listing) (n k : ℕ) → a ≡ b → n ≡ symbols a → n ≤ k → (j : ℕ) → j < symbols b → j < k
all_symbols a b n k same e h j low = ended (symbols a) n k e h j (subst (λ (l : Listing). j < symbols l) (sym same) low)
