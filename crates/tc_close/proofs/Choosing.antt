-- What there is for each number is chosen into a list.
use Rattle.std.proofs.Common.{◌≡◌, ◌<◌, ℕ, zero, suc, List, [], ◌∷◌, refl, ap, length, Some, slice_get, arith}

-- a list of what there is for each number
pub record Chosen {A : Type 0} (P : ℕ → A → Type 0) (n : ℕ) : Type 0 where
  pub all : List A
  pub count : length all ≡ n
  pub each : (i : ℕ) → i < n → (a : A) × (slice_get all i ≡ Some a) × P i a

pub choose_each : {A : Type 0} (P : ℕ → A → Type 0) (n : ℕ) → ((i : ℕ) → i < n → (a : A) × P i a) → Chosen P n
choose_each P zero f = record { all = []; count = refl; each = λ i l. absurd (omega (arith, l)) }
choose_each P (suc n) f =
    let (a, p) = f 0 (omega arith) in
    let more = choose_each (λ i. P (suc i)) n (λ i l. f (suc i) (omega (arith, l))) in
    let each : (i : ℕ) → i < suc n → (b : _) × (slice_get (a ∷ more.all) i ≡ Some b) × P i b = elim [ zero ↦ λ l. (a, refl, p) | suc i ↦ λ l. more.each i (omega (arith, l)) ] in
    record { all = a ∷ more.all; count = ap suc more.count; each = each }
