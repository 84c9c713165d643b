-- The lines of a text, and writes one after the other.
use Rattle.std.proofs.Common.{◌≡◌, ℕ, zero, suc, ◌<◌, ◌+◌, ◌==◌, true, List, [], ◌∷◌, ◌++◌, map, length, take, drop, arith, refl, ◌∙◌, sym, subst, ap, add-one, Option, None, Some, Ok, if◌then◌else◌}
use Rattle.std.specs.Prelude.{slice_index}
use Rattle.std.proofs.lemmas.Bool.{false_from_ne_true}
use Rattle.std.proofs.Math.Nat.{le_refl}
use Rattle.std.proofs.lemmas.List.{map-append, take_all, drop_all}
use Rattle.memchr.specs.Find.{IsFirstByte, is_byte}
use Rattle.tc_io.specs.Sink.{Wrote, Write, AreWrites}
use Rattle.tc_answer.specs.Writing.{begun_with, lines_of, whole}

past_byte : (b : ℕ) (bs : List ℕ) → ((b == 10) ≡ true → ⊥) → lines_of (b ∷ bs) ≡ begun_with b (lines_of bs)
past_byte b bs h = ap (λ t. if t then (b ∷ []) ∷ lines_of bs else begun_with b (lines_of bs)) (false_from_ne_true (b == 10) h)

line_to : (bs : List ℕ) (n : ℕ) → n < length bs → ((k : ℕ) → k < n → (slice_index bs k == 10) ≡ true → ⊥) → (slice_index bs n == 10) ≡ true
    → lines_of bs ≡ take (suc n) bs ∷ lines_of (drop (suc n) bs)
line_to [] n l h at = absurd (omega arith)
line_to (b ∷ bs) zero l h at = ap (λ t. if t then (b ∷ []) ∷ lines_of bs else begun_with b (lines_of bs)) at
line_to (b ∷ bs) (suc n) l h at = past_byte b bs (h 0 (omega arith)) ∙ ap (begun_with b) (line_to bs n (omega arith) (λ k m. h (suc k) (omega arith)) at)

one_line : (b : ℕ) (bs : List ℕ) → ((k : ℕ) → k < length (b ∷ bs) → (slice_index (b ∷ bs) k == 10) ≡ true → ⊥) → lines_of (b ∷ bs) ≡ (b ∷ bs) ∷ []
one_line b [] h = past_byte b [] (h 0 (omega arith))
one_line b (c ∷ bs) h = past_byte b (c ∷ bs) (h 0 (omega arith)) ∙ ap (begun_with b) (one_line c bs (λ k m. h (suc k) (omega arith)))

-- a text with a line feed, cut behind the first one, and a text without
pub first_line : (bs front behind : List ℕ) (r : Option ℕ) (n : ℕ) → IsFirstByte (is_byte 10) bs r → r ≡ Some n → front ≡ take (n + 1) bs → behind ≡ drop (n + 1) bs → lines_of bs ≡ front ∷ lines_of behind
first_line bs front behind r n f is at_front at_behind =
    let g = subst (λ o. IsFirstByte (is_byte 10) bs o) is f in
    let cut = line_to bs n (omega (arith, g.0.high)) (λ k m. g.0.before k (omega arith) m) g.1 in
    cc (cut, at_front, at_behind, add-one n)

pub only_line : (bs front behind : List ℕ) (r : Option ℕ) → (bs ≡ [] → ⊥) → IsFirstByte (is_byte 10) bs r → r ≡ None → front ≡ take (length bs) bs → behind ≡ drop (length bs) bs → lines_of bs ≡ front ∷ lines_of behind
only_line [] front behind r some f is at_front at_behind = absurd (some refl)
only_line (b ∷ bs) front behind r some f is at_front at_behind =
    let g = subst (λ o. IsFirstByte (is_byte 10) (b ∷ bs) o) is f in
    let all = one_line b bs (λ k m. g k (omega arith) m) in
    all ∙ (ap (λ x. x ∷ []) (sym (at_front ∙ take_all (length (b ∷ bs)) (b ∷ bs) (le_refl _))) ∙ ap (λ x. front ∷ lines_of x) (sym (at_behind ∙ drop_all (length (b ∷ bs)) (b ∷ bs) (le_refl _))))

module _ {S : Type 0} (gives : S → List ℕ → Wrote → S → Type 0) where
  -- some writes, and one more
  pub writes_then : (old mid new : S) (writes : List Write) (piece : List ℕ) (came : Wrote) → AreWrites gives old writes mid → gives mid piece came new → AreWrites gives old (writes ++ ((piece, came) ∷ [])) new
  writes_then old mid new [] piece came a g = subst (λ s. AreWrites gives s ((piece, came) ∷ []) new) a (new, g, refl)
  writes_then old mid new (write ∷ writes) piece came a g = (a.0, a.1, writes_then a.0 mid new writes piece came a.2 g)

  -- some pieces that were written whole, and one more
  pub whole_then : (old mid new : S) (pieces : List (List ℕ)) (piece : List ℕ) → AreWrites gives old (map whole pieces) mid → gives mid piece (Ok tt) new → AreWrites gives old (map whole (pieces ++ (piece ∷ []))) new
  whole_then old mid new pieces piece a g = subst (λ w. AreWrites gives old w new) (sym (map-append whole pieces (piece ∷ []))) (writes_then old mid new (map whole pieces) piece (Ok tt) a g)
