use Rattle.std.proofs.Common.{◌≢◌, ℕ, ◌+◌, ◌<◌, ◌≤◌, All, List, [], drop, get_or, length, subst, sym}
use Rattle.std.proofs.lemmas.List.{drop_all, drop_more}
use Rattle.std.proofs.lemmas.List.Elements.{All-cons, All-from_recursion}
use Rattle.tc_sheet.proofs.attributes.has_brace.Goals as goal

abbrev HasNone : List ℕ → Type 0
HasNone bs = All (λ b. b ≢ 0x7B) bs

-- one step of the loop over bytes, and its end
more : (bs : List ℕ) (k d : ℕ) {T : Type 0} → k < length bs → get_or bs k d ≢ 0x7B → (HasNone (drop k bs) → T) → HasNone (drop (k + 1) bs) → T
more bs k d lt n f a = f (subst HasNone (sym (drop_more bs k d lt)) (All-cons (λ b. b ≢ 0x7B) (get_or bs k d) (drop (k + 1) bs) n a))

ends : (bs : List ℕ) (k : ℕ) {T : Type 0} → length bs ≤ k → (HasNone (drop k bs) → T) → T
ends bs k h f = f (subst HasNone (sym (drop_all k bs h)) (All-from_recursion (λ b. b ≢ 0x7B) [] tt))

pub loop-byte-preserved : goal.loop-byte-preserved
loop-byte-preserved c = more _ c.loop-byte.byte-index _ c.loop-byte-test.true c.if-byte-eq123.false c.loop-byte.invariant

pub returns : goal.returns
returns c = ends _ c.loop-byte.byte-index c.loop-byte-test.false c.loop-byte.invariant
