-- One piece of a list, and one number of several.
use Rattle.std.proofs.Common.{◌≡◌, ℕ, List, [], ◌++◌, ap, ◌∙◌, sym, max, append_assoc, Result, Ok, Err, IfOk, OnOk, IsErrAnd, arith}
use Rattle.std.proofs.lemmas.List.{append-nil}

-- what follows from a result that is `Ok`
pub then_on_ok : {T E : Type 0} (r : Result T E) (P Q : Type 0) → (P → Q) → OnOk r P → OnOk r Q
then_on_ok (Ok x) P Q f h = f h
then_on_ok (Err e) P Q f h = h

-- nothing is said of the value of an error, nor of what was done
pub no_value : {T E : Type 0} (r : Result T E) (P : T → Type 0) (Q : E → Type 0) → IsErrAnd r Q → IfOk r P
no_value (Ok v) P Q h = absurd h
no_value (Err e) P Q h = tt

pub not_done : {T E : Type 0} (r : Result T E) (P : Type 0) (Q : E → Type 0) → IsErrAnd r Q → OnOk r P
not_done (Ok v) P Q h = absurd h
not_done (Err e) P Q h = tt

-- one piece, and then the rest
pub after_one : {X : Type 0} (old new piece rest whole : List X) → new ≡ old ++ piece → whole ≡ piece ++ rest → new ++ rest ≡ old ++ whole
after_one old new piece rest whole put is = ap (λ l. l ++ rest) put ∙ (append_assoc old piece rest ∙ ap (λ l. old ++ l) (sym is))

-- nothing is left
pub ended : {X : Type 0} (old left whole : List X) → old ++ left ≡ whole → left ≡ [] → old ≡ whole
ended old left whole so_far none = sym (append-nil old) ∙ (ap (λ l. old ++ l) (sym none) ∙ so_far)

pub max_assoc : (a b c : ℕ) → max (max a b) c ≡ max a (max b c)
max_assoc a b c = omega arith

-- the greatest so far, once one more was looked at
pub greater : (most here left rest whole : ℕ) → left ≡ max here rest → max most left ≡ whole → max (max most here) rest ≡ whole
greater most here left rest whole front so_far = max_assoc most here rest ∙ (ap (max most) (sym front) ∙ so_far)
