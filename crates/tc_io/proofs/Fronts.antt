-- What several writes wrote together, and when the counts of several calls rose.
use Rattle.std.proofs.Common.{◌≤◌, ℕ, List, [], ◌++◌, sym, ap, ◌∙◌, refl, subst, take, drop, take-append-drop, append_assoc, append-nil, Option, None, Some, Result, Ok, Err, OnErr, OnOk, IsErrAnd, is_err, ◌≡◌, true, false, arith, inl, inr}
use Rattle.std.proofs.lemmas.Bool.{cases_lt}
use Rattle.tc_io.specs.Faults.{Rose}
use Rattle.tc_io.specs.Sink.{Appended, WroteFront}

-- nothing appended
pub appended_nothing : (old : Option (List ℕ)) → Appended old old []
appended_nothing None = refl
appended_nothing (Some bytes) = ap Some (sym (append-nil bytes))

-- one piece, and then another
pub appended_twice : (old mid new : Option (List ℕ)) (a b : List ℕ) → Appended old mid a → Appended mid new b → Appended old new (a ++ b)
appended_twice None mid new a b p q = subst (λ m. Appended m new b) p q
appended_twice (Some bytes) mid new a b p q = subst (λ m. Appended m new b) p q ∙ ap Some (append_assoc bytes a b)

-- a whole piece is a front of itself
pub whole_front : (old new : Option (List ℕ)) (a : List ℕ) → Appended old new a → WroteFront old new a
whole_front old new a p = record { front = a; rest = []; parts = append-nil a; appended = p }

-- nothing is a front of all
pub no_front : (old : Option (List ℕ)) (a : List ℕ) → WroteFront old old a
no_front old a = record { front = []; rest = a; parts = refl; appended = appended_nothing old }

-- the first bytes of a piece
pub cut_front : (old new : Option (List ℕ)) (piece : List ℕ) (n : ℕ) → Appended old new (take n piece) → WroteFront old new piece
cut_front old new piece n p = record { front = take n piece; rest = drop n piece; parts = take-append-drop n piece; appended = p }

-- a front of the first piece is one of both
pub first_front : (old new : Option (List ℕ)) (a b : List ℕ) → WroteFront old new a → WroteFront old new (a ++ b)
first_front old new a b w = record { front = w.front; rest = w.rest ++ b; parts = sym (append_assoc w.front w.rest b) ∙ ap (λ x. x ++ b) w.parts; appended = w.appended }

-- the first piece, and then a front of the next, are a front of both
pub next_front : (old mid new : Option (List ℕ)) (a b : List ℕ) → Appended old mid a → WroteFront mid new b → WroteFront old new (a ++ b)
next_front old mid new a b p w = record { front = a ++ w.front; rest = w.rest; parts = append_assoc a w.front w.rest ∙ ap (λ x. a ++ x) w.parts; appended = appended_twice old mid new a w.front p w.appended }

-- a fact that holds anyway holds on an error
pub on_err : {T E : Type 0} {P : Type 0} (r : Result T E) → P → OnErr r P
on_err (Ok x) p = tt
on_err (Err e) p = p

pub on_ok : {T E : Type 0} {P : Type 0} (r : Result T E) → P → OnOk r P
on_ok (Ok x) p = p
on_ok (Err e) p = tt

-- an error says nothing of what succeeds
pub error_not_ok : {T E : Type 0} (r : Result T E) (P : Type 0) (Q : E → Type 0) → IsErrAnd r Q → OnOk r P
error_not_ok (Ok x) P Q h = absurd h
error_not_ok (Err e) P Q h = tt

pub error_says_nothing : {T E : Type 0} (r : Result T E) (P : Type 0) → is_err r ≡ true → OnOk r P
error_says_nothing (Ok x) P h = absurd (cc h)
error_says_nothing (Err e) P h = tt

pub success_says_nothing : {T E : Type 0} (r : Result T E) (P : Type 0) → is_err r ≡ false → OnErr r P
success_says_nothing (Ok x) P h = tt
success_says_nothing (Err e) P h = absurd (cc h)

pub on_err_map : {T E : Type 0} {P Q : Type 0} (r : Result T E) → (P → Q) → OnErr r P → OnErr r Q
on_err_map (Ok x) f p = tt
on_err_map (Err e) f p = f p

pub on_ok_map : {T E : Type 0} {P Q : Type 0} (r : Result T E) → (P → Q) → OnOk r P → OnOk r Q
on_ok_map (Ok x) f p = f p
on_ok_map (Err e) f p = tt

-- a count that rose and fell nowhere afterwards rose over all
pub rose_then : (old mid new : ℕ) → old ≤ mid → Rose old mid → mid ≤ new → Rose old new
rose_then old mid new p (inl q) r = inl (omega arith)
rose_then old mid new p (inr q) r = elim (cases_lt old new) [ inl below ↦ inl below | inr above ↦ inr (omega arith) ]

-- a count that fell nowhere before and then rose
pub then_rose : (old mid new : ℕ) → old ≤ mid → Rose mid new → Rose old new
then_rose old mid new p (inl q) = inl (omega arith)
then_rose old mid new p (inr q) = inr q
