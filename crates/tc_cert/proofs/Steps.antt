-- One more piece or row of a list that is written from the front.
use Rattle.std.proofs.Common.{◌≡◌, ◌≤◌, ◌<◌, ◌⊎◌, inl, inr, ℕ, zero, suc, ◌+◌, ◌-◌, get_or, ap, List, ◌++◌, drop, flat_map, Some, slice_get, Result, Ok, Err, IfOk, IfErr, OnOk, IsErrAnd, codes, refl, sym, subst, arith}
use Rattle.tc_cert.specs.declared.text.Text.{Text}
use Rattle.tc_cert.specs.declared.text.CertWriteFault.{CertWriteFault}
use Rattle.tc_cert.specs.declared.faults.CertFault.{CertFault}
use Rattle.tc_cert.specs.declared.faults.PieceFault.{PieceFault}
use Rattle.tc_cert.specs.declared.faults.PieceFault.TheVariants.{Form, NoMemory}
use Rattle.tc_model.specs.CertificateLines.{listed}
use Rattle.tc_cert.specs.Pieces.{IsMissing}
use Rattle.tc_cert.specs.Texts.{ended, rows_in, rows_left}
use Rattle.tc_cert.specs.Standing.{IsNextFault, fault_behind}
use Rattle.tc_cert.specs.Puts.{IsPut, IsCause, IsOn}
use Rattle.tc_cert.proofs.Puts.{both, begun, further, at_first, at_further}
use Rattle.tc_cert.proofs.Loops.{next_piece, first_listed, first_row, next_row}

pub piece_step : {X : Type 0} {s t u : Text} {goal : List ℕ} (f : X → List ℕ) (xs : List X) (i : ℕ) (x : X) → slice_get xs i ≡ Some x
    → IsOn s t (flat_map f (drop i xs)) goal → IsPut t u (f x) → IsOn s u (flat_map f (drop (i + 1) xs)) goal
piece_step f xs i x e o p = further o p (next_piece f xs i x e)

pub piece_cause : {X : Type 0} {s t : Text} {fault : CertWriteFault} {goal : List ℕ} (f : X → List ℕ) (xs : List X) (i : ℕ) (x : X) → slice_get xs i ≡ Some x
    → IsOn s t (flat_map f (drop i xs)) goal → IsCause t (f x) fault → IsCause s goal fault
piece_cause f xs i x e o c = at_further (flat_map f (drop (i + 1) xs)) o (next_piece f xs i x e) c

row_is : {X : Type 0} (later : X → X → List ℕ) (xs : List X) (i : ℕ) (b x : X) → 1 ≤ i → slice_get xs (i - 1) ≡ Some b → slice_get xs i ≡ Some x
    → rows_left later (drop (i - 1) xs) ≡ ended (later b x) ++ rows_left later (drop (i + 1 - 1) xs)
row_is later xs i b x some e d =
    let up : i ≡ suc (i - 1) = omega arith in
    let on : i + 1 - 1 ≡ suc (i - 1) = omega arith in
    rw on (next_row later xs (i - 1) b x e (subst (λ k. slice_get xs k ≡ Some x) up d))

pub row_step : {X : Type 0} {s t u : Text} {goal : List ℕ} (later : X → X → List ℕ) (xs : List X) (i : ℕ) (b x : X) → 1 ≤ i → slice_get xs (i - 1) ≡ Some b → slice_get xs i ≡ Some x
    → IsOn s t (rows_left later (drop (i - 1) xs)) goal → IsPut t u (ended (later b x)) → IsOn s u (rows_left later (drop (i + 1 - 1) xs)) goal
row_step later xs i b x some e d o p = further o p (row_is later xs i b x some e d)

pub row_cause : {X : Type 0} {s t : Text} {fault : CertWriteFault} {goal : List ℕ} (later : X → X → List ℕ) (xs : List X) (i : ℕ) (b x : X) → 1 ≤ i → slice_get xs (i - 1) ≡ Some b → slice_get xs i ≡ Some x
    → IsOn s t (rows_left later (drop (i - 1) xs)) goal → IsCause t (ended (later b x)) fault → IsCause s goal fault
row_cause later xs i b x some e d o c = at_further (rows_left later (drop (i + 1 - 1) xs)) o (row_is later xs i b x some e d) c

-- what is told of a fault is told of the fault that is handed on
pub same_error : {T E : Type 0} (P : E → Type 0) (r : Result T E) (x : E) → IsErrAnd r (λ e. e ≡ x) → P x → IfErr r P
same_error P (Ok v) x h a = tt
same_error P (Err e) x h a = subst P (sym h) a

-- nothing is said of the value of an error, nor of what was done
pub no_value : {T E : Type 0} (r : Result T E) (P : T → Type 0) (Q : E → Type 0) → IsErrAnd r Q → IfOk r P
no_value (Ok v) P Q h = absurd h
no_value (Err e) P Q h = tt

pub not_done : {T E : Type 0} (r : Result T E) (P : Type 0) (Q : E → Type 0) → IsErrAnd r Q → OnOk r P
not_done (Ok v) P Q h = absurd h
not_done (Err e) P Q h = tt

-- what is told of a value is what else it tells
pub value_as : {T E : Type 0} {A B : T → Type 0} (r : Result T E) → ((x : T) → A x → B x) → IfOk r A → IfOk r B
value_as (Ok v) f h = f v h
value_as (Err e) f h = tt

-- no piece is missing where memory is
no_form : (e : PieceFault) → e ≡ NoMemory → e ≡ Form → ⊥
no_form e p q = cc

pub no_memory : {T : Type 0} (A : Type 0) (r : Result T PieceFault) → IsErrAnd r (λ e. e ≡ NoMemory) → IfErr r (IsMissing A)
no_memory A (Ok v) h = tt
no_memory A (Err e) h = λ f p. no_form e h f

-- what is missing at the next line
pub at_next_line : (A : Type 0) (lines : ℕ) (f : PieceFault) (e : CertFault) → e ≡ fault_behind lines f → IsMissing A f → IsNextFault lines A e
at_next_line A lines Form e is h = subst (IsNextFault lines A) (sym is) (refl, h refl)
at_next_line A lines NoMemory e is h = subst (IsNextFault lines A) (sym is) tt

-- the first of a list, and what is written behind it
pub listed_begun : {X : Type 0} {s t : Text} (f : X → List ℕ) (xs : List X) (x : X) → slice_get xs 0 ≡ Some x → IsPut s t (f x) → IsOn s t (flat_map (λ y. codes "," ++ f y) (drop 1 xs)) (listed f xs)
listed_begun f xs x e a = begun a (first_listed f xs x e)

pub listed_cause : {X : Type 0} {s : Text} {fault : CertWriteFault} (f : X → List ℕ) (xs : List X) (x : X) → slice_get xs 0 ≡ Some x → IsCause s (f x) fault → IsCause s (listed f xs) fault
listed_cause {s = s} {fault = fault} f xs x e c = subst (λ l. IsCause s l fault) (first_listed f xs x e) (at_first (flat_map (λ y. codes "," ++ f y) (drop 1 xs)) c)

pub rows_cause : {X : Type 0} {s : Text} {fault : CertWriteFault} (first : X → List ℕ) (later : X → X → List ℕ) (xs : List X) (x : X) → slice_get xs 0 ≡ Some x → IsCause s (ended (first x)) fault → IsCause s (rows_in first later xs) fault
rows_cause {s = s} {fault = fault} first later xs x e c = subst (λ l. IsCause s l fault) (first_row first later xs x e) (at_first (rows_left later xs) c)

pub three : {T : Type 0} {s t u : Text} {p q : List ℕ} (v : Text) (r : List ℕ) (result : Result T CertWriteFault) → IsPut s t p → IsPut t u q → OnOk result (IsPut u v r) → OnOk result (IsPut s v (p ++ (q ++ r)))
three v r (Ok x) a b c = both a (both b c)
three v r (Err e) a b c = tt

pub below_next : (k i : ℕ) → k + 1 < i + 1 → (k + 1 < i) ⊎ (k + 1 ≡ i)
below_next k zero h = absurd (omega arith)
below_next zero (suc zero) h = inr (omega arith)
below_next zero (suc (suc i)) h = inl (omega arith)
below_next (suc k) (suc i) h = by (below_next k i (omega arith))
  where
    by : (k + 1 < i) ⊎ (k + 1 ≡ i) → (suc k + 1 < suc i) ⊎ (suc k + 1 ≡ suc i)
    by (inl a) = inl (omega (arith, a))
    by (inr a) = inr (omega (arith, a))

-- numbers that ascend up to a place ascend up to the next
pub up_to_next : (xs : List ℕ) (i : ℕ) → 1 ≤ i → ((k : ℕ) → k + 1 < i → get_or xs k 0 < get_or xs (k + 1) 0) → get_or xs (i - 1) 0 < get_or xs i 0
    → (k : ℕ) → k + 1 < i + 1 → get_or xs k 0 < get_or xs (k + 1) 0
up_to_next xs i some so_far last k h = by (below_next k i h)
  where
    by : (k + 1 < i) ⊎ (k + 1 ≡ i) → get_or xs k 0 < get_or xs (k + 1) 0
    by (inl a) = so_far k a
    by (inr a) =
        let before : i - 1 ≡ k = omega (arith, a) in
        let one : get_or xs (i - 1) 0 ≡ get_or xs k 0 = ap (λ j. get_or xs j 0) before in
        let other : get_or xs i 0 ≡ get_or xs (k + 1) 0 = ap (λ j. get_or xs j 0) (sym a) in
        omega (arith, last, one, other)

-- a piece is missing where another is that it would give
pub missing_as : {T : Type 0} {A B : Type 0} (r : Result T PieceFault) → (B → A) → IfErr r (IsMissing A) → IfErr r (IsMissing B)
missing_as (Ok x) f h = tt
missing_as (Err e) f h = λ q b. h q (f b)
