-- What is left of lists that are written from the front.
use Rattle.std.proofs.Common.{◌≡◌, ◌≤◌, ℕ, zero, suc, ◌+◌, ◌==◌, min, Bool, List, [], ◌∷◌, ◌++◌, length, drop, flat_map, Some, slice_get, cond, true, false, refl, sym, ap, ◌∙◌, append_assoc, length-append, add-one, arith, codes}
use Rattle.tc_model.specs.CertificateLines.{listed, change_at, changes}
use Rattle.tc_cert.specs.Texts.{ended, rows_in, rows_behind, rows_left}

next_suc : {X : Type 0} (f : X → List ℕ) (xs : List X) (i : ℕ) (x : X) → slice_get xs i ≡ Some x → flat_map f (drop i xs) ≡ f x ++ flat_map f (drop (suc i) xs)
next_suc f [] i x e = cc
next_suc f (y ∷ xs) zero x e = let same : y ≡ x = cc in ap (λ z. f z ++ flat_map f xs) same
next_suc f (y ∷ xs) (suc i) x e = next_suc f xs i x e

pub next_piece : {X : Type 0} (f : X → List ℕ) (xs : List X) (i : ℕ) (x : X) → slice_get xs i ≡ Some x → flat_map f (drop i xs) ≡ f x ++ flat_map f (drop (i + 1) xs)
next_piece f xs i x e = rw (add-one i) (next_suc f xs i x e)

pub no_piece : {X : Type 0} (f : X → List ℕ) (xs : List X) (i : ℕ) → length xs ≤ i → flat_map f (drop i xs) ≡ []
no_piece f [] zero h = refl
no_piece f [] (suc i) h = refl
no_piece f (x ∷ xs) zero h = absurd (omega arith)
no_piece f (x ∷ xs) (suc i) h = no_piece f xs i (omega arith)

pub first_listed : {X : Type 0} (f : X → List ℕ) (xs : List X) (x : X) → slice_get xs 0 ≡ Some x → f x ++ flat_map (λ y. codes "," ++ f y) (drop 1 xs) ≡ listed f xs
first_listed f [] x e = cc
first_listed f (y ∷ xs) x e = let same : x ≡ y = cc in ap (λ z. f z ++ flat_map (λ y. codes "," ++ f y) xs) same

pub first_row : {X : Type 0} (first : X → List ℕ) (later : X → X → List ℕ) (xs : List X) (x : X) → slice_get xs 0 ≡ Some x → ended (first x) ++ rows_left later xs ≡ rows_in first later xs
first_row first later [] x e = cc
first_row first later (y ∷ xs) x e = let same : x ≡ y = cc in ap (λ z. ended (first z) ++ rows_behind later y xs) same

pub next_row : {X : Type 0} (later : X → X → List ℕ) (xs : List X) (i : ℕ) (b x : X) → slice_get xs i ≡ Some b → slice_get xs (suc i) ≡ Some x → rows_left later (drop i xs) ≡ ended (later b x) ++ rows_left later (drop (suc i) xs)
next_row later [] i b x e d = cc
next_row later (y ∷ []) zero b x e d = cc
next_row later (y ∷ z ∷ xs) zero b x e d =
    let one : y ≡ b = cc in
    let two : z ≡ x = cc in
    ap (λ w. ended (later w z) ++ rows_behind later z xs) one ∙ ap (λ w. ended (later b w) ++ rows_behind later z xs) two
next_row later (y ∷ xs) (suc i) b x e d = next_row later xs i b x e d

pub no_row : {X : Type 0} (later : X → X → List ℕ) (xs : List X) (i : ℕ) → length xs ≤ suc i → rows_left later (drop i xs) ≡ []
no_row later [] zero h = refl
no_row later [] (suc i) h = refl
no_row later (x ∷ []) zero h = refl
no_row later (x ∷ y ∷ xs) zero h = absurd (omega arith)
no_row later (x ∷ xs) (suc i) h = no_row later xs i (omega arith)

changes_suc : (place : ℕ) (ms ns : List ℕ) (i m n : ℕ) → slice_get ms i ≡ Some m → slice_get ns i ≡ Some n
    → changes place (drop i ms) (drop i ns) ≡ change_at place m n ++ changes (place + 1) (drop (suc i) ms) (drop (suc i) ns)
changes_suc place [] ns i m n e d = cc
changes_suc place (x ∷ ms) [] i m n e d = cc
changes_suc place (x ∷ ms) (y ∷ ns) zero m n e d =
    let one : x ≡ m = cc in
    let two : y ≡ n = cc in
    ap (λ w. change_at place w y ++ changes (place + 1) ms ns) one ∙ ap (λ w. change_at place m w ++ changes (place + 1) ms ns) two
changes_suc place (x ∷ ms) (y ∷ ns) (suc i) m n e d = changes_suc place ms ns i m n e d

no_new : (place : ℕ) (ms : List ℕ) → changes place ms [] ≡ []
no_new place [] = refl
no_new place (m ∷ ms) = refl

pub no_changes : (place : ℕ) (ms ns : List ℕ) (i : ℕ) → min (length ms) (length ns) ≤ i → changes place (drop i ms) (drop i ns) ≡ []
no_changes place [] ns zero h = refl
no_changes place [] ns (suc i) h = refl
no_changes place (x ∷ ms) [] zero h = refl
no_changes place (x ∷ ms) (y ∷ ns) zero h = absurd (omega arith)
no_changes place (x ∷ ms) [] (suc i) h = no_new place (drop i ms)
no_changes place (x ∷ ms) (y ∷ ns) (suc i) h = no_changes place ms ns i (omega arith)

pub next_place : (ms ns : List ℕ) (i m n : ℕ) (done new : List (ℕ × ℕ)) → slice_get ms i ≡ Some m → slice_get ns i ≡ Some n
    → done ++ changes i (drop i ms) (drop i ns) ≡ changes 0 ms ns → new ≡ done ++ change_at i m n → new ++ changes (i + 1) (drop (i + 1) ms) (drop (i + 1) ns) ≡ changes 0 ms ns
next_place ms ns i m n done new e d so_far is =
    ap (λ w. w ++ changes (i + 1) (drop (i + 1) ms) (drop (i + 1) ns)) is
    ∙ append_assoc done (change_at i m n) (changes (i + 1) (drop (i + 1) ms) (drop (i + 1) ns))
    ∙ ap (λ k. done ++ (change_at i m n ++ changes (i + 1) (drop k ms) (drop k ns))) (add-one i)
    ∙ ap (λ w. done ++ w) (sym (changes_suc i ms ns i m n e d))
    ∙ so_far

at_most_one : (b : Bool) (p : ℕ × ℕ) → length (cond b [] (p ∷ [])) ≤ 1
at_most_one true p = omega arith
at_most_one false p = omega arith

few_changes : (i m n : ℕ) → length (change_at i m n) ≤ 1
few_changes i m n = at_most_one (m == n) (i, n)

pub next_few : (i m n : ℕ) (done new : List (ℕ × ℕ)) → length done ≤ i → new ≡ done ++ change_at i m n → length new ≤ i + 1
next_few i m n done new few is = omega (arith, ap length is, length-append done (change_at i m n), few_changes i m n)
