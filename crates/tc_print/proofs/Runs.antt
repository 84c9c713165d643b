-- What is written of bytes when a run that stands for itself, and then a reference, are written at a place.
use Rattle.std.proofs.Common.{◌≡◌, ◌≤◌, ◌<◌, ◌+◌, ◌-◌, ℕ, List, [], ◌∷◌, ◌++◌, length, get_or, take, drop, take-append-drop, length-drop, append-nil, sym, ap, ◌∙◌, subst, arith, Option}
use Rattle.std.proofs.Math.Seq.{take-add}
use Rattle.std.proofs.lemmas.List.{take_more, take_all, get_or-drop}
use Rattle.std.proofs.lemmas.Grind.{flat_map-append}
use Rattle.std.specs.List.{flat_map}
use Rattle.tc_io.specs.Sink.{WroteFront}
use Rattle.tc_io.proofs.Fronts.{first_front}

-- the bytes from one place up to another
abbrev pub between : List ℕ → ℕ → ℕ → List ℕ
between xs w p = take (p - w) (drop w xs)

take_between : (xs : List ℕ) (w p : ℕ) → w ≤ p → take w xs ++ between xs w p ≡ take p xs
take_between xs w p h = sym (take-add w (p - w) xs) ∙ ap (λ n. take n xs) (omega arith)

-- no byte stands between a place and itself
pub none_between : (xs : List ℕ) (p : ℕ) → between xs p p ≡ []
none_between xs p = let e : p - p ≡ 0 = omega arith in ap (λ n. take n (drop p xs)) e

between_more : (xs : List ℕ) (w p : ℕ) → w ≤ p → p < length xs → between xs w (p + 1) ≡ between xs w p ++ get_or xs p 0 ∷ []
between_more xs w p h inside =
    let at : w + (p - w) ≡ p = omega arith in
    let next : p + 1 - w ≡ (p - w) + 1 = omega arith in
    let left : length (drop w xs) ≡ length xs - w = length-drop w xs in
    ap (λ n. take n (drop w xs)) next
    ∙ (take_more (drop w xs) (p - w) 0 (omega (arith, left))
    ∙ ap (λ x. between xs w p ++ x ∷ []) (get_or-drop w xs (p - w) 0 ∙ ap (λ n. get_or xs n 0) at))

module _ (f : ℕ → List ℕ) (xs : List ℕ) where
  pub flat_next : (p : ℕ) → p < length xs → flat_map f (take (p + 1) xs) ≡ flat_map f (take p xs) ++ f (get_or xs p 0)
  flat_next p h =
      ap (flat_map f) (take_more xs p 0 h)
      ∙ (flat_map-append f (take p xs) (get_or xs p 0 ∷ [])
      ∙ ap (λ x. flat_map f (take p xs) ++ x) (append-nil (f (get_or xs p 0))))

  -- a run that stands for itself, after what is written
  pub run_written : (w p : ℕ) → w ≤ p → flat_map f (between xs w p) ≡ between xs w p → flat_map f (take w xs) ++ between xs w p ≡ flat_map f (take p xs)
  run_written w p h plain =
      ap (λ x. flat_map f (take w xs) ++ x) (sym plain)
      ∙ (sym (flat_map-append f (take w xs) (between xs w p)) ∙ ap (flat_map f) (take_between xs w p h))

  -- one more byte that stands for itself
  pub run_longer : (w p : ℕ) → w ≤ p → p < length xs → flat_map f (between xs w p) ≡ between xs w p → f (get_or xs p 0) ≡ get_or xs p 0 ∷ []
      → flat_map f (between xs w (p + 1)) ≡ between xs w (p + 1)
  run_longer w p h inside plain one =
      let longer = between_more xs w p h inside in
      ap (flat_map f) longer
      ∙ (flat_map-append f (between xs w p) (get_or xs p 0 ∷ [])
      ∙ (ap (λ x. flat_map f (between xs w p) ++ x) (append-nil (f (get_or xs p 0)) ∙ one)
      ∙ (ap (λ x. x ++ get_or xs p 0 ∷ []) plain ∙ sym longer)))

  -- a front of what stands before a place is a front of all
  pub front_of_all : (old new : Option (List ℕ)) (p : ℕ) → WroteFront old new (flat_map f (take p xs)) → WroteFront old new (flat_map f xs)
  front_of_all old new p w =
      subst (WroteFront old new) (sym (flat_map-append f (take p xs) (drop p xs)) ∙ ap (flat_map f) (take-append-drop p xs))
      (first_front old new (flat_map f (take p xs)) (flat_map f (drop p xs)) w)

  -- all bytes, where the last run reaches to their end
  pub all_written : (w p : ℕ) → w ≤ p → p ≡ length xs → flat_map f (between xs w p) ≡ between xs w p → flat_map f (take w xs) ++ between xs w (length xs) ≡ flat_map f xs
  all_written w p h end plain =
      ap (λ n. flat_map f (take w xs) ++ between xs w n) (sym end)
      ∙ (run_written w p h plain ∙ ap (flat_map f) (take_all p xs (omega (arith, end))))
