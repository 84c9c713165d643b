-- Lists that are put piece by piece: a piece that was met before adds nothing.
use Rattle.std.proofs.Common.{◌≡◌, ℕ, zero, suc, ◌+◌, ◌<◌, ◌≤◌, List, [], ◌∷◌, ◌++◌, Bool, true, false, ◌||◌, refl, ap, sym, ◌∙◌, subst, map, filter, flat_map, length, take, get_or, nat_eq, append_assoc, Some, slice_get, if◌then◌else◌, inl, inr, arith}
use Rattle.std.specs.List.{list_any}
use Rattle.std.proofs.Math.Seq.{take-suc}
use Rattle.std.proofs.lemmas.Bool.{cases_lt, eqb-true}
use Rattle.std.proofs.lemmas.List.{length_push, take_all}
use Rattle.std.proofs.lemmas.List.Elements.{filter-append}
use Rattle.std.proofs.lemmas.Grind.{flat_map-append}
use Rattle.tc_model.specs.Numbered.{numbers_below}
use Rattle.tc_rules.specs.Once.{put_once, put_all}
use Rattle.tc_rules.proofs.Numbering.{put_joined, AreThere, put_absorbed, put_all_there}

module _ {X : Type 0} (same : X → X → Bool) where
  pub there_left : (s xs ys : List X) → AreThere same s (xs ++ ys) → AreThere same s xs
  there_left s [] ys h = tt
  there_left s (x ∷ xs) ys h = (h.0, there_left s xs ys h.1)

  pub there_right : (s xs ys : List X) → AreThere same s (xs ++ ys) → AreThere same s ys
  there_right s [] ys h = h
  there_right s (x ∷ xs) ys h = there_right s xs ys h.1

  there_of : (G : ℕ → List X) (t : List X) (seen : List ℕ) (c : ℕ) → AreThere same t (flat_map G seen) → list_any (nat_eq c) seen ≡ true → AreThere same t (G c)
  there_of G t [] c h e = absurd (cc)
  there_of G t (d ∷ seen) c h e = by (nat_eq c d) refl (there_of G t seen c (there_right t (G d) (flat_map G seen) h))
    where
      by : (b : Bool) → nat_eq c d ≡ b → (list_any (nat_eq c) seen ≡ true → AreThere same t (G c)) → AreThere same t (G c)
      by true f k = subst (λ i. AreThere same t (G i)) (sym (eqb-true c d f)) (there_left t (G d) (flat_map G seen) h)
      by false f k = k (sym (ap (λ b. b || list_any (nat_eq c) seen) f) ∙ e)

  module _ (is_self : (x : X) → same x x ≡ true) (G : ℕ → List X) where
    pieces_after : (s : List X) (seen cs : List ℕ) → put_all same (put_all same s (flat_map G seen)) (flat_map G cs) ≡ put_all same s (flat_map G (put_all nat_eq seen cs))
    pieces_after s seen [] = refl
    pieces_after s seen (c ∷ cs) =
        put_joined same (put_all same s (flat_map G seen)) (G c) (flat_map G cs)
        ∙ by (list_any (nat_eq c) seen) refl (pieces_after s seen cs) (pieces_after s (seen ++ c ∷ []) cs)
      where
        by : (b : Bool) → list_any (nat_eq c) seen ≡ b
            → put_all same (put_all same s (flat_map G seen)) (flat_map G cs) ≡ put_all same s (flat_map G (put_all nat_eq seen cs))
            → put_all same (put_all same s (flat_map G (seen ++ c ∷ []))) (flat_map G cs) ≡ put_all same s (flat_map G (put_all nat_eq (seen ++ c ∷ []) cs))
            → put_all same (put_all same (put_all same s (flat_map G seen)) (G c)) (flat_map G cs) ≡ put_all same s (flat_map G (put_all nat_eq (put_once nat_eq seen c) cs))
        by true e old new =
            ap (λ w. put_all same w (flat_map G cs)) (put_absorbed same (put_all same s (flat_map G seen)) (G c) (there_of G (put_all same s (flat_map G seen)) seen c (put_all_there same is_self s (flat_map G seen)) e))
            ∙ (old ∙ ap (λ (b : Bool). put_all same s (flat_map G (put_all nat_eq (if b then seen else (seen ++ c ∷ [])) cs))) (sym e))
        by false e old new =
            ap (λ w. put_all same w (flat_map G cs)) (sym (put_joined same s (flat_map G seen) (G c)) ∙ ap (put_all same s) (last seen c))
            ∙ (new ∙ ap (λ (b : Bool). put_all same s (flat_map G (put_all nat_eq (if b then seen else (seen ++ c ∷ [])) cs))) (sym e))
          where
            last : (ds : List ℕ) (d : ℕ) → flat_map G ds ++ G d ≡ flat_map G (ds ++ d ∷ [])
            last [] d = sym (nothing_after (G d))
              where
                nothing_after : (xs : List X) → xs ++ [] ≡ xs
                nothing_after [] = refl
                nothing_after (x ∷ xs) = ap (λ w. x ∷ w) (nothing_after xs)
            last (z ∷ ds) d = append_assoc (G z) (flat_map G ds) (G d) ∙ ap (λ w. G z ++ w) (last ds d)

    -- pieces by number
    pub pieces_once : (s : List X) (cs : List ℕ) → put_all same s (flat_map G cs) ≡ put_all same s (flat_map G (put_all nat_eq [] cs))
    pieces_once s cs = pieces_after s [] cs

module _ {X Y : Type 0} (g : Y → List X) (d : Y) where
  pieces_below : (ys : List Y) (n : ℕ) → n ≤ length ys → flat_map (λ c. g (get_or ys c d)) (numbers_below n) ≡ flat_map g (take n ys)
  pieces_below ys zero h = refl
  pieces_below ys (suc n) h =
      flat_map-append (λ c. g (get_or ys c d)) (numbers_below n) (n ∷ [])
      ∙ (ap (λ w. w ++ (g (get_or ys n d) ++ [])) (pieces_below ys n (omega arith))
      ∙ (sym (flat_map-append g (take n ys) (get_or ys n d ∷ [])) ∙ ap (flat_map g) (sym (take-suc ys n d (omega arith)))))

  -- all pieces of a list by number
  pub pieces_of : (ys : List Y) → flat_map (λ c. g (get_or ys c d)) (numbers_below (length ys)) ≡ flat_map g ys
  pieces_of ys = pieces_below ys (length ys) (omega arith) ∙ ap (flat_map g) (take_all (length ys) ys (omega arith))

module _ {X Y : Type 0} (counts : X → Bool) (g : Y → List X) where
  pub filter_pieces : (ys : List Y) → filter counts (flat_map g ys) ≡ flat_map (λ y. filter counts (g y)) ys
  filter_pieces [] = refl
  filter_pieces (y ∷ ys) = filter-append counts (g y) (flat_map g ys) ∙ ap (λ w. filter counts (g y) ++ w) (filter_pieces ys)

module _ {A B E X : Type 0} (f : A → E) (g : B → E) (F : A → List X) (G : B → List X) (alike : (a : A) (b : B) → f a ≡ g b → F a ≡ G b) where
  -- pieces of two lists that match
  pub pieces_alike : (xs : List A) (ys : List B) → map f xs ≡ map g ys → flat_map F xs ≡ flat_map G ys
  pieces_alike [] [] e = refl
  pieces_alike [] (y ∷ ys) e = absurd (cc)
  pieces_alike (x ∷ xs) [] e = absurd (cc)
  pieces_alike (x ∷ xs) (y ∷ ys) e =
      let a : f x ≡ g y = cc in
      let b : map f xs ≡ map g ys = cc in
      ap (λ w. w ++ flat_map F xs) (alike x y a) ∙ ap (λ w. G y ++ w) (pieces_alike xs ys b)

module _ {X : Type 0} where
  some_is : {a b : X} → Some a ≡ Some b → a ≡ b
  some_is e = cc

  get_last : (xs : List X) (x : X) (i : ℕ) → i ≡ length xs → slice_get (xs ++ x ∷ []) i ≡ Some x
  get_last [] x i e = ap (λ n. slice_get (x ∷ []) n) e
  get_last (y ∷ xs) x i e = ap (λ n. slice_get (y ∷ (xs ++ x ∷ [])) n) e ∙ get_last xs x (length xs) refl

  get_before : (xs : List X) (x y : X) (i : ℕ) → slice_get xs i ≡ Some x → slice_get (xs ++ y ∷ []) i ≡ Some x
  get_before [] x y i e = absurd (cc)
  get_before (z ∷ xs) x y zero e = e
  get_before (z ∷ xs) x y (suc i) e = get_before xs x y i e

module _ {X : Type 0} where
  pub get_front : (xs ys : List X) (i : ℕ) (x : X) → slice_get xs i ≡ Some x → slice_get (xs ++ ys) i ≡ Some x
  get_front [] ys i x e = absurd (cc)
  get_front (y ∷ xs) ys zero x e = e
  get_front (y ∷ xs) ys (suc i) x e = get_front xs ys i x e

pub length_below : (n : ℕ) → length (numbers_below n) ≡ n
length_below zero = refl
length_below (suc n) = length_push (numbers_below n) n ∙ (ap (λ k. k + 1) (length_below n) ∙ omega arith)

pub number_at : (n i : ℕ) → i < n → slice_get (numbers_below n) i ≡ Some i
number_at zero i h = absurd (omega arith)
number_at (suc n) i h =
    elim (cases_lt i n) [
      | inl l ↦ get_before (numbers_below n) i n i (number_at n i l)
      | inr g ↦ let e : i ≡ n = omega arith in get_last (numbers_below n) n i (e ∙ sym (length_below n)) ∙ ap Some (sym e)
    ]

module _ {X Y : Type 0} (f : X → Y) where
  pub mapped_at : (xs : List X) (i : ℕ) (x : X) → slice_get xs i ≡ Some x → slice_get (map f xs) i ≡ Some (f x)
  mapped_at [] i x e = absurd (cc)
  mapped_at (y ∷ xs) zero x e = ap (λ w. Some (f w)) (some_is e)
  mapped_at (y ∷ xs) (suc i) x e = mapped_at xs i x e

  pub unmapped_at : (xs : List X) (i : ℕ) (y : Y) → slice_get (map f xs) i ≡ Some y → (x : X) × (slice_get xs i ≡ Some x) × (f x ≡ y)
  unmapped_at [] i y e = absurd (cc)
  unmapped_at (x ∷ xs) zero y e = (x, refl, some_is e)
  unmapped_at (x ∷ xs) (suc i) y e = unmapped_at xs i y e

  pub get_or_mapped : (xs : List X) (i : ℕ) (d : X) → get_or (map f xs) i (f d) ≡ f (get_or xs i d)
  get_or_mapped [] i d = refl
  get_or_mapped (x ∷ xs) zero d = refl
  get_or_mapped (x ∷ xs) (suc i) d = get_or_mapped xs i d

-- the values of numbers
pub value_at : {X : Type 0} (f : ℕ → X) (n i : ℕ) → i < n → slice_get (map f (numbers_below n)) i ≡ Some (f i)
value_at f n i h = mapped_at f (numbers_below n) i i (number_at n i h)

-- what is there of pieces is there of each, and of those that count
module _ {X Y : Type 0} (same : X → X → Bool) (counts : X → Bool) where
  pub there_piece : (g : Y → List X) (s : List X) (ys : List Y) (i : ℕ) (y : Y) → AreThere same s (filter counts (flat_map g ys)) → slice_get ys i ≡ Some y → AreThere same s (filter counts (g y))
  there_piece g s [] i y h e = absurd (cc)
  there_piece g s (z ∷ ys) zero y h e =
      subst (λ w. AreThere same s (filter counts (g w))) (some_is e)
      (there_left same s (filter counts (g z)) (filter counts (flat_map g ys)) (subst (AreThere same s) (filter-append counts (g z) (flat_map g ys)) h))
  there_piece g s (z ∷ ys) (suc i) y h e =
      there_piece g s ys i y (there_right same s (filter counts (g z)) (filter counts (flat_map g ys)) (subst (AreThere same s) (filter-append counts (g z) (flat_map g ys)) h)) e

module _ {X : Type 0} (same : X → X → Bool) (counts : X → Bool) where
  pub there_one : (s xs : List X) (i : ℕ) (x : X) → AreThere same s (filter counts xs) → slice_get xs i ≡ Some x → counts x ≡ true → list_any (same x) s ≡ true
  there_one s [] i x h e k = absurd (cc)
  there_one s (y ∷ xs) zero x h e k =
      let f : y ≡ x = some_is e in
      let g : counts y ≡ true = ap counts f ∙ k in
      let t : AreThere same s (y ∷ filter counts xs) = subst (λ (b : Bool). AreThere same s (if b then (y ∷ filter counts xs) else (filter counts xs))) g h in
      subst (λ (w : X). list_any (same w) s ≡ true) f t.0
  there_one s (y ∷ xs) (suc i) x h e k = there_one s xs i x (by (counts y) refl) e k
    where
      by : (b : Bool) → counts y ≡ b → AreThere same s (filter counts xs)
      by true f = let t : AreThere same s (y ∷ filter counts xs) = subst (λ (b : Bool). AreThere same s (if b then (y ∷ filter counts xs) else (filter counts xs))) f h in t.1
      by false f = subst (λ (b : Bool). AreThere same s (if b then (y ∷ filter counts xs) else (filter counts xs))) f h
