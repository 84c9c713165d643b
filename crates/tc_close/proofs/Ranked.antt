-- Lines that are put in order, whatever they are lines of: what they mean, and what holds of each.
use Rattle.std.proofs.Common.{◌≡◌, ◌<◌, ℕ, zero, List, [], ◌∷◌, refl, sym, ap, ◌∙◌, subst, map, length, get_or, All, arith}
use Rattle.std.specs.List.{Contains}
use Rattle.std.proofs.lemmas.List.{length-map, get_or-map}
use Rattle.std.proofs.lemmas.List.Elements.{All-map, All-get_or, All-weaker, All-tail}
use Rattle.std.proofs.lemmas.Option.{get_or_from_slice_get}
use Rattle.std.proofs.lemmas.Simd.{map-map}
use Rattle.tc_model.specs.CertificateData.{AreOrdered}
use Rattle.tc_model.specs.Numbered.{numbers_below}
use Rattle.tc_rules.proofs.Pieces.{length_below, number_at}
use Rattle.tc_rows.specs.Counts.{AreDifferent}
use Rattle.tc_close.specs.Orders.{IsOrder, lines_at}
use Rattle.tc_close.proofs.Linked.{made_at, made_of, different_of}

-- the number at a place is that place
pub number_there : (n i : ℕ) → i < n → get_or (numbers_below n) i 0 ≡ i
number_there n i l = get_or_from_slice_get (numbers_below n) i i 0 (number_at n i l)

-- lines of different numbers, where no two of them are the same
pub lines_differ : {L : Type 0} (bytes : L → List ℕ) (f : ℕ → L) (n : ℕ) → ((p q : ℕ) → p < n → q < n → bytes (f p) ≡ bytes (f q) → p ≡ q) → AreDifferent (map (λ p. bytes (f p)) (numbers_below n))
lines_differ bytes f n apart =
    different_of (λ p. bytes (f p)) (numbers_below n) 0 (λ i j li lj e.
    let mi : i < n = subst (λ m. i < m) (length_below n) li in
    let mj : j < n = subst (λ m. j < m) (length_below n) lj in
    let at_i : bytes (f (get_or (numbers_below n) i 0)) ≡ bytes (f i) = ap (λ q. bytes (f q)) (number_there n i mi) in
    let at_j : bytes (f (get_or (numbers_below n) j 0)) ≡ bytes (f j) = ap (λ q. bytes (f q)) (number_there n j mj) in
    apart i j mi mj (sym at_i ∙ (e ∙ at_j)))

module _ {L R : Type 0} (bytes : L → List ℕ) (meant : L → R) (f : ℕ → L) (row : ℕ → R) (n : ℕ) (numbers : List ℕ) (order : IsOrder (map (λ p. bytes (f p)) (numbers_below n)) numbers) where
  abbrev lines : List (List ℕ)
  lines = map (λ p. bytes (f p)) (numbers_below n)

  line_count : length lines ≡ n
  line_count = length-map (numbers_below n) (λ p. bytes (f p)) ∙ length_below n

  pub inside : All (λ p. p < n) numbers
  inside = All-weaker (λ p. p < length lines) (λ p. p < n) (λ p l. subst (λ m. p < m) line_count l) numbers order.within

  pub all_there : (p : ℕ) → p < n → Contains numbers p
  all_there p l = order.each p (subst (λ m. p < m) (sym line_count) l)

  low : (p : ℕ) → p < n → p < length (numbers_below n)
  low p l = subst (λ m. p < m) (sym (length_below n)) l

  line_at : (p : ℕ) → p < n → get_or lines p [] ≡ bytes (f p)
  line_at p l = get_or-map (λ q. bytes (f q)) (numbers_below n) p 0 [] (low p l) ∙ ap (λ q. bytes (f q)) (number_there n p l)

  same_lines : (ns : List ℕ) → All (λ p. p < n) ns → lines_at lines ns ≡ map bytes (map f ns)
  same_lines [] all = refl
  same_lines (p ∷ ns) all =
      let first : get_or lines p [] ≡ bytes (f p) = line_at p (All-get_or (λ q. q < n) (p ∷ ns) zero 0 (omega arith) all) in
      let rest : lines_at lines ns ≡ map bytes (map f ns) = same_lines ns (All-tail (λ q. q < n) p ns all) in
      cc

  -- where lines of different numbers are different, they ascend
  pub ordered : ((p q : ℕ) → p < n → q < n → bytes (f p) ≡ bytes (f q) → p ≡ q) → AreOrdered (map bytes (map f numbers))
  ordered apart = subst AreOrdered (same_lines numbers inside) (order.ascend (lines_differ bytes f n apart))

  -- they mean the rows of all numbers
  module _ (means : (p : ℕ) → p < n → meant (f p) ≡ row p) (r : R) where
    pub row_of : Contains (map meant (map f numbers)) r → (p : ℕ) × (p < n) × (row p ≡ r)
    row_of c =
        let (i, l, e) = made_of (λ p. meant (f p)) numbers 0 r (subst (λ (rs : List R). Contains rs r) (map-map meant f numbers) c) in
        let p : ℕ = get_or numbers i 0 in
        let m : p < n = All-get_or (λ q. q < n) numbers i 0 l inside in
        (p, m, sym (means p m) ∙ e)

    pub row_there : (p : ℕ) → p < n → row p ≡ r → Contains (map meant (map f numbers)) r
    row_there p m e =
        let (i, l, at) = all_there p m in
        let held : Contains (map (λ q. meant (f q)) numbers) (meant (f (get_or numbers i p))) = made_at (λ q. meant (f q)) numbers p i l in
        subst (λ (rs : List R). Contains rs r) (sym (map-map meant f numbers)) (subst (Contains (map (λ q. meant (f q)) numbers)) (ap (λ q. meant (f q)) at ∙ (means p m ∙ e)) held)

  pub each_line : (P : L → Type 0) → ((p : ℕ) → p < n → P (f p)) → All P (map f numbers)
  each_line P holds = All-map P f numbers (All-weaker (λ p. p < n) (λ p. P (f p)) holds numbers inside)

  pub many : length (map f numbers) ≡ n
  many = length-map numbers f ∙ (order.count ∙ line_count)

-- what is worked out alike of all that stand in a list
pub same_mapped : {X Y : Type 0} (f g : X → Y) (P : X → Type 0) → ((x : X) → P x → f x ≡ g x) → (xs : List X) → All P xs → map f xs ≡ map g xs
same_mapped f g P same [] all = refl
same_mapped f g P same (x ∷ xs) all =
    let first : f x ≡ g x = same x (All-get_or P (x ∷ xs) zero x (omega arith) all) in
    let rest : map f xs ≡ map g xs = same_mapped f g P same xs (All-tail P x xs all) in
    cc
