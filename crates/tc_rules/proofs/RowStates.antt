-- The bits of rows, cut where alternatives end, are states of a path.
use Rattle.std.proofs.Common.{◌≡◌, inl, inr, ℕ, zero, suc, ◌+◌, ◌-◌, ◌*◌, ◌/◌, ◌%◌, ◌<◌, ◌≤◌, List, [], ◌∷◌, Bool, true, false, ◌&&◌, ◌||◌, not, refl, ap, sym, ◌∙◌, length, get_or, nat_eq, arith, Some, None, slice_get}
use Rattle.std.specs.List.{list_any}
use Rattle.std.proofs.lemmas.Bool.{cases_lt, eq-eqb, eqb-true}
use Rattle.tc_sets.specs.Numbers.{Numbers, Has}
use Rattle.tc_sets.proofs.Bits.{numbers, one_form}
use Rattle.tc_model.specs.Sheets.{Steps, no_step, step, Path, no_alternative, alternative}
use Rattle.tc_model.specs.PathStates.{Items, State, is_empty_state}
use Rattle.tc_rules.specs.Steps.{has_step, first_or_false, after_first, further, first_or_none, after_alternative, next_state, both_items, both_states, ends_true}
use Rattle.tc_rules.specs.Words.{bit, span, cut, count_steps, ends_of, total, deep_steps, inner_steps, on_path, IsPadded}

-- the same values, alternative by alternative
abbrev pub cut_by : (ℕ → Bool) → ℕ → Path → State
cut_by f at no_alternative = []
cut_by f at (alternative ss p) = span f at (count_steps ss) ∷ cut_by f (at + count_steps ss) p

pub cut_is : (f : ℕ → Bool) (at : ℕ) (p : Path) → cut f at (ends_of at p) ≡ cut_by f at p
cut_is f at no_alternative = refl
cut_is f at (alternative ss p) =
    let width : at + count_steps ss - at ≡ count_steps ss = omega arith in
    ap (λ n. span f at n ∷ cut f (at + count_steps ss) (ends_of (at + count_steps ss) p)) width ∙ ap (λ w. span f at (count_steps ss) ∷ w) (cut_is f (at + count_steps ss) p)

heads : (a b : Bool) (us vs : Items) → (a ∷ us) ≡ (b ∷ vs) → (a ≡ b) × (us ≡ vs)
heads a b us vs e = (ap first_or_false e, ap after_first e)

parts : (a b : Items) (us vs : State) → (a ∷ us) ≡ (b ∷ vs) → (a ≡ b) × (us ≡ vs)
parts a b us vs e = (ap first_or_none e, ap after_alternative e)

in_order : (x k m : Bool) → (((x && true) && k) && m) ≡ (x && (k && m))
in_order true k m = refl
in_order false k m = refl

ends_there : (x k m : Bool) → (((x && false) && k) && m) ≡ false
ends_there true k m = refl
ends_there false k m = refl

-- ---- which items stay, and which move on
module _ (X D I K M N came : ℕ → Bool) (goes : (j : ℕ) → came (suc j) ≡ (((X j && I j) && K j) && M j)) (is : (i : ℕ) → N i ≡ ((X i && D i) || came i)) where
  last_came : (ss : Steps) (at : ℕ) → span I at (suc (count_steps ss)) ≡ has_step ss ∷ inner_steps ss → came (at + suc (count_steps ss)) ≡ false
  last_came no_step at e =
      let next : at + 1 ≡ suc at = omega arith in
      ap came next ∙ (goes at ∙ (ap (λ b. ((X at && b) && K at) && M at) (heads (I at) false [] [] e).0 ∙ ends_there (X at) (K at) (M at)))
  last_came (step d t w ss) at e =
      let more : at + suc (suc (count_steps ss)) ≡ suc at + suc (count_steps ss) = omega arith in
      ap came more ∙ last_came ss (suc at) (heads (I at) true (span I (suc at) (suc (count_steps ss))) (has_step ss ∷ inner_steps ss) e).1

  end_came : (ss : Steps) (at : ℕ) → came at ≡ false → span I at (count_steps ss) ≡ inner_steps ss → came (at + count_steps ss) ≡ false
  end_came no_step at none e = let same : at + 0 ≡ at = omega arith in ap came same ∙ none
  end_came (step d t w ss) at none e = last_came ss at e

  here : (at : ℕ) (comes d : Bool) → came at ≡ comes → D at ≡ d → N at ≡ ((X at && d) || comes)
  here at comes d c e = is at ∙ (ap (λ b. (X at && b) || came at) e ∙ ap (λ b. (X at && d) || b) c)

  items_next : (ss : Steps) (at : ℕ) (comes : Bool) → came at ≡ comes → span D at (count_steps ss) ≡ deep_steps ss → span I at (count_steps ss) ≡ inner_steps ss
      → span N at (count_steps ss) ≡ further ss (both_items (span K at (count_steps ss)) (span M at (count_steps ss))) comes (span X at (count_steps ss))
  items_next no_step at comes c hd hi = refl
  items_next (step d t w no_step) at comes c hd hi = ap (λ b. b ∷ []) (here at comes d c (heads (D at) d [] [] hd).0)
  items_next (step d t w (step e u x ss)) at comes c hd hi =
      let n = suc (count_steps ss) in
      let inner = heads (I at) true (span I (suc at) n) (inner_steps (step e u x ss)) hi in
      let deep = heads (D at) d (span D (suc at) n) (deep_steps (step e u x ss)) hd in
      let next : came (suc at) ≡ (X at && (K at && M at)) = goes at ∙ (ap (λ b. ((X at && b) && K at) && M at) inner.0 ∙ in_order (X at) (K at) (M at)) in
      ap (λ b. b ∷ span N (suc at) n) (here at comes d c deep.0)
      ∙ ap (λ bs. ((X at && d) || comes) ∷ bs) (items_next (step e u x ss) (suc at) (X at && (K at && M at)) next deep.1 inner.1)

  pub path_next : (p : Path) (at : ℕ) → came at ≡ false → cut_by D at p ≡ on_path deep_steps p → cut_by I at p ≡ on_path inner_steps p
      → cut_by N at p ≡ next_state p (both_states (cut_by K at p) (cut_by M at p)) (cut_by X at p)
  path_next no_alternative at none hd hi = refl
  path_next (alternative ss p) at none hd hi =
      let n = count_steps ss in
      let deep = parts (span D at n) (deep_steps ss) (cut_by D (at + n) p) (on_path deep_steps p) hd in
      let inner = parts (span I at n) (inner_steps ss) (cut_by I (at + n) p) (on_path inner_steps p) hi in
      ap (λ w. w ∷ cut_by N (at + n) p) (items_next ss at false none deep.0 inner.0)
      ∙ ap (λ w. further ss (both_items (span K at n) (span M at n)) false (span X at n) ∷ w) (path_next p (at + n) (end_came ss at none inner.0) deep.1 inner.1)

  pub total_came : (p : Path) (at : ℕ) → came at ≡ false → cut_by I at p ≡ on_path inner_steps p → came (total at p) ≡ false
  total_came no_alternative at none hi = none
  total_came (alternative ss p) at none hi =
      let n = count_steps ss in
      let inner = parts (span I at n) (inner_steps ss) (cut_by I (at + n) p) (on_path inner_steps p) hi in
      total_came p (at + n) (end_came ss at none inner.0) inner.1

-- ---- what two have, and the last of an alternative
span_both : (f g : ℕ → Bool) (at n : ℕ) → both_items (span f at n) (span g at n) ≡ span (λ i. f i && g i) at n
span_both f g at zero = refl
span_both f g at (suc n) = ap (λ w. (f at && g at) ∷ w) (span_both f g (suc at) n)

pub cut_both : (f g : ℕ → Bool) (at : ℕ) (es : List ℕ) → both_states (cut f at es) (cut g at es) ≡ cut (λ i. f i && g i) at es
cut_both f g at [] = refl
cut_both f g at (e ∷ es) = ap (λ w. w ∷ both_states (cut f e es) (cut g e es)) (span_both f g at (e - at)) ∙ ap (λ w. span (λ i. f i && g i) at (e - at) ∷ w) (cut_both f g e es)

pub span_last : (f : ℕ → Bool) (at n : ℕ) → ends_true (span f at (suc n)) ≡ f (at + n)
span_last f at zero = let same : at ≡ at + 0 = omega arith in ap f same
span_last f at (suc n) = let same : suc at + n ≡ at + suc n = omega arith in span_last f (suc at) n ∙ ap f same

span_ends : (f g : ℕ → Bool) (at n : ℕ) → ends_true (span (λ i. f i && g i) at n) ≡ (ends_true (span f at n) && ends_true (span g at n))
span_ends f g at zero = refl
span_ends f g at (suc n) = span_last (λ i. f i && g i) at n ∙ (ap (λ b. b && g (at + n)) (sym (span_last f at n)) ∙ ap (λ b. ends_true (span f at (suc n)) && b) (sym (span_last g at n)))

pub cut_ends : (f g : ℕ → Bool) (at : ℕ) (es : List ℕ) (i : ℕ) → ends_true (get_or (cut (λ i. f i && g i) at es) i []) ≡ (ends_true (get_or (cut f at es) i []) && ends_true (get_or (cut g at es) i []))
cut_ends f g at [] zero = refl
cut_ends f g at [] (suc i) = refl
cut_ends f g at (e ∷ es) zero = span_ends f g at (e - at)
cut_ends f g at (e ∷ es) (suc i) = cut_ends f g e es i

pub cut_at : (f : ℕ → Bool) (at : ℕ) (es : List ℕ) (i e : ℕ) → slice_get es i ≡ Some e → get_or (cut f at es) i [] ≡ span f (get_or (at ∷ es) i 0) (e - get_or (at ∷ es) i 0)
cut_at f at [] i e h = absurd (cc)
cut_at f at (d ∷ es) zero e h = let same : d ≡ e = cc in ap (λ x. span f at (x - at)) same
cut_at f at (d ∷ es) (suc i) e h = cut_at f d es i e h

pub cut_past : (f : ℕ → Bool) (at : ℕ) (es : List ℕ) (i : ℕ) → slice_get es i ≡ None → get_or (cut f at es) i [] ≡ []
cut_past f at [] zero h = refl
cut_past f at [] (suc i) h = refl
cut_past f at (d ∷ es) zero h = absurd (cc)
cut_past f at (d ∷ es) (suc i) h = cut_past f d es i h

-- ---- a state tells its bits
span_tells : (f g : ℕ → Bool) (at n : ℕ) → span f at n ≡ span g at n → (i : ℕ) → at ≤ i → i < at + n → f i ≡ g i
span_tells f g at zero e i l h = absurd (omega (arith, l, h))
span_tells f g at (suc n) e i l h =
    let both = heads (f at) (g at) (span f (suc at) n) (span g (suc at) n) e in
    elim (cases_lt at i) [
      | inl low ↦ span_tells f g (suc at) n both.1 i low (omega (arith, h))
      | inr high ↦ let same : i ≡ at = omega (arith, l, high) in ap f same ∙ (both.0 ∙ sym (ap g same))
    ]

total_long : (at : ℕ) (p : Path) → at ≤ total at p
total_long at no_alternative = omega arith
total_long at (alternative ss p) = omega (arith, total_long (at + count_steps ss) p)

pub state_tells : (f g : ℕ → Bool) (at : ℕ) (p : Path) → cut_by f at p ≡ cut_by g at p → (i : ℕ) → at ≤ i → i < total at p → f i ≡ g i
state_tells f g at no_alternative e i l h = absurd (omega (arith, l, h))
state_tells f g at (alternative ss p) e i l h =
    let n = count_steps ss in
    let both = parts (span f at n) (span g at n) (cut_by f (at + n) p) (cut_by g (at + n) p) e in
    elim (cases_lt i (at + n)) [
      | inl low ↦ span_tells f g at n both.0 i l low
      | inr high ↦ state_tells f g (at + n) p both.1 i high h
    ]

both_false : (a b : Bool) → (a || b) ≡ false → (a ≡ false) × (b ≡ false)
both_false true b e = absurd (cc)
both_false false b e = (refl, e)

both_true : (a b : Bool) → (a && b) ≡ true → (a ≡ true) × (b ≡ true)
both_true true b e = (refl, e)
both_true false b e = absurd (cc)

not_true : (a : Bool) → not a ≡ true → a ≡ false
not_true true e = absurd (cc)
not_true false e = refl

abbrev nothing : ℕ → Bool
nothing i = false

span_none : (f : ℕ → Bool) (at n : ℕ) → list_any (λ b. b) (span f at n) ≡ false → span f at n ≡ span nothing at n
span_none f at zero e = refl
span_none f at (suc n) e =
    let both = both_false (f at) (list_any (λ b. b) (span f (suc at) n)) e in
    ap (λ b. b ∷ span f (suc at) n) both.0 ∙ ap (λ w. false ∷ w) (span_none f (suc at) n both.1)

state_none : (f : ℕ → Bool) (at : ℕ) (p : Path) → is_empty_state (cut_by f at p) ≡ true → cut_by f at p ≡ cut_by nothing at p
state_none f at no_alternative e = refl
state_none f at (alternative ss p) e =
    let n = count_steps ss in
    let both = both_true (not (list_any (λ b. b) (span f at n))) (is_empty_state (cut_by f (at + n) p)) e in
    ap (λ w. w ∷ cut_by f (at + n) p) (span_none f at n (not_true _ both.0)) ∙ ap (λ w. span nothing at n ∷ w) (state_none f (at + n) p both.1)

span_empty : (f : ℕ → Bool) → ((i : ℕ) → f i ≡ false) → (at n : ℕ) → list_any (λ b. b) (span f at n) ≡ false
span_empty f h at zero = refl
span_empty f h at (suc n) = ap (λ b. b || list_any (λ b. b) (span f (suc at) n)) (h at) ∙ span_empty f h (suc at) n

pub state_empty : (f : ℕ → Bool) → ((i : ℕ) → f i ≡ false) → (at : ℕ) (p : Path) → is_empty_state (cut_by f at p) ≡ true
state_empty f h at no_alternative = refl
state_empty f h at (alternative ss p) =
    ap (λ b. not b && is_empty_state (cut_by f (at + count_steps ss) p)) (span_empty f h at (count_steps ss)) ∙ state_empty f h (at + count_steps ss) p

pub none_from_empty : (f : ℕ → Bool) (p : Path) → is_empty_state (cut_by f 0 p) ≡ true → (i : ℕ) → i < total 0 p → f i ≡ false
none_from_empty f p e i h = let low : 0 ≤ i = omega arith in state_tells f nothing 0 p (state_none f 0 p e) i low h

-- ---- rows of equal states are equal
bit_one : (ws : List ℕ) (i : ℕ) → Has (numbers 0 ws) i → bit ws i ≡ true
bit_one ws i h = eq-eqb _ 1 h

one_bit : (ws : List ℕ) (i : ℕ) → bit ws i ≡ true → Has (numbers 0 ws) i
one_bit ws i e = eqb-true _ 1 e

pub none_far : (n : ℕ) (ws : List ℕ) → IsPadded n ws → (i : ℕ) → n ≤ i → bit ws i ≡ false
none_far n ws h i l =
    let at : 64 * (i / 64) + i % 64 ≡ i = omega arith in
    ap (λ d. nat_eq d 1) (h.padding (i / 64) (i % 64) (inr (omega (arith, at, l))))

pub same_rows : (n : ℕ) (ws us : List ℕ) → IsPadded n ws → IsPadded n us → ((i : ℕ) → i < n → bit ws i ≡ bit us i) → ws ≡ us
same_rows n ws us h k same = ap (λ (s : Numbers). s.words) (one_form (numbers n ws) (numbers n us) h k refl (λ i. (λ e. one_bit us i (sym (all i) ∙ bit_one ws i e), λ e. one_bit ws i (all i ∙ bit_one us i e))))
  where
    all : (i : ℕ) → bit ws i ≡ bit us i
    all i = elim (cases_lt i n) [ inl l ↦ same i l | inr g ↦ none_far n ws h i g ∙ sym (none_far n us k i g) ]

pub rows_same : (p : Path) (ws us : List ℕ) → IsPadded (total 0 p) ws → IsPadded (total 0 p) us → cut (bit ws) 0 (ends_of 0 p) ≡ cut (bit us) 0 (ends_of 0 p) → ws ≡ us
rows_same p ws us h k e =
    same_rows (total 0 p) ws us h k (λ i l. let low : 0 ≤ i = omega arith in state_tells (bit ws) (bit us) 0 p (sym (cut_is (bit ws) 0 p) ∙ (e ∙ cut_is (bit us) 0 p)) i low l)

-- ---- the last step of an alternative
pub length_cut : (f : ℕ → Bool) (at : ℕ) (es : List ℕ) → length (cut f at es) ≡ length es
length_cut f at [] = refl
length_cut f at (e ∷ es) = ap suc (length_cut f e es)

pub last_told : (f : ℕ → Bool) (es : List ℕ) (i e start : ℕ) → slice_get es i ≡ Some e → start ≡ get_or (0 ∷ es) i 0 → start < e → f (e - 1) ≡ ends_true (get_or (cut f 0 es) i [])
last_told f es i e start h is l =
    let n = e - start - 1 in
    let some : e - start ≡ suc n = omega (arith, l) in
    let last : start + n ≡ e - 1 = omega (arith, l) in
    sym (ap ends_true (cut_at f 0 es i e h ∙ ap (λ k. span f k (e - k)) (sym is)) ∙ (ap (λ k. ends_true (span f start k)) some ∙ (span_last f start n ∙ ap f last)))

pub last_none : (f : ℕ → Bool) (es : List ℕ) (i e start : ℕ) → slice_get es i ≡ Some e → start ≡ get_or (0 ∷ es) i 0 → e ≤ start → false ≡ ends_true (get_or (cut f 0 es) i [])
last_none f es i e start h is l =
    let none : e - start ≡ 0 = omega (arith, l) in
    sym (ap ends_true (cut_at f 0 es i e h ∙ ap (λ k. span f k (e - k)) (sym is)) ∙ ap (λ k. ends_true (span f start k)) none)

pub ends_told : (f g h : ℕ → Bool) (es : List ℕ) (i : ℕ) (a b c : Bool) → a ≡ ends_true (get_or (cut f 0 es) i []) → b ≡ ends_true (get_or (cut g 0 es) i []) → c ≡ ends_true (get_or (cut h 0 es) i [])
    → (a && (b && c)) ≡ (ends_true (get_or (cut f 0 es) i []) && ends_true (get_or (both_states (cut g 0 es) (cut h 0 es)) i []))
ends_told f g h es i a b c of_a of_b of_c =
    ap (λ x. x && (b && c)) of_a
    ∙ (ap (λ x. ends_true (get_or (cut f 0 es) i []) && (x && c)) of_b
    ∙ (ap (λ x. ends_true (get_or (cut f 0 es) i []) && (ends_true (get_or (cut g 0 es) i []) && x)) of_c
    ∙ ap (λ x. ends_true (get_or (cut f 0 es) i []) && x) (sym (ap (λ w. ends_true (get_or w i [])) (cut_both g h 0 es) ∙ cut_ends g h 0 es i))))
