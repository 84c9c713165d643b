-- How what is held grows by one set more.
use Rattle.std.proofs.Common.{◌∷◌, Result, Ok, Err, IfOk, OnErr, Some, None, slice_get, ◌≡◌, ◌<◌, ◌≤◌, ◌⊎◌, inl, inr, ◌+◌, ◌++◌, [], ℕ, List, length, get_or, subst, sym, ap, ◌∙◌, refl, arith}
use Rattle.std.proofs.lemmas.List.{get_or_append_left, append-nil, append_assoc, length-append}
use Rattle.std.proofs.lemmas.Option.{slice_get_cases, get_or_from_slice_get}
use Rattle.std.proofs.lemmas.Bool.{cases_lt}
use Rattle.tc_mat.specs.Matrix.{Matrix, IsMatrix, IsComposition}
use Rattle.tc_mat.specs.Held.{Held, IsHeld}
use Rattle.tc_beh.specs.Places.{no_matrix}
use Rattle.tc_beh.specs.Held.{Extends, AreFirstFound, Grows, GrowsAt, set_at, IsNew, AreProducts}
use Rattle.tc_beh.specs.declared.outputs.RowFault.{RowFault}

pub extends_self : (a : Held) → Extends a a
extends_self a = record { size = refl; more = []; all = sym (append-nil a.matrices) }

pub extends_then : (a b c : Held) → Extends a b → Extends b c → Extends a c
extends_then a b c e f = record {
  size = f.size ∙ e.size;
  more = e.more ++ f.more;
  all = f.all ∙ (ap (λ l. l ++ f.more) e.all ∙ append_assoc a.matrices e.more f.more);
}

pub extends_count : (a b : Held) → Extends a b → length a.matrices ≤ length b.matrices
extends_count a b e = let n : length b.matrices ≡ length a.matrices + length e.more = ap length e.all ∙ length-append a.matrices e.more in omega (arith, n)

pub extends_at : (a b : Held) → Extends a b → (k : ℕ) → k < length a.matrices → set_at b k ≡ set_at a k
extends_at a b e k low = ap (λ l. get_or l k no_matrix) e.all ∙ get_or_append_left a.matrices e.more no_matrix k low

pub nothing_found : (n : ℕ) (f : ℕ → ℕ) → AreFirstFound n n f 0
nothing_found n f = record { each = λ k l m. absurd (omega (arith, l, m)); order = λ k p l m b. absurd (omega (arith, m)) }

found_step : (old b c i k : ℕ) (f g : ℕ → ℕ) → old ≤ b → ((p : ℕ) → p < i → g p ≡ f p) → g i ≡ k → AreFirstFound old b f i → ((k < b) × (c ≡ b)) ⊎ ((k ≡ b) × (c ≡ b + 1)) → AreFirstFound old c g (i + 1)
found_step old b c i k f g grown same here is how = record { each = each; order = order }
  where
    low : k ≤ b
    low = elim how [ inl h ↦ (let a = h.0 in omega (arith, a)) | inr h ↦ (let a = h.0 in omega (arith, a)) ]

    before : (j : ℕ) → old ≤ j → j < b → (q : ℕ) × (q < i) × (g q ≡ j)
    before j l m = let (q, a, e) = is.each j l m in (q, a, same q a ∙ e)

    each : (j : ℕ) → old ≤ j → j < c → (q : ℕ) × (q < i + 1) × (g q ≡ j)
    each j l m = elim (cases_lt j b) [
      | inl a ↦ let (q, d, e) = before j l a in (q, omega (arith, d), e)
      | inr a ↦ (i, omega arith, here ∙ last j m a how)
    ]
      where
        last : (j : ℕ) → j < c → b ≤ j → ((k < b) × (c ≡ b)) ⊎ ((k ≡ b) × (c ≡ b + 1)) → k ≡ j
        last j m a (inl h) = let e = h.1 in absurd (omega (arith, m, a, e))
        last j m a (inr h) = let e = h.1 in let d = h.0 in omega (arith, m, a, e, d)

    order : (j p : ℕ) → old ≤ j → p < i + 1 → j < g p → (q : ℕ) × (q < p) × (g q ≡ j)
    order j p l m above = elim (cases_lt p i) [
      | inl a ↦ let (q, d, e) = is.order j p l a (subst (λ v. j < v) (same p a) above) in (q, d, same q (omega (arith, d, a)) ∙ e)
      | inr a ↦ let at : p ≡ i = omega (arith, a, m) in
          let less : j < k = subst (λ v. j < v) (ap g at ∙ here) above in
          let (q, d, e) = before j l (omega (arith, less, low)) in (q, omega (arith, d, at), e)
    ]

pub grows_step : (a b c : Held) (f g : ℕ → ℕ) (i k : ℕ) → Grows a b f i → ((p : ℕ) → p < i → g p ≡ f p) → g i ≡ k → Extends b c → k < length c.matrices
    → GrowsAt b c k → Grows a c g (i + 1)
grows_step a b c f g i k grown same here more low how = record {
  held = extends_then a b c grown.held more;
  low = lows;
  found = found_step (length a.matrices) (length b.matrices) (length c.matrices) i k f g (extends_count a b grown.held) same here grown.found (counts how);
}
  where
    counts : GrowsAt b c k → ((k < length b.matrices) × (length c.matrices ≡ length b.matrices)) ⊎ ((k ≡ length b.matrices) × (length c.matrices ≡ length b.matrices + 1))
    counts (inl h) = inl (h.0, ap (λ (x : Held). length x.matrices) h.1)
    counts (inr h) = inr h

    lows : (p : ℕ) → p < i + 1 → g p < length c.matrices
    lows p m = elim (cases_lt p i) [
      | inl l ↦ let e = same p l in let d = grown.low p l in let n = extends_count b c more in omega (arith, e, d, n)
      | inr l ↦ let at : g p ≡ k = ap g (let e : p ≡ i = omega (arith, l, m) in e) ∙ here in omega (arith, at, low)
    ]

pub new_before : (a b : Held) → Extends a b → (i j : ℕ) → i < length a.matrices → j < length a.matrices → IsNew b (set_at b i) (set_at b j) → IsNew b (set_at a i) (set_at a j)
new_before a b e i j l m is = subst (λ n. IsNew b (set_at a i) n) (extends_at a b e j m) (subst (λ n. IsNew b n (set_at b j)) (extends_at a b e i l) is)

-- what has come on so far are products
pub products_found : (a b : Held) (f first second : ℕ → ℕ) (i n : ℕ) → i ≤ n → Grows a b f i → ((p : ℕ) → p < i → IsComposition (set_at a (first p)) (set_at a (second p)) (set_at b (f p))) → AreProducts a b first second n
products_found a b f first second i n low grown pairs = λ k from to. (
    let (p, m, e) = grown.found.each k from to in
    (p, omega (arith, m, low), subst (λ j. IsComposition (set_at a (first p)) (set_at a (second p)) (set_at b j)) e (pairs p m))
    )

-- what is got stands there
pub low_got : {X : Type 0} (xs : List X) (k : ℕ) (x : X) → slice_get xs k ≡ Some x → k < length xs
low_got {X} xs k x e = by (slice_get_cases xs k).1
  where
    by : ((y : X) × (k < length xs) × (slice_get xs k ≡ Some y) × (get_or xs k y ≡ y)) ⊎ ((length xs ≤ k) × (slice_get xs k ≡ None)) → k < length xs
    by (inl h) = h.1
    by (inr h) = let n : Some x ≡ None = sym e ∙ h.1 in absurd (cc)

-- what is kept of a set
module _ (old new : Held) (m : Matrix) where
  abbrev Kept : ℕ → Type 0
  Kept k = (new ≡ old) ⊎ ((k ≡ length old.matrices) × (new ≡ record old { matrices = old.matrices ++ m ∷ [] }))

  extends_one : (k : ℕ) → Kept k → Extends old new
  extends_one k (inl e) = subst (λ h. Extends old h) (sym e) (extends_self old)
  extends_one k (inr h) = record { size = ap (λ (x : Held). x.size) h.1; more = m ∷ []; all = ap (λ (x : Held). x.matrices) h.1 }

  pub extends_kept : (r : Result ℕ RowFault) → IfOk r Kept → OnErr r ((new ≡ old) × ¬ IsHeld old m) → Extends old new
  extends_kept (Ok k) a b = extends_one k a
  extends_kept (Err e) a b = subst (λ h. Extends old h) (sym b.0) (extends_self old)

  -- where one number stands at all of some places
  pub one_kept : (k n : ℕ) (f : ℕ → ℕ) → slice_get new.matrices k ≡ Some m → Kept k → 0 < n → ((i : ℕ) → i < n → f i ≡ k) → Grows old new f n
  one_kept k n f got kept some same = record {
    held = extends_one k kept;
    low = λ p l. (let e = same p l in omega (arith, e, inside));
    found = record {
      each = λ j from to. (0, some, same 0 some ∙ elim kept [ inl e ↦ (let s = ap (λ (x : Held). length x.matrices) e in absurd (omega (arith, from, to, s))) | inr h ↦ (let here = h.0 in let s = more h.1 in omega (arith, from, to, here, s)) ]);
      order = λ j p from l above. (let e = same p l in elim kept [ inl h ↦ (let s = ap (λ (x : Held). length x.matrices) h in absurd (omega (arith, from, above, e, inside, s))) | inr h ↦ (let here = h.0 in absurd (omega (arith, from, above, e, here))) ]);
    };
  }
    where
      inside : k < length new.matrices
      inside = low_got new.matrices k m got

      more : new ≡ record old { matrices = old.matrices ++ m ∷ [] } → length new.matrices ≡ length old.matrices + 1
      more e = ap (λ (x : Held). length x.matrices) e ∙ length-append old.matrices (m ∷ [])

  pub set_kept : (r : Result ℕ RowFault) → IfOk r (λ k. slice_get new.matrices k ≡ Some m) → IfOk r (λ k. (k < length new.matrices) × (set_at new k ≡ m))
  set_kept (Ok k) e = (low_got new.matrices k m e, get_or_from_slice_get new.matrices k m no_matrix e)
  set_kept (Err f) e = tt

  pub grows_kept : (r : Result ℕ RowFault) → IfOk r (λ k. slice_get new.matrices k ≡ Some m) → IfOk r Kept
      → IfOk r (GrowsAt old new)
  grows_kept (Ok k) e (inl h) = inl (subst (λ (x : Held). k < length x.matrices) h (low_got new.matrices k m e), h)
  grows_kept (Ok k) e (inr h) = inr (h.0, ap (λ (x : Held). length x.matrices) h.1 ∙ length-append old.matrices (m ∷ []))
  grows_kept (Err f) e h = tt

pub pairs_kept : (new : Held) (m a b c d : Matrix) (r : Result ℕ RowFault) → IfOk r (λ k. (k < length new.matrices) × (set_at new k ≡ m)) → a ≡ c → b ≡ d → IsComposition c d m
    → IfOk r (λ k. (k < length new.matrices) × IsComposition a b (set_at new k))
pairs_kept new m a b c d (Ok k) h e f is = (h.0, subst (λ n. IsComposition a b n) (sym h.1) (subst (λ n. IsComposition n b m) (sym e) (subst (λ n. IsComposition c n m) (sym f) is)))
pairs_kept new m a b c d (Err f') h e f is = tt

pub new_kept : (old new : Held) (m a b c d : Matrix) (r : Result ℕ RowFault) → OnErr r ((new ≡ old) × ¬ IsHeld old m) → m.size ≡ old.size → IsMatrix m → a ≡ c → b ≡ d → IsComposition c d m
    → OnErr r ((new ≡ old) × IsNew old a b)
new_kept old new m a b c d (Ok k) h s i e f is = tt
new_kept old new m a b c d (Err x) h s i e f is = (h.0, (m, s, i, subst (λ n. IsComposition n b m) (sym e) (subst (λ n. IsComposition c n m) (sym f) is), h.1))

pub on_err : {X E : Type 0} (r : Result X E) (P : Type 0) → P → OnErr r P
on_err (Ok x) P p = tt
on_err (Err e) P p = p

-- the products so far, and one more
pub pairs_step : (a b c : Held) (f g : ℕ → ℕ) (i k : ℕ) (first second : ℕ → ℕ) → Grows a b f i → ((p : ℕ) → p < i → g p ≡ f p) → g i ≡ k → Extends b c
    → first i < length a.matrices → second i < length a.matrices → IsComposition (set_at b (first i)) (set_at b (second i)) (set_at c k)
    → ((p : ℕ) → p < i → IsComposition (set_at a (first p)) (set_at a (second p)) (set_at b (f p)))
    → (p : ℕ) → p < i + 1 → IsComposition (set_at a (first p)) (set_at a (second p)) (set_at c (g p))
pairs_step a b c f g i k first second grown same here more low_first low_second one all p l = elim (cases_lt p i) [
  | inl m ↦ subst (λ n. IsComposition (set_at a (first p)) (set_at a (second p)) n) (sym (extends_at b c more (f p) (grown.low p m)) ∙ ap (λ n. set_at c n) (sym (same p m))) (all p m)
  | inr m ↦ let e : i ≡ p = omega (arith, l, m) in subst (λ n. IsComposition (set_at a (first n)) (set_at a (second n)) (set_at c (g n))) e last
]
  where
    last : IsComposition (set_at a (first i)) (set_at a (second i)) (set_at c (g i))
    last =
        subst (λ n. IsComposition (set_at a (first i)) (set_at a (second i)) (set_at c n)) (sym here)
        (subst (λ n. IsComposition n (set_at a (second i)) (set_at c k)) (extends_at a b grown.held (first i) low_first)
        (subst (λ n. IsComposition (set_at b (first i)) n (set_at c k)) (extends_at a b grown.held (second i) low_second) one))
