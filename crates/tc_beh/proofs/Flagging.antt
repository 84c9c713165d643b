-- The flags of the states to which a tree leads, edge by edge and pattern by pattern.
use Rattle.std.proofs.Common.{◌≡◌, ◌≢◌, ◌<◌, ◌≤◌, ◌⊎◌, inl, inr, ◌+◌, ◌-◌, ◌↔◌, ℕ, List, length, get_or, true, false, subst, sym, ◌∙◌, refl, arith}
use Rattle.std.specs.List.{Contains}
use Rattle.std.proofs.lemmas.Bool.{cases_lt, cases_eq}
use Rattle.std.proofs.lemmas.List.{get_or_past}
use Rattle.tc_model.specs.States as s
use Rattle.tc_model.specs.Grammars as g
use Rattle.tc_auto.specs.Arrows.{AreWithin}
use Rattle.tc_auto.specs.Steps.{leaf}
use Rattle.tc_auto.specs.Stands.{Stands, states}
use Rattle.tc_auto.specs.declared.arrows.Arrow.{Arrow}
use Rattle.tc_auto.specs.declared.auto.Auto.{Auto}
use Rattle.tc_auto.specs.declared.auto.Leaf.{Leaf}
use Rattle.tc_auto.specs.declared.auto.Leaf.TheVariants as l
use Rattle.tc_beh.specs.Rooms.{flag_at}
use Rattle.tc_beh.specs.Appending.{IsTaken, IsStep, Puts}
use Rattle.tc_beh.specs.Bundles.{IsAfter, PutsAfter}

-- the first patterns
pub record PutSoFar (a : Auto) (hedge : List ℕ) (n : ℕ) (patterns new : List ℕ) : Type 0 where
  pub each : (j : ℕ) → j < states a → flag_at new j ≤ 1
  pub exact : (side : s.Side) (x : g.Grammar) → Stands side x a → (j : ℕ) → j < states a
      → (flag_at new j ≡ 1) ↔ ((k : ℕ) × (k < n) × (get_or patterns k 0 ≡ 1) × IsAfter side x a hedge (s.ref_leaf (k + 1)) j)

module _ (a : Auto) (hedge : List ℕ) where
  module _ (patterns : List ℕ) where
    pub none_put : (new : List ℕ) → ((j : ℕ) → j < states a → flag_at new j ≡ 0) → PutSoFar a hedge 0 patterns new
    none_put new isnt = record {
      each = λ j l. let z = isnt j l in omega (arith, z);
      exact = λ side x st j l. (λ h. (let z = isnt j l in absurd (omega (arith, z, h))), λ (k, m, h, after). absurd (omega (arith, m)));
    }

    pub not_put : (n : ℕ) (new : List ℕ) → (get_or patterns n 0 ≡ 1 → ⊥) → PutSoFar a hedge n patterns new → PutSoFar a hedge (n + 1) patterns new
    not_put n new isnt is = record {
      each = is.each;
      exact = λ side x st j l. (
        λ h. (let (k, m, r, after) = (is.exact side x st j l).0 h in (k, omega (arith, m), r, after)),
        λ (k, m, h, after). elim (cases_lt k n) [
          | inl b ↦ (is.exact side x st j l).1 (k, b, h, after)
          | inr b ↦ absurd (isnt (subst (λ i. get_or patterns i 0 ≡ 1) (omega (arith, m, b)) h))
        ],
      );
    }

    pub is_put : (n : ℕ) (mid new : List ℕ) → get_or patterns n 0 ≡ 1 → PutsAfter a hedge (s.ref_leaf (n + 1)) mid new → PutSoFar a hedge n patterns mid → PutSoFar a hedge (n + 1) patterns new
    is_put n mid new is_so more is = record {
      each = λ j l. let b = is.each j l in elim (more.each j) [ inl e ↦ omega (arith, e) | inr e ↦ omega (arith, e, b) ];
      exact = λ side x st j l. (
        λ h. elim ((more.exact side x st j).0 h) [
          | inl b ↦ let (k, m, r, after) = (is.exact side x st j l).0 b in (k, omega (arith, m), r, after)
          | inr b ↦ (n, omega arith, is_so, b)
        ],
        λ (k, m, h, after). elim (cases_lt k n) [
          | inl b ↦ (more.exact side x st j).1 (inl ((is.exact side x st j l).1 (k, b, h, after)))
          | inr b ↦ let same : k ≡ n = omega (arith, m, b) in
              (more.exact side x st j).1 (inr (subst (λ i. IsAfter side x a hedge (s.ref_leaf (i + 1)) j) same after))
        ],
      );
    }

    -- an element, by all patterns
    pub all_put : (n : ℕ) (new : List ℕ) → n ≡ length patterns → PutSoFar a hedge n patterns new → Puts a hedge false patterns new
    all_put n new all is = record { each = is.each; exact = λ side x st j l. (λ h. forth side x ((is.exact side x st j l).0 h), λ h. (is.exact side x st j l).1 (back side x h)) }
      where
        forth : (side : s.Side) (x : g.Grammar) {j : ℕ} → (k : ℕ) × (k < n) × (get_or patterns k 0 ≡ 1) × IsAfter side x a hedge (s.ref_leaf (k + 1)) j
            → (i : ℕ) × (i < states a) × (get_or hedge i 0 ≡ 1) × IsStep side x i false patterns j
        forth side x (k, m, h, (i, low, is_from, edge)) = (i, low, is_from, (l.Ref (k + 1), edge, (refl, omega arith, subst (λ p. get_or patterns p 0 ≡ 1) (omega arith) h)))

        place : (k : ℕ) → get_or patterns k 0 ≡ 1 → k < n
        place k h = elim (cases_lt k (length patterns)) [ inl b ↦ omega (arith, b, all) | inr b ↦ (let z : get_or patterns k 0 ≡ 0 = get_or_past patterns k 0 b in absurd (omega (arith, z, h))) ]

        of_leaf : (side : s.Side) (x : g.Grammar) {j : ℕ} (i : ℕ) → i < states a → get_or hedge i 0 ≡ 1 → (e : Leaf) → s.IsEdge x side i (leaf e) j → IsTaken false patterns e
            → (k : ℕ) × (k < n) × (get_or patterns k 0 ≡ 1) × IsAfter side x a hedge (s.ref_leaf (k + 1)) j
        of_leaf side x i low h l.Text edge taken = absurd (cc)
        of_leaf side x {j} i low h (l.Ref k) edge (is, one, at) =
            let same : k ≡ k - 1 + 1 = omega (arith, one) in
            (k - 1, place (k - 1) at, at, (i, low, h, subst (λ p. s.IsEdge x side i (s.ref_leaf p) j) same edge))

        back : (side : s.Side) (x : g.Grammar) {j : ℕ} → (i : ℕ) × (i < states a) × (get_or hedge i 0 ≡ 1) × IsStep side x i false patterns j
            → (k : ℕ) × (k < n) × (get_or patterns k 0 ≡ 1) × IsAfter side x a hedge (s.ref_leaf (k + 1)) j
        back side x (i, low, h, (e, edge, taken)) = of_leaf side x i low h e edge taken

    -- a text
    pub text_put : (mid new : List ℕ) → ((j : ℕ) → j < states a → flag_at mid j ≡ 0) → PutsAfter a hedge s.text_leaf mid new → Puts a hedge true patterns new
    text_put mid new isnt more = record {
      each = λ j m. let z = isnt j m in elim (more.each j) [ inl e ↦ omega (arith, e) | inr e ↦ omega (arith, e, z) ];
      exact = λ side x st j m. (
        λ h. elim ((more.exact side x st j).0 h) [
          | inl b ↦ let z = isnt j m in absurd (omega (arith, z, b))
          | inr (i, low, is, edge) ↦ (i, low, is, (l.Text, edge, refl))
        ],
        λ (i, low, h, (e, edge, taken)). (more.exact side x st j).1 (inr (of_leaf side x i low h e edge taken)),
      );
    }
      where
        of_leaf : (side : s.Side) (x : g.Grammar) {j : ℕ} (i : ℕ) → i < states a → get_or hedge i 0 ≡ 1 → (e : Leaf) → s.IsEdge x side i (leaf e) j → IsTaken true patterns e
            → IsAfter side x a hedge s.text_leaf j
        of_leaf side x i low h l.Text edge taken = (i, low, h, edge)
        of_leaf side x i low h (l.Ref k) edge (is, one, at) = absurd (cc)
