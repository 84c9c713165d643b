-- The first line that doesn't fit, from the first of each kind.
use Rattle.std.proofs.Common.{get_or, true, false, Option, subst, sym, ap, ◌∙◌, ◌≡◌, ◌<◌, ◌≤◌, ◌+◌, ◌⊎◌, ◌↔◌, inl, inr, ℕ, List, length, slice_get, Some, Bool, IsTrue, refl, arith}
use Rattle.std.specs.List.{All, AllWithin}
use Rattle.std.proofs.lemmas.Option.{slice_get_within, get_or_from_slice_get}
use Rattle.std.proofs.lemmas.List.Elements.{All-contains}
use Rattle.tc_model.specs.declared.lists.TreeLine.{TreeLine}
use Rattle.tc_model.specs.declared.lists.HedgeLine.{HedgeLine}
use Rattle.tc_model.specs.declared.lists.CertData.{CertData}
use Rattle.tc_model.specs.CertificateFits.{Sizes, OutputFits, TreeFits, HedgeFits, IsUnfit, IsFirstUnfit, line_of_output, line_of_tree, line_of_hedge}
use Rattle.tc_verify.proofs.Kept.{contains_at}
use Rattle.tc_verify.proofs.Made.{got}

-- the first element of a list of which something doesn't hold
pub record IsFirstNot {X : Type 0} (P : X → Type 0) (xs : List X) (k : ℕ) : Type 0 where
  pub low : k < length xs
  pub before : (i : ℕ) (v : X) → i < k → slice_get xs i ≡ Some v → P v
  pub breaks : (v : X) → slice_get xs k ≡ Some v → ¬ P v

below_or : (a b : ℕ) → (a < b) ⊎ (b ≤ a)
below_or a b = grind arith

one_some : {X : Type 0} (o : Option X) (u v : X) → o ≡ Some u → o ≡ Some v → u ≡ v
one_some o u v a b = cc

-- of a list that is gone through, so many fit
module _ {X : Type 0} (P : X → Type 0) (xs : List X) (i : ℕ) where
  pub one_fits : (v : X) (b : Bool) → AllWithin P xs 0 i → slice_get xs i ≡ Some v → IsTrue b ↔ P v → b ≡ true → AllWithin P xs 0 (i + 1)
  one_fits v b all at test said k d z low = elim (below_or k i) [ inl l ↦ all k d z l | inr h ↦ subst P (sym (here k d (omega (arith, h, low)))) (test.0 said) ]
    where
      here : (k : ℕ) (d : X) → k ≡ i → get_or xs k d ≡ v
      here k d e = ap (λ n. get_or xs n d) e ∙ get_or_from_slice_get xs i v d at

  pub first_not : (v : X) (b : Bool) → AllWithin P xs 0 i → slice_get xs i ≡ Some v → IsTrue b ↔ P v → b ≡ false → IsFirstNot P xs i
  first_not v b all at test said = record {
    low = slice_get_within xs i v at;
    before = λ k w low there. subst P (get_or_from_slice_get xs k w w there) (all k w (omega arith) low);
    breaks = λ w there p. bad b test said (subst P (one_some (slice_get xs i) w v there at) p);
  }
    where
      bad : (b : Bool) → IsTrue b ↔ P v → b ≡ false → P v → ⊥
      bad true t n p = cc
      bad false t n p = let f = t.1 p in cc

  pub all_fit_in : (end : ℕ) → end ≡ length xs → end ≤ i → AllWithin P xs 0 i → All P xs
  all_fit_in end e h all k d low = all k d (omega arith) (omega (arith, low, e, h))

module _ (s : Sizes) (c : CertData) where
  pub output_first : (k : ℕ) → IsFirstNot (OutputFits s c) c.outputs k → IsFirstUnfit s c (line_of_output k)
  output_first k f = record { unfit = unfit (got c.outputs k f.low); least = least }
    where
      unfit : (ps : List (ℕ × ℕ)) × (slice_get c.outputs k ≡ Some ps) → IsUnfit s c (line_of_output k)
      unfit (ps, at) = inl (k, ps, refl, at, f.breaks ps at)

      few : k < length c.outputs
      few = f.low

      least : (l : ℕ) → IsUnfit s c l → line_of_output k ≤ l
      least l (inl (j, ps, e, at, bad)) = elim (below_or j k) [ inl low ↦ absurd (bad (f.before j ps low at)) | inr high ↦ omega (arith, high, e) ]
      least l (inr (inl (j, t, e, at, bad))) = let a = few in omega (arith, a, e)
      least l (inr (inr (j, h, e, at, bad))) = let a = few in omega (arith, a, e)

  pub tree_first : All (OutputFits s c) c.outputs → (k : ℕ) → IsFirstNot (TreeFits s c) c.trees k → IsFirstUnfit s c (line_of_tree c k)
  tree_first o k f = record { unfit = unfit (got c.trees k f.low); least = least }
    where
      unfit : (t : TreeLine) × (slice_get c.trees k ≡ Some t) → IsUnfit s c (line_of_tree c k)
      unfit (t, at) = inr (inl (k, t, refl, at, f.breaks t at))

      few : k < length c.trees
      few = f.low

      least : (l : ℕ) → IsUnfit s c l → line_of_tree c k ≤ l
      least l (inl (j, ps, e, at, bad)) = absurd (bad (All-contains (OutputFits s c) c.outputs ps o (contains_at c.outputs j ps at)))
      least l (inr (inl (j, t, e, at, bad))) = elim (below_or j k) [ inl low ↦ absurd (bad (f.before j t low at)) | inr high ↦ omega (arith, high, e) ]
      least l (inr (inr (j, h, e, at, bad))) = let a = few in omega (arith, a, e)

  pub hedge_first : All (OutputFits s c) c.outputs → All (TreeFits s c) c.trees → (k : ℕ) → IsFirstNot (HedgeFits s c) c.hedges k → IsFirstUnfit s c (line_of_hedge c k)
  hedge_first o p k f = record { unfit = unfit (got c.hedges k f.low); least = least }
    where
      unfit : (h : HedgeLine) × (slice_get c.hedges k ≡ Some h) → IsUnfit s c (line_of_hedge c k)
      unfit (h, at) = inr (inr (k, h, refl, at, f.breaks h at))

      least : (l : ℕ) → IsUnfit s c l → line_of_hedge c k ≤ l
      least l (inl (j, ps, e, at, bad)) = absurd (bad (All-contains (OutputFits s c) c.outputs ps o (contains_at c.outputs j ps at)))
      least l (inr (inl (j, t, e, at, bad))) = absurd (bad (All-contains (TreeFits s c) c.trees t p (contains_at c.trees j t at)))
      least l (inr (inr (j, h, e, at, bad))) = elim (below_or j k) [ inl low ↦ absurd (bad (f.before j h low at)) | inr high ↦ omega (arith, high, e) ]
