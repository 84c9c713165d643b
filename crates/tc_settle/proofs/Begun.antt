-- The rows that are found first: that of no tree, and that of a text.
use Rattle.std.proofs.Common.{◌≡◌, inl, inr, ℕ, zero, suc, ◌<◌, ◌≤◌, List, [], ◌∷◌, length, slice_index, refl, ap, ◌∙◌, sym, subst, arith}
use Rattle.tc_settle.specs.declared.closed.Closed.{Closed}
use Rattle.tc_settle.specs.declared.closed.MadeHedge.TheVariants as hedge
use Rattle.tc_settle.specs.Held.{Held, Grows, IsNoneAt, IsHeldAs}
use Rattle.tc_settle.specs.Derived.{from_none}
use Rattle.tc_settle.specs.Closed.{hedge_cost, tree_cost, IsKept}
use Rattle.tc_settle.specs.Settled.{AreUpTo, AreStarts, HoldsNothing, IsAt, IsNoneDone, IsNoneKept, IsTextDone, IsWithHedge, IsReady, IsBegun, TreesTried}
use Rattle.tc_settle.proofs.Kept.{kept_hedge, new_hedge_cost}
use Rattle.tc_settle.proofs.Going.{none_done_stays}

pub kept_nothing : (s : Held) (c : Closed) → HoldsNothing s → c.hedges.items ≡ [] → c.hedge_costs.items ≡ [] → c.trees.items ≡ [] → c.tree_costs.items ≡ [] → IsKept s c
kept_nothing s c (trees, hedges) a b d e = record {
  hedge_count = ap length b ∙ sym hedges;
  tree_count = ap length e ∙ sym trees;
  made_hedge_count = ap length a ∙ sym hedges;
  made_tree_count = ap length d ∙ sym trees;
  hedges_derive = λ u low. absurd (omega (arith, low, hedges));
  trees_derive = λ u low. absurd (omega (arith, low, trees));
  hedges_made = λ u low. absurd (omega (arith, low, hedges));
  trees_made = λ u low. absurd (omega (arith, low, trees));
  hedges_in_order = λ i j l low. absurd (omega (arith, low, hedges));
  trees_in_order = λ i j l low. absurd (omega (arith, low, trees));
}

module _ (s r : Held) (c d : Closed) (g : Grows s r) (nothing : HoldsNothing s) (kept : IsKept s c) (trees : r.trees ≡ s.trees) (u : ℕ) (at : IsNoneAt r u) (is : IsHeldAs s.hedges r.hedges u) (with : IsWithHedge c hedge.None 0 d) where
  first : (u ≡ s.hedges) × (r.hedges ≡ suc s.hedges)
  first = by is
    where
      by : IsHeldAs s.hedges r.hedges u → (u ≡ s.hedges) × (r.hedges ≡ suc s.hedges)
      by (inl (low, e)) = absurd (omega (arith, low, nothing.1))
      by (inr new) = new

  here : IsNoneAt r s.hedges
  here = subst (IsNoneAt r) first.0 at

  pub begun_kept : IsKept r d
  begun_kept =
      kept_hedge s r c d g 0 hedge.None kept trees first.1 with 0 (from_none here) (inl (omega arith, refl)) (here, new_hedge_cost s r c d g 0 hedge.None kept trees first.1 with) (λ k low. absurd (omega (arith, low, nothing.1)))

  pub begun_hedges : r.hedges ≡ 1
  begun_hedges = omega (arith, first.1, nothing.1)

  begun_up : AreUpTo r d 0
  begun_up = record { hedges = λ k low. at_zero k (omega (arith, low, first.1)); trees = λ k low. absurd (omega (arith, low, trees, nothing.0)) }
    where
      at_zero : (k : ℕ) → k ≤ s.hedges → hedge_cost d k ≤ 0
      at_zero k low = let same : k ≡ s.hedges = omega (arith, low, nothing.1) in subst (λ w. hedge_cost d w ≤ 0) (sym same) (omega (arith, new_hedge_cost s r c d g 0 hedge.None kept trees first.1 with))

  begun_none : IsNoneDone r d
  begun_none = (s.hedges, here, omega (arith, new_hedge_cost s r c d g 0 hedge.None kept trees first.1 with))

  pub none_kept : (most : ℕ) → 1 ≤ most → IsNoneKept most r d
  none_kept most some = record {
    kept = begun_kept;
    hedges = omega (arith, begun_hedges, some);
    trees = trees ∙ nothing.0;
    up_to = begun_up;
    done = begun_none;
  }

-- the first level
pub begun_ready : (most : ℕ) (s : Held) (c : Closed) (starts : List ℕ) → IsBegun most s c → starts ≡ 0 ∷ 0 ∷ [] → IsReady most 1 s c starts 0
begun_ready most s c starts begun e = record {
  kept = begun.kept;
  few = begun.few;
  hedges = λ h low. omega (arith, begun.hedges h low);
  trees = λ t last. (omega (arith, begun.trees t last), omega (arith, begun.trees t last));
  done = record {
    none = begun.none;
    text = begun.text;
    wraps = λ h low less. absurd (omega (arith, less));
    appends = λ h t low last less. absurd (omega (arith, less, begun.trees t last));
  };
  within = omega arith;
  before = λ h low. absurd (omega (arith, low));
  behind = λ h high low. omega (arith, begun.hedges h low);
  count = ap length e;
  begun = subst (AreStarts s c) (sym e) (λ j low. by j (omega (arith, low)));
}
  where
    by : (j : ℕ) → j < 2 → (slice_index (0 ∷ 0 ∷ []) j ≤ s.trees) × ((t : ℕ) → t < s.trees → slice_index (0 ∷ 0 ∷ []) j ≤ t → j ≤ tree_cost c t) × ((t : ℕ) → t < s.trees → t < slice_index (0 ∷ 0 ∷ []) j → tree_cost c t < j)
    by zero low = (omega arith, λ t last from. omega arith, λ t last to. absurd (omega (arith, to)))
    by (suc zero) low = (omega arith, λ t last from. omega (arith, begun.trees t last), λ t last to. absurd (omega (arith, to)))
    by (suc (suc j)) low = absurd (omega (arith, low))

pub begun_at : (most : ℕ) (s : Held) (c : Closed) → most < 4294967295 → IsNoneKept most s c → IsAt s c most 1
begun_at most s c limit none = record {
  kept = none.kept;
  few = record { limit = limit; hedges = none.hedges; trees = omega (arith, none.trees) };
  up_to = record { hedges = λ h low. omega (arith, none.up_to.hedges h low); trees = λ t last. omega (arith, none.up_to.trees t last) };
}

pub begun_text : (most : ℕ) (s r : Held) (c d : Closed) → IsNoneKept most s c → TreesTried most 1 s c r d (IsTextDone r d) → IsBegun most r d
begun_text most s r c d none tried = record {
  kept = tried.steps.at.kept;
  few = tried.steps.at.few;
  hedges = λ h low. let old : h < s.hedges = omega (arith, low, tried.hedges) in omega (arith, tried.steps.goes.hedge_costs h old, none.up_to.hedges h old);
  trees = λ t last. tried.steps.goes.new_trees t (omega (arith, none.trees)) last;
  none = none_done_stays 1 s r c d tried.steps.goes none.done;
  text = tried.done;
}
