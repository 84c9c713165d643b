-- What is tried is dead, or held at no greater cost.
use Rattle.std.proofs.Common.{◌≡◌, ◌⊎◌, inl, inr, ℕ, suc, ◌+◌, ◌<◌, ◌≤◌, refl, ◌∙◌, sym, subst, arith, Option, Some, None}
use Rattle.std.specs.Prelude.{MatchOption}
use Rattle.tc_settle.specs.declared.closed.Closed.{Closed}
use Rattle.tc_settle.specs.declared.closed.MadeHedge.TheVariants as hedge
use Rattle.tc_settle.specs.declared.closed.MadeTree.TheVariants as tree
use Rattle.tc_settle.specs.Held.{Held, Grows, IsHeldAs, IsUnchanged, IsAppendAt, IsWrapAt, IsTextAt}
use Rattle.tc_settle.specs.Derived.{from_append, from_wrap, from_text, AllDerive, HaveTooManyHedges, HaveTooManyTrees}
use Rattle.tc_settle.specs.declared.rows.HoldFault.{HoldFault}
use Rattle.tc_settle.specs.declared.rows.HoldFault.TheVariants as hold
use Rattle.tc_settle.specs.Faults.{close_fault}
use Rattle.tc_settle.specs.Closed.{hedge_cost, tree_cost, IsCapped, IsCause, IsKept}
use Rattle.tc_settle.specs.Settled.{AppendCosts, Goes, HedgesTried, Steps, AreFew, AreUpTo, IsAt, IsWithHedge, IsWithTree, IsAppendDone, IsWrapDone, IsTextDone, TreesTried, WrapCosts}
use Rattle.tc_settle.proofs.Derived.{hedge_stays, tree_stays, capped_sum, capped_more, capped_most, all_stay}
use Rattle.tc_settle.proofs.Kept.{kept_unchanged, goes_unchanged, kept_hedge, goes_hedge, new_hedge_costs, new_hedge_cost, new_hedge_trees, kept_tree, goes_tree, new_tree_cost, new_tree_hedges}

pub all_derive : (s : Held) (c : Closed) → IsKept s c → AllDerive s
all_derive s c kept = record {
  hedges = λ u low. let (n, d, e) = kept.hedges_derive u low in (n, d);
  trees = λ u low. let (n, d, e) = kept.trees_derive u low in (n, d);
}

pub up_to_goes : (s r : Held) (c d : Closed) (cost : ℕ) → Goes cost s c r d → AreUpTo s c cost → AreUpTo r d cost
up_to_goes s r c d cost goes up = record {
  hedges = λ u low. elim (old_or_new u s.hedges) [ inl few ↦ omega (arith, goes.hedge_costs u few, up.hedges u few) | inr new ↦ omega (arith, goes.new_hedges u new low) ];
  trees = λ u low. elim (old_or_new u s.trees) [ inl few ↦ omega (arith, goes.tree_costs u few, up.trees u few) | inr new ↦ omega (arith, goes.new_trees u new low) ];
}
  where
    old_or_new : (i n : ℕ) → (i < n) ⊎ (n ≤ i)
    old_or_new i n = grind arith

at_none : (P : Type 0) (Q : ℕ → Type 0) (o : Option ℕ) → o ≡ None → MatchOption o P Q → P
at_none P Q o e m = subst (λ w. MatchOption w P Q) e m

is_new : (old new u : ℕ) → IsHeldAs old new u → u ≡ old → new ≡ suc old
is_new old new u is e = grind arith

is_known : (old new u : ℕ) → IsHeldAs old new u → (u ≡ old → ⊥) → (u < old) × (new ≡ old)
is_known old new u (inl known) not = known
is_known old new u (inr (same, one)) not = absurd (not same)

-- a number that was told: it came on as the last, or was held before
module _ (P : Type 0) (At : ℕ → Type 0) (old new : ℕ) (o : Option ℕ) (u : ℕ) (is : o ≡ Some u) (told : MatchOption o P (λ v. At v × IsHeldAs old new v)) where
  told_at : At u × IsHeldAs old new u
  told_at = subst (λ w. MatchOption w P (λ v. At v × IsHeldAs old new v)) is told

  told_new : u ≡ old → (new ≡ suc old) × At old
  told_new last = (is_new old new u told_at.1 last, subst At last told_at.0)

  told_known : (u ≡ old → ⊥) → At u × (u < old) × (new ≡ old)
  told_known not = let known = is_known old new u told_at.1 not in (told_at.0, known.0, known.1)

module _ (s r : Held) (c : Closed) (most cost : ℕ) (g : Grows s r) (at_cost : IsAt s c most cost) where
  kept : IsKept s c
  kept = at_cost.kept

  few : AreFew s c most
  few = at_cost.few

  up : AreUpTo s c cost
  up = at_cost.up_to

  steps_unchanged : IsUnchanged s r → Steps most cost s c r c
  steps_unchanged same = record {
    at = record {
      kept = kept_unchanged s r c g same kept;
      few = record { limit = few.limit; hedges = omega (arith, same.1, few.hedges); trees = omega (arith, same.0, few.trees) };
      up_to = up_to_goes s r c c cost (goes_unchanged s r c cost g same) up;
    };
    goes = goes_unchanged s r c cost g same;
  }

  more_hedges : (d : Closed) → IsKept r d → Goes cost s c r d → r.hedges ≡ suc s.hedges → r.trees ≡ s.trees → suc s.hedges ≤ most → Steps most cost s c r d
  more_hedges d all goes one trees within = record {
    at = record {
      kept = all;
      few = record { limit = few.limit; hedges = omega (arith, within, one); trees = omega (arith, trees, few.trees) };
      up_to = up_to_goes s r c d cost goes up;
    };
    goes = goes;
  }

  more_trees : (d : Closed) → IsKept r d → Goes cost s c r d → r.trees ≡ suc s.trees → r.hedges ≡ s.hedges → suc s.trees ≤ most → Steps most cost s c r d
  more_trees d all goes one hedges within = record {
    at = record {
      kept = all;
      few = record { limit = few.limit; hedges = omega (arith, hedges, few.hedges); trees = omega (arith, within, one) };
      up_to = up_to_goes s r c d cost goes up;
    };
    goes = goes;
  }

  module _ (h t : ℕ) (costs : AppendCosts s c h t cost) (trees : r.trees ≡ s.trees) (o : Option ℕ) (made : MatchOption o (r.no_append h t × IsUnchanged s r) (λ v. IsAppendAt r h t v × IsHeldAs s.hedges r.hedges v)) where
    pub append_dead : o ≡ None → HedgesTried most cost s c r c (IsAppendDone r c h t)
    append_dead e = let (dead, same) = at_none (r.no_append h t × IsUnchanged s r) (λ v. IsAppendAt r h t v × IsHeldAs s.hedges r.hedges v) o e made in record {
      steps = steps_unchanged same;
      trees = trees;
      done = inl dead;
    }

    module _ (u : ℕ) (is : o ≡ Some u) where
      pub append_known : (u ≡ s.hedges → ⊥) → HedgesTried most cost s c r c (IsAppendDone r c h t)
      append_known not = let (at, low, same) = told_known (r.no_append h t × IsUnchanged s r) (IsAppendAt r h t) s.hedges r.hedges o u is made not in record {
        steps = steps_unchanged (trees, same);
        trees = trees;
        done = inr (u, at, omega (arith, up.hedges u low, capped_most (hedge_cost c h + tree_cost c t) cost costs.sum));
      }

      module _ (last : u ≡ s.hedges) (d : Closed) (with : IsWithHedge c (hedge.Append h t) cost d) where
        append_one : r.hedges ≡ suc s.hedges
        append_one = (told_new (r.no_append h t × IsUnchanged s r) (IsAppendAt r h t) s.hedges r.hedges o u is made last).0

        append_at : IsAppendAt r h t s.hedges
        append_at = (told_new (r.no_append h t × IsUnchanged s r) (IsAppendAt r h t) s.hedges r.hedges o u is made last).1

        append_kept : IsKept r d
        append_kept =
            let (m, d1, e1) = kept.hedges_derive h costs.hedge in
            let (n, d2, e2) = kept.trees_derive t costs.tree in
            let same : hedge_cost d h + tree_cost d t ≡ hedge_cost c h + tree_cost c t = omega (
              arith,
              new_hedge_costs s r c d g cost (hedge.Append h t) kept trees append_one with h costs.hedge,
              new_hedge_trees s r c d g cost (hedge.Append h t) kept trees append_one with t,
            ) in
            kept_hedge s r c d g cost (hedge.Append h t) kept trees append_one with (m + n) (from_append (hedge_stays g d1) (tree_stays g d2) append_at)
            (capped_sum m n (hedge_cost c h) (tree_cost c t) cost e1 e2 costs.sum) (
              omega (arith, costs.hedge, append_one),
              omega (arith, costs.tree, trees),
              append_at,
              subst (λ k. IsCapped k (hedge_cost d s.hedges)) (sym same) (subst (IsCapped (hedge_cost c h + tree_cost c t)) (sym (new_hedge_cost s r c d g cost (hedge.Append h t) kept trees append_one with)) costs.sum),
            ) up.hedges

        pub append_new : suc u ≤ most → HedgesTried most cost s c r d (IsAppendDone r d h t)
        append_new within = record {
          steps = more_hedges d append_kept (goes_hedge s r c d g cost (hedge.Append h t) kept trees append_one with) append_one trees (omega (arith, within, last));
          trees = trees;
          done = inr (
            s.hedges,
            append_at,
            omega (
              arith,
              new_hedge_cost s r c d g cost (hedge.Append h t) kept trees append_one with,
              new_hedge_costs s r c d g cost (hedge.Append h t) kept trees append_one with h costs.hedge,
              new_hedge_trees s r c d g cost (hedge.Append h t) kept trees append_one with t,
              capped_most (hedge_cost c h + tree_cost c t) cost costs.sum,
            ),
          );
        }

        pub append_too_many : most ≤ u → HaveTooManyHedges r most
        append_too_many past = (omega (arith, past, append_one, last), all_derive r d append_kept)

  module _ (a h : ℕ) (symbol : a < s.symbols) (costs : WrapCosts s c h cost) (hedges : r.hedges ≡ s.hedges) (o : Option ℕ) (made : MatchOption o (r.no_wrap a h × IsUnchanged s r) (λ v. IsWrapAt r a h v × IsHeldAs s.trees r.trees v)) where
    pub wrap_dead : o ≡ None → TreesTried most cost s c r c (IsWrapDone r c a h)
    wrap_dead e = let (dead, same) = at_none (r.no_wrap a h × IsUnchanged s r) (λ v. IsWrapAt r a h v × IsHeldAs s.trees r.trees v) o e made in record {
      steps = steps_unchanged same;
      hedges = hedges;
      done = inl dead;
    }

    module _ (u : ℕ) (is : o ≡ Some u) where
      pub wrap_known : (u ≡ s.trees → ⊥) → TreesTried most cost s c r c (IsWrapDone r c a h)
      wrap_known not = let (at, low, same) = told_known (r.no_wrap a h × IsUnchanged s r) (IsWrapAt r a h) s.trees r.trees o u is made not in record {
        steps = steps_unchanged (same, hedges);
        hedges = hedges;
        done = inr (u, at, omega (arith, up.trees u low, capped_most (hedge_cost c h + 1) cost costs.sum));
      }

      module _ (last : u ≡ s.trees) (d : Closed) (with : IsWithTree c (tree.Wrap a h) cost d) where
        wrap_one : r.trees ≡ suc s.trees
        wrap_one = (told_new (r.no_wrap a h × IsUnchanged s r) (IsWrapAt r a h) s.trees r.trees o u is made last).0

        wrap_at : IsWrapAt r a h s.trees
        wrap_at = (told_new (r.no_wrap a h × IsUnchanged s r) (IsWrapAt r a h) s.trees r.trees o u is made last).1

        wrap_kept : IsKept r d
        wrap_kept =
            let (n, d1, e1) = kept.hedges_derive h costs.hedge in
            let low : a < r.symbols = subst (λ k. a < k) (sym g.symbols) symbol in
            kept_tree s r c d g cost (tree.Wrap a h) kept hedges wrap_one with (n + 1) (from_wrap low (hedge_stays g d1) wrap_at) (capped_more n (hedge_cost c h) cost e1 costs.sum) (
              low,
              omega (arith, costs.hedge, hedges),
              wrap_at,
              subst (λ k. IsCapped (k + 1) (tree_cost d s.trees)) (sym (new_tree_hedges s r c d g cost (tree.Wrap a h) kept hedges wrap_one with h))
                  (subst (IsCapped (hedge_cost c h + 1)) (sym (new_tree_cost s r c d g cost (tree.Wrap a h) kept hedges wrap_one with)) costs.sum),
            ) up.trees

        pub wrap_new : suc u ≤ most → TreesTried most cost s c r d (IsWrapDone r d a h)
        wrap_new within = record {
          steps = more_trees d wrap_kept (goes_tree s r c d g cost (tree.Wrap a h) kept hedges wrap_one with) wrap_one hedges (omega (arith, within, last));
          hedges = hedges;
          done = inr (
            s.trees,
            wrap_at,
            omega (
              arith,
              new_tree_cost s r c d g cost (tree.Wrap a h) kept hedges wrap_one with,
              new_tree_hedges s r c d g cost (tree.Wrap a h) kept hedges wrap_one with h,
              capped_most (hedge_cost c h + 1) cost costs.sum,
            ),
          );
        }

        pub wrap_too_many : most ≤ u → HaveTooManyTrees r most
        wrap_too_many past = (omega (arith, past, wrap_one, last), all_derive r d wrap_kept)

  module _ (is_one : cost ≡ 1) (hedges : r.hedges ≡ s.hedges) (o : Option ℕ) (made : MatchOption o (r.no_text × IsUnchanged s r) (λ v. IsTextAt r v × IsHeldAs s.trees r.trees v)) where
    pub text_dead : o ≡ None → TreesTried most cost s c r c (IsTextDone r c)
    text_dead e = let (dead, same) = at_none (r.no_text × IsUnchanged s r) (λ v. IsTextAt r v × IsHeldAs s.trees r.trees v) o e made in record {
      steps = steps_unchanged same;
      hedges = hedges;
      done = inl dead;
    }

    module _ (u : ℕ) (is : o ≡ Some u) where
      pub text_known : (u ≡ s.trees → ⊥) → TreesTried most cost s c r c (IsTextDone r c)
      text_known not = let (at, low, same) = told_known (r.no_text × IsUnchanged s r) (IsTextAt r) s.trees r.trees o u is made not in record {
        steps = steps_unchanged (same, hedges);
        hedges = hedges;
        done = inr (u, at, omega (arith, up.trees u low, is_one));
      }

      module _ (last : u ≡ s.trees) (d : Closed) (with : IsWithTree c tree.Text cost d) where
        text_one : r.trees ≡ suc s.trees
        text_one = (told_new (r.no_text × IsUnchanged s r) (IsTextAt r) s.trees r.trees o u is made last).0

        text_at : IsTextAt r s.trees
        text_at = (told_new (r.no_text × IsUnchanged s r) (IsTextAt r) s.trees r.trees o u is made last).1

        text_kept : IsKept r d
        text_kept =
            kept_tree s r c d g cost tree.Text kept hedges text_one with 1 (from_text text_at) (inl (omega arith, is_one)) (text_at, new_tree_cost s r c d g cost tree.Text kept hedges text_one with ∙ is_one) up.trees

        pub text_new : suc u ≤ most → TreesTried most cost s c r d (IsTextDone r d)
        text_new within = record {
          steps = more_trees d text_kept (goes_tree s r c d g cost tree.Text kept hedges text_one with) text_one hedges (omega (arith, within, last));
          hedges = hedges;
          done = inr (s.trees, text_at, omega (arith, new_tree_cost s r c d g cost tree.Text kept hedges text_one with, is_one));
        }

        pub text_too_many : most ≤ u → HaveTooManyTrees r most
        text_too_many past = (omega (arith, past, text_one, last), all_derive r d text_kept)

-- a fault of rows, with which nothing comes on
pub fault_cause : (full : Type 0) (most : ℕ) (s r : Held) (c : Closed) (f : HoldFault) → IsKept s c → Grows s r → IsUnchanged s r → (f ≡ hold.Full → full) → IsCause full most r (close_fault f)
fault_cause full most s r c hold.Full kept g same is = (is refl, all_stay g same (all_derive s c kept))
fault_cause full most s r c hold.NoMemory kept g same is = tt
