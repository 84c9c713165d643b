-- What is decided of rows that are all found.
use Rattle.std.proofs.Common.{◌≡◌, ◌<◌, ◌≤◌, ℕ, length, true, subst, sym, arith}
use Rattle.tc_model.specs.Trees.{Trees}
use Rattle.tc_rows.specs.Triples.{Triple}
use Rattle.tc_rows.specs.Derivations.{ArePlain}
use Rattle.tc_rows.proofs.AllLaws.{rows_are_lawful}
use Rattle.tc_settle.specs.Derived.{AllDerive}
use Rattle.tc_settle.specs.Held.{Held, SameRows}
use Rattle.tc_settle.specs.Closed.{IsClosure, IsFirstFailing, tree_cost}
use Rattle.tc_settle.specs.Made.{IsOneMade}
use Rattle.tc_settle.specs.declared.closed.Closed.{Closed}
use Rattle.tc_close.specs.RowState.{RowState, held_of, Known}
use Rattle.tc_close.specs.Decisions.{IsCounter, KeepsCounts, IsSafeWith, IsUnsafeBy, IsFarUnsafe}
use Rattle.tc_close.specs.declared.decision.Counts.{Counts}
use Rattle.tc_close.proofs.Decided.{keeps_counts, are_counts, is_safe, shown, no_less, some_counter, all_far}
use Rattle.tc_close.proofs.Made.{tree_is}

-- the first row that fails, where the same rows are held
pub first_on : (a b : Held) (c : Closed) (k : ℕ) → SameRows a b → IsFirstFailing a c k → IsFirstFailing b c k
first_on a b c k (g, h) first = record {
  held = omega (arith, first.held, g.trees);
  fails = g.fails k first.held first.fails;
  passed = λ t l. g.passes t (omega (arith, l, first.held)) (first.passed t l);
  least = λ t l f. first.least t (omega (arith, l, h.trees)) (h.fails t l f);
}

module _ (x : Triple) (s : RowState) (IsOf : Triple → Type 0) (is : IsOf x) (known : Known IsOf s) (c : Closed) (closure : IsClosure (held_of IsOf s) c) (most : ℕ) where
  all : AllDerive (held_of IsOf s)
  all = record {
    hedges = λ u l. let (n, d, capped) = closure.kept.hedges_derive u l in (n, d);
    trees = λ u l. let (n, d, capped) = closure.kept.trees_derive u l in (n, d);
  }

  pub keeps : s.is_whole ≡ true → length s.trees ≤ most → length s.hedges ≤ most → KeepsCounts x most
  keeps whole trees hedges = keeps_counts x s IsOf is known all closure.closed most whole trees hedges

  pub safe_with : s.is_whole ≡ true → length s.trees ≤ most → length s.hedges ≤ most → (n : Counts) → n.trees ≡ length s.trees → n.hedges ≡ length s.hedges → n.outputs ≡ length s.outputs.matrices
      → ((t : ℕ) → t < length s.trees → (held_of IsOf s).passes t) → IsSafeWith x most n
  safe_with whole trees hedges n t h o pass = record {
    safe = is_safe x s IsOf is known all closure.closed pass;
    keeps = keeps whole trees hedges;
    counts = are_counts x s IsOf is known all closure.closed n whole t h o;
    few_trees = omega (arith, t, trees);
    few_hedges = omega (arith, h, hedges);
    few_outputs = let few = known.few in omega (arith, o, few);
  }

  module _ (within : KeepsCounts x most) (k : ℕ) (low : k < length s.trees) (fails : (held_of IsOf s).fails k) (before : (t : ℕ) → t < k → (held_of IsOf s).passes t) where
    pub unsafe_by : (doc : Trees) → IsOneMade (held_of IsOf s) x.symbols doc k (tree_cost c k) → tree_cost c k ≤ 2000 → IsUnsafeBy x most doc
    unsafe_by doc (t, e, made, count) near =
        let (plain, live, row) = tree_is x s IsOf is known (rows_are_lawful x (known.triples x is)) made in
        record {
          keeps = within;
          counter = subst (IsCounter x) (sym e) (shown x s IsOf is known all closure.closed (tree_cost c) closure.tree_costs closure.kept.trees_in_order k low fails before t live row);
          plain = subst (ArePlain x) (sym e) plain;
          few = omega (arith, count, near);
          least = λ other counter. let m = no_less x s IsOf is known all closure.closed (tree_cost c) closure.tree_costs closure.kept.trees_in_order k low fails before near other counter in omega (arith, count, m);
        }

    pub far_unsafe : tree_cost c k ≡ 2001 → IsFarUnsafe x most
    far_unsafe far = record {
      keeps = within;
      some = some_counter x s IsOf is known all closure.closed (tree_cost c) closure.tree_costs closure.kept.trees_in_order k low fails before;
      far = all_far x s IsOf is known all closure.closed (tree_cost c) closure.tree_costs closure.kept.trees_in_order k low fails before (omega (arith, far));
    }
