-- What all rows tell: the counts, inclusion, and least differences.
use Rattle.std.proofs.Common.{◌≡◌, ◌<◌, ◌≤◌, ◌⊎◌, inl, inr, ℕ, length, ap, ◌∙◌, sym, subst, arith}
use Rattle.tc_model.specs.Trees.{Trees, node_count}
use Rattle.tc_model.specs.TreesApart.{alone}
use Rattle.tc_rows.specs.Counts.{Counts, Pass}
use Rattle.tc_rows.specs.CountLaws.{CountsTell}
use Rattle.tc_settle.specs.Held.{Held}
use Rattle.tc_settle.specs.declared.closed.Closed.{Closed}
use Rattle.tc_settle.specs.Closed.{IsClosure}
use Rattle.tc_settle.specs.Derived as number
use Rattle.tc_settle.specs.Derived.{IsClosed, AllDerive, IsCost}
use Rattle.tc_settle.specs.Made.{IsOneMade}
use Rattle.tc_incl.specs.Schemas.{Schemas, AreSchemas, IsIncluded, IsDifference, IsLeastDifference}
use Rattle.tc_incl.specs.Rows.{TreeRow}
use Rattle.tc_incl.specs.Arithmetic.{IsFailing}
use Rattle.tc_incl.specs.Laws.{RowLaws}
use Rattle.tc_incl.specs.Derivations as row
use Rattle.tc_incl.specs.Derivations.{AreExact, IsLeastFailing, ArePlain}
use Rattle.tc_incl.specs.Counts.{IsRowOfLiveTree, IsRowOfLiveHedge, ListsTell, SomePass}
use Rattle.tc_incl.specs.Covers.{State, tree_at, held_of, Known, PassBefore, IsFirstFailing}
use Rattle.tc_incl.specs.Answers.{KeepsCounts, IsIncludedWith, IsLeastPlain, IsFarDifferent}
use Rattle.tc_incl.proofs.AllLaws.{rows_are_lawful}
use Rattle.tc_incl.proofs.Derived.{derivations_are_exact}
use Rattle.tc_incl.proofs.Counting.{covers_are_counted}
use Rattle.tc_incl.proofs.Linked.{tree_from, tree_number, hedge_comes, tree_comes, are_closed}
use Rattle.tc_incl.proofs.Planted.{tree_is}

low_or_high : (i n : ℕ) → (i < n) ⊎ (n ≤ i)
low_or_high i n = grind arith

module _ (x : Schemas) (s : State) (IsOf : Schemas → Type 0) (is : IsOf x) (known : Known IsOf s) where
  abbrev schemas : AreSchemas x
  schemas = known.are x is

  laws : RowLaws x
  laws = rows_are_lawful x schemas

  exact : AreExact x
  exact = derivations_are_exact x schemas

  tell_trees : CountsTell (IsRowOfLiveTree x)
  tell_trees = (covers_are_counted x schemas).0

  tell_hedges : CountsTell (IsRowOfLiveHedge x)
  tell_hedges = (covers_are_counted x schemas).1

  lists_count : ListsTell x
  lists_count = (covers_are_counted x schemas).3

  some_pass : SomePass x
  some_pass = (covers_are_counted x schemas).4

  module _ (all : AllDerive (held_of IsOf s)) where
    -- more than so many
    pub pass_trees : (most : ℕ) → most < length s.trees → Pass (IsRowOfLiveTree x) most
    pass_trees most more = some_pass.0 s.trees most known.trees (tree_comes x s IsOf is known all) more

    pub pass_hedges : (most : ℕ) → most < length s.hedges → Pass (IsRowOfLiveHedge x) most
    pass_hedges most more = some_pass.1 s.hedges most known.hedges (hedge_comes x s IsOf is known all) more

    module _ (closed : IsClosed (held_of IsOf s)) where
      both_count : Counts (IsRowOfLiveTree x) (length s.trees) × Counts (IsRowOfLiveHedge x) (length s.hedges)
      both_count = lists_count s.trees s.hedges (are_closed x s IsOf is known closed all) known.trees known.hedges (tree_comes x s IsOf is known all) (hedge_comes x s IsOf is known all)

      keeps : (most : ℕ) → length s.trees ≤ most → length s.hedges ≤ most → KeepsCounts x most
      keeps most t h = record {
        trees = λ p. let more = (tell_trees.1 (length s.trees) most both_count.0).0 p in omega (arith, more, t);
        hedges = λ p. let more = (tell_hedges.1 (length s.hedges) most both_count.1).0 p in omega (arith, more, h);
      }

      included : PassBefore (held_of IsOf s) (length s.trees) → IsIncluded x.first x.second
      included pass = exact.included.1 (λ r n d fails. let (u, low, e, f) = tree_number x s IsOf is known closed d in pass u low x is (subst (IsFailing x) (sym e) fails))

      pub is_included : (most t h : ℕ) → length s.trees ≤ most → length s.hedges ≤ most → t ≡ length s.trees → h ≡ length s.hedges → PassBefore (held_of IsOf s) (length s.trees) → IsIncludedWith x most t h
      is_included most t h few least e f pass = record {
        keeps = keeps most few least;
        included = included pass;
        trees = subst (Counts (IsRowOfLiveTree x)) (sym e) both_count.0;
        hedges = subst (Counts (IsRowOfLiveHedge x)) (sym f) both_count.1;
      }

      -- a row that fails, before which none does, where rows stand in order of cost
      module _ (cost : ℕ → ℕ) (costs : (u : ℕ) → u < length s.trees → IsCost (number.TreeFrom (held_of IsOf s) u) (cost u)) (ordered : (i j : ℕ) → i ≤ j → j < length s.trees → cost i ≤ cost j)
          (k : ℕ) (first : IsFirstFailing (held_of IsOf s) k) where
        later : (u : ℕ) → u < length s.trees → IsFailing x (tree_at s u) → cost k ≤ cost u
        later u l bad = elim (low_or_high u k) [ inl a ↦ absurd (first.before u a x is bad) | inr b ↦ ordered k u b l ]

        least_of : (r : TreeRow) (n : ℕ) → row.TreeFrom x r n → IsFailing x r → (u : ℕ) × (u < length s.trees) × (cost k ≤ cost u) × number.TreeFrom (held_of IsOf s) u n
        least_of r n d bad =
            let (u, l, e, f) = tree_number x s IsOf is known closed d in
            (u, l, later u l (subst (IsFailing x) (sym e) bad), f)

        least_failing : cost k ≤ 2000 → IsLeastFailing x (tree_at s k) (cost k)
        least_failing near = record {
          comes = tree_from x s IsOf is known here;
          fails = first.fails x is;
          least = λ r n d bad. let (u, l, less, f) = least_of r n d bad in most u n less f (costs u l);
        }
          where
            here : number.TreeFrom (held_of IsOf s) k (cost k)
            here = elim (costs k first.held) [ inl (few, at, least) ↦ at | inr (far, more) ↦ absurd (omega (arith, far, near)) ]

            most : (u n : ℕ) → cost k ≤ cost u → number.TreeFrom (held_of IsOf s) u n → IsCost (number.TreeFrom (held_of IsOf s) u) (cost u) → cost k ≤ n
            most u n less f (inl (few, at, least)) = let m = least n f in omega (arith, less, m)
            most u n less f (inr (far, more)) = let m = more n f in omega (arith, near, m)

        far : 2000 < cost k → (doc : Trees) → IsDifference x.first x.second doc → 2000 < node_count doc
        far high = exact.large 2000 (λ r n d bad. let (u, l, less, f) = least_of r n d bad in past u n less f (costs u l))
          where
            past : (u n : ℕ) → cost k ≤ cost u → number.TreeFrom (held_of IsOf s) u n → IsCost (number.TreeFrom (held_of IsOf s) u) (cost u) → 2000 < n
            past u n less f (inl (few, at, least)) = absurd (omega (arith, high, less, few))
            past u n less f (inr (is_far, more)) = more n f

        some_difference : (doc : Trees) × IsDifference x.first x.second doc
        some_difference =
            let (n, d) = all.trees k first.held in
            let (t, live, a, count) = (exact.trees (tree_at s k) n).0 (tree_from x s IsOf is known d) in
            (alone t, exact.shows (tree_at s k) t live a (first.fails x is))

        -- the tree that is made of it
        pub is_least : (most : ℕ) → length s.trees ≤ most → length s.hedges ≤ most → (doc : Trees) → IsOneMade (held_of IsOf s) x.symbols doc k (cost k) → cost k ≤ 2000 → IsLeastPlain x most doc
        is_least most t h doc (tree, e, made, count) near =
            let (plain, live, a) = tree_is x s IsOf is known laws made in
            let size : node_count (alone tree) ≡ cost k = ap node_count (sym e) ∙ count in
            record {
              keeps = keeps most t h;
              least = subst (IsLeastDifference x.first x.second) (sym e) (exact.least (tree_at s k) (cost k) (least_failing near) tree live a size);
              plain = subst (ArePlain x) (sym e) plain;
              few = omega (arith, count, near);
            }

        pub is_far : (most : ℕ) → length s.trees ≤ most → length s.hedges ≤ most → cost k ≡ 2001 → IsFarDifferent x most
        is_far most t h e = record { keeps = keeps most t h; some = some_difference; far = far (omega (arith, e)) }

-- all rows that are kept are derived
pub all_derive : (s : Held) (c : Closed) → IsClosure s c → AllDerive s
all_derive s c closure = record {
  hedges = λ u l. let (n, d, e) = closure.kept.hedges_derive u l in (n, d);
  trees = λ u l. let (n, d, e) = closure.kept.trees_derive u l in (n, d);
}
