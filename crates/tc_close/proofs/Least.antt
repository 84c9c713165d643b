-- The least costs of rows, and the least counterexamples.
use Rattle.std.proofs.Common.{◌⊎◌, inl, inr, ℕ, ◌+◌, ◌<◌, ◌≤◌, refl, subst, arith}
use Rattle.tc_model.specs.Trees.{Trees, node_count}
use Rattle.tc_model.specs.TreesApart.{alone}
use Rattle.tc_model.specs.Safety.{IsCounterexample}
use Rattle.tc_rows.specs.Triples.{Triple, sheet}
use Rattle.tc_rows.specs.Rows.{HedgeRow, TreeRow}
use Rattle.tc_rows.specs.Derivations.{HedgeFrom, TreeFrom, from_none, from_append, from_text, from_wrap, IsFailing, AreExact}
use Rattle.tc_rows.proofs.Derived.{derivations_are_exact}
use Rattle.tc_close.specs.Least.{IsLeastTree, IsLeastHedge, IsText, IsWrapOf, IsNone, IsAppendOf, LeastCosts, LeastCounterexamples, CostsAreLeast}

pub low_or_high : (i n : ℕ) → (i < n) ⊎ (n ≤ i)
low_or_high i n = grind arith

module _ (x : Triple) where
  pub some_cost : {r : TreeRow} {c : ℕ} → TreeFrom x r c → 1 ≤ c
  some_cost (from_text l t) = omega arith
  some_cost (from_wrap {n} low d l w) = omega arith

  tree_parts : {r : TreeRow} {c : ℕ} → TreeFrom x r c → ((n : ℕ) → TreeFrom x r n → c ≤ n) → IsText x r c ⊎ IsWrapOf x (IsLeastHedge x) r c
  tree_parts (from_text l t) least = inl (refl, l, t)
  tree_parts (from_wrap {a} {h} {u} {n} low d l w) least =
      inr (a, h, n, low, (d, λ m e. let less : n + 1 ≤ m + 1 = least (m + 1) (from_wrap low e l w) in omega (arith, less)), refl, l, w)

  hedge_parts : {r : HedgeRow} {c : ℕ} → HedgeFrom x r c → ((n : ℕ) → HedgeFrom x r n → c ≤ n) → IsNone x r c ⊎ IsAppendOf x (IsLeastHedge x) (IsLeastTree x) r c
  hedge_parts (from_none e) least = inl (refl, e)
  hedge_parts (from_append {h} {u} {t} {m} {n} d f l w) least =
      inr (
        h,
        t,
        m,
        n,
        (d, λ k e. let less : m + n ≤ k + n = least (k + n) (from_append e f l w) in omega (arith, less)),
        (f, λ k e. let less : m + n ≤ m + k = least (m + k) (from_append d e l w) in omega (arith, less)),
        some_cost f,
        refl,
        l,
        w,
      )

  module _ (exact : AreExact x) where
    least_costs : LeastCosts x
    least_costs = record {
      trees = λ r c. (
        λ (d, least). ((exact.trees r c).0 d, λ t l a. least (node_count (alone t)) ((exact.trees r (node_count (alone t))).1 (t, l, a, refl))),
        λ (there, least). ((exact.trees r c).1 there, λ n d. let (t, l, a, count) = (exact.trees r n).0 d in subst (λ w. c ≤ w) count (least t l a)),
      );
      hedges = λ r c. (
        λ (d, least). ((exact.hedges r c).0 d, λ h l a. least (node_count h) ((exact.hedges r (node_count h)).1 (h, l, a, refl))),
        λ (there, least). ((exact.hedges r c).1 there, λ n d. let (h, l, a, count) = (exact.hedges r n).0 d in subst (λ w. c ≤ w) count (least h l a)),
      );
      some = λ r c d. some_cost d;
      tree_parts = λ r c (d, least). tree_parts d least;
      hedge_parts = λ r c (d, least). hedge_parts d least;
    }

    far_rows : (most : ℕ) → ((doc result : Trees) → IsCounterexample x.input x.output (sheet x) doc result → most < node_count doc) → (r : TreeRow) (n : ℕ) → IsFailing x r → TreeFrom x r n → most < n
    far_rows most far r n fails d =
        let (t, l, a, count) = (exact.trees r n).0 d in
        let (result, counter) = exact.shows r t l a fails in
        subst (λ w. most < w) count (far (alone t) result counter)

    far_documents : (most : ℕ) → ((r : TreeRow) (n : ℕ) → IsFailing x r → TreeFrom x r n → most < n) → (doc result : Trees) → IsCounterexample x.input x.output (sheet x) doc result → most < node_count doc
    far_documents most far doc result counter = let (r, d, fails) = exact.failing doc result counter in far r (node_count doc) fails d

    least_counterexamples : LeastCounterexamples x
    least_counterexamples = record {
      shown = λ r c (fails, d, least).
          let (t, plain, l, a, count) = exact.plain r c d in
          let (result, counter) = exact.shows r t l a fails in
          (t, result, plain, a, count, counter);
      least = λ r c (fails, d, least) doc result counter. let (s, e, bad) = exact.failing doc result counter in least s (node_count doc) bad e;
      far = λ most. (far_rows most, far_documents most);
    }

pub costs_are_least : CostsAreLeast
costs_are_least x is = (least_costs x (derivations_are_exact x is), least_counterexamples x (derivations_are_exact x is))
