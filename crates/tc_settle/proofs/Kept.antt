-- What is kept while rows come on.
use Rattle.std.proofs.Common.{◌≡◌, ◌⊎◌, inl, inr, ℕ, suc, ◌+◌, ◌<◌, ◌≤◌, refl, ap, ◌∙◌, sym, subst, length, slice_index, slice_get, Some, arith}
use Rattle.tc_settle.specs.declared.closed.Closed.{Closed}
use Rattle.tc_settle.specs.declared.closed.MadeHedge.{MadeHedge}
use Rattle.tc_settle.specs.declared.closed.MadeHedge.TheVariants as hedge
use Rattle.tc_settle.specs.declared.closed.MadeTree.{MadeTree}
use Rattle.tc_settle.specs.declared.closed.MadeTree.TheVariants as tree
use Rattle.tc_settle.specs.Held.{Held, Grows, IsUnchanged}
use Rattle.tc_settle.specs.Derived.{HedgeFrom, TreeFrom}
use Rattle.tc_settle.specs.Closed.{hedge_cost, tree_cost, IsCapped, IsHedgeMade, IsTreeMade, IsKept}
use Rattle.tc_settle.specs.Settled.{Goes, IsWithHedge, IsWithTree}
use Rattle.tc_settle.proofs.Derived.{none_stays, text_stays, append_stays, wrap_stays, symbol_stays, hedge_stays, tree_stays}
use Rattle.tc_settle.proofs.Lists.{same_before, longer, last_of, kept_before, kept_last}

pub below_or_last : (u n k : ℕ) → k ≡ suc n → u < k → (u < n) ⊎ (u ≡ n)
below_or_last u n k e l = grind arith

-- what the rows are made of stays where their costs do
module _ (s r : Held) (c d : Closed) (g : Grows s r) (hedges : (u : ℕ) → u < s.hedges → hedge_cost d u ≡ hedge_cost c u) (trees : (u : ℕ) → u < s.trees → tree_cost d u ≡ tree_cost c u) where
  sum_stays : (h t : ℕ) → h < s.hedges → t < s.trees → hedge_cost d h + tree_cost d t ≡ hedge_cost c h + tree_cost c t
  sum_stays h t low few = omega (arith, hedges h low, trees t few)

  pub hedge_made_stays : (u : ℕ) (m : MadeHedge) → u < s.hedges → IsHedgeMade s c u m → IsHedgeMade r d u m
  hedge_made_stays u hedge.None low (at, cost) = (none_stays g at, hedges u low ∙ cost)
  hedge_made_stays u (hedge.Append h t) low (front, last, at, cost) = (
    omega (arith, front, g.hedges),
    omega (arith, last, g.trees),
    append_stays g front last at,
    subst (λ k. IsCapped k (hedge_cost d u)) (sym (sum_stays h t front last)) (subst (IsCapped (hedge_cost c h + tree_cost c t)) (sym (hedges u low)) cost),
  )

  pub tree_made_stays : (u : ℕ) (m : MadeTree) → u < s.trees → IsTreeMade s c u m → IsTreeMade r d u m
  tree_made_stays u tree.Text low (at, cost) = (text_stays g at, trees u low ∙ cost)
  tree_made_stays u (tree.Wrap a h) low (symbol, inside, at, cost) = (
    symbol_stays g symbol,
    omega (arith, inside, g.hedges),
    wrap_stays g symbol inside at,
    subst (λ k. IsCapped (k + 1) (tree_cost d u)) (sym (hedges h inside)) (subst (IsCapped (hedge_cost c h + 1)) (sym (trees u low)) cost),
  )

-- nothing comes on
pub kept_unchanged : (s r : Held) (c : Closed) → Grows s r → IsUnchanged s r → IsKept s c → IsKept r c
kept_unchanged s r c g (trees, hedges) kept = record {
  hedge_count = kept.hedge_count ∙ sym hedges;
  tree_count = kept.tree_count ∙ sym trees;
  made_hedge_count = kept.made_hedge_count ∙ sym hedges;
  made_tree_count = kept.made_tree_count ∙ sym trees;
  hedges_derive = λ u low. let (n, d, e) = kept.hedges_derive u (subst (λ k. u < k) hedges low) in (n, hedge_stays g d, e);
  trees_derive = λ u low. let (n, d, e) = kept.trees_derive u (subst (λ k. u < k) trees low) in (n, tree_stays g d, e);
  hedges_made = λ u low. let (m, e, is) = kept.hedges_made u (subst (λ k. u < k) hedges low) in (m, e, hedge_made_stays s r c c g (λ _ _. refl) (λ _ _. refl) u m (subst (λ k. u < k) hedges low) is);
  trees_made = λ u low. let (m, e, is) = kept.trees_made u (subst (λ k. u < k) trees low) in (m, e, tree_made_stays s r c c g (λ _ _. refl) (λ _ _. refl) u m (subst (λ k. u < k) trees low) is);
  hedges_in_order = λ i j l low. kept.hedges_in_order i j l (subst (λ k. j < k) hedges low);
  trees_in_order = λ i j l low. kept.trees_in_order i j l (subst (λ k. j < k) trees low);
}

pub goes_unchanged : (s r : Held) (c : Closed) (cost : ℕ) → Grows s r → IsUnchanged s r → Goes cost s c r c
goes_unchanged s r c cost g (trees, hedges) = record {
  grows = g;
  hedge_costs = λ _ _. refl;
  tree_costs = λ _ _. refl;
  new_hedges = λ u high low. absurd (omega (arith, high, low, hedges));
  new_trees = λ u high low. absurd (omega (arith, high, low, trees));
}

-- a list of trees comes on
module _ (s r : Held) (c d : Closed) (g : Grows s r) (cost : ℕ) (m : MadeHedge) (kept : IsKept s c) (trees : r.trees ≡ s.trees) (one : r.hedges ≡ suc s.hedges) (with : IsWithHedge c m cost d) where
  pub new_hedge_costs : (u : ℕ) → u < s.hedges → hedge_cost d u ≡ hedge_cost c u
  new_hedge_costs u low = same_before c.hedge_costs.items d.hedge_costs.items cost u with.1 (subst (λ k. u < k) (sym kept.hedge_count) low)

  pub new_hedge_cost : hedge_cost d s.hedges ≡ cost
  new_hedge_cost = last_of c.hedge_costs.items d.hedge_costs.items cost s.hedges with.1 (sym kept.hedge_count)

  pub new_hedge_trees : (u : ℕ) → tree_cost d u ≡ tree_cost c u
  new_hedge_trees u = ap (λ l. slice_index l u) with.3

  pub goes_hedge : Goes cost s c r d
  goes_hedge = record {
    grows = g;
    hedge_costs = new_hedge_costs;
    tree_costs = λ u _. new_hedge_trees u;
    new_hedges = λ u high low. let last : u ≡ s.hedges = omega (arith, high, low, one) in ap (hedge_cost d) last ∙ new_hedge_cost;
    new_trees = λ u high low. absurd (omega (arith, high, low, trees));
  }

  module _ (n : ℕ) (derives : HedgeFrom r s.hedges n) (capped : IsCapped n cost) (made : IsHedgeMade r d s.hedges m) (up : (u : ℕ) → u < s.hedges → hedge_cost c u ≤ cost) where
    hedge_derives : (u : ℕ) → (u < s.hedges) ⊎ (u ≡ s.hedges) → (k : ℕ) × HedgeFrom r u k × IsCapped k (hedge_cost d u)
    hedge_derives u (inl low) = let (k, from, e) = kept.hedges_derive u low in (k, hedge_stays g from, subst (IsCapped k) (sym (new_hedge_costs u low)) e)
    hedge_derives u (inr last) = subst (λ w. (k : ℕ) × HedgeFrom r w k × IsCapped k (hedge_cost d w)) (sym last) (n, derives, subst (IsCapped n) (sym new_hedge_cost) capped)

    hedge_is_made : (u : ℕ) → (u < s.hedges) ⊎ (u ≡ s.hedges) → (k : MadeHedge) × (slice_get d.hedges.items u ≡ Some k) × IsHedgeMade r d u k
    hedge_is_made u (inl low) =
        let (k, e, is) = kept.hedges_made u low in
        (k, kept_before c.hedges.items d.hedges.items m u k with.0 e, hedge_made_stays s r c d g new_hedge_costs (λ w _. new_hedge_trees w) u k low is)
    hedge_is_made u (inr last) =
        subst (λ w. (k : MadeHedge) × (slice_get d.hedges.items w ≡ Some k) × IsHedgeMade r d w k) (sym last) (m, kept_last c.hedges.items d.hedges.items m s.hedges with.0 (sym kept.made_hedge_count), made)

    hedges_in_order : (i j : ℕ) → i ≤ j → (j < s.hedges) ⊎ (j ≡ s.hedges) → hedge_cost d i ≤ hedge_cost d j
    hedges_in_order i j l (inl low) = omega (arith, kept.hedges_in_order i j l low, new_hedge_costs i (omega (arith, l, low)), new_hedge_costs j low)
    hedges_in_order i j l (inr last) = elim (below_or_last i s.hedges (suc s.hedges) refl (omega (arith, l, last))) [
      | inl low ↦ let e : hedge_cost d j ≡ cost = ap (hedge_cost d) last ∙ new_hedge_cost in omega (arith, up i low, new_hedge_costs i low, e)
      | inr same ↦ let e : hedge_cost d i ≡ hedge_cost d j = ap (hedge_cost d) (same ∙ sym last) in omega (arith, e)
    ]

    pub kept_hedge : IsKept r d
    kept_hedge = record {
      hedge_count = omega (arith, longer c.hedge_costs.items d.hedge_costs.items cost with.1, kept.hedge_count, one);
      tree_count = ap length with.3 ∙ (kept.tree_count ∙ sym trees);
      made_hedge_count = omega (arith, longer c.hedges.items d.hedges.items m with.0, kept.made_hedge_count, one);
      made_tree_count = ap length with.2 ∙ (kept.made_tree_count ∙ sym trees);
      hedges_derive = λ u low. hedge_derives u (below_or_last u s.hedges r.hedges one low);
      trees_derive = λ u low.
          let (k, from, e) = kept.trees_derive u (subst (λ k. u < k) trees low) in
          (k, tree_stays g from, subst (IsCapped k) (sym (new_hedge_trees u)) e);
      hedges_made = λ u low. hedge_is_made u (below_or_last u s.hedges r.hedges one low);
      trees_made = λ u low.
          let few : u < s.trees = subst (λ k. u < k) trees low in
          let (k, e, is) = kept.trees_made u few in
          (k, ap (λ l. slice_get l u) with.2 ∙ e, tree_made_stays s r c d g new_hedge_costs (λ w _. new_hedge_trees w) u k few is);
      hedges_in_order = λ i j l low. hedges_in_order i j l (below_or_last j s.hedges r.hedges one low);
      trees_in_order = λ i j l low. let few : j < s.trees = subst (λ k. j < k) trees low in omega (arith, kept.trees_in_order i j l few, new_hedge_trees i, new_hedge_trees j);
    }

-- a tree comes on
module _ (s r : Held) (c d : Closed) (g : Grows s r) (cost : ℕ) (m : MadeTree) (kept : IsKept s c) (hedges : r.hedges ≡ s.hedges) (one : r.trees ≡ suc s.trees) (with : IsWithTree c m cost d) where
  pub new_tree_costs : (u : ℕ) → u < s.trees → tree_cost d u ≡ tree_cost c u
  new_tree_costs u low = same_before c.tree_costs.items d.tree_costs.items cost u with.1 (subst (λ k. u < k) (sym kept.tree_count) low)

  pub new_tree_cost : tree_cost d s.trees ≡ cost
  new_tree_cost = last_of c.tree_costs.items d.tree_costs.items cost s.trees with.1 (sym kept.tree_count)

  pub new_tree_hedges : (u : ℕ) → hedge_cost d u ≡ hedge_cost c u
  new_tree_hedges u = ap (λ l. slice_index l u) with.3

  pub goes_tree : Goes cost s c r d
  goes_tree = record {
    grows = g;
    hedge_costs = λ u _. new_tree_hedges u;
    tree_costs = new_tree_costs;
    new_hedges = λ u high low. absurd (omega (arith, high, low, hedges));
    new_trees = λ u high low. let last : u ≡ s.trees = omega (arith, high, low, one) in ap (tree_cost d) last ∙ new_tree_cost;
  }

  module _ (n : ℕ) (derives : TreeFrom r s.trees n) (capped : IsCapped n cost) (made : IsTreeMade r d s.trees m) (up : (u : ℕ) → u < s.trees → tree_cost c u ≤ cost) where
    tree_derives : (u : ℕ) → (u < s.trees) ⊎ (u ≡ s.trees) → (k : ℕ) × TreeFrom r u k × IsCapped k (tree_cost d u)
    tree_derives u (inl low) = let (k, from, e) = kept.trees_derive u low in (k, tree_stays g from, subst (IsCapped k) (sym (new_tree_costs u low)) e)
    tree_derives u (inr last) = subst (λ w. (k : ℕ) × TreeFrom r w k × IsCapped k (tree_cost d w)) (sym last) (n, derives, subst (IsCapped n) (sym new_tree_cost) capped)

    tree_is_made : (u : ℕ) → (u < s.trees) ⊎ (u ≡ s.trees) → (k : MadeTree) × (slice_get d.trees.items u ≡ Some k) × IsTreeMade r d u k
    tree_is_made u (inl low) =
        let (k, e, is) = kept.trees_made u low in
        (k, kept_before c.trees.items d.trees.items m u k with.0 e, tree_made_stays s r c d g (λ w _. new_tree_hedges w) new_tree_costs u k low is)
    tree_is_made u (inr last) =
        subst (λ w. (k : MadeTree) × (slice_get d.trees.items w ≡ Some k) × IsTreeMade r d w k) (sym last) (m, kept_last c.trees.items d.trees.items m s.trees with.0 (sym kept.made_tree_count), made)

    trees_in_order : (i j : ℕ) → i ≤ j → (j < s.trees) ⊎ (j ≡ s.trees) → tree_cost d i ≤ tree_cost d j
    trees_in_order i j l (inl low) = omega (arith, kept.trees_in_order i j l low, new_tree_costs i (omega (arith, l, low)), new_tree_costs j low)
    trees_in_order i j l (inr last) = elim (below_or_last i s.trees (suc s.trees) refl (omega (arith, l, last))) [
      | inl low ↦ let e : tree_cost d j ≡ cost = ap (tree_cost d) last ∙ new_tree_cost in omega (arith, up i low, new_tree_costs i low, e)
      | inr same ↦ let e : tree_cost d i ≡ tree_cost d j = ap (tree_cost d) (same ∙ sym last) in omega (arith, e)
    ]

    pub kept_tree : IsKept r d
    kept_tree = record {
      hedge_count = ap length with.3 ∙ (kept.hedge_count ∙ sym hedges);
      tree_count = omega (arith, longer c.tree_costs.items d.tree_costs.items cost with.1, kept.tree_count, one);
      made_hedge_count = ap length with.2 ∙ (kept.made_hedge_count ∙ sym hedges);
      made_tree_count = omega (arith, longer c.trees.items d.trees.items m with.0, kept.made_tree_count, one);
      hedges_derive = λ u low.
          let (k, from, e) = kept.hedges_derive u (subst (λ k. u < k) hedges low) in
          (k, hedge_stays g from, subst (IsCapped k) (sym (new_tree_hedges u)) e);
      trees_derive = λ u low. tree_derives u (below_or_last u s.trees r.trees one low);
      hedges_made = λ u low.
          let few : u < s.hedges = subst (λ k. u < k) hedges low in
          let (k, e, is) = kept.hedges_made u few in
          (k, ap (λ l. slice_get l u) with.2 ∙ e, hedge_made_stays s r c d g (λ w _. new_tree_hedges w) new_tree_costs u k few is);
      trees_made = λ u low. tree_is_made u (below_or_last u s.trees r.trees one low);
      hedges_in_order = λ i j l low. let few : j < s.hedges = subst (λ k. j < k) hedges low in omega (arith, kept.hedges_in_order i j l few, new_tree_hedges i, new_tree_hedges j);
      trees_in_order = λ i j l low. trees_in_order i j l (below_or_last j s.trees r.trees one low);
    }
