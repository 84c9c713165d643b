-- What is kept and was tried stays while rows come on.
use Rattle.std.proofs.Common.{◌≡◌, ◌⊎◌, inl, inr, ℕ, ◌+◌, ◌<◌, ◌≤◌, List, length, slice_index, refl, ◌∙◌, sym, subst, arith}
use Rattle.tc_settle.specs.declared.closed.Closed.{Closed}
use Rattle.tc_settle.specs.Held.{Held, Grows}
use Rattle.tc_settle.specs.Closed.{hedge_cost, tree_cost, IsCapped}
use Rattle.tc_settle.specs.Settled.{Goes, Steps, AppendCosts, IsAt, WrapCosts, AreStarts, AreDoneBelow, IsNoneDone, IsAppendDone, IsWrapDone, AreWrapsDone, IsTextDone}
use Rattle.tc_settle.proofs.Derived.{none_stays, text_stays, append_stays, wrap_stays}

pub grows_nothing : (s : Held) → Grows s s
grows_nothing s = record {
  trees = omega arith;
  hedges = omega arith;
  symbols = refl;
  is_none = λ u l i. i;
  is_text = λ u l i. i;
  no_text = λ i. i;
  is_append = λ h t u a b d i. i;
  no_append = λ h t a b i. i;
  is_wrap = λ n h u a b d i. i;
  no_wrap = λ n h a b i. i;
  fails = λ t l i. i;
  passes = λ t l i. i;
}

pub grows_twice : {s r q : Held} → Grows s r → Grows r q → Grows s q
grows_twice {s} {r} {q} f g = record {
  trees = omega (arith, f.trees, g.trees);
  hedges = omega (arith, f.hedges, g.hedges);
  symbols = g.symbols ∙ f.symbols;
  is_none = λ u l i. g.is_none u (omega (arith, l, f.hedges)) (f.is_none u l i);
  is_text = λ u l i. g.is_text u (omega (arith, l, f.trees)) (f.is_text u l i);
  no_text = λ i. g.no_text (f.no_text i);
  is_append = λ h t u a b d i. g.is_append h t u (omega (arith, a, f.hedges)) (omega (arith, b, f.trees)) (omega (arith, d, f.hedges)) (f.is_append h t u a b d i);
  no_append = λ h t a b i. g.no_append h t (omega (arith, a, f.hedges)) (omega (arith, b, f.trees)) (f.no_append h t a b i);
  is_wrap = λ n h u a b d i. g.is_wrap n h u (subst (λ k. n < k) (sym f.symbols) a) (omega (arith, b, f.hedges)) (omega (arith, d, f.trees)) (f.is_wrap n h u a b d i);
  no_wrap = λ n h a b i. g.no_wrap n h (subst (λ k. n < k) (sym f.symbols) a) (omega (arith, b, f.hedges)) (f.no_wrap n h a b i);
  fails = λ t l i. g.fails t (omega (arith, l, f.trees)) (f.fails t l i);
  passes = λ t l i. g.passes t (omega (arith, l, f.trees)) (f.passes t l i);
}

pub low_or_high : (i n : ℕ) → (i < n) ⊎ (n ≤ i)
low_or_high i n = grind arith

pub steps_nothing : (most cost : ℕ) (s : Held) (c : Closed) → IsAt s c most cost → Steps most cost s c s c
steps_nothing most cost s c at = record {
  at = at;
  goes = record {
    grows = grows_nothing s;
    hedge_costs = λ _ _. refl;
    tree_costs = λ _ _. refl;
    new_hedges = λ u high low. absurd (omega (arith, high, low));
    new_trees = λ u high low. absurd (omega (arith, high, low));
  };
}

module _ (cost : ℕ) (s r : Held) (c d : Closed) (goes : Goes cost s c r d) where
  pub none_done_stays : IsNoneDone s c → IsNoneDone r d
  none_done_stays (u, at, e) = (u, none_stays goes.grows at, omega (arith, e, goes.hedge_costs u at.0))

  pub text_done_stays : IsTextDone s c → IsTextDone r d
  text_done_stays (inl dead) = inl (goes.grows.no_text dead)
  text_done_stays (inr (u, at, e)) = inr (u, text_stays goes.grows at, omega (arith, e, goes.tree_costs u at.0))

  pub append_done_stays : (h t : ℕ) → h < s.hedges → t < s.trees → IsAppendDone s c h t → IsAppendDone r d h t
  append_done_stays h t front last (inl dead) = inl (goes.grows.no_append h t front last dead)
  append_done_stays h t front last (inr (u, at, e)) =
      inr (u, append_stays goes.grows front last at, omega (arith, e, goes.hedge_costs u at.0, goes.hedge_costs h front, goes.tree_costs t last))

  pub wrap_done_stays : (a h : ℕ) → a < s.symbols → h < s.hedges → IsWrapDone s c a h → IsWrapDone r d a h
  wrap_done_stays a h symbol inside (inl dead) = inl (goes.grows.no_wrap a h symbol inside dead)
  wrap_done_stays a h symbol inside (inr (u, at, e)) = inr (u, wrap_stays goes.grows symbol inside at, omega (arith, e, goes.tree_costs u at.0, goes.hedge_costs h inside))

  pub wraps_done_stay : (h : ℕ) → h < s.hedges → AreWrapsDone s c h → AreWrapsDone r d h
  wraps_done_stay h inside done a low = let symbol : a < s.symbols = subst (λ k. a < k) goes.grows.symbols low in wrap_done_stays a h symbol inside (done a symbol)

  pub goes_on : (q : Held) (e : Closed) → Goes cost r d q e → Goes cost s c q e
  goes_on q e more = record {
    grows = grows_twice goes.grows more.grows;
    hedge_costs = λ u low. more.hedge_costs u (omega (arith, low, goes.grows.hedges)) ∙ goes.hedge_costs u low;
    tree_costs = λ u low. more.tree_costs u (omega (arith, low, goes.grows.trees)) ∙ goes.tree_costs u low;
    new_hedges = λ u high low. elim (low_or_high u r.hedges) [ inl few ↦ more.hedge_costs u few ∙ goes.new_hedges u high few | inr new ↦ more.new_hedges u new low ];
    new_trees = λ u high low. elim (low_or_high u r.trees) [ inl few ↦ more.tree_costs u few ∙ goes.new_trees u high few | inr new ↦ more.new_trees u new low ];
  }

  -- what was tried below a cost that isn't greater
  pub done_stays : (n : ℕ) → n ≤ cost → AreDoneBelow s c n → AreDoneBelow r d n
  done_stays n less done = record {
    none = none_done_stays done.none;
    text = text_done_stays done.text;
    wraps = λ h low e. elim (low_or_high h s.hedges) [
      | inl few ↦ wraps_done_stay h few (done.wraps h few (omega (arith, e, goes.hedge_costs h few)))
      | inr new ↦ absurd (omega (arith, e, goes.new_hedges h new low, less))
    ];
    appends = λ h t low last e. elim (low_or_high h s.hedges) [
      | inl few ↦ elim (low_or_high t s.trees) [
        | inl old ↦ append_done_stays h t few old (done.appends h t few old (omega (arith, e, goes.hedge_costs h few, goes.tree_costs t old)))
        | inr new ↦ absurd (omega (arith, e, goes.new_trees t new last, less))
      ]
      | inr new ↦ absurd (omega (arith, e, goes.new_hedges h new low, less))
    ];
  }

  pub starts_stay : (starts : List ℕ) → (r.trees ≡ s.trees) ⊎ (length starts ≤ cost + 1) → AreStarts s c starts → AreStarts r d starts
  starts_stay starts why are j low = (omega (arith, (are j low).0, goes.grows.trees), λ t last from. above t last from (low_or_high t s.trees), λ t last to. below t to)
    where
      above : (t : ℕ) → t < r.trees → slice_index starts j ≤ t → (t < s.trees) ⊎ (s.trees ≤ t) → j ≤ tree_cost d t
      above t last from (inl old) = omega (arith, (are j low).1 t old from, goes.tree_costs t old)
      above t last from (inr new) = elim why [ inl same ↦ absurd (omega (arith, same, new, last)) | inr short ↦ omega (arith, goes.new_trees t new last, short, low) ]

      below : (t : ℕ) → t < slice_index starts j → tree_cost d t < j
      below t to = let old : t < s.trees = omega (arith, to, (are j low).0) in omega (arith, (are j low).2 t old to, goes.tree_costs t old)

pub steps_twice : (most cost : ℕ) (s r q : Held) (c d e : Closed) → Steps most cost s c r d → Steps most cost r d q e → Steps most cost s c q e
steps_twice most cost s r q c d e first second = record { at = second.at; goes = goes_on cost s r c d first.goes q e second.goes }

-- what comes to a cost comes to it still
module _ (n : ℕ) (s r : Held) (c d : Closed) (goes : Goes n s c r d) where
  pub append_costs_stay : (h t cost : ℕ) → AppendCosts s c h t cost → AppendCosts r d h t cost
  append_costs_stay h t cost costs =
      let same : hedge_cost d h + tree_cost d t ≡ hedge_cost c h + tree_cost c t = omega (arith, goes.hedge_costs h costs.hedge, goes.tree_costs t costs.tree) in
      record {
        hedge = omega (arith, costs.hedge, goes.grows.hedges);
        tree = omega (arith, costs.tree, goes.grows.trees);
        sum = subst (λ k. IsCapped k cost) (sym same) costs.sum;
      }

  pub wrap_costs_stay : (h cost : ℕ) → WrapCosts s c h cost → WrapCosts r d h cost
  wrap_costs_stay h cost costs = record {
    hedge = omega (arith, costs.hedge, goes.grows.hedges);
    sum = subst (λ k. IsCapped (k + 1) cost) (sym (goes.hedge_costs h costs.hedge)) costs.sum;
  }
