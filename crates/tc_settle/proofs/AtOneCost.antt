-- What is made at one cost.
use Rattle.std.proofs.Common.{◌≡◌, ◌⊎◌, inl, inr, ℕ, ◌+◌, ◌-◌, ◌<◌, ◌≤◌, List, [], ◌∷◌, ◌++◌, length, slice_index, refl, ◌∙◌, sym, subst, arith, add-one}
use Rattle.tc_settle.specs.declared.closed.Closed.{Closed}
use Rattle.tc_settle.specs.Held.{Held}
use Rattle.tc_settle.specs.Closed.{hedge_cost, tree_cost}
use Rattle.tc_settle.specs.Settled.{Goes, Steps, AreStarts, AreSumsDone, AreWrapsDone, AreDoneBelow, IsAppendDone, IsReady}
use Rattle.tc_settle.proofs.Kept.{below_or_last}
use Rattle.tc_settle.proofs.Going.{low_or_high, append_done_stays, wraps_done_stay, done_stays, starts_stay}
use Rattle.tc_settle.proofs.Lists.{same_before, longer, last_of}

-- a tree of this cost stands where those of the cost begin, and before those of the next
pub stands_within : (s : Held) (c : Closed) (starts : List ℕ) (j t : ℕ) → AreStarts s c starts → j + 1 < length starts → t < s.trees → tree_cost c t ≡ j
    → (slice_index starts j ≤ t) × (t < slice_index starts (j + 1))
stands_within s c starts j t are low last e = (from (low_or_high t (slice_index starts j)), to (low_or_high t (slice_index starts (j + 1))))
  where
    from : (t < slice_index starts j) ⊎ (slice_index starts j ≤ t) → slice_index starts j ≤ t
    from (inl less) = absurd (omega (arith, (are j (omega (arith, low))).2 t last less, e))
    from (inr more) = more

    to : (t < slice_index starts (j + 1)) ⊎ (slice_index starts (j + 1) ≤ t) → t < slice_index starts (j + 1)
    to (inl less) = less
    to (inr more) = absurd (omega (arith, (are (j + 1) low).1 t last more, e))

pub next_sums : (cost : ℕ) (s r q : Held) (c d e : Closed) → Goes cost s c r d → Goes cost r d q e → r.trees ≡ s.trees → q.trees ≡ r.trees → (starts : List ℕ) → AreStarts s c starts
    → (hedge x : ℕ) → hedge < s.hedges → x ≡ hedge_cost d hedge → x < cost → length starts ≡ cost + 2
    → AreSumsDone r d hedge cost → ((t : ℕ) → slice_index starts (cost - x) ≤ t → t < slice_index starts (cost - x + 1) → IsAppendDone q e hedge t) → AreSumsDone q e (hedge + 1) cost
next_sums cost s r q c d e first second same_r same_q starts are hedge x low is_x less all done one h t to last sum = by (below_or_last h hedge (hedge + 1) (omega arith) to)
  where
    old : t < r.trees
    old = omega (arith, last, same_q)

    there : AreStarts r d starts
    there = starts_stay cost s r c d first starts (inl same_r) are

    by : (h < hedge) ⊎ (h ≡ hedge) → IsAppendDone q e h t
    by (inl before) =
        let front : h < r.hedges = omega (arith, before, low, first.grows.hedges) in
        append_done_stays cost r q d e second h t front old (done h t before old (omega (arith, sum, second.hedge_costs h front, second.tree_costs t old)))
    by (inr same) =
        let front : h < r.hedges = omega (arith, same, low, first.grows.hedges) in
        let is_cost : hedge_cost d h ≡ hedge_cost d hedge = subst (λ k. hedge_cost d h ≡ hedge_cost d k) same refl in
        let left : tree_cost d t ≡ cost - x = omega (arith, sum, second.hedge_costs h front, second.tree_costs t old, is_cost, is_x, less) in
        let (from, until) = stands_within r d starts (cost - x) t there (omega (arith, all)) old left in
        subst (λ k. IsAppendDone q e k t) (sym same) (one t from until)

-- where the trees of the next cost begin
pub starts_pushed : (s : Held) (c : Closed) (xs ys : List ℕ) → AreStarts s c xs → ((t : ℕ) → t < s.trees → tree_cost c t < length xs) → ys ≡ xs ++ s.trees ∷ [] → AreStarts s c ys
starts_pushed s c xs ys are low e j within = by (below_or_last j (length xs) (length ys) (longer xs ys s.trees e ∙ add-one (length xs)) within)
  where
    by : (j < length xs) ⊎ (j ≡ length xs) → (slice_index ys j ≤ s.trees) × ((t : ℕ) → t < s.trees → slice_index ys j ≤ t → j ≤ tree_cost c t) × ((t : ℕ) → t < s.trees → t < slice_index ys j → tree_cost c t < j)
    by (inl before) =
        let same = same_before xs ys s.trees j e before in
        (omega (arith, same, (are j before).0), λ t last from. (are j before).1 t last (omega (arith, same, from)), λ t last to. (are j before).2 t last (omega (arith, same, to)))
    by (inr end) =
        let same = last_of xs ys s.trees j e end in
        (omega (arith, same), λ t last from. absurd (omega (arith, same, from, last)), λ t last to. omega (arith, low t last, end))

module _ (most cost wrapped : ℕ) (s r : Held) (c d : Closed) (starts pushed : List ℕ) (ready : IsReady most cost s c starts wrapped) (steps : Steps most cost s c r d) (same : r.hedges ≡ s.hedges) (e : pushed ≡ starts ++ r.trees ∷ []) where
  some : 1 ≤ cost
  some = let (u, (low, is), e) = ready.done.none in omega (arith, ready.hedges u low)

  pub ready_lower : (h : ℕ) → h < s.hedges → hedge_cost d h < cost
  ready_lower h low = omega (arith, ready.hedges h low, steps.goes.hedge_costs h low)

  pub ready_starts : AreStarts r d pushed
  ready_starts =
      starts_pushed r d starts pushed (starts_stay cost s r c d steps.goes starts (inr (omega (arith, ready.count))) ready.begun) (λ t last. omega (arith, steps.at.up_to.trees t last, ready.count)) e

  pub ready_count : length pushed ≡ cost + 2
  ready_count = omega (arith, longer starts pushed r.trees e, ready.count)

  module _ (q : Held) (f : Closed) (more : Steps most cost r d q f) (trees : q.trees ≡ r.trees) (wraps : (h : ℕ) → wrapped ≤ h → h < s.hedges → AreWrapsDone r d h) (sums : AreSumsDone q f s.hedges cost) where
    old_hedge : (h : ℕ) → h < q.hedges → hedge_cost f h < cost → h < r.hedges
    old_hedge h low less = elim (low_or_high h r.hedges) [ inl old ↦ old | inr new ↦ absurd (omega (arith, more.goes.new_hedges h new low, less)) ]

    tree_some : (t : ℕ) → t < q.trees → 1 ≤ tree_cost f t
    tree_some t last = by (low_or_high t s.trees)
      where
        within : t < r.trees
        within = omega (arith, last, trees)

        by : (t < s.trees) ⊎ (s.trees ≤ t) → 1 ≤ tree_cost f t
        by (inl old) = omega (arith, (ready.trees t old).0, steps.goes.tree_costs t old, more.goes.tree_costs t within)
        by (inr new) = omega (arith, some, steps.goes.new_trees t new within, more.goes.tree_costs t within)

    below : AreDoneBelow q f cost
    below = done_stays cost r q d f more.goes cost (omega arith) (done_stays cost s r c d steps.goes cost (omega arith) ready.done)

    wraps_done : (h : ℕ) → h < q.hedges → hedge_cost f h + 1 < cost + 1 → AreWrapsDone q f h
    wraps_done h low less = let old = old_hedge h low (omega (arith, less)) in by (low_or_high h wrapped) old
      where
        by : (h < wrapped) ⊎ (wrapped ≤ h) → h < r.hedges → AreWrapsDone q f h
        by (inl before) old =
            let few : h < s.hedges = omega (arith, before, ready.within) in
            below.wraps h low (omega (arith, ready.before h before, steps.goes.hedge_costs h few, more.goes.hedge_costs h old))
        by (inr behind) old = wraps_done_stay cost r q d f more.goes h old (wraps h behind (omega (arith, old, same)))

    appends_done : (h t : ℕ) → h < q.hedges → t < q.trees → hedge_cost f h + tree_cost f t < cost + 1 → IsAppendDone q f h t
    appends_done h t low last less = by (below_or_last (hedge_cost f h + tree_cost f t) cost (cost + 1) (omega arith) less)
      where
        by : (hedge_cost f h + tree_cost f t < cost) ⊎ (hedge_cost f h + tree_cost f t ≡ cost) → IsAppendDone q f h t
        by (inl lower) = below.appends h t low last lower
        by (inr sum) = let old = old_hedge h low (omega (arith, sum, tree_some t last)) in sums h t (omega (arith, old, same)) last sum

    pub ready_next : IsReady most (cost + 1) q f pushed s.hedges
    ready_next = record {
      kept = more.at.kept;
      few = more.at.few;
      hedges = λ h low. omega (arith, more.at.up_to.hedges h low);
      trees = λ t last. (tree_some t last, omega (arith, more.at.up_to.trees t last));
      done = record { none = below.none; text = below.text; wraps = wraps_done; appends = appends_done };
      within = omega (arith, same, more.goes.grows.hedges);
      before = λ h low. omega (arith, ready_lower h low, more.goes.hedge_costs h (omega (arith, low, same)));
      behind = λ h high low. omega (arith, more.goes.new_hedges h (omega (arith, high, same)) low);
      count = omega (arith, ready_count);
      begun = starts_stay cost r q d f more.goes pushed (inl trees) ready_starts;
    }
