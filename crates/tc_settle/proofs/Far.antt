-- What costs more than 2,000.
use Rattle.std.proofs.Common.{◌≡◌, ◌⊎◌, inl, inr, ℕ, ◌+◌, ◌-◌, ◌<◌, ◌≤◌, List, slice_index, sym, subst, arith}
use Rattle.tc_settle.specs.declared.closed.Closed.{Closed}
use Rattle.tc_settle.specs.Held.{Held}
use Rattle.tc_settle.specs.Closed.{hedge_cost, tree_cost}
use Rattle.tc_settle.specs.Settled.{Goes, Steps, AreStarts, AreWrapsDone, AreDoneBelow, AreRangesDone, IsAppendDone, IsFar}
use Rattle.tc_settle.proofs.Kept.{below_or_last}
use Rattle.tc_settle.proofs.Going.{low_or_high, append_done_stays, wraps_done_stay, done_stays, goes_on, starts_stay}

module _ (most hedge x : ℕ) (s r q p : Held) (c d e f : Closed) (starts : List ℕ) (far : IsFar most s c starts hedge) (low : hedge < s.hedges) (wrap : Steps most 2001 s c r d) (hedges : r.hedges ≡ s.hedges) (wraps : AreWrapsDone r d hedge)
    (behind : Steps most 2001 r d q e) (same : q.trees ≡ r.trees) (ranges : AreRangesDone q e hedge s.trees r.trees) (is_x : x ≡ hedge_cost e hedge) (last : Steps most 2001 q e p f) (trees : p.trees ≡ q.trees)
    (done : (t : ℕ) → slice_index starts (2001 - x) ≤ t → t < r.trees → IsAppendDone p f hedge t) where
  before_last : Goes 2001 s c q e
  before_last = goes_on 2001 s r c d wrap.goes q e behind.goes

  all : Goes 2001 s c p f
  all = goes_on 2001 s q c e before_last p f last.goes

  after_wrap : Goes 2001 r d p f
  after_wrap = goes_on 2001 r q d e behind.goes p f last.goes

  below : AreDoneBelow p f 2001
  below = done_stays 2001 s p c f all 2001 (omega arith) far.done

  there : AreStarts p f starts
  there = starts_stay 2001 s p c f all starts (inr (omega (arith, far.count))) far.begun

  wraps_done : (h : ℕ) → (h < hedge) ⊎ (h ≡ hedge) → AreWrapsDone p f h
  wraps_done h (inl old) = wraps_done_stay 2001 s p c f all h (omega (arith, old, low)) (far.before.wraps h old)
  wraps_done h (inr this) = subst (AreWrapsDone p f) (sym this) (wraps_done_stay 2001 r p d f after_wrap hedge (omega (arith, low, hedges)) wraps)

  appends_done : (h t : ℕ) → (h < hedge) ⊎ (h ≡ hedge) → t < p.trees → IsAppendDone p f h t
  appends_done h t (inl old) within = by (low_or_high t s.trees)
    where
      by : (t < s.trees) ⊎ (s.trees ≤ t) → IsAppendDone p f h t
      by (inl few) = append_done_stays 2001 s p c f all h t (omega (arith, old, low)) few (far.before.appends h t old few)
      by (inr more) =
          append_done_stays 2001 q p e f last.goes h t (omega (arith, old, low, before_last.grows.hedges)) (omega (arith, within, trees)) (ranges h t old more (omega (arith, within, trees, same)))
  appends_done h t (inr this) within = subst (λ k. IsAppendDone p f k t) (sym this) (by (low_or_high t (slice_index starts (2001 - x))))
    where
      front : hedge < p.hedges
      front = omega (arith, low, all.grows.hedges)

      is_cost : hedge_cost f hedge ≡ x
      is_cost = omega (arith, is_x, last.goes.hedge_costs hedge (omega (arith, low, before_last.grows.hedges)))

      by : (t < slice_index starts (2001 - x)) ⊎ (slice_index starts (2001 - x) ≤ t) → IsAppendDone p f hedge t
      by (inl less) =
          let cheap : tree_cost f t < 2001 - x = (there (2001 - x) (omega (arith, far.count))).2 t within less in
          below.appends hedge t front within (omega (arith, cheap, is_cost))
      by (inr more) = done t more (omega (arith, within, trees, same))

  pub far_next : IsFar most p f starts (hedge + 1)
  far_next = record {
    kept = last.at.kept;
    few = last.at.few;
    up_to = last.at.up_to;
    done = below;
    before = record { wraps = λ h to. wraps_done h (below_or_last h hedge (hedge + 1) (omega arith) to); appends = λ h t to within. appends_done h t (below_or_last h hedge (hedge + 1) (omega arith) to) within };
    count = far.count;
    begun = there;
  }

pub next_ranges : (cost : ℕ) (r q : Held) (d e : Closed) (hedge from to : ℕ) → Goes cost r d q e → ((t : ℕ) → from ≤ t → t < to → (hedge < r.hedges) × (t < r.trees)) → AreRangesDone r d hedge from to → ((t : ℕ) → from ≤ t → t < to → IsAppendDone q e hedge t) → AreRangesDone q e (hedge + 1) from to
next_ranges cost r q d e hedge from to goes within done one h t before above below = by (below_or_last h hedge (hedge + 1) (omega arith) before)
  where
    by : (h < hedge) ⊎ (h ≡ hedge) → IsAppendDone q e h t
    by (inl old) = append_done_stays cost r q d e goes h t (omega (arith, old, (within t above below).0)) (within t above below).1 (done h t old above below)
    by (inr this) = subst (λ k. IsAppendDone q e k t) (sym this) (one t above below)
