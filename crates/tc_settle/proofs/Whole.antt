-- Where everything was tried, all that is derived is held, at its least cost.
use Rattle.std.proofs.Common.{inl, inr, ℕ, ◌+◌, ◌<◌, ◌≤◌, List, sym, subst, arith}
use Rattle.tc_settle.specs.declared.closed.Closed.{Closed}
use Rattle.tc_settle.specs.Held.{Held, IsExact, IsNoneAt, IsTextAt, IsAppendAt, IsWrapAt}
use Rattle.tc_settle.specs.Derived.{HedgeFrom, TreeFrom, from_none, from_append, from_text, from_wrap, IsClosed, IsCost}
use Rattle.tc_settle.specs.Closed.{hedge_cost, tree_cost, IsCapped, IsClosure}
use Rattle.tc_settle.specs.Settled.{AreAllDone, IsNoneDone, IsTextDone, IsAppendDone, IsWrapDone, IsReady, IsFar, IsWhole}
use Rattle.tc_settle.proofs.Derived.{held_hedge, held_tree}

module _ (s : Held) (c : Closed) (exact : IsExact s) (done : AreAllDone s c) where
  none_least : (u : ℕ) → IsNoneAt s u → IsNoneDone s c → hedge_cost c u ≤ 0
  none_least u at (v, there, e) = subst (λ w. hedge_cost c w ≤ 0) (exact.one_none v u there at) e

  text_least : (u : ℕ) → IsTextAt s u → IsTextDone s c → tree_cost c u ≤ 1
  text_least u at (inl dead) = absurd (exact.live_text u at dead)
  text_least u at (inr (v, there, e)) = subst (λ w. tree_cost c w ≤ 1) (exact.one_text v u there at) e

  append_least : (h t u : ℕ) → h < s.hedges → t < s.trees → IsAppendAt s h t u → IsAppendDone s c h t → hedge_cost c u ≤ hedge_cost c h + tree_cost c t
  append_least h t u front last at (inl dead) = absurd (exact.live_append h t u front last at dead)
  append_least h t u front last at (inr (v, there, e)) = subst (λ w. hedge_cost c w ≤ hedge_cost c h + tree_cost c t) (exact.one_append h t v u front last there at) e

  wrap_least : (a h u : ℕ) → a < s.symbols → h < s.hedges → IsWrapAt s a h u → IsWrapDone s c a h → tree_cost c u ≤ hedge_cost c h + 1
  wrap_least a h u symbol inside at (inl dead) = absurd (exact.live_wrap a h u symbol inside at dead)
  wrap_least a h u symbol inside at (inr (v, there, e)) = subst (λ w. tree_cost c w ≤ hedge_cost c h + 1) (exact.one_wrap a h v u symbol inside there at) e

  mutual
    pub hedge_least : {u n : ℕ} → HedgeFrom s u n → hedge_cost c u ≤ n
    hedge_least (from_none {u} at) = none_least u at done.none
    hedge_least (from_append {h} {t} {u} {m} {n} d f at) =
        omega (arith, hedge_least d, tree_least f, append_least h t u (held_hedge d) (held_tree f) at (done.appends h t (held_hedge d) (held_tree f)))

    pub tree_least : {u n : ℕ} → TreeFrom s u n → tree_cost c u ≤ n
    tree_least (from_text {u} at) = text_least u at done.text
    tree_least (from_wrap {a} {h} {u} {n} low d at) = omega (arith, hedge_least d, wrap_least a h u low (held_hedge d) at (done.wraps h (held_hedge d) a low))

  pub is_closed : IsClosed s
  is_closed = record {
    none = let (u, at, e) = done.none in (u, at);
    text = elim done.text [ inl dead ↦ inl dead | inr (u, at, e) ↦ inr (u, at) ];
    append = λ h t front last. elim (done.appends h t front last) [ inl dead ↦ inl dead | inr (u, at, e) ↦ inr (u, at) ];
    wrap = λ a h symbol inside. elim (done.wraps h inside a symbol) [ inl dead ↦ inl dead | inr (u, at, e) ↦ inr (u, at) ];
  }

-- the number at which something comes, and which no other is below
pub cost_of : (At : ℕ → Type 0) (n c : ℕ) → At n → IsCapped n c → ((k : ℕ) → At k → c ≤ k) → IsCost At c
cost_of At n c at (inl (near, e)) least = inl (omega (arith, near, e), subst At (sym e) at, least)
cost_of At n c at (inr (far, e)) least = inr (e, λ k there. omega (arith, least k there, e))

pub is_closure : (most : ℕ) (s : Held) (c : Closed) → IsExact s → IsWhole most s c → IsClosure s c
is_closure most s c exact whole = record {
  exact = exact;
  closed = is_closed s c exact whole.done;
  kept = whole.kept;
  hedge_costs = λ u low. let (n, d, e) = whole.kept.hedges_derive u low in cost_of (HedgeFrom s u) n (hedge_cost c u) d e (λ k from. hedge_least s c exact whole.done from);
  tree_costs = λ u low. let (n, d, e) = whole.kept.trees_derive u low in cost_of (TreeFrom s u) n (tree_cost c u) d e (λ k from. tree_least s c exact whole.done from);
}

-- nothing that is made of what is kept costs as much
pub ready_whole : (most cost wrapped reach : ℕ) (s : Held) (c : Closed) (starts : List ℕ) → IsReady most (cost + 1) s c starts wrapped → ((h : ℕ) → h < s.hedges → hedge_cost c h + 1 ≤ reach)
    → ((h t : ℕ) → h < s.hedges → t < s.trees → hedge_cost c h + tree_cost c t ≤ reach) → reach ≤ cost → IsWhole most s c
ready_whole most cost wrapped reach s c starts ready wraps appends low = record {
  kept = ready.kept;
  few = ready.few;
  done = record {
    none = ready.done.none;
    text = ready.done.text;
    wraps = λ h inside. ready.done.wraps h inside (omega (arith, wraps h inside, low));
    appends = λ h t front last. ready.done.appends h t front last (omega (arith, appends h t front last, low));
  };
}

pub ready_far : (most wrapped : ℕ) (s : Held) (c : Closed) (starts : List ℕ) → IsReady most 2001 s c starts wrapped → IsFar most s c starts 0
ready_far most wrapped s c starts ready = record {
  kept = ready.kept;
  few = ready.few;
  up_to = record { hedges = λ u low. omega (arith, ready.hedges u low); trees = λ u low. (ready.trees u low).1 };
  done = ready.done;
  before = record { wraps = λ h low. absurd (omega (arith, low)); appends = λ h t low last. absurd (omega (arith, low)) };
  count = omega (arith, ready.count);
  begun = ready.begun;
}
