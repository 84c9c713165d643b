-- What is known of elements goes on holding where more rows are held, and holds of symbols alike and of lists of trees that agree.
use Rattle.std.proofs.Common.{◌↔◌, ◌<◌, ℕ, List, Option, None, Some, length, MatchOption, sym, subst, ◌∙◌, arith}
use Rattle.tc_rows.specs.Triples.{Triple}
use Rattle.tc_beh.specs.AlikeSymbols.{IsFirstAlike}
use Rattle.tc_beh.proofs.AlikeLaws.{alike_alike}
use Rattle.tc_settle.specs.Held.{Held, Grows, IsHeldAs, IsUnchanged, IsWrapAt}
use Rattle.tc_close.specs.RowState.{RowState, hedge_at, tree_at, held_of}
use Rattle.tc_close.specs.LookFree.{IsFreeSymbol, AgreeButLooks}
use Rattle.tc_close.specs.NumberTables.{HasNumber, ComesOn}
use Rattle.tc_close.specs.Once.{AreKnown, AreOnce}
use Rattle.tc_close.specs.declared.look_free.FreeSymbols.{FreeSymbols}
use Rattle.tc_close.specs.declared.number_table.NumberTable.{NumberTable}
use Rattle.tc_close.proofs.NumberTables.{all_more}
use Rattle.tc_close.proofs.FreeWraps.{live_free, wrap_free, agree_back}

-- nothing is known yet
pub none_known : (s : Held) (w : NumberTable) → ((a h u : ℕ) → HasNumber w.places.items a h u → ⊥) → AreKnown s w
none_known s w none a h u has = absurd (none a h u has)

known_on : (s r : Held) (w : NumberTable) → Grows s r → AreKnown s w → AreKnown r w
known_on s r w grows before a h u has =
    let (few, low, (here, is)) = before a h u has in
    (subst (λ n. a < n) (sym grows.symbols) few, omega (arith, low, grows.hedges), (omega (arith, here, grows.trees), grows.is_wrap a h u few low here is))

-- one more is known
known_more : (s : Held) (old new : NumberTable) (a h u : ℕ) → AreKnown s old → ComesOn a h u old.places.items new.places.items → a < s.symbols → h < s.hedges → IsWrapAt s a h u → AreKnown s new
known_more s old new a h u before learned few low here = all_more (λ b j v. (b < s.symbols) × (j < s.hedges) × IsWrapAt s b j v) a h u old.places.items new.places.items learned before (few, low, here)

module _ (IsOf : Triple → Type 0) where
  -- elements of a symbol that reads no look, around lists of trees that agree in all else
  pub wrap_agree : (s : RowState) (a h k u : ℕ) → ((x : Triple) → IsOf x → IsFreeSymbol x a) → ((x : Triple) → IsOf x → AgreeButLooks (hedge_at x s h) (hedge_at x s k)) → IsWrapAt (held_of IsOf s) a h u ↔ IsWrapAt (held_of IsOf s) a k u
  wrap_agree s a h k u free same = (
    λ at. (at.0, λ x o. let (live, made) = at.1 x o in (live_free x a (free x o) (hedge_at x s h) (hedge_at x s k) (same x o) live, wrap_free x a (free x o) (hedge_at x s h) (hedge_at x s k) (same x o) (tree_at x s u) made)),
    λ at. (
      at.0,
      λ x o.
          let back = agree_back (hedge_at x s h) (hedge_at x s k) (same x o) in
          let (live, made) = at.1 x o in
          (live_free x a (free x o) (hedge_at x s k) (hedge_at x s h) back live, wrap_free x a (free x o) (hedge_at x s k) (hedge_at x s h) back (tree_at x s u) made),
    ),
  )

  module _ (s : RowState) (a h first : ℕ) (is : (x : Triple) → IsOf x → IsFirstAlike x a first) where
    -- what is told of the first symbol that is alike
    pub dead_first : (held_of IsOf s).no_wrap first h → (held_of IsOf s).no_wrap a h
    dead_first dead = λ x o live. dead x o (((alike_alike x first a (is x o).alike).1 (hedge_at x s h)).1.1 live)

    pub live_first : (u : ℕ) → IsWrapAt (held_of IsOf s) first h u → IsWrapAt (held_of IsOf s) a h u
    live_first u at = (
      at.0,
      λ x o.
          let (live, wrapped) = at.1 x o in
          let law = (alike_alike x first a (is x o).alike).1 (hedge_at x s h) in
          (law.1.0 live, (law.0 (tree_at x s u)).0 wrapped),
    )

    pub made_first : (old : Held) (n : ℕ) (made : Option ℕ) → MatchOption made ((held_of IsOf s).no_wrap first h × IsUnchanged old (held_of IsOf s)) (λ u. IsWrapAt (held_of IsOf s) first h u × IsHeldAs n (length s.trees) u)
        → MatchOption made ((held_of IsOf s).no_wrap a h × IsUnchanged old (held_of IsOf s)) (λ u. IsWrapAt (held_of IsOf s) a h u × IsHeldAs n (length s.trees) u)
    made_first old n None told = (dead_first told.0, told.1)
    made_first old n (Some u) told = (live_first u told.0, told.1)

  module _ (firsts : List ℕ) (f : FreeSymbols) (w : NumberTable) where
    -- more rows are held
    pub once_on : (s r : RowState) → Grows (held_of IsOf s) (held_of IsOf r) → AreOnce IsOf s firsts f w → AreOnce IsOf r firsts f w
    once_on s r grows once = record { some = once.some; count = once.count ∙ sym grows.symbols; alike = once.alike; free = once.free; known = known_on (held_of IsOf s) (held_of IsOf r) w grows once.known }

    pub once_more : (s : RowState) → AreOnce IsOf s firsts f w → (new : NumberTable) (a h u : ℕ) → ComesOn a h u w.places.items new.places.items → a < s.symbols → h < length s.hedges
        → IsWrapAt (held_of IsOf s) a h u → AreOnce IsOf s firsts f new
    once_more s once new a h u learned few low here = record { some = once.some; count = once.count; alike = once.alike; free = once.free; known = known_more (held_of IsOf s) w new a h u once.known learned few low here }
