-- What is derived of held rows, with the number of nodes, and the least of these numbers.
use Rattle.std.specs.Prelude.{◌≡◌, ◌<◌, ◌≤◌, ◌⊎◌, ◌+◌, ℕ}
use Rattle.tc_base.specs.declared.limits.TheConstants.{MOST_SHOWN_NODES}
use Rattle.tc_settle.specs.Held.{Held, IsNoneAt, IsTextAt, IsAppendAt, IsWrapAt}

module _ (s : Held) where
  -- of no tree, of a list with one more tree behind, of a text and of an element around a list; no tree has no node, a text one, an element one more than what it holds
  mutual
    pub data HedgeFrom : ℕ → ℕ → Type 0 where
      from_none : {u : ℕ} → IsNoneAt s u → HedgeFrom u 0
      from_append : {h t u m n : ℕ} → HedgeFrom h m → TreeFrom t n → IsAppendAt s h t u → HedgeFrom u (m + n)

    pub data TreeFrom : ℕ → ℕ → Type 0 where
      from_text : {u : ℕ} → IsTextAt s u → TreeFrom u 1
      from_wrap : {a h u n : ℕ} → a < s.symbols → HedgeFrom h n → IsWrapAt s a h u → TreeFrom u (n + 1)

  -- each row that is held is derived
  pub record AllDerive : Type 0 where
    pub hedges : (u : ℕ) → u < s.hedges → (n : ℕ) × HedgeFrom u n
    pub trees : (u : ℕ) → u < s.trees → (n : ℕ) × TreeFrom u n

  -- all that is made of what is held is held, or is dead
  pub record IsClosed : Type 0 where
    pub none : (u : ℕ) × IsNoneAt s u
    pub text : s.no_text ⊎ ((u : ℕ) × IsTextAt s u)
    pub append : (h t : ℕ) → h < s.hedges → t < s.trees → s.no_append h t ⊎ ((u : ℕ) × IsAppendAt s h t u)
    pub wrap : (a h : ℕ) → a < s.symbols → h < s.hedges → s.no_wrap a h ⊎ ((u : ℕ) × IsWrapAt s a h u)

  -- more than so many trees, or lists of trees, are derived
  abbrev pub HaveTooManyTrees : ℕ → Type 0
  HaveTooManyTrees most = (most < s.trees) × AllDerive

  abbrev pub HaveTooManyHedges : ℕ → Type 0
  HaveTooManyHedges most = (most < s.hedges) × AllDerive

-- the cost of all that takes more nodes than a document that is shown has
abbrev pub far_cost : ℕ
far_cost = MOST_SHOWN_NODES + 1

-- of the numbers at which something comes, the least up to 2,000; 2,001 where all are greater than 2,000
abbrev pub IsCost : (ℕ → Type 0) → ℕ → Type 0
IsCost At c = ((c ≤ MOST_SHOWN_NODES) × At c × ((n : ℕ) → At n → c ≤ n)) ⊎ ((c ≡ far_cost) × ((n : ℕ) → At n → MOST_SHOWN_NODES < n))
