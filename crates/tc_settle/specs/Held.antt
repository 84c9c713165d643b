-- Rows that are held by their numbers: what is made of which, and how they grow.
use Rattle.std.specs.Prelude.{◌≡◌, ◌<◌, ◌≤◌, ◌⊎◌, ℕ, suc}

-- how many rows of trees and of lists of trees are held, and which number is that of what is made. What is dead is made of nothing
pub record Held : Type 1 where
  pub trees : ℕ
  pub hedges : ℕ
  pub symbols : ℕ
  -- this list is that of no tree
  pub is_none : ℕ → Type 0
  -- this tree is a text, which is live; a text is dead
  pub is_text : ℕ → Type 0
  pub no_text : Type 0
  -- the third is the first list with the second tree behind it, which is live; that is dead
  pub is_append : ℕ → ℕ → ℕ → Type 0
  pub no_append : ℕ → ℕ → Type 0
  -- the third is an element of this symbol around the list, which is live; that is dead
  pub is_wrap : ℕ → ℕ → ℕ → Type 0
  pub no_wrap : ℕ → ℕ → Type 0
  -- the tree is a document whose result isn't valid; it isn't, or its result is
  pub fails : ℕ → Type 0
  pub passes : ℕ → Type 0

module _ (s : Held) where
  abbrev pub IsNoneAt : ℕ → Type 0
  IsNoneAt u = (u < s.hedges) × s.is_none u

  abbrev pub IsTextAt : ℕ → Type 0
  IsTextAt u = (u < s.trees) × s.is_text u

  abbrev pub IsAppendAt : ℕ → ℕ → ℕ → Type 0
  IsAppendAt h t u = (u < s.hedges) × s.is_append h t u

  abbrev pub IsWrapAt : ℕ → ℕ → ℕ → Type 0
  IsWrapAt a h u = (u < s.trees) × s.is_wrap a h u

  -- what is made has one number, and isn't dead
  pub record IsExact : Type 0 where
    pub one_none : (u v : ℕ) → IsNoneAt u → IsNoneAt v → u ≡ v
    pub one_text : (u v : ℕ) → IsTextAt u → IsTextAt v → u ≡ v
    pub one_append : (h t u v : ℕ) → h < s.hedges → t < s.trees → IsAppendAt h t u → IsAppendAt h t v → u ≡ v
    pub one_wrap : (a h u v : ℕ) → a < s.symbols → h < s.hedges → IsWrapAt a h u → IsWrapAt a h v → u ≡ v
    pub live_text : (u : ℕ) → IsTextAt u → s.no_text → ⊥
    pub live_append : (h t u : ℕ) → h < s.hedges → t < s.trees → IsAppendAt h t u → s.no_append h t → ⊥
    pub live_wrap : (a h u : ℕ) → a < s.symbols → h < s.hedges → IsWrapAt a h u → s.no_wrap a h → ⊥
    pub fails_or_passes : (t : ℕ) → t < s.trees → s.fails t → s.passes t → ⊥

-- what is held stays so, under its numbers
pub record Grows (a b : Held) : Type 0 where
  pub trees : a.trees ≤ b.trees
  pub hedges : a.hedges ≤ b.hedges
  pub symbols : b.symbols ≡ a.symbols
  pub is_none : (u : ℕ) → u < a.hedges → a.is_none u → b.is_none u
  pub is_text : (u : ℕ) → u < a.trees → a.is_text u → b.is_text u
  pub no_text : a.no_text → b.no_text
  pub is_append : (h t u : ℕ) → h < a.hedges → t < a.trees → u < a.hedges → a.is_append h t u → b.is_append h t u
  pub no_append : (h t : ℕ) → h < a.hedges → t < a.trees → a.no_append h t → b.no_append h t
  pub is_wrap : (n h u : ℕ) → n < a.symbols → h < a.hedges → u < a.trees → a.is_wrap n h u → b.is_wrap n h u
  pub no_wrap : (n h : ℕ) → n < a.symbols → h < a.hedges → a.no_wrap n h → b.no_wrap n h
  pub fails : (t : ℕ) → t < a.trees → a.fails t → b.fails t
  pub passes : (t : ℕ) → t < a.trees → a.passes t → b.passes t

-- the same rows are held
abbrev pub SameRows : Held → Held → Type 0
SameRows a b = Grows a b × Grows b a

-- no row came on
abbrev pub IsUnchanged : Held → Held → Type 0
IsUnchanged a b = (b.trees ≡ a.trees) × (b.hedges ≡ a.hedges)

-- of so many before and so many after, this one was there or came on as the last
abbrev pub IsHeldAs : ℕ → ℕ → ℕ → Type 0
IsHeldAs old new u = ((u < old) × (new ≡ old)) ⊎ ((u ≡ old) × (new ≡ suc old))
