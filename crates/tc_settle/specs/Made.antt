-- The trees that rows are derived by: texts `t`, and elements of the names that stand for their symbols.
use Rattle.std.specs.Prelude.{◌≡◌, ◌<◌, ℕ, List, codes}
use Rattle.tc_model.specs.Trees.{Trees, none, node_count}
use Rattle.tc_model.specs.Chains.{Tree, an_element, a_text}
use Rattle.tc_model.specs.TreesApart.{alone, followed_by}
use Rattle.tc_model.specs.Symbols.{Mention, fresh_name}
use Rattle.tc_settle.specs.Held.{Held, IsNoneAt, IsTextAt, IsAppendAt, IsWrapAt}

module _ (s : Held) (symbols : List Mention) where
  -- a list of trees, or a tree, of the row of this number
  mutual
    pub data IsMadeHedge : Trees → ℕ → Type 0 where
      made_none : {u : ℕ} → IsNoneAt s u → IsMadeHedge none u
      made_append : {h t u : ℕ} {front : Trees} {last : Tree} → IsMadeHedge front h → IsMadeTree last t → IsAppendAt s h t u → IsMadeHedge (followed_by front last) u

    pub data IsMadeTree : Tree → ℕ → Type 0 where
      made_text : {u : ℕ} → IsTextAt s u → IsMadeTree (a_text (codes "t")) u
      made_wrap : {a h u : ℕ} {kids : Trees} → a < s.symbols → IsMadeHedge kids h → IsWrapAt s a h u → IsMadeTree (an_element (fresh_name symbols a) kids) u

  -- such a list with so many nodes
  abbrev pub IsMadeWith : Trees → ℕ → ℕ → Type 0
  IsMadeWith h u n = IsMadeHedge h u × (node_count h ≡ n)

  -- these are one such tree with so many nodes
  abbrev pub IsOneMade : Trees → ℕ → ℕ → Type 0
  IsOneMade h u n = (t : Tree) × (h ≡ alone t) × IsMadeTree t u × (node_count h ≡ n)
