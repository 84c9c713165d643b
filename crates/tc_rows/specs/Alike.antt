-- Symbols that nothing tells apart: elements of them around the same trees have the same rows.
use Rattle.std.specs.Prelude.{◌≡◌, ◌⊎◌, ℕ, Some, Contains}
use Rattle.tc_model.specs.Grammars.{ElementPattern, element_at, in_class}
use Rattle.tc_model.specs.Sheets.{Path}
use Rattle.tc_model.specs.Symbols.{fresh_name}
use Rattle.tc_model.specs.Letters.{of_symbol}
use Rattle.tc_model.specs.PathStates.{path_of_rules}
use Rattle.tc_model.specs.StateCounts.{PathUse, blocks_of}
use Rattle.tc_rules.specs.Graphs.{path_fits}
use Rattle.tc_rows.specs.Triples.{Triple, sheet, predicates}
use Rattle.tc_rows.specs.Rows.{HedgeRow, TreeRow}
use Rattle.tc_rows.specs.Arithmetic.{IsWrap, IsLiveWrap}

module _ (x : Triple) where
  -- a path of the stylesheet: all match patterns together, or that of a move or look
  abbrev pub IsUsed : Path → Type 0
  IsUsed p = (p ≡ path_of_rules (sheet x).rules) ⊎ ((b : PathUse) × Contains (blocks_of (sheet x)) b × (b.path ≡ p))

  -- the same classes hold both, and the same steps fit them, whatever predicates hold
  pub record AreAlike (a b : ℕ) : Type 0 where
    pub input : (k : ℕ) (e : ElementPattern) → element_at x.input.elements k ≡ Some e → in_class e.names (fresh_name x.symbols a) ≡ in_class e.names (fresh_name x.symbols b)
    pub output : (k : ℕ) (e : ElementPattern) → element_at x.output.elements k ≡ Some e → in_class e.names (fresh_name x.symbols a) ≡ in_class e.names (fresh_name x.symbols b)
    pub steps : (p : Path) → IsUsed p → (marks : ℕ)
        → path_fits x.symbols (predicates x) p (record { kind = of_symbol a; marks = marks }) ≡ path_fits x.symbols (predicates x) p (record { kind = of_symbol b; marks = marks })

-- they wrap alike
abbrev pub AlikeWrapAlike : Type 0
AlikeWrapAlike =
    (x : Triple) (a b : ℕ) → AreAlike x a b → (h : HedgeRow)
    → ((u : TreeRow) → IsWrap x a h u → IsWrap x b h u) × (IsLiveWrap x a h → IsLiveWrap x b h)
