-- The laws of cover rows: all that is to be known of them where rows of all live trees are found.
use Rattle.std.specs.Prelude.{◌≡◌, ◌<◌, ◌↔◌, ◌+◌, ℕ, List, false, IsTrue, codes}
use Rattle.tc_model.specs.Names.{ExpandedName, IsName, IsText}
use Rattle.tc_model.specs.Trees.{Trees, none, is_white_space_only, node_count, IsNormal}
use Rattle.tc_model.specs.Chains.{Tree, an_element, a_text}
use Rattle.tc_model.specs.TreesApart.{alone, followed_by, FromBack}
use Rattle.tc_model.specs.LiveTrees.{AreOfDocuments, IsLiveTree, IsLiveHedge}
use Rattle.tc_model.specs.Validity.{IsValid}
use Rattle.tc_model.specs.Symbols.{symbol_of, symbol_count, fresh_name}
use Rattle.tc_incl.specs.Schemas.{Schemas, AreSchemas}
use Rattle.tc_incl.specs.Rows.{HedgeRow, TreeRow, IsHedgeRow, IsTreeRow, IsRowOfHedge, IsRowOfTree}
use Rattle.tc_incl.specs.Arithmetic.{IsEmptyRow, IsTextRow, IsTextLive, IsAppend, IsLiveAppend, IsWrap, IsLiveWrap, is_start}

module _ (x : Schemas) where
  -- a tree has one row, and so has a list of trees; what is worked out from rows is one row
  pub record AreOne : Type 0 where
    pub trees : (t : Tree) (r s : TreeRow) → IsRowOfTree x t r → IsRowOfTree x t s → r ≡ s
    pub hedges : (h : Trees) (r s : HedgeRow) → IsRowOfHedge x h r → IsRowOfHedge x h s → r ≡ s
    pub empty : (u v : HedgeRow) → IsEmptyRow x u → IsEmptyRow x v → u ≡ v
    pub text : (u v : TreeRow) → IsTextRow x u → IsTextRow x v → u ≡ v
    pub appended : (h : HedgeRow) (t : TreeRow) (u v : HedgeRow) → IsAppend x h t u → IsAppend x h t v → u ≡ v
    pub wrapped : (a : ℕ) (h : HedgeRow) (u v : TreeRow) → IsWrap x a h u → IsWrap x a h v → u ≡ v

  -- there are rows: of all trees in normal form, and of what is worked out from rows
  pub record AreThere : Type 0 where
    pub empty : (u : HedgeRow) × IsEmptyRow x u
    pub text : (u : TreeRow) × IsTextRow x u
    pub appended : (h : HedgeRow) (t : TreeRow) → IsHedgeRow x h → IsTreeRow x t → (u : HedgeRow) × IsAppend x h t u
    pub wrapped : (a : ℕ) (h : HedgeRow) → IsHedgeRow x h → (u : TreeRow) × IsWrap x a h u
    pub trees : (t : Tree) → IsNormal (alone t) → (r : TreeRow) × IsRowOfTree x t r
    pub hedges : (h : Trees) → IsNormal h → (r : HedgeRow) × IsRowOfHedge x h r

  -- rows commute with putting trees together: of all trees in normal form, live or not, rows are worked out from those of their parts; and what is live, made of live parts, is told by rows
  pub record Commute : Type 0 where
    pub empty : (u : HedgeRow) → IsEmptyRow x u → IsRowOfHedge x none u
    pub text : (s : List ℕ) (u : TreeRow) → is_white_space_only s ≡ false → IsTextRow x u → IsRowOfTree x (a_text s) u
    pub text_live : (s : List ℕ) → IsText s → is_white_space_only s ≡ false → IsLiveTree x.first (a_text s) ↔ IsTextLive x
    -- where all of it is in normal form, so is the last tree
    pub appended : (h : Trees) (t : Tree) (r : HedgeRow) (s : TreeRow) (u : HedgeRow)
        → IsNormal (alone t) → IsRowOfHedge x h r → IsRowOfTree x t s → IsAppend x r s u → IsRowOfHedge x (followed_by h t) u
    pub append_live : (h : Trees) (t : Tree) (r : HedgeRow) (s : TreeRow)
        → IsLiveHedge x.first h → IsLiveTree x.first t → IsRowOfHedge x h r → IsRowOfTree x t s → IsLiveHedge x.first (followed_by h t) ↔ IsLiveAppend x r s
    pub wrapped : (n : ExpandedName) (h : Trees) (r : HedgeRow) (u : TreeRow)
        → IsNormal h → IsRowOfHedge x h r → IsWrap x (symbol_of x.symbols n) r u → IsRowOfTree x (an_element n h) u
    pub wrap_live : (n : ExpandedName) (h : Trees) (r : HedgeRow)
        → IsName n → IsLiveHedge x.first h → IsRowOfHedge x h r → IsLiveTree x.first (an_element n h) ↔ IsLiveWrap x (symbol_of x.symbols n) r

  -- all live trees are made of live ones, from none: a text, an element around a live list, a live tree behind a live list
  pub record AreMade : Type 0 where
    pub from_back : (h : Trees) → FromBack h
    pub none_is_live : IsLiveHedge x.first none
    pub no_white_text : (s : List ℕ) → IsLiveTree x.first (a_text s) → IsText s × (is_white_space_only s ≡ false)
    pub name_inside : (n : ExpandedName) (h : Trees) → IsLiveTree x.first (an_element n h) → IsName n
    pub inside : (n : ExpandedName) (h : Trees) → IsLiveTree x.first (an_element n h) → IsLiveHedge x.first h
    pub front : (h : Trees) (t : Tree) → IsLiveHedge x.first (followed_by h t) → IsLiveHedge x.first h
    pub last : (h : Trees) (t : Tree) → IsLiveHedge x.first (followed_by h t) → IsLiveTree x.first t
    pub nodes : (h : Trees) (t : Tree) → node_count (followed_by h t) ≡ node_count h + node_count (alone t)
    -- each symbol has a name, and a text is at hand
    pub symbol : (n : ExpandedName) → symbol_of x.symbols n < symbol_count x.symbols
    pub fresh : (a : ℕ) → a < symbol_count x.symbols → IsName (fresh_name x.symbols a) × (symbol_of x.symbols (fresh_name x.symbols a) ≡ a)
    pub plain_text : IsText (codes "t") × (is_white_space_only (codes "t") ≡ false)

  -- a valid document is one live tree, and rows tell for which of the schemas it is valid
  pub record Tell : Type 0 where
    pub documents : (doc : Trees) → IsValid x.first doc → (t : Tree) × (doc ≡ alone t) × IsLiveTree x.first t
    pub first : (t : Tree) (r : TreeRow) → AreOfDocuments (alone t) → IsRowOfTree x t r → IsValid x.first (alone t) ↔ IsTrue (is_start x.first r.first)
    pub second : (t : Tree) (r : TreeRow) → AreOfDocuments (alone t) → IsRowOfTree x t r → IsValid x.second (alone t) ↔ IsTrue (is_start x.second r.second)

  pub record RowLaws : Type 0 where
    pub one : AreOne
    pub there : AreThere
    pub commute : Commute
    pub made : AreMade
    pub tell : Tell

-- cover rows keep all these laws
abbrev pub RowsAreLawful : Type 0
RowsAreLawful = (x : Schemas) → AreSchemas x → RowLaws x
