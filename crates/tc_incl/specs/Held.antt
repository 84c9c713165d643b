-- Rows as code holds them, and what is made of which, by the schemas that the automata stand for.
use Rattle.std.specs.Prelude.{◌≡◌, ℕ}
use Rattle.tc_auto.specs.Stands as a
use Rattle.tc_model.specs.States.{input}
use Rattle.tc_model.specs.Symbols.{symbol_count}
use Rattle.tc_sets.specs.Numbers.{Has, IsSet}
use Rattle.tc_incl.specs.declared.rows.Row.{Row}
use Rattle.tc_incl.specs.declared.both.Both.{Both}
use Rattle.tc_incl.specs.Schemas.{Schemas}
use Rattle.tc_incl.specs.Rows.{HedgeRow, TreeRow}
use Rattle.tc_incl.specs.Arithmetic.{IsEmptyRow, IsTextRow, IsTextLive, IsAppend, IsLiveAppend, IsWrap, IsLiveWrap, IsFailing}
use Rattle.tc_incl.specs.Sets.{members}
use Rattle.tc_incl.specs.Sides.{AreAllowed}

-- the rows that are meant
abbrev pub hedge_row : Row → HedgeRow
hedge_row r = record { ends = r.text; first = members r.first; second = members r.second }

abbrev pub tree_row : Row → TreeRow
tree_row r = record { is_text = r.text; first = members r.first; second = members r.second }

-- the automata stand for the schemas, and what their classes hold is told by the symbols
pub record AreTold (s : Both) (x : Schemas) : Type 0 where
  pub first : a.Stands input x.first s.first.auto.now
  pub second : a.Stands input x.second s.second.auto.now
  pub symbols : s.symbols ≡ symbol_count x.symbols
  pub first_allowed : AreAllowed x.first x.symbols s.first.allowed.items
  pub second_allowed : AreAllowed x.second x.symbols s.second.allowed.items

module _ (s : Both) where
  -- sets of states, and of element patterns, which are numbered from 1
  pub record IsHedgeFit (r : Row) : Type 0 where
    pub first : IsSet r.first
    pub second : IsSet r.second
    pub first_size : r.first.size ≡ a.states s.first.auto.now
    pub second_size : r.second.size ≡ a.states s.second.auto.now

  pub record IsTreeFit (r : Row) : Type 0 where
    pub first : IsSet r.first
    pub second : IsSet r.second
    pub first_size : r.first.size ≡ s.first.end
    pub second_size : r.second.size ≡ s.second.end
    pub first_from_one : ¬ Has r.first 0
    pub second_from_one : ¬ Has r.second 0

  -- what is made of rows, for all schemas that the automata stand for
  abbrev pub IsNone : Row → Type 0
  IsNone u = (x : Schemas) → AreTold s x → IsEmptyRow x (hedge_row u)

  abbrev pub IsText : Row → Type 0
  IsText u = (x : Schemas) → AreTold s x → IsTextLive x × IsTextRow x (tree_row u)

  abbrev pub NoText : Type 0
  NoText = (x : Schemas) → AreTold s x → ¬ IsTextLive x

  abbrev pub IsAppended : Row → Row → Row → Type 0
  IsAppended h t u = (x : Schemas) → AreTold s x → IsLiveAppend x (hedge_row h) (tree_row t) × IsAppend x (hedge_row h) (tree_row t) (hedge_row u)

  abbrev pub NoAppended : Row → Row → Type 0
  NoAppended h t = (x : Schemas) → AreTold s x → ¬ IsLiveAppend x (hedge_row h) (tree_row t)

  abbrev pub IsWrapped : ℕ → Row → Row → Type 0
  IsWrapped a h u = (x : Schemas) → AreTold s x → IsLiveWrap x a (hedge_row h) × IsWrap x a (hedge_row h) (tree_row u)

  abbrev pub NoWrapped : ℕ → Row → Type 0
  NoWrapped a h = (x : Schemas) → AreTold s x → ¬ IsLiveWrap x a (hedge_row h)

  abbrev pub Fails : Row → Type 0
  Fails t = (x : Schemas) → AreTold s x → IsFailing x (tree_row t)

  abbrev pub Passes : Row → Type 0
  Passes t = (x : Schemas) → AreTold s x → ¬ IsFailing x (tree_row t)
