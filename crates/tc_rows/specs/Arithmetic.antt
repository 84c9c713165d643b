-- Row arithmetic: the rows of no tree, of a text, of trees with one more behind them, and of an element around trees, worked out from rows alone, also from rows of no tree.
-- These are the operations of a forest algebra. Whether an append or a wrap is live is said of its arguments,
-- so that a dead one needn't be worked out.
use Rattle.std.specs.Prelude.{◌≡◌, ◌<◌, ◌≤◌, ◌↔◌, ◌⊎◌, ◌+◌, ℕ, List, [], length, get_or, Bool, true, false, ◌&&◌, ◌||◌, cond, nat_lt, Some}
use Rattle.std.specs.List.{Contains, list_any}
use Rattle.tc_model.specs.Grammars.{ElementPattern, element_at, InClass, some_content_has_text}
use Rattle.tc_model.specs.Sheets.{Path}
use Rattle.tc_model.specs.States.{input, text_leaf, ref_leaf, automaton, first_state, IsEdge, is_alternative}
use Rattle.tc_model.specs.Machine.{in_mode}
use Rattle.tc_model.specs.Symbols.{fresh_name}
use Rattle.tc_model.specs.Letters.{of_symbol, of_text, Letter}
use Rattle.tc_model.specs.PathStates as paths
use Rattle.tc_model.specs.PathStates.{State, next_state, is_hit}
use Rattle.tc_rules.specs.States.{Going, Looking, body_by, body_of_root}
use Rattle.tc_rules.specs.RulesView.{select_count, ancestor}
use Rattle.tc_rules.specs.Tasks.{IsMoveAt, IsLookAt}
use Rattle.tc_rows.specs.Triples.{Triple, Select, sheet, predicates, ancestors, moves, looks, entries, number, number_below, moving, looking}
use Rattle.tc_rows.specs.PairSets.{PairSet, product, chosen, listed}
use Rattle.tc_rows.specs.Rows.{HedgeRow, TreeRow, IsHedgeRow, IsTreeRow, entry, look, hit_value, or_hit}
use Rattle.tc_rows.specs.Bodies.{NodeKind, on_root, on_element, on_text, Below, letter_by, stay, body_pairs}

module _ (x : Triple) where
  -- what a state of a look finds, and what is put out from a state of a move. A state without a number finds nothing, and nothing is put out from it
  abbrev pub look_from : List ℕ → Select → ℕ
  look_from vs y = cond (nat_lt (number x y) (select_count x.rules)) (look x vs (number x y)) 0

  abbrev pub pairs_from : List (List (ℕ × ℕ)) → ℕ → Select → PairSet
  pairs_from es q y = chosen (nat_lt (number x y) (moves x)) (listed (entry x es q (number x y))) (stay x)

  -- what stands below a node of an ancestor state, from whether it bears, its entries and its looks; and nothing
  abbrev pub below : Bool → List (List (ℕ × ℕ)) → List ℕ → ℕ → Below
  below bears es vs q = record { bears = bears; look = λ p. look_from vs (looking p (paths.first_state p)); pairs = λ mode p. pairs_from es q (moving mode p (paths.first_state p)) }

  abbrev pub nothing_below : Below
  nothing_below = record { bears = false; look = λ p. 0; pairs = λ mode p. stay x }

  -- the letter of a text, and of an element of a symbol around what has these looks
  abbrev pub letter_of_text : Letter
  letter_of_text = letter_by x of_text (λ p. 0)

  abbrev pub letter_around : ℕ → List ℕ → Letter
  letter_around a vs = letter_by x (of_symbol a) (λ p. look_from vs (looking p (paths.first_state p)))

  -- a state one tree further down, and whether the tree is a hit
  abbrev pub step : Path → State → Letter → State
  step p s l = next_state x.symbols (predicates x) p s l

  abbrev pub hits : Path → State → Letter → Bool
  hits p s l = is_hit x.symbols (predicates x) p s l

  -- what a state of a move puts out on a node that it hits, the ancestor state being that above the node
  abbrev pub hit_pairs : Going → ℕ → Letter → NodeKind → Below → PairSet
  hit_pairs g q l k w = chosen (hits g.path g.state l) (body_pairs x (body_by x.symbols (predicates x) (sheet x).rules x.bodies g.task (ancestor x.rules q) l) k w) (stay x)

  -- a tree leads a state to another: a text by text alone, whatever its patterns
  abbrev pub TreeLeads : TreeRow → ℕ → ℕ → Type 0
  TreeLeads t i j =
      ((t.is_text ≡ true) × IsEdge x.input input i text_leaf j) ⊎ ((t.is_text ≡ false) × ((k : ℕ) × Contains t.patterns k × IsEdge x.input input i (ref_leaf k) j))

  -- no tree
  pub record IsEmptyRow (u : HedgeRow) : Type 0 where
    pub row : IsHedgeRow x u
    pub ends : u.ends ≡ false
    pub bears : u.bears ≡ false
    pub states : (j : ℕ) → Contains u.states j ↔ ((k : ℕ) × (1 ≤ k) × (k ≤ length x.input.elements) × (j ≡ first_state x.input input k))
    pub entries : (i : ℕ) → i < entries x → (a b : ℕ) → listed (get_or u.entries i []) a b ↔ stay x a b
    pub looks : (i : ℕ) → i < looks x → get_or u.looks i 0 ≡ 0

  -- a text that isn't white space alone
  pub record IsTextRow (u : TreeRow) : Type 0 where
    pub row : IsTreeRow x u
    pub is_text : u.is_text ≡ true
    pub bears : u.bears ≡ true
    pub patterns : u.patterns ≡ []
    pub entries : (q k : ℕ) (g : Going) → q < ancestors x → IsMoveAt x.rules k g
        → (a b : ℕ) → listed (entry x u.entries q k) a b ↔ hit_pairs g q letter_of_text on_text nothing_below a b
    pub looks : (k : ℕ) (s : Looking) → IsLookAt x.rules k s → look x u.looks k ≡ cond (hits s.path s.state letter_of_text) (hit_value true) 0

  abbrev pub IsTextLive : Type 0
  IsTextLive = some_content_has_text x.input.elements ≡ true

  -- trees with one more behind them
  pub record IsAppend (h : HedgeRow) (t : TreeRow) (u : HedgeRow) : Type 0 where
    pub row : IsHedgeRow x u
    pub ends : u.ends ≡ t.is_text
    pub bears : u.bears ≡ h.bears || t.bears
    pub states : (j : ℕ) → Contains u.states j ↔ ((i : ℕ) × Contains h.states i × TreeLeads t i j)
    pub entries : (i : ℕ) → i < entries x → (a b : ℕ) → listed (get_or u.entries i []) a b ↔ product (listed (get_or h.entries i [])) (listed (get_or t.entries i [])) a b
    pub looks : (i : ℕ) → i < looks x → get_or u.looks i 0 ≡ or_hit (get_or h.looks i 0) (get_or t.looks i 0)

  -- no two texts stand side by side, and there is a state
  abbrev pub IsLiveAppend : HedgeRow → TreeRow → Type 0
  IsLiveAppend h t = ((h.ends && t.is_text) ≡ false) × ((i : ℕ) × (j : ℕ) × Contains h.states i × TreeLeads t i j)

  -- the class of an element pattern holds the symbol, and its content accepts
  abbrev pub IsPatternAround : ℕ → HedgeRow → ℕ → Type 0
  IsPatternAround a h k =
      (e : ElementPattern) × (element_at x.input.elements k ≡ Some e) × InClass e.names (fresh_name x.symbols a)
      × ((y : ℕ) × Contains h.states (first_state x.input input k + y) × (automaton e.content).accepting y)

  -- an element of a symbol around trees
  pub record IsWrap (a : ℕ) (h : HedgeRow) (u : TreeRow) : Type 0 where
    pub row : IsTreeRow x u
    pub is_text : u.is_text ≡ false
    pub bears : u.bears ≡ h.bears
    pub patterns : (k : ℕ) → Contains u.patterns k ↔ IsPatternAround a h k
    pub entries : (q k : ℕ) (g : Going) (at : IsMoveAt x.rules k g) → q < ancestors x
        → (i j : ℕ) → listed (entry x u.entries q k) i j
        ↔ product
        (hit_pairs g q (letter_around a h.looks) (on_element a) (below h.bears h.entries h.looks (number_below x q (letter_around a h.looks))))
        (pairs_from h.entries (number_below x q (letter_around a h.looks)) (moving at.mode g.path (step g.path g.state (letter_around a h.looks)))) i j
    pub looks : (k : ℕ) (s : Looking) → IsLookAt x.rules k s
        → look x u.looks k ≡ cond (hits s.path s.state (letter_around a h.looks)) (hit_value h.bears) (look_from h.looks (looking s.path (step s.path s.state (letter_around a h.looks))))

  abbrev pub IsLiveWrap : ℕ → HedgeRow → Type 0
  IsLiveWrap a h = (k : ℕ) × IsPatternAround a h k

  -- one of its patterns is an alternative of the input's start
  abbrev pub is_admitted : TreeRow → Bool
  is_admitted t = list_any (λ k. is_alternative k x.input.start) t.patterns

  -- what is put out on the root leads the output's state 0 to an accepting state of its start
  abbrev pub IsPassing : TreeRow → Type 0
  IsPassing t =
      (j : ℕ) × body_pairs x (body_of_root x.symbols (predicates x) (sheet x).rules x.bodies (in_mode 0)) on_root (below t.bears t.entries t.looks 0) 0 j
      × (automaton x.output.start).accepting j
