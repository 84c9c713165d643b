-- What a body puts out on a node, told by what stands below the node: where it leads the output.
use Rattle.std.specs.Prelude.{◌≡◌, ◌+◌, ℕ, List, map, Bool, true, false, not, ◌&&◌, ◌||◌, Some}
use Rattle.tc_model.specs.Trees.{is_white_space_only}
use Rattle.tc_model.specs.Grammars.{ElementPattern, element_at, InClass}
use Rattle.tc_model.specs.Sheets.{Path, Test, always, never, has, negated, all_of, any_of, Tests, no_test, test, CallFreeBody, p_done, p_text, p_element, p_copy, p_apply, p_call, p_value, p_self, p_choose, p_each, CallFreeBranches, p_otherwise, p_branch}
use Rattle.tc_model.specs.States.{output, text_leaf, ref_leaf, automaton, first_state, IsEdge}
use Rattle.tc_model.specs.Symbols.{symbol_of, fresh_name}
use Rattle.tc_model.specs.Letters.{Kind, Letter, marks_of}
use Rattle.tc_rows.specs.Triples.{Triple, sheet, predicates, outputs}
use Rattle.tc_rows.specs.PairSets.{PairSet, identity, product, chosen}
use Rattle.tc_rows.specs.Rows.{is_hit_value, bears_value}

-- on what a body is done: the root, an element of a symbol, a text
pub data NodeKind : Type 0 where
  on_root : NodeKind
  on_element : ℕ → NodeKind
  on_text : NodeKind

-- what stands below a node, as its body sees it: whether a text does, what a path finds first, and what is put out in a mode on what a path selects
pub record Below : Type 1 where
  pub bears : Bool
  pub look : Path → ℕ
  pub pairs : ℕ → Path → PairSet

-- whether a test holds
abbrev mutual
  pub holds_by : Test → (Path → ℕ) → Bool
  holds_by always look = true
  holds_by never look = false
  holds_by (has p) look = is_hit_value (look p)
  holds_by (negated t) look = not (holds_by t look)
  holds_by (all_of ts) look = all_hold_by ts look
  holds_by (any_of ts) look = some_holds_by ts look

  pub all_hold_by : Tests → (Path → ℕ) → Bool
  all_hold_by no_test look = true
  all_hold_by (test t ts) look = holds_by t look && all_hold_by ts look

  pub some_holds_by : Tests → (Path → ℕ) → Bool
  some_holds_by no_test look = false
  some_holds_by (test t ts) look = holds_by t look || some_holds_by ts look

module _ (x : Triple) where
  -- the letter of a node
  abbrev pub letter_by : Kind → (Path → ℕ) → Letter
  letter_by k look = record { kind = k; marks = marks_of (map (λ p. holds_by p look) (predicates x)) }

  abbrev pub stay : PairSet
  stay = identity (outputs x)

  -- a text that isn't white space alone
  abbrev pub text_edges : PairSet
  text_edges i j = IsEdge x.output output i text_leaf j

  -- an element of a symbol around what leads so: an edge takes it by an element pattern whose class holds the symbol and whose content accepts what is inside
  abbrev pub around : ℕ → PairSet → PairSet
  around a r i j =
      (k : ℕ) × (e : ElementPattern) × (element_at x.output.elements k ≡ Some e) × InClass e.names (fresh_name x.symbols a)
      × ((y : ℕ) × r (first_state x.output output k) (first_state x.output output k + y) × (automaton e.content).accepting y) × IsEdge x.output output i (ref_leaf k) j

  -- a text, which leads nowhere if it is white space alone
  abbrev pub text_pairs : List ℕ → PairSet
  text_pairs s = chosen (is_white_space_only s) stay text_edges

  -- a string-value, which is empty or isn't white space alone
  abbrev pub value_pairs : Bool → PairSet
  value_pairs bears = chosen bears text_edges stay

  abbrev pub copied_pairs : NodeKind → PairSet → PairSet
  copied_pairs on_root r = r
  copied_pairs (on_element a) r = around a r
  copied_pairs on_text r = text_edges

  abbrev pub self_bears : NodeKind → Bool → Bool
  self_bears on_root below = below
  self_bears (on_element a) below = below
  self_bears on_text below = true

  abbrev mutual
    pub body_pairs : CallFreeBody → NodeKind → Below → PairSet
    body_pairs p_done k w = stay
    body_pairs (p_text s b) k w = product (text_pairs s) (body_pairs b k w)
    body_pairs (p_element n inner b) k w = product (around (symbol_of x.symbols n) (body_pairs inner k w)) (body_pairs b k w)
    body_pairs (p_copy inner b) k w = product (copied_pairs k (body_pairs inner k w)) (body_pairs b k w)
    body_pairs (p_apply p mode b) k w = product (w.pairs mode p) (body_pairs b k w)
    body_pairs (p_call inner b) k w = product (body_pairs inner k w) (body_pairs b k w)
    body_pairs (p_value p b) k w = product (value_pairs (bears_value (w.look p))) (body_pairs b k w)
    body_pairs (p_self b) k w = product (value_pairs (self_bears k w.bears)) (body_pairs b k w)
    body_pairs (p_choose y b) k w = product (branch_pairs y k w) (body_pairs b k w)
    body_pairs (p_each e p inner b) k w = product (w.pairs ((sheet x).modes + e) p) (body_pairs b k w)

    pub branch_pairs : CallFreeBranches → NodeKind → Below → PairSet
    branch_pairs (p_otherwise b) k w = body_pairs b k w
    branch_pairs (p_branch t b y) k w = chosen (holds_by t w.look) (body_pairs b k w) (branch_pairs y k w)
