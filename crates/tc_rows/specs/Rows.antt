-- Rows: all that can matter of a tree and of a list of trees. Where they may stand in the input, and what the stylesheet makes of them in each place.
-- A row is a class of a congruence of finite index. The values of looks are those that a certificate has.
use Rattle.std.specs.Prelude.{◌≡◌, ◌<◌, ◌≤◌, ◌↔◌, ◌+◌, ◌-◌, ◌*◌, ℕ, List, [], length, get_or, Bool, if◌then◌else◌, ◌==◌, not, Option, None, Some, All}
use Rattle.std.specs.List.{Contains}
use Rattle.std.specs.List.Sorted.{IsStrictlySortedBy}
use Rattle.std.specs.Ordering.{nat_cmp}
use Rattle.tc_model.specs.Trees.{Trees}
use Rattle.tc_model.specs.Chains.{Tree, an_element, a_text, Node, whole, one}
use Rattle.tc_model.specs.TreesApart.{alone, is_text, ends_in_text, bears_text}
use Rattle.tc_model.specs.States.{input, output, state_count, first_state, IsElementOf, Leads}
use Rattle.tc_model.specs.Machine as m
use Rattle.tc_model.specs.Machine.{first_hit}
use Rattle.tc_rules.specs.States.{Going, Looking}
use Rattle.tc_rules.specs.RulesView.{ancestor}
use Rattle.tc_rules.specs.Tasks.{IsMoveAt, IsLookAt}
use Rattle.tc_rows.specs.Triples.{Triple, machine, outputs, ancestors, moves, looks, entries}
use Rattle.tc_rows.specs.PairSets.{PairSet, IsPairs, listed}

-- of a list of trees
pub record HedgeRow : Type 0 where
  -- the last tree is a text
  pub ends : Bool
  -- a text stands in it, at some depth
  pub bears : Bool
  -- the states of the input to which it leads from the first state of their content
  pub states : List ℕ
  -- for each ancestor state above it, and in it for each state of a move: where what is put out on the hits leads the output
  pub entries : List (List (ℕ × ℕ))
  -- for each state of a look: 0 for no hit, 1 for a first hit that bears no text, 2 for one that does
  pub looks : List ℕ

-- of a tree
pub record TreeRow : Type 0 where
  pub is_text : Bool
  pub bears : Bool
  -- the element patterns of the input that it matches
  pub patterns : List ℕ
  pub entries : List (List (ℕ × ℕ))
  pub looks : List ℕ

-- the value of a look
abbrev pub hit_value : Bool → ℕ
hit_value b = if b then 2 else 1

abbrev pub is_hit_value : ℕ → Bool
is_hit_value v = not (v == 0)

abbrev pub bears_value : ℕ → Bool
bears_value v = v == 2

-- the first hit, or else one behind it
abbrev pub or_hit : ℕ → ℕ → ℕ
or_hit v w = if v == 0 then w else v

-- a text bears text, and so does what has one below it
abbrev pub node_bears : Node → Bool
node_bears (whole doc) = bears_text doc
node_bears (one t) = bears_text (alone t)

abbrev pub value_of : Option Node → ℕ
value_of None = 0
value_of (Some n) = hit_value (node_bears n)

module _ (x : Triple) where
  -- the entry of two numbers, and the value of a look's number, which goes on from those of moves
  abbrev pub entry : List (List (ℕ × ℕ)) → ℕ → ℕ → List (ℕ × ℕ)
  entry es q k = get_or es (q * moves x + k) []

  abbrev pub look : List ℕ → ℕ → ℕ
  look vs k = get_or vs (k - moves x) 0

  pub record AreEntries (es : List (List (ℕ × ℕ))) : Type 0 where
    pub count : length es ≡ entries x
    pub each : All (IsPairs (outputs x)) es

  pub record AreLooks (vs : List ℕ) : Type 0 where
    pub count : length vs ≡ looks x
    pub each : All (λ v. v ≤ 2) vs

  -- lists have the lengths of the triple, ascend strictly, and hold its numbers alone
  pub record IsHedgeRow (r : HedgeRow) : Type 0 where
    pub ascend : IsStrictlySortedBy nat_cmp r.states
    pub states : All (λ j. j < state_count x.input input) r.states
    pub entries : AreEntries r.entries
    pub looks : AreLooks r.looks

  pub record IsTreeRow (r : TreeRow) : Type 0 where
    pub ascend : IsStrictlySortedBy nat_cmp r.patterns
    pub patterns : All (λ k. (1 ≤ k) × (k ≤ length x.input.elements)) r.patterns
    pub entries : AreEntries r.entries
    pub looks : AreLooks r.looks

  -- a content's first state is led to the state
  abbrev pub IsLedTo : Trees → ℕ → Type 0
  IsLedTo h j = (k : ℕ) × (1 ≤ k) × (k ≤ length x.input.elements) × Leads x.input input (first_state x.input input k) h j

  -- the element patterns of an element; a text has none
  abbrev pub IsPatternOf : Tree → ℕ → Type 0
  IsPatternOf (an_element n kids) k = IsElementOf x.input.elements k n kids
  IsPatternOf (a_text s) k = ⊥

  -- where trees that are put out lead the output
  abbrev pub led : Trees → PairSet
  led h i j = (i < outputs x) × Leads x.output output i h j

  -- each entry is what is put out, in the order of the document, on the hits of the state in the trees and below, the ancestor state being that above them
  abbrev pub AreEntriesOf : Trees → List (List (ℕ × ℕ)) → Type 0
  AreEntriesOf h es =
      (q k : ℕ) (g : Going) → q < ancestors x → IsMoveAt x.rules k g
      → (i j : ℕ) → listed (entry es q k) i j ↔ led (m.outputs (machine x) h g.task (ancestor x.rules q) g).out i j

  abbrev pub AreLooksOf : Trees → List ℕ → Type 0
  AreLooksOf h vs = (k : ℕ) (s : Looking) → IsLookAt x.rules k s → look vs k ≡ value_of (first_hit (machine x) h s)

  pub record IsRowOfHedge (h : Trees) (r : HedgeRow) : Type 0 where
    pub row : IsHedgeRow r
    pub ends : r.ends ≡ ends_in_text h
    pub bears : r.bears ≡ bears_text h
    pub states : (j : ℕ) → Contains r.states j ↔ IsLedTo h j
    pub entries : AreEntriesOf h r.entries
    pub looks : AreLooksOf h r.looks

  pub record IsRowOfTree (t : Tree) (r : TreeRow) : Type 0 where
    pub row : IsTreeRow r
    pub is_text : r.is_text ≡ is_text t
    pub bears : r.bears ≡ bears_text (alone t)
    pub patterns : (k : ℕ) → Contains r.patterns k ↔ IsPatternOf t k
    pub entries : AreEntriesOf (alone t) r.entries
    pub looks : AreLooksOf (alone t) r.looks
