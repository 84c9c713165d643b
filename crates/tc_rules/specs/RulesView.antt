-- What a value of rules tells: its stylesheet, and the states of its paths by number.
use Rattle.std.specs.Prelude.{◌≡◌, ◌≤◌, ◌+◌, ℕ, List, [], length, map, sum, take, Bool, Some, slice_get, get_or, Contains}
use Rattle.tc_base.specs.declared.limits.TheConstants.{MOST_ANCESTORS, MOST_PREDICATES, MOST_SELECTS}
use Rattle.tc_model.specs.Grammars.{Grammar}
use Rattle.tc_model.specs.Sheets.{Test, Body, Sheet}
use Rattle.tc_model.specs.WellFormed.{IsSheet, ForEach, eaches_of}
use Rattle.tc_model.specs.Symbols.{Mention, symbols_of}
use Rattle.tc_model.specs.Letters.{Letter}
use Rattle.tc_model.specs.PathStates.{State, next_state, is_hit, path_of_rules}
use Rattle.tc_model.specs.Numberings.{predicates_of, moves_of}
use Rattle.tc_model.specs.StateCounts.{PathUse, blocks_of, all_count, some_item}
use Rattle.tc_rules.specs.Graphs.{Graph, IsGraphOf}

pub record RulesView : Type 0 where
  pub sheet : Sheet
  pub predicates : List Test
  -- the bodies of for-each instructions, by their numbers
  pub eaches : List Body
  pub ancestors : Graph
  -- of each move, and then of each look
  pub selects : List Graph

-- the symbols are those of some two schemas and the stylesheet
abbrev pub AreSymbolsWith : List Mention → Sheet → Type 0
AreSymbolsWith symbols s = (input : Grammar) × (output : Grammar) × (symbols ≡ symbols_of input output s)

-- how many select states there are, and how many there are of moves alone
abbrev pub count_states : List Graph → ℕ
count_states gs = sum (map (λ g. length g.states) gs)

abbrev pub select_count : RulesView → ℕ
select_count t = count_states t.selects

abbrev pub move_count : RulesView → ℕ
move_count t = count_states (take (length (moves_of t.sheet)) t.selects)

-- it tells the meaning of a well-formed stylesheet over these symbols, and keeps within the limits
pub record IsTold (symbols : List Mention) (t : RulesView) : Type 0 where
  pub well_formed : IsSheet t.sheet
  pub symbols_are : AreSymbolsWith symbols t.sheet
  pub predicates_are : t.predicates ≡ predicates_of t.sheet
  pub few_predicates : length t.predicates ≤ MOST_PREDICATES
  pub eaches_are : (f : ForEach) → Contains (eaches_of t.sheet) f → slice_get t.eaches f.number ≡ Some f.body
  pub all_eaches : length t.eaches ≡ t.sheet.eaches
  pub ancestors : IsGraphOf symbols (predicates_of t.sheet) all_count (path_of_rules t.sheet.rules) t.ancestors
  pub few_ancestors : length t.ancestors.states ≤ MOST_ANCESTORS
  pub selects : (i : ℕ) (b : PathUse) → slice_get (blocks_of t.sheet) i ≡ Some b
      → (g : Graph) × (slice_get t.selects i ≡ Some g) × IsGraphOf symbols (predicates_of t.sheet) some_item b.path g
  pub all_selects : length t.selects ≡ length (blocks_of t.sheet)
  pub few_selects : select_count t ≤ MOST_SELECTS

-- a select state: its number goes on through all moves and then through all looks
pub record IsStateOf (t : RulesView) (k : ℕ) (b : PathUse) (x : State) : Type 0 where
  pub place : ℕ
  pub block : slice_get (blocks_of t.sheet) place ≡ Some b
  pub graph : Graph
  pub graph_is : slice_get t.selects place ≡ Some graph
  pub number : ℕ
  pub state : slice_get graph.states number ≡ Some x
  pub number_is : k ≡ count_states (take place t.selects) + number

-- the ancestor state of a number
abbrev pub ancestor : RulesView → ℕ → State
ancestor t q = get_or t.ancestors.states q []

module _ (symbols : List Mention) (t : RulesView) where
  -- the ancestor state one element further down
  abbrev pub ancestor_below : ℕ → Letter → State
  ancestor_below q l = next_state symbols (predicates_of t.sheet) (path_of_rules t.sheet.rules) (ancestor t q) l

  -- the select state one element further down, and whether a node is a hit
  abbrev pub select_below : PathUse → State → Letter → State
  select_below b x l = next_state symbols (predicates_of t.sheet) b.path x l

  abbrev pub is_hit_of : PathUse → State → Letter → Bool
  is_hit_of b x l = is_hit symbols (predicates_of t.sheet) b.path x l
