-- What rows go by: two schemas and a stylesheet, with the numbers of its path states and its rules' bodies.
-- The number of a state is a function: its place among the states of all moves and then of all looks. A state
-- without a number finds nothing and puts nothing out; so the empty state needs no case, and two for-eaches
-- of one path and body are read by their own modes.
use Rattle.std.specs.Prelude.{◌≡◌, ◌-◌, ◌*◌, ℕ, List, [], ◌∷◌, ◌++◌, length, map, Bool, true, false, ◌&&◌, nat_eq, Option, None, Some}
use Rattle.tc_model.specs.Grammars.{Grammar, IsGrammar}
use Rattle.tc_model.specs.Sheets.{Path, Test, Sheet, CallFreeBody}
use Rattle.tc_model.specs.SimplifiesLaws.{IsStart}
use Rattle.tc_model.specs.States.{output, state_count}
use Rattle.tc_model.specs.Machine.{Machine}
use Rattle.tc_model.specs.Symbols.{Mention, symbols_of}
use Rattle.tc_model.specs.SameTests.{same_path}
use Rattle.tc_model.specs.Letters.{Letter}
use Rattle.tc_model.specs.PathStates.{State, same_state}
use Rattle.tc_model.specs.Numbered.{number_of}
use Rattle.tc_model.specs.Numberings.{predicates_of}
use Rattle.tc_model.specs.StateCounts.{PathUse, blocks_of}
use Rattle.tc_rules.specs.Graphs.{Graph}
use Rattle.tc_rules.specs.RulesView.{RulesView, IsTold, select_count, move_count, ancestor_below}
use Rattle.tc_rules.specs.States.{AllInline, states}

pub record Triple : Type 0 where
  pub input : Grammar
  pub output : Grammar
  -- the symbols of all three
  pub symbols : List Mention
  -- the stylesheet, and the states of its paths by number
  pub rules : RulesView
  -- the bodies of its rules, with calls in place
  pub bodies : List CallFreeBody

abbrev pub sheet : Triple → Sheet
sheet x = x.rules.sheet

abbrev pub predicates : Triple → List Test
predicates x = predicates_of (sheet x)

-- all of it belongs together and is well-formed
pub record IsTriple (x : Triple) : Type 0 where
  pub input : IsGrammar x.input
  pub start : IsStart x.input.start
  pub output : IsGrammar x.output
  pub symbols : x.symbols ≡ symbols_of x.input x.output (sheet x)
  pub rules : IsTold x.symbols x.rules
  pub bodies : AllInline (sheet x).named (sheet x).rules x.bodies

-- the machine of path states
abbrev pub machine : Triple → Machine
machine x = states x.symbols (predicates x) (sheet x).rules x.bodies

-- how many states the output has, and how many ancestor states, move states and look states there are
abbrev pub outputs : Triple → ℕ
outputs x = state_count x.output output

abbrev pub ancestors : Triple → ℕ
ancestors x = length x.rules.ancestors.states

abbrev pub moves : Triple → ℕ
moves x = move_count x.rules

abbrev pub looks : Triple → ℕ
looks x = select_count x.rules - moves x

-- each move state with each ancestor state
abbrev pub entries : Triple → ℕ
entries x = ancestors x * moves x

-- a state of a move or of a look
pub record Select : Type 0 where
  pub by : PathUse
  pub state : State

abbrev pub same_mode : Option ℕ → Option ℕ → Bool
same_mode None None = true
same_mode None (Some n) = false
same_mode (Some m) None = false
same_mode (Some m) (Some n) = nat_eq m n

abbrev pub same_use : PathUse → PathUse → Bool
same_use a b = same_mode a.mode b.mode && same_path a.path b.path

abbrev pub same_select : Select → Select → Bool
same_select a b = same_use a.by b.by && same_state a.state b.state

-- the states of all moves and then of all looks, in the order of their numbers
abbrev pub states_by : List PathUse → List Graph → List Select
states_by [] gs = []
states_by (b ∷ bs) [] = []
states_by (b ∷ bs) (g ∷ gs) = map (λ s. record { by = b; state = s }) g.states ++ states_by bs gs

abbrev pub selects : Triple → List Select
selects x = states_by (blocks_of (sheet x)) x.rules.selects

-- the number of a state, and the number of all states where it has none, as an empty one
abbrev pub number : Triple → Select → ℕ
number x y = number_of same_select y (selects x)

-- a state of a path in a mode, and of a look
abbrev pub moving : ℕ → Path → State → Select
moving mode p s = record { by = record { path = p; mode = Some mode }; state = s }

abbrev pub looking : Path → State → Select
looking p s = record { by = record { path = p; mode = None }; state = s }

-- the number of the ancestor state one element further down
abbrev pub number_below : Triple → ℕ → Letter → ℕ
number_below x q l = number_of same_state (ancestor_below x.symbols x.rules q l) x.rules.ancestors.states
