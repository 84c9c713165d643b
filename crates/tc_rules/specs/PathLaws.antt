-- What the states of paths tell, over the symbols of any two schemas and a stylesheet.
use Rattle.std.specs.Prelude.{◌≡◌, ◌⊎◌, ℕ, List, ◌∷◌, true, false, Option, None, Some, slice_get, Contains}
use Rattle.tc_model.specs.Trees.{Trees, none}
use Rattle.tc_model.specs.Chains.{Tree, Chain, top, under}
use Rattle.tc_model.specs.Grammars.{Grammar}
use Rattle.tc_model.specs.Sheets.{Path, Test, Rule, CallFreeBody, Sheet}
use Rattle.tc_model.specs.Paths.{any_along, fits}
use Rattle.tc_model.specs.Meaning.{rule_of}
use Rattle.tc_model.specs.Machine.{picks, IsMachineOf, IsSteady}
use Rattle.tc_model.specs.Symbols.{Mention, symbols_of}
use Rattle.tc_model.specs.Letters.{IsLetter, letter_of}
use Rattle.tc_model.specs.PathStates.{State, is_empty_state, first_state, next_state, is_hit, path_of_rules}
use Rattle.tc_model.specs.RuleStates.{IsRuleOf, fits_below}
use Rattle.tc_model.specs.Numberings.{Move, moves_of, looks_of, predicates_of}
use Rattle.tc_rules.specs.States.{AllInline, states}

-- each tree has a letter
abbrev pub TreesHaveLetters : Type 0
TreesHaveLetters = (symbols : List Mention) (predicates : List Test) (t : Tree) → IsLetter symbols predicates (letter_of symbols predicates t)

-- the state of a path at a node, from the root
abbrev pub state_at : List Mention → List Test → Path → Chain → State
state_at symbols predicates p (top doc) = first_state p
state_at symbols predicates p (under c t) = next_state symbols predicates p (state_at symbols predicates p c) (letter_of symbols predicates t)

-- the path of a move, or of a look
abbrev pub IsPathOf : Sheet → Path → Type 0
IsPathOf x p = ((m : Move) × Contains (moves_of x) m × (m.path ≡ p)) ⊎ Contains (looks_of x) p

-- a path selects a node below another exactly where its states lead by the letters in between from the first one to a hit
abbrev pub StatesSelect : Type 0
StatesSelect =
    (input output : Grammar) (x : Sheet) (p : Path) → IsPathOf x p → (c : Chain) (t : Tree) (ts : List Tree)
    → any_along p c (t ∷ ts)
    ≡ picks (letter_of (symbols_of input output x) (predicates_of x)) (next_state (symbols_of input output x) (predicates_of x) p) (is_hit (symbols_of input output x) (predicates_of x) p) (first_state p) (t ∷ ts)

-- a state without items selects nothing further down
abbrev pub EmptySelectsNone : Type 0
EmptySelectsNone =
    (symbols : List Mention) (predicates : List Test) (p : Path) (x : State) (ts : List Tree) → is_empty_state x ≡ true
    → picks (letter_of symbols predicates) (next_state symbols predicates p) (is_hit symbols predicates p) x ts ≡ false

-- the rule of a number
abbrev pub rule_numbered : List Rule → Option ℕ → Option Rule
rule_numbered rules None = None
rule_numbered rules (Some i) = slice_get rules i

-- the rule that the state above a node and the node's letter tell is the rule of the node, and so is that of the root
abbrev pub StatesRule : Type 0
StatesRule =
    (input output : Grammar) (x : Sheet) (m : ℕ) (c : Chain) (t : Tree) (o : Option ℕ)
    → IsRuleOf x.rules m (fits_below (symbols_of input output x) (predicates_of x) (state_at (symbols_of input output x) (predicates_of x) (path_of_rules x.rules) c) (letter_of (symbols_of input output x) (predicates_of x) t)) o
    → rule_of x.rules m (under c t) ≡ rule_numbered x.rules o

abbrev pub RootsRule : Type 0
RootsRule = (x : Sheet) (m : ℕ) (doc : Trees) (o : Option ℕ) → IsRuleOf x.rules m (λ i r. fits r.pattern (top none)) o → rule_of x.rules m (top doc) ≡ rule_numbered x.rules o

-- the machine of path states tells what a stylesheet means, and keeps to its own states
abbrev pub StatesTell : Type 0
StatesTell =
    (input output : Grammar) (x : Sheet) (bodies : List CallFreeBody) → AllInline x.named x.rules bodies
    → IsMachineOf (states (symbols_of input output x) (predicates_of x) x.rules bodies) x.rules x.named × IsSteady (states (symbols_of input output x) (predicates_of x) x.rules bodies)
