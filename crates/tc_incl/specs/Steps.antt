-- Where the rows of lists of trees lead, as code holds it.
use Rattle.std.specs.Prelude.{◌≡◌, ◌↔◌, ◌⊎◌, ◌+◌, ℕ, length, Bool, true, false}
use Rattle.tc_auto.specs.Stands as a
use Rattle.tc_auto.specs.declared.auto.Auto.{Auto}
use Rattle.tc_model.specs.Grammars.{Grammar}
use Rattle.tc_model.specs.States.{input}
use Rattle.tc_sets.specs.Numbers.{Numbers, Has}
use Rattle.tc_incl.specs.declared.steps.Steps.{Steps}
use Rattle.tc_incl.specs.Sides.{AreOfSize, AreAfterPatterns, IsAfterText, IsAtSome, IsTaken}

-- a tree leads to a state: a text, or an element that matches element patterns
abbrev pub IsLed : Steps → Bool → Numbers → ℕ → Type 0
IsLed steps is_text patterns j =
    ((is_text ≡ true) × Has steps.text j) ⊎ ((is_text ≡ false) × IsAtSome steps.elements.items patterns (length steps.elements.items) j)

-- where states lead, for each schema that the automaton stands for
pub record AreSteps (auto : Auto) (states : Numbers) (steps : Steps) : Type 0 where
  pub text_size : steps.text.size ≡ a.states auto
  pub text : (x : Grammar) → a.Stands input x auto → (j : ℕ) → Has steps.text j ↔ IsAfterText x states j
  pub count : length steps.elements.items ≡ a.patterns auto
  pub element_sizes : AreOfSize (a.states auto) steps.elements.items
  pub elements : (x : Grammar) → a.Stands input x auto → AreAfterPatterns x states steps.elements.items
  pub taken_size : steps.taken.size ≡ a.patterns auto + 1
  pub from_one : ¬ Has steps.taken 0
  pub taken : (x : Grammar) → a.Stands input x auto → (k : ℕ) → Has steps.taken k ↔ IsTaken x states k
