-- Which sets a step takes: of element patterns, or of states.
use Rattle.std.specs.Prelude.{◌≡◌, ◌+◌}
use Rattle.tc_auto.specs.Stands as a
use Rattle.tc_auto.specs.declared.auto.Auto.{Auto}
use Rattle.tc_sets.specs.Numbers.{Numbers}

-- a step over a text: the states, and those to which it leads them
pub record AreForText (automaton : Auto) (states after : Numbers) : Type 0 where
  pub size : states.size ≡ a.states automaton
  pub next : after.size ≡ a.states automaton

-- a step over an element: the element patterns that allow it, the states to which its children lead, and as before
pub record AreForElement (automaton : Auto) (allowed inside states after : Numbers) : Type 0 where
  pub numbers : allowed.size ≡ a.patterns automaton + 1
  pub ends : inside.size ≡ a.states automaton
  pub size : states.size ≡ a.states automaton
  pub next : after.size ≡ a.states automaton
