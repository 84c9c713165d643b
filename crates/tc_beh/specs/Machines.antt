-- What a machine stands for, and why there is none.
use Rattle.std.specs.Prelude.{◌≡◌, ◌≤◌, max, List, length}
use Rattle.tc_base.specs.declared.limits.TheConstants.{DEEPEST_CALLS, MOST_ENTRIES}
use Rattle.tc_model.specs.States.{input, output, state_count}
use Rattle.tc_model.specs.Symbols.{Mention, symbol_count}
use Rattle.tc_hedge.specs.Stands as h
use Rattle.tc_hedge.specs.declared.hedge.Hedge.{Hedge}
use Rattle.tc_rules.specs.declared.rules.Rules.{Rules}
use Rattle.tc_rows.specs.Triples.{Triple, sheet, outputs, entries, looks}
use Rattle.tc_rows.specs.Counts.{PassCalls, PassEntries}
use Rattle.tc_beh.specs.Callees.{AreCalleesFirst}
use Rattle.tc_beh.specs.Heights.{deepest, deepest_rule}
use Rattle.tc_beh.specs.Stands.{IsRulesIn}
use Rattle.tc_beh.specs.declared.machine.Machine.{Machine}
use Rattle.tc_beh.specs.declared.machine.Shape.{Shape}
use Rattle.tc_beh.specs.declared.machine.MachineFault.{MachineFault}
use Rattle.tc_beh.specs.declared.machine.MachineFault.TheVariants.{TooManyCalls, TooManyEntries, NoMemory}

-- the contents of the input schema, the output schema, the rules and the symbols of a triple
pub record AreParts (x : Triple) (inner outer : Hedge) (rules : Rules) (symbols : List Mention) : Type 0 where
  pub contents : h.Stands input x.input x.symbols inner
  pub states : h.Stands output x.output x.symbols outer
  pub are_rules : IsRulesIn x rules
  pub same_symbols : symbols ≡ x.symbols

abbrev pub AreSomeParts : Hedge → Hedge → Rules → List Mention → Type 0
AreSomeParts inner outer rules symbols = (x : Triple) × AreParts x inner outer rules symbols

-- the limits are kept
abbrev pub KeepsLimits : Triple → Type 0
KeepsLimits x = ¬ PassCalls (sheet x) DEEPEST_CALLS × ¬ PassEntries x MOST_ENTRIES

-- of the limits that are passed the first
abbrev pub IsMachineCause : Triple → MachineFault → Type 0
IsMachineCause x TooManyCalls = PassCalls (sheet x) DEEPEST_CALLS
IsMachineCause x TooManyEntries = ¬ PassCalls (sheet x) DEEPEST_CALLS × PassEntries x MOST_ENTRIES
IsMachineCause x NoMemory = Unit {0}

pub record IsMachineOf (x : Triple) (m : Machine) : Type 0 where
  pub parts : AreParts x m.input m.output m.rules m.alphabet
  pub limits : KeepsLimits x
  pub order : AreCalleesFirst (sheet x).named m.order.items
  pub depth : m.depth ≡ max (deepest_rule (sheet x).rules) (deepest (sheet x).named)
  pub shallow : m.depth ≤ DEEPEST_CALLS

abbrev pub IsMachine : Machine → Type 0
IsMachine m = (x : Triple) × IsMachineOf x m

pub record IsShapeOf (x : Triple) (s : Shape) : Type 0 where
  pub symbol_number : s.symbols ≡ symbol_count x.symbols
  pub input_states : s.inputs ≡ state_count x.input input
  pub output_states : s.outputs ≡ outputs x
  pub input_patterns : s.patterns ≡ length x.input.elements
  pub entry_number : s.entries ≡ entries x
  pub look_number : s.looks ≡ looks x
