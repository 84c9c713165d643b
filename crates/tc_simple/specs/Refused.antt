-- Why a syntax tree is refused.
use Rattle.tc_model.specs.Grammars.{Grammar}
use Rattle.tc_model.specs.Views.{place}
use Rattle.tc_model.specs.CompactSyntaxTrees.{Syntax}
use Rattle.tc_model.specs.Simplifies.{Simplifies}
use Rattle.tc_model.specs.SimplifiesFaults.{twice, undefined, loop, bad_except, bad_start, Fails}
use Rattle.tc_model.specs.SimplifiesCounts.{Count, nodes, depth, elements, Passes}
use Rattle.tc_simple.specs.declared.faults.SimpleFault.{SimpleFault}
use Rattle.tc_simple.specs.declared.faults.SimpleFault.TheVariants.{Twice, Undefined, Loop, BadExcept, BadStart, TooManyNodes, TooNested, TooManyElements, NoMemory}

-- its grammar passes a count, and no earlier one
abbrev pub IsTooLarge : Syntax → Count → Type 0
IsTooLarge s count = (g : Grammar) × Simplifies s g × Passes g count

-- each refusal has its cause; want of memory has none
abbrev pub Refuses : Syntax → SimpleFault → Type 0
Refuses s (Twice p) = Fails s (twice (place p))
Refuses s (Undefined p) = Fails s (undefined (place p))
Refuses s (Loop p) = Fails s (loop (place p))
Refuses s (BadExcept p) = Fails s (bad_except (place p))
Refuses s (BadStart p) = Fails s (bad_start (place p))
Refuses s TooManyNodes = IsTooLarge s nodes
Refuses s TooNested = IsTooLarge s depth
Refuses s TooManyElements = IsTooLarge s elements
Refuses s NoMemory = Unit {0}
