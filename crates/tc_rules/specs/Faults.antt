-- Why there are no rules of a stylesheet: of the limits that it passes, the first (predicates, ancestor states, select states).
use Rattle.std.specs.Prelude.{◌<◌, List, length}
use Rattle.tc_base.specs.declared.limits.TheConstants.{MOST_PREDICATES}
use Rattle.tc_model.specs.Sheets.{Sheet, Test}
use Rattle.tc_model.specs.Symbols.{Mention}
use Rattle.tc_model.specs.StateCounts.{PassPredicates, PassAncestors, PassSelects}
use Rattle.tc_rules.specs.declared.rules.RulesFault.{RulesFault}
use Rattle.tc_rules.specs.declared.rules.RulesFault.TheVariants.{TooManyPredicates, TooManyAncestorStates, TooManySelectStates, NoMemory}

abbrev pub IsCause : List Mention → Sheet → RulesFault → Type 0
IsCause symbols s TooManyPredicates = PassPredicates symbols s
IsCause symbols s TooManyAncestorStates = ¬ PassPredicates symbols s × PassAncestors symbols s
IsCause symbols s TooManySelectStates = ¬ PassPredicates symbols s × ¬ PassAncestors symbols s × PassSelects symbols s
IsCause symbols s NoMemory = Unit {0}

-- why different predicates aren't kept
abbrev pub IsPredicatesCause : List Test → RulesFault → Type 0
IsPredicatesCause tests TooManyPredicates = MOST_PREDICATES < length tests
IsPredicatesCause tests TooManyAncestorStates = ⊥
IsPredicatesCause tests TooManySelectStates = ⊥
IsPredicatesCause tests NoMemory = Unit {0}
