use Rattle.std.proofs.Common.{◌≡◌, None, Some, drop, slice_get}
use Rattle.tc_model.specs.PathStates.{State}
use Rattle.tc_rules.specs.Asked.{found, letter}
use Rattle.tc_rules.specs.Graphs.{fits_at}
use Rattle.tc_rules.specs.Kept.{told}
use Rattle.tc_rules.specs.Picked.{best_of}
use Rattle.tc_rules.specs.Steps.{ends_at}
use Rattle.tc_rules.proofs.rules.Rules.rule_for.Given as goal

abbrev pub invariant-loop-number : goal.invariant-loop-number
invariant-loop-number l =
    (x fit : State) → slice_get (told l.self).ancestors.states l.anc ≡ Some x → fits_at (told l.self).ancestors (letter l.fn.kind l.marks) ≡ Some fit
    → best_of (told l.self).sheet.rules (ends_at x fit) (found l.best) (drop l.number-index l.number-items) ≡ best_of (told l.self).sheet.rules (ends_at x fit) None l.number-items
