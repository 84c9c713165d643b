use Rattle.std.proofs.Common.{◌≡◌, None, drop}
use Rattle.tc_rules.specs.Asked.{found}
use Rattle.tc_rules.specs.Kept.{told}
use Rattle.tc_rules.specs.Picked.{best_of, is_root_at}
use Rattle.tc_rules.proofs.rules.Rules.root_rule.Given as goal

abbrev pub invariant-loop-number : goal.invariant-loop-number
invariant-loop-number l =
    best_of (told l.self).sheet.rules (is_root_at (told l.self).sheet.rules) (found l.best) (drop l.number-index l.number-items) ≡ best_of (told l.self).sheet.rules (is_root_at (told l.self).sheet.rules) None l.number-items
