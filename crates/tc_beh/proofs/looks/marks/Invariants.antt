use Rattle.std.proofs.Common.{◌≡◌, ◌≤◌, map, drop, length}
use Rattle.tc_model.specs.Letters.{marks_of}
use Rattle.tc_model.specs.PathStates.{first_state}
use Rattle.tc_model.specs.Numberings.{predicates_of}
use Rattle.tc_rules.specs.Kept.{told}
use Rattle.tc_rows.specs.Triples.{Triple, looking}
use Rattle.tc_rows.specs.Bodies.{holds_by}
use Rattle.tc_rows.specs.Arithmetic.{look_from}
use Rattle.tc_beh.specs.Stands.{IsRulesIn}
use Rattle.tc_beh.proofs.looks.marks.Given as goal

abbrev pub invariant-loop-number : goal.invariant-loop-number
invariant-loop-number l =
    (l.number ≤ length (predicates_of (told l.rules).sheet))
    × ((x : Triple) → IsRulesIn x l.rules → l.marks ≡ marks_of (map (λ p. holds_by p (λ p. look_from x l.looks (looking p (first_state p)))) (drop l.number (predicates_of (told l.rules).sheet))))

abbrev pub decreases-loop-number : goal.decreases-loop-number
decreases-loop-number l = l.number
