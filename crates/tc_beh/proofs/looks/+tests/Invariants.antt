use Rattle.std.proofs.Common.{◌≡◌, drop}
use Rattle.tc_model.specs.PathStates.{first_state}
use Rattle.tc_model.specs.Views as see
use Rattle.tc_rules.specs.Kept.{told}
use Rattle.tc_rules.specs.Parts.{ArePartTests}
use Rattle.tc_rows.specs.Triples.{Triple, looking}
use Rattle.tc_rows.specs.Bodies.{all_hold_by, some_holds_by}
use Rattle.tc_rows.specs.Arithmetic.{look_from}
use Rattle.tc_beh.specs.Stands.{IsRulesIn}
use Rattle.tc_beh.proofs.looks.+tests.Given as goal

-- all tests so far hold, or none does
abbrev pub invariant-all_hold-loop-test : goal.invariant-all_hold-loop-test
invariant-all_hold-loop-test l =
    ArePartTests (told l.rules).sheet (see.tests (drop l.test-index l.tests))
    × ((x : Triple) → IsRulesIn x l.rules → all_hold_by (see.tests l.tests) (λ p. look_from x l.looks (looking p (first_state p))) ≡ all_hold_by (see.tests (drop l.test-index l.tests)) (λ p. look_from x l.looks (looking p (first_state p))))

abbrev pub invariant-some_holds-loop-test : goal.invariant-some_holds-loop-test
invariant-some_holds-loop-test l =
    ArePartTests (told l.rules).sheet (see.tests (drop l.test-index l.tests))
    × ((x : Triple) → IsRulesIn x l.rules → some_holds_by (see.tests l.tests) (λ p. look_from x l.looks (looking p (first_state p))) ≡ some_holds_by (see.tests (drop l.test-index l.tests)) (λ p. look_from x l.looks (looking p (first_state p))))
