use Rattle.std.proofs.Common.{◌≡◌, ◌≤◌, map, drop, length}
use Rattle.tc_model.specs.Letters.{marks_of}
use Rattle.tc_model.specs.Machine.{holds_in}
use Rattle.tc_run.specs.Lettered.{bare}
use Rattle.tc_run.specs.Running.{looking, predicates_by}
use Rattle.tc_run.specs.Sights.{AreSeenBy}
use Rattle.tc_run.specs.Views.{trees}
use Rattle.tc_run.proofs.letters.marks.Given as goal

abbrev pub invariant-loop-number : goal.invariant-loop-number
invariant-loop-number l =
    AreSeenBy l.runner l.sights × (l.number ≤ length l.asked)
    × (l.marks ≡ marks_of (map (λ p. holds_in (looking l.runner) p (bare (trees l.kids))) (drop l.number (predicates_by l.runner))))

abbrev pub decreases-loop-number : goal.decreases-loop-number
decreases-loop-number l = l.number
