use Rattle.std.proofs.Common.{◌≡◌, ◌<◌, ◌+◌, ℕ, get_or, true}
use Rattle.tc_model.specs.Grammars.{Grammar}
use Rattle.tc_model.specs.States.{Side, is_alternative}
use Rattle.tc_auto.specs.Stands.{Stands}
use Rattle.tc_beh.proofs.root.has_start.Given as goal

-- none of the first is an alternative
abbrev pub invariant-loop-before : goal.invariant-loop-before
invariant-loop-before l = (side : Side) (x : Grammar) → Stands side x l.fn.auto → (i : ℕ) → i < l.before → get_or l.patterns i 0 ≡ 1 → is_alternative (i + 1) x.start ≡ true → ⊥
