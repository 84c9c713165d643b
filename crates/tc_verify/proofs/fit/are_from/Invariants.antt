use Rattle.std.proofs.Common.{◌≤◌, ◌<◌, ◌+◌}
use Rattle.std.specs.List.{AllWithin}
use Rattle.tc_verify.proofs.fit.are_from.Given as goal

abbrev pub invariant-loop-place : goal.invariant-loop-place
invariant-loop-place l = AllWithin (λ k. (l.first ≤ k) × (k < l.first + l.count)) l.numbers 0 l.place
