use Rattle.std.proofs.Common.{◌≡◌, map, drop, length}
use Rattle.std.specs.Prelude.{replicate}
use Rattle.tc_beh.specs.Heights.{heights_in}
use Rattle.tc_model.specs.Views as see
use Rattle.tc_beh.proofs.calls.heights_of.Given as goal

abbrev pub invariant-loop-number : goal.invariant-loop-number
invariant-loop-number l =
    (length l.heights.items ≡ length l.named)
    × (heights_in (map (λ b. see.body b.now) l.named) l.heights.items (drop l.number-index l.order) ≡ heights_in (map (λ b. see.body b.now) l.named) (replicate (length l.named) 0) l.order)
