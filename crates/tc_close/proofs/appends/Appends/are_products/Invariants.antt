use Rattle.std.proofs.Common.{◌≡◌, ◌<◌, ℕ, get_or}
use Rattle.tc_beh.specs.Rooms.{output_at}
use Rattle.tc_close.specs.Appends.{IsProduct}
use Rattle.tc_close.proofs.appends.Appends.are_products.Given as goal

abbrev pub invariant-loop-class : goal.invariant-loop-class
invariant-loop-class l =
    (k : ℕ) → k < l.class
    → (p : ℕ) → p ≡ get_or l.self.classes.firsts.items k 0 → IsProduct l.self l.lists.hedges.now l.lists.trees.now p (output_at l.self.shape.inputs l.first p) (output_at l.self.shape.patterns l.second p) (output_at l.self.shape.inputs l.both p)
