use Rattle.std.proofs.Common.{◌≡◌, ◌<◌, ℕ, Some, map, slice_get, true}
use Rattle.tc_model.specs.Sheets.{Body}
use Rattle.tc_model.specs.Views as see
use Rattle.tc_close.specs.LookFree.{IsFreeBody}
use Rattle.tc_close.proofs.look_free.are_named_free.Given as goal

abbrev pub invariant-loop-body : goal.invariant-loop-body
invariant-loop-body l = (n : ℕ) (b : Body) → n < l.body-index → slice_get (map (λ c. see.body c.now) l.named) n ≡ Some b → IsFreeBody true b
