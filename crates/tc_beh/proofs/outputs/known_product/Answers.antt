use Rattle.std.proofs.Common.{◌≡◌, ℕ, Option, IfSome, subst}
use Rattle.tc_beh.specs.Remembered.{IsNothing}
use Rattle.tc_beh.proofs.Remembering.{nothing_first, nothing_second}
use Rattle.tc_beh.proofs.outputs.known_product.Goals as goal

pub returns-then-is_known : goal.returns-then-is_known
returns-then-is_known c =
    let h = c.args.outputs.now in
    let is = subst (λ (o : Option ℕ). IfSome o (IsNothing h)) (c.is_known.ensures c.if-is_known.true) c.requires.nothing in
    nothing_second h c.len-held.ensures.matrices c.args.second is c.args.first c.requires.first

pub returns-then-is_known-2 : goal.returns-then-is_known-2
returns-then-is_known-2 c =
    let h = c.args.outputs.now in
    let is = subst (λ (o : Option ℕ). IfSome o (IsNothing h)) (c.is_known-2.ensures c.if-is_known-2.true) c.requires.nothing in
    nothing_first h c.len-held.ensures.matrices c.args.first is c.args.second c.requires.second
