use Rattle.std.proofs.Common.{◌≡◌, ◌<◌, ◌-◌, length, slice_get, Some, subst, arith}
use Rattle.tc_cert.proofs.ReadLines.{last_get}
use Rattle.tc_cert.proofs.reading.last_output.Goals as goal

pub returns : goal.returns
returns c =
    let some : 0 < length c.args.outputs.now = omega (arith, c.if-len-eq0.false, c.len.ensures) in
    last_get c.args.outputs.now c.get.result.now some (subst (λ n. slice_get c.args.outputs.now (n - 1) ≡ Some c.get.result.now) c.len-2.ensures c.get.ensures)
