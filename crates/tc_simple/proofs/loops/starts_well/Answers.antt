use Rattle.tc_simple.specs.Nodes.{StartsWell}
use Rattle.std.proofs.Common.{◌≡◌, arith, length, subst}
use Rattle.tc_simple.proofs.loops.starts_well.Goals as goal

pub loop-number-init : goal.loop-number-init
loop-number-init c = λ k p h. absurd (omega (arith, h))

pub returns : goal.returns
returns c =
    let all : c.loop-number.number ≡ length c.args.table.now.patterns.items = omega (arith, c.loop-number-test.false, c.loop-number.auto.number-end, c.len-number-end.ensures, c.args.table.now.patterns.ok.0) in
    subst (StartsWell c.args.table.now c.args.marks.now) all c.loop-number.invariant

pub index-requires : goal.index-requires
index-requires c = omega (arith, c.loop-number-test.true, c.len-number-end.ensures)

pub bounds-marks-number : goal.bounds-marks-number
bounds-marks-number c = omega (arith, c.loop-number-test.true, c.len-number-end.ensures, c.args.table.now.patterns.ok.0, c.requires)
