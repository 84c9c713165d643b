use Rattle.std.proofs.Common.{Bor, arith}
use Rattle.tc_model.specs.SameTests.{same_path}
use Rattle.tc_model.specs.Views as see
use Rattle.tc_model.specs.declared.sheet.Path.{Path}
use Rattle.tc_rules.proofs.Searched.{number_goes, number_found, number_past}
use Rattle.tc_rules.proofs.once.number_of_path.Goals as goal

pub loop-i-preserved : goal.loop-i-preserved
loop-i-preserved c = number_goes (λ (p : Bor Path). see.path p.now) same_path (see.path c.args.path.now) _ c.args.numbered.now c.loop-i.i c.loop-i.invariant _ c.same_path.result c.loop-i-test.true c.same_path.ensures c.if-same_path.false

pub returns-then-same_path-clause-number : goal.returns-then-same_path-clause-number
returns-then-same_path-clause-number c = number_found (λ (p : Bor Path). see.path p.now) same_path (see.path c.args.path.now) _ c.args.numbered.now c.loop-i.i c.loop-i.invariant _ c.same_path.result c.loop-i-test.true c.same_path.ensures c.if-same_path.true

pub returns-then-same_path-clause-bound : goal.returns-then-same_path-clause-bound
returns-then-same_path-clause-bound c = omega (arith, c.loop-i-test.true)

pub returns-clause-number : goal.returns-clause-number
returns-clause-number c = number_past (λ (p : Bor Path). see.path p.now) same_path (see.path c.args.path.now) _ c.args.numbered.now c.loop-i.i c.loop-i.invariant _ c.loop-i-test.false (omega arith)
