use Rattle.std.proofs.Common.{◌++◌, List, Bor, refl}
use Rattle.tc_beh.specs.AlikeSymbols.{seen, itself, no_test_of}
use Rattle.tc_model.specs.Views as see
use Rattle.tc_model.specs.Sheets as s
use Rattle.tc_model.specs.Symbols.{in_pattern}
use Rattle.tc_model.specs.declared.sheet.Instr.{Instr}
use Rattle.tc_beh.proofs.TestSteps.{body_in, mapped_moved, two_pieces}
use Rattle.tc_beh.proofs.Steps.{not_done}
use Rattle.tc_beh.proofs.node_tests.add_sheet.Goals as goal

pub loop-rule-preserved : goal.loop-rule-preserved
loop-rule-preserved c =
    mapped_moved see.rule (λ (r : s.Rule). in_pattern itself no_test_of r.pattern ++ body_in r.body) c.args.sheet.now.rules.now c.loop-rule.rule-index _
    (seen c.loop-rule.found.items) (seen c.add_body.new.found.items) _ c.loop-rule-test.true
    (two_pieces (seen c.loop-rule.found.items) (seen c.add_pattern.new.found.items) (seen c.add_body.new.found.items) _ _ _ c.in_ok-add_pattern.ensures refl c.in_ok-add_body.ensures)
    c.loop-rule.invariant

pub loop-body-preserved : goal.loop-body-preserved
loop-body-preserved c =
    mapped_moved (λ (b : Bor (List Instr)). see.body b.now) (λ (b : s.Body). body_in b) c.args.sheet.now.named.now c.loop-body.body-index _
    (seen c.loop-body.found.items) (seen c.add_body-in-loop-body.new.found.items) _ c.loop-body-test.true c.in_ok-add_body-2.ensures c.loop-body.invariant

pub returns-in_err-add_pattern : goal.returns-in_err-add_pattern
returns-in_err-add_pattern c = not_done c.from_residual.result _ _ c.from_residual.ensures.1

pub returns-in_err-add_body : goal.returns-in_err-add_body
returns-in_err-add_body c = not_done c.from_residual-in_err-add_body.result _ _ c.from_residual-in_err-add_body.ensures.1

pub returns-in_err-add_body-2 : goal.returns-in_err-add_body-2
returns-in_err-add_body-2 c = not_done c.from_residual-in_err-add_body-2.result _ _ c.from_residual-in_err-add_body-2.ensures.1
