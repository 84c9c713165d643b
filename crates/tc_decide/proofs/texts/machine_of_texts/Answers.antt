use Rattle.tc_decide.proofs.MachineLimits.{well_formed}
use Rattle.tc_decide.proofs.SchemaTexts.{lawful_read}
use Rattle.tc_decide.proofs.TextsRead.{by_input, by_output, by_sheet, machine_of_all, passed_by_all}
use Rattle.tc_decide.proofs.texts.machine_of_texts.Goals as goal
use Rattle.tc_read.proofs.Exits.{err_is}

pub returns-in_err-input_schema-clause-no : goal.returns-in_err-input_schema-clause-no
returns-in_err-input_schema-clause-no c =
    err_is c.from_residual.result _ _ c.from_residual.ensures.1 (by_input c.args.input c.args.output c.args.sheet.now _ c.in_err-input_schema.ensures.no)

pub returns-in_err-output_schema-clause-no : goal.returns-in_err-output_schema-clause-no
returns-in_err-output_schema-clause-no c =
    err_is c.from_residual-in_err-output_schema.result _ _ c.from_residual-in_err-output_schema.ensures.1
    (by_output c.args.input c.args.output c.args.sheet.now _ c.in_ok-input_schema.ensures.ok _ c.in_err-output_schema.ensures.no)

pub returns-in_err-stylesheet-clause-no : goal.returns-in_err-stylesheet-clause-no
returns-in_err-stylesheet-clause-no c =
    err_is c.from_residual-in_err-stylesheet.result _ _ c.from_residual-in_err-stylesheet.ensures.1
    (by_sheet c.args.input c.args.output c.args.sheet.now _ c.in_ok-input_schema.ensures.ok _ c.in_ok-output_schema.ensures.ok _ c.in_err-stylesheet.ensures.no)

pub machine_of-requires-clause-input : goal.machine_of-requires-clause-input
machine_of-requires-clause-input c = lawful_read c.args.input _ c.in_ok-input_schema.ensures.ok

pub machine_of-requires-clause-output : goal.machine_of-requires-clause-output
machine_of-requires-clause-output c = well_formed _ (lawful_read c.args.output _ c.in_ok-output_schema.ensures.ok)

pub returns-in_err-machine_of-clause-no : goal.returns-in_err-machine_of-clause-no
returns-in_err-machine_of-clause-no c =
    err_is c.from_residual-in_err-machine_of.result _ _ c.from_residual-in_err-machine_of.ensures.1
    (passed_by_all c.args.input c.args.output c.args.sheet.now _ c.in_ok-input_schema.ensures.ok _ c.in_ok-output_schema.ensures.ok _ c.in_ok-stylesheet.ensures.ok c.in_err-machine_of.field-0.0 c.in_err-machine_of.ensures.err)

pub returns-clause-ok : goal.returns-clause-ok
returns-clause-ok c =
    machine_of_all c.args.input c.args.output c.args.sheet.now _ c.in_ok-input_schema.ensures.ok _ c.in_ok-output_schema.ensures.ok _ c.in_ok-stylesheet.ensures.ok c.in_ok-machine_of.field-0 c.in_ok-machine_of.ensures.ok
