use Rattle.std.proofs.Common.{length}
use Rattle.tc_model.specs.RawTrees.{RawTrees}
use Rattle.tc_model.specs.Views.{raw_tree, sheet}
use Rattle.tc_model.specs.SheetText.{SheetFails, undefined, call_loop}
use Rattle.tc_sheet.specs.Changes.{mended, flattened, Changed}
use Rattle.tc_sheet.specs.Faults.{IsUnsupported, IsTooDeep, IsUndefinedAt, IsLoopAt, NamesAgain, IsMalformedAt}
use Rattle.tc_sheet.proofs.LawfulSheets.{lawful_sheet}
use Rattle.tc_sheet.proofs.Passed.{no_value}
use Rattle.tc_read.proofs.Exits.{err_is}
use Rattle.tc_read.proofs.RefusedTexts.{refused_text, refused_tree}
use Rattle.tc_read.proofs.TextFaults.{only_memory, tree_fault, of_tree}
use Rattle.tc_read.proofs.sheets.read_sheet.Goals as goal

pub returns-clause-well_formed : goal.returns-clause-well_formed
returns-clause-well_formed c = lawful_sheet (length c.args.text.now) (raw_tree c.in_ok-raw.raw) (sheet c.in_ok-sheet.sheet) c.in_ok-raw.ensures.lawful c.in_ok-sheet.ensures.ok

pub returns-in_err-raw-clause-no : goal.returns-in_err-raw-clause-no
returns-in_err-raw-clause-no c = err_is c.from_residual.result _ _ c.from_residual.ensures.1 (refused_text c.args.text.now c.in_err-raw.field-0.0 c.in_err-raw.ensures.refused)

pub returns-in_err-raw-clause-unsupported : goal.returns-in_err-raw-clause-unsupported
returns-in_err-raw-clause-unsupported c = λ raw changed s text k t.
    err_is c.from_residual.result _ _ c.from_residual.ensures.1 (only_memory IsUnsupported c.args.text.now raw text c.in_err-raw.field-0.0 c.in_err-raw.ensures.refused)

pub returns-in_err-raw-clause-deep : goal.returns-in_err-raw-clause-deep
returns-in_err-raw-clause-deep c = λ raw changed s text k t.
    err_is c.from_residual.result _ _ c.from_residual.ensures.1 (only_memory IsTooDeep c.args.text.now raw text c.in_err-raw.field-0.0 c.in_err-raw.ensures.refused)

pub returns-in_err-raw-clause-no_template : goal.returns-in_err-raw-clause-no_template
returns-in_err-raw-clause-no_template c = λ raw p text f.
    err_is c.from_residual.result _ _ c.from_residual.ensures.1 (only_memory (IsUndefinedAt p) c.args.text.now raw text c.in_err-raw.field-0.0 c.in_err-raw.ensures.refused)

pub returns-in_err-raw-clause-loops : goal.returns-in_err-raw-clause-loops
returns-in_err-raw-clause-loops c = λ raw p text f.
    err_is c.from_residual.result _ _ c.from_residual.ensures.1 (only_memory (IsLoopAt p) c.args.text.now raw text c.in_err-raw.field-0.0 c.in_err-raw.ensures.refused)

pub returns-in_err-raw-clause-again : goal.returns-in_err-raw-clause-again
returns-in_err-raw-clause-again c = λ raw p text f.
    err_is c.from_residual.result _ _ c.from_residual.ensures.1 (only_memory (IsMalformedAt p) c.args.text.now raw text c.in_err-raw.field-0.0 c.in_err-raw.ensures.refused)

pub returns-in_err-sheet-clause-no : goal.returns-in_err-sheet-clause-no
returns-in_err-sheet-clause-no c =
    let fault = c.in_err-sheet.field-0.0 in
    err_is c.from_residual-in_err-sheet.result _ _ c.from_residual-in_err-sheet.ensures.1 (refused_tree c.args.text.now (raw_tree c.in_ok-raw.raw) fault c.in_ok-raw.ensures.ok c.in_err-sheet.ensures.cause)

pub returns-in_err-sheet-clause-unsupported : goal.returns-in_err-sheet-clause-unsupported
returns-in_err-sheet-clause-unsupported c = λ raw changed s text k t.
    err_is c.from_residual-in_err-sheet.result _ _ c.from_residual-in_err-sheet.ensures.1
    (tree_fault IsUnsupported c.in_err-sheet.field-0.0 (c.in_err-sheet.ensures.unsupported changed s (of_tree (λ (h : RawTrees). Changed mended h changed) text c.in_ok-raw.ensures.ok k) t))

pub returns-in_err-sheet-clause-deep : goal.returns-in_err-sheet-clause-deep
returns-in_err-sheet-clause-deep c = λ raw changed s text k t.
    err_is c.from_residual-in_err-sheet.result _ _ c.from_residual-in_err-sheet.ensures.1
    (tree_fault IsTooDeep c.in_err-sheet.field-0.0 (c.in_err-sheet.ensures.deep changed s (of_tree (λ (h : RawTrees). Changed flattened h changed) text c.in_ok-raw.ensures.ok k) t))

pub returns-in_err-sheet-clause-no_template : goal.returns-in_err-sheet-clause-no_template
returns-in_err-sheet-clause-no_template c = λ raw p text f.
    err_is c.from_residual-in_err-sheet.result _ _ c.from_residual-in_err-sheet.ensures.1
    (tree_fault (IsUndefinedAt p) c.in_err-sheet.field-0.0 (c.in_err-sheet.ensures.no_template p (of_tree (λ (h : RawTrees). SheetFails h undefined p) text c.in_ok-raw.ensures.ok f)))

pub returns-in_err-sheet-clause-loops : goal.returns-in_err-sheet-clause-loops
returns-in_err-sheet-clause-loops c = λ raw p text f.
    err_is c.from_residual-in_err-sheet.result _ _ c.from_residual-in_err-sheet.ensures.1
    (tree_fault (IsLoopAt p) c.in_err-sheet.field-0.0 (c.in_err-sheet.ensures.loops p (of_tree (λ (h : RawTrees). SheetFails h call_loop p) text c.in_ok-raw.ensures.ok f)))

pub returns-in_err-sheet-clause-again : goal.returns-in_err-sheet-clause-again
returns-in_err-sheet-clause-again c = λ raw p text f.
    err_is c.from_residual-in_err-sheet.result _ _ c.from_residual-in_err-sheet.ensures.1
    (tree_fault (IsMalformedAt p) c.in_err-sheet.field-0.0 (c.in_err-sheet.ensures.again p (of_tree (λ (h : RawTrees). NamesAgain h p) text c.in_ok-raw.ensures.ok f)))

pub returns-in_err-raw-clause-ok : goal.returns-in_err-raw-clause-ok
returns-in_err-raw-clause-ok c = no_value c.from_residual.result _ _ c.from_residual.ensures.1

pub returns-in_err-raw-clause-well_formed : goal.returns-in_err-raw-clause-well_formed
returns-in_err-raw-clause-well_formed c = no_value c.from_residual.result _ _ c.from_residual.ensures.1

pub returns-in_err-sheet-clause-ok : goal.returns-in_err-sheet-clause-ok
returns-in_err-sheet-clause-ok c = no_value c.from_residual-in_err-sheet.result _ _ c.from_residual-in_err-sheet.ensures.1

pub returns-in_err-sheet-clause-well_formed : goal.returns-in_err-sheet-clause-well_formed
returns-in_err-sheet-clause-well_formed c = no_value c.from_residual-in_err-sheet.result _ _ c.from_residual-in_err-sheet.ensures.1

pub returns-clause-no : goal.returns-clause-no
returns-clause-no c = tt

pub returns-clause-unsupported : goal.returns-clause-unsupported
returns-clause-unsupported c = λ raw changed s text k t. tt

pub returns-clause-deep : goal.returns-clause-deep
returns-clause-deep c = λ raw changed s text k t. tt

pub returns-clause-no_template : goal.returns-clause-no_template
returns-clause-no_template c = λ raw p text f. tt

pub returns-clause-loops : goal.returns-clause-loops
returns-clause-loops c = λ raw p text f. tt

pub returns-clause-again : goal.returns-clause-again
returns-clause-again c = λ raw p text f. tt

pub returns-clause-ok : goal.returns-clause-ok
returns-clause-ok c = record { raw = raw_tree c.in_ok-raw.raw; text = c.in_ok-raw.ensures.ok; means = c.in_ok-sheet.ensures.ok }
