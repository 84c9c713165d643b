use Rattle.std.proofs.Common.{◌≡◌}
use Rattle.std.proofs.lemmas.Result.{IfOk-from_err}
use Rattle.tc_model.specs.Numberings.{looks_of, moves_of, predicates_of}
use Rattle.tc_model.specs.Sheets.{Sheet}
use Rattle.tc_model.specs.Views as see
use Rattle.tc_rules.specs.MoveTables.{IsPathsCause, paths}
use Rattle.tc_rules.specs.Selects.{paths_of}
use Rattle.tc_rules.specs.Usages.{usages_of}
use Rattle.tc_rules.specs.Views.{predicates, usages}
use Rattle.tc_rules.proofs.Built.{handed_on}
use Rattle.tc_rules.proofs.MoveTables.{passed_before, passed_behind}
use Rattle.tc_rules.proofs.rules.asked_of.Goals as goal

pub returns-clause-looks : goal.returns-clause-looks
returns-clause-looks c = c.in_ok-looks.ensures.looks (see.sheet c.args.sheet.now) c.requires.used c.requires.numbered

pub returns-clause-moves : goal.returns-clause-moves
returns-clause-moves c = c.in_ok-moves.ensures.moves

pub returns-clause-jobs : goal.returns-clause-jobs
returns-clause-jobs c = c.in_ok-moves.ensures.jobs

pub returns-clause-eaches : goal.returns-clause-eaches
returns-clause-eaches c = c.in_ok-eaches.ensures.count

pub returns-clause-bodies : goal.returns-clause-bodies
returns-clause-bodies c = c.in_ok-eaches.ensures.bodies

pub returns-clause-modes : goal.returns-clause-modes
returns-clause-modes c = c.in_ok-modes.ensures.count

pub returns-clause-numbers : goal.returns-clause-numbers
returns-clause-numbers c = c.in_ok-modes.ensures.numbers

pub returns-in_err-moves-clause-cause : goal.returns-in_err-moves-clause-cause
returns-in_err-moves-clause-cause c =
    let x = see.sheet c.args.sheet.now in
    handed_on c.from_residual.result c.in_err-moves.field-0.0 _ _ c.from_residual.ensures.1 (passed_before (paths (moves_of x)) (looks_of x)) c.in_err-moves.ensures.cause

pub returns-in_err-looks-clause-cause : goal.returns-in_err-looks-clause-cause
returns-in_err-looks-clause-cause c =
    let x = see.sheet c.args.sheet.now in
    handed_on c.from_residual-in_err-looks.result c.in_err-looks.field-0.0
    (λ e. (y : Sheet) → usages c.args.used.now ≡ usages_of y → predicates c.args.numbered.now ≡ predicates_of y → IsPathsCause (looks_of y) e) (IsPathsCause (paths_of x)) c.from_residual-in_err-looks.ensures.1
    (λ e k. passed_behind (paths (moves_of x)) (looks_of x) e (k x c.requires.used c.requires.numbered)) c.in_err-looks.ensures.cause

pub returns-in_err-moves-clause-moves : goal.returns-in_err-moves-clause-moves
returns-in_err-moves-clause-moves c = IfOk-from_err c.from_residual.result _ c.from_residual.ensures.0

pub returns-in_err-moves-clause-jobs : goal.returns-in_err-moves-clause-jobs
returns-in_err-moves-clause-jobs c = IfOk-from_err c.from_residual.result _ c.from_residual.ensures.0

pub returns-in_err-moves-clause-looks : goal.returns-in_err-moves-clause-looks
returns-in_err-moves-clause-looks c = IfOk-from_err c.from_residual.result _ c.from_residual.ensures.0

pub returns-in_err-moves-clause-eaches : goal.returns-in_err-moves-clause-eaches
returns-in_err-moves-clause-eaches c = IfOk-from_err c.from_residual.result _ c.from_residual.ensures.0

pub returns-in_err-moves-clause-bodies : goal.returns-in_err-moves-clause-bodies
returns-in_err-moves-clause-bodies c = IfOk-from_err c.from_residual.result _ c.from_residual.ensures.0

pub returns-in_err-moves-clause-modes : goal.returns-in_err-moves-clause-modes
returns-in_err-moves-clause-modes c = IfOk-from_err c.from_residual.result _ c.from_residual.ensures.0

pub returns-in_err-moves-clause-numbers : goal.returns-in_err-moves-clause-numbers
returns-in_err-moves-clause-numbers c = IfOk-from_err c.from_residual.result _ c.from_residual.ensures.0

pub returns-in_err-looks-clause-moves : goal.returns-in_err-looks-clause-moves
returns-in_err-looks-clause-moves c = IfOk-from_err c.from_residual-in_err-looks.result _ c.from_residual-in_err-looks.ensures.0

pub returns-in_err-looks-clause-jobs : goal.returns-in_err-looks-clause-jobs
returns-in_err-looks-clause-jobs c = IfOk-from_err c.from_residual-in_err-looks.result _ c.from_residual-in_err-looks.ensures.0

pub returns-in_err-looks-clause-looks : goal.returns-in_err-looks-clause-looks
returns-in_err-looks-clause-looks c = IfOk-from_err c.from_residual-in_err-looks.result _ c.from_residual-in_err-looks.ensures.0

pub returns-in_err-looks-clause-eaches : goal.returns-in_err-looks-clause-eaches
returns-in_err-looks-clause-eaches c = IfOk-from_err c.from_residual-in_err-looks.result _ c.from_residual-in_err-looks.ensures.0

pub returns-in_err-looks-clause-bodies : goal.returns-in_err-looks-clause-bodies
returns-in_err-looks-clause-bodies c = IfOk-from_err c.from_residual-in_err-looks.result _ c.from_residual-in_err-looks.ensures.0

pub returns-in_err-looks-clause-modes : goal.returns-in_err-looks-clause-modes
returns-in_err-looks-clause-modes c = IfOk-from_err c.from_residual-in_err-looks.result _ c.from_residual-in_err-looks.ensures.0

pub returns-in_err-looks-clause-numbers : goal.returns-in_err-looks-clause-numbers
returns-in_err-looks-clause-numbers c = IfOk-from_err c.from_residual-in_err-looks.result _ c.from_residual-in_err-looks.ensures.0

pub returns-in_err-eaches-clause-moves : goal.returns-in_err-eaches-clause-moves
returns-in_err-eaches-clause-moves c = IfOk-from_err c.from_residual-in_err-eaches.result _ c.from_residual-in_err-eaches.ensures.0

pub returns-in_err-eaches-clause-jobs : goal.returns-in_err-eaches-clause-jobs
returns-in_err-eaches-clause-jobs c = IfOk-from_err c.from_residual-in_err-eaches.result _ c.from_residual-in_err-eaches.ensures.0

pub returns-in_err-eaches-clause-looks : goal.returns-in_err-eaches-clause-looks
returns-in_err-eaches-clause-looks c = IfOk-from_err c.from_residual-in_err-eaches.result _ c.from_residual-in_err-eaches.ensures.0

pub returns-in_err-eaches-clause-eaches : goal.returns-in_err-eaches-clause-eaches
returns-in_err-eaches-clause-eaches c = IfOk-from_err c.from_residual-in_err-eaches.result _ c.from_residual-in_err-eaches.ensures.0

pub returns-in_err-eaches-clause-bodies : goal.returns-in_err-eaches-clause-bodies
returns-in_err-eaches-clause-bodies c = IfOk-from_err c.from_residual-in_err-eaches.result _ c.from_residual-in_err-eaches.ensures.0

pub returns-in_err-eaches-clause-modes : goal.returns-in_err-eaches-clause-modes
returns-in_err-eaches-clause-modes c = IfOk-from_err c.from_residual-in_err-eaches.result _ c.from_residual-in_err-eaches.ensures.0

pub returns-in_err-eaches-clause-numbers : goal.returns-in_err-eaches-clause-numbers
returns-in_err-eaches-clause-numbers c = IfOk-from_err c.from_residual-in_err-eaches.result _ c.from_residual-in_err-eaches.ensures.0

pub returns-in_err-modes-clause-moves : goal.returns-in_err-modes-clause-moves
returns-in_err-modes-clause-moves c = IfOk-from_err c.from_residual-in_err-modes.result _ c.from_residual-in_err-modes.ensures.0

pub returns-in_err-modes-clause-jobs : goal.returns-in_err-modes-clause-jobs
returns-in_err-modes-clause-jobs c = IfOk-from_err c.from_residual-in_err-modes.result _ c.from_residual-in_err-modes.ensures.0

pub returns-in_err-modes-clause-looks : goal.returns-in_err-modes-clause-looks
returns-in_err-modes-clause-looks c = IfOk-from_err c.from_residual-in_err-modes.result _ c.from_residual-in_err-modes.ensures.0

pub returns-in_err-modes-clause-eaches : goal.returns-in_err-modes-clause-eaches
returns-in_err-modes-clause-eaches c = IfOk-from_err c.from_residual-in_err-modes.result _ c.from_residual-in_err-modes.ensures.0

pub returns-in_err-modes-clause-bodies : goal.returns-in_err-modes-clause-bodies
returns-in_err-modes-clause-bodies c = IfOk-from_err c.from_residual-in_err-modes.result _ c.from_residual-in_err-modes.ensures.0

pub returns-in_err-modes-clause-modes : goal.returns-in_err-modes-clause-modes
returns-in_err-modes-clause-modes c = IfOk-from_err c.from_residual-in_err-modes.result _ c.from_residual-in_err-modes.ensures.0

pub returns-in_err-modes-clause-numbers : goal.returns-in_err-modes-clause-numbers
returns-in_err-modes-clause-numbers c = IfOk-from_err c.from_residual-in_err-modes.result _ c.from_residual-in_err-modes.ensures.0

pub all_moves-requires-clause-sheet : goal.all_moves-requires-clause-sheet
all_moves-requires-clause-sheet c = c.requires.sheet

pub all_moves-requires-clause-used : goal.all_moves-requires-clause-used
all_moves-requires-clause-used c = c.requires.used

pub all_eaches-requires-clause-sheet : goal.all_eaches-requires-clause-sheet
all_eaches-requires-clause-sheet c = c.requires.sheet

pub all_eaches-requires-clause-used : goal.all_eaches-requires-clause-used
all_eaches-requires-clause-used c = c.requires.used

pub modes_of_rules-requires : goal.modes_of_rules-requires
modes_of_rules-requires c = c.requires.sheet
