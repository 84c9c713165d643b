use Rattle.std.proofs.Common.{◌∙◌, List, [], ◌++◌, map, ap}
use Rattle.std.proofs.lemmas.Result.{IfOk-from_err}
use Rattle.tc_model.specs.Numbered.{each_once}
use Rattle.tc_model.specs.Numberings.{same_move}
use Rattle.tc_model.specs.Views as see
use Rattle.tc_rules.specs.Views.{moves}
use Rattle.tc_rules.specs.declared.walk.Move.{Move}
use Rattle.tc_rules.proofs.Built.{handed_on}
use Rattle.tc_rules.proofs.MoveTables.{looks_kept, looks_passed}
use Rattle.tc_rules.proofs.move_table.looks_once.Goals as goal

pub returns-clause-kept : goal.returns-clause-kept
returns-clause-kept c =
    looks_kept c.args.found.now c.in_ok-paths.paths.items c.in_ok-moves.moves.items c.in_ok-kept.kept.items (c.in_ok-paths.ensures ∙ ap (λ (ms : List Move). map (λ (m : Move). see.path m.path.now) ms ++ []) c.deref-2.ensures.value)
    (c.in_ok-kept.ensures.kept ∙ ap (λ (ms : List Move). each_once same_move (moves 0 ms)) c.deref.ensures.value) c.in_ok-moves.ensures

pub returns-in_err-kept-clause-cause : goal.returns-in_err-kept-clause-cause
returns-in_err-kept-clause-cause c =
    handed_on c.from_residual-in_err-kept.result c.in_err-kept.field-0.0 _ _ c.from_residual-in_err-kept.ensures.1
    (looks_passed c.args.found.now c.deref.result.now (ap (moves 0) c.deref.ensures.value ∙ c.in_ok-moves.ensures)) c.in_err-kept.ensures.cause

pub returns-in_err-moves-clause-kept : goal.returns-in_err-moves-clause-kept
returns-in_err-moves-clause-kept c = IfOk-from_err c.from_residual.result _ c.from_residual.ensures.0

pub returns-in_err-kept-clause-kept : goal.returns-in_err-kept-clause-kept
returns-in_err-kept-clause-kept c = IfOk-from_err c.from_residual-in_err-kept.result _ c.from_residual-in_err-kept.ensures.0

pub returns-in_err-paths-clause-kept : goal.returns-in_err-paths-clause-kept
returns-in_err-paths-clause-kept c = IfOk-from_err c.from_residual-in_err-paths.result _ c.from_residual-in_err-paths.ensures.0
