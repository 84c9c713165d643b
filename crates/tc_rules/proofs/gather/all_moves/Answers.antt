use Rattle.std.proofs.Common.{◌≡◌, ℕ, List, ◌∙◌, ◌++◌, ap, flat_map, subst, sym}
use Rattle.std.proofs.lemmas.Result.{IfOk-from_err}
use Rattle.tc_model.specs.Views as see
use Rattle.tc_model.specs.Numbered.{each_once}
use Rattle.tc_model.specs.Numberings.{same_move}
use Rattle.tc_model.specs.Numberings as n
use Rattle.tc_rules.specs.Gathered.{built_in_moves}
use Rattle.tc_rules.specs.Jobs.{AreJobs, written_moves}
use Rattle.tc_rules.specs.MoveTables.{IsPathsCause, paths}
use Rattle.tc_rules.specs.Usages.{moves_in_usage}
use Rattle.tc_rules.specs.Views.{moves, usages}
use Rattle.tc_rules.specs.declared.walk.Move.{Move}
use Rattle.tc_rules.proofs.Distinct.{then_if_err}
use Rattle.tc_rules.proofs.JobsOf.{found_jobs, then_if_ok}
use Rattle.tc_rules.proofs.UsagesOf.{moves_are}
use Rattle.tc_rules.proofs.gather.all_moves.Goals as goal

pub returns-clause-moves : goal.returns-clause-moves
returns-clause-moves c =
    let modes = c.args.sheet.now.modes in
    let all : moves modes c.moves_of_usages.new.found.items ≡ written_moves modes (see.sheet c.args.sheet.now) =
    c.in_ok-moves_of_usages.ensures modes
    ∙ (ap (λ w. w ++ flat_map (moves_in_usage modes) (usages c.args.used.now)) (c.in_ok-built_in_moves.ensures modes ∙ ap (λ (ms : List Move). moves modes ms ++ built_in_moves modes) c.new-found.ensures.items) ∙ moves_are (see.sheet c.args.sheet.now) (usages c.args.used.now) modes c.requires.used)
    in
    then_if_ok c.moves_once.result _ _
    (λ v h. h ∙ (ap (λ (ms : List Move). each_once same_move (moves modes ms)) c.deref.ensures.value ∙ ap (each_once same_move) all))
    c.moves_once.ensures.kept

pub returns-clause-cause : goal.returns-clause-cause
returns-clause-cause c =
    let modes = c.args.sheet.now.modes in
    let all : moves modes c.moves_of_usages.new.found.items ≡ written_moves modes (see.sheet c.args.sheet.now) =
    c.in_ok-moves_of_usages.ensures modes
    ∙ (ap (λ w. w ++ flat_map (moves_in_usage modes) (usages c.args.used.now)) (c.in_ok-built_in_moves.ensures modes ∙ ap (λ (ms : List Move). moves modes ms ++ built_in_moves modes) c.new-found.ensures.items) ∙ moves_are (see.sheet c.args.sheet.now) (usages c.args.used.now) modes c.requires.used)
    in
    then_if_err c.moves_once.result _ _
    (λ e h. subst (λ (ms : List n.Move). IsPathsCause (paths ms) e) (ap (λ (ms : List Move). each_once same_move (moves modes ms)) c.deref.ensures.value ∙ ap (each_once same_move) all) h)
    c.moves_once.ensures.cause

pub returns-in_err-built_in_moves-clause-moves : goal.returns-in_err-built_in_moves-clause-moves
returns-in_err-built_in_moves-clause-moves c = IfOk-from_err c.from_residual.result _ c.from_residual.ensures.0

pub returns-in_err-built_in_moves-clause-jobs : goal.returns-in_err-built_in_moves-clause-jobs
returns-in_err-built_in_moves-clause-jobs c = IfOk-from_err c.from_residual.result _ c.from_residual.ensures.0

pub returns-in_err-moves_of_usages-clause-moves : goal.returns-in_err-moves_of_usages-clause-moves
returns-in_err-moves_of_usages-clause-moves c = IfOk-from_err c.from_residual-in_err-moves_of_usages.result _ c.from_residual-in_err-moves_of_usages.ensures.0

pub returns-in_err-moves_of_usages-clause-jobs : goal.returns-in_err-moves_of_usages-clause-jobs
returns-in_err-moves_of_usages-clause-jobs c = IfOk-from_err c.from_residual-in_err-moves_of_usages.result _ c.from_residual-in_err-moves_of_usages.ensures.0

pub returns-clause-jobs : goal.returns-clause-jobs
returns-clause-jobs c =
    let all : (k : ℕ) → moves k c.moves_of_usages.new.found.items ≡ written_moves k (see.sheet c.args.sheet.now) = λ k.
    c.in_ok-moves_of_usages.ensures k
    ∙ (ap (λ w. w ++ flat_map (moves_in_usage k) (usages c.args.used.now)) (c.in_ok-built_in_moves.ensures k ∙ ap (λ (ms : List Move). moves k ms ++ built_in_moves c.args.sheet.now.modes) c.new-found.ensures.items) ∙ moves_are (see.sheet c.args.sheet.now) (usages c.args.used.now) k c.requires.used)
    in
    then_if_ok c.moves_once.result _ _
    (λ v h. h (see.sheet c.args.sheet.now)
    (subst (λ (ms : List Move). AreJobs (see.sheet c.args.sheet.now) ms) (sym c.deref.ensures.value) (found_jobs (see.sheet c.args.sheet.now) c.requires.sheet c.moves_of_usages.new.found.items all)))
    c.moves_once.ensures.jobs
