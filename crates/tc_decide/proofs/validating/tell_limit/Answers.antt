use Rattle.std.proofs.Common.{sym, subst, Err}
use Rattle.tc_decide.specs.ValidatingSeen.{TellsOfText}
use Rattle.tc_decide.proofs.Judged.{limit_told, refused_text}
use Rattle.tc_decide.proofs.validating.tell_limit.Goals as goal
use Rattle.tc_model.specs.Trees.{none}
use Rattle.tc_model.specs.Views as see

pub returns-in-Ok : goal.returns-in-Ok
returns-in-Ok c = λ x cause.
    subst (λ e. TellsOfText x c.args.document.now (Err e)) (sym c.limit_failure.ensures)
    (limit_told x c.args.document.now (see.before c.in-Ok.field-0 none) c.args.fault c.in-Ok.ensures.ok cause)

pub returns-in-Err : goal.returns-in-Err
returns-in-Err c = λ x cause. refused_text x c.args.document.now _ c.in-Err.ensures.no
