use Rattle.tc_decide.proofs.Judged.{of_tree, refused_text}
use Rattle.tc_decide.proofs.validating.judge_document.Goals as goal
use Rattle.tc_model.specs.Trees.{none}
use Rattle.tc_model.specs.Views as see

pub returns-in-Ok : goal.returns-in-Ok
returns-in-Ok c = λ x is. of_tree x (see.before c.in-Ok.root none) c.args.document.now c.judge_tree.result c.in-Ok.ensures.ok (c.judge_tree.ensures x is)

pub returns-in-Err : goal.returns-in-Err
returns-in-Err c = λ x is. refused_text x c.args.document.now _ c.in-Err.ensures.no
