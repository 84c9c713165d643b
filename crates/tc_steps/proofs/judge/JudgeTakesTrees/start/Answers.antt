use Rattle.std.proofs.lemmas.Option.{IfSome_then}
use Rattle.tc_model.specs.Views as see
use Rattle.tc_steps.proofs.JudgedLaws.{started}
use Rattle.tc_steps.proofs.judge.JudgeTakesTrees.start.Goals as goal

pub returns : goal.returns
returns c =
    IfSome_then c.push_level.result c.push_level.ensures.levels (λ u levels x p at.
    started x c.args.self.now c.push_level.new.self c.start.new.self c.in_ok-opened.opened (see.name c.args.tag) p levels c.push_level.ensures.moves c.push_level.ensures.valid (c.in_ok-opened.ensures.keeps x at.right)
    (c.in_ok-opened.ensures.element x at.right) at)
