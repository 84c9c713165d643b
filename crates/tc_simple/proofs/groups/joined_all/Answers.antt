use Rattle.std.proofs.Common.{◌∙◌, ap}
use Rattle.tc_rnc.specs.Views.{pattern}
use Rattle.tc_simple.specs.Tables.{joined_of}
use Rattle.tc_simple.specs.declared.groups.Group.{Group}
use Rattle.tc_simple.proofs.Gathering.{pushed_map}
use Rattle.tc_simple.proofs.Answered.{failed_ok}
use Rattle.tc_simple.proofs.groups.joined_all.Goals as goal

pub loop-group-preserved : goal.loop-group-preserved
loop-group-preserved c =
    let f = λ (g : Group). joined_of g.is_choice g.bodies.items in
    pushed_map pattern f c.loop-group.patterns.items c.push.new.self.items c.args.groups.now c.loop-group.group-index c.group-item.result c.in_ok-pattern.pattern c.loop-group-test.true c.loop-group.invariant c.in_ok-push.ensures.items
    (c.in_ok-pattern.ensures ∙ ap f c.group-item.is)

pub returns-in_err-pattern : goal.returns-in_err-pattern
returns-in_err-pattern c = failed_ok c.from_residual.result _ _ c.from_residual.ensures.1

pub returns-in_err-push : goal.returns-in_err-push
returns-in_err-push c = failed_ok c.from_residual-in_err-push.result _ _ c.from_residual-in_err-push.ensures.1
