use Rattle.std.proofs.Common.{◌≡◌, ◌+◌, ◌∙◌, ap, arith}
use Rattle.tc_auto.proofs.ArrowLists.{first_leaf, next_leaf}
use Rattle.tc_auto.proofs.arrows.all_arrows.Goals as goal

pub loop-before-init : goal.loop-before-init
loop-before-init c = first_leaf c.args.rows.now c.in_ok-arrows_of.field-0 c.new-all.result.items c.push.new.self.items c.new-all.ensures.items c.in_ok-push.ensures.items c.in_ok-arrows_of.ensures

pub loop-before-preserved : goal.loop-before-preserved
loop-before-preserved c = next_leaf c.args.rows.now c.loop-before.before c.in_ok-arrows_of-2.field-0 c.loop-before.all.items c.push-in-loop-before.new.self.items c.loop-before.invariant c.in_ok-push-2.ensures.items c.in_ok-arrows_of-2.ensures

pub returns-clause-counted : goal.returns-clause-counted
returns-clause-counted c =
    let all : c.loop-before.before ≡ c.args.patterns = omega arith in
    c.loop-before.invariant.0 ∙ ap (λ n. n + 1) all

pub returns-clause-arrows : goal.returns-clause-arrows
returns-clause-arrows c = c.loop-before.invariant.1
