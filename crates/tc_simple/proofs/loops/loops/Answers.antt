use Rattle.tc_model.specs.Views.{place}
use Rattle.tc_simple.proofs.Answered.{failed_ok}
use Rattle.std.proofs.Common.{◌∙◌, ◌++◌, ap, sym, ◌≡◌, map, length, arith}
use Rattle.tc_simple.specs.Nodes.{marked_loops, loops_below}
use Rattle.tc_simple.proofs.Resolving.{loops_more}
use Rattle.tc_simple.proofs.loops.loops.Goals as goal

pub loop-number-preserved : goal.loop-number-preserved
loop-number-preserved c =
    c.in_ok-add_marked.ensures
    ∙ (ap (λ z. z ++ marked_loops c.args.table.now c.args.walk.now.states.items c.args.marks.now c.loop-number.number) c.loop-number.invariant
    ∙ sym (loops_more c.args.table.now c.args.walk.now.states.items c.args.marks.now c.loop-number.number))

pub loop-number-init : goal.loop-number-init
loop-number-init c = ap (map place) c.new-found.ensures.items

pub returns-in_err-add_marked : goal.returns-in_err-add_marked
returns-in_err-add_marked c = failed_ok c.from_residual.result _ _ c.from_residual.ensures.1

pub returns : goal.returns
returns c =
    let all : c.loop-number.number ≡ length c.args.table.now.patterns.items = omega arith in
    ap (map place) c.into_bump_slice.ensures ∙ (c.loop-number.invariant ∙ ap (loops_below c.args.table.now c.args.walk.now.states.items c.args.marks.now) all)

pub add_marked-requires-clause-walked : goal.add_marked-requires-clause-walked
add_marked-requires-clause-walked c = c.requires
