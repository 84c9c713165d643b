use Rattle.std.proofs.Common.{refl, subst, map, drop, arith}
use Rattle.std.proofs.lemmas.List.Elements.{Contains-append_left, Contains-append_right}
use Rattle.tc_dead.specs.Spots.{spots_of}
use Rattle.tc_dead.specs.Views.{seen}
use Rattle.tc_decide.specs.DeadSpotsSeen.{StopsSpots}
use Rattle.tc_decide.proofs.SpotsTold.{later_more, later_all, all_in}
use Rattle.tc_decide.proofs.Stages.{grow_early}
use Rattle.tc_decide.proofs.spots.first_of.Goals as goal
use Rattle.tc_model.specs.Views as see

pub loop-spot-init : goal.loop-spot-init
loop-spot-init c = λ i read ps inside x. (ps, refl, x)

pub loop-spot-preserved : goal.loop-spot-preserved
loop-spot-preserved c = λ i read ps inside x.
    let (qs, same, so) = c.loop-spot.invariant i read ps inside x in
    (_, later_more c.loop-spot.spot-index c.args.later.now _ qs _ c.loop-spot-test.true same, c.earlier_of-found.ensures i read qs so)

pub returns-then-stage-le1 : goal.returns-then-stage-le1
returns-then-stage-le1 c = λ i read ps inside x.
    let s = see.sheet c.args.marking.now.sheet in
    let (qs, same, so) = c.loop-spot.invariant i read ps inside x in
    let rest = map seen (drop c.loop-spot.spot-index c.args.later.now) in
    let all = all_in (spots_of s) ps qs rest c.args.later.now inside c.requires.later same in
    subst (λ z. StopsSpots i s z c.loop-spot.found) same
    (grow_early i s qs c.loop-spot.found rest (omega (arith, c.stage.ensures, c.if-stage-le1.true)) (λ q d. all q (Contains-append_left qs rest q d)) (λ q d. all q (Contains-append_right qs rest q d)) so)

pub returns : goal.returns
returns c = λ i read ps inside x.
    let (qs, same, so) = c.loop-spot.invariant i read ps inside x in
    subst (λ z. StopsSpots i (see.sheet c.args.marking.now.sheet) z c.loop-spot.found) (later_all c.loop-spot.spot-index c.args.later.now qs _ c.loop-spot-test.false same) so
