use Rattle.std.proofs.Common.{◌≡◌, ◌+◌, ◌∙◌, ap, subst, sym, refl, true, false, arith}
use Rattle.tc_auto.specs.Stands.{patterns}
use Rattle.tc_beh.specs.Around.{AreTakers}
use Rattle.tc_beh.proofs.Surrounding.{no_takers, taker_skipped, taker_put}
use Rattle.tc_beh.proofs.patterns.takers_of.Goals.{then-allows+in_ok-push, else-allows}
use Rattle.tc_beh.proofs.patterns.takers_of.Goals as goal

pub loop-before-init : goal.loop-before-init
loop-before-init c = subst (AreTakers c.args.input.now c.args.sym.0 0) (sym c.new-takers.ensures.items) (no_takers c.args.input.now c.args.sym.0 0)

pub loop-before-preserved : goal.loop-before-preserved
loop-before-preserved c =
    let n = c.args.input.now in
    let a = c.args.sym.0 in
    let i = c.loop-before.before in
    let old = c.loop-before.takers.items in
    elim c.if-allows.branch [
      | then-allows+in_ok-push w ↦ subst (λ ts. AreTakers n a (i + 1) ts) (sym (ap (λ v. v.items) w.takers-is))
          (taker_put n a i old w.push.new.self.items w.in_ok-push.ensures.items (λ side x symbols st name same e at. w.if-allows.ensures side x symbols st name same e at) c.loop-before.invariant)
      | else-allows w ↦ subst (λ ts. AreTakers n a (i + 1) ts) (sym (ap (λ v. v.items) w.takers-is))
          (taker_skipped n a i old (λ side x symbols st name same e at. w.if-allows.ensures side x symbols st name same e at) c.loop-before.invariant)
    ]

pub returns : goal.returns
returns c =
    let n = c.args.input.now in
    let past = c.loop-before-test.false in
    let end = c.loop-before.auto.before-end in
    let same = ap patterns c.auto.ensures in
    subst (λ k. AreTakers n c.args.sym.0 k c.loop-before.takers.items) (omega (arith, past, end, c.patterns-before-end.ensures.here, same)) c.loop-before.invariant
