use Rattle.std.proofs.Common.{◌≡◌, ◌++◌, ap, ◌∙◌, map, arith}
use Rattle.std.proofs.lemmas.List.{take_all}
use Rattle.tc_model.specs.Grammars.{ElementPattern, in_class}
use Rattle.tc_auto.specs.Stands.{patterns}
use Rattle.tc_hedge.proofs.Bounds.{patterns_of}
use Rattle.tc_hedge.proofs.TableRows.{allowed_more}
use Rattle.tc_beh.proofs.Steps.{not_done}
use Rattle.tc_beh.proofs.alike.add_classes.Goals as goal

pub loop-before-preserved : goal.loop-before-preserved
loop-before-preserved c = λ side g symbols st name same.
    let auto : patterns c.auto.result.now ≡ patterns c.args.schema.now.auto = ap patterns c.auto.ensures in
    allowed_more g (λ (e : ElementPattern). in_class e.names name) c.loop-before.before c.allows-is_held.result c.args.key.now.items c.loop-before.key.items c.push.new.self.items
    (omega (arith, c.loop-before-test.true, c.patterns-before-end.ensures.here, auto, patterns_of side g c.args.schema.now.auto st.auto))
    (λ e at. c.allows-is_held.ensures side g symbols st name same e at)
    (c.loop-before.invariant side g symbols st name same)
    c.in_ok-push.ensures.items

pub returns : goal.returns
returns c = λ side g symbols st name same.
    let auto : patterns c.auto.result.now ≡ patterns c.args.schema.now.auto = ap patterns c.auto.ensures in
    let all = take_all c.loop-before.before g.elements (omega (arith, c.loop-before-test.false, c.patterns-before-end.ensures.here, auto, patterns_of side g c.args.schema.now.auto st.auto)) in
    c.loop-before.invariant side g symbols st name same ∙ ap (λ es. c.args.key.now.items ++ map (λ (e : ElementPattern). in_class e.names name) es) all

pub returns-in_err-push : goal.returns-in_err-push
returns-in_err-push c = not_done c.from_residual.result _ _ c.from_residual.ensures.1
