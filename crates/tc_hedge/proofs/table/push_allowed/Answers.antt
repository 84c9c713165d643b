use Rattle.std.proofs.Common.{◌≤◌, ◌++◌, ◌∙◌, List, ap, append-nil, arith, length, map, sym}
use Rattle.std.proofs.lemmas.List.{take_all}
use Rattle.tc_model.specs.Views as see
use Rattle.tc_model.specs.Grammars.{ElementPattern, in_class}
use Rattle.tc_hedge.proofs.Bounds.{patterns_of}
use Rattle.tc_hedge.proofs.TableRows.{allowed_more}
use Rattle.tc_hedge.proofs.table.push_allowed.Goals as goal

pub loop-before-preserved : goal.loop-before-preserved
loop-before-preserved c = (
  omega (arith, c.in_ok-push.ensures.len, c.loop-before.invariant.0),
  λ side x st.
      allowed_more x (λ (e : ElementPattern). in_class e.names (see.name c.args.name.now)) c.loop-before.before c.allows-is_allowed.result c.args.allowed.now.items c.loop-before.allowed.items c.push.new.self.items
      (omega (arith, c.loop-before-test.true, c.patterns-before-end.ensures.here, patterns_of side x c.args.automaton.now st))
      (λ e at. c.allows-is_allowed.ensures side x st e at)
      (c.loop-before.invariant.1 side x st)
      c.in_ok-push.ensures.items,
)

pub loop-before-init : goal.loop-before-init
loop-before-init c = (omega arith, λ side x st. sym (append-nil c.args.allowed.now.items))

pub returns-clause-counted : goal.returns-clause-counted
returns-clause-counted c = omega (arith, c.loop-before.invariant.0, c.loop-before-test.false, c.loop-before.auto.before-end, c.patterns-before-end.ensures.here)

pub returns-clause-told : goal.returns-clause-told
returns-clause-told c = λ side x st.
    let all : length x.elements ≤ c.loop-before.before = omega (arith, c.loop-before-test.false, c.patterns-before-end.ensures.here, patterns_of side x c.args.automaton.now st) in
    c.loop-before.invariant.1 side x st ∙ ap (λ (w : List ElementPattern). c.args.allowed.now.items ++ map (λ (e : ElementPattern). in_class e.names (see.name c.args.name.now)) w) (take_all c.loop-before.before x.elements all)
