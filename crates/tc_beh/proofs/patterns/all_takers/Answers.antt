use Rattle.std.proofs.Common.{◌≡◌, ◌+◌, ◌∙◌, ap, subst, sym, length, arith}
use Rattle.tc_auto.specs.Stands.{patterns}
use Rattle.tc_beh.specs.Around.{AreTakers}
use Rattle.tc_beh.proofs.Bundling.{no_element, one_longer, each_pushed}
use Rattle.tc_beh.proofs.patterns.all_takers.Goals as goal

pub loop-symbol-init : goal.loop-symbol-init
loop-symbol-init c =
    let none = c.new-all.ensures.items in
    record { count = ap length none; each = λ a v got. absurd (no_element c.new-all.result.items a v none got) }

pub loop-symbol-preserved : goal.loop-symbol-preserved
loop-symbol-preserved c =
    let n = c.args.input.now in
    let v = c.loop-symbol.invariant in
    let old = c.loop-symbol.all.items in
    let row = c.in_ok-takers_of.field-0 in
    let put = c.in_ok-push.ensures.items in
    record {
      count = one_longer old c.push.new.self.items row put ∙ ap (λ k. k + 1) v.count;
      each = each_pushed old c.push.new.self.items row put (λ a w. AreTakers n a (patterns n.auto) w.items) v.each (subst (λ a. AreTakers n a (patterns n.auto) row.items) (sym v.count) c.in_ok-takers_of.ensures);
    }

pub returns : goal.returns
returns c =
    let v = c.loop-symbol.invariant in
    let past = c.loop-symbol-test.false in
    let end = c.loop-symbol.auto.symbol-end in
    record { count = omega (arith, v.count, past, end, c.symbols-symbol-end.ensures); each = v.each }
