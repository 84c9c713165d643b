use Rattle.std.proofs.Common.{◌≡◌, ◌<◌, ◌+◌, ap, ◌∙◌, sym, subst, length, Some, arith}
use Rattle.std.proofs.lemmas.Bool.{true≢false}
use Rattle.std.proofs.lemmas.Option.{slice_get-get_or}
use Rattle.tc_sets.specs.Numbers.{Numbers}
use Rattle.tc_incl.proofs.Stepped.{IsPutTo, put_more, put_same}
use Rattle.tc_incl.proofs.sides.put_after.Goals.{then-has, else-has}
use Rattle.tc_incl.proofs.sides.put_after.Goals as goal

pub loop-before-preserved : goal.loop-before-preserved
loop-before-preserved c =
    let ends = c.args.ends.now in
    let k = c.loop-before.before in
    elim c.if-has.branch [
      | then-has w ↦ (
        ap (λ (s : Numbers). s.size) w.next-is ∙ (w.add_all.ensures.size ∙ c.loop-before.invariant.0),
        subst (λ (s : Numbers). IsPutTo ends c.args.patterns.now c.args.next.now (k + 1) s) (sym w.next-is)
            (put_more ends c.args.patterns.now c.args.next.now k w.index-ends-before.result c.loop-before.next w.add_all.new.self
            (let low : k < length ends = omega (arith, c.loop-before-test.true, c.size-before-end.ensures.size, c.requires.count) in slice_get-get_or ends k w.index-ends-before.result low ∙ ap Some (sym w.index-ends-before.is)) (c.has.ensures.0 w.if-has.true) c.loop-before.invariant.1
            w.add_all.ensures.numbers),
      )
      | else-has w ↦ (
        ap (λ (s : Numbers). s.size) w.next-is ∙ c.loop-before.invariant.0,
        subst (λ (s : Numbers). IsPutTo ends c.args.patterns.now c.args.next.now (k + 1) s) (sym w.next-is)
            (put_same ends c.args.patterns.now c.args.next.now k c.loop-before.next (λ h. true≢false (sym (c.has.ensures.1 h) ∙ w.if-has.false)) c.loop-before.invariant.1),
      )
    ]

pub returns-clause-numbers : goal.returns-clause-numbers
returns-clause-numbers c =
    let ends = c.args.ends.now in
    let whole : c.loop-before.before ≡ length ends = omega (arith, c.loop-before-test.false, c.loop-before.auto.before-end, c.size-before-end.ensures.size, c.requires.count) in
    subst (λ n. IsPutTo ends c.args.patterns.now c.args.next.now n c.loop-before.next) whole c.loop-before.invariant.1
