use Rattle.std.proofs.Common.{◌≡◌, ◌↔◌, ℕ, ◌+◌, ap, ◌∙◌, sym, subst, length, arith}
use Rattle.std.proofs.lemmas.Bool.{true≢false}
use Rattle.tc_model.specs.States.{input}
use Rattle.tc_sets.specs.Numbers.{Numbers, Has}
use Rattle.tc_steps.specs.Led.{IsAfterElement, IsTaken}
use Rattle.tc_steps.proofs.Found.{element_none, element_more, element_same}
use Rattle.tc_steps.proofs.steps.add_after.Goals.{then-is_taken, else-is_taken}
use Rattle.tc_steps.proofs.steps.add_after.Goals as goal

pub loop-before-init : goal.loop-before-init
loop-before-init c = (c.requires.sets.next, λ x st. element_none x (IsTaken x c.args.numbers.now c.args.ends.now) c.args.states.now c.args.next.now c.requires.none)

pub loop-before-preserved : goal.loop-before-preserved
loop-before-preserved c =
    let states = c.args.states.now in
    let n = c.loop-before.before in
    elim c.if-is_taken.branch [
      | then-is_taken w ↦ (
        ap (λ (s : Numbers). s.size) w.next-is ∙ (w.add_ends.ensures.size ∙ c.loop-before.invariant.0),
        λ x st. subst (λ (s : Numbers). (j : ℕ) → Has s j ↔ IsAfterElement x states (IsTaken x c.args.numbers.now c.args.ends.now) (n + 1) j) (sym w.next-is)
            (element_more x (IsTaken x c.args.numbers.now c.args.ends.now) n w.arrows.result.now states c.loop-before.next w.add_ends.new.ends ((c.is_taken.ensures x st).0 w.if-is_taken.true)
            (w.arrows.ensures.exact input x st) (c.loop-before.invariant.1 x st) w.add_ends.ensures.numbers),
      )
      | else-is_taken w ↦ (
        ap (λ (s : Numbers). s.size) w.next-is ∙ c.loop-before.invariant.0,
        λ x st. subst (λ (s : Numbers). (j : ℕ) → Has s j ↔ IsAfterElement x states (IsTaken x c.args.numbers.now c.args.ends.now) (n + 1) j) (sym w.next-is)
            (element_same x (IsTaken x c.args.numbers.now c.args.ends.now) n states c.loop-before.next (λ t. true≢false (sym ((c.is_taken.ensures x st).1 t) ∙ w.if-is_taken.false)) (c.loop-before.invariant.1 x st)),
      )
    ]

pub returns-clause-numbers : goal.returns-clause-numbers
returns-clause-numbers c = λ x st j.
    let count : c.loop-before.before ≡ length x.elements = omega (arith, c.loop-before.auto.before-end, c.loop-before-test.false, c.patterns-before-end.ensures.schema input x st) in
    subst (λ m. Has c.loop-before.next j ↔ IsAfterElement x c.args.states.now (IsTaken x c.args.numbers.now c.args.ends.now) m j) count (c.loop-before.invariant.1 x st j)
