use Rattle.std.proofs.Common.{ℕ, subst, sym}
use Rattle.tc_model.specs.PathTextPriority.{PriorityText, Unsigned}
use Rattle.tc_path.proofs.PriorityLaws.{no_positive, no_negative, positive_at, negative_at, positive_fits, negative_fits}
use Rattle.tc_path.proofs.priority.read_priority.Goals as goal

pub returns-in-None-unsigned : goal.returns-in-None-unsigned
returns-in-None-unsigned c =
    (no_negative c.args.text.now c.after_white-start.result.now c.in-Some.rest.now c.after_white-start.ensures c.in-Some.ensures (subst (λ w. (v : ℕ) → Unsigned w v → ⊥) c.after_white.ensures c.in-None-unsigned.ensures.read))

pub returns-in-None-unsigned-2 : goal.returns-in-None-unsigned-2
returns-in-None-unsigned-2 c =
    (no_positive c.args.text.now c.after_white-start.result.now c.after_white-start.ensures c.in-None.ensures c.in-None-unsigned-2.ensures.read)

pub returns-in-Some-unsigned : goal.returns-in-Some-unsigned
returns-in-Some-unsigned c =
    subst (PriorityText c.args.text.now) (sym (negative_fits c.in-Some-unsigned.value c.in-Some-unsigned.ensures.below))
    (negative_at c.args.text.now c.after_white-start.result.now c.in-Some.rest.now c.in-Some-unsigned.value c.after_white-start.ensures c.in-Some.ensures
    (subst (λ w. Unsigned w c.in-Some-unsigned.value) c.after_white.ensures c.in-Some-unsigned.ensures.read))

pub returns-in-Some-unsigned-2 : goal.returns-in-Some-unsigned-2
returns-in-Some-unsigned-2 c =
    subst (PriorityText c.args.text.now) (sym (positive_fits c.in-Some-unsigned-2.value c.in-Some-unsigned-2.ensures.below))
    (positive_at c.args.text.now c.after_white-start.result.now c.in-Some-unsigned-2.value c.after_white-start.ensures c.in-None.ensures c.in-Some-unsigned-2.ensures.read)
