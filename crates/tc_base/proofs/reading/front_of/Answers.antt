use Rattle.std.proofs.Common.{◌≡◌, ℕ, List, ◌++◌, take, subst, sym, ◌∙◌}
use Rattle.std.specs.Str.{IsValidUpTo}
use Rattle.tc_base.proofs.Front.{begins, begins_twice, no_character, no_byte}
use Rattle.tc_base.proofs.reading.front_of.Goals as goal

pub returns-in-Ok-clause-begins : goal.returns-in-Ok-clause-begins
returns-in-Ok-clause-begins c =
    subst (λ (w : List ℕ). (rest : List ℕ) × (c.args.bytes.now ≡ w ++ rest)) (sym c.in-Ok.ensures.cases.0) (begins c.args.bytes.now c.min.result)

pub returns-in-Ok-clause-none : goal.returns-in-Ok-clause-none
returns-in-Ok-clause-none c = λ empty b. no_byte c.args.bytes.now b.1 c.min.result b.0 c.min.ensures (sym c.in-Ok.ensures.cases.0 ∙ empty) b.3

pub returns-in-Ok-from_utf8-clause-begins : goal.returns-in-Ok-from_utf8-clause-begins
returns-in-Ok-from_utf8-clause-begins c =
    subst (λ (w : List ℕ). (rest : List ℕ) × (c.args.bytes.now ≡ w ++ rest)) (sym c.in-Ok-from_utf8.ensures.cases.0) (begins_twice c.args.bytes.now c.min.result c.valid_up_to.result)

pub returns-in-Ok-from_utf8-clause-none : goal.returns-in-Ok-from_utf8-clause-none
returns-in-Ok-from_utf8-clause-none c = λ empty b.
    no_character c.args.bytes.now b.1 c.min.result c.valid_up_to.result b.0 c.min.ensures
    (subst (IsValidUpTo (take c.min.result c.args.bytes.now)) (sym c.valid_up_to.ensures) c.in-Err.ensures.cases.1)
    (sym c.in-Ok-from_utf8.ensures.cases.0 ∙ empty) b.2 b.3
