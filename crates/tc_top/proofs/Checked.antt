-- What is decided of a machine is found of its schemas and its stylesheet.
use Rattle.std.proofs.Common.{◌≡◌, subst, ℕ, List}
use Rattle.tc_answer.specs.Answers.{Answer}
use Rattle.tc_rows.specs.Triples as t
use Rattle.tc_top.specs.Causes.{Checks}

-- a check with an equal limit of rows
pub checks_at : {most other : ℕ} {input output sheet b c d : List ℕ} {answer : Answer} → most ≡ other → Checks most input output sheet b c d answer → Checks other input output sheet b c d answer
checks_at {most} {other} {input} {output} {sheet} {b} {c} {d} {answer} e x = subst (λ n. Checks n input output sheet b c d answer) e x

-- a check of equal texts
pub texts_at : {most : ℕ} {input output sheet b c d b' c' d' : List ℕ} {answer : Answer} → b ≡ b' → c ≡ c' → d ≡ d' → Checks most input output sheet b c d answer → Checks most input output sheet b' c' d' answer
texts_at {most} {input} {output} {sheet} {b} {c} {d} {b'} {c'} {d'} {answer} p q r x =
    subst (λ w. Checks most input output sheet b' c' w answer) r (subst (λ w. Checks most input output sheet b' w d answer) q (subst (λ w. Checks most input output sheet w c d answer) p x))
