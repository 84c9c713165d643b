-- What the calls tell of certificates is decided of texts.
use Rattle.std.proofs.Common.{◌≡◌, ℕ, List, subst}
use Rattle.tc_answer.specs.Answers.{Answer}
use Rattle.tc_answer.specs.declared.status.Status.TheVariants.{Yes, Limit}
use Rattle.tc_top.specs.Certifying.{Proves}

pub limit_is_not_yes : Limit ≡ Yes → ⊥
limit_is_not_yes e = absurd (cc)

-- a proof with an equal limit of rows
pub proves_at : (most other : ℕ) (input output sheet b c d : List ℕ) (answer : Answer) → most ≡ other → Proves most input output sheet b c d answer → Proves other input output sheet b c d answer
proves_at most other input output sheet b c d answer e x = subst (λ (n : ℕ). Proves n input output sheet b c d answer) e x
