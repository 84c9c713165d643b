-- What a call hands on of what the calls inside it answer.
use Rattle.std.proofs.Common.{◌≡◌, ℕ, ◌+◌, ◌<◌, ◌≤◌, sym, subst, Result, Ok, Err, arith}
use Rattle.std.specs.Prelude.{IsErrAnd}
use Rattle.tc_model.specs.Outcomes.{Outcome, within, counted}
use Rattle.tc_run.specs.Spent.{Answers}
use Rattle.tc_run.specs.declared.RunFault.{RunFault}
use Rattle.tc_run.specs.declared.RunFault.TheVariants.{TooMuchWork, TooOpen}
use Rattle.tc_run.specs.declared.output.Output.{Output}
use Rattle.tc_run.proofs.Spending.{Fails, fails_counted, fails_count, answers_within, answers_counted}

-- an error inside is that of the call
pub handed : {T : Type 0} (around : ℕ) (x y : Output) (r : Result T RunFault) (e : RunFault) (o : Outcome) → IsErrAnd r (λ f. f ≡ e) → Fails around x e o → Answers around x y r o
handed around x y (Ok v) e o h p = absurd h
handed around x y (Err f) e o h p = subst (λ z. Fails around x z o) (sym h) p

-- there is no room for one more
pub open_deep : (around : ℕ) (x : Output) (e : RunFault) (o : Outcome) → 1 ≤ o.nesting → (e ≡ TooOpen) × (8000 < around + 1) → Fails around x e o
open_deep around x e o l h =
    let p : Fails around x TooOpen o = omega (arith, l, h.1) in
    subst (λ z. Fails around x z o) (sym h.0) p

-- the same of a body that counts
pub counted_deep : (around : ℕ) (x : Output) (e : RunFault) (a : Outcome) → (e ≡ TooOpen) × (8000 < around + 1) → Fails around x e (counted a)
counted_deep around x e a h = subst (λ z. Fails around x z (counted a)) (sym h.0) (fails_counted around x a h.1)

pub counted_long : (around : ℕ) (x : Output) (e : RunFault) (a : Outcome) → (e ≡ TooMuchWork) × (4000000 < x.work + 1) → Fails around x e (counted a)
counted_long around x e a h = subst (λ z. Fails around x z (counted a)) (sym h.0) (fails_count around x a h.1)

-- within a body that counts, and within an instruction
pub counted_within : {T : Type 0} (around n : ℕ) (x y z : Output) (r : Result T RunFault) (a : Outcome)
    → (n ≡ around + 1) × (n ≤ 8000) → y.taken ≡ x.taken → (y.work ≡ x.work + 1) × (y.work ≤ 4000000) → Answers n y z r a → Answers around x z r (counted a)
counted_within around n x y z r a d e f s = answers_counted around x y z r a e f.0 (subst (λ k. Answers k y z r a) d.0 s)

pub instructed : {T : Type 0} (around n : ℕ) (x y : Output) (r : Result T RunFault) (a b : Outcome)
    → (n ≡ around + 1) × (n ≤ 8000) → b ≡ within a → Answers n x y r a → Answers around x y r b
instructed around n x y r a b d e s = subst (Answers around x y r) (sym e) (answers_within around x y r a (subst (λ k. Answers k x y r a) d.0 s))
