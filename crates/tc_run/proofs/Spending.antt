-- How what calls put out is joined: one after the other, within an instruction, within a body, around.
use Rattle.std.proofs.Common.{◌≡◌, ℕ, ◌+◌, ◌<◌, ◌≤◌, max, ap, ◌∙◌, sym, subst, Result, Ok, Err, arith}
use Rattle.tc_model.specs.Outcomes.{Outcome, nothing, join, within, counted}
use Rattle.tc_model.proofs.TotalJoin.{join_none}
use Rattle.tc_run.specs.Spent.{Spends, IsPassed, Answers}
use Rattle.tc_run.specs.declared.RunFault.{RunFault}
use Rattle.tc_run.specs.declared.RunFault.TheVariants.{TooMuchWork, TooOpen, NoMemory}
use Rattle.tc_run.specs.Taken.{Takes}
use Rattle.tc_run.specs.declared.output.Output.{Output}
use Rattle.tc_run.proofs.Taken.{takes_nothing, takes_both}

pub spends_nothing : (around : ℕ) (x : Output) → x.work ≤ 4000000 → around ≤ 8000 → Spends around x x nothing
spends_nothing around x h k = record { out = takes_nothing x.taken; work = omega arith; few = h; low = omega arith }

pub spends_both : {around : ℕ} {x y z : Output} {a b : Outcome} → Spends around x y a → Spends around y z b → Spends around x z (join a b)
spends_both {around} {x} {y} {z} {a} {b} s u =
    record {
      out = takes_both x.taken y.taken z.taken a.out b.out s.out u.out;
      work = omega (arith, s.work, u.work);
      few = u.few;
      low = omega (arith, s.low, u.low);
    }

-- a limit that is passed stays passed
pub passed_more : (e : RunFault) (w v n k : ℕ) → w ≤ v → n ≤ k → IsPassed e w n → IsPassed e v k
passed_more TooMuchWork w v n k h g p = omega (arith, h, p)
passed_more TooOpen w v n k h g p = omega (arith, g, p)
passed_more NoMemory w v n k h g p = tt

-- what is named is passed, within so many bodies and instructions and after what was put out before
abbrev pub Fails : ℕ → Output → RunFault → Outcome → Type 0
Fails around x e o = IsPassed e (x.work + o.work) (around + o.nesting)

pub fails_first : (around : ℕ) (x : Output) (e : RunFault) (a b : Outcome) → Fails around x e a → Fails around x e (join a b)
fails_first around x e a b p = passed_more e (x.work + a.work) (x.work + (a.work + b.work)) (around + a.nesting) (around + max a.nesting b.nesting) (omega arith) (omega arith) p

pub fails_then : (around : ℕ) (x y : Output) (e : RunFault) (a b : Outcome) → Spends around x y a → Fails around y e b → Fails around x e (join a b)
fails_then around x y e a b s p =
    passed_more e (y.work + b.work) (x.work + (a.work + b.work)) (around + b.nesting) (around + max a.nesting b.nesting) (omega (arith, s.work)) (omega arith) p

-- what comes after what was put out
pub answers_then : {T : Type 0} (around : ℕ) (x y z : Output) (r : Result T RunFault) (a b : Outcome) → Spends around x y a → Answers around y z r b → Answers around x z r (join a b)
answers_then around x y z (Ok v) a b s u = spends_both s u
answers_then around x y z (Err e) a b s p = fails_then around x y e a b s p

-- nothing comes after it
pub spends_last : (around : ℕ) (x y : Output) (a b : Outcome) → Spends around x y a → b ≡ nothing → Spends around x y (join a b)
spends_last around x y a b s e = subst (Spends around x y) (sym (ap (join a) e ∙ join_none a)) s

-- within an instruction
pub answers_within : {T : Type 0} (around : ℕ) (x y : Output) (r : Result T RunFault) (a : Outcome) → Answers (around + 1) x y r a → Answers around x y r (within a)
answers_within around x y (Ok v) a s = record { out = s.out; work = s.work; few = s.few; low = omega (arith, s.low) }
answers_within around x y (Err e) a p = passed_more e (x.work + a.work) (x.work + a.work) (around + 1 + a.nesting) (around + (a.nesting + 1)) (omega arith) (omega arith) p

-- there is no room for one more
pub fails_counted : (around : ℕ) (x : Output) (a : Outcome) → 8000 < around + 1 → Fails around x TooOpen (counted a)
fails_counted around x a h = omega (arith, h)

pub fails_count : (around : ℕ) (x : Output) (a : Outcome) → 4000000 < x.work + 1 → Fails around x TooMuchWork (counted a)
fails_count around x a h = omega (arith, h)

-- within a body that counts
pub answers_counted : {T : Type 0} (around : ℕ) (x y z : Output) (r : Result T RunFault) (a : Outcome)
    → y.taken ≡ x.taken → y.work ≡ x.work + 1 → Answers (around + 1) y z r a → Answers around x z r (counted a)
answers_counted around x y z (Ok v) a e f s = record { out = subst (λ t. Takes t a.out z.taken) e s.out; work = omega (arith, s.work, f); few = s.few; low = omega (arith, s.low) }
answers_counted around x y z (Err e) a g f p = passed_more e (y.work + a.work) (x.work + (a.work + 1)) (around + 1 + a.nesting) (around + (a.nesting + 1)) (omega (arith, f)) (omega arith) p
