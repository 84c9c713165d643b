-- What texts and elements that are put out spend.
use Rattle.std.proofs.Common.{◌≡◌, ℕ, ◌+◌, ◌≤◌, List, [], ◌∷◌, length, arith}
use Rattle.tc_model.specs.Names.{ExpandedName}
use Rattle.tc_model.specs.Outcomes.{Outcome, put, put_around}
use Rattle.tc_run.specs.Spent.{Spends, IsPassed}
use Rattle.tc_run.specs.Taken.{Starts, Ends}
use Rattle.tc_run.specs.declared.RunFault.{RunFault}
use Rattle.tc_run.specs.declared.output.Outside.{Outside}
use Rattle.tc_run.specs.declared.output.Output.{Output}
use Rattle.tc_run.proofs.Spending.{Fails, passed_more, spends_nothing}
use Rattle.tc_run.proofs.Taken.{takes_around}

pub no_text : (around : ℕ) (x : Output) (s : List ℕ) → length s ≡ 0 → x.work ≤ 4000000 → around ≤ 8000 → Spends around x x (put s)
no_text around x [] e h k = spends_nothing around x h k
no_text around x (b ∷ bs) e h k = absurd (omega (arith, e))

-- an element around what was put out since nothing was
pub spends_around : (around : ℕ) (x inside y z : Output) (n : ExpandedName) (outside : Outside) (o : Outcome)
    → Starts x.taken n outside inside.taken → inside.work ≡ x.work + 1 → Spends around inside y o
    → Ends y.taken n outside z.taken → z.work ≡ y.work → Spends around x z (put_around n o)
spends_around around x inside y z n outside o e f s g h =
    record {
      out = takes_around x.taken inside.taken y.taken z.taken n outside o.out e s.out g;
      work = omega (arith, h, s.work, f);
      few = omega (arith, h, s.few);
      low = s.low;
    }

pub around_fails : (around : ℕ) (x inside : Output) (n : ExpandedName) (o : Outcome) (e : RunFault)
    → inside.work ≡ x.work + 1 → Fails around inside e o → Fails around x e (put_around n o)
around_fails around x inside n o e f p =
    passed_more e (inside.work + o.work) (x.work + (o.work + 1)) (around + o.nesting) (around + o.nesting) (omega (arith, f)) (omega arith) p

-- there is no room for one more element, or no memory
pub enter_fails : (around : ℕ) (x : Output) (n : ExpandedName) (e : RunFault) (o : Outcome) → IsPassed e (x.work + 1) 0 → Fails around x e (put_around n o)
enter_fails around x n e o h = passed_more e (x.work + 1) (x.work + (o.work + 1)) 0 (around + o.nesting) (omega arith) (omega arith) h
