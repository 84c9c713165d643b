use Rattle.std.proofs.Common.{◌≡◌, sym, rules}
use Rattle.tc_auto.proofs.Gained.{stands_at}
use Rattle.tc_auto.proofs.repeats.is_at.Goals as goal

pub returns : goal.returns
returns c = λ equal.
    let same : c.in-Some.other.now.leaf ≡ c.args.step.leaf = search rules in
    let at = c.in-Some.ensures.lookup in
    stands_at c.args.steps.now c.args.place c.in-Some.other.now c.args.step at.3.0 (sym at.1) c.if-other-step.false same c.if-other-step-2.false
