use Rattle.std.proofs.Common.{◌≡◌, ◌≤◌, ◌++◌, ◌∙◌, sym, ap, subst, arith, length, List, ℕ, codes}
use Rattle.tc_base.specs.Reading.{longest_text}
use Rattle.tc_top.specs.Demo.{demo_lines}
use Rattle.tc_top.proofs.DemoSizes.{schema_short}
use Rattle.tc_top.proofs.demo.schema_of.Goals as goal

pub returns-clause-short : goal.returns-clause-short
returns-clause-short c =
    let so_far = c.loop-number.invariant in
    let all : c.loop-number.number ≡ c.args.size = omega (arith, so_far.1, c.loop-number-test.false) in
    subst (λ (w : List ℕ). length w ≤ longest_text) (sym (so_far.0 ∙ ap (λ (n : ℕ). codes "start = e1\n" ++ demo_lines c.args.size n) all)) (schema_short c.args.size c.requires.some c.requires.few)
