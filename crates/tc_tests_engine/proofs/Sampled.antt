-- The rows of a test stay while they come on.
use Rattle.std.proofs.Common.{◌≤◌, ℕ, refl, ◌∙◌, sym, arith}
use Rattle.tc_settle.specs.Held.{Grows, IsExact}
use Rattle.tc_tests_engine.specs.Samples.{lists_up_to}

pub samples_grow : (longest trees hedges more_trees more_hedges : ℕ) → trees ≤ more_trees → hedges ≤ more_hedges → Grows (lists_up_to longest trees hedges) (lists_up_to longest more_trees more_hedges)
samples_grow longest trees hedges more_trees more_hedges t h = record {
  trees = t;
  hedges = h;
  symbols = refl;
  is_none = λ u l i. i;
  is_text = λ u l i. i;
  no_text = λ i. i;
  is_append = λ k t u a b d i. i;
  no_append = λ k t a b i. i;
  is_wrap = λ n k u a b d i. i;
  no_wrap = λ n k a b i. i;
  fails = λ t l i. i;
  passes = λ t l i. i;
}

pub samples_exact : (longest trees hedges : ℕ) → IsExact (lists_up_to longest trees hedges)
samples_exact longest trees hedges = record {
  one_none = λ u v a b. a.1 ∙ sym b.1;
  one_text = λ u v a b. absurd a.1;
  one_append = λ h t u v low last a b. (a.1).1 ∙ sym (b.1).1;
  one_wrap = λ n h u v low inside a b. (a.1).1 ∙ sym (b.1).1;
  live_text = λ u a dead. a.1;
  live_append = λ h t u low last a dead. omega (arith, (a.1).0, dead);
  live_wrap = λ n h u low inside a dead. omega (arith, (a.1).0, dead);
  fails_or_passes = λ t low a b. b;
}
