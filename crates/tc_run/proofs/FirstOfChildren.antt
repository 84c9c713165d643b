-- Moves to all children: which path is that, and the first states by modes.
use Rattle.std.proofs.Common.{◌≡◌, ◌⊎◌, inl, inr, ⊎_elim, ℕ, zero, suc, ◌+◌, List, [], ◌∷◌, ◌++◌, refl, ap, ◌∙◌, sym, subst, length, get_or, false, Option, Some, MatchOption, Bor, slice_get, arith}
use Rattle.std.proofs.lemmas.List.{length_push}
use Rattle.std.proofs.lemmas.Option.{same_Some}
use Rattle.tc_model.specs.Meaning.{all_children}
use Rattle.tc_model.specs.Sheets as s
use Rattle.tc_model.specs.Sheets.{Path}
use Rattle.tc_model.specs.Views as see
use Rattle.tc_model.specs.declared.sheet.Step.{Step}
use Rattle.tc_rules.specs.declared.walk.Job.TheVariants.{Mode}
use Rattle.tc_run.specs.ChildMoves.{IsFirst}
use Rattle.tc_run.specs.declared.runner.Runner.{Runner}

-- a path of one alternative, which is one step to all children
pub one_step : (ws : List (Bor (List Step))) (d : Bor (List Step)) (e : Step) → length ws ≡ 1 → length (get_or ws 0 d).now ≡ 1
    → ((rest : s.Steps) → s.step (get_or (get_or ws 0 d).now 0 e).deep (see.node_test (get_or (get_or ws 0 d).now 0 e).test) (see.test (get_or (get_or ws 0 d).now 0 e).when) rest ≡ s.step false s.any_node s.always rest)
    → see.alternatives ws ≡ all_children
one_step [] d e one few all = absurd (omega (arith, one))
one_step (v ∷ u ∷ ws) d e one few all = absurd (omega (arith, one))
one_step (v ∷ []) d e one few all = ap (λ y. s.alternative y s.no_alternative) (by v.now few all)
  where
    by : (xs : List Step) → length xs ≡ 1
        → ((rest : s.Steps) → s.step (get_or xs 0 e).deep (see.node_test (get_or xs 0 e).test) (see.test (get_or xs 0 e).when) rest ≡ s.step false s.any_node s.always rest)
        → see.steps xs ≡ s.step false s.any_node s.always s.no_step
    by [] one all = absurd (omega (arith, one))
    by (y ∷ z ∷ xs) one all = absurd (omega (arith, one))
    by (y ∷ []) one all = all s.no_step

-- what stands in a list with one more at its end
pushed_at : (xs : List (Option ℕ)) (x y : Option ℕ) (m : ℕ) → slice_get (xs ++ x ∷ []) m ≡ Some y → (slice_get xs m ≡ Some y) ⊎ ((m ≡ length xs) × (x ≡ y))
pushed_at [] x y zero e = inr (refl, same_Some x y e)
pushed_at [] x y (suc m) e = cc
pushed_at (z ∷ xs) x y zero e = inl e
pushed_at (z ∷ xs) x y (suc m) e = ⊎_elim inl (λ p. inr (omega (arith, p.0), p.1)) (pushed_at xs x y m e)

module _ (r : Runner) where
  -- so many modes have these
  pub record AreFirstSo (n : ℕ) (xs : List (Option ℕ)) : Type 0 where
    pub count : length xs ≡ n
    pub first : (m k : ℕ) → slice_get xs m ≡ Some (Some k) → IsFirst r all_children (Mode m) k

  pub none_first : AreFirstSo 0 []
  none_first = record { count = refl; first = λ m k e. cc }

  pub one_more_first : (n : ℕ) (xs : List (Option ℕ)) (x : Option ℕ) → AreFirstSo n xs → ((k : ℕ) → x ≡ Some k → IsFirst r all_children (Mode n) k) → AreFirstSo (n + 1) (xs ++ x ∷ [])
  one_more_first n xs x are is = record {
    count = let size = length_push xs x in let count = are.count in omega (arith, size, count);
    first = λ m k e. ⊎_elim (are.first m k) (λ p. subst (λ i. IsFirst r all_children (Mode i) k) (sym (p.0 ∙ are.count)) (is k p.1)) (pushed_at xs x (Some k) m e);
  }

  -- the first state of a move, if it has one
  pub first_found : (p : Path) (m : ℕ) (o : Option ℕ) → p ≡ all_children → MatchOption o (p ≡ s.no_alternative) (IsFirst r p (Mode m)) → (k : ℕ) → o ≡ Some k → IsFirst r all_children (Mode m) k
  first_found p m o e is k f = subst (λ q. IsFirst r q (Mode m) k) e (subst (λ w. MatchOption w (p ≡ s.no_alternative) (IsFirst r p (Mode m))) f is)
