-- What loops mix of steps and alternatives, one at a time.
use Rattle.std.proofs.Common.{◌≡◌, ℕ, ◌+◌, ◌<◌, ◌≤◌, Bor, List, ap, sym, ◌∙◌, length, get_or, drop}
use Rattle.std.proofs.lemmas.List.{drop_all, get_or_default}
use Rattle.tc_model.specs.Sheets.{Test}
use Rattle.tc_model.specs.Views as see
use Rattle.tc_model.specs.declared.sheet.Step.{Step}
use Rattle.tc_model.proofs.ViewsPath.{left_step, left_alternative}
use Rattle.tc_rules.specs.Mixed.{mixed, mixed_step, mixed_steps, mixed_path}

module _ (tests : List Test) where
  pub step_in : (xs : List Step) (i : ℕ) (d : Step) (hash now all : ℕ) → i < length xs → now ≡ mixed_step tests hash (get_or xs i d).deep (see.node_test (get_or xs i d).test) (see.test (get_or xs i d).when)
      → mixed_steps tests hash (see.steps (drop i xs)) ≡ all → mixed_steps tests now (see.steps (drop (i + 1) xs)) ≡ all
  step_in xs i d hash now all l put so_far =
      ap (λ h. mixed_steps tests h (see.steps (drop (i + 1) xs))) put
      ∙ (sym (ap (mixed_steps tests hash) (left_step xs i (get_or xs i d) l (get_or_default xs i d (get_or xs i d) l))) ∙ so_far)

  pub steps_over : (xs : List Step) (i hash all : ℕ) → length xs ≤ i → mixed_steps tests hash (see.steps (drop i xs)) ≡ all → hash ≡ all
  steps_over xs i hash all l so_far = sym (ap (λ (w : List Step). mixed_steps tests hash (see.steps w)) (drop_all i xs l)) ∙ so_far

  pub alternative_in : (ws : List (Bor (List Step))) (i : ℕ) (d : Bor (List Step)) (hash begun now all : ℕ) → i < length ws → begun ≡ mixed hash 6 → now ≡ mixed_steps tests begun (see.steps (get_or ws i d).now)
      → mixed_path tests hash (see.alternatives (drop i ws)) ≡ all → mixed_path tests now (see.alternatives (drop (i + 1) ws)) ≡ all
  alternative_in ws i d hash begun now all l begins put so_far =
      ap (λ h. mixed_path tests h (see.alternatives (drop (i + 1) ws))) (put ∙ ap (λ h. mixed_steps tests h (see.steps (get_or ws i d).now)) begins)
      ∙ (sym (ap (mixed_path tests hash) (left_alternative ws i (get_or ws i d) l (get_or_default ws i d (get_or ws i d) l))) ∙ so_far)

  pub alternatives_over : (ws : List (Bor (List Step))) (i hash all : ℕ) → length ws ≤ i → mixed_path tests hash (see.alternatives (drop i ws)) ≡ all → hash ≡ all
  alternatives_over ws i hash all l so_far = sym (ap (λ (w : List (Bor (List Step))). mixed_path tests hash (see.alternatives w)) (drop_all i ws l)) ∙ so_far
