-- What the looks of a row tell of a path.
use Rattle.std.proofs.Common.{◌≡◌, ℕ, ◌<◌, ◌-◌, List, true, false, cond, nat_lt, None, refl, ap, ◌∙◌, sym, subst, get_or, arith}
use Rattle.std.proofs.lemmas.Bool.Decides.{nat_tests}
use Rattle.tc_model.specs.Sheets.{Path, no_alternative}
use Rattle.tc_model.specs.PathStates.{first_state}
use Rattle.tc_model.specs.StateCounts.{PathUse}
use Rattle.tc_rules.specs.Kept.{told}
use Rattle.tc_rules.specs.RulesView.{RulesView, IsStateOf, select_count, move_count}
use Rattle.tc_rules.specs.declared.rules.Rules.{Rules}
use Rattle.tc_rules.proofs.Counts.{state_counted}
use Rattle.tc_rows.specs.Triples.{Triple, moves, number, looking}
use Rattle.tc_rows.specs.Rows.{look}
use Rattle.tc_rows.specs.Arithmetic.{look_from}
use Rattle.tc_rows.proofs.States.{state_number, empty_number}
use Rattle.tc_beh.specs.Stands.{IsRulesIn}

abbrev of_look : Path → PathUse
of_look p = record { path = p; mode = None }

-- what looks tell of a path
abbrev pub finds : Triple → List ℕ → Path → ℕ
finds x vs p = look_from x vs (looking p (first_state p))

pub not_low : (n m : ℕ) → n ≡ m → nat_lt n m ≡ false
not_low n m e = grind (arith, nat_tests)

pub is_low : (n m : ℕ) → n < m → nat_lt n m ≡ true
is_low n m h = grind (arith, nat_tests)

module _ (x : Triple) (r : Rules) (is : IsRulesIn x r) where
  pub none_found : (vs : List ℕ) (p : Path) → p ≡ no_alternative → finds x vs p ≡ 0
  none_found vs p e =
      let n : number x (looking no_alternative (first_state no_alternative)) ≡ select_count x.rules = empty_number x is.triple (of_look no_alternative) (first_state no_alternative) refl in
      subst (λ q. finds x vs q ≡ 0) (sym e)
      (ap (λ b. cond b (look x vs (number x (looking no_alternative (first_state no_alternative)))) 0) (not_low (number x (looking no_alternative (first_state no_alternative))) (select_count x.rules) n))

  pub found_at : (vs : List ℕ) (p : Path) (k : ℕ) → IsStateOf (told r) k (of_look p) (first_state p) → finds x vs p ≡ get_or vs (k - moves x) 0
  found_at vs p k st =
      let at : IsStateOf x.rules k (of_look p) (first_state p) = subst (λ (t : RulesView). IsStateOf t k (of_look p) (first_state p)) is.told st in
      let n : number x (looking p (first_state p)) ≡ k = state_number x is.triple k (of_look p) (first_state p) at in
      let low : number x (looking p (first_state p)) < select_count x.rules = subst (λ i. i < select_count x.rules) (sym n) (state_counted x.rules k (of_look p) (first_state p) at) in
      ap (λ b. cond b (look x vs (number x (looking p (first_state p)))) 0) (is_low (number x (looking p (first_state p))) (select_count x.rules) low)
      ∙ ap (λ i. get_or vs (i - moves x) 0) n

  pub moves_told : (n : ℕ) → n ≡ move_count (told r) → n ≡ moves x
  moves_told n e = e ∙ ap move_count is.told
