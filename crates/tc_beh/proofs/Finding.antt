-- What a state of a look finds from above a node.
use Rattle.std.proofs.Common.{◌≡◌, ◌<◌, ◌≤◌, ◌+◌, ◌-◌, ℕ, List, get_or, Bool, true, false, cond, None, ap, ◌∙◌, sym, subst, arith}
use mir.Val.{bool_byte}
use Rattle.tc_model.specs.Letters.{Letter, IsLetter}
use Rattle.tc_model.specs.Numberings.{predicates_of}
use Rattle.tc_model.specs.PathStates.{State, is_empty_state, is_hit}
use Rattle.tc_model.specs.Sheets.{Path}
use Rattle.tc_model.specs.StateCounts.{PathUse}
use Rattle.tc_rules.specs.Kept.{told}
use Rattle.tc_rules.specs.RulesView.{RulesView, IsStateOf, select_count, select_below, is_hit_of}
use Rattle.tc_rules.specs.States.{Looking}
use Rattle.tc_rules.specs.Tasks.{IsLookAt}
use Rattle.tc_rules.specs.declared.rules.Rules.{Rules}
use Rattle.tc_rules.proofs.Counts.{state_counted}
use Rattle.tc_rows.specs.Triples.{Triple, predicates, moves, looks, number, looking}
use Rattle.tc_rows.specs.Rows.{look, hit_value}
use Rattle.tc_rows.specs.Arithmetic.{look_from, step, hits}
use Rattle.tc_rows.proofs.Append.{look_low}
use Rattle.tc_rows.proofs.States.{state_number, empty_number}
use Rattle.tc_beh.specs.LooksAbove.{found_below, found_above}
use Rattle.tc_beh.specs.Stands.{IsRulesIn}
use Rattle.tc_beh.proofs.Looking.{not_low, is_low}

abbrev pub of_look : Path → PathUse
of_look p = record { path = p; mode = None }

pub one_more : (b : Bool) (n : ℕ) → n ≡ bool_byte b → 1 + n ≡ hit_value b
one_more true n e = omega (arith, e)
one_more false n e = omega (arith, e)

pub one_more_few : (b : Bool) (n : ℕ) → n ≡ bool_byte b → 1 + n ≤ 2
one_more_few true n e = omega (arith, e)
one_more_few false n e = omega (arith, e)

module _ (x : Triple) (r : Rules) (is : IsRulesIn x r) where
  abbrev IsLookIn : ℕ → Looking → Type 0
  IsLookIn k s = IsStateOf (told r) k (of_look s.path) s.state

  pub look_told : (k : ℕ) (s : Looking) → IsLookAt x.rules k s → IsLookIn k s
  look_told k s at = subst (λ (t : RulesView). IsStateOf t k (of_look s.path) s.state) (sym is.told) at

  -- a letter, by what the rules tell
  pub letter_told : (l : Letter) → IsLetter x.symbols (predicates x) l → IsLetter x.symbols (predicates_of (told r).sheet) l
  letter_told l h = subst (λ (t : RulesView). IsLetter x.symbols (predicates_of t.sheet) l) (sym is.told) h

  pub hits_told : (s : Looking) (l : Letter) (b : Bool) → b ≡ is_hit_of x.symbols (told r) (of_look s.path) s.state l → b ≡ hits x s.path s.state l
  hits_told s l b e = e ∙ ap (λ (t : RulesView). is_hit x.symbols (predicates_of t.sheet) s.path s.state l) is.told

  abbrev next : Looking → Letter → State
  next s l = select_below x.symbols (told r) (of_look s.path) s.state l

  step_told : (s : Looking) (l : Letter) → next s l ≡ step x s.path s.state l
  step_told s l = ap (λ (t : RulesView). select_below x.symbols t (of_look s.path) s.state l) is.told

  -- nothing is found from an empty state, and from another what its number tells
  empty_finds : (vs : List ℕ) (p : Path) (s : State) → is_empty_state s ≡ true → look_from x vs (looking p s) ≡ 0
  empty_finds vs p s e =
      let n : ℕ = number x (looking p s) in
      ap (λ b. cond b (look x vs n) 0) (not_low n (select_count x.rules) (empty_number x is.triple (of_look p) s e))

  state_finds : (vs : List ℕ) (p : Path) (s : State) (k : ℕ) → IsStateOf (told r) k (of_look p) s → look_from x vs (looking p s) ≡ get_or vs (k - moves x) 0
  state_finds vs p s k st =
      let at : IsStateOf x.rules k (of_look p) s = subst (λ (t : RulesView). IsStateOf t k (of_look p) s) is.told st in
      let n : ℕ = number x (looking p s) in
      let same : n ≡ k = state_number x is.triple k (of_look p) s at in
      let low : n < select_count x.rules = subst (λ i. i < select_count x.rules) (sym same) (state_counted x.rules k (of_look p) s at) in
      ap (λ b. cond b (look x vs n) 0) (is_low n (select_count x.rules) low) ∙ ap (λ i. get_or vs (i - moves x) 0) same

  pub none_below : (vs : List ℕ) (s : Looking) (l : Letter) → is_empty_state (next s l) ≡ true → 0 ≡ look_from x vs (looking s.path (step x s.path s.state l))
  none_below vs s l e = sym (empty_finds vs s.path (step x s.path s.state l) (subst (λ w. is_empty_state w ≡ true) (step_told s l) e))

  pub some_below : (vs : List ℕ) (s : Looking) (l : Letter) (k : ℕ) → IsStateOf (told r) k (of_look s.path) (next s l) → get_or vs (k - moves x) 0 ≡ look_from x vs (looking s.path (step x s.path s.state l))
  some_below vs s l k st = sym (state_finds vs s.path (step x s.path s.state l) k (subst (λ w. IsStateOf (told r) k (of_look s.path) w) (step_told s l) st))

  pub is_found : (vs : List ℕ) (b : Bool) (s : Looking) (l : Letter) (n : ℕ) → hits x s.path s.state l ≡ true → n ≡ hit_value b → n ≡ found_above x b vs l s
  is_found vs b s l n hit e = e ∙ sym (ap (λ h. cond h (hit_value b) (found_below x vs l s l.kind)) hit)

  pub isnt_found : (vs : List ℕ) (b : Bool) (s : Looking) (l : Letter) (n : ℕ) → hits x s.path s.state l ≡ false → n ≡ found_below x vs l s l.kind → n ≡ found_above x b vs l s
  isnt_found vs b s l n miss e = e ∙ sym (ap (λ h. cond h (hit_value b) (found_below x vs l s l.kind)) miss)

  -- the numbers of looks go on from those of moves
  pub look_place : (k : ℕ) (s : Looking) → IsLookAt x.rules k s → (moves x ≤ k) × (k - moves x < looks x)
  look_place k s at = let (first, last) = look_low x k s at in (first, omega (arith, first, last))
