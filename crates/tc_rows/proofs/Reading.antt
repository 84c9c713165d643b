-- What is read from a row by states is what the states find and put out.
use Rattle.std.proofs.Common.{◌≡◌, ◌⊎◌, inl, inr, ℕ, zero, suc, ◌+◌, ◌<◌, ◌≤◌, List, [], ◌∷◌, ◌++◌, true, false, cond, ap, ◌∙◌, sym, subst, nat_lt, length, map, take, Some, None, slice_get, Contains, arith}
use Rattle.std.proofs.lemmas.Bool.{lt-ltb, le-ltb}
use Rattle.std.proofs.lemmas.Option.{same_Some}
use Rattle.tc_model.specs.Trees.{Trees}
use Rattle.tc_model.specs.Sheets.{Path}
use Rattle.tc_model.specs.Outcomes.{Outcome, nothing}
use Rattle.tc_model.specs.Machine as m
use Rattle.tc_model.specs.Machine.{CallFreeJob, first_hit}
use Rattle.tc_model.specs.PathStates.{is_empty_state, first_state}
use Rattle.tc_model.specs.Numberings.{Move, same_move, moves_of, looks_of}
use Rattle.tc_model.specs.SameTests.{same_path}
use Rattle.tc_model.specs.Numbered.{number_of}
use Rattle.tc_alpha.proofs.Members.{has_from_contains}
use Rattle.tc_rules.specs.Graphs.{Graph}
use Rattle.tc_rules.specs.States.{Going, Looking}
use Rattle.tc_rules.proofs.SelectStates.{count_cons}
use Rattle.tc_rules.specs.RulesView.{IsStateOf, select_count, count_states, ancestor}
use Rattle.tc_rules.proofs.EmptyStates.{hit_none, next_none}
use Rattle.tc_rules.proofs.Sameness.{path_same, path_self, move_same, move_self, found_by_number}
use Rattle.tc_rules.specs.Tasks.{IsTaskOf, IsLookAt}
use Rattle.tc_rows.proofs.Numbers.{of_move, of_look}
use Rattle.tc_rows.specs.Triples.{Triple, IsTriple, sheet, predicates, machine, ancestors, moves, number, moving, looking}
use Rattle.tc_rows.specs.PairSets.{HaveSamePairs, listed}
use Rattle.tc_rows.specs.Rows.{entry, look, value_of, led, AreEntriesOf, AreLooksOf}
use Rattle.tc_rows.specs.Bodies.{stay}
use Rattle.tc_rows.specs.Arithmetic.{look_from, pairs_from}
use Rattle.tc_rows.proofs.PairLaws.{same_back, same_on, chosen_first, chosen_second}
use Rattle.tc_rules.proofs.Counts.{state_counted, move_counted}
use Rattle.tc_model.proofs.TreesInTurn.{first_of_none, outputs_of_none}
use Rattle.tc_rows.proofs.Leading.{led_none}
use Rattle.tc_rows.proofs.States.{state_number, empty_number, begun}

front_at : {X : Type 0} (xs ys : List X) (i : ℕ) (y : X) → slice_get xs i ≡ Some y → slice_get (xs ++ ys) i ≡ Some y
front_at [] ys i y e = absurd (cc)
front_at (x ∷ xs) ys zero y e = e
front_at (x ∷ xs) ys (suc i) y e = front_at xs ys i y e

back_at : {X : Type 0} (xs ys : List X) (i : ℕ) → slice_get (xs ++ ys) (length xs + i) ≡ slice_get ys i
back_at [] ys i = let e : 0 + i ≡ i = omega arith in ap (slice_get ys) e
back_at (x ∷ xs) ys i = let e : length (x ∷ xs) + i ≡ suc (length xs + i) = omega arith in ap (slice_get ((x ∷ xs) ++ ys)) e ∙ back_at xs ys i

map_at : {X Y : Type 0} (f : X → Y) (xs : List X) (i : ℕ) (y : X) → slice_get xs i ≡ Some y → slice_get (map f xs) i ≡ Some (f y)
map_at f [] i y e = absurd (cc)
map_at f (x ∷ xs) zero y e = ap Some (ap f (same_Some x y e))
map_at f (x ∷ xs) (suc i) y e = map_at f xs i y e

taken_few : (gs : List Graph) (n : ℕ) → count_states (take n gs) ≤ count_states gs
taken_few [] zero = omega arith
taken_few [] (suc n) = omega arith
taken_few (g ∷ gs) zero = omega arith
taken_few (g ∷ gs) (suc n) = omega (arith, taken_few gs n, count_cons g (take n gs), count_cons g gs)

module _ (x : Triple) (is : IsTriple x) where
  -- the first state of a move of the stylesheet, and of a look
  pub move_begins : (p : Path) (mode : ℕ) → Contains (moves_of (sheet x)) (record { path = p; mode = mode })
      → (is_empty_state (first_state p) ≡ true) ⊎ ((n : ℕ) × IsStateOf x.rules n (record { path = p; mode = Some mode }) (first_state p))
  move_begins p mode c =
      let w : Move = record { path = p; mode = mode } in
      begun x is (number_of same_move w (moves_of (sheet x))) (of_move w)
      (front_at (map of_move (moves_of (sheet x))) (map of_look (looks_of (sheet x))) (number_of same_move w (moves_of (sheet x))) (of_move w)
      (map_at of_move (moves_of (sheet x)) (number_of same_move w (moves_of (sheet x))) w (found_by_number same_move move_same move_self (moves_of (sheet x)) w (has_from_contains (moves_of (sheet x)) w c))))

  pub look_begins : (p : Path) → Contains (looks_of (sheet x)) p
      → (is_empty_state (first_state p) ≡ true) ⊎ ((n : ℕ) × IsStateOf x.rules n (record { path = p; mode = None }) (first_state p))
  look_begins p c =
      begun x is (length (map of_move (moves_of (sheet x))) + number_of same_path p (looks_of (sheet x))) (of_look p)
      (back_at (map of_move (moves_of (sheet x))) (map of_look (looks_of (sheet x))) (number_of same_path p (looks_of (sheet x)))
      ∙ map_at of_look (looks_of (sheet x)) (number_of same_path p (looks_of (sheet x))) p (found_by_number same_path path_same path_self (looks_of (sheet x)) p (has_from_contains (looks_of (sheet x)) p c)))

  pub fewer_moves : moves x ≤ select_count x.rules
  fewer_moves = taken_few x.rules.selects (length (moves_of (sheet x)))

  -- what a look finds
  pub look_read : (h : Trees) (vs : List ℕ) → AreLooksOf x h vs → (s : Looking)
      → (is_empty_state s.state ≡ true) ⊎ ((n : ℕ) × IsLookAt x.rules n s) → look_from x vs (looking s.path s.state) ≡ value_of (first_hit (machine x) h s)
  look_read h vs are s (inl e) =
      let n = number x (looking s.path s.state) in
      let past : nat_lt n (select_count x.rules) ≡ false = le-ltb n (select_count x.rules) (omega (arith, empty_number x is (of_look s.path) s.state e)) in
      let nothing_found : first_hit (machine x) h s ≡ None =
      first_of_none (machine x) (λ (u : Looking). is_empty_state u.state ≡ true) (λ u l i. hit_none x.symbols (predicates x) u.path u.state l i) (λ u l i. next_none x.symbols (predicates x) u.path u.state l i) h s e
      in
      ap (λ b. cond b (look x vs n) 0) past ∙ sym (ap value_of nothing_found)
  look_read h vs are s (inr (k, at)) =
      let n = number x (looking s.path s.state) in
      let same : n ≡ k = state_number x is k (of_look s.path) s.state at in
      let low : nat_lt n (select_count x.rules) ≡ true = lt-ltb n (select_count x.rules) (omega (arith, same, state_counted x.rules k (of_look s.path) s.state at)) in
      ap (λ b. cond b (look x vs n) 0) low ∙ (ap (look x vs) same ∙ are k s at)

  -- what is put out from a state of a move
  pub pairs_read : (h : Trees) (es : List (List (ℕ × ℕ))) → AreEntriesOf x h es → (q : ℕ) → q < ancestors x → (mode : ℕ) (g : Going) → IsTaskOf (sheet x) mode g.task
      → (is_empty_state g.state ≡ true) ⊎ ((n : ℕ) × IsStateOf x.rules n (record { path = g.path; mode = Some mode }) g.state)
      → HaveSamePairs (led x (m.outputs (machine x) h g.task (ancestor x.rules q) g).out) (pairs_from x es q (moving mode g.path g.state))
  pairs_read h es are q low mode g task (inl e) =
      let n = number x (moving mode g.path g.state) in
      let past : nat_lt n (moves x) ≡ false = le-ltb n (moves x) (omega (arith, fewer_moves, empty_number x is (record { path = g.path; mode = Some mode }) g.state e)) in
      let nothing_out : m.outputs (machine x) h g.task (ancestor x.rules q) g ≡ nothing =
      outputs_of_none (machine x) (λ (u : Going). is_empty_state u.state ≡ true) (λ u l i. hit_none x.symbols (predicates x) u.path u.state l i) (λ u l i. next_none x.symbols (predicates x) u.path u.state l i) h g.task (ancestor x.rules q) g e
      in
      same_on _ (stay x) _ (subst (λ (w : Outcome). HaveSamePairs (led x w.out) (stay x)) (sym nothing_out) (led_none x is))
      (same_back _ _ (chosen_second (nat_lt n (moves x)) (listed (entry x es q n)) (stay x) past))
  pairs_read h es are q low mode g task (inr (k, at)) =
      let n = number x (moving mode g.path g.state) in
      let same : n ≡ k = state_number x is k (record { path = g.path; mode = Some mode }) g.state at in
      let within : nat_lt n (moves x) ≡ true = lt-ltb n (moves x) (omega (arith, same, move_counted x.rules k mode g.path g.state at)) in
      same_on _ (listed (entry x es q n)) _
      (subst (λ w. HaveSamePairs (led x (m.outputs (machine x) h g.task (ancestor x.rules q) g).out) (listed (entry x es q w))) (sym same)
      (same_back _ _ (are q k g low record { mode = mode; state = at; task = task })))
      (same_back _ _ (chosen_first (nat_lt n (moves x)) (listed (entry x es q n)) (stay x) within))
