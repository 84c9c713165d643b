-- Where the states of moves, of looks and of rules' patterns begin.
use Rattle.std.proofs.Common.{◌≡◌, ◌⊎◌, inl, inr, ℕ, zero, suc, ◌+◌, ◌^◌, ◌<◌, ◌≤◌, ◌==◌, List, [], ◌∷◌, ◌++◌, Bool, true, false, not, refl, ap, sym, ◌∙◌, subst, map, Option, Some, None, slice_get, length, take, drop, filter, get_or, Contains, MatchOption, arith, rules, if◌then◌else◌}
use Rattle.std.proofs.lemmas.Bool.{true≢false}
use Rattle.std.proofs.lemmas.List.{length-map, length-append}
use Rattle.std.proofs.lemmas.Option.{get_or_from_slice_get, slice_get-get_or}
use Rattle.tc_alpha.proofs.Members.{Has, has_from_contains, every_member}
use Rattle.tc_model.specs.Sheets as s
use Rattle.tc_model.specs.Sheets.{Steps, no_step, step, Path, no_alternative, alternative}
use Rattle.tc_model.specs.Views as see
use Rattle.tc_model.specs.Symbols.{Mention, symbol_count}
use Rattle.tc_model.specs.Trees.{none}
use Rattle.tc_model.specs.Chains.{top}
use Rattle.tc_model.specs.Paths as paths
use Rattle.tc_model.specs.RuleStates.{IsRuleOf, fits_below}
use Rattle.std.specs.Borrow.{Bor}
use Rattle.tc_model.specs.declared.sheet.Instr.{Instr}
use Rattle.tc_rules.specs.declared.graph.Graph.{Graph as GraphOf}
use Rattle.tc_rules.specs.Picked.{best_of, is_root_at}
use Rattle.tc_rules.specs.Steps.{ends_at}
use Rattle.tc_rules.proofs.BestOf.{root_best, below_best}
use Rattle.tc_model.specs.Letters.{Letter, of_symbol, IsLetter}
use Rattle.tc_model.specs.Numbered.{number_of}
use Rattle.tc_model.specs.SameTests.{same_path}
use Rattle.tc_model.specs.Numberings.{Move, same_move, moves_of, looks_of, predicates_of, one_round, rounds, AreReached, letters_of_elements}
use Rattle.tc_model.specs.PathStates.{State, first_state, next_state, is_empty_state, same_state, path_of_rules}
use Rattle.tc_model.specs.WellFormed.{IsPath, IsRule, IsMatchPattern, ForEach, eaches_of}
use Rattle.tc_rules.specs.Graphs.{Graph, IsGraphOf, fits_at, next_at, path_fits, LeadsTo}
use Rattle.tc_rules.specs.Jobs.{IsJob}
use Rattle.tc_rules.proofs.JobsOf.{job_at}
use Rattle.tc_rules.specs.Kept.{told, IsRulesOf, numbers_in_mode}
use Rattle.tc_rules.specs.Rows.{graph, graphs}
use Rattle.tc_rules.specs.Views as seen
use Rattle.tc_rules.specs.Selects.{first_from}
use Rattle.tc_rules.specs.RulesView.{RulesView, IsStateOf, count_states, select_count, move_count, ancestor, ancestor_below, select_below}
use Rattle.tc_model.specs.StateCounts.{PathUse, blocks_of, some_item, all_count}
use Rattle.tc_rules.specs.declared.rules.Rules.{Rules}
use Rattle.tc_rules.specs.declared.walk.Move.{Move as MoveOf}
use Rattle.tc_rules.proofs.Answered.{mapped_at, above_answered, step_answered, start_answered, select_is}
use Rattle.tc_rules.proofs.Lawful.{MovesPath, moves_lawful, looks_lawful}
use Rattle.tc_rules.proofs.Numbering.{IsOnce, put_is, round_puts, leads_of}
use Rattle.tc_rules.proofs.Queries.{within, shaped, goes_on, in_range, no_item_left}
use Rattle.tc_rules.proofs.Sameness.{move_same, move_self, path_same, path_self, found_by_number}
use Rattle.tc_rules.proofs.SelectStates.{count_cons, round_once, start_once}
use Rattle.tc_rules.specs.declared.rules.Select.{Select}
use Rattle.tc_model.specs.Numbered.{each_once_after}

some_is : {X : Type 0} {a b : X} → Some a ≡ Some b → a ≡ b
some_is e = cc

count_taken : (gs : List Graph) (n : ℕ) → count_states (take n gs) ≤ count_states gs
count_taken [] zero = omega arith
count_taken [] (suc n) = omega arith
count_taken (g ∷ gs) zero = omega arith
count_taken (g ∷ gs) (suc n) = omega (arith, count_taken gs n, count_cons g (take n gs), count_cons g gs)

count_rises : (gs : List Graph) (n m : ℕ) → n ≤ m → count_states (take n gs) ≤ count_states (take m gs)
count_rises [] zero m l = omega arith
count_rises [] (suc n) zero l = absurd (omega arith)
count_rises [] (suc n) (suc m) l = omega arith
count_rises (g ∷ gs) zero m l = omega arith
count_rises (g ∷ gs) (suc n) zero l = absurd (omega arith)
count_rises (g ∷ gs) (suc n) (suc m) l = omega (arith, count_rises gs n m (omega arith), count_cons g (take n gs), count_cons g (take m gs))

count_all : (gs : List Graph) (n : ℕ) → length gs ≤ n → count_states (take n gs) ≡ count_states gs
count_all [] zero l = refl
count_all [] (suc n) l = refl
count_all (g ∷ gs) zero l = absurd (omega arith)
count_all (g ∷ gs) (suc n) l = omega (arith, count_all gs n (omega arith), count_cons g (take n gs), count_cons g gs)

below_or_not : (j k : ℕ) → (j < k) ⊎ (k ≤ j)
below_or_not j zero = inr (omega arith)
below_or_not zero (suc k) = inl (omega arith)
below_or_not (suc j) (suc k) = elim (below_or_not j k) [ inl a ↦ inl (omega (arith, a)) | inr b ↦ inr (omega (arith, b)) ]

none_left : {X : Type 0} (xs : List X) (i : ℕ) → length xs ≤ i → drop i xs ≡ []
none_left [] zero l = refl
none_left [] (suc i) l = refl
none_left (x ∷ xs) zero l = absurd (omega arith)
none_left (x ∷ xs) (suc i) l = none_left xs i (omega arith)

same_place : {X : Type 0} (xs : List X) (i j : ℕ) → i ≡ j → slice_get xs i ≡ slice_get xs j
same_place xs i j e = ap (slice_get xs) e

front_at : {X : Type 0} (xs ys : List X) (i : ℕ) (x : X) → slice_get xs i ≡ Some x → slice_get (xs ++ ys) i ≡ Some x
front_at [] ys i x e = absurd (cc)
front_at (y ∷ xs) ys zero x e = e
front_at (y ∷ xs) ys (suc i) x e = front_at xs ys i x e

back_at : {X : Type 0} (xs ys : List X) (n i : ℕ) → n ≡ length xs → slice_get (xs ++ ys) (n + i) ≡ slice_get ys i
back_at [] ys n i e = same_place ys (n + i) i (omega (arith, e))
back_at (x ∷ xs) ys zero i e = absurd (omega (arith, e))
back_at (x ∷ xs) ys (suc n) i e = same_place (x ∷ (xs ++ ys)) (suc n + i) (suc (n + i)) (omega arith) ∙ back_at xs ys n i (omega (arith, e))

at_place : {X : Type 0} (xs : List X) (i : ℕ) → i < length xs → (x : X) × (slice_get xs i ≡ Some x)
at_place [] i l = absurd (omega arith)
at_place (x ∷ xs) zero l = (x, refl)
at_place (x ∷ xs) (suc i) l = at_place xs i (omega arith)

not_zero : (k : ℕ) → 0 < k → (0 == k) ≡ false
not_zero k l = search (rules, arith)

abbrev move_block : Move → PathUse
move_block m = record { path = m.path; mode = Some m.mode }

abbrev look_block : Path → PathUse
look_block p = record { path = p; mode = None }

-- the first of the states that are reached
module _ (counts : State → Bool) (next : State → Letter → State) (letters : List Letter) where
  abbrev Begins : State → List State → Type 0
  Begins x xs = slice_get xs 0 ≡ Some x

  begins_front : (x : State) (xs ys : List State) → Begins x xs → Begins x (xs ++ ys)
  begins_front x xs ys e = front_at xs ys 0 x e

  round_begins : (x : State) (xs : List State) → IsOnce same_state xs → Begins x xs → Begins x (one_round counts next letters xs)
  round_begins x xs o e =
      subst (Begins x) (sym (round_puts counts next letters xs o ∙ put_is same_state xs (leads_of counts next letters xs))) (begins_front x xs (each_once_after same_state xs (leads_of counts next letters xs)) e)

  rounds_begin : (n : ℕ) (x : State) (xs : List State) → IsOnce same_state xs → Begins x xs → Begins x (rounds counts next letters n xs)
  rounds_begin zero x xs o e = e
  rounds_begin (suc n) x xs o e = rounds_begin n x (one_round counts next letters xs) (round_once counts next letters xs) (round_begins x xs o e)

  module _ (first : State) (states : List State) (h : AreReached counts next letters first states) where
    start_begins : (b : Bool) → b ≡ true → Begins first (if b then (first ∷ []) else [])
    start_begins true e = refl
    start_begins false e = absurd (true≢false (sym e))

    pub first_there : counts first ≡ true → Begins first states
    first_there e =
        subst (Begins first) (sym h.found.1)
        (rounds_begin h.found.0 first (filter counts (first ∷ [])) (start_once counts next letters first) (start_begins (counts first) e))

    starts_empty : (b : Bool) → b ≡ false → (if b then (first ∷ []) else []) ≡ []
    starts_empty true e = absurd (true≢false e)
    starts_empty false e = refl

    none_lead : (n : ℕ) → rounds counts next letters n [] ≡ []
    none_lead zero = refl
    none_lead (suc n) = none_lead n

    pub first_absent : counts first ≡ false → states ≡ []
    first_absent e = h.found.1 ∙ (ap (rounds counts next letters h.found.0) (starts_empty (counts first) e) ∙ none_lead h.found.0)

-- the first state of a path with an alternative is not empty
first_left : (p : Path) → IsPath p → is_empty_state (first_state p) ≡ true → p ≡ no_alternative
first_left no_alternative h e = refl
first_left (alternative no_step p) h e = absurd (h.0 refl)
first_left (alternative (step d t w ss) p) h e = absurd (true≢false (sym e))

no_first : (p : Path) → p ≡ no_alternative → is_empty_state (first_state p) ≡ true
no_first p e = ap (λ w. is_empty_state (first_state w)) e

not_true : (b : Bool) → not b ≡ false → b ≡ true
not_true true e = refl
not_true false e = absurd (true≢false e)

not_false : (b : Bool) → not b ≡ true → b ≡ false
not_false true e = absurd (true≢false (sym e))
not_false false e = refl

module _ (symbols : List Mention) (r : Rules) (h : IsRulesOf symbols r) where
  abbrev T : RulesView
  T = told r

  moves_length : length r.moves.items ≡ length (moves_of T.sheet)
  moves_length = sym (length-map r.moves.items (seen.move r.sheet.modes)) ∙ ap length h.moves

  graphs_length : length r.graphs.items ≡ length (moves_of T.sheet) + length (looks_of T.sheet)
  graphs_length =
      sym (length-map r.graphs.items graph)
      ∙ (h.tells.all_selects ∙ (length-append (map move_block (moves_of T.sheet)) (map look_block (looks_of T.sheet)) ∙ omega (arith, length-map (moves_of T.sheet) move_block, length-map (looks_of T.sheet) look_block)))

  start_is : (i : ℕ) → i ≤ length r.graphs.items → get_or r.starts.items i 0 ≡ count_states (take i T.selects)
  start_is i l = get_or_from_slice_get r.starts.items i (count_states (take i T.selects)) 0 (h.starts i (omega (arith, l)))

  pub all_told : get_or r.starts.items (length r.graphs.items) 0 ≡ select_count T
  all_told = start_is (length r.graphs.items) (omega arith) ∙ count_all T.selects (length r.graphs.items) (omega (arith, length-map r.graphs.items graph))

  pub moves_told : (n : ℕ) → n ≡ length r.moves.items → get_or r.starts.items n 0 ≡ move_count T
  moves_told n e = ap (λ i. get_or r.starts.items i 0) (e ∙ moves_length) ∙ start_is (length (moves_of T.sheet)) (omega (arith, graphs_length))

  pub fewer_moves : move_count T ≤ select_count T
  fewer_moves = count_taken T.selects (length (moves_of T.sheet))

  pub ancestors_begin : slice_get T.ancestors.states 0 ≡ Some (first_state (path_of_rules T.sheet.rules))
  ancestors_begin =
      first_there all_count (next_state symbols (predicates_of T.sheet) (path_of_rules T.sheet.rules)) (letters_of_elements symbols (predicates_of T.sheet)) (first_state (path_of_rules T.sheet.rules)) T.ancestors.states h.tells.ancestors.states refl

  -- the first state of a block
  first_of_block : (i : ℕ) (b : PathUse) → IsPath b.path → slice_get (blocks_of T.sheet) i ≡ Some b → MatchOption (first_from T.selects r.starts.items i) (b.path ≡ no_alternative) (λ k. IsStateOf T k b (first_state b.path))
  first_of_block i b lawful e = by (some_item (first_state b.path)) refl
    where
      found : (g : Graph) × (slice_get T.selects i ≡ Some g) × IsGraphOf symbols (predicates_of T.sheet) some_item b.path g
      found = h.tells.selects i b e

      states_here : get_or (map (λ (g : Graph). g.states) T.selects) i [] ≡ found.0.states
      states_here = get_or_from_slice_get (map (λ (g : Graph). g.states) T.selects) i found.0.states [] (mapped_at (λ (g : Graph). g.states) T.selects i found.0 found.1)

      inside : i ≤ length r.graphs.items
      inside = omega (arith, within T.selects i found.0 found.1, length-map r.graphs.items graph)

      Answer : Option ℕ → Type 0
      Answer o = MatchOption o (b.path ≡ no_alternative) (λ k. IsStateOf T k b (first_state b.path))

      none_here : found.0.states ≡ [] → first_from T.selects r.starts.items i ≡ None
      none_here f = ap (λ (w : List State). if 0 == length w then None else Some (get_or r.starts.items i 0)) (states_here ∙ f)

      some_here : (n : ℕ) → length found.0.states ≡ suc n → first_from T.selects r.starts.items i ≡ Some (count_states (take i T.selects))
      some_here n f =
          ap (λ (w : List State). if 0 == length w then None else Some (get_or r.starts.items i 0)) states_here
          ∙ (ap (λ (k : ℕ). if 0 == k then None else Some (get_or r.starts.items i 0)) f ∙ (ap (λ (b : Bool). if b then None else Some (get_or r.starts.items i 0)) (not_zero (suc n) (omega arith)) ∙ ap Some (start_is i inside)))

      not_none : (xs : List State) (x : State) → slice_get xs 0 ≡ Some x → (n : ℕ) × (length xs ≡ suc n)
      not_none [] x f = absurd (cc)
      not_none (y ∷ xs) x f = (length xs, refl)

      by : (d : Bool) → some_item (first_state b.path) ≡ d → Answer (first_from T.selects r.starts.items i)
      by true f =
          let there : slice_get found.0.states 0 ≡ Some (first_state b.path) =
          first_there some_item (next_state symbols (predicates_of T.sheet) b.path) (letters_of_elements symbols (predicates_of T.sheet)) (first_state b.path) found.0.states found.2.states f
          in
          let size = not_none found.0.states (first_state b.path) there in
          subst Answer (sym (some_here size.0 size.1)) (record { place = i; block = e; graph = found.0; graph_is = found.1; number = 0; state = there; number_is = omega arith })
      by false f =
          let absent : found.0.states ≡ [] =
          first_absent some_item (next_state symbols (predicates_of T.sheet) b.path) (letters_of_elements symbols (predicates_of T.sheet)) (first_state b.path) found.0.states found.2.states f
          in
          subst Answer (sym (none_here absent)) (first_left b.path lawful (not_true (is_empty_state (first_state b.path)) f))

  -- of a move of the stylesheet
  pub move_begins_at : (m : Move) (i : ℕ) → Contains (moves_of T.sheet) m → slice_get (moves_of T.sheet) i ≡ Some m
      → MatchOption (first_from T.selects r.starts.items i) (m.path ≡ no_alternative) (λ k. IsStateOf T k (record { path = m.path; mode = Some m.mode }) (first_state m.path))
  move_begins_at m i c at =
      let there : Has (moves_of T.sheet) m = has_from_contains (moves_of T.sheet) m c in
      let lawful : IsPath m.path = every_member MovesPath (moves_of T.sheet) m (moves_lawful T.sheet h.tells.well_formed) there in
      first_of_block i (move_block m) lawful (front_at (map move_block (moves_of T.sheet)) (map look_block (looks_of T.sheet)) i (move_block m) (mapped_at move_block (moves_of T.sheet) i m at))

  -- of a look
  pub look_begins_at : (p : Path) (n i : ℕ) → Contains (looks_of T.sheet) p → n ≡ length r.moves.items → slice_get (looks_of T.sheet) i ≡ Some p
      → MatchOption (first_from T.selects r.starts.items (n + i)) (p ≡ no_alternative) (λ k. IsStateOf T k (record { path = p; mode = None }) (first_state p))
  look_begins_at p n i c f at =
      let there : Has (looks_of T.sheet) p = has_from_contains (looks_of T.sheet) p c in
      let lawful : IsPath p = every_member IsPath (looks_of T.sheet) p (looks_lawful T.sheet h.tells.well_formed) there in
      let size : n ≡ length (map move_block (moves_of T.sheet)) = omega (arith, f, moves_length, length-map (moves_of T.sheet) move_block) in
      first_of_block (n + i) (look_block p) lawful (back_at (map move_block (moves_of T.sheet)) (map look_block (looks_of T.sheet)) n i size ∙ mapped_at look_block (looks_of T.sheet) i p at)

  -- by its number
  pub move_begins : (m : Move) (i : ℕ) → Contains (moves_of T.sheet) m → i ≡ number_of same_move m (moves_of T.sheet)
      → MatchOption (first_from T.selects r.starts.items i) (m.path ≡ no_alternative) (λ k. IsStateOf T k (record { path = m.path; mode = Some m.mode }) (first_state m.path))
  move_begins m i c e =
      move_begins_at m i c (ap (slice_get (moves_of T.sheet)) e ∙ found_by_number same_move move_same move_self (moves_of T.sheet) m (has_from_contains (moves_of T.sheet) m c))

  pub look_begins : (p : Path) (n i : ℕ) → Contains (looks_of T.sheet) p → n ≡ length r.moves.items → i ≡ number_of same_path p (looks_of T.sheet)
      → MatchOption (first_from T.selects r.starts.items (n + i)) (p ≡ no_alternative) (λ k. IsStateOf T k (record { path = p; mode = None }) (first_state p))
  look_begins p n i c f e =
      look_begins_at p n i c f (ap (slice_get (looks_of T.sheet)) e ∙ found_by_number same_path path_same path_self (looks_of T.sheet) p (has_from_contains (looks_of T.sheet) p c))

  pub move_first_told : (m : Move) (i : ℕ) (o : Option ℕ) → Contains (moves_of T.sheet) m → (Contains (seen.moves r.sheet.modes r.moves.items) m → slice_get (seen.moves r.sheet.modes r.moves.items) i ≡ Some m) → o ≡ first_from T.selects r.starts.items i
      → MatchOption o (m.path ≡ no_alternative) (λ k. IsStateOf T k (record { path = m.path; mode = Some m.mode }) (first_state m.path))
  move_first_told m i o c e f =
      subst (λ w. MatchOption w (m.path ≡ no_alternative) (λ k. IsStateOf T k (record { path = m.path; mode = Some m.mode }) (first_state m.path))) (sym f) (move_begins_at m i c (subst (λ ms. Contains ms m → slice_get ms i ≡ Some m) h.moves e c))

  pub look_first_told : (p : Path) (n i : ℕ) (o : Option ℕ) → Contains (looks_of T.sheet) p → n ≡ length r.moves.items → (Contains (seen.looks r.looks.items) p → slice_get (seen.looks r.looks.items) i ≡ Some p) → o ≡ first_from T.selects r.starts.items (n + i)
      → MatchOption o (p ≡ no_alternative) (λ k. IsStateOf T k (record { path = p; mode = None }) (first_state p))
  look_first_told p n i o c l e f =
      subst (λ w. MatchOption w (p ≡ no_alternative) (λ k. IsStateOf T k (record { path = p; mode = None }) (first_state p))) (sym f) (look_begins_at p n i c l (subst (λ ps. Contains ps p → slice_get ps i ≡ Some p) h.looks e c))

  -- the mode of a move's state
  block_of_move : (ms : List Move) (bs : List PathUse) (i : ℕ) (b : PathUse) → i < length ms → slice_get (map move_block ms ++ bs) i ≡ Some b → (m : Move) × (slice_get ms i ≡ Some m) × (b.mode ≡ Some m.mode)
  block_of_move [] bs i b l e = absurd (omega arith)
  block_of_move (m ∷ ms) bs zero b l e = (m, refl, ap (λ (w : PathUse). w.mode) (some_is (sym e)))
  block_of_move (m ∷ ms) bs (suc i) b l e = block_of_move ms bs i b (omega arith) e

  module _ (k : ℕ) (b : PathUse) (x : State) (st : IsStateOf T k b x) (few : k < move_count T) where
    pub place_of_move : st.place < length (moves_of T.sheet)
    place_of_move = elim (below_or_not st.place (length (moves_of T.sheet))) [ inl a ↦ a | inr l ↦ absurd (omega (arith, few, st.number_is, count_rises T.selects (length (moves_of T.sheet)) st.place l)) ]

    pub mode_told : (m : MoveOf) → slice_get r.moves.items st.place ≡ Some m → b.mode ≡ Some (seen.mode_of T.sheet.modes m.job)
    mode_told m e =
        let found = block_of_move (moves_of T.sheet) (map look_block (looks_of T.sheet)) st.place b place_of_move st.block in
        let here : slice_get (moves_of T.sheet) st.place ≡ Some (seen.move r.sheet.modes m) = ap (λ w. slice_get w st.place) (sym h.moves) ∙ mapped_at (seen.move r.sheet.modes) r.moves.items st.place m e in
        found.2 ∙ ap (λ (w : Move). Some w.mode) (some_is (sym found.1 ∙ here))

    pub mode_at : (y : Select) (m : MoveOf) → slice_get r.selects.items k ≡ Some y → slice_get r.moves.items y.graph ≡ Some m → b.mode ≡ Some (seen.mode_of T.sheet.modes m.job)
    mode_at y m e f = mode_told m (ap (slice_get r.moves.items) (sym (select_is symbols r h k b x st y e).0) ∙ f)

    pub job_told : (y : Select) (m : MoveOf) → slice_get r.moves.items y.graph ≡ Some m → IsJob T.sheet m.job
    job_told y m e =
        subst (λ (w : MoveOf). IsJob T.sheet w.job) (get_or_from_slice_get r.moves.items y.graph m m e) (job_at T.sheet r.moves.items y.graph m (within r.moves.items y.graph m e) h.jobs)

    some_none : (m : MoveOf) → Some m ≡ None → ⊥
    some_none m e = cc

    pub mode_never : (y : Select) → slice_get r.selects.items k ≡ Some y → slice_get r.moves.items y.graph ≡ None → ⊥
    mode_never y e f =
        let there = at_place r.moves.items st.place (omega (arith, place_of_move, moves_length)) in
        some_none there.0 (sym there.1 ∙ (ap (slice_get r.moves.items) (sym (select_is symbols r h k b x st y e).0) ∙ f))

  -- the rules of a mode
  pub rules_told : (m : ℕ) → m < r.sheet.modes → get_or (map (λ w. w.items) r.modes.items) m [] ≡ numbers_in_mode m 0 T.sheet.rules
  rules_told m l = get_or_from_slice_get (map (λ w. w.items) r.modes.items) m (numbers_in_mode m 0 T.sheet.rules) [] (h.modes m l)

  pub pattern_told : (i : ℕ) (q : s.Rule) → slice_get T.sheet.rules i ≡ Some q → IsMatchPattern q.pattern
  pattern_told i q e =
      let rule : IsRule T.sheet (get_or T.sheet.rules i q) = h.tells.well_formed.rules i q (within T.sheet.rules i q e) in
      subst (λ (w : s.Rule). IsMatchPattern w.pattern) (get_or_from_slice_get T.sheet.rules i q q e) rule.pattern

  pub ancestor_at : (q : ℕ) → q < length T.ancestors.states → slice_get T.ancestors.states q ≡ Some (ancestor T q)
  ancestor_at q l = slice_get-get_or T.ancestors.states q [] l

  pub looks_told : (a m d : ℕ) → a ≡ get_or r.starts.items (length r.graphs.items) 0 → m ≡ move_count T → (m ≤ a → d + m ≡ a) → d + move_count T ≡ select_count T
  looks_told a m d e f g =
      let all : a ≡ select_count T = e ∙ all_told in
      let whole : d + m ≡ a = g (omega (arith, all, f, fewer_moves)) in
      omega (arith, whole, all, f)

  pub body_told : (f : ForEach) (each : ℕ) (b : Bor (List Instr)) → each < length T.eaches → b ≡ get_or r.eaches.items each b → Contains (eaches_of T.sheet) f → f.number ≡ each → f.body ≡ see.body b.now
  body_told f each b l e k n =
      let inside : each < length r.eaches.items = omega (arith, l, length-map r.eaches.items (λ (b : Bor (List Instr)). see.body b.now)) in
      let here : slice_get T.eaches each ≡ Some (see.body b.now) = mapped_at (λ (b : Bor (List Instr)). see.body b.now) r.eaches.items each b (slice_get-get_or r.eaches.items each b inside ∙ ap Some (sym e)) in
      some_is (sym (h.tells.eaches_are f k) ∙ (ap (slice_get T.eaches) n ∙ here))

  -- the rule of the root, and that of a node below a state
  pub root_told : (m : ℕ) → m < r.sheet.modes → (ns : List ℕ) → ns ≡ get_or (map (λ w. w.items) r.modes.items) m [] → (o : Option ℕ) (i : ℕ) → length ns ≤ i
      → best_of T.sheet.rules (is_root_at T.sheet.rules) o (drop i ns) ≡ best_of T.sheet.rules (is_root_at T.sheet.rules) None ns → IsRuleOf T.sheet.rules m (λ i q. paths.fits q.pattern (top none)) o
  root_told m l ns e o i d k =
      subst (IsRuleOf T.sheet.rules m (λ i q. paths.fits q.pattern (top none)))
      (sym (ap (best_of T.sheet.rules (is_root_at T.sheet.rules) None) (e ∙ rules_told m l)) ∙ (sym k ∙ ap (best_of T.sheet.rules (is_root_at T.sheet.rules) o) (none_left ns i d)))
      (root_best T.sheet.rules m pattern_told)

  pub below_told : (m q : ℕ) (l : Letter) → m < r.sheet.modes → q < length T.ancestors.states → IsLetter symbols (predicates_of T.sheet) l → (ns : List ℕ) → ns ≡ get_or (map (λ w. w.items) r.modes.items) m [] → (o : Option ℕ) (i : ℕ) → length ns ≤ i
      → ((x fit : State) → slice_get T.ancestors.states q ≡ Some x → fits_at T.ancestors l ≡ Some fit → best_of T.sheet.rules (ends_at x fit) o (drop i ns) ≡ best_of T.sheet.rules (ends_at x fit) None ns)
      → IsRuleOf T.sheet.rules m (fits_below symbols (predicates_of T.sheet) (ancestor T q) l) o
  below_told m q l a b is ns e o i d k =
      let path = path_of_rules T.sheet.rules in
      let fit = path_fits symbols (predicates_of T.sheet) path l in
      let at = ancestor_at q b in
      let says = k (ancestor T q) fit at (h.tells.ancestors.fits l is) in
      subst (IsRuleOf T.sheet.rules m (fits_below symbols (predicates_of T.sheet) (ancestor T q) l))
      (sym (ap (best_of T.sheet.rules (ends_at (ancestor T q) fit) None) (e ∙ rules_told m a)) ∙ (sym says ∙ ap (best_of T.sheet.rules (ends_at (ancestor T q) fit) o) (none_left ns i d)))
      (below_best symbols (predicates_of T.sheet) l T.sheet.rules m (ancestor T q) (shaped symbols (predicates_of T.sheet) all_count path T.ancestors h.tells.ancestors q (ancestor T q) at))

  -- where ancestor states and select states lead
  pub above_stepped : (q s marks : ℕ) (lead : Option ℕ) (n : ℕ) → q < length T.ancestors.states → s < symbol_count symbols → marks < 2 ^ length (predicates_of T.sheet)
      → ((j : Option ℕ) → next_at T.ancestors q s marks ≡ Some j → lead ≡ j) → lead ≡ Some n → slice_get T.ancestors.states n ≡ Some (ancestor_below symbols T q (record { kind = of_symbol s; marks = marks }))
  above_stepped q s marks lead n l a c says e =
      let found = above_answered symbols r h q s marks (ancestor T q) lead (ancestor_at q l) a c says in
      let same : found.0 ≡ n = some_is (sym found.1 ∙ e) in
      ap (slice_get T.ancestors.states) (sym same) ∙ found.2

  pub above_never : (q s marks : ℕ) (lead : Option ℕ) → q < length T.ancestors.states → s < symbol_count symbols → marks < 2 ^ length (predicates_of T.sheet)
      → ((j : Option ℕ) → next_at T.ancestors q s marks ≡ Some j → lead ≡ j) → lead ≡ None → ⊥
  above_never q s marks lead l a c says e =
      let found = above_answered symbols r h q s marks (ancestor T q) lead (ancestor_at q l) a c says in
      some_none found.0 (sym found.1 ∙ e)
    where
      some_none : (n : ℕ) → Some n ≡ None → ⊥
      some_none n f = cc

  module _ (k : ℕ) (b : PathUse) (x : State) (st : IsStateOf T k b x) (y : Select) (gr : GraphOf) (s marks : ℕ) (lead : Option ℕ) (e : slice_get r.selects.items k ≡ Some y) (f : slice_get r.graphs.items y.graph ≡ Some gr)
      (a : s < symbol_count symbols) (c : marks < 2 ^ length (predicates_of T.sheet)) (says : (j : Option ℕ) → next_at (graph gr) y.state s marks ≡ Some j → lead ≡ j) where
    abbrev Below : State
    Below = select_below symbols T b x (record { kind = of_symbol s; marks = marks })

    leads : LeadsTo some_item st.graph lead Below
    leads = step_answered symbols r h k b x st y gr s marks lead e f a c says

    pub select_stepped : (start n sum : ℕ) → start ≡ get_or r.starts.items y.graph 0 → lead ≡ Some n → (start + n < 2 ^ 32 → sum ≡ start + n) → IsStateOf T sum b Below
    select_stepped start n sum g l adds =
        let to : LeadsTo some_item st.graph (Some n) Below = subst (λ (o : Option ℕ). LeadsTo some_item st.graph o Below) l leads in
        let next : IsStateOf T (count_states (take st.place T.selects) + n) b Below = goes_on symbols T h.tells k n b x Below st to in
        let begins : start ≡ count_states (take st.place T.selects) = g ∙ get_or_from_slice_get r.starts.items y.graph (count_states (take st.place T.selects)) 0 (start_answered symbols r h k b x st y e) in
        let inside : count_states (take st.place T.selects) + n < count_states T.selects = in_range symbols T h.tells (count_states (take st.place T.selects) + n) b Below next in
        let few : count_states T.selects ≤ 4096 = h.tells.few_selects in
        subst (λ m. IsStateOf T m b Below) (sym (adds (omega (arith, begins, inside, few)) ∙ ap (λ m. m + n) begins)) next

    pub select_ended : lead ≡ None → is_empty_state Below ≡ true
    select_ended l = no_item_left symbols T h.tells k b x Below st (subst (λ (o : Option ℕ). LeadsTo some_item st.graph o Below) l leads)

-- the first state of a graph
states_at : (xs : List GraphOf) (i : ℕ) (g : GraphOf) → slice_get xs i ≡ Some g → get_or (map (λ (g : Graph). g.states) (graphs xs)) i [] ≡ (graph g).states
states_at xs i g e = get_or_from_slice_get (map (λ (g : Graph). g.states) (graphs xs)) i (graph g).states [] (mapped_at (λ (g : Graph). g.states) (graphs xs) i (graph g) (mapped_at graph xs i g e))

is_first : (xs : List GraphOf) (starts : List ℕ) (i : ℕ) (b : Bool) (g : GraphOf) → slice_get xs i ≡ Some g → b ≡ (0 == length (graph g).states) → first_from (graphs xs) starts i ≡ (if b then None else Some (get_or starts i 0))
is_first xs starts i b g e f =
    ap (λ (w : List State). if 0 == length w then None else Some (get_or starts i 0)) (states_at xs i g e) ∙ ap (λ (d : Bool). if d then None else Some (get_or starts i 0)) (sym f)

pub first_none : (xs : List GraphOf) (starts : List ℕ) (i : ℕ) (b : Bool) (g : GraphOf) → slice_get xs i ≡ Some g → b ≡ (0 == length (graph g).states) → b ≡ true → None ≡ first_from (graphs xs) starts i
first_none xs starts i b g e f t = sym (is_first xs starts i b g e f ∙ ap (λ (d : Bool). if d then None else Some (get_or starts i 0)) t)

pub first_some : (xs : List GraphOf) (starts : List ℕ) (i s : ℕ) (b : Bool) (g : GraphOf) → slice_get xs i ≡ Some g → b ≡ (0 == length (graph g).states) → b ≡ false → s ≡ get_or starts i 0 → Some s ≡ first_from (graphs xs) starts i
first_some xs starts i s b g e f t is = ap Some is ∙ sym (is_first xs starts i b g e f ∙ ap (λ (d : Bool). if d then None else Some (get_or starts i 0)) t)

pub first_past : (xs : List GraphOf) (starts : List ℕ) (i : ℕ) → slice_get xs i ≡ None → None ≡ first_from (graphs xs) starts i
first_past xs starts i e =
    sym (ap (λ (k : ℕ). if 0 == k then None else Some (get_or starts i 0)) (ap length (by xs i e)))
  where
    by : (ys : List GraphOf) (j : ℕ) → slice_get ys j ≡ None → get_or (map (λ (g : Graph). g.states) (graphs ys)) j [] ≡ []
    by [] j f = refl
    by (y ∷ ys) zero f = absurd (cc)
    by (y ∷ ys) (suc j) f = by ys j f
