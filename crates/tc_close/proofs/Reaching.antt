-- Where no round finds more than so many states, all states are reached, and they stand in tables.
use Rattle.std.proofs.Common.{◌≡◌, inl, inr, ℕ, zero, suc, ◌+◌, ◌<◌, ◌≤◌, ◌^◌, List, [], ◌∷◌, ◌++◌, Bool, true, false, ◌||◌, refl, ap, sym, ◌∙◌, subst, map, filter, flat_map, length, get_or, Option, Some, None, slice_get, arith, if◌then◌else◌, append-nil}
use Rattle.std.specs.List.{list_any}
use Rattle.std.proofs.lemmas.Bool.{true≢false}
use Rattle.std.proofs.lemmas.List.{length-append, map-append}
use Rattle.std.proofs.lemmas.Option.{get_or_from_slice_get}
use Rattle.tc_model.specs.Letters.{Letter, Kind, of_symbol, of_text, IsLetter}
use Rattle.tc_model.specs.Numbered.{numbers_below, number_of, each_once_after}
use Rattle.tc_model.specs.Numberings.{one_round, rounds, AreReached, letters_of_elements}
use Rattle.tc_model.specs.PathStates.{State, same_state, first_state, next_state}
use Rattle.tc_model.specs.Sheets.{Path, Test}
use Rattle.tc_model.specs.Symbols.{Mention, symbol_count}
use Rattle.tc_alpha.proofs.Members.{every_member}
use Rattle.tc_rules.specs.Graphs.{Graph, IsGraphOf, LeadsTo, class_of, fits_at, next_at, path_fits}
use Rattle.tc_rules.specs.Once.{put_all}
use Rattle.tc_rules.proofs.Numbering.{IsOnce, AreThere, leads_of, put_is, put_all_there, round_after, round_puts}
use Rattle.tc_rules.proofs.Pieces.{length_below, mapped_at, number_at, there_one, there_piece, value_at}
use Rattle.tc_rules.proofs.SameRows.{state_same, state_self}
use Rattle.tc_rules.proofs.SelectStates.{round_once, start_once}
use Rattle.tc_rows.proofs.Leading.{has_at}
use Rattle.tc_rows.proofs.Numbers.{number_finds}
use Rattle.tc_rows.proofs.States.{all_count_so, all_once}
use Rattle.tc_close.proofs.Least.{low_or_high}

none_of : {X : Type 0} (xs : List X) → length xs ≤ 0 → xs ≡ []
none_of [] l = refl
none_of (x ∷ xs) l = absurd (omega (arith, l))

module _ (counts : State → Bool) (next : State → Letter → State) (letters : List Letter) where
  abbrev Round : List State → List State
  Round xs = one_round counts next letters xs

  -- a round puts states behind those that are there, and where it puts none, none are left
  no_longer : (xs : List State) → IsOnce same_state xs → length (Round xs) ≤ length xs → Round xs ≡ xs
  no_longer xs h l =
      let more = each_once_after same_state xs (leads_of counts next letters xs) in
      let is : Round xs ≡ xs ++ more = round_puts counts next letters xs h ∙ put_is same_state xs (leads_of counts next letters xs) in
      let few : length more ≤ 0 = omega (arith, l, ap length is, length-append xs more) in
      is ∙ (ap (λ w. xs ++ w) (none_of more few) ∙ append-nil xs)

  rounds_once : (n : ℕ) (xs : List State) → IsOnce same_state xs → IsOnce same_state (rounds counts next letters n xs)
  rounds_once zero xs h = h
  rounds_once (suc n) xs h = rounds_once n (Round xs) (round_once counts next letters xs)

  module _ (first : State) (most : ℕ) (few : (n : ℕ) → length (rounds counts next letters n (filter counts (first ∷ []))) ≤ most) where
    abbrev Upto : ℕ → List State
    Upto n = rounds counts next letters n (filter counts (first ∷ []))

    abbrev AllReached : Type 0
    AllReached = (xs : List State) × AreReached counts next letters first xs

    at_end : (n : ℕ) → length (Upto (suc n)) ≤ length (Upto n) → AllReached
    at_end n l =
        let start = filter counts (first ∷ []) in
        let longer : length (Round (Upto n)) ≤ length (Upto n) = subst (λ w. length w ≤ length (Upto n)) (sym (round_after counts next letters n start)) l in
        (Upto n, record { found = (n, refl); all = no_longer (Upto n) (rounds_once n start (start_once counts next letters first)) longer })

    reaches_from : (left n : ℕ) → most ≤ length (Upto n) + left → AllReached
    reaches_from zero n l = at_end n (omega (arith, l, few (suc n)))
    reaches_from (suc left) n l =
        elim (low_or_high (length (Upto n)) (length (Upto (suc n)))) [ inl less ↦ reaches_from left (suc n) (omega (arith, l, less)) | inr same ↦ at_end n same ]

    pub reaches : AllReached
    reaches = reaches_from most 0 (omega arith)

-- a state that is there has a number
there_low : (y : State) (xs : List State) → list_any (same_state y) xs ≡ true → number_of same_state y xs < length xs
there_low y [] e = absurd (cc)
there_low y (x ∷ xs) e = by (same_state y x) refl (there_low y xs)
  where
    by : (b : Bool) → same_state y x ≡ b → (list_any (same_state y) xs ≡ true → number_of same_state y xs < length xs) → (if b then 0 else (number_of same_state y xs + 1)) < suc (length xs)
    by true f later = omega arith
    by false f later =
        let there : list_any (same_state y) xs ≡ true = sym (ap (λ (b : Bool). b || list_any (same_state y) xs) f) ∙ e in
        omega (arith, later there)

abbrev number_if : Bool → State → List State → Option ℕ
number_if b y xs = if b then Some (number_of same_state y xs) else None

abbrev number_in : List State → State → Option ℕ
number_in xs y = number_if (list_any (same_state y) xs) y xs

map_pieces : {A B X : Type 0} (f : B → X) (g : A → List B) (xs : List A) → map f (flat_map g xs) ≡ flat_map (λ a. map f (g a)) xs
map_pieces f g [] = refl
map_pieces f g (x ∷ xs) = map-append f (g x) (flat_map g xs) ∙ ap (λ w. map f (g x) ++ w) (map_pieces f g xs)

module _ (symbols : List Mention) (tests : List Test) (counts : State → Bool) (p : Path) (xs : List State)
    (r : AreReached counts (next_state symbols tests p) (letters_of_elements symbols tests) (first_state p) xs) where
  abbrev sets : ℕ
  sets = 2 ^ length tests

  abbrev an_element : ℕ → ℕ → Letter
  an_element k n = record { kind = of_symbol k; marks = n }

  abbrev a_text : ℕ → Letter
  a_text n = record { kind = of_text; marks = n }

  abbrev lead : State → ℕ → ℕ → State
  lead s k n = next_state symbols tests p s (an_element k n)

  abbrev fits_row : ℕ → List State
  fits_row k = map (λ n. path_fits symbols tests p (an_element k n)) (numbers_below sets)

  abbrev next_row : State → ℕ → List (Option ℕ)
  next_row s k = map (λ n. number_in xs (lead s k n)) (numbers_below sets)

  abbrev next_rows : State → List (List (Option ℕ))
  next_rows s = map (next_row s) (numbers_below (symbol_count symbols))

  -- each symbol is a class of its own
  abbrev tables : Graph
  tables = record {
    states = xs;
    classes = numbers_below (symbol_count symbols);
    fits = map fits_row (numbers_below (symbol_count symbols));
    texts = map (λ n. path_fits symbols tests p (a_text n)) (numbers_below sets);
    next = map next_rows xs;
  }

  class_is : (k : ℕ) → k < symbol_count symbols → class_of tables k ≡ k
  class_is k l = get_or_from_slice_get (numbers_below (symbol_count symbols)) k k 0 (number_at (symbol_count symbols) k l)

  fits_told : (kind : Kind) (n : ℕ) → IsLetter symbols tests (record { kind = kind; marks = n }) → fits_at tables (record { kind = kind; marks = n }) ≡ Some (path_fits symbols tests p (record { kind = kind; marks = n }))
  fits_told (of_symbol k) n i =
      let l : k < symbol_count symbols = i.symbol k refl in
      let row : get_or tables.fits k [] ≡ fits_row k = get_or_from_slice_get tables.fits k (fits_row k) [] (value_at fits_row (symbol_count symbols) k l) in
      ap (λ c. slice_get (get_or tables.fits c []) n) (class_is k l)
      ∙ (ap (λ w. slice_get w n) row ∙ value_at (λ n. path_fits symbols tests p (an_element k n)) sets n i.marks)
  fits_told of_text n i = value_at (λ n. path_fits symbols tests p (a_text n)) sets n i.marks

  next_told : (i : ℕ) (s : State) (k n : ℕ) → slice_get xs i ≡ Some s → k < symbol_count symbols → n < sets → next_at tables i k n ≡ Some (number_in xs (lead s k n))
  next_told i s k n at l b =
      let rows : get_or tables.next i [] ≡ next_rows s = get_or_from_slice_get tables.next i (next_rows s) [] (mapped_at next_rows xs i s at) in
      let row : get_or (next_rows s) k [] ≡ next_row s k = get_or_from_slice_get (next_rows s) k (next_row s k) [] (value_at (next_row s) (symbol_count symbols) k l) in
      ap (λ w. slice_get (get_or w (class_of tables k) []) n) rows
      ∙ (ap (λ c. slice_get (get_or (next_rows s) c []) n) (class_is k l)
      ∙ (ap (λ w. slice_get w n) row ∙ value_at (λ n. number_in xs (lead s k n)) sets n b))

  all_there : AreThere same_state xs (leads_of counts (next_state symbols tests p) (letters_of_elements symbols tests) xs)
  all_there =
      let next = next_state symbols tests p in
      let letters = letters_of_elements symbols tests in
      let once : IsOnce same_state xs = put_is same_state [] xs ∙ all_once counts next letters (first_state p) xs r in
      let is : put_all same_state xs (leads_of counts next letters xs) ≡ xs = sym (round_puts counts next letters xs once) ∙ r.all in
      subst (λ w. AreThere same_state w (leads_of counts next letters xs)) is (put_all_there same_state state_self xs (leads_of counts next letters xs))

  -- where a state leads is there, if it counts
  lead_there : (i : ℕ) (s : State) (k n : ℕ) → slice_get xs i ≡ Some s → k < symbol_count symbols → n < sets → counts (lead s k n) ≡ true → list_any (same_state (lead s k n)) xs ≡ true
  lead_there i s k n at l b t =
      let next = next_state symbols tests p in
      let of_symbols : ℕ → List Letter = λ k. map (an_element k) (numbers_below sets) in
      let of_state : AreThere same_state xs (filter counts (map (next s) (letters_of_elements symbols tests))) =
      there_piece same_state counts (λ x. map (next x) (letters_of_elements symbols tests)) xs xs i s all_there at
      in
      let by_symbols : AreThere same_state xs (filter counts (flat_map (λ k. map (next s) (of_symbols k)) (numbers_below (symbol_count symbols)))) =
      subst (λ w. AreThere same_state xs (filter counts w)) (map_pieces (next s) of_symbols (numbers_below (symbol_count symbols))) of_state
      in
      let of_symbol_k : AreThere same_state xs (filter counts (map (next s) (of_symbols k))) =
      there_piece same_state counts (λ k. map (next s) (of_symbols k)) xs (numbers_below (symbol_count symbols)) k k by_symbols (number_at (symbol_count symbols) k l)
      in
      there_one same_state counts xs (map (next s) (of_symbols k)) n (lead s k n) of_symbol_k (mapped_at (next s) (of_symbols k) n (an_element k n) (value_at (an_element k) sets n b)) t

  leads_to : (y : State) (b : Bool) → list_any (same_state y) xs ≡ b → (counts y ≡ true → list_any (same_state y) xs ≡ true) → LeadsTo counts tables (number_if b y xs) y
  leads_to y true e there =
      let (z, at, same) = number_finds same_state y xs (there_low y xs e) in
      let here : slice_get xs (number_of same_state y xs) ≡ Some y = at ∙ ap Some (sym (state_same y z same)) in (
        every_member (λ s. counts s ≡ true) xs y (all_count_so counts (next_state symbols tests p) (letters_of_elements symbols tests) (first_state p) xs r) (has_at xs (number_of same_state y xs) y here),
        here,
      )
  leads_to y false e there = by (counts y) refl
    where
      by : (b : Bool) → counts y ≡ b → counts y ≡ false
      by true f = absurd (true≢false (sym (there f) ∙ e))
      by false f = f

  pub is_graph : IsGraphOf symbols tests counts p tables
  is_graph = record {
    states = r;
    classes = length_below (symbol_count symbols);
    fits = λ l i. fits_told l.kind l.marks i;
    next = λ i s k n at l b.
        let y = lead s k n in
        (number_in xs y, next_told i s k n at l b, leads_to y (list_any (same_state y) xs) refl (lead_there i s k n at l b));
  }

-- the graph of a path of which no round finds more than so many states
pub has_graph : (symbols : List Mention) (tests : List Test) (counts : State → Bool) (p : Path) (most : ℕ)
    → ((n : ℕ) → length (rounds counts (next_state symbols tests p) (letters_of_elements symbols tests) n (filter counts (first_state p ∷ []))) ≤ most)
    → (g : Graph) × IsGraphOf symbols tests counts p g
has_graph symbols tests counts p most few =
    let (xs, r) = reaches counts (next_state symbols tests p) (letters_of_elements symbols tests) (first_state p) most few in
    (tables symbols tests counts p xs r, is_graph symbols tests counts p xs r)
