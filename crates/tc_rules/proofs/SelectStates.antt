-- Where select states stand, and how many of them there are.
use Rattle.std.proofs.Common.{◌≡◌, ℕ, zero, suc, ◌+◌, ◌^◌, ◌<◌, ◌≤◌, ◌==◌, List, [], ◌∷◌, ◌++◌, Bool, true, false, refl, ap, sym, ◌∙◌, subst, map, filter, take, drop, get_or, length, slice_get, Some, arith, if◌then◌else◌}
use Rattle.std.proofs.Math.Dec.{eqb-suc-zero, eqb-zero-suc}
use Rattle.std.proofs.Math.Numerals.{suc-eq-add-one}
use Rattle.std.proofs.lemmas.List.Sums.{sum_by-cons}
use Rattle.std.proofs.lemmas.List.{drop_more, length-map, length-append}
use Rattle.tc_model.specs.Sheets.{Path, Test}
use Rattle.tc_model.specs.Symbols.{Mention}
use Rattle.tc_model.specs.Letters.{Letter}
use Rattle.tc_model.specs.Numbered.{numbers_below, each_once_after}
use Rattle.tc_model.specs.Numberings.{one_round, rounds, AreReached, letters_of_elements}
use Rattle.tc_model.specs.PathStates.{State, same_state, first_state, next_state}
use Rattle.tc_rules.specs.Graphs.{Graph, IsGraphOf}
use Rattle.tc_rules.specs.Once.{put_all}
use Rattle.tc_rules.specs.Rows.{graph, graphs}
use Rattle.tc_rules.specs.Selects.{selects_from, starts_from, AreGraphs, states_by, count_by}
use Rattle.tc_rules.specs.RulesView.{count_states}
use Rattle.tc_model.specs.StateCounts.{some_item}
use Rattle.tc_rules.specs.declared.graph.Graph.{Graph as GraphOf}
use Rattle.tc_rules.specs.declared.rules.Select.{Select}
use Rattle.tc_rules.proofs.Numbering.{IsOnce, put_is, once_put_all, leads_of, round_puts, settled}
use Rattle.tc_rules.proofs.Pieces.{length_below, value_at}
use Rattle.tc_rules.proofs.Steps.{moved}

some_is : {X : Type 0} {a b : X} → Some a ≡ Some b → a ≡ b
some_is e = cc

some_same : {X : Type 0} (a b : X) → a ≡ b → Some a ≡ Some b
some_same a b e = ap Some e

same_place : {X : Type 0} (xs : List X) (i j : ℕ) → i ≡ j → slice_get xs i ≡ slice_get xs j
same_place xs i j e = ap (slice_get xs) e

-- either way round
pub is_none : (k : ℕ) → (k == 0) ≡ (0 == k)
is_none zero = refl
is_none (suc k) = eqb-suc-zero k ∙ sym (eqb-zero-suc k)

pub count_cons : (g : Graph) (gs : List Graph) → count_states (g ∷ gs) ≡ length g.states + count_states gs
count_cons g gs = sum_by-cons (λ x. x) (length g.states) (map (λ (g : Graph). length g.states) gs)

-- the states of one graph are as many as those of all at most
few_at : (gs : List GraphOf) (i : ℕ) (d : GraphOf) → i < length gs → length (graph (get_or gs i d)).states ≤ count_states (graphs gs)
few_at [] i d l = absurd (omega arith)
few_at (g ∷ gs) zero d l = omega (arith, count_cons (graph g) (graphs gs))
few_at (g ∷ gs) (suc i) d l = let rest : length (graph (get_or gs i d)).states ≤ count_states (graphs gs) = few_at gs i d (omega arith) in omega (arith, rest, count_cons (graph g) (graphs gs))

pub graph_few : (gs : List GraphOf) (i : ℕ) (d : GraphOf) → i < length gs → count_states (graphs gs) ≤ 4096 → length (graph (get_or gs i d)).states < 2 ^ 32
graph_few gs i d l few = omega (arith, few_at gs i d l)

graphs_left : (gs : List GraphOf) (i : ℕ) (d : GraphOf) → i < length gs → graphs (drop i gs) ≡ graph (get_or gs i d) ∷ graphs (drop (i + 1) gs)
graphs_left gs i d l = ap graphs (drop_more gs i d l)

-- one graph more
pub selects_at : (old new : List Select) (gs : List GraphOf) (i : ℕ) (d : GraphOf) (n : ℕ) (whole : List Select) → i < length gs → n ≡ length (graph (get_or gs i d)).states
    → new ≡ old ++ map (λ j. record { graph = i; state = j }) (numbers_below n)
    → old ++ selects_from i (graphs (drop i gs)) ≡ whole → new ++ selects_from (i + 1) (graphs (drop (i + 1) gs)) ≡ whole
selects_at old new gs i d n whole l e put so_far =
    moved old new (map (λ j. record { graph = i; state = j }) (numbers_below n)) (selects_from i (graphs (drop i gs))) (selects_from (i + 1) (graphs (drop (i + 1) gs))) whole put
    (ap (selects_from i) (graphs_left gs i d l)
    ∙ (ap (λ k. map (λ j. record { graph = i; state = j }) (numbers_below k) ++ selects_from (suc i) (graphs (drop (i + 1) gs))) (sym e)
    ∙ ap (λ k. map (λ j. record { graph = i; state = j }) (numbers_below n) ++ selects_from k (graphs (drop (i + 1) gs))) (suc-eq-add-one i)))
    so_far

-- where the states of a graph stand
front_at : {X : Type 0} (xs ys : List X) (i : ℕ) (x : X) → slice_get xs i ≡ Some x → slice_get (xs ++ ys) i ≡ Some x
front_at [] ys i x e = absurd (cc)
front_at (y ∷ xs) ys zero x e = e
front_at (y ∷ xs) ys (suc i) x e = front_at xs ys i x e

back_at : {X : Type 0} (xs ys : List X) (i : ℕ) → slice_get (xs ++ ys) (length xs + i) ≡ slice_get ys i
back_at [] ys i = same_place ys (0 + i) i (omega arith)
back_at (x ∷ xs) ys i = same_place (x ∷ (xs ++ ys)) (suc (length xs) + i) (suc (length xs + i)) (omega arith) ∙ back_at xs ys i

abbrev stands : ℕ → ℕ → Select
stands i j = record { graph = i; state = j }

abbrev all_of : ℕ → ℕ → List Select
all_of i n = map (stands i) (numbers_below n)

all_length : (i n : ℕ) → length (all_of i n) ≡ n
all_length i n = length-map (numbers_below n) (stands i) ∙ length_below n

pub select_same : (n m j : ℕ) → n ≡ m → Some (stands n j) ≡ Some (stands m j)
select_same n m j e = ap (λ k. Some (stands k j)) e

pub select_at : (k : ℕ) (gs : List Graph) (i : ℕ) (g : Graph) (j : ℕ) → slice_get gs i ≡ Some g → j < length g.states
    → slice_get (selects_from k gs) (count_states (take i gs) + j) ≡ Some (stands (k + i) j)
select_at k [] i g j e h = absurd (cc)
select_at k (y ∷ gs) zero g j e h =
    let same : length y.states ≡ length g.states = ap (λ (w : Graph). length w.states) (some_is e) in
    same_place (selects_from k (y ∷ gs)) (0 + j) j (omega arith)
    ∙ (front_at (all_of k (length y.states)) (selects_from (suc k) gs) j (stands k j) (value_at (stands k) (length y.states) j (omega (arith, same, h)))
    ∙ select_same k (k + 0) j (omega arith))
select_at k (y ∷ gs) (suc i) g j e h =
    let place : count_states (y ∷ take i gs) + j ≡ length (all_of k (length y.states)) + (count_states (take i gs) + j) = omega (arith, all_length k (length y.states), count_cons y (take i gs)) in
    same_place (selects_from k (y ∷ gs)) (count_states (y ∷ take i gs) + j) (length (all_of k (length y.states)) + (count_states (take i gs) + j)) place
    ∙ (back_at (all_of k (length y.states)) (selects_from (suc k) gs) (count_states (take i gs) + j)
    ∙ (select_at (suc k) gs i g j e h ∙ select_same (suc k + i) (k + suc i) j (omega arith)))

pub start_at : (n : ℕ) (gs : List Graph) (i : ℕ) → i < length gs + 1 → slice_get (starts_from n gs) i ≡ Some (n + count_states (take i gs))
start_at n [] zero h = some_same n (n + 0) (omega arith)
start_at n [] (suc i) h = absurd (omega arith)
start_at n (g ∷ gs) zero h = some_same n (n + 0) (omega arith)
start_at n (g ∷ gs) (suc i) h =
    start_at (n + length g.states) gs i (omega arith) ∙ some_same ((n + length g.states) + count_states (take i gs)) (n + count_states (g ∷ take i gs)) (omega (arith, count_cons g (take i gs)))

-- rounds find more and more states, and no more than there are in the end
module _ (counts : State → Bool) (next : State → Letter → State) (letters : List Letter) where
  abbrev Round : List State → List State
  Round xs = one_round counts next letters xs

  pub round_once : (xs : List State) → IsOnce same_state (Round xs)
  round_once xs =
      let is : Round xs ≡ put_all same_state [] (xs ++ leads_of counts next letters xs) = sym (put_is same_state [] (xs ++ leads_of counts next letters xs)) in
      subst (IsOnce same_state) (sym is) (once_put_all same_state [] (xs ++ leads_of counts next letters xs) refl)

  round_grows : (xs : List State) → IsOnce same_state xs → length xs ≤ length (Round xs)
  round_grows xs h =
      let is : Round xs ≡ xs ++ each_once_after same_state xs (leads_of counts next letters xs) = round_puts counts next letters xs h ∙ put_is same_state xs (leads_of counts next letters xs) in
      omega (arith, ap length is, length-append xs (each_once_after same_state xs (leads_of counts next letters xs)))

  rounds_once : (n : ℕ) (xs : List State) → IsOnce same_state xs → IsOnce same_state (rounds counts next letters n xs)
  rounds_once zero xs h = h
  rounds_once (suc n) xs h = rounds_once n (Round xs) (round_once xs)

  rounds_grow : (n : ℕ) (xs : List State) → IsOnce same_state xs → length xs ≤ length (rounds counts next letters n xs)
  rounds_grow zero xs h = omega arith
  rounds_grow (suc n) xs h = omega (arith, round_grows xs h, rounds_grow n (Round xs) (round_once xs))

  same_rounds : (n m : ℕ) (xs : List State) → n ≡ m → rounds counts next letters n xs ≡ rounds counts next letters m xs
  same_rounds n m xs e = ap (λ k. rounds counts next letters k xs) e

  rounds_more : (n m : ℕ) (xs : List State) → rounds counts next letters (n + m) xs ≡ rounds counts next letters m (rounds counts next letters n xs)
  rounds_more zero m xs = same_rounds (0 + m) m xs (omega arith)
  rounds_more (suc n) m xs = same_rounds (suc n + m) (suc (n + m)) xs (omega arith) ∙ rounds_more n m (Round xs)

  pub start_once : (first : State) → IsOnce same_state (filter counts (first ∷ []))
  start_once first = by (counts first)
    where
      by : (b : Bool) → IsOnce same_state (if b then (first ∷ []) else [])
      by true = refl
      by false = refl

  module _ (first : State) (states : List State) (h : AreReached counts next letters first states) where
    abbrev Start : List State
    Start = filter counts (first ∷ [])

    -- at and after the round in which all are found
    pub settles : (m : ℕ) → rounds counts next letters (h.found.0 + m) Start ≡ states
    settles m = rounds_more h.found.0 m Start ∙ (ap (rounds counts next letters m) (sym h.found.1) ∙ settled counts next letters m states h.all)

    pub no_more : (n : ℕ) → length (rounds counts next letters n Start) ≤ length states
    no_more n =
        let grown : length (rounds counts next letters n Start) ≤ length (rounds counts next letters h.found.0 (rounds counts next letters n Start)) =
        rounds_grow h.found.0 (rounds counts next letters n Start) (rounds_once n Start (start_once first))
        in
        let end : rounds counts next letters h.found.0 (rounds counts next letters n Start) ≡ states = sym (rounds_more n h.found.0 Start) ∙ (same_rounds (n + h.found.0) (h.found.0 + n) Start (omega arith) ∙ settles n) in
        omega (arith, grown, ap length end)

  -- those of a round are among those of a later one
  pub later_more : (first : State) (n m : ℕ) → length (rounds counts next letters n (filter counts (first ∷ []))) ≤ length (rounds counts next letters (n + m) (filter counts (first ∷ [])))
  later_more first n m =
      omega (arith, rounds_grow m (rounds counts next letters n (filter counts (first ∷ []))) (rounds_once n (filter counts (first ∷ [])) (start_once first)), ap length (rounds_more n m (filter counts (first ∷ []))))

module _ (symbols : List Mention) (tests : List Test) where
  -- one more path and its graph
  pub graphs_more : (ps : List Path) (gs : List Graph) (p : Path) (g : Graph) → AreGraphs symbols tests ps gs → IsGraphOf symbols tests some_item p g → AreGraphs symbols tests (ps ++ p ∷ []) (gs ++ g ∷ [])
  graphs_more [] [] p g a h = (h, tt)
  graphs_more [] (x ∷ gs) p g a h = absurd a
  graphs_more (q ∷ ps) [] p g a h = absurd a
  graphs_more (q ∷ ps) (x ∷ gs) p g a h = (a.0, graphs_more ps gs p g a.1 h)

  pub graph_at : (ps : List Path) (gs : List Graph) (i : ℕ) (p : Path) → AreGraphs symbols tests ps gs → slice_get ps i ≡ Some p → (g : Graph) × (slice_get gs i ≡ Some g) × IsGraphOf symbols tests some_item p g
  graph_at [] [] i p a e = absurd (cc)
  graph_at [] (g ∷ gs) i p a e = absurd a
  graph_at (q ∷ ps) [] i p a e = absurd a
  graph_at (q ∷ ps) (g ∷ gs) zero p a e = (g, refl, subst (λ (w : Path). IsGraphOf symbols tests some_item w g) (some_is e) a.0)
  graph_at (q ∷ ps) (g ∷ gs) (suc i) p a e = graph_at ps gs i p a.1 e

  pub as_many : (ps : List Path) (gs : List Graph) → AreGraphs symbols tests ps gs → length gs ≡ length ps
  as_many [] [] a = refl
  as_many [] (g ∷ gs) a = absurd a
  as_many (q ∷ ps) [] a = absurd a
  as_many (q ∷ ps) (g ∷ gs) a = ap suc (as_many ps gs a.1)

  by_cons : (p : Path) (ps : List Path) (n : ℕ) → count_by symbols tests (p ∷ ps) n ≡ length (states_by symbols tests p n) + count_by symbols tests ps n
  by_cons p ps n = sum_by-cons (λ x. x) (length (states_by symbols tests p n)) (map (λ p. length (states_by symbols tests p n)) ps)

  at_round : (p : Path) (n m : ℕ) → n ≡ m → states_by symbols tests p n ≡ states_by symbols tests p m
  at_round p n m e = ap (states_by symbols tests p) e

  count_at : (ps : List Path) (n m : ℕ) → n ≡ m → count_by symbols tests ps n ≡ count_by symbols tests ps m
  count_at ps n m e = ap (count_by symbols tests ps) e

  -- no round finds more states than the graphs have
  pub count_within : (ps : List Path) (gs : List Graph) (n : ℕ) → AreGraphs symbols tests ps gs → count_by symbols tests ps n ≤ count_states gs
  count_within [] [] n a = omega arith
  count_within [] (g ∷ gs) n a = absurd a
  count_within (p ∷ ps) [] n a = absurd a
  count_within (p ∷ ps) (g ∷ gs) n a =
      omega (arith, count_cons g gs, by_cons p ps n, count_within ps gs n a.1, no_more some_item (next_state symbols tests p) (letters_of_elements symbols tests) (first_state p) g.states a.0.states n)

  -- after some round they have been found
  pub count_found : (ps : List Path) (gs : List Graph) → AreGraphs symbols tests ps gs → (n : ℕ) × ((m : ℕ) → count_by symbols tests ps (n + m) ≡ count_states gs)
  count_found [] [] a = (0, λ m. refl)
  count_found [] (g ∷ gs) a = absurd a
  count_found (p ∷ ps) [] a = absurd a
  count_found (p ∷ ps) (g ∷ gs) a =
      let rest = count_found ps gs a.1 in
      let here = a.0.states.found.0 in (
        here + rest.0,
        λ m.
            let of_first : states_by symbols tests p ((here + rest.0) + m) ≡ g.states =
            at_round p ((here + rest.0) + m) (here + (rest.0 + m)) (omega arith) ∙ settles some_item (next_state symbols tests p) (letters_of_elements symbols tests) (first_state p) g.states a.0.states (rest.0 + m)
            in
            let of_rest : count_by symbols tests ps ((here + rest.0) + m) ≡ count_states gs = count_at ps ((here + rest.0) + m) (rest.0 + (here + m)) (omega arith) ∙ rest.1 (here + m) in
            omega (arith, ap length of_first, of_rest, by_cons p ps ((here + rest.0) + m), count_cons g gs),
      )

  count_parts : (ps qs : List Path) (n : ℕ) → count_by symbols tests (ps ++ qs) n ≡ count_by symbols tests ps n + count_by symbols tests qs n
  count_parts [] qs n = omega arith
  count_parts (p ∷ ps) qs n = omega (arith, count_parts ps qs n, by_cons p (ps ++ qs) n, by_cons p ps n)

  -- where one more path has too many, all have
  pub count_passes : (ps rest : List Path) (p : Path) (gs : List Graph) (left : ℕ) → AreGraphs symbols tests ps gs → left + count_states gs ≡ 4096 → (n : ℕ) × (left < length (states_by symbols tests p n))
      → (n : ℕ) × (4096 < count_by symbols tests (ps ++ p ∷ rest) n)
  count_passes ps rest p gs left a e many =
      let found = count_found ps gs a in (
        found.0 + many.0,
        let more : length (states_by symbols tests p many.0) ≤ length (states_by symbols tests p (found.0 + many.0)) =
            omega (arith, later_more some_item (next_state symbols tests p) (letters_of_elements symbols tests) (first_state p) many.0 found.0, ap length (at_round p (many.0 + found.0) (found.0 + many.0) (flip many.0 found.0)))
            in
            omega (arith, found.1 many.0, count_parts ps (p ∷ rest) (found.0 + many.0), by_cons p rest (found.0 + many.0), more, many.1, e),
      )
    where
      flip : (a b : ℕ) → a + b ≡ b + a
      flip a b = omega arith
