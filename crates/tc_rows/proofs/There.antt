-- There are rows: of all trees in normal form, and of what is worked out from rows.
use Rattle.std.proofs.Common.{◌≡◌, ◌↔◌, inl, inr, ℕ, zero, suc, ◌+◌, ◌-◌, ◌*◌, ◌/◌, ◌%◌, ◌<◌, ◌≤◌, ◌==◌, List, [], ◌∷◌, Bool, true, false, cond, ◌||◌, refl, ap, ◌∙◌, sym, subst, length, map, get_or, nat_lt, Option, Some, None, Contains, All, arith}
use Rattle.std.specs.List.Sorted.{IsStrictlySortedBy}
use Rattle.std.proofs.lemmas.Bool.{true≢false}
use Rattle.std.proofs.lemmas.Option.{same_Some, get_or_from_slice_get}
use Rattle.std.proofs.lemmas.List.{length-map}
use Rattle.std.proofs.lemmas.List.Elements.{All-get_or, All-from_get_or, All-contains}
use Rattle.std.proofs.lemmas.Nat.{div-mul-add, mod-mul-add}
use Rattle.tc_model.specs.Trees.{Trees, node_count}
use Rattle.tc_model.specs.Chains.{Tree, an_element, a_text}
use Rattle.tc_model.specs.TreesApart.{alone, FromBack, is_none, is_followed, IsApart}
use Rattle.tc_model.specs.Grammars.{ElementPattern, element_at, InClass, in_class}
use Rattle.tc_model.specs.Numbered.{numbers_below}
use Rattle.tc_model.specs.PathStates as paths
use Rattle.tc_model.specs.Symbols.{symbol_of, fresh_name}
use Rattle.tc_model.specs.States.{input, text_leaf, ref_leaf, automaton, first_state, state_count, a_content, IsEdge}
use Rattle.tc_model.proofs.StatesExact.{sound}
use Rattle.tc_model.proofs.StatesParts.{edge_within}
use Rattle.tc_model.proofs.TreesApart.{from_back, nodes_beside, apart_followed, normal_apart}
use Rattle.tc_alpha.proofs.Members.{Has, has_from_contains, contains_from_has, every_from_members, all_from_every}
use Rattle.tc_rules.specs.States.{Going, Looking, body_by}
use Rattle.tc_rules.specs.Tasks.{IsMoveAt, IsLookAt}
use Rattle.tc_rules.specs.RulesView.{select_count, ancestor}
use Rattle.tc_rules.proofs.Counts.{move_counted}
use Rattle.tc_rules.proofs.Pieces.{length_below, value_at}
use Rattle.tc_hedge.proofs.Leading.{first_below}
use Rattle.tc_rows.specs.Triples.{Triple, IsTriple, Select, sheet, predicates, outputs, ancestors, moves, looks, entries, number, number_below, moving, looking}
use Rattle.tc_rows.specs.PairSets.{PairSet, product, listed, IsPairs}
use Rattle.tc_rows.specs.Rows.{HedgeRow, TreeRow, IsHedgeRow, IsTreeRow, AreEntries, AreLooks, IsRowOfHedge, IsRowOfTree, entry, look, or_hit, hit_value}
use Rattle.tc_rows.specs.Bodies.{on_element, on_text, stay}
use Rattle.tc_rows.specs.Arithmetic.{look_from, pairs_from, below, nothing_below, letter_of_text, letter_around, step, hits, hit_pairs, TreeLeads, IsEmptyRow, IsTextRow, IsAppend, IsPatternAround, IsWrap}
use Rattle.tc_rows.specs.Laws.{AreThere}
use Rattle.tc_rows.proofs.Inside.{number_within, pattern_at}
use Rattle.tc_rows.proofs.Append.{look_low, look_index, entry_index, append_row}
use Rattle.tc_rows.proofs.Wrap.{wrap_row, text_row, empty_row}
use Rattle.tc_rows.proofs.Decode.{move_at, look_at}
use Rattle.tc_rows.proofs.Stood.{move_once, mode_once, look_once}
use Rattle.tc_rows.proofs.Deciding.{Told, told_and, told_or, told_as, told_nat, told_less, told_bool, told_any, told_accepting, told_input_edge, set_of, IsSetOf, pair_set_of, IsPairSetOf}
use Rattle.tc_rows.proofs.Live.{some_node}
use Rattle.tc_rows.proofs.Sets.{past, low_or_high, IsSet, set_stay, set_entry, set_from, set_hit, set_both}

-- what a function gives for all numbers below one
abbrev table : {X : Type 0} → ℕ → (ℕ → X) → List X
table n f = map f (numbers_below n)

table_length : {X : Type 0} (n : ℕ) (f : ℕ → X) → length (table n f) ≡ n
table_length n f = length-map (numbers_below n) f ∙ length_below n

table_at : {X : Type 0} (n : ℕ) (f : ℕ → X) (d : X) (i : ℕ) → i < n → get_or (table n f) i d ≡ f i
table_at n f d i l = get_or_from_slice_get (table n f) i (f i) d (value_at f n i l)

-- all members of a set
all_of_set : (P Q : ℕ → Type 0) (xs : List ℕ) → IsSetOf P xs → ((j : ℕ) → P j → Q j) → All Q xs
all_of_set P Q xs s f = all_from_every Q xs (every_from_members Q xs (λ j h. f j ((s.has j).0 (contains_from_has xs j h))))

told_false : (b : Bool) → Told (b ≡ false)
told_false true = inr (λ e. true≢false e)
told_false false = inl refl

told_member : (xs : List ℕ) (j : ℕ) → Told (Contains xs j)
told_member xs j = told_as (contains_from_has xs j) (has_from_contains xs j) (by xs)
  where
    by : (ys : List ℕ) → Told (Has ys j)
    by [] = inr (λ h. h)
    by (k ∷ ys) = told_or (told_nat k j) (by ys)

hit_small : (b : Bool) → hit_value b ≤ 2
hit_small true = omega arith
hit_small false = omega arith

cond_small : (b : Bool) (v w : ℕ) → v ≤ 2 → w ≤ 2 → cond b v w ≤ 2
cond_small true v w p q = p
cond_small false v w p q = q

or_small : (v w : ℕ) → v ≤ 2 → w ≤ 2 → or_hit v w ≤ 2
or_small v w p q = cond_small (v == 0) w v q p

module _ (x : Triple) (is : IsTriple x) where
  abbrev N : ℕ
  N = outputs x

  abbrev list_of : (r : PairSet) → IsSet x r → List (ℕ × ℕ)
  list_of r c = (pair_set_of N r c.within c.told).0

  list_is : (r : PairSet) (c : IsSet x r) → IsPairSetOf r (list_of r c)
  list_is r c = (pair_set_of N r c.within c.told).1

  list_pairs : (r : PairSet) (c : IsSet x r) → IsPairs N (list_of r c)
  list_pairs r c = let s = list_is r c in record { ascend = s.ascend; within = λ i j h. c.within i j ((s.has i j).0 h) }

  table_entries : (f : ℕ → List (ℕ × ℕ)) → ((i : ℕ) → IsPairs N (f i)) → AreEntries x (table (entries x) f)
  table_entries f each = record {
    count = table_length (entries x) f;
    each = All-from_get_or (IsPairs N) (table (entries x) f) []
        (λ i l. let low : i < entries x = omega (arith, l, table_length (entries x) f) in subst (IsPairs N) (sym (table_at (entries x) f [] i low)) (each i));
  }

  table_looks : (f : ℕ → ℕ) → ((i : ℕ) → f i ≤ 2) → AreLooks x (table (looks x) f)
  table_looks f each = record {
    count = table_length (looks x) f;
    each = All-from_get_or (λ v. v ≤ 2) (table (looks x) f) 0
        (λ i l. let low : i < looks x = omega (arith, l, table_length (looks x) f) in subst (λ v. v ≤ 2) (sym (table_at (looks x) f 0 i low)) (each i));
  }

  -- entries by the state of the move that a number stands for
  module _ (S : ℕ → Going → ℕ → PairSet) (c : (q : ℕ) (g : Going) (mode : ℕ) → IsSet x (S q g mode)) where
    abbrev at_state : ℕ → (k : ℕ) → Told (k < moves x) → List (ℕ × ℕ)
    at_state q k (inl low) = list_of (S q (move_at x is k low).0 (move_at x is k low).1.mode) (c q (move_at x is k low).0 (move_at x is k low).1.mode)
    at_state q k (inr high) = []

    none_pairs : IsPairs N []
    unfolding IsStrictlySortedBy
    none_pairs = record { ascend = tt; within = λ i j h. absurd (has_from_contains {X = ℕ × ℕ} [] (i, j) h) }

    state_pairs : (q k : ℕ) (w : Told (k < moves x)) → IsPairs N (at_state q k w)
    state_pairs q k (inl low) = list_pairs (S q (move_at x is k low).0 (move_at x is k low).1.mode) (c q (move_at x is k low).0 (move_at x is k low).1.mode)
    state_pairs q k (inr high) = none_pairs

    state_has : (q k : ℕ) (w : Told (k < moves x)) (g : Going) (at : IsMoveAt x.rules k g) → (i j : ℕ) → listed (at_state q k w) i j ↔ S q g at.mode i j
    state_has q k (inl low) g at i j =
        let h = (move_at x is k low).0 in
        let b = (move_at x is k low).1 in
        subst (λ n. listed (at_state q k (inl low)) i j ↔ S q g n i j) (mode_once x is k h g b at)
        (subst (λ v. listed (at_state q k (inl low)) i j ↔ S q v b.mode i j) (move_once x is k h g b at) ((list_is (S q h b.mode) (c q h b.mode)).has i j))
    state_has q k (inr high) g at i j = absurd (high (move_counted x.rules k at.mode g.path g.state at.state))

    abbrev by_states : List (List (ℕ × ℕ))
    by_states = table (entries x) (λ i. at_state (i / moves x) (i % moves x) (told_less (i % moves x) (moves x)))

    by_states_are : AreEntries x by_states
    by_states_are = table_entries (λ i. at_state (i / moves x) (i % moves x) (told_less (i % moves x) (moves x))) (λ i. state_pairs (i / moves x) (i % moves x) (told_less (i % moves x) (moves x)))

    by_states_have : (q k : ℕ) (g : Going) (at : IsMoveAt x.rules k g) → q < ancestors x → (i j : ℕ) → listed (entry x by_states q k) i j ↔ S q g at.mode i j
    by_states_have q k g at low i j =
        let within : k < moves x = move_counted x.rules k at.mode g.path g.state at.state in
        let n = q * moves x + k in
        let f : ℕ → List (ℕ × ℕ) = λ w. at_state (w / moves x) (w % moves x) (told_less (w % moves x) (moves x)) in
        let same : entry x by_states q k ≡ f n = table_at (entries x) f [] n (entry_index x q k low within) in
        let first : n / moves x ≡ q = div-mul-add q (moves x) k within in
        let second : n % moves x ≡ k = mod-mul-add q (moves x) k within in
        let there : f n ≡ at_state q k (told_less k (moves x)) = λ w. at_state (first w) (second w) (told_less (second w) (moves x)) in
        subst (λ l. listed l i j ↔ S q g at.mode i j) (sym (same ∙ there)) (state_has q k (told_less k (moves x)) g at i j)

  -- and looks
  module _ (G : Looking → ℕ) (small : (s : Looking) → G s ≤ 2) where
    abbrev at_look : (i : ℕ) → Told (i < looks x) → ℕ
    at_look i (inl low) = G (look_at x is i low).0
    at_look i (inr high) = 0

    look_small : (i : ℕ) (w : Told (i < looks x)) → at_look i w ≤ 2
    look_small i (inl low) = small (look_at x is i low).0
    look_small i (inr high) = omega arith

    look_is : (k : ℕ) (s : Looking) → IsLookAt x.rules k s → (w : Told (k - moves x < looks x)) → at_look (k - moves x) w ≡ G s
    look_is k s st (inl low) =
        let (first, last) = look_low x k s st in
        let place : moves x + (k - moves x) ≡ k = omega (arith, first) in
        ap G (look_once x is k (look_at x is (k - moves x) low).0 s (subst (λ n. IsLookAt x.rules n (look_at x is (k - moves x) low).0) place (look_at x is (k - moves x) low).1) st)
    look_is k s st (inr high) = absurd (high (look_index x k s st))

    abbrev by_looks : List ℕ
    by_looks = table (looks x) (λ i. at_look i (told_less i (looks x)))

    by_looks_are : AreLooks x by_looks
    by_looks_are = table_looks (λ i. at_look i (told_less i (looks x))) (λ i. look_small i (told_less i (looks x)))

    by_looks_have : (k : ℕ) (s : Looking) → IsLookAt x.rules k s → look x by_looks k ≡ G s
    by_looks_have k s st =
        table_at (looks x) (λ i. at_look i (told_less i (looks x))) 0 (k - moves x) (look_index x k s st) ∙ look_is k s st (told_less (k - moves x) (looks x))

  -- the row of no tree
  abbrev IsFirst : ℕ → Type 0
  IsFirst j = (k : ℕ) × (1 ≤ k) × (k ≤ length x.input.elements) × (j ≡ first_state x.input input k)

  first_low : (j : ℕ) → IsFirst j → j < state_count x.input input
  first_low j (k, low, high, e) =
      let (p, at) = pattern_at x.input.elements k low high in
      subst (λ w. w < state_count x.input input) (sym e) (first_below x.input input (a_content at))

  told_first : (j : ℕ) → Told (IsFirst j)
  told_first j =
      told_as (λ (k, (a, (b, e))). (k, omega (arith, a), omega (arith, b), e)) (λ (k, a, b, e). (k, (omega (arith, a), (omega (arith, b), e))))
      (told_any (suc (length x.input.elements)) (λ k. (0 < k) × ((k < suc (length x.input.elements)) × (j ≡ first_state x.input input k))) (λ k (a, (b, e)). b)
      (λ k. told_and (told_less 0 k) (told_and (told_less k (suc (length x.input.elements))) (told_nat j (first_state x.input input k)))))

  empty_there : (u : HedgeRow) × IsEmptyRow x u
  empty_there =
      let (states, set) = set_of (state_count x.input input) IsFirst first_low told_first in
      let f : ℕ → List (ℕ × ℕ) = λ i. list_of (stay x) (set_stay x) in (
        record { ends = false; bears = false; states = states; entries = table (entries x) f; looks = table (looks x) (λ i. 0) },
        record {
          row = record {
            ascend = set.ascend;
            states = all_of_set IsFirst (λ j. j < state_count x.input input) states set first_low;
            entries = table_entries f (λ i. list_pairs (stay x) (set_stay x));
            looks = table_looks (λ i. 0) (λ i. omega arith);
          };
          ends = refl;
          bears = refl;
          states = set.has;
          entries = λ i l a b. subst (λ w. listed w a b ↔ stay x a b) (sym (table_at (entries x) f [] i l)) ((list_is (stay x) (set_stay x)).has a b);
          looks = λ i l. table_at (looks x) (λ i. 0) 0 i l;
        },
      )

  -- the row of a text
  abbrev TextSet : ℕ → Going → ℕ → PairSet
  TextSet q g mode = hit_pairs x g q (letter_of_text x) on_text (nothing_below x)

  text_there : (u : TreeRow) × IsTextRow x u
  unfolding IsStrictlySortedBy
  text_there =
      let sets : (q : ℕ) (g : Going) (mode : ℕ) → IsSet x (TextSet q g mode) =
      λ q g mode. set_hit x (hits x g.path g.state (letter_of_text x)) (body_by x.symbols (predicates x) (sheet x).rules x.bodies g.task (ancestor x.rules q) (letter_of_text x)) on_text (nothing_below x) (λ m p. set_stay x)
      in
      let G : Looking → ℕ = λ s. cond (hits x s.path s.state (letter_of_text x)) (hit_value true) 0 in
      let small : (s : Looking) → G s ≤ 2 = λ s. cond_small (hits x s.path s.state (letter_of_text x)) 2 0 (omega arith) (omega arith) in (
        record { is_text = true; bears = true; patterns = []; entries = by_states TextSet sets; looks = by_looks G small },
        record {
          row = record { ascend = tt; patterns = λ k d l. absurd (omega (arith, l)); entries = by_states_are TextSet sets; looks = by_looks_are G small };
          is_text = refl;
          bears = refl;
          patterns = refl;
          entries = λ q k g low at. by_states_have TextSet sets q k g at low;
          looks = by_looks_have G small;
        },
      )

  value_small : (vs : List ℕ) → AreLooks x vs → (i : ℕ) → get_or vs i 0 ≤ 2
  value_small vs are i = elim (low_or_high i (length vs)) [ inl low ↦ All-get_or (λ v. v ≤ 2) vs i 0 low are.each | inr high ↦ omega (arith, past vs i 0 high) ]

  -- the row of trees with one more behind them
  module _ (h : HedgeRow) (t : TreeRow) (a : IsHedgeRow x h) (b : IsTreeRow x t) where
    abbrev Inner : ℕ → ℕ → Type 0
    Inner i j = (k : ℕ) × (Contains t.patterns k × IsEdge x.input input i (ref_leaf k) j)

    told_tree : (i j : ℕ) → Told (TreeLeads x t i j)
    told_tree i j =
        told_or (told_and (told_bool t.is_text) (told_input_edge x.input i text_leaf j))
        (told_and (told_false t.is_text)
        (told_as (λ (k, (c, e)). (k, c, e)) (λ (k, c, e). (k, (c, e)))
        (told_any (suc (length x.input.elements)) (λ k. Contains t.patterns k × IsEdge x.input input i (ref_leaf k) j)
        (λ k (c, e). let within = All-contains (λ w. (1 ≤ w) × (w ≤ length x.input.elements)) t.patterns k b.patterns c in omega (arith, within.1)) (λ k. told_and (told_member t.patterns k) (told_input_edge x.input i (ref_leaf k) j)))))

    tree_within : (i j : ℕ) → TreeLeads x t i j → (i < state_count x.input input) × (j < state_count x.input input)
    tree_within i j (inl (e, edge)) = edge_within x.input input i j text_leaf edge
    tree_within i j (inr (e, (k, c, edge))) = edge_within x.input input i j (ref_leaf k) edge

    abbrev IsNext : ℕ → Type 0
    IsNext j = (i : ℕ) × Contains h.states i × TreeLeads x t i j

    told_next : (j : ℕ) → Told (IsNext j)
    told_next j =
        told_as (λ (i, (c, l)). (i, c, l)) (λ (i, c, l). (i, (c, l)))
        (told_any (state_count x.input input) (λ i. Contains h.states i × TreeLeads x t i j) (λ i (c, l). (tree_within i j l).0) (λ i. told_and (told_member h.states i) (told_tree i j)))

    next_low : (j : ℕ) → IsNext j → j < state_count x.input input
    next_low j (i, c, l) = (tree_within i j l).1

    abbrev Both : ℕ → PairSet
    Both i = product (listed (get_or h.entries i [])) (listed (get_or t.entries i []))

    both_sets : (i : ℕ) → IsSet x (Both i)
    both_sets i = set_both x _ _ (set_entry x h.entries a.entries i) (set_entry x t.entries b.entries i)

    append_there : (u : HedgeRow) × IsAppend x h t u
    append_there =
        let (states, set) = set_of (state_count x.input input) IsNext next_low told_next in
        let f : ℕ → List (ℕ × ℕ) = λ i. list_of (Both i) (both_sets i) in
        let v : ℕ → ℕ = λ i. or_hit (get_or h.looks i 0) (get_or t.looks i 0) in (
          record { ends = t.is_text; bears = h.bears || t.bears; states = states; entries = table (entries x) f; looks = table (looks x) v },
          record {
            row = record {
              ascend = set.ascend;
              states = all_of_set IsNext (λ j. j < state_count x.input input) states set next_low;
              entries = table_entries f (λ i. list_pairs (Both i) (both_sets i));
              looks = table_looks v (λ i. or_small (get_or h.looks i 0) (get_or t.looks i 0) (value_small h.looks a.looks i) (value_small t.looks b.looks i));
            };
            ends = refl;
            bears = refl;
            states = set.has;
            entries = λ i l c d. subst (λ w. listed w c d ↔ Both i c d) (sym (table_at (entries x) f [] i l)) ((list_is (Both i) (both_sets i)).has c d);
            looks = λ i l. table_at (looks x) v 0 i l;
          },
        )

  -- the row of an element
  module _ (s : ℕ) (h : HedgeRow) (a : IsHedgeRow x h) where
    abbrev Content : ℕ → ElementPattern → Type 0
    Content k e = InClass e.names (fresh_name x.symbols s) × ((y : ℕ) × (Contains h.states (first_state x.input input k + y) × (automaton e.content).accepting y))

    told_content : (k : ℕ) (e : ElementPattern) → Told (Content k e)
    told_content k e =
        let sounds = sound e.content in
        told_and (told_bool (in_class e.names (fresh_name x.symbols s)))
        (told_any (automaton e.content).count (λ y. Contains h.states (first_state x.input input k + y) × (automaton e.content).accepting y) (λ y (c, d). sounds.accepted y d)
        (λ y. told_and (told_member h.states (first_state x.input input k + y)) (told_accepting e.content y)))

    told_pattern : (k : ℕ) → Told (IsPatternAround x s h k)
    told_pattern k = by (element_at x.input.elements k) refl
      where
        by : (o : Option ElementPattern) → element_at x.input.elements k ≡ o → Told (IsPatternAround x s h k)
        by None at = inr (λ (e, is, inside, w). let no : None ≡ Some e = sym at ∙ is in cc)
        by (Some e) at = elim (told_content k e) [
          | inl (inside, (y, (c, d))) ↦ inl (e, at, inside, (y, c, d))
          | inr f ↦ inr (λ (d, is, inside, (y, c, acc)). f (subst (Content k) (same_Some d e (sym is ∙ at)) (inside, (y, (c, acc)))))
        ]

    pattern_low : (k : ℕ) → IsPatternAround x s h k → k < suc (length x.input.elements)
    pattern_low k (e, at, inside, w) = let (low, high) = number_within x.input.elements k e at in omega (arith, high)

    pattern_range : (k : ℕ) → IsPatternAround x s h k → (1 ≤ k) × (k ≤ length x.input.elements)
    pattern_range k (e, at, inside, w) = number_within x.input.elements k e at

    abbrev WrapSet : ℕ → Going → ℕ → PairSet
    WrapSet q g mode =
        product (hit_pairs x g q (letter_around x s h.looks) (on_element s) (below x h.bears h.entries h.looks (number_below x q (letter_around x s h.looks))))
        (pairs_from x h.entries (number_below x q (letter_around x s h.looks)) (moving mode g.path (step x g.path g.state (letter_around x s h.looks))))

    wrap_sets : (q : ℕ) (g : Going) (mode : ℕ) → IsSet x (WrapSet q g mode)
    wrap_sets q g mode =
        let l = letter_around x s h.looks in
        set_both x _ _
        (set_hit x (hits x g.path g.state l) (body_by x.symbols (predicates x) (sheet x).rules x.bodies g.task (ancestor x.rules q) l) (on_element s) (below x h.bears h.entries h.looks (number_below x q l))
        (λ m p. set_from x h.entries a.entries (number_below x q l) (moving m p (paths.first_state p)))) (set_from x h.entries a.entries (number_below x q l) (moving mode g.path (step x g.path g.state l)))

    abbrev LookOf : Looking → ℕ
    LookOf w = cond (hits x w.path w.state (letter_around x s h.looks)) (hit_value h.bears) (look_from x h.looks (looking w.path (step x w.path w.state (letter_around x s h.looks))))

    from_small : (y : Select) → look_from x h.looks y ≤ 2
    from_small y = cond_small (nat_lt (number x y) (select_count x.rules)) (look x h.looks (number x y)) 0 (value_small h.looks a.looks (number x y - moves x)) (omega arith)

    look_small_of : (w : Looking) → LookOf w ≤ 2
    look_small_of w =
        cond_small (hits x w.path w.state (letter_around x s h.looks)) (hit_value h.bears) (look_from x h.looks (looking w.path (step x w.path w.state (letter_around x s h.looks)))) (hit_small h.bears) (from_small (looking w.path (step x w.path w.state (letter_around x s h.looks))))

    wrap_there : (u : TreeRow) × IsWrap x s h u
    wrap_there =
        let (patterns, set) = set_of (suc (length x.input.elements)) (IsPatternAround x s h) pattern_low told_pattern in (
          record { is_text = false; bears = h.bears; patterns = patterns; entries = by_states WrapSet wrap_sets; looks = by_looks LookOf look_small_of },
          record {
            row = record {
              ascend = set.ascend;
              patterns = all_of_set (IsPatternAround x s h) (λ k. (1 ≤ k) × (k ≤ length x.input.elements)) patterns set pattern_range;
              entries = by_states_are WrapSet wrap_sets;
              looks = by_looks_are LookOf look_small_of;
            };
            is_text = refl;
            bears = refl;
            patterns = set.has;
            entries = by_states_have WrapSet wrap_sets;
            looks = by_looks_have LookOf look_small_of;
          },
        )

  -- rows of trees, by their number of nodes
  abbrev HasHedgeRow : Trees → Type 0
  HasHedgeRow h = (r : HedgeRow) × IsRowOfHedge x h r

  abbrev HasTreeRow : Tree → Type 0
  HasTreeRow t = (r : TreeRow) × IsRowOfTree x t r

  tree_there : (t : Tree) → IsApart (alone t) → ((h : Trees) → node_count h < node_count (alone t) → IsApart h → HasHedgeRow h) → HasTreeRow t
  tree_there (a_text s) apart rows = let (u, c) = text_there in (u, text_row x is s u apart.1 c)
  tree_there (an_element n kids) apart rows =
      let (r, a) = rows kids (omega arith) apart.0 in
      let (u, c) = wrap_there (symbol_of x.symbols n) r a.row in
      (u, wrap_row x is n kids r u apart.0 a c)

  hedge_there : (n : ℕ) (h : Trees) → node_count h < n → IsApart h → HasHedgeRow h
  hedge_there zero h low apart = absurd (omega (arith, low))
  hedge_there (suc n) h low apart = by (from_back h) low apart (λ k l a. hedge_there n k l a)
    where
      by : {k : Trees} → FromBack k → node_count k < suc n → IsApart k → ((m : Trees) → node_count m < n → IsApart m → HasHedgeRow m) → HasHedgeRow k
      by is_none l a rows = let (u, c) = empty_there in (u, empty_row x is u c)
      by {k} (is_followed m t e b) l a rows =
          let (front, back, meet) = (apart_followed m t).0 (subst IsApart e a) in
          let count : node_count k ≡ node_count m + node_count (alone t) = ap node_count e ∙ nodes_beside m (alone t) in
          let (r, p) = rows m (omega (arith, l, count, some_node t)) front in
          let (s, q) = tree_there t back (λ w less apart. rows w (omega (arith, l, count, less)) apart) in
          let (u, c) = append_there r s p.row q.row in
          subst HasHedgeRow (sym e) (u, append_row x is m t r s u back p q c)

  pub are_there : AreThere x
  are_there = record {
    empty = empty_there;
    text = text_there;
    appended = append_there;
    wrapped = wrap_there;
    trees = λ t normal. tree_there t ((normal_apart (alone t)).0 normal) (λ h less apart. hedge_there (suc (node_count h)) h (omega arith) apart);
    hedges = λ h normal. hedge_there (suc (node_count h)) h (omega arith) ((normal_apart h).0 normal);
  }
