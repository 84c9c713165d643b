-- States of a triple by their numbers: what a number stands for, and where letters lead.
use Rattle.std.proofs.Common.{◌≡◌, ◌⊎◌, inl, inr, ℕ, zero, suc, ◌+◌, ◌<◌, ◌≤◌, List, [], ◌∷◌, ◌++◌, Bool, true, false, ◌&&◌, not, refl, ap, ◌∙◌, sym, subst, map, filter, flat_map, take, length, get_or, Option, Some, None, slice_get, if◌then◌else◌, arith}
use Rattle.std.proofs.lemmas.Bool.{true≢false}
use Rattle.std.proofs.lemmas.Option.{same_Some, slice_get_within}
use Rattle.std.proofs.lemmas.List.{length-map, length-append}
use Rattle.tc_model.specs.Sheets.{Path}
use Rattle.tc_model.specs.Numbered.{each_once_after, number_of}
use Rattle.tc_model.specs.Letters.{Kind, Letter, of_symbol, IsLetter}
use Rattle.tc_model.specs.PathStates.{State, same_state, is_empty_state, first_state, next_state, path_of_rules}
use Rattle.tc_model.specs.Numberings.{one_round, rounds, AreReached, letters_of_elements}
use Rattle.tc_model.specs.StateCounts.{PathUse, blocks_of, all_count, some_item}
use Rattle.tc_alpha.proofs.Members.{Every, every_member}
use Rattle.tc_rules.specs.Graphs.{Graph, LeadsTo, next_at}
use Rattle.tc_rules.specs.RulesView.{IsStateOf, count_states, select_count, ancestor, ancestor_below, select_below}
use Rattle.tc_rules.proofs.SameRows.{state_same, state_self}
use Rattle.tc_rules.proofs.Sameness.{every_kept}
use Rattle.tc_rules.proofs.SelectStates.{count_cons}
use Rattle.tc_rules.proofs.Counted.{first_there}
use Rattle.tc_rules.proofs.Queries.{graph_of, step_told, no_item_left, goes_on, above_told}
use Rattle.tc_rows.specs.Triples.{Triple, IsTriple, Select, sheet, predicates, ancestors, same_use, same_select, states_by, selects, number, number_below}
use Rattle.tc_rows.proofs.Numbers.{once_again, number_at, number_finds, number_most, use_number, number_by, with_state, in_parts}
use Rattle.tc_rows.proofs.Leading.{has_at}

-- all states that are reached are among those that count, and each is there once
module _ (counts : State → Bool) (next : State → Letter → State) (letters : List Letter) where
  abbrev Count : State → Type 0
  Count s = counts s ≡ true

  filtered : (xs : List State) → Every Count (filter counts xs)
  filtered [] = tt
  filtered (s ∷ xs) = by (counts s) refl (filtered xs)
    where
      by : (b : Bool) → counts s ≡ b → Every Count (filter counts xs) → Every Count (if b then (s ∷ filter counts xs) else filter counts xs)
      by true e rest = (e, rest)
      by false e rest = rest

  joined : (xs ys : List State) → Every Count xs → Every Count ys → Every Count (xs ++ ys)
  joined [] ys a b = b
  joined (s ∷ xs) ys a b = (a.0, joined xs ys a.1 b)

  one_more : (xs : List State) → Every Count xs → Every Count (one_round counts next letters xs)
  one_more xs a =
      every_kept same_state state_same state_self Count [] (xs ++ filter counts (flat_map (λ s. map (next s) letters) xs)) (joined xs (filter counts (flat_map (λ s. map (next s) letters) xs)) a (filtered (flat_map (λ s. map (next s) letters) xs)))

  more : (n : ℕ) (xs : List State) → Every Count xs → Every Count (rounds counts next letters n xs)
  more zero xs a = a
  more (suc n) xs a = more n (one_round counts next letters xs) (one_more xs a)

  pub all_count_so : (first : State) (xs : List State) → AreReached counts next letters first xs → Every Count xs
  all_count_so first xs r = subst (Every Count) (sym r.found.1) (more r.found.0 (filter counts (first ∷ [])) (filtered (first ∷ [])))

  pub all_once : (first : State) (xs : List State) → AreReached counts next letters first xs → each_once_after same_state [] xs ≡ xs
  all_once first xs r = subst (λ w. each_once_after same_state [] w ≡ w) r.all (once_again same_state (xs ++ filter counts (flat_map (λ s. map (next s) letters) xs)))

-- what stands at a place among all states
pub record IsPlaced (bs : List PathUse) (gs : List Graph) (k : ℕ) (y : Select) : Type 0 where
  pub place : ℕ
  pub block : slice_get bs place ≡ Some y.by
  pub graph : Graph
  pub graph_is : slice_get gs place ≡ Some graph
  pub number : ℕ
  pub state : slice_get graph.states number ≡ Some y.state
  pub number_is : k ≡ count_states (take place gs) + number

one_of_graph : (b : PathUse) (ss : List State) (i : ℕ) (y : Select) → slice_get (map (with_state b) ss) i ≡ Some y → (b ≡ y.by) × (slice_get ss i ≡ Some y.state)
one_of_graph b [] i y e = absurd (cc)
one_of_graph b (s ∷ ss) zero y e =
    let same : with_state b s ≡ y = same_Some (with_state b s) y e in
    (ap (λ (w : Select). w.by) same, ap (λ (w : Select). Some w.state) same)
one_of_graph b (s ∷ ss) (suc i) y e = one_of_graph b ss i y e

pub placed : (bs : List PathUse) (gs : List Graph) (k : ℕ) (y : Select) → slice_get (states_by bs gs) k ≡ Some y → IsPlaced bs gs k y
placed [] gs k y e = absurd (cc)
placed (b ∷ bs) [] k y e = absurd (cc)
placed (b ∷ bs) (g ∷ gs) k y e = by (in_parts (map (with_state b) g.states) (states_by bs gs) k y e) (λ j a. placed bs gs j y a)
  where
    by : (slice_get (map (with_state b) g.states) k ≡ Some y) ⊎ ((j : ℕ) × (k ≡ length (map (with_state b) g.states) + j) × (slice_get (states_by bs gs) j ≡ Some y))
        → ((j : ℕ) → slice_get (states_by bs gs) j ≡ Some y → IsPlaced bs gs j y) → IsPlaced (b ∷ bs) (g ∷ gs) k y
    by (inl a) later =
        let (used, at) = one_of_graph b g.states k y a in
        let none : count_states (take zero (g ∷ gs)) ≡ 0 = refl in
        record { place = zero; block = ap Some used; graph = g; graph_is = refl; number = k; state = at; number_is = omega (arith, none) }
    by (inr (j, is, a)) later =
        let p = later j a in
        record {
          place = suc p.place;
          block = p.block;
          graph = p.graph;
          graph_is = p.graph_is;
          number = p.number;
          state = p.state;
          number_is = omega (arith, is, p.number_is, length-map g.states (with_state b), count_cons g (take p.place gs));
        }

pub all_states : (bs : List PathUse) (gs : List Graph) → length gs ≡ length bs → length (states_by bs gs) ≡ count_states gs
all_states [] [] e = refl
all_states [] (g ∷ gs) e = absurd (omega (arith, e))
all_states (b ∷ bs) [] e = absurd (omega (arith, e))
all_states (b ∷ bs) (g ∷ gs) e =
    let rest : length (states_by bs gs) ≡ count_states gs = all_states bs gs (omega (arith, e)) in
    omega (arith, rest, length-append (map (with_state b) g.states) (states_by bs gs), length-map g.states (with_state b), count_cons g gs)

not_true : (b : Bool) → not b ≡ true → b ≡ false
not_true true e = cc
not_true false e = refl

module _ (x : Triple) (is : IsTriple x) where
  abbrev Next : Path → State → Letter → State
  Next p s l = next_state x.symbols (predicates x) p s l

  pub reached_of : (i : ℕ) (b : PathUse) (g : Graph) → slice_get (blocks_of (sheet x)) i ≡ Some b → slice_get x.rules.selects i ≡ Some g
      → AreReached some_item (Next b.path) (letters_of_elements x.symbols (predicates x)) (first_state b.path) g.states
  reached_of i b g e f = (graph_of x.symbols x.rules is.rules i b g e f).states

  -- the number of a state
  pub state_number : (k : ℕ) (b : PathUse) (s : State) → IsStateOf x.rules k b s → number x (with_state b s) ≡ k
  state_number k b s st =
      let r = reached_of st.place b st.graph st.block st.graph_is in
      let once = all_once some_item (Next b.path) (letters_of_elements x.symbols (predicates x)) (first_state b.path) st.graph.states r in
      number_by (blocks_of (sheet x)) x.rules.selects st.place b st.graph st.number s (use_number (sheet x) st.place b st.block) st.block st.graph_is
      (number_at same_state state_self st.graph.states st.number s once st.state) (slice_get_within st.graph.states st.number s st.state)
      ∙ sym st.number_is

  pub all_selects : length (selects x) ≡ select_count x.rules
  all_selects = all_states (blocks_of (sheet x)) x.rules.selects is.rules.all_selects

  pub number_low : (y : Select) → number x y ≤ select_count x.rules
  number_low y = omega (arith, number_most same_select y (selects x), all_selects)

  parts_true : (a b : Bool) → (a && b) ≡ true → b ≡ true
  parts_true true b e = e
  parts_true false b e = cc

  -- what a number among all stands for
  pub state_at : (k : ℕ) (y : Select) → slice_get (selects x) k ≡ Some y → IsStateOf x.rules k y.by y.state
  state_at k y e =
      let p = placed (blocks_of (sheet x)) x.rules.selects k y e in
      record { place = p.place; block = p.block; graph = p.graph; graph_is = p.graph_is; number = p.number; state = p.state; number_is = p.number_is }

  -- a state with a number has an item
  pub state_counts : (k : ℕ) (b : PathUse) (s : State) → IsStateOf x.rules k b s → is_empty_state s ≡ false
  state_counts k b s st =
      not_true (is_empty_state s)
      (every_member (λ w. some_item w ≡ true) st.graph.states s
      (all_count_so some_item (Next b.path) (letters_of_elements x.symbols (predicates x)) (first_state b.path) st.graph.states (reached_of st.place b st.graph st.block st.graph_is)) (has_at st.graph.states st.number s st.state))

  -- and an empty one has no number
  pub empty_number : (b : PathUse) (s : State) → is_empty_state s ≡ true → number x (with_state b s) ≡ select_count x.rules
  empty_number b s e = by (cases (number x (with_state b s)) (length (selects x)) (number_most same_select (with_state b s) (selects x)))
    where
      cases : (m n : ℕ) → m ≤ n → (m < n) ⊎ (m ≡ n)
      cases m n l = grind arith

      by : (number x (with_state b s) < length (selects x)) ⊎ (number x (with_state b s) ≡ length (selects x)) → number x (with_state b s) ≡ select_count x.rules
      by (inr same) = same ∙ all_selects
      by (inl low) =
          let (z, at, alike) = number_finds same_select (with_state b s) (selects x) low in
          let same : s ≡ z.state = state_same s z.state (parts_true (same_use b z.by) (same_state s z.state) alike) in
          let counts : is_empty_state z.state ≡ false = state_counts (number x (with_state b s)) z.by z.state (state_at (number x (with_state b s)) z at) in
          absurd (true≢false (sym e ∙ (ap is_empty_state same ∙ counts)))

  -- where a state leads below an element
  pub stepped : (k : ℕ) (b : PathUse) (s : State) (l : Letter) (a : ℕ) → IsStateOf x.rules k b s → IsLetter x.symbols (predicates x) l → l.kind ≡ of_symbol a
      → (is_empty_state (Next b.path s l) ≡ true) ⊎ ((n : ℕ) × IsStateOf x.rules n b (Next b.path s l))
  stepped k b s l a st lx e = by (step_told x.symbols x.rules is.rules k b s st a l.marks (lx.symbol a e) lx.marks)
    where
      letter : l ≡ record { kind = of_symbol a; marks = l.marks }
      letter = ap (λ (w : Kind). let y : Letter = record { kind = w; marks = l.marks } in y) e

      by : (j : Option ℕ) × (next_at st.graph st.number a l.marks ≡ Some j) × LeadsTo some_item st.graph j (select_below x.symbols x.rules b s (record { kind = of_symbol a; marks = l.marks })) → (is_empty_state (Next b.path s l) ≡ true) ⊎ ((n : ℕ) × IsStateOf x.rules n b (Next b.path s l))
      by (None, at, leads) = inl (ap (λ w. is_empty_state (Next b.path s w)) letter ∙ no_item_left x.symbols x.rules is.rules k b s (select_below x.symbols x.rules b s (record { kind = of_symbol a; marks = l.marks })) st leads)
      by (Some j, at, leads) =
          inr (
            count_states (take st.place x.rules.selects) + j,
            subst (λ w. IsStateOf x.rules (count_states (take st.place x.rules.selects) + j) b (Next b.path s w)) (sym letter) (goes_on x.symbols x.rules is.rules k j b s (select_below x.symbols x.rules b s (record { kind = of_symbol a; marks = l.marks })) st leads),
          )

  true_or_false : (b : Bool) → (b ≡ true) ⊎ (b ≡ false)
  true_or_false true = inl refl
  true_or_false false = inr refl

  -- the first state of a use
  pub begun : (i : ℕ) (b : PathUse) → slice_get (blocks_of (sheet x)) i ≡ Some b → (is_empty_state (first_state b.path) ≡ true) ⊎ ((n : ℕ) × IsStateOf x.rules n b (first_state b.path))
  begun i b e = by (true_or_false (is_empty_state (first_state b.path)))
    where
      by : (is_empty_state (first_state b.path) ≡ true) ⊎ (is_empty_state (first_state b.path) ≡ false) → (is_empty_state (first_state b.path) ≡ true) ⊎ ((n : ℕ) × IsStateOf x.rules n b (first_state b.path))
      by (inl empty) = inl empty
      by (inr some) =
          let (g, at, graph) = is.rules.selects i b e in
          inr (
            count_states (take i x.rules.selects) + 0,
            record {
              place = i;
              block = e;
              graph = g;
              graph_is = at;
              number = 0;
              state = first_there some_item (Next b.path) (letters_of_elements x.symbols (predicates x)) (first_state b.path) g.states graph.states (ap not some);
              number_is = refl;
            },
          )

  ancestors_reached : AreReached all_count (Next (path_of_rules (sheet x).rules)) (letters_of_elements x.symbols (predicates x)) (first_state (path_of_rules (sheet x).rules)) x.rules.ancestors.states
  ancestors_reached = is.rules.ancestors.states

  -- the number of an ancestor state
  pub ancestor_number : (q : ℕ) (s : State) → slice_get x.rules.ancestors.states q ≡ Some s → number_of same_state s x.rules.ancestors.states ≡ q
  ancestor_number q s e =
      number_at same_state state_self x.rules.ancestors.states q s
      (all_once all_count (Next (path_of_rules (sheet x).rules)) (letters_of_elements x.symbols (predicates x)) (first_state (path_of_rules (sheet x).rules)) x.rules.ancestors.states ancestors_reached) e

  got : {X : Type 0} (xs : List X) (i : ℕ) (d : X) → i < length xs → slice_get xs i ≡ Some (get_or xs i d)
  got [] i d l = absurd (omega (arith, l))
  got (y ∷ xs) zero d l = refl
  got (y ∷ xs) (suc i) d l = got xs i d (omega (arith, l))

  got_or : {X : Type 0} (xs : List X) (i : ℕ) (y d : X) → slice_get xs i ≡ Some y → get_or xs i d ≡ y
  got_or [] i y d e = absurd (cc)
  got_or (z ∷ xs) zero y d e = same_Some z y e
  got_or (z ∷ xs) (suc i) y d e = got_or xs i y d e

  pub first_ancestor : ancestor x.rules 0 ≡ first_state (path_of_rules (sheet x).rules)
  first_ancestor =
      got_or x.rules.ancestors.states 0 (first_state (path_of_rules (sheet x).rules)) []
      (first_there all_count (Next (path_of_rules (sheet x).rules)) (letters_of_elements x.symbols (predicates x)) (first_state (path_of_rules (sheet x).rules)) x.rules.ancestors.states ancestors_reached refl)

  pub some_ancestor : 0 < ancestors x
  some_ancestor =
      slice_get_within x.rules.ancestors.states 0 (first_state (path_of_rules (sheet x).rules))
      (first_there all_count (Next (path_of_rules (sheet x).rules)) (letters_of_elements x.symbols (predicates x)) (first_state (path_of_rules (sheet x).rules)) x.rules.ancestors.states ancestors_reached refl)

  -- the ancestor state below an element
  pub record IsNumberBelow (q : ℕ) (l : Letter) : Type 0 where
    pub low : number_below x q l < ancestors x
    pub state : ancestor x.rules (number_below x q l) ≡ ancestor_below x.symbols x.rules q l

  pub below_number : (q : ℕ) (l : Letter) (a : ℕ) → q < ancestors x → IsLetter x.symbols (predicates x) l → l.kind ≡ of_symbol a → IsNumberBelow q l
  below_number q l a low lx e = by (above_told x.symbols x.rules is.rules q (ancestor x.rules q) a l.marks (got x.rules.ancestors.states q [] low) (lx.symbol a e) lx.marks)
    where
      letter : l ≡ record { kind = of_symbol a; marks = l.marks }
      letter = ap (λ (w : Kind). let y : Letter = record { kind = w; marks = l.marks } in y) e

      by : (j : Option ℕ) × (next_at x.rules.ancestors q a l.marks ≡ Some j) × LeadsTo all_count x.rules.ancestors j (Next (path_of_rules (sheet x).rules) (ancestor x.rules q) (record { kind = of_symbol a; marks = l.marks })) → IsNumberBelow q l
      by (None, at, leads) = absurd (true≢false leads)
      by (Some j, at, leads) =
          let there : slice_get x.rules.ancestors.states j ≡ Some (ancestor_below x.symbols x.rules q l) = leads.1 ∙ ap (λ w. Some (Next (path_of_rules (sheet x).rules) (ancestor x.rules q) w)) (sym letter) in
          let same : number_below x q l ≡ j = ancestor_number j (ancestor_below x.symbols x.rules q l) there in
          record {
            low = subst (λ w. w < ancestors x) (sym same) (slice_get_within x.rules.ancestors.states j (ancestor_below x.symbols x.rules q l) there);
            state = ap (ancestor x.rules) same ∙ got_or x.rules.ancestors.states j (ancestor_below x.symbols x.rules q l) [] there;
          }
