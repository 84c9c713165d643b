-- The states of patterns and of schemas: their numbers, the edges between them, those that accept, and what trees lead from one to another.
-- These are content automata, that of the positions of a pattern and products for interleave. A run takes an
-- edge for every text, also for one of white space alone; what leads where for the outputs of stylesheets
-- (`Leads`) lets such a text stay where it is.
use Rattle.std.specs.Prelude.{◌≡◌, ◌<◌, ◌≤◌, ◌⊎◌, ℕ, zero, suc, ◌+◌, ◌-◌, ◌*◌, List, [], ◌∷◌, length, Bool, false, ◌==◌, ◌||◌, Some, IsTrue}
use Rattle.tc_model.specs.Names.{ExpandedName}
use Rattle.tc_model.specs.Trees.{Trees, none, text, element, is_white_space_only, normal_form}
use Rattle.tc_model.specs.Grammars as p
use Rattle.tc_model.specs.Grammars.{Pattern, Patterns, no_more, more, ElementPattern, Grammar, element_at, InClass}
use Rattle.tc_model.specs.Matching.{Matches}

-- what an edge takes: a text, or an element that matches the element pattern of a number
pub data Leaf : Type 0 where
  text_leaf : Leaf
  ref_leaf : ℕ → Leaf

-- states from 0, which is the start; edges between them; and the states that accept
pub record Automaton : Type 1 where
  pub count : ℕ
  pub edge : ℕ → Leaf → ℕ → Type 0
  pub accepting : ℕ → Type 0

-- the start alone, which accepts
abbrev pub empty_automaton : Automaton
empty_automaton = record { count = 1; edge = λ i l j. ⊥; accepting = λ j. j ≡ 0 }

-- the start alone, which doesn't
abbrev pub nothing_automaton : Automaton
nothing_automaton = record { count = 1; edge = λ i l j. ⊥; accepting = λ j. ⊥ }

-- texts in any number
abbrev pub text_automaton : Automaton
text_automaton = record { count = 2; edge = λ i l j. (l ≡ text_leaf) × (i ≤ 1) × (j ≡ 1); accepting = λ j. j ≤ 1 }

-- one element
abbrev pub ref_automaton : ℕ → Automaton
ref_automaton k = record { count = 2; edge = λ i l j. (l ≡ ref_leaf k) × (i ≡ 0) × (j ≡ 1); accepting = λ j. j ≡ 1 }

-- where a state of the second stands, after those of the first; its state 0 is none of them
abbrev pub shift : Automaton → ℕ → ℕ
shift a y = a.count - 1 + y

-- the edges of the first; those of the second from its states but 0; and those from its state 0, from each of some states
abbrev pub joined_edge : Automaton → Automaton → (ℕ → Type 0) → ℕ → Leaf → ℕ → Type 0
joined_edge a b From i l j =
    a.edge i l j
    ⊎ (((x : ℕ) × (y : ℕ) × (i ≡ shift a x) × (j ≡ shift a y) × (0 < x) × b.edge x l y) ⊎ ((y : ℕ) × From i × (j ≡ shift a y) × b.edge 0 l y))

-- one after the other: the second begins where the first accepts
abbrev pub group_of : Automaton → Automaton → Automaton
group_of a b = record {
  count = a.count + b.count - 1;
  edge = joined_edge a b a.accepting;
  accepting = λ j. ((y : ℕ) × (j ≡ shift a y) × (0 < y) × b.accepting y) ⊎ (b.accepting 0 × a.accepting j);
}

-- one of both, the two starts being one
abbrev pub choice_of : Automaton → Automaton → Automaton
choice_of a b = record {
  count = a.count + b.count - 1;
  edge = joined_edge a b (λ i. i ≡ 0);
  accepting = λ j. a.accepting j ⊎ (((y : ℕ) × (j ≡ shift a y) × (0 < y) × b.accepting y) ⊎ ((j ≡ 0) × b.accepting 0));
}

-- again and again: it begins anew where it accepts
abbrev pub repeat_of : Automaton → Automaton
repeat_of a = record { count = a.count; edge = λ i l j. a.edge i l j ⊎ (a.accepting i × a.edge 0 l j); accepting = a.accepting }

-- the pair of a state of each
abbrev pub pair : Automaton → ℕ → ℕ → ℕ
pair b x y = x * b.count + y

-- both at once: each item is taken by the one or the other
abbrev pub interleave_of : Automaton → Automaton → Automaton
interleave_of a b = record {
  count = a.count * b.count;
  edge = λ i l j. ((x : ℕ) × (z : ℕ) × (y : ℕ) × (i ≡ pair b x y) × (j ≡ pair b z y) × (y < b.count) × a.edge x l z) ⊎ ((x : ℕ) × (y : ℕ) × (z : ℕ) × (i ≡ pair b x y) × (j ≡ pair b x z) × (x < a.count) × b.edge y l z);
  accepting = λ j. (x : ℕ) × (y : ℕ) × (j ≡ pair b x y) × a.accepting x × b.accepting y;
}

abbrev mutual
  -- the automaton of a pattern; the patterns of a list are put together from the left
  pub automaton : Pattern → Automaton
  automaton p.empty = empty_automaton
  automaton p.not_allowed = nothing_automaton
  automaton p.text = text_automaton
  automaton (p.ref k) = ref_automaton k
  automaton (p.group ps) = grouped ps empty_automaton
  automaton (p.choice ps) = chosen ps nothing_automaton
  automaton (p.interleave ps) = interleaved ps empty_automaton
  automaton (p.one_or_more q) = repeat_of (automaton q)

  pub grouped : Patterns → Automaton → Automaton
  grouped no_more a = a
  grouped (more q qs) a = grouped qs (group_of a (automaton q))

  pub chosen : Patterns → Automaton → Automaton
  chosen no_more a = a
  chosen (more q qs) a = chosen qs (choice_of a (automaton q))

  pub interleaved : Patterns → Automaton → Automaton
  interleaved no_more a = a
  interleaved (more q qs) a = interleaved qs (interleave_of a (automaton q))

-- the first of the trees is an item that the leaf takes, and the second are the rest
pub data Front (Element : ℕ → ExpandedName → Trees → Type 0) : Leaf → Trees → Trees → Type 0 where
  front_text : {s : List ℕ} {h : Trees} → Front Element text_leaf (text s h) h
  front_element : {r : ℕ} {n : ExpandedName} {c h : Trees} → Element r n c → Front Element (ref_leaf r) (element n c h) h

-- from one state to another, by an edge for each item
pub data Run (Element : ℕ → ExpandedName → Trees → Type 0) (Edge : ℕ → Leaf → ℕ → Type 0) : ℕ → Trees → ℕ → Type 0 where
  stay : {i : ℕ} → Run Element Edge i none i
  step : {i j k : ℕ} {l : Leaf} {g h : Trees} → Front Element l g h → Edge i l j → Run Element Edge j h k → Run Element Edge i g k

-- an element of this name and these children matches the element pattern of a number
abbrev pub IsElementOf : List ElementPattern → ℕ → ExpandedName → Trees → Type 0
IsElementOf g k n c = (e : ElementPattern) × (element_at g k ≡ Some e) × InClass e.names n × Matches g c e.content

-- a run from a state to one that accepts
abbrev pub AcceptsFrom : (ℕ → ExpandedName → Trees → Type 0) → Automaton → ℕ → Trees → Type 0
AcceptsFrom Element a i h = (k : ℕ) × Run Element a.edge i h k × a.accepting k

-- an input schema has the states of its contents alone, an output schema those of its start before them
pub data Side : Type 0 where
  input : Side
  output : Side

-- the numbers of patterns: 0 of the start, and from 1 on of the contents
pub data IsPart (g : Grammar) : Side → ℕ → Pattern → Type 0 where
  the_start : IsPart g output 0 g.start
  a_content : {side : Side} {k : ℕ} {e : ElementPattern} → element_at g.elements k ≡ Some e → IsPart g side k e.content

-- how many states the first so many contents have
abbrev pub states_of_contents : List ElementPattern → ℕ → ℕ
states_of_contents [] k = 0
states_of_contents (e ∷ es) zero = 0
states_of_contents (e ∷ es) (suc k) = (automaton e.content).count + states_of_contents es k

abbrev pub states_of_start : Grammar → Side → ℕ
states_of_start g input = 0
states_of_start g output = (automaton g.start).count

-- the state at which a part begins: the states of the parts before it come first
abbrev pub first_state : Grammar → Side → ℕ → ℕ
first_state g side zero = 0
first_state g side (suc k) = states_of_start g side + states_of_contents g.elements k

-- how many states there are
abbrev pub state_count : Grammar → Side → ℕ
state_count g side = first_state g side (suc (length g.elements))

-- an edge of one of the parts
abbrev pub IsEdge : Grammar → Side → ℕ → Leaf → ℕ → Type 0
IsEdge g side i l j =
    (k : ℕ) × (q : Pattern) × (x : ℕ) × (y : ℕ)
    × IsPart g side k q × (i ≡ first_state g side k + x) × (j ≡ first_state g side k + y) × (automaton q).edge x l y

-- an accepting state of one of the parts
abbrev pub IsAccepting : Grammar → Side → ℕ → Type 0
IsAccepting g side j = (k : ℕ) × (q : Pattern) × (y : ℕ) × IsPart g side k q × (j ≡ first_state g side k + y) × (automaton q).accepting y

-- the trees match a part by states: a run leads from its first state to an accepting one
abbrev pub IsAccepted : Grammar → Side → ℕ → Trees → Type 0
IsAccepted g side k h = (j : ℕ) × Run (IsElementOf g.elements) (IsEdge g side) (first_state g side k) h j × IsAccepting g side j

-- whether an element pattern is an alternative of a pattern, through nested choices
abbrev mutual
  pub is_alternative : ℕ → Pattern → Bool
  is_alternative k (p.ref m) = k == m
  is_alternative k (p.choice ps) = is_one_alternative k ps
  is_alternative k p.empty = false
  is_alternative k p.not_allowed = false
  is_alternative k p.text = false
  is_alternative k (p.group ps) = false
  is_alternative k (p.interleave ps) = false
  is_alternative k (p.one_or_more q) = false

  pub is_one_alternative : ℕ → Patterns → Bool
  is_one_alternative k no_more = false
  is_one_alternative k (more q qs) = is_alternative k q || is_one_alternative k qs

-- what trees lead from one state to another: a text of white space alone stays where it is, any other text takes an edge, and so does an element, by an element pattern that its normal form matches
pub data Leads (g : Grammar) (side : Side) : ℕ → Trees → ℕ → Type 0 where
  at_end : {i : ℕ} → Leads g side i none i
  past_white : {i j : ℕ} {s : List ℕ} {h : Trees} → IsTrue (is_white_space_only s) → Leads g side i h j → Leads g side i (text s h) j
  by_text : {i j k : ℕ} {s : List ℕ} {h : Trees} → is_white_space_only s ≡ false → IsEdge g side i text_leaf j → Leads g side j h k → Leads g side i (text s h) k
  by_element : {i j k r : ℕ} {n : ExpandedName} {c h : Trees} → IsElementOf g.elements r n (normal_form c) → IsEdge g side i (ref_leaf r) j → Leads g side j h k → Leads g side i (element n c h) k
