-- Sets of states and of element patterns of one schema that are worked out exist, as lists in order.
use Rattle.std.proofs.Common.{◌≡◌, ◌↔◌, inl, inr, ℕ, suc, ◌+◌, ◌<◌, ◌≤◌, List, [], ◌∷◌, length, Bool, true, false, refl, ◌∙◌, sym, subst, Option, Some, None, Contains, All, arith}
use Rattle.std.specs.List.Sorted.{IsStrictlySortedBy}
use Rattle.std.proofs.lemmas.Bool.{true≢false}
use Rattle.std.proofs.lemmas.Option.{same_Some}
use Rattle.std.proofs.lemmas.List.Elements.{All-contains}
use Rattle.tc_model.specs.Grammars.{Grammar, ElementPattern, element_at, InClass, in_class}
use Rattle.tc_model.specs.States.{input, text_leaf, ref_leaf, automaton, first_state, state_count, a_content, IsEdge}
use Rattle.tc_model.specs.Symbols.{Mention, fresh_name}
use Rattle.tc_model.proofs.StatesExact.{sound}
use Rattle.tc_model.proofs.StatesParts.{edge_within}
use Rattle.tc_alpha.proofs.Members.{Has, has_from_contains, contains_from_has, every_from_members, all_from_every}
use Rattle.tc_hedge.proofs.Leading.{first_below}
use Rattle.tc_rows.proofs.Inside.{number_within, pattern_at}
use Rattle.tc_rows.proofs.Deciding.{Told, told_and, told_or, told_as, told_nat, told_less, told_bool, told_any, told_accepting, told_input_edge, set_of}
use Rattle.tc_incl.specs.Rows.{AreStates, ArePatterns}
use Rattle.tc_incl.specs.Arithmetic.{TreeLeads, AreBegun, AreNext, IsPatternAround, AreAround}

-- all members of a set
pub all_of_set : (P Q : ℕ → Type 0) (xs : List ℕ) → ((j : ℕ) → Contains xs j ↔ P j) → ((j : ℕ) → P j → Q j) → All Q xs
all_of_set P Q xs s f = all_from_every Q xs (every_from_members Q xs (λ j h. f j ((s j).0 (contains_from_has xs j h))))

told_false : (b : Bool) → Told (b ≡ false)
told_false true = inr (λ e. true≢false e)
told_false false = inl refl

pub told_member : (xs : List ℕ) (j : ℕ) → Told (Contains xs j)
told_member xs j = told_as (contains_from_has xs j) (has_from_contains xs j) (by xs)
  where
    by : (ys : List ℕ) → Told (Has ys j)
    by [] = inr (λ h. h)
    by (k ∷ ys) = told_or (told_nat k j) (by ys)

pub none_patterns : (g : Grammar) → ArePatterns g []
unfolding IsStrictlySortedBy
none_patterns g = record { ascend = tt; within = λ k d l. absurd (omega (arith, l)) }

module _ (g : Grammar) where
  abbrev IsFirst : ℕ → Type 0
  IsFirst j = (k : ℕ) × (1 ≤ k) × (k ≤ length g.elements) × (j ≡ first_state g input k)

  pub first_low : (j : ℕ) → IsFirst j → j < state_count g input
  first_low j (k, low, high, e) =
      let (p, at) = pattern_at g.elements k low high in
      subst (λ w. w < state_count g input) (sym e) (first_below g input (a_content at))

  told_first : (j : ℕ) → Told (IsFirst j)
  told_first j =
      told_as (λ (k, (a, (b, e))). (k, omega (arith, a), omega (arith, b), e)) (λ (k, a, b, e). (k, (omega (arith, a), (omega (arith, b), e))))
      (told_any (suc (length g.elements)) (λ k. (0 < k) × ((k < suc (length g.elements)) × (j ≡ first_state g input k))) (λ k (a, (b, e)). b)
      (λ k. told_and (told_less 0 k) (told_and (told_less k (suc (length g.elements))) (told_nat j (first_state g input k)))))

  pub begun_there : (states : List ℕ) × AreStates g states × AreBegun g states
  begun_there =
      let (states, set) = set_of (state_count g input) IsFirst first_low told_first in
      (states, record { ascend = set.ascend; within = all_of_set IsFirst (λ j. j < state_count g input) states set.has first_low }, set.has)

  -- with one tree more
  module _ (states : List ℕ) (is : Bool) (patterns : List ℕ) (row : ArePatterns g patterns) where
    told_tree : (i j : ℕ) → Told (TreeLeads g is patterns i j)
    told_tree i j =
        told_or (told_and (told_bool is) (told_input_edge g i text_leaf j))
        (told_and (told_false is)
        (told_as (λ (k, (c, e)). (k, c, e)) (λ (k, c, e). (k, (c, e)))
        (told_any (suc (length g.elements)) (λ k. Contains patterns k × IsEdge g input i (ref_leaf k) j)
        (λ k (c, e). let within = All-contains (λ w. (1 ≤ w) × (w ≤ length g.elements)) patterns k row.within c in omega (arith, within.1)) (λ k. told_and (told_member patterns k) (told_input_edge g i (ref_leaf k) j)))))

    tree_within : (i j : ℕ) → TreeLeads g is patterns i j → (i < state_count g input) × (j < state_count g input)
    tree_within i j (inl (e, edge)) = edge_within g input i j text_leaf edge
    tree_within i j (inr (e, (k, c, edge))) = edge_within g input i j (ref_leaf k) edge

    abbrev IsNext : ℕ → Type 0
    IsNext j = (i : ℕ) × Contains states i × TreeLeads g is patterns i j

    told_next : (j : ℕ) → Told (IsNext j)
    told_next j =
        told_as (λ (i, (c, l)). (i, c, l)) (λ (i, c, l). (i, (c, l)))
        (told_any (state_count g input) (λ i. Contains states i × TreeLeads g is patterns i j) (λ i (c, l). (tree_within i j l).0) (λ i. told_and (told_member states i) (told_tree i j)))

    next_low : (j : ℕ) → IsNext j → j < state_count g input
    next_low j (i, c, l) = (tree_within i j l).1

    pub next_there : (next : List ℕ) × AreStates g next × AreNext g states is patterns next
    next_there =
        let (next, set) = set_of (state_count g input) IsNext next_low told_next in
        (next, record { ascend = set.ascend; within = all_of_set IsNext (λ j. j < state_count g input) next set.has next_low }, set.has)

  -- around trees
  module _ (symbols : List Mention) (s : ℕ) (states : List ℕ) where
    abbrev Content : ℕ → ElementPattern → Type 0
    Content k e = InClass e.names (fresh_name symbols s) × ((y : ℕ) × (Contains states (first_state g input k + y) × (automaton e.content).accepting y))

    told_content : (k : ℕ) (e : ElementPattern) → Told (Content k e)
    told_content k e =
        let sounds = sound e.content in
        told_and (told_bool (in_class e.names (fresh_name symbols s)))
        (told_any (automaton e.content).count (λ y. Contains states (first_state g input k + y) × (automaton e.content).accepting y) (λ y (c, d). sounds.accepted y d)
        (λ y. told_and (told_member states (first_state g input k + y)) (told_accepting e.content y)))

    told_pattern : (k : ℕ) → Told (IsPatternAround g symbols s states k)
    told_pattern k = by (element_at g.elements k) refl
      where
        by : (o : Option ElementPattern) → element_at g.elements k ≡ o → Told (IsPatternAround g symbols s states k)
        by None at = inr (λ (e, is, inside, w). let no : None ≡ Some e = sym at ∙ is in cc)
        by (Some e) at = elim (told_content k e) [
          | inl (inside, (y, (c, d))) ↦ inl (e, at, inside, (y, c, d))
          | inr f ↦ inr (λ (d, is, inside, (y, c, acc)). f (subst (Content k) (same_Some d e (sym is ∙ at)) (inside, (y, (c, acc)))))
        ]

    pattern_low : (k : ℕ) → IsPatternAround g symbols s states k → k < suc (length g.elements)
    pattern_low k (e, at, inside, w) = let (low, high) = number_within g.elements k e at in omega (arith, high)

    pub pattern_range : (k : ℕ) → IsPatternAround g symbols s states k → (1 ≤ k) × (k ≤ length g.elements)
    pattern_range k (e, at, inside, w) = number_within g.elements k e at

    pub around_there : (patterns : List ℕ) × ArePatterns g patterns × AreAround g symbols s states patterns
    around_there =
        let (patterns, set) = set_of (suc (length g.elements)) (IsPatternAround g symbols s states) pattern_low told_pattern in
        (patterns, record { ascend = set.ascend; within = all_of_set (IsPatternAround g symbols s states) (λ k. (1 ≤ k) × (k ≤ length g.elements)) patterns set.has pattern_range }, set.has)
