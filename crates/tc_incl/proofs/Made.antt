-- Rows that are made of rows, by the sets that tell them.
use Rattle.std.proofs.Common.{◌≡◌, ◌↔◌, ◌⊎◌, inl, inr, ℕ, ◌+◌, ◌<◌, ◌≤◌, List, [], ◌∷◌, length, Bool, true, false, ◌&&◌, refl, ◌∙◌, sym, subst, Contains, All, arith}
use Rattle.std.proofs.lemmas.Bool.{true≢false}
use Rattle.std.proofs.lemmas.Option.{same_Some}
use Rattle.std.proofs.lemmas.List.Elements.{All-contains}
use Rattle.tc_auto.specs.Stands as a
use Rattle.tc_auto.specs.declared.auto.Auto.{Auto}
use Rattle.tc_hedge.proofs.Bounds.{patterns_of, states_of}
use Rattle.tc_alpha.proofs.Members.{Has as HasItem, has_from_contains, contains_from_has, every_from_members, all_from_every}
use Rattle.tc_model.specs.Grammars.{Grammar, ElementPattern, some_content_has_text}
use Rattle.tc_model.specs.States.{input, automaton, first_state}
use Rattle.tc_model.specs.Symbols.{Mention, fresh_name}
use Rattle.tc_sets.specs.Numbers.{Numbers, Has, HasNone, IsSet}
use Rattle.tc_incl.specs.declared.rows.Row.{Row}
use Rattle.tc_incl.specs.declared.both.Both.{Both}
use Rattle.tc_incl.specs.Schemas.{Schemas}
use Rattle.tc_incl.specs.Rows.{AreStates, ArePatterns}
use Rattle.tc_incl.specs.Arithmetic.{TreeLeads, AreBegun, AreNext, IsPatternAround, AreAround}
use Rattle.tc_incl.specs.Sets.{members}
use Rattle.tc_incl.specs.Sides.{IsAllowed, AreAllowed, IsBegun, IsTaken, IsAfter}
use Rattle.tc_incl.specs.Held.{AreTold, IsHedgeFit, IsTreeFit, IsText, IsAppended, NoAppended, IsWrapped, NoWrapped}
use Rattle.tc_incl.proofs.Listed.{members_rise, members_have, members_below}

module _ (g : Grammar) (auto : Auto) (st : a.Stands input g auto) where
  -- members of sets of states and of element patterns
  pub are_states : (s : Numbers) → IsSet s → s.size ≡ a.states auto → AreStates g (members s)
  are_states s ok size = record {
    ascend = members_rise s;
    within = subst (λ n. All (λ j. j < n) (members s)) (size ∙ states_of input g auto st) (members_below s ok);
  }

  pub are_patterns : (s : Numbers) → IsSet s → s.size ≡ a.patterns auto + 1 → ¬ Has s 0 → ArePatterns g (members s)
  are_patterns s ok size none = record {
    ascend = members_rise s;
    within = all_from_every (λ k. (1 ≤ k) × (k ≤ length g.elements)) (members s)
        (every_from_members (λ k. (1 ≤ k) × (k ≤ length g.elements)) (members s)
        (λ k h. let there = (members_have s ok k).0 (contains k h) in (from_one k there, let low = All-contains (λ j. j < s.size) (members s) k (members_below s ok) (contains k h) in omega (arith, low, size, patterns_of input g auto st))));
  }
    where
      contains : (k : ℕ) → HasItem (members s) k → Contains (members s) k
      contains k h = contains_from_has (members s) k h

      from_one : (k : ℕ) → Has s k → 1 ≤ k
      from_one k there = by k there (cases k)
        where
          cases : (k : ℕ) → (k ≡ 0) ⊎ (1 ≤ k)
          cases k = grind arith

          by : (k : ℕ) → Has s k → (k ≡ 0) ⊎ (1 ≤ k) → 1 ≤ k
          by k there (inl e) = absurd (none (subst (Has s) e there))
          by k there (inr l) = l

  pub are_begun : (s : Numbers) → IsSet s → ((j : ℕ) → Has s j ↔ IsBegun g (length g.elements) j) → AreBegun g (members s)
  are_begun s ok tells j = (λ c. (tells j).0 ((members_have s ok j).0 c), λ e. (members_have s ok j).1 ((tells j).1 e))

  -- a tree leads by its list of patterns as by its set
  module _ (states patterns : Numbers) (ok : IsSet states) (also : IsSet patterns) (is : Bool) where
    led_listed : ¬ Has patterns 0 → patterns.size ≡ a.patterns auto + 1 → (j : ℕ) → IsAfter g states is patterns j ↔ ((i : ℕ) × Contains (members states) i × TreeLeads g is (members patterns) i j)
    led_listed none size j = (to, of)
      where
        to : IsAfter g states is patterns j → (i : ℕ) × Contains (members states) i × TreeLeads g is (members patterns) i j
        to (inl (e, (i, there, edge))) = (i, (members_have states ok i).1 there, inl (e, edge))
        to (inr (e, (k, low, high, p, (i, there, edge)))) = (i, (members_have states ok i).1 there, inr (e, (k, (members_have patterns also k).1 p, edge)))

        of : (i : ℕ) × Contains (members states) i × TreeLeads g is (members patterns) i j → IsAfter g states is patterns j
        of (i, there, inl (e, edge)) = inl (e, (i, (members_have states ok i).0 there, edge))
        of (i, there, inr (e, (k, c, edge))) =
            let rows = are_patterns patterns also size none in
            let (low, high) = All-contains (λ k. (1 ≤ k) × (k ≤ length g.elements)) (members patterns) k rows.within c in
            inr (e, (k, low, high, (members_have patterns also k).0 c, (i, (members_have states ok i).0 there, edge)))

    pub are_next : ¬ Has patterns 0 → patterns.size ≡ a.patterns auto + 1 → (next : Numbers) → IsSet next → ((j : ℕ) → Has next j ↔ IsAfter g states is patterns j) → AreNext g (members states) is (members patterns) (members next)
    are_next none size next set tells j = (
      λ c. (led_listed none size j).0 ((tells j).0 ((members_have next set j).0 c)),
      λ e. (members_have next set j).1 ((tells j).1 ((led_listed none size j).1 e)),
    )

  -- element patterns around states
  module _ (symbols : List Mention) (symbol : ℕ) (states : Numbers) (ok : IsSet states) where
    pub around_listed : (k : ℕ) → (IsAllowed g (fresh_name symbols symbol) k × IsTaken g states k) ↔ IsPatternAround g symbols symbol (members states) k
    around_listed k = (to, of)
      where
        to : IsAllowed g (fresh_name symbols symbol) k × IsTaken g states k → IsPatternAround g symbols symbol (members states) k
        to ((e, at, inside), (d, found, (y, there, acc))) =
            let same = same_Some d e (sym found ∙ at) in
            (e, at, inside, (y, (members_have states ok (first_state g input k + y)).1 there, subst (λ (w : ElementPattern). (automaton w.content).accepting y) same acc))

        of : IsPatternAround g symbols symbol (members states) k → IsAllowed g (fresh_name symbols symbol) k × IsTaken g states k
        of (e, at, inside, (y, c, acc)) = ((e, at, inside), (e, at, (y, (members_have states ok (first_state g input k + y)).0 c, acc)))

    pub are_around : (s : Numbers) → IsSet s → ((k : ℕ) → Has s k ↔ (IsAllowed g (fresh_name symbols symbol) k × IsTaken g states k)) → AreAround g symbols symbol (members states) (members s)
    are_around s set tells k = (
      λ c. (around_listed k).0 ((tells k).0 ((members_have s set k).0 c)),
      λ e. (members_have s set k).1 ((tells k).1 ((around_listed k).1 e)),
    )

    pub around_none : (s : Numbers) → ((k : ℕ) → Has s k ↔ (IsAllowed g (fresh_name symbols symbol) k × IsTaken g states k)) → HasNone s → (k : ℕ) → ¬ IsPatternAround g symbols symbol (members states) k
    around_none s tells none k e = none k ((tells k).1 ((around_listed k).1 e))

-- a set with no number is no list
pub no_members : (s : Numbers) → IsSet s → HasNone s → members s ≡ []
no_members s ok none = by (members s) (λ j c. none j ((members_have s ok j).0 c))
  where
    by : (xs : List ℕ) → ((j : ℕ) → Contains xs j → ⊥) → xs ≡ []
    by [] no_item = refl
    by (x ∷ xs) no_item = absurd (no_item x (contains_from_has (x ∷ xs) x (inl refl)))

-- a set that isn't empty has a number
pub some_number : (s : Numbers) → IsSet s → (b : Bool) → (HasNone s → b ≡ true) → b ≡ false → (j : ℕ) × Has s j
some_number s ok b none e = by (members s) refl
  where
    by : (xs : List ℕ) → members s ≡ xs → (j : ℕ) × Has s j
    by [] same = absurd (true≢false (sym (none (λ j h. no_item j (subst (λ w. Contains w j) same ((members_have s ok j).1 h)))) ∙ e))
      where
        no_item : (j : ℕ) → Contains [] j → ⊥
        no_item j c = has_from_contains {X = ℕ} [] j c
    by (x ∷ xs) same = (x, (members_have s ok x).0 (subst (λ w. Contains w x) (sym same) (contains_from_has (x ∷ xs) x (inl refl))))

pub and_first : (p q : Bool) → p ≡ false → (p && q) ≡ false
and_first true q e = absurd (true≢false e)
and_first false q e = refl

pub and_second : (p q : Bool) → q ≡ false → (p && q) ≡ false
and_second true q e = e
and_second false q e = refl

-- rows that are made of rows
module _ (b : Both) where
  -- a tree's set of element patterns begins at 1, and is of its automaton's size
  module _ (h t : Row) (fit : IsHedgeFit b h) (also : IsTreeFit b t) (first : Numbers) (set : IsSet first) (size : first.size ≡ a.states b.first.auto.now)
      (tells : (g : Grammar) → a.Stands input g b.first.auto.now → (j : ℕ) → Has first j ↔ IsAfter g h.first t.text t.first j) (ended : b.first.end ≡ a.patterns b.first.auto.now + 1) where
    first_next : (x : Schemas) → AreTold b x → AreNext x.first (members h.first) t.text (members t.first) (members first)
    first_next x told = are_next x.first b.first.auto.now told.first h.first t.first fit.first also.first t.text also.first_from_one (also.first_size ∙ ended) first set (tells x.first told.first)

    -- no state is led to
    pub dead_append : HasNone first → NoAppended b h t
    dead_append none x told (meet, (i, j, c, leads)) =
        none j ((members_have first set j).0 ((first_next x told j).1 (i, c, leads)))

    module _ (second : Numbers) (second_set : IsSet second) (second_size : second.size ≡ a.states b.second.auto.now)
        (second_tells : (g : Grammar) → a.Stands input g b.second.auto.now → (j : ℕ) → Has second j ↔ IsAfter g h.second t.text t.second j) (second_ended : b.second.end ≡ a.patterns b.second.auto.now + 1) where
      pub appended_fit : IsHedgeFit b (record { text = t.text; first = first; second = second })
      appended_fit = record { first = set; second = second_set; first_size = size; second_size = second_size }

      pub is_appended : ((h.text && t.text) ≡ false) → (j : ℕ) → Has first j → IsAppended b h t (record { text = t.text; first = first; second = second })
      is_appended apart j some x told =
          let (i, c, leads) = (first_next x told j).0 ((members_have first set j).1 some) in (
            (apart, (i, j, c, leads)),
            record {
              row = record { first = are_states x.first b.first.auto.now told.first first set size; second = are_states x.second b.second.auto.now told.second second second_set second_size };
              ends = refl;
              first = first_next x told;
              second = are_next x.second b.second.auto.now told.second h.second t.second fit.second also.second t.text also.second_from_one (also.second_size ∙ second_ended) second second_set (second_tells x.second told.second);
            },
          )

  module _ (symbol : ℕ) (h : Row) (fit : IsHedgeFit b h) (first : Numbers) (set : IsSet first) (size : first.size ≡ b.first.end)
      (tells : (g : Grammar) (symbols : List Mention) → a.Stands input g b.first.auto.now → AreAllowed g symbols b.first.allowed.items → (k : ℕ) → Has first k ↔ (IsAllowed g (fresh_name symbols symbol) k × IsTaken g h.first k))
      (ended : b.first.end ≡ a.patterns b.first.auto.now + 1) where
    pub dead_wrap : HasNone first → NoWrapped b symbol h
    dead_wrap none x told (k, e) = around_none x.first b.first.auto.now told.first x.symbols symbol h.first fit.first first (tells x.first x.symbols told.first told.first_allowed) none k e

    module _ (from_one : ¬ Has first 0) (second : Numbers) (second_set : IsSet second) (second_size : second.size ≡ b.second.end) (second_from_one : ¬ Has second 0)
        (second_tells : (g : Grammar) (symbols : List Mention) → a.Stands input g b.second.auto.now → AreAllowed g symbols b.second.allowed.items → (k : ℕ) → Has second k ↔ (IsAllowed g (fresh_name symbols symbol) k × IsTaken g h.second k))
        (second_ended : b.second.end ≡ a.patterns b.second.auto.now + 1) where
      pub wrapped_fit : IsTreeFit b (record { text = false; first = first; second = second })
      wrapped_fit = record { first = set; second = second_set; first_size = size; second_size = second_size; first_from_one = from_one; second_from_one = second_from_one }

      pub is_wrapped : (k : ℕ) → Has first k → IsWrapped b symbol h (record { text = false; first = first; second = second })
      is_wrapped k some x told =
          let one = tells x.first x.symbols told.first told.first_allowed in
          let two = second_tells x.second x.symbols told.second told.second_allowed in (
            (k, (around_listed x.first b.first.auto.now told.first x.symbols symbol h.first fit.first k).0 ((one k).0 some)),
            record {
              row = record {
                first = are_patterns x.first b.first.auto.now told.first first set (size ∙ ended) from_one;
                second = are_patterns x.second b.second.auto.now told.second second second_set (second_size ∙ second_ended) second_from_one;
              };
              is_text = refl;
              first = are_around x.first b.first.auto.now told.first x.symbols symbol h.first fit.first first set one;
              second = are_around x.second b.second.auto.now told.second x.symbols symbol h.second fit.second second second_set two;
            },
          )

  module _ (first second : Numbers) (set : IsSet first) (second_set : IsSet second) (none : HasNone first) (second_none : HasNone second) where
    pub text_fit : first.size ≡ b.first.end → second.size ≡ b.second.end → IsTreeFit b (record { text = true; first = first; second = second })
    text_fit p q = record { first = set; second = second_set; first_size = p; second_size = q; first_from_one = none 0; second_from_one = second_none 0 }

    pub is_text : first.size ≡ b.first.end → second.size ≡ b.second.end → b.first.end ≡ a.patterns b.first.auto.now + 1 → b.second.end ≡ a.patterns b.second.auto.now + 1
        → ((g : Grammar) → a.Stands input g b.first.auto.now → some_content_has_text g.elements ≡ true) → IsText b (record { text = true; first = first; second = second })
    is_text p q e f live x told = (
      live x.first told.first,
      record {
        row = record { first = are_patterns x.first b.first.auto.now told.first first set (p ∙ e) (none 0); second = are_patterns x.second b.second.auto.now told.second second second_set (q ∙ f) (second_none 0) };
        is_text = refl;
        first = no_members first set none;
        second = no_members second second_set second_none;
      },
    )
