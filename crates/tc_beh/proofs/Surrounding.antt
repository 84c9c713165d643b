-- The flags of the element patterns around a list of trees, one by one, and seen as rows.
use Rattle.std.proofs.Common.{◌≡◌, ◌≢◌, ◌<◌, ◌≤◌, inl, inr, ◌+◌, ◌-◌, ◌↔◌, ℕ, zero, suc, [], ◌∷◌, ◌++◌, Bool, true, false, List, length, length-append, get_or, Some, slice_get, subst, sym, ap, ◌∙◌, refl, arith}
use Rattle.std.specs.List.{Contains}
use Rattle.std.proofs.lemmas.Bool.{cases_lt, cases_eq}
use Rattle.std.proofs.Math.ListN.{get_or-append}
use Rattle.std.proofs.lemmas.List.{get_or_default, get_or_push}
use Rattle.std.specs.Global.{Vec}
use Rattle.std.proofs.lemmas.Option.{slice_get_within, slice_get_read}
use Rattle.tc_alpha.proofs.Members.{Has, has_from_contains, contains_from_has}
use Rattle.tc_model.specs.Names.{ExpandedName}
use Rattle.tc_model.specs.Grammars.{Grammar, ElementPattern, element_at, in_class}
use Rattle.tc_model.specs.States.{Side, input, automaton, IsPart, a_content, first_state, IsAccepting}
use Rattle.tc_model.specs.Symbols.{Mention, symbol_of, symbol_count, fresh_name}
use Rattle.tc_model.proofs.StatesExact.{sound}
use Rattle.tc_model.proofs.StatesParts.{accepting_of_part, next_first}
use Rattle.tc_auto.specs.Stands.{patterns}
use Rattle.tc_hedge.specs.Stands.{Stands}
use Rattle.tc_hedge.specs.declared.hedge.Hedge.{Hedge}
use Rattle.tc_hedge.proofs.Bounds.{patterns_of}
use Rattle.tc_rows.specs.Triples.{Triple, IsTriple}
use Rattle.tc_rows.specs.Rows.{HedgeRow}
use Rattle.tc_rows.specs.Arithmetic.{IsPatternAround, IsLiveWrap}
use Rattle.tc_beh.specs.Rooms.{flagged, flags_in, flag_at}
use Rattle.tc_beh.specs.Around.{AreTakers, AreAllTakers, IsTakenBy, IsAroundBy, PutsPatterns}
use Rattle.tc_beh.proofs.Placed.{fresh_symbol}
use Rattle.tc_beh.proofs.RoomRows.{flagged_at, at_flagged, flag_is}

module _ (g : Grammar) (side : Side) (states : List ℕ) (number : ℕ) (e : ElementPattern) (at : element_at g.elements number ≡ Some e) (first end : ℕ) (begins : first ≡ first_state g side number) (ends : end ≡ first_state g side (suc number)) where
  -- an accepting state of a content that has a flag
  pub taken_at : (state : ℕ) → first ≤ state → state < end → get_or states state 0 ≡ 1 → IsAccepting g side state → IsTakenBy side g states number e
  taken_at state high low one accepts =
      let part : IsPart g side number e.content = a_content at in
      let y : ℕ = state - first in
      let is : state ≡ first_state g side number + y = omega (arith, high, begins) in
      let below : y < (automaton e.content).count = omega (arith, next_first g side part, low, ends, is) in
      (y, subst (λ k. get_or states k 0 ≡ 1) is one, accepting_of_part g side y state part below is accepts)

  pub not_taken : ((state : ℕ) → first ≤ state → state < end → get_or states state 0 ≡ 1 → IsAccepting g side state → ⊥) → IsTakenBy side g states number e → ⊥
  not_taken none (y, one, accepts) =
      let part : IsPart g side number e.content = a_content at in
      let q = sound e.content in
      none (first_state g side number + y) (omega (arith, begins)) (omega (arith, next_first g side part, q.accepted y accepts, ends)) one (number, e.content, y, part, refl, accepts)

-- an element pattern has each number from 1 on
pub some_pattern : (es : List ElementPattern) (number : ℕ) → 1 ≤ number → number ≤ length es → (e : ElementPattern) × (element_at es number ≡ Some e)
some_pattern es zero low high = absurd (omega (arith, low))
some_pattern es (suc k) low high = found es k (omega (arith, high))
  where
    found : (fs : List ElementPattern) (k : ℕ) → k < length fs → (e : ElementPattern) × (slice_get fs k ≡ Some e)
    found [] k l = absurd (omega (arith, l))
    found (f ∷ fs) zero l = (f, refl)
    found (f ∷ fs) (suc k) l = found fs k (omega (arith, l))

-- ---- those whose classes hold a symbol
module _ (n : Hedge) (a count : ℕ) where
  pub no_takers : AreTakers n a 0 []
  no_takers = record { low = λ k l. absurd (omega (arith, l)); exact = λ side x symbols st name same i e l at. absurd (omega (arith, l)) }

  -- what the class of the next one tells
  abbrev pub TellsClass : Bool → Type 0
  TellsClass holds = (side : Side) (x : Grammar) (symbols : List Mention) → Stands side x symbols n → (name : ExpandedName) → symbol_of symbols name ≡ a → (e : ElementPattern) → element_at x.elements (count + 1) ≡ Some e
      → holds ≡ in_class e.names name

  pub taker_skipped : (ts : List ℕ) → TellsClass false → AreTakers n a count ts → AreTakers n a (count + 1) ts
  taker_skipped ts tells are = record {
    low = λ k l. let (i, m, is) = are.low k l in (i, omega (arith, m), is);
    exact = λ side x symbols st name same i e l at. elim (cases_lt i count) [
      | inl b ↦ are.exact side x symbols st name same i e b at
      | inr b ↦ let last : i ≡ count = omega (arith, l, b) in
          let none : false ≡ in_class e.names name = tells side x symbols st name same e (subst (λ j. element_at x.elements (j + 1) ≡ Some e) last at) in (
            λ (k, m, is). let (j, low, at) = are.low k m in absurd (omega (arith, low, at, is, last)),
            λ class. absurd (let f : false ≡ true = none ∙ class in cc),
          )
    ];
  }

  pub taker_put : (ts us : List ℕ) → us ≡ ts ++ (count + 1) ∷ [] → TellsClass true → AreTakers n a count ts → AreTakers n a (count + 1) us
  taker_put ts us put tells are = record {
    low = λ k l. elim (cases_lt k (length ts)) [
      | inl b ↦ let (i, m, is) = are.low k b in (i, omega (arith, m), before k b ∙ is)
      | inr b ↦ (count, omega arith, last k (omega (arith, l, b, more)))
    ];
    exact = λ side x symbols st name same i e l at. elim (cases_lt i count) [
      | inl b ↦ let was = are.exact side x symbols st name same i e b at in (
        λ (k, m, is). elim (cases_lt k (length ts)) [
          | inl c ↦ was.0 (k, c, sym (before k c) ∙ is)
          | inr c ↦ let here = last k (omega (arith, m, c, more)) in absurd (omega (arith, here, is, b))
        ],
        λ class. let (k, m, is) = was.1 class in (k, omega (arith, m, more), before k m ∙ is),
      )
      | inr b ↦ let end : i ≡ count = omega (arith, l, b) in (
        λ h. sym (tells side x symbols st name same e (subst (λ j. element_at x.elements (j + 1) ≡ Some e) end at)),
        λ class. (length ts, omega (arith, more), last (length ts) refl ∙ ap (λ n. n + 1) (sym end)),
      )
    ];
  }
    where
      more : length us ≡ length ts + 1
      more = ap length put ∙ length-append ts ((count + 1) ∷ [])

      before : (k : ℕ) → k < length ts → get_or us k 0 ≡ get_or ts k 0
      before k low = ap (λ l. get_or l k 0) put ∙ get_or-append ts ((count + 1) ∷ []) 0 k low

      last : (k : ℕ) → k ≡ length ts → get_or us k 0 ≡ count + 1
      last k e = ap (λ l. get_or l k 0) put ∙ get_or_push ts (count + 1) 0 k (sym e)

-- those of one symbol
pub takers_at : (n : Hedge) (all : List (Vec ℕ)) → AreAllTakers n all → (a : ℕ) → a < n.symbols → (row : Vec ℕ) → row ≡ get_or all a row → (takers : List ℕ) → takers ≡ row.items → AreTakers n a (patterns n.auto) takers
takers_at n all are a low row here takers is = subst (AreTakers n a (patterns n.auto)) (sym is) (are.each a row (slice_get_read all (length all) a row refl (omega (arith, low, are.count)) here))

-- ---- the flags of the first of these
pub record PutsFirst (n : Hedge) (a : ℕ) (states takers : List ℕ) (count : ℕ) (new : List ℕ) : Type 0 where
  pub each : (i : ℕ) → i < patterns n.auto → flag_at new i ≤ 1
  pub exact : (side : Side) (x : Grammar) (symbols : List Mention) → Stands side x symbols n → (name : ExpandedName) → symbol_of symbols name ≡ a
      → (i : ℕ) → i < patterns n.auto → (flag_at new i ≡ 1) ↔ ((k : ℕ) × (k < count) × (get_or takers k 0 ≡ i + 1) × IsAroundBy side x name states (i + 1))

module _ (n : Hedge) (a : ℕ) (states takers : List ℕ) where
  pub none_put : (new : List ℕ) → ((i : ℕ) → i < patterns n.auto → flag_at new i ≡ 0) → PutsFirst n a states takers 0 new
  none_put new isnt = record {
    each = λ i l. let z = isnt i l in omega (arith, z);
    exact = λ side x symbols st name e i l. (λ h. let z = isnt i l in absurd (omega (arith, z, h)), λ (k, m, at, around). absurd (omega (arith, m)));
  }

  -- whether the next one is around
  abbrev pub Tells : ℕ → Type 0 → Type 0
  Tells count told = (side : Side) (x : Grammar) (symbols : List Mention) → Stands side x symbols n → (name : ExpandedName) → symbol_of symbols name ≡ a → told ↔ IsAroundBy side x name states (get_or takers count 0)

  pub not_put : (count : ℕ) (new : List ℕ) → Tells count ⊥ → PutsFirst n a states takers count new → PutsFirst n a states takers (count + 1) new
  not_put count new isnt is = record {
    each = is.each;
    exact = λ side x symbols st name e i l. (
      λ h. let (k, m, at, around) = (is.exact side x symbols st name e i l).0 h in (k, omega (arith, m), at, around),
      λ (k, m, at, around). elim (cases_lt k count) [
        | inl b ↦ (is.exact side x symbols st name e i l).1 (k, b, at, around)
        | inr b ↦ let here : get_or takers count 0 ≡ i + 1 = subst (λ j. get_or takers j 0 ≡ i + 1) (omega (arith, m, b)) at in
            absurd ((isnt side x symbols st name e).1 (subst (IsAroundBy side x name states) (sym here) around))
      ],
    );
  }

  pub is_put : (count : ℕ) (mid new : List ℕ) → Tells count (Unit {0}) → (t : ℕ) → get_or takers count 0 ≡ t + 1 → flag_at new t ≡ 1 → ((k : ℕ) → k ≢ 2 + t → get_or new k 0 ≡ get_or mid k 0) → PutsFirst n a states takers count mid
      → PutsFirst n a states takers (count + 1) new
  is_put count mid new is_so t number set others is = record {
    each = λ i l. elim (cases_eq i t) [
      | inl e ↦ let one : flag_at new i ≡ 1 = subst (λ k. flag_at new k ≡ 1) (sym e) set in omega (arith, one)
      | inr e ↦ let few = is.each i l in let same = keeps i e in omega (arith, few, same)
    ];
    exact = λ side x symbols st name same i l. elim (cases_eq i t) [
      | inl e ↦ let here : get_or takers count 0 ≡ i + 1 = number ∙ ap (λ j. j + 1) (sym e) in (
        λ h. (count, omega arith, here, subst (IsAroundBy side x name states) here ((is_so side x symbols st name same).0 tt)),
        λ h. subst (λ j. flag_at new j ≡ 1) (sym e) set,
      )
      | inr e ↦ let was = is.exact side x symbols st name same i l in (
        λ h. let (k, m, at, around) = was.0 (sym (keeps i e) ∙ h) in (k, omega (arith, m), at, around),
        λ (k, m, at, around). elim (cases_lt k count) [
          | inl b ↦ keeps i e ∙ was.1 (k, b, at, around)
          | inr b ↦ let here : get_or takers count 0 ≡ i + 1 = subst (λ j. get_or takers j 0 ≡ i + 1) (omega (arith, m, b)) at in absurd (e (omega (arith, here, number)))
        ],
      )
    ];
  }
    where
      keeps : (i : ℕ) → (i ≡ t → ⊥) → flag_at new i ≡ flag_at mid i
      keeps i isnt = others (2 + i) (λ e. isnt (omega (arith, e)))

  pub all_put : (count : ℕ) (new : List ℕ) → count ≡ length takers → AreTakers n a (patterns n.auto) takers → PutsFirst n a states takers count new → PutsPatterns n a states new
  all_put count new all are is = record {
    each = is.each;
    exact = λ side x symbols st name same i l. (
      λ h. let (k, m, at, around) = (is.exact side x symbols st name same i l).0 h in around,
      λ around.
          let (e, el, class, taken) = around in
          let (k, m, at) = (are.exact side x symbols st name same i e l el).1 class in
          (is.exact side x symbols st name same i l).1 (k, omega (arith, m, all), at, around),
    );
  }

one_inside : (vs : List ℕ) (i : ℕ) → get_or vs i 0 ≡ 1 → i < length vs
one_inside [] i e = absurd (omega (arith, e))
one_inside (v ∷ vs) zero e = omega arith
one_inside (v ∷ vs) (suc i) e = let low = one_inside vs i e in omega (arith, low)

-- the places of ones
pub place_of_one : (states : List ℕ) (j : ℕ) → Contains (flagged 0 states) j ↔ (get_or states j 0 ≡ 1)
place_of_one states j = (
  λ c. (let (i, low, one, at) = flagged_at 0 states j (has_from_contains (flagged 0 states) j c) in subst (λ k. get_or states k 0 ≡ 1) (omega (arith, at)) one),
  λ one. contains_from_has (flagged 0 states) j (subst (λ k. Has (flagged 0 states) k) (omega arith) (at_flagged 0 states j (one_inside states j one) one)),
)

module _ (x : Triple) (triple : IsTriple x) (a : ℕ) (low : a < symbol_count x.symbols) (n : Hedge) (stands : Stands input x.input x.symbols n) (h : HedgeRow) (states new : List ℕ) (are : h.states ≡ flagged 0 states) (puts : PutsPatterns n a states new)
    (count : length (flags_in (length x.input.elements) new) ≡ length x.input.elements) where
  abbrev m : ℕ
  m = length x.input.elements

  abbrev fs : List ℕ
  fs = flags_in m new

  abbrev IsHere : ℕ → Type 0
  IsHere k = IsAroundBy input x.input (fresh_name x.symbols a) states k

  around_of : (k : ℕ) → IsHere k → IsPatternAround x a h k
  around_of k (e, at, class, (y, one, accepts)) =
      let j : ℕ = first_state x.input input k + y in
      (e, at, class, (y, subst (λ w. Contains w j) (sym are) ((place_of_one states j).1 one), accepts))

  around_from : (k : ℕ) → IsPatternAround x a h k → IsHere k
  around_from k (e, at, class, (y, there, accepts)) =
      let j : ℕ = first_state x.input input k + y in
      (e, at, class, (y, (place_of_one states j).0 (subst (λ w. Contains w j) are there), accepts))

  exact : (i : ℕ) → i < m → (flag_at new i ≡ 1) ↔ IsHere (i + 1)
  exact i l = puts.exact input x.input x.symbols stands (fresh_name x.symbols a) (fresh_symbol x triple.symbols a low) i (let same = patterns_of input x.input n.auto stands.auto in omega (arith, l, same))

  number_inside : (k : ℕ) → IsHere k → (i : ℕ) × (i < m) × (i + 1 ≡ k)
  number_inside zero (e, at, class, taken) = absurd (cc)
  number_inside (suc i) (e, at, class, taken) = (i, slice_get_within x.input.elements i e at, omega arith)

  pub patterns_around : (k : ℕ) → Contains (flagged 1 fs) k ↔ IsPatternAround x a h k
  patterns_around k = (forth, back)
    where
      forth : Contains (flagged 1 fs) k → IsPatternAround x a h k
      forth c =
          let (i, l, one, at) = flagged_at 1 fs k (has_from_contains (flagged 1 fs) k c) in
          let inside : i < m = omega (arith, l, count) in
          around_of k (subst IsHere (omega (arith, at)) ((exact i inside).0 (sym (flag_is m new i inside) ∙ one)))

      back : IsPatternAround x a h k → Contains (flagged 1 fs) k
      back p =
          let here = around_from k p in
          let (i, inside, e) = number_inside k here in
          let one : get_or fs i 0 ≡ 1 = flag_is m new i inside ∙ (exact i inside).1 (subst IsHere (sym e) here) in
          contains_from_has (flagged 1 fs) k (subst (λ j. Has (flagged 1 fs) j) (omega (arith, e)) (at_flagged 1 fs i (omega (arith, inside, count)) one))

  -- there is one exactly where a flag is set
  pub some_pattern_around : IsLiveWrap x a h ↔ Contains fs 1
  some_pattern_around = (
    λ (k, p). (let (i, l, one, at) = flagged_at 1 fs k (has_from_contains (flagged 1 fs) k ((patterns_around k).1 p)) in (i, l, get_or_default fs i 1 0 l ∙ one)),
    λ (i, l, e). (
        let one : get_or fs i 0 ≡ 1 = get_or_default fs i 0 1 l ∙ e in
        (1 + i, (patterns_around (1 + i)).0 (contains_from_has (flagged 1 fs) (1 + i) (at_flagged 1 fs i l one)))
        ),
  )
