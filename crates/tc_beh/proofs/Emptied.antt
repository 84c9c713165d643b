-- The numbers of no tree, seen as a row.
use Rattle.std.proofs.Common.{◌≡◌, ◌<◌, ◌≤◌, ◌⊎◌, inl, inr, ◌+◌, ◌-◌, ◌↔◌, ◌==◌, [], ℕ, List, length, get_or, subst, sym, ap, ◌∙◌, arith}
use Rattle.std.specs.List.{Contains}
use Rattle.std.proofs.lemmas.List.{length-map}
use Rattle.std.proofs.lemmas.Bool.{cases_eq, cases_lt}
use Rattle.tc_model.specs.Grammars.{Grammar, ElementPattern}
use Rattle.tc_model.specs.Views as see
use Rattle.tc_model.specs.States.{Side, input, state_count, first_state}
use Rattle.tc_auto.specs.Stands.{Stands, states, patterns}
use Rattle.tc_auto.specs.declared.auto.Auto.{Auto}
use Rattle.tc_auto.proofs.Bounds.{begun_below}
use Rattle.tc_mat.specs.Held.{Held, AreMatrices}
use Rattle.tc_rows.specs.Triples.{Triple, outputs, entries}
use Rattle.tc_rows.specs.PairSets.{HaveSamePairs, listed}
use Rattle.tc_rows.specs.Rows.{HedgeRow}
use Rattle.tc_rows.specs.Bodies.{stay}
use Rattle.tc_rows.specs.Arithmetic.{IsEmptyRow}
use Rattle.tc_rows.proofs.PairLaws.{same_back, same_on}
use Rattle.tc_rows.proofs.Sets.{past}
use Rattle.tc_beh.specs.Putting.{has}
use Rattle.tc_beh.specs.Places.{pairs_of}
use Rattle.tc_beh.specs.Held.{set_at}
use Rattle.tc_beh.specs.Outs.{IsLeftOut, GrowsBy}
use Rattle.tc_beh.specs.Rooms.{count_of, hedge_layout, flag_at, output_at, flagged, flags_in, IsRoom, hedge_row}
use Rattle.tc_beh.specs.Emptying.{PutsFirst, IsOfNoTree, IsNewIdentity}
use Rattle.tc_beh.proofs.Holding.{extends_self}
use Rattle.tc_beh.proofs.Pairs.{listed_pairs}
use Rattle.tc_beh.proofs.Starts.{identity_begun}
use Rattle.tc_beh.proofs.RoomRows.{look_is}
use Rattle.tc_beh.proofs.RoomIs.{flags_count, outputs_count, entry_at, is_hedge_row}
use Rattle.tc_beh.proofs.Appended.{state_at}
use Rattle.tc_beh.proofs.Held.{sizes_of, left_out}

-- the flags of the first states so far
pub none_first : (a : Auto) (ns : List ℕ) → ((j : ℕ) → j < states a → flag_at ns j ≡ 0) → PutsFirst a 0 ns
none_first a ns isnt = record {
  each = λ j l. let z = isnt j l in omega (arith, z);
  exact = λ side x st j l. (λ h. (let z = isnt j l in absurd (omega (arith, z, h))), λ (k, from, to, e). absurd (omega (arith, from, to)));
}

pub one_first : (a : Auto) (count to : ℕ) (old new : List ℕ) → ((side : Side) (x : Grammar) → Stands side x a → to ≡ first_state x side (count + 1))
    → flag_at new to ≡ 1 → ((k : ℕ) → (k ≡ 2 + to → ⊥) → get_or new k 0 ≡ get_or old k 0) → PutsFirst a count old → PutsFirst a (count + 1) new
one_first a count to old new first here others is = record {
  each = λ j l. elim (at j) [ inl e ↦ omega (arith, e) | inr e ↦ let low = is.each j l in omega (arith, e, low) ];
  exact = λ side x st j l. (forth side x st j l, back side x st j l);
}
  where
    at : (j : ℕ) → (flag_at new j ≡ 1) ⊎ (flag_at new j ≡ flag_at old j)
    at j = elim (cases_eq j to) [ inl e ↦ inl (ap (λ k. flag_at new k) e ∙ here) | inr e ↦ inr (others (2 + j) (λ s. e (omega (arith, s)))) ]

    forth : (side : Side) (x : Grammar) → Stands side x a → (j : ℕ) → j < states a → flag_at new j ≡ 1 → (k : ℕ) × (1 ≤ k) × (k ≤ count + 1) × (j ≡ first_state x side k)
    forth side x st j l h = elim (cases_eq j to) [
      | inl e ↦ (count + 1, omega arith, omega arith, e ∙ first side x st)
      | inr e ↦ let (k, from, low, is_so) = (is.exact side x st j l).0 (sym (others (2 + j) (λ s. e (omega (arith, s)))) ∙ h) in (k, from, omega (arith, low), is_so)
    ]

    back : (side : Side) (x : Grammar) → Stands side x a → (j : ℕ) → j < states a → (k : ℕ) × (1 ≤ k) × (k ≤ count + 1) × (j ≡ first_state x side k) → flag_at new j ≡ 1
    back side x st j l (k, from, low, e) = elim (cases_lt k (count + 1)) [
      | inl b ↦ elim (at j) [ inl one ↦ one | inr same ↦ same ∙ (is.exact side x st j l).1 (k, from, omega (arith, b), e) ]
      | inr b ↦ ap (λ i. flag_at new i) (e ∙ (ap (λ i. first_state x side i) (omega (arith, low, b)) ∙ sym (first side x st))) ∙ here
    ]

-- a value for each look, and none past these
pub all_looks : (ns : List ℕ) (start place : ℕ) → length ns ≤ start + place → ((i : ℕ) → i < place → get_or ns (start + i) 0 ≡ 0) → (k : ℕ) → start ≤ k → get_or ns k 0 ≡ 0
all_looks ns start place end none k from = elim (cases_lt (k - start) place) [
  | inl l ↦ subst (λ i. get_or ns i 0 ≡ 0) (omega (arith, from)) (none (k - start) l)
  | inr l ↦ past ns k 0 (omega (arith, l, end, from))
]

module _ (x : Triple) (a : Auto) (stands : Stands input x.input a) where
  abbrev n : ℕ
  n = state_count x.input input

  patterns_are : patterns a ≡ length x.input.elements
  patterns_are = sym (length-map a.elements.now see.element_pattern) ∙ ap (λ (es : List ElementPattern). length es) stands.elements

  -- each content has a first state
  first_low : (k : ℕ) → 1 ≤ k → k ≤ length x.input.elements → first_state x.input input k < n
  first_low k from to =
      let begun = stands.built.begun in
      let low : k < length a.firsts.items = omega (arith, to, begun) in
      let below = begun_below x.input input a.firsts.items a.rows.items stands.built k from low in
      let at = stands.built.first k (omega (arith, to)) in
      let all = stands.built.counted in
      omega (arith, below, at, all)

  module _ (h : Held) (are : AreMatrices h) (size : h.size ≡ outputs x) (ns : List ℕ) (count : length ns ≡ count_of (hedge_layout x))
      (is : IsOfNoTree h a n (entries x) ns) (low_outs : (i : ℕ) → i < entries x → output_at n ns i < length h.matrices) where
    pub is_empty_room : IsRoom (hedge_layout x) h.matrices ns
    is_empty_room = record {
      count = count;
      head = let e = is.head in omega (arith, e);
      bears = let e = is.bears in omega (arith, e);
      flags = λ i low. is.states.each i (let c = stands.built.counted in omega (arith, c, low));
      outs = low_outs;
      looks = λ i low. (let e = is.looks (2 + n + entries x + i) (omega arith) in omega (arith, e));
    }

    states_begun : (j : ℕ) → Contains (flagged 0 (flags_in n ns)) j ↔ ((k : ℕ) × (1 ≤ k) × (k ≤ length x.input.elements) × (j ≡ first_state x.input input k))
    states_begun j = (forth, back)
      where
        forth : Contains (flagged 0 (flags_in n ns)) j → (k : ℕ) × (1 ≤ k) × (k ≤ length x.input.elements) × (j ≡ first_state x.input input k)
        forth c =
            let (low, one) = (state_at n ns j (flags_count (hedge_layout x) h.matrices ns is_empty_room)).0 c in
            let (k, from, to, e) = (is.states.exact input x.input stands j (let all = stands.built.counted in omega (arith, all, low))).0 one in
            (k, from, let p = patterns_are in omega (arith, to, p), e)

        back : (k : ℕ) × (1 ≤ k) × (k ≤ length x.input.elements) × (j ≡ first_state x.input input k) → Contains (flagged 0 (flags_in n ns)) j
        back (k, from, to, e) =
            let here = first_low k from to in
            let low : j < n = omega (arith, e, here) in
            (state_at n ns j (flags_count (hedge_layout x) h.matrices ns is_empty_room)).1
            (low, (is.states.exact input x.input stands j (let all = stands.built.counted in omega (arith, all, low))).1 (k, from, let p = patterns_are in omega (arith, to, p), e))

    pub is_empty_row : IsEmptyRow x (hedge_row x h.matrices ns)
    is_empty_row = record {
      row = is_hedge_row x h.matrices (sizes_of h (outputs x) are size) ns is_empty_room;
      ends = ap (λ (k : ℕ). k == 1) is.head;
      bears = ap (λ (k : ℕ). k == 1) is.bears;
      states = states_begun;
      entries = λ i low.
          let m = set_at h (output_at n ns i) in
          let here : get_or (hedge_row x h.matrices ns).entries i [] ≡ pairs_of m =
          entry_at x h.matrices (sizes_of h (outputs x) are size) n (entries x) ns i (outputs_count (hedge_layout x) h.matrices ns is_empty_room) low
          in
          subst (λ l. HaveSamePairs (listed l) (stay x)) (sym here)
          (same_on (listed (pairs_of m)) (has m) (stay x) (same_back (has m) (listed (pairs_of m)) (listed_pairs m))
          (identity_begun m (outputs x) (sizes_of h (outputs x) are size (output_at n ns i) (low_outs i low)) (is.outs i low)));
      looks = λ i low. look_is n (entries x) ns i ∙ is.looks (2 + n + entries x + i) (omega arith);
    }

-- what a refused row of no tree leaves
module _ (x : Triple) (r : HedgeRow) (is : IsEmptyRow x r) (h : Held) where
  pub none_came : GrowsBy h h r.entries
  none_came = record { held = extends_self h; found = λ k from to. absurd (omega (arith, from, to)) }

  pub left_out_of_empty : AreMatrices h → h.size ≡ outputs x → 0 < entries x → IsNewIdentity h → IsLeftOut h r.entries
  left_out_of_empty held size some (m, of, matrix, same, isnt) =
      left_out x r.entries is.row.entries h m 0 held size of matrix isnt some
      (same_on (listed (get_or r.entries 0 [])) (stay x) (has m) (is.entries 0 some) (same_back (has m) (stay x) (identity_begun m (outputs x) (of ∙ size) same)))

-- by so many flags and outputs of the room
pub emptied : (x : Triple) (a : Auto) → Stands input x.input a → (h : Held) → AreMatrices h → h.size ≡ outputs x → (nf es : ℕ) → nf ≡ state_count x.input input → es ≡ entries x
    → (ns : List ℕ) → length ns ≡ count_of (hedge_layout x) → IsOfNoTree h a nf es ns → ((i : ℕ) → i < es → output_at nf ns i < length h.matrices)
    → IsRoom (hedge_layout x) h.matrices ns × IsEmptyRow x (hedge_row x h.matrices ns)
emptied x a stands h are size nf es ne ee ns count is low =
    let of : IsOfNoTree h a (state_count x.input input) (entries x) ns = subst (λ k. IsOfNoTree h a k (entries x) ns) ne (subst (λ k. IsOfNoTree h a nf k ns) ee is) in
    let lows : (i : ℕ) → i < entries x → output_at (state_count x.input input) ns i < length h.matrices = λ i l. subst (λ k. output_at k ns i < length h.matrices) ne (low i (omega (arith, l, ee))) in
    (is_empty_room x a stands h are size ns count of lows, is_empty_row x a stands h are size ns count of lows)
