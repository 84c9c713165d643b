-- Rooms over one set of what is held: equal rows have equal numbers, and stand where more is held.
use Rattle.std.proofs.Common.{◌≡◌, ◌<◌, ◌≤◌, ◌⊎◌, inl, inr, ◌+◌, ◌-◌, ◌==◌, [], ℕ, zero, suc, List, length, get_or, subst, sym, ap, ◌∙◌, arith, eq-eqb, eqb-true}
use Rattle.std.proofs.lemmas.List.{ext_get_or, get_or-map, length-map}
use Rattle.std.proofs.lemmas.Bool.{cases_eq, cases_lt}
use Rattle.std.proofs.lemmas.Option.{slice_get-get_or}
use Rattle.tc_alpha.proofs.Members.{Has}
use Rattle.tc_mat.specs.Matrix.{Matrix}
use Rattle.tc_mat.specs.Held.{Held, AreDifferent}
use Rattle.tc_rows.specs.PairSets.{HaveSamePairs, listed}
use Rattle.tc_rows.specs.Rows.{HedgeRow, TreeRow}
use Rattle.tc_rows.proofs.PairLaws.{same_back, same_on}
use Rattle.tc_beh.specs.Putting.{has}
use Rattle.tc_beh.specs.Places.{pairs_of, entries_by, no_matrix}
use Rattle.tc_beh.specs.Held.{Extends, set_at}
use Rattle.tc_beh.specs.Rooms.{Layout, hedge_layout, tree_layout, flag_at, output_at, flagged, flags_in, outputs_in, looks_in, IsRoom, hedge_row, tree_row}
use Rattle.tc_beh.specs.RoomLaws.{RoomsAreLawful}
use Rattle.tc_beh.proofs.Holding.{extends_at, extends_count}
use Rattle.tc_beh.proofs.Pairs.{listed_pairs}
use Rattle.tc_beh.proofs.RoomRows.{flagged_at, at_flagged, flag_is, output_is, look_is}
use Rattle.tc_beh.proofs.RoomIs.{flags_count, outputs_count}

-- flags of the whole that are tested alike
pub one_head : (n m : ℕ) → n ≤ 1 → m ≤ 1 → (n == 1) ≡ (m == 1) → n ≡ m
one_head n m a b e = by (cases_eq n 1) (cases_eq m 1)
  where
    by : (n ≡ 1) ⊎ (n ≡ 1 → ⊥) → (m ≡ 1) ⊎ (m ≡ 1 → ⊥) → n ≡ m
    by (inl p) (inl q) = p ∙ sym q
    by (inl p) (inr q) = absurd (q (eqb-true m 1 (sym e ∙ eq-eqb n 1 p)))
    by (inr p) (inl q) = absurd (p (eqb-true n 1 (e ∙ eq-eqb m 1 q)))
    by (inr p) (inr q) = omega (arith, a, b, p, q)

-- a flag is set where its place is among those of another list
set_too : (first : ℕ) (fs gs : List ℕ) → flagged first fs ≡ flagged first gs → (i : ℕ) → i < length fs → get_or fs i 0 ≡ 1 → get_or gs i 0 ≡ 1
set_too first fs gs e i low one =
    let (k, there, set, at) = flagged_at first gs (first + i) (subst (λ l. Has l (first + i)) e (at_flagged first fs i low one)) in
    subst (λ j. get_or gs j 0 ≡ 1) (omega (arith, at)) set

pub one_flag : (first : ℕ) (fs gs : List ℕ) → flagged first fs ≡ flagged first gs → (i : ℕ) → i < length fs → i < length gs → get_or fs i 0 ≤ 1 → get_or gs i 0 ≤ 1 → get_or fs i 0 ≡ get_or gs i 0
one_flag first fs gs e i low there a b = by (cases_eq (get_or fs i 0) 1) (cases_eq (get_or gs i 0) 1)
  where
    by : (get_or fs i 0 ≡ 1) ⊎ (get_or fs i 0 ≡ 1 → ⊥) → (get_or gs i 0 ≡ 1) ⊎ (get_or gs i 0 ≡ 1 → ⊥) → get_or fs i 0 ≡ get_or gs i 0
    by (inl p) (inl q) = p ∙ sym q
    by (inl p) (inr q) = absurd (q (set_too first fs gs e i low p))
    by (inr p) (inl q) = absurd (p (set_too first gs fs (sym e) i there q))
    by (inr p) (inr q) = omega (arith, a, b, p, q)

-- sets of one list of pairs have one number
one_number : (h : Held) → AreDifferent h → (k j : ℕ) → k < length h.matrices → j < length h.matrices → pairs_of (set_at h k) ≡ pairs_of (set_at h j) → k ≡ j
one_number h different k j a b e =
    different k j (set_at h k) (set_at h j) (slice_get-get_or h.matrices k no_matrix a) (slice_get-get_or h.matrices j no_matrix b)
    (same_on (has (set_at h k)) (listed (pairs_of (set_at h j))) (has (set_at h j))
    (subst (λ l. HaveSamePairs (has (set_at h k)) (listed l)) e (listed_pairs (set_at h k)))
    (same_back (has (set_at h j)) (listed (pairs_of (set_at h j))) (listed_pairs (set_at h j))))

-- an entry of a room
entry_is : (held : List Matrix) (n m : ℕ) (ns : List ℕ) (i : ℕ) → length (outputs_in n m ns) ≡ m → i < m → get_or (entries_by held (outputs_in n m ns)) i [] ≡ pairs_of (get_or held (output_at n ns i) no_matrix)
entry_is held n m ns i count low =
    get_or-map (λ k. pairs_of (get_or held k no_matrix)) (outputs_in n m ns) i 0 [] (omega (arith, count, low))
    ∙ ap (λ k. pairs_of (get_or held k no_matrix)) (output_is n m ns i low)

module _ (s : Layout) (h : Held) (ns ms : List ℕ) (different : AreDifferent h) (one : IsRoom s h.matrices ns) (other : IsRoom s h.matrices ms) where
  same_flags : (first : ℕ) → flagged first (flags_in s.flags ns) ≡ flagged first (flags_in s.flags ms) → (i : ℕ) → i < s.flags → flag_at ns i ≡ flag_at ms i
  same_flags first e i low =
      let a = flags_count s h.matrices ns one in
      let b = flags_count s h.matrices ms other in
      let here = flag_is s.flags ns i low in
      let there = flag_is s.flags ms i low in
      let p = one.flags i low in
      let q = other.flags i low in
      sym here
      ∙ (one_flag first (flags_in s.flags ns) (flags_in s.flags ms) e i (omega (arith, a, low)) (omega (arith, b, low)) (omega (arith, here, p)) (omega (arith, there, q)) ∙ there)

  same_outputs : entries_by h.matrices (outputs_in s.flags s.entries ns) ≡ entries_by h.matrices (outputs_in s.flags s.entries ms) → (i : ℕ) → i < s.entries → output_at s.flags ns i ≡ output_at s.flags ms i
  same_outputs e i low =
      one_number h different (output_at s.flags ns i) (output_at s.flags ms i) (one.outs i low) (other.outs i low)
      (sym (entry_is h.matrices s.flags s.entries ns i (outputs_count s h.matrices ns one) low)
      ∙ (ap (λ l. get_or l i []) e ∙ entry_is h.matrices s.flags s.entries ms i (outputs_count s h.matrices ms other) low))

  pub same_numbers : (first : ℕ) → (get_or ns 0 0 == 1) ≡ (get_or ms 0 0 == 1) → (get_or ns 1 0 == 1) ≡ (get_or ms 1 0 == 1)
      → flagged first (flags_in s.flags ns) ≡ flagged first (flags_in s.flags ms) → entries_by h.matrices (outputs_in s.flags s.entries ns) ≡ entries_by h.matrices (outputs_in s.flags s.entries ms)
      → looks_in s.flags s.entries ns ≡ looks_in s.flags s.entries ms → ns ≡ ms
  same_numbers first head bears flags outs looks = ext_get_or 0 ns ms (one.count ∙ sym other.count) at
    where
      at : (k : ℕ) → k < length ns → get_or ns k 0 ≡ get_or ms k 0
      at zero l = one_head (get_or ns 0 0) (get_or ms 0 0) one.head other.head head
      at (suc zero) l = one_head (get_or ns 1 0) (get_or ms 1 0) one.bears other.bears bears
      at (suc (suc i)) l = elim (cases_lt i s.flags) [
        | inl low ↦ subst (λ k. get_or ns k 0 ≡ get_or ms k 0) (omega arith) (same_flags first flags i low)
        | inr past ↦ elim (cases_lt (i - s.flags) s.entries) [
          | inl low ↦ subst (λ k. get_or ns k 0 ≡ get_or ms k 0) (omega (arith, past)) (same_outputs outs (i - s.flags) low)
          | inr far ↦
              subst (λ k. get_or ns k 0 ≡ get_or ms k 0) (omega (arith, past, far))
              (sym (look_is s.flags s.entries ns (i - s.flags - s.entries)) ∙ (ap (λ l. get_or l (i - s.flags - s.entries) 0) looks ∙ look_is s.flags s.entries ms (i - s.flags - s.entries)))
        ]
      ]

-- where more is held
module _ (s : Layout) (old new : Held) (ns : List ℕ) (more : Extends old new) (is : IsRoom s old.matrices ns) where
  pub stands_on : IsRoom s new.matrices ns
  stands_on = record {
    count = is.count;
    head = is.head;
    bears = is.bears;
    flags = is.flags;
    outs = λ i low. (let l = is.outs i low in let n = extends_count old new more in omega (arith, l, n));
    looks = is.looks;
  }

  pub entries_stay : entries_by new.matrices (outputs_in s.flags s.entries ns) ≡ entries_by old.matrices (outputs_in s.flags s.entries ns)
  entries_stay = ext_get_or [] (entries_by new.matrices os) (entries_by old.matrices os) (many new.matrices ∙ sym (many old.matrices)) at
    where
      os : List ℕ
      os = outputs_in s.flags s.entries ns

      many : (held : List Matrix) → length (entries_by held os) ≡ length os
      many held = length-map os (λ k. pairs_of (get_or held k no_matrix))

      at : (i : ℕ) → i < length (entries_by new.matrices os) → get_or (entries_by new.matrices os) i [] ≡ get_or (entries_by old.matrices os) i []
      at i l =
          let count : length os ≡ s.entries = outputs_count s old.matrices ns is in
          let all = many new.matrices in
          let low : i < s.entries = omega (arith, l, all, count) in
          entry_is new.matrices s.flags s.entries ns i count low
          ∙ (ap pairs_of (extends_at old new more (output_at s.flags ns i) (is.outs i low)) ∙ sym (entry_is old.matrices s.flags s.entries ns i count low))

pub rooms_lawful : RoomsAreLawful
rooms_lawful = record {
  hedges = λ x h ns ms different one other. (
    λ e.
        same_numbers (hedge_layout x) h ns ms different one other 0 (ap (λ (r : HedgeRow). r.ends) e) (ap (λ (r : HedgeRow). r.bears) e) (ap (λ (r : HedgeRow). r.states) e)
        (ap (λ (r : HedgeRow). r.entries) e) (ap (λ (r : HedgeRow). r.looks) e),
    λ e. ap (λ l. hedge_row x h.matrices l) e,
  );
  trees = λ x h ns ms different one other. (
    λ e.
        same_numbers (tree_layout x) h ns ms different one other 1 (ap (λ (r : TreeRow). r.is_text) e) (ap (λ (r : TreeRow). r.bears) e) (ap (λ (r : TreeRow). r.patterns) e)
        (ap (λ (r : TreeRow). r.entries) e) (ap (λ (r : TreeRow). r.looks) e),
    λ e. ap (λ l. tree_row x h.matrices l) e,
  );
  hedges_stand = λ x old new ns more is. (stands_on (hedge_layout x) old new ns more is, ap (λ es. record (hedge_row x old.matrices ns) { entries = es }) (entries_stay (hedge_layout x) old new ns more is));
  trees_stand = λ x old new ns more is. (stands_on (tree_layout x) old new ns more is, ap (λ es. record (tree_row x old.matrices ns) { entries = es }) (entries_stay (tree_layout x) old new ns more is));
}
