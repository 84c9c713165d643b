-- The numbers of a room as a line, and a line as the numbers of a room.
use Rattle.std.proofs.Common.{◌≡◌, ◌<◌, ◌≤◌, ◌⊎◌, inl, inr, ◌+◌, ◌-◌, ◌↔◌, ◌==◌, ◌++◌, ◌∷◌, [], ℕ, zero, suc, List, length, get_or, take, drop, Bool, true, false, Some, slice_get, if◌then◌else◌, All, subst, sym, ap, ◌∙◌, refl, arith, eq-eqb, eqb-true}
use Rattle.std.specs.List.{Contains}
use Rattle.std.specs.List.Sorted.{IsStrictlySortedBy}
use Rattle.std.specs.Ordering.{nat_cmp}
use Rattle.std.proofs.lemmas.List.{ext_get_or, get_or_default, length-take-le, length-drop, append-nil}
use Rattle.std.proofs.lemmas.Bool.{cases_eq, cases_lt}
use Rattle.std.proofs.lemmas.Option.{get_or_from_slice_get}
use Rattle.std.proofs.Math.Seq.{take-suc}
use Rattle.tc_alpha.proofs.Members.{has_from_contains, contains_from_has}
use Rattle.tc_rows.proofs.Ascending.{one_set}
use Rattle.tc_beh.specs.Rooms.{flagged, flag_at, output_at, flags_in, outputs_in, looks_in}
use Rattle.tc_beh.specs.RoomsOf.{ChangesHeads}
use Rattle.tc_beh.specs.Lines.{IsLine, FitsRoom, PutsPlaces, AreFlags, LinesAreOne}
use Rattle.tc_beh.specs.declared.rooms.Room.{Room}
use Rattle.tc_beh.proofs.Holding.{low_got}
use Rattle.tc_beh.proofs.RoomRows.{flagged_at, at_flagged, flagged_ascend, flag_is, output_is, look_is}
use Rattle.tc_beh.proofs.Behind.{head_is, head_low}
use Rattle.tc_beh.proofs.RoomLaws.{one_head, one_flag}

-- the places of set flags, one flag after another
flagged_end : (first : ℕ) (xs : List ℕ) (v : ℕ) → flagged first (xs ++ v ∷ []) ≡ flagged first xs ++ flagged (first + length xs) (v ∷ [])
flagged_end first [] v = let e : first ≡ first + 0 = omega arith in ap (λ k. flagged k (v ∷ [])) e
flagged_end first (x ∷ xs) v =
    let e : suc first + length xs ≡ first + suc (length xs) = omega arith in
    by (flagged_end (suc first) xs v ∙ ap (λ k. flagged (suc first) xs ++ flagged k (v ∷ [])) e) (x == 1)
  where
    by : flagged (suc first) (xs ++ v ∷ []) ≡ flagged (suc first) xs ++ flagged (first + suc (length xs)) (v ∷ []) → (b : Bool) → (let l : List ℕ = if b then (first ∷ flagged (suc first) (xs ++ v ∷ [])) else flagged (suc first) (xs ++ v ∷ []) in
        let m : List ℕ = if b then (first ∷ flagged (suc first) xs) else flagged (suc first) xs in
        l ≡ m ++ flagged (first + suc (length xs)) (v ∷ []))
    by rest true = ap (λ l. first ∷ l) rest
    by rest false = rest

flagged_next : (first n : ℕ) (flags : List ℕ) → n < length flags → flagged first (take (n + 1) flags) ≡ flagged first (take n flags) ++ flagged (first + n) (get_or flags n 0 ∷ [])
flagged_next first n flags low =
    let next : n + 1 ≡ suc n = omega arith in
    let count : length (take n flags) ≡ n = length-take-le n flags (omega (arith, low)) in
    ap (λ k. flagged first (take k flags)) next
    ∙ (ap (flagged first) (take-suc flags n 0 low)
    ∙ (flagged_end first (take n flags) (get_or flags n 0) ∙ ap (λ k. flagged first (take n flags) ++ flagged (first + k) (get_or flags n 0 ∷ [])) count))

pub places_with : (first n : ℕ) (flags old new : List ℕ) → n < length flags → get_or flags n 0 ≡ 1 → old ≡ flagged first (take n flags) → new ≡ old ++ (first + n) ∷ [] → new ≡ flagged first (take (n + 1) flags)
places_with first n flags old new low one is e =
    e ∙ (ap (λ l. l ++ (first + n) ∷ []) is ∙ (ap (λ l. flagged first (take n flags) ++ l) (sym (by (get_or flags n 0 == 1) (eq-eqb _ _ one))) ∙ sym (flagged_next first n flags low)))
  where
    by : (b : Bool) → b ≡ true → (let l : List ℕ = if b then ((first + n) ∷ []) else [] in l ≡ (first + n) ∷ [])
    by true e = refl
    by false e = absurd (cc)

pub places_without : (first n : ℕ) (flags old : List ℕ) → n < length flags → (get_or flags n 0 ≡ 1 → ⊥) → old ≡ flagged first (take n flags) → old ≡ flagged first (take (n + 1) flags)
places_without first n flags old low isnt is =
    is ∙ (sym (append-nil (flagged first (take n flags))) ∙ (ap (λ l. flagged first (take n flags) ++ l) (sym (by (get_or flags n 0 == 1) refl)) ∙ sym (flagged_next first n flags low)))
  where
    by : (b : Bool) → (get_or flags n 0 == 1) ≡ b → (let l : List ℕ = if b then ((first + n) ∷ []) else [] in l ≡ [])
    by true e = absurd (isnt (eqb-true _ _ e))
    by false e = refl

-- the flags of the first places
pub record PutsFirstPlaces (places : List ℕ) (first flags count : ℕ) (numbers : List ℕ) : Type 0 where
  pub each : (i : ℕ) → i < flags → flag_at numbers i ≤ 1
  pub exact : (i : ℕ) → i < flags → (flag_at numbers i ≡ 1) ↔ ((k : ℕ) × (k < count) × (k < length places) × (get_or places k 0 ≡ first + i))

module _ (places : List ℕ) (first flags : ℕ) where
  pub no_place : (ns : List ℕ) → ((i : ℕ) → i < flags → flag_at ns i ≡ 0) → PutsFirstPlaces places first flags 0 ns
  no_place ns isnt = record {
    each = λ i l. (let z = isnt i l in omega (arith, z));
    exact = λ i l. (λ h. (let z = isnt i l in absurd (omega (arith, z, h))), λ (k, low, in_list, e). absurd (omega (arith, low)));
  }

  pub one_place : (n p : ℕ) (old new : List ℕ) → slice_get places n ≡ Some p → first ≤ p → flag_at new (p - first) ≡ 1 → ((k : ℕ) → (k ≡ 2 + (p - first) → ⊥) → get_or new k 0 ≡ get_or old k 0)
      → PutsFirstPlaces places first flags n old → PutsFirstPlaces places first flags (n + 1) new
  one_place n p old new got from here others is = record {
    each = λ i l. elim (at i) [ inl e ↦ omega (arith, e) | inr e ↦ let low = is.each i l in omega (arith, e, low) ];
    exact = λ i l. (forth i l, back i l);
  }
    where
      at : (i : ℕ) → (flag_at new i ≡ 1) ⊎ (flag_at new i ≡ flag_at old i)
      at i = elim (cases_eq i (p - first)) [ inl e ↦ inl (ap (λ k. flag_at new k) e ∙ here) | inr e ↦ inr (others (2 + i) (λ s. e (omega (arith, s)))) ]

      low : n < length places
      low = low_got places n p got

      value : get_or places n 0 ≡ p
      value = get_or_from_slice_get places n p 0 got

      forth : (i : ℕ) → i < flags → flag_at new i ≡ 1 → (k : ℕ) × (k < n + 1) × (k < length places) × (get_or places k 0 ≡ first + i)
      forth i l h = elim (cases_eq i (p - first)) [
        | inl e ↦ (n, omega arith, low, omega (arith, value, e, from))
        | inr e ↦ let (k, before, there, same) = (is.exact i l).0 (sym (others (2 + i) (λ s. e (omega (arith, s)))) ∙ h) in (k, omega (arith, before), there, same)
      ]

      back : (i : ℕ) → i < flags → (k : ℕ) × (k < n + 1) × (k < length places) × (get_or places k 0 ≡ first + i) → flag_at new i ≡ 1
      back i l (k, before, there, same) = elim (cases_lt k n) [
        | inl b ↦ elim (at i) [ inl one ↦ one | inr e ↦ e ∙ (is.exact i l).1 (k, b, there, same) ]
        | inr b ↦
            let last : k ≡ n = omega (arith, before, b) in
            let e : first + i ≡ p = sym same ∙ (ap (λ j. get_or places j 0) last ∙ value) in
            ap (λ j. flag_at new j) (let s : i ≡ p - first = omega (arith, e) in s) ∙ here
      ]

  pub all_places : (n : ℕ) (ns : List ℕ) → length places ≤ n → PutsFirstPlaces places first flags n ns → PutsPlaces places first flags ns
  all_places n ns all is = record {
    each = is.each;
    exact = λ i l. (
      λ h. (let (k, before, there, e) = (is.exact i l).0 h in (k, there, get_or_default places k (first + i) 0 there ∙ e)),
      λ (k, there, e). (is.exact i l).1 (k, omega (arith, there, all), there, get_or_default places k 0 (first + i) there ∙ e),
    );
  }

-- a place that is got is one of the room
pub place_fits : (places : List ℕ) (first flags n p : ℕ) → All (λ k. (first ≤ k) × (k < first + flags)) places → slice_get places n ≡ Some p → (first ≤ p) × (p < first + flags)
place_fits places first flags n p all got =
    let (a, b) = all n 0 (low_got places n p got) in
    let value : get_or places n 0 ≡ p = get_or_from_slice_get places n p 0 got in
    (omega (arith, a, value), omega (arith, b, value))

-- numbers that are put are those of the line
module _ (first : ℕ) (r : Room) (places outs looks : List ℕ) where
  abbrev ns : List ℕ
  ns = r.numbers.items

  line_places : IsStrictlySortedBy nat_cmp places → All (λ k. (first ≤ k) × (k < first + r.flags)) places → length (flags_in r.flags ns) ≡ r.flags → PutsPlaces places first r.flags ns
      → places ≡ flagged first (flags_in r.flags ns)
  line_places ascend within count puts = one_set places (flagged first (flags_in r.flags ns)) ascend (flagged_ascend first (flags_in r.flags ns)) (λ z. (forth z, back z))
    where
      fs : List ℕ
      fs = flags_in r.flags ns

      forth : (z : ℕ) → Contains places z → Contains (flagged first fs) z
      forth z (k, low, e) =
          let (a, b) = within k z low in
          let from : first ≤ z = omega (arith, a, e) in
          let inside : z - first < r.flags = omega (arith, b, e, from) in
          let back_again : first + (z - first) ≡ z = omega (arith, from) in
          let one : flag_at ns (z - first) ≡ 1 = (puts.exact (z - first) inside).1 (subst (λ (w : ℕ). Contains places w) (sym back_again) (k, low, e)) in
          subst (λ (w : ℕ). Contains (flagged first fs) w) back_again
          (contains_from_has (flagged first fs) (first + (z - first)) (at_flagged first fs (z - first) (omega (arith, inside, count)) (flag_is r.flags ns (z - first) inside ∙ one)))

      back : (z : ℕ) → Contains (flagged first fs) z → Contains places z
      back z c =
          let (i, low, one, e) = flagged_at first fs z (has_from_contains (flagged first fs) z c) in
          let inside : i < r.flags = omega (arith, low, count) in
          subst (λ (w : ℕ). Contains places w) (sym e) ((puts.exact i inside).0 (sym (flag_is r.flags ns i inside) ∙ one))

  line_outs : length outs ≡ r.entries → length (outputs_in r.flags r.entries ns) ≡ r.entries → ((i : ℕ) → i < r.entries → output_at r.flags ns i ≡ get_or outs i 0) → outs ≡ outputs_in r.flags r.entries ns
  line_outs count all put = ext_get_or 0 outs (outputs_in r.flags r.entries ns) (count ∙ sym all) (λ i l. let low : i < r.entries = omega (arith, l, count) in sym (output_is r.flags r.entries ns i low ∙ put i low))

  line_looks : length looks ≡ length (looks_in r.flags r.entries ns) → ((i : ℕ) → i < length looks → get_or ns (2 + r.flags + r.entries + i) 0 ≡ get_or looks i 0) → looks ≡ looks_in r.flags r.entries ns
  line_looks count put = ext_get_or 0 looks (looks_in r.flags r.entries ns) count (λ i l. sym (look_is r.flags r.entries ns i ∙ put i l))

  pub is_line : FitsRoom first r places outs looks → (is_text is_bearing : Bool) → get_or ns 0 0 ≡ (if is_text then 1 else 0) → get_or ns 1 0 ≡ (if is_bearing then 1 else 0)
      → PutsPlaces places first r.flags ns → ((i : ℕ) → i < r.entries → output_at r.flags ns i ≡ get_or outs i 0) → ((i : ℕ) → i < length looks → get_or ns (2 + r.flags + r.entries + i) 0 ≡ get_or looks i 0)
      → IsLine first r is_text is_bearing places outs looks
  is_line fits is_text is_bearing head bears puts out_put look_put =
      let all = fits.looks in
      let flags_room : length (flags_in r.flags ns) ≡ r.flags = length-take-le r.flags (drop 2 ns) (let n = length-drop 2 ns in omega (arith, n, all)) in
      let outs_room : length (outputs_in r.flags r.entries ns) ≡ r.entries = length-take-le r.entries (drop (2 + r.flags) ns) (let n = length-drop (2 + r.flags) ns in omega (arith, n, all)) in
      let looks_room : length looks ≡ length (looks_in r.flags r.entries ns) = (let n = length-drop (2 + r.flags + r.entries) ns in omega (arith, n, all)) in
      record {
        head = sym (head_is (get_or ns 0 0) is_text head);
        bears = sym (head_is (get_or ns 1 0) is_bearing bears);
        set = line_places fits.ascend fits.within flags_room puts;
        outs = line_outs fits.outs outs_room out_put;
        looks = line_looks looks_room look_put;
      }

-- first the heads are put, then the places, the outputs and the looks
module _ (first : ℕ) (old r : Room) (places outs looks : List ℕ) (same_flags : r.flags ≡ old.flags) (same_entries : r.entries ≡ old.entries) (same_count : length r.numbers.items ≡ length old.numbers.items)
    (fits : FitsRoom first old places outs looks) where
  fits_on : FitsRoom first r places outs looks
  fits_on = record {
    ascend = fits.ascend;
    within = λ k d l. (let (a, b) = fits.within k d l in (a, omega (arith, b, same_flags)));
    outs = fits.outs ∙ sym same_entries;
    looks = let all = fits.looks in omega (arith, all, same_flags, same_entries, same_count);
  }

  pub line_together : (is_text is_bearing : Bool) (start headed placed put : List ℕ) (f0 f1 e1 f2 e2 : ℕ) → f0 ≡ r.flags → f1 ≡ r.flags → e1 ≡ r.entries → f2 ≡ r.flags → e2 ≡ r.entries
      → ChangesHeads start headed is_text is_bearing → ((k : ℕ) → (k < 2) ⊎ (2 + f0 ≤ k) → get_or placed k 0 ≡ get_or headed k 0) → PutsPlaces places first f0 placed
      → ((k : ℕ) → (k < 2 + f1) ⊎ (2 + f1 + e1 ≤ k) → get_or put k 0 ≡ get_or placed k 0) → ((i : ℕ) → i < e1 → output_at f1 put i ≡ get_or outs i 0)
      → ((k : ℕ) → k < 2 + f2 + e2 → get_or r.numbers.items k 0 ≡ get_or put k 0) → ((i : ℕ) → i < length looks → get_or r.numbers.items (2 + f2 + e2 + i) 0 ≡ get_or looks i 0)
      → IsLine first r is_text is_bearing places outs looks × AreFlags r
  line_together is_text is_bearing start headed placed put f0 f1 e1 f2 e2 same0 same1 same_e1 same2 same_e2 heads keep_heads puts keep_places put_outs keep_outs put_looks = (
    is_line first r places outs looks fits_on is_text is_bearing (early 0 (omega arith) ∙ heads.head) (early 1 (omega arith) ∙ heads.bears) places_kept outs_kept looks_kept,
    record {
      head = head_low (get_or r.numbers.items 0 0) is_text (early 0 (omega arith) ∙ heads.head);
      bears = head_low (get_or r.numbers.items 1 0) is_bearing (early 1 (omega arith) ∙ heads.bears);
      flags = places_kept.each;
    },
  )
    where
      front : (k : ℕ) → k < 2 + r.flags → get_or r.numbers.items k 0 ≡ get_or placed k 0
      front k low = keep_outs k (omega (arith, low, same2)) ∙ keep_places k (inl (omega (arith, low, same1)))

      early : (k : ℕ) → k < 2 → get_or r.numbers.items k 0 ≡ get_or headed k 0
      early k low = front k (omega (arith, low)) ∙ keep_heads k (inl low)

      places_kept : PutsPlaces places first r.flags r.numbers.items
      places_kept = record {
        each = λ i l. (let low = puts.each i (omega (arith, l, same0)) in let e = front (2 + i) (omega (arith, l)) in omega (arith, low, e));
        exact = λ i l. (
          λ h. (puts.exact i (omega (arith, l, same0))).0 (sym (front (2 + i) (omega (arith, l))) ∙ h),
          λ c. front (2 + i) (omega (arith, l)) ∙ (puts.exact i (omega (arith, l, same0))).1 c,
        );
      }

      outs_kept : (i : ℕ) → i < r.entries → output_at r.flags r.numbers.items i ≡ get_or outs i 0
      outs_kept i l =
          let place : 2 + r.flags + i ≡ 2 + f1 + i = omega (arith, same1) in
          keep_outs (2 + r.flags + i) (omega (arith, l, same2, same_e2)) ∙ (ap (λ k. get_or put k 0) place ∙ put_outs i (omega (arith, l, same_e1)))

      looks_kept : (i : ℕ) → i < length looks → get_or r.numbers.items (2 + r.flags + r.entries + i) 0 ≡ get_or looks i 0
      looks_kept i l =
          let place : 2 + r.flags + r.entries + i ≡ 2 + f2 + e2 + i = omega (arith, same2, same_e2) in
          ap (λ k. get_or r.numbers.items k 0) place ∙ put_looks i l

-- rooms of one line
pub lines_are_one : LinesAreOne
lines_are_one first r s is_text is_bearing places outs looks beside bits others line again = ext_get_or 0 ns ms (sym beside.count) at
  where
    ns : List ℕ
    ns = r.numbers.items

    ms : List ℕ
    ms = s.numbers.items

    count : length ms ≡ length ns
    count = beside.count

    set_there : places ≡ flagged first (flags_in r.flags ms)
    set_there = subst (λ f. places ≡ flagged first (flags_in f ms)) beside.flags again.set

    outs_there : outs ≡ outputs_in r.flags r.entries ms
    outs_there = subst (λ f. outs ≡ outputs_in f r.entries ms) beside.flags (subst (λ e. outs ≡ outputs_in s.flags e ms) beside.entries again.outs)

    looks_there : looks ≡ looks_in r.flags r.entries ms
    looks_there = subst (λ f. looks ≡ looks_in f r.entries ms) beside.flags (subst (λ e. looks ≡ looks_in s.flags e ms) beside.entries again.looks)

    flags_here : length (flags_in r.flags ns) ≡ r.flags
    flags_here = length-take-le r.flags (drop 2 ns) (let n = length-drop 2 ns in let p = r.parted in omega (arith, n, p))

    flags_there : length (flags_in r.flags ms) ≡ r.flags
    flags_there = length-take-le r.flags (drop 2 ms) (let n = length-drop 2 ms in let p = r.parted in let c = count in omega (arith, n, p, c))

    same_flag : (i : ℕ) → i < r.flags → flag_at ns i ≡ flag_at ms i
    same_flag i low =
        let here = flag_is r.flags ns i low in
        let there = flag_is r.flags ms i low in
        let a = flags_here in
        let b = flags_there in
        let p = bits.flags i low in
        let f = beside.flags in
        let q = others.flags i (omega (arith, low, f)) in
        sym here
        ∙ (one_flag first (flags_in r.flags ns) (flags_in r.flags ms) (sym line.set ∙ set_there) i (omega (arith, a, low)) (omega (arith, b, low)) (omega (arith, here, p)) (omega (arith, there, q)) ∙ there)

    same_output : (i : ℕ) → i < r.entries → output_at r.flags ns i ≡ output_at r.flags ms i
    same_output i low = sym (output_is r.flags r.entries ns i low) ∙ (ap (λ l. get_or l i 0) (sym line.outs ∙ outs_there) ∙ output_is r.flags r.entries ms i low)

    same_look : (i : ℕ) → get_or ns (2 + r.flags + r.entries + i) 0 ≡ get_or ms (2 + r.flags + r.entries + i) 0
    same_look i = sym (look_is r.flags r.entries ns i) ∙ (ap (λ l. get_or l i 0) (sym line.looks ∙ looks_there) ∙ look_is r.flags r.entries ms i)

    at : (k : ℕ) → k < length ns → get_or ns k 0 ≡ get_or ms k 0
    at zero l = one_head (get_or ns 0 0) (get_or ms 0 0) bits.head others.head (sym line.head ∙ again.head)
    at (suc zero) l = one_head (get_or ns 1 0) (get_or ms 1 0) bits.bears others.bears (sym line.bears ∙ again.bears)
    at (suc (suc i)) l = elim (cases_lt i r.flags) [
      | inl low ↦ subst (λ k. get_or ns k 0 ≡ get_or ms k 0) (omega arith) (same_flag i low)
      | inr past ↦ elim (cases_lt (i - r.flags) r.entries) [
        | inl low ↦ subst (λ k. get_or ns k 0 ≡ get_or ms k 0) (omega (arith, past)) (same_output (i - r.flags) low)
        | inr far ↦ subst (λ k. get_or ns k 0 ≡ get_or ms k 0) (omega (arith, past, far)) (same_look (i - r.flags - r.entries))
      ]
    ]
