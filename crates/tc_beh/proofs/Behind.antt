-- What an append leaves, seen as a row.
use Rattle.std.proofs.Common.{◌≡◌, ◌<◌, ◌≤◌, ◌+◌, ◌==◌, ◌||◌, [], ℕ, List, length, get_or, Bool, true, false, if◌then◌else◌, subst, sym, ap, ◌∙◌, arith}
use Rattle.tc_model.specs.States.{input, state_count}
use Rattle.tc_auto.specs.Stands.{Stands, states}
use Rattle.tc_auto.specs.declared.auto.Auto.{Auto}
use Rattle.tc_mat.specs.Held.{Held, AreMatrices}
use Rattle.tc_rows.specs.Triples.{Triple, outputs, entries, looks}
use Rattle.tc_rows.specs.PairSets.{HaveSamePairs, product, listed}
use Rattle.tc_rows.specs.Rows.{or_hit, HedgeRow}
use Rattle.tc_rows.specs.Arithmetic.{IsAppend}
use Rattle.tc_beh.specs.Places.{pairs_of}
use Rattle.tc_beh.specs.Held.{Extends, IsNew, AreProducts, set_at}
use Rattle.tc_beh.specs.Outs.{IsLeftOut, GrowsBy}
use Rattle.tc_beh.specs.Rooms.{count_of, hedge_layout, tree_layout, flag_at, output_at, flags_in, looks_in, IsRoom, hedge_row, tree_row}
use Rattle.tc_beh.specs.Appending.{Puts, IsBehind}
use Rattle.tc_beh.proofs.RoomRows.{look_is}
use Rattle.tc_beh.proofs.RoomIs.{flags_count, outputs_count, entry_at, is_hedge_row, composed}
use Rattle.tc_beh.proofs.Appended.{states_appended}
use Rattle.tc_beh.proofs.Held.{sizes_of, grows_by_products, product_left_out}

-- flags of the whole
pub head_is : (n : ℕ) (b : Bool) → n ≡ (if b then 1 else 0) → (n == 1) ≡ b
head_is n true e = ap (λ (k : ℕ). k == 1) e
head_is n false e = ap (λ (k : ℕ). k == 1) e

pub head_low : (n : ℕ) (b : Bool) → n ≡ (if b then 1 else 0) → n ≤ 1
head_low n true e = omega (arith, e)
head_low n false e = omega (arith, e)

or_hit_low : (v w : ℕ) → v ≤ 2 → w ≤ 2 → or_hit v w ≤ 2
or_hit_low v w l m = by (v == 0)
  where
    by : (b : Bool) → (let n : ℕ = if b then w else v in n ≤ 2)
    by true = m
    by false = l

-- numbers that keep the flags have the same states
pub puts_kept : (a : Auto) (hedge : List ℕ) (is_text : Bool) (patterns old new : List ℕ) (n : ℕ) → states a ≡ n → ((k : ℕ) → 2 ≤ k → k < 2 + n → get_or new k 0 ≡ get_or old k 0)
    → Puts a hedge is_text patterns old → Puts a hedge is_text patterns new
puts_kept a hedge is_text patterns old new n count same is = record {
  each = λ j l. let low = is.each j l in let e = at j l in omega (arith, low, e);
  exact = λ side x st j l. (
    λ h. (is.exact side x st j l).0 (sym (at j l) ∙ h),
    λ h. at j l ∙ (is.exact side x st j l).1 h,
  );
}
  where
    at : (j : ℕ) → j < states a → flag_at new j ≡ flag_at old j
    at j l = same (2 + j) (omega arith) (omega (arith, l, count))

-- an entry of the append is a product
module _ (x : Triple) (old : Held) (held : AreMatrices old) (size : old.size ≡ outputs x) (hs ts : List ℕ)
    (hedge : IsRoom (hedge_layout x) old.matrices hs) (tree : IsRoom (tree_layout x) old.matrices ts) where
  abbrev n : ℕ
  n = state_count x.input input

  abbrev p : ℕ
  p = length x.input.elements

  pub hedge_entry : (i : ℕ) → i < entries x → get_or (hedge_row x old.matrices hs).entries i [] ≡ pairs_of (set_at old (output_at n hs i))
  hedge_entry i low = entry_at x old.matrices (sizes_of old (outputs x) held size) n (entries x) hs i (outputs_count (hedge_layout x) old.matrices hs hedge) low

  pub tree_entry : (i : ℕ) → i < entries x → get_or (tree_row x old.matrices ts).entries i [] ≡ pairs_of (set_at old (output_at p ts i))
  tree_entry i low = entry_at x old.matrices (sizes_of old (outputs x) held size) p (entries x) ts i (outputs_count (tree_layout x) old.matrices ts tree) low

  same_product : (i : ℕ) → i < entries x → product (listed (pairs_of (set_at old (output_at n hs i)))) (listed (pairs_of (set_at old (output_at p ts i))))
      ≡ product (listed (get_or (hedge_row x old.matrices hs).entries i [])) (listed (get_or (tree_row x old.matrices ts).entries i []))
  same_product i low =
      ap (λ l. product (listed l) (listed (pairs_of (set_at old (output_at p ts i))))) (sym (hedge_entry i low))
      ∙ ap (λ l. product (listed (get_or (hedge_row x old.matrices hs).entries i [])) (listed l)) (sym (tree_entry i low))

  -- what a refused append leaves
  module _ (new : Held) (more : Extends old new) (are : AreMatrices new) (r : HedgeRow) (is : IsAppend x (hedge_row x old.matrices hs) (tree_row x old.matrices ts) r) where
    each : (i : ℕ) → i < entries x → HaveSamePairs (listed (get_or r.entries i [])) (product (listed (pairs_of (set_at old (output_at n hs i)))) (listed (pairs_of (set_at old (output_at p ts i)))))
    each i low = subst (λ s. HaveSamePairs (listed (get_or r.entries i [])) s) (sym (same_product i low)) (is.entries i low)

    pub partly_appended : AreProducts old new (output_at n hs) (output_at p ts) (entries x) → GrowsBy old new r.entries
    partly_appended products = grows_by_products x r.entries is.row.entries old new (output_at n hs) (output_at p ts) each more are (more.size ∙ size) products

    pub left_out_of_append : (i : ℕ) → i < entries x → IsNew new (set_at old (output_at n hs i)) (set_at old (output_at p ts i)) → IsLeftOut new r.entries
    left_out_of_append i low fresh = product_left_out x r.entries is.row.entries old new (output_at n hs) (output_at p ts) each i are (more.size ∙ size) low fresh

  module _ (new : Held) (more : Extends old new) (are : AreMatrices new) (ns : List ℕ) (count : length ns ≡ count_of (hedge_layout x))
      (behind : IsBehind old new n p n (entries x) hs ts ns) (low_outs : (i : ℕ) → i < entries x → output_at n ns i < length new.matrices)
      (a : Auto) (stands : Stands input x.input a) (puts : Puts a (flags_in n hs) (get_or ts 0 0 == 1) (flags_in p ts) ns) where
    look_at_behind : (i : ℕ) → i < looks x → get_or ns (2 + n + entries x + i) 0 ≡ or_hit (get_or hs (2 + n + entries x + i) 0) (get_or ts (2 + p + entries x + i) 0)
    look_at_behind i low = behind.looks i (let c = hedge.count in omega (arith, c, low))

    -- the numbers are those of a row
    pub is_room : IsRoom (hedge_layout x) new.matrices ns
    is_room = record {
      count = count;
      head = head_low (get_or ns 0 0) (get_or ts 0 0 == 1) behind.head;
      bears = head_low (get_or ns 1 0) ((get_or hs 1 0 == 1) || (get_or ts 1 0 == 1)) behind.bears;
      flags = λ i low. puts.each i (let c = stands.built.counted in omega (arith, c, low));
      outs = low_outs;
      looks = λ i low.
          subst (λ (v : ℕ). v ≤ 2) (sym (look_at_behind i low))
          (or_hit_low (get_or hs (2 + n + entries x + i) 0) (get_or ts (2 + p + entries x + i) 0) (hedge.looks i low) (tree.looks i low));
    }

    pub is_append : IsAppend x (hedge_row x old.matrices hs) (tree_row x old.matrices ts) (hedge_row x new.matrices ns)
    is_append = record {
      row = is_hedge_row x new.matrices (sizes_of new (outputs x) are (more.size ∙ size)) ns is_room;
      ends = head_is (get_or ns 0 0) (get_or ts 0 0 == 1) behind.head;
      bears = head_is (get_or ns 1 0) ((get_or hs 1 0 == 1) || (get_or ts 1 0 == 1)) behind.bears;
      states = states_appended x old.matrices ts a stands stands.built.counted hs ns (flags_count (hedge_layout x) old.matrices hs hedge) (flags_count (hedge_layout x) new.matrices ns is_room) puts;
      entries = λ i low.
          let here : get_or (hedge_row x new.matrices ns).entries i [] ≡ pairs_of (set_at new (output_at n ns i)) =
          entry_at x new.matrices (sizes_of new (outputs x) are (more.size ∙ size)) n (entries x) ns i (outputs_count (hedge_layout x) new.matrices ns is_room) low
          in
          subst (λ l. HaveSamePairs (listed l) (product (listed (get_or (hedge_row x old.matrices hs).entries i [])) (listed (get_or (tree_row x old.matrices ts).entries i [])))) (sym here)
          (subst (λ s. HaveSamePairs (listed (pairs_of (set_at new (output_at n ns i)))) s) (same_product i low)
          (composed (set_at old (output_at n hs i)) (set_at old (output_at p ts i)) (set_at new (output_at n ns i)) (behind.outs i low)));
      looks = λ i low.
          look_is n (entries x) ns i ∙ (look_at_behind i low
          ∙ (ap (λ v. or_hit v (get_or ts (2 + p + entries x + i) 0)) (sym (look_is n (entries x) hs i)) ∙ ap (λ w. or_hit (get_or (looks_in n (entries x) hs) i 0) w) (sym (look_is p (entries x) ts i))));
    }
