-- A room's numbers are those of a row, and the entries of an append are the products.
use Rattle.std.proofs.Common.{◌≡◌, ◌<◌, ◌+◌, [], ℕ, List, length, get_or, drop, subst, sym, ap, ◌∙◌, refl, arith}
use Rattle.std.proofs.lemmas.List.{get_or-map, get_or_default, length-map, length-take-le, length-drop}
use Rattle.std.proofs.lemmas.List.Elements.{Contains-get_or}
use Rattle.tc_alpha.proofs.Members.{has_from_contains}
use Rattle.tc_model.specs.States.{input, state_count}
use Rattle.tc_mat.specs.Matrix.{Matrix, IsComposition}
use Rattle.tc_rows.specs.Triples.{Triple, outputs, entries, looks}
use Rattle.tc_rows.specs.PairSets.{IsPairs, HaveSamePairs, product, listed}
use Rattle.tc_rows.specs.Rows.{AreEntries, AreLooks, IsHedgeRow}
use Rattle.tc_beh.specs.Places.{pairs_of, entries_by, no_matrix}
use Rattle.tc_beh.specs.Rooms.{Layout, hedge_layout, flagged, flags_in, outputs_in, looks_in, output_at, IsRoom, hedge_row}
use Rattle.tc_beh.proofs.Pairs.{listed_pairs}
use Rattle.tc_beh.proofs.RoomRows.{flagged_at, flagged_ascend, output_is, look_is}
use Rattle.tc_beh.proofs.RoomSets.{are_pairs}

pub flags_count : (s : Layout) (held : List Matrix) (ns : List ℕ) → IsRoom s held ns → length (flags_in s.flags ns) ≡ s.flags
flags_count s held ns is = length-take-le s.flags (drop 2 ns) (let n = length-drop 2 ns in let c = is.count in omega (arith, n, c))

pub outputs_count : (s : Layout) (held : List Matrix) (ns : List ℕ) → IsRoom s held ns → length (outputs_in s.flags s.entries ns) ≡ s.entries
outputs_count s held ns is = length-take-le s.entries (drop (2 + s.flags) ns) (let n = length-drop (2 + s.flags) ns in let c = is.count in omega (arith, n, c))

module _ (x : Triple) (held : List Matrix) (sizes : (k : ℕ) → k < length held → (get_or held k no_matrix).size ≡ outputs x) where
  pub entry_at : (n m : ℕ) (ns : List ℕ) (i : ℕ) → length (outputs_in n m ns) ≡ m → i < m → get_or (entries_by held (outputs_in n m ns)) i [] ≡ pairs_of (get_or held (output_at n ns i) no_matrix)
  entry_at n m ns i count low =
      get_or-map (λ k. pairs_of (get_or held k no_matrix)) (outputs_in n m ns) i 0 [] (omega (arith, count, low))
      ∙ ap (λ k. pairs_of (get_or held k no_matrix)) (output_is n m ns i low)

  pub are_entries : (s : Layout) (ns : List ℕ) → s.entries ≡ entries x → IsRoom s held ns → AreEntries x (entries_by held (outputs_in s.flags s.entries ns))
  are_entries s ns e is =
      let os : List ℕ = outputs_in s.flags s.entries ns in
      let count : length os ≡ s.entries = outputs_count s held ns is in
      record {
        count = length-map os (λ k. pairs_of (get_or held k no_matrix)) ∙ (count ∙ e);
        each = λ k d l.
            let many : length (entries_by held os) ≡ length os = length-map os (λ k. pairs_of (get_or held k no_matrix)) in
            let low : k < length os = omega (arith, l, many) in
            let inside : k < s.entries = omega (arith, low, count) in
            let at : get_or os k 0 ≡ output_at s.flags ns k = output_is s.flags s.entries ns k inside in
            let few = is.outs k inside in
            subst (λ ps. IsPairs (outputs x) ps) (sym (get_or-map (λ k. pairs_of (get_or held k no_matrix)) os k 0 d low))
            (are_pairs (get_or held (get_or os k 0) no_matrix) (outputs x) (sizes (get_or os k 0) (omega (arith, at, few))));
      }

  pub are_looks : (s : Layout) (ns : List ℕ) → s.looks ≡ looks x → IsRoom s held ns → AreLooks x (looks_in s.flags s.entries ns)
  are_looks s ns e is =
      let vs : List ℕ = looks_in s.flags s.entries ns in
      let many = length-drop (2 + s.flags + s.entries) ns in
      let all = is.count in
      let count : length vs ≡ s.looks = omega (arith, many, all) in
      record {
        count = count ∙ e;
        each = λ k d l.
            let low : k < s.looks = omega (arith, l, count) in
            let at : get_or vs k d ≡ get_or ns (2 + s.flags + s.entries + k) 0 = get_or_default vs k d 0 l ∙ look_is s.flags s.entries ns k in
            let few = is.looks k low in
            omega (arith, at, few);
      }

  pub is_hedge_row : (ns : List ℕ) → IsRoom (hedge_layout x) held ns → IsHedgeRow x (hedge_row x held ns)
  is_hedge_row ns is =
      let n = state_count x.input input in
      let fs : List ℕ = flags_in n ns in
      record {
        ascend = flagged_ascend 0 fs;
        states = λ k d l.
            let (i, low, one, at) = flagged_at 0 fs (get_or (flagged 0 fs) k d) (has_from_contains (flagged 0 fs) (get_or (flagged 0 fs) k d) (Contains-get_or (flagged 0 fs) k d l)) in
            let count = flags_count (hedge_layout x) held ns is in
            omega (arith, at, low, count);
        entries = are_entries (hedge_layout x) ns refl is;
        looks = are_looks (hedge_layout x) ns refl is;
      }

-- what leads by a composition
pub composed : (a b c : Matrix) → IsComposition a b c → HaveSamePairs (listed (pairs_of c)) (product (listed (pairs_of a)) (listed (pairs_of b)))
composed a b c is i j = (
  λ h. (let (k, p, q) = (is i j).0 ((listed_pairs c i j).1 h) in (k, (listed_pairs a i k).0 p, (listed_pairs b k j).0 q)),
  λ (k, p, q). (listed_pairs c i j).0 ((is i j).1 (k, (listed_pairs a i k).1 p, (listed_pairs b k j).1 q)),
)
