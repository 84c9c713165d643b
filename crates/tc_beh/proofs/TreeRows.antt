-- A room's numbers as those of the row of a tree.
use Rattle.std.proofs.Common.{◌≡◌, ◌<◌, ◌==◌, [], ◌∷◌, ℕ, suc, List, length, get_or, false, if◌then◌else◌, ap, ◌∙◌, refl, arith}
use Rattle.std.proofs.lemmas.List.Elements.{Contains-get_or}
use Rattle.tc_alpha.proofs.Members.{has_from_contains}
use Rattle.tc_mat.specs.Matrix.{Matrix}
use Rattle.tc_rows.specs.Triples.{Triple, outputs}
use Rattle.tc_rows.specs.Rows.{IsTreeRow}
use Rattle.tc_beh.specs.Places.{no_matrix}
use Rattle.tc_beh.specs.Rooms.{tree_layout, flagged, flags_in, IsRoom, tree_row}
use Rattle.tc_beh.proofs.RoomRows.{flagged_at, flagged_ascend}
use Rattle.tc_beh.proofs.RoomIs.{flags_count, are_entries, are_looks}

pub is_tree_row : (x : Triple) (held : List Matrix) → ((k : ℕ) → k < length held → (get_or held k no_matrix).size ≡ outputs x) → (ns : List ℕ) → IsRoom (tree_layout x) held ns → IsTreeRow x (tree_row x held ns)
is_tree_row x held sizes ns is =
    let n = length x.input.elements in
    let fs : List ℕ = flags_in n ns in
    record {
      ascend = flagged_ascend 1 fs;
      patterns = λ k d l.
          let (i, low, one, at) = flagged_at 1 fs (get_or (flagged 1 fs) k d) (has_from_contains (flagged 1 fs) (get_or (flagged 1 fs) k d) (Contains-get_or (flagged 1 fs) k d l)) in
          let count = flags_count (tree_layout x) held ns is in
          (omega (arith, at), omega (arith, at, low, count));
      entries = are_entries x held sizes (tree_layout x) ns refl is;
      looks = are_looks x held sizes (tree_layout x) ns refl is;
    }

-- no flag is set
pub none_flagged : (first : ℕ) (vs : List ℕ) → ((i : ℕ) → i < length vs → get_or vs i 0 ≡ 0) → flagged first vs ≡ []
none_flagged first [] h = refl
none_flagged first (v ∷ vs) h =
    let not_one : (v == 1) ≡ false = ap (λ (k : ℕ). k == 1) (h 0 (omega arith)) in
    let rest : flagged (suc first) vs ≡ [] = none_flagged (suc first) vs (λ i l. h (suc i) (omega (arith, l))) in
    ap (λ b. if b then (first ∷ flagged (suc first) vs) else flagged (suc first) vs) not_one ∙ rest
