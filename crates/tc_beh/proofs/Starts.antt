-- What is put leads from states alone.
use Rattle.std.proofs.Common.{◌≡◌, ◌<◌, ◌+◌, ◌*◌, ℕ, zero, suc, List, [], ◌∷◌, length, get_or, Bool, true, false, nat_lt, subst, sym, refl, arith, All}
use Rattle.tc_mat.specs.Matrix.{Matrix, HasPair, IsIdentity}
use Rattle.tc_model.specs.Sheets.{Path, CallFreeBody, p_done, p_text, p_element, p_copy, p_apply, p_call, p_value, p_self, p_choose, p_each, CallFreeBranches, p_otherwise, p_branch}
use Rattle.tc_model.specs.States.{output, text_leaf, ref_leaf}
use Rattle.tc_model.specs.PathStates.{first_state}
use Rattle.tc_model.specs.Symbols.{symbol_of}
use Rattle.tc_model.specs.Trees.{is_white_space_only}
use Rattle.tc_model.proofs.StatesParts.{edge_within}
use Rattle.tc_rows.specs.Triples.{Triple, sheet, outputs, moves, number, moving}
use Rattle.tc_rows.specs.PairSets.{PairSet, HaveSamePairs, identity, product, chosen, listed}
use Rattle.tc_rows.specs.Rows.{entry, bears_value}
use Rattle.tc_rows.specs.Bodies.{NodeKind, on_root, on_element, on_text, Below, body_pairs, branch_pairs, holds_by, stay, around, text_edges, copied_pairs, self_bears}
use Rattle.tc_beh.specs.Putting.{has}
use Rattle.tc_beh.specs.Places.{kind_of, below_at, below_of, entries_by, pairs_of, no_matrix}
use Rattle.tc_beh.specs.Grounds.{IsGroundIn}
use Rattle.tc_beh.specs.declared.bodies.Place.{Place}
use Rattle.tc_beh.proofs.Pairs.{listed_pairs}

abbrev pub StartsBelow : ℕ → PairSet → Type 0
StartsBelow n r = (i j : ℕ) → r i j → i < n

-- nothing put before what starts below is nothing
pub stay_first : (n : ℕ) (r : PairSet) → StartsBelow n r → HaveSamePairs (product (identity n) r) r
stay_first n r h = λ i j. (λ (l, same, there). subst (λ k. r k j) (sym same.1) there, λ there. (i, (h i j there, refl), there))

pub identity_begun : (m : Matrix) (n : ℕ) → m.size ≡ n → IsIdentity m → HaveSamePairs (has m) (identity n)
identity_begun m n e is = subst (λ k. HaveSamePairs (has m) (identity k)) e is

pub chosen_starts : (n : ℕ) (b : Bool) (r s : PairSet) → StartsBelow n r → StartsBelow n s → StartsBelow n (chosen b r s)
chosen_starts n true r s h k = h
chosen_starts n false r s h k = k

matrix_starts : (n : ℕ) (m : Matrix) → m.size ≡ n → StartsBelow n (listed (pairs_of m))
unfolding HasPair
matrix_starts n m e = λ i j h. subst (λ k. i < k) e ((listed_pairs m i j).1 h).0

outs_start : (n : ℕ) (ms : List Matrix) (ks : List ℕ) → All (λ m. m.size ≡ n) ms → All (λ k. k < length ms) ks → (at : ℕ) → StartsBelow n (listed (get_or (entries_by ms ks) at []))
outs_start n ms [] sizes low at = λ i j h. let past = h.1 in absurd (omega (arith, past))
outs_start n ms (k ∷ ks) sizes low zero = matrix_starts n (get_or ms k no_matrix) (sizes k no_matrix (low 0 0 (omega arith)))
outs_start n ms (k ∷ ks) sizes low (suc at) = outs_start n ms ks sizes (λ i d l. low (suc i) d (omega (arith, l))) at

module _ (x : Triple) where
  pub edge_starts : (i j : ℕ) → text_edges x i j → i < outputs x
  edge_starts i j h = (edge_within x.output output i j text_leaf h).0

  pub stay_starts : StartsBelow (outputs x) (stay x)
  stay_starts i j h = h.0

  pub around_starts : (a : ℕ) (r : PairSet) → StartsBelow (outputs x) (around x a r)
  around_starts a r i j (k, p, at, class, inside, edge) = (edge_within x.output output i j (ref_leaf k) edge).0

  pub copied_starts : (k : NodeKind) (r : PairSet) → StartsBelow (outputs x) r → StartsBelow (outputs x) (copied_pairs x k r)
  copied_starts on_root r h = h
  copied_starts (on_element a) r h = around_starts a r
  copied_starts on_text r h = edge_starts

  module _ (k : NodeKind) (w : Below) (low : (mode : ℕ) (p : Path) → StartsBelow (outputs x) (w.pairs mode p)) where
    mutual
      pub starts : (b : CallFreeBody) → StartsBelow (outputs x) (body_pairs x b k w)
      starts p_done i j h = h.0
      starts (p_text s b) i j (l, h, t) = chosen_starts (outputs x) (is_white_space_only s) (stay x) (text_edges x) stay_starts edge_starts i l h
      starts (p_element n inner b) i j (l, h, t) = around_starts (symbol_of x.symbols n) (body_pairs x inner k w) i l h
      starts (p_copy inner b) i j (l, h, t) = copied_starts k (body_pairs x inner k w) (starts inner) i l h
      starts (p_apply p mode b) i j (l, h, t) = low mode p i l h
      starts (p_call inner b) i j (l, h, t) = starts inner i l h
      starts (p_value p b) i j (l, h, t) = chosen_starts (outputs x) (bears_value (w.look p)) (text_edges x) (stay x) edge_starts stay_starts i l h
      starts (p_self b) i j (l, h, t) = chosen_starts (outputs x) (self_bears x k w.bears) (text_edges x) (stay x) edge_starts stay_starts i l h
      starts (p_choose y b) i j (l, h, t) = branches_start y i l h
      starts (p_each e p inner b) i j (l, h, t) = low ((sheet x).modes + e) p i l h

      branches_start : (y : CallFreeBranches) → StartsBelow (outputs x) (branch_pairs x y k w)
      branches_start (p_otherwise b) i j h = starts b i j h
      branches_start (p_branch t b y) i j h = chosen_starts (outputs x) (holds_by t w.look) (body_pairs x b k w) (branch_pairs x y k w) (starts b) (branches_start y) i j h

-- what is put of what stands below a node
pub below_starts : (x : Triple) (p : Place) → IsGroundIn x p → (mode : ℕ) (w : Path) → StartsBelow (outputs x) ((below_of x p).pairs mode w)
below_starts x p is mode w = by (kind_of p.node)
  where
    from : (y : ℕ) → StartsBelow (outputs x) (chosen (nat_lt y (moves x)) (listed (entry x (entries_by p.outputs.now.matrices p.entries.now) p.above y)) (stay x))
    from y = chosen_starts (outputs x) (nat_lt y (moves x)) (listed (entry x (entries_by p.outputs.now.matrices p.entries.now) p.above y)) (stay x)
        (outs_start (outputs x) p.outputs.now.matrices p.entries.now is.sizes is.outs (p.above * moves x + y)) (stay_starts x)

    by : (k : NodeKind) → StartsBelow (outputs x) ((below_at x k p.bears (entries_by p.outputs.now.matrices p.entries.now) p.looks.now p.above).pairs mode w)
    by on_root = from (number x (moving mode w (first_state w)))
    by (on_element a) = from (number x (moving mode w (first_state w)))
    by on_text = stay_starts x
