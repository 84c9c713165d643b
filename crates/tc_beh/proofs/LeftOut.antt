-- What a refused row of a node leaves, and where its entries stand in a row.
use Rattle.std.proofs.Common.{◌≡◌, ◌<◌, ◌+◌, ◌*◌, ◌/◌, ◌%◌, ℕ, zero, suc, List, [], get_or, subst, sym, arith}
use Rattle.std.proofs.Math.Nat.{mod-lt, div-lt_iff_lt-mul}
use Rattle.std.proofs.lemmas.Nat.{div-add-mod'}
use Rattle.tc_mat.specs.Matrix.{Matrix}
use Rattle.tc_mat.specs.Held.{Held, AreMatrices}
use Rattle.tc_rules.specs.States.{Going}
use Rattle.tc_rules.specs.Tasks.{IsMoveAt}
use Rattle.tc_rows.specs.Triples.{Triple, IsTriple, outputs, ancestors, moves, entries, number_below}
use Rattle.tc_rows.specs.PairSets.{HaveSamePairs, listed}
use Rattle.tc_rows.specs.Rows.{AreEntries, entry}
use Rattle.tc_rows.proofs.PairLaws.{same_back, same_on}
use Rattle.tc_rows.proofs.Decode.{move_at}
use Rattle.tc_beh.specs.Above.{letter_of, pairs_at}
use Rattle.tc_beh.specs.Entries.{IsEntryAt, ComesPartly}
use Rattle.tc_beh.specs.Held.{set_at}
use Rattle.tc_beh.specs.Outs.{GrowsBy, IsLeftOut}
use Rattle.tc_beh.specs.Putting.{has}
use Rattle.tc_beh.specs.declared.entries.Node.{Node}
use Rattle.tc_beh.proofs.Held.{sizes_of, among, left_out}

pub record IsParted (i a m : ℕ) : Type 0 where
  pub q : ℕ
  pub k : ℕ
  pub first : q < a
  pub second : k < m
  pub whole : i ≡ q * m + k

-- a place is that of an ancestor state and of a state of a move
pub parted : (i a m : ℕ) → i < a * m → IsParted i a m
parted i a zero l = absurd (let none : a * 0 ≡ 0 = omega arith in omega (arith, l, none))
parted i a (suc m) l = record {
  q = i / suc m;
  k = i % suc m;
  first = (div-lt_iff_lt-mul (omega arith)).1 l;
  second = mod-lt i (omega arith);
  whole = sym (div-add-mod' i (suc m));
}

module _ (x : Triple) (is : IsTriple x) (es : List (List (ℕ × ℕ))) (n : Node) (rs : List (List (ℕ × ℕ))) (are : AreEntries x rs)
    (right : (q k : ℕ) (g : Going) (at : IsMoveAt x.rules k g) → q < ancestors x
    → HaveSamePairs (listed (entry x rs q k)) (pairs_at x n.bears es n.looks.now q (number_below x q (letter_of n.letter)) at.mode g n.letter.marks.0 (letter_of n.letter).kind)) where
  same_entry : (i : ℕ) (m : Matrix) → i < entries x → IsEntryAt x es n i m → HaveSamePairs (listed (get_or rs i [])) (has m)
  same_entry i m low at =
      let p = parted i (ancestors x) (moves x) low in
      let (g, st) = move_at x is p.k p.second in
      subst (λ j. HaveSamePairs (listed (get_or rs j [])) (has m)) (sym p.whole) (same_on _ _ _ (right p.q p.k g st p.first) (same_back _ _ (at p.q p.k g st p.first p.whole)))

  -- what came on are entries of the row, and one of them isn't held
  pub row_left_out : (old new : Held) → AreMatrices new → new.size ≡ outputs x → ComesPartly x es n old new → GrowsBy old new rs × IsLeftOut new rs
  row_left_out old new held size so = (
    record {
      held = so.held;
      found = λ k from to.
          let (i, low, at) = so.found k from to in
          among x rs are (set_at new k) i (sizes_of new (outputs x) held size k to) low (same_entry i (set_at new k) low at);
    },
    let (i, low, (m, at, of, matrix, isnt)) = so.left in
        left_out x rs are new m i held size of matrix isnt low (same_entry i m low at),
  )
