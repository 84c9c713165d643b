-- What a body puts out on a node, where the sets of pairs of the named bodies that it calls are given.
use Rattle.std.specs.Prelude.{◌≡◌, ◌+◌, ℕ, Some, slice_get}
use Rattle.tc_model.specs.Sheets.{CallFreeBody, Inlines, Body, no_instruction, put_text, put_element, copy, apply, call, for_each, value, value_of_self, choose, Branches, otherwise, branch}
use Rattle.tc_model.specs.Symbols.{symbol_of}
use Rattle.tc_mat.specs.Matrix.{Matrix, HasPair}
use Rattle.tc_rows.specs.Triples.{Triple, sheet}
use Rattle.tc_rows.specs.PairSets.{PairSet, HaveSamePairs, product, chosen}
use Rattle.tc_rows.specs.Rows.{bears_value}
use Rattle.tc_rows.specs.Bodies.{NodeKind, Below, body_pairs, holds_by, stay, around, text_pairs, value_pairs, copied_pairs, self_bears}

-- the pairs that a matrix has
abbrev pub has : Matrix → PairSet
has m i j = HasPair m i j

-- pairs are put behind those of a matrix
abbrev pub Extends : Matrix → Matrix → PairSet → Type 0
Extends old new r = HaveSamePairs (has new) (product (has old) r)

module _ (x : Triple) (k : NodeKind) (w : Below) (called : ℕ → PairSet) where
  abbrev mutual
    pub put_pairs : Body → PairSet
    put_pairs no_instruction = stay x
    put_pairs (put_text s b) = product (text_pairs x s) (put_pairs b)
    put_pairs (put_element n inner b) = product (around x (symbol_of x.symbols n) (put_pairs inner)) (put_pairs b)
    put_pairs (copy inner b) = product (copied_pairs x k (put_pairs inner)) (put_pairs b)
    put_pairs (apply p m b) = product (w.pairs m p) (put_pairs b)
    put_pairs (call n b) = product (called n) (put_pairs b)
    put_pairs (value p b) = product (value_pairs x (bears_value (w.look p))) (put_pairs b)
    put_pairs (value_of_self b) = product (value_pairs x (self_bears x k w.bears)) (put_pairs b)
    put_pairs (choose y b) = product (put_branch_pairs y) (put_pairs b)
    put_pairs (for_each e p inner b) = product (w.pairs ((sheet x).modes + e) p) (put_pairs b)

    pub put_branch_pairs : Branches → PairSet
    put_branch_pairs (otherwise b) = put_pairs b
    put_branch_pairs (branch t b y) = chosen (holds_by t w.look) (put_pairs b) (put_branch_pairs y)

  -- the set of a named body is what it puts with calls in place
  abbrev pub IsCalled : ℕ → Type 0
  IsCalled n = (b : Body) (p : CallFreeBody) → slice_get (sheet x).named n ≡ Some b → Inlines (sheet x).named b p → HaveSamePairs (called n) (body_pairs x p k w)
