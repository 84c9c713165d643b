use Rattle.std.proofs.Common.{◌≡◌, List, ℕ, ◌<◌, subst, sym, ap, take, drop, length, ◌++◌, arith}
use Rattle.tc_mat.specs.Matrix.{Matrix, IsMatrix, Gains}
use Rattle.tc_mat.proofs.Sets.{matrix, set_back, set_is_matrix, set_gains}
use Rattle.tc_mat.proofs.matrices.Mat.set.Goals as goal

in_n : (c : goal.After-self-1) → (c.args.i < c.self.inside.n) × (c.args.j < c.self.inside.n)
in_n c =
    let e : c.self.inside.n ≡ c.args.self.now.size = ap (λ (m : Matrix). m.size) c.self.view_is in
    (omega (arith, c.requires.row), omega (arith, c.requires.column))

pub invariant_of-self : goal.invariant_of-self
invariant_of-self c =
    let n = c.self.inside.n in
    let kept = c.self.inside.rows.items in
    let is = set_back n c.self.inside.rows.len c.words_in_row.result c.args.i c.args.j kept c.as_mut_slice.result.now c.set_bit.new.words c.as_mut_slice.ensures.value c.words_in_row.ensures c.as_mut_slice.ensures.len c.set_bit.auto.words c.set_bit.ensures in
    subst (λ (words : List ℕ). IsMatrix (matrix n words)) (sym is)
    (set_is_matrix n kept c.args.i c.args.j c.self.invariant (in_n c).0 (in_n c).1)

pub returns-clause-matrix : goal.returns-clause-matrix
returns-clause-matrix c = invariant_of-self c

pub returns-clause-pairs : goal.returns-clause-pairs
returns-clause-pairs c =
    let n = c.self.inside.n in
    let kept = c.self.inside.rows.items in
    let is = set_back n c.self.inside.rows.len c.words_in_row.result c.args.i c.args.j kept c.as_mut_slice.result.now c.set_bit.new.words c.as_mut_slice.ensures.value c.words_in_row.ensures c.as_mut_slice.ensures.len c.set_bit.auto.words c.set_bit.ensures in
    let to : Gains (matrix n kept) c.args.i c.args.j (matrix n (take c.self.inside.rows.len (c.set_bit.new.words ++ drop (length c.set_bit.new.words) kept))) =
    subst (λ (words : List ℕ). Gains (matrix n kept) c.args.i c.args.j (matrix n words)) (sym is) (set_gains n kept c.args.i c.args.j c.self.invariant (in_n c).0 (in_n c).1) in
    subst (λ (old : Matrix). Gains old c.args.i c.args.j (matrix n (take c.self.inside.rows.len (c.set_bit.new.words ++ drop (length c.set_bit.new.words) kept)))) c.self.view_is to
