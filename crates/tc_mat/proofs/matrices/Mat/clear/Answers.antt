use Rattle.std.proofs.Common.{ap, sym, ◌∙◌, length, take, drop, ◌++◌, List, ℕ, subst, replicate, ◌≡◌, rules}
use Rattle.tc_mat.specs.Matrix.{IsMatrix}
use Rattle.tc_mat.proofs.Sets.{matrix, written_back, zeros_have_none, zeros_are_matrix}
use Rattle.tc_mat.proofs.matrices.Mat.clear.Goals as goal

pub returns-clause-pairs : goal.returns-clause-pairs
returns-clause-pairs c =
    let kept = c.self.inside.rows.items in
    let lent = c.as_mut_slice.result.now in
    let new = c.fill.new.self in
    let len = c.self.inside.rows.len in
    zeros_have_none c.self.inside.n (length lent) (take len (new ++ drop (length new) kept))
    (written_back kept new len (sym c.as_mut_slice.ensures.len ∙ ap length c.as_mut_slice.ensures.value) (c.fill.ensures.len ∙ ap length c.as_mut_slice.ensures.value)
    ∙ c.fill.ensures.after (λ y e. e))

pub invariant_of-self : goal.invariant_of-self
invariant_of-self c =
    let kept = c.self.inside.rows.items in
    let lent = c.as_mut_slice.result.now in
    let new = c.fill.new.self in
    let n = c.self.inside.n in
    subst (λ (ws : List ℕ). IsMatrix (matrix n ws)) (sym (written_back kept new c.self.inside.rows.len (sym c.as_mut_slice.ensures.len ∙ ap length c.as_mut_slice.ensures.value) (c.fill.ensures.len ∙ ap length c.as_mut_slice.ensures.value)))
    (zeros_are_matrix n new (subst (λ (k : ℕ). new ≡ replicate k 0) (ap length c.as_mut_slice.ensures.value ∙ c.self.invariant.whole) (c.fill.ensures.after (λ y e. e))))

pub returns-clause-matrix : goal.returns-clause-matrix
returns-clause-matrix c = invariant_of-self c

pub returns-clause-size : goal.returns-clause-size
returns-clause-size c = search rules
