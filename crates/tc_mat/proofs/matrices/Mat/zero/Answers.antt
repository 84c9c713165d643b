use Rattle.std.proofs.Common.{◌*◌, ℕ, subst, replicate, ◌≡◌, refl}
use Rattle.tc_mat.proofs.Sets.{zeros_have_none, zeros_are_matrix}
use Rattle.tc_mat.proofs.matrices.Mat.zero.Goals as goal

pub returns-clause-pairs : goal.returns-clause-pairs
returns-clause-pairs c =
    zeros_have_none c.args.n (c.args.n * c.words_in_row.result) c.in_ok-rows.rows.items (c.in_ok-rows.ensures.items_if_clones_equal (λ y e. e))

pub returns-clause-matrix : goal.returns-clause-matrix
returns-clause-matrix c =
    let items = c.in_ok-rows.rows.items in
    zeros_are_matrix c.args.n items (subst (λ (w : ℕ). items ≡ replicate (c.args.n * w) 0) c.words_in_row.ensures (c.in_ok-rows.ensures.items_if_clones_equal (λ y e. e)))

pub invariant_of-result : goal.invariant_of-result
invariant_of-result c =
    let items = c.in_ok-rows.rows.items in
    zeros_are_matrix c.args.n items (subst (λ (w : ℕ). items ≡ replicate (c.args.n * w) 0) c.words_in_row.ensures (c.in_ok-rows.ensures.items_if_clones_equal (λ y e. e)))

pub returns-clause-size : goal.returns-clause-size
returns-clause-size c = refl
