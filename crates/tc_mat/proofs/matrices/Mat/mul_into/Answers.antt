use Rattle.std.proofs.Common.{◌≡◌, ◌*◌, ℕ, List, ap, length, subst, sym, ◌∙◌, rules}
use Rattle.tc_mat.specs.Matrix.{Matrix, words_a_row}
use Rattle.tc_mat.specs.Product.{IsPadded}
use Rattle.tc_mat.proofs.Composed.{composed_back, composed_whole, is_padded}
use Rattle.tc_mat.proofs.matrices.Mat.mul_into.Goals as goal

pub returns-clause-pairs : goal.returns-clause-pairs
returns-clause-pairs c =
    let size = λ (m : Matrix). m.size in
    let out : c.args.out.now.size ≡ c.out.inside.n = sym (ap size c.out.view_is) in
    composed_back c.out.inside.n c.a.inside.n c.b.inside.n c.out.inside.rows.len c.args.a.now c.args.b.now c.a.inside.rows.items c.b.inside.rows.items
    c.as_slice.result.now c.as_slice-2.result.now c.out.inside.rows.items c.as_mut_slice.result.now c.multiply.new.out
    c.a.view_is c.b.view_is (ap size c.a.view_is ∙ (c.requires.left ∙ out)) (ap size c.b.view_is ∙ (c.requires.right ∙ out))
    c.as_slice.ensures.value c.as_slice-2.ensures.value c.a.invariant c.b.invariant
    c.as_mut_slice.ensures.value c.as_mut_slice.ensures.len c.multiply.auto.out c.out.invariant.whole c.multiply.ensures

pub invariant_of-out : goal.invariant_of-out
invariant_of-out c =
    let size = λ (m : Matrix). m.size in
    let out : c.args.out.now.size ≡ c.out.inside.n = sym (ap size c.out.view_is) in
    composed_whole c.out.inside.n c.a.inside.n c.b.inside.n c.out.inside.rows.len c.a.inside.rows.items c.b.inside.rows.items
    c.as_slice.result.now c.as_slice-2.result.now c.out.inside.rows.items c.as_mut_slice.result.now c.multiply.new.out
    (ap size c.a.view_is ∙ (c.requires.left ∙ out)) (ap size c.b.view_is ∙ (c.requires.right ∙ out))
    c.as_slice.ensures.value c.as_slice-2.ensures.value c.a.invariant c.b.invariant
    c.as_mut_slice.ensures.value c.as_mut_slice.ensures.len c.multiply.auto.out c.out.invariant.whole c.multiply.ensures

pub returns-clause-matrix : goal.returns-clause-matrix
returns-clause-matrix c = invariant_of-out c

pub returns-clause-size : goal.returns-clause-size
returns-clause-size c = search rules

pub multiply-requires : goal.multiply-requires
multiply-requires c =
    let size = λ (m : Matrix). m.size in
    let out = ap size c.out.view_is in
    let left : c.a.inside.n ≡ c.out.inside.n = ap size c.a.view_is ∙ (c.requires.left ∙ sym out) in
    let right : c.b.inside.n ≡ c.out.inside.n = ap size c.b.view_is ∙ (c.requires.right ∙ sym out) in
    record {
      left = ap length c.as_slice.ensures.value ∙ (c.a.invariant.whole ∙ ap (λ n. n * words_a_row n) left);
      right = ap length c.as_slice-2.ensures.value ∙ (c.b.invariant.whole ∙ ap (λ n. n * words_a_row n) right);
      room = ap length c.as_mut_slice.ensures.value ∙ c.out.invariant.whole;
      padded = subst (λ (n : ℕ). IsPadded n c.as_slice.result.now) left
          (subst (λ (ws : List ℕ). IsPadded c.a.inside.n ws) (sym c.as_slice.ensures.value) (is_padded c.a.inside.n c.a.inside.rows.items c.a.invariant));
    }
