use Rattle.std.proofs.Common.{◌∙◌, ap, sym, subst}
use Rattle.std.proofs.lemmas.Option.{get_or_from_slice_get, slice_get_within}
use Rattle.tc_mat.specs.Matrix.{Matrix, IsIdentity}
use Rattle.tc_beh.specs.Places.{no_matrix}
use Rattle.tc_beh.proofs.held_sets.nothing_in.Goals as goal

pub returns-in-Some : goal.returns-in-Some
returns-in-Some c =
    let pool = c.args.pool.now in
    let k = c.in-Some.id.0 in
    let here = get_or_from_slice_get pool.matrices k c.args.identity.now no_matrix c.in-Some.ensures in
    record { low = slice_get_within pool.matrices k c.args.identity.now c.in-Some.ensures; is = subst IsIdentity (sym here) c.requires.is; size = ap (λ (m : Matrix). m.size) here ∙ c.requires.size }
