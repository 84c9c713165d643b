use Rattle.std.proofs.Common.{◌≡◌, ◌∙◌, ◌⊎◌, ◌<◌, ◌+◌, length, Ok, Err, sym, subst, refl}
use Rattle.std.proofs.lemmas.Option.{get_or_from_slice_get}
use Rattle.tc_mat.specs.Held.{Held}
use Rattle.tc_mat.specs.Matrix.{IsComposition}
use Rattle.tc_beh.specs.Places.{no_matrix}
use Rattle.tc_beh.specs.Held.{Extends, GrowsAt, set_at}
use Rattle.tc_beh.proofs.Holding.{extends_kept, set_kept, grows_kept, on_err, pairs_kept, new_kept, extends_self}
use Rattle.tc_beh.proofs.Remembering.{product_of}
use Rattle.tc_beh.proofs.Steps.{no_value}
use Rattle.tc_beh.specs.Refusals.{MayRefuse}
use Rattle.tc_beh.proofs.Refusing.{refuse_none, refuse_ok, refuse_err}
use Rattle.tc_beh.proofs.outputs.keep_product.Goals as goal

pub remember-requires : goal.remember-requires
remember-requires c =
    let old = c.args.outputs.now in
    let new = c.keep.new.outputs in
    let m = c.mul_into.new.out in
    let k = c.in_ok-number.number in
    let first : set_at old c.args.first ≡ c.get.result.now = get_or_from_slice_get old.matrices c.args.first c.get.result.now no_matrix c.get.ensures.matrix in
    let second : set_at old c.args.second ≡ c.get-2.result.now = get_or_from_slice_get old.matrices c.args.second c.get-2.result.now no_matrix c.get-2.ensures.matrix in
    let pairs = pairs_kept new m (set_at old c.args.first) (set_at old c.args.second) c.get.result.now c.get-2.result.now (Ok k) (set_kept old new m (Ok k) c.in_ok-number.ensures.number) first second c.mul_into.ensures.pairs in
    product_of old new (extends_kept old new m c.keep.result c.keep.ensures.grows c.keep.ensures.err) c.args.first c.args.second k c.requires.first c.requires.second pairs.0 pairs.1

pub returns-clause-held : goal.returns-clause-held
returns-clause-held c =
    subst (λ h. Extends c.args.outputs.now h) (sym c.remember.ensures) (extends_kept c.args.outputs.now c.keep.new.outputs c.mul_into.new.out c.keep.result c.keep.ensures.grows c.keep.ensures.err)

pub returns-clause-pairs : goal.returns-clause-pairs
returns-clause-pairs c =
    let old = c.args.outputs.now in
    let new = c.keep.new.outputs in
    let m = c.mul_into.new.out in
    let k = c.in_ok-number.number in
    let first : set_at old c.args.first ≡ c.get.result.now = get_or_from_slice_get old.matrices c.args.first c.get.result.now no_matrix c.get.ensures.matrix in
    let second : set_at old c.args.second ≡ c.get-2.result.now = get_or_from_slice_get old.matrices c.args.second c.get-2.result.now no_matrix c.get-2.ensures.matrix in
    subst (λ (h : Held). (k < length h.matrices) × IsComposition (set_at old c.args.first) (set_at old c.args.second) (set_at h k)) (sym c.remember.ensures)
    (pairs_kept new m (set_at old c.args.first) (set_at old c.args.second) c.get.result.now c.get-2.result.now (Ok k) (set_kept old new m (Ok k) c.in_ok-number.ensures.number) first second c.mul_into.ensures.pairs)

pub returns-clause-grows : goal.returns-clause-grows
returns-clause-grows c =
    let old = c.args.outputs.now in
    let k = c.in_ok-number.number in
    subst (λ (h : Held). GrowsAt old h k) (sym c.remember.ensures)
    (grows_kept old c.keep.new.outputs c.mul_into.new.out (Ok k) c.in_ok-number.ensures.number c.in_ok-number.ensures.grows)

pub returns-in_err-number-clause-held : goal.returns-in_err-number-clause-held
returns-in_err-number-clause-held c = extends_kept c.args.outputs.now c.keep.new.outputs c.mul_into.new.out c.keep.result c.keep.ensures.grows c.keep.ensures.err

pub returns-in_err-number-clause-err : goal.returns-in_err-number-clause-err
returns-in_err-number-clause-err c =
    let old = c.args.outputs.now in
    let first : set_at old c.args.first ≡ c.get.result.now = get_or_from_slice_get old.matrices c.args.first c.get.result.now no_matrix c.get.ensures.matrix in
    let second : set_at old c.args.second ≡ c.get-2.result.now = get_or_from_slice_get old.matrices c.args.second c.get-2.result.now no_matrix c.get-2.ensures.matrix in
    on_err c.from_residual.result _ (new_kept old c.keep.new.outputs c.mul_into.new.out (set_at old c.args.first) (set_at old c.args.second) c.get.result.now c.get-2.result.now (Err c.in_err-number.field-0.0) c.in_err-number.ensures.err (c.mul_into.ensures.size ∙ c.requires.set) c.mul_into.ensures.matrix first second c.mul_into.ensures.pairs)

pub returns-in_err-number-clause-pairs : goal.returns-in_err-number-clause-pairs
returns-in_err-number-clause-pairs c = no_value c.from_residual.result _ _ c.from_residual.ensures.1

pub returns-in_err-number-clause-grows : goal.returns-in_err-number-clause-grows
returns-in_err-number-clause-grows c = no_value c.from_residual.result _ _ c.from_residual.ensures.1

pub returns-in-Some-clause-err : goal.returns-in-Some-clause-err
returns-in-Some-clause-err c = tt

pub returns-clause-err : goal.returns-clause-err
returns-clause-err c = tt

pub returns-in-Some-clause-set : goal.returns-in-Some-clause-set
returns-in-Some-clause-set c = refl

pub returns-in-Some-clause-held : goal.returns-in-Some-clause-held
returns-in-Some-clause-held c = extends_self c.args.outputs.now

pub returns-in-Some-clause-refusals : goal.returns-in-Some-clause-refusals
returns-in-Some-clause-refusals c = refuse_none c.args.is_fixed c.args.outputs.now c.in-Some.number

pub returns-clause-refusals : goal.returns-clause-refusals
returns-clause-refusals c =
    refuse_ok c.args.is_fixed c.args.outputs.now c.remember.new.self c.keep.result c.in_ok-number.number (subst (λ h. MayRefuse c.args.is_fixed c.args.outputs.now h c.keep.result) (sym c.remember.ensures) c.keep.ensures.refusals)

pub returns-in_err-number-clause-refusals : goal.returns-in_err-number-clause-refusals
returns-in_err-number-clause-refusals c = refuse_err c.args.is_fixed c.args.outputs.now c.keep.new.outputs c.from_residual.result c.keep.result _ c.from_residual.ensures.1 c.in_err-number.was c.keep.ensures.refusals
