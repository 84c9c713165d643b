-- What cannot be, and a call that hands on the error of another.
use Rattle.std.proofs.Common.{◌≡◌, ◌∙◌, refl, Bool, true, false, Result, Ok, Err, IsErrAnd}
use Rattle.tc_mat.specs.Held.{Held}
use Rattle.tc_beh.specs.Refusals.{MayRefuse}
use Rattle.tc_beh.specs.declared.outputs.RowFault.{RowFault}

pub not_true : {P : Type 0} → false ≡ true → P
not_true e = absurd (cc)

pub not_false : {P : Type 0} → true ≡ false → P
not_false e = absurd (cc)

pub no_error : {T E P : Type 0} (x : T) (e : E) → Ok x ≡ Err e → P
no_error x e h = absurd (cc)

pub same_error : {S T E : Type 0} (r : Result S E) (q : Result T E) (e f : E) → IsErrAnd r (λ x. x ≡ e) → q ≡ Err e → r ≡ Err f → q ≡ Err f
same_error (Ok v) q e f h g k = absurd h
same_error (Err x) q e f h g k = cc

-- ---- refusals
-- nothing was held, and nothing refused
pub refuse_none : {T : Type 0} (f : Bool) (h : Held) (v : T) → MayRefuse f h h (Ok v)
refuse_none f h v = record { fixed = λ e. refl; full = λ e. no_error v _ e; fresh = λ e. no_error v _ e; memory = λ e. no_error v _ e }

-- nothing was refused
pub refuse_ok : {S T : Type 0} (f : Bool) (old new : Held) (r : Result S RowFault) (v : T) → MayRefuse f old new r → MayRefuse f old new (Ok v)
refuse_ok f old new r v is = record { fixed = is.fixed; full = λ e. no_error v _ e; fresh = λ e. no_error v _ e; memory = λ e. no_error v _ e }

-- what a call refused is handed on
pub refuse_err : {S T : Type 0} (f : Bool) (old new : Held) (r : Result S RowFault) (q : Result T RowFault) (e : RowFault) → IsErrAnd r (λ x. x ≡ e) → q ≡ Err e → MayRefuse f old new q → MayRefuse f old new r
refuse_err f old new r q e same was is = record {
  fixed = is.fixed;
  full = λ h. is.full (same_error r q e _ same was h);
  fresh = λ h. is.fresh (same_error r q e _ same was h);
  memory = λ h. is.memory (same_error r q e _ same was h);
}

-- what was held before
pub refuse_then : {T : Type 0} (f : Bool) (a b c : Held) (r : Result T RowFault) → (f ≡ true → b ≡ a) → MayRefuse f b c r → MayRefuse f a c r
refuse_then f a b c r before is = record { fixed = λ e. is.fixed e ∙ before e; full = is.full; fresh = is.fresh; memory = is.memory }
