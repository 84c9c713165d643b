-- What a `?` that fails returns has no value.
use Rattle.std.proofs.Common.{◌≡◌, sym, subst, IfOk, Option, None, Result, Ok, Err}
use Rattle.std.specs.Prelude.{IfSome}
use Rattle.std.specs.Result.{IsErrAnd}
use Rattle.std.proofs.lemmas.Result.{err_from_is_err_and}

pub failed_ok : {T E : Type 0} (r : Result T E) (P : T → Type 0) (e : E) → IsErrAnd r (λ x. x ≡ e) → IfOk r P
failed_ok r P e h = subst (λ w. IfOk w P) (sym (err_from_is_err_and r h).1) tt

-- the same, whatever is said of the error
pub no_value : {T E : Type 0} (r : Result T E) (P : T → Type 0) (Q : E → Type 0) → IsErrAnd r Q → IfOk r P
no_value (Ok v) P Q h = absurd h
no_value (Err e) P Q h = tt

pub failed_some : {T : Type 0} (r : Option T) (P : T → Type 0) → r ≡ None → IfSome r P
failed_some r P e = subst (λ w. IfSome w P) (sym e) tt
