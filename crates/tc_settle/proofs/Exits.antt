-- What leaves a function by a `?`.
use Rattle.std.proofs.Common.{◌≡◌, sym, subst, Result, Ok, Err, IfOk, IfErr}
use Rattle.std.specs.Result.{IsErrAnd}

pub no_ok : {T E : Type 0} (r : Result T E) (e : E) (P : T → Type 0) → IsErrAnd r (λ y. y ≡ e) → IfOk r P
no_ok (Ok x) e P h = absurd h
no_ok (Err y) e P h = tt

pub err_is : {T E : Type 0} (r : Result T E) (e : E) (P : E → Type 0) → IsErrAnd r (λ y. y ≡ e) → P e → IfErr r P
err_is (Ok x) e P h p = absurd h
err_is (Err y) e P h p = subst P (sym h) p
