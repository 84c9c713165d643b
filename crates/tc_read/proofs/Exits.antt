-- What leaves a function by a `?`.
use Rattle.std.proofs.Common.{◌≡◌, sym, subst, Result, Ok, Err, IfErr}
use Rattle.std.specs.Result.{IsErrAnd}

-- the fault that is returned
pub err_is : {T E : Type 0} (r : Result T E) (e : E) (P : E → Type 0) → IsErrAnd r (λ y. y ≡ e) → P e → IfErr r P
err_is (Ok x) e P h p = absurd h
err_is (Err y) e P h p = subst P (sym h) p
