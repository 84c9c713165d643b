-- What is said of a result that is an error.
use Rattle.std.proofs.Common.{Result, Ok, Err, IfOk, OnOk, IsErrAnd}

-- nothing is said of the value of an error
pub no_value : {T E : Type 0} (r : Result T E) (P : T → Type 0) (Q : E → Type 0) → IsErrAnd r Q → IfOk r P
no_value (Ok v) P Q h = absurd h
no_value (Err e) P Q h = tt

-- nor of what was to be done
pub not_done : {T E : Type 0} (r : Result T E) (P : Type 0) (Q : E → Type 0) → IsErrAnd r Q → OnOk r P
not_done (Ok v) P Q h = absurd h
not_done (Err e) P Q h = tt
