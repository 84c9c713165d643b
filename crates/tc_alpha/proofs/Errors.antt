-- What an error leaves unsaid.
use Rattle.std.proofs.Common.{Result, Ok, Err, IfOk, IsErrAnd}

-- nothing is said of the value of an error
pub error_no_value : {T E : Type 0} (r : Result T E) (P : T → Type 0) (Q : E → Type 0) → IsErrAnd r Q → IfOk r P
error_no_value (Ok v) P Q h = absurd h
error_no_value (Err e) P Q h = tt
