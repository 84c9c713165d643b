-- What an answer isn't.
use Rattle.std.proofs.Common.{◌≡◌, ◌<◌, ℕ, Result, Ok, Err, IfOk, IsErrOf, arith}
use Rattle.std.specs.Prelude.{IsErrAnd}
use Rattle.tc_mat.specs.declared.pools.PoolFault.TheVariants.{PoolFull, NoMemory}

pub value_no_cause : {T E P : Type 0} {x : T} {e : E} → IsErrOf (Ok x) e → P
value_no_cause h = absurd (cc h)

pub no_memory_not_full : {T P : Type 0} → IsErrOf {T = T} (Err NoMemory) PoolFull → P
no_memory_not_full h = absurd (cc h)

-- fewer are held than a pool takes
pub not_full : {P : Type 0} {held count : ℕ} → held ≡ count → held < 65536 → count ≡ 65536 → P
not_full e low full = absurd (omega arith)

-- nothing is said of the value of an error
pub error_no_value : {T E : Type 0} (r : Result T E) (P : T → Type 0) (Q : E → Type 0) → IsErrAnd r Q → IfOk r P
error_no_value (Ok v) P Q h = absurd h
error_no_value (Err e) P Q h = tt
