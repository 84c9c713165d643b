-- What a `?` that fails returns has no value.
use Rattle.std.proofs.Common.{◌≡◌, Result, Ok, Err, IfOk, OnOk}
use Rattle.std.specs.Result.{IsErrAnd}
use Rattle.tc_rnc.specs.declared.faults.RncFault.{RncFault}

pub unread_ok : {T : Type 0} (r : Result T RncFault) (P : T → Type 0) (x : RncFault) → IsErrAnd r (λ e. e ≡ x) → IfOk r P
unread_ok (Ok v) P x h = absurd h
unread_ok (Err y) P x h = tt

pub unread_on : {T : Type 0} (r : Result T RncFault) (P : Type 0) (x : RncFault) → IsErrAnd r (λ e. e ≡ x) → OnOk r P
unread_on (Ok v) P x h = absurd h
unread_on (Err y) P x h = tt
