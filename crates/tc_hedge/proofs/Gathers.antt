-- What follows from facts of values that were made.
use Rattle.std.proofs.Common.{Result, Ok, Err, IfOk}

pub for_ok : {X E : Type 0} {P R : X → Type 0} (r : Result X E) → IfOk r P → ((x : X) → P x → R x) → IfOk r R
for_ok (Ok x) p f = f x p
for_ok (Err e) p f = tt
