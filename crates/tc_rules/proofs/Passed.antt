-- Errors that are handed on, and what they are not.
use Rattle.std.proofs.Common.{◌≡◌, Result, Ok, Err, IsErrOf}
use Rattle.std.specs.Result.{IsErrAnd}
use Rattle.tc_rules.specs.declared.graph.GraphFault.{GraphFault}
use Rattle.tc_rules.specs.declared.graph.GraphFault.TheVariants.{TooManyStates, NoMemory}

-- want of memory isn't that there are too many states
pub not_many : {T : Type 0} {X : Type 0} (r : Result T GraphFault) → IsErrAnd r (λ e. e ≡ NoMemory) → IsErrOf r TooManyStates → X
not_many (Ok v) h k = absurd h
not_many (Err e) h k = let f : NoMemory ≡ TooManyStates = cc in absurd (cc)

pub none_many : {T : Type 0} {X : Type 0} (v : T) → IsErrOf (Ok v) TooManyStates → X
none_many v k = let f : Ok v ≡ Err TooManyStates = k in absurd (cc)
