-- An answer that has one cause hasn't another.
use Rattle.std.proofs.Common.{Ok, Err, IsErrOf}
use Rattle.tc_io.specs.declared.StoreFault.TheVariants.{Missing, Failed, TooLong, NoMemory}

pub value_no_cause : {T E P : Type 0} {x : T} {e : E} → IsErrOf (Ok x) e → P
value_no_cause h = absurd (cc h)

pub missing_not_failed : {T P : Type 0} → IsErrOf {T = T} (Err Missing) Failed → P
missing_not_failed h = absurd (cc h)

pub too_long_not_failed : {T P : Type 0} → IsErrOf {T = T} (Err TooLong) Failed → P
too_long_not_failed h = absurd (cc h)

pub no_memory_not_failed : {T P : Type 0} → IsErrOf {T = T} (Err NoMemory) Failed → P
no_memory_not_failed h = absurd (cc h)

pub failed_not_too_long : {T P : Type 0} → IsErrOf {T = T} (Err Failed) TooLong → P
failed_not_too_long h = absurd (cc h)

pub no_memory_not_too_long : {T P : Type 0} → IsErrOf {T = T} (Err NoMemory) TooLong → P
no_memory_not_too_long h = absurd (cc h)

pub too_long_not_missing : {T P : Type 0} → IsErrOf {T = T} (Err TooLong) Missing → P
too_long_not_missing h = absurd (cc h)

pub no_memory_not_missing : {T P : Type 0} → IsErrOf {T = T} (Err NoMemory) Missing → P
no_memory_not_missing h = absurd (cc h)

pub failed_not_missing : {T P : Type 0} → IsErrOf {T = T} (Err Failed) Missing → P
failed_not_missing h = absurd (cc h)
