-- Errors that are handed on, of what is read and of what is refused.
use Rattle.std.proofs.Common.{◌≡◌, subst, sym, Result, Ok, Err, IfOk}
use Rattle.std.specs.Prelude.{IsErrAnd, MatchResult}
use Rattle.tc_sheet.specs.Changes.{Change}
use Rattle.tc_sheet.specs.LookedAt.{Item}
use Rattle.tc_sheet.specs.Readings.{Refuses}
use Rattle.tc_sheet.specs.declared.faults.SheetFault.{SheetFault}
use Rattle.tc_sheet.specs.declared.faults.SheetFault.TheVariants.{NoMemory}

pub passed_on : {T : Type 0} (Q : T → Type 0) (P : SheetFault → Type 0) (r : Result T SheetFault) (x : SheetFault) → IsErrAnd r (λ e. e ≡ x) → P x → MatchResult r Q P
passed_on Q P (Ok v) x h a = absurd h
passed_on Q P (Err e) x h a = subst P (sym h) a

-- want of memory refuses nothing
pub memory_passed_on : {T : Type 0} (Q : T → Type 0) (h : Item → Type 0) (P : Change → Type 0) (r : Result T SheetFault) → IsErrAnd r (λ e. e ≡ NoMemory) → MatchResult r Q (λ e. Refuses e h P)
memory_passed_on Q h P (Ok v) a = absurd a
memory_passed_on Q h P (Err e) a = subst (λ w. Refuses w h P) (sym a) tt

-- nothing is said of the value of an error
pub no_value : {T E : Type 0} (r : Result T E) (P : T → Type 0) (Q : E → Type 0) → IsErrAnd r Q → IfOk r P
no_value (Ok v) P Q h = absurd h
no_value (Err e) P Q h = tt
