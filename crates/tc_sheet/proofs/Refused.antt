-- What stands in a tree, and what no change of it is.
use Rattle.std.proofs.Common.{◌≡◌, ℕ, List, refl, subst, sym, Option, Some, Result, Ok, Err, IfErr}
use Rattle.std.specs.Prelude.{IsErrAnd}
use Rattle.tc_model.specs.RawTrees.{Attribute}
use Rattle.tc_model.specs.SheetTextPhrases.{value_of, Required, is_given, Optional}
use Rattle.tc_model.specs.declared.tree.RawElem.{RawElem}
use Rattle.tc_sheet.specs.Changes.{Change, both, flattened}
use Rattle.tc_sheet.specs.LookedAt.{Item}
use Rattle.tc_sheet.specs.Readings.{Refuses, IsFaultOf, HasNoAttributes, HasNoRequired, HasNoOptional}
use Rattle.tc_sheet.specs.declared.faults.SheetFault.{SheetFault}
use Rattle.tc_sheet.specs.declared.faults.SheetFault.TheVariants.{Malformed, Unsupported, TooDeep, Undefined, CallLoop, NoMemory}
use Rattle.tc_sheet.proofs.Refusals.{covers_itself, lifted}

pub refused : {P Q : Change → Type 0} (h : Item → Type 0) → ((c : Change) → P c → Q c) → (e : SheetFault) → Refuses e h P → Refuses e h Q
refused h f e r = lifted (covers_itself h) f e r

pub fault_refuses : {P : Change → Type 0} (h : Item → Type 0) → ((c : Change) → P c) → (e : SheetFault) → IsFaultOf e h → Refuses e h P
fault_refuses h f (Malformed p) r = (r, f both)
fault_refuses h f (Unsupported p why) r = (r, f flattened)
fault_refuses h f (TooDeep p) r = absurd r
fault_refuses h f (Undefined p) r = absurd r
fault_refuses h f (CallLoop p) r = absurd r
fault_refuses h f NoMemory r = absurd r

-- an error that is handed on
pub handed_on : {T : Type 0} (P : SheetFault → Type 0) (r : Result T SheetFault) (x : SheetFault) → IsErrAnd r (λ e. e ≡ x) → P x → IfErr r P
handed_on P (Ok v) x h a = tt
handed_on P (Err e) x h a = subst P (sym h) a

-- want of memory refuses nothing
pub memory_refuses : (h : Item → Type 0) (P : Change → Type 0) {e : SheetFault} → e ≡ NoMemory → Refuses e h P
memory_refuses h P a = subst (λ w. Refuses w h P) (sym a) tt

pub no_memory : {T : Type 0} (P : Change → Type 0) (h : Item → Type 0) (r : Result T SheetFault) → IfErr r (λ e. e ≡ NoMemory) → IfErr r (λ e. Refuses e h P)
no_memory P h (Ok v) a = tt
no_memory P h (Err e) a = subst (λ w. Refuses w h P) (sym a) tt

pub value_given : {X : Type 0} {M : List ℕ → X → Type 0} {o : Option (List ℕ)} {x : X} → Required M o x → (s : List ℕ) × (o ≡ Some s)
value_given (is_given {s = s} m) = (s, refl)

-- of attributes, where those of a required one are among them
pub no_required : {X : Type 0} (e : RawElem) (local : List ℕ) (M : List ℕ → X → Type 0) (c : Change) → HasNoAttributes e (λ olds. (s : List ℕ) × (value_of local olds ≡ Some s)) c → HasNoRequired e local M c
no_required e local M c h = λ olds x u r. h olds u (value_given r)

pub by_required : {X : Type 0} (e : RawElem) {local : List ℕ} {M : List ℕ → X → Type 0} {Q : List Attribute → Type 0} → ((olds : List Attribute) → Q olds → (x : X) × Required M (value_of local olds) x)
    → (c : Change) → HasNoRequired e local M c → HasNoAttributes e Q c
by_required e f c h = λ olds u q. let (x, r) = f olds q in h olds x u r

pub by_optional : {X : Type 0} (e : RawElem) {local : List ℕ} {M : List ℕ → X → Type 0} {Q : List Attribute → Type 0} → ((olds : List Attribute) → Q olds → (x : Option X) × Optional M (value_of local olds) x)
    → (c : Change) → HasNoOptional e local M c → HasNoAttributes e Q c
by_optional e f c h = λ olds u q. let (x, r) = f olds q in h olds x u r
