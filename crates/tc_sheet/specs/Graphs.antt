-- The calls of templates by numbers: where named templates lead, and which calls lead back to the template in which they stand.
use Rattle.std.specs.Prelude.{◌≡◌, ℕ, ◌<◌, IfSome, List, [], ◌∷◌, map, flat_map, Bool, false, not, Option, None, Some, option_map, All, if◌then◌else◌}
use Rattle.std.specs.List.{list_any}
use Rattle.tc_graph.specs.Walks.{same_component, state_at}
use Rattle.tc_graph.specs.declared.cycles.State.{State}
use Rattle.tc_model.specs.Names.{ExpandedName, same_name}
use Rattle.tc_model.specs.Numbered.{number_of}
use Rattle.tc_model.specs.Views.{place}
use Rattle.tc_model.specs.SheetTextTrees.{WrittenBody, w_nothing, Template}
use Rattle.tc_model.specs.SheetText.{one_name, Call, calls_in_body, StandingCall, calls_of, IsFirst, IsDefined, IsUndefined, IsLoop}
use Rattle.tc_sheet.specs.declared.faults.SheetFault.{SheetFault}
use Rattle.tc_sheet.specs.declared.faults.SheetFault.TheVariants.{Malformed, Unsupported, TooDeep, Undefined, CallLoop, NoMemory}

-- an instruction with none after it
abbrev pub alone : (WrittenBody → WrittenBody) → WrittenBody
alone f = f w_nothing

-- the place of the first that passes a test
abbrev pub first_at : {X : Type 0} → (X → Bool) → (X → ℕ) → List X → Option ℕ
first_at test place [] = None
first_at test place (x ∷ xs) = if test x then Some (place x) else first_at test place xs

-- a call: the number of the named template in which it stands, if it stands in one, that of the template that is called, and its place
pub record NumberedCall : Type 0 where
  pub caller : Option ℕ
  pub callee : ℕ
  pub place : ℕ

-- a call in the template of this number leads back to it: both are in one component
abbrev pub leads_back : List State → Option ℕ → ℕ → Bool
leads_back states None callee = false
leads_back states (Some caller) callee = same_component (state_at states caller) (state_at states callee)

-- both numbers are below this one
abbrev pub IsWithin : ℕ → NumberedCall → Type 0
IsWithin size c = IfSome c.caller (λ k. k < size) × (c.callee < size)

abbrev pub first_back : List State → List NumberedCall → Option ℕ
first_back states cs = first_at (λ c. leads_back states c.caller c.callee) (λ c. c.place) cs

module _ (names : List ExpandedName) where
  abbrev pub callee_of : Call → ℕ
  callee_of c = number_of same_name c.name names

  abbrev pub caller_of : Template → Option ℕ
  caller_of t = option_map (λ n. number_of same_name n names) t.name

  abbrev pub numbered_from : Option ℕ → Call → NumberedCall
  numbered_from caller c = record { caller = caller; callee = callee_of c; place = c.place }

  -- for each named template the numbers of those that it calls
  abbrev pub row_of : Template → List (List ℕ)
  row_of t = map (λ n. map callee_of (calls_in_body t.body)) (one_name t.name)

  abbrev pub callees : List Template → List (List ℕ)
  callees ts = flat_map row_of ts

  -- all calls, in the order of the text
  abbrev pub calls_from : Template → List NumberedCall
  calls_from t = map (numbered_from (caller_of t)) (calls_in_body t.body)

  abbrev pub numbered_calls : List Template → List NumberedCall
  numbered_calls ts = flat_map calls_from ts

  -- the place of the first call of a template that doesn't exist
  abbrev pub is_undefined : Call → Bool
  is_undefined c = not (list_any (same_name c.name) names)

  abbrev pub first_undefined : List Call → Option ℕ
  first_undefined cs = first_at is_undefined (λ c. c.place) cs

  abbrev pub IsFirstUndefined : List Call → SheetFault → Type 0
  IsFirstUndefined cs (Malformed p) = ⊥
  IsFirstUndefined cs (Unsupported p why) = ⊥
  IsFirstUndefined cs (TooDeep p) = ⊥
  IsFirstUndefined cs (Undefined p) = first_undefined cs ≡ Some (place p)
  IsFirstUndefined cs (CallLoop p) = ⊥
  IsFirstUndefined cs NoMemory = Unit {0}

abbrev pub all_calls : List Template → List Call
all_calls ts = flat_map (λ t. calls_in_body t.body) ts

-- The first call of a template that doesn't exist is at this place; or there is none, and the first that leads back to the named template in which
-- it stands is; or memory was refused.
abbrev pub IsCallFault : List Template → SheetFault → Type 0
IsCallFault ts (Malformed p) = ⊥
IsCallFault ts (Unsupported p why) = ⊥
IsCallFault ts (TooDeep p) = ⊥
IsCallFault ts (Undefined p) = (c : StandingCall) × IsFirst (IsUndefined ts) (calls_of ts) c × (c.call.place ≡ place p)
IsCallFault ts (CallLoop p) = All (λ d. IsDefined ts d.call) (calls_of ts) × ((c : StandingCall) × IsFirst (IsLoop ts) (calls_of ts) c × (c.call.place ≡ place p))
IsCallFault ts NoMemory = Unit {0}
