-- How a refusal of a part is one of the whole.
use Rattle.std.proofs.Common.{◌≡◌, List, [], ◌∷◌, subst, sym, Result, Ok, Err, IfOk, IfErr, Option, None, Some, MatchOption}
use Rattle.std.specs.Result.{IsErrAnd}
use Rattle.tc_model.specs.Views.{place}
use Rattle.tc_model.specs.CompactSyntaxUnread as m
use Rattle.tc_model.specs.CompactSyntaxUnread.{Refusal}
use Rattle.tc_rnc.specs.declared.faults.RncFault.{RncFault}
use Rattle.tc_rnc.specs.declared.faults.RncFault.TheVariants.{NoMemory}
use Rattle.tc_rnc.specs.Refusals.{Refuses, malformed, unsupported, too_deep, no_memory}

pub refuses_map : {P Q : Refusal → Type 0} {e : RncFault} → Refuses P e → ((r : Refusal) → P r → Q r) → Refuses Q e
refuses_map (malformed {p = p} h) f = malformed (f (m.malformed (place p)) h)
refuses_map (unsupported {p = p} {why = why} h) f = unsupported (f (m.unsupported why (place p)) h)
refuses_map (too_deep {p = p} h) f = too_deep (f (m.too_deep (place p)) h)
refuses_map no_memory f = no_memory

-- the exit of a `?`
pub passed : {T : Type 0} {P Q : Refusal → Type 0} (r : Result T RncFault) (x : RncFault) → IsErrAnd r (λ e. e ≡ x) → Refuses P x → ((v : Refusal) → P v → Q v) → IfErr r (Refuses Q)
passed (Ok y) x e h f = tt
passed {Q = Q} (Err y) x e h f = subst (Refuses Q) (sym e) (refuses_map h f)

-- the same of a call whose result is the result
pub passes : {T : Type 0} {P Q : Refusal → Type 0} (r : Result T RncFault) → IfErr r (Refuses P) → ((v : Refusal) → P v → Q v) → IfErr r (Refuses Q)
passes (Ok y) h f = tt
passes (Err y) h f = refuses_map h f

-- the exit of a `?` whose fault says this
pub failed : {T : Type 0} (r : Result T RncFault) (x : RncFault) (P : RncFault → Type 0) → IsErrAnd r (λ e. e ≡ x) → P x → IfErr r P
failed (Ok y) x P e h = tt
failed (Err y) x P e h = subst P (sym e) h

-- want of memory
pub unmade : {T : Type 0} (Q : Refusal → Type 0) (r : Result T RncFault) → IsErrAnd r (λ e. e ≡ NoMemory) → IfErr r (Refuses Q)
unmade Q (Ok y) e = tt
unmade Q (Err y) e = subst (Refuses Q) (sym e) no_memory

pub unmade_by : {T : Type 0} (Q : Refusal → Type 0) (r : Result T RncFault) (x : RncFault) → IsErrAnd r (λ e. e ≡ x) → x ≡ NoMemory → IfErr r (Refuses Q)
unmade_by Q r x e is = unmade Q r (subst (λ z. IsErrAnd r (λ e. e ≡ z)) is e)

-- the same of a call whose result is the result
pub unmade_as : {T : Type 0} (Q : Refusal → Type 0) (r : Result T RncFault) → IfErr r (λ e. e ≡ NoMemory) → IfErr r (Refuses Q)
unmade_as Q (Ok y) h = tt
unmade_as Q (Err y) h = subst (Refuses Q) (sym h) no_memory

-- what begins with something isn't at its end
pub more : {A : Type 0} {x : A} {xs ys : List A} → ys ≡ x ∷ xs → ys ≡ [] → ⊥
more e f = cc

pub map_ok : {T E : Type 0} (P Q : T → Type 0) (r : Result T E) → ((x : T) → P x → Q x) → IfOk r P → IfOk r Q
map_ok P Q (Ok x) f h = f x h
map_ok P Q (Err e) f h = tt

pub at_some : {T : Type 0} (P : Type 0) (Q : T → Type 0) (o : Option T) (x : T) → o ≡ Some x → MatchOption o P Q → Q x
at_some P Q o x e h = let there : MatchOption (Some x) P Q = subst (λ z. MatchOption z P Q) e h in there

pub at_none : {T : Type 0} (P : Type 0) (Q : T → Type 0) (o : Option T) → o ≡ None → MatchOption o P Q → P
at_none {T} P Q o e h = let there : MatchOption {T = T} None P Q = subst (λ z. MatchOption z P Q) e h in there
