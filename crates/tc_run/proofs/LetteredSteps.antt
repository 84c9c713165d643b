-- Lettered trees are joined, and stay lettered where more elements have a number.
use Rattle.std.proofs.Common.{◌≡◌, ℕ, zero, suc, List, [], ◌∷◌, ◌++◌, length, refl, ap, ◌∙◌, sym, subst, Bor, Option, None, Some, slice_get, IfSome, append_assoc, append-nil}
use Rattle.std.proofs.lemmas.List.{map-append}
use Rattle.std.proofs.lemmas.List.Elements.{All-weaker}
use Rattle.tc_model.specs.Trees as t
use Rattle.tc_model.specs.Trees.{Trees, beside}
use Rattle.tc_model.specs.Sheets.{Test}
use Rattle.tc_model.specs.Symbols.{Mention}
use Rattle.tc_run.specs.Findings.{IsFound}
use Rattle.tc_run.specs.Lettered.{Lettered, none, text, element, bare, IsLettered}
use Rattle.tc_run.specs.Running.{Guide, kids_of, symbols_by, predicates_by, IsLetteredIn}
use Rattle.tc_run.specs.Sights.{AreSeenUnder, HasGrown}
use Rattle.tc_run.specs.declared.findings.Finding.{Finding}
use Rattle.tc_run.specs.declared.letters.Lettered.{Lettered as LetteredOf}
use Rattle.tc_run.specs.declared.letters.Lettering.{Lettering}
use Rattle.tc_run.specs.declared.runner.Runner.{Runner}
use Rattle.tc_run.specs.declared.sights.KnownSights.{KnownSights}
use Rattle.tc_run.specs.Views.{trees}
use Rattle.tc_run.proofs.Views.{joined}

-- in front of more, and at the end
pub in_front : {X : Type 0} (xs ys : List X) (i : ℕ) (x : X) → slice_get xs i ≡ Some x → slice_get (xs ++ ys) i ≡ Some x
in_front [] ys i x e = absurd (cc)
in_front (z ∷ xs) ys zero x e = e
in_front (z ∷ xs) ys (suc i) x e = in_front xs ys i x e

pub at_end : {X : Type 0} (xs : List X) (x : X) → slice_get (xs ++ x ∷ []) (length xs) ≡ Some x
at_end [] x = refl
at_end (z ∷ xs) x = at_end xs x

pub bare_joined : (x y : Lettered) → bare (joined x y) ≡ beside (bare x) (bare y)
bare_joined none y = refl
bare_joined (text s m rest) y = ap (t.text s) (bare_joined rest y)
bare_joined (element n a m k kids rest) y = ap (t.element n (bare kids)) (bare_joined rest y)

number_stays : (more : List Trees) (kids : Trees) (numbered : List Trees) (o : Option ℕ) → IfSome o (λ k. slice_get numbered k ≡ Some kids) → IfSome o (λ k. slice_get (numbered ++ more) k ≡ Some kids)
number_stays more kids numbered None h = tt
number_stays more kids numbered (Some k) h = in_front numbered more k kids h

module _ (symbols : List Mention) (predicates : List Test) (numbered : List Trees) where
  pub lettered_joined : (x y : Lettered) → IsLettered symbols predicates numbered x → IsLettered symbols predicates numbered y → IsLettered symbols predicates numbered (joined x y)
  lettered_joined none y h k = k
  lettered_joined (text s m rest) y h k = (h.0, lettered_joined rest y h.1 k)
  lettered_joined (element n a m o kids rest) y h k = (h.0, (h.1.0, lettered_joined rest y h.1.1 k))

  pub lettered_still : (more : List Trees) (x : Lettered) → IsLettered symbols predicates numbered x → IsLettered symbols predicates (numbered ++ more) x
  lettered_still more none h = tt
  lettered_still more (text s m rest) h = (h.0, lettered_still more rest h.1)
  lettered_still more (element n a m o kids rest) h = (
    record { symbol = h.0.symbol; marks_are = h.0.marks_are; number_is = number_stays more (bare kids) numbered o h.0.number_is },
    (lettered_still more kids h.1.0, lettered_still more rest h.1.1),
  )

-- what is remembered stays true
module _ (g : Guide) (numbered more : List Trees) where
  found_still : (o : Option Finding) → IfSome o (IsFound g numbered) → IfSome o (IsFound g (numbered ++ more))
  found_still None h = tt
  found_still (Some k) h = record { kids = h.kids; numbered_is = in_front numbered more k.number h.kids h.numbered_is; found_is = h.found_is }

  pub seen_still : (k : KnownSights) → AreSeenUnder g numbered k → AreSeenUnder g (numbered ++ more) k
  seen_still k h = record {
    seen = h.seen;
    findings = record { found = All-weaker (λ (o : Option Finding). IfSome o (IsFound g numbered)) (λ (o : Option Finding). IfSome o (IsFound g (numbered ++ more))) found_still k.findings.places.items h.findings.found };
  }

-- more elements have a number
kids_more : (old new : Lettering) (h : HasGrown old new) → kids_of new.numbered.items ≡ kids_of old.numbered.items ++ kids_of h.more
kids_more old new h = ap kids_of h.grown ∙ map-append (λ (k : Bor (List LetteredOf)). bare (trees k.now)) old.numbered.items h.more

pub grown_lettered : (r : Runner) (old new : Lettering) (x : Lettered) → HasGrown old new → IsLetteredIn r (kids_of old.numbered.items) x → IsLetteredIn r (kids_of new.numbered.items) x
grown_lettered r old new x h is =
    subst (λ ks. IsLetteredIn r ks x) (sym (kids_more old new h)) (lettered_still (symbols_by r) (predicates_by r) (kids_of old.numbered.items) (kids_of h.more) x is)

pub grown_seen : (g : Guide) (old new : Lettering) (k : KnownSights) → HasGrown old new → AreSeenUnder g (kids_of old.numbered.items) k → AreSeenUnder g (kids_of new.numbered.items) k
grown_seen g old new k h is = subst (λ ks. AreSeenUnder g ks k) (sym (kids_more old new h)) (seen_still g (kids_of old.numbered.items) (kids_of h.more) k is)

pub grown_none : (old new : Lettering) → new.numbered.items ≡ old.numbered.items → HasGrown old new
grown_none old new e = record { more = []; grown = e ∙ sym (append-nil old.numbered.items) }

pub grown_twice : (old now new : Lettering) → HasGrown old now → HasGrown now new → HasGrown old new
grown_twice old now new h k = record { more = h.more ++ k.more; grown = k.grown ∙ (ap (λ w. w ++ k.more) h.grown ∙ append_assoc old.numbered.items h.more k.more) }
