-- One more call that is put behind others, with its number.
use Rattle.std.proofs.Common.{◌≡◌, ℕ, ◌+◌, ◌<◌, List, [], ◌∷◌, ◌++◌, ap, ◌∙◌, sym, Option, None, length, map, get_or, take, drop, append_assoc}
use Rattle.std.proofs.lemmas.List.{drop_more, map_more, map_push}
use Rattle.tc_model.specs.Names.{ExpandedName}
use Rattle.tc_model.specs.Views.{place}
use Rattle.tc_model.specs.SheetText.{Call as WrittenCall}
use Rattle.tc_sheet.specs.Graphs.{NumberedCall, callee_of, numbered_from, is_undefined, first_undefined, IsFirstUndefined}
use Rattle.tc_sheet.specs.SeenCalls.{site, call}
use Rattle.tc_sheet.specs.declared.calls.Call.{Call}
use Rattle.tc_sheet.specs.declared.calls.Site.{Site}
use Rattle.tc_sheet.specs.declared.faults.SheetFault.{SheetFault}
use Rattle.tc_sheet.specs.declared.faults.SheetFault.TheVariants.{Malformed, Unsupported, TooDeep, Undefined, CallLoop, NoMemory}
use Rattle.tc_sheet.proofs.CallLaws.{first_append, first_before}

module _ (names : List ExpandedName) (ss : List Site) (k : ℕ) (d : Site) (lt : k < length ss) where
  abbrev s : Site
  s = get_or ss k d

  mapped : {X : Type 0} (f : WrittenCall → X) → map f (map site (take (k + 1) ss)) ≡ map f (map site (take k ss)) ++ f (site s) ∷ []
  mapped f = ap (map f) (map_more site ss k d lt) ∙ map_push f (map site (take k ss)) (site s)

  pub row_step : (old new : List ℕ) (j : ℕ) → new ≡ old ++ j ∷ [] → j ≡ callee_of names (site s) → old ≡ map (callee_of names) (map site (take k ss)) → new ≡ map (callee_of names) (map site (take (k + 1) ss))
  row_step old new j e f g = e ∙ (ap (λ z. z ++ j ∷ []) g ∙ (ap (λ z. map (callee_of names) (map site (take k ss)) ++ z ∷ []) f ∙ sym (mapped (callee_of names))))

  abbrev one : Option ℕ → ℕ → Call
  one caller j = record { caller = caller; callee = j; place = s.place }

  abbrev one_seen : Option ℕ → ℕ → NumberedCall
  one_seen caller j = record { caller = caller; callee = j; place = place s.place }

  pub put_step : (caller : Option ℕ) (j : ℕ) (old new : List Call) (all : List NumberedCall) → new ≡ old ++ one caller j ∷ [] → j ≡ callee_of names (site s)
      → map call old ≡ all ++ map (numbered_from names caller) (map site (take k ss)) → map call new ≡ all ++ map (numbered_from names caller) (map site (take (k + 1) ss))
  put_step caller j old new all e f g =
      let before = map (numbered_from names caller) (map site (take k ss)) in
      ap (map call) e
      ∙ (map_push call old (one caller j)
      ∙ (ap (λ z. z ++ one_seen caller j ∷ []) g
      ∙ (ap (λ z. (all ++ before) ++ one_seen caller z ∷ []) f
      ∙ (append_assoc all before (numbered_from names caller (site s) ∷ []) ∙ ap (λ z. all ++ z) (sym (mapped (numbered_from names caller)))))))

  left : map site (drop k ss) ≡ site s ∷ map site (drop (k + 1) ss)
  left = ap (map site) (drop_more ss k d lt)

  pub first_step : {r : Option ℕ} → first_undefined names (site s ∷ []) ≡ None → first_undefined names (map site (drop k ss)) ≡ r → first_undefined names (map site (drop (k + 1) ss)) ≡ r
  first_step f e = sym (ap (first_undefined names) left ∙ first_append (is_undefined names) (λ (c : WrittenCall). c.place) (site s ∷ []) (map site (drop (k + 1) ss)) f) ∙ e

  pub undefined_here : (e : SheetFault) → IsFirstUndefined names (site s ∷ []) e → first_undefined names (map site (drop k ss)) ≡ first_undefined names (map site ss) → IsFirstUndefined names (map site ss) e
  undefined_here (Malformed p) f g = f
  undefined_here (Unsupported p why) f g = f
  undefined_here (TooDeep p) f g = f
  undefined_here (Undefined p) f g = sym g ∙ (ap (first_undefined names) left ∙ first_before (is_undefined names) (λ (c : WrittenCall). c.place) (site s ∷ []) (map site (drop (k + 1) ss)) (place p) f)
  undefined_here (CallLoop p) f g = f
  undefined_here NoMemory f g = tt
