-- What a binding more puts in scope.
use Rattle.std.proofs.Common.{◌≡◌, ℕ, List, [], ◌∷◌, ◌++◌, Bool, true, false, cond, refl, ap, sym, ◌∙◌, Option, None, Some, MatchOption, bytes_eq}
use Rattle.std.specs.Borrow.{Bor}
use Rattle.std.specs.BTreeMap.{BTreeMap}
use Rattle.std.specs.Option.{option_map}
use Rattle.tc_model.specs.RawTrees.{Bound}
use Rattle.tc_model.specs.Views.{bound}
use Rattle.tc_model.specs.XmlTextScopes.{uri_of}
use Rattle.tc_model.specs.declared.tree.Binding.{Binding}
use Rattle.tc_rnc.specs.Bindings.{scope_before, uri_in}

before_pushed : (scope : List Bound) (bs : List Binding) (b : Binding) → scope_before scope (bs ++ b ∷ []) ≡ bound b ∷ scope_before scope bs
before_pushed scope [] b = refl
before_pushed scope (x ∷ xs) b = before_pushed (bound x ∷ scope) xs b

pub scope_pushed : (bs : List Binding) (b : Binding) → scope_before [] (bs ++ b ∷ []) ≡ bound b ∷ scope_before [] bs
scope_pushed bs b = before_pushed [] bs b

-- what a map tells of a prefix, where it tells what is in scope
pub told : (o : Option (Bor (List ℕ))) (x : Option (List ℕ)) → option_map (λ (u : Bor (List ℕ)). u.now) o ≡ x → MatchOption o (x ≡ None) (λ u. x ≡ Some u.now)
told None x e = sym e
told (Some u) x e = sym e

-- a map and the bindings, both with one binding more, tell the same
pub same_pushed : (uris more : BTreeMap (Bor (List ℕ)) (Bor (List ℕ))) (bs : List Binding) (b : Binding)
    → ((p : List ℕ) → option_map (λ (u : Bor (List ℕ)). u.now) (uri_in uris p) ≡ uri_of (scope_before [] bs) p)
    → ((p : List ℕ) → uri_in more p ≡ cond (bytes_eq b.prefix.now p) (Some b.uri) (uri_in uris p))
    → (p : List ℕ) → option_map (λ (u : Bor (List ℕ)). u.now) (uri_in more p) ≡ uri_of (scope_before [] (bs ++ b ∷ [])) p
same_pushed uris more bs b same grown p =
    ap (option_map (λ (u : Bor (List ℕ)). u.now)) (grown p) ∙ (by (bytes_eq b.prefix.now p) ∙ ap (λ s. uri_of s p) (sym (scope_pushed bs b)))
  where
    by : (x : Bool) → option_map (λ (u : Bor (List ℕ)). u.now) (cond x (Some b.uri) (uri_in uris p)) ≡ cond x (Some b.uri.now) (uri_of (scope_before [] bs) p)
    by true = refl
    by false = same p
