-- The expanded name of an element, by what is kept of declarations.
use Rattle.std.proofs.Common.{◌≡◌, ℕ, true, false, List, [], ap, ◌∙◌, sym, subst, map, reverse, None, Some, bytes_eq}
use Rattle.std.specs.Cmp.Lexicographic.{bytes_decides}
use Rattle.std.proofs.lemmas.Bool.{true≢false}
use Rattle.tc_model.specs.Names.{ExpandedName}
use Rattle.tc_model.specs.RawTrees.{Bound}
use Rattle.tc_model.specs.XmlTextScopes.{uri_of, ElementName, bound, unbound}
use Rattle.tc_tags.specs.Bindings.{Binds}
use Rattle.tc_tags.specs.Scoped.{bound_by}
use Rattle.tc_tags.specs.Written.{binding_in}
use Rattle.tc_tags.specs.declared.scopes.Declared.{Declared}
use Rattle.tc_tags.proofs.BindingLaws.{bound_by_bindings}

module _ (names : List ℕ) (declared : List Declared) (scope : List Bound) (binds : Binds (map (binding_in names) declared) scope) (prefix local : List ℕ) where
  bound_is : (p : List ℕ) → p ≡ prefix → bound_by (reverse declared) names p ≡ uri_of scope prefix
  bound_is p e = ap (bound_by (reverse declared) names) e ∙ (bound_by_bindings names prefix declared ∙ binds prefix)

  pub named_by : (p uri u l : List ℕ) → p ≡ prefix → Some uri ≡ bound_by (reverse declared) names p → u ≡ uri → l ≡ local → ElementName scope (record { prefix = prefix; local = local }) (record { uri = u; local = l })
  named_by p uri u l e f g h =
      let at : ElementName scope (record { prefix = prefix; local = local }) (record { uri = uri; local = local }) = bound (sym (bound_is p e) ∙ sym f) in
      subst (λ z. ElementName scope (record { prefix = prefix; local = local }) (record { uri = u; local = z })) (sym h)
      (subst (λ z. ElementName scope (record { prefix = prefix; local = local }) (record { uri = z; local = local })) (sym g) at)

  pub unnamed : (p l : List ℕ) → p ≡ prefix → None ≡ bound_by (reverse declared) names p → true ≡ bytes_eq p [] → l ≡ local → ElementName scope (record { prefix = prefix; local = local }) (record { uri = []; local = l })
  unnamed p l e f g h =
      let empty : prefix ≡ [] = sym e ∙ (bytes_decides p []).0 (sym g) in
      let at : ElementName scope (record { prefix = prefix; local = local }) (record { uri = []; local = local }) =
      unbound (ap (λ z. bytes_eq z []) (sym e) ∙ sym g) (ap (uri_of scope) (sym empty) ∙ (sym (bound_is p e) ∙ sym f)) in
      subst (λ z. ElementName scope (record { prefix = prefix; local = local }) (record { uri = []; local = z })) (sym h) at

  pub no_name : (p : List ℕ) → p ≡ prefix → None ≡ bound_by (reverse declared) names p → false ≡ bytes_eq p [] → (n : ExpandedName) → ElementName scope (record { prefix = prefix; local = local }) n → ⊥
  no_name p e f g n (bound h) = some_none (f ∙ (bound_is p e ∙ h))
    where
      some_none : {u : List ℕ} → None ≡ Some u → ⊥
      some_none e = cc
  no_name p e f g n (unbound h k) = true≢false (sym h ∙ (ap (λ z. bytes_eq z []) (sym e) ∙ sym g))
