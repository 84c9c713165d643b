use Rattle.std.proofs.Common.{◌≡◌, ◌∷◌, ◌∙◌, [], ℕ, List, ap, subst, sym, refl}
use Rattle.std.specs.Borrow.{Bor}
use Rattle.std.specs.Option.{option_map}
use Rattle.std.proofs.lemmas.Map.Text.{btree_map_updates_str}
use Rattle.tc_model.specs.CompactSyntaxNames.{bound_to}
use Rattle.tc_model.specs.XmlTextScopes.{uri_of}
use Rattle.tc_rnc.specs.Bindings.{scope_before, uri_in}
use Rattle.tc_rnc.proofs.ScopeLaws.{same_pushed, scope_pushed}
use Rattle.tc_rnc.specs.declared.faults.RncFault.TheVariants.{NoMemory}
use Rattle.tc_rnc.proofs.UnreadLaws.{unread_on}
use Rattle.tc_rnc.proofs.RefusalLaws.{failed}
use Rattle.tc_rnc.proofs.scopes.Scope.bind.Goals as goal

pub invariant_of-self-in-Ok : goal.invariant_of-self-in-Ok
invariant_of-self-in-Ok c = record {
  same = subst (λ bs. (p : List ℕ) → option_map (λ (u : Bor (List ℕ)). u.now) (uri_in c.insert.new.self p) ≡ uri_of (scope_before [] bs) p) (sym c.in_ok-push.ensures.items)
      (same_pushed c.args.self.now.uris c.insert.new.self c.args.self.now.bindings.items (record { prefix = c.in_ok-prefix.prefix; uri = c.in_ok-uri.uri }) c.args.self.now.same
      (btree_map_updates_str c.in_ok-prefix.prefix.now c.args.self.now.uris c.insert.new.self _ c.in-Ok.ensures.updates));
}

pub returns-in-Ok-clause-ok : goal.returns-in-Ok-clause-ok
returns-in-Ok-clause-ok c =
    ap (scope_before []) c.in_ok-push.ensures.items
    ∙ (scope_pushed c.args.self.now.bindings.items (record { prefix = c.in_ok-prefix.prefix; uri = c.in_ok-uri.uri })
    ∙ (ap (λ z. bound_to z c.in_ok-uri.uri.now ∷ scope_before [] c.args.self.now.bindings.items) c.in_ok-prefix.ensures
    ∙ ap (λ z. bound_to c.args.prefix.now z ∷ scope_before [] c.args.self.now.bindings.items) c.in_ok-uri.ensures))

pub returns-in_err-prefix-clause-ok : goal.returns-in_err-prefix-clause-ok
returns-in_err-prefix-clause-ok c = unread_on c.from_residual.result _ _ c.from_residual.ensures.1

pub returns-in_err-prefix-clause-no : goal.returns-in_err-prefix-clause-no
returns-in_err-prefix-clause-no c = failed c.from_residual.result _ (λ e. e ≡ NoMemory) c.from_residual.ensures.1 refl

pub returns-in_err-uri-clause-ok : goal.returns-in_err-uri-clause-ok
returns-in_err-uri-clause-ok c = unread_on c.from_residual-in_err-uri.result _ _ c.from_residual-in_err-uri.ensures.1

pub returns-in_err-uri-clause-no : goal.returns-in_err-uri-clause-no
returns-in_err-uri-clause-no c = failed c.from_residual-in_err-uri.result _ (λ e. e ≡ NoMemory) c.from_residual-in_err-uri.ensures.1 refl

pub returns-in_err-push-clause-ok : goal.returns-in_err-push-clause-ok
returns-in_err-push-clause-ok c = unread_on c.from_residual-in_err-push.result _ _ c.from_residual-in_err-push.ensures.1

pub returns-in_err-push-clause-no : goal.returns-in_err-push-clause-no
returns-in_err-push-clause-no c = failed c.from_residual-in_err-push.result _ (λ e. e ≡ NoMemory) c.from_residual-in_err-push.ensures.1 refl
