use Rattle.std.proofs.Common.{◌≡◌, ◌∙◌, ℕ, List, Option, None, Some, replicate, length, All, IfSome, ap, refl, sym, subst}
use Rattle.std.proofs.lemmas.List.{length-replicate}
use Rattle.std.proofs.lemmas.List.Elements.{All-replicate}
use Rattle.tc_model.specs.Symbols.{Mention}
use Rattle.tc_model.specs.Views.{name}
use Rattle.tc_beh.specs.Named.{AreNamed, IsSymbol}
use Rattle.tc_beh.specs.declared.symbols.Named.{Named}
use Rattle.tc_beh.proofs.symbols.Symbols.of.Goals as goal

-- what isn't at hand is nothing
nothing_else : (IsOne : Option Named → Type 0) → ((k : Named) → IsOne (Some k) → ⊥) → (o : Option Named) → IsOne o → o ≡ None
nothing_else IsOne none None is = refl
nothing_else IsOne none (Some k) is = absurd (none k is)

count_none : (n : ℕ) (ns : List (Option Named)) → ns ≡ replicate n None → length ns ≡ n
count_none n ns same = ap length same ∙ length-replicate n None

none_named : (symbols : List Mention) (ns : List (Option Named)) → ns ≡ replicate 1024 None → AreNamed symbols ns
none_named symbols ns same = record {
  places = count_none 1024 ns same;
  named = subst (λ (os : List (Option Named)). All (λ o. IfSome o (λ k. IsSymbol symbols (name k.name) k.sym.0)) os) (sym same)
      (All-replicate (λ (o : Option Named). IfSome o (λ k. IsSymbol symbols (name k.name) k.sym.0)) 1024 None tt);
}

pub add_sheet-requires : goal.add_sheet-requires
add_sheet-requires c = none_named c.args.alphabet c.in_ok-names.names.items (c.in_ok-names.ensures.items_if_clones_equal (nothing_else _ (λ k e. e)))
