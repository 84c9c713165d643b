use Rattle.std.proofs.Common.{◌≡◌, Option, Some, None, IfSome, subst, sym, refl}
use Rattle.std.proofs.lemmas.List.Elements.{All-replicate}
use Rattle.tc_beh.specs.Remembered.{AreRemembered, IsProduct}
use Rattle.tc_beh.specs.declared.products.Product.{Product}
use Rattle.tc_beh.proofs.products.Products.none.Goals as goal

-- what can't be remembered is nothing
nothing_else : (IsOne : Option Product → Type 0) → ((p : Product) → IsOne (Some p) → ⊥) → (o : Option Product) → IsOne o → o ≡ None
nothing_else IsOne none None is = refl
nothing_else IsOne none (Some p) is = absurd (none p is)

pub returns : goal.returns
returns c = λ h.
    subst (AreRemembered h) (sym (c.in_ok-places.ensures.items_if_clones_equal (nothing_else _ (λ p e. e))))
    (All-replicate (λ (o : Option Product). IfSome o (λ p. IsProduct h p.first p.second p.product)) 4096 None tt)
