use Rattle.std.proofs.Common.{◌≡◌, List, Option, Some, None, replicate, All, IfSome, subst, sym, refl}
use Rattle.std.proofs.lemmas.List.Elements.{All-replicate}
use Rattle.tc_mat.specs.Held.{Held}
use Rattle.tc_beh.specs.Links.{IsLink}
use Rattle.tc_beh.specs.declared.links.Link.{Link}
use Rattle.tc_beh.proofs.links.Links.none.Goals as goal

-- what can't be kept is nothing
nothing_else : (IsOne : Option Link → Type 0) → ((p : Link) → IsOne (Some p) → ⊥) → (o : Option Link) → IsOne o → o ≡ None
nothing_else IsOne none None is = refl
nothing_else IsOne none (Some p) is = absurd (none p is)

none_kept : (rows met : Held) (ls : List (Option Link)) → ls ≡ replicate 4096 None → All (λ o. IfSome o (λ l. IsLink rows met l.held l.met)) ls
none_kept rows met ls same =
    subst (λ (os : List (Option Link)). All (λ o. IfSome o (λ l. IsLink rows met l.held l.met)) os) (sym same) (All-replicate (λ (o : Option Link). IfSome o (λ l. IsLink rows met l.held l.met)) 4096 None tt)

pub returns : goal.returns
returns c = λ rows met. record {
  by_held = none_kept rows met c.in_ok-by_held.by_held.items (c.in_ok-by_held.ensures.items_if_clones_equal (nothing_else _ (λ p e. e)));
  by_met = none_kept rows met c.in_ok-by_met.by_met.items (c.in_ok-by_met.ensures.items_if_clones_equal (nothing_else _ (λ p e. e)));
}
