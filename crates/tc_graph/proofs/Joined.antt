-- Where a step leads back: within one component.
use Rattle.std.proofs.Common.{◌≡◌, ◌⊎◌, inl, inr, ℕ, ◌<◌, ◌≤◌, true, List, refl, ap, ◌∙◌, sym, arith, length, true≢false, eqb-true, eq-eqb}
use Rattle.tc_graph.specs.Graph.{Edge, Path, edge, further, Leads}
use Rattle.tc_graph.specs.Walks.{AreComponents, same_component, state_at}
use Rattle.tc_graph.specs.declared.cycles.State.{State}
use Rattle.tc_graph.specs.declared.cycles.State.TheVariants.{New, Open, Done}

done_is : {c d : ℕ} → Done c ≡ Done d → c ≡ d
done_is e = cc

pub path_then : {rows : List (List ℕ)} {k j i : ℕ} → Path rows k j → Path rows j i → Path rows k i
path_then p (edge a) = further p a
path_then p (further q a) = further (path_then p q) a

module _ (rows : List (List ℕ)) (states : List State) (order : List ℕ) (cs : AreComponents rows states order) where
  -- what a number leads to is in no later component
  pub path_down : {k j : ℕ} → Path rows k j → (c : ℕ) → state_at states k ≡ Done c → (d : ℕ) × (state_at states j ≡ Done d) × (d ≤ c)
  path_down (edge {k = k} {j = j} a) c e = cs.closed k c j e a
  path_down (further {k = k} {j = j} {i = i} q a) c e =
      let (d, f, l) = path_down q c e in
      let (b, g, m) = cs.closed j d i f a in
      (b, g, omega (arith, l, m))

  -- those of one component lead to one another
  pub same_leads : (k j : ℕ) → same_component (state_at states k) (state_at states j) ≡ true → Leads rows j k
  same_leads k j e = by (state_at states k) (state_at states j) refl refl e
    where
      flip : (j ≡ k) ⊎ Path rows j k → Leads rows j k
      flip (inl e) = inl (sym e)
      flip (inr p) = inr p

      by : (x y : State) → state_at states k ≡ x → state_at states j ≡ y → same_component x y ≡ true → Leads rows j k
      by New y e f h = absurd (true≢false (sym h))
      by (Open i) y e f h = absurd (true≢false (sym h))
      by (Done c) New e f h = absurd (true≢false (sym h))
      by (Done c) (Open i) e f h = absurd (true≢false (sym h))
      by (Done c) (Done d) e f h = flip (cs.joined j k c (f ∙ ap Done (sym (eqb-true c d h))) e)

  -- a step that leads back stays in its component
  pub leads_same : (k j : ℕ) → k < length rows → Edge rows k j → Leads rows j k → same_component (state_at states k) (state_at states j) ≡ true
  leads_same k j small a back =
      let (c, e, x) = cs.done k small in
      let (d, f, low) = cs.closed k c j e a in
      let equal : c ≡ d = omega (arith, high c d e f back, low) in
      ap (λ z. same_component z (state_at states j)) e ∙ (ap (λ z. same_component (Done c) z) f ∙ eq-eqb c d equal)
    where
      high : (c d : ℕ) → state_at states k ≡ Done c → state_at states j ≡ Done d → Leads rows j k → c ≤ d
      high c d e f (inl is) = omega (arith, done_is (sym e ∙ (ap (state_at states) is ∙ f)))
      high c d e f (inr path) = let (b, g, l) = path_down path d f in omega (arith, l, done_is (sym g ∙ e))
