-- What is reached, by the numbers of definitions.
use Rattle.std.proofs.Common.{◌≡◌, ◌⊎◌, inl, inr, ℕ, zero, suc, Bool, true, false, List, [], ◌∷◌, refl, ap, ◌∙◌, sym, subst, arith, get_or, map, Option, None, Some, slice_get}
use Rattle.std.specs.List.{Contains, filter_map}
use Rattle.tc_model.specs.CompactSyntaxTrees.{SyntaxPattern, empty, not_allowed, text, attribute, ref, element, mixed, optional, zero_or_more, one_or_more, group, choice, interleave, Syntax}
use Rattle.tc_model.specs.SimplifiesParts.{pattern_of, IsOpenPart, Below, Reached}
use Rattle.tc_model.specs.SimplifiesParts as m
use Rattle.tc_model.specs.SimplifiesFaults.{IsCircular}
use Rattle.tc_model.proofs.SimplifiesUnique.{Has, has_from_index}
use Rattle.tc_model.proofs.CompactSyntaxClassesUnique.{same_some, some_none}
use Rattle.tc_rnc.specs.Views as see
use Rattle.tc_rnc.specs.declared.syntax.SPat.{SPat}
use Rattle.tc_graph.specs.Graph.{Edge, Path, edge, further, Leads}
use Rattle.tc_simple.specs.Tables.{number_of, IsTable}
use Rattle.tc_simple.specs.Nodes.{nodes, target, pattern_at, link_rows}
use Rattle.tc_simple.specs.declared.groups.Table.{Table}
use Rattle.tc_simple.proofs.Standing.{has_filter, filter_has, has_contains, node_self, part_node, node_within, node_below, node_reached}

no_value : {X Y : Type 0} {x : X} → None ≡ Some x → Y
no_value e = absurd (some_none e refl)

nothing_in : {X Y : Type 0} {x : X} → Contains [] x → Y
nothing_in c = absurd (omega (arith, c.1))

row_of : {X : Type 0} (f : X → List ℕ) (xs : List X) (k : ℕ) (x : X) → slice_get xs k ≡ Some x → get_or (map f xs) k [] ≡ f x
row_of f [] k x e = no_value e
row_of f (y ∷ ys) zero x e = ap f (same_some refl e)
row_of f (y ∷ ys) (suc k) x e = row_of f ys k x e

of_row : {X : Type 0} (f : X → List ℕ) (xs : List X) (k j : ℕ) → Contains (get_or (map f xs) k []) j → (x : X) × (slice_get xs k ≡ Some x) × Contains (f x) j
of_row f [] k j c = nothing_in c
of_row f (y ∷ ys) zero j c = (y, refl, c)
of_row f (y ∷ ys) (suc k) j c = of_row f ys k j c

pub leads_then : {rows : List (List ℕ)} {k j i : ℕ} → Leads rows k j → Leads rows j i → Leads rows k i
leads_then {rows} {k} {j} {i} (inl e) b = subst (λ z. Leads rows z i) e b
leads_then {rows} {k} {j} {i} (inr p) (inl e) = inr (subst (λ z. Path rows k z) (sym e) p)
leads_then {rows} {k} {j} {i} (inr p) (inr q) = inr (path_then p q)
  where
    path_then : {k j i : ℕ} → Path rows k j → Path rows j i → Path rows k i
    path_then p (edge a) = further p a
    path_then p (further q a) = further (path_then p q) a

ref_name : {n n' : List ℕ} {p p' : ℕ} → ref n p ≡ ref n' p' → n ≡ n'
ref_name e = cc

module _ (s : Syntax) (t : Table) (h : IsTable s t) where
  -- a pattern stands in the definition of a number; within its elements too, or not
  abbrev pub At : Bool → ℕ → SyntaxPattern → Type 0
  At w k q = (p : SPat) × (pattern_at t k ≡ Some p) × Has (nodes w (see.pattern p)) q

  abbrev pub RefersTo : Bool → ℕ → ℕ → Type 0
  RefersTo w k j = (n : List ℕ) × (place : ℕ) × At w k (ref n place) × (number_of t n ≡ Some j)

  target_is : (q : SyntaxPattern) (j : ℕ) → target t q ≡ Some j → (n : List ℕ) × (place : ℕ) × (q ≡ ref n place) × (number_of t n ≡ Some j)
  target_is empty j e = no_value e
  target_is not_allowed j e = no_value e
  target_is text j e = no_value e
  target_is attribute j e = no_value e
  target_is (ref n place) j e = (n, place, refl, e)
  target_is (element place c p) j e = no_value e
  target_is (mixed p) j e = no_value e
  target_is (optional p) j e = no_value e
  target_is (zero_or_more p) j e = no_value e
  target_is (one_or_more p) j e = no_value e
  target_is (group ps) j e = no_value e
  target_is (choice ps) j e = no_value e
  target_is (interleave ps) j e = no_value e

  pub edge_in : (w : Bool) (k j place : ℕ) (n : List ℕ) → At w k (ref n place) → number_of t n ≡ Some j → Edge (link_rows t w) k j
  edge_in w k j place n (p, at, stands) e =
      subst (λ z. Contains z j) (sym (row_of (λ q. filter_map (target t) (nodes w (see.pattern q))) t.patterns.items k p at)) (has_contains (filter_has (target t) stands e))

  pub edge_out : (w : Bool) (k j : ℕ) → Edge (link_rows t w) k j → RefersTo w k j
  edge_out w k j a =
      let (p, at, c) = of_row (λ q. filter_map (target t) (nodes w (see.pattern q))) t.patterns.items k j a in
      let found = has_filter (target t) (nodes w (see.pattern p)) j (has_from_index (filter_map (target t) (nodes w (see.pattern p))) j c) in
      let (n, place, is, e) = target_is found.item j found.gives in
      (n, place, (p, at, subst (λ z. Has (nodes w (see.pattern p)) z) is found.stands), e)

  pub number_is : (n : List ℕ) (q : SyntaxPattern) → pattern_of s n ≡ Some q → (k : ℕ) × (number_of t n ≡ Some k)
  number_is n q e = by (number_of t n) refl
    where
      by : (o : Option ℕ) → number_of t n ≡ o → (k : ℕ) × (number_of t n ≡ Some k)
      by None is = absurd (some_none e (h.absent n is))
      by (Some k) is = (k, is)

  pub named_at : (w : Bool) (n : List ℕ) (k : ℕ) (q : SyntaxPattern) → number_of t n ≡ Some k → pattern_of s n ≡ Some q → At w k q
  named_at w n k q e is =
      let (p, at, same) = h.present n k e in
      (p, at, subst (λ z. Has (nodes w (see.pattern p)) z) (same_some same is) (node_self w (see.pattern p)))

  pub named_is : (n : List ℕ) (k : ℕ) (p : SPat) → number_of t n ≡ Some k → pattern_at t k ≡ Some p → pattern_of s n ≡ Some (see.pattern p)
  named_is n k p e at = let (q, got, same) = h.present n k e in same ∙ ap (λ z. Some (see.pattern z)) (same_some got at)

  pub at_part : (w : Bool) (k : ℕ) (p q : SyntaxPattern) → At w k p → IsOpenPart p q → At w k q
  at_part w k p q (r, at, stands) part = (r, at, node_within w (see.pattern r) p q stands (part_node w p q part))

  -- by references alone
  below_at : {p q : SyntaxPattern} → Below s p q → (k : ℕ) → At false k p → (j : ℕ) × Leads (link_rows t false) k j × At false j q
  below_at {p} {q} (m.part part) k at = (k, inl refl, at_part false k p q at part)
  below_at {p} {q} (m.reference {n = n} {place = place} e) k at =
      let (j, is) = number_is n q e in
      (j, inr (edge (edge_in false k j place n at is)), named_at false n j q is e)
  below_at (m.further a b) k at =
      let (j, l, mid) = below_at a k at in
      let (i, m, last) = below_at b j mid in
      (i, leads_then l m, last)

  below_reference : {p q : SyntaxPattern} (n : List ℕ) (place j : ℕ) → Below s p q → p ≡ ref n place → number_of t n ≡ Some j → (i : ℕ) × Leads (link_rows t false) j i × At false i q
  below_reference {p} {q} n place j (m.part part) e is = let none : IsOpenPart (ref n place) q = subst (λ z. IsOpenPart z q) e part in absurd none
  below_reference {p} {q} n place j (m.reference f) e is = (j, inl refl, named_at false n j q is (ap (pattern_of s) (sym (ref_name e)) ∙ f))
  below_reference n place j (m.further a b) e is =
      let (i, l, mid) = below_reference n place j a e is in
      let (k, m, last) = below_at b i mid in
      (k, leads_then l m, last)

  pub start_below : (start : ℕ) (q r : SyntaxPattern) → number_of t [] ≡ Some start → pattern_of s [] ≡ Some q → (r ≡ q) ⊎ Below s q r → (j : ℕ) × Leads (link_rows t false) start j × At false j r
  start_below start q r e is (inl same) = (start, inl refl, subst (λ z. At false start z) (sym same) (named_at false [] start q e is))
  start_below start q r e is (inr b) = below_at b start (named_at false [] start q e is)

  refers_below : (k j : ℕ) (p q : SPat) → RefersTo false k j → pattern_at t k ≡ Some p → pattern_at t j ≡ Some q → Below s (see.pattern p) (see.pattern q)
  refers_below k j p q (n, place, (r, at, stands), e) is to =
      by (node_below s (see.pattern p) (ref n place) (subst (λ z. Has (nodes false (see.pattern z)) (ref n place)) (same_some at is) stands))
    where
      last : Below s (ref n place) (see.pattern q)
      last = m.reference (named_is n j q e to)

      by : (ref n place ≡ see.pattern p) ⊎ Below s (see.pattern p) (ref n place) → Below s (see.pattern p) (see.pattern q)
      by (inl same) = subst (λ z. Below s z (see.pattern q)) same last
      by (inr b) = m.further b last

  has_pattern : (w : Bool) (k j : ℕ) → RefersTo w k j → (p : SPat) × (pattern_at t j ≡ Some p)
  has_pattern w k j (n, place, at, e) = let (p, got, same) = h.present n j e in (p, got)

  pub path_below : {k j : ℕ} → Path (link_rows t false) k j → (p q : SPat) → pattern_at t k ≡ Some p → pattern_at t j ≡ Some q → Below s (see.pattern p) (see.pattern q)
  path_below (edge {k = k} {j = j} a) p q is to = refers_below k j p q (edge_out false k j a) is to
  path_below (further {k = k} {j = j} {i = i} r a) p q is to =
      let refers = edge_out false j i a in
      let (o, at) = at_of refers in
      m.further (path_below r p o is at) (refers_below j i o q refers at to)
    where
      at_of : RefersTo false j i → (o : SPat) × (pattern_at t j ≡ Some o)
      at_of (n, place, (o, at, stands), e) = (o, at)

  pub leads_below : (k j : ℕ) (p q : SPat) → Leads (link_rows t false) k j → pattern_at t k ≡ Some p → pattern_at t j ≡ Some q → (see.pattern q ≡ see.pattern p) ⊎ Below s (see.pattern p) (see.pattern q)
  leads_below k j p q (inl e) is to = inl (ap see.pattern (same_some (ap (pattern_at t) (sym e) ∙ to) is))
  leads_below k j p q (inr r) is to = inr (path_below r p q is to)

  pub below_reached : {p q : SyntaxPattern} → Below s p q → Reached s p → Reached s q
  below_reached (m.part part) r = m.part r part
  below_reached (m.reference e) r = m.reference r e
  below_reached (m.further a b) r = below_reached b (below_reached a r)

  -- by references and elements
  module _ (start : ℕ) (begins : number_of t [] ≡ Some start) where
    step_reached : (k j : ℕ) (q : SPat) → ((p : SPat) → pattern_at t k ≡ Some p → Reached s (see.pattern p)) → Edge (link_rows t true) k j → pattern_at t j ≡ Some q → Reached s (see.pattern q)
    step_reached k j q f a at = by (edge_out true k j a)
      where
        by : RefersTo true k j → Reached s (see.pattern q)
        by (n, place, (p, is, stands), e) = m.reference (node_reached s (see.pattern p) (ref n place) (f p is) stands) (named_is n j q e at)

    start_reached : (p : SPat) → pattern_at t start ≡ Some p → Reached s (see.pattern p)
    start_reached p at = m.at_start (named_is [] start p begins at)

    path_reached : {k j : ℕ} → Path (link_rows t true) k j → k ≡ start → (p : SPat) → pattern_at t j ≡ Some p → Reached s (see.pattern p)
    path_reached (edge {k = k} {j = j} a) is p at = step_reached start j p start_reached (subst (λ z. Edge (link_rows t true) z j) is a) at
    path_reached (further {k = k} {j = j} {i = i} r a) is p at = step_reached j i p (λ q e. path_reached r is q e) a at

    pub pattern_reached : (k : ℕ) (p : SPat) → Leads (link_rows t true) start k → pattern_at t k ≡ Some p → Reached s (see.pattern p)
    pattern_reached k p (inl e) at = start_reached p (ap (pattern_at t) (sym e) ∙ at)
    pattern_reached k p (inr r) at = path_reached r refl p at

    pub reached_at : {q : SyntaxPattern} → Reached s q → (k : ℕ) × Leads (link_rows t true) start k × At true k q
    reached_at {q} (m.at_start e) = (start, inl refl, named_at true [] start q begins e)
    reached_at {q} (m.part {p = p} r part) = let (k, l, at) = reached_at r in (k, l, at_part true k p q at part)
    reached_at {q} (m.reference {n = n} {place = place} r e) =
        let (k, l, at) = reached_at r in
        let (j, is) = number_is n q e in
        (j, leads_then l (inr (edge (edge_in true k j place n at is))), named_at true n j q is e)
    reached_at {q} (m.content {place = place} {c = c} r) =
        let (k, l, (p, is, stands)) = reached_at r in
        (k, l, (p, is, node_within true (see.pattern p) (element place c q) q stands (Rattle.tc_model.proofs.SimplifiesUnique.there (node_self true q))))

    -- what refers from a definition that is reached
    pub at_reached : (k : ℕ) (q : SyntaxPattern) → Leads (link_rows t true) start k → At false k q → Reached s q
    at_reached k q l (p, is, stands) = by (node_below s (see.pattern p) q stands)
      where
        by : (q ≡ see.pattern p) ⊎ Below s (see.pattern p) q → Reached s q
        by (inl e) = subst (λ z. Reached s z) (sym e) (pattern_reached k p l is)
        by (inr b) = below_reached b (pattern_reached k p l is)

    pub refers_reached : (k j : ℕ) → Leads (link_rows t true) start k → Edge (link_rows t false) k j → Leads (link_rows t true) start j
    refers_reached k j l a = by (edge_out false k j a)
      where
        by : RefersTo false k j → Leads (link_rows t true) start j
        by (n, place, at, e) =
            let (i, lead, there) = reached_at (at_reached k (ref n place) l at) in
            leads_then lead (inr (edge (edge_in true i j place n there e)))

    path_marked : {k j : ℕ} → Path (link_rows t false) k j → Leads (link_rows t true) start k → Leads (link_rows t true) start j
    path_marked (edge {k = k} {j = j} a) l = refers_reached k j l a
    path_marked (further {j = j} {i = i} r a) l = refers_reached j i (path_marked r l) a

    pub leads_marked : (k j : ℕ) → Leads (link_rows t false) k j → Leads (link_rows t true) start k → Leads (link_rows t true) start j
    leads_marked k j (inl e) l = subst (λ z. Leads (link_rows t true) start z) (sym e) l
    leads_marked k j (inr r) l = path_marked r l

    -- a reference that reaches its own definition
    pub circular : (k j place : ℕ) (n : List ℕ) → Leads (link_rows t true) start k → At false k (ref n place) → number_of t n ≡ Some j → Leads (link_rows t false) j k → IsCircular s place
    circular k j place n l at e back = record { name = n; reached = at_reached k (ref n place) l at; cycle = by at }
      where
        by : At false k (ref n place) → Below s (ref n place) (ref n place)
        by (p, is, stands) =
            let (q, got, same) = h.present n j e in
            let first : Below s (ref n place) (see.pattern q) = m.reference same in
            close (mid q first (leads_below j k q p back got is)) (node_below s (see.pattern p) (ref n place) stands)
          where
            mid : (q : SPat) → Below s (ref n place) (see.pattern q) → (see.pattern p ≡ see.pattern q) ⊎ Below s (see.pattern q) (see.pattern p) → Below s (ref n place) (see.pattern p)
            mid q b (inl e) = subst (λ z. Below s (ref n place) z) (sym e) b
            mid q b (inr c) = m.further b c

            close : Below s (ref n place) (see.pattern p) → (ref n place ≡ see.pattern p) ⊎ Below s (see.pattern p) (ref n place) → Below s (ref n place) (ref n place)
            close b (inl e) = subst (λ z. Below s (ref n place) z) (sym e) b
            close b (inr c) = m.further b c

    -- where a circular reference stands
    pub circular_at : (place : ℕ) → IsCircular s place → (n : List ℕ) × (k : ℕ) × (j : ℕ) × Leads (link_rows t true) start k × At false k (ref n place) × (number_of t n ≡ Some j) × Leads (link_rows t false) j k
    circular_at place c =
        let (k, l, at) = reached_at c.reached in
        let (j, e) = defined c.cycle refl in
        let (i, back, there) = below_reference c.name place j c.cycle refl e in
        (c.name, i, j, leads_marked j i back (leads_then l (inr (edge (edge_in true k j place c.name at e)))), there, e, back)
      where
        defined : {p q : SyntaxPattern} → Below s p q → p ≡ ref c.name place → (j : ℕ) × (number_of t c.name ≡ Some j)
        defined {p} {q} (m.part part) e = let none : IsOpenPart (ref c.name place) q = subst (λ z. IsOpenPart z q) e part in absurd none
        defined {p} {q} (m.reference f) e = number_is c.name q (ap (pattern_of s) (sym (ref_name e)) ∙ f)
        defined (m.further a b) e = defined a e
