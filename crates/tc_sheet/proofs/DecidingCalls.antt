-- Whether calls of templates lead back: a way from one name to another passes names of templates alone, each once or never.
use Rattle.std.proofs.Common.{◌≡◌, ◌⊎◌, inl, inr, List, [], ◌∷◌, ◌++◌, refl, ap, ◌∙◌, sym, subst, Option, None, Some, Contains}
use Rattle.std.proofs.lemmas.List.Elements.{Contains-append_right}
use Rattle.tc_model.specs.Names.{ExpandedName}
use Rattle.tc_model.specs.SheetTextTrees.{Template}
use Rattle.tc_model.specs.SheetText.{one_name, names_of, Call, calls_in_body, Reaches, calls, calls_by, StandingCall, IsLoop}
use Rattle.tc_sheet.proofs.DecidingAttributes.{both, either, name_is}
use Rattle.tc_sheet.proofs.DecidingBytes.{Decided, none_some, some_same, no_some}
use Rattle.tc_sheet.proofs.DecidingLists.{in_cons, in_first, in_none, exists_here}

-- ways, by one step that is decided
module _ {X : Type 0} (Step : X → X → Type 0) (step_here : (a b : X) → Decided (Step a b)) where
  -- a way from one to another, on which all others are among these
  abbrev pub Way : List X → X → X → Type 0
  Way [] a b = Step a b
  Way (n ∷ ns) a b = Way ns a b ⊎ (Way ns a n × Way ns n b)

  pub way_here : (ns : List X) (a b : X) → Decided (Way ns a b)
  way_here [] a b = step_here a b
  way_here (n ∷ ns) a b = either (way_here ns a b) (both (way_here ns a n) (way_here ns n b))

  -- one way and then another, by one of these
  pub joined : (ns : List X) (a b c : X) → Contains ns b → Way ns a b → Way ns b c → Way ns a c
  joined [] a b c i v w = absurd (in_none b i)
  joined (n ∷ ns) a b c i v w = by (in_cons n ns b i) v w (λ x y. joined ns x b y)
    where
      to_it : (x : X) → Way (n ∷ ns) x n → Way ns x n
      to_it x (inl p) = p
      to_it x (inr p) = p.0

      from_it : (y : X) → Way (n ∷ ns) n y → Way ns n y
      from_it y (inl p) = p
      from_it y (inr p) = p.1

      at_rest : Contains ns b → Way (n ∷ ns) a b → Way (n ∷ ns) b c → ((x y : X) → Contains ns b → Way ns x b → Way ns b y → Way ns x y) → Way (n ∷ ns) a c
      at_rest j (inl p) (inl q) go = inl (go a c j p q)
      at_rest j (inl p) (inr (q, r)) go = inr (go a n j p q, r)
      at_rest j (inr (p, q)) (inl r) go = inr (p, go n c j q r)
      at_rest j (inr (p, q)) (inr (r, t)) go = inr (p, t)

      by : (n ≡ b) ⊎ Contains ns b → Way (n ∷ ns) a b → Way (n ∷ ns) b c → ((x y : X) → Contains ns b → Way ns x b → Way ns b y → Way ns x y) → Way (n ∷ ns) a c
      by (inl e) p q go = inr (to_it a (subst (Way (n ∷ ns) a) (sym e) p), from_it c (subst (λ z. Way (n ∷ ns) z c) (sym e) q))
      by (inr j) p q go = at_rest j p q go

  pub one_step : (ns : List X) (a b : X) → Step a b → Way ns a b
  one_step [] a b s = s
  one_step (n ∷ ns) a b s = inl (one_step ns a b s)

pub same_name_here : (n m : ExpandedName) → Decided (n ≡ m)
same_name_here n m = name_is n m.uri m.local

named_here : (o : Option ExpandedName) (n : ExpandedName) → Decided (o ≡ Some n)
named_here None n = inr no_some
named_here (Some m) n = elim (same_name_here m n) [ inl e ↦ inl (ap Some e) | inr h ↦ inr (λ e. h (some_same e)) ]

-- a name of a template is among names
named_in : (ts : List Template) (t : Template) (n : ExpandedName) → Contains ts t → t.name ≡ Some n → Contains (names_of ts) n
named_in [] t n c e = absurd (in_none t c)
named_in (u ∷ ts) t n c e = by (in_cons u ts t c) (λ d. named_in ts t n d e)
  where
    by : (u ≡ t) ⊎ Contains ts t → (Contains ts t → Contains (names_of ts) n) → Contains (names_of (u ∷ ts)) n
    by (inl f) go = subst (λ o. Contains (one_name o ++ names_of ts) n) (sym (ap (λ (x : Template). x.name) f ∙ e)) (in_first n (names_of ts))
    by (inr d) go = Contains-append_right (one_name u.name) (names_of ts) n (go d)

module _ (ts : List Template) where
  -- a template of the first name calls the second
  abbrev CallsIt : ExpandedName → ExpandedName → Template → Type 0
  CallsIt a b t = (t.name ≡ Some a) × ((c : Call) × (Contains (calls_in_body t.body) c × (c.name ≡ b)))

  abbrev Calls : ExpandedName → ExpandedName → Type 0
  Calls a b = (t : Template) × (Contains ts t × CallsIt a b t)

  calls_it_here : (a b : ExpandedName) (t : Template) → Decided (CallsIt a b t)
  calls_it_here a b t = both (named_here t.name a) (exists_here (λ (c : Call). c.name ≡ b) (λ c. same_name_here c.name b) (calls_in_body t.body))

  calls_here : (a b : ExpandedName) → Decided (Calls a b)
  calls_here a b = exists_here (CallsIt a b) (calls_it_here a b) ts

  reaches : (ns : List ExpandedName) (a b : ExpandedName) → Way Calls calls_here ns a b → Reaches ts a b
  reaches [] a b (t, (h, (e, (c, (k, f))))) = subst (Reaches ts a) f (calls h e k)
  reaches (n ∷ ns) a b (inl w) = reaches ns a b w
  reaches (n ∷ ns) a b (inr (v, w)) = calls_by (reaches ns a n v) (reaches ns n b w)

  begins_named : {a b : ExpandedName} → Reaches ts a b → Contains (names_of ts) a
  begins_named (calls {t = t} {n = n} h e k) = named_in ts t n h e
  begins_named (calls_by r s) = begins_named r

  way_of : {a b : ExpandedName} → Reaches ts a b → Way Calls calls_here (names_of ts) a b
  way_of (calls {t = t} {n = n} {c = c} h e k) = one_step Calls calls_here (names_of ts) n c.name (t, (h, (e, (c, (k, refl)))))
  way_of (calls_by {n = n} {m = m} {k = k} r s) = joined Calls calls_here (names_of ts) n m k (begins_named s) (way_of r) (way_of s)

  reaches_here : (a b : ExpandedName) → Decided (Reaches ts a b)
  reaches_here a b = elim (way_here Calls calls_here (names_of ts) a b) [ inl w ↦ inl (reaches (names_of ts) a b w) | inr h ↦ inr (λ r. h (way_of r)) ]

  pub loop_here : (c : StandingCall) → Decided (IsLoop ts c)
  loop_here c = by c.template.name refl
    where
      of_name : (n : ExpandedName) → c.template.name ≡ Some n → Decided ((c.call.name ≡ n) ⊎ Reaches ts c.call.name n) → Decided (IsLoop ts c)
      of_name n e (inl x) = inl (n, e, x)
      of_name n e (inr h) = inr (λ z. h (subst (λ m. (c.call.name ≡ m) ⊎ Reaches ts c.call.name m) (some_same (sym z.1 ∙ e)) z.2))

      by : (o : Option ExpandedName) → c.template.name ≡ o → Decided (IsLoop ts c)
      by None e = inr (λ z. none_some e z.1)
      by (Some n) e = of_name n e (either (same_name_here c.call.name n) (reaches_here c.call.name n))
