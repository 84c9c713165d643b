-- Attributes and start tags at the front of any bytes: each is read, or refused, or neither.
use Rattle.std.proofs.Common.{◌≡◌, ◌⊎◌, inl, inr, ℕ, ◌<◌, ◌≤◌, ◌||◌, not, Bool, true, false, List, [], ◌∷◌, refl, ap, ◌∙◌, sym, subst, length, map, arith, Option, None, Some, IsTrue, IsFalse, bytes_eq, length-drop, codes}
use Rattle.std.specs.List.{prefix_len, IsDistinct, AllByRecursion, list_all}
use Rattle.std.proofs.lemmas.Bool.{true≢false, false≢true, and_parts, and_from}
use Rattle.std.proofs.lemmas.Slice.Eq.{bytes_eq-Decides}
use Rattle.tc_base.specs.Characters.{is_white}
use Rattle.tc_base.specs.declared.reasons.Why.{Why}
use Rattle.tc_base.specs.declared.reasons.Why.TheVariants.{EntityReference, XmlSpace}
use Rattle.tc_model.specs.Names.{ExpandedName, same_name, xmlns_uri}
use Rattle.tc_model.specs.RawTrees.{Attribute, Bound}
use Rattle.tc_model.specs.XmlTextBytes.{place_of, BeginsWithWhite, after_white, EqualsAt}
use Rattle.tc_model.specs.XmlTextNames.{QualifiedName, same_written, QNameAt}
use Rattle.tc_model.specs.XmlTextReferences.{QuotedAt}
use Rattle.tc_model.specs.XmlTextContent.{EndsTag, AttributesAt, no_more, attribute, TagAt}
use Rattle.tc_model.specs.XmlTextRefusals.{QuotedRefuses, xml_space, AttributesRefuse, space, value, past_attribute, TagRefuses}
use Rattle.tc_model.specs.XmlTextScopes as s
use Rattle.tc_model.specs.XmlTextScopes.{WrittenAttribute, is_empty, uri_of, is_declaration, binding_of, IsLawfulBinding, scope_within, Expands, ElementName, is_xml_space, TagMeans, xml_uri}
use Rattle.tc_model.proofs.XmlTextPhrases.{qname_unique, quoted_unique, equals_unique, same_others}
use Rattle.tc_model.proofs.XmlTextUnique.{attributes_unique, expands_unique, empty_is}
use Rattle.tc_model.proofs.XmlTextRefused.{not_space, quoted_no_quoted, attributes_no_list}
use Rattle.tc_sheet.proofs.DecidingBytes.{Decided, is_true, is_false, begins}
use Rattle.tc_sheet.proofs.DecidingNames.{by_length, qname_here}
use Rattle.tc_read.proofs.DecidingSettings.{some_white, equals_here}
use Rattle.tc_read.proofs.DecidingTags.{Known, QuotedHere, QuotedStops, quoted_here, quoted_shorter, qname_left}

ends_tag : (bs : List ℕ) → Decided (EndsTag bs)
ends_tag bs = elim (begins 0x3E bs) [
  | inl e ↦ inl (inl e)
  | inr h ↦ elim (begins 0x2F bs) [ inl e ↦ inl (inr e) | inr k ↦ inr (λ x. elim x [ inl (r, e) ↦ h r e | inr (r, e) ↦ k r e ]) ]
]

pub white_left : (bs : List ℕ) → length (after_white bs) ≤ length bs
white_left bs = omega (arith, length-drop (prefix_len is_white bs) bs)

pub equals_left : {bs after : List ℕ} → EqualsAt bs after → length after ≤ length bs
equals_left {bs} a = let l = white_left bs in let k = white_left a.rest in omega (arith, l, k, ap length a.sign, ap length a.past)

-- the name xml:space, or another
space_name : (n : QualifiedName) → same_written n xml_space ≡ true → n ≡ xml_space
space_name n h =
    let (p, l) = and_parts (bytes_eq n.prefix xml_space.prefix) (bytes_eq n.local xml_space.local) h in
    let e = (bytes_eq-Decides n.prefix xml_space.prefix).0 p in
    let g = (bytes_eq-Decides n.local xml_space.local).0 l in
    λ i. record { prefix = e i; local = g i }

-- xml:space isn't among them
abbrev pub AreSpaceless : List WrittenAttribute → Type 0
AreSpaceless written = IsTrue (list_all (λ a. not (is_xml_space a)) written)

abbrev pub AttributesHere : ℕ → List ℕ → Type 0
AttributesHere total bs = (written : List WrittenAttribute) × ((after : List ℕ) × (AttributesAt false total bs written after × AreSpaceless written))

abbrev pub AttributesStop : List ℕ → Type 0
AttributesStop bs = (why : Why) × ((at : List ℕ) × AttributesRefuse bs why at)

module _ (total : ℕ) (bs : List ℕ) (nt : EndsTag (after_white bs) → ⊥) where
  neither : ((BeginsWithWhite bs) → ((n : QualifiedName) (past : List ℕ) → QNameAt (after_white bs) n past → ⊥)) → Known (AttributesHere total bs) (AttributesStop bs)
  neither h = inr (inr ((λ x. none x.0 x.1.0 x.1.1.0), (λ x. no_stop x.0 x.1.0 x.1.1)))
    where
      none : (ws : List WrittenAttribute) (after : List ℕ) → AttributesAt false total bs ws after → ⊥
      none ws after (no_more e) = nt e
      none ws after (attribute {past_name = p} {name = n} w m e q l) = h w n p m

      no_stop : (why : Why) (at : List ℕ) → AttributesRefuse bs why at → ⊥
      no_stop why at (space {past_name = p} w m) = h w xml_space p m
      no_stop why at (value {past_name = p} {name = n} w m k e q) = h w n p m
      no_stop why at (past_attribute {past_name = p} {name = n} w m k e q l) = h w n p m

  module _ (w : BeginsWithWhite bs) (name : QualifiedName) (past : List ℕ) (n : QNameAt (after_white bs) name past) (other : IsFalse (same_written name xml_space)) where
    not_it : {p : List ℕ} → QNameAt (after_white bs) xml_space p → ⊥
    not_it m = not_space (qname_unique m n).0 other

    no_equals : ((start : List ℕ) → EqualsAt past start → ⊥) → Known (AttributesHere total bs) (AttributesStop bs)
    no_equals h = inr (inr ((λ x. none x.0 x.1.0 x.1.1.0), (λ x. no_stop x.0 x.1.0 x.1.1)))
      where
        none : (ws : List WrittenAttribute) (after : List ℕ) → AttributesAt false total bs ws after → ⊥
        none ws after (no_more e) = nt e
        none ws after (attribute {start = z} v m e q l) = h z (subst (λ y. EqualsAt y z) (qname_unique m n).1 e)

        no_stop : (why : Why) (at : List ℕ) → AttributesRefuse bs why at → ⊥
        no_stop why at (space v m) = not_it m
        no_stop why at (value {start = z} v m k e q) = h z (subst (λ y. EqualsAt y z) (qname_unique m n).1 e)
        no_stop why at (past_attribute {start = z} v m k e q l) = h z (subst (λ y. EqualsAt y z) (qname_unique m n).1 e)

    module _ (start : List ℕ) (eq : EqualsAt past start) where
      same_start : {m : QualifiedName} {p z : List ℕ} → QNameAt (after_white bs) m p → EqualsAt p z → z ≡ start
      same_start {z = z} m e = equals_unique (subst (λ y. EqualsAt y z) (qname_unique m n).1 e) eq

      no_quoted : (QuotedHere start → ⊥) → (QuotedStops start → ⊥) → Known (AttributesHere total bs) (AttributesStop bs)
      no_quoted h g = inr (inr ((λ x. none x.0 x.1.0 x.1.1.0), (λ x. no_stop x.0 x.1.0 x.1.1)))
        where
          none : (ws : List WrittenAttribute) (after : List ℕ) → AttributesAt false total bs ws after → ⊥
          none ws after (no_more e) = nt e
          none ws after (attribute {value = x} {rest = y} v m e q l) = h (x, (y, subst (λ z. QuotedAt false z x y) (same_start m e) q))

          no_stop : (why : Why) (at : List ℕ) → AttributesRefuse bs why at → ⊥
          no_stop why at (space v m) = not_it m
          no_stop why at (value {at = y} v m k e q) = g (y, subst (λ z. QuotedRefuses z y) (same_start m e) q)
          no_stop why at (past_attribute {v = x} {rest = y} u m k e q l) = h (x, (y, subst (λ z. QuotedAt false z x y) (same_start m e) q))

      module _ (val rest : List ℕ) (quoted : QuotedAt false start val rest) where
        same_rest : {m : QualifiedName} {p z x y : List ℕ} → QNameAt (after_white bs) m p → EqualsAt p z → QuotedAt false z x y → y ≡ rest
        same_rest {x = x} {y = y} m e q = (quoted_unique (subst (λ z. QuotedAt false z x y) (same_start m e) q) quoted).1

        later : Known (AttributesHere total rest) (AttributesStop rest) → Known (AttributesHere total bs) (AttributesStop bs)
        later (inl (ws, (after, (l, free)))) =
            inl (record { name = name; value = val; place = place_of total (after_white bs) } ∷ ws, (after, (attribute w n eq quoted l, and_from (not (same_written name xml_space)) (list_all (λ a. not (is_xml_space a)) ws) (ap not other) free)))
        later (inr (inl (why, (at, l)))) = inr (inl (why, (at, past_attribute w n other eq quoted l)))
        later (inr (inr h)) = inr (inr ((λ x. none x.0 x.1.0 x.1.1.0 x.1.1.1), (λ x. no_stop x.0 x.1.0 x.1.1)))
          where
            none : (ws : List WrittenAttribute) (after : List ℕ) → AttributesAt false total bs ws after → AreSpaceless ws → ⊥
            none ws after (no_more e) free = nt e
            none ws after (attribute {value = x} {name = named} {attributes = us} v m e q l) free =
                h.0 (us, (after, (subst (λ z. AttributesAt false total z us after) (same_rest m e q) l, (and_parts (not (same_written named xml_space)) (list_all (λ a. not (is_xml_space a)) us) free).1)))

            no_stop : (why : Why) (at : List ℕ) → AttributesRefuse bs why at → ⊥
            no_stop why at (space v m) = not_it m
            no_stop why at (value {at = y} v m k e q) = quoted_no_quoted (subst (λ z. QuotedRefuses z y) (same_start m e) q) quoted
            no_stop why at (past_attribute v m k e q l) = h.1 (why, (at, subst (λ z. AttributesRefuse z why at) (same_rest m e q) l))

      of_quoted : ((cs : List ℕ) → length cs < length bs → Known (AttributesHere total cs) (AttributesStop cs)) → Known (QuotedHere start) (QuotedStops start) → Known (AttributesHere total bs) (AttributesStop bs)
      of_quoted ih (inl (v, (rest, q))) =
          let a = quoted_shorter q in let b = equals_left eq in let d = qname_left n in let e = white_left bs in
          later v rest q (ih rest (omega (arith, a, b, d, e)))
      of_quoted ih (inr (inl (at, q))) = inr (inl (EntityReference, (at, value w n other eq q)))
      of_quoted ih (inr (inr h)) = no_quoted h.0 h.1

pub attributes_here : (total : ℕ) (bs : List ℕ) → Known (AttributesHere total bs) (AttributesStop bs)
attributes_here total = by_length (λ bs. Known (AttributesHere total bs) (AttributesStop bs)) step
  where
    of_name : (bs : List ℕ) (nt : EndsTag (after_white bs) → ⊥) (w : BeginsWithWhite bs) (name : QualifiedName) (past : List ℕ) → QNameAt (after_white bs) name past
        → ((cs : List ℕ) → length cs < length bs → Known (AttributesHere total cs) (AttributesStop cs)) → (b : Bool) → same_written name xml_space ≡ b → Known (AttributesHere total bs) (AttributesStop bs)
    of_name bs nt w name past n ih true k = inr (inl (XmlSpace, (after_white bs, space w (subst (λ m. QNameAt (after_white bs) m past) (space_name name k) n))))
    of_name bs nt w name past n ih false k = elim (equals_here past) [
      | inr h ↦ no_equals total bs nt w name past n k h
      | inl (start, e) ↦ of_quoted total bs nt w name past n k start e ih (quoted_here start)
    ]

    step : (bs : List ℕ) → ((cs : List ℕ) → length cs < length bs → Known (AttributesHere total cs) (AttributesStop cs)) → Known (AttributesHere total bs) (AttributesStop bs)
    step bs ih = elim (ends_tag (after_white bs)) [
      | inl e ↦ inl ([], (after_white bs, (no_more e, refl)))
      | inr nt ↦ elim (some_white bs) [
        | inr h ↦ neither total bs nt (λ w n p m. h w)
        | inl w ↦ elim (qname_here (after_white bs)) [
          | inr h ↦ neither total bs nt (λ v n p m. h (n, (p, m)))
          | inl (name, (past, n)) ↦ of_name bs nt w name past n ih (same_written name xml_space) refl
        ]
      ]
    ]

-- what a tag means
all_here : {X : Type 0} (p : X → Bool) (xs : List X) → Decided (AllByRecursion (λ x. p x ≡ false) xs)
all_here p [] = inl tt
all_here {X} p (x ∷ xs) = by (is_false (p x)) (all_here p xs)
  where
    by : Decided (p x ≡ false) → Decided (AllByRecursion (λ x. p x ≡ false) xs) → Decided (AllByRecursion (λ x. p x ≡ false) (x ∷ xs))
    by (inl e) (inl a) = inl (e, a)
    by (inl e) (inr h) = inr (λ a. h a.1)
    by (inr h) k = inr (λ a. h a.0)

distinct_here : {X : Type 0} (same : X → X → Bool) (xs : List X) → Decided (IsDistinct same xs)
unfolding IsDistinct
distinct_here same [] = inl tt
distinct_here {X} same (x ∷ xs) = both (all_here (same x) xs) (distinct_here same xs)
  where
    both : {P Q : Type 0} → Decided P → Decided Q → Decided (P × Q)
    both (inl p) (inl q) = inl (p, q)
    both (inl p) (inr h) = inr (λ z. h z.1)
    both (inr h) q = inr (λ z. h z.0)

no_some : {X : Type 0} {o : Option X} {x : X} → o ≡ None → o ≡ Some x → ⊥
no_some e g = cc

element_name_here : (scope : List Bound) (n : QualifiedName) → ((m : ExpandedName) × ElementName scope n m) ⊎ ((m : ExpandedName) → ElementName scope n m → ⊥)
element_name_here scope n = by (uri_of scope n.prefix) refl
  where
    none : uri_of scope n.prefix ≡ None → (IsTrue (is_empty n.prefix) → ⊥) → (m : ExpandedName) → ElementName scope n m → ⊥
    none e h m (s.bound g) = no_some e g
    none e h m (s.unbound i g) = h i

    by : (o : Option (List ℕ)) → uri_of scope n.prefix ≡ o → ((m : ExpandedName) × ElementName scope n m) ⊎ ((m : ExpandedName) → ElementName scope n m → ⊥)
    by (Some uri) e = inl (record { uri = uri; local = n.local }, s.bound e)
    by None e = elim (is_true (is_empty n.prefix)) [
      | inl i ↦ inl (record { uri = []; local = n.local }, s.unbound i (subst (λ p. uri_of scope p ≡ None) (empty_is n.prefix i) e))
      | inr h ↦ inr (none e h)
    ]

bool_same : (a b : Bool) → Decided (a ≡ b)
bool_same true true = inl refl
bool_same true false = inr true≢false
bool_same false true = inr false≢true
bool_same false false = inl refl

lawful_here : (b : Bound) → Decided (IsLawfulBinding b)
lawful_here b = elim (is_false (bytes_eq b.prefix (codes "xmlns"))) [
  | inr h ↦ inr (λ l. h l.not_xmlns)
  | inl e ↦ elim (is_false (bytes_eq b.uri xmlns_uri)) [
    | inr h ↦ inr (λ l. h l.not_to_xmlns)
    | inl g ↦ elim (bool_same (bytes_eq b.prefix (codes "xml")) (bytes_eq b.uri xml_uri)) [
      | inr h ↦ inr (λ l. h l.xml_to_its_own)
      | inl i ↦ elim (is_true (is_empty b.prefix || not (is_empty b.uri))) [
        | inr h ↦ inr (λ l. h l.not_undeclaring)
        | inl j ↦ inl (record { not_xmlns = e; not_to_xmlns = g; xml_to_its_own = i; not_undeclaring = j })
      ]
    ]
  ]
]

abbrev ExpandsHere : List Bound → List WrittenAttribute → Type 0
ExpandsHere scope ws = ((xs : List Attribute) × Expands scope ws xs) ⊎ ((xs : List Attribute) → Expands scope ws xs → ⊥)

expands_here : (scope : List Bound) (ws : List WrittenAttribute) → ExpandsHere scope ws
expands_here scope [] = inl ([], s.no_more)
expands_here scope (a ∷ ws) = by (is_declaration a) refl (is_empty a.name.prefix) refl (uri_of scope a.name.prefix) refl (expands_here scope ws)
  where
    of_rest : ((xs : List Attribute) → Expands scope ws xs → ⊥) → (xs : List Attribute) → Expands scope (a ∷ ws) xs → ⊥
    of_rest h xs (s.declaration {attributes = ys} d l e) = h ys e
    of_rest h xs (s.plain {attributes = ys} d i e) = h ys e
    of_rest h xs (s.prefixed {attributes = ys} d i u e) = h ys e

    unlawful : is_declaration a ≡ true → (IsLawfulBinding (binding_of a) → ⊥) → (xs : List Attribute) → Expands scope (a ∷ ws) xs → ⊥
    unlawful d h xs (s.declaration e l k) = h l
    unlawful d h xs (s.plain e i k) = true≢false (sym d ∙ e)
    unlawful d h xs (s.prefixed e i u k) = true≢false (sym d ∙ e)

    unbound : is_declaration a ≡ false → is_empty a.name.prefix ≡ false → uri_of scope a.name.prefix ≡ None → (xs : List Attribute) → Expands scope (a ∷ ws) xs → ⊥
    unbound d i u xs (s.declaration e l k) = true≢false (sym e ∙ d)
    unbound d i u xs (s.plain e j k) = true≢false (sym j ∙ i)
    unbound d i u xs (s.prefixed e j v k) = no_some u v

    by : (d : Bool) → is_declaration a ≡ d → (i : Bool) → is_empty a.name.prefix ≡ i → (o : Option (List ℕ)) → uri_of scope a.name.prefix ≡ o → ExpandsHere scope ws → ExpandsHere scope (a ∷ ws)
    by d de i ie o oe (inr h) = inr (of_rest h)
    by true d i ie o oe (inl (xs, e)) = elim (lawful_here (binding_of a)) [ inl l ↦ inl (xs, s.declaration d l e) | inr h ↦ inr (unlawful d h) ]
    by false d true i o oe (inl (xs, e)) = inl (record { name = record { uri = []; local = a.name.local }; value = a.value; place = a.place } ∷ xs, s.plain d i e)
    by false d false i (Some uri) u (inl (xs, e)) = inl (record { name = record { uri = uri; local = a.name.local }; value = a.value; place = a.place } ∷ xs, s.prefixed d i u e)
    by false d false i None u (inl (xs, e)) = inr (unbound d i u)

record Means (outer : List Bound) (written : QualifiedName) (ws : List WrittenAttribute) : Type 0 where
  scope : List Bound
  name : ExpandedName
  expanded : List Attribute
  means : TagMeans outer written ws scope name expanded

means_here : (outer : List Bound) (written : QualifiedName) (ws : List WrittenAttribute) → Means outer written ws ⊎ (Means outer written ws → ⊥)
means_here outer written ws = elim (distinct_here same_written (map (λ a. a.name) ws)) [
  | inr h ↦ inr (λ x. let m = x.means in h m.once)
  | inl once ↦ elim (is_true (list_all (λ a. not (is_xml_space a)) ws)) [
    | inr h ↦ inr (λ x. let m = x.means in h m.no_space)
    | inl spaceless ↦ elim (element_name_here (scope_within outer ws) written) [
      | inr h ↦ inr (λ x. let m = x.means in h x.name (subst (λ z. ElementName z written x.name) m.scopes m.names))
      | inl (name, n) ↦ elim (expands_here (scope_within outer ws) ws) [
        | inr h ↦ inr (λ x. let m = x.means in h x.expanded (subst (λ z. Expands z ws x.expanded) m.scopes m.expands))
        | inl (xs, e) ↦ elim (distinct_here same_name (map (λ a. a.name) xs)) [
          | inl d ↦ inl (record {
            scope = scope_within outer ws;
            name = name;
            expanded = xs;
            means = record { once = once; no_space = spaceless; scopes = refl; names = n; expands = e; expanded_once = d };
          })
          | inr h ↦ inr (λ x.
              let m = x.means in
              h (subst (λ ys. IsDistinct same_name (map (λ a. a.name) ys)) (expands_unique (subst (λ z. Expands z ws x.expanded) m.scopes m.expands) e) m.expanded_once))
        ]
      ]
    ]
  ]
]

-- a start tag
pub record TagRead (total : ℕ) (outer : List Bound) (bs : List ℕ) : Type 0 where
  pub written : QualifiedName
  pub scope : List Bound
  pub name : ExpandedName
  pub expanded : List Attribute
  pub after : List ℕ
  pub is : TagAt false total outer bs written scope name expanded after

abbrev pub TagStops : List ℕ → Type 0
TagStops bs = (why : Why) × ((at : List ℕ) × TagRefuses bs why at)

pub tag_here : (total : ℕ) (outer : List Bound) (bs : List ℕ) → Known (TagRead total outer bs) (TagStops bs)
tag_here total outer bs = elim (begins 0x3C bs) [
  | inr h ↦ inr (inr ((λ x. let a = x.is in h a.rest a.opens), (λ x. let a = x.1.1 in h a.rest a.opens)))
  | inl (rest, e) ↦ elim (qname_here rest) [
    | inr h ↦ inr (inr ((λ x. let a = x.is in h (x.written, (a.past_name, its_name rest e a.opens a.names))), (λ x. let a = x.1.1 in h (a.written, (a.past_name, its_name rest e a.opens a.names)))))
    | inl (n, (past, m)) ↦ by rest e n past m (attributes_here total past)
  ]
]
  where
    its_name : (rest : List ℕ) → bs ≡ 0x3C ∷ rest → {z p : List ℕ} {n : QualifiedName} → bs ≡ 0x3C ∷ z → QNameAt z n p → QNameAt rest n p
    its_name rest e {p = p} {n = n} g m = subst (λ y. QNameAt y n p) (same_others (sym g ∙ e)) m

    by : (rest : List ℕ) → bs ≡ 0x3C ∷ rest → (n : QualifiedName) (past : List ℕ) → QNameAt rest n past → Known (AttributesHere total past) (AttributesStop past) → Known (TagRead total outer bs) (TagStops bs)
    by rest e n past m (inr (inl (why, (at, l)))) = inr (inl (why, (at, record { rest = rest; written = n; past_name = past; opens = e; names = m; attributes = l })))
    by rest e n past m (inr (inr h)) = inr (inr ((λ x. let a = x.is in let k = a.means in h.0 (a.attributes, (x.after, (subst (λ y. AttributesAt false total y a.attributes x.after) (qname_unique (its_name rest e a.opens a.names) m).1 a.lists, k.no_space)))), (λ x. let a = x.1.1 in h.1 (x.0, (x.1.0, subst (λ y. AttributesRefuse y x.0 x.1.0) (qname_unique (its_name rest e a.opens a.names) m).1 a.attributes)))))
    by rest e n past m (inl (ws, (after, (l, free)))) = of_means (means_here outer n ws)
      where
        lists : (x : TagRead total outer bs) → AttributesAt false total past x.is.attributes x.after
        lists x = let a = x.is in subst (λ y. AttributesAt false total y a.attributes x.after) (qname_unique (its_name rest e a.opens a.names) m).1 a.lists

        its_means : (x : TagRead total outer bs) → Means outer n ws
        its_means x =
            let a = x.is in
            record {
              scope = x.scope;
              name = x.name;
              expanded = x.expanded;
              means = subst (λ w. TagMeans outer w ws x.scope x.name x.expanded) (qname_unique (its_name rest e a.opens a.names) m).0 (subst (λ w. TagMeans outer x.written w x.scope x.name x.expanded) (attributes_unique (lists x) l).0 a.means);
            }

        no_stop : (why : Why) (at : List ℕ) → TagRefuses bs why at → ⊥
        no_stop why at a = attributes_no_list (subst (λ y. AttributesRefuse y why at) (qname_unique (its_name rest e a.opens a.names) m).1 a.attributes) l free

        of_means : Means outer n ws ⊎ (Means outer n ws → ⊥) → Known (TagRead total outer bs) (TagStops bs)
        of_means (inl k) =
            inl (record {
              written = n;
              scope = k.scope;
              name = k.name;
              expanded = k.expanded;
              after = after;
              is = record { rest = rest; past_name = past; attributes = ws; opens = e; names = m; lists = l; means = k.means };
            })
        of_means (inr h) = inr (inr ((λ x. h (its_means x)), (λ x. no_stop x.0 x.1.0 x.1.1)))
