-- What attributes of a stylesheet's elements mean, if they mean something: names, priorities, and those that may be left out.
use Rattle.std.proofs.Common.{◌≡◌, ◌≢◌, ◌⊎◌, inl, inr, ℕ, ◌+◌, ◌*◌, ◌-◌, ◌^◌, ◌<◌, ◌≤◌, Bool, true, false, List, [], ◌∷◌, refl, ap, ◌∙◌, sym, subst, length, arith, Option, None, Some, IsTrue, bytes_eq, All}
use Rattle.std.specs.Prelude.{ℤ, pos, neg_ℤ, codes, not, ◌||◌}
use Rattle.std.specs.List.{list_any}
use Rattle.std.specs.Str.Parse.{digits_value}
use Rattle.std.proofs.lemmas.Bool.{true≢false, cases_lt}
use Rattle.std.proofs.lemmas.List.Elements.{All-nil, All-cons, All-head, All-tail}
use Rattle.std.proofs.lemmas.Slice.Eq.{bytes_eq-Decides}
use Rattle.tc_model.specs.Names.{ExpandedName}
use Rattle.tc_model.specs.RawTrees.{Attribute, Bound, RawTrees, none, text, element}
use Rattle.tc_model.specs.Trees.{is_white_space_only}
use Rattle.tc_model.specs.XmlTextBytes.{after_white}
use Rattle.tc_model.specs.XmlTextNames.{QualifiedName, QNameAt}
use Rattle.tc_model.specs.XmlTextScopes.{uri_of, is_empty, ElementName, bound, unbound}
use Rattle.tc_model.specs.PathTextTokens.{after_digits}
use Rattle.tc_model.specs.PathTextPhrases.{NameMeans}
use Rattle.tc_model.specs.PathTextPriority.{digits_before, FractionAt, no_point, a_point, Unsigned, PriorityText, positive, negative}
use Rattle.tc_model.specs.SheetTextPhrases as p
use Rattle.tc_model.specs.SheetTextPhrases.{xsl_uri, IsXsl, HasOnly, AreLiteral, IsBlank, AreCharacters, no_characters, characters, NameText, ElementNameText, Optional, left_out, given, Required, is_given}
use Rattle.tc_model.proofs.XmlTextPhrases.{same_others, qname_unique}
use Rattle.tc_sheet.proofs.DecidingBytes.{Decided, SomeOrNone, none_some, some_same, no_some, bytes_are, is_true, begins}
use Rattle.tc_sheet.proofs.DecidingNames.{qname_here}
use Rattle.tc_sheet.proofs.DecidingNodeTests.{means_here}

-- of decisions
pub both : {P Q : Type 0} → Decided P → Decided Q → Decided (P × Q)
both (inl x) (inl y) = inl (x, y)
both (inl x) (inr h) = inr (λ z. h z.1)
both (inr h) k = inr (λ z. h z.0)

pub either : {P Q : Type 0} → Decided P → Decided Q → Decided (P ⊎ Q)
either (inl x) k = inl (inl x)
either (inr h) (inl y) = inl (inr y)
either (inr h) (inr k) = inr (λ z. elim z [ inl x ↦ h x | inr y ↦ k y ])

pub is_not : {P : Type 0} → Decided P → Decided (P → ⊥)
is_not (inl x) = inr (λ h. h x)
is_not (inr h) = inl h

pub some_of : {X : Type 0} {P : X → Type 0} → SomeOrNone P → Decided ((x : X) × P x)
some_of (inl a) = inl a
some_of (inr h) = inr (λ z. h z.0 z.1)

pub all_here : {X : Type 0} (P : X → Bool) (xs : List X) → Decided (All (λ x. IsTrue (P x)) xs)
all_here P [] = inl (All-nil (λ x. IsTrue (P x)))
all_here P (x ∷ xs) = by (is_true (P x)) (all_here P xs)
  where
    by : Decided (IsTrue (P x)) → Decided (All (λ x. IsTrue (P x)) xs) → Decided (All (λ x. IsTrue (P x)) (x ∷ xs))
    by (inl e) (inl a) = inl (All-cons (λ x. IsTrue (P x)) x xs e a)
    by (inl e) (inr h) = inr (λ a. h (All-tail (λ x. IsTrue (P x)) x xs a))
    by (inr h) k = inr (λ a. h (All-head (λ x. IsTrue (P x)) x xs a))

pub only_here : (locals : List (List ℕ)) (attributes : List Attribute) → Decided (HasOnly locals attributes)
only_here locals attributes = all_here (λ a. not (is_empty a.name.uri) || list_any (bytes_eq a.name.local) locals) attributes

pub literal_here : (attributes : List Attribute) → Decided (AreLiteral attributes)
literal_here attributes = all_here (λ a. not (bytes_eq a.name.uri xsl_uri) || bytes_eq a.name.local (codes "exclude-result-prefixes")) attributes

pub value_is : (o : Option (List ℕ)) (s : List ℕ) → Decided (o ≡ Some s)
value_is None s = inr no_some
value_is (Some t) s = elim (bytes_are t s) [ inl e ↦ inl (ap Some e) | inr h ↦ inr (λ e. h (some_same e)) ]

pub name_is : (n : ExpandedName) (uri local : List ℕ) → Decided (n ≡ record { uri = uri; local = local })
name_is n uri local = by (bytes_are n.uri uri) (bytes_are n.local local)
  where
    by : Decided (n.uri ≡ uri) → Decided (n.local ≡ local) → Decided (n ≡ record { uri = uri; local = local })
    by (inl e) (inl f) = inl (λ i. record { uri = e i; local = f i })
    by (inl e) (inr h) = inr (λ g. h (ap (λ (m : ExpandedName). m.local) g))
    by (inr h) k = inr (λ g. h (ap (λ (m : ExpandedName). m.uri) g))

pub xsl_is : (local : List ℕ) (n : ExpandedName) → Decided (IsXsl local n)
xsl_is local n = name_is n xsl_uri local

-- attributes that may be left out, and that are required
no_given : {X : Type 0} (M : List ℕ → X → Type 0) (s : List ℕ) → ((x : X) → M s x → ⊥) → (o : Option X) → Optional M (Some s) o → ⊥
no_given M s h o (given {x = x} m) = h x m

pub optional_here : {X : Type 0} (M : List ℕ → X → Type 0) → ((s : List ℕ) → SomeOrNone (M s)) → (o : Option (List ℕ)) → SomeOrNone (Optional M o)
optional_here M d None = inl (None, left_out)
optional_here M d (Some s) = elim (d s) [ inl (x, m) ↦ inl (Some x, given m) | inr h ↦ inr (no_given M s h) ]

no_value : {X : Type 0} (M : List ℕ → X → Type 0) (s : List ℕ) → ((x : X) → M s x → ⊥) → (x : X) → Required M (Some s) x → ⊥
no_value M s h x (is_given m) = h x m

pub required_here : {X : Type 0} (M : List ℕ → X → Type 0) → ((s : List ℕ) → SomeOrNone (M s)) → (o : Option (List ℕ)) → SomeOrNone (Required M o)
required_here M d None = inr (λ x a. elim a [ ])
required_here M d (Some s) = elim (d s) [ inl (x, m) ↦ inl (x, is_given m) | inr h ↦ inr (no_value M s h) ]

-- names
more_bytes : {b : ℕ} {bs : List ℕ} → b ∷ bs ≡ [] → ⊥
more_bytes e = omega (arith, ap length e)

pub name_text_here : (scope : List Bound) (s : List ℕ) → SomeOrNone (NameText scope s)
name_text_here scope s = elim (qname_here s) [ inl (q, (r, a)) ↦ behind q r a | inr h ↦ inr (λ n a. h (a.name, ([], a.is_name))) ]
  where
    behind : (q : QualifiedName) (r : List ℕ) → QNameAt s q r → SomeOrNone (NameText scope s)
    behind q (b ∷ bs) a = inr (λ n c. more_bytes (qname_unique a c.is_name).1)
    behind q [] a = elim (means_here scope q) [
      | inl (n, m) ↦ inl (n, record { name = q; is_name = a; means = m })
      | inr h ↦ inr (λ n c. h n (subst (λ z. NameMeans scope z n) (qname_unique c.is_name a).0 c.means))
    ]

no_element_name : (scope : List Bound) (q : QualifiedName) (n : ExpandedName) → uri_of scope q.prefix ≡ None → is_empty q.prefix ≡ false → ElementName scope q n → ⊥
no_element_name scope q n e f (bound g) = none_some e g
no_element_name scope q n e f (unbound g h) = true≢false (sym g ∙ f)

element_name_here : (scope : List Bound) (q : QualifiedName) → SomeOrNone (ElementName scope q)
element_name_here scope q = by (uri_of scope q.prefix) refl (is_empty q.prefix) refl
  where
    by : (o : Option (List ℕ)) → uri_of scope q.prefix ≡ o → (b : Bool) → is_empty q.prefix ≡ b → SomeOrNone (ElementName scope q)
    by (Some u) e b f = inl (record { uri = u; local = q.local }, bound e)
    by None e true f = inl (record { uri = []; local = q.local }, unbound f (subst (λ z. uri_of scope z ≡ None) ((bytes_eq-Decides q.prefix []).0 f) e))
    by None e false f = inr (λ n a. no_element_name scope q n e f a)

pub element_name_text_here : (scope : List Bound) (s : List ℕ) → SomeOrNone (ElementNameText scope s)
element_name_text_here scope s = elim (qname_here s) [ inl (q, (r, a)) ↦ behind q r a | inr h ↦ inr (λ n a. h (a.name, ([], a.is_name))) ]
  where
    behind : (q : QualifiedName) (r : List ℕ) → QNameAt s q r → SomeOrNone (ElementNameText scope s)
    behind q (b ∷ bs) a = inr (λ n c. more_bytes (qname_unique a c.is_name).1)
    behind q [] a = elim (element_name_here scope q) [
      | inl (n, m) ↦ inl (n, record { name = q; is_name = a; means = m })
      | inr h ↦ inr (λ n c. h n (subst (λ z. ElementName scope z n) (qname_unique c.is_name a).0 c.means))
    ]

-- priorities
fraction_here : (bs : List ℕ) → (f : List ℕ) × ((e : List ℕ) × FractionAt bs f e)
fraction_here bs = elim (begins 0x2E bs) [
  | inl (r, e) ↦ (digits_before r, (after_digits r, subst (λ z. FractionAt z (digits_before r) (after_digits r)) (sym e) a_point))
  | inr h ↦ ([], (bs, no_point h))
]

fraction_unique : {bs f e g i : List ℕ} → FractionAt bs f e → FractionAt bs g i → (f ≡ g) × (e ≡ i)
fraction_unique (no_point h) (no_point k) = (refl, refl)
fraction_unique (no_point h) (a_point {r = r}) = absurd (h r refl)
fraction_unique (a_point {r = r}) (no_point h) = absurd (h r refl)
fraction_unique a_point a_point = (refl, refl)

less_is : (m n : ℕ) → Decided (m < n)
less_is m n = elim (cases_lt m n) [ inl l ↦ inl l | inr l ↦ inr (λ k. omega (arith, k, l)) ]

at_most : (m n : ℕ) → Decided (m ≤ n)
at_most m n = elim (cases_lt n m) [ inl l ↦ inr (λ k. omega (arith, k, l)) | inr l ↦ inl l ]

abbrev Suits : List ℕ → List ℕ → List ℕ → Type 0
Suits bs f e = (after_white e ≡ []) × ((0 < length (digits_before bs) + length f) × ((length (digits_before bs) ≤ 6) × (length f ≤ 4)))

unsigned_here : (bs : List ℕ) → SomeOrNone (Unsigned bs)
unsigned_here bs = by (fraction_here (after_digits bs))
  where
    moved : (f e : List ℕ) → FractionAt (after_digits bs) f e → (v : ℕ) → Unsigned bs v → Suits bs f e
    moved f e a v u =
        let same = fraction_unique u.fraction_at a in
        (subst (λ z. after_white z ≡ []) same.1 u.ends, (subst (λ z. 0 < length (digits_before bs) + length z) same.0 u.some, (u.whole_digits, subst (λ z. length z ≤ 4) same.0 u.fraction_digits)))

    suits : (f e : List ℕ) → FractionAt (after_digits bs) f e → Decided (Suits bs f e) → SomeOrNone (Unsigned bs)
    suits f e a (inr h) = inr (λ v u. h (moved f e a v u))
    suits f e a (inl (i, (j, (k, l)))) = inl (
      digits_value 10 (digits_before bs) * 10000 + digits_value 10 f * 10 ^ (4 - length f),
      record { fraction = f; end = e; fraction_at = a; ends = i; some = j; whole_digits = k; fraction_digits = l; is_value = refl },
    )

    by : (f : List ℕ) × ((e : List ℕ) × FractionAt (after_digits bs) f e) → SomeOrNone (Unsigned bs)
    by (f, (e, a)) =
        suits f e a
        (both (bytes_are (after_white e) []) (both (less_is 0 (length (digits_before bs) + length f)) (both (at_most (length (digits_before bs)) 6) (at_most (length f) 4))))

no_negative : (s r : List ℕ) → after_white s ≡ 0x2D ∷ r → ((v : ℕ) → Unsigned (after_white r) v → ⊥) → (x : ℤ) → PriorityText s x → ⊥
no_negative s r e h x (positive k u) = k r e
no_negative s r e h x (negative {value = v} f u) = h v (subst (λ z. Unsigned (after_white z) v) (same_others (sym f ∙ e)) u)

no_positive : (s : List ℕ) → ((r : List ℕ) → after_white s ≡ 0x2D ∷ r → ⊥) → ((v : ℕ) → Unsigned (after_white s) v → ⊥) → (x : ℤ) → PriorityText s x → ⊥
no_positive s k h x (positive {value = v} i u) = h v u
no_positive s k h x (negative {rest = r} e u) = k r e

pub priority_here : (s : List ℕ) → SomeOrNone (PriorityText s)
priority_here s = elim (begins 0x2D (after_white s)) [
  | inl (r, e) ↦ elim (unsigned_here (after_white r)) [ inl (v, u) ↦ inl (neg_ℤ (pos v), negative e u) | inr h ↦ inr (no_negative s r e h) ]
  | inr k ↦ elim (unsigned_here (after_white s)) [ inl (v, u) ↦ inl (pos v, positive k u) | inr h ↦ inr (no_positive s k h) ]
]

-- texts alone
no_white : (s : List ℕ) (q : ℕ) (rest : RawTrees) → (IsTrue (is_white_space_only s) → ⊥) ⊎ (IsBlank rest → ⊥) → IsBlank (text s q rest) → ⊥
no_white s q rest (inl h) (p.past_white w a) = h w
no_white s q rest (inr h) (p.past_white w a) = h a

pub blank_here : (h : RawTrees) → Decided (IsBlank h)
blank_here none = inl p.at_end
blank_here (text s q rest) = by (is_true (is_white_space_only s)) (blank_here rest)
  where
    by : Decided (IsTrue (is_white_space_only s)) → Decided (IsBlank rest) → Decided (IsBlank (text s q rest))
    by (inl w) (inl a) = inl (p.past_white w a)
    by (inl w) (inr h) = inr (no_white s q rest (inr h))
    by (inr h) k = inr (no_white s q rest (inl h))
blank_here (element n olds scope q kids rest) = inr (λ a. elim a [ ])

no_character : (s : List ℕ) (q : ℕ) (rest : RawTrees) → ((t : List ℕ) → AreCharacters rest t → ⊥) → (t : List ℕ) → AreCharacters (text s q rest) t → ⊥
no_character s q rest h t (characters {t = u} a) = h u a

pub characters_here : (h : RawTrees) → SomeOrNone (AreCharacters h)
characters_here none = inl ([], no_characters)
characters_here (text s q rest) = elim (characters_here rest) [ inl (t, a) ↦ inl (_, characters a) | inr h ↦ inr (no_character s q rest h) ]
characters_here (element n olds scope q kids rest) = inr (λ t a. elim a [ ])
