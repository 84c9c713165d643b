-- What is found among attributes.
use Rattle.std.proofs.Common.{◌≡◌, ◌≢◌, ℕ, ◌+◌, ◌<◌, ◌≤◌, Bool, true, false, not, ◌&&◌, ◌||◌, List, [], ◌∷◌, refl, ap, ◌∙◌, sym, subst, Option, None, Some, IsTrue, bytes_eq, All, Contains, if◌then◌else◌, length, get_or, drop, map}
use Rattle.std.specs.Prelude.{codes}
use Rattle.std.specs.List.{list_any}
use Rattle.std.proofs.lemmas.Bool.{true≢false, false≢true}
use Rattle.std.proofs.lemmas.List.{drop_all, drop_more, length-map, get_or-map, get_or_default}
use Rattle.std.proofs.lemmas.List.Elements.{All-cons, All-contains, All-nil, Contains-get_or}
use Rattle.std.proofs.lemmas.Slice.Eq.{bytes_eq-Decides}
use Rattle.tc_model.specs.Names.{ExpandedName}
use Rattle.tc_model.specs.RawTrees.{Attribute}
use Rattle.tc_model.specs.Views.{attribute}
use Rattle.tc_model.specs.XmlTextScopes.{is_empty}
use Rattle.tc_model.specs.SheetTextPhrases.{xsl_uri, IsXsl, value_of, HasOnly, AreLiteral}
use Rattle.tc_model.specs.declared.tree.RawAttr.{RawAttr}
use Rattle.tc_model.specs.declared.tree.RawElem.{RawElem}
use Rattle.tc_sheet.specs.Constructs.{plain}
use Rattle.tc_sheet.specs.Changes.{Change}
use Rattle.tc_sheet.specs.Readings.{attributes_of, HasNoAttributes}
use Rattle.tc_sheet.proofs.Changes.{kept_only, kept_literal, Becomes, value_becomes}

abbrev pub has_plain_name : List ℕ → Attribute → Bool
has_plain_name local a = is_empty a.name.uri && bytes_eq a.name.local local

pub both_of : (a b : Bool) → (a && b) ≡ true → (a ≡ true) × (b ≡ true)
both_of true true e = (refl, refl)
both_of true false e = absurd (false≢true e)
both_of false b e = absurd (false≢true e)

pub neither_of : (a b : Bool) → (not a || b) ≡ false → (a ≡ true) × (b ≡ false)
neither_of true true e = absurd (true≢false e)
neither_of true false e = (refl, refl)
neither_of false b e = absurd (true≢false e)

name_parts : (n : ExpandedName) (uri local : List ℕ) → n.uri ≡ uri → n.local ≡ local → n ≡ record { uri = uri; local = local }
name_parts n uri local e f = λ i. record { uri = e i; local = f i }

pub plain_name : (n : ExpandedName) (local : List ℕ) → is_empty n.uri ≡ true → bytes_eq n.local local ≡ true → n ≡ plain local
plain_name n local e f = name_parts n [] local ((bytes_eq-Decides n.uri []).0 e) ((bytes_eq-Decides n.local local).0 f)

pub plain_name_is : (n : ExpandedName) (local : List ℕ) → is_empty n.uri ≡ true → n.local ≡ local → n ≡ plain local
plain_name_is n local e f = name_parts n [] local ((bytes_eq-Decides n.uri []).0 e) f

pub xsl_name : (n : ExpandedName) (local : List ℕ) → n.uri ≡ xsl_uri → n.local ≡ local → IsXsl local n
xsl_name n local e f = name_parts n xsl_uri local e f

-- one step of a loop over attributes
module _ (es : List RawAttr) (k : ℕ) (x : RawAttr) (lt : k < length es) (at : x ≡ get_or es k x) where
  pub has_at : Contains (map attribute es) (attribute x)
  has_at =
      subst (λ (y : RawAttr). Contains (map attribute es) (attribute y)) (sym at)
      (subst (Contains (map attribute es)) (get_or-map attribute es k x (attribute x) lt)
      (Contains-get_or (map attribute es) k (attribute x) (subst (λ n. k < n) (sym (length-map es attribute)) lt)))

  pub first_at : map attribute (drop k es) ≡ attribute x ∷ map attribute (drop (k + 1) es)
  first_at = ap (map attribute) (drop_more es k x lt) ∙ ap (λ (y : RawAttr). attribute y ∷ map attribute (drop (k + 1) es)) (sym at)

-- and without a name for the attribute
module _ (es : List RawAttr) (k : ℕ) (d : RawAttr) (lt : k < length es) where
  pub has_here : Contains (map attribute es) (attribute (get_or es k d))
  has_here = has_at es k (get_or es k d) lt (sym (get_or_default es k (get_or es k d) d lt))

  all_step : (P : Attribute → Type 0) → P (attribute (get_or es k d)) → (All P (map attribute (drop k es)) → All P (map attribute es)) → All P (map attribute (drop (k + 1) es)) → All P (map attribute es)
  all_step P p f h = f (subst (All P) (sym (ap (map attribute) (drop_more es k d lt))) (All-cons P (attribute (get_or es k d)) (map attribute (drop (k + 1) es)) p h))

  pub only_step : (locals : List (List ℕ)) → IsTrue (not (is_empty (attribute (get_or es k d)).name.uri) || list_any (bytes_eq (attribute (get_or es k d)).name.local) locals)
      → (HasOnly locals (map attribute (drop k es)) → HasOnly locals (map attribute es)) → HasOnly locals (map attribute (drop (k + 1) es)) → HasOnly locals (map attribute es)
  only_step locals = all_step (λ a. IsTrue (not (is_empty a.name.uri) || list_any (bytes_eq a.name.local) locals))

  pub literal_step : IsTrue (not (bytes_eq (attribute (get_or es k d)).name.uri xsl_uri) || bytes_eq (attribute (get_or es k d)).name.local (codes "exclude-result-prefixes"))
      → (AreLiteral (map attribute (drop k es)) → AreLiteral (map attribute es)) → AreLiteral (map attribute (drop (k + 1) es)) → AreLiteral (map attribute es)
  literal_step = all_step (λ a. IsTrue (not (bytes_eq a.name.uri xsl_uri) || bytes_eq a.name.local (codes "exclude-result-prefixes")))

  pub none_step : (local : List ℕ) → (IsXsl local (attribute (get_or es k d)).name → ⊥) → (All (λ a. IsXsl local a.name → ⊥) (map attribute (drop k es)) → All (λ a. IsXsl local a.name → ⊥) (map attribute es))
      → All (λ a. IsXsl local a.name → ⊥) (map attribute (drop (k + 1) es)) → All (λ a. IsXsl local a.name → ⊥) (map attribute es)
  none_step local = all_step (λ a. IsXsl local a.name → ⊥)

  pub named_here : (local : List ℕ) → has_plain_name local (attribute (get_or es k d)) ≡ true → (attribute (get_or es k d)).name ≡ plain local
  named_here local e =
      let (uri, same) = both_of (is_empty (attribute (get_or es k d)).name.uri) (bytes_eq (attribute (get_or es k d)).name.local local) e in plain_name (attribute (get_or es k d)).name local uri same

  -- the value of the first attribute of a local name
  value_here : (local : List ℕ) (b : Bool) → has_plain_name local (attribute (get_or es k d)) ≡ b
      → value_of local (map attribute (drop k es)) ≡ (if b then Some (attribute (get_or es k d)).value else value_of local (map attribute (drop (k + 1) es)))
  value_here local b e =
      ap (value_of local) (ap (map attribute) (drop_more es k d lt)) ∙ ap (λ (b : Bool). if b then Some (attribute (get_or es k d)).value else value_of local (map attribute (drop (k + 1) es))) e

  pub value_passes : (local : List ℕ) {r : Option (List ℕ)} → has_plain_name local (attribute (get_or es k d)) ≡ false → value_of local (map attribute (drop k es)) ≡ r → value_of local (map attribute (drop (k + 1) es)) ≡ r
  value_passes local e f = sym (value_here local false e) ∙ f

  pub value_stands : (local : List ℕ) {r : Option (List ℕ)} → has_plain_name local (attribute (get_or es k d)) ≡ true → value_of local (map attribute (drop k es)) ≡ r → r ≡ Some (attribute (get_or es k d)).value
  value_stands local e f = sym f ∙ value_here local true e

module _ (es : List RawAttr) (k : ℕ) (h : length es ≤ k) where
  all_end : (P : Attribute → Type 0) → (All P (map attribute (drop k es)) → All P (map attribute es)) → All P (map attribute es)
  all_end P f = f (subst (λ z. All P (map attribute z)) (sym (drop_all k es h)) (All-nil P))

  pub only_end : (locals : List (List ℕ)) → (HasOnly locals (map attribute (drop k es)) → HasOnly locals (map attribute es)) → HasOnly locals (map attribute es)
  only_end locals = all_end (λ a. IsTrue (not (is_empty a.name.uri) || list_any (bytes_eq a.name.local) locals))

  pub none_end : (local : List ℕ) → (All (λ a. IsXsl local a.name → ⊥) (map attribute (drop k es)) → All (λ a. IsXsl local a.name → ⊥) (map attribute es)) → All (λ a. IsXsl local a.name → ⊥) (map attribute es)
  none_end local = all_end (λ a. IsXsl local a.name → ⊥)

  pub literal_end : (AreLiteral (map attribute (drop k es)) → AreLiteral (map attribute es)) → AreLiteral (map attribute es)
  literal_end = all_end (λ a. IsTrue (not (bytes_eq a.name.uri xsl_uri) || bytes_eq a.name.local (codes "exclude-result-prefixes")))

pub not_only : (e : RawElem) (locals : List (List ℕ)) (a : Attribute) → Contains (attributes_of e) a → (not (is_empty a.name.uri) || list_any (bytes_eq a.name.local) locals) ≡ false
    → (c : Change) → HasNoAttributes e (HasOnly locals) c
not_only e locals a has f c = λ olds u h. true≢false (sym (All-contains (λ (b : Attribute). IsTrue (not (is_empty b.name.uri) || list_any (bytes_eq b.name.local) locals)) (attributes_of e) a (kept_only c locals u h) has) ∙ f)

pub not_literal : (e : RawElem) (a : Attribute) → Contains (attributes_of e) a → (not (bytes_eq a.name.uri xsl_uri) || bytes_eq a.name.local (codes "exclude-result-prefixes")) ≡ false
    → (c : Change) → HasNoAttributes e AreLiteral c
not_literal e a has f c = λ olds u h. true≢false (sym (All-contains (λ (b : Attribute). IsTrue (not (bytes_eq b.name.uri xsl_uri) || bytes_eq b.name.local (codes "exclude-result-prefixes"))) (attributes_of e) a (kept_literal c u h) has) ∙ f)

no_some : {X : Type 0} {o : Option X} {x : X} → o ≡ None → o ≡ Some x → ⊥
no_some e f = cc

-- no change gives a value to an attribute that isn't there
pub still_none : (e : RawElem) (local : List ℕ) → value_of local (attributes_of e) ≡ None → (c : Change) → HasNoAttributes e (λ olds. (s : List ℕ) × (value_of local olds ≡ Some s)) c
still_none e local f c = λ olds u (s, g). no_some (subst (λ o. Becomes c local o (value_of local olds)) f (value_becomes c local u)) g

pub differs : (a b : List ℕ) → bytes_eq a b ≡ false → a ≢ b
differs a b e f = true≢false (sym ((bytes_eq-Decides a b).1 f) ∙ e)

pub bytes_same : (a b : List ℕ) → bytes_eq a b ≡ true → a ≡ b
bytes_same a b e = (bytes_eq-Decides a b).0 e
