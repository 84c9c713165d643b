-- A tree that is read and one that is changed from it mean the same, if both mean something.
use Rattle.std.proofs.Common.{◌≡◌, ◌⊎◌, inl, inr, ℕ, Bool, true, false, not, ◌&&◌, ◌||◌, List, [], ◌∷◌, refl, ap, ◌∙◌, sym, subst, Option, None, Some, IsTrue, IsFalse, bytes_eq, if◌then◌else◌}
use Rattle.std.specs.Prelude.{codes}
use Rattle.std.specs.List.{list_any}
use Rattle.std.proofs.lemmas.Bool.{true≢false, false≢true}
use Rattle.std.proofs.lemmas.List.Elements.{All-cons, All-head, All-tail}
use Rattle.std.proofs.lemmas.Slice.Eq.{bytes_eq-Decides}
use Rattle.tc_model.specs.RawTrees.{Attribute, RawTrees, none, text, element}
use Rattle.tc_model.specs.XmlTextScopes.{is_empty}
use Rattle.tc_model.specs.PathTextTokens.{Token, IsTooDeep}
use Rattle.tc_model.specs.PathText.{Forms}
use Rattle.tc_model.specs.SheetTextPhrases.{xsl_uri, value_of, HasOnly, AreLiteral}
use Rattle.tc_model.proofs.PathTextLexing.{tokens_unique}
use Rattle.tc_path.specs.Faults.{Deep}
use Rattle.tc_sheet.specs.Changes.{Change, mended, flattened, both, Exchanges, IsRenamed, exchanged, ChangedAttributes, no_attribute, as_it_is, an_exchange, Changed, no_tree, a_text, an_element}
use Rattle.tc_sheet.proofs.Plain.{ArePlain, renamed_same}

-- nothing changed is a change too
pub attributes_as_they_are : (c : Change) (olds : List Attribute) → ChangedAttributes c olds olds
attributes_as_they_are c [] = no_attribute
attributes_as_they_are c (a ∷ olds) = as_it_is (attributes_as_they_are c olds)

pub as_they_are : (c : Change) (h : RawTrees) → Changed c h h
as_they_are c none = no_tree
as_they_are c (text s q rest) = a_text (as_they_are c rest)
as_they_are c (element n olds scope q kids rest) = an_element (attributes_as_they_are c olds) (as_they_are c kids) (as_they_are c rest)

-- a text of a form is exchanged for none but one of the same tokens
module _ {P : List Token → Type 0} (plain : (ts : List Token) → P ts → ArePlain ts) {s : List ℕ} (f : Forms P s) where
  not_deep : Deep s → ⊥
  not_deep d = f.not_too_deep (subst IsTooDeep (tokens_unique d.are_tokens f.are_tokens) d.too_deep)

  renamed_form : {Q : List Token → Type 0} {t : List ℕ} → IsRenamed s t → Forms Q t → Forms Q s
  renamed_form {Q} {t} r g =
      let same : r.renamed ≡ r.tokens = renamed_same r.renames (subst ArePlain (tokens_unique f.are_tokens r.before) (plain f.tokens f.phrase)) in
      let back : g.tokens ≡ f.tokens = tokens_unique g.are_tokens r.after ∙ (same ∙ tokens_unique r.before f.are_tokens) in
      record { tokens = f.tokens; are_tokens = f.are_tokens; not_too_deep = f.not_too_deep; phrase = subst Q back g.phrase }

  pub exchanged_form : {Q : List Token → Type 0} {t : List ℕ} (c : Change) → Exchanges c s t → Forms Q t → Forms Q s
  exchanged_form mended r g = renamed_form r g
  exchanged_form flattened d g = absurd (not_deep d)
  exchanged_form both (inl r) g = renamed_form r g
  exchanged_form both (inr d) g = absurd (not_deep d)

-- what an attribute's value becomes
abbrev pub Becomes : Change → List ℕ → Option (List ℕ) → Option (List ℕ) → Type 0
Becomes c local None o = o ≡ None
Becomes c local (Some s) o = (t : List ℕ) × (o ≡ Some t) × ((t ≡ s) ⊎ (IsTrue (list_any (bytes_eq local) exchanged) × Exchanges c s t))

same_value : (c : Change) (local : List ℕ) (o : Option (List ℕ)) → Becomes c local o o
same_value c local None = refl
same_value c local (Some s) = (s, refl, inl refl)

both_true : (a b : Bool) → (a && b) ≡ true → (a ≡ true) × (b ≡ true)
both_true true true e = (refl, refl)
both_true true false e = absurd (false≢true e)
both_true false b e = absurd (false≢true e)

pub value_becomes : (c : Change) (local : List ℕ) {olds bs : List Attribute} → ChangedAttributes c olds bs → Becomes c local (value_of local olds) (value_of local bs)
value_becomes c local no_attribute = refl
value_becomes c local (as_it_is {a = a} {olds = olds} {bs = bs} h) = by (is_empty a.name.uri && bytes_eq a.name.local local) (value_becomes c local h)
  where
    by : (b : Bool) → Becomes c local (value_of local olds) (value_of local bs) → Becomes c local (if b then Some a.value else value_of local olds) (if b then Some a.value else value_of local bs)
    by true k = (a.value, refl, inl refl)
    by false k = k
value_becomes c local (an_exchange {a = a} {s = s} {olds = olds} {bs = bs} e x h) = by (is_empty a.name.uri && bytes_eq a.name.local local) refl (value_becomes c local h)
  where
    local_is : (is_empty a.name.uri && bytes_eq a.name.local local) ≡ true → IsTrue (list_any (bytes_eq local) exchanged)
    local_is f = subst (λ w. IsTrue (list_any (bytes_eq w) exchanged)) ((bytes_eq-Decides a.name.local local).0 (both_true (is_empty a.name.uri) (bytes_eq a.name.local local) f).1) (both_true (is_empty a.name.uri) (list_any (bytes_eq a.name.local) exchanged) e).1

    by : (b : Bool) → (is_empty a.name.uri && bytes_eq a.name.local local) ≡ b → Becomes c local (value_of local olds) (value_of local bs)
        → Becomes c local (if b then Some a.value else value_of local olds) (if b then Some s else value_of local bs)
    by true f k = (s, refl, inr (local_is f, x))
    by false f k = k

-- other attributes keep their values
pub kept_value : (c : Change) (local : List ℕ) {olds bs : List Attribute} → IsFalse (list_any (bytes_eq local) exchanged) → ChangedAttributes c olds bs → value_of local bs ≡ value_of local olds
kept_value c local {olds} {bs} f h = by (value_of local olds) (value_becomes c local h)
  where
    by : (o : Option (List ℕ)) → Becomes c local o (value_of local bs) → value_of local bs ≡ o
    by None e = e
    by (Some s) (t, e, inl g) = e ∙ ap Some g
    by (Some s) (t, e, inr g) = absurd (true≢false (sym g.0 ∙ f))

-- and all keep their names
pub kept_only : (c : Change) (locals : List (List ℕ)) {olds bs : List Attribute} → ChangedAttributes c olds bs → HasOnly locals bs → HasOnly locals olds
kept_only c locals no_attribute h = h
kept_only c locals (as_it_is {a = a} {olds = olds} {bs = bs} k) h = All-cons (λ (b : Attribute). IsTrue (not (is_empty b.name.uri) || list_any (bytes_eq b.name.local) locals)) a olds (All-head (λ (b : Attribute). IsTrue (not (is_empty b.name.uri) || list_any (bytes_eq b.name.local) locals)) a bs h) (kept_only c locals k (All-tail (λ (b : Attribute). IsTrue (not (is_empty b.name.uri) || list_any (bytes_eq b.name.local) locals)) a bs h))
kept_only c locals (an_exchange {a = a} {s = s} {olds = olds} {bs = bs} e x k) h =
    All-cons (λ (b : Attribute). IsTrue (not (is_empty b.name.uri) || list_any (bytes_eq b.name.local) locals)) a olds (All-head (λ (b : Attribute). IsTrue (not (is_empty b.name.uri) || list_any (bytes_eq b.name.local) locals)) (record { name = a.name; value = s; place = a.place }) bs h) (kept_only c locals k (All-tail (λ (b : Attribute). IsTrue (not (is_empty b.name.uri) || list_any (bytes_eq b.name.local) locals)) (record { name = a.name; value = s; place = a.place }) bs h))

pub kept_literal : (c : Change) {olds bs : List Attribute} → ChangedAttributes c olds bs → AreLiteral bs → AreLiteral olds
kept_literal c no_attribute h = h
kept_literal c (as_it_is {a = a} {olds = olds} {bs = bs} k) h = All-cons (λ (b : Attribute). IsTrue (not (bytes_eq b.name.uri xsl_uri) || bytes_eq b.name.local (codes "exclude-result-prefixes"))) a olds (All-head (λ (b : Attribute). IsTrue (not (bytes_eq b.name.uri xsl_uri) || bytes_eq b.name.local (codes "exclude-result-prefixes"))) a bs h) (kept_literal c k (All-tail (λ (b : Attribute). IsTrue (not (bytes_eq b.name.uri xsl_uri) || bytes_eq b.name.local (codes "exclude-result-prefixes"))) a bs h))
kept_literal c (an_exchange {a = a} {s = s} {olds = olds} {bs = bs} e x k) h =
    All-cons (λ (b : Attribute). IsTrue (not (bytes_eq b.name.uri xsl_uri) || bytes_eq b.name.local (codes "exclude-result-prefixes"))) a olds (All-head (λ (b : Attribute). IsTrue (not (bytes_eq b.name.uri xsl_uri) || bytes_eq b.name.local (codes "exclude-result-prefixes"))) (record { name = a.name; value = s; place = a.place }) bs h) (kept_literal c k (All-tail (λ (b : Attribute). IsTrue (not (bytes_eq b.name.uri xsl_uri) || bytes_eq b.name.local (codes "exclude-result-prefixes"))) (record { name = a.name; value = s; place = a.place }) bs h))
