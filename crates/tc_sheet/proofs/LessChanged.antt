-- A tree is given of which some change is a stylesheet. Where nothing that is looked at needs one part of that change, the tree is a stylesheet with the
-- other part alone.
use Rattle.std.proofs.Common.{◌≡◌, ◌⊎◌, inl, inr, ℕ, Bool, true, false, not, ◌&&◌, ◌||◌, List, [], ◌∷◌, refl, ap, ◌∙◌, sym, subst, Option, None, Some, IsTrue, IsFalse, bytes_eq, All, Contains, if◌then◌else◌, arith}
use Rattle.std.specs.Prelude.{codes}
use Rattle.std.specs.List.{list_any}
use Rattle.std.proofs.lemmas.Bool.{true≢false}
use Rattle.std.proofs.lemmas.List.Elements.{All-cons, All-head, All-tail, Contains-append_right}
use Rattle.std.proofs.lemmas.Slice.Eq.{bytes_eq-Decides}
use Rattle.tc_model.specs.Names.{ExpandedName}
use Rattle.tc_model.specs.RawTrees.{Attribute, Bound, RawTrees, none, text, element}
use Rattle.tc_model.specs.XmlTextScopes.{is_empty}
use Rattle.tc_model.specs.PathTextTokens.{Token}
use Rattle.tc_model.specs.PathText.{Forms, IsSelect, IsAttributes, IsValue, IsTest, IsPattern}
use Rattle.tc_model.specs.SheetTextTrees.{WrittenBody, WrittenBranches, Template}
use Rattle.tc_model.specs.SheetTextPhrases as p
use Rattle.tc_model.specs.SheetTextPhrases.{xsl_uri, IsXsl, value_of, HasOnly, AreLiteral, IsBlank, AreCharacters, no_characters, characters, Optional, given, Required, is_given, Tag, tag, Instruction, i_apply, i_each, i_if, i_value, i_copy_of, instruction_of, IsBody, IsInstruction, AreBranches, IsTemplate, AreTemplates, IsStylesheet}
use Rattle.tc_sheet.specs.Changes.{Change, TakesAway, Exchanges, exchanged, IsExchanged, ChangedAttributes, no_attribute, as_it_is, an_exchange, Changed, no_tree, a_text, an_element, taken_away}
use Rattle.tc_sheet.specs.Constructs.{Form, select, value, pattern, test, MustHave, of_apply, of_each, of_copy, of_value, of_match, of_if, of_when, plain}
use Rattle.tc_sheet.specs.LookedAt.{Where, at_top, in_body, in_choose, in_blank, held, behind, Item, of_element, of_attribute, a_template, a_literal, an_instruction, a_when, an_otherwise, IsIn, beside_text, at_element, at_attribute, inside, beside_element, IsLookedAt, within}
use Rattle.tc_sheet.proofs.AttributeLaws.{both_of, plain_name}
use Rattle.tc_sheet.proofs.LeafLaws.{instruction_name}
use Rattle.tc_sheet.proofs.SameBodies.{some_is, unpacked, optional_unpacked}
use Rattle.tc_sheet.proofs.Unrefused.{none_some}

-- the first attribute of a local name, where there is a value
pub record Found (local : List ℕ) (olds : List Attribute) (s : List ℕ) : Type 0 where
  pub a : Attribute
  pub has : Contains olds a
  pub name : a.name ≡ plain local
  pub value : a.value ≡ s

pub found : (local : List ℕ) (olds : List Attribute) (s : List ℕ) → value_of local olds ≡ Some s → Found local olds s
found local [] s e = absurd (none_some refl e)
found local (a ∷ olds) s e = by (is_empty a.name.uri && bytes_eq a.name.local local) refl e (λ f. found local olds s f)
  where
    by : (b : Bool) → (is_empty a.name.uri && bytes_eq a.name.local local) ≡ b → (if b then Some a.value else value_of local olds) ≡ Some s → (value_of local olds ≡ Some s → Found local olds s)
        → Found local (a ∷ olds) s
    by true f g rec =
        let (u, l) = both_of (is_empty a.name.uri) (bytes_eq a.name.local local) f in
        record { a = a; has = (0, omega arith, refl); name = plain_name a.name local u l; value = some_is refl g }
    by false f g rec = let r = rec g in record { a = r.a; has = Contains-append_right (a ∷ []) olds r.a r.has; name = r.name; value = r.value }

-- attributes, and trees, of which some values are exchanged
pub data LessAttributes (Kept : List ℕ → List ℕ → Type 0) : List Attribute → List Attribute → Type 0 where
  less_none : LessAttributes Kept [] []
  less_same : {a : Attribute} {olds ls : List Attribute} → LessAttributes Kept olds ls → LessAttributes Kept (a ∷ olds) (a ∷ ls)
  less_other : {a : Attribute} {s : List ℕ} {olds ls : List Attribute} → IsExchanged a.name → Kept a.value s → LessAttributes Kept olds ls
      → LessAttributes Kept (a ∷ olds) (record { name = a.name; value = s; place = a.place } ∷ ls)

pub data Less (Kept : List ℕ → List ℕ → Type 0) : RawTrees → RawTrees → Type 0 where
  less_end : Less Kept none none
  less_text : {s : List ℕ} {q : ℕ} {h l : RawTrees} → Less Kept h l → Less Kept (text s q h) (text s q l)
  less_element : {n : ExpandedName} {olds ls : List Attribute} {scope : List Bound} {q : ℕ} {kids inner rest others : RawTrees} → LessAttributes Kept olds ls → Less Kept kids inner → Less Kept rest others
      → Less Kept (element n olds scope q kids rest) (element n ls scope q inner others)

-- nothing is exchanged
same_attributes : (Kept : List ℕ → List ℕ → Type 0) (olds : List Attribute) → LessAttributes Kept olds olds
same_attributes Kept [] = less_none
same_attributes Kept (a ∷ olds) = less_same (same_attributes Kept olds)

same_trees : (Kept : List ℕ → List ℕ → Type 0) (h : RawTrees) → Less Kept h h
same_trees Kept none = less_end
same_trees Kept (text s q h) = less_text (same_trees Kept h)
same_trees Kept (element n olds scope q kids rest) = less_element (same_attributes Kept olds) (same_trees Kept kids) (same_trees Kept rest)

-- the value of a local name in a tag, in what it becomes, and with less exchanged: where a part of the change is left out, it is the old one
data Value (Bad Kept : List ℕ → List ℕ → Type 0) (local : List ℕ) : Option (List ℕ) → Option (List ℕ) → Option (List ℕ) → Type 0 where
  no_value : Value Bad Kept local None None None
  same_value : {s : List ℕ} → Value Bad Kept local (Some s) (Some s) (Some s)
  left_out : {s t : List ℕ} → IsTrue (list_any (bytes_eq local) exchanged) → Bad s t → Value Bad Kept local (Some s) (Some t) (Some s)
  kept_other : {s t : List ℕ} → Kept s t → Value Bad Kept local (Some s) (Some t) (Some t)

-- a tag with less exchanged
record Lessened (Bad Kept : List ℕ → List ℕ → Type 0) (olds bs : List Attribute) : Type 0 where
  ls : List Attribute
  less : LessAttributes Kept olds ls
  only : (locals : List (List ℕ)) → HasOnly locals bs → HasOnly locals ls
  literal : AreLiteral bs → AreLiteral ls
  values : (local : List ℕ) → Value Bad Kept local (value_of local olds) (value_of local bs) (value_of local ls)

more_all : (P : Attribute → Type 0) (x y : Attribute) (xs ys : List Attribute) → (P x → P y) → (All P xs → All P ys) → All P (x ∷ xs) → All P (y ∷ ys)
more_all P x y xs ys f g h = All-cons P y ys (f (All-head P x xs h)) (g (All-tail P x xs h))

abbrev IsAmong : List (List ℕ) → Attribute → Type 0
IsAmong locals a = IsTrue (not (is_empty a.name.uri) || list_any (bytes_eq a.name.local) locals)

abbrev IsLiteral : Attribute → Type 0
IsLiteral a = IsTrue (not (bytes_eq a.name.uri xsl_uri) || bytes_eq a.name.local (codes "exclude-result-prefixes"))

named_exchanged : (a : Attribute) (local : List ℕ) → IsExchanged a.name → (is_empty a.name.uri && bytes_eq a.name.local local) ≡ true → IsTrue (list_any (bytes_eq local) exchanged)
named_exchanged a local e f =
    subst (λ w. IsTrue (list_any (bytes_eq w) exchanged)) ((bytes_eq-Decides a.name.local local).0 (both_of (is_empty a.name.uri) (bytes_eq a.name.local local) f).1)
    (both_of (is_empty a.name.uri) (list_any (bytes_eq a.name.local) exchanged) e).1

module _ (Bad Kept : List ℕ → List ℕ → Type 0) {olds bs : List Attribute} (l : Lessened Bad Kept olds bs) where
  one_same : (a : Attribute) → Lessened Bad Kept (a ∷ olds) (a ∷ bs)
  one_same a = record {
    ls = a ∷ l.ls;
    less = less_same l.less;
    only = λ locals h. more_all (IsAmong locals) a a bs l.ls (λ p. p) (l.only locals) h;
    literal = λ h. more_all IsLiteral a a bs l.ls (λ p. p) l.literal h;
    values = λ local. by local (is_empty a.name.uri && bytes_eq a.name.local local) (l.values local);
  }
    where
      by : (local : List ℕ) (b : Bool) → Value Bad Kept local (value_of local olds) (value_of local bs) (value_of local l.ls)
          → Value Bad Kept local (if b then Some a.value else value_of local olds) (if b then Some a.value else value_of local bs) (if b then Some a.value else value_of local l.ls)
      by local true v = same_value
      by local false v = v

  module _ (a : Attribute) (s : List ℕ) (e : IsExchanged a.name) where
    abbrev other : Attribute
    other = record { name = a.name; value = s; place = a.place }

    one_left : Bad a.value s → Lessened Bad Kept (a ∷ olds) (other ∷ bs)
    one_left x = record {
      ls = a ∷ l.ls;
      less = less_same l.less;
      only = λ locals h. more_all (IsAmong locals) other a bs l.ls (λ p. p) (l.only locals) h;
      literal = λ h. more_all IsLiteral other a bs l.ls (λ p. p) l.literal h;
      values = λ local. by local (is_empty a.name.uri && bytes_eq a.name.local local) refl (l.values local);
    }
      where
        by : (local : List ℕ) (b : Bool) → (is_empty a.name.uri && bytes_eq a.name.local local) ≡ b → Value Bad Kept local (value_of local olds) (value_of local bs) (value_of local l.ls)
            → Value Bad Kept local (if b then Some a.value else value_of local olds) (if b then Some s else value_of local bs) (if b then Some a.value else value_of local l.ls)
        by local true f v = left_out (named_exchanged a local e f) x
        by local false f v = v

    one_kept : Kept a.value s → Lessened Bad Kept (a ∷ olds) (other ∷ bs)
    one_kept x = record {
      ls = other ∷ l.ls;
      less = less_other e x l.less;
      only = λ locals h. more_all (IsAmong locals) other other bs l.ls (λ p. p) (l.only locals) h;
      literal = λ h. more_all IsLiteral other other bs l.ls (λ p. p) l.literal h;
      values = λ local. by local (is_empty a.name.uri && bytes_eq a.name.local local) (l.values local);
    }
      where
        by : (local : List ℕ) (b : Bool) → Value Bad Kept local (value_of local olds) (value_of local bs) (value_of local l.ls)
            → Value Bad Kept local (if b then Some a.value else value_of local olds) (if b then Some s else value_of local bs) (if b then Some s else value_of local l.ls)
        by local true v = kept_other x
        by local false v = v

-- of names that are never exchanged the value is that of the change
kept_value : {Bad Kept : List ℕ → List ℕ → Type 0} (local : List ℕ) {o u w : Option (List ℕ)} → IsFalse (list_any (bytes_eq local) exchanged) → Value Bad Kept local o u w → u ≡ w
kept_value local f no_value = refl
kept_value local f same_value = refl
kept_value local f (left_out e x) = absurd (true≢false (sym e ∙ f))
kept_value local f (kept_other x) = refl

-- where what follows the parts of an `xsl:choose` stands
pub when_stands : (n : ExpandedName) → IsXsl (codes "when") n → behind n in_choose ≡ in_choose
when_stands n e = ap (λ m. behind m in_choose) e

pub otherwise_stands : (n : ExpandedName) → IsXsl (codes "otherwise") n → behind n in_choose ≡ in_blank
otherwise_stands n e = ap (λ m. behind m in_choose) e

-- The change, and its parts: what is left out, and what is kept. All that is looked at is fine, which is to say: no fine element is taken away; and where a
-- fine attribute's value has a form once it is exchanged by what is left out, it has that form without it.
module _ (c : Change) (Bad Kept : List ℕ → List ℕ → Type 0) (split : (s t : List ℕ) → Exchanges c s t → Bad s t ⊎ Kept s t)
    (Fine : Item → Type 0) (stays : (t : Tag) → Fine (of_element t) → TakesAway c t.name → ⊥)
    (reads : (t : Tag) (a : Attribute) (f : Form) → Fine (of_attribute t a) → value_of a.name.local t.attributes ≡ Some a.value → MustHave t.name a.name f
    → (Q : List Token → Type 0) (s : List ℕ) → Bad a.value s → Forms Q s → Forms Q a.value) where
  lessened : {olds bs : List Attribute} → ChangedAttributes c olds bs → Lessened Bad Kept olds bs
  lessened no_attribute = record { ls = []; less = less_none; only = λ locals h. h; literal = λ h. h; values = λ local. no_value }
  lessened (as_it_is {a = a} h) = one_same Bad Kept (lessened h) a
  lessened (an_exchange {a = a} {s = s} {olds = olds} {bs = bs} e x h) = by (split a.value s x) (lessened h)
    where
      by : Bad a.value s ⊎ Kept a.value s → Lessened Bad Kept olds bs → Lessened Bad Kept (a ∷ olds) (record { name = a.name; value = s; place = a.place } ∷ bs)
      by (inl y) l = one_left Bad Kept l a s e y
      by (inr y) l = one_kept Bad Kept l a s e y

  abbrev AllFine : Where → RawTrees → Type 0
  AllFine w h = (x : Item) → IsIn w h x → Fine x

  abbrev FineTag : Tag → Type 0
  FineTag t = (a : Attribute) → Contains t.attributes a → Fine (of_attribute t a)

  module _ (n : ExpandedName) (olds : List Attribute) (scope : List Bound) (q : ℕ) (fine : FineTag (tag n olds scope q)) {bs : List Attribute} (l : Lessened Bad Kept olds bs) where
    -- a value of a form
    formed : (local : List ℕ) (f : Form) → MustHave n (plain local) f → (Q : List Token → Type 0) (s t : List ℕ) → value_of local olds ≡ Some s → Bad s t → Forms Q t → Forms Q s
    formed local f must Q s t e x m =
        let r = found local olds s e in
        subst (Forms Q) r.value
        (reads (tag n olds scope q) r.a f (fine r.a r.has)
        (subst (λ (m : ExpandedName). value_of m.local olds ≡ Some r.a.value) (sym r.name) (e ∙ ap Some (sym r.value)))
        (subst (λ m. MustHave n m f) (sym r.name) must) Q t (subst (λ w. Bad w t) (sym r.value) x) m)

    module _ {X : Type 0} (P : X → List Token → Type 0) (local : List ℕ) (f : Form) (must : MustHave n (plain local) f) where
      abbrev Means : List ℕ → X → Type 0
      Means s x = Forms (P x) s

      required_by : (o u w : Option (List ℕ)) (x : X) → value_of local olds ≡ o → Value Bad Kept local o u w → Required Means u x → Required Means w x
      required_by o u w x e no_value r = r
      required_by o u w x e same_value r = r
      required_by o u w x e (left_out {s = s} {t = t} g y) r = is_given (formed local f must (P x) s t e y (unpacked r))
      required_by o u w x e (kept_other y) r = r

      required_less : (x : X) → Required Means (value_of local bs) x → Required Means (value_of local l.ls) x
      required_less x r = required_by (value_of local olds) (value_of local bs) (value_of local l.ls) x refl (l.values local) r

      optional_by : (o u w : Option (List ℕ)) (x : Option X) → value_of local olds ≡ o → Value Bad Kept local o u w → Optional Means u x → Optional Means w x
      optional_by o u w x e no_value r = r
      optional_by o u w x e same_value r = r
      optional_by o u w x e (left_out {s = s} {t = t} g y) r =
          let (z, k, m) = optional_unpacked r in subst (Optional Means (Some s)) (sym k) (given (formed local f must (P z) s t e y m))
      optional_by o u w x e (kept_other y) r = r

      optional_less : (x : Option X) → Optional Means (value_of local bs) x → Optional Means (value_of local l.ls) x
      optional_less x r = optional_by (value_of local olds) (value_of local bs) (value_of local l.ls) x refl (l.values local) r

    -- a select of attributes alone
    attributes_less : MustHave n (plain (codes "select")) select → (s : List ℕ) → value_of (codes "select") bs ≡ Some s → Forms (IsAttributes scope) s
        → (r : List ℕ) × (value_of (codes "select") l.ls ≡ Some r) × Forms (IsAttributes scope) r
    attributes_less must s e m =
        unpack (required_less (λ (x : Unit {0}). IsAttributes scope) (codes "select") select must tt (subst (λ o. Required (λ s (x : Unit {0}). Forms (IsAttributes scope) s) o tt) (sym e) (is_given m)))
      where
        unpack : {o : Option (List ℕ)} → Required (λ s (x : Unit {0}). Forms (IsAttributes scope) s) o tt → (r : List ℕ) × (o ≡ Some r) × Forms (IsAttributes scope) r
        unpack (is_given {s = r} m) = (r, refl, m)

  -- other values
  required_kept : {X : Type 0} {M : List ℕ → X → Type 0} {x : X} {olds bs : List Attribute} (l : Lessened Bad Kept olds bs) (local : List ℕ) → IsFalse (list_any (bytes_eq local) exchanged)
      → Required M (value_of local bs) x → Required M (value_of local l.ls) x
  required_kept {M = M} {x = x} l local f r = subst (λ o. Required M o x) (kept_value local f (l.values local)) r

  optional_kept : {X : Type 0} {M : List ℕ → X → Type 0} {x : Option X} {olds bs : List Attribute} (l : Lessened Bad Kept olds bs) (local : List ℕ) → IsFalse (list_any (bytes_eq local) exchanged)
      → Optional M (value_of local bs) x → Optional M (value_of local l.ls) x
  optional_kept {M = M} {x = x} l local f r = subst (λ o. Optional M o x) (kept_value local f (l.values local)) r

  -- texts alone
  blank_less : {h k : RawTrees} → AllFine in_blank h → Changed c h k → IsBlank k → (l : RawTrees) × Less Kept h l × IsBlank l
  blank_less fine no_tree p.at_end = (none, less_end, p.at_end)
  blank_less fine (a_text {s = s} {p = q} h) (p.past_white w a) = let (l, x, y) = blank_less (λ i g. fine i (beside_text g)) h a in (text s q l, less_text x, p.past_white w y)
  blank_less fine (an_element x i h) a = elim a [ ]
  blank_less fine (taken_away {n = n} {olds = olds} {scope = scope} {p = q} t h) a = absurd (stays (tag n olds scope q) (fine (of_element (tag n olds scope q)) at_element) t)

  characters_less : {h k : RawTrees} {s : List ℕ} → AllFine in_blank h → Changed c h k → AreCharacters k s → (l : RawTrees) × Less Kept h l × AreCharacters l s
  characters_less fine no_tree no_characters = (none, less_end, no_characters)
  characters_less fine (a_text {s = s} {p = q} h) (characters a) = let (l, x, y) = characters_less (λ i g. fine i (beside_text g)) h a in (text s q l, less_text x, characters y)
  characters_less fine (an_element x i h) a = elim a [ ]
  characters_less fine (taken_away {n = n} {olds = olds} {scope = scope} {p = q} t h) a = absurd (stays (tag n olds scope q) (fine (of_element (tag n olds scope q)) at_element) t)

  -- an instruction with less exchanged
  record Instructed (n : ExpandedName) (olds : List Attribute) (scope : List Bound) (q : ℕ) (h : RawTrees) (i : Instruction) (b d : WrittenBody) : Type 0 where
    ls : List Attribute
    kids : RawTrees
    less : LessAttributes Kept olds ls
    less_kids : Less Kept h kids
    is : IsInstruction i (tag n ls scope q) kids b d

  mutual
    body_less : {h k : RawTrees} {b : WrittenBody} → AllFine in_body h → Changed c h k → IsBody k b → (l : RawTrees) × Less Kept h l × IsBody l b
    body_less fine no_tree p.at_end = (none, less_end, p.at_end)
    body_less fine (a_text {s = s} {p = q} h) (p.past_white w a) = let (l, x, y) = body_less (λ i g. fine i (beside_text g)) h a in (text s q l, less_text x, p.past_white w y)
    body_less fine (a_text {s = s} {p = q} h) (p.a_text w a) = let (l, x, y) = body_less (λ i g. fine i (beside_text g)) h a in (text s q l, less_text x, p.a_text w y)
    body_less fine (an_element {n = n} {scope = scope} {p = q} x i h) (p.a_literal u r j a) =
        let t = lessened x in
        let (l, y, z) = body_less (λ e g. fine e (inside (a_literal u) g)) i j in
        let (m, v, w) = body_less (λ e g. fine e (beside_element g)) h a in
        (element n t.ls scope q l m, less_element t.less y v, p.a_literal u (t.literal r) z w)
    body_less fine (an_element {n = n} {olds = olds} {scope = scope} {p = q} x i h) (p.an_instruction e d a) =
        let (m, v, w) = body_less (λ y g. fine y (beside_element g)) h a in
        let r = instruction_less n olds scope q (λ w f y g. fine y (inside (an_instruction e f) g)) (λ w f y has. fine (of_attribute (tag n olds scope q) y) (at_attribute (an_instruction e f) has)) e x i d in
        (element n r.ls scope q r.kids m, less_element r.less r.less_kids v, p.an_instruction e r.is w)
    body_less fine (taken_away {n = n} {olds = olds} {scope = scope} {p = q} t h) a = absurd (stays (tag n olds scope q) (fine (of_element (tag n olds scope q)) at_element) t)

    instruction_less : (n : ExpandedName) (olds : List Attribute) (scope : List Bound) (q : ℕ) {bs : List Attribute} {h k : RawTrees} {i : Instruction} {b d : WrittenBody}
        → ((w : Where) → held i ≡ Some w → AllFine w h) → ((w : Where) → held i ≡ Some w → FineTag (tag n olds scope q)) → instruction_of n ≡ Some i
        → ChangedAttributes c olds bs → Changed c h k → IsInstruction i (tag n bs scope q) k b d → Instructed n olds scope q h i b d
    instruction_less n olds scope q fine ours e x i (p.apply_templates {path = path} o s m g) =
        let t = lessened x in
        let (l, y, z) = blank_less (fine in_blank refl) i g in
        record {
          ls = t.ls;
          kids = l;
          less = t.less;
          less_kids = y;
          is = p.apply_templates (t.only (codes "select" ∷ codes "mode" ∷ []) o) (optional_less n olds scope q (ours in_blank refl) t (IsSelect scope) (codes "select") select (of_apply (instruction_name n _ e)) path s) (optional_kept t (codes "mode") refl m) z;
        }
    instruction_less n olds scope q fine ours e x i (p.call_template o m g) =
        let t = lessened x in
        let (l, y, z) = blank_less (fine in_blank refl) i g in
        record { ls = t.ls; kids = l; less = t.less; less_kids = y; is = p.call_template (t.only (codes "name" ∷ []) o) (required_kept t (codes "name") refl m) z }
    instruction_less n olds scope q fine ours e x i (p.value_of_path o s g) =
        let t = lessened x in
        let (l, y, z) = blank_less (fine in_blank refl) i g in
        record { ls = t.ls; kids = l; less = t.less; less_kids = y; is = p.value_of_path (t.only (codes "select" ∷ []) o) (required_less n olds scope q (ours in_blank refl) t (IsValue scope) (codes "select") value (of_value (instruction_name n _ e)) _ s) z }
    instruction_less n olds scope q fine ours e x i (p.value_of_itself o s g) =
        let t = lessened x in
        let (l, y, z) = blank_less (fine in_blank refl) i g in
        record { ls = t.ls; kids = l; less = t.less; less_kids = y; is = p.value_of_itself (t.only (codes "select" ∷ []) o) (required_less n olds scope q (ours in_blank refl) t (IsValue scope) (codes "select") value (of_value (instruction_name n _ e)) _ s) z }
    instruction_less n olds scope q fine ours e x i (p.for_each o s g) =
        let t = lessened x in
        let (l, y, z) = body_less (fine in_body refl) i g in
        record { ls = t.ls; kids = l; less = t.less; less_kids = y; is = p.for_each (t.only (codes "select" ∷ []) o) (required_less n olds scope q (ours in_body refl) t (IsSelect scope) (codes "select") select (of_each (instruction_name n _ e)) _ s) z }
    instruction_less n olds scope q fine ours e x i (p.an_if o s g) =
        let t = lessened x in
        let (l, y, z) = body_less (fine in_body refl) i g in
        record { ls = t.ls; kids = l; less = t.less; less_kids = y; is = p.an_if (t.only (codes "test" ∷ []) o) (required_less n olds scope q (ours in_body refl) t (IsTest scope) (codes "test") test (of_if (instruction_name n _ e)) _ s) z }
    instruction_less n olds scope q fine ours e x i (p.a_choose o s) =
        let t = lessened x in
        let (l, y, z) = branches_less (fine in_choose refl) i s in
        record { ls = t.ls; kids = l; less = t.less; less_kids = y; is = p.a_choose (t.only [] o) z }
    instruction_less n olds scope q fine ours e x i (p.a_text_element o s) =
        let t = lessened x in
        let (l, y, z) = characters_less (fine in_blank refl) i s in
        record { ls = t.ls; kids = l; less = t.less; less_kids = y; is = p.a_text_element (t.only [] o) z }
    instruction_less n olds scope q fine ours e x i (p.a_copy o g) =
        let t = lessened x in
        let (l, y, z) = body_less (fine in_body refl) i g in
        record { ls = t.ls; kids = l; less = t.less; less_kids = y; is = p.a_copy (t.only [] o) z }
    instruction_less n olds scope q fine ours e x i (p.an_element o m g) =
        let t = lessened x in
        let (l, y, z) = body_less (fine in_body refl) i g in
        record { ls = t.ls; kids = l; less = t.less; less_kids = y; is = p.an_element (t.only (codes "name" ∷ []) o) (required_kept t (codes "name") refl m) z }
    instruction_less n olds scope q {h = h} fine ours e x i p.an_attribute = record { ls = olds; kids = h; less = same_attributes Kept olds; less_kids = same_trees Kept h; is = p.an_attribute }
    instruction_less n olds scope q fine ours e x i (p.copy_of_attributes {s = s} o f m g) =
        let t = lessened x in
        let (l, y, z) = blank_less (fine in_blank refl) i g in
        let (r, u, v) = attributes_less n olds scope q (ours in_blank refl) t (of_copy (instruction_name n _ e)) s f m in
        record { ls = t.ls; kids = l; less = t.less; less_kids = y; is = p.copy_of_attributes (t.only (codes "select" ∷ []) o) u v z }

    branches_less : {h k : RawTrees} {b : WrittenBranches} → AllFine in_choose h → Changed c h k → AreBranches k b → (l : RawTrees) × Less Kept h l × AreBranches l b
    branches_less fine no_tree p.no_otherwise = (none, less_end, p.no_otherwise)
    branches_less fine (a_text {s = s} {p = q} h) (p.between w a) = let (l, x, y) = branches_less (λ i g. fine i (beside_text g)) h a in (text s q l, less_text x, p.between w y)
    branches_less fine (an_element {n = n} {olds = olds} {scope = scope} {p = q} {rest = rest} x i h) (p.a_when o s j a) =
        let t = lessened x in
        let (l, y, z) = body_less (λ e g. fine e (inside (a_when o.name) g)) i j in
        let (m, v, w) = branches_less (λ e g. fine e (beside_element (subst (λ u. IsIn u rest e) (sym (when_stands n o.name)) g))) h a in
        let ours : FineTag (tag n olds scope q) = λ b has. fine (of_attribute (tag n olds scope q) b) (at_attribute (a_when o.name) has) in (
          element n t.ls scope q l m,
          less_element t.less y v,
          p.a_when (record { name = o.name; only = t.only (codes "test" ∷ []) o.only }) (required_less n olds scope q ours t (IsTest scope) (codes "test") test (of_when o.name) _ s) z w,
        )
    branches_less fine (an_element {n = n} {scope = scope} {p = q} {rest = rest} x i h) (p.an_otherwise o j a) =
        let t = lessened x in
        let (l, y, z) = body_less (λ e g. fine e (inside (an_otherwise o.name) g)) i j in
        let (m, v, w) = blank_less (λ e g. fine e (beside_element (subst (λ u. IsIn u rest e) (sym (otherwise_stands n o.name)) g))) h a in
        (element n t.ls scope q l m, less_element t.less y v, p.an_otherwise (record { name = o.name; only = t.only [] o.only }) z w)
    branches_less fine (taken_away {n = n} {olds = olds} {scope = scope} {p = q} t h) a = absurd (stays (tag n olds scope q) (fine (of_element (tag n olds scope q)) at_element) t)

  -- a template with less exchanged
  record Templated (n : ExpandedName) (olds : List Attribute) (scope : List Bound) (q : ℕ) (h : RawTrees) (t : Template) : Type 0 where
    ls : List Attribute
    kids : RawTrees
    less : LessAttributes Kept olds ls
    less_kids : Less Kept h kids
    is : IsTemplate (tag n ls scope q) kids t

  template_less : (n : ExpandedName) (olds : List Attribute) (scope : List Bound) (q : ℕ) {bs : List Attribute} {h k : RawTrees} {t : Template}
      → AllFine in_body h → FineTag (tag n olds scope q) → ChangedAttributes c olds bs → Changed c h k → IsTemplate (tag n bs scope q) k t → Templated n olds scope q h t
  template_less n olds scope q fine ours x i a =
      let t = lessened x in
      let (l, y, z) = body_less fine i a.body in
      record {
        ls = t.ls;
        kids = l;
        less = t.less;
        less_kids = y;
        is =
            record {
              alternatives = a.alternatives;
              priority = a.priority;
              is_template = record { name = a.is_template.name; only = t.only (codes "match" ∷ codes "name" ∷ codes "priority" ∷ codes "mode" ∷ []) a.is_template.only };
              pattern = optional_less n olds scope q ours t (IsPattern scope) (codes "match") pattern (of_match a.is_template.name) a.alternatives a.pattern;
              priorities = optional_kept t (codes "priority") refl a.priorities;
              kept = a.kept;
              name = optional_kept t (codes "name") refl a.name;
              mode = optional_kept t (codes "mode") refl a.mode;
              pattern_or_name = a.pattern_or_name;
              mode_with_pattern = a.mode_with_pattern;
              body = z;
              place = a.place;
            };
      }

  templates_less : {h k : RawTrees} {ts : List Template} → AllFine at_top h → Changed c h k → AreTemplates k ts → (l : RawTrees) × Less Kept h l × AreTemplates l ts
  templates_less fine no_tree p.at_end = (none, less_end, p.at_end)
  templates_less fine (a_text {s = s} {p = q} h) (p.past_white w a) = let (l, x, y) = templates_less (λ i g. fine i (beside_text g)) h a in (text s q l, less_text x, p.past_white w y)
  templates_less fine (an_element {n = n} {olds = olds} {scope = scope} {p = q} x i h) (p.a_template s a) =
      let is = s.is_template.name in
      let (m, v, w) = templates_less (λ e g. fine e (beside_element g)) h a in
      let r = template_less n olds scope q (λ e g. fine e (inside (a_template is) g)) (λ b has. fine (of_attribute (tag n olds scope q) b) (at_attribute (a_template is) has)) x i s in
      (element n r.ls scope q r.kids m, less_element r.less r.less_kids v, p.a_template r.is w)
  templates_less fine (an_element {n = n} {olds = olds} {scope = scope} {p = q} {kids = kids} x i h) (p.past_declaration e a) =
      let (m, v, w) = templates_less (λ e g. fine e (beside_element g)) h a in
      (element n olds scope q kids m, less_element (same_attributes Kept olds) (same_trees Kept kids) v, p.past_declaration e w)
  templates_less fine (an_element {n = n} {olds = olds} {scope = scope} {p = q} {kids = kids} x i h) (p.past_other u z a) =
      let (m, v, w) = templates_less (λ e g. fine e (beside_element g)) h a in
      (element n olds scope q kids m, less_element (same_attributes Kept olds) (same_trees Kept kids) v, p.past_other u z w)
  templates_less fine (taken_away {n = n} {olds = olds} {scope = scope} {p = q} t h) a = absurd (stays (tag n olds scope q) (fine (of_element (tag n olds scope q)) at_element) t)

  -- the whole tree, which isn't taken away
  pub stylesheet_less : (n : ExpandedName) (olds : List Attribute) (scope : List Bound) (q : ℕ) (kids : RawTrees) {k : RawTrees} {ts : List Template}
      → ((x : Item) → IsLookedAt (element n olds scope q kids none) x → Fine x) → Changed c (element n olds scope q kids none) k → IsStylesheet k ts
      → (l : RawTrees) × Less Kept (element n olds scope q kids none) l × IsStylesheet l ts
  stylesheet_less n olds scope q kids fine (an_element x i no_tree) (p.a_stylesheet is o e a) =
      let t = lessened x in
      let (l, y, z) = templates_less (λ b g. fine b (within is g)) i a in
      (element n t.ls scope q l none, less_element t.less y less_end, p.a_stylesheet is (t.only (codes "version" ∷ codes "exclude-result-prefixes" ∷ codes "id" ∷ []) o) (sym (kept_value (codes "version") refl (t.values (codes "version"))) ∙ e) z)
  stylesheet_less n olds scope q kids fine (taken_away t no_tree) a = elim a [ ]
