-- What stands at the top of a stylesheet, and what no change of it is.
use Rattle.std.proofs.Common.{◌≡◌, ◌≢◌, ◌⊎◌, inl, inr, ℕ, Bool, true, false, not, ◌&&◌, ◌||◌, List, [], ◌∷◌, ◌++◌, refl, ap, ◌∙◌, sym, subst, Option, None, Some, IsTrue, IsFalse, option_map, map, All, Contains, Result, Ok, Err, IfOk, IfErr, Bor}
use Rattle.std.specs.Prelude.{codes, is_some}
use Rattle.std.proofs.lemmas.List.Elements.{All-contains}
use Rattle.std.proofs.lemmas.Bool.{true≢false, false≢true}
use Rattle.tc_base.specs.declared.reasons.Why.TheVariants.{SimplifiedStylesheet}
use Rattle.tc_model.specs.Names.{ExpandedName}
use Rattle.tc_model.specs.RawTrees.{Attribute, Bound, RawTrees, none, text, element}
use Rattle.tc_model.specs.Trees.{is_white_space_only}
use Rattle.tc_model.specs.Views.{name, raw_trees, raw_before, raw_element}
use Rattle.tc_model.specs.PathTextPhrases.{Alternative}
use Rattle.tc_model.specs.PathText.{PatternText}
use Rattle.tc_model.specs.PathTextPriority.{PriorityText}
use Rattle.tc_model.specs.SheetTextTrees.{Template}
use Rattle.tc_model.specs.SheetTextPhrases as p
use Rattle.tc_model.specs.SheetTextPhrases.{xsl_uri, IsXsl, value_of, HasOnly, NameText, Optional, Tag, tag, IsTag, IsBody, with_priority, or_none, IsTemplate, AreTemplates, IsStylesheet}
use Rattle.tc_model.specs.declared.tree.Raw.{Raw}
use Rattle.tc_model.specs.declared.tree.RawElem.{RawElem}
use Rattle.tc_sheet.specs.Constructs.{IsRoot, IsDeclaration, reason_of}
use Rattle.tc_sheet.specs.LookedAt.{at_top, in_body, Item, of_root, of_element, of_attribute, place_of, IsIn, IsLookedAt, IsAt, IsUnrefused}
use Rattle.tc_sheet.specs.LookedAt as looked
use Rattle.tc_sheet.specs.Changes.{Change, mended, flattened, both, ChangedAttributes, Changed, no_tree, a_text, an_element, taken_away}
use Rattle.tc_sheet.specs.Faults.{IsCause, IsNoneWith, IsNoFaultOfCalls}
use Rattle.tc_sheet.specs.Readings.{Refuses, IsOfTag, itself, attribute_of, IsMisplaced, alone, attributes_of, scope_of, HasNoAttributes, HasNoOptional, HasNoBody, HasNoTemplate, HasNoTemplates, IsTopItem, HasNoTopItem, IsTopElement, HasNoTopElement}
use Rattle.tc_sheet.specs.Views.{tag_of, put_template, template}
use Rattle.tc_sheet.specs.declared.written.Template.{Template as Code}
use Rattle.tc_sheet.specs.declared.faults.SheetFault.{SheetFault}
use Rattle.tc_sheet.specs.declared.faults.SheetFault.TheVariants.{Malformed, Unsupported, TooDeep, Undefined, CallLoop, NoMemory}
use Rattle.tc_sheet.proofs.SameBodies.{xsl_reason, literal_reason, not_taken, no_declaration, declared_reason, uri_is, pattern_same, names_same}
use Rattle.tc_sheet.proofs.Unrefused.{root_unrefused}
use Rattle.tc_sheet.proofs.Refusals.{Covers, lifted, covers_itself, both_cover, covers_tag, covers_kids, text_at}
use Rattle.tc_sheet.proofs.BodyLaws.{by_element, misplaced_is, Shape, is_elem, is_text, shape, covers_behind, covers_first}

mapped_some : {A B : Type 0} (f : A → B) {a : A} → option_map f (Some a) ≢ None
mapped_some f e = cc

no_longer : {X : Type 0} {x : X} → Some x ≢ None
no_longer e = cc

module _ {A B M N : Type 0} (f : A → M) (g : B → N) where
  -- a template has a pattern or a name, and a mode only with a pattern
  pub pattern_or_name : (a : Option A) (n m : Option B) → (is_some a || (is_some n && not (is_some m))) ≡ true → (option_map f a ≢ None) ⊎ (option_map g n ≢ None)
  pattern_or_name (Some x) n m e = inl no_longer
  pattern_or_name None (Some y) m e = inr no_longer
  pattern_or_name None None m e = absurd (false≢true e)

  pub mode_with_pattern : (a : Option A) (n m : Option B) → (is_some a || (is_some n && not (is_some m))) ≡ true → (option_map f a ≢ None) ⊎ (option_map g m ≡ None)
  mode_with_pattern (Some x) n m e = inl no_longer
  mode_with_pattern None n None e = inr refl
  mode_with_pattern None (Some y) (Some z) e = absurd (false≢true e)
  mode_with_pattern None None (Some z) e = absurd (false≢true e)

  pub incomplete : (a : Option A) (n m : Option B) → (is_some a || (is_some n && not (is_some m))) ≡ false → (option_map f a ≢ None) ⊎ (option_map g n ≢ None) → (option_map f a ≢ None) ⊎ (option_map g m ≡ None) → ⊥
  incomplete (Some x) n m e h k = true≢false e
  incomplete None n m e (inl h) k = h refl
  incomplete None n m e (inr h) (inl k) = k refl
  incomplete None None m e (inr h) (inr k) = h refl
  incomplete None (Some y) None e (inr h) (inr k) = true≢false e
  incomplete None (Some y) (Some z) e (inr h) (inr k) = no_longer k

-- faults of a template
module _ (e : RawElem) (x : SheetFault) where
  pub template_only_refuses : IsXsl (codes "template") (name e.name) → Refuses x (alone e) (HasNoAttributes e (HasOnly (codes "match" ∷ codes "name" ∷ codes "priority" ∷ codes "mode" ∷ []))) → Refuses x (IsIn at_top (raw_element e none)) (HasNoTemplate e)
  template_only_refuses n r = lifted (covers_tag (looked.a_template n)) (λ c h olds kids t u v y. h olds u y.is_template.only) x r

  pub template_pattern_refuses : IsXsl (codes "template") (name e.name) → Refuses x (alone e) (HasNoOptional e (codes "match") (PatternText (scope_of e))) → Refuses x (IsIn at_top (raw_element e none)) (HasNoTemplate e)
  template_pattern_refuses n r = lifted (covers_tag (looked.a_template n)) (λ c h olds kids t u v y. h olds y.alternatives u y.pattern) x r

  pub template_priority_refuses : IsXsl (codes "template") (name e.name) → Refuses x (alone e) (HasNoOptional e (codes "priority") PriorityText) → Refuses x (IsIn at_top (raw_element e none)) (HasNoTemplate e)
  template_priority_refuses n r = lifted (covers_tag (looked.a_template n)) (λ c h olds kids t u v y. h olds y.priority u y.priorities) x r

  pub template_name_refuses : IsXsl (codes "template") (name e.name) → Refuses x (alone e) (HasNoOptional e (codes "name") (NameText (scope_of e))) → Refuses x (IsIn at_top (raw_element e none)) (HasNoTemplate e)
  template_name_refuses n r = lifted (covers_tag (looked.a_template n)) (λ c h olds kids t u v y. h olds t.name u y.name) x r

  pub template_mode_refuses : IsXsl (codes "template") (name e.name) → Refuses x (alone e) (HasNoOptional e (codes "mode") (NameText (scope_of e))) → Refuses x (IsIn at_top (raw_element e none)) (HasNoTemplate e)
  template_mode_refuses n r = lifted (covers_tag (looked.a_template n)) (λ c h olds kids t u v y. h olds t.mode u y.mode) x r

  pub template_body_refuses : IsXsl (codes "template") (name e.name) → Refuses x (IsIn in_body (raw_trees e.kids.now)) (HasNoBody (raw_trees e.kids.now)) → Refuses x (IsIn at_top (raw_element e none)) (HasNoTemplate e)
  template_body_refuses n r = lifted (covers_kids (looked.a_template n)) (λ c h olds kids t u v y. h kids t.body v y.body) x r

pub template_incomplete : {A B : Type 0} (f : A → List Alternative) (g : B → ExpandedName) (e : RawElem) (a : Option A) (n m : Option B) → (is_some a || (is_some n && not (is_some m))) ≡ false
    → Optional (PatternText (scope_of e)) (value_of (codes "match") (attributes_of e)) (option_map f a) → Optional (NameText (scope_of e)) (value_of (codes "name") (attributes_of e)) (option_map g n)
    → Optional (NameText (scope_of e)) (value_of (codes "mode") (attributes_of e)) (option_map g m) → (c : Change) → HasNoTemplate e c
template_incomplete f g e a n m lacks x y z c olds kids t u v w =
    incomplete f g a n m lacks
    (subst (λ o. (o ≢ None) ⊎ (option_map g n ≢ None)) (sym (pattern_same c (scope_of e) u x w.pattern))
    (subst (λ o. (w.alternatives ≢ None) ⊎ (o ≢ None)) (sym (names_same c (scope_of e) u (codes "name") refl y w.name)) w.pattern_or_name))
    (subst (λ o. (o ≢ None) ⊎ (option_map g m ≡ None)) (sym (pattern_same c (scope_of e) u x w.pattern))
    (subst (λ o. (w.alternatives ≢ None) ⊎ (o ≡ None)) (sym (names_same c (scope_of e) u (codes "mode") refl z w.mode)) w.mode_with_pattern))

-- what an element at the top is
template_there : {n : ExpandedName} {bs : List Attribute} {scope : List Bound} {q : ℕ} {others behind : RawTrees} {ts : List Template} → IsXsl (codes "template") n → AreTemplates (element n bs scope q others behind) ts → (t : Template) × IsTemplate (tag n bs scope q) others t
template_there e (p.a_template {t = t} x y) = (t, x)
template_there {n} e (p.past_declaration d y) = absurd (no_declaration both n e d)
template_there {n} e (p.past_other u v y) = absurd (v (uri_is both n (codes "template") e))

behind_top : {n : ExpandedName} {bs : List Attribute} {scope : List Bound} {q : ℕ} {others behind : RawTrees} {ts : List Template} → AreTemplates (element n bs scope q others behind) ts → (us : List Template) × AreTemplates behind us
behind_top (p.a_template {ts = us} x y) = (us, y)
behind_top (p.past_declaration {ts = us} d y) = (us, y)
behind_top (p.past_other {ts = us} u v y) = (us, y)

top_reason : {n : ExpandedName} {bs : List Attribute} {scope : List Bound} {q : ℕ} {others behind : RawTrees} {ts : List Template} → AreTemplates (element n bs scope q others behind) ts → reason_of n ≡ None
top_reason {n} (p.a_template x y) = xsl_reason n (codes "template") refl x.is_template.name
top_reason {n} (p.past_declaration d y) = declared_reason both n d
top_reason {n} (p.past_other u v y) = literal_reason n v

no_top : {n : ExpandedName} {bs : List Attribute} {scope : List Bound} {q : ℕ} {others behind : RawTrees} {ts : List Template} → (IsXsl (codes "template") n → ⊥) → (IsXsl (codes "output") n → ⊥) → (IsXsl (codes "strip-space") n → ⊥) → (n.uri ≡ xsl_uri) ⊎ (n.uri ≡ []) → AreTemplates (element n bs scope q others behind) ts → ⊥
no_top f g h k (p.a_template x y) = f x.is_template.name
no_top f g h k (p.past_declaration (inl d) y) = g d
no_top f g h k (p.past_declaration (inr d) y) = h d
no_top f g h (inl k) (p.past_other u v y) = v k
no_top f g h (inr k) (p.past_other u v y) = u k

white_top : {s : List ℕ} {q : ℕ} {behind : RawTrees} {ts : List Template} → AreTemplates (text s q behind) ts → IsTrue (is_white_space_only s) × ((us : List Template) × AreTemplates behind us)
white_top (p.past_white {ts = us} w y) = (w, (us, y))

pub top_template : (e : RawElem) (t : Code) → IsTemplate (tag_of e) (raw_trees e.kids.now) (template t) → IsTopElement e (put_template (Some t))
top_template e t x = λ rest ts y. p.a_template x y

pub top_template_refuses : (e : RawElem) → IsXsl (codes "template") (name e.name) → (x : SheetFault) → Refuses x (IsIn at_top (raw_element e none)) (HasNoTemplate e) → Refuses x (IsIn at_top (raw_element e none)) (HasNoTopElement e)
top_template_refuses e n x r =
    lifted (covers_itself (IsIn at_top (raw_element e none)))
    (λ c h rest k ts y. by_element c (not_taken c (name e.name) (xsl_reason (name e.name) (codes "template") refl n)) (λ (k : RawTrees). AreTemplates k ts → ⊥)
    (λ bs others behind u v w z. let (t, a) = template_there n z in h bs others t u v a) k y) x r

pub top_misplaced : (e : RawElem) → (IsXsl (codes "template") (name e.name) → ⊥) → (IsDeclaration (name e.name) → ⊥) → ((name e.name).uri ≡ xsl_uri) ⊎ ((name e.name).uri ≡ [])
    → (x : SheetFault) → IsMisplaced e x → Refuses x (IsIn at_top (raw_element e none)) (HasNoTopElement e)
top_misplaced e f g i x r =
    misplaced_is at_top e none (HasNoTopElement e)
    (λ c stays rest k ts y. by_element c stays (λ (k : RawTrees). AreTemplates k ts → ⊥) (λ bs others behind u v w z. no_top f (λ d. g (inl d)) (λ d. g (inr d)) i z) k y) x r

pub top_declaration : (e : RawElem) → IsDeclaration (name e.name) → IsTopElement e (put_template None)
top_declaration e d = λ rest ts y. p.past_declaration d y

pub top_other : (e : RawElem) → (name e.name).uri ≢ xsl_uri → (name e.name).uri ≢ [] → IsTopElement e (put_template None)
top_other e u v = λ rest ts y. p.past_other v u y

pub text_no_top : (s : List ℕ) (q : ℕ) → IsFalse (is_white_space_only s) → (c : Change) (rest : RawTrees) → HasNoTemplates (text s q rest) c
text_no_top s q f c rest k ts (a_text h) y = differ (white_top y).0 f
  where
    differ : {b : Bool} → IsTrue b → IsFalse b → ⊥
    differ a b = cc

text_rest : {s : List ℕ} {q : ℕ} {rest : RawTrees} (c : Change) → HasNoTemplates rest c → (k : RawTrees) (ts : List Template) → Changed c (text s q rest) k → AreTemplates k ts → ⊥
text_rest c g k ts (a_text {k = behind} h) y = let (us, z) = (white_top y).1 in g behind us h z

rest_only : (c : Change) (t : Raw) (f : List Template → List Template) → IsTopItem t f → (rest : RawTrees) → HasNoTemplates rest c → HasNoTemplates (raw_before t rest) c
rest_only c t f item rest g = by (shape t)
  where
    by : Shape t → HasNoTemplates (raw_before t rest) c
    by (is_elem e is) =
        let reason = top_reason (subst (λ h. AreTemplates h (f [])) (is none) (item none [] p.at_end)) in
        subst (λ h. HasNoTemplates h c) (sym (is rest))
        (λ k ts x. by_element c (not_taken c (name e.name) reason) (λ (k : RawTrees). AreTemplates k ts → ⊥) (λ bs others behind u v w y. let (us, z) = behind_top y in g behind us w z) k x)
    by (is_text s q is) = subst (λ h. HasNoTemplates h c) (sym (is rest)) (text_rest c g)

-- the templates that are read, and what is left
pub record TopLoop (whole rest : RawTrees) (found : List Code) : Type 0 where
  pub so_far : (ts : List Template) → AreTemplates rest ts → AreTemplates whole (map template found ++ ts)
  pub no_more : (c : Change) → HasNoTemplates rest c → HasNoTemplates whole c
  pub covers : Covers (IsIn at_top rest) (IsIn at_top whole)

pub top_begins : (whole : RawTrees) → TopLoop whole whole []
top_begins whole = record { so_far = λ b y. y; no_more = λ c g. g; covers = covers_itself (IsIn at_top whole) }

pub top_goes_on : {whole : RawTrees} {found : List Code} (t : Raw) (rest : RawTrees) (f : List Template → List Template) (now : List Code) → IsTopItem t f → TopLoop whole (raw_before t rest) found
    → ((ts : List Template) → map template now ++ ts ≡ map template found ++ f ts) → TopLoop whole rest now
top_goes_on {whole} t rest f now item l e = record {
  so_far = λ ts y. subst (AreTemplates whole) (sym (e ts)) (l.so_far (f ts) (item rest ts y));
  no_more = λ c g. l.no_more c (rest_only c t f item rest g);
  covers = both_cover (covers_behind at_top (λ n. refl) t rest) l.covers;
}

pub item_at_top_refuses : {whole : RawTrees} (rest : RawTrees) {found : List Code} (t : Raw) → TopLoop whole (raw_before t rest) found → (x : SheetFault) → Refuses x (IsIn at_top (raw_before t none)) (HasNoTopItem t) → Refuses x (IsIn at_top whole) (HasNoTemplates whole)
item_at_top_refuses rest t l x r = lifted (both_cover (covers_first at_top t rest) l.covers) (λ c h. l.no_more c (h rest)) x r

append_nothing : (ts : List Template) → ts ++ [] ≡ ts
append_nothing [] = refl
append_nothing (t ∷ ts) = ap (λ us. t ∷ us) (append_nothing ts)

pub top_ends : {whole rest : RawTrees} {found now : List Code} → TopLoop whole rest found → rest ≡ none → now ≡ found → AreTemplates whole (map template now)
top_ends {whole} {found = found} l e f =
    subst (λ us. AreTemplates whole (map template us)) (sym f) (subst (AreTemplates whole) (append_nothing (map template found)) (l.so_far [] (subst (λ h. AreTemplates h []) (sym e) p.at_end)))

mapped_push : (found : List Code) (t : Code) (ts : List Template) → map template (found ++ t ∷ []) ++ ts ≡ map template found ++ (template t ∷ ts)
mapped_push [] t ts = refl
mapped_push (u ∷ us) t ts = ap (λ vs. template u ∷ vs) (mapped_push us t ts)

pub top_pushed : (found now : List Code) (t : Code) (read : Option Code) → now ≡ found ++ t ∷ [] → read ≡ Some t → (ts : List Template) → map template now ++ ts ≡ map template found ++ put_template read ts
top_pushed found now t read e f ts = ap (λ us. map template us ++ ts) e ∙ (mapped_push found t ts ∙ ap (λ o. map template found ++ put_template o ts) (sym f))

pub top_stays : (found now : List Code) (read : Option Code) → now ≡ found → read ≡ None → (ts : List Template) → map template now ++ ts ≡ map template found ++ put_template read ts
top_stays found now read e f ts = ap (λ us. map template us ++ ts) e ∙ ap (λ o. map template found ++ put_template o ts) (sym f)

-- what a tree at the top is
pub top_white : (t : Raw) (s : List ℕ) (q : ℕ) → ((rest : RawTrees) → raw_before t rest ≡ text s q rest) → IsTrue (is_white_space_only s) → IsTopItem t (put_template None)
top_white t s q f w = λ rest ts y. subst (λ h. AreTemplates h ts) (sym (f rest)) (p.past_white w y)

pub top_black : (t : Raw) (s : List ℕ) (q : ℕ) → ((rest : RawTrees) → raw_before t rest ≡ text s q rest) → IsFalse (is_white_space_only s) → IsAt (IsIn at_top (raw_before t none)) IsUnrefused q × HasNoTopItem t both
top_black t s q f w = (subst (λ h. IsAt (IsIn at_top h) IsUnrefused q) (sym (f none)) (text_at at_top s q none), λ rest. subst (λ h. HasNoTemplates h both) (sym (f rest)) (text_no_top s q w both rest))

pub top_elem : (t : Raw) (e : RawElem) (f : List Template → List Template) → ((rest : RawTrees) → raw_before t rest ≡ raw_element e rest) → IsTopElement e f → IsTopItem t f
top_elem t e f is a = λ rest ts y. subst (λ h. AreTemplates h (f ts)) (sym (is rest)) (a rest ts y)

pub top_elem_refuses : (t : Raw) (e : RawElem) → ((rest : RawTrees) → raw_before t rest ≡ raw_element e rest) → (x : SheetFault) → Refuses x (IsIn at_top (raw_element e none)) (HasNoTopElement e) → Refuses x (IsIn at_top (raw_before t none)) (HasNoTopItem t)
top_elem_refuses t e is x r =
    lifted (subst (λ h. Covers (IsIn at_top (raw_element e none)) (IsIn at_top h)) (sym (is none)) (covers_itself (IsIn at_top (raw_element e none))))
    (λ c h rest. subst (λ k. HasNoTemplates k c) (sym (is rest)) (h rest)) x r

-- faults of the root
pub cause_of : {raw : RawTrees} {P : Change → Type 0} → ((c : Change) → P c → IsNoneWith c raw) → (x : SheetFault) → Refuses x (IsLookedAt raw) P → IsCause raw x
cause_of f (Malformed q) r = (r.0, λ changed ts h s. absurd (f both r.1 changed ts h s))
cause_of f (Unsupported q why) r = (r.0, f flattened r.1)
cause_of f (TooDeep q) r = (r.0, f mended r.1)
cause_of f (Undefined q) r = absurd r
cause_of f (CallLoop q) r = absurd r
cause_of f NoMemory r = tt

pub no_call : (h : Item → Type 0) (P : Change → Type 0) (x : SheetFault) → Refuses x h P → IsNoFaultOfCalls x
no_call h P (Malformed q) r = tt
no_call h P (Unsupported q why) r = tt
no_call h P (TooDeep q) r = tt
no_call h P (Undefined q) r = r
no_call h P (CallLoop q) r = r
no_call h P NoMemory r = tt

pub root_uri : {n : ExpandedName} → IsRoot n → n.uri ≡ xsl_uri
root_uri (inl e) = ap (λ (m : ExpandedName). m.uri) e
root_uri (inr e) = ap (λ (m : ExpandedName). m.uri) e

-- a root that has no version of XSLT's is no stylesheet by itself
pub no_simplified : (e : RawElem) → All (λ a. IsXsl (codes "version") a.name → ⊥) (attributes_of e) → looked.IsSimplified (tag_of e) → ⊥
no_simplified e h s = All-contains (λ (a : Attribute). IsXsl (codes "version") a.name → ⊥) (attributes_of e) s.version h s.has s.is_version

-- the tag of a root is looked at
module _ (e : RawElem) (n : IsRoot (name e.name)) where
  of_tag : {P : Item → Type 0} {q : ℕ} → (P (of_element (tag_of e)) → P (of_root (tag_of e))) → IsAt (alone e) P q → IsAt (IsLookedAt (raw_element e none)) P q
  of_tag {P} {q} f a = by a.item a.has a.holds a.stands
    where
      by : (x : Item) → IsOfTag (tag_of e) x → P x → place_of x ≡ q → IsAt (IsLookedAt (raw_element e none)) P q
      by x itself h s = record { item = of_root (tag_of e); has = looked.the_root; holds = f h; stands = s }
      by x (attribute_of {a = b} has) h s = record { item = of_attribute (tag_of e) b; has = looked.has_root n has; holds = h; stands = s }

  root_tag : (P : Change → Type 0) (x : SheetFault) → Refuses x (alone e) P → Refuses x (IsLookedAt (raw_element e none)) P
  root_tag P (Malformed q) r = (of_tag {P = IsUnrefused} (λ h why s. s.0.literal (root_uri n)) r.0, r.1)
  root_tag P (Unsupported q why) r = (of_tag (λ h. absurd (root_unrefused (name e.name) n why h)) r.0, r.1)
  root_tag P (TooDeep q) r = (of_tag (λ h. h) r.0, r.1)
  root_tag P (Undefined q) r = r
  root_tag P (CallLoop q) r = r
  root_tag P NoMemory r = tt

  covers_root : Covers (IsIn at_top (raw_trees e.kids.now)) (IsLookedAt (raw_element e none))
  covers_root = record { moves = λ x a. looked.within n a }

no_stylesheet : {ts : List Template} → IsStylesheet none ts → ⊥
no_stylesheet s = elim s [ ]

root_there : {n : ExpandedName} {bs : List Attribute} {scope : List Bound} {q : ℕ} {others behind : RawTrees} {ts : List Template} → IsStylesheet (element n bs scope q others behind) ts
    → IsRoot n × HasOnly (codes "version" ∷ codes "exclude-result-prefixes" ∷ codes "id" ∷ []) bs × (value_of (codes "version") bs ≡ Some (codes "1.0")) × AreTemplates others ts
root_there (p.a_stylesheet n o v y) = (n, o, v, y)

-- a change of a root alone is one of it
root_by : (e : RawElem) (c : Change) → ((bs : List Attribute) (others : RawTrees) (ts : List Template) → ChangedAttributes c (attributes_of e) bs → Changed c (raw_trees e.kids.now) others
    → IsRoot (name e.name) × HasOnly (codes "version" ∷ codes "exclude-result-prefixes" ∷ codes "id" ∷ []) bs × (value_of (codes "version") bs ≡ Some (codes "1.0")) × AreTemplates others ts → ⊥)
    → IsNoneWith c (raw_element e none)
root_by e c f changed ts (an_element {bs = bs} {others = others} x i h) s = f bs others ts x i (root_there s)
root_by e c f changed ts (taken_away t no_tree) s = no_stylesheet s

pub no_root_malformed : (e : RawElem) → (IsRoot (name e.name) → ⊥) → (c : Change) → IsNoneWith c (raw_element e none)
no_root_malformed e f c = root_by e c (λ bs others ts u v t. f t.0)

pub root_only_refuses : (e : RawElem) → IsRoot (name e.name) → (x : SheetFault) → Refuses x (alone e) (HasNoAttributes e (HasOnly (codes "version" ∷ codes "exclude-result-prefixes" ∷ codes "id" ∷ []))) → IsCause (raw_element e none) x
root_only_refuses e n x r = cause_of (λ c h. root_by e c (λ bs others ts u v t. h bs u t.1)) x (root_tag e n (HasNoAttributes e (HasOnly (codes "version" ∷ codes "exclude-result-prefixes" ∷ codes "id" ∷ []))) x r)

pub root_version_refuses : (e : RawElem) → IsRoot (name e.name) → (x : SheetFault) → Refuses x (alone e) (HasNoAttributes e (λ olds. value_of (codes "version") olds ≡ Some (codes "1.0"))) → IsCause (raw_element e none) x
root_version_refuses e n x r = cause_of (λ c h. root_by e c (λ bs others ts u v t. h bs u t.2)) x (root_tag e n (HasNoAttributes e (λ olds. value_of (codes "version") olds ≡ Some (codes "1.0"))) x r)

pub root_templates_refuse : (e : RawElem) → IsRoot (name e.name) → (x : SheetFault) → Refuses x (IsIn at_top (raw_trees e.kids.now)) (HasNoTemplates (raw_trees e.kids.now)) → IsCause (raw_element e none) x
root_templates_refuse e n x r =
    let P : Change → Type 0 = HasNoTemplates (raw_trees e.kids.now) in
    cause_of {P = P} (λ c h. root_by e c (λ bs others ts u v t. h others ts v t.3)) x (lifted {P = P} {Q = P} (covers_root e n) (λ c h. h) x r)

pub no_root_cause : (e : RawElem) → (IsRoot (name e.name) → ⊥) → (looked.IsSimplified (tag_of e) → ⊥) → IsCause (raw_element e none) (Malformed e.place)
no_root_cause e f g = (
  record { item = of_root (tag_of e); has = looked.the_root; holds = λ why r. g r.0; stands = refl },
  λ changed ts h s. absurd (no_root_malformed e f both changed ts h s),
)

pub simplified_cause : (e : RawElem) (a : Attribute) → (IsRoot (name e.name) → ⊥) → (name e.name).uri ≢ xsl_uri → Contains (attributes_of e) a → IsXsl (codes "version") a.name
    → IsCause (raw_element e none) (Unsupported e.place SimplifiedStylesheet)
simplified_cause e a f u has n = (
  record { item = of_root (tag_of e); has = looked.the_root; holds = (record { literal = u; version = a; has = has; is_version = n }, refl); stands = refl },
  no_root_malformed e f flattened,
)

pub stylesheet_read : (e : RawElem) (ts : List Template) → IsRoot (name e.name) → HasOnly (codes "version" ∷ codes "exclude-result-prefixes" ∷ codes "id" ∷ []) (attributes_of e)
    → value_of (codes "version") (attributes_of e) ≡ Some (codes "1.0") → AreTemplates (raw_trees e.kids.now) ts → IsStylesheet (raw_element e none) ts
stylesheet_read e ts n o v a = p.a_stylesheet n o v a

pub top_ok : (t : Raw) (e : RawElem) → ((rest : RawTrees) → raw_before t rest ≡ raw_element e rest) → (r : Result (Option Code) SheetFault) → IfOk r (λ w. IsTopElement e (put_template w)) → IfOk r (λ w. IsTopItem t (put_template w))
top_ok t e is (Ok w) a = top_elem t e (put_template w) is a
top_ok t e is (Err x) a = tt

pub top_no : (t : Raw) (e : RawElem) → ((rest : RawTrees) → raw_before t rest ≡ raw_element e rest) → (r : Result (Option Code) SheetFault) → IfErr r (λ x. Refuses x (IsIn at_top (raw_element e none)) (HasNoTopElement e))
    → IfErr r (λ x. Refuses x (IsIn at_top (raw_before t none)) (HasNoTopItem t))
top_no t e is (Ok w) a = tt
top_no t e is (Err x) a = top_elem_refuses t e is x a

pub stylesheet_ok : (e : RawElem) (r : Result (Bor (List Code)) SheetFault) → IsRoot (name e.name) → HasOnly (codes "version" ∷ codes "exclude-result-prefixes" ∷ codes "id" ∷ []) (attributes_of e)
    → value_of (codes "version") (attributes_of e) ≡ Some (codes "1.0") → IfOk r (λ ts. AreTemplates (raw_trees e.kids.now) (map template ts.now)) → IfOk r (λ ts. IsStylesheet (raw_element e none) (map template ts.now))
stylesheet_ok e (Ok ts) n o v a = stylesheet_read e (map template ts.now) n o v a
stylesheet_ok e (Err x) n o v a = tt

pub stylesheet_no : (e : RawElem) → IsRoot (name e.name) → (r : Result (Bor (List Code)) SheetFault) → IfErr r (λ x. Refuses x (IsIn at_top (raw_trees e.kids.now)) (HasNoTemplates (raw_trees e.kids.now))) → IfErr r (IsCause (raw_element e none))
stylesheet_no e n (Ok ts) a = tt
stylesheet_no e n (Err x) a = root_templates_refuse e n x a

pub stylesheet_calls : (e : RawElem) (r : Result (Bor (List Code)) SheetFault) → IfErr r (λ x. Refuses x (IsIn at_top (raw_trees e.kids.now)) (HasNoTemplates (raw_trees e.kids.now))) → IfErr r IsNoFaultOfCalls
stylesheet_calls e (Ok ts) a = tt
stylesheet_calls e (Err x) a = no_call (IsIn at_top (raw_trees e.kids.now)) (HasNoTemplates (raw_trees e.kids.now)) x a

-- whether a template lacks something, by what was found
tests_are : {A B : Type 0} (p q r : Bool) (a : Option A) (n m : Option B) → p ≡ is_some a → q ≡ is_some n → r ≡ is_some m → (p || (q && not r)) ≡ (is_some a || (is_some n && not (is_some m)))
tests_are p q r a n m e f g = ap (λ (p : Bool). p || (q && not r)) e ∙ (ap (λ (q : Bool). is_some a || (q && not r)) f ∙ ap (λ (r : Bool). is_some a || (is_some n && not r)) g)

pub lacks_by : {A B : Type 0} (p q r : Bool) (a : Option A) (n m : Option B) → p ≡ is_some a → q ≡ is_some n → r ≡ is_some m → (p || (q && not r)) ≡ false → (is_some a || (is_some n && not (is_some m))) ≡ false
lacks_by p q r a n m e f g h = sym (tests_are p q r a n m e f g) ∙ h

pub has_by : {A B : Type 0} (p q r : Bool) (a : Option A) (n m : Option B) → p ≡ is_some a → q ≡ is_some n → r ≡ is_some m → (p || (q && not r)) ≡ true → (is_some a || (is_some n && not (is_some m))) ≡ true
has_by p q r a n m e f g h = sym (tests_are p q r a n m e f g) ∙ h
