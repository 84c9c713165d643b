-- A stylesheet's raw tree means one stylesheet at most.
use Rattle.std.proofs.Common.{◌≡◌, ◌≢◌, ◌⊎◌, inl, inr, ℕ, ℤ, Bool, true, false, List, [], ◌∷◌, ◌++◌, refl, ap, ◌∙◌, sym, subst, Option, None, Some, IsTrue, IsFalse, bytes_eq, if◌then◌else◌, filter, All, arith}
use Rattle.std.specs.Prelude.{codes}
use Rattle.std.proofs.lemmas.Bool.{true≢false}
use Rattle.std.proofs.lemmas.Slice.Eq.{bytes_eq-Decides}
use Rattle.tc_model.specs.Names.{ExpandedName}
use Rattle.tc_model.specs.RawTrees.{Bound, RawTrees}
use Rattle.tc_model.specs.XmlTextScopes.{ElementName}
use Rattle.tc_model.specs.Sheets.{Sheet, Path, Test, Body, no_instruction, value, value_of_self}
use Rattle.tc_model.specs.PathTextPhrases.{NameMeans, Alternative}
use Rattle.tc_model.specs.PathText.{SelectText, ValueText, PatternText, TestText}
use Rattle.tc_model.specs.PathTextPriority.{PriorityText}
use Rattle.tc_model.specs.SheetTextTrees.{WrittenBody, w_nothing, w_text, w_element, w_copy, w_apply, w_call, w_value, w_choose, w_each, WrittenBranches, w_otherwise, w_branch, Template, is_used}
use Rattle.tc_model.specs.SheetTextPhrases as p
use Rattle.tc_model.specs.SheetTextPhrases.{xsl_uri, IsXsl, value_of, IsBlank, AreCharacters, no_characters, characters, NameText, ElementNameText, Optional, left_out, given, Required, is_given, or_all_children, with_priority, or_none, Tag, tag, IsTag, Instruction, i_apply, i_call, i_value, i_each, i_if, i_choose, i_text, i_copy, i_element, i_attribute, i_copy_of, instruction_of, IsBody, IsInstruction, AreBranches, IsTemplate, AreTemplates, IsStylesheet}
use Rattle.tc_model.specs.SheetText.{SheetMeans, SheetText, sheet_of, StandingCall, calls_of, IsDefined, IsUndefined, IsLoop, IsFirst, of_undefined, of_loop}
use Rattle.tc_model.specs.SheetTextLaws.{HasOneSheetFault, HasNoSheet}
use Rattle.std.proofs.lemmas.List.Elements.{All-tail}
use Rattle.tc_model.proofs.XmlTextPhrases.{qname_unique}
use Rattle.tc_model.proofs.XmlTextUnique.{element_name_unique}
use Rattle.tc_model.proofs.PathTextUnique.{name_means_unique, select_text_unique, value_text_unique, pattern_text_unique, test_text_unique, priority_text_unique}

first_is : {X : Type 0} {x y : X} {xs ys : List X} → x ∷ xs ≡ y ∷ ys → x ≡ y
first_is e = cc

rest_is : {X : Type 0} {x y : X} {xs ys : List X} → x ∷ xs ≡ y ∷ ys → xs ≡ ys
rest_is e = cc

some_is : {X : Type 0} {a b : X} {o : Option X} → o ≡ Some a → o ≡ Some b → a ≡ b
some_is e f = cc

white_or_not : {X : Type 0} {b : Bool} → IsTrue b → IsFalse b → X
white_or_not a b = absurd (true≢false (sym a ∙ b))

-- attributes
optional_unique : {X : Type 0} {M : List ℕ → X → Type 0} {o : Option (List ℕ)} {x y : Option X} → ((s : List ℕ) (x y : X) → M s x → M s y → x ≡ y) → Optional M o x → Optional M o y → x ≡ y
optional_unique u left_out left_out = refl
optional_unique u (given {s = s} {x = x} a) (given {x = y} b) = ap Some (u s x y a b)

required_unique : {X : Type 0} {M : List ℕ → X → Type 0} {o : Option (List ℕ)} {x y : X} → ((s : List ℕ) (x y : X) → M s x → M s y → x ≡ y) → Required M o x → Required M o y → x ≡ y
required_unique u (is_given {s = s} {x = x} a) (is_given {x = y} b) = u s x y a b

name_unique : {scope : List Bound} {s : List ℕ} {n m : ExpandedName} → NameText scope s n → NameText scope s m → n ≡ m
name_unique {scope} {n = n} {m = m} a b = name_means_unique (subst (λ q. NameMeans scope q n) (qname_unique a.is_name b.is_name).0 a.means) b.means

element_unique : {scope : List Bound} {s : List ℕ} {n m : ExpandedName} → ElementNameText scope s n → ElementNameText scope s m → n ≡ m
element_unique {scope} {n = n} {m = m} a b = element_name_unique (subst (λ q. ElementName scope q n) (qname_unique a.is_name b.is_name).0 a.means) b.means

characters_unique : {h : RawTrees} {s t : List ℕ} → AreCharacters h s → AreCharacters h t → s ≡ t
characters_unique no_characters no_characters = refl
characters_unique (characters {s = s} a) (characters b) = ap (λ w. s ++ w) (characters_unique a b)

same_path : {q r : Path} → value q no_instruction ≡ value r no_instruction → q ≡ r
same_path e = cc

select_once : (scope : List Bound) {o : Option (List ℕ)} {q r : Option Path} → Optional (SelectText scope) o q → Optional (SelectText scope) o r → q ≡ r
select_once scope a b = optional_unique (λ s x y c d. select_text_unique c d) a b

mode_once : (scope : List Bound) {o : Option (List ℕ)} {n m : Option ExpandedName} → Optional (NameText scope) o n → Optional (NameText scope) o m → n ≡ m
mode_once scope a b = optional_unique (λ s x y c d. name_unique c d) a b

name_once : (scope : List Bound) {o : Option (List ℕ)} {n m : ExpandedName} → Required (NameText scope) o n → Required (NameText scope) o m → n ≡ m
name_once scope a b = required_unique (λ s x y c d. name_unique c d) a b

path_once : (scope : List Bound) {o : Option (List ℕ)} {q r : Path} → Required (SelectText scope) o q → Required (SelectText scope) o r → q ≡ r
path_once scope a b = required_unique (λ s x y c d. select_text_unique c d) a b

value_once : (scope : List Bound) {o : Option (List ℕ)} {v w : Body} → Required (ValueText scope) o v → Required (ValueText scope) o w → v ≡ w
value_once scope a b = required_unique (λ s x y c d. value_text_unique c d) a b

test_once : (scope : List Bound) {o : Option (List ℕ)} {t u : Test} → Required (TestText scope) o t → Required (TestText scope) o u → t ≡ u
test_once scope a b = required_unique (λ s x y c d. test_text_unique c d) a b

element_once : (scope : List Bound) {o : Option (List ℕ)} {n m : ExpandedName} → Required (ElementNameText scope) o n → Required (ElementNameText scope) o m → n ≡ m
element_once scope a b = required_unique (λ s x y c d. element_unique c d) a b

pattern_once : (scope : List Bound) {o : Option (List ℕ)} {xs ys : Option (List Alternative)} → Optional (PatternText scope) o xs → Optional (PatternText scope) o ys → xs ≡ ys
pattern_once scope a b = optional_unique (λ s x y c d. pattern_text_unique c d) a b

priority_once : {o : Option (List ℕ)} {x y : Option ℤ} → Optional PriorityText o x → Optional PriorityText o y → x ≡ y
priority_once a b = optional_unique (λ s x y c d. priority_text_unique c d) a b

-- `.` is no path
self_or_path : {scope : List Bound} {o : Option (List ℕ)} {q : Path} {X : Type 0} → Required (ValueText scope) o (value q no_instruction) → Required (ValueText scope) o (value_of_self no_instruction) → X
self_or_path {scope} a b = absurd (differ (value_once scope a b))
  where
    differ : {q : Path} → value q no_instruction ≡ value_of_self no_instruction → ⊥
    differ e = cc

-- an XSLT element is no literal one
not_literal : (n : ExpandedName) (i : Instruction) {X : Type 0} → instruction_of n ≡ Some i → n.uri ≢ xsl_uri → X
not_literal n i {X} e h = by (bytes_eq n.uri xsl_uri) refl e
  where
    by : (b : Bool) → bytes_eq n.uri xsl_uri ≡ b → (if b then p.instruction_in p.instructions n.local else None) ≡ Some i → X
    by true f g = absurd (h ((bytes_eq-Decides n.uri xsl_uri).0 f))
    by false f g = absurd (cc)

joined : {X Y Z : Type 0} (f : X → Y → Z) {a b : X} {c d : Y} → a ≡ b → c ≡ d → f a c ≡ f b d
joined f {b = b} {c = c} e g = ap (λ x. f x c) e ∙ ap (f b) g

when_or_otherwise : (n : ExpandedName) → IsXsl (codes "when") n → IsXsl (codes "otherwise") n → ⊥
when_or_otherwise n e f = true≢false (ap (λ (m : ExpandedName). bytes_eq m.local (codes "when")) (sym e ∙ f))

mutual
  body_unique : {h : RawTrees} {b c : WrittenBody} → IsBody h b → IsBody h c → b ≡ c
  body_unique p.at_end p.at_end = refl
  body_unique (p.past_white w a) (p.past_white v b) = body_unique a b
  body_unique (p.past_white w a) (p.a_text v b) = white_or_not w v
  body_unique (p.a_text w a) (p.past_white v b) = white_or_not v w
  body_unique (p.a_text {s = s} w a) (p.a_text v b) = ap (w_text s) (body_unique a b)
  body_unique (p.a_literal {n = n} u l i a) (p.a_literal v k j b) = joined (w_element n) (body_unique i j) (body_unique a b)
  body_unique (p.a_literal {n = n} u l i a) (p.an_instruction {i = k} e d b) = not_literal n k e u
  body_unique (p.an_instruction {n = n} {i = k} e d a) (p.a_literal u l i b) = not_literal n k e u
  body_unique (p.an_instruction {n = n} {attributes = attributes} {scope = scope} {p = place} {kids = kids} {b = x} {c = y} {i = i} e d a) (p.an_instruction {b = v} {c = w} {i = j} f g b) =
      instruction_unique d (subst (λ k. IsInstruction k (tag n attributes scope place) kids x w) (some_is f e) (subst (λ z. IsInstruction j (tag n attributes scope place) kids z w) (sym (body_unique a b)) g))

  instruction_unique : {i : Instruction} {t : Tag} {h : RawTrees} {b c d : WrittenBody} → IsInstruction i t h b c → IsInstruction i t h b d → c ≡ d
  instruction_unique (p.apply_templates {b = x} o s m k) (p.apply_templates q r n l) =
      joined (λ u v. w_apply (or_all_children u) v x) (select_once _ s r) (mode_once _ m n)
  instruction_unique (p.call_template {t = t} {b = x} o n k) (p.call_template q m l) = ap (λ u. w_call u t.place x) (name_once _ n m)
  instruction_unique (p.value_of_path {b = x} o s k) (p.value_of_path q r l) = ap (λ u. w_value u x) (same_path (value_once _ s r))
  instruction_unique (p.value_of_path o s k) (p.value_of_itself q r l) = self_or_path s r
  instruction_unique (p.value_of_itself o s k) (p.value_of_path q r l) = self_or_path r s
  instruction_unique (p.value_of_itself o s k) (p.value_of_itself q r l) = refl
  instruction_unique (p.for_each {b = x} o s i) (p.for_each q r j) = joined (λ u v. w_each u v x) (path_once _ s r) (body_unique i j)
  instruction_unique (p.an_if {b = x} o s i) (p.an_if q r j) = joined (λ u v. w_choose (w_branch u v (w_otherwise w_nothing)) x) (test_once _ s r) (body_unique i j)
  instruction_unique (p.a_choose {b = x} o s) (p.a_choose q r) = ap (λ u. w_choose u x) (branches_unique s r)
  instruction_unique (p.a_text_element {b = x} o s) (p.a_text_element q r) = ap (λ u. w_text u x) (characters_unique s r)
  instruction_unique (p.a_copy {b = x} o i) (p.a_copy q j) = ap (λ u. w_copy u x) (body_unique i j)
  instruction_unique (p.an_element {b = x} o n i) (p.an_element q m j) = joined (λ u v. w_element u v x) (element_once _ n m) (body_unique i j)
  instruction_unique p.an_attribute p.an_attribute = refl
  instruction_unique (p.copy_of_attributes o e s k) (p.copy_of_attributes q f r l) = refl

  branches_unique : {h : RawTrees} {x y : WrittenBranches} → AreBranches h x → AreBranches h y → x ≡ y
  branches_unique p.no_otherwise p.no_otherwise = refl
  branches_unique (p.between w a) (p.between v b) = branches_unique a b
  branches_unique (p.a_when {inner = u} {x = x} o s i a) (p.a_when {test = t} q r j b) =
      ap (λ z. w_branch z u x) (test_once _ s r) ∙ joined (w_branch t) (body_unique i j) (branches_unique a b)
  branches_unique (p.a_when o s i a) (p.an_otherwise q j b) = absurd (when_or_otherwise _ o.name q.name)
  branches_unique (p.an_otherwise q j b) (p.a_when o s i a) = absurd (when_or_otherwise _ o.name q.name)
  branches_unique (p.an_otherwise o i a) (p.an_otherwise q j b) = ap w_otherwise (body_unique i j)

template_is : (t u : Template) → t.alternatives ≡ u.alternatives → t.name ≡ u.name → t.mode ≡ u.mode → t.body ≡ u.body → t.place ≡ u.place → t ≡ u
template_is t u a b c d e = λ i. record { alternatives = a i; name = b i; mode = c i; body = d i; place = e i }

template_unique : {s : Tag} {h : RawTrees} {t u : Template} → IsTemplate s h t → IsTemplate s h u → t ≡ u
template_unique {t = t} {u = u} a b =
    let patterns : a.alternatives ≡ b.alternatives = pattern_once _ a.pattern b.pattern in
    let priorities : a.priority ≡ b.priority = priority_once a.priorities b.priorities in
    template_is t u
    (a.kept ∙ (ap (λ x. with_priority x (or_none a.alternatives)) priorities ∙ (ap (λ x. with_priority b.priority (or_none x)) patterns ∙ sym b.kept)))
    (mode_once _ a.name b.name) (mode_once _ a.mode b.mode) (body_unique a.body b.body) (a.place ∙ sym b.place)

-- a template is no declaration and no element of another namespace
local_differs : (n : ExpandedName) (a b : List ℕ) → bytes_eq a b ≡ false → IsXsl a n → IsXsl b n → ⊥
local_differs n a b h e f = true≢false (sym ((bytes_eq-Decides a b).1 (ap (λ (m : ExpandedName). m.local) (sym e ∙ f))) ∙ h)

uri_is : (n : ExpandedName) (a : List ℕ) → IsXsl a n → n.uri ≡ xsl_uri
uri_is n a e = ap (λ (m : ExpandedName). m.uri) e

no_declaration : (n : ExpandedName) → IsXsl (codes "template") n → IsXsl (codes "output") n ⊎ IsXsl (codes "strip-space") n → ⊥
no_declaration n e (inl f) = local_differs n (codes "template") (codes "output") refl e f
no_declaration n e (inr f) = local_differs n (codes "template") (codes "strip-space") refl e f

declared_uri : (n : ExpandedName) → IsXsl (codes "output") n ⊎ IsXsl (codes "strip-space") n → n.uri ≡ xsl_uri
declared_uri n (inl f) = uri_is n (codes "output") f
declared_uri n (inr f) = uri_is n (codes "strip-space") f

templates_unique : {h : RawTrees} {ts us : List Template} → AreTemplates h ts → AreTemplates h us → ts ≡ us
templates_unique p.at_end p.at_end = refl
templates_unique (p.past_white w a) (p.past_white v b) = templates_unique a b
templates_unique (p.a_template x a) (p.a_template y b) = joined (λ t ts. t ∷ ts) (template_unique x y) (templates_unique a b)
templates_unique (p.a_template x a) (p.past_declaration d b) = absurd (no_declaration _ x.is_template.name d)
templates_unique (p.a_template x a) (p.past_other u v b) = absurd (v (uri_is _ (codes "template") x.is_template.name))
templates_unique (p.past_declaration d a) (p.a_template y b) = absurd (no_declaration _ y.is_template.name d)
templates_unique (p.past_declaration d a) (p.past_declaration e b) = templates_unique a b
templates_unique (p.past_declaration d a) (p.past_other u v b) = absurd (v (declared_uri _ d))
templates_unique (p.past_other u v a) (p.a_template y b) = absurd (v (uri_is _ (codes "template") y.is_template.name))
templates_unique (p.past_other u v a) (p.past_declaration e b) = absurd (v (declared_uri _ e))
templates_unique (p.past_other u v a) (p.past_other w x b) = templates_unique a b

pub stylesheet_unique : {h : RawTrees} {ts us : List Template} → IsStylesheet h ts → IsStylesheet h us → ts ≡ us
stylesheet_unique (p.a_stylesheet n o v a) (p.a_stylesheet m q w b) = templates_unique a b

-- a raw tree means one stylesheet at most, which is the one of a stylesheet without a fault
pub one_sheet_meaning : {raw : RawTrees} {s t : Sheet} → SheetMeans raw s → SheetMeans raw t → s ≡ t
one_sheet_meaning a b = a.means ∙ (ap (λ ts. sheet_of (filter is_used ts)) (stylesheet_unique a.written b.written) ∙ sym b.means)

pub sheet_means : {raw : RawTrees} {s : Sheet} → SheetText raw s → SheetMeans raw s
sheet_means a = record { templates = a.templates; written = a.written; means = a.means }

pub one_sheet : (raw : RawTrees) (s t : Sheet) → SheetText raw s → SheetText raw t → s ≡ t
one_sheet raw s t a b = one_sheet_meaning (sheet_means a) (sheet_means b)

-- the first of a list for which something holds
front_is : {X : Type 0} (P : X → Type 0) (before later : List X) (x y : X) (after rest : List X) → before ++ (x ∷ after) ≡ later ++ (y ∷ rest) → All (λ z. P z → ⊥) before → All (λ z. P z → ⊥) later → P x → P y → x ≡ y
front_is P [] [] x y after rest e a b h k = cc
front_is P [] (z ∷ later) x y after rest e a b h k = absurd (b 0 z (omega arith) (subst P (first_is e) h))
front_is P (z ∷ before) [] x y after rest e a b h k = absurd (a 0 z (omega arith) (subst P (sym (first_is e)) k))
front_is P (z ∷ before) (w ∷ later) x y after rest e a b h k = front_is P before later x y after rest (rest_is e) (All-tail (λ v. P v → ⊥) z before a) (All-tail (λ v. P v → ⊥) w later b) h k

pub first_unique : {X : Type 0} {P : X → Type 0} {xs : List X} {x y : X} → IsFirst P xs x → IsFirst P xs y → x ≡ y
first_unique {P = P} {x = x} {y = y} a b = front_is P a.before b.before x y a.after b.after (sym a.parts ∙ b.parts) a.not_before b.not_before a.holds b.holds

none_at : {X : Type 0} (P : X → Type 0) (before after : List X) (x : X) → All (λ y. P y → ⊥) (before ++ (x ∷ after)) → P x → ⊥
none_at P [] after x h k = h 0 x (omega arith) k
none_at P (z ∷ before) after x h k = none_at P before after x (All-tail (λ v. P v → ⊥) z (before ++ (x ∷ after)) h) k

none_first : {X : Type 0} (P : X → Type 0) (xs : List X) (x : X) → All (λ y. P y → ⊥) xs → IsFirst P xs x → ⊥
none_first P xs x h a = none_at P a.before a.after x (subst (λ ys. All (λ y. P y → ⊥) ys) a.parts h) a.holds

-- all calls are defined
abbrev Defined : List Template → Type 0
Defined ts = All (λ c. IsDefined (filter is_used ts) c.call) (calls_of (filter is_used ts))

all_defined : (ts : List Template) → Defined ts → All (λ c. IsUndefined (filter is_used ts) c → ⊥) (calls_of (filter is_used ts))
all_defined ts h k d l u = u (h k d l)

of_same : (ts us : List Template) (m n : StandingCall) → ts ≡ us → IsFirst (IsUndefined (filter is_used ts)) (calls_of (filter is_used ts)) m → IsFirst (IsUndefined (filter is_used us)) (calls_of (filter is_used us)) n → m ≡ n
of_same ts us m n e a b = first_unique a (subst (λ ts. IsFirst (IsUndefined (filter is_used ts)) (calls_of (filter is_used ts)) n) (sym e) b)

of_same_loop : (ts us : List Template) (m n : StandingCall) → ts ≡ us → IsFirst (IsLoop (filter is_used ts)) (calls_of (filter is_used ts)) m → IsFirst (IsLoop (filter is_used us)) (calls_of (filter is_used us)) n → m ≡ n
of_same_loop ts us m n e a b = first_unique a (subst (λ ts. IsFirst (IsLoop (filter is_used ts)) (calls_of (filter is_used ts)) n) (sym e) b)

no_undefined : (ts us : List Template) (c : StandingCall) → ts ≡ us → IsFirst (IsUndefined (filter is_used ts)) (calls_of (filter is_used ts)) c → Defined us → ⊥
no_undefined ts us c e a d = none_first (IsUndefined (filter is_used ts)) (calls_of (filter is_used ts)) c (all_defined ts (subst Defined (sym e) d)) a

place_of_call : (c d : StandingCall) → c ≡ d → c.call.place ≡ d.call.place
place_of_call c d e = ap (λ (x : StandingCall). x.call.place) e

-- a fault has one place, and then there is no stylesheet
pub one_sheet_fault : HasOneSheetFault
one_sheet_fault raw f g m n (of_undefined a u x) (of_undefined b v y) = (refl, place_of_call _ _ (of_same _ _ _ _ (stylesheet_unique a b) x y))
one_sheet_fault raw f g m n (of_undefined a u x) (of_loop b v d y) = absurd (no_undefined _ _ _ (stylesheet_unique a b) x d)
one_sheet_fault raw f g m n (of_loop a u c x) (of_undefined b v y) = absurd (no_undefined _ _ _ (stylesheet_unique b a) y c)
one_sheet_fault raw f g m n (of_loop a u c x) (of_loop b v d y) = (refl, place_of_call _ _ (of_same_loop _ _ _ _ (stylesheet_unique a b) x y))

pub no_sheet : HasNoSheet
no_sheet raw f m s (of_undefined a u x) t = no_undefined _ _ _ (stylesheet_unique a t.written) x t.defined
no_sheet raw f m s (of_loop {templates = ts} {c = c} a u d x) t =
    none_first (IsLoop (filter is_used ts)) (calls_of (filter is_used ts)) c
    (subst (λ us. All (λ c. IsLoop (filter is_used us) c → ⊥) (calls_of (filter is_used us))) (sym (stylesheet_unique a t.written)) t.no_loop) x
