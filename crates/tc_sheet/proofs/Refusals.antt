-- What a fault of a part of a tree says of the whole.
use Rattle.std.proofs.Common.{◌≡◌, ◌⊎◌, inl, inr, ℕ, List, refl, sym, subst, Option, Some, Contains}
use Rattle.tc_base.specs.declared.reasons.Why.{Why}
use Rattle.tc_model.specs.Names.{ExpandedName}
use Rattle.tc_model.specs.RawTrees.{Attribute, Bound, RawTrees, none, text, element}
use Rattle.tc_model.specs.Views.{name, place, attribute, raw_element}
use Rattle.tc_model.specs.PathTextTokens.{Token, IsTooDeep}
use Rattle.tc_model.specs.PathText.{Forms}
use Rattle.tc_model.specs.SheetTextPhrases.{tag, value_of, Optional, Required}
use Rattle.tc_model.specs.declared.tree.RawAttr.{RawAttr}
use Rattle.tc_model.specs.declared.tree.RawElem.{RawElem}
use Rattle.tc_model.proofs.PathTextLexing.{tokens_unique}
use Rattle.tc_path.specs.declared.PathFault.{PathFault}
use Rattle.tc_path.specs.declared.PathFault.TheVariants as path
use Rattle.tc_path.specs.Faults as paths
use Rattle.tc_path.specs.Faults.{FormsOnceRenamed, Deep}
use Rattle.tc_sheet.specs.Constructs.{Form, context_of, HasForm, MustHave, plain, in_path, IsUnrefusedElement}
use Rattle.tc_sheet.specs.LookedAt.{Where, Item, of_text, of_element, of_attribute, IsOpened, IsIn, IsAt, IsUnrefused, IsDeep}
use Rattle.tc_sheet.specs.LookedAt as looked
use Rattle.tc_sheet.specs.Views.{tag_of}
use Rattle.tc_sheet.specs.Changes.{Change, mended, flattened, both, Exchanges, IsRenamed}
use Rattle.tc_sheet.specs.PathFaults.{path_fault_at}
use Rattle.tc_sheet.specs.Readings.{Refuses, IsOfTag, itself, attribute_of, alone, attributes_of, scope_of, IsAttribute, HasNoRequired, HasNoOptional}
use Rattle.tc_sheet.specs.declared.faults.SheetFault.{SheetFault}
use Rattle.tc_sheet.specs.declared.faults.SheetFault.TheVariants.{Malformed, Unsupported, TooDeep, Undefined, CallLoop, NoMemory}
use Rattle.tc_sheet.proofs.Changes.{Becomes, value_becomes}
use Rattle.tc_sheet.proofs.SameBodies.{unpacked, optional_unpacked}
use Rattle.tc_sheet.proofs.Unrefused.{path_unrefused}

-- what is of the first is of the second
pub record Covers (Has Has' : Item → Type 0) : Type 0 where
  pub moves : (x : Item) → Has x → Has' x

pub moved : {Has Has' P : Item → Type 0} {q : ℕ} → Covers Has Has' → IsAt Has P q → IsAt Has' P q
moved v a = record { item = a.item; has = v.moves a.item a.has; holds = a.holds; stands = a.stands }

pub lifted : {P Q : Change → Type 0} {Has Has' : Item → Type 0} → Covers Has Has' → ((c : Change) → P c → Q c) → (e : SheetFault) → Refuses e Has P → Refuses e Has' Q
lifted v f (Malformed p) r = (moved v r.0, f both r.1)
lifted v f (Unsupported p why) r = (moved v r.0, f flattened r.1)
lifted v f (TooDeep p) r = (moved v r.0, f mended r.1)
lifted v f (Undefined p) r = r
lifted v f (CallLoop p) r = r
lifted v f NoMemory r = tt

pub covers_itself : (Has : Item → Type 0) → Covers Has Has
covers_itself Has = record { moves = λ x a. a }

pub both_cover : {Has Has' Third : Item → Type 0} → Covers Has Has' → Covers Has' Third → Covers Has Third
both_cover v w = record { moves = λ x a. w.moves x (v.moves x a) }

pub nothing_there : {w : Where} {x : Item} → IsIn w none x → ⊥
nothing_there a = elim a [ ]

module _ {n : ExpandedName} {olds : List Attribute} {scope : List Bound} {p : ℕ} {kids rest : RawTrees} where
  in_tag : {w v : Where} → IsOpened w n v → (x : Item) → IsOfTag (tag n olds scope p) x → IsIn w (element n olds scope p kids rest) x
  in_tag o x itself = looked.at_element
  in_tag o x (attribute_of a) = looked.at_attribute o a

  pub covers_tag : {w v : Where} → IsOpened w n v → Covers (IsOfTag (tag n olds scope p)) (IsIn w (element n olds scope p kids rest))
  covers_tag o = record { moves = λ x a. in_tag o x a }

  pub covers_kids : {w v : Where} → IsOpened w n v → Covers (IsIn v kids) (IsIn w (element n olds scope p kids rest))
  covers_kids o = record { moves = λ x a. looked.inside o a }

  pub covers_rest : {w v : Where} → looked.behind n w ≡ v → Covers (IsIn v rest) (IsIn w (element n olds scope p kids rest))
  covers_rest e = record { moves = λ x a. looked.beside_element (subst (λ u. IsIn u rest x) (sym e) a) }

  one_moves : {w : Where} (x : Item) → IsIn w (element n olds scope p kids none) x → IsIn w (element n olds scope p kids rest) x
  one_moves x looked.at_element = looked.at_element
  one_moves x (looked.at_attribute o a) = looked.at_attribute o a
  one_moves x (looked.inside o a) = looked.inside o a
  one_moves x (looked.beside_element a) = absurd (nothing_there a)

  pub covers_one : {w : Where} → Covers (IsIn w (element n olds scope p kids none)) (IsIn w (element n olds scope p kids rest))
  covers_one = record { moves = one_moves }

module _ {s : List ℕ} {p : ℕ} {rest : RawTrees} where
  pub covers_beside_text : {w : Where} → Covers (IsIn w rest) (IsIn w (text s p rest))
  covers_beside_text = record { moves = λ x a. looked.beside_text a }

  text_moves : {w : Where} (x : Item) → IsIn w (text s p none) x → IsIn w (text s p rest) x
  text_moves x looked.at_text = looked.at_text
  text_moves x (looked.beside_text a) = absurd (nothing_there a)

  pub covers_text : {w : Where} → Covers (IsIn w (text s p none)) (IsIn w (text s p rest))
  covers_text = record { moves = text_moves }

-- an element, and an attribute of it, at their places
pub itself_at : (e : RawElem) → IsUnrefusedElement (name e.name) → IsAt (alone e) IsUnrefused (place e.place)
itself_at e h = record { item = of_element (tag_of e); has = itself; holds = h; stands = refl }

pub attribute_at : (e : RawElem) (a : RawAttr) {P : Item → Type 0} → Contains (attributes_of e) (attribute a) → P (of_attribute (tag_of e) (attribute a)) → IsAt (alone e) P (place a.place)
attribute_at e a has h = record { item = of_attribute (tag_of e) (attribute a); has = attribute_of has; holds = h; stands = refl }

pub element_at : (w : Where) (e : RawElem) (rest : RawTrees) {P : Item → Type 0} → P (of_element (tag_of e)) → IsAt (IsIn w (raw_element e rest)) P (place e.place)
element_at w e rest h = record { item = of_element (tag_of e); has = looked.at_element; holds = h; stands = refl }

pub text_at : (w : Where) (s : List ℕ) (q : ℕ) (rest : RawTrees) → IsAt (IsIn w (text s q rest)) IsUnrefused q
text_at w s q rest = record { item = of_text q; has = looked.at_text; holds = λ why r. r; stands = refl }

-- an attribute whose text is exchanged for one of a form, once it is renamed
once_renamed : {P : List Token → Type 0} {s t : List ℕ} → IsRenamed s t → Forms P t → FormsOnceRenamed P s
once_renamed {P} r f =
    let same = tokens_unique f.are_tokens r.after in
    record { tokens = r.tokens; are_tokens = r.before; renamed = r.renamed; is_renamed = r.renames; not_too_deep = λ d. f.not_too_deep (subst IsTooDeep (sym same) d); phrase = subst P same f.phrase }

-- the fault of an attribute that is a path, a pattern or a test
module _ {V : Type 0} (IsPhrase : V → List Token → Type 0) (ctx : Form) (e : RawElem) (local : List ℕ) (a : RawAttr) (fits : MustHave (name e.name) (plain local) ctx) (at : IsAttribute e local a)
    (formed : HasForm ctx (scope_of e) (attribute a).value → (v : V) × Forms (IsPhrase v) (attribute a).value) where
  abbrev Means : List ℕ → V → Type 0
  Means s v = Forms (IsPhrase v) s

  abbrev written_text : List ℕ
  written_text = (attribute a).value

  -- whatever it may be exchanged for is of no form
  abbrev IsFormless : Change → Type 0
  IsFormless c = (t : List ℕ) → (t ≡ written_text) ⊎ Exchanges c written_text t → (v : V) → Means t v → ⊥

  formless_by : (c : Change) → IsFormless c → (u : Option (List ℕ)) (v : V) → Becomes c local (Some written_text) u → Required Means u v → ⊥
  formless_by c h u v (t, e, inl f) r = h t (inl f) v (unpacked (subst (λ w. Required Means w v) e r))
  formless_by c h u v (t, e, inr f) r = h t (inr f.1) v (unpacked (subst (λ w. Required Means w v) e r))

  formless : (c : Change) → IsFormless c → HasNoRequired e local Means c
  formless c h = λ olds v x r. formless_by c h (value_of local olds) v (subst (λ o. Becomes c local o (value_of local olds)) at.value (value_becomes c local x)) r

  formless_optional : (c : Change) → IsFormless c → HasNoOptional e local Means c
  formless_optional c h = λ olds o x r. by (value_of local olds) o (subst (λ o. Becomes c local o (value_of local olds)) at.value (value_becomes c local x)) r
    where
      by : (u : Option (List ℕ)) (o : Option V) → Becomes c local (Some written_text) u → Optional Means u o → ⊥
      by u o (t, e, inl f) r = let (v, k, m) = optional_unpacked (subst (λ w. Optional Means w o) e r) in h t (inl f) v m
      by u o (t, e, inr f) r = let (v, k, m) = optional_unpacked (subst (λ w. Optional Means w o) e r) in h t (inr f.1) v m

  abbrev HasNone : PathFault → Type 0
  HasNone fault = paths.OrNoMemory fault ((v : V) → Means written_text v → ⊥)

  abbrev RenamedHas : PathFault → Type 0
  RenamedHas fault = (v : V) → FormsOnceRenamed (IsPhrase v) written_text → paths.IsUnsupported fault

  malformed_formless : HasNone path.Malformed → paths.IsCause (context_of ctx) written_text path.Malformed → RenamedHas path.Malformed → IsFormless both
  malformed_formless refuted cause renamed t (inl f) v m = refuted v (subst (λ w. Means w v) f m)
  malformed_formless refuted cause renamed t (inr (inl r)) v m = renamed v (once_renamed r m)
  malformed_formless refuted cause renamed t (inr (inr d)) v m = cause.0 d

  unsupported_formless : (why : Why) → HasNone (path.Unsupported why) → paths.IsCause (context_of ctx) written_text (path.Unsupported why) → IsFormless flattened
  unsupported_formless why refuted cause t (inl f) v m = refuted v (subst (λ w. Means w v) f m)
  unsupported_formless why refuted cause t (inr d) v m = cause.not_too_deep (subst IsTooDeep (tokens_unique d.are_tokens cause.are_tokens) d.too_deep)

  deep_formless : HasNone path.TooDeep → RenamedHas path.TooDeep → IsFormless mended
  deep_formless refuted renamed t (inl f) v m = refuted v (subst (λ w. Means w v) f m)
  deep_formless refuted renamed t (inr r) v m = renamed v (once_renamed r m)

  of_context : MustHave (name e.name) (attribute a).name ctx
  of_context = subst (λ n. MustHave (name e.name) n ctx) (sym at.name) fits

  formless_text : (why : Why) → HasNone (path.Unsupported why) → HasForm ctx (scope_of e) written_text → ⊥
  formless_text why refuted f = let (v, m) = formed f in refuted v m

  not_refused : HasNone path.Malformed → paths.IsCause (context_of ctx) written_text path.Malformed → IsUnrefused (of_attribute (tag_of e) (attribute a))
  not_refused refuted cause = path_unrefused (name e.name) (scope_of e) (attribute a) ctx of_context (λ f. let (v, m) = formed f in refuted v m) cause.1

  pub path_refused : (fault : PathFault) → HasNone fault → paths.IsCause (context_of ctx) written_text fault → RenamedHas fault → Refuses (path_fault_at a.place fault) (alone e) (HasNoRequired e local Means)
  path_refused path.Malformed refuted cause renamed = (attribute_at e a at.has (not_refused refuted cause), formless both (malformed_formless refuted cause renamed))
  path_refused (path.Unsupported why) refuted cause renamed = (attribute_at e a at.has (in_path of_context (formless_text why refuted) cause), formless flattened (unsupported_formless why refuted cause))
  path_refused path.TooDeep refuted cause renamed = (attribute_at e a at.has (ctx, of_context, cause), formless mended (deep_formless refuted renamed))
  path_refused path.NoMemory refuted cause renamed = tt

  pub path_refused_optional : (fault : PathFault) → HasNone fault → paths.IsCause (context_of ctx) written_text fault → RenamedHas fault → Refuses (path_fault_at a.place fault) (alone e) (HasNoOptional e local Means)
  path_refused_optional path.Malformed refuted cause renamed = (attribute_at e a at.has (not_refused refuted cause), formless_optional both (malformed_formless refuted cause renamed))
  path_refused_optional (path.Unsupported why) refuted cause renamed = (attribute_at e a at.has (in_path of_context (formless_text why refuted) cause), formless_optional flattened (unsupported_formless why refuted cause))
  path_refused_optional path.TooDeep refuted cause renamed = (attribute_at e a at.has (ctx, of_context, cause), formless_optional mended (deep_formless refuted renamed))
  path_refused_optional path.NoMemory refuted cause renamed = tt
