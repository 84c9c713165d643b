-- Instructions that are read.
use Rattle.std.proofs.Common.{◌≡◌, ◌⊎◌, inl, inr, ℕ, List, [], ◌∷◌, refl, ap, ◌∙◌, sym, subst, Option, option_map, Bor}
use Rattle.std.specs.Prelude.{codes}
use Rattle.tc_model.specs.RawTrees.{Bound}
use Rattle.tc_model.specs.Views.{name, path, test, instruction, raw_trees}
use Rattle.tc_model.specs.Sheets as s
use Rattle.tc_model.specs.PathTextTokens.{Token}
use Rattle.tc_model.specs.PathText.{SelectText, ValueText, IsValue, of_self, of_path}
use Rattle.tc_model.specs.SheetTextTrees as t
use Rattle.tc_model.specs.SheetTextTrees.{WrittenBody}
use Rattle.tc_model.specs.SheetTextPhrases as p
use Rattle.tc_model.specs.SheetTextPhrases.{value_of, HasOnly, IsBlank, AreCharacters, NameText, ElementNameText, Optional, Required, or_all_children, IsInstruction, IsBody, i_apply, i_call, i_value, i_each, i_if, i_text, i_copy, i_element, i_copy_of}
use Rattle.tc_model.specs.declared.tree.Name.{Name}
use Rattle.tc_model.specs.declared.tree.RawElem.{RawElem}
use Rattle.tc_model.specs.declared.sheet.Path.{Path}
use Rattle.tc_model.specs.declared.sheet.Test.{Test}
use Rattle.tc_model.specs.declared.sheet.Instr.{Instr, Instr-F}
use Rattle.tc_model.specs.declared.sheet.Branch.{Branch}
use Rattle.tc_model.specs.declared.sheet.Instr.TheOpen as parts
use Rattle.tc_model.specs.declared.sheet.Instr.TheVariants as i
use Rattle.tc_model.specs.declared.sheet.Instr.TheViews.{roll-Instr, out-Instr, roll-out-Instr}
use Rattle.tc_model.proofs.ViewsBody as views
use Rattle.tc_sheet.specs.Readings.{attributes_of, scope_of, IsRead, HasTest, HasAttributesText}
use Rattle.tc_sheet.specs.Begun.{IsHead}
use Rattle.tc_sheet.specs.Views.{tag_of, written, body, branches}
use Rattle.tc_sheet.specs.declared.written.Written.{Written}
use Rattle.tc_sheet.specs.declared.written.WrittenBranch.{WrittenBranch}
use Rattle.tc_sheet.specs.declared.written.Written.TheVariants as v
use Rattle.tc_sheet.specs.declared.bodies.Head.TheVariants as heads
use Rattle.tc_sheet.proofs.ViewsWritten.{see_text, see_apply, see_call, see_value_of, see_value_of_self, see_choose}
use Rattle.tc_sheet.proofs.LeafLaws.{each_body, if_body, copy_body, element_body}

-- a value that is a path, or `.`
self_or_path : {scope : List Bound} {x : s.Body} {ts : List Token} → IsValue scope x ts → (x ≡ s.value_of_self s.no_instruction) ⊎ ((q : s.Path) × (x ≡ s.value q s.no_instruction))
self_or_path of_self = inl refl
self_or_path (of_path {p = q} a) = inr (q, refl)

abbrev IsOther : Instr → Type 0
IsOther x = ((w : Path) → x ≡ i.ValueOf w → ⊥) → (q : s.Path) → instruction x s.no_instruction ≡ s.value q s.no_instruction → ⊥

is_other : (x : Instr) {b : s.Body} → instruction x s.no_instruction ≡ b → ((q : s.Path) → b ≡ s.value q s.no_instruction → ⊥) → IsOther x
is_other x e f h q g = f q (sym e ∙ g)

other_layer : (f : Instr-F Instr Branch) → IsOther (roll-Instr f)
other_layer (parts.Text x) = subst IsOther (sym (i.rolls-Text x)) (is_other (i.Text x) (views.see_text x s.no_instruction) (λ q e. cc))
other_layer (parts.Elem n b) = subst IsOther (sym (i.rolls-Elem n b)) (is_other (i.Elem n b) (views.see_elem n b s.no_instruction) (λ q e. cc))
other_layer (parts.Copy b) = subst IsOther (sym (i.rolls-Copy b)) (is_other (i.Copy b) (views.see_copy b s.no_instruction) (λ q e. cc))
other_layer (parts.Apply w m) = subst IsOther (sym (i.rolls-Apply w m)) (is_other (i.Apply w m) (views.see_apply w m s.no_instruction) (λ q e. cc))
other_layer (parts.Call n) = subst IsOther (sym (i.rolls-Call n)) (is_other (i.Call n) (views.see_call n s.no_instruction) (λ q e. cc))
other_layer (parts.ValueOf w) = λ h q e. h w (i.rolls-ValueOf w)
other_layer parts.ValueOfSelf = subst IsOther (sym i.rolls-ValueOfSelf) (is_other i.ValueOfSelf (views.see_value_of_self s.no_instruction) (λ q e. cc))
other_layer (parts.Choose bs b) = subst IsOther (sym (i.rolls-Choose bs b)) (is_other (i.Choose bs b) (views.see_choose bs b s.no_instruction) (λ q e. cc))
other_layer (parts.ForEach n w b) = subst IsOther (sym (i.rolls-ForEach n w b)) (is_other (i.ForEach n w b) (views.see_for_each n w b s.no_instruction) (λ q e. cc))

no_path : (x : Instr) → IsOther x
no_path x = subst IsOther (roll-out-Instr x) (other_layer (out-Instr x))

required_value : {scope : List Bound} {o : Option (List ℕ)} {x : s.Body} → Required (ValueText scope) o x → (x ≡ s.value_of_self s.no_instruction) ⊎ ((q : s.Path) × (x ≡ s.value q s.no_instruction))
required_value (p.is_given m) = self_or_path m.phrase

module _ (e : RawElem) where
  abbrev Select : Option s.Path → Type 0
  Select q = Optional (SelectText (scope_of e)) (value_of (codes "select") (attributes_of e)) q

  abbrev ReadAs : s.Body → Type 0
  ReadAs b = Required (ValueText (scope_of e)) (value_of (codes "select") (attributes_of e)) b

  pub apply_read : (q : Option s.Path) (w : Path) (m : Option Name) → HasOnly (codes "select" ∷ codes "mode" ∷ []) (attributes_of e) → Select q
      → Optional (NameText (scope_of e)) (value_of (codes "mode") (attributes_of e)) (option_map name m) → IsBlank (raw_trees e.kids.now) → path w ≡ or_all_children q → IsRead i_apply e (written (v.Apply w m))
  apply_read q w m o a b k f = λ rest.
      subst (IsInstruction i_apply (tag_of e) (raw_trees e.kids.now) rest) (sym (see_apply w m rest ∙ ap (λ x. t.w_apply x (option_map name m) rest) f)) (p.apply_templates o a b k)

  pub call_read : (n : Name) → HasOnly (codes "name" ∷ []) (attributes_of e) → Required (NameText (scope_of e)) (value_of (codes "name") (attributes_of e)) (name n) → IsBlank (raw_trees e.kids.now)
      → IsRead i_call e (written (v.Call n e.place))
  call_read n o a k = λ rest. subst (IsInstruction i_call (tag_of e) (raw_trees e.kids.now) rest) (sym (see_call n e.place rest)) (p.call_template o a k)

  pub path_read : (x : Instr) (w : Path) → x ≡ i.ValueOf w → HasOnly (codes "select" ∷ []) (attributes_of e) → ReadAs (instruction x s.no_instruction) → IsBlank (raw_trees e.kids.now) → IsRead i_value e (written (v.ValueOf w))
  path_read x w f o a k = λ rest.
      subst (IsInstruction i_value (tag_of e) (raw_trees e.kids.now) rest) (sym (see_value_of w rest))
      (p.value_of_path o (subst ReadAs (ap (λ (y : Instr). instruction y s.no_instruction) f ∙ views.see_value_of w s.no_instruction) a) k)

  pub self_read : (x : Instr) → ((w : Path) → x ≡ i.ValueOf w → ⊥) → HasOnly (codes "select" ∷ []) (attributes_of e) → ReadAs (instruction x s.no_instruction) → IsBlank (raw_trees e.kids.now) → IsRead i_value e (written v.ValueOfSelf)
  self_read x refuses o a k = λ rest. subst (IsInstruction i_value (tag_of e) (raw_trees e.kids.now) rest) (sym (see_value_of_self rest)) (p.value_of_itself o (subst ReadAs (by (required_value a)) a) k)
    where
      by : (instruction x s.no_instruction ≡ s.value_of_self s.no_instruction) ⊎ ((q : s.Path) × (instruction x s.no_instruction ≡ s.value q s.no_instruction)) → instruction x s.no_instruction ≡ s.value_of_self s.no_instruction
      by (inl f) = f
      by (inr (q, f)) = absurd (no_path x refuses q f)

  pub text_read : (x : Bor (List ℕ)) → HasOnly [] (attributes_of e) → AreCharacters (raw_trees e.kids.now) x.now → IsRead i_text e (written (v.Text x))
  text_read x o a = λ rest. subst (IsInstruction i_text (tag_of e) (raw_trees e.kids.now) rest) (sym (see_text x rest)) (p.a_text_element o a)

  pub copy_of_read : HasOnly (codes "select" ∷ []) (attributes_of e) → HasAttributesText (scope_of e) (attributes_of e) → IsBlank (raw_trees e.kids.now) → IsRead i_copy_of e (λ b. b)
  copy_of_read o a k = λ rest. p.copy_of_attributes o a.has a.text k

  pub each_head : (w : Path) → HasOnly (codes "select" ∷ []) (attributes_of e) → Required (SelectText (scope_of e)) (value_of (codes "select") (attributes_of e)) (path w) → IsHead i_each e (heads.ForEach w)
  each_head w o a = record { holds = refl; makes = λ inner b j. p.for_each o a j; needs = λ g kids b d y. each_body y }

  pub if_head : (u : Test) → HasTest (scope_of e) (attributes_of e) (test u) → IsHead i_if e (heads.If u)
  if_head u a = record { holds = refl; makes = λ inner b j. p.an_if a.only a.test j; needs = λ g kids b d y. if_body y }

  pub copy_head : HasOnly [] (attributes_of e) → IsHead i_copy e heads.Copy
  copy_head o = record { holds = refl; makes = λ inner b j. p.a_copy o j; needs = λ g kids b d y. copy_body y }

  pub element_head : (n : Name) → HasOnly (codes "name" ∷ []) (attributes_of e) → Required (ElementNameText (scope_of e)) (value_of (codes "name") (attributes_of e)) (name n) → IsHead i_element e (heads.Element n)
  element_head n o a = record { holds = refl; makes = λ inner b j. p.an_element o a j; needs = λ g kids b d y. element_body y }

  pub no_attribute_read : IsRead p.i_attribute e (λ b. b)
  no_attribute_read = λ rest. p.an_attribute

pub if_made : (bs : Bor (List WrittenBranch)) (b : Bor (List Written)) (y x : WrittenBranch) → bs.now ≡ y ∷ [] → y ≡ x → b.now ≡ []
    → (rest : WrittenBody) → written (v.Choose bs b) rest ≡ t.w_choose (t.w_branch (test x.test) (body x.body.now) (t.w_otherwise t.w_nothing)) rest
if_made bs b y x e f g rest =
    see_choose bs b rest
    ∙ (ap (λ l. t.w_choose (branches l (t.w_otherwise (body b.now))) rest) (e ∙ ap (λ z. z ∷ []) f)
    ∙ ap (λ l. t.w_choose (t.w_branch (test x.test) (body x.body.now) (t.w_otherwise (body l))) rest) g)
