-- The names and texts of a stylesheet are lawful where those of its tree are.
use Rattle.std.proofs.Common.{◌≡◌, ℕ, ℤ, List, [], ◌∷◌, refl, sym, subst, Option, None, Some, map}
use Rattle.std.specs.List.{AllByRecursion}
use Rattle.tc_model.specs.Names.{ExpandedName, IsChars, IsNcName, IsName}
use Rattle.tc_model.specs.RawTrees.{Bound, RawTrees}
use Rattle.tc_model.specs.Sheets.{Path, Test, Body, no_instruction, value}
use Rattle.tc_model.specs.WellFormed.{IsPath, IsTest}
use Rattle.tc_model.specs.PathText.{SelectText, ValueText, PatternText, TestText, IsTest as IsTestOf, IsValue, of_path, of_tests}
use Rattle.tc_model.specs.PathTextPhrases.{Alternative}
use Rattle.tc_model.specs.XmlTextNames.{QualifiedName, QNameAt, unprefixed, prefixed}
use Rattle.tc_model.specs.XmlTextScopes.{ElementName, bound, unbound}
use Rattle.tc_model.specs.XmlTextLaws.{IsLawfulBound, AreLawfulWithin}
use Rattle.tc_model.specs.SheetTextTrees.{WrittenBody, w_nothing, w_text, w_element, w_copy, w_apply, w_call, w_value, w_self, w_choose, w_each, WrittenBranches, w_otherwise, w_branch, Template}
use Rattle.tc_model.specs.SheetTextPhrases as p
use Rattle.tc_model.specs.SheetTextPhrases.{AreCharacters, no_characters, characters, ElementNameText, Optional, left_out, given, Required, is_given, or_all_children, with_priority, or_none, Tag, tag, Instruction, IsBody, IsInstruction, AreBranches, IsTemplate, AreTemplates, IsStylesheet}
use Rattle.tc_model.proofs.XmlTextChars.{join_chars}
use Rattle.tc_sheet.proofs.LawfulPaths.{AreLawful, tokens_lawful, uri_lawful, no_uri, disjunction_lawful, select_lawful, or_lawful, AreAlternatives, pattern_lawful}

abbrev mutual
  -- names, paths and texts are lawful
  pub IsWritten : WrittenBody → Type 0
  IsWritten w_nothing = Unit {0}
  IsWritten (w_text s b) = IsChars s × IsWritten b
  IsWritten (w_element n inner b) = IsName n × IsWritten inner × IsWritten b
  IsWritten (w_copy inner b) = IsWritten inner × IsWritten b
  IsWritten (w_apply q mode b) = IsPath q × IsWritten b
  IsWritten (w_call n q b) = IsWritten b
  IsWritten (w_value q b) = IsPath q × IsWritten b
  IsWritten (w_self b) = IsWritten b
  IsWritten (w_choose x b) = AreWritten x × IsWritten b
  IsWritten (w_each q inner b) = IsPath q × IsWritten inner × IsWritten b

  pub AreWritten : WrittenBranches → Type 0
  AreWritten (w_otherwise b) = IsWritten b
  AreWritten (w_branch t b x) = IsTest t × IsWritten b × AreWritten x

local_lawful : {bs after : List ℕ} {n : QualifiedName} → QNameAt bs n after → IsNcName n.local
local_lawful (unprefixed n e) = n.lawful
local_lawful (prefixed n m) = m.lawful

module _ {scope : List Bound} (lawful : AllByRecursion IsLawfulBound scope) where
  pub select_text_lawful : {s : List ℕ} {q : Path} → SelectText scope s q → IsPath q
  select_text_lawful f = (select_lawful lawful f.phrase.select (tokens_lawful f.are_tokens)).0

  pub test_text_lawful : {s : List ℕ} {t : Test} → TestText scope s t → IsTest t
  test_text_lawful f = by f.phrase (tokens_lawful f.are_tokens)
    where
      by : {t : Test} {ts : List _} → IsTestOf scope t ts → AreLawful ts → IsTest t
      by (of_tests {us = us} u) a = disjunction_lawful us (or_lawful lawful u a).0

  value_of_phrase : {q : Path} {ts : List _} → IsValue scope (value q no_instruction) ts → AreLawful ts → IsPath q
  value_of_phrase (of_path s) a = (select_lawful lawful s a).0

  pub value_text_lawful : {s : List ℕ} {q : Path} → ValueText scope s (value q no_instruction) → IsPath q
  value_text_lawful f = value_of_phrase f.phrase (tokens_lawful f.are_tokens)

  pub pattern_text_lawful : {s : List ℕ} {xs : List Alternative} → PatternText scope s xs → AreAlternatives xs
  pattern_text_lawful f = pattern_lawful lawful f.phrase (tokens_lawful f.are_tokens)

  element_name_lawful : {q : QualifiedName} {n : ExpandedName} → ElementName scope q n → IsNcName q.local → IsName n
  element_name_lawful (bound {name = q} {uri = uri} e) a = (uri_lawful scope q.prefix uri lawful e, a)
  element_name_lawful (unbound e f) a = (no_uri, a)

  pub element_text_lawful : {s : List ℕ} {n : ExpandedName} → ElementNameText scope s n → IsName n
  element_text_lawful f = element_name_lawful f.means (local_lawful f.is_name)

  required_path : {o : Option (List ℕ)} {q : Path} → Required (SelectText scope) o q → IsPath q
  required_path (is_given m) = select_text_lawful m

  required_test : {o : Option (List ℕ)} {t : Test} → Required (TestText scope) o t → IsTest t
  required_test (is_given m) = test_text_lawful m

  required_value : {o : Option (List ℕ)} {v : Body} (q : Path) → v ≡ value q no_instruction → Required (ValueText scope) o v → IsPath q
  required_value q e (is_given {s = s} m) = value_text_lawful (subst (ValueText scope s) e m)

  required_element : {o : Option (List ℕ)} {n : ExpandedName} → Required (ElementNameText scope) o n → IsName n
  required_element (is_given m) = element_text_lawful m

  optional_path : {o : Option (List ℕ)} {q : Option Path} → Optional (SelectText scope) o q → IsPath (or_all_children q)
  optional_path left_out = ((λ e. cc), (tt, tt, tt), tt)
  optional_path (given m) = select_text_lawful m

  optional_pattern : {o : Option (List ℕ)} {xs : Option (List Alternative)} → Optional (PatternText scope) o xs → AreAlternatives (or_none xs)
  optional_pattern left_out = tt
  optional_pattern (given m) = pattern_text_lawful m

-- no text is the lawful text
no_chars : IsChars []
no_chars = ([], refl, refl)

characters_lawful : (total : ℕ) {h : RawTrees} {s : List ℕ} → AreLawfulWithin total h → AreCharacters h s → IsChars s
characters_lawful total a no_characters = no_chars
characters_lawful total a (characters {s = s} {t = t} b) = join_chars s t a.0.1 (characters_lawful total a.2 b)

module _ (total : ℕ) where
  mutual
    pub body_lawful : {h : RawTrees} {b : WrittenBody} → AreLawfulWithin total h → IsBody h b → IsWritten b
    body_lawful a p.at_end = tt
    body_lawful a (p.past_white w b) = body_lawful a.2 b
    body_lawful a (p.a_text w b) = (a.0.1, body_lawful a.2 b)
    body_lawful a (p.a_literal u l i b) = (a.0, body_lawful a.4 i, body_lawful a.5 b)
    body_lawful a (p.an_instruction e d b) = instruction_lawful a.2 a.4 d (body_lawful a.5 b)

    instruction_lawful : {i : Instruction} {t : Tag} {h : RawTrees} {b c : WrittenBody} → AllByRecursion IsLawfulBound t.scope → AreLawfulWithin total h → IsInstruction i t h b c → IsWritten b → IsWritten c
    instruction_lawful l a (p.apply_templates o s m k) r = (optional_path l s, r)
    instruction_lawful l a (p.call_template o n k) r = r
    instruction_lawful l a (p.value_of_path {path = q} o s k) r = (required_value l q refl s, r)
    instruction_lawful l a (p.value_of_itself o s k) r = r
    instruction_lawful l a (p.for_each o s i) r = (required_path l s, body_lawful a i, r)
    instruction_lawful l a (p.an_if o s i) r = ((required_test l s, body_lawful a i, tt), r)
    instruction_lawful l a (p.a_choose o s) r = (branches_lawful a s, r)
    instruction_lawful l a (p.a_text_element o s) r = (characters_lawful total a s, r)
    instruction_lawful l a (p.a_copy o i) r = (body_lawful a i, r)
    instruction_lawful l a (p.an_element o n i) r = (required_element l n, body_lawful a i, r)
    instruction_lawful l a p.an_attribute r = r
    instruction_lawful l a (p.copy_of_attributes o e s k) r = r

    branches_lawful : {h : RawTrees} {x : WrittenBranches} → AreLawfulWithin total h → AreBranches h x → AreWritten x
    branches_lawful a p.no_otherwise = tt
    branches_lawful a (p.between w b) = branches_lawful a.2 b
    branches_lawful a (p.a_when o s i b) = (required_test a.2 s, body_lawful a.4 i, branches_lawful a.5 b)
    branches_lawful a (p.an_otherwise o i b) = body_lawful a.4 i

  priority_lawful : (x : Option ℤ) (xs : List Alternative) → AreAlternatives xs → AreAlternatives (with_priority x xs)
  priority_lawful None xs a = a
  priority_lawful (Some x) xs a = each xs a
    where
      each : (xs : List Alternative) → AreAlternatives xs → AreAlternatives (map (λ b. record { pattern = b.pattern; priority = x }) xs)
      each [] a = tt
      each (y ∷ ys) a = (a.0, each ys a.1)

  -- a template whose alternatives and body are lawful
  pub record IsLawfulTemplate (t : Template) : Type 0 where
    pub alternatives : AreAlternatives t.alternatives
    pub body : IsWritten t.body

  abbrev pub AreTemplatesLawful : List Template → Type 0
  AreTemplatesLawful [] = Unit {0}
  AreTemplatesLawful (t ∷ ts) = IsLawfulTemplate t × AreTemplatesLawful ts

  template_lawful : {s : Tag} {h : RawTrees} {t : Template} → AllByRecursion IsLawfulBound s.scope → AreLawfulWithin total h → IsTemplate s h t → IsLawfulTemplate t
  template_lawful {t = t} l a b =
      record { alternatives = subst AreAlternatives (sym b.kept) (priority_lawful b.priority (or_none b.alternatives) (optional_pattern l b.pattern)); body = body_lawful a b.body }

  templates_lawful : {h : RawTrees} {ts : List Template} → AreLawfulWithin total h → AreTemplates h ts → AreTemplatesLawful ts
  templates_lawful a p.at_end = tt
  templates_lawful a (p.past_white w b) = templates_lawful a.2 b
  templates_lawful a (p.a_template t b) = (template_lawful a.2 a.4 t, templates_lawful a.5 b)
  templates_lawful a (p.past_declaration d b) = templates_lawful a.5 b
  templates_lawful a (p.past_other u v b) = templates_lawful a.5 b

  pub stylesheet_lawful : {h : RawTrees} {ts : List Template} → AreLawfulWithin total h → IsStylesheet h ts → AreTemplatesLawful ts
  stylesheet_lawful a (p.a_stylesheet n o v b) = templates_lawful a.4 b
