-- A printed document is read back as itself.
use Rattle.std.proofs.Common.{◌≡◌, ℕ, suc, ◌≤◌, false, List, [], ◌∷◌, ◌++◌, refl, ap, ◌∙◌, sym, subst, length, arith, codes, append-nil, if◌then◌else◌}
use Rattle.tc_model.specs.Names.{ExpandedName, IsName, IsChars}
use Rattle.tc_model.specs.Trees.{Trees, none, text, element, joined, joined_to, dropped, AreLawful, IsNormal}
use Rattle.tc_model.specs.RawTrees as r
use Rattle.tc_model.specs.Stripped.{stripped}
use Rattle.tc_model.specs.Printed.{tag_name, declaration, default_within, is_none, printed_in, printed}
use Rattle.tc_model.specs.XmlTextMisc as misc
use Rattle.tc_model.specs.XmlTextContent.{whole}
use Rattle.tc_model.specs.XmlTextScopes.{first_scope}
use Rattle.tc_model.specs.XmlText.{Reads}
use Rattle.tc_model.proofs.NormalForm.{joined_twice}
use Rattle.tc_model.proofs.XmlTextPhrases.{same_others}
use Rattle.tc_print.specs.ReadBack.{nesting, IsShallowDocument, IsReadAs}
use Rattle.tc_print.proofs.ReadBackChars.{printed_chars}
use Rattle.tc_print.proofs.ReadBackTrees.{text_of_element, IsElement, element_at, content_of, no_name_begins}

-- adjacent texts are joined once
joined_before : (s : List ℕ) (h : Trees) → joined (joined_to s h) ≡ joined_to s (joined h)
joined_before s none = refl
joined_before s (text t rest) = sym (joined_twice s t (joined rest))
joined_before s (element n kids rest) = refl

joined_again : (h : Trees) → joined (joined h) ≡ joined h
joined_again none = refl
joined_again (text s rest) = joined_before s (joined rest) ∙ ap (joined_to s) (joined_again rest)
joined_again (element n kids rest) = ap (λ k. element n k (joined (joined rest))) (joined_again kids) ∙ ap (element n (joined kids)) (joined_again rest)

-- an element as a whole text
read_element : {deepest : ℕ} {n : ExpandedName} {kids : Trees} (rest : List ℕ) → IsChars (0x3C ∷ rest)
    → (e : IsElement (length (0x3C ∷ rest)) deepest first_scope (0x3C ∷ rest) n kids []) → Reads false deepest (0x3C ∷ rest) (r.element n [] e.within e.place e.raw r.none)
read_element {n = n} rest chars e = record {
  past_declaration = 0x3C ∷ rest;
  past_misc = 0x3C ∷ rest;
  root = 0x3C ∷ rest;
  past_root = [];
  piece = whole n [] e.within e.place e.raw;
  characters = chars;
  declaration = misc.no_declaration (λ q is white. no_name_begins 0x3F (codes "xml" ++ q) (omega arith) refl (same_others is) e.content);
  misc = misc.no_more (λ q is. no_name_begins 0x21 (codes "--" ++ q) (omega arith) refl (same_others is) e.content, λ q is. no_name_begins 0x3F q (omega arith) refl (same_others is) e.content);
  doctype = misc.no_doctype (λ q is. no_name_begins 0x21 (codes "DOCTYPE" ++ q) (omega arith) refl (same_others is) e.content);
  element = e.content;
  end = misc.no_more (λ q is. cc, λ q is. cc);
  is_tree = refl;
}

read_document : (m : ℕ) (n : ExpandedName) (kids : Trees) → IsName n → AreLawful kids → nesting kids ≤ m → IsNormal (element n kids none)
    → (raw : r.RawTrees) × Reads false (suc m) (printed (element n kids none)) raw × (stripped raw ≡ element n kids none)
read_document m n kids h k depth normal =
    let rest = tag_name n ++ (declaration [] n ++ (if is_none kids then 0x2F ∷ 0x3E ∷ [] else 0x3E ∷ (printed_in (default_within [] n) kids ++ 0x3C ∷ 0x2F ∷ (tag_name n ++ 0x3E ∷ [])))) in
    let same : printed (element n kids none) ≡ 0x3C ∷ rest = sym (append-nil (printed (element n kids none))) ∙ text_of_element [] n kids none [] in
    let e = element_at (length (0x3C ∷ rest)) m [] n kids [] h (λ q. content_of (length (0x3C ∷ rest)) m (default_within [] n) kids q k depth) in
    let there = read_element rest (subst IsChars same (printed_chars [] (element n kids none) (h, k, tt))) e in (
      r.element n [] e.within e.place e.raw r.none,
      subst (λ w. Reads false (suc m) w (r.element n [] e.within e.place e.raw r.none)) (sym same) there,
      ap (λ z. element n (dropped (joined z)) none) e.means ∙ (ap (λ z. element n (dropped z) none) (joined_again kids) ∙ normal),
    )

pub read_back : (t : Trees) → IsShallowDocument t → IsReadAs (printed t) t
read_back none d = absurd d.document.0
read_back (text s rest) d = absurd d.document.0
read_back (element n kids none) d =
    let (h, k, l) = d.document.1 in
    let (raw, spells, document) = read_document 1999 n kids h k (omega (arith, d.shallow)) d.document.2 in
    record { raw = raw; spells = spells; document = document }
read_back (element n kids (text s rest)) d = absurd (cc)
read_back (element n kids (element m k rest)) d = absurd (cc)
