-- What the phrases of a document show of the whole.
use Rattle.std.proofs.Common.{◌≡◌, ℕ, Bool, false, List, [], ◌∷◌, sym, subst, length}
use Rattle.tc_model.specs.RawTrees.{RawTrees}
use Rattle.tc_model.specs.XmlTextContent.{Piece, ElementAt}
use Rattle.tc_base.specs.declared.reasons.Why.{Why}
use Rattle.tc_base.specs.declared.reasons.Why.TheVariants.{DoctypeSubset}
use Rattle.tc_model.specs.XmlText.{after_mark, Reads}
use Rattle.tc_model.specs.XmlTextMisc.{DeclarationAt, MiscAt, DoctypeFrontAt, DoctypeAt}
use Rattle.tc_model.specs.XmlTextNames.{QualifiedName, QNameAt}
use Rattle.tc_model.specs.XmlTextScopes.{first_scope}
use Rattle.tc_model.specs.XmlTextRefusals as refusals
use Rattle.tc_model.specs.XmlTextRefusals.{Cause, unsupported, AttributesRefuse, TagRefuses, DeclarationRefuses, DocumentRefuses, ElementRefuses}
use Rattle.tc_model.proofs.XmlTextPhrases.{declaration_unique, misc_unique, doctype_unique}
use Rattle.tc_model.proofs.XmlTextUnique.{element_unique}
use Rattle.tc_xml.specs.declared.faults.Stop.{Stop}
use Rattle.tc_xml.specs.declared.faults.Stop.TheVariants.{Malformed, Unsupported, TooDeep, NoMemory}
use Rattle.tc_xml.specs.Refusals.{RefusesWithin, UnsupportedAt, RefusedAt}
use Rattle.tc_xml.specs.Tags.{Breaks}
use Rattle.tc_xml.proofs.ContentLaws.{element_loosened}

-- why a text has no root element, where one of the phrases before it is missing
pub no_declaration_before : (text start : List ℕ) → start ≡ after_mark text → ((after : List ℕ) → DeclarationAt start after → ⊥)
    → (d m root : List ℕ) → DeclarationAt (after_mark text) d → MiscAt d m → DoctypeAt m root → ⊥
no_declaration_before text start e k d m root a n x = k d (subst (λ w. DeclarationAt w d) (sym e) a)

pub no_misc_before : (text start past : List ℕ) → start ≡ after_mark text → DeclarationAt start past → ((after : List ℕ) → MiscAt past after → ⊥)
    → (d m root : List ℕ) → DeclarationAt (after_mark text) d → MiscAt d m → DoctypeAt m root → ⊥
no_misc_before text start past e a k d m root b n x = k m (subst (λ w. MiscAt w m) (declaration_unique (subst (λ w. DeclarationAt w d) (sym e) b) a) n)

pub no_doctype_before : (text start past behind : List ℕ) → start ≡ after_mark text → DeclarationAt start past → MiscAt past behind → ((root : List ℕ) → DoctypeAt behind root → ⊥)
    → (d m root : List ℕ) → DeclarationAt (after_mark text) d → MiscAt d m → DoctypeAt m root → ⊥
no_doctype_before text start past behind e a b k d m root c n x =
    let first = declaration_unique (subst (λ w. DeclarationAt w d) (sym e) c) a in
    let second = misc_unique (subst (λ w. MiscAt w m) first n) b in
    k root (subst (λ w. DoctypeAt w root) second x)

-- and so no tree
pub no_root_here : (o : Bool) (d : ℕ) (text : List ℕ) → ((d m root : List ℕ) → DeclarationAt (after_mark text) d → MiscAt d m → DoctypeAt m root → ⊥) → (h : RawTrees) → Reads o d text h → ⊥
no_root_here o d text k h r = k r.past_declaration r.past_misc r.root r.declaration r.misc r.doctype

-- what comes before the root element has one reading
root_of : (o : Bool) (d : ℕ) (text past behind root : List ℕ) → DeclarationAt (after_mark text) past → MiscAt past behind → DoctypeAt behind root
    → (h : RawTrees) (m : Reads o d text h) → m.root ≡ root
root_of o d text past behind root a b c h m =
    let first = declaration_unique m.declaration a in
    let second = misc_unique (subst (λ w. MiscAt w m.past_misc) first m.misc) b in
    doctype_unique (subst (λ w. DoctypeAt w m.root) second m.doctype) c

pub no_element_here : (o : Bool) (d : ℕ) (text past behind root : List ℕ) → DeclarationAt (after_mark text) past → MiscAt past behind → DoctypeAt behind root
    → ((p : Piece) (after : List ℕ) → ElementAt o (length text) first_scope d root p after → ⊥) → (h : RawTrees) → Reads o d text h → ⊥
no_element_here o d text past behind root a b c k h m =
    k m.piece m.past_root (subst (λ w. ElementAt o (length text) first_scope d w m.piece m.past_root) (root_of o d text past behind root a b c h m) m.element)

pub no_end_here : (o : Bool) (deep d : ℕ) (text past behind root rest : List ℕ) (p : Piece) → DeclarationAt (after_mark text) past → MiscAt past behind → DoctypeAt behind root
    → ElementAt false (length text) first_scope deep root p rest → (MiscAt rest [] → ⊥) → (h : RawTrees) → Reads o d text h → ⊥
no_end_here o deep d text past behind root rest p a b c f k h m =
    let here = subst (λ w. ElementAt o (length text) first_scope d w m.piece m.past_root) (root_of o d text past behind root a b c h m) m.element in
    k (subst (λ w. MiscAt w []) (element_unique here (element_loosened f)).1 m.end)

pub no_more_here : (rest end : List ℕ) → MiscAt rest end → (end ≡ [] → ⊥) → MiscAt rest [] → ⊥
no_more_here rest end a some b = some (misc_unique a b)

-- where a text is refused
pub declaration_stands : (deep : ℕ) (text start : List ℕ) → start ≡ after_mark text → (why : Why) (at : List ℕ) → DeclarationRefuses start why at → DocumentRefuses deep text (unsupported why) at
declaration_stands deep text start e why at k = refusals.declaration (subst (λ w. DeclarationRefuses w why at) e k)

pub subset_stands : (deep : ℕ) (text start past behind : List ℕ) → start ≡ after_mark text → DeclarationAt start past → MiscAt past behind
    → (why : Why) (at : List ℕ) → (why ≡ DoctypeSubset) × ((r : List ℕ) × (at ≡ 0x5B ∷ r)) × DoctypeFrontAt behind at → DocumentRefuses deep text (unsupported why) at
subset_stands deep text start past behind e a b why at (is, (r, same), k) =
    let whole : DocumentRefuses deep text (unsupported DoctypeSubset) (0x5B ∷ r) = refusals.subset (subst (λ w. DeclarationAt w past) e a) b (subst (DoctypeFrontAt behind) same k) in
    subst (λ w. DocumentRefuses deep text (unsupported w) at) (sym is) (subst (DocumentRefuses deep text (unsupported DoctypeSubset)) (sym same) whole)

pub element_stands : (deep : ℕ) (text past behind root : List ℕ) → DeclarationAt (after_mark text) past → MiscAt past behind → DoctypeAt behind root
    → (cause : Cause) (at : List ℕ) → ElementRefuses (length text) first_scope deep root cause at → DocumentRefuses deep text cause at
element_stands deep text past behind root a b c cause at k = refusals.element a b c k

pub list_stands : (text start behind : List ℕ) (w : QualifiedName) → text ≡ 0x3C ∷ start → QNameAt start w behind → (why : Why) (at : List ℕ) → AttributesRefuse behind why at → TagRefuses text why at
list_stands text start behind w e n why at k = record { rest = start; written = w; past_name = behind; opens = e; names = n; attributes = k }

pub breaks_nowhere : (e : Stop) (P : Type 0) (Q : Why → List ℕ → Type 0) → Breaks e P → UnsupportedAt e Q
breaks_nowhere (Malformed left) P Q k = tt
breaks_nowhere (Unsupported left why) P Q k = absurd k
breaks_nowhere (TooDeep left) P Q k = k
breaks_nowhere NoMemory P Q k = tt

pub breaks_shallow : (e : Stop) (P : Type 0) (Q : Cause → List ℕ → Type 0) → Breaks e P → RefusedAt e Q
breaks_shallow (Malformed left) P Q k = tt
breaks_shallow (Unsupported left why) P Q k = absurd k
breaks_shallow (TooDeep left) P Q k = absurd k
breaks_shallow NoMemory P Q k = tt

pub breaks_within : (e : Stop) (P A B C : Type 0) → (P → A) → (P → B) → (P → C) → Breaks e P → RefusesWithin e A B C
breaks_within (Malformed left) P A B C f g h k = f k
breaks_within (Unsupported left why) P A B C f g h k = absurd k
breaks_within (TooDeep left) P A B C f g h k = absurd k
breaks_within NoMemory P A B C f g h k = tt
