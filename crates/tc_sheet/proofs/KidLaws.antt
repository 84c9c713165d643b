-- Texts alone, of white space or of any characters.
use Rattle.std.proofs.Common.{◌≡◌, ℕ, List, [], ◌∷◌, ◌++◌, refl, ap, ◌∙◌, sym, subst, append_assoc, IsTrue, IsFalse}
use Rattle.std.proofs.lemmas.Bool.{true≢false}
use Rattle.tc_model.specs.RawTrees.{Attribute, Bound, RawTrees, none, text, element}
use Rattle.tc_model.specs.Trees.{is_white_space_only}
use Rattle.tc_model.specs.Names.{ExpandedName}
use Rattle.tc_model.specs.Views.{raw_element}
use Rattle.tc_model.specs.SheetTextPhrases.{IsBlank, at_end, past_white, AreCharacters, no_characters, characters}
use Rattle.tc_model.specs.declared.tree.RawElem.{RawElem}
use Rattle.tc_sheet.specs.LookedAt.{in_blank, IsIn, IsAt, IsUnrefused}
use Rattle.tc_sheet.specs.Changes.{Change, both, Changed, a_text}
use Rattle.tc_sheet.specs.Readings.{Refuses, IsMisplaced, IsNotBlank, HasNoCharacters}
use Rattle.tc_sheet.specs.declared.faults.SheetFault.{SheetFault}
use Rattle.tc_sheet.proofs.Refusals.{Covers, lifted, moved, covers_itself, both_cover, covers_beside_text, text_at}
use Rattle.tc_sheet.proofs.BodyLaws.{by_element, misplaced_is}

no_blank_element : {n : ExpandedName} {bs : List Attribute} {scope : List Bound} {q : ℕ} {kids rest : RawTrees} → IsBlank (element n bs scope q kids rest) → ⊥
no_blank_element b = elim b [ ]

no_character_element : {n : ExpandedName} {bs : List Attribute} {scope : List Bound} {q : ℕ} {kids rest : RawTrees} {s : List ℕ} → AreCharacters (element n bs scope q kids rest) s → ⊥
no_character_element b = elim b [ ]

white_text : {s : List ℕ} {q : ℕ} {rest : RawTrees} → IsBlank (text s q rest) → IsTrue (is_white_space_only s) × IsBlank rest
white_text (past_white w b) = (w, b)

rest_characters : {s : List ℕ} {q : ℕ} {rest : RawTrees} {t : List ℕ} → AreCharacters (text s q rest) t → (u : List ℕ) × AreCharacters rest u
rest_characters (characters {t = u} a) = (u, a)

-- the texts of white space that are passed, and what is left
pub record BlankLoop (whole rest : RawTrees) : Type 0 where
  pub so_far : IsBlank rest → IsBlank whole
  pub no_more : (c : Change) → IsNotBlank rest c → IsNotBlank whole c
  pub covers : Covers (IsIn in_blank rest) (IsIn in_blank whole)

pub blank_begins : (whole : RawTrees) → BlankLoop whole whole
blank_begins whole = record { so_far = λ b. b; no_more = λ c g. g; covers = covers_itself (IsIn in_blank whole) }

blank_rest : {s : List ℕ} {q : ℕ} {rest : RawTrees} (c : Change) → IsNotBlank rest c → (k : RawTrees) → Changed c (text s q rest) k → IsBlank k → ⊥
blank_rest c g k (a_text {k = behind} h) b = g behind h (white_text b).1

black_text : {s : List ℕ} {q : ℕ} {rest : RawTrees} (c : Change) → IsFalse (is_white_space_only s) → (k : RawTrees) → Changed c (text s q rest) k → IsBlank k → ⊥
black_text c f k (a_text h) b = true≢false (sym (white_text b).0 ∙ f)

module _ {whole left rest : RawTrees} (l : BlankLoop whole left) where
  pub past_blank_text : (s : List ℕ) (q : ℕ) → left ≡ text s q rest → IsTrue (is_white_space_only s) → BlankLoop whole rest
  past_blank_text s q e w = record {
    so_far = λ b. l.so_far (subst IsBlank (sym e) (past_white w b));
    no_more = λ c g. l.no_more c (subst (λ h. IsNotBlank h c) (sym e) (blank_rest c g));
    covers = both_cover (subst (λ h. Covers (IsIn in_blank rest) (IsIn in_blank h)) (sym e) covers_beside_text) l.covers;
  }

  pub text_not_blank : (s : List ℕ) (q : ℕ) → left ≡ text s q rest → IsFalse (is_white_space_only s) → IsAt (IsIn in_blank whole) IsUnrefused q × IsNotBlank whole both
  text_not_blank s q e f = (moved l.covers (subst (λ h. IsAt (IsIn in_blank h) IsUnrefused q) (sym e) (text_at in_blank s q rest)), l.no_more both (subst (λ h. IsNotBlank h both) (sym e) (black_text both f)))

  pub element_not_blank : (e : RawElem) → left ≡ raw_element e rest → (x : SheetFault) → IsMisplaced e x → Refuses x (IsIn in_blank whole) (IsNotBlank whole)
  element_not_blank e is x r =
      lifted (both_cover (subst (λ h. Covers (IsIn in_blank (raw_element e rest)) (IsIn in_blank h)) (sym is) (covers_itself (IsIn in_blank (raw_element e rest)))) l.covers) (λ c h. l.no_more c (subst (λ h. IsNotBlank h c) (sym is) h)) x
      (misplaced_is in_blank e rest (IsNotBlank (raw_element e rest)) (λ c stays k u. by_element c stays (λ (k : RawTrees). IsBlank k → ⊥) (λ bs others behind v w z b. no_blank_element b) k u) x r)

-- the texts that are joined, and what is left
pub record TextLoop (whole rest : RawTrees) (all : List ℕ) : Type 0 where
  pub so_far : (s : List ℕ) → AreCharacters rest s → AreCharacters whole (all ++ s)
  pub no_more : (c : Change) → HasNoCharacters rest c → HasNoCharacters whole c
  pub covers : Covers (IsIn in_blank rest) (IsIn in_blank whole)

pub texts_begin : (whole : RawTrees) → TextLoop whole whole []
texts_begin whole = record { so_far = λ s b. b; no_more = λ c g. g; covers = covers_itself (IsIn in_blank whole) }

text_rest : {s : List ℕ} {q : ℕ} {rest : RawTrees} (c : Change) → HasNoCharacters rest c → (k : RawTrees) (t : List ℕ) → Changed c (text s q rest) k → AreCharacters k t → ⊥
text_rest c g k t (a_text {k = behind} h) b = let (u, a) = rest_characters b in g behind u h a

module _ {whole left rest : RawTrees} {all : List ℕ} (l : TextLoop whole left all) where
  pub one_more_text : (s now : List ℕ) (q : ℕ) → left ≡ text s q rest → now ≡ all ++ s → TextLoop whole rest now
  one_more_text s now q e f = record {
    so_far = λ t b. subst (AreCharacters whole) (sym (append_assoc all s t) ∙ ap (λ w. w ++ t) (sym f)) (l.so_far (s ++ t) (subst (λ h. AreCharacters h (s ++ t)) (sym e) (characters b)));
    no_more = λ c g. l.no_more c (subst (λ h. HasNoCharacters h c) (sym e) (text_rest c g));
    covers = both_cover (subst (λ h. Covers (IsIn in_blank rest) (IsIn in_blank h)) (sym e) covers_beside_text) l.covers;
  }

  pub element_no_characters : (e : RawElem) → left ≡ raw_element e rest → (x : SheetFault) → IsMisplaced e x → Refuses x (IsIn in_blank whole) (HasNoCharacters whole)
  element_no_characters e is x r =
      lifted (both_cover (subst (λ h. Covers (IsIn in_blank (raw_element e rest)) (IsIn in_blank h)) (sym is) (covers_itself (IsIn in_blank (raw_element e rest)))) l.covers) (λ c h. l.no_more c (subst (λ h. HasNoCharacters h c) (sym is) h)) x
      (misplaced_is in_blank e rest (HasNoCharacters (raw_element e rest)) (λ c stays k s u. by_element c stays (λ (k : RawTrees). AreCharacters k s → ⊥) (λ bs others behind v w z b. no_character_element b) k u) x r)

append_nothing : (s : List ℕ) → s ++ [] ≡ s
append_nothing [] = refl
append_nothing (b ∷ bs) = ap (λ w. b ∷ w) (append_nothing bs)

pub texts_end : {whole rest : RawTrees} {all : List ℕ} (s : List ℕ) → TextLoop whole rest all → rest ≡ none → s ≡ all → AreCharacters whole s
texts_end {whole} {all = all} s l e f = subst (AreCharacters whole) (append_nothing all ∙ sym f) (l.so_far [] (subst (λ h. AreCharacters h []) (sym e) no_characters))

pub blank_ends : {whole rest : RawTrees} → BlankLoop whole rest → rest ≡ none → IsBlank whole
blank_ends l e = l.so_far (subst IsBlank (sym e) at_end)
