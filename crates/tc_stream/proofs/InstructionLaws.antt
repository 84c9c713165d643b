-- A processing instruction that has ended, by its target and what follows it; and what begins none.
use Rattle.std.proofs.Common.{◌≡◌, inl, inr, ℕ, ◌<◌, ◌+◌, Bool, true, false, cond, ◌||◌, ◌==◌, List, [], ◌∷◌, ◌++◌, refl, ap, ◌∙◌, sym, subst, take, arith, codes, IsFalse, append_assoc}
use Rattle.std.specs.List.{prefix_len}
use Rattle.std.specs.Str.{str_eq_ignore_ascii_case}
use Rattle.std.proofs.lemmas.Bool.{true≢false, eqb-true}
use Rattle.std.proofs.lemmas.Str.{char_from_byte}
use Rattle.tc_base.specs.Characters.{is_white}
use Rattle.tc_model.specs.Names.{IsNcName, is_ncname_char}
use Rattle.tc_model.specs.XmlTextBytes.{BeginsWithWhite, length_before}
use Rattle.tc_model.specs.XmlTextNames.{NcNameAt}
use Rattle.tc_model.specs.XmlTextMisc.{InstructionAt}
use Rattle.tc_stream.specs.Scans.{before, instruction_scan}
use Rattle.tc_stream.proofs.ScanLaws.{then_scan, found_up_to, instruction_more, instruction_exact}

-- no name goes on with white space or a question mark

abbrev pub ends_name : ℕ → Bool
ends_name b = is_white b || b == 0x3F

pub name_stops : (b : ℕ) → ends_name b ≡ true → is_ncname_char b ≡ false
name_stops b h = by (b == 0x20) (b == 0x9) (b == 0xD) (b == 0xA) (b == 0x3F) refl refl refl refl refl h
  where
    by : (v w x y z : Bool) → (b == 0x20) ≡ v → (b == 0x9) ≡ w → (b == 0xD) ≡ x → (b == 0xA) ≡ y → (b == 0x3F) ≡ z → ((v || w || x || y) || z) ≡ true → is_ncname_char b ≡ false
    by true w x y z d e f g i h = ap is_ncname_char (eqb-true b 0x20 d)
    by false true x y z d e f g i h = ap is_ncname_char (eqb-true b 0x9 e)
    by false false true y z d e f g i h = ap is_ncname_char (eqb-true b 0xD f)
    by false false false true z d e f g i h = ap is_ncname_char (eqb-true b 0xA g)
    by false false false false true d e f g i h = ap is_ncname_char (eqb-true b 0x3F i)
    by false false false false false d e f g i h = absurd (true≢false (sym h))

stops_low : (b : ℕ) → ends_name b ≡ true → b < 128
stops_low b h = by (b == 0x20) (b == 0x9) (b == 0xD) (b == 0xA) (b == 0x3F) refl refl refl refl refl h
  where
    by : (v w x y z : Bool) → (b == 0x20) ≡ v → (b == 0x9) ≡ w → (b == 0xD) ≡ x → (b == 0xA) ≡ y → (b == 0x3F) ≡ z → ((v || w || x || y) || z) ≡ true → b < 128
    by true w x y z d e f g i h = omega (arith, eqb-true b 0x20 d)
    by false true x y z d e f g i h = omega (arith, eqb-true b 0x9 e)
    by false false true y z d e f g i h = omega (arith, eqb-true b 0xD f)
    by false false false true z d e f g i h = omega (arith, eqb-true b 0xA g)
    by false false false false true d e f g i h = omega (arith, eqb-true b 0x3F i)
    by false false false false false d e f g i h = absurd (true≢false (sym h))

pub name_before : (name : List ℕ) (b : ℕ) (rest : List ℕ) → IsNcName name → ends_name b ≡ true → NcNameAt (name ++ b ∷ rest) name (b ∷ rest)
name_before name b rest lawful h = record {
  lawful = lawful;
  parts = refl;
  longest = λ c r e k.
      let same : c ≡ b = char_from_byte (b ∷ rest) r c e (stops_low b h) (omega arith) in
      true≢false (sym k ∙ (ap is_ncname_char same ∙ name_stops b h));
}

some_more : (n : ℕ) → 0 < 1 + n
some_more n = omega arith

white_begins : (b : ℕ) (t : List ℕ) → is_white b ≡ true → BeginsWithWhite (b ∷ t)
white_begins b t h = subst (λ x. 0 < cond x (1 + prefix_len is_white t) 0) (sym h) (some_more (prefix_len is_white t))

-- with white space behind its target

pub instruction_whole : (name : List ℕ) (b : ℕ) (w f : List ℕ) → IsNcName name → IsFalse (str_eq_ignore_ascii_case name (codes "xml")) → is_white b ≡ true → instruction_scan 0 (b ∷ w) ≡ before []
    → InstructionAt ((codes "<?" ++ (name ++ b ∷ w)) ++ f) f
instruction_whole name b w f lawful other white e =
    let scanned : instruction_scan 0 ((b ∷ w) ++ f) ≡ before f = instruction_more 0 (b ∷ w) f ∙ ap (λ s. then_scan instruction_scan s f) e in
    record {
      rest = (name ++ b ∷ w) ++ f;
      target = name;
      behind = (b ∷ w) ++ f;
      inside = take (length_before (codes "?>") ((b ∷ w) ++ f)) ((b ∷ w) ++ f);
      opens = refl;
      names = subst (λ z. NcNameAt z name (b ∷ (w ++ f))) (sym (append_assoc name (b ∷ w) f)) (name_before name b (w ++ f) lawful (ap (λ x. x || b == 0x3F) white));
      not_xml = other;
      apart = inr (white_begins b (w ++ f) white);
      closes = found_up_to ((instruction_exact ((b ∷ w) ++ f) f).0 scanned);
    }

-- with nothing behind its target
pub instruction_bare : (name f : List ℕ) → IsNcName name → IsFalse (str_eq_ignore_ascii_case name (codes "xml")) → InstructionAt ((codes "<?" ++ (name ++ codes "?>")) ++ f) f
instruction_bare name f lawful other = record {
  rest = (name ++ codes "?>") ++ f;
  target = name;
  behind = codes "?>" ++ f;
  inside = [];
  opens = refl;
  names = subst (λ z. NcNameAt z name (codes "?>" ++ f)) (sym (append_assoc name (codes "?>") f)) (name_before name 0x3F (0x3E ∷ f) lawful refl);
  not_xml = other;
  apart = inl refl;
  closes = record { front = refl; back = refl };
}
