-- What comes of a text goes on behind what is read of it.
use Rattle.std.proofs.Common.{◌≡◌, ℕ, ◌+◌, true, false, List, [], ◌∷◌, ◌++◌, refl, ap, ◌∙◌, sym, subst, length, take, arith, codes, IsTrue, append_assoc, length-append}
use Rattle.std.specs.Prelude.{◌↔◌, encode_utf8, encode_utf8_all}
use Rattle.std.specs.List.{list_all}
use Rattle.std.proofs.lemmas.Bool.{and_parts}
use Rattle.std.proofs.lemmas.List.{append_cancel_left}
use Rattle.std.proofs.lemmas.Str.{encode_same, encodes-append}
use Rattle.tc_base.specs.Characters.{is_char}
use Rattle.tc_model.specs.Names.{IsChars}
use Rattle.tc_model.specs.RawTrees.{Bound}
use Rattle.tc_model.specs.XmlTextBytes.{FrontOf, UpTo, line_ends, length_before}
use Rattle.tc_model.specs.XmlTextReferences.{ReferenceAt, CdataAt}
use Rattle.tc_model.specs.XmlTextMisc.{CommentAt, InstructionAt}
use Rattle.tc_model.proofs.XmlTextChars.{join_chars}
use Rattle.tc_model.proofs.XmlTextPhrases.{comment_unique, instruction_unique, cdata_unique, reference_unique}
use Rattle.tc_model.proofs.XmlTextUnique.{comment_kind, instruction_kind, cdata_kind, reference_kind}
use Rattle.tc_model.proofs.XmlTextRefused.{other_no_reference}
use Rattle.tc_stream.specs.Outcomes.{Outcome, document, refused, passed}
use Rattle.tc_stream.specs.Goes.{Level, Goes, comment, instruction, cdata, reference}
use Rattle.tc_stream.specs.From.{Standing, FromPhase, IsWhole, StillComes}
use Rattle.tc_stream.specs.Scans.{before, broken, comment_scan, cdata_scan}
use Rattle.tc_stream.specs.declared.phases.Phase.{Phase}
use Rattle.tc_stream.proofs.OneOutcome.{AtComment, remark, at_comment, AtInstruction, instructs, at_instruction, AtCdata, section, at_cdata, AtReference, refers, strange, at_reference}
use Rattle.tc_stream.proofs.ScanLaws.{then_scan, found_up_to, up_to_found, comment_more, comment_exact, cdata_more, cdata_exact}

-- the characters at the front of bytes that begin with characters

pub front_behind : {item r f : List ℕ} → IsChars item → FrontOf r f → FrontOf (item ++ r) (item ++ f)
front_behind {item} {r} {f} chars k = record {
  after = k.after;
  parts = ap (λ w. item ++ w) k.parts ∙ sym (append_assoc item f k.after);
  characters = join_chars item f chars k.characters;
  longest = k.longest;
}

Stops : List ℕ → Type 0
Stops after = (c : ℕ) (r : List ℕ) → after ≡ encode_utf8 c ++ r → IsTrue (is_char c) → ⊥

-- the characters behind the first ones
record Others (cs ds r after : List ℕ) : Type 0 where
  others : List ℕ
  whole : ds ≡ cs ++ others
  parts : r ≡ encode_utf8_all others ++ after
  characters : list_all is_char others ≡ true

split_chars : (cs ds r after : List ℕ) → list_all is_char cs ≡ true → list_all is_char ds ≡ true → encode_utf8_all cs ++ r ≡ encode_utf8_all ds ++ after → Stops after → Others cs ds r after
unfolding Stops
split_chars [] ds r after h k e stop = record { others = ds; whole = refl; parts = e; characters = k }
split_chars (c ∷ cs) [] r after h k e stop =
    absurd (stop c (encode_utf8_all cs ++ r) (sym e ∙ append_assoc (encode_utf8 c) (encode_utf8_all cs) r) (and_parts (is_char c) (list_all is_char cs) h).0)
split_chars (c ∷ cs) (d ∷ ds) r after h k e stop =
    let first = encode_same c d (encode_utf8_all cs ++ r) (encode_utf8_all ds ++ after)
    (sym (append_assoc (encode_utf8 c) (encode_utf8_all cs) r) ∙ (e ∙ append_assoc (encode_utf8 d) (encode_utf8_all ds) after)) in
    let more = split_chars cs ds r after (and_parts (is_char c) (list_all is_char cs) h).1 (and_parts (is_char d) (list_all is_char ds) k).1 first.1 stop in
    record { others = more.others; whole = ap (λ x. x ∷ ds) (sym first.0) ∙ ap (λ xs. c ∷ xs) more.whole; parts = more.parts; characters = more.characters }

-- the front of what stands behind them
pub record Behind (item r front : List ℕ) : Type 0 where
  pub rest : List ℕ
  pub is_front : FrontOf r rest
  pub whole : front ≡ item ++ rest

pub front_past : {item r front : List ℕ} → IsChars item → FrontOf (item ++ r) front → Behind item r front
unfolding Stops
front_past {item} {r} {front} (cs, e, h) k = by k.characters
  where
    by : IsChars front → Behind item r front
    by (ds, f, g) =
        let parts : encode_utf8_all cs ++ r ≡ encode_utf8_all ds ++ k.after = ap (λ w. w ++ r) e ∙ (k.parts ∙ ap (λ w. w ++ k.after) (sym f)) in
        let s = split_chars cs ds r k.after h g parts k.longest in
        record {
          rest = encode_utf8_all s.others;
          is_front = record { after = k.after; parts = s.parts; characters = (s.others, refl, s.characters); longest = k.longest };
          whole = sym f ∙ (ap encode_utf8_all s.whole ∙ (encodes-append cs s.others ∙ ap (λ w. w ++ encode_utf8_all s.others) e));
        }

-- a step over characters that are read whole

pub whole_past : (o : Outcome) (item front rest r : List ℕ) → front ≡ item ++ rest → IsWhole o front (item ++ r) → IsWhole o rest r
whole_past (document d) item front rest r e h = append_cancel_left item rest r (sym e ∙ h)
whole_past (refused cause place) item front rest r e h = tt
whole_past (passed measure place) item front rest r e h = tt

pub whole_back : (o : Outcome) (item rest r : List ℕ) → IsWhole o rest r → IsWhole o (item ++ rest) (item ++ r)
whole_back (document d) item rest r h = ap (λ w. item ++ w) h
whole_back (refused cause place) item rest r h = tt
whole_back (passed measure place) item rest r h = tt

pub total_past : (n : ℕ) (item rest : List ℕ) → n + length (item ++ rest) ≡ n + length item + length rest
total_past n item rest = omega (arith, length-append item rest)

pub comes_past : (n : ℕ) (item r : List ℕ) (phase next : Phase) (s u : Standing) (o : Outcome) → IsChars item
    → ((total : ℕ) (f : List ℕ) → FrontOf r f → FromPhase total phase s (item ++ f) o → FromPhase total next u f o)
    → StillComes n phase s (item ++ r) o → StillComes (n + length item) next u r o
comes_past n item r phase next s u o chars step (front, k, go, whole) =
    let b = front_past chars k in
    let there : FromPhase (n + length (item ++ b.rest)) phase s (item ++ b.rest) o = subst (λ w. FromPhase (n + length w) phase s w o) b.whole go in
    let on : FromPhase (n + length item + length b.rest) next u b.rest o =
    subst (λ m. FromPhase m next u b.rest o) (total_past n item b.rest) (step (n + length (item ++ b.rest)) b.rest b.is_front there) in
    (b.rest, b.is_front, on, whole_past o item front b.rest r b.whole whole)

pub comes_back : (n : ℕ) (item r : List ℕ) (phase next : Phase) (s u : Standing) (o : Outcome) → IsChars item
    → ((total : ℕ) (f : List ℕ) → FrontOf r f → FromPhase total next u f o → FromPhase total phase s (item ++ f) o)
    → StillComes (n + length item) next u r o → StillComes n phase s (item ++ r) o
comes_back n item r phase next s u o chars step (front, k, go, whole) =
    let on : FromPhase (n + length (item ++ front)) phase s (item ++ front) o =
    step (n + length (item ++ front)) front k (subst (λ m. FromPhase m next u front o) (sym (total_past n item front)) go) in
    (item ++ front, front_behind chars k, on, whole_back o item front r whole)

-- items of content

pub over_comment : (item : List ℕ) (total : ℕ) (l : Level) (ls : List Level) (scope : List Bound) (run f : List ℕ) (o : Outcome) → CommentAt (item ++ f) f
    → Goes total (l ∷ ls) scope run (item ++ f) o ↔ Goes total (l ∷ ls) scope run f o
over_comment item total l ls scope run f o a = (λ g. by (at_comment (comment_kind a) g), λ g. comment a g)
  where
    by : AtComment total l ls scope run (item ++ f) o → Goes total (l ∷ ls) scope run f o
    by (remark b g) = subst (λ z. Goes total (l ∷ ls) scope run z o) (comment_unique b a) g

pub over_instruction : (item : List ℕ) (total : ℕ) (l : Level) (ls : List Level) (scope : List Bound) (run f : List ℕ) (o : Outcome) → InstructionAt (item ++ f) f
    → Goes total (l ∷ ls) scope run (item ++ f) o ↔ Goes total (l ∷ ls) scope run f o
over_instruction item total l ls scope run f o a = (λ g. by (at_instruction (instruction_kind a) g), λ g. instruction a g)
  where
    by : AtInstruction total l ls scope run (item ++ f) o → Goes total (l ∷ ls) scope run f o
    by (instructs b g) = subst (λ z. Goes total (l ∷ ls) scope run z o) (instruction_unique b a) g

pub over_section : (item inside : List ℕ) (total : ℕ) (l : Level) (ls : List Level) (scope : List Bound) (run f : List ℕ) (o : Outcome) → CdataAt (item ++ f) inside f
    → Goes total (l ∷ ls) scope run (item ++ f) o ↔ Goes total (l ∷ ls) scope (run ++ line_ends inside) f o
over_section item inside total l ls scope run f o a = (λ g. by (at_cdata (cdata_kind a) g), λ g. cdata a g)
  where
    by : AtCdata total l ls scope run (item ++ f) o → Goes total (l ∷ ls) scope (run ++ line_ends inside) f o
    by (section {rest = rest} b g) =
        let same = cdata_unique b a in
        subst (λ z. Goes total (l ∷ ls) scope (run ++ line_ends inside) z o) same.1 (subst (λ z. Goes total (l ∷ ls) scope (run ++ line_ends z) rest o) same.0 g)

pub over_reference : (item s : List ℕ) (total : ℕ) (l : Level) (ls : List Level) (scope : List Bound) (run f : List ℕ) (o : Outcome) → ReferenceAt false (item ++ f) s f
    → Goes total (l ∷ ls) scope run (item ++ f) o ↔ Goes total (l ∷ ls) scope (run ++ s) f o
over_reference item s total l ls scope run f o a = (λ g. by (at_reference (reference_kind a) g), λ g. reference a g)
  where
    by : AtReference total l ls scope run (item ++ f) o → Goes total (l ∷ ls) scope (run ++ s) f o
    by (refers {rest = rest} b g) =
        let same = reference_unique b a in
        subst (λ z. Goes total (l ∷ ls) scope (run ++ s) z o) same.1 (subst (λ z. Goes total (l ∷ ls) scope (run ++ z) rest o) same.0 g)
    by (strange b e) = absurd (other_no_reference b a)

-- a comment that has ended, and one that can't go on

pub comment_whole : (w f : List ℕ) → comment_scan 0 w ≡ before [] → CommentAt ((codes "<!--" ++ w) ++ f) f
comment_whole w f e =
    let scanned : comment_scan 0 (w ++ f) ≡ before f = comment_more 0 w f ∙ ap (λ s. then_scan comment_scan s f) e in
    record {
      rest = w ++ f;
      inside = take (length_before (codes "--") (w ++ f)) (w ++ f);
      opens = append_assoc (codes "<!--") w f;
      closes = found_up_to ((comment_exact (w ++ f) f).0 scanned);
    }

pub no_comment : (w f rest : List ℕ) → comment_scan 0 w ≡ broken → CommentAt ((codes "<!--" ++ w) ++ f) rest → ⊥
no_comment w f rest e a =
    let same : a.rest ≡ w ++ f = append_cancel_left (codes "<!--") a.rest (w ++ f) (sym a.opens ∙ append_assoc (codes "<!--") w f) in
    let ends : comment_scan 0 (w ++ f) ≡ before rest = (comment_exact (w ++ f) rest).1 (up_to_found (subst (λ z. UpTo (codes "--") z a.inside (0x3E ∷ rest)) same a.closes)) in
    differ (sym ends ∙ (comment_more 0 w f ∙ ap (λ s. then_scan comment_scan s f) e))
  where
    differ : before rest ≡ broken → ⊥
    differ h = cc

pub section_whole : (w f : List ℕ) → cdata_scan 0 w ≡ before [] → (inside : List ℕ) × CdataAt ((codes "<![CDATA[" ++ w) ++ f) inside f
section_whole w f e =
    let scanned : cdata_scan 0 (w ++ f) ≡ before f = cdata_more 0 w f ∙ ap (λ s. then_scan cdata_scan s f) e in (
      take (length_before (codes "]]>") (w ++ f)) (w ++ f),
      record { rest = w ++ f; opens = append_assoc (codes "<![CDATA[") w f; closes = found_up_to ((cdata_exact (w ++ f) f).0 scanned) },
    )
