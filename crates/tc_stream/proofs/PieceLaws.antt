-- Pieces of a text, between which a character may be cut.
use Rattle.std.proofs.Common.{◌≡◌, ◌≢◌, inl, inr, ◌⊎◌, ℕ, ◌<◌, ◌≤◌, ◌+◌, ◌-◌, List, [], ◌∷◌, ◌++◌, refl, ap, ◌∙◌, sym, subst, length, take, drop, arith, append_assoc, append-nil, length-append, length-take, length-drop, take-append-drop}
use Rattle.std.specs.Prelude.{◌↔◌, IsTrue, encode_utf8, min, slice_index}
use Rattle.std.proofs.Math.Seq.{take-append_seam}
use Rattle.std.proofs.lemmas.List.{drop_at, take_rest, take-append-le}
use Rattle.tc_model.specs.Grammars.{Grammar}
use Rattle.tc_model.specs.Names.{ExpandedName, IsChars}
use Rattle.tc_model.specs.RawTrees.{RawTrees}
use Rattle.tc_model.specs.SimplifiesLaws.{IsStart}
use Rattle.tc_model.specs.Stripped.{stripped}
use Rattle.tc_model.specs.Trees.{Trees, element, IsDocument}
use Rattle.tc_model.specs.Trees as trees
use Rattle.tc_model.specs.Validity.{IsValid}
use Rattle.tc_model.specs.XmlTextBytes.{FrontOf}
use Rattle.tc_model.proofs.XmlTextDocument.{document}
use Rattle.tc_steps.specs.Led.{IsStarted}
use Rattle.tc_steps.proofs.ValidLaws.{started_valid}
use Rattle.tc_stream.specs.XmlTextMeasures.{IsGood}
use Rattle.tc_stream.specs.Cuts.{BeginsNoChar, char_length, cut_bytes, TellsFront}
use Rattle.tc_stream.specs.Outcomes as o
use Rattle.tc_stream.specs.From.{Standing, ended, StillComes}
use Rattle.tc_stream.specs.Faults.{IsFaultOf, IsFaultOfFront}
use Rattle.tc_stream.specs.Parts.{Pends}
use Rattle.tc_stream.specs.Pieces.{IsCutShort}
use Rattle.tc_stream.specs.Reading.{ReadsOn}
use Rattle.tc_stream.specs.Stands.{Tells, ReadsTo}
use Rattle.tc_stream.specs.Stands as t
use Rattle.tc_stream.specs.declared.characters.Front.TheVariants as fronts
use Rattle.tc_stream.specs.declared.cuts.Cut.{Cut}
use Rattle.tc_stream.specs.declared.elements.Elements.{Elements}
use Rattle.tc_stream.specs.declared.faults.StreamFault.{StreamFault}
use Rattle.tc_stream.specs.declared.parts.Part.{Part}
use Rattle.tc_stream.specs.declared.parts.Part.TheVariants as parts
use Rattle.tc_stream.specs.declared.phases.Phase.{Phase}
use Rattle.tc_stream.specs.declared.phases.Phase.TheVariants as phases
use Rattle.tc_stream.specs.declared.reader.Reader.{Reader}
use Rattle.tc_stream.proofs.CutLaws.{same_length, short_front}
use Rattle.tc_stream.proofs.EndSteps.{document_step, nothing_begins}
use Rattle.tc_stream.proofs.StandsLaws.{content_end, front_more}

-- a text of characters that is read whole

pub read_text : (x : Grammar) (old new : Reader) (text chars : List ℕ) (end : ℕ) → ReadsOn old new text [] end → IsChars text → length chars + length text ≡ end → ReadsTo x old chars → ReadsTo x new (chars ++ text)
read_text x old new text chars end a h long r = subst (λ z. ReadsTo x new (chars ++ z)) (sym (a.parts ∙ append-nil a.used)) (a.reads x chars h long r)

-- what stands behind the characters at the front

front_behind : (bytes text : List ℕ) → (k : FrontOf bytes text) → drop (length text) bytes ≡ k.after
front_behind bytes text k = ap (drop (length text)) k.parts ∙ drop_at text k.after (length text) refl

rest_is : (bytes text : List ℕ) (count : ℕ) (k : FrontOf bytes text) → count ≡ length text → take (length bytes - count) (drop count bytes) ≡ k.after
rest_is bytes text count k same = take_rest bytes count ∙ (ap (λ n. drop n bytes) same ∙ front_behind bytes text k)

pub front_within : (bytes text : List ℕ) → FrontOf bytes text → length text ≤ length bytes
front_within bytes text k = omega (arith, ap length k.parts, length-append text k.after)

pub rest_low : (bytes : List ℕ) (count : ℕ) → length (take (length bytes - count) (drop count bytes)) ≤ length bytes
rest_low bytes count = omega (arith, ap length (take_rest bytes count), length-drop count bytes)

pub front_split : (bytes text chars : List ℕ) (count : ℕ) → FrontOf bytes text → count ≡ length text → (chars ++ text) ++ take (length bytes - count) (drop count bytes) ≡ chars ++ bytes
front_split bytes text chars count k same =
    ap (λ z. (chars ++ text) ++ z) (rest_is bytes text count k same) ∙ (append_assoc chars text k.after ∙ ap (λ z. chars ++ z) (sym k.parts))

pub no_char_behind : (bytes text : List ℕ) (count : ℕ) → FrontOf bytes text → count ≡ length text → BeginsNoChar (take (length bytes - count) (drop count bytes))
no_char_behind bytes text count k same = subst BeginsNoChar (sym (rest_is bytes text count k same)) k.longest

-- as many bytes as the first one says, and no character

no_char_more : (w r : List ℕ) → char_length (slice_index w 0) ≤ length w → 0 < length w → BeginsNoChar w → BeginsNoChar (w ++ r)
no_char_more [] r many some none = absurd (omega (arith, some))
no_char_more (b ∷ w) r many some none = λ c s is lawful.
    let long : length (encode_utf8 c) ≡ char_length b = same_length b (w ++ r) s c is lawful in
    let low : length (encode_utf8 c) ≤ length (b ∷ w) = omega (arith, long, many) in
    let front : take (length (encode_utf8 c)) (b ∷ w) ≡ encode_utf8 c = sym (take-append-le (length (encode_utf8 c)) (b ∷ w) r low) ∙ (ap (take (length (encode_utf8 c))) is ∙ take-append_seam (encode_utf8 c) s) in
    none c (drop (length (encode_utf8 c)) (b ∷ w)) (sym (take-append-drop (length (encode_utf8 c)) (b ∷ w)) ∙ ap (λ z. z ++ drop (length (encode_utf8 c)) (b ∷ w)) front) lawful

-- what a reader says where it is stopped
abbrev pub Stops : Reader → ℕ → StreamFault → Type 0
Stops old place e = (x : Grammar) (chars r : List ℕ) → ReadsTo x old chars → length chars ≡ place → BeginsNoChar r → (old.part ≡ parts.Between → old.phase ≡ phases.End → r ≢ []) → IsFaultOf (chars ++ r) e

not_empty : (w r : List ℕ) → 0 < length w → w ++ r ≢ []
not_empty w r some = λ e. omega (arith, some, ap length e, length-append w r)

pub bad_fault : (x : Grammar) (s : Reader) (bytes chars : List ℕ) (place : ℕ) (e : StreamFault) → 0 < length bytes → char_length (slice_index bytes 0) ≤ length bytes → BeginsNoChar bytes → Stops s place e → length chars ≡ place → ReadsTo x s chars
    → IsFaultOfFront (chars ++ bytes) e
bad_fault x s bytes chars place e some many none stops at r = λ more.
    subst (λ z. IsFaultOf z e) (sym (append_assoc chars bytes more)) (stops x chars (bytes ++ more) r at (no_char_more bytes more many some none) (λ p q. not_empty bytes more some))

pub text_fault : (bytes text chars : List ℕ) (e : StreamFault) → FrontOf bytes text → IsFaultOfFront (chars ++ text) e → IsFaultOfFront (chars ++ bytes) e
text_fault bytes text chars e k f =
    subst (λ z. IsFaultOfFront z e) (append_assoc chars text k.after ∙ ap (λ z. chars ++ z) (sym k.parts)) (front_more (chars ++ text) k.after e f)

pub nothing_in : {A : Type 0} (xs : List A) → length xs ≤ 0 → xs ≡ []
nothing_in [] e = refl
nothing_in (x ∷ xs) e = absurd (omega (arith, e))

-- a character that was cut off, and bytes behind it: all of them, or those that it lacks and a rest

pub joined_some : (cut front : List ℕ) → 0 < length cut → 0 < length (cut ++ front)
joined_some cut front some = omega (arith, some, length-append cut front)

pub joined_low : (cut front : List ℕ) (missing : ℕ) → 0 < length cut → length cut + missing ≡ char_length (slice_index cut 0) → length front ≤ missing → length (cut ++ front) ≤ char_length (slice_index (cut ++ front) 0)
joined_low [] front missing some sum low = absurd (omega (arith, some))
joined_low (b ∷ cut) front missing some sum low = omega (arith, sum, low, length-append (b ∷ cut) front)

pub all_of_it : (cut front rest bytes : List ℕ) (missing count : ℕ) → 0 < length cut → length cut + missing ≡ char_length (slice_index cut 0) → count ≡ min missing (length bytes) → length front ≡ count → bytes ≡ front ++ rest
    → length (cut ++ front) < char_length (slice_index (cut ++ front) 0) → bytes ≡ front
all_of_it [] front rest bytes missing count some sum least long parts short = absurd (omega (arith, some))
all_of_it (b ∷ cut) front rest bytes missing count some sum least long parts short =
    let few : length front < missing = omega (arith, sum, short, length-append (b ∷ cut) front) in
    let none : length rest ≤ 0 = omega (arith, least, long, few, ap length parts, length-append front rest) in
    parts ∙ (ap (λ z. front ++ z) (nothing_in rest none) ∙ append-nil front)

pub bad_cut_fault : (x : Grammar) (s : Reader) (chars cut front rest bytes : List ℕ) (at : ℕ) (e : StreamFault) → ((r : List ℕ) → BeginsNoChar ((cut ++ front) ++ r)) → 0 < length cut → bytes ≡ front ++ rest → Stops s at e → length chars ≡ at
    → ReadsTo x s chars → IsFaultOfFront ((chars ++ cut) ++ bytes) e
bad_cut_fault x s chars cut front rest bytes at e bad some parts stops long r = λ more.
    let whole : chars ++ ((cut ++ front) ++ (rest ++ more)) ≡ ((chars ++ cut) ++ bytes) ++ more =
    ap (λ z. chars ++ z) (append_assoc cut front (rest ++ more)) ∙ (sym (append_assoc chars cut (front ++ (rest ++ more)))
    ∙ (ap (λ z. (chars ++ cut) ++ z) (sym (append_assoc front rest more) ∙ ap (λ z. z ++ more) (sym parts)) ∙ sym (append_assoc (chars ++ cut) bytes more))) in
    subst (λ z. IsFaultOf z e) whole (stops x chars ((cut ++ front) ++ (rest ++ more)) r long (bad (rest ++ more)) (λ p q. not_empty (cut ++ front) (rest ++ more) (omega (arith, some, length-append cut front))))

pub cut_text : (chars cut front rest bytes text : List ℕ) → text ≡ cut ++ front → bytes ≡ front ++ rest → (chars ++ text) ++ rest ≡ (chars ++ cut) ++ bytes
cut_text chars cut front rest bytes text is parts =
    ap (λ z. (chars ++ z) ++ rest) is ∙ (ap (λ z. z ++ rest) (sym (append_assoc chars cut front)) ∙ (append_assoc (chars ++ cut) front rest ∙ ap (λ z. (chars ++ cut) ++ z) (sym parts)))

pub short_text : (chars cut front bytes : List ℕ) → bytes ≡ front → (chars ++ cut) ++ bytes ≡ chars ++ (cut ++ front)
short_text chars cut front bytes is = append_assoc chars cut bytes ∙ ap (λ z. chars ++ (cut ++ z)) is

-- the bytes of a character that is cut off, as they are kept
pub cut_is : (w : List ℕ) → IsCutShort w → (w ≡ []) ⊎ TellsFront w fronts.Short
cut_is [] h = inl refl
cut_is (b ∷ w) h = let some : 0 < length (b ∷ w) = omega arith in inr (short_front (b ∷ w) some (h some), h some)

pub no_char_cut : (w : List ℕ) → (w ≡ []) ⊎ TellsFront w fronts.Short → BeginsNoChar w
no_char_cut w (inl none) = subst BeginsNoChar (sym none) nothing_begins
no_char_cut w (inr short) = short.0

-- how many they are
pub cut_count : (c : Cut) → length (cut_bytes c) ≡ c.count
cut_count c = omega (arith, length-take c.count c.bytes, c.few, c.sized)

-- the end of a text

-- where the root element has ended
record AtEnd (x : Grammar) (e : Elements) (phase : Phase) (standing : Standing) : Type 0 where
  name : ExpandedName
  kids : Trees
  is : standing ≡ ended name kids
  valid : IsTrue e.validity.is_valid ↔ IsStarted x name kids

at_end : {x : Grammar} {pending : List ℕ} {part : Part} {e : Elements} {phase : Phase} {standing : Standing} → Tells x pending part e phase standing → phase ≡ phases.End → AtEnd x e phase standing
at_end (t.before c k keeps steps) h = absurd (k h)
at_end (t.within keeps steps) h = absurd (content_end h)
at_end (t.behind {n = n} {kids = kids} levels valid) h = record { name = n; kids = kids; is = refl; valid = valid }

inner : {n : ExpandedName} {k kids rest other : Trees} → element n k rest ≡ element n kids other → k ≡ kids
inner e = cc

pub valid_at_end : (x : Grammar) (s : Reader) (chars : List ℕ) → IsStart x.start → ReadsTo x s chars → s.part ≡ parts.Between → s.phase ≡ phases.End
    → (h : RawTrees) × IsGood chars h × (IsTrue s.elements.validity.is_valid ↔ IsValid x (stripped h))
valid_at_end x s chars start r part phase =
    let a = at_end r.tells phase in
    let none_pending : r.pending ≡ [] = subst (λ z. Pends (length r.before) z s r.pending) part r.pends in
    let d = o.document (element a.name a.kids trees.none) in
    let there : StillComes (length r.before) phases.End (ended a.name a.kids) [] d = (document_step (length r.before) a.name a.kids d).1 refl in
    let here : StillComes (length r.before) s.phase r.standing (r.pending ++ []) d =
    subst (λ z. StillComes (length r.before) s.phase r.standing (z ++ []) d) (sym none_pending)
    (subst (λ z. StillComes (length r.before) s.phase z [] d) (sym a.is) (subst (λ z. StillComes (length r.before) z (ended a.name a.kids) [] d) (sym phase) there)) in
    let (h, good, is) = subst (λ z. o.Comes z d) (append-nil chars) ((r.comes [] d).1 here) in
    let lawful : IsDocument (element a.name a.kids trees.none) = subst IsDocument (sym is) (document chars h good.reads) in
    let valid = started_valid x a.name a.kids start lawful (inner lawful.2) in (
      h,
      good,
      (
        (λ v. subst (IsValid x) is (valid.0 (a.valid.0 v))),
        (λ v. a.valid.1 (valid.1 (subst (IsValid x) (sym is) v))),
      ),
    )
