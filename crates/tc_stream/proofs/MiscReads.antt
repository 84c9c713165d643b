-- How what stands around the root element is read: a byte order mark, white space, the `<` of an item.
use Rattle.std.proofs.Common.{◌≡◌, ◌≢◌, ℕ, ◌<◌, ◌≤◌, ◌+◌, Bool, true, false, List, [], ◌∷◌, ◌++◌, refl, ap, ◌∙◌, sym, subst, length, take, drop, arith, append_assoc, append-nil, length-append, length-drop, take-append-drop}
use Rattle.std.specs.Prelude.{◌↔◌, encode_utf8, encode_utf8_all}
use Rattle.std.specs.List.{prefix_len, list_all}
use Rattle.std.proofs.lemmas.Bool.{true≢false, and_parts}
use Rattle.std.proofs.lemmas.Str.{encode_same}
use Rattle.tc_base.specs.Characters.{is_white}
use Rattle.tc_model.specs.Grammars.{Grammar}
use Rattle.tc_model.specs.Names.{ExpandedName, IsChars}
use Rattle.tc_model.specs.Trees.{Trees}
use Rattle.tc_model.specs.XmlTextBytes.{after_white}
use Rattle.tc_model.proofs.XmlTextChars.{chars_utf8, cut_chars}
use Rattle.tc_model.proofs.XmlTextPhrases.{same_first}
use Rattle.tc_scan.proofs.FrontLaws.{cut_after_white}
use Rattle.tc_stream.specs.From.{Standing, ended, StillComes}
use Rattle.tc_stream.specs.Keeps.{IsReady}
use Rattle.tc_stream.specs.Outcomes.{Outcome}
use Rattle.tc_stream.specs.Parts.{Pends, MayPend}
use Rattle.tc_stream.specs.Phases.{past_front}
use Rattle.tc_stream.specs.Reading.{ReadsOn, FaultsOn, past_mark}
use Rattle.tc_stream.specs.Stands.{IsReading, ReadsTo, Tells, before, within, behind}
use Rattle.tc_stream.specs.declared.elements.Elements.{Elements}
use Rattle.tc_stream.specs.declared.faults.StreamFault.TheVariants as faults
use Rattle.tc_stream.specs.declared.parts.Part.{Part}
use Rattle.tc_stream.specs.declared.parts.Part.TheVariants as parts
use Rattle.tc_stream.specs.declared.phases.Phase.{Phase}
use Rattle.tc_stream.specs.declared.phases.Phase.TheVariants as phases
use Rattle.tc_stream.specs.declared.reader.Reader.{Reader}
use Rattle.tc_stream.proofs.BrokenSteps.{stray_step}
use Rattle.tc_stream.proofs.ContentSteps.{step_both, misc_step, misc_behind_step}
use Rattle.tc_stream.proofs.DataReads.{nothing_pends, ascii_chars, all_front}
use Rattle.tc_stream.proofs.FrontSteps.{mark, mark_step, mark_left, front_white}
use Rattle.tc_stream.proofs.HopelessSteps.{StandsIn, in_front}
use Rattle.tc_stream.proofs.ItemReads.{over_root}
use Rattle.tc_stream.proofs.MiscSteps.{is_space}
use Rattle.tc_stream.proofs.SplitLaws.{white_more}
use Rattle.tc_stream.proofs.ReadingLaws.{still_moved, goes_on, item_ended, nothing_reads, tells_with, tells_moved, stands_in}

-- the parts around the root element

-- no byte order mark may come any more, nor an XML declaration
abbrev behind_white : Phase → Phase
behind_white phase = past_front (past_mark phase)

pub mark_not_content : {p : Phase} → p ≡ phases.Mark → p ≢ phases.Content
mark_not_content e f = differ (sym e ∙ f)
  where
    differ : phases.Mark ≡ phases.Content → ⊥
    differ h = cc

pub past_mark_not : (p : Phase) → past_mark p ≢ phases.Mark
past_mark_not phases.Mark e = cc
past_mark_not phases.Front e = cc
past_mark_not phases.Prolog e = cc
past_mark_not phases.Root e = cc
past_mark_not phases.Content e = cc
past_mark_not phases.End e = cc

-- neither in content nor behind it
record IsBefore (p : Phase) : Type 0 where
  no_content : p ≢ phases.Content
  no_end : p ≢ phases.End

front_before : IsBefore phases.Front
front_before = record { no_content = content; no_end = end }
  where
    content : phases.Front ≢ phases.Content
    content e = cc

    end : phases.Front ≢ phases.End
    end e = cc

prolog_before : IsBefore phases.Prolog
prolog_before = record { no_content = content; no_end = end }
  where
    content : phases.Prolog ≢ phases.Content
    content e = cc

    end : phases.Prolog ≢ phases.End
    end e = cc

root_before : IsBefore phases.Root
root_before = record { no_content = content; no_end = end }
  where
    content : phases.Root ≢ phases.Content
    content e = cc

    end : phases.Root ≢ phases.End
    end e = cc

mark_opens : (p : Phase) → IsBefore p → IsBefore (past_mark p)
mark_opens phases.Mark h = front_before
mark_opens phases.Front h = front_before
mark_opens phases.Prolog h = prolog_before
mark_opens phases.Root h = root_before
mark_opens phases.Content h = absurd (h.no_content refl)
mark_opens phases.End h = absurd (h.no_end refl)

white_opens : (p : Phase) → IsBefore p → IsBefore (behind_white p)
white_opens phases.Mark h = prolog_before
white_opens phases.Front h = prolog_before
white_opens phases.Prolog h = prolog_before
white_opens phases.Root h = root_before
white_opens phases.Content h = absurd (h.no_content refl)
white_opens phases.End h = absurd (h.no_end refl)

-- what is kept of the elements tells the same in such a part
tells_in : {x : Grammar} {pending : List ℕ} {part : Part} {e : Elements} {phase : Phase} {s : Standing} (to : Phase → Phase) → to phases.End ≡ phases.End → ((p : Phase) → IsBefore p → IsBefore (to p)) → phase ≢ phases.Content
    → Tells x pending part e phase s → Tells x pending part e (to phase) s
tells_in to same opens c (before {phase = phase} p q k a) = let there = opens phase (record { no_content = p; no_end = q }) in before there.no_content there.no_end k a
tells_in to same opens c (within k a) = absurd (c refl)
tells_in {x} {pending} {part} {e} to same opens c (behind {n = n} {kids = kids} f v) = subst (λ p. Tells x pending part e p (ended n kids)) (sym same) (behind f v)

-- where reading may stand there
data IsAround : Phase → Standing → Type 0 where
  no_root : {phase : Phase} {s : Standing} → phase ≢ phases.Content → phase ≢ phases.End → IsAround phase s
  past_it : {n : ExpandedName} {kids : Trees} → IsAround phases.End (ended n kids)

around_of : {x : Grammar} {pending : List ℕ} {part : Part} {e : Elements} {phase : Phase} {s : Standing} → phase ≢ phases.Content → Tells x pending part e phase s → IsAround phase s
around_of c (before p q k a) = no_root p q
around_of c (within k a) = absurd (c refl)
around_of c (behind f v) = past_it

-- a byte order mark

mark_chars : IsChars mark
unfolding lib.Utf8.encode
mark_chars = (0xFEFF ∷ [], refl, refl)

-- none stands at the front of characters that begin otherwise, whatever follows them
no_mark_with : (text : List ℕ) → 0 < length text → IsChars text → ((r : List ℕ) → text ≡ mark ++ r → ⊥) → (f r : List ℕ) → text ++ f ≡ mark ++ r → ⊥
unfolding lib.Utf8.encode
no_mark_with text some ([], e, h) none f r g = omega (arith, some, ap length e)
no_mark_with text some (c ∷ cs, e, h) none f r g =
    let same : encode_utf8 c ++ (encode_utf8_all cs ++ f) ≡ encode_utf8 0xFEFF ++ r = sym (append_assoc (encode_utf8 c) (encode_utf8_all cs) f) ∙ (ap (λ w. w ++ f) e ∙ g) in
    let is : c ≡ 0xFEFF = (encode_same c 0xFEFF (encode_utf8_all cs ++ f) r same).0 in
    none (encode_utf8_all cs) (sym e ∙ ap (λ d. encode_utf8 d ++ encode_utf8_all cs) is)

-- white space

white_first : (b : ℕ) (w : List ℕ) → list_all is_white (b ∷ w) ≡ true → is_white b ≡ true
white_first b w h = (and_parts (is_white b) (list_all is_white w) h).0

white_no_mark : (b : ℕ) (w : List ℕ) → list_all is_white (b ∷ w) ≡ true → (f r : List ℕ) → (b ∷ w) ++ f ≡ mark ++ r → ⊥
white_no_mark b w h f r e = true≢false (sym (white_first b w h) ∙ ap is_white (same_first e))

white_over : {phase : Phase} {s : Standing} (n b : ℕ) (w r : List ℕ) (o : Outcome) → IsAround phase s → IsChars (b ∷ w) → list_all is_white (b ∷ w) ≡ true
    → StillComes n phase s ((b ∷ w) ++ r) o ↔ StillComes (n + length (b ∷ w)) (behind_white phase) s r o
white_over n b w r o (no_root {phase = phase} {s = s} p q) h white = by phase p q
  where
    by : (phase : Phase) → phase ≢ phases.Content → phase ≢ phases.End → StillComes n phase s ((b ∷ w) ++ r) o ↔ StillComes (n + length (b ∷ w)) (behind_white phase) s r o
    by phases.Mark p q =
        let left = mark_left n (b ∷ w) r s o h (white_no_mark b w white) in
        let past = front_white n b w r s o h white in
        ((λ g. past.0 (left.0 g)), (λ g. left.1 (past.1 g)))
    by phases.Front p q = front_white n b w r s o h white
    by phases.Prolog p q = misc_step n (b ∷ w) r s o h (λ f. is_space white)
    by phases.Root p q = step_both n (b ∷ w) r phases.Root phases.Root s s o h (λ total f k. over_root (b ∷ w) total s f o (is_space white))
    by phases.Content p q = absurd (p refl)
    by phases.End p q = absurd (q refl)
white_over n b w r o (past_it {n = name} {kids = kids}) h white = misc_behind_step n (b ∷ w) r name kids o h (λ f. is_space white)

-- some white space
record IsSpace (w : List ℕ) : Type 0 where
  some : 0 < length w
  white : list_all is_white w ≡ true
  chars : IsChars w

space_over : {phase : Phase} {s : Standing} (n : ℕ) (w r : List ℕ) (o : Outcome) → IsAround phase s → IsSpace w → StillComes n phase s (w ++ r) o ↔ StillComes (n + length w) (behind_white phase) s r o
space_over n [] r o at h = absurd (omega (arith, h.some))
space_over n (b ∷ w) r o at h = white_over n b w r o at h.chars h.white

space_at : (text rest : List ℕ) → rest ≡ after_white text → length rest < length text → IsChars text → IsSpace (take (prefix_len is_white text) text)
space_at text rest e less h =
    let n = prefix_len is_white text in
    let cut = cut_chars text n h (cut_after_white text (chars_utf8 text h)) in
    let long = ap length (take-append-drop n text) in
    record {
      some = omega (arith, less, ap length e, long, length-append (take n text) (drop n text));
      white = all_front is_white text;
      chars = cut.0;
    }

-- `<`

open_over : (s : Standing) (phase : Phase) (n : ℕ) (r : List ℕ) (o : Outcome) → StillComes n phase s ((0x3C ∷ []) ++ r) o ↔ StillComes n (past_mark phase) s ((0x3C ∷ []) ++ r) o
open_over s phases.Mark n r o = mark_left n (0x3C ∷ []) r s o (ascii_chars 0x3C (omega arith) refl) (λ f r e. omega (arith, same_first e))
open_over s phases.Front n r o = (λ g. g, λ g. g)
open_over s phases.Prolog n r o = (λ g. g, λ g. g)
open_over s phases.Root n r o = (λ g. g, λ g. g)
open_over s phases.Content n r o = (λ g. g, λ g. g)
open_over s phases.End n r o = (λ g. g, λ g. g)

-- what is neither

stray_first : {phase : Phase} {s : Standing} (n b : ℕ) (x f : List ℕ) (o : Outcome) → ((phase ≢ phases.Mark) → StandsIn phase s) → phase ≢ phases.Content → (phase ≡ phases.Mark → (r : List ℕ) → b ∷ x ≡ mark ++ r → ⊥) → IsChars (b ∷ x)
    → is_white b ≡ false → (b ≡ 0x3C → ⊥) → StillComes n phase s ((b ∷ x) ++ f) o → ⊥
stray_first {phase} {s} n b x f o at c none h white k = by phase at c none
  where
    front : phases.Front ≢ phases.Content
    front e = cc

    by : (p : Phase) → ((p ≢ phases.Mark) → StandsIn p s) → p ≢ phases.Content → (p ≡ phases.Mark → (r : List ℕ) → b ∷ x ≡ mark ++ r → ⊥) → StillComes n p s ((b ∷ x) ++ f) o → ⊥
    by phases.Mark at c none g =
        stray_step n b x f phases.Front s o in_front front h white k ((mark_left n (b ∷ x) f s o h (no_mark_with (b ∷ x) (omega arith) h (none refl))).0 g)
    by phases.Front at c none g = stray_step n b x f phases.Front s o (at (λ e. cc)) c h white k g
    by phases.Prolog at c none g = stray_step n b x f phases.Prolog s o (at (λ e. cc)) c h white k g
    by phases.Root at c none g = stray_step n b x f phases.Root s o (at (λ e. cc)) c h white k g
    by phases.Content at c none g = absurd (c refl)
    by phases.End at c none g = stray_step n b x f phases.End s o (at (λ e. cc)) c h white k g

-- a text that begins with neither white space nor `<`
record IsStray (text : List ℕ) : Type 0 where
  first : ℕ
  others : List ℕ
  parts_are : text ≡ first ∷ others
  no_white : is_white first ≡ false
  no_markup : first ≡ 0x3C → ⊥

stray_at : (text rest : List ℕ) → rest ≡ after_white text → length text ≤ length rest → 0 < length text → ((r : List ℕ) → text ≡ 0x3C ∷ r → ⊥) → IsStray text
stray_at [] rest e full some none = absurd (omega (arith, some))
stray_at (b ∷ x) rest e full some none = record { first = b; others = x; parts_are = refl; no_white = by (is_white b) refl; no_markup = λ k. none x (ap (λ z. z ∷ x) k) }
  where
    shorter : is_white b ≡ true → length (after_white (b ∷ x)) ≤ length x
    shorter h = omega (arith, ap length (white_more b x h), length-drop (prefix_len is_white x) x)

    by : (z : Bool) → is_white b ≡ z → is_white b ≡ false
    by true h = absurd (omega (arith, shorter h, full, ap length e))
    by false h = h

stray_over : {phase : Phase} {s : Standing} (n : ℕ) (text f : List ℕ) (o : Outcome) (t : IsStray text) → ((phase ≢ phases.Mark) → StandsIn phase s) → phase ≢ phases.Content → (phase ≡ phases.Mark → (r : List ℕ) → text ≡ mark ++ r → ⊥)
    → IsChars text → StillComes n phase s (text ++ f) o → ⊥
stray_over {phase} {s} n text f o t at c none h g =
    stray_first n t.first t.others f o at c (λ e r k. none e r (t.parts_are ∙ k)) (subst IsChars t.parts_are h) t.no_white t.no_markup (subst (λ w. StillComes n phase s (w ++ f) o) t.parts_are g)

-- how a reader goes on

-- where nothing has begun, and nothing has then
between_ended : {x : Grammar} {old new : Reader} {chars : List ℕ} (c : List ℕ) (phase : Phase) (r : ReadsTo x old chars) → old.part ≡ parts.Between → IsChars c → new.part ≡ parts.Between → new.phase ≡ phase
    → Tells x [] parts.Between new.elements phase r.standing → ((f : List ℕ) (o : Outcome) → StillComes (length r.before) old.phase r.standing (c ++ f) o ↔ StillComes (length r.before + length c) phase r.standing f o) → ReadsTo x new (chars ++ c)
between_ended {x} {old} {new} {chars} c phase r e h part same tells step =
    item_ended c phase r.standing r h part same tells
    (subst (λ w. (f : List ℕ) (o : Outcome) → StillComes (length r.before) old.phase r.standing ((w ++ c) ++ f) o ↔ StillComes (length r.before + length (w ++ c)) phase r.standing f o) (sym (nothing_pends e r)) step)

between_tells : {x : Grammar} {s : Reader} {chars : List ℕ} (r : ReadsTo x s chars) → s.part ≡ parts.Between → Tells x [] parts.Between s.elements s.phase r.standing
between_tells r e = tells_with r parts.Between parts.Between [] e refl

pub mark_read : {old new : Reader} {text rest : List ℕ} (end : ℕ) → text ≡ mark ++ rest → old.part ≡ parts.Between → old.phase ≡ phases.Mark → IsReading old → new.part ≡ parts.Between → new.phase ≡ phases.Front → new.elements ≡ old.elements
    → ReadsOn old new text rest end
mark_read {old} {new} {text} {rest} end is e p ready part phase elements = record {
  used = mark;
  parts = is;
  ready = subst IsReady (sym elements) ready;
  reads = λ x chars h fit r.
      let there : Tells x [] parts.Between old.elements (past_mark old.phase) r.standing = tells_in past_mark refl mark_opens (mark_not_content p) (between_tells r e) in
      between_ended mark phases.Front r e mark_chars part phase
      (subst (λ z. Tells x [] parts.Between z phases.Front r.standing) (sym elements) (subst (λ q. Tells x [] parts.Between old.elements q r.standing) (ap past_mark p) there))
      (λ f o. (
        λ g. (mark_step (length r.before) f r.standing o mark_chars).0 (still_moved r.standing o refl p refl g),
        λ g. still_moved r.standing o refl (sym p) refl ((mark_step (length r.before) f r.standing o mark_chars).1 g),
      ));
}

pub white_read : {old new : Reader} {text rest : List ℕ} (end : ℕ) → rest ≡ after_white text → length rest < length text → old.part ≡ parts.Between → old.phase ≢ phases.Content → IsReading old → new.part ≡ parts.Between
    → new.phase ≡ past_front (past_mark old.phase) → new.elements ≡ old.elements → ReadsOn old new text rest end
white_read {old} {new} {text} {rest} end is less e c ready part phase elements = record {
  used = take (prefix_len is_white text) text;
  parts = sym (take-append-drop (prefix_len is_white text) text) ∙ ap (λ w. take (prefix_len is_white text) text ++ w) (sym is);
  ready = subst IsReady (sym elements) ready;
  reads = λ x chars h fit r.
      let w = take (prefix_len is_white text) text in
      let space = space_at text rest is less h in
      between_ended w (behind_white old.phase) r e space.chars part phase
      (subst (λ z. Tells x [] parts.Between z (behind_white old.phase) r.standing) (sym elements) (tells_in behind_white refl white_opens c (between_tells r e)))
      (λ f o. space_over (length r.before) w f o (around_of c r.tells) space);
}

pub misc_begun : {old new : Reader} {text rest : List ℕ} (end place : ℕ) → text ≡ 0x3C ∷ rest → old.part ≡ parts.Between → old.phase ≢ phases.Content → IsReading old → new.part ≡ parts.Markup → new.phase ≡ past_mark old.phase
    → new.elements ≡ old.elements → new.begun ≡ place → place + length text ≡ end → ReadsOn old new text rest end
misc_begun {old} {new} {text} {rest} end place is e c ready part phase elements begun fits = record {
  used = 0x3C ∷ [];
  parts = is;
  ready = subst IsReady (sym elements) ready;
  reads = λ x chars h fit r.
      let none = nothing_pends e r in
      let front : length chars ≡ length r.before = ap length r.parts_are ∙ (ap (λ w. length (r.before ++ w)) none ∙ ap length (append-nil r.before)) in
      let at : new.begun ≡ length r.before = omega (arith, begun, fit, fits, front) in
      let there : Tells x (0x3C ∷ []) parts.Markup old.elements (past_mark old.phase) r.standing = tells_in past_mark refl mark_opens c (tells_with r parts.Between parts.Markup (0x3C ∷ []) e refl) in
      goes_on (0x3C ∷ []) r.before (0x3C ∷ []) r.standing r (ap (λ w. r.before ++ (w ++ 0x3C ∷ [])) none) r.before_chars (ascii_chars 0x3C (omega arith) refl) (λ _. at)
      (subst (λ p. Pends (length r.before) p new (0x3C ∷ [])) (sym part) refl) (subst (λ p. MayPend new.phase p) (sym part) (λ m. past_mark_not old.phase (sym phase ∙ m)))
      (subst (λ p. Tells x (0x3C ∷ []) p new.elements new.phase r.standing) (sym part) (tells_moved elements phase there))
      (λ f o. (
        λ g. still_moved r.standing o refl (sym phase) refl ((open_over r.standing old.phase (length r.before) f o).0 (still_moved r.standing o refl refl (ap (λ w. (w ++ 0x3C ∷ []) ++ f) none) g)),
        λ g. still_moved r.standing o refl refl (ap (λ w. (w ++ 0x3C ∷ []) ++ f) (sym none)) ((open_over r.standing old.phase (length r.before) f o).1 (still_moved r.standing o refl phase refl g)),
      ));
}

pub stray_faults : {old : Reader} {text rest : List ℕ} (end place : ℕ) → rest ≡ after_white text → length text ≤ length rest → 0 < length text → ((r : List ℕ) → text ≡ 0x3C ∷ r → ⊥) → old.part ≡ parts.Between → old.phase ≢ phases.Content
    → (old.phase ≡ phases.Mark → (r : List ℕ) → text ≡ mark ++ r → ⊥) → place + length text ≡ end → FaultsOn old text end (faults.Malformed (record { 0 = place }))
stray_faults {old} {text} {rest} end place is full some none e c no_mark fits = λ x chars h fit r.
    let t = stray_at text rest is full some none in
    nothing_reads text r (record { 0 = place }) (omega (arith, fit, fits))
    (λ f o g. stray_over (length r.before) text f o t (λ m. stands_in m r.tells) c no_mark h (still_moved r.standing o refl refl (ap (λ w. (w ++ text) ++ f) (nothing_pends e r)) g))
