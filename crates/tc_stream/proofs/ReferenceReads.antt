-- What a character makes of a reference that has begun in content.
use Rattle.std.proofs.Common.{◌≡◌, inl, inr, ◌⊎◌, ℕ, ◌<◌, ◌≤◌, ◌+◌, Bool, true, false, ◌&&◌, List, [], ◌∷◌, ◌++◌, refl, ap, ◌∙◌, sym, subst, length, arith, IsTrue, append-nil}
use Rattle.std.specs.Prelude.{◌↔◌, encode_utf8, encode_utf8_all}
use Rattle.std.specs.List.{list_all}
use Rattle.std.proofs.lemmas.Bool.{and_left, cases_lt}
use Rattle.std.proofs.lemmas.Str.{encode_ascii}
use Rattle.tc_base.specs.Characters.{is_char, is_white}
use Rattle.tc_base.specs.declared.Place.{Place}
use Rattle.tc_base.specs.declared.reasons.Why.TheVariants.{EntityReference}
use Rattle.tc_model.specs.Grammars.{Grammar}
use Rattle.tc_model.specs.Names.{IsChars}
use Rattle.tc_model.specs.Trees.{is_white_space_only}
use Rattle.tc_model.specs.XmlTextRefusals.{unsupported}
use Rattle.tc_model.proofs.XmlTextChars.{one_char}
use Rattle.tc_stream.specs.Outcomes.{Outcome, refused}
use Rattle.tc_stream.specs.From.{Standing, open_in, StillComes}
use Rattle.tc_stream.specs.Faults.{IsFaultOfFront}
use Rattle.tc_stream.specs.Keeps.{AreSteps}
use Rattle.tc_stream.specs.References.{Referring, Referred, more, stands_for, other_entity, unreferred, referred_next, ReferenceScan, referred, referring, no_reference, reference_on, reference_scan}
use Rattle.tc_stream.specs.References as scans
use Rattle.tc_stream.specs.Reading.{TakesText}
use Rattle.tc_stream.specs.Referring.{IsReferring}
use Rattle.tc_stream.specs.Stands.{ReadsTo, Tells, within}
use Rattle.tc_stream.specs.declared.elements.Elements.{Elements}
use Rattle.tc_stream.specs.declared.faults.StreamFault.{StreamFault}
use Rattle.tc_stream.specs.declared.faults.StreamFault.TheVariants as faults
use Rattle.tc_stream.specs.declared.parts.Part.TheVariants as parts
use Rattle.tc_stream.specs.declared.phases.Phase.TheVariants as phases
use Rattle.tc_stream.specs.declared.reader.Reader.{Reader}
use Rattle.tc_stream.specs.declared.references.Reference.{Reference}
use Rattle.tc_stream.proofs.EncodedLaws.{FirstByte, first_byte}
use Rattle.tc_stream.proofs.TagExtendLaws.{white_ascii}
use Rattle.tc_stream.proofs.ReferenceScans.{then_reference, reference_more}
use Rattle.tc_stream.proofs.ReferenceSteps.{referred_step, other_step, reference_broken}
use Rattle.tc_stream.proofs.ReadingLaws.{pending_with, refusal_reads, InContent, content, in_content_of}
use Rattle.tc_stream.proofs.PendingLaws.{Stays, pends_of, may_of, tells_of, nonempty, with_char, more_room, grows, ends, breaks, step_at, none_at, one_at}

-- the scan of one character more
scanned_char : (cs : List ℕ) (c : ℕ) (state : Referring) (d : Referred) → reference_scan scans.begun cs ≡ referring state → referred_next state c ≡ d → reference_scan scans.begun (cs ++ c ∷ []) ≡ reference_on d (λ j. referring j) []
scanned_char cs c state d e n = reference_more scans.begun cs (c ∷ []) ∙ (ap (λ z. then_reference z (c ∷ [])) e ∙ ap (λ z. reference_on z (λ j. referring j) []) n)

-- what is kept of a reference stands for its characters
abbrev IsKept : Reference → List ℕ → Type 0
IsKept known w = (state : Referring) × (cs : List ℕ) × (w ≡ 0x26 ∷ encode_utf8_all cs) × (reference_scan scans.begun cs ≡ referring state) × IsReferring known state

pub reference_goes_on : {x : Grammar} {old new : Reader} {chars : List ℕ} {known later : Reference} (c : ℕ) → Stays old new → old.part ≡ parts.Reference known → new.part ≡ parts.Reference later
    → ((state : Referring) → IsReferring known state → (next : Referring) × (referred_next state c ≡ more next) × IsReferring later next) → IsTrue (is_char c) → ReadsTo x old chars → ReadsTo x new (chars ++ encode_utf8 c)
reference_goes_on {x} {old} {new} {chars} {known} c stays at is tells char r = by (pends_of r at)
  where
    by : IsKept known r.pending → ReadsTo x new (chars ++ encode_utf8 c)
    by (state, cs, item, scanned, k) =
        let (next, more_is, l) = tells state k in
        grows c r char stays at is (nonempty item) refl (may_of r at) (next, cs ++ c ∷ [], with_char (0x26 ∷ []) cs c item, scanned_char cs c state (more next) scanned more_is, l)

-- white space is one by its bytes

not_white : (c : ℕ) → 128 ≤ c → is_white c ≡ false
not_white c high = by (is_white c) refl
  where
    by : (y : Bool) → is_white c ≡ y → is_white c ≡ false
    by true e = absurd (omega (arith, high, white_ascii c e))
    by false e = e

and_true : (x : Bool) → (x && true) ≡ x
and_true true = refl
and_true false = refl

white_char : (c : ℕ) → is_white_space_only (encode_utf8 c) ≡ is_white c
white_char c = by (cases_lt c 128) (first_byte c)
  where
    by : (c < 128) ⊎ (128 ≤ c) → FirstByte c → is_white_space_only (encode_utf8 c) ≡ is_white c
    by (inl low) f = ap is_white_space_only (encode_ascii c low) ∙ and_true (is_white c)
    by (inr high) f = ap is_white_space_only f.is ∙ (and_left (is_white f.byte) (list_all is_white f.others) (which f.low_or_high) ∙ sym (not_white c high))
      where
        which : ((c < 128) × (f.byte ≡ c)) ⊎ ((128 ≤ f.byte) × (128 ≤ c)) → is_white f.byte ≡ false
        which (inl (l, e)) = absurd (omega (arith, high, l))
        which (inr (h, e)) = not_white f.byte h

-- it ends, and stands for a character
record Over (x : Grammar) (e : Elements) (n : ℕ) (item : List ℕ) (s : Standing) : Type 0 where
  standing : Standing
  tells : Tells x [] parts.Between e phases.Content standing
  step : (f : List ℕ) (o : Outcome) → StillComes n phases.Content s (item ++ f) o ↔ StillComes (n + length item) phases.Content standing f o

reference_over : {x : Grammar} {e g : Elements} {s : Standing} (n d : ℕ) (ws : List ℕ) (b : Bool) → InContent x [] e s → TakesText b e g → b ≡ is_white d → IsChars (0x26 ∷ encode_utf8_all ws) → reference_scan scans.begun ws ≡ referred d []
    → Over x g n (0x26 ∷ encode_utf8_all ws) s
reference_over {x} {e} {g} n d ws b (content {ls = ls} {l = l} {scope = scope} {run = run} k a) takes same chars scanned =
    let now : AreSteps x e.validity (l ∷ ls) run = subst (λ w. AreSteps x e.validity (l ∷ ls) w) (append-nil run) a in
    let later : AreSteps x g.validity (l ∷ ls) (run ++ encode_utf8 d) = takes.steps x (l ∷ ls) run (encode_utf8 d) (white_char d ∙ sym same) now in
    record {
      standing = open_in (l ∷ ls) scope (run ++ encode_utf8 d);
      tells = within (takes.keeps (l ∷ ls) scope k) (subst (λ w. AreSteps x g.validity (l ∷ ls) w) (sym (append-nil (run ++ encode_utf8 d))) later);
      step = λ f o. referred_step n ws f d l ls scope run o chars scanned;
    }

pub reference_ends : {x : Grammar} {old new : Reader} {chars : List ℕ} {known : Reference} {b : Bool} (c d : ℕ) → old.part ≡ parts.Reference known → new.part ≡ parts.Between → new.phase ≡ old.phase
    → TakesText b old.elements new.elements → b ≡ is_white d → ((state : Referring) → IsReferring known state → referred_next state c ≡ stands_for d) → IsTrue (is_char c) → ReadsTo x old chars → ReadsTo x new (chars ++ encode_utf8 c)
reference_ends {x} {old} {new} {chars} {known} {b} c d at is phase takes same tells char r = by (pends_of r at)
  where
    by : IsKept known r.pending → ReadsTo x new (chars ++ encode_utf8 c)
    by (state, cs, item, scanned, k) =
        let whole : r.pending ++ encode_utf8 c ≡ 0x26 ∷ encode_utf8_all (cs ++ c ∷ []) = with_char (0x26 ∷ []) cs c item in
        let chars_are : IsChars (0x26 ∷ encode_utf8_all (cs ++ c ∷ [])) = subst IsChars whole (pending_with (encode_utf8 c) r (one_char c char)) in
        let over = reference_over (length r.before) d (cs ++ c ∷ []) b (in_content_of (may_of r at) (tells_of r at)) takes same chars_are (scanned_char cs c state (stands_for d) scanned (tells state k)) in
        let now : new.phase ≡ phases.Content = phase ∙ may_of r at in
        ends c over.standing r char is refl tt (subst (λ p. Tells x [] parts.Between new.elements p over.standing) (sym now) over.tells)
        (step_at (length r.before) (r.pending ++ encode_utf8 c) (0x26 ∷ encode_utf8_all (cs ++ c ∷ [])) old.phase new.phase phases.Content phases.Content r.standing over.standing whole (may_of r at) now over.step)

-- it is one to another entity
other_over : {x : Grammar} {known : List ℕ} {e : Elements} {s : Standing} (n : ℕ) (ws f : List ℕ) (o : Outcome) → InContent x known e s → IsChars (0x26 ∷ encode_utf8_all ws) → reference_scan scans.begun ws ≡ scans.other
    → StillComes n phases.Content s ((0x26 ∷ encode_utf8_all ws) ++ f) o ↔ (o ≡ refused (unsupported EntityReference) n)
other_over n ws f o (content {ls = ls} {l = l} {scope = scope} {run = run} k a) chars scanned = other_step n ws f l ls scope run o chars scanned

pub reference_refuses : {x : Grammar} {s : Reader} {chars : List ℕ} {known : Reference} (place : Place) (c : ℕ) → s.part ≡ parts.Reference known → place.0 ≡ s.begun
    → ((state : Referring) → IsReferring known state → referred_next state c ≡ other_entity) → IsTrue (is_char c) → ReadsTo x s chars → IsFaultOfFront (chars ++ encode_utf8 c) (faults.Unsupported place EntityReference)
reference_refuses {x} {s} {chars} {known} place c at here tells char r = by (pends_of r at)
  where
    by : IsKept known r.pending → IsFaultOfFront (chars ++ encode_utf8 c) (faults.Unsupported place EntityReference)
    by (state, cs, item, scanned, k) =
        let whole : r.pending ++ encode_utf8 c ≡ 0x26 ∷ encode_utf8_all (cs ++ c ∷ []) = with_char (0x26 ∷ []) cs c item in
        let chars_are : IsChars (0x26 ∷ encode_utf8_all (cs ++ c ∷ [])) = subst IsChars whole (pending_with (encode_utf8 c) r (one_char c char)) in
        let begins : length r.before ≡ place.0 = sym (here ∙ r.begun (nonempty item)) in
        let one = one_at (length r.before) (r.pending ++ encode_utf8 c) (0x26 ∷ encode_utf8_all (cs ++ c ∷ [])) s.phase phases.Content r.standing (refused (unsupported EntityReference) (length r.before)) whole (may_of r at)
        (λ f o. other_over (length r.before) (cs ++ c ∷ []) f o (in_content_of (may_of r at) (tells_of r at)) chars_are (scanned_char cs c state other_entity scanned (tells state k))) in
        refusal_reads (encode_utf8 c) r place EntityReference
        (λ f o. subst (λ p. StillComes (length r.before) s.phase r.standing ((r.pending ++ encode_utf8 c) ++ f) o ↔ (o ≡ refused (unsupported EntityReference) p)) begins (one f o))

-- there is no such reference
broken_over : {x : Grammar} {known : List ℕ} {e : Elements} {s : Standing} (n : ℕ) (ws f : List ℕ) (o : Outcome) → InContent x known e s → IsChars (0x26 ∷ encode_utf8_all ws) → reference_scan scans.begun ws ≡ no_reference
    → StillComes n phases.Content s ((0x26 ∷ encode_utf8_all ws) ++ f) o → ⊥
broken_over n ws f o (content {ls = ls} {l = l} {scope = scope} {run = run} k a) chars scanned g = reference_broken n ws f l ls scope run o chars scanned g

pub reference_breaks : {x : Grammar} {s : Reader} {chars : List ℕ} {known : Reference} {e : StreamFault} {place : Place} (c : ℕ) → s.part ≡ parts.Reference known
    → ((state : Referring) → IsReferring known state → referred_next state c ≡ unreferred) → e ≡ faults.Malformed place → place.0 ≤ s.begun + 1 → IsTrue (is_char c) → ReadsTo x s chars → IsFaultOfFront (chars ++ encode_utf8 c) e
reference_breaks {x} {s} {chars} {known} {e} {place} c at tells is low char r = by (pends_of r at)
  where
    by : IsKept known r.pending → IsFaultOfFront (chars ++ encode_utf8 c) e
    by (state, cs, item, scanned, k) =
        let whole : r.pending ++ encode_utf8 c ≡ 0x26 ∷ encode_utf8_all (cs ++ c ∷ []) = with_char (0x26 ∷ []) cs c item in
        let chars_are : IsChars (0x26 ∷ encode_utf8_all (cs ++ c ∷ [])) = subst IsChars whole (pending_with (encode_utf8 c) r (one_char c char)) in
        breaks c r is (more_room c place.0 r (nonempty item) low)
        (none_at (length r.before) (r.pending ++ encode_utf8 c) (0x26 ∷ encode_utf8_all (cs ++ c ∷ [])) s.phase phases.Content r.standing whole (may_of r at)
        (λ f o g. broken_over (length r.before) (cs ++ c ∷ []) f o (in_content_of (may_of r at) (tells_of r at)) chars_are (scanned_char cs c state unreferred scanned (tells state k)) g))
