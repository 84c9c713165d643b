-- What a character makes of the target of a processing instruction, and of the question mark behind it.
use Rattle.std.proofs.Common.{◌≡◌, ◌≢◌, inl, inr, ◌⊎◌, ℕ, ◌<◌, ◌≤◌, ◌+◌, Bool, true, false, cond, ◌&&◌, ◌||◌, ◌==◌, List, [], ◌∷◌, ◌++◌, refl, ap, ◌∙◌, sym, subst, length, arith, codes, Option, None, Some, IsTrue, IsFalse, append_assoc, append-nil}
use Rattle.std.specs.Prelude.{encode_utf8, encode_utf8_all}
use Rattle.std.specs.List.{list_all}
use Rattle.std.specs.Str.{str_eq_ignore_ascii_case}
use Rattle.std.proofs.lemmas.Bool.{true≢false, and_from, eqb-true, eqb-false}
use Rattle.std.proofs.lemmas.List.{append_cancel_left}
use Rattle.std.proofs.lemmas.List.Folds.{list_all-append}
use Rattle.std.proofs.lemmas.Str.{encodes-append}
use Rattle.tc_base.specs.Characters.{is_char, is_white}
use Rattle.tc_base.specs.declared.Place.{Place}
use Rattle.tc_model.specs.Grammars.{Grammar}
use Rattle.tc_model.specs.Names.{IsChars, IsNcName, is_ncname_start, is_ncname_char}
use Rattle.tc_model.specs.XmlTextBytes.{BeginsWithWhite}
use Rattle.tc_model.specs.XmlTextNames.{NcNameAt}
use Rattle.tc_model.specs.XmlTextMisc.{InstructionAt}
use Rattle.tc_model.proofs.XmlTextChars.{one_char}
use Rattle.tc_model.proofs.XmlTextPhrases.{same_others, ncname_unique}
use Rattle.tc_stream.specs.From.{StillComes}
use Rattle.tc_stream.specs.Faults.{IsFaultOfFront}
use Rattle.tc_stream.specs.Parts.{IsTargetSoFar, IsOtherTarget}
use Rattle.tc_stream.specs.Scans.{instruction_scan, going}
use Rattle.tc_stream.specs.Stands.{ReadsTo}
use Rattle.tc_stream.specs.Targeting.{IsTargeting}
use Rattle.tc_stream.specs.Targeting as kept
use Rattle.tc_stream.specs.Targets.{Targeted, more, then_white, then_question, untargeted, targeted_next}
use Rattle.tc_stream.specs.declared.faults.StreamFault.{StreamFault}
use Rattle.tc_stream.specs.declared.faults.StreamFault.TheVariants as faults
use Rattle.tc_stream.specs.declared.parts.Part.TheVariants as parts
use Rattle.tc_stream.specs.declared.phases.Phase.{Phase}
use Rattle.tc_stream.specs.declared.phases.Phase.TheVariants as phases
use Rattle.tc_stream.specs.declared.reader.Reader.{Reader}
use Rattle.tc_stream.specs.declared.words.Word.{Word}
use Rattle.tc_stream.proofs.BrokenSteps.{IsNoDeclaration, question_step, name_then, no_target, reserved_target, target_not_apart}
use Rattle.tc_stream.proofs.EncodedLaws.{FirstByte, first_byte, mark_encoded}
use Rattle.tc_stream.proofs.InstructionLaws.{name_before, instruction_bare}
use Rattle.tc_stream.proofs.ItemReads.{IsPassed, item_passed}
use Rattle.tc_stream.proofs.MiscSteps.{is_instruction}
use Rattle.tc_stream.proofs.SplitLaws.{white_begins, begins_white}
use Rattle.tc_stream.proofs.StepLaws.{over_instruction}
use Rattle.tc_stream.proofs.TagExtendLaws.{white_ascii}
use Rattle.tc_stream.proofs.ReadingLaws.{pending_with, stands_in, tells_with}
use Rattle.tc_stream.proofs.PendingLaws.{Stays, Passes, pends_of, may_of, nonempty, one_byte, is_byte, more_room, grows, grows_past, not_mark_past, not_front_past, breaks}

-- what is kept of a target stands for its bytes
abbrev pub IsTarget : Option Word → List ℕ → Type 0
IsTarget target w = (state : Option (List ℕ)) × (name : List ℕ) × (w ≡ codes "<?" ++ name) × IsTargetSoFar state name × IsTargeting target state

-- names

first_name : (c : ℕ) → is_ncname_start c ≡ true → IsNcName (encode_utf8 c)
first_name c h = (c, [], append-nil (encode_utf8 c), h, refl)

longer_name : (name : List ℕ) (c : ℕ) → IsNcName name → is_ncname_char c ≡ true → IsNcName (name ++ encode_utf8 c)
longer_name name c (d, ds, is, starts, goes) h = (
  d,
  ds ++ c ∷ [],
  encodes-append (d ∷ ds) (c ∷ []) ∙ (ap (λ z. encode_utf8_all (d ∷ ds) ++ z) (append-nil (encode_utf8 c)) ∙ ap (λ z. z ++ encode_utf8 c) is),
  starts,
  list_all-append is_ncname_char ds (c ∷ []) ∙ and_from (list_all is_ncname_char ds) (is_ncname_char c && true) goes (and_from (is_ncname_char c) true h refl),
)

xml_name : IsNcName (codes "xml")
xml_name = (0x78, codes "ml", mark_encoded (codes "xml") [] refl, refl, refl)

-- what a character says of a target

-- of a part that goes on, or ends before one of two
abbrev Next : Bool → Bool → Bool → List ℕ → List ℕ → Targeted
Next x y z longer so_far = cond x (more longer) (cond y (then_white so_far) (cond z (then_question so_far) untargeted))

goes_on : (x : Bool) (w : List ℕ) {v : List ℕ} → cond x (more w) untargeted ≡ more v → (x ≡ true) × (w ≡ v)
goes_on true w k = (refl, cc)
goes_on false w k = absurd (cc)

no_white_first : (x : Bool) (w : List ℕ) {v : List ℕ} → cond x (more w) untargeted ≡ then_white v → ⊥
no_white_first true w k = cc
no_white_first false w k = cc

no_question_first : (x : Bool) (w : List ℕ) {v : List ℕ} → cond x (more w) untargeted ≡ then_question v → ⊥
no_question_first true w k = cc
no_question_first false w k = cc

none_first : (x : Bool) (w : List ℕ) → cond x (more w) untargeted ≡ untargeted → x ≡ false
none_first true w k = absurd (cc)
none_first false w k = refl

more_next : (x y z : Bool) (w s : List ℕ) {v : List ℕ} → Next x y z w s ≡ more v → (x ≡ true) × (w ≡ v)
more_next true y z w s k = (refl, cc)
more_next false true z w s k = absurd (cc)
more_next false false true w s k = absurd (cc)
more_next false false false w s k = absurd (cc)

white_next : (x y z : Bool) (w s : List ℕ) {v : List ℕ} → Next x y z w s ≡ then_white v → (x ≡ false) × (y ≡ true) × (s ≡ v)
white_next true y z w s k = absurd (cc)
white_next false true z w s k = (refl, refl, cc)
white_next false false true w s k = absurd (cc)
white_next false false false w s k = absurd (cc)

question_next : (x y z : Bool) (w s : List ℕ) {v : List ℕ} → Next x y z w s ≡ then_question v → (x ≡ false) × (z ≡ true) × (s ≡ v)
question_next true y z w s k = absurd (cc)
question_next false true z w s k = absurd (cc)
question_next false false true w s k = (refl, refl, cc)
question_next false false false w s k = absurd (cc)

none_next : (x y z : Bool) (w s : List ℕ) → Next x y z w s ≡ untargeted → (x ≡ false) × (y ≡ false) × (z ≡ false)
none_next true y z w s k = absurd (cc)
none_next false true z w s k = absurd (cc)
none_next false false true w s k = absurd (cc)
none_next false false false w s k = (refl, refl, refl)

-- the name goes on
record Longer (name written : List ℕ) (c : ℕ) : Type 0 where
  is : written ≡ name ++ encode_utf8 c
  lawful : IsNcName written

longer_of : (state : Option (List ℕ)) (name : List ℕ) (c : ℕ) (written : List ℕ) → IsTargetSoFar state name → targeted_next state c ≡ more written → Longer name written c
longer_of None name c written empty e =
    let both = goes_on (is_ncname_start c) (encode_utf8 c) e in
    record { is = sym both.1 ∙ sym (ap (λ z. z ++ encode_utf8 c) empty); lawful = subst (λ z. IsNcName z) both.1 (first_name c both.0) }
longer_of (Some so_far) name c written (same, lawful) e =
    let both = more_next (is_ncname_char c) (is_white c) (c == 0x3F) (so_far ++ encode_utf8 c) so_far e in
    record { is = sym both.1 ∙ ap (λ w. w ++ encode_utf8 c) (sym same); lawful = subst (λ w. IsNcName w) both.1 (longer_name so_far c lawful both.0) }

-- it has ended, and this follows
pub record Ended (name written : List ℕ) (c : ℕ) (is_next : ℕ → Bool) : Type 0 where
  pub is : written ≡ name
  pub lawful : IsNcName name
  pub next : is_next c ≡ true
  pub no_char : is_ncname_char c ≡ false

pub white_of : (state : Option (List ℕ)) (name : List ℕ) (c : ℕ) (written : List ℕ) → IsTargetSoFar state name → targeted_next state c ≡ then_white written → Ended name written c is_white
white_of None name c written empty e = absurd (no_white_first (is_ncname_start c) (encode_utf8 c) e)
white_of (Some so_far) name c written (same, lawful) e =
    let all = white_next (is_ncname_char c) (is_white c) (c == 0x3F) (so_far ++ encode_utf8 c) so_far e in
    record { is = sym all.2 ∙ sym same; lawful = subst (λ w. IsNcName w) (sym same) lawful; next = all.1; no_char = all.0 }

abbrev is_question : ℕ → Bool
is_question c = c == 0x3F

question_of : (state : Option (List ℕ)) (name : List ℕ) (c : ℕ) (written : List ℕ) → IsTargetSoFar state name → targeted_next state c ≡ then_question written → Ended name written c is_question
question_of None name c written empty e = absurd (no_question_first (is_ncname_start c) (encode_utf8 c) e)
question_of (Some so_far) name c written (same, lawful) e =
    let all = question_next (is_ncname_char c) (is_white c) (c == 0x3F) (so_far ++ encode_utf8 c) so_far e in
    record { is = sym all.2 ∙ sym same; lawful = subst (λ w. IsNcName w) (sym same) lawful; next = all.1; no_char = all.0 }

-- there is no such target
data Broken (name : List ℕ) (c : ℕ) : Type 0 where
  no_start : name ≡ [] → is_ncname_start c ≡ false → Broken name c
  no_end : IsNcName name → is_ncname_char c ≡ false → is_white c ≡ false → (c == 0x3F) ≡ false → Broken name c

broken_of : (state : Option (List ℕ)) (name : List ℕ) (c : ℕ) → IsTargetSoFar state name → targeted_next state c ≡ untargeted → Broken name c
broken_of None name c empty e = no_start empty (none_first (is_ncname_start c) (encode_utf8 c) e)
broken_of (Some so_far) name c (same, lawful) e =
    let all = none_next (is_ncname_char c) (is_white c) (c == 0x3F) (so_far ++ encode_utf8 c) so_far e in
    no_end (subst (λ w. IsNcName w) (sym same) lawful) all.0 all.1 all.2

-- no XML declaration

xml_at : (t : List ℕ) → BeginsWithWhite t → NcNameAt (codes "xml" ++ t) (codes "xml") t
xml_at [] h = absurd (omega (arith, h))
xml_at (b ∷ t) h = name_before (codes "xml") b t xml_name (ap (λ x. x || b == 0x3F) (begins_white b t h))

-- behind a name that isn't `xml`, or behind which no white space stands
pub no_declaration : {bs name behind : List ℕ} (t : List ℕ) → NcNameAt bs name behind → (name ≡ codes "xml" → BeginsWithWhite behind → ⊥) → bs ≡ codes "xml" ++ t → BeginsWithWhite t → ⊥
no_declaration {bs} {name} {behind} t a none e w =
    let same = ncname_unique (subst (λ z. NcNameAt z name behind) e a) (xml_at t w) in
    none same.0 (subst (λ z. BeginsWithWhite z) (sym same.1) w)

pub no_declaration_in : (phase : Phase) (w : List ℕ) → phase ≢ phases.Mark → (phase ≡ phases.Front → (t : List ℕ) → w ≡ codes "xml" ++ t → BeginsWithWhite t → ⊥) → IsNoDeclaration phase w
no_declaration_in phases.Mark w m n = absurd (m refl)
no_declaration_in phases.Front w m n = n refl
no_declaration_in phases.Prolog w m n = tt
no_declaration_in phases.Root w m n = tt
no_declaration_in phases.Content w m n = tt
no_declaration_in phases.End w m n = tt

-- it isn't `xml`
other_name : (name : List ℕ) → IsFalse (str_eq_ignore_ascii_case name (codes "xml")) → name ≡ codes "xml" → ⊥
other_name name h e = true≢false (ap (λ z. str_eq_ignore_ascii_case z (codes "xml")) (sym e) ∙ h)

-- white space is one byte
pub white_byte : (c : ℕ) → is_white c ≡ true → encode_utf8 c ≡ c ∷ []
white_byte c h = one_byte refl (white_ascii c h)

not_white_begins : (c : ℕ) (f : List ℕ) → is_white c ≡ false → BeginsWithWhite (encode_utf8 c ++ f) → ⊥
not_white_begins c f h w = by (first_byte c)
  where
    by : FirstByte c → ⊥
    by b = which b.low_or_high
      where
        white : is_white b.byte ≡ true
        white = begins_white b.byte (b.others ++ f) (subst (λ z. BeginsWithWhite (z ++ f)) b.is w)

        which : ((c < 128) × (b.byte ≡ c)) ⊎ ((128 ≤ b.byte) × (128 ≤ c)) → ⊥
        which (inl (low, e)) = true≢false (sym white ∙ (ap is_white e ∙ h))
        which (inr (high, k)) = omega (arith, high, white_ascii b.byte white)

-- the target goes on

pub target_goes_on : {x : Grammar} {old new : Reader} {chars : List ℕ} {target : Option Word} {later : Word} (c : ℕ) → Stays old new → old.part ≡ parts.Target target → new.part ≡ parts.Target (Some later)
    → ((state : Option (List ℕ)) → IsTargeting target state → (written : List ℕ) × (targeted_next state c ≡ more written) × kept.Keeps later written) → IsTrue (is_char c) → ReadsTo x old chars
    → ReadsTo x new (chars ++ encode_utf8 c)
target_goes_on {x} {old} {new} {chars} {target} c stays at is tells char r = by (pends_of r at)
  where
    by : IsTarget target r.pending → ReadsTo x new (chars ++ encode_utf8 c)
    by (state, name, item, so_far, k) =
        let (written, next, keeps) = tells state k in
        let longer = longer_of state name c written so_far next in
        let whole : r.pending ++ encode_utf8 c ≡ codes "<?" ++ written = ap (λ z. z ++ encode_utf8 c) item ∙ ap (λ z. codes "<?" ++ z) (sym longer.is) in
        grows c r char stays at is (nonempty item) refl (may_of r at) (Some written, written, whole, (refl, longer.lawful), (written, refl, keeps))

-- it ends before white space

white_scan : (c : ℕ) → is_white c ≡ true → instruction_scan 0 (c ∷ []) ≡ going 0
white_scan c h = by (c == 0x3F) (c == 0x3E) refl refl
  where
    by : (x y : Bool) → (c == 0x3F) ≡ x → (c == 0x3E) ≡ y → cond x (going 1) (cond y (going 0) (going 0)) ≡ going 0
    by true y e i = absurd (true≢false (sym h ∙ ap is_white (eqb-true c 0x3F e)))
    by false true e i = refl
    by false false e i = refl

pub instruction_begins : {x : Grammar} {old new : Reader} {chars : List ℕ} {target : Option Word} (known : Word) (c : ℕ) → Passes old new → old.part ≡ parts.Target target → new.part ≡ parts.Instruction 0
    → ((state : Option (List ℕ)) → IsTargeting target state → (written : List ℕ) × (targeted_next state c ≡ then_white written) × kept.Keeps known written)
    → ((written : List ℕ) → kept.Keeps known written → str_eq_ignore_ascii_case written (codes "xml") ≡ false) → IsTrue (is_char c) → ReadsTo x old chars → ReadsTo x new (chars ++ encode_utf8 c)
instruction_begins {x} {old} {new} {chars} {target} known c passes at is tells other char r = by (pends_of r at)
  where
    by : IsTarget target r.pending → ReadsTo x new (chars ++ encode_utf8 c)
    by (state, name, item, so_far, k) =
        let (written, next, keeps) = tells state k in
        let ended = white_of state name c written so_far next in
        let not_xml : str_eq_ignore_ascii_case name (codes "xml") ≡ false = subst (λ z. str_eq_ignore_ascii_case z (codes "xml") ≡ false) ended.is (other written keeps) in
        let whole : r.pending ++ encode_utf8 c ≡ codes "<?" ++ (name ++ encode_utf8 c) = ap (λ z. z ++ encode_utf8 c) item in
        let there : r.pending ++ encode_utf8 c ≡ codes "<?" ++ (name ++ c ∷ []) = whole ∙ ap (λ z. codes "<?" ++ (name ++ z)) (white_byte c ended.next) in
        grows_past c r char passes at is (nonempty item)
        (λ f t e w. no_declaration t (name_then name c f ended.lawful ended.no_char) (λ n. absurd (other_name name not_xml n))
        (sym (append_assoc name (encode_utf8 c) f) ∙ append_cancel_left (codes "<?") ((name ++ encode_utf8 c) ++ f) (codes "xml" ++ t) (sym (ap (λ z. z ++ f) whole) ∙ e)) w)
        refl (not_mark_past old.phase (may_of r at), not_front_past old.phase) (name, c ∷ [], there, (ended.lawful, not_xml), white_begins c [] ended.next, white_scan c ended.next)

-- before a question mark

pub targeted_begins : {x : Grammar} {old new : Reader} {chars : List ℕ} {target : Option Word} (known : Word) (c : ℕ) → Passes old new → old.part ≡ parts.Target target → new.part ≡ parts.Targeted
    → ((state : Option (List ℕ)) → IsTargeting target state → (written : List ℕ) × (targeted_next state c ≡ then_question written) × kept.Keeps known written)
    → ((written : List ℕ) → kept.Keeps known written → str_eq_ignore_ascii_case written (codes "xml") ≡ false) → IsTrue (is_char c) → ReadsTo x old chars → ReadsTo x new (chars ++ encode_utf8 c)
targeted_begins {x} {old} {new} {chars} {target} known c passes at is tells other char r = by (pends_of r at)
  where
    by : IsTarget target r.pending → ReadsTo x new (chars ++ encode_utf8 c)
    by (state, name, item, so_far, k) =
        let (written, next, keeps) = tells state k in
        let ended = question_of state name c written so_far next in
        let not_xml : str_eq_ignore_ascii_case name (codes "xml") ≡ false = subst (λ z. str_eq_ignore_ascii_case z (codes "xml") ≡ false) ended.is (other written keeps) in
        let whole : r.pending ++ encode_utf8 c ≡ codes "<?" ++ (name ++ encode_utf8 c) = ap (λ z. z ++ encode_utf8 c) item in
        let there : r.pending ++ encode_utf8 c ≡ codes "<?" ++ (name ++ 0x3F ∷ []) = whole ∙ ap (λ z. codes "<?" ++ (name ++ z)) (one_byte (eqb-true c 0x3F ended.next) (omega arith)) in
        grows_past c r char passes at is (nonempty item)
        (λ f t e w. no_declaration t (name_then name c f ended.lawful ended.no_char) (λ n. absurd (other_name name not_xml n))
        (sym (append_assoc name (encode_utf8 c) f) ∙ append_cancel_left (codes "<?") ((name ++ encode_utf8 c) ++ f) (codes "xml" ++ t) (sym (ap (λ z. z ++ f) whole) ∙ e)) w)
        refl (not_mark_past old.phase (may_of r at), not_front_past old.phase) (name, there, (ended.lawful, not_xml))

-- it is reserved, or there is none

target_none : {x : Grammar} {s : Reader} {chars : List ℕ} {e : StreamFault} {place : Place} (c : ℕ) (r : ReadsTo x s chars) (name : List ℕ) → r.pending ≡ codes "<?" ++ name → s.phase ≢ phases.Mark
    → ((f t : List ℕ) → InstructionAt (codes "<?" ++ ((name ++ encode_utf8 c) ++ f)) t → ⊥) → (s.phase ≡ phases.Front → (f t : List ℕ) → (name ++ encode_utf8 c) ++ f ≡ codes "xml" ++ t → BeginsWithWhite t → ⊥)
    → e ≡ faults.Malformed place → place.0 ≤ s.begun + 1 → IsTrue (is_char c) → IsFaultOfFront (chars ++ encode_utf8 c) e
target_none {s = s} {place = place} c r name item m none front is low char =
    let whole : r.pending ++ encode_utf8 c ≡ 0x3C ∷ 0x3F ∷ (name ++ encode_utf8 c) = ap (λ z. z ++ encode_utf8 c) item in
    let chars_are : IsChars (0x3C ∷ 0x3F ∷ (name ++ encode_utf8 c)) = subst IsChars whole (pending_with (encode_utf8 c) r (one_char c char)) in
    breaks c r is (more_room c place.0 r (nonempty item) low)
    (λ f o g. question_step (length r.before) (name ++ encode_utf8 c) f s.phase r.standing o (stands_in m r.tells) chars_are none
    (λ h. no_declaration_in s.phase ((name ++ encode_utf8 c) ++ h) m (λ e. front e h))
    (subst (λ z. StillComes (length r.before) s.phase r.standing (z ++ f) o) whole g))

-- a name behind which this stands
name_here : (name : List ℕ) (c : ℕ) (f : List ℕ) → IsNcName name → is_ncname_char c ≡ false → NcNameAt ((name ++ encode_utf8 c) ++ f) name (encode_utf8 c ++ f)
name_here name c f lawful h = subst (λ z. NcNameAt z name (encode_utf8 c ++ f)) (sym (append_assoc name (encode_utf8 c) f)) (name_then name c f lawful h)

pub reserved_white : {x : Grammar} {s : Reader} {chars : List ℕ} {target : Option Word} {e : StreamFault} {place : Place} (known : Word) (c : ℕ) → s.part ≡ parts.Target target
    → ((state : Option (List ℕ)) → IsTargeting target state → (written : List ℕ) × (targeted_next state c ≡ then_white written) × kept.Keeps known written)
    → ((written : List ℕ) → kept.Keeps known written → str_eq_ignore_ascii_case written (codes "xml") ≡ true) → (s.phase ≡ phases.Front → (written : List ℕ) → kept.Keeps known written → written ≡ codes "xml" → ⊥)
    → e ≡ faults.Malformed place → place.0 ≤ s.begun + 1 → IsTrue (is_char c) → ReadsTo x s chars → IsFaultOfFront (chars ++ encode_utf8 c) e
reserved_white {x} {s} {chars} {target} {e} {place} known c at tells xml front is low char r = by (pends_of r at)
  where
    by : IsTarget target r.pending → IsFaultOfFront (chars ++ encode_utf8 c) e
    by (state, name, item, so_far, k) =
        let (written, next, keeps) = tells state k in
        let ended = white_of state name c written so_far next in
        target_none c r name item (may_of r at)
        (λ f t a. reserved_target t (name_here name c f ended.lawful ended.no_char) (subst (λ z. str_eq_ignore_ascii_case z (codes "xml") ≡ true) ended.is (xml written keeps)) a)
        (λ p f t d w. no_declaration t (name_here name c f ended.lawful ended.no_char) (λ n. absurd (front p written keeps (ended.is ∙ n))) d w)
        is low char

pub reserved_question : {x : Grammar} {s : Reader} {chars : List ℕ} {target : Option Word} {e : StreamFault} {place : Place} (known : Word) (c : ℕ) → s.part ≡ parts.Target target
    → ((state : Option (List ℕ)) → IsTargeting target state → (written : List ℕ) × (targeted_next state c ≡ then_question written) × kept.Keeps known written)
    → ((written : List ℕ) → kept.Keeps known written → str_eq_ignore_ascii_case written (codes "xml") ≡ true)
    → e ≡ faults.Malformed place → place.0 ≤ s.begun + 1 → IsTrue (is_char c) → ReadsTo x s chars → IsFaultOfFront (chars ++ encode_utf8 c) e
reserved_question {x} {s} {chars} {target} {e} {place} known c at tells xml is low char r = by (pends_of r at)
  where
    no_white : (f : List ℕ) → (c == 0x3F) ≡ true → BeginsWithWhite (encode_utf8 c ++ f) → ⊥
    no_white f q w = not_white_begins c f (ap is_white (eqb-true c 0x3F q)) w

    by : IsTarget target r.pending → IsFaultOfFront (chars ++ encode_utf8 c) e
    by (state, name, item, so_far, k) =
        let (written, next, keeps) = tells state k in
        let ended = question_of state name c written so_far next in
        target_none c r name item (may_of r at)
        (λ f t a. reserved_target t (name_here name c f ended.lawful ended.no_char) (subst (λ z. str_eq_ignore_ascii_case z (codes "xml") ≡ true) ended.is (xml written keeps)) a)
        (λ p f t d w. no_declaration t (name_here name c f ended.lawful ended.no_char) (λ n. no_white f ended.next) d w)
        is low char

pub target_breaks : {x : Grammar} {s : Reader} {chars : List ℕ} {target : Option Word} {e : StreamFault} {place : Place} (c : ℕ) → s.part ≡ parts.Target target
    → ((state : Option (List ℕ)) → IsTargeting target state → targeted_next state c ≡ untargeted)
    → e ≡ faults.Malformed place → place.0 ≤ s.begun + 1 → IsTrue (is_char c) → ReadsTo x s chars → IsFaultOfFront (chars ++ encode_utf8 c) e
target_breaks {x} {s} {chars} {target} {e} {place} c at tells is low char r = by (pends_of r at)
  where
    broken : (name : List ℕ) → r.pending ≡ codes "<?" ++ name → Broken name c → IsFaultOfFront (chars ++ encode_utf8 c) e
    broken name item (no_start empty h) =
        target_none c r [] (item ∙ ap (λ z. codes "<?" ++ z) empty) (may_of r at) (λ f t a. no_target c f t h a)
        (λ p f t d w. true≢false (ap is_ncname_start (sym (is_byte c 0x78 f (codes "ml" ++ t) (omega arith) d)) ∙ h))
        is low char
    broken name item (no_end lawful h white question) =
        target_none c r name item (may_of r at)
        (λ f t a. target_not_apart t (name_here name c f lawful h) (not_white_begins c f white) (λ u d. eqb-false c 0x3F question (is_byte c 0x3F f (0x3E ∷ u) (omega arith) d)) a)
        (λ p f t d w. no_declaration t (name_here name c f lawful h) (λ n. not_white_begins c f white) d w)
        is low char

    by : IsTarget target r.pending → IsFaultOfFront (chars ++ encode_utf8 c) e
    by (state, name, item, so_far, k) = broken name item (broken_of state name c so_far (tells state k))

-- behind the question mark

abbrev IsBare : List ℕ → Type 0
IsBare w = (name : List ℕ) × (w ≡ codes "<?" ++ (name ++ 0x3F ∷ [])) × IsOtherTarget name

bare_passed : (name : List ℕ) → IsOtherTarget name → IsPassed (codes "<?" ++ (name ++ codes "?>"))
bare_passed name lawful = record {
  misc = λ f. is_instruction (instruction_bare name f lawful.0 lawful.1);
  inside = λ total l ls scope run f o. over_instruction (codes "<?" ++ (name ++ codes "?>")) total l ls scope run f o (instruction_bare name f lawful.0 lawful.1);
}

pub targeted_ends : {x : Grammar} {old new : Reader} {chars : List ℕ} (c : ℕ) → Stays old new → old.part ≡ parts.Targeted → new.part ≡ parts.Between → c ≡ 0x3E → IsTrue (is_char c) → ReadsTo x old chars
    → ReadsTo x new (chars ++ encode_utf8 c)
targeted_ends {x} {old} {new} {chars} c stays at is same char r = by (pends_of r at)
  where
    by : IsBare r.pending → ReadsTo x new (chars ++ encode_utf8 c)
    by (name, item, lawful) =
        let whole : r.pending ++ encode_utf8 c ≡ codes "<?" ++ (name ++ codes "?>") =
        ap (λ z. z ++ encode_utf8 c) item ∙ (ap (λ z. codes "<?" ++ ((name ++ 0x3F ∷ []) ++ z)) (one_byte same (omega arith)) ∙ ap (λ z. codes "<?" ++ z) (append_assoc name (0x3F ∷ []) (0x3E ∷ []))) in
        item_passed (encode_utf8 c) r (one_char c char) (may_of r at) (subst (λ z. IsPassed z) (sym whole) (bare_passed name lawful)) is stays.phase stays.elements
        (tells_with r parts.Targeted parts.Between [] at refl)

pub targeted_breaks : {x : Grammar} {s : Reader} {chars : List ℕ} {e : StreamFault} {place : Place} (c : ℕ) → s.part ≡ parts.Targeted → (c ≡ 0x3E → ⊥) → e ≡ faults.Malformed place → place.0 ≤ s.begun + 1
    → IsTrue (is_char c) → ReadsTo x s chars → IsFaultOfFront (chars ++ encode_utf8 c) e
targeted_breaks {x} {s} {chars} {e} {place} c at not_end is low char r = by (pends_of r at) (may_of r at)
  where
    at_question : (name f : List ℕ) → IsNcName name → NcNameAt (((name ++ 0x3F ∷ []) ++ encode_utf8 c) ++ f) name (0x3F ∷ (encode_utf8 c ++ f))
    at_question name f lawful =
        subst (λ z. NcNameAt z name (0x3F ∷ (encode_utf8 c ++ f))) (sym (append_assoc (name ++ 0x3F ∷ []) (encode_utf8 c) f ∙ append_assoc name (0x3F ∷ []) (encode_utf8 c ++ f)))
        (name_before name 0x3F (encode_utf8 c ++ f) lawful refl)

    by : IsBare r.pending → (s.phase ≢ phases.Mark) × (s.phase ≢ phases.Front) → IsFaultOfFront (chars ++ encode_utf8 c) e
    by (name, item, lawful) (m, q) =
        target_none c r (name ++ 0x3F ∷ []) item m
        (λ f t a. target_not_apart t (at_question name f lawful.0) (λ w. true≢false (sym (begins_white 0x3F (encode_utf8 c ++ f) w)))
        (λ u d. not_end (is_byte c 0x3E f u (omega arith) (same_others d))) a)
        (λ p f t d w. absurd (q p)) is low char
