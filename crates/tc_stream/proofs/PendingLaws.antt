-- How what has begun goes on with a character, in the part of a document in which it stands or behind the front of it; and why it can't.
use Rattle.std.proofs.Common.{◌≡◌, ◌≢◌, ℕ, ◌<◌, ◌≤◌, ◌+◌, true, List, [], ◌∷◌, ◌++◌, refl, ap, ◌∙◌, sym, subst, length, arith, codes, IsTrue, append_assoc, append-nil, length-append}
use Rattle.std.specs.Prelude.{◌↔◌, encode_utf8, encode_utf8_all}
use Rattle.std.proofs.lemmas.Str.{encode_ascii, encode_same, encodes-append, char_from_byte, length-encode, len_utf8_bounds}
use Rattle.tc_base.specs.Characters.{is_char}
use Rattle.tc_base.specs.declared.Place.{Place}
use Rattle.tc_model.specs.Grammars.{Grammar}
use Rattle.tc_model.specs.Names.{IsChars, is_ncname_start}
use Rattle.tc_model.specs.Trees.{is_white_space_only}
use Rattle.tc_model.specs.XmlTextBytes.{BeginsWithWhite}
use Rattle.tc_model.specs.XmlTextNames.{NcNameAt}
use Rattle.tc_model.specs.XmlTextScopes.{first_scope}
use Rattle.tc_model.proofs.XmlTextChars.{one_char}
use Rattle.tc_stream.specs.Outcomes.{Outcome}
use Rattle.tc_stream.specs.From.{Standing, open_in, StillComes}
use Rattle.tc_stream.specs.Faults.{IsFaultOfFront}
use Rattle.tc_stream.specs.Keeps.{AreSteps, Keeps}
use Rattle.tc_stream.specs.Parts.{Pends, MayPend}
use Rattle.tc_stream.specs.Phases.{past_front}
use Rattle.tc_stream.specs.Stands.{ReadsTo, Tells, before, within, behind, known_text}
use Rattle.tc_stream.specs.declared.elements.Elements.{Elements}
use Rattle.tc_stream.specs.declared.faults.StreamFault.{StreamFault}
use Rattle.tc_stream.specs.declared.faults.StreamFault.TheVariants as faults
use Rattle.tc_stream.specs.declared.parts.Part.{Part}
use Rattle.tc_stream.specs.declared.phases.Phase.{Phase}
use Rattle.tc_stream.specs.declared.phases.Phase.TheVariants as phases
use Rattle.tc_stream.specs.declared.reader.Reader.{Reader}
use Rattle.tc_stream.proofs.FrontSteps.{front_left}
use Rattle.tc_stream.proofs.ReadingLaws.{goes_on, grown, whole, pending_with, nothing_reads, tells_alike, tells_moved}

-- what is known of what has begun

pub pends_of : {x : Grammar} {s : Reader} {chars : List ℕ} {part : Part} (r : ReadsTo x s chars) → s.part ≡ part → Pends (length r.before) part s r.pending
pends_of {s = s} r at = subst (λ p. Pends (length r.before) p s r.pending) at r.pends

pub may_of : {x : Grammar} {s : Reader} {chars : List ℕ} {part : Part} (r : ReadsTo x s chars) → s.part ≡ part → MayPend s.phase part
may_of {s = s} r at = subst (λ p. MayPend s.phase p) at r.may

pub tells_of : {x : Grammar} {s : Reader} {chars : List ℕ} {part : Part} (r : ReadsTo x s chars) → s.part ≡ part → Tells x r.pending part s.elements s.phase r.standing
tells_of {x} {s = s} r at = subst (λ p. Tells x r.pending p s.elements s.phase r.standing) at r.tells

pub nonempty : {w p : List ℕ} {b : ℕ} → w ≡ b ∷ p → w ≢ []
nonempty e n = omega (arith, ap length (sym e ∙ n))

-- bytes and characters

pub one_byte : {c b : ℕ} → c ≡ b → b < 128 → encode_utf8 c ≡ b ∷ []
one_byte {c} {b} e low = ap encode_utf8 e ∙ encode_ascii b low

-- a character that begins with a byte of ASCII is that
pub is_byte : (c b : ℕ) (f r : List ℕ) → b < 128 → encode_utf8 c ++ f ≡ b ∷ r → c ≡ b
is_byte c b f r low e = char_from_byte (b ∷ r) f c (sym e) low (omega arith)

-- characters, and one more
pub with_char : {w : List ℕ} (front cs : List ℕ) (c : ℕ) → w ≡ front ++ encode_utf8_all cs → w ++ encode_utf8 c ≡ front ++ encode_utf8_all (cs ++ c ∷ [])
with_char front cs c e =
    let one : encode_utf8_all (cs ++ c ∷ []) ≡ encode_utf8_all cs ++ encode_utf8 c = encodes-append cs (c ∷ []) ∙ ap (λ z. encode_utf8_all cs ++ z) (append-nil (encode_utf8 c)) in
    ap (λ z. z ++ encode_utf8 c) e ∙ (append_assoc front (encode_utf8_all cs) (encode_utf8 c) ∙ ap (λ z. front ++ z) (sym one))

pub ncname_starts : {bs name after : List ℕ} (c : ℕ) (f : List ℕ) → bs ≡ encode_utf8 c ++ f → NcNameAt bs name after → is_ncname_start c ≡ true
ncname_starts {bs} {name} {after} c f e a =
    let (d, ds, is, starts, goes) = a.lawful in
    let same : encode_utf8 c ++ f ≡ encode_utf8 d ++ (encode_utf8_all ds ++ after) = sym e ∙ (a.parts ∙ (ap (λ w. w ++ after) (sym is) ∙ append_assoc (encode_utf8 d) (encode_utf8_all ds) after)) in
    ap is_ncname_start (encode_same c d f (encode_utf8_all ds ++ after) same).0 ∙ starts

-- how far a place lies that stands at the begin, or a byte behind it
pub more_room : {x : Grammar} {s : Reader} {chars : List ℕ} (c p : ℕ) (r : ReadsTo x s chars) → r.pending ≢ [] → p ≤ s.begun + 1 → p ≤ length chars + length (encode_utf8 c)
more_room {chars = chars} c p r some low = omega (arith, low, r.begun some, ap length r.parts_are, length-append r.before r.pending, length-encode c, len_utf8_bounds c)

-- the same, with a character more

-- nothing but what has begun changes
pub record Stays (old new : Reader) : Type 0 where
  pub begun : new.begun ≡ old.begun
  pub elements : new.elements ≡ old.elements
  pub phase : new.phase ≡ old.phase

pub grows : {x : Grammar} {old new : Reader} {chars : List ℕ} {from to : Part} (c : ℕ) (r : ReadsTo x old chars) → IsTrue (is_char c) → Stays old new → old.part ≡ from → new.part ≡ to → r.pending ≢ []
    → is_white_space_only (known_text from r.pending) ≡ is_white_space_only (known_text to (r.pending ++ encode_utf8 c)) → MayPend old.phase to → Pends (length r.before) to new (r.pending ++ encode_utf8 c)
    → ReadsTo x new (chars ++ encode_utf8 c)
grows {x} {old} {new} {chars} {from} {to} c r char stays at is some text may pends =
    grown (encode_utf8 c) r (one_char c char) stays.phase (λ h. stays.begun ∙ r.begun some)
    (subst (λ p. Pends (length r.before) p new (r.pending ++ encode_utf8 c)) (sym is) pends)
    (subst (λ p. MayPend new.phase p) (sym is) (subst (λ z. MayPend z to) (sym stays.phase) may))
    (subst (λ p. Tells x (r.pending ++ encode_utf8 c) p new.elements new.phase r.standing) (sym is) (tells_moved stays.elements stays.phase (tells_alike text (tells_of r at))))

-- what has begun is no XML declaration, however it goes on
abbrev pub IsNoDeclared : List ℕ → Type 0
IsNoDeclared item = (f r : List ℕ) → item ++ f ≡ codes "<?xml" ++ r → BeginsWithWhite r → ⊥

-- it is read behind the front of a document
pub record Passes (old new : Reader) : Type 0 where
  pub begun : new.begun ≡ old.begun
  pub elements : new.elements ≡ old.elements
  pub phase : new.phase ≡ past_front old.phase

pub phase_past : (n : ℕ) (item r : List ℕ) (phase : Phase) (s : Standing) (o : Outcome) → IsChars item → IsNoDeclared item → StillComes n phase s (item ++ r) o ↔ StillComes n (past_front phase) s (item ++ r) o
phase_past n item r phases.Mark s o chars none = (λ g. g, λ g. g)
phase_past n item r phases.Front s o chars none = front_left n item r s o chars none
phase_past n item r phases.Prolog s o chars none = (λ g. g, λ g. g)
phase_past n item r phases.Root s o chars none = (λ g. g, λ g. g)
phase_past n item r phases.Content s o chars none = (λ g. g, λ g. g)
phase_past n item r phases.End s o chars none = (λ g. g, λ g. g)

past_before : {x : Grammar} {pending : List ℕ} {part : Part} {e : Elements} (phase : Phase) → phase ≢ phases.Content → phase ≢ phases.End → Keeps e [] first_scope → AreSteps x e.validity [] []
    → Tells x pending part e (past_front phase) (open_in [] [] [])
past_before phases.Mark p q k a = before p q k a
past_before phases.Front p q k a = before (λ h. cc) (λ h. cc) k a
past_before phases.Prolog p q k a = before p q k a
past_before phases.Root p q k a = before p q k a
past_before phases.Content p q k a = absurd (p refl)
past_before phases.End p q k a = absurd (q refl)

pub told_past : {x : Grammar} {pending : List ℕ} {part : Part} {e : Elements} {phase : Phase} {s : Standing} → Tells x pending part e phase s → Tells x pending part e (past_front phase) s
told_past (before {phase = phase} p q k a) = past_before phase p q k a
told_past (within k a) = within k a
told_past (behind e v) = behind e v

pub grows_past : {x : Grammar} {old new : Reader} {chars : List ℕ} {from to : Part} (c : ℕ) (r : ReadsTo x old chars) → IsTrue (is_char c) → Passes old new → old.part ≡ from → new.part ≡ to → r.pending ≢ []
    → IsNoDeclared (r.pending ++ encode_utf8 c)
    → is_white_space_only (known_text from r.pending) ≡ is_white_space_only (known_text to (r.pending ++ encode_utf8 c)) → MayPend (past_front old.phase) to → Pends (length r.before) to new (r.pending ++ encode_utf8 c)
    → ReadsTo x new (chars ++ encode_utf8 c)
grows_past {x} {old} {new} {chars} {from} {to} c r char passes at is some none text may pends =
    goes_on (encode_utf8 c) r.before (r.pending ++ encode_utf8 c) r.standing r refl r.before_chars (pending_with (encode_utf8 c) r (one_char c char)) (λ h. passes.begun ∙ r.begun some)
    (subst (λ p. Pends (length r.before) p new (r.pending ++ encode_utf8 c)) (sym is) pends)
    (subst (λ p. MayPend new.phase p) (sym is) (subst (λ z. MayPend z to) (sym passes.phase) may))
    (subst (λ p. Tells x (r.pending ++ encode_utf8 c) p new.elements new.phase r.standing) (sym is) (tells_moved passes.elements passes.phase (told_past (tells_alike text (tells_of r at)))))
    (λ f o. same f o)
  where
    same : (f : List ℕ) (o : Outcome) → StillComes (length r.before) old.phase r.standing ((r.pending ++ encode_utf8 c) ++ f) o ↔ StillComes (length r.before) new.phase r.standing ((r.pending ++ encode_utf8 c) ++ f) o
    same f o =
        let past = phase_past (length r.before) (r.pending ++ encode_utf8 c) f old.phase r.standing o (pending_with (encode_utf8 c) r (one_char c char)) none in (
          λ g. subst (λ p. StillComes (length r.before) p r.standing ((r.pending ++ encode_utf8 c) ++ f) o) (sym passes.phase) (past.0 g),
          λ g. past.1 (subst (λ p. StillComes (length r.before) p r.standing ((r.pending ++ encode_utf8 c) ++ f) o) passes.phase g),
        )

-- where that phase may not be the front of a document
pub not_mark_past : (phase : Phase) → phase ≢ phases.Mark → past_front phase ≢ phases.Mark
not_mark_past phases.Mark n h = n refl
not_mark_past phases.Front n h = cc
not_mark_past phases.Prolog n h = cc
not_mark_past phases.Root n h = cc
not_mark_past phases.Content n h = cc
not_mark_past phases.End n h = cc

pub not_front_past : (phase : Phase) → past_front phase ≢ phases.Front
not_front_past phases.Mark h = cc
not_front_past phases.Front h = cc
not_front_past phases.Prolog h = cc
not_front_past phases.Root h = cc
not_front_past phases.Content h = cc
not_front_past phases.End h = cc

-- it ends

pub ends : {x : Grammar} {old new : Reader} {chars : List ℕ} {to : Part} (c : ℕ) (standing : Standing) (r : ReadsTo x old chars) → IsTrue (is_char c) → new.part ≡ to → Pends (length (r.before ++ (r.pending ++ encode_utf8 c))) to new []
    → MayPend new.phase to → Tells x [] to new.elements new.phase standing
    → ((f : List ℕ) (o : Outcome) → StillComes (length r.before) old.phase r.standing ((r.pending ++ encode_utf8 c) ++ f) o ↔ StillComes (length r.before + length (r.pending ++ encode_utf8 c)) new.phase standing f o)
    → ReadsTo x new (chars ++ encode_utf8 c)
ends {x} {old} {new} {chars} {to} c standing r char is pends may tells step =
    whole (encode_utf8 c) standing r (one_char c char)
    (subst (λ p. Pends (length (r.before ++ (r.pending ++ encode_utf8 c))) p new []) (sym is) pends)
    (subst (λ p. MayPend new.phase p) (sym is) may)
    (subst (λ p. Tells x [] p new.elements new.phase standing) (sym is) tells)
    step

-- nothing comes of it, and of whatever follows
pub breaks : {x : Grammar} {s : Reader} {chars : List ℕ} {e : StreamFault} {place : Place} (c : ℕ) (r : ReadsTo x s chars) → e ≡ faults.Malformed place → place.0 ≤ length chars + length (encode_utf8 c)
    → ((f : List ℕ) (o : Outcome) → StillComes (length r.before) s.phase r.standing ((r.pending ++ encode_utf8 c) ++ f) o → ⊥) → IsFaultOfFront (chars ++ encode_utf8 c) e
breaks {chars = chars} {e = e} {place = place} c r is low none = subst (λ z. IsFaultOfFront (chars ++ encode_utf8 c) z) (sym is) (nothing_reads (encode_utf8 c) r place low none)

-- the same step where what has begun and the parts of a document are told otherwise
pub step_at : (n : ℕ) (w item : List ℕ) (old new phase next : Phase) (s u : Standing) → w ≡ item → old ≡ phase → new ≡ next
    → ((f : List ℕ) (o : Outcome) → StillComes n phase s (item ++ f) o ↔ StillComes (n + length item) next u f o) → (f : List ℕ) (o : Outcome) → StillComes n old s (w ++ f) o ↔ StillComes (n + length w) new u f o
step_at n w item old new phase next s u e p q step f o =
    subst (λ z. StillComes n z s (w ++ f) o ↔ StillComes (n + length w) new u f o) (sym p)
    (subst (λ z. StillComes n phase s (w ++ f) o ↔ StillComes (n + length w) z u f o) (sym q)
    (subst (λ z. StillComes n phase s (z ++ f) o ↔ StillComes (n + length z) next u f o) (sym e) (step f o)))

-- and that nothing comes
pub none_at : (n : ℕ) (w item : List ℕ) (old phase : Phase) (s : Standing) → w ≡ item → old ≡ phase → ((f : List ℕ) (o : Outcome) → StillComes n phase s (item ++ f) o → ⊥) → (f : List ℕ) (o : Outcome)
    → StillComes n old s (w ++ f) o → ⊥
none_at n w item old phase s e p none f o g = none f o (subst (λ z. StillComes n phase s (z ++ f) o) e (subst (λ z. StillComes n z s (w ++ f) o) p g))

-- or one refusal
pub one_at : (n : ℕ) (w item : List ℕ) (old phase : Phase) (s : Standing) (other : Outcome) → w ≡ item → old ≡ phase → ((f : List ℕ) (o : Outcome) → StillComes n phase s (item ++ f) o ↔ (o ≡ other))
    → (f : List ℕ) (o : Outcome) → StillComes n old s (w ++ f) o ↔ (o ≡ other)
one_at n w item old phase s other e p one f o = (
  λ g. (one f o).0 (subst (λ z. StillComes n phase s (z ++ f) o) e (subst (λ z. StillComes n z s (w ++ f) o) p g)),
  λ h. subst (λ z. StillComes n z s (w ++ f) o) (sym p) (subst (λ z. StillComes n phase s (z ++ f) o) (sym e) ((one f o).1 h)),
)
