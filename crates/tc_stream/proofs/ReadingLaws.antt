-- How a reader that has come to a place reads on: what is so of the characters so far is so of some more.
use Rattle.std.proofs.Common.{◌≡◌, ◌≢◌, ℕ, ◌≤◌, ◌+◌, Bool, true, false, not, ◌&&◌, ◌==◌, List, [], ◌∷◌, ◌++◌, refl, ap, ◌∙◌, sym, subst, length, arith, IsTrue, Result, Ok, Err, IfErr, append_assoc, append-nil, length-append}
use Rattle.std.specs.Prelude.{◌↔◌, encode_utf8}
use Rattle.std.specs.List.{list_all}
use Rattle.std.specs.Result.{IsErrAnd}
use Rattle.std.proofs.lemmas.Bool.{and_parts, eqb-true}
use Rattle.std.proofs.lemmas.List.Folds.{list_all-append}
use Rattle.std.proofs.lemmas.Str.{cons_from_encodes}
use Rattle.tc_base.specs.Characters.{is_char, is_white}
use Rattle.tc_base.specs.declared.Place.{Place}
use Rattle.tc_base.specs.declared.reasons.Why.{Why}
use Rattle.tc_model.specs.Grammars.{Grammar}
use Rattle.tc_model.specs.Names.{IsChars}
use Rattle.tc_model.specs.RawTrees.{Bound}
use Rattle.tc_model.specs.Trees.{is_white_space_only}
use Rattle.tc_model.specs.XmlTextRefusals.{unsupported}
use Rattle.tc_model.proofs.XmlTextChars.{no_chars, join_chars, behind_chars}
use Rattle.tc_stream.specs.Outcomes.{Outcome, refused, Comes}
use Rattle.tc_stream.specs.Goes.{Level}
use Rattle.tc_stream.specs.From.{Standing, open_in, StillComes}
use Rattle.tc_stream.specs.Faults.{IsFaultOf, IsFaultOfFront}
use Rattle.tc_stream.specs.Keeps.{AreSteps, Keeps}
use Rattle.tc_stream.specs.Parts.{Pends, MayPend}
use Rattle.tc_stream.specs.Stands.{IsReading, ReadsTo, Tells, before, within, behind, known_text}
use Rattle.tc_stream.specs.Reading.{ReadsOn, FaultsOn, TakesText}
use Rattle.tc_stream.specs.declared.elements.Elements.{Elements}
use Rattle.tc_stream.specs.declared.faults.StreamFault.{StreamFault}
use Rattle.tc_stream.specs.declared.faults.StreamFault.TheVariants as faults
use Rattle.tc_stream.specs.declared.parts.Part.{Part}
use Rattle.tc_stream.specs.declared.parts.Part.TheVariants as parts
use Rattle.tc_stream.specs.declared.phases.Phase.{Phase}
use Rattle.tc_stream.specs.declared.phases.Phase.TheVariants as phases
use Rattle.tc_stream.specs.declared.reader.Reader.{Reader}
use Rattle.tc_stream.proofs.FaultLaws.{malformed_fault, unsupported_fault}
use Rattle.tc_stream.proofs.HopelessSteps.{StandsIn, in_front, in_prolog, in_root, in_content, past_root}

-- characters of a text

-- the characters so far
pub so_far : {x : Grammar} {s : Reader} {chars : List ℕ} → ReadsTo x s chars → IsChars chars
so_far r = subst IsChars (sym r.parts_are) (join_chars r.before r.pending r.before_chars r.pending_chars)

-- what has begun, and some characters more
pub pending_with : {x : Grammar} {s : Reader} {chars : List ℕ} (c : List ℕ) (r : ReadsTo x s chars) → IsChars c → IsChars (r.pending ++ c)
pending_with c r h = join_chars r.pending c r.pending_chars h

-- what follows characters in a text
pub chars_left : {text used rest : List ℕ} → text ≡ used ++ rest → IsChars used → IsChars text → IsChars rest
chars_left {text} {used} {rest} e h k = behind_chars used rest h (subst IsChars e k)

pub first_char : {text : List ℕ} (c : ℕ) (rest : List ℕ) → text ≡ encode_utf8 c ++ rest → IsChars text → IsTrue (is_char c)
first_char c rest e (cs, is, h) =
    let (es, same, rests) = cons_from_encodes cs rest c (is ∙ e) in
    (and_parts (is_char c) (list_all is_char es) (ap (list_all is_char) (sym same) ∙ h)).0

-- what still comes, said of equal places
pub still_moved : {n m : ℕ} {p q : Phase} {bs cs : List ℕ} (s : Standing) (o : Outcome) → n ≡ m → p ≡ q → bs ≡ cs → StillComes n p s bs o → StillComes m q s cs o
still_moved {n} {m} {p} {q} {bs} {cs} s o e f g h =
    subst (λ w. StillComes m q s w o) g (subst (λ z. StillComes m z s bs o) f (subst (λ k. StillComes k p s bs o) e h))

-- from one place to another: what stands behind the characters so far comes to the same from where reading stands now
pub goes_on : {x : Grammar} {old new : Reader} {chars : List ℕ} (c front pending : List ℕ) (standing : Standing) (r : ReadsTo x old chars) → r.before ++ (r.pending ++ c) ≡ front ++ pending
    → IsChars front → IsChars pending → (pending ≢ [] → new.begun ≡ length front) → Pends (length front) new.part new pending → MayPend new.phase new.part
    → Tells x pending new.part new.elements new.phase standing
    → ((f : List ℕ) (o : Outcome) → StillComes (length r.before) old.phase r.standing ((r.pending ++ c) ++ f) o ↔ StillComes (length front) new.phase standing (pending ++ f) o)
    → ReadsTo x new (chars ++ c)
goes_on {x} {old} {new} {chars} c front pending standing r same h k begun pends may tells step = record {
  before = front;
  pending = pending;
  parts_are = ap (λ w. w ++ c) r.parts_are ∙ (append_assoc r.before r.pending c ∙ same);
  before_chars = h;
  pending_chars = k;
  begun = begun;
  pends = pends;
  may = may;
  standing = standing;
  tells = tells;
  comes = λ f o. (past f o, back f o);
}
  where
    past : (f : List ℕ) (o : Outcome) → Comes ((chars ++ c) ++ f) o → StillComes (length front) new.phase standing (pending ++ f) o
    past f o g =
        let there : Comes (chars ++ (c ++ f)) o = subst (λ w. Comes w o) (append_assoc chars c f) g in
        let still : StillComes (length r.before) old.phase r.standing (r.pending ++ (c ++ f)) o = (r.comes (c ++ f) o).0 there in
        (step f o).0 (subst (λ w. StillComes (length r.before) old.phase r.standing w o) (sym (append_assoc r.pending c f)) still)

    back : (f : List ℕ) (o : Outcome) → StillComes (length front) new.phase standing (pending ++ f) o → Comes ((chars ++ c) ++ f) o
    back f o g =
        let still : StillComes (length r.before) old.phase r.standing (r.pending ++ (c ++ f)) o = subst (λ w. StillComes (length r.before) old.phase r.standing w o) (append_assoc r.pending c f) ((step f o).1 g) in
        subst (λ w. Comes w o) (sym (append_assoc chars c f)) ((r.comes (c ++ f) o).1 still)

-- more characters belong to what has begun
pub grown : {x : Grammar} {old new : Reader} {chars : List ℕ} (c : List ℕ) (r : ReadsTo x old chars) → IsChars c → new.phase ≡ old.phase → (r.pending ++ c ≢ [] → new.begun ≡ length r.before)
    → Pends (length r.before) new.part new (r.pending ++ c) → MayPend new.phase new.part → Tells x (r.pending ++ c) new.part new.elements new.phase r.standing → ReadsTo x new (chars ++ c)
grown {x} {old} {new} {chars} c r h phase begun pends may tells =
    goes_on c r.before (r.pending ++ c) r.standing r refl r.before_chars (pending_with c r h) begun pends may tells (λ f o. same f o)
  where
    same : (f : List ℕ) (o : Outcome) → StillComes (length r.before) old.phase r.standing ((r.pending ++ c) ++ f) o ↔ StillComes (length r.before) new.phase r.standing ((r.pending ++ c) ++ f) o
    same f o = (
      subst (λ p. StillComes (length r.before) p r.standing ((r.pending ++ c) ++ f) o) (sym phase),
      subst (λ p. StillComes (length r.before) p r.standing ((r.pending ++ c) ++ f) o) phase,
    )

-- they end what has begun
pub whole : {x : Grammar} {old new : Reader} {chars : List ℕ} (c : List ℕ) (standing : Standing) (r : ReadsTo x old chars) → IsChars c → Pends (length (r.before ++ (r.pending ++ c))) new.part new []
    → MayPend new.phase new.part → Tells x [] new.part new.elements new.phase standing
    → ((f : List ℕ) (o : Outcome) → StillComes (length r.before) old.phase r.standing ((r.pending ++ c) ++ f) o ↔ StillComes (length r.before + length (r.pending ++ c)) new.phase standing f o)
    → ReadsTo x new (chars ++ c)
whole {x} {old} {new} {chars} c standing r h pends may tells step =
    goes_on c (r.before ++ (r.pending ++ c)) [] standing r (sym (append-nil (r.before ++ (r.pending ++ c)))) (join_chars r.before (r.pending ++ c) r.before_chars (pending_with c r h)) no_chars
    (λ some. absurd (some refl)) pends may tells (λ f o. (λ g. moved f o ((step f o).0 g), λ g. (step f o).1 (back f o g)))
  where
    same : length r.before + length (r.pending ++ c) ≡ length (r.before ++ (r.pending ++ c))
    same = sym (length-append r.before (r.pending ++ c))

    moved : (f : List ℕ) (o : Outcome) → StillComes (length r.before + length (r.pending ++ c)) new.phase standing f o → StillComes (length (r.before ++ (r.pending ++ c))) new.phase standing f o
    moved f o g = subst (λ n. StillComes n new.phase standing f o) same g

    back : (f : List ℕ) (o : Outcome) → StillComes (length (r.before ++ (r.pending ++ c))) new.phase standing f o → StillComes (length r.before + length (r.pending ++ c)) new.phase standing f o
    back f o g = subst (λ n. StillComes n new.phase standing f o) (sym same) g

-- the same of a reader in which nothing has begun now
pub item_ended : {x : Grammar} {old new : Reader} {chars : List ℕ} (c : List ℕ) (phase : Phase) (standing : Standing) (r : ReadsTo x old chars) → IsChars c → new.part ≡ parts.Between → new.phase ≡ phase
    → Tells x [] parts.Between new.elements phase standing
    → ((f : List ℕ) (o : Outcome) → StillComes (length r.before) old.phase r.standing ((r.pending ++ c) ++ f) o ↔ StillComes (length r.before + length (r.pending ++ c)) phase standing f o)
    → ReadsTo x new (chars ++ c)
item_ended {x} {old} {new} {chars} c phase standing r h part same tells step =
    whole c standing r h
    (subst (λ q. Pends (length (r.before ++ (r.pending ++ c))) q new []) (sym part) refl)
    (subst (λ q. MayPend new.phase q) (sym part) tt)
    (subst (λ p. Tells x [] new.part new.elements p standing) (sym same) (subst (λ q. Tells x [] q new.elements phase standing) (sym part) tells))
    (λ f o. (past f o, back f o))
  where
    past : (f : List ℕ) (o : Outcome) → StillComes (length r.before) old.phase r.standing ((r.pending ++ c) ++ f) o → StillComes (length r.before + length (r.pending ++ c)) new.phase standing f o
    past f o g = subst (λ p. StillComes (length r.before + length (r.pending ++ c)) p standing f o) (sym same) ((step f o).0 g)

    back : (f : List ℕ) (o : Outcome) → StillComes (length r.before + length (r.pending ++ c)) new.phase standing f o → StillComes (length r.before) old.phase r.standing ((r.pending ++ c) ++ f) o
    back f o g = (step f o).1 (subst (λ p. StillComes (length r.before + length (r.pending ++ c)) p standing f o) same g)

-- and of one in which it goes on
pub item_grown : {x : Grammar} {old new : Reader} {chars : List ℕ} (c : List ℕ) (next : Part) (r : ReadsTo x old chars) → IsChars c → r.pending ≢ [] → new.part ≡ next → new.phase ≡ old.phase → new.begun ≡ old.begun
    → Pends (length r.before) next new (r.pending ++ c) → MayPend old.phase next → Tells x (r.pending ++ c) next new.elements old.phase r.standing → ReadsTo x new (chars ++ c)
item_grown {x} {old} {new} {chars} c next r h some part phase begun pends may tells =
    grown c r h phase (λ _. begun ∙ r.begun some)
    (subst (λ q. Pends (length r.before) q new (r.pending ++ c)) (sym part) pends)
    (subst (λ p. MayPend p new.part) (sym phase) (subst (λ q. MayPend old.phase q) (sym part) may))
    (subst (λ p. Tells x (r.pending ++ c) new.part new.elements p r.standing) (sym phase) (subst (λ q. Tells x (r.pending ++ c) q new.elements old.phase r.standing) (sym part) tells))

-- where what has begun, began
pub begun_before : {x : Grammar} {s : Reader} {chars : List ℕ} (r : ReadsTo x s chars) → r.pending ≢ [] → s.begun ≤ length chars
begun_before {x} {s} {chars} r some = omega (arith, r.begun some, ap length r.parts_are, length-append r.before r.pending)

-- that reading can't go on

-- nothing comes of the characters so far and of what follows them
pub nothing_behind : {x : Grammar} {s : Reader} {chars : List ℕ} (f : List ℕ) (r : ReadsTo x s chars) (place : Place) → place.0 ≤ length (chars ++ f)
    → ((o : Outcome) → StillComes (length r.before) s.phase r.standing (r.pending ++ f) o → ⊥) → IsFaultOf (chars ++ f) (faults.Malformed place)
nothing_behind {x} {s} {chars} f r place low none = malformed_fault (chars ++ f) place low (λ o g. none o ((r.comes f o).0 g))

-- whatever follows some characters more
pub nothing_reads : {x : Grammar} {s : Reader} {chars : List ℕ} (c : List ℕ) (r : ReadsTo x s chars) (place : Place) → place.0 ≤ length chars + length c
    → ((f : List ℕ) (o : Outcome) → StillComes (length r.before) s.phase r.standing ((r.pending ++ c) ++ f) o → ⊥) → IsFaultOfFront (chars ++ c) (faults.Malformed place)
nothing_reads {x} {s} {chars} c r place low none = λ f.
    let fits : place.0 ≤ length (chars ++ (c ++ f)) = omega (arith, low, length-append chars (c ++ f), length-append c f) in
    let there : IsFaultOf (chars ++ (c ++ f)) (faults.Malformed place) =
    nothing_behind (c ++ f) r place fits (λ o g. none f o (subst (λ w. StillComes (length r.before) s.phase r.standing w o) (sym (append_assoc r.pending c f)) g)) in
    subst (λ w. IsFaultOf w (faults.Malformed place)) (sym (append_assoc chars c f)) there

-- one refusal comes of each text that goes on so
pub refusal_reads : {x : Grammar} {s : Reader} {chars : List ℕ} (c : List ℕ) (r : ReadsTo x s chars) (place : Place) (why : Why)
    → ((f : List ℕ) (o : Outcome) → StillComes (length r.before) s.phase r.standing ((r.pending ++ c) ++ f) o ↔ (o ≡ refused (unsupported why) place.0)) → IsFaultOfFront (chars ++ c) (faults.Unsupported place why)
refusal_reads {x} {s} {chars} c r place why one = λ f.
    let o = refused (unsupported why) place.0 in
    let still : StillComes (length r.before) s.phase r.standing (r.pending ++ (c ++ f)) o =
    subst (λ w. StillComes (length r.before) s.phase r.standing w o) (append_assoc r.pending c f) ((one f o).1 refl) in
    let there : Comes (chars ++ (c ++ f)) o = (r.comes (c ++ f) o).1 still in
    unsupported_fault ((chars ++ c) ++ f) place why (subst (λ w. Comes w o) (sym (append_assoc chars c f)) there)

-- a text that is read

pub read_none : {s : Reader} {text : List ℕ} (end : ℕ) → IsReading s → ReadsOn s s text text end
read_none {s} {text} end ready = record { used = []; parts = refl; ready = ready; reads = λ x chars h fit r. subst (ReadsTo x s) (sym (append-nil chars)) r }

-- the characters that are read of a text are such, and so is what follows
pub left_behind : {old mid : Reader} {text rest : List ℕ} {end : ℕ} (a : ReadsOn old mid text rest end) (x : Grammar) (chars : List ℕ) → IsChars text → length chars + length text ≡ end → ReadsTo x old chars
    → IsChars rest × (length (chars ++ a.used) + length rest ≡ end)
left_behind {old} {mid} {text} {rest} {end} a x chars h fit r =
    let now = so_far (a.reads x chars h fit r) in
    let used : IsChars a.used = behind_chars chars a.used (so_far r) now in (
      chars_left a.parts used h,
      omega (arith, fit, ap length a.parts, length-append chars a.used, length-append a.used rest),
    )

-- a text is read, and then what follows
pub read_then : {old mid new : Reader} {text rest last : List ℕ} {end : ℕ} → ReadsOn old mid text rest end → ReadsOn mid new rest last end → ReadsOn old new text last end
read_then {old} {mid} {new} {text} {rest} {last} {end} a b = record {
  used = a.used ++ b.used;
  parts = a.parts ∙ (ap (λ w. a.used ++ w) b.parts ∙ sym (append_assoc a.used b.used last));
  ready = b.ready;
  reads = λ x chars h fit r.
      let left = left_behind a x chars h fit r in
      subst (ReadsTo x new) (append_assoc chars a.used b.used) (b.reads x (chars ++ a.used) left.0 left.1 (a.reads x chars h fit r));
}

pub fault_then : {old mid : Reader} {text rest : List ℕ} {end : ℕ} (e : StreamFault) → ReadsOn old mid text rest end → FaultsOn mid rest end e → FaultsOn old text end e
fault_then {old} {mid} {text} {rest} {end} e a b = λ x chars h fit r.
    let left = left_behind a x chars h fit r in
    subst (λ w. IsFaultOfFront w e) (append_assoc chars a.used rest ∙ ap (λ w. chars ++ w) (sym a.parts)) (b x (chars ++ a.used) left.0 left.1 (a.reads x chars h fit r))

-- a front of a text is read whole, and no more
pub front_read : {old new : Reader} {text front rest : List ℕ} (end last : ℕ) → text ≡ front ++ rest → (IsChars text → IsChars front) → last + length rest ≡ end → ReadsOn old new front [] last → ReadsOn old new text rest end
front_read {old} {new} {text} {front} {rest} end last e u fit a = record {
  used = front;
  parts = e;
  ready = a.ready;
  reads = λ x chars h k r.
      let all : a.used ≡ front = sym (append-nil a.used) ∙ sym a.parts in
      let place : length chars + length front ≡ last = omega (arith, k, fit, ap length e, length-append front rest) in
      subst (λ w. ReadsTo x new (chars ++ w)) all (a.reads x chars (u h) place r);
}

pub front_faults : {old : Reader} {text front : List ℕ} (rest : List ℕ) (fault : StreamFault) (end last : ℕ) → text ≡ front ++ rest → (IsChars text → IsChars front) → last + length rest ≡ end → FaultsOn old front last fault → FaultsOn old text end fault
front_faults {old} {text} {front} rest fault end last e u fit b = λ x chars h k r f.
    let place : length chars + length front ≡ last = omega (arith, k, fit, ap length e, length-append front rest) in
    let there : IsFaultOf ((chars ++ front) ++ (rest ++ f)) fault = b x chars (u h) place r (rest ++ f) in
    subst (λ w. IsFaultOf w fault) (joined chars front rest f ∙ ap (λ w. (chars ++ w) ++ f) (sym e)) there
  where
    joined : (a b c d : List ℕ) → (a ++ b) ++ (c ++ d) ≡ (a ++ (b ++ c)) ++ d
    joined a b c d = sym (append_assoc (a ++ b) c d) ∙ ap (λ w. w ++ d) (append_assoc a b c)

-- the exit of a `?`
pub failed : {T : Type 0} (r : Result T StreamFault) (x : StreamFault) (P : StreamFault → Type 0) → IsErrAnd r (λ e. e ≡ x) → P x → IfErr r P
failed (Ok y) x P e h = tt
failed (Err y) x P e h = subst P (sym e) h

pub none_left : (bs : List ℕ) → true ≡ (length bs == 0) → bs ≡ []
none_left [] e = refl
none_left (b ∷ bs) e = absurd (omega (arith, eqb-true (length (b ∷ bs)) 0 (sym e)))

-- what is kept of the elements

-- the steps of sets ask of a text alone whether it is white space alone
pub steps_alike : (x : Grammar) (e : Elements) (ls : List Level) (run more : List ℕ) → is_white_space_only run ≡ is_white_space_only more → AreSteps x e.validity ls run → AreSteps x e.validity ls more
steps_alike x e ls run more same w = record { right = w.right; counted = w.counted; levels_are = w.levels_are; text = w.text ∙ ap not same }

pub white_joined : (run w : List ℕ) → is_white_space_only (run ++ w) ≡ (is_white_space_only run && is_white_space_only w)
white_joined run w = list_all-append is_white run w

and_true : (a b : Bool) → b ≡ true → (a && b) ≡ a
and_true true b e = e
and_true false b e = refl

-- white space is taken with no step
pub none_taken : (e : Elements) → TakesText true e e
none_taken e = record {
  ready = λ r. r;
  keeps = λ ls scope k. k;
  steps = λ x ls run text white w. steps_alike x e ls run (run ++ text) (sym (white_joined run text ∙ and_true (is_white_space_only run) (is_white_space_only text) white)) w;
}

-- what is known of the elements says the same where as much is known of the text
pub tells_alike : {x : Grammar} {pending more : List ℕ} {part next : Part} {e : Elements} {phase : Phase} {s : Standing} → is_white_space_only (known_text part pending) ≡ is_white_space_only (known_text next more)
    → Tells x pending part e phase s → Tells x more next e phase s
tells_alike same (before p q k a) = before p q k a
tells_alike {x} {pending} {more} {part} {next} {e} same (within {ls = ls} {l = l} {scope = scope} {run = run} k a) =
    within k (steps_alike x e (l ∷ ls) (run ++ known_text part pending) (run ++ known_text next more)
    (white_joined run (known_text part pending) ∙ (ap (λ b. is_white_space_only run && b) same ∙ sym (white_joined run (known_text next more)))) a)
tells_alike same (behind e v) = behind e v

-- the same of other elements and another phase that are equal
pub tells_moved : {x : Grammar} {pending : List ℕ} {part : Part} {old new : Elements} {phase next : Phase} {s : Standing} → new ≡ old → next ≡ phase → Tells x pending part old phase s → Tells x pending part new next s
tells_moved {x} {pending} {part} {old} {new} {phase} {next} {s} e p t =
    subst (λ q. Tells x pending part new q s) (sym p) (subst (λ z. Tells x pending part z phase s) (sym e) t)

-- what is kept of a reader tells the same of another part
pub tells_with : {x : Grammar} {s : Reader} {chars : List ℕ} (r : ReadsTo x s chars) (part next : Part) (more : List ℕ) → s.part ≡ part → is_white_space_only (known_text part r.pending) ≡ is_white_space_only (known_text next more)
    → Tells x more next s.elements s.phase r.standing
tells_with {x} {s} {chars} r part next more e same = tells_alike same (subst (λ q. Tells x r.pending q s.elements s.phase r.standing) e r.tells)

-- behind the mark reading stands in a part of a document
pub stands_in : {x : Grammar} {pending : List ℕ} {part : Part} {e : Elements} {phase : Phase} {s : Standing} → phase ≢ phases.Mark → Tells x pending part e phase s → StandsIn phase s
stands_in m (before {phase = phase} p q k a) = by phase m p q
  where
    by : (phase : Phase) → phase ≢ phases.Mark → phase ≢ phases.Content → phase ≢ phases.End → StandsIn phase (open_in [] [] [])
    by phases.Mark m p q = absurd (m refl)
    by phases.Front m p q = in_front
    by phases.Prolog m p q = in_prolog
    by phases.Root m p q = in_root
    by phases.Content m p q = absurd (p refl)
    by phases.End m p q = absurd (q refl)
stands_in m (within k a) = in_content
stands_in m (behind e v) = past_root

-- in content elements are open
pub data InContent (x : Grammar) (known : List ℕ) (e : Elements) : Standing → Type 0 where
  content : {ls : List Level} {l : Level} {scope : List Bound} {run : List ℕ} → Keeps e (l ∷ ls) scope → AreSteps x e.validity (l ∷ ls) (run ++ known) → InContent x known e (open_in (l ∷ ls) scope run)

pub in_content_of : {x : Grammar} {pending : List ℕ} {part : Part} {e : Elements} {phase : Phase} {s : Standing} → phase ≡ phases.Content → Tells x pending part e phase s → InContent x (known_text part pending) e s
in_content_of c (before p q k a) = absurd (p c)
in_content_of c (within k a) = content k a
in_content_of c (behind e v) = absurd (differ c)
  where
    differ : phases.End ≡ phases.Content → ⊥
    differ h = cc

-- what is kept of them where a text is taken
pub text_taken : {x : Grammar} {old new : Elements} {known : List ℕ} {s : Standing} {blank : Bool} (more : List ℕ) (part : Part) (pending : List ℕ) → known_text part pending ≡ known ++ more → is_white_space_only more ≡ blank
    → TakesText blank old new → InContent x known old s → Tells x pending part new phases.Content s
text_taken {x} {old} {new} {known} more part pending e white t (content {ls = ls} {l = l} {scope = scope} {run = run} k a) =
    within (t.keeps (l ∷ ls) scope k)
    (steps_alike x new (l ∷ ls) ((run ++ known) ++ more) (run ++ known_text part pending) (ap is_white_space_only (append_assoc run known more ∙ ap (λ w. run ++ w) (sym e)))
    (t.steps x (l ∷ ls) (run ++ known) more white a))
