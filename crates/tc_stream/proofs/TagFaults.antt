-- The fault of a tag that isn't read.
use Rattle.std.proofs.Common.{◌≡◌, ℕ, ◌<◌, ◌≤◌, ◌+◌, ◌-◌, Bool, true, false, List, [], ◌∷◌, ◌++◌, refl, ap, ◌∙◌, sym, subst, length, arith, codes, Option, None, append_assoc, append-nil, length-append}
use Rattle.std.specs.Prelude.{◌↔◌, if◌then◌else◌}
use Rattle.tc_base.specs.declared.Place.{Place}
use Rattle.tc_base.specs.declared.reasons.Why.{Why}
use Rattle.tc_model.specs.Grammars.{Grammar}
use Rattle.tc_model.specs.Names.{IsChars}
use Rattle.tc_model.specs.RawTrees.{Bound}
use Rattle.tc_model.specs.XmlTextRefusals.{unsupported, TagRefuses}
use Rattle.tc_tags.specs.Begins.{BeginsTag}
use Rattle.tc_stream.specs.Cuts.{BeginsNoChar}
use Rattle.tc_tags.specs.XmlTextTags.{WrittenElement, TagFormAt, EndTagAt}
use Rattle.tc_stream.specs.XmlTextMeasures.{longest_tag}
use Rattle.tc_stream.specs.XmlTextMeasures as m
use Rattle.tc_stream.specs.Outcomes.{Outcome, refused, passed, Comes}
use Rattle.tc_stream.specs.Goes.{Level, depth_left}
use Rattle.tc_stream.specs.From.{open_in, StillComes}
use Rattle.tc_stream.specs.Faults.{IsFaultOf, IsFaultOfFront}
use Rattle.tc_tags.specs.Forms.{FormRead}
use Rattle.tc_stream.specs.Keeps.{Keeps}
use Rattle.tc_stream.specs.Scans.{ended, quoted, tag_scan}
use Rattle.tc_stream.specs.TagStands.{TagStands, IsStartTag, IsEndTag, TellsFault, NoFormTold, TagTold}
use Rattle.tc_stream.specs.TagStands as told
use Rattle.tc_stream.specs.declared.elements.Elements.{Elements}
use Rattle.tc_stream.specs.declared.faults.StreamFault.{StreamFault}
use Rattle.tc_stream.specs.declared.faults.StreamFault.TheVariants as faults
use Rattle.tc_stream.specs.declared.phases.Phase.TheVariants as phases
use Rattle.tc_tags.specs.declared.tags.Form.{Form}
use Rattle.tc_tags.specs.declared.tags.NoForm.{NoForm}
use Rattle.tc_tags.specs.declared.tags.NoForm.TheVariants as stops
use Rattle.tc_tags.proofs.TagLaws.{EndsAt, open_end, empty_end, form_loosened}
use Rattle.tc_stream.proofs.LongLaws.{Starts}
use Rattle.tc_stream.proofs.TagEndLaws.{tag_scanned}
use Rattle.tc_stream.proofs.TagBroken.{IsNoEndTag, IsNoTag, end_missing, tag_missing, tag_unended, refused_unended}
use Rattle.tc_stream.proofs.RefusedLaws.{no_end}
use Rattle.tc_stream.proofs.FinalSteps.{construct_step}
use Rattle.tc_stream.proofs.FaultLaws.{malformed_fault}

-- what comes of the whole is what comes of a tag's first characters and of what follows them

abbrev pub ComesOf : {x : Grammar} {e : Elements} {place : ℕ} {item chars : List ℕ} → TagStands x e place item chars → List ℕ → Outcome → Type 0
ComesOf t bytes o = StillComes (length t.before) phases.Content (open_in t.ls t.scope t.run) bytes o

seam : (item w v r : List ℕ) → item ≡ w ++ v → item ++ r ≡ w ++ (v ++ r)
seam item w v r is = ap (λ z. z ++ r) is ∙ append_assoc w v r

past : {x : Grammar} {e : Elements} {place : ℕ} {item chars : List ℕ} (t : TagStands x e place item chars) (w v r : List ℕ) (o : Outcome) → item ≡ w ++ v → Comes (chars ++ r) o → ComesOf t (w ++ (v ++ r)) o
past {item = item} t w v r o is g = subst (λ z. StillComes (length t.before) phases.Content (open_in t.ls t.scope t.run) z o) (seam item w v r is) ((t.comes r o).0 g)

back : {x : Grammar} {e : Elements} {place : ℕ} {item chars : List ℕ} (t : TagStands x e place item chars) (w v r : List ℕ) (o : Outcome) → item ≡ w ++ v → ComesOf t (w ++ (v ++ r)) o → Comes (chars ++ r) o
back {item = item} t w v r o is g = (t.comes r o).1 (subst (λ z. StillComes (length t.before) phases.Content (open_in t.ls t.scope t.run) z o) (sym (seam item w v r is)) g)

pub whole_length : {x : Grammar} {e : Elements} {place : ℕ} {item chars : List ℕ} (t : TagStands x e place item chars) → length chars ≡ place + length item
whole_length {item = item} t = omega (arith, ap length t.parts_are, length-append t.before item, t.stands)

low_place : {x : Grammar} {e : Elements} {place : ℕ} {item chars : List ℕ} (t : TagStands x e place item chars) (p : ℕ) (r : List ℕ) → p ≤ place + length item → p ≤ length (chars ++ r)
low_place {chars = chars} t p r low = omega (arith, low, whole_length t, length-append chars r)

-- nothing comes of it

pub nothing_at : {x : Grammar} {e : Elements} {place : ℕ} {item chars : List ℕ} (t : TagStands x e place item chars) (w v r : List ℕ) (p : Place) → item ≡ w ++ v → p.0 ≤ place + length item → ((o : Outcome) → ComesOf t (w ++ (v ++ r)) o → ⊥)
    → IsFaultOf (chars ++ r) (faults.Malformed p)
nothing_at {chars = chars} t w v r p is low none = malformed_fault (chars ++ r) p (low_place t p.0 r low) (λ o g. none o (past t w v r o is g))

pub nothing_fault : {x : Grammar} {e : Elements} {place : ℕ} {item chars : List ℕ} (t : TagStands x e place item chars) (w v : List ℕ) (p : Place) → item ≡ w ++ v → p.0 ≤ place + length item → ((r : List ℕ) (o : Outcome) → ComesOf t (w ++ r) o → ⊥)
    → IsFaultOfFront chars (faults.Malformed p)
nothing_fault t w v p is low none = λ r. nothing_at t w v r p is low (none (v ++ r))

-- one outcome comes of it

pub refused_at : {x : Grammar} {e : Elements} {place : ℕ} {item chars : List ℕ} (t : TagStands x e place item chars) (w v r : List ℕ) (p : Place) (why reason : Why) (at : ℕ) → item ≡ w ++ v → p.0 ≡ at → reason ≡ why
    → ((o : Outcome) → ComesOf t (w ++ (v ++ r)) o ↔ (o ≡ refused (unsupported why) at)) → IsFaultOf (chars ++ r) (faults.Unsupported p reason)
refused_at {chars = chars} t w v r p why reason at is same cause step =
    subst (λ z. Comes (chars ++ r) (refused (unsupported z) p.0)) (sym cause)
    (subst (λ z. Comes (chars ++ r) (refused (unsupported why) z)) (sym same) (back t w v r (refused (unsupported why) at) is ((step (refused (unsupported why) at)).1 refl)))

pub long_fault : {x : Grammar} {e : Elements} {place : ℕ} {item chars : List ℕ} (t : TagStands x e place item chars) (w v : List ℕ) (at : ℕ) → item ≡ w ++ v → ((r : List ℕ) (o : Outcome) → ComesOf t (w ++ r) o ↔ (o ≡ passed m.tag at))
    → IsFaultOfFront chars faults.TagTooLong
long_fault t w v at is step = λ r. (at, back t w v r (passed m.tag at) is ((step (v ++ r) (passed m.tag at)).1 refl))

pub names_fault : {x : Grammar} {e : Elements} {place : ℕ} {item chars : List ℕ} (t : TagStands x e place item chars) (w v : List ℕ) (at : ℕ) → item ≡ w ++ v → ((r : List ℕ) (o : Outcome) → ComesOf t (w ++ r) o ↔ (o ≡ passed m.names at))
    → IsFaultOfFront chars faults.NamesTooLong
names_fault t w v at is step = λ r. (at, back t w v r (passed m.names at) is ((step (v ++ r) (passed m.names at)).1 refl))

pub alone : (item : List ℕ) → item ≡ item ++ []
alone item = sym (append-nil item)

-- a construct that isn't read stands at this place
pub where_refused : {x : Grammar} {e : Elements} {place : ℕ} {item chars : List ℕ} (t : TagStands x e place item chars) (p : Place) (tag left : List ℕ) (at : ℕ) → at + length left ≡ length tag → (at ≤ length tag → p.0 ≡ place + at)
    → p.0 ≡ length t.before + (length tag - length left)
where_refused t p tag left at sum here = let is = here (omega (arith, sum)) in omega (arith, sum, is, t.stands)

-- a tag up to its `>` that has no form

no_open : {item : List ℕ} {e : WrittenElement} {end : List ℕ} → ((e : WrittenElement) → TagFormAt true (length item) item e (codes ">") → ⊥)
    → ((e : WrittenElement) → TagFormAt true (length item) item e (codes "/>") → ⊥) → TagFormAt false (length item) item e end → EndsAt end [] → ⊥
no_open {item} {e} first second f (open_end is) = first e (form_loosened (subst (λ z. TagFormAt false (length item) item e z) is f))
no_open {item} {e} first second f (empty_end is) = second e (form_loosened (subst (λ z. TagFormAt false (length item) item e z) is f))

no_tag : {item : List ℕ} → ((e : WrittenElement) → TagFormAt true (length item) item e (codes ">") → ⊥) → ((e : WrittenElement) → TagFormAt true (length item) item e (codes "/>") → ⊥)
    → ((why : Why) (at : List ℕ) → TagRefuses item why at → ⊥) → IsNoTag (length item) item
no_tag first second none = record { no_form = λ e end f k. no_open first second f k; no_refusal = none }

starts_of : {item : List ℕ} → IsStartTag item → Starts item
starts_of w = record { char = w.char; rest = w.rest; opens = w.opens; starts = w.starts }

pub whole_form_fault : {x : Grammar} {e : Elements} {place : ℕ} {item chars : List ℕ} (t : TagStands x e place item chars) → IsStartTag item → length item ≤ longest_tag → 0 < depth_left t.ls
    → (stop : NoForm) (fault : StreamFault) → TellsFault fault stop place (length item) → NoFormTold item stop → IsFaultOfFront chars fault
whole_form_fault {item = item} t w low some (stops.Malformed at) (faults.Malformed p) says k =
    nothing_fault t item [] p (alone item) says
    (λ r o. tag_missing (length t.before) (length item) item r t.ls t.scope t.run o t.item_chars low some (starts_of w) (no_tag k.none_open k.none_empty k.malformed) w.ends)
whole_form_fault {item = item} t w low some (stops.Unsupported at why) (faults.Unsupported p reason) says k =
    let (left, sum, refuses) = k.stands in
    λ r. refused_at t item [] r p why reason (length t.before + (length item - length left)) (alone item) (where_refused t p item left at sum says.1) says.0
    (λ o. construct_step (length t.before) item left ([] ++ r) why t.ls t.scope t.run o t.item_chars low w.ends some refuses (omega (arith, sum)))
whole_form_fault t w low some _ _ says k = absurd says

-- a tag that the text's end or a bad byte cuts off

ended_form_fault : {x : Grammar} {e : Elements} {place : ℕ} {item chars : List ℕ} (t : TagStands x e place item chars) → Starts item → (q : Option ℕ) → tag_scan None item ≡ quoted q
    → length item ≤ longest_tag → 0 < depth_left t.ls → (r : List ℕ) → BeginsNoChar r → (stop : NoForm) (fault : StreamFault) → TellsFault fault stop place (length item) → NoFormTold item stop
    → IsFaultOf (chars ++ r) fault
ended_form_fault {item = item} t s q scanned low some r last (stops.Malformed at) (faults.Malformed p) says k =
    nothing_at t item [] r p (alone item) says (λ o. tag_unended (length t.before) item ([] ++ r) q t.ls t.scope t.run o s t.item_chars last low some k.malformed scanned)
ended_form_fault {item = item} t s q scanned low some r last (stops.Unsupported at why) (faults.Unsupported p reason) says k =
    let (left, sum, refuses) = k.stands in
    refused_at t item [] r p why reason (length t.before + (length item - length left)) (alone item) (where_refused t p item left at sum says.1) says.0
    (λ o. refused_unended (length t.before) item left ([] ++ r) why t.ls t.scope t.run o t.item_chars last low some refuses (omega (arith, sum)))
ended_form_fault t s q scanned low some r last _ _ says k = absurd says

ends_by : (b : Bool) → EndsAt (if b then codes "/>" else codes ">") []
ends_by true = empty_end refl
ends_by false = open_end refl

read_ends : {tag : List ℕ} {f : Form} {w : WrittenElement} → FormRead tag f w → tag_scan None tag ≡ ended []
read_ends {f = f} r = tag_scanned r.form (ends_by f.is_empty)

pub ended_tag_fault : {x : Grammar} {e : Elements} {place : ℕ} {item chars : List ℕ} (t : TagStands x e place item chars) → Starts item → (q : Option ℕ) → tag_scan None item ≡ quoted q
    → length item ≤ longest_tag → 0 < depth_left t.ls → (r : List ℕ) → BeginsNoChar r → (fault : StreamFault) → TagTold fault item place → IsFaultOf (chars ++ r) fault
ended_tag_fault t s q scanned low some r last fault (told.formless stop says k) = ended_form_fault t s q scanned low some r last stop fault says k
ended_tag_fault t s q scanned low some r last fault (told.whole k) = absurd (no_end (sym scanned ∙ read_ends k))

-- an end tag up to its `>` that is none of the innermost element

no_end_in : (e : Elements) (ls : List Level) (scope : List Bound) (item : List ℕ) → Keeps e ls scope
    → ((l : Level) (os : List Level) (scope : List Bound) → Keeps e (l ∷ os) scope → EndTagAt l.written.name item [] → ⊥) → IsNoEndTag ls item
no_end_in e [] scope item h none = tt
no_end_in e (l ∷ os) scope item h none = none l os scope h

pub whole_end_fault : {x : Grammar} {e : Elements} {place : ℕ} {item chars : List ℕ} (t : TagStands x e place item chars) → IsEndTag item → length item ≤ longest_tag → (p : Place) → p.0 ≤ place + length item
    → ((l : Level) (os : List Level) (scope : List Bound) → Keeps e (l ∷ os) scope → EndTagAt l.written.name item [] → ⊥) → IsFaultOfFront chars (faults.Malformed p)
whole_end_fault {e = e} t w low p within none =
    nothing_fault t (w.inside ++ 0x3E ∷ []) [] p (w.parts ∙ alone (w.inside ++ 0x3E ∷ [])) within
    (λ r o. end_missing (length t.before) w.inside r t.ls t.scope t.run o begins w.slash (subst IsChars w.parts t.item_chars) (subst (λ z. length z ≤ longest_tag) w.parts low) w.free
    (no_end_in e t.ls t.scope (w.inside ++ 0x3E ∷ []) t.keeps (λ l os scope h c. none l os scope h (subst (λ z. EndTagAt l.written.name z []) (sym w.parts) c))))
  where
    begins : BeginsTag (w.inside ++ 0x3E ∷ [])
    begins = record { next = w.begins.next; rest = w.begins.rest; opens = sym w.parts ∙ w.begins.opens; no_mark = w.begins.no_mark; no_instruction = w.begins.no_instruction }
