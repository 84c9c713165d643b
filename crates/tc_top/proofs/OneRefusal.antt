-- Why a text is refused: by what is left open, or by one fault at one place.
use Rattle.std.proofs.Common.{◌≡◌, inl, inr, ℕ, List, refl, ap, subst}
use Rattle.std.specs.List.{IsDistinct}
use Rattle.tc_model.specs.CompactSyntaxTrees.{Syntax}
use Rattle.tc_model.specs.CompactSyntax.{CompactSyntax}
use Rattle.tc_model.specs.Names.{same_name}
use Rattle.tc_model.specs.RawTrees.{RawTrees}
use Rattle.tc_model.specs.SheetText.{names_of, SheetFault, SheetFails, of_undefined, of_loop}
use Rattle.tc_model.specs.SheetText as calls
use Rattle.tc_model.specs.SheetTextTrees.{Template}
use Rattle.tc_model.specs.SheetTextPhrases.{IsStylesheet}
use Rattle.tc_model.specs.SimplifiesFaults as schemas
use Rattle.tc_model.specs.SimplifiesFaults.{Fault, Fails}
use Rattle.tc_model.specs.XmlText.{XmlText}
use Rattle.tc_model.specs.XmlTextRefusals as xml
use Rattle.tc_model.proofs.SheetTextUnique.{stylesheet_unique, one_sheet_fault}
use Rattle.tc_model.proofs.SimplifiesFaults.{one_fault}
use Rattle.tc_model.proofs.SimplifiesUnique.{one_syntax}
use Rattle.tc_model.proofs.XmlTextTrees.{one_raw_tree}
use Rattle.tc_sheet.specs.Changes.{Change, mended, flattened, both}
use Rattle.tc_sheet.specs.Faults.{OfAllWith}
use Rattle.tc_sheet.specs.Tables.{IsNamedAgain}
use Rattle.tc_sheet.proofs.Changes.{as_they_are}
use Rattle.tc_sheet.proofs.NamedAgain.{not_once, one_place}
use Rattle.tc_answer.specs.Answers.{refused}
use Rattle.tc_top.specs.OneAnswer.{IsOpen, AreAlike, same_answer, open_reasons, IsConstruct, HasOneConstruct, HasOneFaultOfNames}
use Rattle.tc_read.specs.Refusals.{SpellsFault, IsRefusedSchema, IsRefusedDocument, SpellsTree, IsRefusedSheet}
use Rattle.tc_read.specs.declared.faults.Reason.{Reason}
use Rattle.tc_read.specs.declared.faults.Reason.TheVariants.{Malformed, Unsupported, TooDeep, Undefined, Twice, Loop, BadStart, BadExcept, CallLoop}
use Rattle.tc_read.proofs.OtherEntities.{with_others}
use Rattle.tc_model.proofs.XmlTextRefused.{one_refusal}

-- schemas

abbrev reason_of : Fault → Reason
reason_of (schemas.twice place) = Twice
reason_of (schemas.undefined place) = Undefined
reason_of (schemas.loop place) = Loop
reason_of (schemas.bad_except place) = BadExcept
reason_of (schemas.bad_start place) = BadStart

abbrev place_in : Fault → ℕ
place_in (schemas.twice place) = place
place_in (schemas.undefined place) = place
place_in (schemas.loop place) = place
place_in (schemas.bad_except place) = place
place_in (schemas.bad_start place) = place

-- a schema is refused since it has no syntax tree, or for the fault of that
data SchemaCause (bytes : List ℕ) : Reason → ℕ → Type 0 where
  no_tree : {reason : Reason} {place : ℕ} → IsOpen reason → ((s : Syntax) → CompactSyntax bytes s → ⊥) → SchemaCause bytes reason place
  has_fault : (f : Fault) → SpellsFault bytes f → SchemaCause bytes (reason_of f) (place_in f)

schema_cause : (bytes : List ℕ) (reason : Reason) (place : ℕ) → IsRefusedSchema bytes reason place → SchemaCause bytes reason place
schema_cause bytes Malformed place h = no_tree tt (λ s spells. h.1 _ _ s spells)
schema_cause bytes (Unsupported why) place h = no_tree tt (λ s spells. h.1 _ s spells)
schema_cause bytes TooDeep place h = no_tree tt (λ s spells. h.1 _ s spells)
schema_cause bytes Undefined place h = has_fault (schemas.undefined place) h
schema_cause bytes Twice place h = has_fault (schemas.twice place) h
schema_cause bytes Loop place h = has_fault (schemas.loop place) h
schema_cause bytes BadStart place h = has_fault (schemas.bad_start place) h
schema_cause bytes BadExcept place h = has_fault (schemas.bad_except place) h
schema_cause bytes CallLoop place h = absurd h

same_fault : {bytes : List ℕ} (f g : Fault) → SpellsFault bytes f → SpellsFault bytes g → f ≡ g
same_fault {bytes} f g (s, spelled, fails) (t, spells, other) = one_fault t f g (subst (λ (x : Syntax). Fails x f) (one_syntax bytes s t spelled spells) fails) other

schema_causes : {bytes : List ℕ} {r q : Reason} {k m : ℕ} (name : List ℕ) → SchemaCause bytes r k → SchemaCause bytes q m → AreAlike (refused name r k) (refused name q m)
schema_causes name (no_tree o x) (no_tree p y) = open_reasons o p
schema_causes name (no_tree o x) (has_fault f (s, spelled, fails)) = absurd (x s spelled)
schema_causes name (has_fault f (s, spelled, fails)) (no_tree o x) = absurd (x s spelled)
schema_causes name (has_fault f x) (has_fault g y) =
    subst (λ (h : Fault). AreAlike (refused name (reason_of f) (place_in f)) (refused name (reason_of h) (place_in h))) (same_fault f g x y) same_answer

pub schema_refusals : (bytes name : List ℕ) {r q : Reason} {k m : ℕ} → IsRefusedSchema bytes r k → IsRefusedSchema bytes q m → AreAlike (refused name r k) (refused name q m)
schema_refusals bytes name {r} {q} {k} {m} x y = schema_causes name (schema_cause bytes r k x) (schema_cause bytes q m y)

-- documents

document_open : (bytes : List ℕ) (reason : Reason) (place : ℕ) → IsRefusedDocument bytes reason place → IsOpen reason
document_open bytes Malformed place h = tt
document_open bytes (Unsupported why) place h = tt
document_open bytes TooDeep place h = tt
document_open bytes Undefined place h = h
document_open bytes Twice place h = h
document_open bytes Loop place h = h
document_open bytes BadStart place h = h
document_open bytes BadExcept place h = h
document_open bytes CallLoop place h = h

pub document_refusals : (bytes name : List ℕ) {r q : Reason} {k m : ℕ} → IsRefusedDocument bytes r k → IsRefusedDocument bytes q m → AreAlike (refused name r k) (refused name q m)
document_refusals bytes name {r} {q} {k} {m} x y = open_reasons (document_open bytes r k x) (document_open bytes q m y)

-- the reason that is a construct's
abbrev reason_at : xml.Cause → Reason
reason_at (xml.unsupported why) = Unsupported why
reason_at xml.too_deep = TooDeep

-- a document is refused since it is malformed, or at the construct to which its text comes
data Comes (bytes : List ℕ) : Reason → ℕ → Type 0 where
  comes_to_none : {place : ℕ} → xml.IsNotRefused bytes → Comes bytes Malformed place
  comes_to : {place : ℕ} (cause : xml.Cause) → xml.XmlTextRefuses bytes cause place → Comes bytes (reason_at cause) place

comes : (bytes : List ℕ) (reason : Reason) (place : ℕ) → IsRefusedDocument bytes reason place → Comes bytes reason place
comes bytes Malformed place h = comes_to_none h.2
comes bytes (Unsupported why) place h = comes_to (xml.unsupported why) h.0
comes bytes TooDeep place h = comes_to xml.too_deep h.0
comes bytes Undefined place h = absurd h
comes bytes Twice place h = absurd h
comes bytes Loop place h = absurd h
comes bytes BadStart place h = absurd h
comes bytes BadExcept place h = absurd h
comes bytes CallLoop place h = absurd h

same_coming : {bytes : List ℕ} {r q : Reason} {k m : ℕ} → Comes bytes r k → Comes bytes q m → (r ≡ q) × (IsConstruct r → k ≡ m)
same_coming (comes_to_none x) (comes_to_none y) = (refl, λ c. absurd c)
same_coming {m = m} (comes_to_none x) (comes_to cause y) = absurd (x cause m y)
same_coming {k = k} (comes_to cause x) (comes_to_none y) = absurd (y cause k x)
same_coming {bytes} (comes_to cause x) (comes_to other y) = let two = one_refusal bytes cause other _ _ x y in (ap reason_at two.0, λ c. two.1)

pub one_construct : HasOneConstruct
one_construct bytes r q k m x y = same_coming (comes bytes r k x) (comes bytes q m y)

-- stylesheets

-- the text is that of a tree which is a stylesheet as it is written, whatever its templates are called
abbrev IsWritten : List ℕ → RawTrees → List Template → Type 0
IsWritten bytes raw templates = XmlText bytes raw × IsStylesheet raw templates

no_xml : {bytes : List ℕ} {raw : RawTrees} (reason : Reason) (place : ℕ) → IsRefusedDocument bytes reason place → XmlText bytes raw → ⊥
no_xml {raw = raw} Malformed place h x = h.1 _ raw (with_others x)
no_xml {raw = raw} (Unsupported why) place h x = h.1 _ raw x
no_xml {raw = raw} TooDeep place h x = h.1 raw (with_others x)
no_xml Undefined place h x = h
no_xml Twice place h x = h
no_xml Loop place h x = h
no_xml BadStart place h x = h
no_xml BadExcept place h x = h
no_xml CallLoop place h x = h

-- what is so of all that a text's tree becomes is so of the tree
of_tree : {bytes : List ℕ} {raw tree : RawTrees} {templates : List Template} {P : List Template → Type 0} (c : Change) → IsWritten bytes raw templates → XmlText bytes tree
    → OfAllWith c tree P → P templates
of_tree {bytes} {raw} {tree} {templates} {P} c w x h =
    let there = subst (λ (t : RawTrees). OfAllWith c t P) (one_raw_tree bytes tree raw x w.0) h in
    there raw templates (as_they_are c raw) w.1

abbrev reason_of_calls : SheetFault → Reason
reason_of_calls calls.undefined = Undefined
reason_of_calls calls.call_loop = CallLoop

-- the fault of a stylesheet that is written so
data WrittenCause (raw : RawTrees) (templates : List Template) : Reason → ℕ → Type 0 where
  of_names : {place : ℕ} → IsNamedAgain templates place → WrittenCause raw templates Malformed place
  of_calls : {place : ℕ} (f : SheetFault) → SheetFails raw f place → WrittenCause raw templates (reason_of_calls f) place

fails_in : {bytes : List ℕ} {raw : RawTrees} {place : ℕ} (f : SheetFault) → XmlText bytes raw → SpellsTree bytes (λ tree. SheetFails tree f place) → SheetFails raw f place
fails_in {bytes} {raw} {place} f x h = subst (λ (t : RawTrees). SheetFails t f place) (one_raw_tree bytes h.0 raw h.1 x) h.2

written_cause : {bytes : List ℕ} {raw : RawTrees} {templates : List Template} (reason : Reason) (place : ℕ) → IsWritten bytes raw templates → IsRefusedSheet bytes reason place
    → WrittenCause raw templates reason place
written_cause Malformed place w (inl h) = absurd (no_xml Malformed place h w.0)
written_cause Malformed place w (inr h) = of_names (of_tree {P = λ ts. IsNamedAgain ts place} both w h.1.1 h.1.2.1)
written_cause (Unsupported why) place w (inl h) = absurd (no_xml (Unsupported why) place h w.0)
written_cause (Unsupported why) place w (inr h) = absurd (of_tree {P = λ ts. ⊥} flattened w h.1 h.2.1)
written_cause TooDeep place w (inl h) = absurd (no_xml TooDeep place h w.0)
written_cause TooDeep place w (inr h) = absurd (of_tree {P = λ ts. ⊥} mended w h.1 h.2.1)
written_cause Undefined place w h = of_calls calls.undefined (fails_in calls.undefined w.0 h)
written_cause CallLoop place w h = of_calls calls.call_loop (fails_in calls.call_loop w.0 h)
written_cause Twice place w h = absurd h
written_cause Loop place w h = absurd h
written_cause BadStart place w h = absurd h
written_cause BadExcept place w h = absurd h

-- faults of calls are those of a stylesheet whose templates have different names
written_once : {raw : RawTrees} {f : SheetFault} {place : ℕ} → SheetFails raw f place → (templates : List Template) × IsStylesheet raw templates × IsDistinct same_name (names_of templates)
written_once (of_undefined {templates = ts} w d x) = (ts, w, d)
written_once (of_loop {templates = ts} w d a x) = (ts, w, d)

names_or_calls : {raw : RawTrees} {templates : List Template} {f : SheetFault} {k m : ℕ} → IsStylesheet raw templates → IsNamedAgain templates k → SheetFails raw f m → ⊥
names_or_calls {k = k} w n h = let (ts, v, d) = written_once h in not_once (subst (λ (us : List Template). IsNamedAgain us k) (stylesheet_unique w v) n) d

written_causes : {raw : RawTrees} {templates : List Template} {r q : Reason} {k m : ℕ} → IsStylesheet raw templates → WrittenCause raw templates r k → WrittenCause raw templates q m
    → (r ≡ q) × (k ≡ m)
written_causes w (of_names a) (of_names b) = (refl, one_place a b)
written_causes w (of_names a) (of_calls f h) = absurd (names_or_calls w a h)
written_causes w (of_calls f h) (of_names a) = absurd (names_or_calls w a h)
written_causes {raw} {k = k} {m = m} w (of_calls f h) (of_calls g j) = let two = one_sheet_fault raw f g k m h j in (ap reason_of_calls two.0, two.1)

pub one_fault_of_names : HasOneFaultOfNames
one_fault_of_names bytes raw templates r q k m x w a b = written_causes w (written_cause r k (x, w) a) (written_cause q m (x, w) b)

-- a stylesheet is refused for what is left open, and then it isn't written so, or for the fault of its calls
data SheetCause (bytes : List ℕ) : Reason → ℕ → Type 0 where
  not_written : {reason : Reason} {place : ℕ} → IsOpen reason → SheetCause bytes reason place
  of_a_call : {place : ℕ} (f : SheetFault) → SpellsTree bytes (λ raw. SheetFails raw f place) → SheetCause bytes (reason_of_calls f) place

sheet_cause : (bytes : List ℕ) (reason : Reason) (place : ℕ) → IsRefusedSheet bytes reason place → SheetCause bytes reason place
sheet_cause bytes Malformed place h = not_written tt
sheet_cause bytes (Unsupported why) place h = not_written tt
sheet_cause bytes TooDeep place h = not_written tt
sheet_cause bytes Undefined place h = of_a_call calls.undefined h
sheet_cause bytes CallLoop place h = of_a_call calls.call_loop h
sheet_cause bytes Twice place h = absurd h
sheet_cause bytes Loop place h = absurd h
sheet_cause bytes BadStart place h = absurd h
sheet_cause bytes BadExcept place h = absurd h

-- two causes of which one is a fault of calls are one
alike_by_names : (bytes name : List ℕ) {r q : Reason} {k m : ℕ} {f : SheetFault} {place : ℕ} → SpellsTree bytes (λ raw. SheetFails raw f place)
    → IsRefusedSheet bytes r k → IsRefusedSheet bytes q m → AreAlike (refused name r k) (refused name q m)
alike_by_names bytes name {r} {q} {k} {m} (raw, x, h) a b =
    let (ts, w, d) = written_once h in
    let two = one_fault_of_names bytes raw ts r q k m x w a b in
    subst (λ (s : Reason). AreAlike (refused name r k) (refused name s m)) two.0 (subst (λ (p : ℕ). AreAlike (refused name r k) (refused name r p)) two.1 same_answer)

sheet_causes : (bytes name : List ℕ) {r q : Reason} {k m : ℕ} → IsRefusedSheet bytes r k → IsRefusedSheet bytes q m → SheetCause bytes r k → SheetCause bytes q m
    → AreAlike (refused name r k) (refused name q m)
sheet_causes bytes name x y (not_written o) (not_written p) = open_reasons o p
sheet_causes bytes name x y (not_written o) (of_a_call f h) = alike_by_names bytes name h x y
sheet_causes bytes name x y (of_a_call f h) d = alike_by_names bytes name h x y

pub sheet_refusals : (bytes name : List ℕ) {r q : Reason} {k m : ℕ} → IsRefusedSheet bytes r k → IsRefusedSheet bytes q m → AreAlike (refused name r k) (refused name q m)
sheet_refusals bytes name {r} {q} {k} {m} x y = sheet_causes bytes name x y (sheet_cause bytes r k x) (sheet_cause bytes q m y)
