-- What is read by one character, at a place or anywhere, and what is so of the text that begins with it.
use Rattle.std.proofs.Common.{◌≡◌, ℕ, ◌<◌, ◌-◌, Bool, true, false, ◌&&◌, List, ◌++◌, refl, ap, ◌∙◌, sym, subst, length, arith, codes, Option, Result, Ok, Err, OnOk, IfErr, IsTrue, append_assoc, length-append, bytes_eq}
use Rattle.std.specs.Prelude.{encode_utf8}
use Rattle.std.specs.Cmp.Lexicographic.{bytes_decides}
use Rattle.std.proofs.lemmas.Bool.{true≢false}
use Rattle.std.proofs.lemmas.Str.{length-encode, len_utf8_bounds}
use Rattle.tc_stream.specs.Faults.{IsFaultOf}
use Rattle.tc_stream.specs.Parts.{is_by_char}
use Rattle.tc_stream.specs.Phases.{is_front}
use Rattle.tc_stream.specs.Placed.{ReadsCharAt, FaultsCharAt}
use Rattle.tc_stream.specs.Reading.{ReadsOn, FaultsOn, ReadsChar, FaultsAtChar}
use Rattle.tc_stream.specs.declared.declarations.Declaration.{Declaration}
use Rattle.tc_stream.specs.declared.doctypes.Doctype.{Doctype}
use Rattle.tc_stream.specs.declared.faults.StreamFault.{StreamFault}
use Rattle.tc_stream.specs.declared.parts.Mark.{Mark}
use Rattle.tc_stream.specs.declared.parts.Part.{Part}
use Rattle.tc_stream.specs.declared.parts.Part.TheVariants as parts
use Rattle.tc_stream.specs.declared.phases.Phase.{Phase}
use Rattle.tc_stream.specs.declared.phases.Phase.TheVariants as phases
use Rattle.tc_stream.specs.declared.reader.Reader.{Reader}
use Rattle.tc_stream.specs.declared.references.Reference.{Reference}
use Rattle.tc_stream.specs.declared.words.Word.{Word}
use Rattle.tc_stream.proofs.ReadingLaws.{first_char}

-- wherever it stands

pub placed_ok : {A : Type 0} (old new : Reader) (place c : ℕ) (r : Result A StreamFault) → OnOk r (ReadsChar old new c) → OnOk r (ReadsCharAt old new place c)
placed_ok old new place c (Ok a) h = record { ready = h.ready; reads = λ x chars char here k. h.reads x chars char k }
placed_ok old new place c (Err e) h = tt

pub placed_fault : {A : Type 0} (old : Reader) (place c : ℕ) (r : Result A StreamFault) → IfErr r (λ e. FaultsAtChar old c e) → IfErr r (λ e. FaultsCharAt old place c e)
placed_fault old place c (Ok a) h = tt
placed_fault old place c (Err e) h = λ x chars char here k. h x chars char k

-- at the front of a text

pub char_read_at : {old new : Reader} {text rest : List ℕ} (end place c : ℕ) → text ≡ encode_utf8 c ++ rest → place ≡ end - length text → ReadsCharAt old new place c → ReadsOn old new text rest end
char_read_at {old} {new} {text} {rest} end place c e at a = record { used = encode_utf8 c; parts = e; ready = a.ready; reads = λ x chars h fit r. a.reads x chars (first_char c rest e h) (omega (arith, fit, at)) r }

pub char_faults_at : {old : Reader} {text : List ℕ} (rest : List ℕ) (fault : StreamFault) (end place c : ℕ) → text ≡ encode_utf8 c ++ rest → place ≡ end - length text → FaultsCharAt old place c fault → FaultsOn old text end fault
char_faults_at {old} {text} rest fault end place c e at b = λ x chars h fit r f.
    let here : length chars ≡ place = omega (arith, fit, at) in
    let there : IsFaultOf ((chars ++ encode_utf8 c) ++ (rest ++ f)) fault = b x chars (first_char c rest e h) here r (rest ++ f) in
    subst (λ w. IsFaultOf w fault) (joined chars (encode_utf8 c) rest f ∙ ap (λ w. (chars ++ w) ++ f) (sym e)) there
  where
    joined : (a b c d : List ℕ) → (a ++ b) ++ (c ++ d) ≡ (a ++ (b ++ c)) ++ d
    joined a b c d = sym (append_assoc (a ++ b) c d) ∙ ap (λ w. w ++ d) (append_assoc a b c)

pub rest_shorter : {text : List ℕ} (rest : List ℕ) (c : ℕ) → text ≡ encode_utf8 c ++ rest → length rest < length text
rest_shorter {text} rest c e = omega (arith, ap length e, length-append (encode_utf8 c) rest, length-encode c, len_utf8_bounds c)

-- what goes character by character is one of these

pub by_char : (part : Part) → (part ≡ parts.Between → ⊥) → ((n : ℕ) → part ≡ parts.Data n → ⊥) → ((n : ℕ) → part ≡ parts.Comment n → ⊥) → ((n : ℕ) → part ≡ parts.Instruction n → ⊥) → ((n : ℕ) → part ≡ parts.Cdata n → ⊥)
    → ((q : Option ℕ) → part ≡ parts.Tag q → ⊥) → (part ≡ parts.EndTag → ⊥) → IsTrue (is_by_char part)
by_char parts.Between a b c d e f g = absurd (a refl)
by_char (parts.Data n) a b c d e f g = absurd (b n refl)
by_char parts.Markup a b c d e f g = refl
by_char parts.Marked a b c d e f g = refl
by_char (parts.Mark m n) a b c d e f g = refl
by_char (parts.Reference k) a b c d e f g = refl
by_char (parts.Comment n) a b c d e f g = absurd (c n refl)
by_char (parts.Cdata n) a b c d e f g = absurd (e n refl)
by_char (parts.Target t) a b c d e f g = refl
by_char parts.Targeted a b c d e f g = refl
by_char (parts.Instruction n) a b c d e f g = absurd (d n refl)
by_char (parts.Declaration k) a b c d e f g = refl
by_char (parts.Doctype k) a b c d e f g = refl
by_char (parts.Tag q) a b c d e f g = absurd (f q refl)
by_char parts.EndTag a b c d e f g = absurd (g refl)
by_char parts.DeepName a b c d e f g = refl
by_char parts.DeepPrefix a b c d e f g = refl

pub no_other : (part : Part) → IsTrue (is_by_char part) → (part ≡ parts.Markup → ⊥) → (part ≡ parts.Marked → ⊥) → ((m : Mark) (n : ℕ) → part ≡ parts.Mark m n → ⊥) → ((k : Reference) → part ≡ parts.Reference k → ⊥)
    → ((t : Option Word) → part ≡ parts.Target t → ⊥) → (part ≡ parts.Targeted → ⊥) → ((k : Declaration) → part ≡ parts.Declaration k → ⊥) → ((k : Doctype) → part ≡ parts.Doctype k → ⊥)
    → (part ≡ parts.DeepName → ⊥) → (part ≡ parts.DeepPrefix → ⊥) → ⊥
no_other parts.Between h a b c d e f g i j k = true≢false (sym h)
no_other (parts.Data n) h a b c d e f g i j k = true≢false (sym h)
no_other parts.Markup h a b c d e f g i j k = a refl
no_other parts.Marked h a b c d e f g i j k = b refl
no_other (parts.Mark m n) h a b c d e f g i j k = c m n refl
no_other (parts.Reference r) h a b c d e f g i j k = d r refl
no_other (parts.Comment n) h a b c d e f g i j k = true≢false (sym h)
no_other (parts.Cdata n) h a b c d e f g i j k = true≢false (sym h)
no_other (parts.Target t) h a b c d e f g i j k = e t refl
no_other parts.Targeted h a b c d e f g i j k = f refl
no_other (parts.Instruction n) h a b c d e f g i j k = true≢false (sym h)
no_other (parts.Declaration r) h a b c d e f g i j k = g r refl
no_other (parts.Doctype r) h a b c d e f g i j k = i r refl
no_other (parts.Tag q) h a b c d e f g i j k = true≢false (sym h)
no_other parts.EndTag h a b c d e f g i j k = true≢false (sym h)
no_other parts.DeepName h a b c d e f g i j k = j refl
no_other parts.DeepPrefix h a b c d e f g i j k = k refl

-- whether a target begins an XML declaration

pub not_front : (phase : Phase) → (phase ≡ phases.Front → ⊥) → is_front phase ≡ false
not_front phases.Mark n = refl
not_front phases.Front n = absurd (n refl)
not_front phases.Prolog n = refl
not_front phases.Root n = refl
not_front phases.Content n = refl
not_front phases.End n = refl

pub front_of : (phase : Phase) (b : Bool) → (is_front phase && b) ≡ true → (phase ≡ phases.Front) × (b ≡ true)
front_of phases.Mark b h = absurd (true≢false (sym h))
front_of phases.Front b h = (refl, h)
front_of phases.Prolog b h = absurd (true≢false (sym h))
front_of phases.Root b h = absurd (true≢false (sym h))
front_of phases.Content b h = absurd (true≢false (sym h))
front_of phases.End b h = absurd (true≢false (sym h))

pub not_declared : (phase : Phase) (written : List ℕ) → (is_front phase && bytes_eq written (codes "xml")) ≡ false → phase ≡ phases.Front → written ≡ codes "xml" → ⊥
not_declared phase written h p e =
    let same : bytes_eq written (codes "xml") ≡ true = (bytes_decides written (codes "xml")).1 e in
    true≢false (sym same ∙ (ap (λ z. is_front z && bytes_eq written (codes "xml")) (sym p) ∙ h))

pub is_xml : (written : List ℕ) → bytes_eq written (codes "xml") ≡ true → written ≡ codes "xml"
is_xml written h = (bytes_decides written (codes "xml")).0 h
