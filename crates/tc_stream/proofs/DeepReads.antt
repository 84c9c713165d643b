-- How a reader goes on in the name of a start tag with which elements stand too deep, and what it tells.
use Rattle.std.proofs.Common.{◌≡◌, ◌≢◌, ℕ, ◌≤◌, ◌+◌, true, false, List, [], ◌∷◌, ◌++◌, refl, ap, ◌∙◌, sym, subst, length, arith, IsTrue, append_assoc, append-nil, length-append}
use Rattle.std.specs.Prelude.{◌↔◌, encode_utf8, encode_utf8_all}
use Rattle.std.proofs.lemmas.Bool.{and_from}
use Rattle.tc_base.specs.Characters.{is_char}
use Rattle.tc_base.specs.declared.Place.{Place}
use Rattle.tc_model.specs.Grammars.{Grammar}
use Rattle.tc_model.specs.Names.{IsChars, IsNcName, is_ncname_start, is_ncname_char}
use Rattle.tc_model.specs.RawTrees.{Bound}
use Rattle.tc_model.specs.XmlTextRefusals.{too_deep}
use Rattle.tc_model.proofs.XmlTextChars.{one_char}
use Rattle.tc_stream.specs.Cuts.{BeginsNoChar}
use Rattle.tc_stream.specs.Faults.{IsFaultOf, IsFaultOfFront}
use Rattle.tc_stream.specs.From.{Standing, open_in, StillComes}
use Rattle.tc_stream.specs.Goes.{Level, depth_left}
use Rattle.tc_stream.specs.Outcomes.{Outcome, refused, Comes}
use Rattle.tc_stream.specs.Stands.{ReadsTo, Tells, before, within, behind}
use Rattle.tc_stream.specs.declared.elements.Elements.{Elements}
use Rattle.tc_stream.specs.declared.faults.StreamFault.{StreamFault}
use Rattle.tc_stream.specs.declared.faults.StreamFault.TheVariants as faults
use Rattle.tc_stream.specs.declared.parts.Part.{Part}
use Rattle.tc_stream.specs.declared.parts.Part.TheVariants as parts
use Rattle.tc_stream.specs.declared.phases.Phase.{Phase}
use Rattle.tc_stream.specs.declared.phases.Phase.TheVariants as phases
use Rattle.tc_stream.specs.declared.reader.Reader.{Reader}
use Rattle.tc_stream.proofs.DeepNames.{IsNamed, IsNameless, chars_more, deep_last, deep_step, named_before, named_last, named_prefixed, nothing_deep_last, nothing_deep_step, one_name, unnamed_behind, unnamed_last}
use Rattle.tc_stream.proofs.KeepsLaws.{as_deep, is_full}
use Rattle.tc_stream.proofs.LongLaws.{Starts}
use Rattle.tc_stream.proofs.PendingLaws.{Stays, pends_of, may_of, nonempty, one_byte, grows}
use Rattle.tc_stream.proofs.ReadingLaws.{nothing_reads, pending_with}

-- where elements stand so deep they are open

pub record DeepIn (phase : Phase) (standing : Standing) : Type 0 where
  pub ls : List Level
  pub scope : List Bound
  pub run : List ℕ
  pub content : phase ≡ phases.Content
  pub stands : standing ≡ open_in ls scope run
  pub none_left : depth_left ls ≡ 0

pub deep_in : {x : Grammar} {pending : List ℕ} {part : Part} {e : Elements} {phase : Phase} {s : Standing} → length e.levels.items ≡ 2000 → Tells x pending part e phase s → DeepIn phase s
deep_in full (before p q k a) = absurd (omega (arith, full, as_deep k))
deep_in {e = e} full (within {ls = ls} {l = l} {scope = scope} {run = run} k a) = record { ls = l ∷ ls; scope = scope; run = run; content = refl; stands = refl; none_left = is_full e k full }
deep_in full (behind none v) = absurd (omega (arith, full, ap length none))

-- what still comes from there
still_deep : (n : ℕ) (bs : List ℕ) (o : Outcome) {phase : Phase} {s : Standing} (d : DeepIn phase s) → StillComes n phase s bs o ↔ StillComes n phases.Content (open_in d.ls d.scope d.run) bs o
still_deep n bs o {phase} {s} d = (
  λ g. subst (λ z. StillComes n phases.Content z bs o) d.stands (subst (λ p. StillComes n p s bs o) d.content g),
  λ g. subst (λ p. StillComes n p s bs o) (sym d.content) (subst (λ z. StillComes n phases.Content z bs o) (sym d.stands) g),
)

-- what a name so far is with a character more

pub name_with : {n : List ℕ} (c : ℕ) → IsNcName n → is_ncname_char c ≡ true → IsNcName (n ++ encode_utf8 c)
name_with {n} c h goes = subst (λ w. IsNcName (n ++ w)) (append-nil (encode_utf8 c)) (chars_more (c ∷ []) h (and_from (is_ncname_char c) true goes refl))

-- what begins with a name
starts_of : {bs n : List ℕ} (more : List ℕ) → bs ≡ 0x3C ∷ (n ++ more) → IsNcName n → Starts bs
starts_of {bs} {n} more e (c, cs, is, first, goes) = record {
  char = c;
  rest = encode_utf8_all cs ++ more;
  opens = e ∙ ap (λ w. 0x3C ∷ w) (ap (λ w. w ++ more) (sym is) ∙ append_assoc (encode_utf8 c) (encode_utf8_all cs) more);
  starts = first;
}

-- the reader goes on

pub deep_name_begins : {x : Grammar} {old new : Reader} {chars : List ℕ} (c : ℕ) → Stays old new → old.part ≡ parts.Markup → new.part ≡ parts.DeepName → length old.elements.levels.items ≡ 2000 → is_ncname_start c ≡ true
    → IsTrue (is_char c) → ReadsTo x old chars → ReadsTo x new (chars ++ encode_utf8 c)
deep_name_begins c stays at is full starts char r =
    let mark : r.pending ≡ 0x3C ∷ [] = pends_of r at in
    let there = deep_in full r.tells in
    grows c r char stays at is (nonempty mark) refl there.content (encode_utf8 c, ap (λ w. w ++ encode_utf8 c) mark, one_name c starts, ap (λ e. length e.levels.items) stays.elements ∙ full)

pub deep_name_grows : {x : Grammar} {old new : Reader} {chars : List ℕ} (c : ℕ) → Stays old new → old.part ≡ parts.DeepName → new.part ≡ parts.DeepName → is_ncname_char c ≡ true → IsTrue (is_char c) → ReadsTo x old chars
    → ReadsTo x new (chars ++ encode_utf8 c)
deep_name_grows c stays at is goes char r =
    let (n, item, lawful, full) = pends_of r at in
    grows c r char stays at is (nonempty item) refl (may_of r at) (n ++ encode_utf8 c, ap (λ w. w ++ encode_utf8 c) item, name_with c lawful goes, ap (λ e. length e.levels.items) stays.elements ∙ full)

pub deep_prefix_begins : {x : Grammar} {old new : Reader} {chars : List ℕ} (c : ℕ) → Stays old new → old.part ≡ parts.DeepName → new.part ≡ parts.DeepPrefix → c ≡ 0x3A → IsTrue (is_char c) → ReadsTo x old chars
    → ReadsTo x new (chars ++ encode_utf8 c)
deep_prefix_begins c stays at is same char r =
    let (n, item, lawful, full) = pends_of r at in
    grows c r char stays at is (nonempty item) refl (may_of r at)
    (n, ap (λ w. w ++ encode_utf8 c) item ∙ ap (λ w. 0x3C ∷ (n ++ w)) (one_byte same (omega arith)), lawful, ap (λ e. length e.levels.items) stays.elements ∙ full)

-- it tells that elements stand too deep

deep_reads : {x : Grammar} {s : Reader} {chars : List ℕ} (c f : List ℕ) (r : ReadsTo x s chars) (place : Place) → place.0 ≡ length r.before
    → StillComes (length r.before) s.phase r.standing ((r.pending ++ c) ++ f) (refused too_deep (length r.before)) → IsFaultOf ((chars ++ c) ++ f) (faults.TooDeep place)
deep_reads {s = s} {chars = chars} c f r place here still =
    let o = refused too_deep (length r.before) in
    let whole : Comes ((chars ++ c) ++ f) o =
    subst (λ w. Comes w o) (sym (append_assoc chars c f)) ((r.comes (c ++ f) o).1 (subst (λ w. StillComes (length r.before) s.phase r.standing w o) (append_assoc r.pending c f) still)) in
    subst (λ k. Comes ((chars ++ c) ++ f) (refused too_deep k)) (sym here) whole

told_deep : {x : Grammar} {s : Reader} {chars : List ℕ} (c : ℕ) (r : ReadsTo x s chars) → length s.elements.levels.items ≡ 2000 → r.pending ≢ [] → IsTrue (is_char c) → ((f : List ℕ) → IsNamed ((r.pending ++ encode_utf8 c) ++ f))
    → IsFaultOfFront (chars ++ encode_utf8 c) (faults.TooDeep (record { 0 = s.begun }))
told_deep {s = s} c r full some char named = λ f.
    let d = deep_in full r.tells in
    let step = deep_step (length r.before) (r.pending ++ encode_utf8 c) f d.ls d.scope d.run (refused too_deep (length r.before)) (pending_with (encode_utf8 c) r (one_char c char)) d.none_left named in
    deep_reads (encode_utf8 c) f r (record { 0 = s.begun }) (r.begun some)
    ((still_deep (length r.before) ((r.pending ++ encode_utf8 c) ++ f) (refused too_deep (length r.before)) d).1 (step.1 refl))

pub deep_name_told : {x : Grammar} {s : Reader} {chars : List ℕ} (c : ℕ) → s.part ≡ parts.DeepName → is_ncname_char c ≡ false → (c ≡ 0x3A → ⊥) → IsTrue (is_char c) → ReadsTo x s chars
    → IsFaultOfFront (chars ++ encode_utf8 c) (faults.TooDeep (record { 0 = s.begun }))
deep_name_told c at out other char r =
    let (n, item, lawful, full) = pends_of r at in
    told_deep c r full (nonempty item) char (λ f. subst (λ w. IsNamed ((w ++ encode_utf8 c) ++ f)) (sym item) (named_before n c f lawful out other))

pub deep_local_told : {x : Grammar} {s : Reader} {chars : List ℕ} (c : ℕ) → s.part ≡ parts.DeepPrefix → is_ncname_start c ≡ true → IsTrue (is_char c) → ReadsTo x s chars
    → IsFaultOfFront (chars ++ encode_utf8 c) (faults.TooDeep (record { 0 = s.begun }))
deep_local_told c at starts char r =
    let (p, item, lawful, full) = pends_of r at in
    told_deep c r full (nonempty item) char (λ f. subst (λ w. IsNamed ((w ++ encode_utf8 c) ++ f)) (sym item) (named_prefixed p c f lawful starts))

pub deep_name_ended : {x : Grammar} {s : Reader} {chars : List ℕ} (f : List ℕ) → s.part ≡ parts.DeepName → BeginsNoChar f → ReadsTo x s chars → IsFaultOf (chars ++ f) (faults.TooDeep (record { 0 = s.begun }))
deep_name_ended {s = s} {chars = chars} f at last r =
    let (n, item, lawful, full) = pends_of r at in
    let d = deep_in full r.tells in
    let o = refused too_deep (length r.before) in
    let step = deep_last (length r.before) r.pending f d.ls d.scope d.run o r.pending_chars last d.none_left (subst IsNamed (sym item) (named_last n lawful)) in
    subst (λ k. Comes (chars ++ f) (refused too_deep k)) (sym (r.begun (nonempty item))) ((r.comes f o).1 ((still_deep (length r.before) (r.pending ++ f) o d).1 (step.1 refl)))

-- or that no name stands there

pub deep_local_breaks : {x : Grammar} {s : Reader} {chars : List ℕ} {e : StreamFault} (c : ℕ) → s.part ≡ parts.DeepPrefix → is_ncname_start c ≡ false → e ≡ faults.Malformed (record { 0 = s.begun }) → IsTrue (is_char c) → ReadsTo x s chars
    → IsFaultOfFront (chars ++ encode_utf8 c) e
deep_local_breaks {s = s} {chars = chars} c at out is char r =
    let (p, item, lawful, full) = pends_of r at in
    let d = deep_in full r.tells in
    let low : s.begun ≤ length chars + length (encode_utf8 c) = omega (arith, r.begun (nonempty item), ap length r.parts_are, length-append r.before r.pending) in
    let begun : Starts (r.pending ++ encode_utf8 c) = starts_of (0x3A ∷ encode_utf8 c) (ap (λ w. w ++ encode_utf8 c) item ∙ ap (λ w. 0x3C ∷ w) (append_assoc p (0x3A ∷ []) (encode_utf8 c))) lawful in
    subst (IsFaultOfFront (chars ++ encode_utf8 c)) (sym is)
    (nothing_reads (encode_utf8 c) r (record { 0 = s.begun }) low
    (λ f o g.
    nothing_deep_step (length r.before) (r.pending ++ encode_utf8 c) f d.ls d.scope d.run o (pending_with (encode_utf8 c) r (one_char c char)) d.none_left begun
    (λ h. subst (λ w. IsNameless ((w ++ encode_utf8 c) ++ h)) (sym item) (unnamed_behind p c h lawful out)) ((still_deep (length r.before) ((r.pending ++ encode_utf8 c) ++ f) o d).0 g)))

pub prefix_unended : (n : ℕ) (pending p f : List ℕ) (o : Outcome) {phase : Phase} {s : Standing} → DeepIn phase s → pending ≡ 0x3C ∷ (p ++ 0x3A ∷ []) → IsNcName p → IsChars pending → BeginsNoChar f → StillComes n phase s (pending ++ f) o → ⊥
prefix_unended n pending p f o d item lawful chars last g =
    nothing_deep_last n pending f d.ls d.scope d.run o chars last d.none_left (starts_of (0x3A ∷ []) item lawful) (subst IsNameless (sym item) (unnamed_last p lawful)) ((still_deep n (pending ++ f) o d).0 g)
