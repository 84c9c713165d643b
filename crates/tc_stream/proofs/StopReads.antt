-- Where a text ends, or what is no character follows it, in something that has begun and hasn't ended.
use Rattle.std.proofs.Common.{◌≡◌, ◌≢◌, ℕ, ◌<◌, ◌≤◌, ◌+◌, ◌-◌, Bool, true, false, ◌||◌, ◌==◌, List, [], ◌∷◌, ◌++◌, refl, ap, ◌∙◌, sym, subst, length, take, drop, slice_index, arith, codes, Option, None, Some, append-nil, length-append}
use Rattle.std.specs.Prelude.{encode_utf8, encode_utf8_all}
use Rattle.std.proofs.lemmas.Bool.{true≢false}
use Rattle.std.proofs.lemmas.List.{length-take-le}
use Rattle.std.proofs.lemmas.Str.{length-encode, len_utf8_bounds}
use Rattle.tc_base.specs.declared.Place.{Place}
use Rattle.tc_model.specs.Grammars.{Grammar}
use Rattle.tc_model.specs.Names.{IsChars, IsNcName}
use Rattle.tc_model.specs.RawTrees.{Bound}
use Rattle.tc_model.specs.XmlTextBytes.{BeginsWithWhite, Lacks}
use Rattle.tc_model.specs.XmlTextNames.{NcNameAt}
use Rattle.tc_model.specs.XmlTextMisc.{InstructionAt}
use Rattle.tc_model.proofs.XmlTextPhrases.{same_first, same_others}
use Rattle.tc_model.proofs.XmlTextUnique.{kind}
use Rattle.tc_stream.specs.XmlTextMeasures.{longest_tag}
use Rattle.tc_stream.specs.Cuts.{BeginsNoChar}
use Rattle.tc_stream.specs.Outcomes.{Outcome}
use Rattle.tc_stream.specs.Goes.{Level, Goes}
use Rattle.tc_stream.specs.From.{Standing, open_in, StillComes}
use Rattle.tc_stream.specs.Declaring.{LiesBefore}
use Rattle.tc_stream.specs.Faults.{IsFaultOf}
use Rattle.tc_stream.specs.Marks.{mark_of}
use Rattle.tc_stream.specs.Parts.{IsData, Pends, MayPend, IsTargetSoFar, IsOtherTarget}
use Rattle.tc_stream.specs.References.{Referring, referring, reference_scan}
use Rattle.tc_stream.specs.References as references
use Rattle.tc_stream.specs.Scans.{going, instruction_scan, cdata_scan}
use Rattle.tc_stream.specs.Stands.{ReadsTo, Tells, before, within, behind}
use Rattle.tc_stream.specs.Typing.{typing_of}
use Rattle.tc_stream.specs.declared.declarations.Declaration.{Declaration}
use Rattle.tc_stream.specs.declared.elements.Elements.{Elements}
use Rattle.tc_stream.specs.declared.faults.StreamFault.{StreamFault}
use Rattle.tc_stream.specs.declared.faults.StreamFault.TheVariants as faults
use Rattle.tc_stream.specs.declared.parts.Mark.{Mark}
use Rattle.tc_stream.specs.declared.parts.Mark.TheVariants as marks
use Rattle.tc_stream.specs.declared.parts.Part.{Part}
use Rattle.tc_stream.specs.declared.parts.Part.TheVariants as parts
use Rattle.tc_stream.specs.declared.phases.Phase.{Phase}
use Rattle.tc_stream.specs.declared.phases.Phase.TheVariants as phases
use Rattle.tc_stream.specs.declared.reader.Reader.{Reader}
use Rattle.tc_stream.proofs.BrokenSteps.{IsNoMark, IsNoDeclaration, too_short, bang_last, comment_unended, section_unended, content_ended, question_last, target_not_apart, instruction_unended, markup_last}
use Rattle.tc_stream.proofs.DeclarationReads.{IsDeclared}
use Rattle.tc_stream.proofs.DeclarationSteps.{declaration_unended}
use Rattle.tc_stream.proofs.DoctypeSteps.{doctype_unended}
use Rattle.tc_stream.proofs.EncodedLaws.{free_of}
use Rattle.tc_stream.proofs.LongLaws.{end_begins, lacks_free}
use Rattle.tc_stream.proofs.DeepReads.{deep_in, prefix_unended}
use Rattle.tc_stream.proofs.EndSteps.{root_missing, bad_behind}
use Rattle.tc_stream.proofs.HopelessSteps.{StandsIn, content_other}
use Rattle.tc_stream.proofs.InstructionLaws.{name_before}
use Rattle.tc_stream.proofs.MarkReads.{front_three}
use Rattle.tc_stream.proofs.NothingSteps.{last_step}
use Rattle.tc_stream.proofs.PendingLaws.{pends_of, nonempty}
use Rattle.tc_stream.proofs.ReadingLaws.{begun_before, nothing_behind, stands_in, InContent, content, in_content_of}
use Rattle.tc_stream.proofs.ReferenceSteps.{reference_unended}
use Rattle.tc_stream.proofs.SplitLaws.{begins_white}
use Rattle.tc_stream.proofs.TagBroken.{end_unended}
use Rattle.tc_stream.proofs.TargetReads.{no_declaration, no_declaration_in}
use Rattle.tc_stream.proofs.TextLaws.{text_whole, over_text}

-- between two items
between_none : {x : Grammar} {pending : List ℕ} {part : Part} {e : Elements} {phase : Phase} {s : Standing} (n : ℕ) (f : List ℕ) (o : Outcome) → Tells x pending part e phase s → BeginsNoChar f → (phase ≡ phases.End → f ≢ [])
    → StillComes n phase s f o → ⊥
between_none n f o (before {phase = phase} p q k a) last some g = root_missing n f phase (open_in [] [] []) o p q last g
between_none n f o (within {ls = ls} {l = l} {scope = scope} {run = run} k a) last some g = content_ended n f l ls scope run o last g
between_none n f o (behind {n = name} {kids = kids} e v) last some g = bad_behind n f name kids o (some refl) last g

-- in character data

no_more : {total : ℕ} {l : Level} {ls : List Level} {scope : List Bound} {run : List ℕ} {o : Outcome} → Goes total (l ∷ ls) scope run [] o → ⊥
unfolding kind
no_more g = content_other refl g

data_none : {x : Grammar} {known : List ℕ} {e : Elements} {s : Standing} {brackets : ℕ} (n : ℕ) (w f : List ℕ) (o : Outcome) → InContent x known e s → IsData brackets w → IsChars w → BeginsNoChar f
    → StillComes n phases.Content s (w ++ f) o → ⊥
data_none {brackets = brackets} n w f o (content {ls = ls} {l = l} {scope = scope} {run = run} k a) d chars last g =
    last_step n w f phases.Content (open_in (l ∷ ls) scope run) o chars last
    (λ h. no_more ((over_text w (n + length w) l ls scope run [] o (text_whole w [] brackets d.some d.plain d.scanned tt)).0 (subst (λ z. Goes (n + length w) (l ∷ ls) scope run z o) (sym (append-nil w)) h))) g

-- in a mark

no_mark_short : (phase : Phase) (bs : List ℕ) → phase ≢ phases.Mark → length bs < 9 → IsNoMark phase bs
no_mark_short phases.Mark bs m low = absurd (m refl)
no_mark_short phases.Front bs m low = λ t e. too_short bs (codes "<!DOCTYPE") t low e
no_mark_short phases.Prolog bs m low = λ t e. too_short bs (codes "<!DOCTYPE") t low e
no_mark_short phases.Root bs m low = tt
no_mark_short phases.Content bs m low = λ t e. too_short bs (codes "<![CDATA[") t low e
no_mark_short phases.End bs m low = tt

mark_length : (mark : Mark) → length (mark_of mark) ≤ 9
mark_length marks.Comment = omega arith
mark_length marks.Cdata = omega arith
mark_length marks.Doctype = omega arith

-- a part of a mark is no comment's
no_comment_yet : (mark : Mark) (count : ℕ) (t : List ℕ) → 3 ≤ count → count < length (mark_of mark) → take count (mark_of mark) ≡ codes "<!--" ++ t → ⊥
no_comment_yet marks.Comment count t some low e = too_short (take count (codes "<!--")) (codes "<!--") t (omega (arith, low, length-take-le count (codes "<!--") (omega (arith, low)))) e
no_comment_yet marks.Cdata count t some low e = omega (arith, same_first (same_others (same_others (sym (front_three marks.Cdata count some) ∙ e))))
no_comment_yet marks.Doctype count t some low e = omega (arith, same_first (same_others (same_others (sym (front_three marks.Doctype count some) ∙ e))))

mark_none : (n : ℕ) (pending f : List ℕ) (mark : Mark) (count : ℕ) {phase : Phase} {s : Standing} (o : Outcome) → StandsIn phase s → phase ≢ phases.Mark → 3 ≤ count → count < length (mark_of mark) → pending ≡ take count (mark_of mark)
    → IsChars pending → BeginsNoChar f → StillComes n phase s (pending ++ f) o → ⊥
mark_none n pending f mark count {phase} {s} o at m some low e chars last g =
    let rest = slice_index (mark_of mark) 2 ∷ take (count - 3) (drop 3 (mark_of mark)) in
    let item : pending ≡ 0x3C ∷ 0x21 ∷ rest = e ∙ front_three mark count some in
    let short : length (0x3C ∷ 0x21 ∷ rest) < 9 = omega (arith, low, mark_length mark, ap length (sym item ∙ e), length-take-le count (mark_of mark) (omega (arith, low))) in
    bang_last n rest f phase s o at (subst IsChars item chars) last (λ t d. no_comment_yet mark count t some low (sym e ∙ (item ∙ d))) (no_mark_short phase (0x3C ∷ 0x21 ∷ rest) m short)
    (subst (λ w. StillComes n phase s (w ++ f) o) item g)

-- in a reference, a CDATA section, an end tag

reference_none : {x : Grammar} {known : List ℕ} {e : Elements} {s : Standing} (n : ℕ) (cs f : List ℕ) (o : Outcome) (state : Referring) → InContent x known e s → IsChars (0x26 ∷ encode_utf8_all cs) → BeginsNoChar f
    → reference_scan references.begun cs ≡ referring state → StillComes n phases.Content s ((0x26 ∷ encode_utf8_all cs) ++ f) o → ⊥
reference_none n cs f o state (content {ls = ls} {l = l} {scope = scope} {run = run} k a) chars last scanned g = reference_unended n cs f l ls scope run o state chars last scanned g

section_none : {x : Grammar} {known : List ℕ} {e : Elements} {s : Standing} (n : ℕ) (inside f : List ℕ) (o : Outcome) (brackets : ℕ) → InContent x known e s → IsChars (codes "<![CDATA[" ++ inside) → BeginsNoChar f
    → cdata_scan 0 inside ≡ going brackets → StillComes n phases.Content s ((codes "<![CDATA[" ++ inside) ++ f) o → ⊥
section_none n inside f o brackets (content {ls = ls} {l = l} {scope = scope} {run = run} k a) chars last scanned g = section_unended n inside f brackets l ls scope run o chars last scanned g

end_none : {x : Grammar} {known : List ℕ} {e : Elements} {s : Standing} (n : ℕ) (rest f : List ℕ) (o : Outcome) → InContent x known e s → IsChars (codes "</" ++ rest) → BeginsNoChar f → length (codes "</" ++ rest) ≤ longest_tag
    → free_of 0x3E (codes "</" ++ rest) ≡ true → StillComes n phases.Content s ((codes "</" ++ rest) ++ f) o → ⊥
end_none n rest f o (content {ls = ls} {l = l} {scope = scope} {run = run} k a) chars last low free g =
    let b = end_begins rest refl in end_unended n (codes "</" ++ rest) f (l ∷ ls) scope run o b.0 b.1 chars last low free g

-- in a processing instruction

-- a name with which the text ends
alone_name : (name : List ℕ) → IsNcName name → NcNameAt name name []
alone_name name h = record { lawful = h; parts = sym (append-nil name); longest = λ c r e k. omega (arith, ap length e, length-append (encode_utf8 c) r, length-encode c, len_utf8_bounds c) }

-- no name at all
nameless_target : {w name after : List ℕ} → w ≡ [] → NcNameAt w name after → ⊥
nameless_target {w} {name} {after} e a =
    let (c, cs, is, starts, goes) = a.lawful in
    omega (arith, ap length (sym e ∙ a.parts), length-append name after, ap length (sym is), length-append (encode_utf8 c) (encode_utf8_all cs), length-encode c, len_utf8_bounds c)

no_instruction : (t : List ℕ) → InstructionAt (codes "<?" ++ []) t → ⊥
no_instruction t a = nameless_target (same_others (same_others (sym a.opens))) a.names

question_none : (n : ℕ) (pending w f : List ℕ) {phase : Phase} {s : Standing} (o : Outcome) → StandsIn phase s → pending ≡ codes "<?" ++ w → IsChars pending → BeginsNoChar f → ((t : List ℕ) → InstructionAt (codes "<?" ++ w) t → ⊥)
    → IsNoDeclaration phase w → StillComes n phase s (pending ++ f) o → ⊥
question_none n pending w f {phase} {s} o at item chars last none others g =
    question_last n w f phase s o at (subst IsChars item chars) last none others (subst (λ z. StillComes n phase s (z ++ f) o) item g)

no_white : BeginsWithWhite [] → ⊥
no_white h = omega (arith, h)

no_end : (t : List ℕ) → [] ≡ codes "?>" ++ t → ⊥
no_end t e = omega (arith, ap length e)

target_unended : (n : ℕ) (pending name f : List ℕ) (state : Option (List ℕ)) {phase : Phase} {s : Standing} (o : Outcome) → StandsIn phase s → phase ≢ phases.Mark → pending ≡ codes "<?" ++ name → IsTargetSoFar state name → IsChars pending
    → BeginsNoChar f → StillComes n phase s (pending ++ f) o → ⊥
target_unended n pending name f None {phase} o at m item empty chars last g =
    question_none n pending [] f o at (item ∙ ap (λ z. codes "<?" ++ z) empty) chars last no_instruction (no_declaration_in phase [] m (λ p t e w. omega (arith, ap length e))) g
target_unended n pending name f (Some so_far) {phase} o at m item (same, lawful) chars last g =
    let named : IsNcName name = subst (λ w. IsNcName w) (sym same) lawful in
    question_none n pending name f o at item chars last (λ t a. target_not_apart t (alone_name name named) no_white no_end a)
    (no_declaration_in phase name m (λ p t e w. no_declaration t (alone_name name named) (λ q. no_white) e w)) g

not_front : (phase : Phase) (w : List ℕ) → phase ≢ phases.Mark → phase ≢ phases.Front → IsNoDeclaration phase w
not_front phase w m q = no_declaration_in phase w m (λ p t e h. absurd (q p))

targeted_unended : (n : ℕ) (pending name f : List ℕ) {phase : Phase} {s : Standing} (o : Outcome) → StandsIn phase s → phase ≢ phases.Mark → phase ≢ phases.Front → pending ≡ codes "<?" ++ (name ++ 0x3F ∷ []) → IsOtherTarget name
    → IsChars pending → BeginsNoChar f → StillComes n phase s (pending ++ f) o → ⊥
targeted_unended n pending name f {phase} o at m q item lawful chars last g =
    question_none n pending (name ++ 0x3F ∷ []) f o at item chars last
    (λ t a. target_not_apart t (name_before name 0x3F [] lawful.0 refl) (λ w. true≢false (sym (begins_white 0x3F [] w))) (λ u e. omega (arith, ap length e)) a) (not_front phase (name ++ 0x3F ∷ []) m q) g

-- a name before white space
name_apart : (name inside : List ℕ) → IsNcName name → BeginsWithWhite inside → NcNameAt (name ++ inside) name inside
name_apart name [] lawful h = absurd (no_white h)
name_apart name (b ∷ inside) lawful h = name_before name b inside lawful (ap (λ x. x || b == 0x3F) (begins_white b inside h))

instruction_none : (n : ℕ) (pending name inside f : List ℕ) (question : ℕ) {phase : Phase} {s : Standing} (o : Outcome) → StandsIn phase s → phase ≢ phases.Mark → phase ≢ phases.Front → pending ≡ codes "<?" ++ (name ++ inside)
    → IsOtherTarget name → BeginsWithWhite inside → instruction_scan 0 inside ≡ going question → IsChars pending → BeginsNoChar f → StillComes n phase s (pending ++ f) o → ⊥
instruction_none n pending name inside f question {phase} o at m q item lawful white scanned chars last g =
    question_none n pending (name ++ inside) f o at item chars last (λ t a. instruction_unended name inside t question (name_apart name inside lawful.0 white) scanned a) (not_front phase (name ++ inside) m q) g

-- wherever it ends, but in a start tag

none_left : {x : Grammar} {phase : Phase} {s : Standing} (n : ℕ) (part : Part) (kept : Reader) (pending f : List ℕ) (o : Outcome) → Pends n part kept pending → MayPend phase part → Tells x pending part kept.elements phase s → IsChars pending → BeginsNoChar f
    → ((q : Option ℕ) → part ≡ parts.Tag q → ⊥) → (part ≡ parts.DeepName → ⊥) → (part ≡ parts.Between → phase ≡ phases.End → f ≢ []) → StillComes n phase s (pending ++ f) o → ⊥
none_left {phase = phase} {s = s} n parts.Between kept pending f o p m t chars last not_tag not_deep some g = between_none n f o t last (some refl) (subst (λ w. StillComes n phase s (w ++ f) o) p g)
none_left {s = s} n (parts.Data brackets) kept pending f o p m t chars last not_tag not_deep some g = data_none n pending f o (in_content_of m t) p chars last (subst (λ z. StillComes n z s (pending ++ f) o) m g)
none_left {phase = phase} {s = s} n parts.Markup kept pending f o p m t chars last not_tag not_deep some g =
    markup_last n f phase s o (stands_in m t) last (subst IsChars p chars) (subst (λ w. StillComes n phase s (w ++ f) o) p g)
none_left {phase = phase} {s = s} n parts.Marked kept pending f o p m t chars last not_tag not_deep some g =
    bang_last n [] f phase s o (stands_in m t) (subst IsChars p chars) last (λ r e. too_short (codes "<!") (codes "<!--") r (omega arith) e) (no_mark_short phase (codes "<!") m (omega arith))
    (subst (λ w. StillComes n phase s (w ++ f) o) p g)
none_left n (parts.Mark mark count) kept pending f o (some, low, p) (m, q, h) t chars last not_tag not_deep at_end g = mark_none n pending f mark count o (stands_in m t) m some low p chars last g
none_left {s = s} n (parts.Reference known) kept pending f o (state, cs, p, scanned, k) m t chars last not_tag not_deep some g =
    reference_none n cs f o state (in_content_of m t) (subst IsChars p chars) last scanned (subst (λ w. StillComes n phases.Content s (w ++ f) o) p (subst (λ z. StillComes n z s (pending ++ f) o) m g))
none_left {phase = phase} {s = s} n (parts.Comment hyphens) kept pending f o (inside, p, scanned) (m, q) t chars last not_tag not_deep some g =
    comment_unended n inside f hyphens phase s o (stands_in m t) (subst IsChars p chars) last scanned (subst (λ w. StillComes n phase s (w ++ f) o) p g)
none_left {s = s} n (parts.Cdata brackets) kept pending f o (inside, p, scanned) m t chars last not_tag not_deep some g =
    section_none n inside f o brackets (in_content_of m t) (subst IsChars p chars) last scanned (subst (λ w. StillComes n phases.Content s (w ++ f) o) p (subst (λ z. StillComes n z s (pending ++ f) o) m g))
none_left n (parts.Target target) kept pending f o (state, name, p, so_far, k) m t chars last not_tag not_deep some g = target_unended n pending name f state o (stands_in m t) m p so_far chars last g
none_left n parts.Targeted kept pending f o (name, p, lawful) (m, q) t chars last not_tag not_deep some g = targeted_unended n pending name f o (stands_in m t) m q p lawful chars last g
none_left n (parts.Instruction question) kept pending f o (name, inside, p, lawful, white, scanned) (m, q) t chars last not_tag not_deep some g =
    instruction_none n pending name inside f question o (stands_in m t) m q p lawful white scanned chars last g
none_left {s = s} n (parts.Declaration known) kept pending f o (state, inside, p, white, scanned, k, low) m t chars last not_tag not_deep some g =
    declaration_unended n inside f s o state (subst IsChars p chars) white last scanned (subst (λ w. StillComes n phases.Front s (w ++ f) o) p (subst (λ z. StillComes n z s (pending ++ f) o) m g))
none_left {s = s} n (parts.Doctype known) kept pending f o (cs, p, scanned) m t chars last not_tag not_deep some g =
    doctype_unended n cs f s o (typing_of known) (subst IsChars p chars) last scanned (subst (λ w. StillComes n phases.Prolog s (w ++ f) o) p (subst (λ z. StillComes n z s (pending ++ f) o) m g))
none_left n (parts.Tag quote) kept pending f o p m t chars last not_tag not_deep some g = not_tag quote refl
none_left n parts.DeepName kept pending f o p m t chars last not_tag not_deep some g = not_deep refl
none_left n parts.DeepPrefix kept pending f o (p, is, lawful, full) m t chars last not_tag not_deep some g = prefix_unended n pending p f o (deep_in full t) is lawful chars last g
none_left {s = s} n parts.EndTag kept pending f o (p, (rest, opens), lacks, low) m t chars last not_tag not_deep some g =
    let item : pending ≡ codes "</" ++ rest = p ∙ opens in
    end_none n rest f o (in_content_of m t) (subst IsChars item chars) last (subst (λ w. length w ≤ longest_tag) opens low) (lacks_free (codes "</" ++ rest) (subst (λ w. Lacks (0x3E ∷ []) w) opens lacks))
    (subst (λ w. StillComes n phases.Content s (w ++ f) o) item (subst (λ z. StillComes n z s (pending ++ f) o) m g))

-- what has begun is something
some_pending : (n : ℕ) (part : Part) (kept : Reader) (pending : List ℕ) → Pends n part kept pending → (part ≡ parts.Between → ⊥) → pending ≢ []
some_pending n parts.Between kept pending p not_between = absurd (not_between refl)
some_pending n (parts.Data brackets) kept pending p not_between = λ e. omega (arith, p.some, ap length e)
some_pending n parts.Markup kept pending p not_between = nonempty p
some_pending n parts.Marked kept pending p not_between = nonempty p
some_pending n (parts.Mark mark count) kept pending (some, low, p) not_between = nonempty (p ∙ front_three mark count some)
some_pending n (parts.Reference known) kept pending (state, cs, p, scanned, k) not_between = nonempty p
some_pending n (parts.Comment hyphens) kept pending (inside, p, scanned) not_between = nonempty p
some_pending n (parts.Cdata brackets) kept pending (inside, p, scanned) not_between = nonempty p
some_pending n (parts.Target target) kept pending (state, name, p, so_far, k) not_between = nonempty p
some_pending n parts.Targeted kept pending (name, p, lawful) not_between = nonempty p
some_pending n (parts.Instruction question) kept pending (name, inside, p, lawful, white, scanned) not_between = nonempty p
some_pending n (parts.Declaration known) kept pending (state, inside, p, white, scanned, k, low) not_between = nonempty p
some_pending n (parts.Doctype known) kept pending (cs, p, scanned) not_between = nonempty p
some_pending n (parts.Tag quote) kept pending (p, (c, rest, opens, starts), scanned, low, room) not_between = nonempty (p ∙ opens)
some_pending n parts.EndTag kept pending (p, (rest, opens), lacks, low) not_between = nonempty (p ∙ opens)
some_pending n parts.DeepName kept pending (name, is, lawful, full) not_between = nonempty is
some_pending n parts.DeepPrefix kept pending (prefix, is, lawful, full) not_between = nonempty is

-- the fault of a text that stops there
pub stops : {x : Grammar} {s : Reader} {chars : List ℕ} {e : StreamFault} {stop : Place} (f : List ℕ) (r : ReadsTo x s chars) → BeginsNoChar f → ((q : Option ℕ) → s.part ≡ parts.Tag q → ⊥)
    → (s.part ≡ parts.DeepName → ⊥) → (s.part ≡ parts.Between → s.phase ≡ phases.End → f ≢ []) → e ≡ faults.Malformed stop → stop.0 ≤ length chars → IsFaultOf (chars ++ f) e
stops {x} {s} {chars} {e} {stop} f r last not_tag not_deep some is low =
    subst (λ z. IsFaultOf (chars ++ f) z) (sym is)
    (nothing_behind f r stop (omega (arith, low, length-append chars f))
    (λ o g. none_left (length r.before) s.part s r.pending f o r.pends r.may r.tells r.pending_chars last not_tag not_deep some g))

-- a place at its begin, or a byte behind that
pub stop_room : {x : Grammar} {s : Reader} {chars : List ℕ} (p : ℕ) (r : ReadsTo x s chars) → (s.part ≡ parts.Between → ⊥) → p ≤ s.begun + 1 → p ≤ length chars
stop_room {x} {s} {chars} p r not_between low =
    let some = some_pending (length r.before) s.part s r.pending r.pends not_between in
    omega (arith, low, r.begun some, longer r.pending some, ap length r.parts_are, length-append r.before r.pending)
  where
    longer : (w : List ℕ) → w ≢ [] → 0 < length w
    longer [] n = absurd (n refl)
    longer (b ∷ w) n = omega arith

-- and one in a declaration
pub declared_room : {x : Grammar} {s : Reader} {chars : List ℕ} {known : Declaration} (p place : ℕ) (r : ReadsTo x s chars) → s.part ≡ parts.Declaration known → length chars ≡ place
    → ((most : ℕ) → LiesBefore most known → place ≤ most → p ≤ most) → p ≤ length chars
declared_room {x} {s} {chars} {known} p place r at here lies = by (pends_of r at)
  where
    by : IsDeclared (length r.before) known r.pending → p ≤ length chars
    by (state, inside, item, white, scanned, k, low) =
        let so_far : length r.before + length r.pending ≡ length chars = sym (ap length r.parts_are ∙ length-append r.before r.pending) in
        lies (length chars) (subst (λ n. LiesBefore n known) so_far low) (omega (arith, here))

-- and one in a document type declaration
pub typed_room : {x : Grammar} {s : Reader} {chars : List ℕ} (p place : ℕ) (r : ReadsTo x s chars) → (s.part ≡ parts.Between → ⊥) → length chars ≡ place → ((most : ℕ) → s.begun ≤ most → place ≤ most → p ≤ most) → p ≤ length chars
typed_room {x} {s} {chars} p place r not_between here lies =
    lies (length chars) (begun_before r (some_pending (length r.before) s.part s r.pending r.pends not_between)) (omega (arith, here))

-- what has begun is something else

abbrev is_between : Part → Bool
is_between parts.Between = true
is_between _ = false

pub not_between_at : {part other : Part} → part ≡ other → is_between other ≡ false → part ≡ parts.Between → ⊥
not_between_at at h e = true≢false (ap is_between (sym e ∙ at) ∙ h)
