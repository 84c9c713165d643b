-- What a character makes of a document type declaration.
use Rattle.std.proofs.Common.{◌≡◌, ℕ, ◌≤◌, ◌+◌, ◌-◌, Bool, true, false, cond, ◌||◌, ◌==◌, List, [], ◌∷◌, ◌++◌, refl, ap, ◌∙◌, sym, subst, length, arith, codes, IsTrue, length-append}
use Rattle.std.specs.Prelude.{◌↔◌, encode_utf8, encode_utf8_all}
use Rattle.std.proofs.lemmas.Bool.{eqb-true}
use Rattle.tc_base.specs.Characters.{is_char, is_white}
use Rattle.tc_base.specs.declared.Place.{Place}
use Rattle.tc_base.specs.declared.reasons.Why.TheVariants.{DoctypeSubset}
use Rattle.tc_model.specs.Grammars.{Grammar}
use Rattle.tc_model.specs.Names.{IsChars, is_ncname_start, is_ncname_char}
use Rattle.tc_model.specs.XmlTextRefusals.{unsupported}
use Rattle.tc_model.proofs.XmlTextChars.{one_char}
use Rattle.tc_stream.specs.Outcomes.{refused}
use Rattle.tc_stream.specs.From.{Standing, StillComes}
use Rattle.tc_stream.specs.Doctypes.{Typing, before_name, in_name, at_colon, named, in_word, before_literal, in_literal, identified, Typed, more, whole, opens_subset, untyped, or_end, at_name, at_word, behind_name, behind_literal, typed_next, TypeScan, typed, typing, subset, no_doctype, type_on, doctype_scan}
use Rattle.tc_stream.specs.Doctypes as scan
use Rattle.tc_stream.specs.Faults.{IsFaultOfFront}
use Rattle.tc_stream.specs.Stands.{ReadsTo, Tells, before, within, behind}
use Rattle.tc_stream.specs.Typing.{typing_of}
use Rattle.tc_stream.specs.declared.doctypes.Doctype.{Doctype}
use Rattle.tc_stream.specs.declared.elements.Elements.{Elements}
use Rattle.tc_stream.specs.declared.faults.StreamFault.{StreamFault}
use Rattle.tc_stream.specs.declared.faults.StreamFault.TheVariants as faults
use Rattle.tc_stream.specs.declared.parts.Part.{Part}
use Rattle.tc_stream.specs.declared.parts.Part.TheVariants as parts
use Rattle.tc_stream.specs.declared.phases.Phase.{Phase}
use Rattle.tc_stream.specs.declared.phases.Phase.TheVariants as phases
use Rattle.tc_stream.specs.declared.reader.Reader.{Reader}
use Rattle.tc_stream.proofs.DoctypeLaws.{then_doctype, doctype_more}
use Rattle.tc_stream.proofs.DoctypeSteps.{doctype_step, subset_step, doctype_broken}
use Rattle.tc_stream.proofs.ReadingLaws.{pending_with, begun_before, refusal_reads, tells_with}
use Rattle.tc_stream.proofs.PendingLaws.{Stays, pends_of, may_of, nonempty, one_byte, with_char, grows, ends, breaks, step_at, none_at, one_at}

-- what is kept of a document type declaration stands for its characters
abbrev IsKept : Doctype → List ℕ → Type 0
IsKept known w = (cs : List ℕ) × (w ≡ codes "<!DOCTYPE" ++ encode_utf8_all cs) × (doctype_scan scan.begun cs ≡ typing (typing_of known))

scanned_char : (cs : List ℕ) (c : ℕ) (state : Typing) (d : Typed) → doctype_scan scan.begun cs ≡ typing state → typed_next state c ≡ d → doctype_scan scan.begun (cs ++ c ∷ []) ≡ type_on d (λ j. typing j) []
scanned_char cs c state d e n = doctype_more scan.begun cs (c ∷ []) ∙ (ap (λ z. then_doctype z (c ∷ [])) e ∙ ap (λ z. type_on z (λ j. typing j) []) n)

pub doctype_goes_on : {x : Grammar} {old new : Reader} {chars : List ℕ} {known later : Doctype} (c : ℕ) → Stays old new → old.part ≡ parts.Doctype known → new.part ≡ parts.Doctype later
    → typed_next (typing_of known) c ≡ more (typing_of later) → IsTrue (is_char c) → ReadsTo x old chars → ReadsTo x new (chars ++ encode_utf8 c)
doctype_goes_on {x} {old} {new} {chars} {known} {later} c stays at is tells char r = by (pends_of r at)
  where
    by : IsKept known r.pending → ReadsTo x new (chars ++ encode_utf8 c)
    by (cs, item, scanned) =
        grows c r char stays at is (nonempty item) refl (may_of r at) (cs ++ c ∷ [], with_char (codes "<!DOCTYPE") cs c item, scanned_char cs c (typing_of known) (more (typing_of later)) scanned tells)

-- it ends, and the root element must come

told_root : {x : Grammar} {pending : List ℕ} {part : Part} {e : Elements} {phase : Phase} {s : Standing} → phase ≡ phases.Prolog → Tells x pending part e phase s → Tells x pending part e phases.Root s
told_root at (before p q k a) = before (λ h. cc) (λ h. cc) k a
told_root at (within k a) = absurd (cc)
told_root at (behind e v) = absurd (cc)

pub doctype_ends : {x : Grammar} {old new : Reader} {chars : List ℕ} {known : Doctype} (c : ℕ) → new.elements ≡ old.elements → new.phase ≡ phases.Root → old.part ≡ parts.Doctype known → new.part ≡ parts.Between
    → typed_next (typing_of known) c ≡ whole → IsTrue (is_char c) → ReadsTo x old chars → ReadsTo x new (chars ++ encode_utf8 c)
doctype_ends {x} {old} {new} {chars} {known} c elements now at is tells char r = by (pends_of r at)
  where
    by : IsKept known r.pending → ReadsTo x new (chars ++ encode_utf8 c)
    by (cs, item, scanned) =
        let item_is : r.pending ++ encode_utf8 c ≡ codes "<!DOCTYPE" ++ encode_utf8_all (cs ++ c ∷ []) = with_char (codes "<!DOCTYPE") cs c item in
        let chars_are : IsChars (codes "<!DOCTYPE" ++ encode_utf8_all (cs ++ c ∷ [])) = subst IsChars item_is (pending_with (encode_utf8 c) r (one_char c char)) in
        let told : Tells x [] parts.Between old.elements phases.Root r.standing = told_root (may_of r at) (tells_with r (parts.Doctype known) parts.Between [] at refl) in
        ends c r.standing r char is refl tt
        (subst (λ p. Tells x [] parts.Between new.elements p r.standing) (sym now) (subst (λ z. Tells x [] parts.Between z phases.Root r.standing) (sym elements) told))
        (step_at (length r.before) (r.pending ++ encode_utf8 c) (codes "<!DOCTYPE" ++ encode_utf8_all (cs ++ c ∷ [])) old.phase new.phase phases.Prolog phases.Root r.standing r.standing item_is (may_of r at) now
        (λ f o. doctype_step (length r.before) (cs ++ c ∷ []) f r.standing o chars_are (scanned_char cs c (typing_of known) whole scanned tells)))

-- there is none

pub doctype_breaks : {x : Grammar} {s : Reader} {chars : List ℕ} {known : Doctype} {e : StreamFault} {stop : Place} (c place : ℕ) → s.part ≡ parts.Doctype known → length chars ≡ place → typed_next (typing_of known) c ≡ untyped
    → ((most : ℕ) → s.begun ≤ most → place ≤ most → stop.0 ≤ most) → e ≡ faults.Malformed stop → IsTrue (is_char c) → ReadsTo x s chars → IsFaultOfFront (chars ++ encode_utf8 c) e
doctype_breaks {x} {s} {chars} {known} {e} {stop} c place at here tells lies is char r = by (pends_of r at)
  where
    by : IsKept known r.pending → IsFaultOfFront (chars ++ encode_utf8 c) e
    by (cs, item, scanned) =
        let item_is : r.pending ++ encode_utf8 c ≡ codes "<!DOCTYPE" ++ encode_utf8_all (cs ++ c ∷ []) = with_char (codes "<!DOCTYPE") cs c item in
        let chars_are : IsChars (codes "<!DOCTYPE" ++ encode_utf8_all (cs ++ c ∷ [])) = subst IsChars item_is (pending_with (encode_utf8 c) r (one_char c char)) in
        let room : stop.0 ≤ length chars = lies (length chars) (begun_before r (nonempty item)) (omega (arith, here)) in
        breaks c r is (omega (arith, room))
        (none_at (length r.before) (r.pending ++ encode_utf8 c) (codes "<!DOCTYPE" ++ encode_utf8_all (cs ++ c ∷ [])) s.phase phases.Prolog r.standing item_is (may_of r at)
        (λ f o g. doctype_broken (length r.before) (cs ++ c ∷ []) f r.standing o chars_are (scanned_char cs c (typing_of known) untyped scanned tells) g))

-- a subset opens with a bracket

right : (x : Bool) (d f : Typed) → (d ≡ opens_subset → ⊥) → cond x d f ≡ opens_subset → f ≡ opens_subset
right true d f n e = absurd (n e)
right false d f n e = e

neither : (x : Bool) (d f : Typed) → (d ≡ opens_subset → ⊥) → (f ≡ opens_subset → ⊥) → cond x d f ≡ opens_subset → ⊥
neither true d f n m e = n e
neither false d f n m e = m e

no_more : (k : Typing) → more k ≡ opens_subset → ⊥
no_more k h = cc

no_whole : whole ≡ opens_subset → ⊥
no_whole h = cc

no_untyped : untyped ≡ opens_subset → ⊥
no_untyped h = cc

end_bracket : (c : ℕ) (other : Typed) → (other ≡ opens_subset → ⊥) → or_end c other ≡ opens_subset → c ≡ 0x5B
end_bracket c other n e = by (c == 0x5B) refl (right (c == 0x3E) whole (cond (c == 0x5B) opens_subset other) no_whole e)
  where
    by : (x : Bool) → (c == 0x5B) ≡ x → cond x opens_subset other ≡ opens_subset → c ≡ 0x5B
    by true i h = eqb-true c 0x5B i
    by false i h = absurd (n h)

name_bracket : (c : ℕ) (other : Typed) → (other ≡ opens_subset → ⊥) → behind_name c other ≡ opens_subset → c ≡ 0x5B
name_bracket c other n e = end_bracket c other n (right (is_white c) (more named) (or_end c other) (no_more named) e)

no_name_opens : (local : Bool) (c : ℕ) → at_name local c ≡ opens_subset → ⊥
no_name_opens local c e = neither (is_ncname_start c) (more (in_name local)) untyped (no_more (in_name local)) no_untyped e

no_word_opens : (c : ℕ) → at_word c ≡ opens_subset → ⊥
no_word_opens c e =
    neither (c == 0x53) (more (in_word (codes "YSTEM") 1)) (cond (c == 0x50) (more (in_word (codes "UBLIC") 2)) untyped) (no_more (in_word (codes "YSTEM") 1))
    (λ h. neither (c == 0x50) (more (in_word (codes "UBLIC") 2)) untyped (no_more (in_word (codes "UBLIC") 2)) no_untyped h) e

colon_none : (local : Bool) (c : ℕ) → cond local untyped (cond (c == 0x3A) (more at_colon) untyped) ≡ opens_subset → ⊥
colon_none local c e =
    neither local untyped (cond (c == 0x3A) (more at_colon) untyped) no_untyped (λ h. neither (c == 0x3A) (more at_colon) untyped (no_more at_colon) no_untyped h) e

opens_bracket : (k : Typing) (c : ℕ) → typed_next k c ≡ opens_subset → c ≡ 0x5B
opens_bracket scan.begun c e = absurd (neither (is_white c) (more before_name) untyped (no_more before_name) no_untyped e)
opens_bracket before_name c e = absurd (no_name_opens false c (right (is_white c) (more before_name) (at_name false c) (no_more before_name) e))
opens_bracket (in_name local) c e =
    let other = cond local untyped (cond (c == 0x3A) (more at_colon) untyped) in
    name_bracket c other (colon_none local c) (right (is_ncname_char c) (more (in_name local)) (behind_name c other) (no_more (in_name local)) e)
opens_bracket at_colon c e = absurd (no_name_opens true c e)
opens_bracket named c e = name_bracket c (at_word c) (no_word_opens c) e
opens_bracket (in_word [] literals) c e = absurd (neither (is_white c) (more (before_literal literals)) untyped (no_more (before_literal literals)) no_untyped e)
opens_bracket (in_word (b ∷ left) literals) c e = absurd (neither (c == b) (more (in_word left literals)) untyped (no_more (in_word left literals)) no_untyped e)
opens_bracket (before_literal literals) c e =
    absurd (neither (c == 0x22 || c == 0x27) (more (in_literal literals c)) untyped (no_more (in_literal literals c)) no_untyped
    (right (is_white c) (more (before_literal literals)) (cond (c == 0x22 || c == 0x27) (more (in_literal literals c)) untyped) (no_more (before_literal literals)) e))
opens_bracket (in_literal literals quote) c e =
    absurd (neither (c == quote) (more (behind_literal literals)) (more (in_literal literals quote)) (no_more (behind_literal literals)) (no_more (in_literal literals quote)) e)
opens_bracket identified c e = end_bracket c untyped no_untyped (right (is_white c) (more identified) (or_end c untyped) (no_more identified) e)

-- it isn't read

pub doctype_refuses : {x : Grammar} {s : Reader} {chars : List ℕ} {known : Doctype} (stop : Place) (c : ℕ) → s.part ≡ parts.Doctype known → length chars ≡ stop.0 → typed_next (typing_of known) c ≡ opens_subset
    → IsTrue (is_char c) → ReadsTo x s chars → IsFaultOfFront (chars ++ encode_utf8 c) (faults.Unsupported stop DoctypeSubset)
doctype_refuses {x} {s} {chars} {known} stop c at here tells char r = by (pends_of r at)
  where
    by : IsKept known r.pending → IsFaultOfFront (chars ++ encode_utf8 c) (faults.Unsupported stop DoctypeSubset)
    by (cs, item, scanned) =
        let item_is : r.pending ++ encode_utf8 c ≡ codes "<!DOCTYPE" ++ encode_utf8_all (cs ++ c ∷ []) = with_char (codes "<!DOCTYPE") cs c item in
        let chars_are : IsChars (codes "<!DOCTYPE" ++ encode_utf8_all (cs ++ c ∷ [])) = subst IsChars item_is (pending_with (encode_utf8 c) r (one_char c char)) in
        let one_long : length (encode_utf8 c) ≡ 1 = ap length (one_byte (opens_bracket (typing_of known) c tells) (omega arith)) in
        let at_bracket : length r.before + (length (codes "<!DOCTYPE" ++ encode_utf8_all (cs ++ c ∷ [])) - 1) ≡ stop.0 =
        omega (arith, here, one_long, ap length item_is, length-append r.pending (encode_utf8 c), ap length r.parts_are, length-append r.before r.pending) in
        refusal_reads (encode_utf8 c) r stop DoctypeSubset
        (one_at (length r.before) (r.pending ++ encode_utf8 c) (codes "<!DOCTYPE" ++ encode_utf8_all (cs ++ c ∷ [])) s.phase phases.Prolog r.standing (refused (unsupported DoctypeSubset) stop.0) item_is (may_of r at)
        (λ f o. subst (λ p. StillComes (length r.before) phases.Prolog r.standing ((codes "<!DOCTYPE" ++ encode_utf8_all (cs ++ c ∷ [])) ++ f) o ↔ (o ≡ refused (unsupported DoctypeSubset) p)) at_bracket
        (subset_step (length r.before) (cs ++ c ∷ []) f r.standing o chars_are (scanned_char cs c (typing_of known) opens_subset scanned tells))))
