-- Of one text comes one outcome, so it has one fault, and a good one none.
use Rattle.std.proofs.Common.{◌≡◌, ℕ, ◌+◌, List, [], refl, ap, ◌∙◌, sym, subst, length}
use Rattle.tc_base.specs.declared.Place.{Place}
use Rattle.tc_base.specs.declared.reasons.Why.{Why}
use Rattle.tc_model.specs.RawTrees.{RawTrees}
use Rattle.tc_model.specs.XmlText.{XmlText, after_mark}
use Rattle.tc_model.specs.XmlTextRefusals.{Cause, unsupported, too_deep, XmlTextRefuses}
use Rattle.tc_model.proofs.XmlTextRefused.{front_unique, whole_front, no_tree_where_refused}
use Rattle.tc_stream.specs.Faults.{IsFaultOf, IsLimit, fault_by, limit_of}
use Rattle.tc_stream.specs.From.{Standing, open_in, FromFront}
use Rattle.tc_stream.specs.Outcomes.{refused, passed, HasOneOutcome}
use Rattle.tc_stream.specs.XmlTextMeasures.{Measure, tag, names, IsGood, PassesFirst, IsWithinMeasures, TextsThatPassNothingAreGood}
use Rattle.tc_stream.specs.declared.faults.StreamFault.{StreamFault}
use Rattle.tc_stream.specs.declared.faults.StreamFault.TheVariants as faults
use Rattle.tc_stream.proofs.MeasureLaws.{good_texts_pass_nothing}
use Rattle.tc_stream.proofs.OneOutcome.{front_one}
use Rattle.tc_stream.proofs.OutcomeLaws.{good_of, comes_to_steps}

pub comes_once : HasOneOutcome
comes_once bytes o p a b =
    let s : Standing = open_in [] [] [] in
    let (front, k, go, w) = comes_to_steps bytes o s a in
    let (other, l, come, v) = comes_to_steps bytes p s b in
    front_one front go (subst (λ z. FromFront (0 + length z) (after_mark z) p) (front_unique l k) come)

pub texts_pass_nothing_good : TextsThatPassNothingAreGood
texts_pass_nothing_good bytes h x within = good_of x (λ measure place passes. within bytes measure place (whole_front x.characters) passes)

-- outcomes are told apart

tag_names : {p q : ℕ} → passed tag p ≡ passed names q → ⊥
tag_names e = cc

place_at : ℕ → Place
place_at n = record { 0 = n }

same_unsupported : {why reason : Why} {q : ℕ} (p : Place) → refused (unsupported why) q ≡ refused (unsupported reason) p.0 → faults.Unsupported p reason ≡ fault_by (unsupported why) q
unfolding place_at
same_unsupported {why} {reason} {q} p e =
    let place : q ≡ p.0 = cc in
    let cause : why ≡ reason = cc in
    ap (λ z. faults.Unsupported z reason) (ap place_at (sym place)) ∙ ap (faults.Unsupported (place_at q)) (sym cause)

same_deep : {q : ℕ} (p : Place) → refused too_deep q ≡ refused too_deep p.0 → faults.TooDeep p ≡ fault_by too_deep q
unfolding place_at
same_deep {q} p e = let place : q ≡ p.0 = cc in ap faults.TooDeep (ap place_at (sym place))

unsupported_deep : {why : Why} {p q : ℕ} → refused (unsupported why) p ≡ refused too_deep q → ⊥
unsupported_deep e = cc

-- a measure that passes first is the fault

first_within : {bytes : List ℕ} {measure : Measure} {place : ℕ} → PassesFirst bytes measure place → IsWithinMeasures bytes → ⊥
first_within {measure = m} {place = p} a within = within a.front m p a.is_front a.passes

pub passed_fault : (bytes : List ℕ) (measure : Measure) (place : ℕ) (e : StreamFault) → PassesFirst bytes measure place → IsFaultOf bytes e → e ≡ limit_of measure
passed_fault bytes measure place (faults.Malformed p) a f = absurd (first_within a f.3)
passed_fault bytes measure place (faults.Unsupported p why) a f = absurd (first_within a f.1)
passed_fault bytes measure place (faults.TooDeep p) a f = absurd (first_within a f.1)
passed_fault bytes tag place faults.TagTooLong a f = refl
passed_fault bytes names place faults.TagTooLong a f = absurd (tag_names (comes_once bytes (passed tag f.0) (passed names place) f.1 a))
passed_fault bytes tag place faults.NamesTooLong a f = absurd (tag_names (comes_once bytes (passed tag place) (passed names f.0) a f.1))
passed_fault bytes names place faults.NamesTooLong a f = refl

-- what is refused is the fault, where no measure passes

pub refused_fault : (bytes : List ℕ) (cause : Cause) (place : ℕ) (e : StreamFault) → XmlTextRefuses bytes cause place → IsWithinMeasures bytes → IsFaultOf bytes e → e ≡ fault_by cause place
refused_fault bytes cause place (faults.Malformed p) a within f = absurd (f.2 cause place a)
refused_fault bytes (unsupported why) place (faults.Unsupported p reason) a within f =
    same_unsupported p (comes_once bytes (refused (unsupported why) place) (refused (unsupported reason) p.0) (a, within) f)
refused_fault bytes too_deep place (faults.Unsupported p reason) a within f =
    absurd (unsupported_deep (comes_once bytes (refused (unsupported reason) p.0) (refused too_deep place) f (a, within)))
refused_fault bytes (unsupported why) place (faults.TooDeep p) a within f =
    absurd (unsupported_deep (comes_once bytes (refused (unsupported why) place) (refused too_deep p.0) (a, within) f))
refused_fault bytes too_deep place (faults.TooDeep p) a within f = same_deep p (comes_once bytes (refused too_deep place) (refused too_deep p.0) (a, within) f)
refused_fault bytes cause place faults.TagTooLong a within f = absurd (first_within f.1 within)
refused_fault bytes cause place faults.NamesTooLong a within f = absurd (first_within f.1 within)

-- the fault of a text that has a raw tree is a limit

pub limit_fault : (bytes : List ℕ) (h : RawTrees) (e : StreamFault) → XmlText bytes h → IsFaultOf bytes e → IsLimit e
limit_fault bytes h (faults.Malformed p) x f = absurd (f.1 h x)
limit_fault bytes h (faults.Unsupported p why) x f = absurd (no_tree_where_refused bytes (unsupported why) p.0 h f.0 x)
limit_fault bytes h (faults.TooDeep p) x f = absurd (no_tree_where_refused bytes too_deep p.0 h f.0 x)
limit_fault bytes h faults.TagTooLong x f = tt
limit_fault bytes h faults.NamesTooLong x f = tt

-- a good text has none

pub good_passed : (bytes : List ℕ) (h : RawTrees) (measure : Measure) (place : ℕ) → IsGood bytes h → PassesFirst bytes measure place → ⊥
good_passed bytes h measure place good a = first_within a (good_texts_pass_nothing bytes h good)

pub good_refused : (bytes : List ℕ) (h : RawTrees) (cause : Cause) (place : ℕ) → IsGood bytes h → XmlTextRefuses bytes cause place → ⊥
good_refused bytes h cause place good a = no_tree_where_refused bytes cause place h a good.reads

pub fault_not_good : (bytes : List ℕ) (h : RawTrees) (e : StreamFault) → IsFaultOf bytes e → IsGood bytes h → ⊥
fault_not_good bytes h (faults.Malformed p) f good = f.1 h good.reads
fault_not_good bytes h (faults.Unsupported p why) f good = good_refused bytes h (unsupported why) p.0 good f.0
fault_not_good bytes h (faults.TooDeep p) f good = good_refused bytes h too_deep p.0 good f.0
fault_not_good bytes h faults.TagTooLong f good = good_passed bytes h tag f.0 good f.1
fault_not_good bytes h faults.NamesTooLong f good = good_passed bytes h names f.0 good f.1
