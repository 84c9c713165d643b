-- What a stream answers at the end of a text.
use Rattle.std.proofs.Common.{◌≡◌, ℕ, ◌+◌, ◌++◌, ◌∙◌, Bool, List, [], refl, ap, sym, subst, length, arith, append_assoc, append-nil, length-append, None, Some, Result, Ok, Err}
use Rattle.std.specs.Prelude.{◌↔◌, IfErr, IfOk, IsOk, IsTrue}
use Rattle.tc_model.specs.Grammars.{Grammar}
use Rattle.tc_model.specs.RawTrees.{RawTrees}
use Rattle.tc_model.specs.SimplifiesLaws.{IsStart}
use Rattle.tc_model.specs.Stripped.{stripped}
use Rattle.tc_model.specs.Validity.{IsValid}
use Rattle.tc_model.specs.XmlText.{XmlText}
use Rattle.tc_model.specs.XmlTextRefusals.{Cause, XmlTextRefuses}
use Rattle.tc_stream.specs.Cuts.{BeginsNoChar, cut_bytes}
use Rattle.tc_stream.specs.Faults.{IsFaultOf, IsFaultOfFront, IsLimit, fault_by, limit_of}
use Rattle.tc_stream.specs.Stands.{ReadsTo}
use Rattle.tc_stream.specs.Streams.{StandsFor}
use Rattle.tc_stream.specs.XmlTextMeasures.{IsGood, IsWithinMeasures, Measure, PassesFirst}
use Rattle.tc_stream.specs.declared.faults.StreamFault.{StreamFault}
use Rattle.tc_stream.specs.declared.stream.Stream.{Stream}
use Rattle.tc_stream.proofs.FaultsOnce.{fault_not_good, good_passed, good_refused, limit_fault, passed_fault, refused_fault}
use Rattle.tc_stream.proofs.PieceLaws.{no_char_cut}
use Rattle.tc_stream.proofs.TagReads.{at_err, at_ok}

-- a stream with a fault has one
pub some_fault : {e : StreamFault} → Some e ≡ None → ⊥
some_fault e = cc

pub same_fault : {e f : StreamFault} → Some e ≡ Some f → e ≡ f
same_fault e = cc

-- of the bytes that have come, some are read, and the others are held
pub read_before : {x : Grammar} {text : List ℕ} (s : Stream) (k : StandsFor x s text) → (length k.chars + length (cut_bytes s.cut)) + length s.held.bytes.items ≡ s.fed
read_before s k = omega (arith, k.fed, ap length k.parts_are, length-append (k.chars ++ cut_bytes s.cut) s.held.bytes.items, length-append k.chars (cut_bytes s.cut))

-- all are, where none is held
pub all_read : {x : Grammar} {text : List ℕ} (s : Stream) (k : StandsFor x s text) → s.held.bytes.items ≡ [] → text ≡ k.chars ++ cut_bytes s.cut
all_read s k none = k.parts_are ∙ (ap (λ z. (k.chars ++ cut_bytes s.cut) ++ z) none ∙ append-nil _)

-- a text has ended with this result
pub record Ends (x : Grammar) (text : List ℕ) (r : Result Bool StreamFault) : Type 0 where
  pub valid : (b : Bool) → r ≡ Ok b → (h : RawTrees) × IsGood text h × (IsTrue b ↔ IsValid x (stripped h))
  pub fault : (e : StreamFault) → r ≡ Err e → IsFaultOf text e

pub ended_by : (s : Stream) (x : Grammar) (text : List ℕ) (r : Result Bool StreamFault) → StandsFor x s text → s.held.bytes.items ≡ []
    → ((chars : List ℕ) → IsStart x.start → length chars + length (cut_bytes s.cut) ≡ s.fed → ReadsTo x s.reader chars
    → IfOk r (λ b. (h : RawTrees) × IsGood (chars ++ cut_bytes s.cut) h × (IsTrue b ↔ IsValid x (stripped h))))
    → ((chars : List ℕ) → length chars + length (cut_bytes s.cut) ≡ s.fed → BeginsNoChar (cut_bytes s.cut) → ReadsTo x s.reader chars → IfErr r (λ e. IsFaultOf (chars ++ cut_bytes s.cut) e)) → Ends x text r
ended_by s x text r k none ok faults = record {
  valid = λ b is.
      subst (λ z. (h : RawTrees) × IsGood z h × (IsTrue b ↔ IsValid x (stripped h))) (sym (all_read s k none))
      (at_ok r (λ b. (h : RawTrees) × IsGood (k.chars ++ cut_bytes s.cut) h × (IsTrue b ↔ IsValid x (stripped h))) b is (ok k.chars k.start counted k.reads));
  fault = λ e is. subst (λ z. IsFaultOf z e) (sym (all_read s k none)) (at_err r (λ e. IsFaultOf (k.chars ++ cut_bytes s.cut) e) e is (faults k.chars counted (no_char_cut (cut_bytes s.cut) k.cut_off) k.reads));
}
  where
    counted : length k.chars + length (cut_bytes s.cut) ≡ s.fed
    counted = omega (arith, read_before s k, ap length none)

-- the same by what the result promises
pub ends_by : (text : List ℕ) (x : Grammar) (r : Result Bool StreamFault) → IfOk r (λ b. (h : RawTrees) × IsGood text h × (IsTrue b ↔ IsValid x (stripped h))) → IfErr r (λ e. IsFaultOf text e) → Ends x text r
ends_by text x r ok fault = record {
  valid = λ b is. at_ok r (λ b. (h : RawTrees) × IsGood text h × (IsTrue b ↔ IsValid x (stripped h))) b is ok;
  fault = λ e is. at_err r (λ e. IsFaultOf text e) e is fault;
}

-- the fault of a text's front, however that goes on
pub front_whole : (text : List ℕ) (e : StreamFault) → IsFaultOfFront text e → IsFaultOf text e
front_whole text e h = subst (λ z. IsFaultOf z e) (append-nil text) (h [])

pub front_longer : (text more : List ℕ) (e : StreamFault) → IsFaultOfFront text e → IsFaultOfFront (text ++ more) e
front_longer text more e h r = subst (λ z. IsFaultOf z e) (sym (append_assoc text more r)) (h (more ++ r))

is_ok_by : (r : Result Bool StreamFault) → ((e : StreamFault) → r ≡ Err e → ⊥) → IsOk r
is_ok_by (Ok b) h = refl
is_ok_by (Err e) h = absurd (h e refl)

is_err_by : (r : Result Bool StreamFault) (f : StreamFault) → ((b : Bool) → r ≡ Ok b → ⊥) → ((e : StreamFault) → r ≡ Err e → e ≡ f) → r ≡ Err f
is_err_by (Ok b) f h k = absurd (h b refl)
is_err_by (Err e) f h k = ap Err (k e refl)

pub ends_good : {x : Grammar} {text : List ℕ} {r : Result Bool StreamFault} (h : RawTrees) → Ends x text r → IsGood text h → IsOk r
ends_good {text = text} {r = r} h a good = is_ok_by r (λ e is. fault_not_good text h e (a.fault e is) good)

pub ends_passed : {x : Grammar} {text : List ℕ} {r : Result Bool StreamFault} (measure : Measure) (place : ℕ) → Ends x text r → PassesFirst text measure place → r ≡ Err (limit_of measure)
ends_passed {text = text} {r = r} measure place a p =
    is_err_by r (limit_of measure) (λ b is. let v = a.valid b is in good_passed text v.0 measure place v.1 p) (λ e is. passed_fault text measure place e p (a.fault e is))

pub ends_refused : {x : Grammar} {text : List ℕ} {r : Result Bool StreamFault} (cause : Cause) (place : ℕ) → Ends x text r → XmlTextRefuses text cause place → IsWithinMeasures text → r ≡ Err (fault_by cause place)
ends_refused {text = text} {r = r} cause place a refuses within =
    is_err_by r (fault_by cause place) (λ b is. let v = a.valid b is in good_refused text v.0 cause place v.1 refuses) (λ e is. refused_fault text cause place e refuses within (a.fault e is))

pub ends_limit : {x : Grammar} {text : List ℕ} (r : Result Bool StreamFault) (h : RawTrees) → Ends x text r → XmlText text h → IfErr r IsLimit
ends_limit (Ok b) h a reads = tt
ends_limit {text = text} (Err e) h a reads = limit_fault text h e reads (a.fault e refl)
