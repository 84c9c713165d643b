-- What is told of a document in pieces decides: each judgement and each failure by its cause, and the causes exclude one another; and it is so of texts.
use Rattle.std.proofs.Common.{◌≡◌, ◌≤◌, ◌⊎◌, ◌+◌, ◌++◌, ◌∙◌, inl, inr, refl, sym, ap, subst, arith, ℕ, List, [], ◌∷◌, Ok, Err, length, length-append, append_assoc, append-nil}
use Rattle.tc_base.specs.Reading.{longest_text}
use Rattle.tc_base.specs.declared.Place.{Place}
use Rattle.tc_base.specs.declared.reasons.Why.{Why}
use Rattle.tc_decide.specs.Limits.{IsValidityWithin}
use Rattle.tc_decide.specs.MachinesSeen.{IsCauseBy}
use Rattle.tc_decide.specs.Pieces.{SpellsGood, IsRefusedInPieces, PassesInPieces, DecidesInPieces, TellsLimitInPieces}
use Rattle.tc_decide.specs.PiecesSeen.{of_stream, TellsInPieces, IsFoundInPieces}
use Rattle.tc_decide.specs.Texts.{Spells, IsRefused}
use Rattle.tc_decide.specs.TextsSeen.{of_limit, IsRefusalOf}
use Rattle.tc_decide.specs.Validating.{PassesValidity, Judgement}
use Rattle.tc_decide.specs.declared.failure.Failure.{Failure}
use Rattle.tc_decide.specs.declared.failure.Failure.TheVariants.{Refused, Passes, NoMemory}
use Rattle.tc_decide.specs.declared.failure.Kind.{Kind}
use Rattle.tc_decide.specs.declared.failure.Kind.TheVariants.{Texts, Rows, Nodes, Certificate, Work, Open, Pieces}
use Rattle.tc_decide.specs.declared.failure.PieceMeasure.TheVariants.{Tag, Names}
use Rattle.tc_decide.specs.declared.failure.Which.TheVariants as which
use Rattle.tc_decide.specs.declared.machine.LimitFault.{LimitFault}
use Rattle.tc_decide.specs.declared.machine.LimitFault.TheVariants as limit
use Rattle.tc_decide.specs.declared.schemas.SchemaText.{SchemaText}
use Rattle.tc_decide.proofs.Documents.{no_document}
use Rattle.tc_decide.proofs.Judged.{not_within}
use Rattle.tc_decide.proofs.SchemaTexts.{one_schema, no_schema}
use Rattle.tc_model.specs.Grammars.{Grammar}
use Rattle.tc_model.specs.RawTrees.{RawTrees}
use Rattle.tc_model.specs.Stripped.{stripped}
use Rattle.tc_model.specs.Validity.{IsValid}
use Rattle.tc_model.specs.Views as see
use Rattle.tc_model.specs.XmlText.{XmlText}
use Rattle.tc_model.proofs.XmlTextTrees.{one_raw_tree}
use Rattle.tc_print.specs.ReadBack.{IsReadAs}
use Rattle.tc_read.specs.declared.faults.Reason.{Reason}
use Rattle.tc_read.specs.declared.faults.Reason.TheVariants.{Malformed, Unsupported, TooDeep}
use Rattle.tc_stream.specs.Faults.{IsFaultOf, IsFaultOfFront}
use Rattle.tc_stream.specs.XmlTextMeasures.{Measure, IsGood, PassesFirst, IsWithinMeasures}
use Rattle.tc_stream.specs.declared.faults.StreamFault.{StreamFault}
use Rattle.tc_stream.specs.declared.faults.StreamFault.TheVariants as faults
use Rattle.tc_stream.proofs.MeasureLaws.{good_texts_pass_nothing}
use Rattle.tc_stream.proofs.RefusedInPieces.{causes_of_whole}

-- a piece more

pub piece_fits : (done piece rest left whole : List ℕ) (fed : ℕ) → left ≡ piece ++ rest → done ++ left ≡ whole → fed ≡ length done → length whole ≤ longest_text → fed + length piece ≤ longest_text
piece_fits done piece rest left whole fed cut parts f h = omega (arith, f, h, ap length cut, ap length parts, length-append done left, length-append piece rest)

pub piece_fed : (done piece : List ℕ) (before after : ℕ) → before ≡ length done → after ≡ before + length piece → after ≡ length (done ++ piece)
piece_fed done piece before after f g = omega (arith, f, g, length-append done piece)

pub piece_read : (done piece rest left whole : List ℕ) → left ≡ piece ++ rest → done ++ left ≡ whole → (done ++ piece) ++ rest ≡ whole
piece_read done piece rest left whole cut parts = append_assoc done piece rest ∙ (ap (λ w. done ++ w) (sym cut) ∙ parts)

pub all_read : (done left whole : List ℕ) → length left ≡ 0 → done ++ left ≡ whole → done ≡ whole
all_read done [] whole none parts = sym (append-nil done) ∙ parts
all_read done (c ∷ cs) whole none parts = absurd (omega (arith, none))

-- a fault of a front, however that goes on, is one of the whole
pub whole_fault : (front rest whole : List ℕ) (fault : StreamFault) → front ++ rest ≡ whole → IsFaultOfFront front fault → IsFaultOf whole fault
whole_fault front rest whole fault parts h = subst (λ w. IsFaultOf w fault) parts (h rest)

-- a text is good, or it is refused, or a measure passes in it

pub no_tree : {bytes : List ℕ} {h : RawTrees} (reason : Reason) (at : ℕ) → IsRefusedInPieces bytes reason at → XmlText bytes h → ⊥
no_tree {bytes} {h} reason at r x = let read : IsReadAs bytes (stripped h) = record { raw = h; spells = x; document = refl } in no_document reason at r.0 read

pub good_within : {bytes : List ℕ} {h : RawTrees} → IsGood bytes h → IsWithinMeasures bytes
good_within {bytes} {h} good = good_texts_pass_nothing bytes h good

pub passes_within : {bytes : List ℕ} {measure : Measure} {at : ℕ} → PassesFirst bytes measure at → IsWithinMeasures bytes → ⊥
passes_within {measure = m} {at = p} x within = within x.front m p x.is_front x.passes

valid_at : (g : Grammar) (bytes : List ℕ) (h k : RawTrees) → IsGood bytes h → IsGood bytes k → IsValid g (stripped h) → IsValid g (stripped k)
valid_at g bytes h k x y v = subst (λ t. IsValid g (stripped t)) (one_raw_tree bytes h k x.reads y.reads) v

-- as whole texts are refused, since nothing is read of these with other entities, or deeper
refused_malformed : (bytes : List ℕ) (at : Place) → IsFaultOf bytes (faults.Malformed at) → IsRefusedInPieces bytes Malformed (see.place at)
refused_malformed bytes at f = (causes_of_whole bytes (faults.Malformed at) f, f.3)

refused_unsupported : (bytes : List ℕ) (at : Place) (why : Why) → IsFaultOf bytes (faults.Unsupported at why) → IsRefusedInPieces bytes (Unsupported why) (see.place at)
refused_unsupported bytes at why f = (causes_of_whole bytes (faults.Unsupported at why) f, f.1)

refused_deep : (bytes : List ℕ) (at : Place) → IsFaultOf bytes (faults.TooDeep at) → IsRefusedInPieces bytes TooDeep (see.place at)
refused_deep bytes at f = (causes_of_whole bytes (faults.TooDeep at) f, f.1)

module _ (g : Grammar) (bytes : List ℕ) where
  -- a limit that is passed isn't kept
  not_passed : (kind : Kind) (number : ℕ) → PassesInPieces g bytes kind number → IsValidityWithin g → IsWithinMeasures bytes → ⊥
  not_passed (Texts kind) number p w within = not_within p w
  not_passed (Pieces Tag) number (v, (at, x), same) w within = passes_within x within
  not_passed (Pieces Names) number (v, (at, x), same) w within = passes_within x within
  not_passed (Rows count) number p w within = absurd p
  not_passed Nodes number p w within = absurd p
  not_passed Certificate number p w within = absurd p
  not_passed Work number p w within = absurd p
  not_passed Open number p w within = absurd p

  pub pieces_decide : (judgement : Judgement) → TellsInPieces g bytes judgement → (judgement ≡ Err NoMemory) ⊎ DecidesInPieces g bytes judgement
  pieces_decide (Ok valid) (w, (h, good, exact)) = inr (record {
    yes = (λ t. (w, (h, good, exact.0 t)), λ (v, (k, other, is)). exact.1 (valid_at g bytes k h other good is));
    no = (λ n. (w, (h, good, λ v. n (exact.1 v))), λ (v, (k, other, not)) t. not (valid_at g bytes h k good other (exact.0 t)));
    refusal = (λ e. absurd e, λ (v, r). absurd (r.no_tree h good.reads));
    limit = (λ e. absurd e, λ (kind, number, p). absurd (not_passed kind number p w (good_within good)));
  })
  pieces_decide (Err (Refused which reason at)) (same, w, r) = inr (record {
    yes = (λ e. absurd e, λ (v, (k, other, is)). absurd (no_tree reason (see.place at) r other.reads));
    no = (λ e. absurd e, λ (v, (k, other, not)). absurd (no_tree reason (see.place at) r other.reads));
    refusal = (λ _. (w, record { within = r.1; no_tree = λ h reads. no_tree reason (see.place at) r reads }), λ _. tt);
    limit = (λ e. absurd e, λ (kind, number, p). absurd (not_passed kind number p w r.1));
  })
  pieces_decide (Err (Passes kind number)) p = inr (record {
    yes = (λ e. absurd e, λ (w, (k, other, is)). absurd (not_passed kind number p w (good_within other)));
    no = (λ e. absurd e, λ (w, (k, other, not)). absurd (not_passed kind number p w (good_within other)));
    refusal = (λ e. absurd e, λ (w, r). absurd (not_passed kind number p w r.within));
    limit = (λ _. (kind, number, p), λ _. tt);
  })
  pieces_decide (Err NoMemory) t = inl refl

  pub pieces_limit : (judgement : Judgement) → TellsInPieces g bytes judgement → TellsLimitInPieces g bytes judgement
  pieces_limit (Ok valid) t = tt
  pieces_limit (Err (Refused which reason at)) t = tt
  pieces_limit (Err (Passes kind number)) t = t
  pieces_limit (Err NoMemory) t = tt

  -- what stops
  pub told_limit : (e : LimitFault) → IsCauseBy (PassesValidity g) e → TellsInPieces g bytes (Err (of_limit e))
  told_limit (limit.Passes kind number) h = h
  told_limit limit.NoMemory h = tt

  pub told_fault : IsValidityWithin g → (e : StreamFault) → IsFaultOf bytes e → TellsInPieces g bytes (Err (of_stream e))
  told_fault w (faults.Malformed at) f = (refl, w, refused_malformed bytes at f)
  told_fault w (faults.Unsupported at why) f = (refl, w, refused_unsupported bytes at why f)
  told_fault w (faults.TooDeep at) f = (refl, w, refused_deep bytes at f)
  told_fault w faults.TagTooLong f = (w, f, refl)
  told_fault w faults.NamesTooLong f = (w, f, refl)

module _ (schema : SchemaText) (bytes : List ℕ) where
  told_at : (judgement : Judgement) {x y : Grammar} → x ≡ y → TellsInPieces x bytes judgement → TellsInPieces y bytes judgement
  told_at judgement p t = subst (λ (w : Grammar). TellsInPieces w bytes judgement) p t

  pub of_pieces : (x : Grammar) (judgement : Judgement) → Spells schema x → TellsInPieces x bytes judgement → IsFoundInPieces schema bytes judgement
  of_pieces x (Ok valid) s (w, (h, good, exact)) = record { refusal = ((x, s), (h, good, tt)); found = λ y a. told_at (Ok valid) (one_schema schema x y s a) (w, (h, good, exact)) }
  of_pieces x (Err (Refused found reason at)) s (same, w, r) =
      subst (λ k. IsFoundInPieces schema bytes (Err (Refused k reason at))) (sym same)
      (record { refusal = (x, s, w, r); found = λ y a. told_at (Err (Refused which.Document reason at)) (one_schema schema x y s a) (refl, w, r) })
  of_pieces x (Err (Passes kind number)) s t = record { refusal = (x, s); found = λ y a. told_at (Err (Passes kind number)) (one_schema schema x y s a) t }
  of_pieces x (Err NoMemory) s t = record { refusal = tt; found = λ y a. tt }

  pub schema_refused : (e : Failure) → IsRefusalOf which.Input (IsRefused schema) e → IsFoundInPieces schema bytes (Err e)
  schema_refused (Refused found reason at) (same, r) =
      subst (λ w. IsFoundInPieces schema bytes (Err (Refused w reason at))) (sym same) (record { refusal = r; found = λ y a. absurd (no_schema schema y reason (see.place at) r a) })
  schema_refused (Passes kind number) r = absurd r
  schema_refused NoMemory r = record { refusal = tt; found = λ y a. tt }
