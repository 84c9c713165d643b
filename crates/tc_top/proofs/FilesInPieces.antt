-- The validation of a held file in pieces is exact.
use Rattle.std.proofs.Common.{◌≡◌, ◌⊎◌, ◌∷◌, [], ◌∙◌, inl, inr, refl, sym, List, ℕ, Option, Some}
use Rattle.tc_base.specs.declared.limits.TheConstants.{LONGEST_TAG, MOST_NAMES}
use Rattle.tc_answer.specs.Answers.{Answer, status_of, text_of}
use Rattle.tc_answer.specs.Words.{valid_in_pieces}
use Rattle.tc_answer.specs.declared.status.Status.{Status}
use Rattle.tc_io.specs.Reads.{AreTrue}
use Rattle.tc_io.specs.Sink.{Appended}
use Rattle.tc_io.specs.Store.{Files, Read}
use Rattle.tc_model.specs.Grammars.{Grammar}
use Rattle.tc_stream.specs.XmlTextMeasures.{IsWithinMeasures}
use Rattle.tc_top.specs.Answers.{IsAnswerTo, validated_in_pieces, IsAnswer}
use Rattle.tc_top.specs.FilesInPieces.{ValidatesFilesInPieces, DecidesValidityInPieces}
use Rattle.tc_top.specs.Headline.{IsCutShort}
use Rattle.tc_top.specs.InPieces.{DecidesInPieces, schema_limited, text_refused, tag_passed, names_passed, document_valid, document_invalid, ValidatesInPieces}
use Rattle.tc_decide.specs.Limits.{IsValidityWithin}
use Rattle.tc_decide.specs.Pieces.{PassesInPieces}
use Rattle.tc_decide.specs.declared.failure.Kind.{Kind}
use Rattle.tc_decide.specs.declared.failure.Kind.TheVariants.{Texts, Rows, Nodes, Certificate, Work, Open, Pieces}
use Rattle.tc_decide.specs.declared.failure.PieceMeasure.TheVariants.{Tag, Names}
use Rattle.tc_top.specs.OneAnswer.{IsOfFault}
use Rattle.tc_answer.proofs.ReadsOnce.{no_file, holds, none_long, is_short}
use Rattle.tc_top.proofs.Exact.{read_all}
use Rattle.tc_top.proofs.Headline.{cut_short, before_rows_lines}
use Rattle.tc_decide.proofs.InPieces.{no_tree, good_within, passes_within}
use Rattle.tc_decide.proofs.Judged.{not_within}
use Rattle.tc_top.proofs.OneValidity.{one_validity_limit}
use Rattle.tc_top.proofs.OneInPieces.{refused_within, one_measure, not_valid_at, decided_of}

module _ (g : Grammar) (name bytes : List ℕ) (status : Status) (old new : Option (List ℕ)) where
  abbrev Decides : Type 0
  Decides = DecidesValidityInPieces status old new g name bytes

  not_limited : IsValidityWithin g → IsWithinMeasures bytes → (kind : Kind) (number : ℕ) → PassesInPieces g bytes kind number → ⊥
  not_limited w within (Texts kind) number p = not_within p w
  not_limited w within (Pieces Tag) number p = passes_within p.1.1 within
  not_limited w within (Pieces Names) number p = passes_within p.1.1 within
  not_limited w within (Rows count) number p = absurd p
  not_limited w within Nodes number p = absurd p
  not_limited w within Certificate number p = absurd p
  not_limited w within Work number p = absurd p
  not_limited w within Open number p = absurd p

  -- what is decided decides all
  decides : {answer : Answer} → status ≡ status_of answer → Appended old new (text_of answer) → DecidesInPieces g name bytes answer → Decides
  decides is written (schema_limited {kind = limit} {number = n} p) = record {
    yes = (λ e. absurd (let k = sym is ∙ e in cc), λ x. absurd (not_within p x.0));
    no = (λ e. absurd (let k = sym is ∙ e in cc), λ x. absurd (not_within p x.0));
    refusal = (λ e. absurd (let k = sym is ∙ e in cc), λ x. absurd (not_within p x.0));
    limit = (λ _. (Texts limit, n, p), λ _. is);
    one = inr (inr (inr is));
    yes_text = λ e. absurd (let k = sym is ∙ e in cc);
    no_text = λ e. absurd (let k = sym is ∙ e in cc);
    refused_text = λ e. absurd (let k = sym is ∙ e in cc);
    schema_text = λ kind number q. before_rows_lines old new (one_validity_limit p q) written;
    tag_text = λ place w t. absurd (not_within p w);
    names_text = λ place w n. absurd (not_within p w);
  }
  decides is written (text_refused {reason = r} {place = k} w x) = record {
    yes = (λ e. absurd (let k = sym is ∙ e in cc), λ v. absurd (no_tree r k x v.1.1.reads));
    no = (λ e. absurd (let k = sym is ∙ e in cc), λ v. absurd (no_tree r k x v.1.1.reads));
    refusal = (λ _. (w, record { within = refused_within r k x; no_tree = λ h reads. no_tree r k x reads }), λ _. is);
    limit = (λ e. absurd (let k = sym is ∙ e in cc), λ (kind, number, p). absurd (not_limited w (refused_within r k x) kind number p));
    one = inr (inr (inl is));
    yes_text = λ e. absurd (let k = sym is ∙ e in cc);
    no_text = λ e. absurd (let k = sym is ∙ e in cc);
    refused_text = λ _. (r, k, x, written);
    schema_text = λ kind number p. absurd (not_within p w);
    tag_text = λ place v t. absurd (passes_within t (refused_within r k x));
    names_text = λ place v n. absurd (passes_within n (refused_within r k x));
  }
  decides is written (tag_passed {place = at} w t) = record {
    yes = (λ e. absurd (let k = sym is ∙ e in cc), λ v. absurd (passes_within t (good_within v.1.1)));
    no = (λ e. absurd (let k = sym is ∙ e in cc), λ v. absurd (passes_within t (good_within v.1.1)));
    refusal = (λ e. absurd (let k = sym is ∙ e in cc), λ v. absurd (passes_within t v.1.within));
    limit = (λ _. (Pieces Tag, LONGEST_TAG, (w, (at, t), refl)), λ _. is);
    one = inr (inr (inr is));
    yes_text = λ e. absurd (let k = sym is ∙ e in cc);
    no_text = λ e. absurd (let k = sym is ∙ e in cc);
    refused_text = λ e. absurd (let k = sym is ∙ e in cc);
    schema_text = λ kind number p. absurd (not_within p w);
    tag_text = λ place v u. written;
    names_text = λ place v n. absurd (one_measure t n);
  }
  decides is written (names_passed {place = at} w n) = record {
    yes = (λ e. absurd (let k = sym is ∙ e in cc), λ v. absurd (passes_within n (good_within v.1.1)));
    no = (λ e. absurd (let k = sym is ∙ e in cc), λ v. absurd (passes_within n (good_within v.1.1)));
    refusal = (λ e. absurd (let k = sym is ∙ e in cc), λ v. absurd (passes_within n v.1.within));
    limit = (λ _. (Pieces Names, MOST_NAMES, (w, (at, n), refl)), λ _. is);
    one = inr (inr (inr is));
    yes_text = λ e. absurd (let k = sym is ∙ e in cc);
    no_text = λ e. absurd (let k = sym is ∙ e in cc);
    refused_text = λ e. absurd (let k = sym is ∙ e in cc);
    schema_text = λ kind number p. absurd (not_within p w);
    tag_text = λ place v t. absurd (one_measure t n);
    names_text = λ place v m. written;
  }
  decides is written (document_valid {h = h} w good v) = record {
    yes = (λ _. (w, (h, good, v)), λ _. is);
    no = (λ e. absurd (let k = sym is ∙ e in cc), λ x. absurd (not_valid_at good x.1.1 v x.1.2));
    refusal = (λ e. absurd (let k = sym is ∙ e in cc), λ x. absurd (x.1.no_tree h good.reads));
    limit = (λ e. absurd (let k = sym is ∙ e in cc), λ (kind, number, p). absurd (not_limited w (good_within good) kind number p));
    one = inl is;
    yes_text = λ _. written;
    no_text = λ e. absurd (let k = sym is ∙ e in cc);
    refused_text = λ e. absurd (let k = sym is ∙ e in cc);
    schema_text = λ kind number p. absurd (not_within p w);
    tag_text = λ place x t. absurd (passes_within t (good_within good));
    names_text = λ place x n. absurd (passes_within n (good_within good));
  }
  decides is written (document_invalid {h = h} w good i) = record {
    yes = (λ e. absurd (let k = sym is ∙ e in cc), λ x. absurd (not_valid_at x.1.1 good x.1.2 i));
    no = (λ _. (w, (h, good, i)), λ _. is);
    refusal = (λ e. absurd (let k = sym is ∙ e in cc), λ x. absurd (x.1.no_tree h good.reads));
    limit = (λ e. absurd (let k = sym is ∙ e in cc), λ (kind, number, p). absurd (not_limited w (good_within good) kind number p));
    one = inr (inl is);
    yes_text = λ e. absurd (let k = sym is ∙ e in cc);
    no_text = λ _. written;
    refused_text = λ e. absurd (let k = sym is ∙ e in cc);
    schema_text = λ kind number p. absurd (not_within p w);
    tag_text = λ place x t. absurd (passes_within t (good_within good));
    names_text = λ place x n. absurd (passes_within n (good_within good));
  }

in_pieces_of : {size : ℕ} {schema document b c : List ℕ} {answer : Answer} → IsAnswerTo (valid_in_pieces size schema document) (b ∷ c ∷ []) answer → ValidatesInPieces schema document b c answer
in_pieces_of (validated_in_pieces x) = x

pub validity_in_pieces : {words : List (List ℕ)} {rose wrote : Type 0} {reads : List Read} (files : Files) (g : Grammar) (name bytes : List ℕ) (status : Status) (old new : Option (List ℕ)) (answer : Answer)
    → ValidatesFilesInPieces words files g name bytes → AreTrue (Some files) rose reads → IsAnswer words reads answer → status ≡ status_of answer → Appended old new (text_of answer)
    → IsCutShort status rose wrote ⊎ DecidesValidityInPieces status old new g name bytes
validity_in_pieces {words} {rose} {wrote} {reads} files g name bytes status old new answer c true right is written =
    by (read_all rose files _ c.words_are (holds c.schema_held (holds c.document_held no_file)) (is_short c.schema_short (is_short c.document_short none_long)) true right)
  where
    by : IsOfFault rose answer ⊎ IsAnswerTo (valid_in_pieces c.size c.schema name) (c.schema_text ∷ bytes ∷ []) answer → IsCutShort status rose wrote ⊎ DecidesValidityInPieces status old new g name bytes
    by (inl fault) = inl (cut_short status answer is fault)
    by (inr x) = inr (decides g name bytes status old new is written (decided_of {schema = c.schema} c.schema_spells (in_pieces_of x)))
