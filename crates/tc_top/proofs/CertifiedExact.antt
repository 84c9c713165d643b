-- What `prove`, `verify` and `upgrade` of held files decide is exact.
use Rattle.std.proofs.Common.{◌≡◌, ◌≤◌, ◌<◌, ◌⊎◌, ◌∷◌, [], ◌∙◌, inl, inr, refl, sym, subst, ap, ℕ, List, Option, Some, Ok, length, arith}
use Rattle.tc_answer.specs.Answers.{Answer, certificate, accepted, file_limit, cannot_read, status_of, text_of}
use Rattle.tc_answer.specs.SchemaWords.{file_of}
use Rattle.tc_answer.specs.Words as w
use Rattle.tc_answer.specs.Words.{operands_of}
use Rattle.tc_answer.specs.Reading.{AreRead}
use Rattle.tc_decide.specs.declared.limits.TheConstants.{LONGEST_CERTIFICATE}
use Rattle.tc_answer.specs.declared.status.Status.{Status}
use Rattle.tc_answer.specs.declared.status.Status.TheVariants.{Yes}
use Rattle.tc_answer.proofs.OneCommand.{one_command}
use Rattle.tc_answer.proofs.ReadsOnce.{AreHeld, no_file, holds, none_long, is_short, reads_are, held_true}
use Rattle.tc_base.specs.declared.Limit as kinds
use Rattle.tc_cert.specs.Texts.{text, by_changes}
use Rattle.tc_cert.proofs.Fronts.{no_fault}
use Rattle.tc_cert.proofs.FirstFaults.{one_data}
use Rattle.tc_io.specs.Reads.{AreTrue}
use Rattle.tc_io.specs.Sink.{Appended}
use Rattle.tc_io.specs.Store.{Files, Read, longest_file}
use Rattle.tc_model.specs.Grammars.{Grammar}
use Rattle.tc_model.specs.Safety.{IsSafe}
use Rattle.tc_model.specs.Sheets.{Sheet}
use Rattle.tc_model.specs.declared.lists.CertData.{CertData}
use Rattle.tc_top.specs.Answers.{IsAnswerTo, proved, verified, upgraded, IsAnswer, decided, IsAnswerOn}
use Rattle.tc_top.specs.CertifiedFiles.{HoldTriple, ProvesFiles, VerifiesFiles, VerifiesShortFiles, UpgradesFiles, DecidesProof, DecidesCertificate, DecidesUpgrade, ProvedIsAccepted}
use Rattle.tc_top.specs.Causes.{all_three}
use Rattle.tc_top.specs.Certifying.{Certifies, as_checked, certifies, overlong, Accepts, stops_before_rows, accepts, no_text, no_certificate, Proves, Verifies, Upgrades, upgrades, too_long, no_form}
use Rattle.tc_top.specs.Checking.{most_rows}
use Rattle.tc_decide.specs.Checking.{IsWithinTripleLimits, HasFewRows}
use Rattle.tc_decide.specs.Rejections.{form_fails, of_form, of_rule}
use Rattle.tc_top.specs.Headline.{IsCutShort, DecidesSafety}
use Rattle.tc_top.specs.OneAnswer.{IsOfFault}
use Rattle.tc_top.proofs.Exact.{read_all, held_decided}
use Rattle.tc_top.proofs.Headline.{cut_short, told_of_file, not_no, not_limit, no_limit, few_not_limited, decides, before_rows_lines}
use Rattle.tc_top.proofs.OneCertifying.{only_yes}
use Rattle.tc_decide.proofs.Proving.{short_overlong}
use Rattle.tc_decide.proofs.Verifications.{not_it}
use Rattle.tc_top.proofs.CertifiedTexts.{proved_accepted}
use Rattle.tc_decide.proofs.Deciding.{not_both}
use Rattle.tc_decide.proofs.Passing.{over_triple}
use Rattle.tc_top.proofs.OneCheck.{one_triple_limit, decided_of}

-- `prove`

module _ (i o : Grammar) (s : Sheet) (most : ℕ) (status : Status) (old new : Option (List ℕ)) where
  as_check : DecidesSafety status old new most i o s → ¬ (IsWithinTripleLimits i o s × HasFewRows i o s most × IsSafe i o s) → DecidesProof i o s status old new most
  as_check r n = record {
    yes = (λ e. absurd (n (r.yes.0 e)), λ x. absurd (n (x.0, x.1, x.2)));
    no = r.no;
    limit = (λ e. inl (r.limit.0 e), λ h. elim h [ inl l ↦ r.limit.1 l | inr x ↦ absurd (n (x.0, x.1, x.2)) ]);
    one = r.one;
    yes_text = λ e. absurd (n (r.yes.0 e));
    no_text = r.no_text;
    before_rows_text = r.before_rows_text;
    rows_text = r.rows_text;
    nodes_text = r.nodes_text;
    overlong_text = λ c f h l. absurd (n (c, f, h));
  }

  pub proof_decides : {answer : Answer} → status ≡ status_of answer → Appended old new (text_of answer) → Certifies i o s most answer → DecidesProof i o s status old new most
  proof_decides {answer} is written (as_checked f n) = as_check (decides most i o s status old new is written f) (λ x. n (only_yes f x.0 x.1 x.2))
  proof_decides is written (certifies {d = d} c f h l k) = record {
    yes = (λ _. (c, f, h, (d, l, k)), λ _. is);
    no = (λ e. absurd (not_no is e), λ x. absurd (not_both i o s h x.2.1));
    limit = (λ e. absurd (not_limit is e), λ q. elim q [ inl r ↦ absurd (few_not_limited most i o s status old new c f (λ x. not_both i o s h x.some.1) r) | inr x ↦ absurd (short_overlong d l k x.3) ]);
    one = inl is;
    yes_text = λ _. (d, l, written);
    no_text = λ e. absurd (not_no is e);
    before_rows_text = λ kind number p. absurd (over_triple p c);
    rows_text = λ count v p. absurd (f count p);
    nodes_text = λ v g x. absurd (not_both i o s h x.some.1);
    overlong_text = λ v g j x. absurd (short_overlong d l k x);
  }
  proof_decides is written (overlong c f h l) = record {
    yes = (λ e. absurd (not_limit e is), λ x. absurd (short_overlong x.3.0 x.3.1 x.3.2 l));
    no = (λ e. absurd (no_limit e is), λ x. absurd (not_both i o s h x.2.1));
    limit = (λ _. inr (c, f, h, l), λ _. is);
    one = inr (inr is);
    yes_text = λ e. absurd (not_limit e is);
    no_text = λ e. absurd (no_limit e is);
    before_rows_text = λ kind number p. absurd (over_triple p c);
    rows_text = λ count v p. absurd (f count p);
    nodes_text = λ v g x. absurd (not_both i o s h x.some.1);
    overlong_text = λ v g j x. written;
  }

proves_of : {limit : Option ℕ} {input output sheet b c d : List ℕ} {answer : Answer} → IsAnswerTo (w.prove limit input output sheet) (b ∷ c ∷ d ∷ []) answer → Proves (most_rows limit) input output sheet b c d answer
proves_of (proved x) = x

verifies_of : {input output sheet name b c d bytes : List ℕ} {answer : Answer} → IsAnswerTo (w.verify input output sheet name) (b ∷ c ∷ d ∷ bytes ∷ []) answer → Verifies input output sheet b c d bytes answer
verifies_of (verified h x) = x

upgrades_of : {name bytes : List ℕ} {answer : Answer} → IsAnswerTo (w.upgrade name) (bytes ∷ []) answer → Upgrades bytes answer
upgrades_of (upgraded h x) = x

pub proof_of_files : {words : List (List ℕ)} {rose wrote : Type 0} {reads : List Read} (files : Files) (limit : Option ℕ) (i o : Grammar) (s : Sheet) (status : Status) (old new : Option (List ℕ)) (answer : Answer)
    → ProvesFiles words files limit i o s → AreTrue (Some files) rose reads → IsAnswer words reads answer → status ≡ status_of answer → Appended old new (text_of answer)
    → IsCutShort status rose wrote ⊎ DecidesProof i o s status old new (most_rows limit)
proof_of_files {words} {rose} {wrote} {reads} files limit i o s status old new answer c true right is written =
    by (read_all rose files _ c.words_are (holds h.input_held (holds h.output_held (holds h.sheet_held no_file))) (is_short c.held.input_short (is_short c.held.output_short (is_short c.held.sheet_short none_long))) true right)
  where
    h : HoldTriple files c.input c.output c.sheet i o s
    h = c.held.triple

    by : IsOfFault rose answer ⊎ IsAnswerTo (w.prove limit c.input c.output c.sheet) (h.input_text ∷ h.output_text ∷ h.sheet_text ∷ []) answer → IsCutShort status rose wrote ⊎ DecidesProof i o s status old new (most_rows limit)
    by (inl fault) = inl (cut_short status answer is fault)
    by (inr x) = inr (proof_decides i o s (most_rows limit) status old new is written (decided_of h.input_spells h.output_spells h.sheet_spells (proves_of x)))

-- `verify`

module _ (i o : Grammar) (s : Sheet) (bytes : List ℕ) (status : Status) (old new : Option (List ℕ)) where
  pub certificate_decides : {answer : Answer} → length bytes ≤ longest_file → status ≡ status_of answer → Appended old new (text_of answer) → Accepts i o s bytes answer → DecidesCertificate i o s status old new bytes
  certificate_decides h is written (stops_before_rows {kind = k} {number = n} p) = record {
    yes = (λ e. absurd (not_limit e is), λ x. absurd (over_triple p x.0));
    no = (λ e. absurd (no_limit e is), λ x. absurd (over_triple p x.0));
    limit = (λ _. (k, n, p), λ _. is);
    one = inr (inr is);
    yes_text = λ e. absurd (not_limit e is);
    no_text = λ e. absurd (no_limit e is);
    before_rows_text = λ kind number q. before_rows_lines old new (one_triple_limit p q) written;
  }
  certificate_decides h is written (accepts {d = d} v t c safe) = record {
    yes = (λ _. (v, (d, t, c)), λ _. is);
    no = (λ e. absurd (not_no is e), λ x. absurd (x.1 (d, t, c)));
    limit = (λ e. absurd (not_limit is e), λ x. absurd (over_triple x.2 v));
    one = inl is;
    yes_text = λ _. written;
    no_text = λ e. absurd (not_no is e);
    before_rows_text = λ kind number q. absurd (over_triple q v);
  }
  certificate_decides h is written (no_text {line = n} v f) = record {
    yes = (λ e. absurd (not_no e is), λ x. absurd (not_it bytes h (form_fails n) (of_form f) x.1));
    no = (λ _. (v, not_it bytes h (form_fails n) (of_form f)), λ _. is);
    limit = (λ e. absurd (no_limit is e), λ x. absurd (over_triple x.2 v));
    one = inr (inl is);
    yes_text = λ e. absurd (not_no e is);
    no_text = λ _. (form_fails n, of_form f, written);
    before_rows_text = λ kind number q. absurd (over_triple q v);
  }
  certificate_decides h is written (no_certificate {why = why} v t r) = record {
    yes = (λ e. absurd (not_no e is), λ x. absurd (not_it bytes h why (of_rule t r) x.1));
    no = (λ _. (v, not_it bytes h why (of_rule t r)), λ _. is);
    limit = (λ e. absurd (no_limit is e), λ x. absurd (over_triple x.2 v));
    one = inr (inl is);
    yes_text = λ e. absurd (not_no e is);
    no_text = λ _. (why, of_rule t r, written);
    before_rows_text = λ kind number q. absurd (over_triple q v);
  }

verified_held : {words : List (List ℕ)} {files : Files} {i o : Grammar} {s : Sheet} {bytes : List ℕ} (c : VerifiesFiles words files i o s bytes)
    → AreHeld files (w.schema c.input ∷ w.schema c.output ∷ w.plain c.sheet ∷ w.plain c.certificate ∷ []) (c.held.input_text ∷ c.held.output_text ∷ c.held.sheet_text ∷ bytes ∷ [])
verified_held c = holds c.held.input_held (holds c.held.output_held (holds c.held.sheet_held (holds c.certificate_held no_file)))

pub certificate_of_files : {words : List (List ℕ)} {rose wrote : Type 0} {reads : List Read} (files : Files) (i o : Grammar) (s : Sheet) (bytes : List ℕ) (status : Status) (old new : Option (List ℕ)) (answer : Answer)
    → VerifiesShortFiles words files i o s bytes → AreTrue (Some files) rose reads → IsAnswer words reads answer → status ≡ status_of answer → Appended old new (text_of answer)
    → IsCutShort status rose wrote ⊎ DecidesCertificate i o s status old new bytes
certificate_of_files {words} {rose} {wrote} {reads} files i o s bytes status old new answer short true right is written =
    by (read_all rose files _ c.words_are (verified_held c) (is_short short.input_short (is_short short.output_short (is_short short.sheet_short (is_short short.certificate_short none_long)))) true right)
  where
    c : VerifiesFiles words files i o s bytes
    c = short.verifies

    by : IsOfFault rose answer ⊎ IsAnswerTo (w.verify c.input c.output c.sheet c.certificate) (c.held.input_text ∷ c.held.output_text ∷ c.held.sheet_text ∷ bytes ∷ []) answer
        → IsCutShort status rose wrote ⊎ DecidesCertificate i o s status old new bytes
    by (inl fault) = inl (cut_short status answer is fault)
    by (inr x) = inr (certificate_decides i o s bytes status old new short.certificate_short is written (decided_of c.held.input_spells c.held.output_spells c.held.sheet_spells (verifies_of x)))

-- a certificate of safety shows it

says_accepted : {i o : Grammar} {s : Sheet} {bytes : List ℕ} {answer : Answer} → Accepts i o s bytes answer → status_of answer ≡ Yes → IsSafe i o s
says_accepted (stops_before_rows p) e = absurd (cc)
says_accepted (accepts v t c safe) e = safe
says_accepted (no_text v f) e = absurd (cc)
says_accepted (no_certificate v t r) e = absurd (cc)

pub accepted_is_safe : (rose : Type 0) {words : List (List ℕ)} {reads : List Read} (files : Files) (i o : Grammar) (s : Sheet) (bytes : List ℕ) (status : Status) (answer : Answer)
    → VerifiesFiles words files i o s bytes → AreTrue (Some files) rose reads → IsAnswer words reads answer → status ≡ status_of answer → status ≡ Yes → IsSafe i o s
accepted_is_safe rose files i o s bytes status answer c true right is e = by (held_decided rose files _ c.words_are (verified_held c) true right)
  where
    by : IsAnswerTo (w.verify c.input c.output c.sheet c.certificate) (c.held.input_text ∷ c.held.output_text ∷ c.held.sheet_text ∷ bytes ∷ []) answer ⊎ ((answer ≡ file_limit) ⊎ ((name : List ℕ) × (answer ≡ cannot_read name)))
        → IsSafe i o s
    by (inl x) = says_accepted (decided_of c.held.input_spells c.held.output_spells c.held.sheet_spells (verifies_of x)) (sym is ∙ e)
    by (inr told) = absurd (told_of_file told (inl (sym is ∙ e)))

-- `upgrade`

long_same : {d e : CertData} → d ≡ e → length (text by_changes d) ≤ LONGEST_CERTIFICATE → LONGEST_CERTIFICATE < length (text by_changes e) → ⊥
long_same {d} {e} same p q = let r : length (text by_changes d) ≡ length (text by_changes e) = ap (λ (c : CertData). length (text by_changes c)) same in omega (arith, p, q, r)

pub upgrade_decides : (bytes : List ℕ) (status : Status) (old new : Option (List ℕ)) {answer : Answer} → length bytes ≤ longest_file → status ≡ status_of answer → Appended old new (text_of answer) → Upgrades bytes answer
    → DecidesUpgrade status old new bytes
upgrade_decides bytes status old new h is written (upgrades {d = d} t k) = record {
  yes = (λ _. (d, t, k), λ _. is);
  no = (λ e. absurd (not_no is e), λ n. absurd (n d t));
  limit = (λ e. absurd (not_limit is e), λ x. absurd (long_same (one_data bytes h d x.0 t x.1) k x.2));
  one = inl is;
  yes_text = λ _. (d, t, written);
  no_text = λ e. absurd (not_no is e);
  limit_text = λ e. absurd (not_limit is e);
}
upgrade_decides bytes status old new h is written (too_long {d = d} t k) = record {
  yes = (λ e. absurd (not_limit e is), λ x. absurd (long_same (one_data bytes h x.0 d x.1 t) x.2 k));
  no = (λ e. absurd (no_limit e is), λ n. absurd (n d t));
  limit = (λ _. (d, t, k), λ _. is);
  one = inr (inr is);
  yes_text = λ e. absurd (not_limit e is);
  no_text = λ e. absurd (no_limit e is);
  limit_text = λ _. written;
}
upgrade_decides bytes status old new h is written (no_form {line = n} f) = record {
  yes = (λ e. absurd (not_no e is), λ x. absurd (no_fault bytes x.0 n x.1 f));
  no = (λ _. λ d spelled. no_fault bytes d n spelled f, λ _. is);
  limit = (λ e. absurd (no_limit is e), λ x. absurd (no_fault bytes x.0 n x.1 f));
  one = inr (inl is);
  yes_text = λ e. absurd (not_no e is);
  no_text = λ _. (n, f, written);
  limit_text = λ e. absurd (no_limit is e);
}

pub upgrade_of_files : {words : List (List ℕ)} {rose wrote : Type 0} {reads : List Read} (files : Files) (bytes : List ℕ) (status : Status) (old new : Option (List ℕ)) (answer : Answer) → UpgradesFiles words files bytes
    → AreTrue (Some files) rose reads → IsAnswer words reads answer → status ≡ status_of answer → Appended old new (text_of answer) → IsCutShort status rose wrote ⊎ DecidesUpgrade status old new bytes
upgrade_of_files {words} {rose} {wrote} {reads} files bytes status old new answer c true right is written =
    by (read_all rose files _ c.words_are (holds c.certificate_held no_file) (is_short c.certificate_short none_long) true right)
  where
    by : IsOfFault rose answer ⊎ IsAnswerTo (w.upgrade c.certificate) (bytes ∷ []) answer → IsCutShort status rose wrote ⊎ DecidesUpgrade status old new bytes
    by (inl fault) = inl (cut_short status answer is fault)
    by (inr x) = inr (upgrade_decides bytes status old new c.certificate_short is written (upgrades_of x))

-- what `prove` writes is accepted

certified_short : (i o : Grammar) (s : Sheet) (most : ℕ) {bytes : List ℕ} → Certifies i o s most (certificate bytes) → length bytes ≤ longest_file
certified_short i o s most (as_checked f n) = absurd (n refl)
certified_short i o s most (certifies c f h l k) = k

proved_short : {most : ℕ} {input output sheet b c d bytes : List ℕ} → Proves most input output sheet b c d (certificate bytes) → length bytes ≤ longest_file
proved_short {most} (all_three {i = i} {o = o} {s = s} k l m f) = certified_short i o s most f

pub proved_is_accepted : ProvedIsAccepted
proved_is_accepted files limit input output sheet name bytes words others given v held (reads, true, right) = of_answer right
  where
    of_texts : (texts : List (List ℕ)) → AreRead (w.schema input ∷ w.schema output ∷ w.plain sheet ∷ []) texts reads → IsAnswerTo (w.prove limit input output sheet) texts (certificate bytes) → IsAnswerOn others files accepted
    of_texts texts read (proved {input_text = b} {output_text = c} {sheet_text = d} x) =
        let three = subst (AreTrue (Some files) ⊥) (reads_are (w.schema input ∷ w.schema output ∷ w.plain sheet ∷ []) (b ∷ c ∷ d ∷ []) reads read) true in (
          (file_of input, Ok b) ∷ (file_of output, Ok c) ∷ (sheet, Ok d) ∷ (name, Ok bytes) ∷ [],
          (three.0, (three.1.0, (three.1.1.0, (held_true files name bytes held (proved_short x), tt)))),
          decided v (refl, (refl, (refl, (refl, refl)))) (verified (proved_short x) (proved_accepted x)),
        )

    of_answer : IsAnswer words reads (certificate bytes) → IsAnswerOn others files accepted
    of_answer (decided {command = command} {texts = texts} u read x) =
        let same = one_command u given in
        of_texts texts (subst (λ k. AreRead (operands_of k) texts reads) same read) (subst (λ k. IsAnswerTo k texts (certificate bytes)) same x)
