-- What is decided of texts is what commands answer on them.
use Rattle.std.proofs.Common.{◌≡◌, ◌≤◌, ◌⊎◌, inl, inr, refl, sym, ap, subst, Bool, true, false, ℕ, List, length, Result, Ok, Err}
use Rattle.std.proofs.lemmas.Bool.{true≢false}
use Rattle.tc_answer.specs.Answers.{Answer, certificate, certificate_limit, rejected, refused, rows_limit, has_result}
use Rattle.tc_answer.specs.AnswersSeen.{Says}
use Rattle.tc_answer.specs.declared.answer.Answer as made
use Rattle.tc_answer.specs.declared.status.Status.TheVariants.{Yes, No}
use Rattle.tc_base.specs.Reading.{longest_text}
use Rattle.tc_cert.specs.Texts.{text, by_changes}
use Rattle.tc_cert.proofs.FirstFaults.{one_data}
use Rattle.tc_decide.specs.Certificates.{HasShortCertificate, IsTextOfLeast, PassesInProof, DecidesProofWithin}
use Rattle.tc_decide.specs.Checking.{most_of, IsWithinTripleLimits}
use Rattle.tc_decide.specs.Comparing.{Question, inclusion, equality, AreSpelled, TellsRefusalOfPair, in_inclusion, in_first, in_second, PassesComparison, TellsPairLimit, IfDifferent, DecidesInclusion, DecidesEquality, TellsInclusionCounts}
use Rattle.tc_decide.specs.Deciding.{AreAccepted, IsFirstRefused, TellsRefusal, KeepsAll, DecidesWithin, TellsCounts}
use Rattle.tc_decide.specs.Limits.{IsRunWithin}
use Rattle.tc_decide.specs.Pieces.{PassesInPieces, DecidesInPieces as DecidesPieces, TellsLimitInPieces, TellsRefusalInPieces}
use Rattle.tc_decide.specs.Rejections.{Rejection, rejection, IsRejectionOf, of_form, of_rule}
use Rattle.tc_decide.specs.RowCounts.{RowCount, row_count}
use Rattle.tc_decide.specs.Running.{AreRunAccepted, TellsRefusalOfRun, PassesRun, TellsRunLimit}
use Rattle.tc_decide.specs.Texts.{Spells}
use Rattle.tc_decide.specs.Validating.{AreRead, TellsRefusalOfDocument, DecidesValidity, TellsValidityLimit}
use Rattle.tc_decide.specs.Verified.{OnAccepted, DecidesCertificate, TellsTextLimit, DecidesUpgrade, TellsUpgradeLimit}
use Rattle.tc_decide.specs.declared.failure.Failure.{Failure}
use Rattle.tc_decide.specs.declared.failure.Failure.TheVariants.{Refused, Passes, NoMemory}
use Rattle.tc_decide.specs.declared.failure.Kind.{Kind}
use Rattle.tc_decide.specs.declared.failure.Kind.TheVariants.{Texts, Rows, Nodes, Certificate, Work, Open, Pieces}
use Rattle.tc_decide.specs.declared.failure.PieceMeasure.TheVariants.{Tag, Names}
use Rattle.tc_decide.specs.declared.failure.Which.{Which}
use Rattle.tc_decide.specs.declared.failure.Which.TheVariants as which
use Rattle.tc_decide.specs.declared.limits.TheConstants.{LONGEST_CERTIFICATE}
use Rattle.tc_decide.specs.declared.schemas.SchemaText.{SchemaText as Text}
use Rattle.tc_decide.specs.declared.verdict.Equality.{Equality}
use Rattle.tc_decide.specs.declared.verdict.Equality.TheVariants.{Same, FirstOnly, SecondOnly}
use Rattle.tc_decide.specs.declared.verdict.Inclusion.{Inclusion}
use Rattle.tc_decide.specs.declared.verdict.Inclusion.TheVariants.{Included, Not}
use Rattle.tc_decide.specs.declared.verdict.Output.{Output}
use Rattle.tc_decide.specs.declared.verdict.Output.TheVariants.{Shown, TooLarge}
use Rattle.tc_decide.specs.declared.verdict.Proof.{Proof}
use Rattle.tc_decide.specs.declared.verdict.Proof.TheVariants as proofs
use Rattle.tc_decide.specs.declared.verdict.Upgrade.{Upgrade}
use Rattle.tc_decide.specs.declared.verdict.Upgrade.TheVariants as anew
use Rattle.tc_decide.specs.declared.verdict.Verdict.{Verdict}
use Rattle.tc_decide.specs.declared.verdict.Verdict.TheVariants.{Safe, Unsafe}
use Rattle.tc_decide.specs.declared.verdict.Verification.{Verification}
use Rattle.tc_decide.specs.declared.verdict.Verification.TheVariants.{Accepted, Rejected}
use Rattle.tc_decide.proofs.Proving.{one_least}
use Rattle.tc_model.specs.Grammars.{Grammar}
use Rattle.tc_model.specs.Printed.{printed}
use Rattle.tc_model.specs.Safety.{IsSafe}
use Rattle.tc_model.specs.Sheets.{Sheet}
use Rattle.tc_model.specs.Trees.{Trees}
use Rattle.tc_model.specs.Views.{place}
use Rattle.tc_model.specs.declared.lists.CertData.{CertData}
use Rattle.tc_print.specs.ReadBack.{IsReadAs}
use Rattle.tc_read.specs.Sheets.{IsSheetOf}
use Rattle.tc_read.specs.declared.faults.Reason.{Reason}
use Rattle.tc_run.specs.Limits.{IsTextOfResult}
use Rattle.tc_top.specs.Causes.{Finds, passes_before_rows, passes_rows, finds_safe, finds_unsafe, finds_large, finds_none_small, OfTexts, refuses_input, refuses_output, refuses_sheet, all_three, Runs, sheet_passes, too_much_work, too_open, gives_result, RunsTexts, sheet_refused, source_refused, sheet_and_source, Decides, passes, decides_valid, decides_invalid, Validates, schema_refused, document_refused, both_read}
use Rattle.tc_top.specs.Certifying.{Certifies, as_checked, certifies, overlong, Accepts, stops_before_rows, accepts, no_text, no_certificate, Upgrades, upgrades, too_long, no_form}
use Rattle.tc_top.specs.Comparing.{FindsInclusion, inclusion_passes, inclusion_covers, finds_included, finds_not_included, finds_none_shown, FindsEquality, equality_passes, equality_covers_forward, equality_covers_backward, finds_equal, finds_first_only, finds_second_only, finds_no_one_shown, FindsBoth, Compares, first_refused, second_refused, both_schemas}
use Rattle.tc_top.specs.InPieces.{DecidesInPieces, schema_limited, text_refused, tag_passed, names_passed, document_valid, document_invalid, ValidatesInPieces, schema_is_refused, schema_is_read}
use Rattle.tc_top.specs.SchemaTexts.{IsTextOf}
use Rattle.tc_top.specs.VerdictsSeen.{verdict_answer, limit_answer, name_by, name_of_two, proof_answer, verification_answer, upgrade_answer, inclusion_answer, equality_answer, validity_answer, SaysFailure, SaysFailureBy}
use Rattle.tc_top.proofs.CertifyingCalls.{limit_is_not_yes}
use Rattle.tc_top.proofs.SchemaTextLaws.{spelled_as_text, refused_as_text}

no_is_not_yes : No ≡ Yes → ⊥
no_is_not_yes e = absurd (cc)

-- an answer is no failure
no_failure : {V F : Type 0} (v : V) (f : F) → Ok v ≡ Err f → ⊥
no_failure v f e = absurd (cc)

-- what is decided of a verdict, which is no failure
pub of_verdict : {V : Type 0} {P : Type 0} (v : V) → (Ok v ≡ Err NoMemory) ⊎ P → P
of_verdict v (inl e) = absurd (no_failure v NoMemory e)
of_verdict v (inr p) = p

module _ (n m w b c d : List ℕ) (input output : Text) (input_is : IsTextOf n b input) (output_is : IsTextOf m c output) where
  -- of all that the texts spell
  abbrev pub OfAll : (Grammar → Grammar → Sheet → Type 0) → Type 0
  OfAll P = (i o : Grammar) (s : Sheet) → Spells input i → Spells output o → IsSheetOf d s → P i o s

  module _ (Decided : Grammar → Grammar → Sheet → Answer → Type 0) where
    -- what is decided of all that the texts spell
    pub by_all : {answer : Answer} → AreAccepted input output d → OfAll (λ i o s. Decided i o s answer) → OfTexts Decided n m w b c d answer
    by_all a h =
        let (i, x) = a.input_spells in
        let (o, y) = a.output_spells in
        let (s, z) = a.sheet_spells in
        all_three (spelled_as_text n b input input_is i x) (spelled_as_text m c output output_is o y) z (h i o s x y z)

    -- a text is refused
    by_refusal : (which : Which) (reason : Reason) (at : _) → IsFirstRefused input output d which reason (place at) → OfTexts Decided n m w b c d (refused (name_by n m w which) reason (place at))
    by_refusal which.Input reason at r = refuses_input (refused_as_text n b input input_is reason (place at) r)
    by_refusal which.Output reason at r = refuses_output (spelled_as_text n b input input_is r.0.0 r.0.1) (refused_as_text m c output output_is reason (place at) r.1)
    by_refusal which.Sheet reason at r =
        refuses_sheet (spelled_as_text n b input input_is r.0.0 r.0.1) (spelled_as_text m c output output_is r.1.0 r.1.1) r.2
    by_refusal which.Document reason at r = absurd r

    -- what is told of a failure, where its limits decide
    pub by_failure : {V : Type 0} (Tells : Grammar → Grammar → Sheet → Result V Failure → Type 0)
        → ((i o : Grammar) (s : Sheet) (kind : Kind) (number : ℕ) → Tells i o s (Err (Passes kind number)) → Decided i o s (limit_answer kind number)) → (failure : Failure) (said : made.Answer)
        → TellsRefusal {V = V} input output d (Err failure) → OfAll (λ i o s. Tells i o s (Err failure)) → SaysFailure n m w failure said → (answer : Answer) × Says said answer × OfTexts Decided n m w b c d answer
    by_failure Tells limits (Refused which reason at) said r tells says = (_, says, by_refusal which reason at r)
    by_failure Tells limits (Passes kind number) said a tells says = (_, says, by_all a (λ i o s x y z. limits i o s kind number (tells i o s x y z)))
    by_failure Tells limits NoMemory said r tells says = absurd says

-- what a verdict decides

module _ (most : ℕ) (i o : Grammar) (s : Sheet) where
  pub found : (verdict : Verdict) → DecidesWithin most i o s (Ok verdict) → TellsCounts most i o s (Ok verdict) → Finds most i o s (verdict_answer verdict)
  found (Safe rows) h k = let (keeps, safe) = h.yes.0 tt in finds_safe keeps.0 keeps.1 k safe
  found (Unsafe document (Shown output)) h k = let (keeps, small) = h.no.0 tt in finds_unsafe keeps.0 keeps.1 h.least.0 h.least.1.0 h.least.1.1
  found (Unsafe document TooLarge) h k = let (keeps, small) = h.no.0 tt in finds_large keeps.0 keeps.1 h.least.0 h.least.1

  -- a limit on rows with its number
  many_at : (count : RowCount) (number : ℕ) → number ≡ most_of most count → Finds most i o s (rows_limit count (most_of most count)) → Finds most i o s (rows_limit count number)
  many_at count number e f = subst (λ k. Finds most i o s (rows_limit count k)) (sym e) f

  pub limited : (kind : Kind) (number : ℕ) → TellsCounts most i o s (Err (Passes kind number)) → Finds most i o s (limit_answer kind number)
  limited (Texts kind) number p = passes_before_rows p
  limited (Rows count) number p = many_at (row_count count) number p.2 (passes_rows (row_count count) p.0 p.1)
  limited Nodes number p = finds_none_small p.0.0 p.0.1 p.1
  limited Certificate number p = absurd p
  limited Work number p = absurd p
  limited Open number p = absurd p
  limited (Pieces measure) number p = absurd p

  -- what a proof decides
  certifies_by : (bytes : List ℕ) → KeepsAll i o s most → IsSafe i o s → HasShortCertificate i o s → IsTextOfLeast i o s bytes → Certifies i o s most (certificate bytes)
  certifies_by bytes keeps safe (e, m, short) (x, l, is, within, same) =
      subst (λ k. Certifies i o s most (certificate k)) (sym same) (certifies keeps.0 keeps.1 safe l (subst (λ y. length (text by_changes y) ≤ LONGEST_CERTIFICATE) (one_least e x m l) short))

  pub proved : (proof : Proof) → DecidesProofWithin i o s most (Ok proof) → Certifies i o s most (proof_answer proof)
  proved (proofs.Certified bytes) h = let (keeps, safe, short) = h.yes.0 tt in certifies_by bytes.items keeps safe short h.certificate
  proved (proofs.Unsafe document (Shown output)) h = let (keeps, small) = h.no.0 tt in as_checked (finds_unsafe keeps.0 keeps.1 h.least.0 h.least.1.0 h.least.1.1) no_is_not_yes
  proved (proofs.Unsafe document TooLarge) h = let (keeps, small) = h.no.0 tt in as_checked (finds_large keeps.0 keeps.1 h.least.0 h.least.1) no_is_not_yes

  pub limited_proof : (kind : Kind) (number : ℕ) → PassesInProof i o s most kind number → Certifies i o s most (limit_answer kind number)
  limited_proof (Texts kind) number p = as_checked (limited (Texts kind) number p) limit_is_not_yes
  limited_proof (Rows count) number p = as_checked (limited (Rows count) number p) limit_is_not_yes
  limited_proof Nodes number p = as_checked (limited Nodes number p) limit_is_not_yes
  limited_proof Certificate number p = overlong p.0.0 p.0.1 p.1 p.2
  limited_proof Work number p = absurd p
  limited_proof Open number p = absurd p
  limited_proof (Pieces measure) number p = absurd p

module _ (bytes : List ℕ) (i o : Grammar) (s : Sheet) where
  -- what a verification decides
  rejected_by : IsWithinTripleLimits i o s → (why : Rejection) → IsRejectionOf i o s bytes why → Accepts i o s bytes (rejected why)
  rejected_by w why (of_form f) = no_text w f
  rejected_by w why (of_rule means r) = no_certificate w means r

  pub accepted_by : (verification : Verification) → OnAccepted (Ok verification) (IsSafe i o s) → DecidesCertificate i o s bytes (Ok verification) → Accepts i o s bytes (verification_answer verification)
  accepted_by Accepted safe h = let (w, (d, means, c)) = h.yes.0 tt in accepts w means c safe
  accepted_by (Rejected why) safe h = rejected_by (h.no.0 tt).0 (rejection why) h.why

  pub limited_verification : (kind : Kind) (number : ℕ) → TellsTextLimit i o s (Err (Passes kind number)) → Accepts i o s bytes (limit_answer kind number)
  limited_verification (Texts kind) number p = stops_before_rows p
  limited_verification (Rows count) number p = absurd p
  limited_verification Nodes number p = absurd p
  limited_verification Certificate number p = absurd p
  limited_verification Work number p = absurd p
  limited_verification Open number p = absurd p
  limited_verification (Pieces measure) number p = absurd p

-- what an upgrade decides
pub upgraded_by : (bytes : List ℕ) (upgrade : Upgrade) → length bytes ≤ longest_text → DecidesUpgrade bytes (Ok upgrade) → Upgrades bytes (upgrade_answer upgrade)
upgraded_by bytes (anew.Text out) short h =
    let (d, means, spelled) = h.written in
    let (e, other, within) = h.yes.0 tt in
    let same = ap (λ (x : CertData). length (text by_changes x)) (one_data bytes short e d other means) in
    subst (λ k. Upgrades bytes (certificate k)) (sym spelled) (upgrades means (subst (λ k. k ≤ LONGEST_CERTIFICATE) same within))
upgraded_by bytes (anew.Malformed line) short h = no_form h.why

pub upgrade_fails : (bytes : List ℕ) (name : Which → List ℕ) (failure : Failure) (said : made.Answer) → TellsUpgradeLimit bytes (Err failure) → SaysFailureBy name failure said
    → (answer : Answer) × Says said answer × Upgrades bytes answer
upgrade_fails bytes name (Refused which reason at) said h says = absurd h
upgrade_fails bytes name (Passes Certificate number) said ((d, means, long), same) says = (certificate_limit, says, too_long means long)
upgrade_fails bytes name (Passes (Texts kind) number) said h says = absurd h
upgrade_fails bytes name (Passes (Rows count) number) said h says = absurd h
upgrade_fails bytes name (Passes Nodes number) said h says = absurd h
upgrade_fails bytes name (Passes Work number) said h says = absurd h
upgrade_fails bytes name (Passes Open number) said h says = absurd h
upgrade_fails bytes name (Passes (Pieces measure) number) said h says = absurd h
upgrade_fails bytes name NoMemory said h says = absurd says

-- what a run decides

module _ (n m b c : List ℕ) where
  pub run_gives : (bytes : List ℕ) → AreRunAccepted b c → ((s : Sheet) (d : Trees) → IsSheetOf b s → IsReadAs c d → IsRunWithin s d × IsTextOfResult s d bytes)
      → (result : Trees) × (bytes ≡ printed result) × RunsTexts n m b c (has_result result)
  run_gives bytes a runs =
      let (s, x) = a.sheet_spells in
      let (d, y) = a.document_spells in
      let (within, told) = runs s d x y in
      (told.0, told.2, sheet_and_source x y (gives_result within told.1))

  limited_run : (s : Sheet) (d : Trees) (kind : Kind) (number : ℕ) → PassesRun s d kind number → Runs s d (limit_answer kind number)
  limited_run s d (Texts kind) number p = sheet_passes p
  limited_run s d Work number (within, (o, t, p), same) = too_much_work within t p
  limited_run s d Open number (within, (o, t, p), same) = too_open within t p
  limited_run s d (Rows count) number p = absurd p
  limited_run s d Nodes number p = absurd p
  limited_run s d Certificate number p = absurd p
  limited_run s d (Pieces measure) number p = absurd p

  pub run_fails : (V : Type 0) (failure : Failure) (said : made.Answer) → TellsRefusalOfRun {V = V} b c (Err failure) → ((s : Sheet) (d : Trees) → IsSheetOf b s → IsReadAs c d → TellsRunLimit s d {V = V} (Err failure))
      → SaysFailureBy (name_of_two n m) failure said → (answer : Answer) × Says said answer × RunsTexts n m b c answer
  run_fails V (Refused which.Input reason at) said r limits says = absurd r
  run_fails V (Refused which.Output reason at) said r limits says = absurd r
  run_fails V (Refused which.Sheet reason at) said r limits says = (_, says, sheet_refused r)
  run_fails V (Refused which.Document reason at) said ((s, x), r) limits says = (_, says, source_refused x r)
  run_fails V (Passes kind number) said a limits says =
      let (s, x) = a.sheet_spells in
      let (d, y) = a.document_spells in
      (_, says, sheet_and_source x y (limited_run s d kind number (limits s d x y)))
  run_fails V NoMemory said r limits says = absurd says

-- what a comparison decides

limited_pair : (question : Question) (x y : Grammar) (kind : Kind) (number : ℕ) → PassesComparison x y question kind number → FindsBoth x y question (limit_answer kind number)
limited_pair inclusion x y (Texts kind) number p = inclusion_passes p
limited_pair inclusion x y (Rows count) number (w, in_inclusion p, same) = subst (λ k. FindsInclusion x y (rows_limit (row_count count) k)) (sym same) (inclusion_covers (row_count count) w p)
limited_pair inclusion x y Nodes number (k, l, same) = finds_none_shown k.0 k.1 l.some.1 l.large
limited_pair inclusion x y Certificate number p = absurd p
limited_pair inclusion x y Work number p = absurd p
limited_pair inclusion x y Open number p = absurd p
limited_pair inclusion x y (Pieces measure) number p = absurd p
limited_pair equality x y (Texts kind) number p = equality_passes p
limited_pair equality x y (Rows count) number (w, in_first p, same) = subst (λ k. FindsEquality x y (rows_limit (row_count count) k)) (sym same) (equality_covers_forward (row_count count) w p)
limited_pair equality x y (Rows count) number (w, in_second f p, same) = subst (λ k. FindsEquality x y (rows_limit (row_count count) k)) (sym same) (equality_covers_backward (row_count count) w f p)
limited_pair equality x y Nodes number (k, l, same) = finds_no_one_shown k.0 k.1 k.2 l.some.1 l.large
limited_pair equality x y Certificate number p = absurd p
limited_pair equality x y Work number p = absurd p
limited_pair equality x y Open number p = absurd p
limited_pair equality x y (Pieces measure) number p = absurd p

pub included_by : (x y : Grammar) (v : Inclusion) → DecidesInclusion x y (Ok v) → TellsInclusionCounts x y (Ok v) → FindsInclusion x y (inclusion_answer v)
included_by x y (Included tree_rows hedge_rows) d n = let (k, so) = d.yes.0 tt in finds_included k.0 k.1 so n.0 n.1
included_by x y (Not document) d n = let (k, small) = d.no.0 tt in finds_not_included k.0 k.1 d.least.0.refutes d.least.1 d.least.0.least

pub equal_by : (x y : Grammar) (v : Equality) → DecidesEquality x y (Ok v) → IfDifferent x y (Ok v) → FindsEquality x y (equality_answer v)
equal_by x y Same d f = let (k, so) = d.yes.0 tt in finds_equal k.0 k.1 k.2 so.0 so.1
equal_by x y (FirstOnly document) d f = let (k, small) = d.no.0 tt in finds_first_only k.0 k.1 k.2 f d.least.1 d.least.0.least
equal_by x y (SecondOnly document) d f = let (k, small) = d.no.0 tt in finds_second_only k.0 k.1 k.2 f.0 d.least.1 f.1 (λ other q. d.least.0.least other (inr q))

module _ (n m b c : List ℕ) (first second : Text) (first_is : IsTextOf n b first) (second_is : IsTextOf m c second) where
  pub pair_by : {question : Question} {answer : Answer} → AreSpelled first second → ((x y : Grammar) → Spells first x → Spells second y → FindsBoth x y question answer) → Compares question n m b c answer
  pair_by ((x, p), (y, q)) f = both_schemas (spelled_as_text n b first first_is x p) (spelled_as_text m c second second_is y q) (f x y p q)

  pub pair_fails : (question : Question) (V : Type 0) (failure : Failure) (said : made.Answer) → TellsRefusalOfPair {V = V} first second (Err failure)
      → ((x y : Grammar) → Spells first x → Spells second y → TellsPairLimit x y question {V = V} (Err failure)) → SaysFailureBy (name_of_two n m) failure said
      → (answer : Answer) × Says said answer × Compares question n m b c answer
  pair_fails question V (Refused which.Input reason at) said r limits says = (_, says, first_refused (refused_as_text n b first first_is reason (place at) r))
  pair_fails question V (Refused which.Output reason at) said ((x, p), r) limits says =
      (_, says, second_refused (spelled_as_text n b first first_is x p) (refused_as_text m c second second_is reason (place at) r))
  pair_fails question V (Refused which.Sheet reason at) said r limits says = absurd r
  pair_fails question V (Refused which.Document reason at) said r limits says = absurd r
  pair_fails question V (Passes kind number) said ((x, p), (y, q)) limits says =
      (_, says, both_schemas (spelled_as_text n b first first_is x p) (spelled_as_text m c second second_is y q) (limited_pair question x y kind number (limits x y p q)))
  pair_fails question V NoMemory said r limits says = absurd says

-- what a validation decides

valid_is : (x : Grammar) (d : Trees) (valid : Bool) → DecidesValidity x d (Ok valid) → Decides x d (validity_answer valid)
valid_is x d true h = let (w, v) = h.yes.0 refl in decides_valid w v
valid_is x d false h = let (w, v) = h.no.0 (λ e. true≢false (sym e)) in decides_invalid w v

module _ (n m b c : List ℕ) (schema : Text) (schema_is : IsTextOf n b schema) where
  pub valid_gives : (valid : Bool) → AreRead schema c → ((x : Grammar) (d : Trees) → Spells schema x → IsReadAs c d → DecidesValidity x d (Ok valid)) → Validates n m b c (validity_answer valid)
  valid_gives valid ((x, p), (d, q)) f = both_read (spelled_as_text n b schema schema_is x p) q (valid_is x d valid (f x d p q))

  pub valid_fails : (failure : Failure) (said : made.Answer) → TellsRefusalOfDocument schema c (Err failure) → ((x : Grammar) → Spells schema x → TellsValidityLimit x (Err failure))
      → SaysFailureBy (name_of_two n m) failure said → (answer : Answer) × Says said answer × Validates n m b c answer
  valid_fails (Refused which.Input reason at) said r limits says = (_, says, schema_refused (refused_as_text n b schema schema_is reason (place at) r))
  valid_fails (Refused which.Output reason at) said r limits says = absurd r
  valid_fails (Refused which.Sheet reason at) said r limits says = absurd r
  valid_fails (Refused which.Document reason at) said ((x, p), r) limits says = (_, says, document_refused (spelled_as_text n b schema schema_is x p) r)
  valid_fails (Passes (Texts kind) number) said ((x, p), (d, q)) limits says = (_, says, both_read (spelled_as_text n b schema schema_is x p) q (passes (limits x p)))
  valid_fails (Passes (Rows count) number) said ((x, p), (d, q)) limits says = absurd (limits x p)
  valid_fails (Passes Nodes number) said ((x, p), (d, q)) limits says = absurd (limits x p)
  valid_fails (Passes Certificate number) said ((x, p), (d, q)) limits says = absurd (limits x p)
  valid_fails (Passes Work number) said ((x, p), (d, q)) limits says = absurd (limits x p)
  valid_fails (Passes Open number) said ((x, p), (d, q)) limits says = absurd (limits x p)
  valid_fails (Passes (Pieces measure) number) said ((x, p), (d, q)) limits says = absurd (limits x p)
  valid_fails NoMemory said r limits says = absurd says

-- what the validation of a document in pieces decides

pieces_are : (x : Grammar) (name c : List ℕ) (valid : Bool) → DecidesPieces x c (Ok valid) → DecidesInPieces x name c (validity_answer valid)
pieces_are x name c true h = let (w, (t, good, v)) = h.yes.0 refl in document_valid w good v
pieces_are x name c false h = let (w, (t, good, v)) = h.no.0 (λ e. true≢false (sym e)) in document_invalid w good v

piece_limit : (x : Grammar) (name c : List ℕ) (kind : Kind) (number : ℕ) → PassesInPieces x c kind number → DecidesInPieces x name c (limit_answer kind number)
piece_limit x name c (Texts kind) number p = schema_limited p
piece_limit x name c (Pieces Tag) number (w, (at, t), same) = tag_passed w t
piece_limit x name c (Pieces Names) number (w, (at, t), same) = names_passed w t
piece_limit x name c (Rows count) number p = absurd p
piece_limit x name c Nodes number p = absurd p
piece_limit x name c Certificate number p = absurd p
piece_limit x name c Work number p = absurd p
piece_limit x name c Open number p = absurd p

module _ (n m b c : List ℕ) (schema : Text) (schema_is : IsTextOf n b schema) where
  pub pieces_give : (valid : Bool) → TellsRefusalInPieces schema c (Ok valid) → ((x : Grammar) → Spells schema x → DecidesPieces x c (Ok valid)) → ValidatesInPieces n m b c (validity_answer valid)
  pieces_give valid ((x, p), good) f = schema_is_read (spelled_as_text n b schema schema_is x p) (pieces_are x m c valid (f x p))

  pub pieces_fail : (failure : Failure) (said : made.Answer) → TellsRefusalInPieces schema c (Err failure) → ((x : Grammar) → Spells schema x → TellsLimitInPieces x c (Err failure))
      → SaysFailureBy (name_of_two n m) failure said → (answer : Answer) × Says said answer × ValidatesInPieces n m b c answer
  pieces_fail (Refused which.Input reason at) said r limits says =
      (refused n reason (place at), says, schema_is_refused (refused_as_text n b schema schema_is reason (place at) r))
  pieces_fail (Refused which.Output reason at) said r limits says = absurd r
  pieces_fail (Refused which.Sheet reason at) said r limits says = absurd r
  pieces_fail (Refused which.Document reason at) said (x, p, w, r) limits says =
      (refused m reason (place at), says, schema_is_read (spelled_as_text n b schema schema_is x p) (text_refused {reason = reason} {place = place at} w r))
  pieces_fail (Passes kind number) said (x, p) limits says = (limit_answer kind number, says, schema_is_read (spelled_as_text n b schema schema_is x p) (piece_limit x m c kind number (limits x p)))
  pieces_fail NoMemory said r limits says = absurd says
