-- Certificates: what `prove`, `verify` and `upgrade` answer on the texts of their operands, each answer with its cause.
use Rattle.std.specs.Prelude.{◌≡◌, ◌<◌, ◌≤◌, ℕ, List, length}
use Rattle.tc_answer.specs.Answers.{Answer, certificate, certificate_limit, accepted, rejected, over_limit, status_of}
use Rattle.tc_decide.specs.declared.limits.TheConstants.{LONGEST_CERTIFICATE}
use Rattle.tc_answer.specs.declared.status.Status.TheVariants.{Yes}
use Rattle.tc_base.specs.declared.Limit as kinds
use Rattle.tc_cert.specs.Fronts.{IsFirstFault}
use Rattle.tc_cert.specs.Texts.{text, by_changes, CertificateText}
use Rattle.tc_model.specs.Grammars.{Grammar}
use Rattle.tc_model.specs.Safety.{IsSafe}
use Rattle.tc_model.specs.Sheets.{Sheet}
use Rattle.tc_model.specs.declared.lists.CertData.{CertData}
use Rattle.tc_top.specs.Causes.{Finds, OfTexts}
use Rattle.tc_decide.specs.Certificates.{IsCertificateOf, IsLeastOf, IsOverlong}
use Rattle.tc_decide.specs.Checking.{IsWithinTripleLimits, PassesTripleLimit, HasFewRows}
use Rattle.tc_decide.specs.Rejections.{Rejection, form_fails, IsRejectedFor}

module _ (i o : Grammar) (s : Sheet) where
  -- Well-formed schemas and a well-formed stylesheet within the limits of the stylesheet have a triple, and all of theirs have the same rows: law_of_triples of tc_close.

  -- what `prove` decides, with so many rows of trees and of lists of trees at most: the certificate where it is safe, and else what `check` does
  pub data Certifies (most : ℕ) : Answer → Type 0 where
    as_checked : {answer : Answer} → Finds most i o s answer → ¬ (status_of answer ≡ Yes) → Certifies most answer
    certifies : {d : CertData} → IsWithinTripleLimits i o s → HasFewRows i o s most → IsSafe i o s → IsLeastOf i o s d → length (text by_changes d) ≤ LONGEST_CERTIFICATE
        → Certifies most (certificate (text by_changes d))
    overlong : IsWithinTripleLimits i o s → HasFewRows i o s most → IsSafe i o s → IsOverlong i o s → Certifies most certificate_limit

  -- what `verify` decides of a certificate's bytes. No limit on rows is tried
  pub data Accepts (bytes : List ℕ) : Answer → Type 0 where
    stops_before_rows : {kind : kinds.Limit} {number : ℕ} → PassesTripleLimit i o s kind number → Accepts bytes (over_limit kind number)
    accepts : {d : CertData} → IsWithinTripleLimits i o s → CertificateText bytes d → IsCertificateOf i o s d → IsSafe i o s → Accepts bytes accepted
    no_text : {line : ℕ} → IsWithinTripleLimits i o s → IsFirstFault bytes line → Accepts bytes (rejected (form_fails line))
    no_certificate : {d : CertData} {why : Rejection} → IsWithinTripleLimits i o s → CertificateText bytes d → IsRejectedFor i o s d why → Accepts bytes (rejected why)

-- what `prove` answers on the texts of its operands
abbrev pub Proves : ℕ → List ℕ → List ℕ → List ℕ → List ℕ → List ℕ → List ℕ → Answer → Type 0
Proves most input output sheet input_text output_text sheet_text answer = OfTexts (λ i o s. Certifies i o s most) input output sheet input_text output_text sheet_text answer

-- what `verify` answers on the texts of its operands
abbrev pub Verifies : List ℕ → List ℕ → List ℕ → List ℕ → List ℕ → List ℕ → List ℕ → Answer → Type 0
Verifies input output sheet input_text output_text sheet_text bytes answer = OfTexts (λ i o s. Accepts i o s bytes) input output sheet input_text output_text sheet_text answer

-- what `upgrade` answers on the text of its operand
pub data Upgrades (bytes : List ℕ) : Answer → Type 0 where
  upgrades : {d : CertData} → CertificateText bytes d → length (text by_changes d) ≤ LONGEST_CERTIFICATE → Upgrades bytes (certificate (text by_changes d))
  too_long : {d : CertData} → CertificateText bytes d → LONGEST_CERTIFICATE < length (text by_changes d) → Upgrades bytes certificate_limit
  no_form : {line : ℕ} → IsFirstFault bytes line → Upgrades bytes (rejected (form_fails line))
