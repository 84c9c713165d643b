-- What is proved is accepted, and what is accepted is safe.
use Rattle.std.proofs.Common.{◌≡◌, ◌⊎◌, inl, inr, ℕ, List, refl}
use Rattle.tc_answer.specs.Answers.{Answer, certificate, accepted, rejected}
use Rattle.tc_cert.specs.Texts.{by_changes}
use Rattle.tc_close.proofs.LeastHolds.{least_holds}
use Rattle.tc_model.specs.Grammars.{Grammar}
use Rattle.tc_model.specs.Safety.{IsSafe}
use Rattle.tc_model.specs.Sheets.{Sheet}
use Rattle.tc_model.specs.declared.lists.CertData.{CertData}
use Rattle.tc_read.specs.Sheets.{IsSheetOf}
use Rattle.tc_top.specs.Causes.{OfTexts, all_three}
use Rattle.tc_decide.specs.Certificates.{IsCertificateOf, IsLeastOf}
use Rattle.tc_top.specs.Certifying.{Certifies, as_checked, certifies, Accepts, stops_before_rows, accepts, no_text, no_certificate}
use Rattle.tc_decide.specs.Checking.{IsWithinTripleLimits}
use Rattle.tc_decide.specs.Rejections.{Rejection, form_fails}
use Rattle.tc_top.specs.SchemaTexts.{SchemaText}
use Rattle.tc_decide.proofs.Triples.{to_triple}
use Rattle.tc_top.proofs.OneCheck.{decided_of}
use Rattle.tc_decide.proofs.Passing.{over_triple}

module _ {i o : Grammar} {s : Sheet} where
  -- the least certificate of what is safe is one
  pub least_is_one : (d : CertData) → IsSafe i o s → IsLeastOf i o s d → IsCertificateOf i o s d
  least_is_one d safe (x, of, least) = (x, of, least_holds x of.triple (to_triple IsSafe of safe) d least)

  -- what is proved is accepted
  accepts_proved : {most : ℕ} {bytes : List ℕ} → Certifies i o s most (certificate bytes) → Accepts i o s bytes accepted
  accepts_proved (as_checked f n) = absurd (n refl)
  accepts_proved (certifies {d} w few safe least short) = accepts w (record { formed = least.2.formed; version = by_changes; spelled = refl }) (least_is_one d safe least) safe

  -- what is accepted is safe
  safe_accepted : {bytes : List ℕ} → Accepts i o s bytes accepted → IsSafe i o s
  safe_accepted (accepts w t c safe) = safe

  -- within the limits bytes are accepted or rejected
  pub yes_or_no : {bytes : List ℕ} {answer : Answer} → IsWithinTripleLimits i o s → Accepts i o s bytes answer → (answer ≡ accepted) ⊎ ((why : Rejection) × (answer ≡ rejected why))
  yes_or_no w (stops_before_rows p) = absurd (over_triple p w)
  yes_or_no w (accepts v u e safe) = inl refl
  yes_or_no w (no_text {line} v f) = inr (form_fails line, refl)
  yes_or_no w (no_certificate {d} {why} v u r) = inr (why, refl)

-- what `prove` prints is accepted of the same texts
pub proved_accepted : {most : ℕ} {input output sheet b c d bytes : List ℕ} → OfTexts (λ i o s. Certifies i o s most) input output sheet b c d (certificate bytes) → OfTexts (λ i o s. Accepts i o s bytes) input output sheet b c d accepted
proved_accepted (all_three k l m f) = all_three k l m (accepts_proved f)

pub accepted_safe : {input output sheet b c d bytes : List ℕ} {i o : Grammar} {s : Sheet} → SchemaText input b i → SchemaText output c o → IsSheetOf d s → OfTexts (λ i o s. Accepts i o s bytes) input output sheet b c d accepted → IsSafe i o s
accepted_safe x y z f = safe_accepted (decided_of x y z f)
