-- What contracts see of a certificate's text as it is verified, and written anew.
use Rattle.std.specs.Prelude.{◌≡◌, ◌≤◌, ℕ, List, length, Result, Ok, Err}
use Rattle.tc_beh.specs.declared.machine.Shape.{Shape}
use Rattle.tc_cert.specs.Fronts.{IsFirstFault}
use Rattle.tc_cert.specs.Texts.{text, by_changes, CertificateText}
use Rattle.tc_cert.specs.declared.ranges.Ranges.{Ranges}
use Rattle.tc_decide.specs.Checking.{IsWithinTripleLimits, PassesTripleLimit}
use Rattle.tc_decide.specs.Rejections.{Rejection, form_fails, rejection, IsRejectionOf}
use Rattle.tc_decide.specs.Verified.{IsCertificateText, IsOverlongAnew}
use Rattle.tc_decide.specs.declared.failure.Failure.{Failure}
use Rattle.tc_decide.specs.declared.failure.Failure.TheVariants.{Refused, Passes, NoMemory}
use Rattle.tc_decide.specs.declared.failure.Kind.TheVariants.{Texts, Certificate}
use Rattle.tc_decide.specs.declared.limits.TheConstants.{LONGEST_CERTIFICATE}
use Rattle.tc_decide.specs.declared.verdict.Upgrade.{Upgrade}
use Rattle.tc_decide.specs.declared.verdict.Upgrade.TheVariants.{Text, Malformed}
use Rattle.tc_decide.specs.declared.verdict.Verification.{Verification}
use Rattle.tc_decide.specs.declared.verdict.Verification.TheVariants.{Accepted, Rejected}
use Rattle.tc_model.specs.Grammars.{Grammar}
use Rattle.tc_model.specs.Safety.{IsSafe}
use Rattle.tc_model.specs.Sheets.{Sheet}
use Rattle.tc_model.specs.declared.lists.CertData.{CertData}

-- the ranges of the numbers of a certificate, by the shape of rows
abbrev pub ranges_of : Shape → Ranges
ranges_of s = record { output_states = s.outputs; patterns = s.patterns; input_states = s.inputs; outs = s.entries; looks = s.looks }

-- what is verified of bytes, for two schemas and a stylesheet
abbrev pub IsVerified : List ℕ → Grammar → Grammar → Sheet → Result Verification Failure → Type 0
IsVerified bytes i o s (Ok Accepted) = IsWithinTripleLimits i o s × IsCertificateText i o s bytes × IsSafe i o s
IsVerified bytes i o s (Ok (Rejected why)) = IsWithinTripleLimits i o s × IsRejectionOf i o s bytes (rejection why)
IsVerified bytes i o s (Err (Passes (Texts kind) number)) = PassesTripleLimit i o s kind number
IsVerified bytes i o s (Err (Passes _ number)) = ⊥
IsVerified bytes i o s (Err (Refused which reason at)) = ⊥
IsVerified bytes i o s (Err NoMemory) = Unit {0}

-- it is rejected for this reason, or memory was refused
abbrev pub IsVerifiedAs : Rejection → Result Verification Failure → Type 0
IsVerifiedAs told (Ok Accepted) = ⊥
IsVerifiedAs told (Ok (Rejected why)) = rejection why ≡ told
IsVerifiedAs told (Err NoMemory) = Unit {0}
IsVerifiedAs told (Err _) = ⊥

-- the bytes are no certificate's text, by the first line that isn't as it must be, or memory was refused
abbrev pub IsNoForm : List ℕ → Result Verification Failure → Type 0
IsNoForm bytes (Ok Accepted) = ⊥
IsNoForm bytes (Ok (Rejected why)) = (line : ℕ) × IsFirstFault bytes line × (rejection why ≡ form_fails line)
IsNoForm bytes (Err NoMemory) = Unit {0}
IsNoForm bytes (Err _) = ⊥

-- what bytes are written anew as
abbrev pub IsWrittenAnew : List ℕ → Result Upgrade Failure → Type 0
IsWrittenAnew bytes (Ok (Text out)) = (d : CertData) × CertificateText bytes d × (length (text by_changes d) ≤ LONGEST_CERTIFICATE) × (out.items ≡ text by_changes d)
IsWrittenAnew bytes (Ok (Malformed line)) = IsFirstFault bytes line
IsWrittenAnew bytes (Err (Passes Certificate number)) = IsOverlongAnew bytes × (number ≡ LONGEST_CERTIFICATE)
IsWrittenAnew bytes (Err (Passes _ number)) = ⊥
IsWrittenAnew bytes (Err (Refused which reason at)) = ⊥
IsWrittenAnew bytes (Err NoMemory) = Unit {0}
