-- What is verified of a certificate's text, and what it is written anew as.
use Rattle.std.specs.Prelude.{◌≡◌, ◌<◌, ◌≤◌, ◌↔◌, ℕ, List, length, Result, Ok, Err}
use Rattle.tc_base.specs.declared.Limit.{Limit}
use Rattle.tc_cert.specs.Fronts.{IsFirstFault}
use Rattle.tc_cert.specs.Texts.{text, by_changes, CertificateText}
use Rattle.tc_decide.specs.Certificates.{IsCertificateOf}
use Rattle.tc_decide.specs.Checking.{IsWithinTripleLimits, PassesTripleLimit}
use Rattle.tc_decide.specs.Rejections.{Rejection, rejection, IsRejectionOf}
use Rattle.tc_decide.specs.Told.{IsToldLimit}
use Rattle.tc_decide.specs.declared.failure.Failure.{Failure}
use Rattle.tc_decide.specs.declared.failure.Failure.TheVariants.{Refused, Passes, NoMemory}
use Rattle.tc_decide.specs.declared.failure.Kind.TheVariants.{Texts, Certificate}
use Rattle.tc_decide.specs.declared.limits.TheConstants.{LONGEST_CERTIFICATE}
use Rattle.tc_decide.specs.declared.verdict.Upgrade.{Upgrade}
use Rattle.tc_decide.specs.declared.verdict.Upgrade.TheVariants.{Text, Malformed}
use Rattle.tc_decide.specs.declared.verdict.Verification.{Verification}
use Rattle.tc_decide.specs.declared.verdict.Verification.TheVariants.{Accepted, Rejected}
use Rattle.tc_model.specs.Grammars.{Grammar}
use Rattle.tc_model.specs.Sheets.{Sheet}
use Rattle.tc_model.specs.declared.lists.CertData.{CertData}

-- where it is accepted, this holds
abbrev pub OnAccepted : Result Verification Failure → Type 0 → Type 0
OnAccepted (Ok Accepted) P = P
OnAccepted _ P = Unit {0}

-- where it is rejected, this holds of the reason
abbrev pub IfRejected : Result Verification Failure → (Rejection → Type 0) → Type 0
IfRejected (Ok (Rejected why)) P = P (rejection why)
IfRejected _ P = Unit {0}

abbrev pub IsToldAccepted : Result Verification Failure → Type 0
IsToldAccepted (Ok Accepted) = Unit {0}
IsToldAccepted _ = ⊥

abbrev pub IsToldRejected : Result Verification Failure → Type 0
IsToldRejected (Ok (Rejected why)) = Unit {0}
IsToldRejected _ = ⊥

module _ (i o : Grammar) (s : Sheet) where
  -- the bytes are the text of a certificate of safety
  abbrev pub IsCertificateText : List ℕ → Type 0
  IsCertificateText bytes = (d : CertData) × CertificateText bytes d × IsCertificateOf i o s d

  -- Accepted exactly where no limit is passed that is tried before rows are, and the bytes are the text of a certificate of safety; rejected exactly
  -- where none is passed and they aren't, for the first rule that fails; and else a limit, exactly where one is passed.
  pub record DecidesCertificate (bytes : List ℕ) (result : Result Verification Failure) : Type 0 where
    pub yes : IsToldAccepted result ↔ (IsWithinTripleLimits i o s × IsCertificateText bytes)
    pub no : IsToldRejected result ↔ (IsWithinTripleLimits i o s × ¬ (IsCertificateText bytes))
    pub why : IfRejected result (IsRejectionOf i o s bytes)
    pub limit : IsToldLimit result ↔ ((kind : Limit) × (number : ℕ) × PassesTripleLimit i o s kind number)

  -- the limit that a failure tells
  abbrev pub TellsTextLimit : Result Verification Failure → Type 0
  TellsTextLimit (Err (Passes (Texts kind) number)) = PassesTripleLimit i o s kind number
  TellsTextLimit (Err (Passes _ number)) = ⊥
  TellsTextLimit _ = Unit {0}

-- where a text is given, this holds of it
abbrev pub IfUpgraded : Result Upgrade Failure → (List ℕ → Type 0) → Type 0
IfUpgraded (Ok (Text bytes)) P = P bytes.items
IfUpgraded _ P = Unit {0}

-- where none is, this holds of the line
abbrev pub IfMalformed : Result Upgrade Failure → (ℕ → Type 0) → Type 0
IfMalformed (Ok (Malformed line)) P = P line
IfMalformed _ P = Unit {0}

abbrev pub IsToldUpgraded : Result Upgrade Failure → Type 0
IsToldUpgraded (Ok (Text bytes)) = Unit {0}
IsToldUpgraded _ = ⊥

abbrev pub IsToldMalformed : Result Upgrade Failure → Type 0
IsToldMalformed (Ok (Malformed line)) = Unit {0}
IsToldMalformed _ = ⊥

-- the data of the bytes, which are a certificate's text, has a text by changes that is too long
abbrev pub IsOverlongAnew : List ℕ → Type 0
IsOverlongAnew bytes = (d : CertData) × CertificateText bytes d × (LONGEST_CERTIFICATE < length (text by_changes d))

-- A text is given exactly where the bytes are a certificate's text whose data is written by changes within the limit, and it is that; none exactly where
-- they are no certificate's text, with the first line that isn't as it must be; and else the limit, exactly where it is passed.
pub record DecidesUpgrade (bytes : List ℕ) (result : Result Upgrade Failure) : Type 0 where
  pub yes : IsToldUpgraded result ↔ ((d : CertData) × CertificateText bytes d × (length (text by_changes d) ≤ LONGEST_CERTIFICATE))
  pub written : IfUpgraded result (λ out. (d : CertData) × CertificateText bytes d × (out ≡ text by_changes d))
  pub no : IsToldMalformed result ↔ ((d : CertData) → ¬ (CertificateText bytes d))
  pub why : IfMalformed result (IsFirstFault bytes)
  pub limit : IsToldLimit result ↔ IsOverlongAnew bytes

-- the limit that a failure tells; no text is refused otherwise
abbrev pub TellsUpgradeLimit : List ℕ → Result Upgrade Failure → Type 0
TellsUpgradeLimit bytes (Ok upgrade) = Unit {0}
TellsUpgradeLimit bytes (Err (Refused which reason at)) = ⊥
TellsUpgradeLimit bytes (Err (Passes Certificate number)) = IsOverlongAnew bytes × (number ≡ LONGEST_CERTIFICATE)
TellsUpgradeLimit bytes (Err (Passes _ number)) = ⊥
TellsUpgradeLimit bytes (Err NoMemory) = Unit {0}
