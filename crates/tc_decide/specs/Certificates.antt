-- Certificates of two schemas and a stylesheet, and what is proved of their texts.
use Rattle.std.specs.Prelude.{◌≡◌, ◌<◌, ◌≤◌, ◌⊎◌, ◌↔◌, ℕ, List, length, Result, Ok, Err}
use Rattle.tc_cert.specs.Texts.{text, by_changes}
use Rattle.tc_close.specs.Certified.{IsLeastCertificate}
use Rattle.tc_close.specs.Triples.{IsTripleOf}
use Rattle.tc_decide.specs.Checking.{IsLeastCounter, HasFewestNodes, HasSmallCounter}
use Rattle.tc_decide.specs.Deciding.{IsShownBy, KeepsAll, PassesFirst, IsOutputOf}
use Rattle.tc_decide.specs.Told.{IsToldLimit}
use Rattle.tc_decide.specs.declared.failure.Failure.{Failure}
use Rattle.tc_decide.specs.declared.failure.Failure.TheVariants.{Refused, Passes, NoMemory}
use Rattle.tc_decide.specs.declared.failure.Kind.{Kind}
use Rattle.tc_decide.specs.declared.failure.Kind.TheVariants.{Certificate}
use Rattle.tc_decide.specs.declared.limits.TheConstants.{LONGEST_CERTIFICATE}
use Rattle.tc_decide.specs.declared.verdict.Output.{Output}
use Rattle.tc_decide.specs.declared.verdict.Proof.{Proof}
use Rattle.tc_decide.specs.declared.verdict.Proof.TheVariants.{Certified, Unsafe}
use Rattle.tc_model.specs.Grammars.{Grammar}
use Rattle.tc_model.specs.Safety.{IsSafe}
use Rattle.tc_model.specs.Sheets.{Sheet}
use Rattle.tc_model.specs.Trees.{Trees, none}
use Rattle.tc_model.specs.Views.{before}
use Rattle.tc_model.specs.declared.lists.CertData.{CertData}
use Rattle.tc_rows.specs.CertificateRows.{IsCertificateData}
use Rattle.tc_rows.specs.Triples.{Triple}

-- where there is a certificate, this holds
abbrev pub OnCertified : Result Proof Failure → Type 0 → Type 0
OnCertified (Ok (Certified bytes)) P = P
OnCertified _ P = Unit {0}

-- and this, of its text
abbrev pub IfCertified : Result Proof Failure → (List ℕ → Type 0) → Type 0
IfCertified (Ok (Certified bytes)) P = P bytes.items
IfCertified _ P = Unit {0}

-- where there is a counterexample, this holds of it and of what is told of its result
abbrev pub IfRefuted : Result Proof Failure → (Trees → Output → Type 0) → Type 0
IfRefuted (Ok (Unsafe document output)) P = P (before document none) output
IfRefuted _ P = Unit {0}

abbrev pub IsCertified : Result Proof Failure → Type 0
IsCertified (Ok (Certified bytes)) = Unit {0}
IsCertified _ = ⊥

abbrev pub IsRefuted : Result Proof Failure → Type 0
IsRefuted (Ok (Unsafe document output)) = Unit {0}
IsRefuted _ = ⊥

module _ (i o : Grammar) (s : Sheet) where
  -- Well-formed schemas and a well-formed stylesheet within the limits of the stylesheet have a triple, and all of theirs have the same rows: law_of_triples of tc_close.

  -- the data is that of a certificate of safety
  abbrev pub IsCertificateOf : CertData → Type 0
  IsCertificateOf d = (x : Triple) × IsTripleOf i o s x × IsCertificateData x d

  -- and it has exactly the rows of live trees and of live lists of trees, and exactly the sets of pairs in them
  abbrev pub IsLeastOf : CertData → Type 0
  IsLeastOf d = (x : Triple) × IsTripleOf i o s x × IsLeastCertificate x d

  -- the certificate with exactly the rows of what is live is too long
  abbrev pub IsOverlong : Type 0
  IsOverlong = (d : CertData) × IsLeastOf d × (LONGEST_CERTIFICATE < length (text by_changes d))

  -- the certificate with exactly the rows of what is live isn't too long
  abbrev pub HasShortCertificate : Type 0
  HasShortCertificate = (d : CertData) × IsLeastOf d × (length (text by_changes d) ≤ LONGEST_CERTIFICATE)

  -- this is the text of the certificate with exactly the rows of what is live, which is one of safety and isn't too long
  abbrev pub IsTextOfLeast : List ℕ → Type 0
  IsTextOfLeast bytes = (d : CertData) × IsLeastOf d × IsCertificateOf d × (length bytes ≤ LONGEST_CERTIFICATE) × (bytes ≡ text by_changes d)

  -- as a check, but that where it is yes there is a certificate, whose text is given
  pub record DecidesProof (result : Result Proof Failure) : Type 0 where
    pub yes : IsCertified result ↔ IsSafe i o s
    pub certificate : IfCertified result IsTextOfLeast
    pub no : IsRefuted result ↔ HasSmallCounter i o s
    pub least : IfRefuted result (λ document output. IsShownBy i o s document output × HasFewestNodes i o s document)

  module _ (most : ℕ) where
    -- this is passed, which has this number, and nothing that is tried before it: as of a check, and then the length of the certificate's text
    abbrev pub PassesInProof : Kind → ℕ → Type 0
    PassesInProof Certificate number = KeepsAll i o s most × IsSafe i o s × IsOverlong × (number ≡ LONGEST_CERTIFICATE)
    PassesInProof kind number = PassesFirst i o s most kind number

    -- so by limits, that of the certificate's length among them
    pub record DecidesProofWithin (result : Result Proof Failure) : Type 0 where
      pub yes : IsCertified result ↔ (KeepsAll i o s most × IsSafe i o s × HasShortCertificate)
      pub certificate : IfCertified result IsTextOfLeast
      pub no : IsRefuted result ↔ (KeepsAll i o s most × HasSmallCounter i o s)
      pub least : IfRefuted result (λ document output. IsLeastCounter i o s document × IsOutputOf s document output)
      pub limit : IsToldLimit result ↔ ((kind : Kind) × (number : ℕ) × PassesInProof kind number)

    -- the limit that a failure tells
    abbrev pub TellsLimit : Result Proof Failure → Type 0
    TellsLimit (Ok proof) = Unit {0}
    TellsLimit (Err (Refused which reason at)) = Unit {0}
    TellsLimit (Err (Passes kind number)) = PassesInProof kind number
    TellsLimit (Err NoMemory) = Unit {0}

    -- all of it, unless memory is refused
    pub record IsCountedProof (result : Result Proof Failure) : Type 0 where
      pub limits : (result ≡ Err NoMemory) ⊎ DecidesProofWithin result
      pub number : TellsLimit result
