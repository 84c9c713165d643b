-- The certificate of a stylesheet that is safe: exactly the rows of live trees and of live lists of trees, and exactly the sets of pairs in them.
-- Where none is made since it has more bytes than one may have, one is there all the same.
use Rattle.std.specs.Prelude.{◌≡◌, ◌<◌, ◌↔◌, ℕ, List, length, All, Option, MatchOption}
use Rattle.std.specs.List.{Contains}
use Rattle.tc_base.specs.declared.limits.TheConstants.{LONGEST_FILE}
use Rattle.tc_cert.specs.Texts.{text, by_changes}
use Rattle.tc_model.specs.CertificateData.{IsFormed}
use Rattle.tc_model.specs.Grammars.{Grammar}
use Rattle.tc_model.specs.Safety.{IsSafe}
use Rattle.tc_model.specs.Sheets.{Sheet}
use Rattle.tc_model.specs.Trees.{none}
use Rattle.tc_model.specs.Views.{before}
use Rattle.tc_model.specs.declared.lists.CertData.{CertData}
use Rattle.tc_rows.specs.CertificateRows.{trees_of, hedges_of, IsCertificateData}
use Rattle.tc_rows.specs.Certificates.{AreClosed}
use Rattle.tc_rows.specs.Counts.{IsRowOfLiveTree, IsRowOfLiveHedge, IsOutput}
use Rattle.tc_rows.specs.Rows.{HedgeRow, TreeRow}
use Rattle.tc_rows.specs.Triples.{Triple, IsTriple, sheet}
use Rattle.tc_close.specs.Decisions.{KeepsCounts, IsUnsafeBy, IsFarUnsafe}
use Rattle.tc_close.specs.Triples.{IsTripleOf}
use Rattle.tc_close.specs.declared.proof.Proof.{Proof}
use Rattle.tc_close.specs.declared.proof.Proof.TheVariants.{Certified, TooLong, Unsafe, TooManyNodes}

-- each number is that of an output
abbrev pub AreNumbersOf : List (List (ℕ × ℕ)) → List ℕ → Type 0
AreNumbersOf outputs numbers = All (λ n. n < length outputs) numbers

-- all that stand in the first list stand in the second
abbrev pub AreAmong : {R : Type 0} → List R → List R → Type 0
AreAmong {R} some all = (r : R) → Contains some r → Contains all r

module _ (x : Triple) where
  -- nothing is missing, and nothing stands in it that no live tree has
  pub record IsLeastCertificate (d : CertData) : Type 0 where
    pub formed : IsFormed d
    pub outputs : (pairs : List (ℕ × ℕ)) → Contains d.outputs pairs ↔ IsOutput x pairs
    pub trees : (r : TreeRow) → Contains (trees_of d) r ↔ IsRowOfLiveTree x r
    pub hedges : (r : HedgeRow) → Contains (hedges_of d) r ↔ IsRowOfLiveHedge x r
    pub tree_numbers : All (λ l. AreNumbersOf d.outputs l.outs) d.trees
    pub hedge_numbers : All (λ l. AreNumbersOf d.outputs l.outs) d.hedges

  -- this certificate is there, and its text has more bytes than a certificate may have
  abbrev pub HasLongCertificate : Type 0
  HasLongCertificate = (d : CertData) × IsLeastCertificate d × (LONGEST_FILE < length (text by_changes d))

  -- no count passes its limit, and this lists the rows and the sets; nothing is listed only where its text would be too long
  abbrev pub IsListed : ℕ → Option CertData → Type 0
  IsListed most list = KeepsCounts x most × MatchOption list HasLongCertificate IsLeastCertificate

  -- every valid document is made into a valid one, and no count passes its limit
  pub record IsSafeWithin (most : ℕ) : Type 0 where
    pub safe : IsSafe x.input x.output (sheet x)
    pub keeps : KeepsCounts x most

  abbrev pub IsProved : ℕ → Proof → Type 0
  IsProved most (Certified d) = IsSafeWithin most × IsLeastCertificate d × IsCertificateData x d
  IsProved most TooLong = IsSafeWithin most × HasLongCertificate
  IsProved most (Unsafe d) = IsUnsafeBy x most (before d none)
  IsProved most TooManyNodes = IsFarUnsafe x most

-- triples of the same schemas and stylesheet have one such certificate at most
abbrev pub OneCertificate : Type 0
OneCertificate = (i o : Grammar) (s : Sheet) (x y : Triple) → IsTripleOf i o s x → IsTripleOf i o s y → (d e : CertData) → IsLeastCertificate x d → IsLeastCertificate y e → d ≡ e

-- and where the stylesheet is safe it is a certificate
abbrev pub LeastIsCertificate : Type 0
LeastIsCertificate = (x : Triple) → IsTriple x → IsSafe x.input x.output (sheet x) → (d : CertData) → IsLeastCertificate x d → IsCertificateData x d

-- and what is a certificate by one of them is one by the other
abbrev pub CertificatesAgree : Type 0
CertificatesAgree = (i o : Grammar) (s : Sheet) (x y : Triple) → IsTripleOf i o s x → IsTripleOf i o s y → (d : CertData) → IsCertificateData x d → IsCertificateData y d

-- The rows of live trees and of live lists of trees are the least fixpoint of row arithmetic: lists that hold them and no other are closed under it, and each
-- closed lists hold them.
abbrev pub LiveRowsAreLeast : Type 0
LiveRowsAreLeast =
    (x : Triple) → IsTriple x → (trees : List TreeRow) (hedges : List HedgeRow) → ((r : TreeRow) → Contains trees r ↔ IsRowOfLiveTree x r) → ((r : HedgeRow) → Contains hedges r ↔ IsRowOfLiveHedge x r)
    → AreClosed x trees hedges × ((more_trees : List TreeRow) (more_hedges : List HedgeRow) → AreClosed x more_trees more_hedges → AreAmong trees more_trees × AreAmong hedges more_hedges)
