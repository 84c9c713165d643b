-- What `prove`, `verify` and `upgrade` of held files decide.
use Rattle.std.specs.Prelude.{◌≡◌, ◌<◌, ◌≤◌, ◌⊎◌, ◌↔◌, ℕ, List, length, Option, Some, codes}
use Rattle.tc_base.specs.declared.limits.TheConstants.{MOST_SHOWN_NODES}
use Rattle.tc_answer.specs.Lines.{line, limit_line, limit_word, count_word, rejected_line}
use Rattle.tc_decide.specs.RowCounts.{RowCount}
use Rattle.tc_answer.specs.SchemaWords.{file_of}
use Rattle.tc_answer.specs.Words.{prove, verify, upgrade, Words}
use Rattle.tc_decide.specs.declared.limits.TheConstants.{LONGEST_CERTIFICATE}
use Rattle.tc_answer.specs.declared.status.Status.{Status}
use Rattle.tc_answer.specs.declared.status.Status.TheVariants.{Yes, No, Limit}
use Rattle.tc_base.specs.declared.Limit as kinds
use Rattle.tc_cert.specs.Fronts.{IsFirstFault}
use Rattle.tc_cert.specs.Texts.{text, by_changes, CertificateText}
use Rattle.tc_io.specs.Store.{Files, longest_file}
use Rattle.tc_io.specs.Sink.{Appended}
use Rattle.tc_model.specs.Grammars.{Grammar}
use Rattle.tc_model.specs.Printed.{printed}
use Rattle.tc_model.specs.Safety.{IsSafe}
use Rattle.tc_model.specs.Sheets.{Sheet}
use Rattle.tc_model.specs.Trees.{Trees}
use Rattle.tc_model.specs.declared.lists.CertData.{CertData}
use Rattle.tc_print.specs.ReadBack.{IsReadAs}
use Rattle.tc_read.specs.Sheets.{IsSheetOf}
use Rattle.tc_top.specs.Answers.{IsAnswerOn}
use Rattle.tc_answer.specs.Answers.{certificate, accepted}
use Rattle.tc_decide.specs.Certificates.{IsLeastOf, IsOverlong, HasShortCertificate}
use Rattle.tc_decide.specs.Rejections.{Rejection, form_fails, IsRejectionOf}
use Rattle.tc_decide.specs.Verified.{IsCertificateText}
use Rattle.tc_decide.specs.Checking.{most_of, IsWithinTripleLimits, PassesTripleLimit, HasManyRows, HasFewRows, IsLeastCounter, HasSmallCounter, HasLargeCounters}
use Rattle.tc_top.specs.SchemaTexts.{SchemaText}
use Rattle.tc_top.specs.Headline.{IsLimited, ShowsRun}

-- files are held whose texts spell two schemas and a stylesheet
pub record HoldTriple (files : Files) (input output sheet : List ℕ) (i o : Grammar) (s : Sheet) : Type 0 where
  pub input_text : List ℕ
  pub output_text : List ℕ
  pub sheet_text : List ℕ
  pub input_held : files (file_of input) ≡ Some input_text
  pub output_held : files (file_of output) ≡ Some output_text
  pub sheet_held : files sheet ≡ Some sheet_text
  pub input_spells : SchemaText input input_text i
  pub output_spells : SchemaText output output_text o
  pub sheet_spells : IsSheetOf sheet_text s

-- and none of them is longer than a file may be
pub record HoldShort (files : Files) (input output sheet : List ℕ) (i o : Grammar) (s : Sheet) : Type 0 where
  pub triple : HoldTriple files input output sheet i o s
  pub input_short : length triple.input_text ≤ longest_file
  pub output_short : length triple.output_text ≤ longest_file
  pub sheet_short : length triple.sheet_text ≤ longest_file

-- the words prove two schemas and a stylesheet that are held
pub record ProvesFiles (words : List (List ℕ)) (files : Files) (limit : Option ℕ) (i o : Grammar) (s : Sheet) : Type 0 where
  pub input : List ℕ
  pub output : List ℕ
  pub sheet : List ℕ
  pub words_are : Words words (prove limit input output sheet)
  pub held : HoldShort files input output sheet i o s

-- the words verify bytes that are held, for two schemas and a stylesheet that are
pub record VerifiesFiles (words : List (List ℕ)) (files : Files) (i o : Grammar) (s : Sheet) (bytes : List ℕ) : Type 0 where
  pub input : List ℕ
  pub output : List ℕ
  pub sheet : List ℕ
  pub certificate : List ℕ
  pub words_are : Words words (verify input output sheet certificate)
  pub held : HoldTriple files input output sheet i o s
  pub certificate_held : files certificate ≡ Some bytes

pub record VerifiesShortFiles (words : List (List ℕ)) (files : Files) (i o : Grammar) (s : Sheet) (bytes : List ℕ) : Type 0 where
  pub verifies : VerifiesFiles words files i o s bytes
  pub input_short : length verifies.held.input_text ≤ longest_file
  pub output_short : length verifies.held.output_text ≤ longest_file
  pub sheet_short : length verifies.held.sheet_text ≤ longest_file
  pub certificate_short : length bytes ≤ longest_file

-- the words upgrade bytes that are held
pub record UpgradesFiles (words : List (List ℕ)) (files : Files) (bytes : List ℕ) : Type 0 where
  pub certificate : List ℕ
  pub words_are : Words words (upgrade certificate)
  pub certificate_held : files certificate ≡ Some bytes
  pub certificate_short : length bytes ≤ longest_file

module _ (i o : Grammar) (s : Sheet) where
  -- as a check, but that where it is yes there is a certificate that isn't too long, which is written
  pub record DecidesProof (status : Status) (old new : Option (List ℕ)) (most : ℕ) : Type 0 where
    pub yes : (status ≡ Yes) ↔ (IsWithinTripleLimits i o s × HasFewRows i o s most × IsSafe i o s × HasShortCertificate i o s)
    pub no : (status ≡ No) ↔ (IsWithinTripleLimits i o s × HasFewRows i o s most × HasSmallCounter i o s)
    pub limit : (status ≡ Limit) ↔ (IsLimited most i o s ⊎ (IsWithinTripleLimits i o s × HasFewRows i o s most × IsSafe i o s × IsOverlong i o s))
    pub one : (status ≡ Yes) ⊎ ((status ≡ No) ⊎ (status ≡ Limit))
    pub yes_text : status ≡ Yes → (d : CertData) × IsLeastOf i o s d × Appended old new (text by_changes d)
    pub no_text : status ≡ No → (document : Trees) × IsLeastCounter i o s document × IsReadAs (printed document) document × ShowsRun old new s document
    pub before_rows_text : (kind : kinds.Limit) (number : ℕ) → PassesTripleLimit i o s kind number → Appended old new (limit_line (limit_word kind) number)
    pub rows_text : (count : RowCount) → IsWithinTripleLimits i o s → HasManyRows i o s most count
        → (named : RowCount) × HasManyRows i o s most named × Appended old new (limit_line (count_word named) (most_of most named))
    pub nodes_text : IsWithinTripleLimits i o s → HasFewRows i o s most → HasLargeCounters i o s → Appended old new (limit_line (codes "counterexample") MOST_SHOWN_NODES)
    pub overlong_text : IsWithinTripleLimits i o s → HasFewRows i o s most → IsSafe i o s → IsOverlong i o s → Appended old new (limit_line (codes "certificate") LONGEST_CERTIFICATE)

  -- yes exactly where no limit is passed that is tried before rows are, and the bytes are the text of a certificate of safety; no exactly where
  -- none is passed and they aren't; and else the limit
  pub record DecidesCertificate (status : Status) (old new : Option (List ℕ)) (bytes : List ℕ) : Type 0 where
    pub yes : (status ≡ Yes) ↔ (IsWithinTripleLimits i o s × IsCertificateText i o s bytes)
    pub no : (status ≡ No) ↔ (IsWithinTripleLimits i o s × ¬ (IsCertificateText i o s bytes))
    pub limit : (status ≡ Limit) ↔ ((kind : kinds.Limit) × (number : ℕ) × PassesTripleLimit i o s kind number)
    pub one : (status ≡ Yes) ⊎ ((status ≡ No) ⊎ (status ≡ Limit))
    pub yes_text : status ≡ Yes → Appended old new (line (codes "accepted"))
    pub no_text : status ≡ No → (why : Rejection) × IsRejectionOf i o s bytes why × Appended old new (rejected_line why)
    pub before_rows_text : (kind : kinds.Limit) (number : ℕ) → PassesTripleLimit i o s kind number → Appended old new (limit_line (limit_word kind) number)

-- yes exactly where the bytes are a certificate's text whose data is written by changes within the limit, and so it is; no exactly where they are
-- no certificate's text, with the first line that isn't as it must be; and else the limit
pub record DecidesUpgrade (status : Status) (old new : Option (List ℕ)) (bytes : List ℕ) : Type 0 where
  pub yes : (status ≡ Yes) ↔ ((d : CertData) × CertificateText bytes d × (length (text by_changes d) ≤ LONGEST_CERTIFICATE))
  pub no : (status ≡ No) ↔ ((d : CertData) → ¬ (CertificateText bytes d))
  pub limit : (status ≡ Limit) ↔ ((d : CertData) × CertificateText bytes d × (LONGEST_CERTIFICATE < length (text by_changes d)))
  pub one : (status ≡ Yes) ⊎ ((status ≡ No) ⊎ (status ≡ Limit))
  pub yes_text : status ≡ Yes → (d : CertData) × CertificateText bytes d × Appended old new (text by_changes d)
  pub no_text : status ≡ No → (line_number : ℕ) × IsFirstFault bytes line_number × Appended old new (rejected_line (form_fails line_number))
  pub limit_text : status ≡ Limit → Appended old new (limit_line (codes "certificate") LONGEST_CERTIFICATE)

-- what `prove` writes of held files is accepted by `verify` on the same files
abbrev pub ProvedIsAccepted : Type 0
ProvedIsAccepted =
    (files : Files) (limit : Option ℕ) (input output sheet name bytes : List ℕ) (words others : List (List ℕ)) → Words words (prove limit input output sheet) → Words others (verify input output sheet name)
    → files name ≡ Some bytes → IsAnswerOn words files (certificate bytes) → IsAnswerOn others files accepted
