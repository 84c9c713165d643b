-- Why a text is no certificate: the first rule that fails.
use Rattle.std.specs.Prelude.{◌≡◌, ℕ, List}
use Rattle.tc_cert.specs.Fronts.{IsFirstFault}
use Rattle.tc_cert.specs.Texts.{CertificateText}
use Rattle.tc_close.specs.Triples.{IsTripleOf}
use Rattle.tc_decide.specs.declared.rejection.Rejection as made
use Rattle.tc_decide.specs.declared.rejection.Rejection.TheVariants.{Form, Fit, Empty, Text, Append, Wrap, Root}
use Rattle.tc_model.specs.Grammars.{Grammar}
use Rattle.tc_model.specs.Names.{ExpandedName}
use Rattle.tc_model.specs.Sheets.{Sheet}
use Rattle.tc_model.specs.Symbols.{Mention, fresh_name}
use Rattle.tc_model.specs.Views.{name}
use Rattle.tc_model.specs.declared.lists.CertData.{CertData}
use Rattle.tc_rows.specs.Triples.{Triple}
use Rattle.tc_verify.specs.Rejects.{IsRejected}
use Rattle.tc_verify.specs.declared.reject.Reject.{Reject}
use Rattle.tc_verify.specs.declared.reject.RejectRule.{RejectRule}
use Rattle.tc_verify.specs.declared.reject.RejectRule.TheVariants as rule

-- the first rule of certificates that fails, with the number of the line where it does; where it is a rule of two lines, or of a line and
-- the name of an element, with these
pub data Rejection : Type 0 where
  -- the text isn't a certificate's
  form_fails : (line_number : ℕ) → Rejection
  -- the line has a number out of range, or a list of another length
  fit_fails : (line_number : ℕ) → Rejection
  -- the row of no tree isn't listed
  empty_fails : Rejection
  -- the row of a text isn't listed
  text_fails : Rejection
  -- the row of the lists of this line with a tree of another line behind them isn't listed
  append_fails : (line_number other : ℕ) → Rejection
  -- the row of an element of this name around the lists of this line isn't listed
  wrap_fails : (line_number : ℕ) (name : ExpandedName) → Rejection
  -- the trees of this line may be whole documents, and their results aren't valid
  root_fails : (line_number : ℕ) → Rejection

abbrev pub rejection : made.Rejection → Rejection
rejection (Form line) = form_fails line
rejection (Fit line) = fit_fails line
rejection Empty = empty_fails
rejection Text = text_fails
rejection (Append line other) = append_fails line other
rejection (Wrap line element) = wrap_fails line (name element)
rejection (Root line) = root_fails line

-- a rule that fails, as it is told: a symbol by the name that stands for it
abbrev pub told_by : List Mention → RejectRule → ℕ → ℕ → Rejection
told_by symbols rule.Form line other = form_fails line
told_by symbols rule.Fit line other = fit_fails line
told_by symbols rule.Empty line other = empty_fails
told_by symbols rule.Text line other = text_fails
told_by symbols rule.Append line other = append_fails line other
told_by symbols rule.Wrap line other = wrap_fails line (fresh_name symbols other)
told_by symbols rule.Root line other = root_fails line

abbrev pub told : Triple → RejectRule → ℕ → ℕ → Rejection
told x r line other = told_by x.symbols r line other

module _ (i o : Grammar) (s : Sheet) where
  -- the data isn't that of a certificate, and this is the first rule that fails
  abbrev pub IsRejectedFor : CertData → Rejection → Type 0
  IsRejectedFor d why = (x : Triple) × (reject : Reject) × IsTripleOf i o s x × IsRejected x d reject × (why ≡ told x reject.rule reject.line reject.other)

  -- why bytes aren't the text of a certificate: a line of the text isn't as it must be, or a rule fails
  pub data IsRejectionOf (bytes : List ℕ) : Rejection → Type 0 where
    of_form : {line_number : ℕ} → IsFirstFault bytes line_number → IsRejectionOf bytes (form_fails line_number)
    of_rule : {d : CertData} {why : Rejection} → CertificateText bytes d → IsRejectedFor d why → IsRejectionOf bytes why
