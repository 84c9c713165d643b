-- Which rule of a certificate is broken first, and by which line.
use Rattle.std.specs.Prelude.{◌≡◌, ◌<◌, ◌≤◌, ◌⊎◌, ℕ, length}
use Rattle.tc_model.specs.Symbols.{symbol_count}
use Rattle.tc_model.specs.declared.lists.CertData.{CertData}
use Rattle.tc_model.specs.CertificateFits.{line_of_tree, line_of_hedge, AllFit, IsUnfit}
use Rattle.tc_rows.specs.Triples.{Triple}
use Rattle.tc_verify.specs.Rules as r
use Rattle.tc_rows.specs.CertificateRows.{trees_of, hedges_of, IsCertificateData}
use Rattle.tc_verify.specs.Fits.{sizes}
use Rattle.tc_verify.specs.declared.reject.RejectRule.{RejectRule}
use Rattle.tc_verify.specs.declared.reject.RejectRule.TheVariants as rule
use Rattle.tc_verify.specs.declared.reject.Reject.{Reject}
use Rattle.tc_verify.specs.declared.reject.VerifyFault.{VerifyFault}
use Rattle.tc_verify.specs.declared.reject.VerifyFault.TheVariants.{Rejected, NoMemory}

module _ (x : Triple) (c : CertData) where
  -- a rule is broken by a line, and by another line or a symbol, or else 0. Data has its form
  abbrev pub IsBroken : RejectRule → ℕ → ℕ → Type 0
  IsBroken rule.Form line other = ⊥
  IsBroken rule.Fit line other = IsUnfit (sizes x) c line × (other ≡ 0)
  IsBroken rule.Empty line other = (¬ r.IsEmptyListed x (hedges_of c)) × (line ≡ 0) × (other ≡ 0)
  IsBroken rule.Text line other = (¬ r.IsTextListed x (trees_of c)) × (line ≡ 0) × (other ≡ 0)
  IsBroken rule.Append line other =
      (i : ℕ) × (j : ℕ) × (i < length c.hedges) × (j < length c.trees) × (line ≡ line_of_hedge c i) × (other ≡ line_of_tree c j) × ¬ r.AppendIsListed x (trees_of c) (hedges_of c) i j
  IsBroken rule.Wrap line other = (i : ℕ) × (i < length c.hedges) × (other < symbol_count x.symbols) × (line ≡ line_of_hedge c i) × ¬ r.WrapIsListed x (trees_of c) (hedges_of c) i other
  IsBroken rule.Root line other = (j : ℕ) × (j < length c.trees) × (line ≡ line_of_tree c j) × (other ≡ 0) × ¬ r.RootIsGood x (trees_of c) (hedges_of c) j

  -- by the least line, and then by the least other
  pub record IsFirstBroken (rule : RejectRule) (line other : ℕ) : Type 0 where
    pub broken : IsBroken rule line other
    pub least : (l o : ℕ) → IsBroken rule l o → (line < l) ⊎ ((line ≡ l) × (other ≤ o))

-- the order of the rules
abbrev pub rank : RejectRule → ℕ
rank rule.Form = 0
rank rule.Fit = 1
rank rule.Empty = 2
rank rule.Text = 3
rank rule.Append = 4
rank rule.Wrap = 5
rank rule.Root = 6

-- of the rules that are broken the first, and the data is no certificate
pub record IsRejected (x : Triple) (c : CertData) (reject : Reject) : Type 0 where
  pub first : IsFirstBroken x c reject.rule reject.line reject.other
  pub earlier : (rule : RejectRule) (l o : ℕ) → rank rule < rank reject.rule → ¬ IsBroken x c rule l o
  pub none : ¬ IsCertificateData x c

-- why data isn't verified: a rule is broken, or all numbers fit and there is no memory for what the other rules are tried with
abbrev pub IsCause : Triple → CertData → VerifyFault → Type 0
IsCause x c (Rejected reject) = IsRejected x c reject
IsCause x c NoMemory = AllFit (sizes x) c
