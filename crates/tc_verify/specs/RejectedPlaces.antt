-- A rule that is broken at places, and what is told of it.
use Rattle.std.specs.Prelude.{◌≡◌, ◌<◌, ℕ, length}
use Rattle.tc_model.specs.declared.lists.CertData.{CertData}
use Rattle.tc_model.specs.CertificateFits.{line_of_tree, line_of_hedge}
use Rattle.tc_verify.specs.declared.first.Broken.{Broken}
use Rattle.tc_verify.specs.declared.first.Broken.TheVariants as broken
use Rattle.tc_verify.specs.declared.reject.RejectRule.{RejectRule}
use Rattle.tc_verify.specs.declared.reject.RejectRule.TheVariants as rule
use Rattle.tc_verify.specs.declared.reject.Reject.{Reject}

-- the places are those of the certificate's rows
abbrev pub AreIn : CertData → Broken → Type 0
AreIn c broken.Empty = Unit {0}
AreIn c broken.Text = Unit {0}
AreIn c (broken.Append i j) = (i < length c.hedges) × (j < length c.trees)
AreIn c (broken.Wrap i a) = i < length c.hedges
AreIn c (broken.Root j) = j < length c.trees

pub record Tells (r : Reject) (the_rule : RejectRule) (line other : ℕ) : Type 0 where
  pub by_rule : r.rule ≡ the_rule
  pub by_line : r.line ≡ line
  pub by_other : r.other ≡ other

abbrev pub IsRejectOf : CertData → Broken → Reject → Type 0
IsRejectOf c broken.Empty r = Tells r rule.Empty 0 0
IsRejectOf c broken.Text r = Tells r rule.Text 0 0
IsRejectOf c (broken.Append i j) r = Tells r rule.Append (line_of_hedge c i) (line_of_tree c j)
IsRejectOf c (broken.Wrap i a) r = Tells r rule.Wrap (line_of_hedge c i) a
IsRejectOf c (broken.Root j) r = Tells r rule.Root (line_of_tree c j) 0
