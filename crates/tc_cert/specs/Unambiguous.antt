-- No line is that of two outputs or rows.
use Rattle.std.specs.Prelude.{◌≡◌, ℕ, List}
use Rattle.tc_model.specs.declared.lists.TreeLine.{TreeLine}
use Rattle.tc_model.specs.declared.lists.HedgeLine.{HedgeLine}
use Rattle.tc_model.specs.CertificateLines.{pairs_line, tree_line, hedge_line}
use Rattle.tc_model.specs.CertificateData.{ArePairs, IsFormedTree, IsFormedHedge}

abbrev pub OneOutput : Type 0
OneOutput = (ps qs : List (ℕ × ℕ)) → ArePairs ps → ArePairs qs → pairs_line ps ≡ pairs_line qs → ps ≡ qs

abbrev pub OneTree : Type 0
OneTree = (t u : TreeLine) → IsFormedTree t → IsFormedTree u → tree_line t ≡ tree_line u → t ≡ u

abbrev pub OneHedge : Type 0
OneHedge = (h k : HedgeLine) → IsFormedHedge h → IsFormedHedge k → hedge_line h ≡ hedge_line k → h ≡ k
