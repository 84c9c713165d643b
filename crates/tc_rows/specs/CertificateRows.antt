-- The rows that are meant by the data of a certificate.
use Rattle.std.specs.Prelude.{List, map}
use Rattle.std.specs.List.{Contains}
use Rattle.tc_model.specs.Trees.{Trees}
use Rattle.tc_model.specs.Chains.{Tree}
use Rattle.tc_model.specs.LiveTrees.{IsLiveTree, IsLiveHedge}
use Rattle.tc_model.specs.declared.lists.TreeLine.{TreeLine}
use Rattle.tc_model.specs.declared.lists.HedgeLine.{HedgeLine}
use Rattle.tc_model.specs.declared.lists.CertData.{CertData}
use Rattle.tc_rows.specs.Triples.{Triple}
use Rattle.tc_rows.specs.Rows.{HedgeRow, TreeRow, IsRowOfHedge, IsRowOfTree}
use Rattle.tc_rows.specs.Certificates.{NumberedTree, NumberedHedge, IsCertificate, tree_of, hedge_of}

-- the rows of lines
abbrev pub numbered_tree : TreeLine → NumberedTree
numbered_tree l = record { is_text = l.text; bears = l.bears; patterns = l.patterns; entries = l.outs; looks = l.looks }

abbrev pub numbered_hedge : HedgeLine → NumberedHedge
numbered_hedge l = record { ends = l.ends; bears = l.bears; states = l.states; entries = l.outs; looks = l.looks }

-- the rows that are meant
abbrev pub trees_of : CertData → List TreeRow
trees_of c = map (λ l. tree_of c.outputs (numbered_tree l)) c.trees

abbrev pub hedges_of : CertData → List HedgeRow
hedges_of c = map (λ l. hedge_of c.outputs (numbered_hedge l)) c.hedges

-- the data is that of a certificate of the triple
abbrev pub IsCertificateData : Triple → CertData → Type 0
IsCertificateData x c = IsCertificate x c.outputs (map numbered_tree c.trees) (map numbered_hedge c.hedges)

-- the row of each live tree and that of each live list of trees is listed
pub record ListsAllLive (x : Triple) (c : CertData) : Type 0 where
  pub trees : (t : Tree) (r : TreeRow) → IsLiveTree x.input t → IsRowOfTree x t r → Contains (trees_of c) r
  pub hedges : (h : Trees) (r : HedgeRow) → IsLiveHedge x.input h → IsRowOfHedge x h r → Contains (hedges_of c) r
