-- Where bytes stop to be the text of a certificate: the first line that isn't as it must be, given those before it.
-- Whether the text can still be completed isn't looked at, so each text that is no certificate's has one
-- first faulty line.
use Rattle.std.specs.Prelude.{◌≡◌, ◌≤◌, ◌+◌, ℕ, List, [], ◌++◌, length, flat_map, map, All, codes}
use Rattle.tc_base.specs.declared.limits.TheConstants.{GREATEST_LIMIT, MOST_OUTPUTS}
use Rattle.tc_model.specs.declared.lists.TreeLine.{TreeLine}
use Rattle.tc_model.specs.declared.lists.HedgeLine.{HedgeLine}
use Rattle.tc_model.specs.declared.lists.CertData.{CertData}
use Rattle.tc_model.specs.CertificateLines.{pairs_line, tree_line, hedge_line}
use Rattle.tc_model.specs.CertificateData.{ArePairs, IsFormedTree, IsFormedHedge, AreOrdered, IsFormed}
use Rattle.tc_cert.specs.Texts.{Version, ended, heading, counted, tree_in, hedge_in, rows_in, output_text, outputs_part, trees_part, text, CertificateText}

-- lines from the front of a text, by what they say: up to the heading, up to some outputs of so many, up to some
-- rows of so many, or all
pub data Front : Type 0 where
  nothing : Front
  begun : Version → Front
  in_outputs : Version → (count : ℕ) → List (List (ℕ × ℕ)) → Front
  in_trees : Version → List (List (ℕ × ℕ)) → (count : ℕ) → List TreeLine → Front
  in_hedges : Version → List (List (ℕ × ℕ)) → List TreeLine → (count : ℕ) → List HedgeLine → Front
  finished : Version → CertData → Front

-- how many lines they are
abbrev pub line_count : Front → ℕ
line_count nothing = 0
line_count (begun v) = 1
line_count (in_outputs v count outputs) = 2 + length outputs
line_count (in_trees v outputs count trees) = 3 + length outputs + length trees
line_count (in_hedges v outputs trees count hedges) = 4 + length outputs + length trees + length hedges
line_count (finished v d) = 5 + length d.outputs + length d.trees + length d.hedges

abbrev pub front_text : Front → List ℕ
front_text nothing = []
front_text (begun v) = ended (heading v)
front_text (in_outputs v count outputs) = ended (heading v) ++ ended (counted (codes "outputs") count) ++ flat_map output_text outputs
front_text (in_trees v outputs count trees) = ended (heading v) ++ outputs_part outputs ++ ended (counted (codes "trees") count) ++ rows_in tree_line (tree_in v) trees
front_text (in_hedges v outputs trees count hedges) = ended (heading v) ++ outputs_part outputs ++ trees_part v trees ++ ended (counted (codes "hedges") count) ++ rows_in hedge_line (hedge_in v) hedges
front_text (finished v d) = text v d

-- so many outputs or rows at most, in the order of their lines
pub record AreOutputs (most : ℕ) (outputs : List (List (ℕ × ℕ))) : Type 0 where
  pub few : length outputs ≤ most
  pub most_few : most ≤ MOST_OUTPUTS
  pub formed : All ArePairs outputs
  pub ordered : AreOrdered (map pairs_line outputs)

pub record AreTrees (most : ℕ) (trees : List TreeLine) : Type 0 where
  pub few : length trees ≤ most
  pub most_few : most ≤ GREATEST_LIMIT
  pub formed : All IsFormedTree trees
  pub ordered : AreOrdered (map tree_line trees)

pub record AreHedges (most : ℕ) (hedges : List HedgeLine) : Type 0 where
  pub few : length hedges ≤ most
  pub most_few : most ≤ GREATEST_LIMIT
  pub formed : All IsFormedHedge hedges
  pub ordered : AreOrdered (map hedge_line hedges)

-- each line is as it must be, given those before it
abbrev pub IsGood : Front → Type 0
IsGood nothing = Unit {0}
IsGood (begun v) = Unit {0}
IsGood (in_outputs v count outputs) = AreOutputs count outputs
IsGood (in_trees v outputs count trees) = AreOutputs (length outputs) outputs × AreTrees count trees
IsGood (in_hedges v outputs trees count hedges) = AreOutputs (length outputs) outputs × AreTrees (length trees) trees × AreHedges count hedges
IsGood (finished v d) = IsFormed d

-- the bytes begin with so many lines, each as it must be
pub record BeginsWith (bytes : List ℕ) (f : Front) (rest : List ℕ) : Type 0 where
  pub good : IsGood f
  pub spelled : bytes ≡ front_text f ++ rest

-- the lines before this one are as they must be, and this one isn't, or stands behind the last
pub record IsFirstFault (bytes : List ℕ) (line : ℕ) : Type 0 where
  pub before : Front
  pub rest : List ℕ
  pub begins : BeginsWith bytes before rest
  pub next : line ≡ line_count before + 1
  pub no_more : (f : Front) (after : List ℕ) → BeginsWith bytes f after → line_count f ≤ line_count before
  pub no_text : (d : CertData) → CertificateText bytes d → ⊥

-- bytes have one such line at most
abbrev pub OneFirstFault : Type 0
OneFirstFault = (bytes : List ℕ) (one other : ℕ) → IsFirstFault bytes one → IsFirstFault bytes other → one ≡ other

-- and none where they are a text
abbrev pub TextHasNoFault : Type 0
TextHasNoFault = (bytes : List ℕ) (d : CertData) (line : ℕ) → CertificateText bytes d → IsFirstFault bytes line → ⊥
