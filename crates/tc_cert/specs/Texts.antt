-- The text of a certificate, in either version.
use Rattle.std.specs.Prelude.{◌≡◌, ℕ, List, [], ◌∷◌, ◌++◌, length, flat_map, codes, decimal}
use Rattle.tc_model.specs.declared.lists.TreeLine.{TreeLine}
use Rattle.tc_model.specs.declared.lists.HedgeLine.{HedgeLine}
use Rattle.tc_model.specs.declared.lists.CertData.{CertData}
use Rattle.tc_model.specs.CertificateLines.{pairs_line, tree_line, hedge_line, tree_behind, hedge_behind}
use Rattle.tc_model.specs.CertificateData.{IsFormed}

-- how rows are written: each whole, or as changes of the row before
pub data Version : Type 0 where
  whole : Version
  by_changes : Version

-- the bytes of a line, and its line feed
abbrev pub ended : List ℕ → List ℕ
ended line = line ++ codes "\n"

abbrev pub heading : Version → List ℕ
heading whole = codes "xslt-typecheck certificate 1"
heading by_changes = codes "xslt-typecheck certificate 2"

-- a line that tells how many lines of a kind follow
abbrev pub counted : List ℕ → ℕ → List ℕ
counted kind count = kind ++ codes " " ++ decimal count

-- a row behind another
abbrev pub tree_in : Version → TreeLine → TreeLine → List ℕ
tree_in whole before t = tree_line t
tree_in by_changes before t = tree_behind before t

abbrev pub hedge_in : Version → HedgeLine → HedgeLine → List ℕ
hedge_in whole before h = hedge_line h
hedge_in by_changes before h = hedge_behind before h

-- lines of rows behind a row, each written by the row before it
abbrev pub rows_behind : {X : Type 0} → (X → X → List ℕ) → X → List X → List ℕ
rows_behind later before [] = []
rows_behind later before (r ∷ rs) = ended (later before r) ++ rows_behind later r rs

-- lines of rows behind the first of them
abbrev pub rows_left : {X : Type 0} → (X → X → List ℕ) → List X → List ℕ
rows_left later [] = []
rows_left later (r ∷ rs) = rows_behind later r rs

-- lines of rows, the first by itself
abbrev pub rows_in : {X : Type 0} → (X → List ℕ) → (X → X → List ℕ) → List X → List ℕ
rows_in first later [] = []
rows_in first later (r ∷ rs) = ended (first r) ++ rows_behind later r rs

abbrev pub output_text : List (ℕ × ℕ) → List ℕ
output_text ps = ended (pairs_line ps)

abbrev pub outputs_part : List (List (ℕ × ℕ)) → List ℕ
outputs_part outputs = ended (counted (codes "outputs") (length outputs)) ++ flat_map output_text outputs

abbrev pub trees_part : Version → List TreeLine → List ℕ
trees_part v trees = ended (counted (codes "trees") (length trees)) ++ rows_in tree_line (tree_in v) trees

abbrev pub hedges_part : Version → List HedgeLine → List ℕ
hedges_part v hedges = ended (counted (codes "hedges") (length hedges)) ++ rows_in hedge_line (hedge_in v) hedges

-- all that stands behind the outputs
abbrev pub rows_part : Version → CertData → List ℕ
rows_part v d = trees_part v d.trees ++ hedges_part v d.hedges ++ ended (codes "end")

-- the text of data
abbrev pub text : Version → CertData → List ℕ
text v d = ended (heading v) ++ (outputs_part d.outputs ++ rows_part v d)

-- the bytes are the text of this data, in one of the versions
pub record CertificateText (bytes : List ℕ) (d : CertData) : Type 0 where
  pub formed : IsFormed d
  pub version : Version
  pub spelled : bytes ≡ text version d
