-- Trees that are taken piece by piece, and the text of their normal form, which is written meanwhile.
use Rattle.std.specs.Prelude.{◌≡◌, ℕ, List, [], ◌++◌, Bool, true, false, codes}
use Rattle.std.specs.List.{flat_map}
use Rattle.tc_model.specs.Names.{ExpandedName}
use Rattle.tc_model.specs.Trees.{Trees, none, text, element, beside, is_white_space_only, normal_form}
use Rattle.tc_model.specs.Printed.{escaped_in_text, default_within, printed}
use Rattle.tc_print.specs.Pieces.{begun_tag, end_tag}
use Rattle.tc_print.specs.declared.writer.Spot.{Spot}
use Rattle.tc_print.specs.declared.writer.Spot.TheVariants.{InTag, InText, Between}
use Rattle.tc_print.specs.declared.writer.Writer.{Writer}

-- what is written; white space behind it, which is dropped unless text follows; where it ends; and the default namespace that is in force there
pub record Written : Type 0 where
  pub bytes : List ℕ
  pub white : List ℕ
  pub spot : Spot
  pub default : List ℕ

abbrev pub nothing_written : Written
nothing_written = record { bytes = []; white = []; spot = Between; default = [] }

abbrev pub written_by : Writer → Written
written_by w = record { bytes = w.buffer.bytes.items; white = w.white.items; spot = w.spot; default = w.default.now }

-- the end of a start tag that lacks it
abbrev pub tag_closed : Spot → List ℕ
tag_closed InTag = codes ">"
tag_closed InText = []
tag_closed Between = []

-- a text behind what is written: white space alone is held back, unless it stands in a text
abbrev pub with_first : Bool → List ℕ → Written → Written
with_first true s w = record { bytes = w.bytes; white = w.white ++ s; spot = w.spot; default = w.default }
with_first false s w =
    record { bytes = w.bytes ++ tag_closed w.spot ++ flat_map escaped_in_text (w.white ++ s); white = []; spot = InText; default = w.default }

abbrev pub with_text_at : Spot → List ℕ → Written → Written
with_text_at InTag s w = with_first (is_white_space_only s) s w
with_text_at Between s w = with_first (is_white_space_only s) s w
with_text_at InText s w = record { bytes = w.bytes ++ flat_map escaped_in_text s; white = w.white; spot = w.spot; default = w.default }

abbrev pub with_text : List ℕ → Written → Written
with_text s w = with_text_at w.spot s w

-- the start of an element: its tag still lacks its end
abbrev pub with_start : ExpandedName → Written → Written
with_start n w = record { bytes = w.bytes ++ tag_closed w.spot ++ begun_tag w.default n; white = []; spot = InTag; default = default_within w.default n }

-- the end of an element: of its start tag, if nothing stands in it, or its end tag
abbrev pub element_closed : Spot → ExpandedName → List ℕ
element_closed InTag n = codes "/>"
element_closed InText n = end_tag n
element_closed Between n = end_tag n

-- around it another default namespace is in force
abbrev pub with_end : ExpandedName → List ℕ → Written → Written
with_end n outside w = record { bytes = w.bytes ++ element_closed w.spot n; white = []; spot = Between; default = outside }

-- trees, one after the other
abbrev pub with_trees : Written → Trees → Written
with_trees w none = w
with_trees w (text s rest) = with_trees (with_text s w) rest
with_trees w (element n kids rest) = with_trees (with_end n w.default (with_trees (with_start n w) kids)) rest

-- what stands beside other trees comes after them
abbrev pub WritesInTurn : Type 0
WritesInTurn = (w : Written) (a b : Trees) → with_trees w (beside a b) ≡ with_trees (with_trees w a) b

-- the law of written trees: their normal form is printed
abbrev pub WritesNormalForm : Type 0
WritesNormalForm = (h : Trees) → (with_trees nothing_written h).bytes ≡ printed (normal_form h)
