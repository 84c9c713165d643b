-- The lines of an answer.
use Rattle.std.specs.Prelude.{ℕ, List, [], ◌∷◌, ◌++◌, codes, decimal}
use Rattle.tc_base.specs.declared.Limit.{Limit}
use Rattle.tc_base.specs.declared.Limit.TheVariants.{Pattern, Depth, Elements, States, Symbols, Predicates, Ancestors, Selects, Calls, Entries}
use Rattle.tc_decide.specs.Rejections.{Rejection, form_fails, fit_fails, empty_fails, text_fails, append_fails, wrap_fails, root_fails}
use Rattle.tc_decide.specs.RowCounts.{RowCount, trees, hedges, outputs}
use Rattle.tc_model.specs.Names.{ExpandedName}
use Rattle.tc_model.specs.Printed.{printed}
use Rattle.tc_model.specs.Trees.{Trees}

-- a line ends with a line feed
abbrev pub line : List ℕ → List ℕ
line text = text ++ 10 ∷ []

-- the line that tells of a limit: its word and its number
abbrev pub limit_line : List ℕ → ℕ → List ℕ
limit_line word number = line (codes "limit " ++ word ++ codes " " ++ decimal number)

abbrev pub limit_word : Limit → List ℕ
limit_word Pattern = codes "pattern"
limit_word Depth = codes "depth"
limit_word Elements = codes "elements"
limit_word States = codes "states"
limit_word Symbols = codes "symbols"
limit_word Predicates = codes "predicates"
limit_word Ancestors = codes "ancestors"
limit_word Selects = codes "selects"
limit_word Calls = codes "calls"
limit_word Entries = codes "entries"

abbrev pub count_word : RowCount → List ℕ
count_word trees = codes "trees"
count_word hedges = codes "hedges"
count_word outputs = codes "outputs"

abbrev pub safe_line : ℕ → ℕ → ℕ → List ℕ
safe_line tree_rows hedge_rows output_sets = line (codes "safe trees " ++ decimal tree_rows ++ codes " hedges " ++ decimal hedge_rows ++ codes " outputs " ++ decimal output_sets)

-- the line that shows a document
abbrev pub document_line : Trees → List ℕ
document_line document = line (codes "document " ++ printed document)

-- the lines that tell of a counterexample
abbrev pub counterexample_lines : Trees → List ℕ
counterexample_lines document = line (codes "unsafe") ++ document_line document

abbrev pub unsafe_lines : Trees → Trees → List ℕ
unsafe_lines document output = counterexample_lines document ++ line (codes "output " ++ printed output)

abbrev pub unsafe_large_lines : Trees → List ℕ
unsafe_large_lines document = counterexample_lines document ++ line (codes "output-too-large")

-- the line that tells that a schema is included in another, with the numbers of rows of its trees and of its lists of trees
abbrev pub included_line : ℕ → ℕ → List ℕ
included_line tree_rows hedge_rows = line (codes "included trees " ++ decimal tree_rows ++ codes " hedges " ++ decimal hedge_rows)

-- the lines that tell of a document that is valid for the first of two schemas alone
abbrev pub not_included_lines : Trees → List ℕ
not_included_lines document = line (codes "not-included") ++ document_line document

-- the lines that tell of a document that is valid for one of two schemas alone, behind the word for that one
abbrev pub different_lines : List ℕ → Trees → List ℕ
different_lines word document = line (codes "different") ++ line (word ++ codes " " ++ printed document)

-- a namespace name in braces, unless it is empty
abbrev pub namespace_text : List ℕ → List ℕ
namespace_text [] = []
namespace_text (c ∷ cs) = codes "{" ++ (c ∷ cs) ++ codes "}"

abbrev pub name_text : ExpandedName → List ℕ
name_text name = namespace_text name.uri ++ name.local

abbrev pub rejection_text : Rejection → List ℕ
rejection_text (form_fails n) = decimal n ++ codes " form"
rejection_text (fit_fails n) = decimal n ++ codes " fit"
rejection_text empty_fails = codes "0 empty"
rejection_text text_fails = codes "0 text"
rejection_text (append_fails n other) = decimal n ++ codes " append " ++ decimal other
rejection_text (wrap_fails n name) = decimal n ++ codes " wrap " ++ name_text name
rejection_text (root_fails n) = decimal n ++ codes " root"

abbrev pub rejected_line : Rejection → List ℕ
rejected_line why = line (codes "rejected " ++ rejection_text why)
