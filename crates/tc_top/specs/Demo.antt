-- The texts of a demonstration: a schema in which each element has any number of the next one, and the stylesheet that copies all elements.
use Rattle.std.specs.Prelude.{ℕ, zero, suc, ◌+◌, ◌%◌, List, [], ◌++◌, codes, decimal}

-- the definition of one element, whose children are those of the next number, and behind the last number those of the first
abbrev pub demo_line : ℕ → ℕ → List ℕ
demo_line size i = codes "e" ++ decimal i ++ codes " = element e" ++ decimal i ++ codes " { e" ++ decimal (i % size + 1) ++ codes "* }\n"

abbrev pub demo_lines : ℕ → ℕ → List ℕ
demo_lines size zero = []
demo_lines size (suc i) = demo_lines size i ++ demo_line size (suc i)

-- both schemas
abbrev pub demo_schema : ℕ → List ℕ
demo_schema size = codes "start = e1\n" ++ demo_lines size size

abbrev pub demo_sheet : List ℕ
demo_sheet = codes "<xsl:stylesheet version=\"1.0\" xmlns:xsl=\"http://www.w3.org/1999/XSL/Transform\"><xsl:template match=\"*\"><xsl:copy><xsl:apply-templates/></xsl:copy></xsl:template></xsl:stylesheet>"

-- how its texts would be named
abbrev pub input_name : List ℕ
input_name = codes "IN"

abbrev pub output_name : List ℕ
output_name = codes "OUT"

abbrev pub sheet_name : List ℕ
sheet_name = codes "SHEET"
