-- When a document, and when what a stylesheet puts out, is valid for a schema.
use Rattle.tc_model.specs.Trees.{Trees, IsDocument, normal_form}
use Rattle.tc_model.specs.Grammars.{Grammar}
use Rattle.tc_model.specs.Matching.{Matches}

-- a document that matches the start (RELAX NG, 6.3)
abbrev pub IsValid : Grammar → Trees → Type 0
IsValid g d = IsDocument d × Matches g.elements d g.start

-- trees in any number whose normal form matches the start
abbrev pub IsValidOutput : Grammar → Trees → Type 0
IsValidOutput g h = Matches g.elements (normal_form h) g.start
