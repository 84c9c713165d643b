-- The law of lawful results: names and texts are lawful in them.
use Rattle.tc_model.specs.Trees.{Trees, IsDocument, AreLawful}
use Rattle.tc_model.specs.Sheets.{Sheet}
use Rattle.tc_model.specs.WellFormed.{IsSheet}
use Rattle.tc_model.specs.Safety.{IsResultOf}

abbrev pub HasLawfulResults : Type 0
HasLawfulResults = (s : Sheet) (doc result : Trees) → IsSheet s → IsDocument doc → IsResultOf s doc result → AreLawful result
