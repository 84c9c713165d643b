-- What the result of a marked stylesheet tells.
use Rattle.std.specs.Prelude.{◌⊎◌}
use Rattle.tc_model.specs.Trees.{Trees}
use Rattle.tc_model.specs.Validity.{IsValidOutput}
use Rattle.tc_model.specs.Sheets.{Sheet}
use Rattle.tc_dead.specs.Spots.{Spot}
use Rattle.tc_dead.specs.Instantiated.{IsInstantiated}
use Rattle.tc_dead.specs.Marked.{plain_schema}

-- this result of a document is valid for the plain schema, and the document doesn't instantiate the spot; or the other way round
abbrev pub Tells : Spot → Sheet → Trees → Trees → Type 0
Tells p s d out = (IsValidOutput plain_schema out × ¬ (IsInstantiated s d p)) ⊎ (IsInstantiated s d p × ¬ (IsValidOutput plain_schema out))
