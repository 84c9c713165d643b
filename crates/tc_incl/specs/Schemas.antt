-- Two schemas, the first of which may be included in the second, and what differs between them.
use Rattle.std.specs.Prelude.{◌≡◌, ◌≤◌, ◌⊎◌, List}
use Rattle.tc_model.specs.Trees.{Trees, node_count}
use Rattle.tc_model.specs.Grammars.{Grammar, IsGrammar}
use Rattle.tc_model.specs.Sheets.{Sheet}
use Rattle.tc_model.specs.SimplifiesLaws.{IsStart}
use Rattle.tc_model.specs.Symbols.{Mention, symbols_of}
use Rattle.tc_model.specs.Validity.{IsValid}
use Rattle.tc_model.specs.WellFormed.{IsSheet}

pub record Schemas : Type 0 where
  pub first : Grammar
  pub second : Grammar
  -- the symbols of both
  pub symbols : List Mention

-- both are well-formed, and the symbols are theirs and those of some stylesheet
pub record AreSchemas (x : Schemas) : Type 0 where
  pub first : IsGrammar x.first
  pub first_start : IsStart x.first.start
  pub second : IsGrammar x.second
  pub second_start : IsStart x.second.start
  pub sheet : Sheet
  pub well_formed : IsSheet sheet
  pub symbols : (x.symbols ≡ symbols_of x.first x.second sheet) ⊎ (x.symbols ≡ symbols_of x.second x.first sheet)

-- each document that is valid for the first is valid for the second
abbrev pub IsIncluded : Grammar → Grammar → Type 0
IsIncluded first second = (doc : Trees) → IsValid first doc → IsValid second doc

-- a document that is valid for the first and not for the second
abbrev pub IsDifference : Grammar → Grammar → Trees → Type 0
IsDifference first second doc = IsValid first doc × ¬ IsValid second doc

-- and none has fewer nodes
pub record IsLeastDifference (first second : Grammar) (doc : Trees) : Type 0 where
  pub differs : IsDifference first second doc
  pub least : (other : Trees) → IsDifference first second other → node_count doc ≤ node_count other
