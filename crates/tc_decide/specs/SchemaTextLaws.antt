-- Each text of a schema is accepted or refused, and none is both.
use Rattle.std.specs.Prelude.{◌⊎◌, ℕ}
use Rattle.tc_decide.specs.Texts.{Spells, IsRefused}
use Rattle.tc_decide.specs.declared.schemas.SchemaText.{SchemaText}
use Rattle.tc_model.specs.Grammars.{Grammar}
use Rattle.tc_read.specs.declared.faults.Reason.{Reason}

-- each text spells a grammar, or is refused for some reason at some place
abbrev pub EachIsSpelledOrRefused : Type 0
EachIsSpelledOrRefused = (text : SchemaText) → ((g : Grammar) × Spells text g) ⊎ ((reason : Reason) × ((place : ℕ) × IsRefused text reason place))

-- and a text that is refused spells none
abbrev pub NoneIsBoth : Type 0
NoneIsBoth = (text : SchemaText) (reason : Reason) (place : ℕ) (g : Grammar) → IsRefused text reason place → Spells text g → ⊥
