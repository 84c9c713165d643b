-- The schema and the stylesheet that mention nothing.
use Rattle.std.specs.Prelude.{[]}
use Rattle.tc_model.specs.Grammars.{Grammar, not_allowed}
use Rattle.tc_model.specs.Sheets.{Sheet}

abbrev pub no_schema : Grammar
no_schema = record { start = not_allowed; elements = [] }

abbrev pub no_rules : Sheet
no_rules = record { modes = 1; eaches = 0; rules = []; named = [] }
