-- Where a token stands, by names that other crates cite.
use Rattle.tc_path.specs.declared.reasons.Context.{Context as Where}
use Rattle.tc_path.specs.declared.reasons.Context.TheVariants.{Select, Value, Pattern, Test}

abbrev pub Context : Type 0
Context = Where

abbrev pub select : Context
select = Select

abbrev pub value : Context
value = Value

abbrev pub pattern : Context
pattern = Pattern

abbrev pub test : Context
test = Test
