-- What contracts see of schemas that were read, and of the machine of two of them and a stylesheet.
use Rattle.std.specs.Prelude.{◌≡◌, ℕ, List}
use Rattle.tc_auto.specs.Stands as a
use Rattle.tc_auto.specs.declared.auto.Auto.{Auto}
use Rattle.tc_base.specs.declared.Limit.{Limit}
use Rattle.tc_base.specs.declared.Limit.TheVariants.{Calls, Entries}
use Rattle.tc_base.specs.declared.limits.TheConstants.{MOST_INPUT_STATES, MOST_OUTPUT_STATES, DEEPEST_CALLS, MOST_ENTRIES}
use Rattle.tc_beh.specs.Machines.{IsMachineOf}
use Rattle.tc_beh.specs.declared.machine.Machine.{Machine}
use Rattle.tc_model.specs.Grammars as g
use Rattle.tc_model.specs.Grammars.{IsGrammar}
use Rattle.tc_model.specs.Sheets.{Sheet}
use Rattle.tc_model.specs.SimplifiesCounts.{IsWithinCounts}
use Rattle.tc_model.specs.SimplifiesLaws.{IsStart}
use Rattle.tc_model.specs.States.{input, output}
use Rattle.tc_model.specs.Symbols.{Mention, symbols_of}
use Rattle.tc_model.specs.Views.{grammar}
use Rattle.tc_read.specs.Schemas.{PassesSize}
use Rattle.tc_read.specs.declared.schemas.Schema.{Schema}
use Rattle.tc_read.specs.declared.schemas.Schema.TheVariants.{Small, TooLarge}
use Rattle.tc_rows.specs.Counts.{PassCalls, PassEntries}
use Rattle.tc_rows.specs.Triples.{Triple, sheet}
use Rattle.tc_decide.specs.Checking.{IsWithinTripleLimits}
use Rattle.tc_close.specs.Triples.{IsTripleOf}
use Rattle.tc_decide.specs.Limits.{IsWithinLimits, AreFew}
use Rattle.tc_decide.specs.declared.machine.LimitFault.{LimitFault}
use Rattle.tc_decide.specs.declared.machine.LimitFault.TheVariants.{Passes, NoMemory}

-- the schema is this grammar, or only told to pass a limit that this grammar passes
abbrev pub IsReadOf : g.Grammar → Schema → Type 0
IsReadOf x (Small read) = (grammar read ≡ x) × IsWithinCounts x
IsReadOf x (TooLarge kind number) = PassesSize x kind number

-- the schema is some well-formed grammar's
abbrev pub IsWellFormed : Schema → Type 0
IsWellFormed schema = (x : g.Grammar) × IsReadOf x schema × IsGrammar x

-- one with a start as documents need it
abbrev pub IsLawful : Schema → Type 0
IsLawful schema = (x : g.Grammar) × IsReadOf x schema × IsGrammar x × IsStart x.start

-- the limit that is named is passed, or memory was refused
abbrev pub IsCauseBy : (Limit → ℕ → Type 0) → LimitFault → Type 0
IsCauseBy passes (Passes kind number) = passes kind number
IsCauseBy passes NoMemory = Unit {0}

-- automata and symbols of two well-formed schemas and a stylesheet, within their limits
pub record AreAutomata (i o : g.Grammar) (s : Sheet) (contents states : Auto) (symbols : List Mention) : Type 0 where
  pub input_lawful : IsGrammar i
  pub start : IsStart i.start
  pub output_lawful : IsGrammar o
  pub input_stands : a.Stands input i contents
  pub output_stands : a.Stands output o states
  pub input_within : IsWithinLimits i input MOST_INPUT_STATES
  pub output_within : IsWithinLimits o output MOST_OUTPUT_STATES
  pub symbols_are : symbols ≡ symbols_of i o s
  pub few : AreFew symbols

-- the last limits that are tried before rows are, and their numbers
pub data PassesMachine (x : Triple) : Limit → ℕ → Type 0 where
  many_calls : PassCalls (sheet x) DEEPEST_CALLS → PassesMachine x Calls DEEPEST_CALLS
  many_entries : ¬ (PassCalls (sheet x) DEEPEST_CALLS) → PassEntries x MOST_ENTRIES → PassesMachine x Entries MOST_ENTRIES

-- the machine is that of two schemas and a stylesheet, which pass no limit that is tried before rows are
pub record IsMachineFor (i o : g.Grammar) (s : Sheet) (m : Machine) : Type 0 where
  pub triple : Triple
  pub of : IsTripleOf i o s triple
  pub machine : IsMachineOf triple m
  pub within_limits : IsWithinTripleLimits i o s
