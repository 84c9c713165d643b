-- What the steps over comments, processing instructions, CDATA sections and character data answer.
use Rattle.std.specs.Prelude.{◌≡◌, ◌≤◌, ◌-◌, ℕ, List, Option, None, Some, length, drop}
use Rattle.tc_stream.specs.Scans.{Scan, before, going, broken}
use Rattle.tc_stream.specs.declared.ends.Ended.{Ended}
use Rattle.tc_stream.specs.declared.ends.Ended.TheVariants as ends

-- where a text ends something, as a scan says
abbrev pub TellsEnd : Ended → List ℕ → Scan → Type 0
TellsEnd (ends.Before left) text (before rest) = (left ≤ length text) × (rest ≡ drop (length text - left) text)
TellsEnd (ends.Before left) text (going n) = ⊥
TellsEnd (ends.Before left) text broken = ⊥
TellsEnd (ends.Not known) text (before rest) = ⊥
TellsEnd (ends.Not known) text (going n) = known ≡ n
TellsEnd (ends.Not known) text broken = ⊥
TellsEnd ends.Broken text (before rest) = ⊥
TellsEnd ends.Broken text (going n) = ⊥
TellsEnd ends.Broken text broken = Unit {0}

-- whether character data may go on: the end of a CDATA section may not stand in it
abbrev pub TellsData : Option ℕ → Scan → Type 0
TellsData (Some known) (before rest) = ⊥
TellsData (Some known) (going n) = known ≡ n
TellsData (Some known) broken = ⊥
TellsData None (before rest) = Unit {0}
TellsData None (going n) = ⊥
TellsData None broken = Unit {0}
