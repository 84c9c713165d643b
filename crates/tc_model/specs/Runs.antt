-- What contracts see of a run of adjacent texts.
use Rattle.std.specs.Prelude.{ℕ, List, [], string_bytes}
use Rattle.tc_model.specs.declared.normal.Run.{Run}
use Rattle.tc_model.specs.declared.normal.Run.TheVariants.{Nothing, One, Many}

-- the bytes of its texts
abbrev pub run_text : Run → List ℕ
run_text Nothing = []
run_text (One only) = only.now
run_text (Many joined) = string_bytes joined
