-- What contracts see of what is told of spots.
use Rattle.std.specs.Prelude.{List, map}
use Rattle.tc_answer.specs.SpotLines as l
use Rattle.tc_answer.specs.SpotLines.{SpotUse}
use Rattle.tc_dead.specs.Views.{seen}
use Rattle.tc_decide.specs.declared.spots.SpotTold.{SpotTold}
use Rattle.tc_decide.specs.declared.spots.Told.{Told}
use Rattle.tc_decide.specs.declared.spots.Told.TheVariants.{Dead, Used, UsedTooLarge}
use Rattle.tc_model.specs.Trees.{none}
use Rattle.tc_model.specs.Views.{before}

abbrev pub use_of : Told → l.Use
use_of Dead = l.unused
use_of (Used document) = l.used (before document none)
use_of UsedTooLarge = l.used_large

abbrev pub spot_use : SpotTold → SpotUse
spot_use t = record { spot = seen t.spot; found = use_of t.told }

abbrev pub spot_uses : List SpotTold → List SpotUse
spot_uses told = map spot_use told
