use Rattle.std.proofs.Common.{IsUtf8, length, map}
use Rattle.tc_dtd.specs.DtdText.{deepest_parenthesis}
use Rattle.tc_dtd.specs.PlacedViews.{placed}
use Rattle.tc_dtd.proofs.MarkupLaws.{Declares}
use Rattle.tc_dtd.proofs.markup.put_markup.Given as goal

abbrev pub invariant-loop-rest : goal.invariant-loop-rest
invariant-loop-rest l = record { so_far : Declares deepest_parenthesis l.total l.text l.rest (map placed l.found.items); text : IsUtf8 l.rest }

abbrev pub decreases-loop-rest : goal.decreases-loop-rest
decreases-loop-rest l = length l.rest
