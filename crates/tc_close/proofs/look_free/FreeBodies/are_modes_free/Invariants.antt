use Rattle.std.proofs.Common.{◌<◌, ℕ}
use Rattle.tc_model.specs.Letters.{IsLetter}
use Rattle.tc_rows.specs.Triples.{Triple, sheet, predicates}
use Rattle.tc_beh.specs.Stands.{IsRulesIn}
use Rattle.tc_close.specs.LookFree.{AreFreeBodies, IsFreeMode, plain_letter}
use Rattle.tc_close.proofs.look_free.FreeBodies.are_modes_free.Given as goal

abbrev pub invariant-loop-mode : goal.invariant-loop-mode
invariant-loop-mode l =
    (x : Triple) (mode : ℕ) → IsRulesIn x l.rules → AreFreeBodies (sheet x) l.self → IsLetter x.symbols (predicates x) (plain_letter l.symbol) → mode < l.mode → IsFreeMode x l.symbol mode
