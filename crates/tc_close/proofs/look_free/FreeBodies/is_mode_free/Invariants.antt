use Rattle.std.proofs.Common.{◌<◌, ℕ}
use Rattle.tc_model.specs.Letters.{IsLetter}
use Rattle.tc_rows.specs.Triples.{Triple, sheet, predicates}
use Rattle.tc_beh.specs.Stands.{IsRulesIn}
use Rattle.tc_close.specs.LookFree.{AreFreeBodies, IsFreeAbove, plain_letter}
use Rattle.tc_close.proofs.look_free.FreeBodies.is_mode_free.Given as goal

abbrev pub invariant-loop-ancestor : goal.invariant-loop-ancestor
invariant-loop-ancestor l =
    (x : Triple) (q : ℕ) → IsRulesIn x l.rules → AreFreeBodies (sheet x) l.self → IsLetter x.symbols (predicates x) (plain_letter l.symbol) → q < l.ancestor → IsFreeAbove x l.symbol l.mode q
