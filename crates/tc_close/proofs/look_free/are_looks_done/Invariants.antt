use Rattle.std.proofs.Common.{◌<◌, ◌-◌, ℕ, List}
use Rattle.tc_model.specs.Letters.{IsLetter}
use Rattle.tc_rules.specs.States.{Looking}
use Rattle.tc_rules.specs.Tasks.{IsLookAt}
use Rattle.tc_rows.specs.Triples.{Triple, predicates, moves}
use Rattle.tc_beh.specs.Stands.{IsRulesIn}
use Rattle.tc_close.specs.LookFree.{IsDoneLook, plain_letter}
use Rattle.tc_close.proofs.look_free.are_looks_done.Given as goal

abbrev pub invariant-loop-place : goal.invariant-loop-place
invariant-loop-place l =
    (x : Triple) (k : ℕ) (s : Looking) (vs : List ℕ) → IsRulesIn x l.rules → IsLetter x.symbols (predicates x) (plain_letter l.symbol) → IsLookAt x.rules k s → k - moves x < l.place → IsDoneLook x l.symbol vs s
