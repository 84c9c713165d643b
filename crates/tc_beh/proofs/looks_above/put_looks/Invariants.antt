use Rattle.std.proofs.Common.{◌≡◌, ◌<◌, ◌≤◌, ◌+◌, ◌-◌, ℕ, get_or}
use Rattle.tc_model.specs.Letters.{IsLetter}
use Rattle.tc_rules.specs.Asked.{letter}
use Rattle.tc_rules.specs.States.{Looking}
use Rattle.tc_rules.specs.Tasks.{IsLookAt}
use Rattle.tc_rows.specs.Triples.{Triple, predicates, moves}
use Rattle.tc_beh.specs.LooksAbove.{found_above}
use Rattle.tc_beh.specs.RoomsOf.{IsRoomBeside}
use Rattle.tc_beh.specs.Stands.{IsRulesIn}
use Rattle.tc_beh.proofs.looks_above.put_looks.Given as goal

abbrev pub invariant-loop-place : goal.invariant-loop-place
invariant-loop-place l = record {
  beside : IsRoomBeside l.fn.out l.out;
  others : (k : ℕ) → k < 2 + l.fn.out.flags + l.fn.out.entries → get_or l.out.numbers.items k 0 ≡ get_or l.fn.out.numbers.items k 0;
  few : (i : ℕ) → i < l.place → get_or l.out.numbers.items (2 + l.fn.out.flags + l.fn.out.entries + i) 0 ≤ 2;
  looks : (x : Triple) (k : ℕ) (s : Looking) → IsRulesIn x l.rules → IsLetter x.symbols (predicates x) (letter l.kind l.marks) → IsLookAt x.rules k s → k - moves x < l.place
      → get_or l.out.numbers.items (2 + l.fn.out.flags + l.fn.out.entries + (k - moves x)) 0 ≡ found_above x l.bears l.looks (letter l.kind l.marks) s;
}
