use Rattle.std.proofs.Common.{◌≡◌, ◌++◌, List, ℕ, IsUtf8, length}
use Rattle.tc_model.specs.Names.{IsChars}
use Rattle.tc_scan.proofs.chars.past_characters.Given as goal

-- the characters so far
abbrev pub invariant-loop-next : goal.invariant-loop-next
invariant-loop-next l = record {
  chars : (front : List ℕ) × (l.initial.rest ≡ front ++ l.rest) × IsChars front;
  text : IsUtf8 l.rest;
}

abbrev pub decreases-loop-next : goal.decreases-loop-next
decreases-loop-next l = length l.rest
