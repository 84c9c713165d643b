use Rattle.std.proofs.Common.{◌≡◌, ◌≤◌, ◌-◌, ℕ, List, length, IfSome}
use Rattle.std.specs.Option.{option_map}
use Rattle.tc_cert.specs.Fields.{fields_of, last_of, IsFormedRow}
use Rattle.tc_cert.specs.Fronts.{in_outputs, in_trees}
use Rattle.tc_cert.specs.NextRows.{IsShort}
use Rattle.tc_cert.specs.Standing.{Stands}
use Rattle.tc_cert.specs.Texts.{Version}
use Rattle.tc_cert.proofs.RowLines.{of_tree}
use Rattle.tc_cert.proofs.reading.read_trees.Given as goal

abbrev pub invariant-loop-alloc : goal.invariant-loop-alloc
invariant-loop-alloc l = record {
  stands : (v : Version) (bytes : List ℕ) (os : List (List (ℕ × ℕ))) → Stands v bytes (in_outputs v (length os) os) l.fn.reader → Stands v bytes (in_trees v os l.count l.trees) l.reader;
  few : length l.trees ≤ l.count;
  last : option_map fields_of l.before ≡ option_map of_tree (last_of l.trees);
  good : IfSome l.before (λ b. IsFormedRow (fields_of b) × IsShort (fields_of b));
}

abbrev pub decreases-loop-alloc : goal.decreases-loop-alloc
decreases-loop-alloc l = l.count - length l.trees
