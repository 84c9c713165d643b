use Rattle.std.proofs.Common.{◌≡◌, ◌≤◌, ◌-◌, ℕ, List, [], length, IfSome}
use Rattle.std.specs.Option.{option_map}
use Rattle.tc_model.specs.declared.lists.TreeLine.{TreeLine}
use Rattle.tc_cert.specs.Fields.{fields_of, IsFormedRow}
use Rattle.tc_cert.specs.Fits.{Told, sizes_of, rows_front, rows_data}
use Rattle.tc_cert.specs.NextRows.{IsShort}
use Rattle.tc_cert.specs.Standing.{Stands}
use Rattle.tc_cert.specs.Texts.{Version}
use Rattle.tc_cert.proofs.ToldSoFar.{RowsSoFar}
use Rattle.tc_cert.proofs.fitting.first_row.Given as goal

abbrev pub invariant-loop-done : goal.invariant-loop-done
invariant-loop-done l = record {
  so_far : (v : Version) (bytes : List ℕ) (os : List (List (ℕ × ℕ))) (ts : List TreeLine) → length os ≡ l.listed → Stands v bytes (rows_front l.kind v os ts l.count []) l.fn.reader → Told (sizes_of l.ranges) (rows_data l.kind os ts []) l.fn.told_before
      → RowsSoFar l.kind v bytes (sizes_of l.ranges) os ts l.count l.done (option_map fields_of l.before) l.told l.reader;
  few : l.done ≤ l.count;
  good : IfSome l.before (λ b. IsFormedRow (fields_of b) × IsShort (fields_of b));
}

abbrev pub decreases-loop-done : goal.decreases-loop-done
decreases-loop-done l = l.count - l.done
