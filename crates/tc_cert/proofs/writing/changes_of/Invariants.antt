use Rattle.std.proofs.Common.{◌≡◌, ◌≤◌, ◌++◌, length, drop}
use Rattle.tc_model.specs.CertificateLines.{changes}
use Rattle.tc_cert.proofs.writing.changes_of.Given as goal

abbrev pub invariant-loop-i : goal.invariant-loop-i
invariant-loop-i l = record {
  so_far : l.changes ++ changes l.i (drop l.i l.old) (drop l.i l.new) ≡ changes 0 l.old l.new;
  few : length l.changes ≤ l.i;
}
