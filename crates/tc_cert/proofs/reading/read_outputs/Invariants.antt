use Rattle.std.proofs.Common.{◌≤◌, ◌-◌, ℕ, List, length, IfSome}
use Rattle.tc_model.specs.CertificateData.{ArePairs}
use Rattle.tc_cert.specs.Fields.{last_of}
use Rattle.tc_cert.specs.Fronts.{begun, in_outputs}
use Rattle.tc_cert.specs.Standing.{Stands}
use Rattle.tc_cert.specs.Texts.{Version}
use Rattle.tc_cert.proofs.reading.read_outputs.Given as goal

abbrev pub invariant-loop-alloc : goal.invariant-loop-alloc
invariant-loop-alloc l = record {
  stands : (v : Version) (bytes : List ℕ) → Stands v bytes (begun v) l.fn.reader → Stands v bytes (in_outputs v l.count l.outputs) l.reader;
  few : length l.outputs ≤ l.count;
  formed : IfSome (last_of l.outputs) ArePairs;
}

abbrev pub decreases-loop-alloc : goal.decreases-loop-alloc
decreases-loop-alloc l = l.count - length l.outputs
