use Rattle.std.proofs.Common.{◌≡◌, ◌≤◌, ◌-◌, ℕ, List, [], IfSome}
use Rattle.tc_model.specs.CertificateData.{ArePairs}
use Rattle.tc_model.specs.CertificateFits.{Sizes}
use Rattle.tc_cert.specs.Fronts.{in_outputs}
use Rattle.tc_cert.specs.Standing.{Stands}
use Rattle.tc_cert.specs.Texts.{Version}
use Rattle.tc_cert.proofs.ToldSoFar.{OutputsSoFar}
use Rattle.tc_cert.proofs.fitting.first_output.Given as goal

abbrev pub invariant-loop-done : goal.invariant-loop-done
invariant-loop-done l = record {
  so_far : (v : Version) (bytes : List ℕ) (s : Sizes) → s.output_states ≡ l.states → Stands v bytes (in_outputs v l.count []) l.fn.reader → OutputsSoFar v bytes s l.count l.done l.before l.told l.reader;
  few : l.done ≤ l.count;
  formed : IfSome l.before ArePairs;
}

abbrev pub decreases-loop-done : goal.decreases-loop-done
decreases-loop-done l = l.count - l.done
