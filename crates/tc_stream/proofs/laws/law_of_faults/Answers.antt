use Rattle.tc_stream.proofs.RefusedInPieces.{causes_of_whole}
use Rattle.tc_stream.proofs.laws.law_of_faults.Goals as goal

pub returns : goal.returns
returns c = causes_of_whole
