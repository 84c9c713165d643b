use Rattle.std.proofs.Common.{◌≡◌, ◌++◌, ℕ, List, [], length}
use Rattle.std.specs.Slice.Iter.{chunks_rest, chunks_size}
use Rattle.tc_model.specs.Grammars.{Grammar}
use Rattle.tc_stream.specs.Streams.{StandsFor, fed_of}
use Rattle.tc_decide.proofs.pieces.feed_all.Given as goal

-- the stream stands for what has come of the text
abbrev pub invariant-loop-piece : goal.invariant-loop-piece
invariant-loop-piece l = record {
  size : chunks_size l.piece-iterator ≡ l.fn.size;
  read : (done : List ℕ) × (done ++ chunks_rest l.piece-iterator ≡ l.text) × (fed_of l.stream ≡ length done) × ((x : Grammar) → StandsFor x l.fn.begun [] → StandsFor x l.stream done);
}
