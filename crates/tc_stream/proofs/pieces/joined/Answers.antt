use Rattle.std.proofs.Common.{append-nil, arith, sym}
use Rattle.tc_stream.specs.Cuts.{cut_bytes}
use Rattle.tc_stream.proofs.PieceLaws.{cut_count}
use Rattle.tc_stream.proofs.pieces.joined.Goals as goal

pub loop-byte-init : goal.loop-byte-init
loop-byte-init c = record { bytes = sym (append-nil (cut_bytes c.args.cut)); count = omega arith }

pub with-all-requires : goal.with-all-requires
with-all-requires c = let room = c.requires in let counted = c.loop-byte.invariant.count in omega (arith, room, counted, cut_count c.args.cut)
