use Rattle.std.proofs.Common.{◌+◌, refl, arith, length}
use Rattle.tc_stream.proofs.NamedLaws.{alone_read, alone_whole}
use Rattle.tc_stream.proofs.whole_tags.named_start.Goals as goal

pub returns : goal.returns
returns c =
    let local = c.in_ok-name.name.now in
    record {
      tag = alone_whole (length local + 2) c.in_ok-after_byte.ensures c.in_ok-name.ensures c.in_ok-_inside.ensures refl (omega (arith, c.if-count-gt-LONGEST_TAG.false));
      named = alone_read (length local + 2) c.in_ok-after_byte.ensures c.in_ok-name.ensures c.in_ok-_inside.ensures refl;
    }
