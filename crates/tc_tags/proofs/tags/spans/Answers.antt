use Rattle.std.proofs.Common.{arith}
use Rattle.tc_scan.specs.Views.{written_name}
use Rattle.tc_tags.proofs.TagReadLaws.{name_stands}
use Rattle.tc_tags.proofs.tags.spans.Goals as goal

pub returns : goal.returns
returns c = λ front long.
    let (after, q) = c.requires.named in
    let w = c.requires.within in
    name_stands front c.args.text.now after (written_name c.args.name) _ q (omega (arith, long, w)) (omega (arith, long, w)) (omega (arith, long, w, c.colon_len-colon.ensures)) (omega (arith, long, w))
