use Rattle.std.proofs.Common.{subst}
use Rattle.std.proofs.lemmas.List.{take_rest}
use Rattle.tc_stream.specs.TagEnds.{TellsTag}
use Rattle.tc_stream.specs.declared.tag_ends.TagEnd.TheVariants as tags
use Rattle.tc_stream.proofs.TagReads.{behind_more, none_so_far, open_more, quoted_more, tag_shorter}
use Rattle.tc_stream.proofs.tag_reading.scan_tag.Goals as goal

pub quotes-init : goal.quotes-init
quotes-init c = none_so_far c.args.quote c.args.bytes.now

pub returns-in-Open : goal.returns-in-Open
returns-in-Open c = open_more c.quotes.invariant (subst (λ z. TellsTag c.quotes.within z tags.Open) (take_rest c.args.bytes.now c.quotes.from) c.in-Open.ensures)

pub quotes-preserved : goal.quotes-preserved
quotes-preserved c =
    quoted_more c.in-Quoted.count c.quotes.invariant (subst (λ z. TellsTag c.quotes.within z (tags.Quoted c.in-Quoted.next c.in-Quoted.count)) (take_rest c.args.bytes.now c.quotes.from) c.in-Quoted.ensures)

pub quotes-smaller : goal.quotes-smaller
quotes-smaller c =
    tag_shorter c.quotes.within c.in-Quoted.next c.args.bytes.now c.quotes.from c.in-Quoted.count c.quotes.invariant.low
    (subst (λ z. TellsTag c.quotes.within z (tags.Quoted c.in-Quoted.next c.in-Quoted.count)) (take_rest c.args.bytes.now c.quotes.from) c.in-Quoted.ensures)

pub returns-in-Behind : goal.returns-in-Behind
returns-in-Behind c =
    behind_more c.in-Behind.count c.quotes.invariant (subst (λ z. TellsTag c.quotes.within z (tags.Behind c.in-Behind.count)) (take_rest c.args.bytes.now c.quotes.from) c.in-Behind.ensures)
