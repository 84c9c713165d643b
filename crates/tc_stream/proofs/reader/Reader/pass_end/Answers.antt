use Rattle.std.proofs.Common.{◌++◌, refl, sym, subst, length, take, arith}
use Rattle.std.proofs.lemmas.List.{length-take-le}
use Rattle.tc_model.proofs.XmlTextChars.{cut_chars}
use Rattle.tc_stream.specs.Keeps.{IsReady}
use Rattle.tc_stream.proofs.DataReads.{open_tag}
use Rattle.tc_stream.proofs.StandsLaws.{reads_behind}
use Rattle.tc_stream.proofs.TagBehind.{ends_behind}
use Rattle.tc_stream.proofs.TagReads.{reads_front, shorter_by}
use Rattle.tc_stream.proofs.WholeTagReads.{plain_begins, plain_cut, plain_is_end, plain_low}
use Rattle.tc_stream.proofs.reader.Reader.pass_end.Goals as goal

pub split_at-requires : goal.split_at-requires
split_at-requires c = plain_cut c.utf8.text c.requires.tag.plain

pub returns-clause-reads : goal.returns-clause-reads
returns-clause-reads c = λ end.
    let text = c.args.text.now in
    let count = c.args.count in
    let w = c.requires.tag in
    let ended = c.end.new.self in
    reads_front c.args.self.now c.leave_tag.new.self text c.split_at.result.1.now end count c.split_at.ensures.back (subst IsReady (sym c.leave_tag.ensures.elements) (c.end.ensures.ready c.requires.ready))
    (λ x chars h r.
    let t = open_tag (length chars) (take count text) refl c.requires.open_here r (plain_begins w.plain) (cut_chars text count h (plain_cut c.utf8.text w.plain)).0 in
    reads_behind x c.leave_tag.new.self ended (chars ++ take count text)
    (ends_behind t.0 ended (omega (arith, length-take-le count text (plain_low w.plain), w.plain.short)) t.1 (λ l ls scope k. plain_is_end l.written.name w.plain (w.named l ls scope k))
    c.end.ensures.keeps (λ l ls run s many. c.end.ensures.steps x l ls run s many) (λ l run s one. c.end.ensures.valid x l run s one))
    c.leave_tag.ensures.elements c.leave_tag.ensures.part c.leave_tag.ensures.inside c.leave_tag.ensures.outside)

pub returns-clause-less : goal.returns-clause-less
returns-clause-less c =
    let p = c.requires.tag.plain in shorter_by c.args.text.now c.split_at.result.1.now c.args.count c.split_at.ensures.back (omega (arith, p.long)) (plain_low p)
