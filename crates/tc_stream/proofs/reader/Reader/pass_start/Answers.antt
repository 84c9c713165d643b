use Rattle.std.proofs.Common.{◌++◌, ap, sym, subst, length, arith}
use Rattle.std.proofs.lemmas.List.{length-take-le}
use Rattle.tc_stream.specs.Keeps.{IsReady}
use Rattle.tc_stream.specs.Reading.{FaultsOn}
use Rattle.tc_stream.specs.Stands.{ReadsTo}
use Rattle.tc_stream.specs.TagStands.{IsStartTag}
use Rattle.tc_stream.proofs.DataReads.{open_tag}
use Rattle.tc_stream.proofs.StandsLaws.{reads_behind}
use Rattle.tc_stream.proofs.TagReads.{failed, front_chars, front_fault, shorter_by}
use Rattle.tc_stream.proofs.WholeTagReads.{reads_at, start_cut, start_tag_begins}
use Rattle.tc_tags.proofs.FailedLaws.{failed_ok}
use Rattle.std.specs.Prelude.{IfSome}
use Rattle.tc_stream.specs.Named.{IsTagOf}
use Rattle.tc_stream.proofs.reader.Reader.pass_start.Goals as goal

pub split_at-requires : goal.split_at-requires
split_at-requires c = start_cut c.utf8.text c.requires.tag.tag

pub start_by-requires-clause-low : goal.start_by-requires-clause-low
start_by-requires-clause-low c = omega (arith, c.place_of.ensures, c.requires.low)

pub start_by-requires-clause-short : goal.start_by-requires-clause-short
start_by-requires-clause-short c = omega (arith, ap length c.split_at.ensures.front, length-take-le c.args.tag.now.count c.args.text.now c.requires.tag.tag.low, c.requires.tag.tag.short)

pub returns-in_err-start_by-clause-fault : goal.returns-in_err-start_by-clause-fault
returns-in_err-start_by-clause-fault c =
    let text = c.args.text.now in
    let count = c.args.tag.now.count in
    let front = c.split_at.result.0.now in
    let first = c.split_at.ensures.front in
    let e = c.in_err-start_by.field-0.0 in
    let w = subst IsStartTag (sym first) c.requires.tag.tag.tag in
    failed c.from_residual.result e (λ e. FaultsOn c.args.self.now text c.args.end e) c.from_residual.ensures.1
    (λ x chars h fit r.
    let t = open_tag c.place_of.result front (omega (arith, c.place_of.ensures, fit)) c.requires.open_here r (start_tag_begins w) (front_chars text front count (start_cut c.utf8.text c.requires.tag.tag) first h) in
    front_fault chars text front count e first (c.in_err-start_by.ensures.fault x (chars ++ front) w t.0))

pub returns-clause-ok : goal.returns-clause-ok
returns-clause-ok c =
    let text = c.args.text.now in
    let count = c.args.tag.now.count in
    let front = c.split_at.result.0.now in
    let first = c.split_at.ensures.front in
    let new = c.leave_tag.new.self in
    let w = subst IsStartTag (sym first) c.requires.tag.tag.tag in
    reads_at c.args.self.now new text c.split_at.result.1.now c.args.end count c.split_at.ensures.back (subst IsReady (sym c.leave_tag.ensures.elements) c.in_ok-start_by.ensures.ready)
    (λ x chars h fit r.
    let t = open_tag c.place_of.result front (omega (arith, c.place_of.ensures, fit)) c.requires.open_here r (start_tag_begins w) (front_chars text front count (start_cut c.utf8.text c.requires.tag.tag) first h) in
    subst (λ z. ReadsTo x new (chars ++ z)) first
    (reads_behind x new c.start_by.new.elements (chars ++ front) (c.in_ok-start_by.ensures.ok x (chars ++ front) w t.0) c.leave_tag.ensures.elements c.leave_tag.ensures.part c.leave_tag.ensures.inside c.leave_tag.ensures.outside))

pub returns-clause-less : goal.returns-clause-less
returns-clause-less c = shorter_by c.args.text.now c.split_at.result.1.now c.args.tag.now.count c.split_at.ensures.back c.requires.tag.tag.some c.requires.tag.tag.low

pub returns-in_err-start_by-clause-ok : goal.returns-in_err-start_by-clause-ok
returns-in_err-start_by-clause-ok c = failed_ok _ _ _ c.from_residual.ensures.1

pub returns-in_err-start_by-clause-less : goal.returns-in_err-start_by-clause-less
returns-in_err-start_by-clause-less c = failed_ok _ _ _ c.from_residual.ensures.1

pub returns-clause-fault : goal.returns-clause-fault
returns-clause-fault c = tt

pub start_by-requires-clause-named : goal.start_by-requires-clause-named
start_by-requires-clause-named c = subst (λ z. IfSome c.args.tag.now.named (λ name. IsTagOf name.now z)) (sym c.split_at.ensures.front) c.requires.tag.named
