use Rattle.std.proofs.Common.{◌≡◌, ◌<◌, ◌++◌, [], Some, None, ap, ◌∙◌, subst, length, arith}
use Rattle.tc_stream.specs.Faults.{IsFaultOfFront}
use Rattle.tc_stream.specs.Reading.{FaultsOn, ReadsOn}
use Rattle.tc_stream.specs.Stands.{IsReading, ReadsTo}
use Rattle.tc_stream.specs.TagEnds.{TellsEndTag}
use Rattle.tc_stream.proofs.TagReads.{at_err, at_ok, cut_behind, failed, front_chars, front_fault, if_err, if_ok, reads_all, reads_front, shorter_by}
use Rattle.tc_tags.proofs.FailedLaws.{failed_ok}
use Rattle.tc_stream.proofs.reader.Reader.read_end_tag.Goals as goal

pub returns-in_default-clause-ok : goal.returns-in_default-clause-ok
returns-in_default-clause-ok c = λ end.
    let old = c.args.self.now in
    let new = c.keep_end_tag.new.self in
    let text = c.args.text.now in
    let lacks = subst (λ z. TellsEndTag z None) c.as_bytes.ensures.value c.in_default.ensures in
    if_ok c.keep_end_tag.result (λ rest. ReadsOn old new text rest.now end)
    (λ v is.
    reads_all old new text v.now end (at_ok c.keep_end_tag.result (λ rest. rest.now ≡ []) v is c.keep_end_tag.ensures.rest) (at_ok c.keep_end_tag.result (λ _. IsReading new) v is c.keep_end_tag.ensures.ready)
    (λ x chars h r. at_ok c.keep_end_tag.result (λ _. ReadsTo x new (chars ++ text)) v is (c.keep_end_tag.ensures.ok x chars c.requires.part lacks h r)))

pub returns-in_default-clause-fault : goal.returns-in_default-clause-fault
returns-in_default-clause-fault c = λ end.
    let text = c.args.text.now in
    let lacks = subst (λ z. TellsEndTag z None) c.as_bytes.ensures.value c.in_default.ensures in
    if_err c.keep_end_tag.result (λ e. FaultsOn c.args.self.now text end e)
    (λ e is x chars h long r. at_err c.keep_end_tag.result (λ e. IsFaultOfFront (chars ++ text) e) e is (c.keep_end_tag.ensures.fault x chars c.requires.part lacks h r))

pub returns-in_default-clause-less : goal.returns-in_default-clause-less
returns-in_default-clause-less c =
    if_ok c.keep_end_tag.result (λ rest. length rest.now < length c.args.text.now)
    (λ v is. let none = at_ok c.keep_end_tag.result (λ rest. rest.now ≡ []) v is c.keep_end_tag.ensures.rest in omega (arith, ap length none, c.requires.some))

pub split_at-requires : goal.split_at-requires
split_at-requires c =
    let (front, is, lacks, some, low) = subst (λ z. TellsEndTag z (Some c.in-Some.count)) c.as_bytes.ensures.value c.in-Some.ensures in cut_behind c.args.text.now front c.in-Some.count c.utf8.text low is

pub returns-in_err-end_of_end-clause-fault : goal.returns-in_err-end_of_end-clause-fault
returns-in_err-end_of_end-clause-fault c = λ end.
    let text = c.args.text.now in
    let count = c.in-Some.count in
    let first = c.split_at.ensures.front in
    let e = c.in_err-end_of_end.field-0.0 in
    let (front, is, lacks, some, low) = subst (λ z. TellsEndTag z (Some count)) c.as_bytes.ensures.value c.in-Some.ensures in
    failed c.from_residual.result e (λ e. FaultsOn c.args.self.now text end e) c.from_residual.ensures.1
    (λ x chars h long r.
    front_fault chars text c.split_at.result.0.now count e first
    (c.in_err-end_of_end.ensures.fault x chars front c.requires.part (first ∙ is) lacks (front_chars text c.split_at.result.0.now count (cut_behind text front count c.utf8.text low is) first h) r))

pub returns-clause-ok : goal.returns-clause-ok
returns-clause-ok c = λ end.
    let text = c.args.text.now in
    let count = c.in-Some.count in
    let first = c.split_at.ensures.front in
    let new = c.end_of_end.new.self in
    let (front, is, lacks, some, low) = subst (λ z. TellsEndTag z (Some count)) c.as_bytes.ensures.value c.in-Some.ensures in
    reads_front c.args.self.now new text c.split_at.result.1.now end count c.split_at.ensures.back c.in_ok-end_of_end.ensures.ready
    (λ x chars h r.
    subst (λ z. ReadsTo x new (chars ++ z)) first
    (c.in_ok-end_of_end.ensures.ok x chars front c.requires.part (first ∙ is) lacks (front_chars text c.split_at.result.0.now count (cut_behind text front count c.utf8.text low is) first h) r))

pub returns-clause-less : goal.returns-clause-less
returns-clause-less c =
    let (front, is, lacks, some, low) = subst (λ z. TellsEndTag z (Some c.in-Some.count)) c.as_bytes.ensures.value c.in-Some.ensures in
    shorter_by c.args.text.now c.split_at.result.1.now c.in-Some.count c.split_at.ensures.back some low

pub returns-in_err-end_of_end-clause-ok : goal.returns-in_err-end_of_end-clause-ok
returns-in_err-end_of_end-clause-ok c = λ end. failed_ok _ _ _ c.from_residual.ensures.1

pub returns-in_err-end_of_end-clause-less : goal.returns-in_err-end_of_end-clause-less
returns-in_err-end_of_end-clause-less c = failed_ok _ _ _ c.from_residual.ensures.1

pub returns-clause-fault : goal.returns-clause-fault
returns-clause-fault c = λ end. tt
