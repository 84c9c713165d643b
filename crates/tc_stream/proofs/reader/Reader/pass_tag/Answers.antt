use Rattle.std.proofs.Common.{◌++◌, ap, ◌∙◌, subst}
use Rattle.tc_stream.specs.Faults.{IsFaultOfFront}
use Rattle.tc_stream.specs.Scans.{tag_scan}
use Rattle.tc_stream.specs.Stands.{ReadsTo}
use Rattle.tc_stream.specs.declared.faults.StreamFault.TheVariants.{TagTooLong}
use Rattle.tc_stream.proofs.TagReads.{failed, front_chars, front_fault, whole_start, whole_start_fault}
use Rattle.tc_tags.proofs.FailedLaws.{failed_ok}
use Rattle.tc_stream.proofs.reader.Reader.pass_tag.Goals as goal

pub returns-then-not-push_str-clause-fault : goal.returns-then-not-push_str-clause-fault
returns-then-not-push_str-clause-fault c = λ x chars within is scan h r.
    let s = c.args.self.now in
    let text = c.args.text.now in
    let front = c.split_at.result.0.now in
    let first = c.split_at.ensures.front in
    front_fault chars text front c.args.count TagTooLong first
    (whole_start_fault x s chars front s.tag.most within is (ap (tag_scan within) first ∙ scan) (front_chars text front c.args.count c.requires.cut first h) r s.tag_room c.if-not-push_str.ensures.bytes.1)

pub returns-in_err-start_kept-clause-fault : goal.returns-in_err-start_kept-clause-fault
returns-in_err-start_kept-clause-fault c = λ x chars within is scan h r.
    let text = c.args.text.now in
    let front = c.split_at.result.0.now in
    let first = c.split_at.ensures.front in
    let both = whole_start x c.args.self.now chars front c.push_str.new.self.bytes.items within is (ap (tag_scan within) first ∙ scan) (front_chars text front c.args.count c.requires.cut first h) r c.if-not-push_str.ensures.bytes in
    failed c.from_residual.result c.in_err-start_kept.field-0.0 (λ e. IsFaultOfFront (chars ++ text) e) c.from_residual.ensures.1
    (front_fault chars text front c.args.count c.in_err-start_kept.field-0.0 first (c.in_err-start_kept.ensures.fault x _ both.0 both.1 both.2))

pub returns-clause-ok : goal.returns-clause-ok
returns-clause-ok c = λ x chars within is scan h r.
    let text = c.args.text.now in
    let front = c.split_at.result.0.now in
    let first = c.split_at.ensures.front in
    let both = whole_start x c.args.self.now chars front c.push_str.new.self.bytes.items within is (ap (tag_scan within) first ∙ scan) (front_chars text front c.args.count c.requires.cut first h) r c.if-not-push_str.ensures.bytes in
    subst (λ z. ReadsTo x c.start_kept.new.self (chars ++ z)) first (c.in_ok-start_kept.ensures.ok x _ both.0 both.1)

pub returns-then-not-push_str-clause-ready : goal.returns-then-not-push_str-clause-ready
returns-then-not-push_str-clause-ready c = tt

pub returns-then-not-push_str-clause-rest : goal.returns-then-not-push_str-clause-rest
returns-then-not-push_str-clause-rest c = tt

pub returns-then-not-push_str-clause-ok : goal.returns-then-not-push_str-clause-ok
returns-then-not-push_str-clause-ok c = λ x chars within is scan h r. tt

pub returns-in_err-start_kept-clause-ready : goal.returns-in_err-start_kept-clause-ready
returns-in_err-start_kept-clause-ready c = failed_ok _ _ _ c.from_residual.ensures.1

pub returns-in_err-start_kept-clause-rest : goal.returns-in_err-start_kept-clause-rest
returns-in_err-start_kept-clause-rest c = failed_ok _ _ _ c.from_residual.ensures.1

pub returns-in_err-start_kept-clause-ok : goal.returns-in_err-start_kept-clause-ok
returns-in_err-start_kept-clause-ok c = λ x chars within is scan h r. failed_ok _ _ _ c.from_residual.ensures.1

pub returns-clause-ready : goal.returns-clause-ready
returns-clause-ready c = c.in_ok-start_kept.ensures.ready

pub returns-clause-rest : goal.returns-clause-rest
returns-clause-rest c = c.split_at.ensures.back

pub returns-clause-fault : goal.returns-clause-fault
returns-clause-fault c = λ x chars within is scan h r. tt
