use Rattle.std.proofs.Common.{◌≡◌, ◌<◌, ◌++◌, [], ap, ◌∙◌, sym, subst, length, take, drop, arith}
use Rattle.tc_stream.specs.Faults.{IsFaultOfFront}
use Rattle.tc_stream.specs.Reading.{FaultsOn, ReadsOn}
use Rattle.tc_stream.specs.Scans.{tag_scan}
use Rattle.tc_stream.specs.Stands.{IsReading, ReadsTo}
use Rattle.tc_stream.specs.TagStands.{TellsScanned}
use Rattle.tc_stream.specs.declared.tag_reading.Scanned.TheVariants as scans
use Rattle.tc_stream.proofs.TagReads.{at_err, at_ok, cut_behind_tag, if_err, if_ok, reads_all, reads_front, shorter_by}
use Rattle.tc_stream.proofs.reader.Reader.read_tag.Goals as goal

pub returns-in-Within-clause-ok : goal.returns-in-Within-clause-ok
returns-in-Within-clause-ok c = λ end.
    let old = c.args.self.now in
    let new = c.keep_tag.new.self in
    let text = c.args.text.now in
    let quote = c.args.quote in
    let scan = ap (tag_scan quote) (sym c.as_bytes.ensures.value) ∙ c.in-Within.ensures in
    if_ok c.keep_tag.result (λ rest. ReadsOn old new text rest.now end)
    (λ v is.
    reads_all old new text v.now end (at_ok c.keep_tag.result (λ rest. rest.now ≡ []) v is c.keep_tag.ensures.rest) (at_ok c.keep_tag.result (λ _. IsReading new) v is c.keep_tag.ensures.ready)
    (λ x chars h r. at_ok c.keep_tag.result (λ _. ReadsTo x new (chars ++ text)) v is (c.keep_tag.ensures.ok x chars quote c.requires.part scan h r)))

pub returns-in-Within-clause-fault : goal.returns-in-Within-clause-fault
returns-in-Within-clause-fault c = λ end.
    let text = c.args.text.now in
    let quote = c.args.quote in
    let scan = ap (tag_scan quote) (sym c.as_bytes.ensures.value) ∙ c.in-Within.ensures in
    if_err c.keep_tag.result (λ e. FaultsOn c.args.self.now text end e)
    (λ e is x chars h long r. at_err c.keep_tag.result (λ e. IsFaultOfFront (chars ++ text) e) e is (c.keep_tag.ensures.fault x chars quote c.requires.part scan h r))

pub returns-in-Within-clause-less : goal.returns-in-Within-clause-less
returns-in-Within-clause-less c =
    if_ok c.keep_tag.result (λ rest. length rest.now < length c.args.text.now)
    (λ v is. let none = at_ok c.keep_tag.result (λ rest. rest.now ≡ []) v is c.keep_tag.ensures.rest in omega (arith, ap length none, c.requires.some))

pub pass_tag-requires-clause-count : goal.pass_tag-requires-clause-count
pass_tag-requires-clause-count c =
    let (some, low, scan) = subst (λ z. TellsScanned c.args.quote z (scans.Ended c.in-Ended.count)) c.as_bytes.ensures.value c.in-Ended.ensures in (some, low)

pub pass_tag-requires-clause-cut : goal.pass_tag-requires-clause-cut
pass_tag-requires-clause-cut c =
    let (some, low, scan) = subst (λ z. TellsScanned c.args.quote z (scans.Ended c.in-Ended.count)) c.as_bytes.ensures.value c.in-Ended.ensures in
    cut_behind_tag c.args.text.now c.args.quote c.in-Ended.count c.utf8.text low scan

pub returns-in-Ended-clause-ok : goal.returns-in-Ended-clause-ok
returns-in-Ended-clause-ok c = λ end.
    let old = c.args.self.now in
    let new = c.pass_tag.new.self in
    let text = c.args.text.now in
    let count = c.in-Ended.count in
    let (some, low, scan) = subst (λ z. TellsScanned c.args.quote z (scans.Ended c.in-Ended.count)) c.as_bytes.ensures.value c.in-Ended.ensures in
    if_ok c.pass_tag.result (λ rest. ReadsOn old new text rest.now end)
    (λ v is.
    reads_front old new text v.now end count (at_ok c.pass_tag.result (λ rest. rest.now ≡ drop count text) v is c.pass_tag.ensures.rest) (at_ok c.pass_tag.result (λ _. IsReading new) v is c.pass_tag.ensures.ready)
    (λ x chars h r. at_ok c.pass_tag.result (λ _. ReadsTo x new (chars ++ take count text)) v is (c.pass_tag.ensures.ok x chars c.args.quote c.requires.part scan h r)))

pub returns-in-Ended-clause-fault : goal.returns-in-Ended-clause-fault
returns-in-Ended-clause-fault c = λ end.
    let text = c.args.text.now in
    let (some, low, scan) = subst (λ z. TellsScanned c.args.quote z (scans.Ended c.in-Ended.count)) c.as_bytes.ensures.value c.in-Ended.ensures in
    if_err c.pass_tag.result (λ e. FaultsOn c.args.self.now text end e)
    (λ e is x chars h long r. at_err c.pass_tag.result (λ e. IsFaultOfFront (chars ++ text) e) e is (c.pass_tag.ensures.fault x chars c.args.quote c.requires.part scan h r))

pub returns-in-Ended-clause-less : goal.returns-in-Ended-clause-less
returns-in-Ended-clause-less c =
    let text = c.args.text.now in
    let count = c.in-Ended.count in
    let (some, low, scan) = subst (λ z. TellsScanned c.args.quote z (scans.Ended c.in-Ended.count)) c.as_bytes.ensures.value c.in-Ended.ensures in
    if_ok c.pass_tag.result (λ rest. length rest.now < length text)
    (λ v is. shorter_by text v.now count (at_ok c.pass_tag.result (λ rest. rest.now ≡ drop count text) v is c.pass_tag.ensures.rest) some low)
