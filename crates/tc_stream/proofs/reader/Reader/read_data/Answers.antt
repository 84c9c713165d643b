use Rattle.std.proofs.Common.{inr, refl, arith, ap, sym, ◌∙◌, subst}
use Rattle.std.proofs.lemmas.Result.{IfErr-weaker, IfOk-weaker}
use Rattle.tc_stream.specs.Reading.{FaultsOn, ReadsOn}
use Rattle.tc_stream.specs.Scans.{cdata_scan}
use Rattle.tc_stream.proofs.DataReads.{at_front, at_front_less, bare_behind, grown_text, grown_text_faults, cut_at_mark}
use Rattle.tc_stream.proofs.ReadingLaws.{failed, fault_then, read_then}
use Rattle.tc_stream.proofs.ScanEnds.{counted_data}
use Rattle.tc_tags.proofs.FailedLaws.{failed_ok}
use Rattle.tc_stream.proofs.reader.Reader.read_data.Goals as goal

pub begin_reference-requires-clause-open_here : goal.begin_reference-requires-clause-open_here
begin_reference-requires-clause-open_here c = inr (c.args.brackets, c.requires.part)

pub begin_reference-requires-clause-bare : goal.begin_reference-requires-clause-bare
begin_reference-requires-clause-bare c = sym c.run_at-front.ensures.count ∙ c.if-count-eq0.true

pub split_at-requires : goal.split_at-requires
split_at-requires c = cut_at_mark c.args.text.now c.run_at-front.result.count c.run_at-front.ensures.count

pub read_run-requires-clause-few : goal.read_run-requires-clause-few
read_run-requires-clause-few c = counted_data c.requires.part c.args.self.now.counted

pub read_run-requires-clause-clear : goal.read_run-requires-clause-clear
read_run-requires-clause-clear c = λ h. ap (cdata_scan 0) c.split_at.ensures.front ∙ c.run_at-front.ensures.clear h

pub returns-in_err-read_run-clause-fault : goal.returns-in_err-read_run-clause-fault
returns-in_err-read_run-clause-fault c =
    let front = at_front c.run_at-front.result.count c.run_at-front.ensures.count c.if-count-eq0.false c.split_at.ensures.front c.split_at.ensures.back in
    let no = c.in_err-read_run.ensures.no in
    failed _ _ (FaultsOn c.args.self.now c.args.text.now c.args.end) c.from_residual.ensures.1
    (subst (FaultsOn c.args.self.now c.args.text.now c.args.end) (sym no.0) (grown_text_faults c.args.end c.args.brackets c.requires.within front c.requires.part no.1.1))

pub returns-clause-ok : goal.returns-clause-ok
returns-clause-ok c =
    let front = at_front c.run_at-front.result.count c.run_at-front.ensures.count c.if-count-eq0.false c.split_at.ensures.front c.split_at.ensures.back in
    let ok = c.in_ok-read_run.ensures.ok in
    let first : ReadsOn c.args.self.now c.read_run.new.self c.args.text.now c.split_at.result.1.now c.args.end =
    grown_text c.args.end c.args.brackets ok.0 c.requires.within front c.requires.part c.requires.ready ok.2 refl c.in_ok-read_run.ensures.elements ok.1 c.in_ok-read_run.ensures.phase c.in_ok-read_run.ensures.begun in
    IfOk-weaker c.read_behind.result _ _ (λ rest on. read_then first on) c.read_behind.ensures.ok

pub returns-clause-fault : goal.returns-clause-fault
returns-clause-fault c =
    let front = at_front c.run_at-front.result.count c.run_at-front.ensures.count c.if-count-eq0.false c.split_at.ensures.front c.split_at.ensures.back in
    let ok = c.in_ok-read_run.ensures.ok in
    let first : ReadsOn c.args.self.now c.read_run.new.self c.args.text.now c.split_at.result.1.now c.args.end =
    grown_text c.args.end c.args.brackets ok.0 c.requires.within front c.requires.part c.requires.ready ok.2 refl c.in_ok-read_run.ensures.elements ok.1 c.in_ok-read_run.ensures.phase c.in_ok-read_run.ensures.begun in
    IfErr-weaker c.read_behind.result _ _ (λ e no. fault_then e first no) c.read_behind.ensures.fault

pub returns-clause-less : goal.returns-clause-less
returns-clause-less c =
    let shorter = at_front_less (at_front c.run_at-front.result.count c.run_at-front.ensures.count c.if-count-eq0.false c.split_at.ensures.front c.split_at.ensures.back) in
    IfOk-weaker c.read_behind.result _ _ (λ rest low. omega (arith, low, shorter)) c.read_behind.ensures.less

pub read_behind-requires-clause-ready : goal.read_behind-requires-clause-ready
read_behind-requires-clause-ready c = c.in_ok-read_run.ensures.elements.ready c.requires.ready

pub read_behind-requires-clause-open_here : goal.read_behind-requires-clause-open_here
read_behind-requires-clause-open_here c = inr (c.in_ok-read_run.ensures.ok.0, c.in_ok-read_run.ensures.ok.1)

pub read_behind-requires-clause-bare : goal.read_behind-requires-clause-bare
read_behind-requires-clause-bare c = bare_behind c.args.text.now c.split_at.result.1.now c.run_at-front.result.count c.run_at-front.ensures.count c.split_at.ensures.back

pub read_behind-requires-clause-within : goal.read_behind-requires-clause-within
read_behind-requires-clause-within c =
    let shorter = at_front_less (at_front c.run_at-front.result.count c.run_at-front.ensures.count c.if-count-eq0.false c.split_at.ensures.front c.split_at.ensures.back) in
    let within = c.requires.within in
    omega (arith, shorter, within)

pub begin_reference-requires-clause-ready : goal.begin_reference-requires-clause-ready
begin_reference-requires-clause-ready c = c.requires.ready

pub begin_reference-requires-clause-some : goal.begin_reference-requires-clause-some
begin_reference-requires-clause-some c = c.requires.some

pub begin_reference-requires-clause-within : goal.begin_reference-requires-clause-within
begin_reference-requires-clause-within c = c.requires.within

pub begin_reference-requires-clause-low : goal.begin_reference-requires-clause-low
begin_reference-requires-clause-low c = c.requires.low

pub returns-then-count-eq0-clause-ok : goal.returns-then-count-eq0-clause-ok
returns-then-count-eq0-clause-ok c = c.begin_reference.ensures.ok

pub returns-then-count-eq0-clause-less : goal.returns-then-count-eq0-clause-less
returns-then-count-eq0-clause-less c = c.begin_reference.ensures.less

pub returns-then-count-eq0-clause-fault : goal.returns-then-count-eq0-clause-fault
returns-then-count-eq0-clause-fault c = c.begin_reference.ensures.fault

pub returns-in_err-read_run-clause-ok : goal.returns-in_err-read_run-clause-ok
returns-in_err-read_run-clause-ok c = failed_ok _ _ _ c.from_residual.ensures.1

pub returns-in_err-read_run-clause-less : goal.returns-in_err-read_run-clause-less
returns-in_err-read_run-clause-less c = failed_ok _ _ _ c.from_residual.ensures.1
