use Rattle.std.proofs.Common.{Bool, refl, ap, ◌∙◌, sym, subst}
use Rattle.tc_stream.specs.Reading.{TakesText}
use Rattle.tc_stream.specs.Scans.{cdata_scan}
use Rattle.tc_stream.proofs.ScanEnds.{told_data, told_no_data, data_counted}
use Rattle.tc_stream.proofs.reader.Reader.read_run.Goals as goal

pub data_end-requires-clause-clear : goal.data_end-requires-clause-clear
data_end-requires-clause-clear c = λ h. ap (cdata_scan 0) c.as_bytes.ensures.value ∙ c.requires.clear h

pub returns-in_default-clause-no : goal.returns-in_default-clause-no
returns-in_default-clause-no c =
    let none = told_no_data c.args.brackets c.as_bytes.result.now c.in_default.ensures in
    (c.malformed.ensures, (none.0, ap (cdata_scan c.args.brackets) (sym c.as_bytes.ensures.value) ∙ none.1))

pub invariant_of-self-clause-counted : goal.invariant_of-self-clause-counted
invariant_of-self-clause-counted c = data_counted c.args.brackets c.in-Some.known c.as_bytes.result.now c.requires.few c.in-Some.ensures

pub returns-clause-ok : goal.returns-clause-ok
returns-clause-ok c =
    (c.in-Some.known, refl, ap (cdata_scan c.args.brackets) (sym c.as_bytes.ensures.value) ∙ told_data (cdata_scan c.args.brackets c.as_bytes.result.now) c.in-Some.ensures)

pub returns-clause-elements : goal.returns-clause-elements
returns-clause-elements c = subst (λ (b : Bool). TakesText b c.args.self.now.elements c.take_text.new.self.elements) c.is_white_space_only.ensures c.take_text.ensures.elements

pub returns-in_default-clause-ok : goal.returns-in_default-clause-ok
returns-in_default-clause-ok c = tt

pub returns-in_default-clause-elements : goal.returns-in_default-clause-elements
returns-in_default-clause-elements c = tt

pub returns-in_default-clause-phase : goal.returns-in_default-clause-phase
returns-in_default-clause-phase c = tt

pub returns-in_default-clause-begun : goal.returns-in_default-clause-begun
returns-in_default-clause-begun c = tt

pub returns-clause-phase : goal.returns-clause-phase
returns-clause-phase c = c.take_text.ensures.phase

pub returns-clause-begun : goal.returns-clause-begun
returns-clause-begun c = c.take_text.ensures.begun

pub returns-clause-no : goal.returns-clause-no
returns-clause-no c = tt
