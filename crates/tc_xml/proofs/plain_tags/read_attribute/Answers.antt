use Rattle.tc_scan.specs.Views.{written_name}
use Rattle.tc_tags.proofs.FailedLaws.{failed_some}
use Rattle.tc_xml.proofs.PlainTagLaws.{an_attribute, one_noted}
use Rattle.tc_xml.proofs.plain_tags.read_attribute.Goals as goal

pub returns : goal.returns
returns c = λ total.
    let name = c.in_ok-name.name in
    an_attribute total c.args.bindings.now c.read_value.new.bindings c.args.text.now c.in_ok-start.start.now c.in_ok-name.behind.now c.in_ok-equals.equals.now c.in_ok-rest.rest.now (written_name name) c.args.names.now.items
    c.push.new.self.items c.in_ok-start.ensures.0 c.in_ok-start.ensures.1 c.in_ok-name.ensures c.if-is_xml_space.ensures c.in_ok-equals.ensures c.in_ok-rest.ensures
    (one_noted c.args.names.now.items c.push.new.self.items (name.prefix, name.local) c.in-Ok.ensures.items)

pub returns-in_err-start : goal.returns-in_err-start
returns-in_err-start c = failed_some _ _ c.from_residual.ensures

pub returns-in_err-name : goal.returns-in_err-name
returns-in_err-name c = failed_some _ _ c.from_residual-in_err-name.ensures

pub returns-in_err-equals : goal.returns-in_err-equals
returns-in_err-equals c = failed_some _ _ c.from_residual-in_err-equals.ensures

pub returns-in_err-rest : goal.returns-in_err-rest
returns-in_err-rest c = failed_some _ _ c.from_residual-in_err-rest.ensures
