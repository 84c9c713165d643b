use Rattle.tc_scan.specs.Views.{written_name}
use Rattle.tc_xml.specs.Reading.{EndTagAt}
use Rattle.tc_xml.proofs.MiscLaws.{map_option}
use Rattle.tc_xml.proofs.ContentLaws.{other_name, no_close, an_end_tag}
use Rattle.tc_xml.proofs.content.after_end_tag.Goals as goal

pub returns-then-not-is_same_name : goal.returns-then-not-is_same_name
returns-then-not-is_same_name c =
    other_name c.args.text.now c.in_ok-end.end.now c.in_ok-found.behind.now (written_name c.in_ok-found.found) (written_name c.args.name.now) c.in_ok-end.ensures c.in_ok-found.ensures c.if-not-is_same_name.ensures

pub returns : goal.returns
returns c =
    let t = c.args.text.now in
    let name = written_name c.args.name.now in
    let found = written_name c.in_ok-found.found in
    let white = c.after_white.result.now in
    map_option _ (λ r. EndTagAt name t r.now) c.after_byte.result
    (no_close t c.in_ok-end.end.now c.in_ok-found.behind.now white found name c.in_ok-end.ensures c.in_ok-found.ensures c.after_white.ensures)
    (λ r e. an_end_tag t c.in_ok-end.end.now c.in_ok-found.behind.now white r.now found name c.in_ok-end.ensures c.in_ok-found.ensures c.if-not-is_same_name.ensures c.after_white.ensures e)
    c.after_byte.ensures
