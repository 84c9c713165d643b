use Rattle.std.proofs.Common.{subst}
use Rattle.std.specs.List.{IsDistinct}
use Rattle.tc_model.specs.Views.{name}
use Rattle.tc_scan.specs.Views.{written_name}
use Rattle.tc_tags.specs.Pairs.{same_pair}
use Rattle.tc_xml.specs.PlainTags.{AreExpanded}
use Rattle.tc_tags.proofs.FailedLaws.{failed_some}
use Rattle.tc_xml.proofs.PlainTagLaws.{a_tag, tag_is_shorter}
use Rattle.tc_xml.proofs.plain_tags.read_tag.Goals as goal

pub returns : goal.returns
returns c = λ total.
    let bindings = c.read_attributes.new.bindings in
    let read = c.in_ok-rest.ensures total in
    let names = c.read_attributes.new.names.items in
    let expanded = c.expand_all.new.expanded.items in
    record {
      shorter = tag_is_shorter c.in_ok-start.ensures c.in_ok-written.ensures read;
      declares = read.parts.declares;
      reads =
          a_tag total c.args.bindings.now bindings c.args.text.now c.in_ok-start.start.now c.in_ok-written.behind.now c.in_ok-rest.rest.now (written_name c.in_ok-written.written) (name c.in_ok-name.name) names expanded
          c.in_ok-start.ensures c.in_ok-written.ensures read c.in_ok-name.ensures (subst (λ w. AreExpanded bindings w expanded) c.as_slice.ensures.value c.in_ok-expand_all.ensures)
          (subst (IsDistinct same_pair) c.deref_mut.ensures.value c.if-not-all_differ.ensures);
    }

pub returns-in_err-start : goal.returns-in_err-start
returns-in_err-start c = failed_some _ _ c.from_residual.ensures

pub returns-in_err-written : goal.returns-in_err-written
returns-in_err-written c = failed_some _ _ c.from_residual-in_err-written.ensures

pub returns-in_err-rest : goal.returns-in_err-rest
returns-in_err-rest c = failed_some _ _ c.from_residual-in_err-rest.ensures

pub returns-in_err-name : goal.returns-in_err-name
returns-in_err-name c = failed_some _ _ c.from_residual-in_err-name.ensures

pub returns-in_err-expand_all : goal.returns-in_err-expand_all
returns-in_err-expand_all c = failed_some _ _ c.from_residual-in_err-expand_all.ensures
