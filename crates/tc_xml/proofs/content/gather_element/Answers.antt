use Rattle.std.proofs.Common.{refl, ap, ◌∙◌}
use Rattle.tc_model.specs.RawTrees.{RawTrees, element}
use Rattle.tc_model.specs.Views.{name, attribute, place}
use Rattle.std.proofs.Common.{map}
use Rattle.tc_model.specs.declared.tree.RawElem.{RawElem, roll-RawElem}
use Rattle.tc_xml.specs.Views.{gathered_before}
use Rattle.tc_xml.specs.Tags.{in_scope}
use Rattle.tc_xml.proofs.GatherLaws.{element_gathered, on_ok}
use Rattle.tc_xml.proofs.content.gather_element.Goals as goal

pub returns : goal.returns
returns c = on_ok c.push_tree.result (λ pushed h.
    let m = c.args.tag.now.meaning in
    let e : RawElem = roll-RawElem (record { name = m.name; attrs = m.attrs; scope = m.scope.bindings; place = c.args.first; kids = c.in_ok-kids.kids }) in
    let whole : RawTrees → RawTrees = λ k. element (name m.name) (map attribute m.attrs.now) (in_scope m.scope) (place c.args.first) k h in
    element_gathered c.args.gathered.now c.end_run.new.gathered (record c.end_run.new.gathered { trees = c.push_tree.new.trees }) e h c.in_ok-end_run.ensures.ended c.in_ok-end_run.ensures.kept
    refl pushed
    ∙ ap (λ k. gathered_before c.args.gathered.now (whole k)) c.in_ok-kids.ensures) c.push_tree.ensures
