use Rattle.std.proofs.Common.{refl}
use Rattle.std.proofs.lemmas.List.{at_drop_all}
use Rattle.tc_model.specs.Views.{raw_trees}
use Rattle.tc_model.specs.Stripped.{bare}
use Rattle.tc_xml.proofs.StripLaws.{text_more, element_more, all_bare}
use Rattle.tc_xml.proofs.stripping.+bare.Goals as goal
use Rattle.tc_xml.proofs.stripping.+bare.Goals.{in-Text, in-Elem+in_ok-bare-in-Elem}

pub loop-tree-preserved : goal.loop-tree-preserved
loop-tree-preserved t c =
    let ts = c.args.raw.now in
    elim c.match-tree.branch [
      | in-Text w ↦
          text_more c.loop-tree.out.items c.push.new.self.items c.match-tree.node w.in-Text.text ts c.loop-tree.tree-index c.tree-item.result w.in-Text.field-1 (bare (raw_trees ts))
          c.in_ok-push.ensures.items w.node-is c.loop-tree-test.true c.tree-item.is w.in-Text.is c.loop-tree.invariant
      | in-Elem+in_ok-bare-in-Elem w ↦
          let e = w.in-Elem.element in
          element_more c.loop-tree.out.items c.push.new.self.items c.match-tree.node e.name w.in_ok-bare-in-Elem.field-0 ts c.loop-tree.tree-index c.tree-item.result e (bare (raw_trees ts))
          c.in_ok-push.ensures.items w.node-is refl w.in_ok-bare-in-Elem.ensures c.loop-tree-test.true c.tree-item.is w.in-Elem.is c.loop-tree.invariant
    ]

pub returns : goal.returns
returns t c = all_bare c.loop-tree.out.items c.into_bump_slice.result.now c.args.raw.now c.loop-tree.tree-index c.into_bump_slice.ensures (at_drop_all raw_trees c.args.raw.now c.loop-tree.tree-index c.loop-tree-test.false) c.loop-tree.invariant
