use Rattle.std.proofs.Common.{◌+◌, drop, ap, ◌∙◌}
use Rattle.std.specs.String.{string_bytes}
use Rattle.tc_model.specs.Chains.{joined_texts}
use Rattle.tc_run.specs.Lettered.{bare}
use Rattle.tc_run.specs.Views.{trees}
use Rattle.tc_run.proofs.Texts.{text_joined, elem_joined, joined_further}
use Rattle.tc_run.proofs.letters.+join_texts.Goals as goal
use Rattle.tc_run.proofs.letters.+join_texts.Goals.{in-Text+in_ok-push_str-in-Text, in-Elem+in_ok-join_texts-in-Elem}

pub loop-node-preserved : goal.loop-node-preserved
loop-node-preserved t c =
    let ns = c.args.nodes.now in
    let i = c.loop-node.node-index in
    let x = c.node-item.result in
    let all = joined_texts (bare (trees (drop i ns))) in
    let rest = joined_texts (bare (trees (drop (i + 1) ns))) in
    elim c.match-node.branch [
      | in-Text+in_ok-push_str-in-Text w ↦
          joined_further (string_bytes c.loop-node.text) (string_bytes c.match-node.text) w.in-Text.piece.now all rest _
          (text_joined ns i x w.in-Text.piece w.in-Text.field-1 c.loop-node-test.true c.node-item.is w.in-Text.is) c.loop-node.invariant (ap string_bytes w.text-is ∙ w.in_ok-push_str-in-Text.ensures.bytes)
      | in-Elem+in_ok-join_texts-in-Elem w ↦
          joined_further (string_bytes c.loop-node.text) (string_bytes c.match-node.text) (joined_texts (bare (trees w.in-Elem.kids.now))) all rest _
          (elem_joined ns i x w.in-Elem.field-0 w.in-Elem.field-1 w.in-Elem.kids c.loop-node-test.true c.node-item.is w.in-Elem.is) c.loop-node.invariant (ap string_bytes w.text-is ∙ w.in_ok-join_texts-in-Elem.ensures)
    ]
