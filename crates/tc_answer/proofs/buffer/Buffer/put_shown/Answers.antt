use Rattle.std.proofs.Common.{◌++◌, ◌∙◌, ap, List, ℕ}
use Rattle.std.proofs.lemmas.Result.{on_ok_weaker}
use Rattle.tc_model.specs.Printed.{printed}
use Rattle.tc_model.specs.Views.{trees}
use Rattle.tc_answer.proofs.Lined.{put_three}
use Rattle.tc_answer.proofs.buffer.Buffer.put_shown.Goals as goal

pub returns : goal.returns
returns c =
    let shown = c.in_ok-put_trees.ensures ∙ ap (λ (w : List ℕ). w ++ printed (trees c.args.nodes.now)) c.in_ok-put.ensures in
    on_ok_weaker c.put-2.result (λ put. put ∙ (ap (λ (w : List ℕ). w ++ c.args.behind.now) shown ∙ put_three c.args.self.now.bytes.items c.args.front.now (printed (trees c.args.nodes.now)) c.args.behind.now)) c.put-2.ensures
