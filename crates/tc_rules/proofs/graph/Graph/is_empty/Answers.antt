use Rattle.std.proofs.Common.{◌==◌, ◌∙◌, ap, sym}
use Rattle.std.proofs.lemmas.List.{length-map}
use Rattle.tc_rules.specs.Rows.{state}
use Rattle.tc_rules.proofs.SelectStates.{is_none}
use Rattle.tc_rules.proofs.graph.Graph.is_empty.Goals as goal

pub returns : goal.returns
returns c = ap (λ n. n == 0) (c.len.ensures.len ∙ sym (length-map c.args.self.now.states.keys (state c.args.self.now.letters.ends.items))) ∙ is_none _
