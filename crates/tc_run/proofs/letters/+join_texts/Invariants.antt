use Rattle.std.proofs.Common.{◌≡◌, ◌++◌, drop}
use Rattle.std.specs.String.{string_bytes}
use Rattle.tc_model.specs.Chains.{joined_texts}
use Rattle.tc_run.specs.Lettered.{bare}
use Rattle.tc_run.specs.Views.{trees}
use Rattle.tc_run.proofs.letters.+join_texts.Given as goal

abbrev pub invariant-loop-node : goal.invariant-loop-node
invariant-loop-node l =
    string_bytes l.text ++ joined_texts (bare (trees (drop l.node-index l.nodes))) ≡ string_bytes l.initial.text ++ joined_texts (bare (trees l.nodes))
