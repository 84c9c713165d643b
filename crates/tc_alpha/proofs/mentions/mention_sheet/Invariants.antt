use Rattle.std.proofs.Common.{◌≡◌, ◌++◌, drop, map, flat_map}
use Rattle.tc_alpha.specs.Views.{seen}
use Rattle.tc_model.specs.Views as see
use Rattle.tc_model.specs.Symbols.{in_body, in_pattern, mentions_of_name, mentions_of_test}
use Rattle.tc_alpha.proofs.mentions.mention_sheet.Given as goal

abbrev pub invariant-loop-rule : goal.invariant-loop-rule
invariant-loop-rule l =
    seen l.found.items
    ++ flat_map (λ r. in_pattern mentions_of_test mentions_of_name r.pattern ++ in_body mentions_of_test mentions_of_name r.body) (map see.rule (drop l.rule-index l.rule-items))
    ≡ seen l.initial.found.items
    ++ flat_map (λ r. in_pattern mentions_of_test mentions_of_name r.pattern ++ in_body mentions_of_test mentions_of_name r.body) (map see.rule l.rule-items)

abbrev pub invariant-loop-body : goal.invariant-loop-body
invariant-loop-body l =
    seen l.found.items ++ flat_map (λ b. in_body mentions_of_test mentions_of_name b) (map (λ b. see.body b.now) (drop l.body-index l.body-items))
    ≡ seen l.initial.found.items ++ flat_map (λ b. in_body mentions_of_test mentions_of_name b) (map (λ b. see.body b.now) l.body-items)
