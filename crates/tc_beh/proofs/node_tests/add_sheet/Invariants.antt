use Rattle.std.proofs.Common.{◌≡◌, ◌++◌, drop, map, flat_map}
use Rattle.tc_beh.specs.AlikeSymbols.{seen, itself, no_test_of}
use Rattle.tc_model.specs.Views as see
use Rattle.tc_model.specs.Symbols.{in_body, in_pattern}
use Rattle.tc_beh.proofs.node_tests.add_sheet.Given as goal

abbrev pub invariant-loop-rule : goal.invariant-loop-rule
invariant-loop-rule l =
    seen l.found.items
    ++ flat_map (λ r. in_pattern itself no_test_of r.pattern ++ in_body itself no_test_of r.body) (map see.rule (drop l.rule-index l.rule-items))
    ≡ seen l.initial.found.items
    ++ flat_map (λ r. in_pattern itself no_test_of r.pattern ++ in_body itself no_test_of r.body) (map see.rule l.rule-items)

abbrev pub invariant-loop-body : goal.invariant-loop-body
invariant-loop-body l =
    seen l.found.items ++ flat_map (λ b. in_body itself no_test_of b) (map (λ b. see.body b.now) (drop l.body-index l.body-items))
    ≡ seen l.initial.found.items ++ flat_map (λ b. in_body itself no_test_of b) (map (λ b. see.body b.now) l.body-items)
