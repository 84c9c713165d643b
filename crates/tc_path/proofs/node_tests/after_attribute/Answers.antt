use Rattle.tc_path.specs.Scopes.{in_scope}
use Rattle.tc_path.specs.Views.{tokens_of}
use Rattle.tc_path.proofs.TokenLaws.{match_map}
use Rattle.tc_path.proofs.NodeTestLaws.{no_attribute, no_at_test, no_spelled_test, an_attribute, a_spelled_attribute}
use Rattle.tc_path.proofs.node_tests.after_attribute.Goals as goal

pub returns-in-None : goal.returns-in-None
returns-in-None c = no_attribute (in_scope c.args.scope.now) (tokens_of c.args.tokens.now) c.in_default.ensures c.in-None.ensures

pub returns-in-Some : goal.returns-in-Some
returns-in-Some c =
    match_map c.after_attribute_test.result (λ h. no_at_test (in_scope c.args.scope.now) (tokens_of c.args.tokens.now) (tokens_of c.in-Some.rest.now) c.in-Some.ensures h)
    (λ r h. an_attribute (in_scope c.args.scope.now) (tokens_of c.args.tokens.now) (tokens_of c.in-Some.rest.now) (tokens_of r.now) c.in-Some.ensures h) c.after_attribute_test.ensures

pub returns-in-Some-after_axis : goal.returns-in-Some-after_axis
returns-in-Some-after_axis c =
    match_map c.after_attribute_test-in-Some-after_axis.result
    (λ h. no_spelled_test (in_scope c.args.scope.now) (tokens_of c.args.tokens.now) (tokens_of c.in-Some-after_axis.rest.now) c.in-Some-after_axis.ensures h)
    (λ r h. a_spelled_attribute (in_scope c.args.scope.now) (tokens_of c.args.tokens.now) (tokens_of c.in-Some-after_axis.rest.now) (tokens_of r.now) c.in-Some-after_axis.ensures h) c.after_attribute_test-in-Some-after_axis.ensures
