use Rattle.std.proofs.Common.{arith}
use Rattle.tc_model.specs.Views.{node_test}
use Rattle.tc_path.specs.Scopes.{in_scope}
use Rattle.tc_model.specs.PathTextPhrases as p
use Rattle.tc_path.specs.Views.{tokens_of}
use Rattle.tc_path.proofs.NodeTestLaws.{map_read, shorter_by_two, a_spelled_child, no_child, no_spelled_child}
use Rattle.tc_path.proofs.node_tests.child_test.Goals as goal

pub returns-in-Some : goal.returns-in-Some
returns-in-Some c =
    map_read c.node_test_at.result
    (λ r a. (
      a_spelled_child (in_scope c.args.scope.now) (tokens_of c.args.tokens.now) (tokens_of c.in-Some.rest.now) (tokens_of r.1.now) (node_test r.0) c.in-Some.ensures a.0,
      omega (arith, a.1, shorter_by_two c.args.tokens.now c.in-Some.rest.now c.in-Some.ensures),
    ))
    (no_spelled_child (in_scope c.args.scope.now) (tokens_of c.args.tokens.now) (tokens_of c.in-Some.rest.now) c.in-Some.ensures) c.node_test_at.ensures

pub returns-in-None : goal.returns-in-None
returns-in-None c =
    map_read c.node_test_at-in-None.result (λ r a. (p.ChildAt.abbreviated a.0, a.1)) (no_child (in_scope c.args.scope.now) (tokens_of c.args.tokens.now) c.in-None.ensures) c.node_test_at-in-None.ensures
