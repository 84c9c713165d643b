use Rattle.tc_path.specs.Scopes.{in_scope}
use Rattle.tc_path.specs.Views.{tokens_of}
use Rattle.tc_path.proofs.NodeTestLaws.{a_text_test, a_node_test, shorter_by_three}
use Rattle.tc_path.proofs.node_tests.node_test_at.Goals as goal

pub returns-in-Some : goal.returns-in-Some
returns-in-Some c = (a_text_test (in_scope c.args.scope.now) (tokens_of c.args.tokens.now) (tokens_of c.in-Some.rest.now) c.in-Some.ensures, shorter_by_three c.args.tokens.now c.in-Some.rest.now c.in-Some.ensures)

pub returns-in-Some-after_call : goal.returns-in-Some-after_call
returns-in-Some-after_call c = (
  a_node_test (in_scope c.args.scope.now) (tokens_of c.args.tokens.now) (tokens_of c.in-Some-after_call.rest.now) c.in-Some-after_call.ensures,
  shorter_by_three c.args.tokens.now c.in-Some-after_call.rest.now c.in-Some-after_call.ensures,
)

pub returns : goal.returns
returns c = c.name_test.ensures
