use Rattle.std.proofs.Common.{arith, length, ap}
use Rattle.tc_path.specs.Scopes.{in_scope}
use Rattle.tc_scan.specs.Views.{written_name}
use Rattle.tc_path.specs.Views.{token, tokens_of}
use Rattle.tc_path.proofs.NodeTestLaws.{shorter_by, first_seen, a_star_test, a_namespace_test, a_name_test}
use Rattle.tc_path.proofs.PhraseLaws.{out_of_memory}
use Rattle.tc_path.proofs.node_tests.name_test.Goals as goal

pub returns-in-Some : goal.returns-in-Some
returns-in-Some c = (a_star_test (in_scope c.args.scope.now) (tokens_of c.args.tokens.now) (tokens_of c.in-Some.rest.now) c.in-Some.ensures, shorter_by c.args.tokens.now c.in-Some.rest.now c.in-Some.ensures)

pub returns-in-Some-uri_of : goal.returns-in-Some-uri_of
returns-in-Some-uri_of c = (
  a_namespace_test (in_scope c.args.scope.now) (tokens_of c.args.tokens.now) (tokens_of c.in-Some-split_first.rest.now) c.in-AllOfPrefix.prefix.now c.in-Some-uri_of.uri.now
      (first_seen c.args.tokens.now c.in-Some-split_first.rest.now c.in-Some-split_first.first.now c.in-Some-split_first.ensures.cases.0 (ap token c.in-AllOfPrefix.is)) c.in-Some-uri_of.ensures,
  omega (arith, ap length c.in-Some-split_first.ensures.cases.0),
)

pub returns-in_ok-local-in-Some-namespace_of_name : goal.returns-in_ok-local-in-Some-namespace_of_name
returns-in_ok-local-in-Some-namespace_of_name c = (
  a_name_test (in_scope c.args.scope.now) (tokens_of c.args.tokens.now) (tokens_of c.in-Some-split_first.rest.now) (written_name c.in-Name.name) c.in-Some-namespace_of_name.uri.now c.in_ok-local-in-Some-namespace_of_name.local.now
      (first_seen c.args.tokens.now c.in-Some-split_first.rest.now c.in-Some-split_first.first.now c.in-Some-split_first.ensures.cases.0 (ap token c.in-Name.is)) c.in-Some-namespace_of_name.ensures c.if-ends_name_test.ensures
      c.in_ok-local-in-Some-namespace_of_name.ensures,
  omega (arith, ap length c.in-Some-split_first.ensures.cases.0),
)

pub returns-in_err-local-in-Some-namespace_of_name : goal.returns-in_err-local-in-Some-namespace_of_name
returns-in_err-local-in-Some-namespace_of_name c = out_of_memory _ _ c.from_residual.result c.from_residual.ensures.1
