use Rattle.std.proofs.Common.{ap}
use Rattle.tc_path.specs.Scopes.{in_scope}
use Rattle.tc_scan.specs.Views.{written_name}
use Rattle.tc_path.specs.Views.{token, tokens_of}
use Rattle.tc_path.proofs.NodeTestLaws.{first_seen, attribute_star, attribute_namespace, attribute_name, no_attribute_namespace, no_attribute_name}
use Rattle.tc_path.proofs.node_tests.after_attribute_test.Goals as goal

pub returns-in-Some : goal.returns-in-Some
returns-in-Some c = attribute_star (in_scope c.args.scope.now) (tokens_of c.args.tokens.now) (tokens_of c.in-Some.rest.now) c.in-Some.ensures

pub returns-in-Some-uri_of : goal.returns-in-Some-uri_of
returns-in-Some-uri_of c =
    attribute_namespace (in_scope c.args.scope.now) (tokens_of c.args.tokens.now) (tokens_of c.in_ok-first.rest.now) c.in-AllOfPrefix.prefix.now c.in-Some-uri_of.field-0.now
    (first_seen c.args.tokens.now c.in_ok-first.rest.now c.in_ok-first.first.now c.in_ok-first.ensures.cases.0 (ap token c.in-AllOfPrefix.is)) c.in-Some-uri_of.ensures

pub returns-in-Some-namespace_of_name : goal.returns-in-Some-namespace_of_name
returns-in-Some-namespace_of_name c =
    attribute_name (in_scope c.args.scope.now) (tokens_of c.args.tokens.now) (tokens_of c.in_ok-first.rest.now) (written_name c.in-Name.name) _
    (first_seen c.args.tokens.now c.in_ok-first.rest.now c.in_ok-first.first.now c.in_ok-first.ensures.cases.0 (ap token c.in-Name.is)) c.in-Some-namespace_of_name.ensures

pub returns-in-None : goal.returns-in-None
returns-in-None c =
    no_attribute_namespace (in_scope c.args.scope.now) (tokens_of c.args.tokens.now) (tokens_of c.in_ok-first.rest.now) c.in-AllOfPrefix.prefix.now
    (first_seen c.args.tokens.now c.in_ok-first.rest.now c.in_ok-first.first.now c.in_ok-first.ensures.cases.0 (ap token c.in-AllOfPrefix.is)) c.in-None.ensures

pub returns-in-None-namespace_of_name : goal.returns-in-None-namespace_of_name
returns-in-None-namespace_of_name c =
    no_attribute_name (in_scope c.args.scope.now) (tokens_of c.args.tokens.now) (tokens_of c.in_ok-first.rest.now) (written_name c.in-Name.name)
    (first_seen c.args.tokens.now c.in_ok-first.rest.now c.in_ok-first.first.now c.in_ok-first.ensures.cases.0 (ap token c.in-Name.is)) c.in-None-namespace_of_name.ensures
