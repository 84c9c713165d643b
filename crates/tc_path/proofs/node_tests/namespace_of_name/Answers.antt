use Rattle.std.proofs.Common.{sym, ◌∙◌}
use Rattle.tc_path.specs.Scopes.{in_scope}
use Rattle.tc_path.proofs.TokenLaws.{match_map}
use Rattle.tc_path.proofs.NodeTestLaws.{means_without, means_with, means_nothing}
use Rattle.tc_path.proofs.node_tests.namespace_of_name.Goals as goal

pub returns-then-is_empty : goal.returns-then-is_empty
returns-then-is_empty c = means_without (in_scope c.args.scope.now) c.args.name.now.prefix.now c.args.name.now.local.now (sym c.is_empty.ensures ∙ c.if-is_empty.true)

pub returns-else-is_empty : goal.returns-else-is_empty
returns-else-is_empty c =
    match_map c.uri_of.result (λ h. means_nothing (sym c.is_empty.ensures ∙ c.if-is_empty.false) h)
    (λ uri h. means_with (in_scope c.args.scope.now) c.args.name.now.prefix.now c.args.name.now.local.now uri.now (sym c.is_empty.ensures ∙ c.if-is_empty.false) h) c.uri_of.ensures
