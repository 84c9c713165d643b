use Rattle.std.proofs.Common.{false, map, subst}
use Rattle.tc_model.specs.CompactSyntax.{SchemaAt}
use Rattle.tc_model.specs.CompactSyntaxStops.{SchemaStops}
use Rattle.tc_rnc.specs.Views as seen
use Rattle.tc_rnc.proofs.RefusalLaws.{passed, passes, unmade_by, map_ok}
use Rattle.tc_rnc.proofs.UnreadLaws.{unread_ok}
use Rattle.tc_rnc.proofs.schema.top_level.Goals as goal

pub returns-in_err-scope-clause-no : goal.returns-in_err-scope-clause-no
returns-in_err-scope-clause-no c =
    unmade_by _ _ _ c.from_residual.ensures.1 c.in_err-scope.ensures.no

pub returns-in_err-rest-clause-no : goal.returns-in_err-rest-clause-no
returns-in_err-rest-clause-no c =
    passed _ _ c.from_residual-in_err-rest.ensures.1 c.in_err-rest.ensures.no (λ x y. subst (λ z. SchemaStops (seen.end c.args.end) z 2000 (seen.tokens c.args.tokens.now) x) c.in_ok-scope.ensures.ok y)

pub returns-clause-ok : goal.returns-clause-ok
returns-clause-ok c =
    map_ok _ _ c.top_level_body.result
    (λ r m. subst (λ z. SchemaAt false z 2000 (seen.tokens c.args.tokens.now) (map seen.definition r.now)) c.in_ok-scope.ensures.ok (c.in_ok-rest.ensures.ok.forth 2000 (map seen.definition r.now) m)) c.top_level_body.ensures.ok

pub returns-clause-no : goal.returns-clause-no
returns-clause-no c =
    passes c.top_level_body.result c.top_level_body.ensures.no
    (λ x y. subst (λ z. SchemaStops (seen.end c.args.end) z 2000 (seen.tokens c.args.tokens.now) x) c.in_ok-scope.ensures.ok (c.in_ok-rest.ensures.ok.stops 2000 x y))

pub returns-in_err-scope-clause-ok : goal.returns-in_err-scope-clause-ok
returns-in_err-scope-clause-ok c = unread_ok _ _ _ c.from_residual.ensures.1

pub returns-in_err-rest-clause-ok : goal.returns-in_err-rest-clause-ok
returns-in_err-rest-clause-ok c = unread_ok _ _ _ c.from_residual-in_err-rest.ensures.1
