use Rattle.tc_model.specs.CompactSyntaxStops.{no_equals}
use Rattle.tc_rnc.specs.Views as seen
use Rattle.tc_rnc.proofs.RefusalLaws.{refuses_map, passes, map_ok}
use Rattle.tc_rnc.proofs.DeclarationLaws as l
use Rattle.tc_rnc.proofs.declarations.uri.Goals as goal

pub returns-in_default-clause-no : goal.returns-in_default-clause-no
returns-in_default-clause-no c = refuses_map c.unexpected.ensures (λ x y. no_equals c.in_default.ensures y)

pub returns-clause-no : goal.returns-clause-no
returns-clause-no c = passes c.literal.result c.literal.ensures.no (λ x y. l.after_equals c.in-Some.ensures y)

pub returns-clause-ok : goal.returns-clause-ok
returns-clause-ok c =
    map_ok _ _ c.literal.result (λ r m. l.a_uri (seen.tokens c.args.tokens.now) (seen.tokens c.in-Some.rest.now) (seen.tokens r.1.now) r.0.now c.in-Some.ensures m) c.literal.ensures.ok

pub returns-clause-whole : goal.returns-clause-whole
returns-clause-whole c = map_ok _ _ c.literal.result (λ r m. l.uri_read c.in-Some.ensures m) c.literal.ensures.whole
