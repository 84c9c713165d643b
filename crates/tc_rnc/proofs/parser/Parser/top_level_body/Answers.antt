use Rattle.std.proofs.Common.{false, map, sym, subst}
use Rattle.tc_model.specs.CompactSyntax.{SchemaAt}
use Rattle.tc_model.specs.CompactSyntaxStops.{SchemaStops}
use Rattle.tc_rnc.specs.Scopes.{scope_of}
use Rattle.tc_rnc.specs.Views as seen
use Rattle.tc_rnc.proofs.RefusalLaws.{passes, map_ok}
use Rattle.tc_rnc.proofs.parser.Parser.top_level_body.Goals as goal

pub returns-in-Some-clause-ok : goal.returns-in-Some-clause-ok
returns-in-Some-clause-ok c =
    map_ok _ _ c.whole_grammar.result (λ r m. subst (λ z. SchemaAt false (scope_of c.args.self.now.scope) 2000 z (map seen.definition r.now)) (sym c.in-Some.ensures.0) m) c.whole_grammar.ensures.ok

pub returns-in-Some-clause-no : goal.returns-in-Some-clause-no
returns-in-Some-clause-no c =
    passes c.whole_grammar.result c.whole_grammar.ensures.no (λ x y. subst (λ z. SchemaStops (seen.end c.args.self.now.end) (scope_of c.args.self.now.scope) 2000 z x) (sym c.in-Some.ensures.0) y)
