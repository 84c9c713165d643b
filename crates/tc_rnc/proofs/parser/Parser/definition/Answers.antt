use Rattle.std.proofs.Common.{subst, codes}
use Rattle.tc_model.specs.CompactSyntax.{one_definition}
use Rattle.tc_model.specs.CompactSyntaxStops as st
use Rattle.tc_model.specs.CompactSyntaxStops.{LacksWord}
use Rattle.tc_model.specs.Views.{place}
use Rattle.tc_rnc.specs.Scopes.{scope_of}
use Rattle.tc_rnc.specs.Views as seen
use Rattle.tc_rnc.proofs.RefusalLaws.{refuses_map, passed, unmade, unmade_by}
use Rattle.tc_rnc.proofs.UnreadLaws.{unread_ok}
use Rattle.tc_rnc.proofs.DefinitionLaws.{not_ended, assigned_stops, a_definition, pushed}
use Rattle.tc_rnc.proofs.parser.Parser.definition.Goals as goal

pub returns-in_default-clause-no : goal.returns-in_default-clause-no
returns-in_default-clause-no c = absurd (not_ended c.in_default.ensures c.requires.more)

pub no_definition-requires : goal.no_definition-requires
no_definition-requires c = record {
  first = (seen.tokens c.in-Some.rest.now, c.in-Some.ensures);
  more = c.requires.more;
  no_div = subst (LacksWord (codes "div")) c.in-Some.ensures c.requires.no_div;
  nothing = c.in_default-defined_name.ensures;
}

pub returns-in_default-defined_name-clause-no : goal.returns-in_default-defined_name-clause-no
returns-in_default-defined_name-clause-no c = refuses_map c.no_definition.ensures (λ x y. st.no_definition y)

pub returns-in_err-joins-clause-no : goal.returns-in_err-joins-clause-no
returns-in_err-joins-clause-no c =
    passed _ _ c.from_residual.ensures.1 c.in_err-joins.ensures.no
    (λ x y. assigned_stops (seen.token c.in-Some.first.now) c.in-Some-defined_name.name.now c.in-Some.ensures c.in-Some-defined_name.ensures y)

pub returns-in_err-def-clause-no : goal.returns-in_err-def-clause-no
returns-in_err-def-clause-no c = unmade_by _ _ _ c.from_residual-in_err-def.ensures.1 c.in_err-def.ensures.no

pub returns-in_err-push-clause-no : goal.returns-in_err-push-clause-no
returns-in_err-push-clause-no c = unmade _ _ c.from_residual-in_err-push.ensures.1

pub returns-clause-ok : goal.returns-clause-ok
returns-clause-ok c = (
  one_definition c.in-Some-defined_name.name.now (seen.joins c.in_ok-joins.joins) (seen.pattern c.in_ok-joins.body) (place c.in-Some.first.now.place),
  pushed c.args.defs.now.items c.push.new.self.items c.in_ok-def.def _ c.in_ok-push.ensures.items c.in_ok-def.ensures.ok,
  a_definition (scope_of c.args.self.now.scope) c.args.deepest (seen.token c.in-Some.first.now) (seen.tokens c.args.tokens.now) (seen.tokens c.in-Some.rest.now) (seen.tokens c.in_ok-joins.after.now) c.in-Some-defined_name.name.now
      (seen.joins c.in_ok-joins.joins) (seen.pattern c.in_ok-joins.body) c.in-Some.ensures c.in-Some-defined_name.ensures c.in_ok-joins.ensures.ok,
)

pub returns-in_err-joins-clause-ok : goal.returns-in_err-joins-clause-ok
returns-in_err-joins-clause-ok c = unread_ok _ _ _ c.from_residual.ensures.1

pub returns-in_err-def-clause-ok : goal.returns-in_err-def-clause-ok
returns-in_err-def-clause-ok c = unread_ok _ _ _ c.from_residual-in_err-def.ensures.1

pub returns-in_err-push-clause-ok : goal.returns-in_err-push-clause-ok
returns-in_err-push-clause-ok c = unread_ok _ _ _ c.from_residual-in_err-push.ensures.1
