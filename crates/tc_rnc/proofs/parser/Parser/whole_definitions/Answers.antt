use Rattle.std.proofs.Common.{◌++◌, ◌∙◌, map, ap}
use Rattle.tc_model.specs.CompactSyntaxStops.{in_definitions}
use Rattle.tc_rnc.specs.Scopes.{scope_of}
use Rattle.tc_rnc.specs.Views as seen
use Rattle.tc_rnc.proofs.RefusalLaws.{refuses_map, passed, more}
use Rattle.tc_rnc.proofs.UnreadLaws.{unread_ok}
use Rattle.tc_rnc.proofs.TopLaws as l
use Rattle.tc_rnc.proofs.parser.Parser.whole_definitions.Goals as goal

pub returns-in_err-rest-clause-no : goal.returns-in_err-rest-clause-no
returns-in_err-rest-clause-no c =
    passed _ _ c.from_residual.ensures.1 c.in_err-rest.ensures.no (λ x y. in_definitions c.requires y)

pub returns-in-Some-clause-no : goal.returns-in-Some-clause-no
returns-in-Some-clause-no c =
    let (es, is, m) = c.in_ok-rest.ensures.ok in
    refuses_map c.unexpected.ensures (λ x y. l.definitions_past (seen.tokens c.in_ok-rest.rest.now) c.requires m (more c.in-Some.ensures) y)

pub returns-clause-ok : goal.returns-clause-ok
returns-clause-ok c =
    let (es, is, m) = c.in_ok-rest.ensures.ok in
    l.definitions_whole (scope_of c.args.self.now.scope) (seen.tokens c.args.tokens.now) (seen.tokens c.in_ok-rest.rest.now) es (map seen.definition c.into_bump_slice.result.now) m c.in_default.ensures
    (ap (map seen.definition) c.into_bump_slice.ensures ∙ (is ∙ ap (λ z. map seen.definition z ++ es) c.new-defs.ensures.items))

pub returns-in_err-rest-clause-ok : goal.returns-in_err-rest-clause-ok
returns-in_err-rest-clause-ok c = unread_ok _ _ _ c.from_residual.ensures.1
