use Rattle.std.proofs.Common.{false, sym, subst}
use Rattle.tc_model.specs.CompactSyntax.{SchemaAt}
use Rattle.tc_rnc.specs.Scopes.{scope_of}
use Rattle.tc_rnc.specs.Views as seen
use Rattle.tc_rnc.proofs.RefusalLaws.{refuses_map, passed, unmade_as, map_ok, more}
use Rattle.tc_rnc.proofs.UnreadLaws.{unread_ok}
use Rattle.tc_rnc.proofs.TopLaws as l
use Rattle.tc_rnc.proofs.parser.Parser.whole_pattern.Goals as goal

pub returns-in_err-body-clause-no : goal.returns-in_err-body-clause-no
returns-in_err-body-clause-no c =
    passed _ _ c.from_residual.ensures.1 c.in_err-body.ensures.no (λ x y. l.pattern_stops (seen.tokens c.args.tokens.now) c.requires.declared c.requires.alone c.requires.undefined y)

pub returns-in-Some-clause-no : goal.returns-in-Some-clause-no
returns-in-Some-clause-no c =
    refuses_map c.unexpected.ensures (λ x y. l.pattern_past (seen.tokens c.args.tokens.now) (seen.tokens c.in_ok-body.rest.now) c.requires.declared c.requires.alone c.requires.undefined c.in_ok-body.ensures.ok (more c.in-Some.ensures) y)

pub returns-clause-no : goal.returns-clause-no
returns-clause-no c = unmade_as _ c.start_alone.result c.start_alone.ensures.no

pub returns-clause-ok : goal.returns-clause-ok
returns-clause-ok c =
    map_ok _ _ c.start_alone.result
    (λ r m. subst (SchemaAt false (scope_of c.args.self.now.scope) 2000 (seen.tokens c.args.tokens.now)) (sym m)
    (l.pattern_whole (scope_of c.args.self.now.scope) (seen.tokens c.args.tokens.now) (seen.tokens c.in_ok-body.rest.now) (seen.pattern c.in_ok-body.body) c.in_ok-body.ensures.ok c.in_default.ensures)) c.start_alone.ensures.ok

pub returns-in_err-body-clause-ok : goal.returns-in_err-body-clause-ok
returns-in_err-body-clause-ok c = unread_ok _ _ _ c.from_residual.ensures.1
