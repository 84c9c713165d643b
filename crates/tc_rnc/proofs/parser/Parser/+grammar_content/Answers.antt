use Rattle.std.proofs.Common.{sym, subst, arith}
use Rattle.tc_model.specs.CompactSyntaxStops as st
use Rattle.tc_rnc.specs.Scopes.{scope_of}
use Rattle.tc_rnc.specs.Views as seen
use Rattle.tc_rnc.proofs.RefusalLaws.{refuses_map, passed, passes, map_ok}
use Rattle.tc_rnc.proofs.UnreadLaws.{unread_ok}
use Rattle.tc_rnc.proofs.PatternLaws.{opening_block}
use Rattle.tc_rnc.proofs.DefinitionLaws as l
use Rattle.tc_rnc.proofs.parser.Parser.+grammar_content.Goals as goal

pub braced_definitions-returns-in_err-inside-clause-no : goal.braced_definitions-returns-in_err-inside-clause-no
braced_definitions-returns-in_err-inside-clause-no t c = passed _ _ c.from_residual.ensures.1 c.in_err-inside.ensures.no (λ x y. opening_block y)

pub braced_definitions-returns-in_err-closing-clause-no : goal.braced_definitions-returns-in_err-closing-clause-no
braced_definitions-returns-in_err-closing-clause-no t c =
    passed _ _ c.from_residual-in_err-closing.ensures.1 c.in_err-closing.ensures.no (λ x y. l.block_stops c.in_ok-inside.ensures.depth c.in_ok-inside.ensures.ok y)

pub braced_definitions-returns-in-None-clause-no : goal.braced_definitions-returns-in-None-clause-no
braced_definitions-returns-in-None-clause-no t c =
    let (ds, e, m) = c.in_ok-closing.ensures.ok in
    refuses_map c.unexpected.ensures (λ x y. l.unclosed_block c.in_ok-inside.ensures.depth c.in_ok-inside.ensures.ok m c.in-None.ensures y)

pub braced_definitions-returns-in-Some-clause-ok : goal.braced_definitions-returns-in-Some-clause-ok
braced_definitions-returns-in-Some-clause-ok t c =
    let (ds, e, m) = c.in_ok-closing.ensures.ok in (
      ds,
      e,
      l.a_block (scope_of c.args.self.now.scope) c.args.deepest c.in_ok-inside.deeper (seen.tokens c.args.tokens.now) (seen.tokens c.in_ok-inside.inside.now) (seen.tokens c.in_ok-closing.closing.now) (seen.tokens c.in-Some.after.now) ds
          c.in_ok-inside.ensures.depth c.in_ok-inside.ensures.ok m c.in-Some.ensures,
    )

pub definitions-loop-rest-init : goal.definitions-loop-rest-init
definitions-loop-rest-init t c =
    subst (λ z. l.DefinitionsSoFar (seen.end c.args.self.now.end) (scope_of c.args.self.now.scope) c.args.deepest (seen.tokens c.args.tokens.now) (seen.tokens z) c.args.defs.now.items c.args.defs.now.items) (sym c.split_at.ensures.back)
    (l.no_definition_yet (seen.end c.args.self.now.end) (scope_of c.args.self.now.scope) c.args.deepest (seen.tokens c.args.tokens.now) c.args.defs.now.items)

pub definitions-returns-then-is_end-clause-ok : goal.definitions-returns-then-is_end-clause-ok
definitions-returns-then-is_end-clause-ok t c =
    l.definitions_done (seen.end c.args.self.now.end) (scope_of c.args.self.now.scope) c.args.deepest (seen.tokens c.args.tokens.now) (seen.tokens c.loop-rest.rest.now) c.args.defs.now.items c.loop-rest.defs.items c.loop-rest.invariant c.if-is_end.ensures

pub definitions-grammar_content-requires : goal.definitions-grammar_content-requires
definitions-grammar_content-requires t c = (omega (arith, c.decreases), c.if-is_end.ensures)

pub definitions-returns-in_err-after-clause-no : goal.definitions-returns-in_err-after-clause-no
definitions-returns-in_err-after-clause-no t c = passed _ _ c.from_residual.ensures.1 c.in_err-after.ensures.no (λ x y. c.loop-rest.invariant.stops x (st.definition y))

pub definitions-loop-rest-smaller : goal.definitions-loop-rest-smaller
definitions-loop-rest-smaller t c = l.definition_shorter c.in_ok-after.ensures.ok.2

pub definitions-loop-rest-preserved : goal.definitions-loop-rest-preserved
definitions-loop-rest-preserved t c =
    let (ds, e, m) = c.in_ok-after.ensures.ok in
    l.more_definitions (seen.end c.args.self.now.end) (scope_of c.args.self.now.scope) c.args.deepest (seen.tokens c.args.tokens.now) (seen.tokens c.loop-rest.rest.now) (seen.tokens c.in_ok-after.after.now) c.args.defs.now.items c.loop-rest.defs.items c.grammar_content.new.defs.items ds
    c.loop-rest.invariant e m

pub grammar_content-returns-in-Some-clause-ok : goal.grammar_content-returns-in-Some-clause-ok
grammar_content-returns-in-Some-clause-ok t c =
    map_ok _ _ c.braced_definitions.result
    (λ r h. let (ds, e, m) = h in (ds, e, l.a_div (scope_of c.args.self.now.scope) c.args.deepest (seen.tokens c.args.tokens.now) (seen.tokens c.in-Some.rest.now) (seen.tokens r.now) ds c.in-Some.ensures m)) c.braced_definitions.ensures.ok

pub grammar_content-returns-in-Some-clause-no : goal.grammar_content-returns-in-Some-clause-no
grammar_content-returns-in-Some-clause-no t c = passes c.braced_definitions.result c.braced_definitions.ensures.no (λ x y. l.div_stops c.in-Some.ensures y)

pub braced_definitions-returns-in_err-inside-clause-ok : goal.braced_definitions-returns-in_err-inside-clause-ok
braced_definitions-returns-in_err-inside-clause-ok t c = unread_ok _ _ _ c.from_residual.ensures.1

pub braced_definitions-returns-in_err-closing-clause-ok : goal.braced_definitions-returns-in_err-closing-clause-ok
braced_definitions-returns-in_err-closing-clause-ok t c = unread_ok _ _ _ c.from_residual-in_err-closing.ensures.1

pub definitions-returns-in_err-after-clause-ok : goal.definitions-returns-in_err-after-clause-ok
definitions-returns-in_err-after-clause-ok t c = unread_ok _ _ _ c.from_residual.ensures.1

pub grammar_content-braced_definitions-requires : goal.grammar_content-braced_definitions-requires
grammar_content-braced_definitions-requires t c = (omega (arith, c.decreases), tt)

pub braced_definitions-definitions-requires : goal.braced_definitions-definitions-requires
braced_definitions-definitions-requires t c = (omega (arith, c.decreases, c.in_ok-inside.ensures.depth), tt)

pub grammar_content-returns-clause-ok : goal.grammar_content-returns-clause-ok
grammar_content-returns-clause-ok t c = c.definition.ensures.ok

pub grammar_content-returns-clause-no : goal.grammar_content-returns-clause-no
grammar_content-returns-clause-no t c = c.definition.ensures.no
