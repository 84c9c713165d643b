use Rattle.std.proofs.Common.{◌++◌, ◌∙◌, map, ap}
use Rattle.tc_model.specs.CompactSyntaxStops.{in_grammar, inner_grammar}
use Rattle.tc_rnc.specs.Refusals.{unsupported}
use Rattle.tc_rnc.specs.Views as seen
use Rattle.tc_rnc.proofs.RefusalLaws.{refuses_map, passed, more}
use Rattle.tc_rnc.proofs.UnreadLaws.{unread_ok}
use Rattle.tc_rnc.proofs.TopLaws as l
use Rattle.tc_rnc.proofs.parser.Parser.whole_grammar.Goals as goal

pub returns-in_err-after-clause-no : goal.returns-in_err-after-clause-no
returns-in_err-after-clause-no c =
    passed _ _ c.from_residual.ensures.1 c.in_err-after.ensures.no (λ x y. in_grammar c.requires y)

pub returns-then-goes_on-clause-no : goal.returns-then-goes_on-clause-no
returns-then-goes_on-clause-no c =
    let (es, is, m) = c.in_ok-after.ensures.ok in
    unsupported (inner_grammar c.requires m c.if-goes_on.ensures)

pub returns-in-Some-clause-no : goal.returns-in-Some-clause-no
returns-in-Some-clause-no c =
    let (es, is, m) = c.in_ok-after.ensures.ok in
    refuses_map c.unexpected.ensures (λ x y. l.grammar_past (seen.tokens c.in_ok-after.after.now) c.requires m c.if-goes_on.ensures (more c.in-Some.ensures) y)

pub returns-clause-ok : goal.returns-clause-ok
returns-clause-ok c =
    let (es, is, m) = c.in_ok-after.ensures.ok in
    l.block_whole 2000 (seen.token c.args.word.now) (seen.tokens c.args.rest.now) (seen.tokens c.in_ok-after.after.now) es (map seen.definition c.into_bump_slice.result.now) c.requires m c.in_default.ensures
    (ap (map seen.definition) c.into_bump_slice.ensures ∙ (is ∙ ap (λ z. map seen.definition z ++ es) c.new-defs.ensures.items))

pub returns-in_err-after-clause-ok : goal.returns-in_err-after-clause-ok
returns-in_err-after-clause-ok c = unread_ok _ _ _ c.from_residual.ensures.1
