use Rattle.std.proofs.Common.{◌∙◌, sym, ap, arith, map}
use Rattle.tc_model.specs.Grammars as g
use Rattle.tc_model.specs.Views as seen
use Rattle.tc_model.proofs.ViewsGrammar as made
use Rattle.tc_rnc.specs.Views as see
use Rattle.tc_rnc.proofs.Views.{see_not_allowed, see_text, see_ref, see_element as see_syntax_element}
use Rattle.tc_simple.specs.Becoming.{around, becomes, made_in}
use Rattle.tc_simple.specs.Nodes.{see_element}
use Rattle.tc_simple.proofs.Made.{made_so, patterns_end, patterns_more}
use Rattle.tc_simple.proofs.Below.{among_becomes, around_becomes, empty_becomes}
use Rattle.tc_simple.proofs.Answered.{failed_ok}
use Rattle.tc_simple.proofs.becomes.+made.Goals as goal

pub patterns-loop-one-preserved : goal.patterns-loop-one-preserved
patterns-loop-one-preserved t c =
    patterns_more (made_in c.args.table.now c.args.made.now) (map see_element c.args.elements.now) c.args.syntax.now c.loop-one.one-index c.one-item.result c.in_ok-p.p c.loop-one.out.items c.push.new.self.items
    c.loop-one-test.true c.one-item.is c.in_ok-p.ensures c.in_ok-push.ensures.items
    ∙ c.loop-one.invariant

pub patterns-returns : goal.patterns-returns
patterns-returns t c =
    ap seen.patterns c.into_bump_slice.ensures
    ∙ patterns_end (made_in c.args.table.now c.args.made.now) (map see_element c.args.elements.now) c.args.syntax.now c.loop-one.one-index c.loop-one.out.items (omega (arith, c.loop-one-test.false)) c.loop-one.invariant

pub pattern-returns-in-Empty : goal.pattern-returns-in-Empty
pattern-returns-in-Empty t c = empty_becomes (made_in c.args.table.now c.args.made.now) (map see_element c.args.elements.now) c.args.syntax.now c.in-Empty.is

pub pattern-returns-in-NotAllowed : goal.pattern-returns-in-NotAllowed
pattern-returns-in-NotAllowed t c = made.see_not_allowed ∙ ap (becomes (made_in c.args.table.now c.args.made.now) (map see_element c.args.elements.now)) (sym (ap see.pattern c.in-NotAllowed.is ∙ see_not_allowed))

pub pattern-returns-in-Text : goal.pattern-returns-in-Text
pattern-returns-in-Text t c = made.see_text ∙ ap (becomes (made_in c.args.table.now c.args.made.now) (map see_element c.args.elements.now)) (sym (ap see.pattern c.in-Text.is ∙ see_text))

pub pattern-returns-in-Ref : goal.pattern-returns-in-Ref
pattern-returns-in-Ref t c = c.referred.ensures ∙ ap (becomes (made_in c.args.table.now c.args.made.now) (map see_element c.args.elements.now)) (sym (ap see.pattern c.in-Ref.is ∙ see_ref _ _))

pub pattern-returns-in-Element : goal.pattern-returns-in-Element
pattern-returns-in-Element t c =
    made.see_ref _ ∙ (ap g.ref c.number_at.ensures ∙ ap (becomes (made_in c.args.table.now c.args.made.now) (map see_element c.args.elements.now)) (sym (ap see.pattern c.in-Element.is ∙ see_syntax_element _ _ _)))

pub pattern-returns-in_ok-part-in-Mixed : goal.pattern-returns-in_ok-part-in-Mixed
pattern-returns-in_ok-part-in-Mixed t c =
    let f = made_in c.args.table.now c.args.made.now in
    let es = map see_element c.args.elements.now in
    made_so c.around.result (around (see.pattern c.args.syntax.now) (seen.pattern c.in_ok-part-in-Mixed.part)) (becomes f es (see.pattern c.args.syntax.now)) c.around.ensures
    (around_becomes f es c.args.syntax.now c.in-Mixed.p (seen.pattern c.in_ok-part-in-Mixed.part) c.in-Mixed.is c.in_ok-part-in-Mixed.ensures)

pub pattern-returns-in_ok-parts-in-Group : goal.pattern-returns-in_ok-parts-in-Group
pattern-returns-in_ok-parts-in-Group t c =
    let f = made_in c.args.table.now c.args.made.now in
    let es = map see_element c.args.elements.now in
    c.among.ensures ∙ among_becomes f es c.args.syntax.now c.in-Group.ps (seen.patterns c.in_ok-parts-in-Group.parts.now) c.in-Group.is c.in_ok-parts-in-Group.ensures

pub pattern-returns-in_err-parts-in-Group : goal.pattern-returns-in_err-parts-in-Group
pattern-returns-in_err-parts-in-Group t c = failed_ok c.from_residual.result _ _ c.from_residual.ensures.1

pub pattern-returns-in_err-part-in-Mixed : goal.pattern-returns-in_err-part-in-Mixed
pattern-returns-in_err-part-in-Mixed t c = failed_ok c.from_residual-in_err-part-in-Mixed.result _ _ c.from_residual-in_err-part-in-Mixed.ensures.1

pub patterns-returns-in_err-p : goal.patterns-returns-in_err-p
patterns-returns-in_err-p t c = failed_ok c.from_residual.result _ _ c.from_residual.ensures.1

pub patterns-returns-in_err-push : goal.patterns-returns-in_err-push
patterns-returns-in_err-push t c = failed_ok c.from_residual-in_err-push.result _ _ c.from_residual-in_err-push.ensures.1
