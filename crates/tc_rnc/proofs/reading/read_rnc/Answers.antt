use Rattle.std.proofs.Common.{ap, refl, subst}
use Rattle.tc_rnc.specs.Answers.{Excluded, Stands}
use Rattle.tc_rnc.specs.Lexed.{Lexed}
use Rattle.tc_rnc.specs.Views as seen
use Rattle.tc_rnc.proofs.RefusalLaws.{refuses_map, failed}
use Rattle.tc_rnc.proofs.AnswerLaws as l
use Rattle.tc_rnc.proofs.reading.read_rnc.Goals as goal

pub returns-in_err-defs-clause-no : goal.returns-in_err-defs-clause-no
returns-in_err-defs-clause-no c =
    failed _ c.in_err-defs.field-0.0 (λ e. Excluded e c.args.text.now) c.from_residual-in_err-defs.ensures.1
    (l.excluded (refuses_map c.in_err-defs.ensures.no (λ x y. l.stops_in_text (ap seen.tokens c.deref.ensures.value) c.in_ok-tokens.ensures y)))

pub returns-in_err-defs-clause-stands : goal.returns-in_err-defs-clause-stands
returns-in_err-defs-clause-stands c =
    failed _ c.in_err-defs.field-0.0 (λ e. Stands e c.args.text.now) c.from_residual-in_err-defs.ensures.1
    (l.stands (refuses_map c.in_err-defs.ensures.no (λ x y. l.stops_in_text (ap seen.tokens c.deref.ensures.value) c.in_ok-tokens.ensures y)))

pub returns-then-not-tokens-clause-no : goal.returns-then-not-tokens-clause-no
returns-then-not-tokens-clause-no c =
    l.excluded (refuses_map c.at_end.ensures (λ x y. l.goes_on_behind (ap seen.tokens c.deref.ensures.value) c.in_ok-defs.ensures.ok (subst (Lexed c.args.text.now _ _) c.if-not-tokens.true c.in_ok-tokens.ensures) y))

pub returns-then-not-tokens-clause-stands : goal.returns-then-not-tokens-clause-stands
returns-then-not-tokens-clause-stands c =
    l.stands (refuses_map c.at_end.ensures (λ x y. l.goes_on_behind (ap seen.tokens c.deref.ensures.value) c.in_ok-defs.ensures.ok (subst (Lexed c.args.text.now _ _) c.if-not-tokens.true c.in_ok-tokens.ensures) y))

pub returns-clause-ok : goal.returns-clause-ok
returns-clause-ok c =
    l.whole_text _ (ap seen.tokens c.deref.ensures.value) c.in_ok-defs.ensures.ok (subst (Lexed c.args.text.now _ _) c.if-not-tokens.false c.in_ok-tokens.ensures) refl refl
