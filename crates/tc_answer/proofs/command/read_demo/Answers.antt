use Rattle.std.proofs.Common.{◌∷◌, [], ◌∙◌, refl, sym, ap, codes}
use Rattle.tc_scan.proofs.NamesLaws.{at_none}
use Rattle.tc_answer.specs.Words.{shows}
use Rattle.tc_answer.specs.WordsSeen.{texts}
use Rattle.tc_answer.specs.declared.limits.TheConstants.{MOST_DEMO}
use Rattle.tc_answer.proofs.Marked.{tails}
use Rattle.tc_answer.proofs.Named.{texts-only}
use Rattle.tc_answer.proofs.NoCommand.{lacking}
use Rattle.tc_answer.proofs.OperandWords.{no_text, more_texts, no_number}
use Rattle.tc_answer.proofs.command.read_demo.Goals as goal

pub returns-in_err-numeral : goal.returns-in_err-numeral
returns-in_err-numeral c = at_none _ c.from_residual.ensures (lacking 5 refl (λ numeral size p h. no_text c.args.words.now numeral [] c.in_err-numeral.ensures.cases (tails p)))

pub returns-then-not-is_empty : goal.returns-then-not-is_empty
returns-then-not-is_empty c = lacking 5 refl (λ numeral size p h. more_texts c.args.words.now c.in_ok-numeral.rest.now c.in_ok-numeral.numeral.now c.is_empty.result numeral c.in_ok-numeral.ensures.cases.0 c.is_empty.ensures c.if-not-is_empty.true (tails p))

pub returns-in_err-size : goal.returns-in_err-size
returns-in_err-size c =
    let only = texts-only c.args.words.now c.in_ok-numeral.rest.now c.in_ok-numeral.numeral.now c.is_empty.result c.in_ok-numeral.ensures.cases.0 c.is_empty.ensures c.if-not-is_empty.false in
    at_none _ c.from_residual-in_err-size.ensures (lacking 5 refl (λ numeral size p h.
    no_number (texts c.args.words.now) MOST_DEMO c.as_str.result.now (only ∙ ap (λ x. x ∷ []) (sym c.as_str.ensures.value)) c.in_err-size.ensures numeral size (tails p) h))

pub returns : goal.returns
returns c =
    let only = texts-only c.args.words.now c.in_ok-numeral.rest.now c.in_ok-numeral.numeral.now c.is_empty.result c.in_ok-numeral.ensures.cases.0 c.is_empty.ensures c.if-not-is_empty.false in
    shows (ap (λ w. codes "demo" ∷ w) (only ∙ ap (λ x. x ∷ []) (sym c.as_str.ensures.value))) c.in_ok-size.ensures
