use Rattle.std.proofs.Common.{◌≡◌, ◌∷◌, ◌∙◌, refl, sym, ap, subst}
use Rattle.tc_scan.proofs.NamesLaws.{at_none}
use Rattle.tc_answer.specs.WordsSeen.{texts}
use Rattle.tc_answer.specs.Words.{IsNumeral}
use Rattle.tc_answer.proofs.Named.{texts-first}
use Rattle.tc_answer.proofs.OperandWords.{no_text}
use Rattle.tc_answer.proofs.Marked.{behind_mark, unmarked, is_mark, is_no_mark, heads, tails}
use Rattle.tc_answer.proofs.command.read_option.Goals as goal

pub returns-then-ne : goal.returns-then-ne
returns-then-ne c =
    let first = ap texts c.in-Some.ensures.cases.0 in
    let other = is_no_mark c.as_str.result.now c.args.mark.now c.ne.result c.ne.ensures c.if-ne.true in
    (refl, λ number operands h are. unmarked c.args.mark.now c.args.most (texts c.args.words.now) (λ rest same. other (c.as_str.ensures.value ∙ heads (sym first ∙ same))) number operands h)

pub returns-in_err-numeral : goal.returns-in_err-numeral
returns-in_err-numeral c =
    at_none _ c.from_residual.ensures (λ number operands h are.
    let words = texts-first c.args.words.now c.in-Some.rest.now c.in-Some.option.now c.as_str.result.now c.args.mark.now c.in-Some.ensures.cases.0 c.as_str.ensures.value (is_mark c.as_str.result.now c.args.mark.now c.ne.result c.ne.ensures c.if-ne.false) in
    let behind = behind_mark c.args.mark.now c.args.most (texts c.args.words.now) (texts c.in-Some.rest.now) words c.requires.mark number operands h are in
    no_text c.in-Some.rest.now behind.1 operands c.in_err-numeral.ensures.cases behind.2)

pub returns-in_err-number : goal.returns-in_err-number
returns-in_err-number c =
    at_none _ c.from_residual-in_err-number.ensures (λ number operands h are.
    let words = texts-first c.args.words.now c.in-Some.rest.now c.in-Some.option.now c.as_str.result.now c.args.mark.now c.in-Some.ensures.cases.0 c.as_str.ensures.value (is_mark c.as_str.result.now c.args.mark.now c.ne.result c.ne.ensures c.if-ne.false) in
    let behind = behind_mark c.args.mark.now c.args.most (texts c.args.words.now) (texts c.in-Some.rest.now) words c.requires.mark number operands h are in
    let parts = sym behind.2 ∙ ap texts c.in_ok-numeral.ensures.cases.0 in
    let numeral : behind.1 ≡ c.as_str-2.result.now = heads parts ∙ sym c.as_str-2.ensures.value in
    c.in_err-number.ensures behind.0 (subst (λ w. IsNumeral c.args.most w behind.0) numeral behind.3))

pub returns : goal.returns
returns c =
    let words = texts-first c.args.words.now c.in-Some.rest.now c.in-Some.option.now c.as_str.result.now c.args.mark.now c.in-Some.ensures.cases.0 c.as_str.ensures.value (is_mark c.as_str.result.now c.args.mark.now c.ne.result c.ne.ensures c.if-ne.false) in
    let rest : texts c.in-Some.rest.now ≡ c.as_str-2.result.now ∷ texts c.in_ok-numeral.operands.now = ap texts c.in_ok-numeral.ensures.cases.0 ∙ ap (λ w. w ∷ texts c.in_ok-numeral.operands.now) (sym c.as_str-2.ensures.value) in (
      (c.as_str-2.result.now, words ∙ ap (λ ws. c.args.mark.now ∷ ws) rest, c.in_ok-number.ensures),
      (λ number operands h are.
          let behind = behind_mark c.args.mark.now c.args.most (texts c.args.words.now) (texts c.in-Some.rest.now) words c.requires.mark number operands h are in
          tails (sym behind.2 ∙ rest)),
    )
