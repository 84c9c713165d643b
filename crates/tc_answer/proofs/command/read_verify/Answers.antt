use Rattle.std.proofs.Common.{◌∷◌, [], refl, sym, ap, subst, codes}
use Rattle.tc_answer.specs.Words.{AreOperands, verifies}
use Rattle.tc_answer.proofs.Marked.{tails}
use Rattle.tc_answer.proofs.NoCommand.{lacking}
use Rattle.tc_answer.proofs.OperandWords.{not_operands, not_schemas, denied, four_texts}
use Rattle.tc_answer.proofs.command.read_verify.Goals as goal

pub returns-then-not-are_operands : goal.returns-then-not-are_operands
returns-then-not-are_operands c =
    lacking 2 refl (λ a b d e p o x.
    let same = tails p in
    not_operands c.args.words.now 4 (a ∷ b ∷ d ∷ e ∷ []) c.are_operands.result c.are_operands.ensures c.if-not-are_operands.true same refl (subst AreOperands (sym same) o))

pub returns-then-not-are_schemas : goal.returns-then-not-are_schemas
returns-then-not-are_schemas c =
    lacking 2 refl (λ a b d e p o x.
    not_schemas c.args.words.now c.as_str-input.result.now c.as_str-output.result.now a b (d ∷ e ∷ []) (c.index-words-0.result, c.index-words-0.is, c.as_str-input.ensures.value)
    (c.index-words-1.result, c.index-words-1.is, c.as_str-output.ensures.value) (denied _ c.are_schemas.result c.are_schemas.ensures c.if-not-are_schemas.true) (tails p) x)

pub returns : goal.returns
returns c =
    let both = c.are_operands.ensures.0 c.if-not-are_operands.false in
    let same =
    four_texts c.args.words.now c.as_str-input.result.now c.as_str-output.result.now c.as_str.result.now c.as_str-2.result.now both.0 (c.index-words-0.result, c.index-words-0.is, c.as_str-input.ensures.value)
    (c.index-words-1.result, c.index-words-1.is, c.as_str-output.ensures.value) (c.index-words-2.result, c.index-words-2.is, c.as_str.ensures.value)
    (c.index-words-3.result, c.index-words-3.is, c.as_str-2.ensures.value) in
    verifies (ap (λ w. codes "verify" ∷ w) same) (subst AreOperands same both.1) (c.are_schemas.ensures.0 c.if-not-are_schemas.false)
