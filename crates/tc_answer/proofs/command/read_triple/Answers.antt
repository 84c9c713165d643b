use Rattle.std.proofs.Common.{◌∷◌, [], refl}
use Rattle.tc_answer.proofs.OperandWords.{not_operands, not_schemas, denied, three_texts}
use Rattle.tc_answer.proofs.command.read_triple.Goals as goal

pub returns-then-not-are_operands : goal.returns-then-not-are_operands
returns-then-not-are_operands c = λ a b d same are schemas. not_operands c.args.words.now 3 (a ∷ b ∷ d ∷ []) c.are_operands.result c.are_operands.ensures c.if-not-are_operands.true same refl are

pub returns-then-not-are_schemas : goal.returns-then-not-are_schemas
returns-then-not-are_schemas c = λ a b d same are schemas.
    not_schemas c.args.words.now c.as_str-input.result.now c.as_str-output.result.now a b (d ∷ []) (c.index-words-0.result, c.index-words-0.is, c.as_str-input.ensures.value)
    (c.index-words-1.result, c.index-words-1.is, c.as_str-output.ensures.value) (denied _ c.are_schemas.result c.are_schemas.ensures c.if-not-are_schemas.true) same schemas

pub returns : goal.returns
returns c =
    let both = c.are_operands.ensures.0 c.if-not-are_operands.false in (
      three_texts c.args.words.now c.as_str-input.result.now c.as_str-output.result.now c.as_str.result.now both.0 (c.index-words-0.result, c.index-words-0.is, c.as_str-input.ensures.value)
          (c.index-words-1.result, c.index-words-1.is, c.as_str-output.ensures.value) (c.index-words-2.result, c.index-words-2.is, c.as_str.ensures.value),
      both.1,
      c.are_schemas.ensures.0 c.if-not-are_schemas.false,
    )
