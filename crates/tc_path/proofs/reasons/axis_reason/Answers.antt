use Rattle.std.proofs.Common.{◌∙◌, sym}
use Rattle.tc_scan.specs.Views.{written_name}
use Rattle.tc_path.specs.Views.{tokens_of}
use Rattle.tc_path.proofs.ReasonLaws.{no_bytes, axis_of_attribute, axis_of_child, axis_with_prefix, another_axis}
use Rattle.tc_path.proofs.reasons.axis_reason.Goals.{then-is_word-2-via-then-is_word-2, then-is_word-2-via-else-is_word-2+then-not-is_empty}
use Rattle.tc_path.proofs.reasons.axis_reason.Goals as goal

pub returns-then-is_word : goal.returns-then-is_word
returns-then-is_word c = c.attribute_reason.ensures ∙ axis_of_attribute c.args.context (written_name c.args.name.now) (tokens_of c.args.tokens.now) (sym c.is_word.ensures ∙ c.if-is_word.true)

pub returns-then-is_word-2 : goal.returns-then-is_word-2
returns-then-is_word-2 c = elim c.then-is_word-2.branch [
  | then-is_word-2-via-then-is_word-2 w ↦
      axis_of_child c.args.context (written_name c.args.name.now) (tokens_of c.args.tokens.now) (sym c.is_word.ensures ∙ c.if-is_word.false) (sym c.is_word-2.ensures ∙ w.if-is_word-2.true)
  | then-is_word-2-via-else-is_word-2+then-not-is_empty w ↦
      axis_with_prefix c.args.context (written_name c.args.name.now) (tokens_of c.args.tokens.now) (sym c.is_word.ensures ∙ c.if-is_word.false)
      (sym (w.is_empty.ensures ∙ no_bytes c.args.name.now.prefix.now) ∙ w.if-not-is_empty.true)
]

pub returns : goal.returns
returns c =
    another_axis c.args.context (written_name c.args.name.now) (tokens_of c.args.tokens.now) (sym c.is_word.ensures ∙ c.if-is_word.false) (sym c.is_word-2.ensures ∙ c.if-is_word-2.false)
    (sym (c.is_empty.ensures ∙ no_bytes c.args.name.now.prefix.now) ∙ c.if-not-is_empty.false)
