use Rattle.std.proofs.Common.{◌∷◌, [], refl, sym, ap, subst, codes}
use Rattle.tc_answer.specs.Words.{AreOperands, upgrades}
use Rattle.tc_answer.proofs.Marked.{tails}
use Rattle.tc_answer.proofs.NoCommand.{lacking}
use Rattle.tc_answer.proofs.OperandWords.{not_operands, one_text}
use Rattle.tc_answer.proofs.command.read_upgrade.Goals as goal

pub returns-then-not-are_operands : goal.returns-then-not-are_operands
returns-then-not-are_operands c =
    lacking 6 refl (λ a p o.
    let same = tails p in
    not_operands c.args.words.now 1 (a ∷ []) c.are_operands.result c.are_operands.ensures c.if-not-are_operands.true same refl (subst AreOperands (sym same) o))

pub returns : goal.returns
returns c =
    let both = c.are_operands.ensures.0 c.if-not-are_operands.false in
    let same = one_text c.args.words.now c.as_str.result.now both.0 (c.index-words-0.result, c.index-words-0.is, c.as_str.ensures.value) in
    upgrades (ap (λ w. codes "upgrade" ∷ w) same) (subst AreOperands same both.1)
