use Rattle.std.proofs.Common.{◌∷◌, ◌∙◌, refl, sym, ap, subst, codes}
use Rattle.tc_answer.specs.SchemaWords.{IsSchemaWord}
use Rattle.tc_answer.specs.Words.{AreOperands, asks_dead}
use Rattle.tc_answer.proofs.Marked.{heads, tails}
use Rattle.tc_answer.proofs.NoCommand.{lacking}
use Rattle.tc_answer.proofs.OperandWords.{denied}
use Rattle.tc_scan.proofs.NamesLaws.{at_none}
use Rattle.tc_answer.proofs.command.read_dead.Goals as goal

pub returns-in_err-input : goal.returns-in_err-input
returns-in_err-input c = at_none _ c.from_residual.ensures (lacking 9 refl (λ a b p o s. let same = tails p in c.in_err-input.ensures a b same (subst AreOperands (sym same) o)))

pub returns-then-not-is_schema_word : goal.returns-then-not-is_schema_word
returns-then-not-is_schema_word c =
    lacking 9 refl (λ a b p o s. denied _ c.is_schema_word.result c.is_schema_word.ensures c.if-not-is_schema_word.true (subst IsSchemaWord (heads (sym (tails p) ∙ c.in_ok-input.ensures.0)) s.0))

pub returns : goal.returns
returns c =
    let read = c.in_ok-input.ensures in
    asks_dead (ap (λ w. codes "dead" ∷ w) read.0) (subst AreOperands read.0 read.1) (c.is_schema_word.ensures.0 c.if-not-is_schema_word.false, tt)
