use Rattle.std.proofs.Common.{◌∷◌, ◌∙◌, sym, ap, subst, codes}
use Rattle.tc_answer.specs.Words.{AreOperands, AreSchemas, includes, compares}
use Rattle.tc_answer.proofs.NoCommand.{no_inclusion}
use Rattle.tc_answer.proofs.OperandWords.{denied}
use Rattle.tc_scan.proofs.NamesLaws.{at_none}
use Rattle.tc_answer.proofs.command.read_inclusion.Goals as goal

pub returns-in_err-first : goal.returns-in_err-first
returns-in_err-first c = at_none _ c.from_residual.ensures (no_inclusion c.args.both_ways (λ a b same operands schemas. c.in_err-first.ensures a b same operands))

pub returns-then-not-are_schemas : goal.returns-then-not-are_schemas
returns-then-not-are_schemas c =
    no_inclusion c.args.both_ways (λ a b same operands schemas.
    denied _ c.are_schemas.result c.are_schemas.ensures c.if-not-are_schemas.true (subst AreSchemas (sym same ∙ c.in_ok-first.ensures.0) schemas))

pub returns-then-both_ways : goal.returns-then-both_ways
returns-then-both_ways c =
    let read = c.in_ok-first.ensures in
    rw c.if-both_ways.true (compares (ap (λ w. codes "same" ∷ w) read.0) (subst AreOperands read.0 read.1) (c.are_schemas.ensures.0 c.if-not-are_schemas.false))

pub returns-else-both_ways : goal.returns-else-both_ways
returns-else-both_ways c =
    let read = c.in_ok-first.ensures in
    rw c.if-both_ways.false (includes (ap (λ w. codes "include" ∷ w) read.0) (subst AreOperands read.0 read.1) (c.are_schemas.ensures.0 c.if-not-are_schemas.false))
