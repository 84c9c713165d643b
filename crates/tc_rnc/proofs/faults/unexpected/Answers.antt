use Rattle.std.proofs.Common.{sym, subst}
use Rattle.tc_model.specs.CompactSyntaxUnread.{Unexpected, escape, annotation, other}
use Rattle.tc_rnc.specs.Refusals.{Refuses, malformed, unsupported}
use Rattle.tc_rnc.specs.Views as seen
use Rattle.tc_model.specs.CompactSyntaxUnread.{NoEscape}
use Rattle.tc_rnc.proofs.Constructs.{unexpected_first}
use Rattle.tc_rnc.proofs.faults.unexpected.Goals as goal

pub returns-in-Some : goal.returns-in-Some
returns-in-Some c = unsupported (escape c.in-Some.ensures)

pub returns-in_default-first_of : goal.returns-in_default-first_of
returns-in_default-first_of c = subst (λ z. Refuses (Unexpected (seen.end c.args.end) z) c.at_end.result) (sym c.in_default-first_of.ensures) c.at_end.ensures

pub returns-then-is_annotation : goal.returns-then-is_annotation
returns-then-is_annotation c = unsupported (unexpected_first c.in-Some-first_of.ensures (annotation c.if-is_annotation.ensures))

pub returns : goal.returns
returns c = malformed (unexpected_first c.in-Some-first_of.ensures (other (subst NoEscape c.in-Some-first_of.ensures c.in_default.ensures) c.if-is_annotation.ensures))
