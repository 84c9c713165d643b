use Rattle.std.proofs.Common.{arith}
use Rattle.tc_close.proofs.appends.Appends.new.Goals as goal

pub returns-clause-kept : goal.returns-clause-kept
returns-clause-kept c = record { even_hedges = λ u l. absurd (omega (arith, l)); even_trees = λ u l. absurd (omega (arith, l)); made = λ h t u at. absurd (c.in_ok-made.ensures h t u at) }
