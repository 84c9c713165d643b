use Rattle.std.proofs.Common.{◌≡◌, ◌∙◌, inl, inr, refl, sym, arith}
use Rattle.tc_answer.specs.StatusSeen.{number_of}
use Rattle.tc_answer.specs.declared.status.Status.{Status}
use Rattle.tc_answer.specs.declared.status.Status.TheVariants.{Yes, No, Usage, Refused, Limit, ReadFault, WriteFault, NoMemory}
use Rattle.tc_top.proofs.Headline.{ends_at}
use Rattle.tc_top.proofs.program.run_program.Goals as goal

-- the last number is that of want of memory alone
last_number : (status : Status) → number_of status ≡ 7 → status ≡ NoMemory
last_number Yes e = absurd (omega (arith, e))
last_number No e = absurd (omega (arith, e))
last_number Usage e = absurd (omega (arith, e))
last_number Refused e = absurd (omega (arith, e))
last_number Limit e = absurd (omega (arith, e))
last_number ReadFault e = absurd (omega (arith, e))
last_number WriteFault e = absurd (omega (arith, e))
last_number NoMemory e = refl

pub returns-in-Ok-clause-ends : goal.returns-in-Ok-clause-ends
returns-in-Ok-clause-ends g c = (c.typecheck.result, c.exit_code.ensures, inl (ends_at c.in-Ok.ensures.words c.typecheck.ensures.ends))

pub returns-in-Ok-clause-unwritten : goal.returns-in-Ok-clause-unwritten
returns-in-Ok-clause-unwritten g c = λ e. c.typecheck.ensures.unwritten (last_number c.typecheck.result (sym c.exit_code.ensures ∙ e))

pub returns-in-Err-clause-ends : goal.returns-in-Err-clause-ends
returns-in-Err-clause-ends g c = (NoMemory, c.exit_code-in-Err.ensures, inr (refl, c.in-Err.ensures.lack))
