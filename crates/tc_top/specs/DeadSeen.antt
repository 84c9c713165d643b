-- What contracts see of why no spot is told of.
use Rattle.std.specs.Prelude.{ℕ, List}
use Rattle.tc_answer.specs.Answers as a
use Rattle.tc_answer.specs.AnswersSeen.{Says}
use Rattle.tc_answer.specs.declared.answer.Answer.{Answer}
use Rattle.tc_decide.specs.declared.failure.Failure.{Failure}
use Rattle.tc_decide.specs.declared.failure.Failure.TheVariants.{Refused, Passes, NoMemory}
use Rattle.tc_decide.specs.declared.failure.Which.TheVariants.{Sheet}
use Rattle.tc_model.specs.Views.{place}
use Rattle.tc_top.specs.VerdictsSeen.{limit_answer}

-- what is made says why, the operands having these names
abbrev pub SaysUntold : List ℕ → List ℕ → Failure → Answer → Type 0
SaysUntold input sheet (Refused Sheet reason at) said = Says said (a.refused sheet reason (place at))
SaysUntold input sheet (Refused _ reason at) said = Says said (a.refused input reason (place at))
SaysUntold input sheet (Passes kind number) said = Says said (limit_answer kind number)
SaysUntold input sheet NoMemory said = ⊥
