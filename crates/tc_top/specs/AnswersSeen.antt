-- When an answer is right.
use Rattle.std.specs.Prelude.{ℕ, List}
use Rattle.tc_answer.specs.Answers as a
use Rattle.tc_answer.specs.AnswersSeen.{Says}
use Rattle.tc_answer.specs.declared.answer.Answer.{Answer}
use Rattle.tc_io.specs.Store.{Read}
use Rattle.tc_top.specs.Answers.{IsAnswer}

-- an answer that is right for the words and for what was read, by its cause
abbrev pub IsRight : List (List ℕ) → List Read → Answer → Type 0
IsRight words reads said = (answer : a.Answer) × Says said answer × IsAnswer words reads answer

-- the same for some reads that happened
abbrev pub IsRightFor : List (List ℕ) → (List Read → Type 0) → Answer → Type 0
IsRightFor words happened said = (reads : List Read) × happened reads × IsRight words reads said
