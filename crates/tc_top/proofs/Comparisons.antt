-- A comparison of held files is exact.
use Rattle.std.proofs.Common.{◌≡◌, ◌⊎◌, ◌∷◌, [], inl, inr, List, ℕ, Option, Some}
use Rattle.tc_answer.specs.Answers.{Answer, status_of, text_of}
use Rattle.tc_answer.specs.Words as w
use Rattle.tc_answer.specs.declared.status.Status.{Status}
use Rattle.tc_io.specs.Reads.{AreTrue}
use Rattle.tc_io.specs.Sink.{Appended}
use Rattle.tc_io.specs.Store.{Files, Read}
use Rattle.tc_model.specs.Grammars.{Grammar}
use Rattle.tc_top.specs.Answers.{IsAnswerTo, compared_one_way, compared_both_ways, IsAnswer}
use Rattle.tc_top.specs.ComparedFiles.{ComparesFiles, DecidesComparison}
use Rattle.tc_decide.specs.Comparing.{Question, inclusion, equality}
use Rattle.tc_top.specs.Comparing.{Compares}
use Rattle.tc_top.specs.Headline.{IsCutShort}
use Rattle.tc_top.specs.OneAnswer.{IsOfFault}
use Rattle.tc_top.proofs.ComparingExact.{decides}
use Rattle.tc_answer.proofs.ReadsOnce.{no_file, holds, none_long, is_short}
use Rattle.tc_top.proofs.Exact.{read_all}
use Rattle.tc_top.proofs.Headline.{cut_short}
use Rattle.tc_top.proofs.OneComparison.{compared_of}

inclusion_of : {first second b c : List ℕ} {answer : Answer} → IsAnswerTo (w.include first second) (b ∷ c ∷ []) answer → Compares inclusion first second b c answer
inclusion_of (compared_one_way x) = x

equality_of : {first second b c : List ℕ} {answer : Answer} → IsAnswerTo (w.same first second) (b ∷ c ∷ []) answer → Compares equality first second b c answer
equality_of (compared_both_ways x) = x

module _ {words : List (List ℕ)} {rose wrote : Type 0} (files : Files) (g h : Grammar) (status : Status) (old new : Option (List ℕ)) (answer : Answer) where
  -- what the answer to two texts decides
  by_texts : (question : Question) (c : ComparesFiles words files question g h) → status ≡ status_of answer → Appended old new (text_of answer)
      → IsOfFault rose answer ⊎ Compares question c.first c.second c.first_text c.second_text answer → IsCutShort status rose wrote ⊎ DecidesComparison g h status old new question
  by_texts question c is written (inl fault) = inl (cut_short status answer is fault)
  by_texts question c is written (inr x) = inr (decides g h status old new question answer is written (compared_of c.first_spells c.second_spells x))

  pub includes : {reads : List Read} → ComparesFiles words files inclusion g h → AreTrue (Some files) rose reads → IsAnswer words reads answer → status ≡ status_of answer → Appended old new (text_of answer)
      → IsCutShort status rose wrote ⊎ DecidesComparison g h status old new inclusion
  includes c true right is written =
      by_texts inclusion c is written
      (read (read_all rose files _ c.words_are (holds c.first_held (holds c.second_held no_file)) (is_short c.first_short (is_short c.second_short none_long)) true right))
    where
      read : IsOfFault rose answer ⊎ IsAnswerTo (w.include c.first c.second) (c.first_text ∷ c.second_text ∷ []) answer → IsOfFault rose answer ⊎ Compares inclusion c.first c.second c.first_text c.second_text answer
      read (inl fault) = inl fault
      read (inr x) = inr (inclusion_of x)

  pub equals : {reads : List Read} → ComparesFiles words files equality g h → AreTrue (Some files) rose reads → IsAnswer words reads answer → status ≡ status_of answer → Appended old new (text_of answer)
      → IsCutShort status rose wrote ⊎ DecidesComparison g h status old new equality
  equals c true right is written =
      by_texts equality c is written
      (read (read_all rose files _ c.words_are (holds c.first_held (holds c.second_held no_file)) (is_short c.first_short (is_short c.second_short none_long)) true right))
    where
      read : IsOfFault rose answer ⊎ IsAnswerTo (w.same c.first c.second) (c.first_text ∷ c.second_text ∷ []) answer → IsOfFault rose answer ⊎ Compares equality c.first c.second c.first_text c.second_text answer
      read (inl fault) = inl fault
      read (inr x) = inr (equality_of x)
