use Rattle.std.proofs.Common.{◌≡◌, ◌∷◌, [], ◌∙◌, refl, sym, ap, subst, Ok, List, ℕ}
use Rattle.std.proofs.lemmas.Result.{IfOk-weaker}
use Rattle.tc_io.specs.Store.{Read}
use Rattle.tc_answer.specs.AnswersSeen.{IsFirstUnread}
use Rattle.tc_answer.proofs.OperandsRead.{named, pair_unread}
use Rattle.tc_answer.specs.Reading.{AreRead}
use Rattle.tc_answer.specs.Words.{Source, schema, operands_of}
use Rattle.tc_answer.specs.Answers.{Answer}
use Rattle.tc_top.specs.Answers.{IsAnswerTo, decided, compared_one_way, compared_both_ways}
use Rattle.tc_top.specs.ComparedFiles.{asks}
use Rattle.tc_decide.specs.Comparing.{Question, inclusion, equality}
use Rattle.tc_top.specs.Comparing.{Compares}
use Rattle.tc_top.specs.Pairs.{question as asked}
use Rattle.tc_top.proofs.schemas.compare.Goals as goal

-- whatever is asked, both schemas are operands
both_operands : (q : Question) (first second : List ℕ) → schema first ∷ schema second ∷ [] ≡ operands_of (asks q first second)
both_operands inclusion first second = refl
both_operands equality first second = refl

compared : (q : Question) (first second first_text second_text : List ℕ) (answer : Answer) → Compares q first second first_text second_text answer
    → IsAnswerTo (asks q first second) (first_text ∷ second_text ∷ []) answer
compared inclusion first second first_text second_text answer h = compared_one_way h
compared equality first second first_text second_text answer h = compared_both_ways h

all_read : (q : Question) (first second : List ℕ) (texts : List (List ℕ)) (reads : List Read) → AreRead (schema first ∷ schema second ∷ []) texts reads
    → AreRead (operands_of (asks q first second)) texts reads
all_read q first second texts reads h = subst (λ (x : List Source). AreRead x texts reads) (both_operands q first second) h

pub returns-in-Ok-clause-ok : goal.returns-in-Ok-clause-ok
returns-in-Ok-clause-ok g c =
    let read = c.in-Ok.ensures in
    let one = read.first ∙ ap (λ s. s.word) c.schema.ensures in
    let other = read.second ∙ ap (λ s. s.word) c.schema-2.ensures in
    IfOk-weaker c.compare_texts.result _ _ (λ said h words are. (
      _,
      read.ok,
      (
        h.0,
        h.1,
        decided {texts = c.in-Ok.first.text.items ∷ c.in-Ok.second.text.items ∷ []} are
            (all_read (asked c.args.question) c.args.first.now c.args.second.now _ _
            (ap (λ s. (s.file, Ok c.in-Ok.first.text.items)) c.schema.ensures, (ap (λ s. (s.file, Ok c.in-Ok.second.text.items)) c.schema-2.ensures, refl)))
            (compared (asked c.args.question) _ _ _ _ _ (named (λ x y. Compares (asked c.args.question) x y c.in-Ok.first.text.items c.in-Ok.second.text.items h.0) (sym one) (sym other) h.2)),
      ),
    )) c.compare_texts.ensures

pub returns-in-Err-clause-ok : goal.returns-in-Err-clause-ok
returns-in-Err-clause-ok g c =
    let unread = c.in-Err.ensures.err in
    IfOk-weaker c.answer_unread.result _ _ (λ said right words are. (
      unread.0,
      unread.1,
      right words _ unread.0 are
          (subst (λ (x : List Source). IsFirstUnread x unread.0 c.in-Err.unread) (both_operands (asked c.args.question) c.args.first.now c.args.second.now)
          (pair_unread _ _ c.schema.ensures c.schema-2.ensures unread.2)),
    )) c.answer_unread.ensures
