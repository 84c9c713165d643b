use Rattle.std.proofs.Common.{◌≡◌, ◌∷◌, [], ◌∙◌, refl, sym, ap, subst, codes, ℕ, List, Result, Ok, Err, OnErr}
use Rattle.std.proofs.lemmas.Result.{IfOk-weaker}
use Rattle.std.proofs.lemmas.Option.{MatchOption-at_none, MatchOption-at_some}
use Rattle.tc_io.proofs.ReadsInOrder.{happened_nothing}
use Rattle.tc_answer.specs.Answers as a
use Rattle.tc_top.specs.Answers.{no_command, decided, shown, ReadsNothing}
use Rattle.tc_answer.specs.Words.{Command as Given, Source, Words, operands_of}
use Rattle.tc_answer.specs.WordsSeen.{command}
use Rattle.tc_answer.specs.declared.command.Command.{Command}
use Rattle.tc_answer.proofs.Numerals.{piece_size, demo_size}
use Rattle.tc_top.proofs.FewRows.{few_rows, few_rows_proved}
use Rattle.tc_top.proofs.answer_words.Goals as goal

pub returns-in_default-clause-right : goal.returns-in_default-clause-right
returns-in_default-clause-right g c =
    (_, happened_nothing _ _ _ _, (a.usage, c.usage.ensures, no_command (MatchOption-at_none _ _ c.in_default.is c.read_words.ensures) refl))

-- the words of a command that is this one
words_at : {words : List (List ℕ)} (x y : Command) → x ≡ y → Words words (command x) → Words words (command y)
words_at {words} x y same are = subst (λ z. Words words (command z)) same are

pub check-requires : goal.check-requires
check-requires g c = let words = MatchOption-at_some _ _ _ c.in-Some.is c.read_words.ensures in record { few = few_rows (words_at _ _ c.in-Check.is words) }

pub valid_in_pieces-requires : goal.valid_in_pieces-requires
valid_in_pieces-requires g c = let words = MatchOption-at_some _ _ _ c.in-Some.is c.read_words.ensures in record { some = piece_size (words_at _ _ c.in-ValidInPieces.is words) }

pub demo-requires-clause-some : goal.demo-requires-clause-some
demo-requires-clause-some g c = let words = MatchOption-at_some _ _ _ c.in-Some.is c.read_words.ensures in (demo_size (words_at _ _ c.in-Demo.is words)).0

pub demo-requires-clause-few : goal.demo-requires-clause-few
demo-requires-clause-few g c = let words = MatchOption-at_some _ _ _ c.in-Some.is c.read_words.ensures in (demo_size (words_at _ _ c.in-Demo.is words)).1

pub returns-in-Demo-clause-right : goal.returns-in-Demo-clause-right
returns-in-Demo-clause-right g c =
    let words = MatchOption-at_some _ _ _ c.in-Some.is c.read_words.ensures in
    IfOk-weaker c.demo.result _ _ (λ said h. (_, happened_nothing _ _ _ _, (h.0, h.1, decided {texts = []} (words_at _ _ c.in-Demo.is words) refl (shown h.2)))) c.demo.ensures

-- a command that reads a file

some_source : {source : Source} {sources : List Source} → source ∷ sources ≡ [] → ⊥
some_source e = absurd (cc)

reads_some : {words : List (List ℕ)} {source : Source} {sources : List Source} {given : Given} → ReadsNothing words → Words words given → operands_of given ≡ source ∷ sources → ⊥
reads_some nothing are same = some_source (sym same ∙ nothing _ are)

pub returns-in-Check-clause-unread : goal.returns-in-Check-clause-unread
returns-in-Check-clause-unread g c = λ nothing. absurd (reads_some nothing (words_at _ _ c.in-Check.is (MatchOption-at_some _ _ _ c.in-Some.is c.read_words.ensures)) refl)

pub returns-in-Run-clause-unread : goal.returns-in-Run-clause-unread
returns-in-Run-clause-unread g c = λ nothing. absurd (reads_some nothing (words_at _ _ c.in-Run.is (MatchOption-at_some _ _ _ c.in-Some.is c.read_words.ensures)) refl)

pub returns-in-Valid-clause-unread : goal.returns-in-Valid-clause-unread
returns-in-Valid-clause-unread g c = λ nothing. absurd (reads_some nothing (words_at _ _ c.in-Valid.is (MatchOption-at_some _ _ _ c.in-Some.is c.read_words.ensures)) refl)

pub returns-in-ValidInPieces-clause-unread : goal.returns-in-ValidInPieces-clause-unread
returns-in-ValidInPieces-clause-unread g c = λ nothing. absurd (reads_some nothing (words_at _ _ c.in-ValidInPieces.is (MatchOption-at_some _ _ _ c.in-Some.is c.read_words.ensures)) refl)

pub returns-in-Include-clause-unread : goal.returns-in-Include-clause-unread
returns-in-Include-clause-unread g c = λ nothing. absurd (reads_some nothing (words_at _ _ c.in-Include.is (MatchOption-at_some _ _ _ c.in-Some.is c.read_words.ensures)) refl)

pub returns-in-Same-clause-unread : goal.returns-in-Same-clause-unread
returns-in-Same-clause-unread g c = λ nothing. absurd (reads_some nothing (words_at _ _ c.in-Same.is (MatchOption-at_some _ _ _ c.in-Some.is c.read_words.ensures)) refl)

pub returns-in-Prove-clause-unread : goal.returns-in-Prove-clause-unread
returns-in-Prove-clause-unread g c = λ nothing. absurd (reads_some nothing (words_at _ _ c.in-Prove.is (MatchOption-at_some _ _ _ c.in-Some.is c.read_words.ensures)) refl)

pub returns-in-Verify-clause-unread : goal.returns-in-Verify-clause-unread
returns-in-Verify-clause-unread g c = λ nothing. absurd (reads_some nothing (words_at _ _ c.in-Verify.is (MatchOption-at_some _ _ _ c.in-Some.is c.read_words.ensures)) refl)

pub returns-in-Upgrade-clause-unread : goal.returns-in-Upgrade-clause-unread
returns-in-Upgrade-clause-unread g c = λ nothing. absurd (reads_some nothing (words_at _ _ c.in-Upgrade.is (MatchOption-at_some _ _ _ c.in-Some.is c.read_words.ensures)) refl)

pub returns-in-Dead-clause-unread : goal.returns-in-Dead-clause-unread
returns-in-Dead-clause-unread g c = λ nothing. absurd (reads_some nothing (words_at _ _ c.in-Dead.is (MatchOption-at_some _ _ _ c.in-Some.is c.read_words.ensures)) refl)

pub prove-requires : goal.prove-requires
prove-requires g c = let words = MatchOption-at_some _ _ _ c.in-Some.is c.read_words.ensures in record { few = few_rows_proved (words_at _ _ c.in-Prove.is words) }

-- what a command that reads files answers

pub returns-in-Check-clause-right : goal.returns-in-Check-clause-right
returns-in-Check-clause-right g c =
    IfOk-weaker c.check.result _ _ (λ said right. right _ (words_at _ _ c.in-Check.is (MatchOption-at_some _ _ _ c.in-Some.is c.read_words.ensures))) c.check.ensures.ok

pub returns-in-Run-clause-right : goal.returns-in-Run-clause-right
returns-in-Run-clause-right g c =
    IfOk-weaker c.run.result _ _ (λ said right. right _ (words_at _ _ c.in-Run.is (MatchOption-at_some _ _ _ c.in-Some.is c.read_words.ensures))) c.run.ensures.ok

pub returns-in-Valid-clause-right : goal.returns-in-Valid-clause-right
returns-in-Valid-clause-right g c =
    IfOk-weaker c.valid.result _ _ (λ said right. right _ (words_at _ _ c.in-Valid.is (MatchOption-at_some _ _ _ c.in-Some.is c.read_words.ensures))) c.valid.ensures.ok

pub returns-in-ValidInPieces-clause-right : goal.returns-in-ValidInPieces-clause-right
returns-in-ValidInPieces-clause-right g c =
    IfOk-weaker c.valid_in_pieces.result _ _ (λ said right. right _ (words_at _ _ c.in-ValidInPieces.is (MatchOption-at_some _ _ _ c.in-Some.is c.read_words.ensures))) c.valid_in_pieces.ensures.ok

pub returns-in-Prove-clause-right : goal.returns-in-Prove-clause-right
returns-in-Prove-clause-right g c =
    IfOk-weaker c.prove.result _ _ (λ said right. right _ (words_at _ _ c.in-Prove.is (MatchOption-at_some _ _ _ c.in-Some.is c.read_words.ensures))) c.prove.ensures.ok

pub returns-in-Verify-clause-right : goal.returns-in-Verify-clause-right
returns-in-Verify-clause-right g c =
    IfOk-weaker c.verify.result _ _ (λ said right. right _ (words_at _ _ c.in-Verify.is (MatchOption-at_some _ _ _ c.in-Some.is c.read_words.ensures))) c.verify.ensures.ok

pub returns-in-Upgrade-clause-right : goal.returns-in-Upgrade-clause-right
returns-in-Upgrade-clause-right g c =
    IfOk-weaker c.upgrade.result _ _ (λ said right. right _ (words_at _ _ c.in-Upgrade.is (MatchOption-at_some _ _ _ c.in-Some.is c.read_words.ensures))) c.upgrade.ensures.ok

pub returns-in-Dead-clause-right : goal.returns-in-Dead-clause-right
returns-in-Dead-clause-right g c =
    IfOk-weaker c.dead.result _ _ (λ said right. right _ (words_at _ _ c.in-Dead.is (MatchOption-at_some _ _ _ c.in-Some.is c.read_words.ensures))) c.dead.ensures.ok

pub returns-in-Include-clause-right : goal.returns-in-Include-clause-right
returns-in-Include-clause-right g c =
    IfOk-weaker c.compare.result _ _ (λ said right. right _ (words_at _ _ c.in-Include.is (MatchOption-at_some _ _ _ c.in-Some.is c.read_words.ensures))) c.compare.ensures.ok

-- memory is only wanted for a command

for_command : {T E : Type 0} (r : Result T E) {words : List (List ℕ)} {given : Given} → Words words given → OnErr r ((command : Given) × Words words command)
for_command (Ok value) are = tt
for_command (Err fault) {given = given} are = (given, are)

pub returns-in-Check-clause-no_memory : goal.returns-in-Check-clause-no_memory
returns-in-Check-clause-no_memory g c = for_command c.check.result (words_at _ _ c.in-Check.is (MatchOption-at_some _ _ _ c.in-Some.is c.read_words.ensures))

pub returns-in-Run-clause-no_memory : goal.returns-in-Run-clause-no_memory
returns-in-Run-clause-no_memory g c = for_command c.run.result (words_at _ _ c.in-Run.is (MatchOption-at_some _ _ _ c.in-Some.is c.read_words.ensures))

pub returns-in-Valid-clause-no_memory : goal.returns-in-Valid-clause-no_memory
returns-in-Valid-clause-no_memory g c = for_command c.valid.result (words_at _ _ c.in-Valid.is (MatchOption-at_some _ _ _ c.in-Some.is c.read_words.ensures))

pub returns-in-ValidInPieces-clause-no_memory : goal.returns-in-ValidInPieces-clause-no_memory
returns-in-ValidInPieces-clause-no_memory g c = for_command c.valid_in_pieces.result (words_at _ _ c.in-ValidInPieces.is (MatchOption-at_some _ _ _ c.in-Some.is c.read_words.ensures))

pub returns-in-Prove-clause-no_memory : goal.returns-in-Prove-clause-no_memory
returns-in-Prove-clause-no_memory g c = for_command c.prove.result (words_at _ _ c.in-Prove.is (MatchOption-at_some _ _ _ c.in-Some.is c.read_words.ensures))

pub returns-in-Verify-clause-no_memory : goal.returns-in-Verify-clause-no_memory
returns-in-Verify-clause-no_memory g c = for_command c.verify.result (words_at _ _ c.in-Verify.is (MatchOption-at_some _ _ _ c.in-Some.is c.read_words.ensures))

pub returns-in-Upgrade-clause-no_memory : goal.returns-in-Upgrade-clause-no_memory
returns-in-Upgrade-clause-no_memory g c = for_command c.upgrade.result (words_at _ _ c.in-Upgrade.is (MatchOption-at_some _ _ _ c.in-Some.is c.read_words.ensures))

pub returns-in-Dead-clause-no_memory : goal.returns-in-Dead-clause-no_memory
returns-in-Dead-clause-no_memory g c = for_command c.dead.result (words_at _ _ c.in-Dead.is (MatchOption-at_some _ _ _ c.in-Some.is c.read_words.ensures))

pub returns-in-Include-clause-no_memory : goal.returns-in-Include-clause-no_memory
returns-in-Include-clause-no_memory g c = for_command c.compare.result (words_at _ _ c.in-Include.is (MatchOption-at_some _ _ _ c.in-Some.is c.read_words.ensures))

pub returns-in-Demo-clause-no_memory : goal.returns-in-Demo-clause-no_memory
returns-in-Demo-clause-no_memory g c = for_command c.demo.result (words_at _ _ c.in-Demo.is (MatchOption-at_some _ _ _ c.in-Some.is c.read_words.ensures))
