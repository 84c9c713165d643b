-- An answer that is right for what was read is one that held files have, unless it tells of a read that failed.
use Rattle.std.proofs.Common.{◌≡◌, ◌⊎◌, ◌∷◌, [], ◌∙◌, inl, inr, refl, sym, subst, ap, ℕ, List, Option, Some, None, Ok, Err}
use Rattle.tc_answer.specs.Answers.{Answer, usage, status_of, text_of}
use Rattle.tc_answer.specs.Reading.{StopsAt, at_first, past_first, IsUnreadable, AreRead}
use Rattle.tc_answer.specs.Words.{Command, Source, operands_of}
use Rattle.tc_answer.specs.declared.status.Status.{Status}
use Rattle.tc_io.specs.Reads.{IsTrue, AreTrue}
use Rattle.tc_io.specs.Sink.{Appended}
use Rattle.tc_io.specs.Store.{Files, Came, Read}
use Rattle.tc_io.specs.declared.StoreFault.{StoreFault}
use Rattle.tc_io.specs.declared.StoreFault.TheVariants.{Missing, Failed, TooLong, NoMemory}
use Rattle.tc_top.specs.Answers.{IsAnswer, no_command, not_read, over_long, decided, IsAnswerOn}
use Rattle.tc_top.specs.Headline.{IsCutShort}
use Rattle.tc_top.specs.OneAnswer.{IsOfFault, Gives, GivesOn}
use Rattle.tc_top.proofs.Headline.{cut_short}

same_fault : (came : Came) (x y : StoreFault) → came ≡ Err x → came ≡ Err y → x ≡ y
same_fault came x y e f = let k = sym e ∙ f in cc

-- a read that didn't fail is true of held files without a fault

true_at : (files : Files) {rose : Type 0} (read : Read) → (read.1 ≡ Err Failed → ⊥) → IsTrue (Some files) rose read → IsTrue (Some files) ⊥ read
true_at files read fine h = record { answers = h.answers; short = h.short; failed = fine; untold = λ e why. absurd (let k : Some files ≡ None = e in cc) }

stop_true : (files : Files) (rose : Type 0) {sources : List Source} {reads : List Read} {name : List ℕ} {fault : StoreFault} → (fault ≡ Failed → ⊥) → StopsAt sources reads name fault
    → AreTrue (Some files) rose reads → AreTrue (Some files) ⊥ reads
stop_true files rose {fault = f} fine (at_first {source = s} a e c) t =
    let u : AreTrue (Some files) rose ((s.file, Err f) ∷ []) = subst (AreTrue (Some files) rose) e t in
    subst (AreTrue (Some files) ⊥) (sym e) (true_at files (s.file, Err f) (λ q. fine (same_fault (Err f) f Failed refl q)) u.0, tt)
stop_true files rose fine (past_first {more = m} {first = s} {text = x} a e rest) t =
    let u : AreTrue (Some files) rose ((s.file, Ok x) ∷ m) = subst (AreTrue (Some files) rose) e t in
    subst (AreTrue (Some files) ⊥) (sym e) (true_at files (s.file, Ok x) (λ q. absurd (let k : Ok x ≡ Err Failed = q in cc)) u.0, stop_true files rose fine rest u.1)

stop_failed : (told : Option Files) {rose : Type 0} {sources : List Source} {reads : List Read} {name : List ℕ} → StopsAt sources reads name Failed → AreTrue told rose reads → rose
stop_failed told {rose} (at_first {source = s} a e c) t = let u : AreTrue told rose ((s.file, Err Failed) ∷ []) = subst (AreTrue told rose) e t in u.0.failed refl
stop_failed told {rose} (past_first {more = m} {first = s} {text = x} a e rest) t = let u : AreTrue told rose ((s.file, Ok x) ∷ m) = subst (AreTrue told rose) e t in stop_failed told rest u.1

read_true : (files : Files) (rose : Type 0) (sources : List Source) (texts : List (List ℕ)) (reads : List Read) → AreRead sources texts reads → AreTrue (Some files) rose reads → AreTrue (Some files) ⊥ reads
read_true files rose [] [] reads e t = subst (AreTrue (Some files) ⊥) (sym e) tt
read_true files rose [] (x ∷ xs) reads e t = absurd e
read_true files rose (s ∷ ss) [] reads e t = absurd e
read_true files rose (s ∷ ss) (x ∷ xs) [] e t = absurd e
read_true files rose (s ∷ ss) (x ∷ xs) (r ∷ rs) (e, rest) t =
    (true_at files r (λ q. absurd (let k : Ok x ≡ Err Failed = sym (ap (λ z. z.1) e) ∙ q in cc)) t.0, read_true files rose ss xs rs rest t.1)

pub on_files : (files : Files) (rose : Type 0) {words : List (List ℕ)} {reads : List Read} {answer : Answer} → AreTrue (Some files) rose reads → IsAnswer words reads answer
    → IsAnswerOn words files answer ⊎ IsOfFault rose answer
on_files files rose {reads = reads} t (no_command n e) = inl (reads, subst (AreTrue (Some files) ⊥) (sym e) tt, no_command n e)
on_files files rose {words} {reads} {answer} t (not_read {command = c} {name = name} {fault = f} w s u) = by f s u
  where
    by : (fault : StoreFault) → StopsAt (operands_of c) reads name fault → IsUnreadable fault → IsAnswerOn words files answer ⊎ IsOfFault rose answer
    by Missing stops un = inl (reads, stop_true files rose (λ q. absurd (let k : Missing ≡ Failed = q in cc)) stops t, not_read w stops un)
    by Failed stops un = inr (stop_failed (Some files) stops t)
    by TooLong stops un = absurd un
    by NoMemory stops un = absurd un
on_files files rose {reads = reads} t (over_long w s) = inl (reads, stop_true files rose (λ q. absurd (let k : TooLong ≡ Failed = q in cc)) s t, over_long w s)
on_files files rose {reads = reads} t (decided {command = c} {texts = x} w r a) = inl (reads, read_true files rose (operands_of c) x reads r t, decided w r a)

-- so it is given, or the call is cut short

pub gives_on : {rose wrote : Type 0} (words : List (List ℕ)) (files : Files) (status : Status) (old new : Option (List ℕ)) (answer : Answer) → status ≡ status_of answer → Appended old new (text_of answer)
    → IsAnswerOn words files answer ⊎ IsOfFault rose answer → IsCutShort status rose wrote ⊎ GivesOn words files status old new
gives_on words files status old new answer e written (inl on) = inr (answer, on, record { status_is = e; written = written })
gives_on words files status old new answer e written (inr fault) = inl (cut_short status answer e fault)

pub gives_usage : {P : Type 0} (status : Status) (old new : Option (List ℕ)) (answer : Answer) → status ≡ status_of answer → Appended old new (text_of answer) → answer ≡ usage → P ⊎ Gives status old new usage
gives_usage status old new answer e written same = inr (record { status_is = e ∙ ap status_of same; written = subst (λ a. Appended old new (text_of a)) same written })
