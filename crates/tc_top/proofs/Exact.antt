-- The answer to words and to what was read is determined, but for what is left open; and where the store tells what it holds, what is read is.
use Rattle.std.proofs.Common.{◌≡◌, ◌<◌, ◌≤◌, ◌⊎◌, ◌∷◌, [], ◌∙◌, inl, inr, refl, sym, subst, ap, ℕ, List, length, Option, Some, None, Ok, Err, arith}
use Rattle.tc_io.specs.Store.{Files, Came, Read, longest_file}
use Rattle.tc_io.specs.Reads.{IsTrue, AreTrue}
use Rattle.tc_io.specs.declared.StoreFault.{StoreFault}
use Rattle.tc_io.specs.declared.StoreFault.TheVariants.{Missing, Failed, TooLong, NoMemory}
use Rattle.tc_top.specs.Checking.{most_rows}
use Rattle.tc_top.specs.Demo.{demo_schema, demo_sheet, input_name, output_name, sheet_name}
use Rattle.tc_decide.specs.declared.limits.TheConstants.{MOST_ROWS}
use Rattle.tc_top.specs.OneAnswer.{AreAlike, same_answer, IsOfFault}
use Rattle.tc_answer.specs.Words.{Command, Source, check, run, valid, demo, Words, IsNoCommand, operands_of}
use Rattle.tc_answer.specs.Reading.{StopsAt, at_first, past_first, IsUnreadable, AreRead}
use Rattle.tc_answer.specs.Answers.{Answer, usage, cannot_read, file_limit}
use Rattle.tc_top.specs.Answers.{IsAnswerTo, checked, proved, verified, ran, validated, validated_in_pieces, shown, upgraded, told_dead, compared_one_way, compared_both_ways, IsAnswer, no_command, not_read, over_long, decided}
use Rattle.tc_answer.proofs.OneCommand.{one_command}
use Rattle.tc_answer.proofs.ReadsOnce.{never_stops, one_stop, one_texts, Follows, stop_follows, memory_no, long_memory, all_follow, no_reads, FailsIn, same_reads, AreHeld, holds, AreShort, well, well_read, well_true, held_texts}
use Rattle.tc_top.proofs.OneValidity.{validates_one}
use Rattle.tc_top.proofs.OneRun.{runs_texts_one}
use Rattle.tc_top.proofs.OneCheck.{one_check}
use Rattle.tc_top.proofs.OneCertifying.{one_proof, one_verification, one_upgrade}
use Rattle.tc_top.proofs.OneComparison.{compares_one}
use Rattle.tc_top.proofs.OneInPieces.{in_pieces_one}
use Rattle.tc_top.proofs.OneSpots.{dead_one}

-- words of no command have the usage as their answer
pub usage_only : {words : List (List ℕ)} {reads : List Read} {answer : Answer} → IsNoCommand words → IsAnswer words reads answer → answer ≡ usage
usage_only n (no_command m e) = refl
usage_only n (not_read w s u) = absurd (n _ w)
usage_only n (over_long w s) = absurd (n _ w)
usage_only n (decided w r x) = absurd (n _ w)

-- what is answered where the reads stop
abbrev stopped : StoreFault → List ℕ → Answer
stopped Missing name = cannot_read name
stopped Failed name = cannot_read name
stopped TooLong name = file_limit
stopped NoMemory name = file_limit

stopped_at : (one other : StoreFault) (name found : List ℕ) → (name ≡ found) × (one ≡ other) → stopped one name ≡ stopped other found
stopped_at one other name found (n, f) = ap (λ x. stopped x name) f ∙ ap (stopped other) n

unreadable : (fault : StoreFault) (name : List ℕ) → IsUnreadable fault → stopped fault name ≡ cannot_read name
unreadable Missing name u = refl
unreadable Failed name u = refl
unreadable TooLong name u = absurd u
unreadable NoMemory name u = absurd u

stopped_only : {words : List (List ℕ)} {reads : List Read} {answer : Answer} {command : Command} {name : List ℕ} {fault : StoreFault} → Words words command
    → StopsAt (operands_of command) reads name fault → IsAnswer words reads answer → answer ≡ stopped fault name
stopped_only w s (no_command n e) = absurd (n _ w)
stopped_only {name = name} {fault = fault} w s (not_read {name = found} {fault = other} v t u) =
    sym (unreadable other found u) ∙ stopped_at other fault found name (one_stop (ap operands_of (one_command v w)) refl t s)
stopped_only {name = name} {fault = fault} w s (over_long {name = found} v t) = stopped_at TooLong fault found name (one_stop (ap operands_of (one_command v w)) refl t s)
stopped_only w s (decided v r y) = absurd (never_stops _ _ r s)

-- where all operands are read, their texts decide
pub decided_only : {words texts : List (List ℕ)} {reads : List Read} {answer : Answer} {command : Command} → Words words command → AreRead (operands_of command) texts reads
    → IsAnswer words reads answer → IsAnswerTo command texts answer
decided_only w r (no_command n e) = absurd (n _ w)
decided_only w r (not_read v s u) = absurd (never_stops _ _ r s)
decided_only w r (over_long v s) = absurd (never_stops _ _ r s)
decided_only {texts = texts} {reads = reads} {answer = answer} {command = command} w r (decided {command = other} {texts = found} v q x) =
    let same = one_command v w in
    let read : AreRead (operands_of command) found reads = subst (λ d. AreRead (operands_of d) found reads) same q in
    let one = one_texts (operands_of command) found texts reads read r in
    subst (λ ts. IsAnswerTo command ts answer) one (subst (λ d. IsAnswerTo d found answer) same x)

-- the answer of a command on texts is one
answers_one : {command : Command} {texts : List (List ℕ)} {one other : Answer} → IsAnswerTo command texts one → IsAnswerTo command texts other → AreAlike one other
answers_one (checked x) (checked y) = one_check x y
answers_one (proved x) (proved y) = one_proof x y
answers_one (verified h x) (verified k y) = one_verification h x y
answers_one (ran x) (ran y) = runs_texts_one x y
answers_one (validated x) (validated y) = validates_one x y
answers_one (validated_in_pieces x) (validated_in_pieces y) = in_pieces_one x y
answers_one (shown x) (shown y) = one_check x y
answers_one (upgraded h x) (upgraded k y) = one_upgrade h x y
answers_one (told_dead x) (told_dead y) = dead_one x y
answers_one (compared_one_way x) (compared_one_way y) = compares_one x y
answers_one (compared_both_ways x) (compared_both_ways y) = compares_one x y

pub alike_at : {one other answer : Answer} → one ≡ answer → other ≡ answer → AreAlike one other
alike_at {one} {other} {answer} p q = subst (λ a. AreAlike a other) (sym p) (subst (AreAlike answer) (sym q) same_answer)

-- the answer to words and to what was read is one
pub by_reads : {words : List (List ℕ)} {reads : List Read} {one other : Answer} → IsAnswer words reads one → IsAnswer words reads other → AreAlike one other
by_reads (no_command n e) y = alike_at refl (usage_only n y)
by_reads (not_read {name = name} {fault = fault} w s u) y = alike_at (sym (unreadable fault name u)) (stopped_only w s y)
by_reads (over_long w s) y = alike_at refl (stopped_only w s y)
by_reads (decided w r x) y = answers_one x (decided_only w r y)

-- what a command reads to be answered
follows : {words : List (List ℕ)} {reads : List Read} {answer : Answer} {command : Command} → Words words command → IsAnswer words reads answer → Follows (operands_of command) reads
follows w (no_command n e) = absurd (n _ w)
follows {reads = reads} w (not_read {fault = fault} v s u) = subst (λ c. Follows (operands_of c) reads) (one_command v w) (stop_follows (memory_no fault u) s)
follows {reads = reads} w (over_long v s) = subst (λ c. Follows (operands_of c) reads) (one_command v w) (stop_follows long_memory s)
follows {reads = reads} w (decided {command = other} {texts = texts} v r x) = subst (λ c. Follows (operands_of c) reads) (one_command v w) (all_follow (operands_of other) texts reads r)

-- a demonstration reads nothing
pub shown_reads : {words : List (List ℕ)} {reads : List Read} {answer : Answer} {size : ℕ} → Words words (demo size) → IsAnswer words reads answer → reads ≡ []
shown_reads w x = no_reads refl (follows w x)

-- the answer of a call: an answer like this one, or a read that failed
abbrev pub Agrees : Type 0 → Answer → Answer → Type 0
Agrees rose one other = AreAlike one other ⊎ IsOfFault rose other

fault_at : {rose : Type 0} {answer : Answer} {name : List ℕ} → answer ≡ cannot_read name → rose → IsOfFault rose answer
fault_at {rose} e r = subst (IsOfFault rose) (sym e) r

-- a read that failed is told
pub fails_told : {words : List (List ℕ)} {reads : List Read} {answer : Answer} {command : Command} {rose : Type 0} → Words words command → FailsIn rose (operands_of command) reads
    → IsAnswer words reads answer → IsOfFault rose answer
fails_told w f x = fault_at (stopped_only w f.1.1 x) f.0

-- two answers of one command on the same files
alike : (files : Files) (rose : Type 0) {words : List (List ℕ)} {one other : Answer} {reads others : List Read} {command : Command} → Words words command → AreTrue (Some files) ⊥ reads
    → IsAnswer words reads one → AreTrue (Some files) rose others → IsAnswer words others other → Agrees rose one other
alike files rose {words} {one} {other} {reads} {others} {command} w t x u y = by (same_reads files rose (operands_of command) reads others (follows w x) (follows w y) t u)
  where
    by : (reads ≡ others) ⊎ FailsIn rose (operands_of command) others → Agrees rose one other
    by (inl same) = inl (by_reads (subst (λ r. IsAnswer words r one) same x) y)
    by (inr fails) = inr (fails_told w fails y)

-- the answer of a call is one
pub exact : (files : Files) (rose : Type 0) {words : List (List ℕ)} {one other : Answer} {reads others : List Read} → AreTrue (Some files) ⊥ reads → IsAnswer words reads one
    → AreTrue (Some files) rose others → IsAnswer words others other → Agrees rose one other
exact files rose t (no_command n e) u y = inl (alike_at refl (usage_only n y))
exact files rose t (not_read w s v) u y = alike files rose w t (not_read w s v) u y
exact files rose t (over_long w s) u y = alike files rose w t (over_long w s) u y
exact files rose t (decided w r x) u y = alike files rose w t (decided w r x) u y

pub read_all : (rose : Type 0) {words : List (List ℕ)} {answer : Answer} {reads : List Read} {command : Command} (files : Files) (texts : List (List ℕ)) → Words words command
    → AreHeld files (operands_of command) texts → AreShort texts → AreTrue (Some files) rose reads → IsAnswer words reads answer
    → IsOfFault rose answer ⊎ IsAnswerTo command texts answer
read_all rose {words} {answer} {reads} {command} files texts w held short t x =
    by (same_reads files rose names (well names texts) reads (all_follow names texts _ (well_read files names texts held)) (follows w x) (well_true files names texts held short) t)
  where
    names : List Source
    names = operands_of command

    by : (well names texts ≡ reads) ⊎ FailsIn rose names reads → IsOfFault rose answer ⊎ IsAnswerTo command texts answer
    by (inl e) = inr (decided_only w (subst (AreRead names texts) e (well_read files names texts held)) x)
    by (inr f) = inl (fails_told w f x)

-- what a command decided on held files, unless it tells of a read that was not Ok
pub held_decided : (rose : Type 0) {words : List (List ℕ)} {answer : Answer} {reads : List Read} {command : Command} (files : Files) (texts : List (List ℕ)) → Words words command
    → AreHeld files (operands_of command) texts → AreTrue (Some files) rose reads → IsAnswer words reads answer
    → IsAnswerTo command texts answer ⊎ ((answer ≡ file_limit) ⊎ ((name : List ℕ) × (answer ≡ cannot_read name)))
held_decided rose files texts w held true (no_command n e) = absurd (n _ w)
held_decided rose files texts w held true (not_read {name = name} v s u) = inr (inr (name, refl))
held_decided rose files texts w held true (over_long v s) = inr (inl refl)
held_decided rose {answer = answer} {reads = reads} {command = command} files texts w held true (decided {command = other} {texts = found} v r x) =
    let same = one_command v w in
    let read : AreRead (operands_of command) found reads = subst (λ d. AreRead (operands_of d) found reads) same r in
    let one = held_texts files rose (operands_of command) texts found reads held read true in
    inl (subst (λ ts. IsAnswerTo command ts answer) one (subst (λ d. IsAnswerTo d found answer) same x))
