use Rattle.std.proofs.Common.{◌∙◌, inr, refl, subst}
use Rattle.tc_io.specs.Sink.{Appended, WroteFront}
use Rattle.tc_top.specs.Answers.{answered, broken_off, out_of_memory}
use Rattle.tc_top.proofs.Exact.{usage_only}
use Rattle.tc_top.proofs.Headline.{at_words, at_told, headline, safe_is_so, unsafe_is_shown, demo_is_safe, demo_is_shown, demonstrated, validity, running, limited}
use Rattle.tc_top.proofs.CertifiedExact.{proof_of_files, accepted_is_safe, certificate_of_files, upgrade_of_files}
use Rattle.tc_top.proofs.Comparisons.{includes, equals}
use Rattle.tc_top.proofs.SpotsExact.{dead_unused, dead_shown, dead_decided}
use Rattle.tc_top.proofs.CutShort.{by_fault, by_memory, fault_not_no, fault_not_yes, fault_not_told, memory_not_no, memory_not_yes, memory_not_told}
use Rattle.tc_top.proofs.OnFiles.{on_files, gives_on, gives_usage}
use Rattle.tc_top.proofs.FilesInPieces.{validity_in_pieces}
use Rattle.tc_answer.specs.Words.{Words}
use Rattle.tc_answer.specs.Writing.{AreWritten, BreakOff, lines_of}
use Rattle.tc_top.proofs.typecheck.Goals as goal

pub returns-in-Ok-clause-ends : goal.returns-in-Ok-clause-ends
returns-in-Ok-clause-ends g c =
    let right = at_words c.as_slice.ensures c.in-Ok.ensures.right in
    let fault = c.in-Err-write_lines.ensures in
    let front = subst (WroteFront (g.K.Sink.written c.args.sink.now) (g.K.Sink.written c.write_lines.new.sink)) (c.as_bytes.ensures ∙ right.2.1.written) fault.fault in
    let lines = subst (λ text. BreakOff (lines_of text) fault.broken.0) (c.as_bytes.ensures ∙ right.2.1.written) fault.broken.2 in
    broken_off {writes = fault.broken.0} right.1 right.2.2 refl fault.broken.1 lines front fault.rose

pub returns-clause-ends : goal.returns-clause-ends
returns-clause-ends g c = let command = c.in-Err.ensures.no_memory in out_of_memory (subst (λ w. Words w command.0) c.as_slice.ensures command.1) refl

pub returns-in-Ok-write_lines-clause-ends : goal.returns-in-Ok-write_lines-clause-ends
returns-in-Ok-write_lines-clause-ends g c =
    let right = at_words c.as_slice.ensures c.in-Ok.ensures.right in
    let written = subst (Appended (g.K.Sink.written c.args.sink.now) (g.K.Sink.written c.write_lines.new.sink)) (c.as_bytes.ensures ∙ right.2.1.written) c.in-Ok-write_lines.ensures.ok in
    let whole = c.in-Ok-write_lines.ensures.whole in
    let lines = subst (λ text. AreWritten (lines_of text) whole.0) (c.as_bytes.ensures ∙ right.2.1.written) whole.2 in
    answered {writes = whole.0} right.1 right.2.2 right.2.1.status whole.1 lines written

pub returns-in-Ok-write_lines-clause-usage : goal.returns-in-Ok-write_lines-clause-usage
returns-in-Ok-write_lines-clause-usage g c = λ none.
    let right = at_words c.as_slice.ensures c.in-Ok.ensures.right in
    let written = subst (Appended (g.K.Sink.written c.args.sink.now) (g.K.Sink.written c.write_lines.new.sink)) (c.as_bytes.ensures ∙ right.2.1.written) c.in-Ok-write_lines.ensures.ok in
    gives_usage _ _ _ right.2.0 right.2.1.status written (usage_only none right.2.2)

pub returns-in-Ok-write_lines-clause-exactly : goal.returns-in-Ok-write_lines-clause-exactly
returns-in-Ok-write_lines-clause-exactly g c = λ files told.
    let right = at_words c.as_slice.ensures c.in-Ok.ensures.right in
    let written = subst (Appended (g.K.Sink.written c.args.sink.now) (g.K.Sink.written c.write_lines.new.sink)) (c.as_bytes.ensures ∙ right.2.1.written) c.in-Ok-write_lines.ensures.ok in
    gives_on _ files _ _ _ right.2.0 right.2.1.status written (on_files files _ (at_told _ right.0 told right.1.true) right.2.2)

pub returns-in-Ok-write_lines-clause-safe : goal.returns-in-Ok-write_lines-clause-safe
returns-in-Ok-write_lines-clause-safe g c = λ files limit i o s told checks e.
    let right = at_words c.as_slice.ensures c.in-Ok.ensures.right in
    safe_is_so _ files limit i o s _ right.2.0 checks (at_told _ right.0 told right.1.true) right.2.2 right.2.1.status e

pub returns-in-Ok-write_lines-clause-shown : goal.returns-in-Ok-write_lines-clause-shown
returns-in-Ok-write_lines-clause-shown g c = λ files limit i o s told checks e.
    let right = at_words c.as_slice.ensures c.in-Ok.ensures.right in
    let written = subst (Appended (g.K.Sink.written c.args.sink.now) (g.K.Sink.written c.write_lines.new.sink)) (c.as_bytes.ensures ∙ right.2.1.written) c.in-Ok-write_lines.ensures.ok in
    unsafe_is_shown _ files limit i o s _ _ _ right.2.0 checks (at_told _ right.0 told right.1.true) right.2.2 right.2.1.status written e

pub returns-in-Ok-write_lines-clause-headline : goal.returns-in-Ok-write_lines-clause-headline
returns-in-Ok-write_lines-clause-headline g c = λ files limit i o s told checks.
    let right = at_words c.as_slice.ensures c.in-Ok.ensures.right in
    let written = subst (Appended (g.K.Sink.written c.args.sink.now) (g.K.Sink.written c.write_lines.new.sink)) (c.as_bytes.ensures ∙ right.2.1.written) c.in-Ok-write_lines.ensures.ok in
    headline files limit i o s _ _ _ right.2.0 checks (at_told _ right.0 told right.1.true) right.2.2 right.2.1.status written

pub returns-in-Ok-write_lines-clause-demo_safe : goal.returns-in-Ok-write_lines-clause-demo_safe
returns-in-Ok-write_lines-clause-demo_safe g c = λ size x s words spells means e.
    let right = at_words c.as_slice.ensures c.in-Ok.ensures.right in
    demo_is_safe size x s _ right.2.0 words spells means right.2.2 right.2.1.status e

pub returns-in-Ok-write_lines-clause-demo_shown : goal.returns-in-Ok-write_lines-clause-demo_shown
returns-in-Ok-write_lines-clause-demo_shown g c = λ size x s words spells means e.
    let right = at_words c.as_slice.ensures c.in-Ok.ensures.right in
    let written = subst (Appended (g.K.Sink.written c.args.sink.now) (g.K.Sink.written c.write_lines.new.sink)) (c.as_bytes.ensures ∙ right.2.1.written) c.in-Ok-write_lines.ensures.ok in
    demo_is_shown size x s _ _ _ right.2.0 words spells means right.2.2 right.2.1.status written e

pub returns-in-Ok-write_lines-clause-demonstrated : goal.returns-in-Ok-write_lines-clause-demonstrated
returns-in-Ok-write_lines-clause-demonstrated g c = λ size x s words spells means.
    let right = at_words c.as_slice.ensures c.in-Ok.ensures.right in
    let written = subst (Appended (g.K.Sink.written c.args.sink.now) (g.K.Sink.written c.write_lines.new.sink)) (c.as_bytes.ensures ∙ right.2.1.written) c.in-Ok-write_lines.ensures.ok in
    inr (demonstrated size x s _ _ _ right.2.0 words spells means right.2.2 right.2.1.status written)

pub returns-in-Ok-write_lines-clause-validity : goal.returns-in-Ok-write_lines-clause-validity
returns-in-Ok-write_lines-clause-validity g c = λ files x d told validates.
    let right = at_words c.as_slice.ensures c.in-Ok.ensures.right in
    let written = subst (Appended (g.K.Sink.written c.args.sink.now) (g.K.Sink.written c.write_lines.new.sink)) (c.as_bytes.ensures ∙ right.2.1.written) c.in-Ok-write_lines.ensures.ok in
    validity files x d _ _ _ right.2.0 validates (at_told _ right.0 told right.1.true) right.2.2 right.2.1.status written

pub returns-in-Ok-write_lines-clause-validity_in_pieces : goal.returns-in-Ok-write_lines-clause-validity_in_pieces
returns-in-Ok-write_lines-clause-validity_in_pieces g c = λ files x name bytes told validates.
    let right = at_words c.as_slice.ensures c.in-Ok.ensures.right in
    let written = subst (Appended (g.K.Sink.written c.args.sink.now) (g.K.Sink.written c.write_lines.new.sink)) (c.as_bytes.ensures ∙ right.2.1.written) c.in-Ok-write_lines.ensures.ok in
    validity_in_pieces files x name bytes _ _ _ right.2.0 validates (at_told _ right.0 told right.1.true) right.2.2 right.2.1.status written

pub returns-in-Ok-write_lines-clause-running : goal.returns-in-Ok-write_lines-clause-running
returns-in-Ok-write_lines-clause-running g c = λ files s d told runs.
    let right = at_words c.as_slice.ensures c.in-Ok.ensures.right in
    let written = subst (Appended (g.K.Sink.written c.args.sink.now) (g.K.Sink.written c.write_lines.new.sink)) (c.as_bytes.ensures ∙ right.2.1.written) c.in-Ok-write_lines.ensures.ok in
    running _ files s d _ _ _ right.2.0 runs (at_told _ right.0 told right.1.true) right.2.2 right.2.1.status written

pub returns-in-Ok-write_lines-clause-limited : goal.returns-in-Ok-write_lines-clause-limited
returns-in-Ok-write_lines-clause-limited g c = λ files s d told runs.
    let right = at_words c.as_slice.ensures c.in-Ok.ensures.right in
    let written = subst (Appended (g.K.Sink.written c.args.sink.now) (g.K.Sink.written c.write_lines.new.sink)) (c.as_bytes.ensures ∙ right.2.1.written) c.in-Ok-write_lines.ensures.ok in
    limited files s d _ _ _ right.2.0 runs (at_told _ right.0 told right.1.true) right.2.2 right.2.1.status written

pub returns-in-Ok-write_lines-clause-inclusion : goal.returns-in-Ok-write_lines-clause-inclusion
returns-in-Ok-write_lines-clause-inclusion g c = λ files x y told compares.
    let right = at_words c.as_slice.ensures c.in-Ok.ensures.right in
    let written = subst (Appended (g.K.Sink.written c.args.sink.now) (g.K.Sink.written c.write_lines.new.sink)) (c.as_bytes.ensures ∙ right.2.1.written) c.in-Ok-write_lines.ensures.ok in
    includes files x y _ _ _ right.2.0 compares (at_told _ right.0 told right.1.true) right.2.2 right.2.1.status written

pub returns-in-Ok-write_lines-clause-equality : goal.returns-in-Ok-write_lines-clause-equality
returns-in-Ok-write_lines-clause-equality g c = λ files x y told compares.
    let right = at_words c.as_slice.ensures c.in-Ok.ensures.right in
    let written = subst (Appended (g.K.Sink.written c.args.sink.now) (g.K.Sink.written c.write_lines.new.sink)) (c.as_bytes.ensures ∙ right.2.1.written) c.in-Ok-write_lines.ensures.ok in
    equals files x y _ _ _ right.2.0 compares (at_told _ right.0 told right.1.true) right.2.2 right.2.1.status written

pub returns-in-Ok-write_lines-clause-proved : goal.returns-in-Ok-write_lines-clause-proved
returns-in-Ok-write_lines-clause-proved g c = λ files limit i o s told proves.
    let right = at_words c.as_slice.ensures c.in-Ok.ensures.right in
    let written = subst (Appended (g.K.Sink.written c.args.sink.now) (g.K.Sink.written c.write_lines.new.sink)) (c.as_bytes.ensures ∙ right.2.1.written) c.in-Ok-write_lines.ensures.ok in
    proof_of_files files limit i o s _ _ _ right.2.0 proves (at_told _ right.0 told right.1.true) right.2.2 right.2.1.status written

pub returns-in-Ok-write_lines-clause-accepted_safe : goal.returns-in-Ok-write_lines-clause-accepted_safe
returns-in-Ok-write_lines-clause-accepted_safe g c = λ files i o s bytes told verifies e.
    let right = at_words c.as_slice.ensures c.in-Ok.ensures.right in
    accepted_is_safe _ files i o s bytes _ right.2.0 verifies (at_told _ right.0 told right.1.true) right.2.2 right.2.1.status e

pub returns-in-Ok-write_lines-clause-verified : goal.returns-in-Ok-write_lines-clause-verified
returns-in-Ok-write_lines-clause-verified g c = λ files i o s bytes told verifies.
    let right = at_words c.as_slice.ensures c.in-Ok.ensures.right in
    let written = subst (Appended (g.K.Sink.written c.args.sink.now) (g.K.Sink.written c.write_lines.new.sink)) (c.as_bytes.ensures ∙ right.2.1.written) c.in-Ok-write_lines.ensures.ok in
    certificate_of_files files i o s bytes _ _ _ right.2.0 verifies (at_told _ right.0 told right.1.true) right.2.2 right.2.1.status written

pub returns-in-Ok-write_lines-clause-upgraded : goal.returns-in-Ok-write_lines-clause-upgraded
returns-in-Ok-write_lines-clause-upgraded g c = λ files bytes told upgrades.
    let right = at_words c.as_slice.ensures c.in-Ok.ensures.right in
    let written = subst (Appended (g.K.Sink.written c.args.sink.now) (g.K.Sink.written c.write_lines.new.sink)) (c.as_bytes.ensures ∙ right.2.1.written) c.in-Ok-write_lines.ensures.ok in
    upgrade_of_files files bytes _ _ _ right.2.0 upgrades (at_told _ right.0 told right.1.true) right.2.2 right.2.1.status written

pub returns-in-Ok-write_lines-clause-unused : goal.returns-in-Ok-write_lines-clause-unused
returns-in-Ok-write_lines-clause-unused g c = λ files i s told asks e.
    let right = at_words c.as_slice.ensures c.in-Ok.ensures.right in
    let written = subst (Appended (g.K.Sink.written c.args.sink.now) (g.K.Sink.written c.write_lines.new.sink)) (c.as_bytes.ensures ∙ right.2.1.written) c.in-Ok-write_lines.ensures.ok in
    dead_unused files i s _ _ _ right.2.0 _ asks (at_told _ right.0 told right.1.true) right.2.2 right.2.1.status written e

pub returns-in-Ok-write_lines-clause-instantiated : goal.returns-in-Ok-write_lines-clause-instantiated
returns-in-Ok-write_lines-clause-instantiated g c = λ files i s told asks e.
    let right = at_words c.as_slice.ensures c.in-Ok.ensures.right in
    let written = subst (Appended (g.K.Sink.written c.args.sink.now) (g.K.Sink.written c.write_lines.new.sink)) (c.as_bytes.ensures ∙ right.2.1.written) c.in-Ok-write_lines.ensures.ok in
    dead_shown files i s _ _ _ right.2.0 _ asks (at_told _ right.0 told right.1.true) right.2.2 right.2.1.status written e

pub returns-in-Ok-write_lines-clause-spots_told : goal.returns-in-Ok-write_lines-clause-spots_told
returns-in-Ok-write_lines-clause-spots_told g c = λ files i s told asks.
    let right = at_words c.as_slice.ensures c.in-Ok.ensures.right in
    let written = subst (Appended (g.K.Sink.written c.args.sink.now) (g.K.Sink.written c.write_lines.new.sink)) (c.as_bytes.ensures ∙ right.2.1.written) c.in-Ok-write_lines.ensures.ok in
    dead_decided files i s _ _ _ right.2.0 asks (at_told _ right.0 told right.1.true) right.2.2 right.2.1.status written

-- ways out on which nothing is written, or not all

pub returns-in-Ok-clause-usage : goal.returns-in-Ok-clause-usage
returns-in-Ok-clause-usage g c = λ _. by_fault c.in-Err-write_lines.ensures.rose

pub returns-in-Ok-clause-exactly : goal.returns-in-Ok-clause-exactly
returns-in-Ok-clause-exactly g c = λ _ _. by_fault c.in-Err-write_lines.ensures.rose

pub returns-in-Ok-clause-headline : goal.returns-in-Ok-clause-headline
returns-in-Ok-clause-headline g c = λ _ _ _ _ _ _ _. by_fault c.in-Err-write_lines.ensures.rose

pub returns-in-Ok-clause-demonstrated : goal.returns-in-Ok-clause-demonstrated
returns-in-Ok-clause-demonstrated g c = λ _ _ _ _ _ _. by_fault c.in-Err-write_lines.ensures.rose

pub returns-in-Ok-clause-proved : goal.returns-in-Ok-clause-proved
returns-in-Ok-clause-proved g c = λ _ _ _ _ _ _ _. by_fault c.in-Err-write_lines.ensures.rose

pub returns-in-Ok-clause-verified : goal.returns-in-Ok-clause-verified
returns-in-Ok-clause-verified g c = λ _ _ _ _ _ _ _. by_fault c.in-Err-write_lines.ensures.rose

pub returns-in-Ok-clause-upgraded : goal.returns-in-Ok-clause-upgraded
returns-in-Ok-clause-upgraded g c = λ _ _ _ _. by_fault c.in-Err-write_lines.ensures.rose

pub returns-in-Ok-clause-validity : goal.returns-in-Ok-clause-validity
returns-in-Ok-clause-validity g c = λ _ _ _ _ _. by_fault c.in-Err-write_lines.ensures.rose

pub returns-in-Ok-clause-validity_in_pieces : goal.returns-in-Ok-clause-validity_in_pieces
returns-in-Ok-clause-validity_in_pieces g c = λ _ _ _ _ _ _. by_fault c.in-Err-write_lines.ensures.rose

pub returns-in-Ok-clause-limited : goal.returns-in-Ok-clause-limited
returns-in-Ok-clause-limited g c = λ _ _ _ _ _. by_fault c.in-Err-write_lines.ensures.rose

pub returns-in-Ok-clause-inclusion : goal.returns-in-Ok-clause-inclusion
returns-in-Ok-clause-inclusion g c = λ _ _ _ _ _. by_fault c.in-Err-write_lines.ensures.rose

pub returns-in-Ok-clause-equality : goal.returns-in-Ok-clause-equality
returns-in-Ok-clause-equality g c = λ _ _ _ _ _. by_fault c.in-Err-write_lines.ensures.rose

pub returns-in-Ok-clause-safe : goal.returns-in-Ok-clause-safe
returns-in-Ok-clause-safe g c = λ _ _ _ _ _ _ _ e. fault_not_yes e

pub returns-in-Ok-clause-shown : goal.returns-in-Ok-clause-shown
returns-in-Ok-clause-shown g c = λ _ _ _ _ _ _ _ e. fault_not_no e

pub returns-in-Ok-clause-demo_safe : goal.returns-in-Ok-clause-demo_safe
returns-in-Ok-clause-demo_safe g c = λ _ _ _ _ _ _ e. fault_not_yes e

pub returns-in-Ok-clause-demo_shown : goal.returns-in-Ok-clause-demo_shown
returns-in-Ok-clause-demo_shown g c = λ _ _ _ _ _ _ e. fault_not_no e

pub returns-in-Ok-clause-accepted_safe : goal.returns-in-Ok-clause-accepted_safe
returns-in-Ok-clause-accepted_safe g c = λ _ _ _ _ _ _ _ e. fault_not_yes e

pub returns-in-Ok-clause-running : goal.returns-in-Ok-clause-running
returns-in-Ok-clause-running g c = λ _ _ _ _ _ e. fault_not_yes e

pub returns-in-Ok-clause-spots_told : goal.returns-in-Ok-clause-spots_told
returns-in-Ok-clause-spots_told g c = λ _ _ _ _ _. by_fault c.in-Err-write_lines.ensures.rose

pub returns-in-Ok-clause-unused : goal.returns-in-Ok-clause-unused
returns-in-Ok-clause-unused g c = λ _ _ _ _ _ e. fault_not_told e

pub returns-in-Ok-clause-instantiated : goal.returns-in-Ok-clause-instantiated
returns-in-Ok-clause-instantiated g c = λ _ _ _ _ _ e. fault_not_told e

pub returns-clause-spots_told : goal.returns-clause-spots_told
returns-clause-spots_told g c = λ _ _ _ _ _. by_memory

pub returns-clause-unused : goal.returns-clause-unused
returns-clause-unused g c = λ _ _ _ _ _ e. memory_not_told e

pub returns-clause-instantiated : goal.returns-clause-instantiated
returns-clause-instantiated g c = λ _ _ _ _ _ e. memory_not_told e

pub returns-clause-usage : goal.returns-clause-usage
returns-clause-usage g c = λ _. by_memory

pub returns-clause-exactly : goal.returns-clause-exactly
returns-clause-exactly g c = λ _ _. by_memory

pub returns-clause-headline : goal.returns-clause-headline
returns-clause-headline g c = λ _ _ _ _ _ _ _. by_memory

pub returns-clause-demonstrated : goal.returns-clause-demonstrated
returns-clause-demonstrated g c = λ _ _ _ _ _ _. by_memory

pub returns-clause-proved : goal.returns-clause-proved
returns-clause-proved g c = λ _ _ _ _ _ _ _. by_memory

pub returns-clause-verified : goal.returns-clause-verified
returns-clause-verified g c = λ _ _ _ _ _ _ _. by_memory

pub returns-clause-upgraded : goal.returns-clause-upgraded
returns-clause-upgraded g c = λ _ _ _ _. by_memory

pub returns-clause-validity : goal.returns-clause-validity
returns-clause-validity g c = λ _ _ _ _ _. by_memory

pub returns-clause-validity_in_pieces : goal.returns-clause-validity_in_pieces
returns-clause-validity_in_pieces g c = λ _ _ _ _ _ _. by_memory

pub returns-clause-limited : goal.returns-clause-limited
returns-clause-limited g c = λ _ _ _ _ _. by_memory

pub returns-clause-inclusion : goal.returns-clause-inclusion
returns-clause-inclusion g c = λ _ _ _ _ _. by_memory

pub returns-clause-equality : goal.returns-clause-equality
returns-clause-equality g c = λ _ _ _ _ _. by_memory

pub returns-clause-safe : goal.returns-clause-safe
returns-clause-safe g c = λ _ _ _ _ _ _ _ e. memory_not_yes e

pub returns-clause-shown : goal.returns-clause-shown
returns-clause-shown g c = λ _ _ _ _ _ _ _ e. memory_not_no e

pub returns-clause-demo_safe : goal.returns-clause-demo_safe
returns-clause-demo_safe g c = λ _ _ _ _ _ _ e. memory_not_yes e

pub returns-clause-demo_shown : goal.returns-clause-demo_shown
returns-clause-demo_shown g c = λ _ _ _ _ _ _ e. memory_not_no e

pub returns-clause-accepted_safe : goal.returns-clause-accepted_safe
returns-clause-accepted_safe g c = λ _ _ _ _ _ _ _ e. memory_not_yes e

pub returns-clause-running : goal.returns-clause-running
returns-clause-running g c = λ _ _ _ _ _ e. memory_not_yes e
