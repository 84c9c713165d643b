use Rattle.std.proofs.Common.{◌≡◌, ◌+◌, ◌++◌, ◌∙◌, List, ℕ, Some, Err, ap, arith, length, subst, sym}
use Rattle.std.specs.Prelude.{OnErr, OnOk}
use Rattle.tc_model.specs.Grammars.{Grammar}
use Rattle.tc_stream.specs.Faults.{IsFaultOfFront, IsHopeless}
use Rattle.tc_stream.specs.Streams.{StandsFor, fault_found, fed_of}
use Rattle.tc_stream.proofs.FaultsOnce.{fault_not_good}
use Rattle.tc_stream.proofs.StreamEnds.{same_fault, some_fault}
use Rattle.tc_stream.proofs.TagReads.{at_err, at_ok, if_err, if_ok}
use Rattle.tc_stream.proofs.stream.Stream.feed.Goals as goal

pub returns-in-Some-clause-fault : goal.returns-in-Some-clause-fault
returns-in-Some-clause-fault c = λ x text s. absurd (some_fault (sym c.in-Some.is ∙ s.no_fault))

pub returns-in-Some-clause-hopeless : goal.returns-in-Some-clause-hopeless
returns-in-Some-clause-hopeless c = λ x text s. absurd (some_fault (sym c.in-Some.is ∙ s.no_fault))

pub returns-in-Some-clause-none : goal.returns-in-Some-clause-none
returns-in-Some-clause-none c = λ x text s. some_fault (sym c.in-Some.is ∙ s.no_fault)

pub returns-in-Some-clause-again : goal.returns-in-Some-clause-again
returns-in-Some-clause-again c = λ e is. ap Err (same_fault (sym c.in-Some.is ∙ is))

pub returns-then-hold-clause-ok : goal.returns-then-hold-clause-ok
returns-then-hold-clause-ok c = λ x text s. c.if-hold.ensures.held x text s

pub returns-else-hold-clause-ok : goal.returns-else-hold-clause-ok
returns-else-hold-clause-ok c =
    let piece = c.args.piece.now in
    if_ok c.advance.result (λ _. (x : Grammar) (text : List ℕ) → StandsFor x c.args.self.now text → StandsFor x c.advance.new.self (text ++ piece))
    (λ v is x text s. at_ok c.advance.result (λ _. StandsFor x c.advance.new.self (text ++ piece)) v is (c.advance.ensures.ok x text (c.if-hold.ensures.held x text s)))

pub returns-else-hold-clause-fault : goal.returns-else-hold-clause-fault
returns-else-hold-clause-fault c =
    let piece = c.args.piece.now in
    if_err c.advance.result (λ e. (x : Grammar) (text : List ℕ) → StandsFor x c.args.self.now text → IsFaultOfFront (text ++ piece) e)
    (λ e is x text s. at_err c.advance.result (λ e. IsFaultOfFront (text ++ piece) e) e is (c.advance.ensures.fault x text (c.if-hold.ensures.held x text s)))

pub returns-else-hold-clause-hopeless : goal.returns-else-hold-clause-hopeless
returns-else-hold-clause-hopeless c =
    let piece = c.args.piece.now in
    if_err c.advance.result (λ _. (x : Grammar) (text : List ℕ) → StandsFor x c.args.self.now text → IsHopeless (text ++ piece))
    (λ e is x text s r h good. fault_not_good ((text ++ piece) ++ r) h e (at_err c.advance.result (λ e. IsFaultOfFront (text ++ piece) e) e is (c.advance.ensures.fault x text (c.if-hold.ensures.held x text s)) r) good)

pub returns-else-hold-clause-none : goal.returns-else-hold-clause-none
returns-else-hold-clause-none c =
    if_err c.advance.result (λ _. (x : Grammar) (text : List ℕ) → StandsFor x c.advance.new.self text → ⊥)
    (λ e is x text s. some_fault (sym (at_err c.advance.result (λ e. fault_found c.advance.new.self ≡ Some e) e is c.advance.ensures.kept) ∙ s.no_fault))

pub returns-else-hold-clause-again : goal.returns-else-hold-clause-again
returns-else-hold-clause-again c = λ e is. absurd (some_fault (sym is ∙ c.in-None.is))

pub returns-in-Some-clause-ok : goal.returns-in-Some-clause-ok
returns-in-Some-clause-ok c = tt

pub returns-in-Some-clause-fed_ok : goal.returns-in-Some-clause-fed_ok
returns-in-Some-clause-fed_ok c = tt

pub returns-else-hold-clause-kept : goal.returns-else-hold-clause-kept
returns-else-hold-clause-kept c = c.advance.ensures.kept

pub returns-else-hold-clause-fed_ok : goal.returns-else-hold-clause-fed_ok
returns-else-hold-clause-fed_ok c =
    let same : fed_of c.hold.new.self ≡ fed_of c.args.self.now = omega (arith, c.if-hold.ensures.fed) in
    subst (λ n. OnOk c.advance.result (fed_of c.advance.new.self ≡ n + length c.args.piece.now)) same c.advance.ensures.fed_ok

pub returns-else-hold-clause-fed_err : goal.returns-else-hold-clause-fed_err
returns-else-hold-clause-fed_err c =
    let same : fed_of c.hold.new.self ≡ fed_of c.args.self.now = omega (arith, c.if-hold.ensures.fed) in
    subst (λ n. OnErr c.advance.result (fed_of c.advance.new.self ≡ n)) same c.advance.ensures.fed_err
