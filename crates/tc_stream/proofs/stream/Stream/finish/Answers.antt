use Rattle.std.proofs.Common.{◌∙◌, List, ℕ, Err, ap, sym}
use Rattle.std.specs.Prelude.{◌↔◌, IsTrue}
use Rattle.tc_model.specs.Grammars.{Grammar}
use Rattle.tc_model.specs.RawTrees.{RawTrees}
use Rattle.tc_model.specs.Stripped.{stripped}
use Rattle.tc_model.specs.Validity.{IsValid}
use Rattle.tc_stream.specs.Faults.{IsFaultOf}
use Rattle.tc_stream.specs.Streams.{StandsFor}
use Rattle.tc_stream.specs.XmlTextMeasures.{IsGood}
use Rattle.tc_stream.proofs.StreamEnds.{ends_by, ends_good, ends_limit, ends_passed, ends_refused, same_fault, some_fault}
use Rattle.tc_stream.proofs.TagReads.{if_err, if_ok}
use Rattle.tc_stream.proofs.stream.Stream.finish.Goals as goal

pub returns-in-Some-clause-good : goal.returns-in-Some-clause-good
returns-in-Some-clause-good c = λ x text h s good. absurd (some_fault (sym c.in-Some.is ∙ s.no_fault))

pub returns-in-Some-clause-fault : goal.returns-in-Some-clause-fault
returns-in-Some-clause-fault c = λ x text s. absurd (some_fault (sym c.in-Some.is ∙ s.no_fault))

pub returns-in-Some-clause-passed : goal.returns-in-Some-clause-passed
returns-in-Some-clause-passed c = λ x text measure place s p. absurd (some_fault (sym c.in-Some.is ∙ s.no_fault))

pub returns-in-Some-clause-limit : goal.returns-in-Some-clause-limit
returns-in-Some-clause-limit c = λ x text h s reads. absurd (some_fault (sym c.in-Some.is ∙ s.no_fault))

pub returns-in-Some-clause-refused : goal.returns-in-Some-clause-refused
returns-in-Some-clause-refused c = λ x text cause place s refuses within. absurd (some_fault (sym c.in-Some.is ∙ s.no_fault))

pub returns-in-Some-clause-again : goal.returns-in-Some-clause-again
returns-in-Some-clause-again c = λ e is. ap Err (same_fault (sym c.in-Some.is ∙ is))

pub returns-in-None-clause-ok : goal.returns-in-None-clause-ok
returns-in-None-clause-ok c =
    if_ok c.ended.result (λ b. (x : Grammar) (text : List ℕ) → StandsFor x c.args.self text → (h : RawTrees) × IsGood text h × (IsTrue b ↔ IsValid x (stripped h)))
    (λ b is x text s. let ends = ends_by text x c.ended.result (c.ended.ensures.ok x text s) (c.ended.ensures.fault x text s) in ends.valid b is)

pub returns-in-None-clause-good : goal.returns-in-None-clause-good
returns-in-None-clause-good c = λ x text h s good.
    ends_good h (ends_by text x c.ended.result (c.ended.ensures.ok x text s) (c.ended.ensures.fault x text s)) good

pub returns-in-None-clause-fault : goal.returns-in-None-clause-fault
returns-in-None-clause-fault c =
    if_err c.ended.result (λ e. (x : Grammar) (text : List ℕ) → StandsFor x c.args.self text → IsFaultOf text e)
    (λ e is x text s. let ends = ends_by text x c.ended.result (c.ended.ensures.ok x text s) (c.ended.ensures.fault x text s) in ends.fault e is)

pub returns-in-None-clause-passed : goal.returns-in-None-clause-passed
returns-in-None-clause-passed c = λ x text measure place s p.
    ends_passed measure place (ends_by text x c.ended.result (c.ended.ensures.ok x text s) (c.ended.ensures.fault x text s)) p

pub returns-in-None-clause-limit : goal.returns-in-None-clause-limit
returns-in-None-clause-limit c = λ x text h s reads.
    ends_limit c.ended.result h (ends_by text x c.ended.result (c.ended.ensures.ok x text s) (c.ended.ensures.fault x text s)) reads

pub returns-in-None-clause-refused : goal.returns-in-None-clause-refused
returns-in-None-clause-refused c = λ x text cause place s refuses within.
    ends_refused cause place (ends_by text x c.ended.result (c.ended.ensures.ok x text s) (c.ended.ensures.fault x text s)) refuses within

pub returns-in-None-clause-again : goal.returns-in-None-clause-again
returns-in-None-clause-again c = λ e is. absurd (some_fault (sym is ∙ c.in-None.is))

pub returns-in-Some-clause-ok : goal.returns-in-Some-clause-ok
returns-in-Some-clause-ok c = tt
