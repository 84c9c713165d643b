use Rattle.std.proofs.Common.{◌∷◌, [], ◌∙◌, ap, subst, List, arith}
use Rattle.tc_io.specs.Reads.{Happened}
use Rattle.tc_io.specs.Store.{Read}
use Rattle.tc_io.proofs.ReadsInOrder.{happened_both}
use Rattle.tc_read.proofs.Exits.{err_is}
use Rattle.tc_answer.specs.AnswersSeen.{read_of, source}
use Rattle.tc_answer.specs.Words.{Source, schema, plain}
use Rattle.tc_answer.proofs.OperandsRead.{first_as, later_as, no_value}
use Rattle.tc_answer.proofs.read.read_triple.Goals as goal

pub returns-in_err-input-clause-err : goal.returns-in_err-input-clause-err
returns-in_err-input-clause-err g c =
    let first = c.in_err-input.ensures.err in
    err_is c.from_residual.result _ _ c.from_residual.ensures.1 (_, first.1, first_as _ first.0 _ (source c.schema.result) (schema c.args.triple.input.now) c.schema.ensures first.2)

pub returns-in_err-output-clause-err : goal.returns-in_err-output-clause-err
returns-in_err-output-clause-err g c =
    let second = c.in_err-output.ensures.err in
    err_is c.from_residual-in_err-output.result _ _ c.from_residual-in_err-output.ensures.1 (
      _,
      happened_both _ _ _ _ _ _ _ _ c.in_ok-input.ensures.ok second.1,
      later_as _ _ _ _ (source c.schema.result) (schema c.args.triple.input.now) c.schema.ensures
          (first_as _ second.0 _ (source c.schema-2.result) (schema c.args.triple.output.now) c.schema-2.ensures second.2),
    )

pub returns-in_err-sheet-clause-err : goal.returns-in_err-sheet-clause-err
returns-in_err-sheet-clause-err g c =
    let third = c.in_err-sheet.ensures.err in
    let before = happened_both _ _ _ _ _ _ _ _ c.in_ok-input.ensures.ok c.in_ok-output.ensures.ok in
    err_is c.from_residual-in_err-sheet.result _ _ c.from_residual-in_err-sheet.ensures.1 (
      _,
      happened_both _ _ _ _ _ _ _ _ before third.1,
      later_as _ _ _ _ (source c.schema.result) (schema c.args.triple.input.now) c.schema.ensures
          (later_as _ _ _ _ (source c.schema-2.result) (schema c.args.triple.output.now) c.schema-2.ensures
          (first_as _ third.0 _ (source c.plain.result) (plain c.args.triple.sheet.now) c.plain.ensures third.2)),
    )

pub returns-clause-ok : goal.returns-clause-ok
returns-clause-ok g c =
    let reads : Source → Source → Source → List Read = λ a b d. read_of a c.in_ok-input.input ∷ read_of b c.in_ok-output.output ∷ read_of d c.in_ok-sheet.sheet ∷ [] in
    let first_two = happened_both _ _ _ _ _ _ _ _ c.in_ok-input.ensures.ok c.in_ok-output.ensures.ok in
    let all = happened_both _ _ _ _ _ _ _ _ first_two c.in_ok-sheet.ensures.ok in
    subst (Happened _ _ _ _ _)
    (ap (λ w. reads w (source c.schema-2.result) (source c.plain.result)) c.schema.ensures
    ∙ (ap (λ w. reads (schema c.args.triple.input.now) w (source c.plain.result)) c.schema-2.ensures
    ∙ ap (reads (schema c.args.triple.input.now) (schema c.args.triple.output.now)) c.plain.ensures))
    all

pub returns-clause-input : goal.returns-clause-input
returns-clause-input g c = c.in_ok-input.ensures.named ∙ ap (λ w. w.word) c.schema.ensures

pub returns-clause-output : goal.returns-clause-output
returns-clause-output g c = c.in_ok-output.ensures.named ∙ ap (λ w. w.word) c.schema-2.ensures

pub returns-clause-sheet : goal.returns-clause-sheet
returns-clause-sheet g c = c.in_ok-sheet.ensures.named ∙ ap (λ w. w.word) c.plain.ensures

pub returns-in_err-input-clause-input : goal.returns-in_err-input-clause-input
returns-in_err-input-clause-input g c = no_value c.from_residual.result _ _ c.from_residual.ensures.1

pub returns-in_err-input-clause-output : goal.returns-in_err-input-clause-output
returns-in_err-input-clause-output g c = no_value c.from_residual.result _ _ c.from_residual.ensures.1

pub returns-in_err-input-clause-sheet : goal.returns-in_err-input-clause-sheet
returns-in_err-input-clause-sheet g c = no_value c.from_residual.result _ _ c.from_residual.ensures.1

pub returns-in_err-input-clause-ok : goal.returns-in_err-input-clause-ok
returns-in_err-input-clause-ok g c = no_value c.from_residual.result _ _ c.from_residual.ensures.1

pub returns-in_err-output-clause-input : goal.returns-in_err-output-clause-input
returns-in_err-output-clause-input g c = no_value c.from_residual-in_err-output.result _ _ c.from_residual-in_err-output.ensures.1

pub returns-in_err-output-clause-output : goal.returns-in_err-output-clause-output
returns-in_err-output-clause-output g c = no_value c.from_residual-in_err-output.result _ _ c.from_residual-in_err-output.ensures.1

pub returns-in_err-output-clause-sheet : goal.returns-in_err-output-clause-sheet
returns-in_err-output-clause-sheet g c = no_value c.from_residual-in_err-output.result _ _ c.from_residual-in_err-output.ensures.1

pub returns-in_err-output-clause-ok : goal.returns-in_err-output-clause-ok
returns-in_err-output-clause-ok g c = no_value c.from_residual-in_err-output.result _ _ c.from_residual-in_err-output.ensures.1

pub returns-in_err-sheet-clause-input : goal.returns-in_err-sheet-clause-input
returns-in_err-sheet-clause-input g c = no_value c.from_residual-in_err-sheet.result _ _ c.from_residual-in_err-sheet.ensures.1

pub returns-in_err-sheet-clause-output : goal.returns-in_err-sheet-clause-output
returns-in_err-sheet-clause-output g c = no_value c.from_residual-in_err-sheet.result _ _ c.from_residual-in_err-sheet.ensures.1

pub returns-in_err-sheet-clause-sheet : goal.returns-in_err-sheet-clause-sheet
returns-in_err-sheet-clause-sheet g c = no_value c.from_residual-in_err-sheet.result _ _ c.from_residual-in_err-sheet.ensures.1

pub returns-in_err-sheet-clause-ok : goal.returns-in_err-sheet-clause-ok
returns-in_err-sheet-clause-ok g c = no_value c.from_residual-in_err-sheet.result _ _ c.from_residual-in_err-sheet.ensures.1

pub returns-in_err-output-clause-same : goal.returns-in_err-output-clause-same
returns-in_err-output-clause-same g c = c.in_err-output.ensures.same ∙ c.in_ok-input.ensures.same

pub returns-in_err-output-clause-count : goal.returns-in_err-output-clause-count
returns-in_err-output-clause-count g c = omega (arith, c.in_ok-input.ensures.count, c.in_err-output.ensures.count)

pub returns-in_err-sheet-clause-same : goal.returns-in_err-sheet-clause-same
returns-in_err-sheet-clause-same g c = c.in_err-sheet.ensures.same ∙ (c.in_ok-output.ensures.same ∙ c.in_ok-input.ensures.same)

pub returns-in_err-sheet-clause-count : goal.returns-in_err-sheet-clause-count
returns-in_err-sheet-clause-count g c = omega (arith, c.in_ok-input.ensures.count, c.in_ok-output.ensures.count, c.in_err-sheet.ensures.count)

pub returns-clause-same : goal.returns-clause-same
returns-clause-same g c = c.in_ok-sheet.ensures.same ∙ (c.in_ok-output.ensures.same ∙ c.in_ok-input.ensures.same)

pub returns-clause-count : goal.returns-clause-count
returns-clause-count g c = omega (arith, c.in_ok-input.ensures.count, c.in_ok-output.ensures.count, c.in_ok-sheet.ensures.count)
