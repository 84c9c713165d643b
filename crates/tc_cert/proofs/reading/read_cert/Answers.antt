use Rattle.tc_cert.specs.Readings.{IsUnread}
use Rattle.tc_cert.proofs.Steps.{same_error, no_value}
use Rattle.tc_cert.proofs.ReadLines.{end_fault, whole_text}
use Rattle.tc_cert.proofs.reading.read_cert.Goals as goal

pub returns-in_err-trees-clause-fault : goal.returns-in_err-trees-clause-fault
returns-in_err-trees-clause-fault c =
    let outputs = c.in_ok-outputs.ensures c.in_ok-reader.ensures.0 c.args.text.now c.in_ok-reader.ensures.1 in
    same_error (λ e. IsUnread c.args.text.now e) c.from_residual-in_err-trees.result c.in_err-trees.field-0.0 c.from_residual-in_err-trees.ensures.1
    (c.in_err-trees.ensures c.in_ok-reader.ensures.0 c.args.text.now c.in_ok-outputs.outputs outputs)

pub returns-in_err-hedges-clause-fault : goal.returns-in_err-hedges-clause-fault
returns-in_err-hedges-clause-fault c =
    let outputs = c.in_ok-outputs.ensures c.in_ok-reader.ensures.0 c.args.text.now c.in_ok-reader.ensures.1 in
    let trees = c.in_ok-trees.ensures c.in_ok-reader.ensures.0 c.args.text.now c.in_ok-outputs.outputs outputs in
    same_error (λ e. IsUnread c.args.text.now e) c.from_residual-in_err-hedges.result c.in_err-hedges.field-0.0 c.from_residual-in_err-hedges.ensures.1
    (c.in_err-hedges.ensures c.in_ok-reader.ensures.0 c.args.text.now c.in_ok-outputs.outputs c.in_ok-trees.trees trees)

pub returns-in_err-end-clause-fault : goal.returns-in_err-end-clause-fault
returns-in_err-end-clause-fault c =
    let outputs = c.in_ok-outputs.ensures c.in_ok-reader.ensures.0 c.args.text.now c.in_ok-reader.ensures.1 in
    let trees = c.in_ok-trees.ensures c.in_ok-reader.ensures.0 c.args.text.now c.in_ok-outputs.outputs outputs in
    let hedges = c.in_ok-hedges.ensures c.in_ok-reader.ensures.0 c.args.text.now c.in_ok-outputs.outputs c.in_ok-trees.trees trees in
    same_error (λ e. IsUnread c.args.text.now e) c.from_residual-in_err-end.result c.in_err-end.field-0.0 c.from_residual-in_err-end.ensures.1
    (end_fault c.in_ok-reader.ensures.0 c.args.text.now c.in_ok-outputs.outputs c.in_ok-trees.trees c.in_ok-hedges.hedges _ c.in_err-end.field-0.0 hedges c.in_err-end.ensures)

pub returns-clause-ok : goal.returns-clause-ok
returns-clause-ok c =
    let outputs = c.in_ok-outputs.ensures c.in_ok-reader.ensures.0 c.args.text.now c.in_ok-reader.ensures.1 in
    let trees = c.in_ok-trees.ensures c.in_ok-reader.ensures.0 c.args.text.now c.in_ok-outputs.outputs outputs in
    let hedges = c.in_ok-hedges.ensures c.in_ok-reader.ensures.0 c.args.text.now c.in_ok-outputs.outputs c.in_ok-trees.trees trees in
    whole_text c.in_ok-reader.ensures.0 c.args.text.now c.in_ok-outputs.outputs c.in_ok-trees.trees c.in_ok-hedges.hedges _ hedges c.in_ok-end.ensures

pub returns-in_err-reader-clause-ok : goal.returns-in_err-reader-clause-ok
returns-in_err-reader-clause-ok c = no_value c.from_residual.result _ _ c.from_residual.ensures.1

pub returns-in_err-outputs-clause-ok : goal.returns-in_err-outputs-clause-ok
returns-in_err-outputs-clause-ok c = no_value c.from_residual-in_err-outputs.result _ _ c.from_residual-in_err-outputs.ensures.1

pub returns-in_err-trees-clause-ok : goal.returns-in_err-trees-clause-ok
returns-in_err-trees-clause-ok c = no_value c.from_residual-in_err-trees.result _ _ c.from_residual-in_err-trees.ensures.1

pub returns-in_err-hedges-clause-ok : goal.returns-in_err-hedges-clause-ok
returns-in_err-hedges-clause-ok c = no_value c.from_residual-in_err-hedges.result _ _ c.from_residual-in_err-hedges.ensures.1

pub returns-in_err-end-clause-ok : goal.returns-in_err-end-clause-ok
returns-in_err-end-clause-ok c = no_value c.from_residual-in_err-end.result _ _ c.from_residual-in_err-end.ensures.1

pub new-requires : goal.new-requires
new-requires c = c.requires
