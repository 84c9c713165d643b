use Rattle.std.proofs.Common.{[], map, refl}
use Rattle.tc_cert.specs.Fields.{tree_of, hedge_of}
use Rattle.tc_cert.specs.Fits.{sizes_of}
use Rattle.tc_cert.specs.Readings.{IsUnread}
use Rattle.tc_cert.proofs.Steps.{same_error, no_value}
use Rattle.tc_cert.proofs.ReadLines.{outputs_on, outputs_fault, trees_on, trees_fault, hedges_on, hedges_fault, end_fault, whole_text}
use Rattle.tc_cert.proofs.ToldSoFar.{outputs_whole, trees_whole, hedges_whole}
use Rattle.tc_cert.proofs.fitting.first_unfit.Goals as goal

pub returns-in_err-outputs-clause-fault : goal.returns-in_err-outputs-clause-fault
returns-in_err-outputs-clause-fault c =
    same_error (λ e. IsUnread c.args.text.now e) c.from_residual-in_err-outputs.result c.in_err-outputs.field-0.0 c.from_residual-in_err-outputs.ensures.1
    (outputs_fault c.in_ok-reader.ensures.0 c.args.text.now _ c.in_err-outputs.field-0.0 c.in_ok-reader.ensures.1 c.in_err-outputs.ensures.no)

pub returns-in_err-of_outputs-clause-fault : goal.returns-in_err-of_outputs-clause-fault
returns-in_err-of_outputs-clause-fault c =
    let s1 = outputs_on c.in_ok-reader.ensures.0 c.args.text.now c.in_ok-outputs.outputs _ _ c.in_ok-reader.ensures.1 c.in_ok-outputs.ensures.ok.0 c.in_ok-outputs.ensures.ok.1 in
    same_error (λ e. IsUnread c.args.text.now e) c.from_residual-in_err-of_outputs.result c.in_err-of_outputs.field-0.0 c.from_residual-in_err-of_outputs.ensures.1
    (c.in_err-of_outputs.ensures c.in_ok-reader.ensures.0 c.args.text.now (sizes_of c.args.ranges) refl s1)

pub returns-in_err-trees-clause-fault : goal.returns-in_err-trees-clause-fault
returns-in_err-trees-clause-fault c =
    let s1 = outputs_on c.in_ok-reader.ensures.0 c.args.text.now c.in_ok-outputs.outputs _ _ c.in_ok-reader.ensures.1 c.in_ok-outputs.ensures.ok.0 c.in_ok-outputs.ensures.ok.1 in
    let o = c.in_ok-of_outputs.ensures c.in_ok-reader.ensures.0 c.args.text.now (sizes_of c.args.ranges) refl s1 in
    let s2 = outputs_whole c.in_ok-reader.ensures.0 c.args.text.now c.in_ok-outputs.outputs o.0 _ o.1 o.2 in
    same_error (λ e. IsUnread c.args.text.now e) c.from_residual-in_err-trees.result c.in_err-trees.field-0.0 c.from_residual-in_err-trees.ensures.1
    (trees_fault c.in_ok-reader.ensures.0 c.args.text.now o.0 _ c.in_err-trees.field-0.0 s2 c.in_err-trees.ensures.no)

pub returns-in_err-of_trees-clause-fault : goal.returns-in_err-of_trees-clause-fault
returns-in_err-of_trees-clause-fault c =
    let s1 = outputs_on c.in_ok-reader.ensures.0 c.args.text.now c.in_ok-outputs.outputs _ _ c.in_ok-reader.ensures.1 c.in_ok-outputs.ensures.ok.0 c.in_ok-outputs.ensures.ok.1 in
    let o = c.in_ok-of_outputs.ensures c.in_ok-reader.ensures.0 c.args.text.now (sizes_of c.args.ranges) refl s1 in
    let s2 = outputs_whole c.in_ok-reader.ensures.0 c.args.text.now c.in_ok-outputs.outputs o.0 _ o.1 o.2 in
    let s3 = trees_on c.in_ok-reader.ensures.0 c.args.text.now o.0 c.in_ok-trees.trees _ _ s2 c.in_ok-trees.ensures.ok.0 c.in_ok-trees.ensures.ok.1 in
    same_error (λ e. IsUnread c.args.text.now e) c.from_residual-in_err-of_trees.result c.in_err-of_trees.field-0.0 c.from_residual-in_err-of_trees.ensures.1
    (c.in_err-of_trees.ensures c.in_ok-reader.ensures.0 c.args.text.now o.0 [] o.1 s3 o.3)

pub returns-in_err-hedges-clause-fault : goal.returns-in_err-hedges-clause-fault
returns-in_err-hedges-clause-fault c =
    let s1 = outputs_on c.in_ok-reader.ensures.0 c.args.text.now c.in_ok-outputs.outputs _ _ c.in_ok-reader.ensures.1 c.in_ok-outputs.ensures.ok.0 c.in_ok-outputs.ensures.ok.1 in
    let o = c.in_ok-of_outputs.ensures c.in_ok-reader.ensures.0 c.args.text.now (sizes_of c.args.ranges) refl s1 in
    let s2 = outputs_whole c.in_ok-reader.ensures.0 c.args.text.now c.in_ok-outputs.outputs o.0 _ o.1 o.2 in
    let s3 = trees_on c.in_ok-reader.ensures.0 c.args.text.now o.0 c.in_ok-trees.trees _ _ s2 c.in_ok-trees.ensures.ok.0 c.in_ok-trees.ensures.ok.1 in
    let t = c.in_ok-of_trees.ensures c.in_ok-reader.ensures.0 c.args.text.now o.0 [] o.1 s3 o.3 in
    let s4 = trees_whole c.in_ok-reader.ensures.0 c.args.text.now o.0 c.in_ok-trees.trees t.0 _ t.1 t.2 in
    same_error (λ e. IsUnread c.args.text.now e) c.from_residual-in_err-hedges.result c.in_err-hedges.field-0.0 c.from_residual-in_err-hedges.ensures.1
    (hedges_fault c.in_ok-reader.ensures.0 c.args.text.now o.0 (map tree_of t.0) _ c.in_err-hedges.field-0.0 s4 c.in_err-hedges.ensures.no)

pub returns-in_err-told-clause-fault : goal.returns-in_err-told-clause-fault
returns-in_err-told-clause-fault c =
    let s1 = outputs_on c.in_ok-reader.ensures.0 c.args.text.now c.in_ok-outputs.outputs _ _ c.in_ok-reader.ensures.1 c.in_ok-outputs.ensures.ok.0 c.in_ok-outputs.ensures.ok.1 in
    let o = c.in_ok-of_outputs.ensures c.in_ok-reader.ensures.0 c.args.text.now (sizes_of c.args.ranges) refl s1 in
    let s2 = outputs_whole c.in_ok-reader.ensures.0 c.args.text.now c.in_ok-outputs.outputs o.0 _ o.1 o.2 in
    let s3 = trees_on c.in_ok-reader.ensures.0 c.args.text.now o.0 c.in_ok-trees.trees _ _ s2 c.in_ok-trees.ensures.ok.0 c.in_ok-trees.ensures.ok.1 in
    let t = c.in_ok-of_trees.ensures c.in_ok-reader.ensures.0 c.args.text.now o.0 [] o.1 s3 o.3 in
    let s4 = trees_whole c.in_ok-reader.ensures.0 c.args.text.now o.0 c.in_ok-trees.trees t.0 _ t.1 t.2 in
    let s5 = hedges_on c.in_ok-reader.ensures.0 c.args.text.now o.0 (map tree_of t.0) c.in_ok-hedges.hedges _ _ s4 c.in_ok-hedges.ensures.ok.0 c.in_ok-hedges.ensures.ok.1 in
    same_error (λ e. IsUnread c.args.text.now e) c.from_residual-in_err-told.result c.in_err-told.field-0.0 c.from_residual-in_err-told.ensures.1
    (c.in_err-told.ensures c.in_ok-reader.ensures.0 c.args.text.now o.0 (map tree_of t.0) o.1 s5 t.3)

pub returns-in_err-end-clause-fault : goal.returns-in_err-end-clause-fault
returns-in_err-end-clause-fault c =
    let s1 = outputs_on c.in_ok-reader.ensures.0 c.args.text.now c.in_ok-outputs.outputs _ _ c.in_ok-reader.ensures.1 c.in_ok-outputs.ensures.ok.0 c.in_ok-outputs.ensures.ok.1 in
    let o = c.in_ok-of_outputs.ensures c.in_ok-reader.ensures.0 c.args.text.now (sizes_of c.args.ranges) refl s1 in
    let s2 = outputs_whole c.in_ok-reader.ensures.0 c.args.text.now c.in_ok-outputs.outputs o.0 _ o.1 o.2 in
    let s3 = trees_on c.in_ok-reader.ensures.0 c.args.text.now o.0 c.in_ok-trees.trees _ _ s2 c.in_ok-trees.ensures.ok.0 c.in_ok-trees.ensures.ok.1 in
    let t = c.in_ok-of_trees.ensures c.in_ok-reader.ensures.0 c.args.text.now o.0 [] o.1 s3 o.3 in
    let s4 = trees_whole c.in_ok-reader.ensures.0 c.args.text.now o.0 c.in_ok-trees.trees t.0 _ t.1 t.2 in
    let s5 = hedges_on c.in_ok-reader.ensures.0 c.args.text.now o.0 (map tree_of t.0) c.in_ok-hedges.hedges _ _ s4 c.in_ok-hedges.ensures.ok.0 c.in_ok-hedges.ensures.ok.1 in
    let h = c.in_ok-told.ensures c.in_ok-reader.ensures.0 c.args.text.now o.0 (map tree_of t.0) o.1 s5 t.3 in
    let s6 = hedges_whole c.in_ok-reader.ensures.0 c.args.text.now o.0 (map tree_of t.0) c.in_ok-hedges.hedges h.0 _ h.1 h.2 in
    same_error (λ e. IsUnread c.args.text.now e) c.from_residual-in_err-end.result c.in_err-end.field-0.0 c.from_residual-in_err-end.ensures.1
    (end_fault c.in_ok-reader.ensures.0 c.args.text.now o.0 (map tree_of t.0) (map hedge_of h.0) _ c.in_err-end.field-0.0 s6 c.in_err-end.ensures)

pub returns-clause-ok : goal.returns-clause-ok
returns-clause-ok c =
    let s1 = outputs_on c.in_ok-reader.ensures.0 c.args.text.now c.in_ok-outputs.outputs _ _ c.in_ok-reader.ensures.1 c.in_ok-outputs.ensures.ok.0 c.in_ok-outputs.ensures.ok.1 in
    let o = c.in_ok-of_outputs.ensures c.in_ok-reader.ensures.0 c.args.text.now (sizes_of c.args.ranges) refl s1 in
    let s2 = outputs_whole c.in_ok-reader.ensures.0 c.args.text.now c.in_ok-outputs.outputs o.0 _ o.1 o.2 in
    let s3 = trees_on c.in_ok-reader.ensures.0 c.args.text.now o.0 c.in_ok-trees.trees _ _ s2 c.in_ok-trees.ensures.ok.0 c.in_ok-trees.ensures.ok.1 in
    let t = c.in_ok-of_trees.ensures c.in_ok-reader.ensures.0 c.args.text.now o.0 [] o.1 s3 o.3 in
    let s4 = trees_whole c.in_ok-reader.ensures.0 c.args.text.now o.0 c.in_ok-trees.trees t.0 _ t.1 t.2 in
    let s5 = hedges_on c.in_ok-reader.ensures.0 c.args.text.now o.0 (map tree_of t.0) c.in_ok-hedges.hedges _ _ s4 c.in_ok-hedges.ensures.ok.0 c.in_ok-hedges.ensures.ok.1 in
    let h = c.in_ok-told.ensures c.in_ok-reader.ensures.0 c.args.text.now o.0 (map tree_of t.0) o.1 s5 t.3 in
    let s6 = hedges_whole c.in_ok-reader.ensures.0 c.args.text.now o.0 (map tree_of t.0) c.in_ok-hedges.hedges h.0 _ h.1 h.2 in
    (record { outputs = o.0; trees = map tree_of t.0; hedges = map hedge_of h.0 }, whole_text c.in_ok-reader.ensures.0 c.args.text.now o.0 (map tree_of t.0) (map hedge_of h.0) _ s6 c.in_ok-end.ensures, h.3)

pub returns-in_err-reader-clause-ok : goal.returns-in_err-reader-clause-ok
returns-in_err-reader-clause-ok c = no_value c.from_residual.result _ _ c.from_residual.ensures.1

pub returns-in_err-outputs-clause-ok : goal.returns-in_err-outputs-clause-ok
returns-in_err-outputs-clause-ok c = no_value c.from_residual-in_err-outputs.result _ _ c.from_residual-in_err-outputs.ensures.1

pub returns-in_err-of_outputs-clause-ok : goal.returns-in_err-of_outputs-clause-ok
returns-in_err-of_outputs-clause-ok c = no_value c.from_residual-in_err-of_outputs.result _ _ c.from_residual-in_err-of_outputs.ensures.1

pub returns-in_err-trees-clause-ok : goal.returns-in_err-trees-clause-ok
returns-in_err-trees-clause-ok c = no_value c.from_residual-in_err-trees.result _ _ c.from_residual-in_err-trees.ensures.1

pub returns-in_err-of_trees-clause-ok : goal.returns-in_err-of_trees-clause-ok
returns-in_err-of_trees-clause-ok c = no_value c.from_residual-in_err-of_trees.result _ _ c.from_residual-in_err-of_trees.ensures.1

pub returns-in_err-hedges-clause-ok : goal.returns-in_err-hedges-clause-ok
returns-in_err-hedges-clause-ok c = no_value c.from_residual-in_err-hedges.result _ _ c.from_residual-in_err-hedges.ensures.1

pub returns-in_err-told-clause-ok : goal.returns-in_err-told-clause-ok
returns-in_err-told-clause-ok c = no_value c.from_residual-in_err-told.result _ _ c.from_residual-in_err-told.ensures.1

pub returns-in_err-end-clause-ok : goal.returns-in_err-end-clause-ok
returns-in_err-end-clause-ok c = no_value c.from_residual-in_err-end.result _ _ c.from_residual-in_err-end.ensures.1

pub new-requires : goal.new-requires
new-requires c = c.requires
