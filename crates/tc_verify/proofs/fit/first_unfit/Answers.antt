use Rattle.std.proofs.Common.{ℕ, subst, sym}
use Rattle.tc_model.specs.CertificateFits.{OutputFits, TreeFits, HedgeFits, IsFirstUnfit}
use Rattle.tc_verify.specs.Fits.{shape_sizes}
use Rattle.tc_verify.proofs.Unfit.{one_fits, first_not, all_fit_in, output_first, tree_first, hedge_first}
use Rattle.tc_verify.proofs.fit.first_unfit.Goals as goal

pub loop-output-preserved : goal.loop-output-preserved
loop-output-preserved c = one_fits (OutputFits (shape_sizes c.args.shape) c.args.cert.now) c.args.cert.now.outputs c.loop-output.output c.get.result.now c.pairs_fit.result c.loop-output.invariant c.get.ensures c.pairs_fit.ensures c.if-not-pairs_fit.false

pub returns-then-not-pairs_fit : goal.returns-then-not-pairs_fit
returns-then-not-pairs_fit c =
    subst (λ (n : ℕ). IsFirstUnfit (shape_sizes c.args.shape) c.args.cert.now n) (sym c.output_line.ensures)
    (output_first (shape_sizes c.args.shape) c.args.cert.now c.loop-output.output (first_not (OutputFits (shape_sizes c.args.shape) c.args.cert.now) c.args.cert.now.outputs c.loop-output.output c.get.result.now c.pairs_fit.result c.loop-output.invariant c.get.ensures c.pairs_fit.ensures c.if-not-pairs_fit.true))

pub loop-tree-preserved : goal.loop-tree-preserved
loop-tree-preserved c = one_fits (TreeFits (shape_sizes c.args.shape) c.args.cert.now) c.args.cert.now.trees c.loop-tree.tree c.get-in-loop-tree.result.now c.tree_fits.result c.loop-tree.invariant c.get-in-loop-tree.ensures c.tree_fits.ensures c.if-not-tree_fits.false

pub returns-then-not-tree_fits : goal.returns-then-not-tree_fits
returns-then-not-tree_fits c =
    subst (λ (n : ℕ). IsFirstUnfit (shape_sizes c.args.shape) c.args.cert.now n) (sym c.tree_line.ensures)
    (tree_first (shape_sizes c.args.shape) c.args.cert.now (all_fit_in (OutputFits (shape_sizes c.args.shape) c.args.cert.now) c.args.cert.now.outputs c.loop-output.output c.len-output-end.result c.len-output-end.ensures c.loop-output-test.false c.loop-output.invariant) c.loop-tree.tree (first_not (TreeFits (shape_sizes c.args.shape) c.args.cert.now) c.args.cert.now.trees c.loop-tree.tree c.get-in-loop-tree.result.now c.tree_fits.result c.loop-tree.invariant c.get-in-loop-tree.ensures c.tree_fits.ensures c.if-not-tree_fits.true))

pub loop-hedge-preserved : goal.loop-hedge-preserved
loop-hedge-preserved c = one_fits (HedgeFits (shape_sizes c.args.shape) c.args.cert.now) c.args.cert.now.hedges c.loop-hedge.hedge c.get-in-loop-hedge.result.now c.hedge_fits.result c.loop-hedge.invariant c.get-in-loop-hedge.ensures c.hedge_fits.ensures c.if-not-hedge_fits.false

pub returns-then-not-hedge_fits : goal.returns-then-not-hedge_fits
returns-then-not-hedge_fits c =
    subst (λ (n : ℕ). IsFirstUnfit (shape_sizes c.args.shape) c.args.cert.now n) (sym c.hedge_line.ensures)
    (hedge_first (shape_sizes c.args.shape) c.args.cert.now (all_fit_in (OutputFits (shape_sizes c.args.shape) c.args.cert.now) c.args.cert.now.outputs c.loop-output.output c.len-output-end.result c.len-output-end.ensures c.loop-output-test.false c.loop-output.invariant) (all_fit_in (TreeFits (shape_sizes c.args.shape) c.args.cert.now) c.args.cert.now.trees c.loop-tree.tree c.len-tree-end.result c.len-tree-end.ensures c.loop-tree-test.false c.loop-tree.invariant) c.loop-hedge.hedge (first_not (HedgeFits (shape_sizes c.args.shape) c.args.cert.now) c.args.cert.now.hedges c.loop-hedge.hedge c.get-in-loop-hedge.result.now c.hedge_fits.result c.loop-hedge.invariant c.get-in-loop-hedge.ensures c.hedge_fits.ensures c.if-not-hedge_fits.true))
