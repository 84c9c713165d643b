use Rattle.std.specs.List.{AllWithin}
use Rattle.tc_model.specs.CertificateFits.{OutputFits, TreeFits, HedgeFits}
use Rattle.tc_verify.specs.Fits.{shape_sizes}
use Rattle.tc_verify.proofs.fit.first_unfit.Given as goal

abbrev pub invariant-loop-output : goal.invariant-loop-output
invariant-loop-output l = AllWithin (OutputFits (shape_sizes l.shape) l.cert) l.cert.outputs 0 l.output

abbrev pub invariant-loop-tree : goal.invariant-loop-tree
invariant-loop-tree l = AllWithin (TreeFits (shape_sizes l.shape) l.cert) l.cert.trees 0 l.tree

abbrev pub invariant-loop-hedge : goal.invariant-loop-hedge
invariant-loop-hedge l = AllWithin (HedgeFits (shape_sizes l.shape) l.cert) l.cert.hedges 0 l.hedge
