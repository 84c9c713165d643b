use Rattle.std.proofs.Common.{◌∙◌}
use Rattle.tc_rules.specs.Rows.{words}
use Rattle.tc_rules.specs.Words.{bit}
use Rattle.tc_rules.proofs.RowStates.{ends_told}
use Rattle.tc_rules.proofs.rows.Row.ends.Goals as goal

pub returns : goal.returns
returns c =
    c.are_all.ensures
    ∙ ends_told (bit (words c.args.self.now)) (bit (words c.args.fits.now)) (bit (words c.args.marked.now)) c.args.ends.now c.args.alternative c.has_last-here.result c.has_last-fit.result c.has_last-holds.result c.has_last-here.ensures c.has_last-fit.ensures c.has_last-holds.ensures
