use Rattle.std.proofs.Common.{◌∙◌, ap}
use Rattle.tc_rules.specs.Rows.{all_words}
use Rattle.tc_rules.proofs.SameRows.{row_put, row_stored, row_last}
use Rattle.tc_rules.proofs.graph.insert_row.Goals as goal

pub returns-clause-keys : goal.returns-clause-keys
returns-clause-keys c = ap all_words c.in_ok-at.ensures.keys ∙ row_put c.args.rows.now.keys c.args.row

pub returns-clause-place : goal.returns-clause-place
returns-clause-place c = row_stored c.args.row c.insert_full.new.self.keys _ c.in_ok-at.ensures.stored

pub returns-clause-last : goal.returns-clause-last
returns-clause-last c = row_last c.args.row c.args.rows.now.keys _ c.in_ok-at.ensures.index
