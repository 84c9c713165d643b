use Rattle.std.proofs.Common.{refl}
use Rattle.tc_verify.proofs.Made.{checker_made, hedge_rows_are, tree_rows_are}
use Rattle.tc_verify.proofs.HandedOn.{no_value}
use Rattle.tc_verify.proofs.checker.Checker.new.Goals as goal

pub returns-in-Ok : goal.returns-in-Ok
returns-in-Ok c =
    let m = c.args.machine.now in
    let cert = c.args.cert.now in
    let fit = c.requires in
    let k = c.read-read.new.self in
    let b = c.read-read.ensures.begun in
    let (h, t) = c.in-Ok.ensures.read in
    record {
      checked = checker_made m cert fit.formed fit.fit k.rows.outputs b.sets fit.machine k.rows k.hedges.items k.trees.items k.hedge_lists k.tree_lists k.new_hedge k.new_tree refl b.machine b.fixed b.stand h.count h.each t.count t.each h.held t.held b.room b.tree_room;
      machine = b.machine;
      hedges = λ x is. hedge_rows_are m cert fit.formed fit.fit k.rows.outputs b.sets k.hedges.items h.count h.each x is;
      trees = λ x is. tree_rows_are m cert fit.formed fit.fit k.rows.outputs b.sets k.trees.items t.count t.each x is;
    }

pub returns-in_err-checker : goal.returns-in_err-checker
returns-in_err-checker c = no_value c.from_residual.result _ _ c.from_residual.ensures.1
