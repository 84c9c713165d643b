use Rattle.std.proofs.Common.{sym, subst}
use Rattle.tc_mat.specs.Held.{Held}
use Rattle.tc_beh.specs.Held.{Extends}
use Rattle.tc_beh.proofs.Holding.{extends_self}
use Rattle.tc_tests_engine.proofs.Keeping.{kept_on}
use Rattle.tc_tests_engine.proofs.rows.is_fine.Goals as goal

pub returns-in-Some : goal.returns-in-Some
returns-in-Some c =
    let old = c.args.rows.now in
    let put = c.root_ok.ensures in
    kept_on old c.root_ok.new.self c.args.hedges.now.items c.args.trees.now.items c.requires put.rows put.same (subst (λ (h : Held). Extends old.outputs h) (sym put.outputs) (extends_self old.outputs))
