use Rattle.std.proofs.Common.{sym, subst}
use Rattle.tc_model.specs.Views as see
use Rattle.tc_model.specs.Sheets.{Sheet}
use Rattle.tc_model.specs.Safety.{IsResultOf}
use Rattle.tc_model.specs.WellFormed.{IsSheet}
use Rattle.tc_dead.specs.Views.{seen}
use Rattle.tc_dead.proofs.LawfulMarks.{lawful_sheet}
use Rattle.tc_dead.proofs.MarkSteps.{made_so}
use Rattle.tc_dead.proofs.Walks.{tells}
use Rattle.tc_dead.proofs.marking.marked.Goals as goal

pub returns-clause-made : goal.returns-clause-made
returns-clause-made c =
    let made = made_so (seen c.args.spot) c.args.sheet.now c.marked_rules.new.next c.marked_named.new.next c.in_ok-rules.rules c.in_ok-named.named c.in_ok-rules.ensures c.in_ok-named.ensures in
    (made, subst IsSheet (sym made) (lawful_sheet (see.sheet c.args.sheet.now) (seen c.args.spot) c.requires.sheet))

pub returns-clause-tells : goal.returns-clause-tells
returns-clause-tells c =
    let made = made_so (seen c.args.spot) c.args.sheet.now c.marked_rules.new.next c.marked_named.new.next c.in_ok-rules.rules c.in_ok-named.named c.in_ok-rules.ensures c.in_ok-named.ensures in
    λ d out r. tells (see.sheet c.args.sheet.now) (seen c.args.spot) c.requires.sheet d out (subst (λ (z : Sheet). IsResultOf z d out) made r)
