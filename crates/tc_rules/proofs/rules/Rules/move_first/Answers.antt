use Rattle.std.proofs.Common.{◌≡◌, ap, ◌∙◌, List, Some, slice_get, subst}
use Rattle.std.specs.Prelude.{Contains}
use Rattle.tc_model.specs.Numberings as n
use Rattle.tc_model.specs.Views as see
use Rattle.tc_rules.specs.Views.{mode_of, moves}
use Rattle.tc_rules.specs.declared.walk.Move.{Move}
use Rattle.tc_rules.proofs.Counted.{move_first_told}
use Rattle.tc_rules.proofs.rules.Rules.move_first.Goals as goal

pub returns : goal.returns
returns c = λ symbols h.
    let modes = c.args.self.now.sheet.modes in
    let m : n.Move = record { path = see.path c.args.path.now; mode = mode_of modes c.args.job } in
    let i = c.move_number-number.result in
    move_first_told symbols c.args.self.now h m i _ c.requires
    (subst (λ (w : List Move). Contains (moves modes w) m → slice_get (moves modes w) i ≡ Some m) c.deref.ensures.value c.move_number-number.ensures) c.first_of.ensures
