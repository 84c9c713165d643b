use Rattle.std.proofs.Common.{◌≡◌, ap, ◌∙◌, List, Some, Bor, slice_get, subst, length, arith}
use Rattle.std.specs.Prelude.{Contains}
use Rattle.tc_model.specs.Views as see
use Rattle.tc_model.specs.declared.sheet.Path.{Path}
use Rattle.tc_rules.specs.Views.{looks}
use Rattle.tc_rules.proofs.Counted.{look_first_told}
use Rattle.tc_rules.proofs.rules.Rules.look_first.Goals as goal

pub returns : goal.returns
returns c = λ symbols h.
    let size : c.len.result ≡ length c.args.self.now.moves.items = omega (arith, c.len.ensures, c.args.self.now.moves.ok.0) in
    let p = see.path c.args.path.now in
    let i = c.look_number.result in
    look_first_told symbols c.args.self.now h p c.len.result i _ c.requires size
    (subst (λ (w : List (Bor Path)). Contains (looks w) p → slice_get (looks w) i ≡ Some p) c.deref.ensures.value c.look_number.ensures.number) c.first_of.ensures
