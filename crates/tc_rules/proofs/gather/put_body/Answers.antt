use Rattle.std.proofs.Common.{List, ap, sym, ◌∙◌}
use Rattle.std.proofs.lemmas.List.{map-set}
use Rattle.std.specs.Borrow.{Bor}
use Rattle.tc_model.specs.Views as see
use Rattle.tc_model.specs.declared.sheet.Instr.{Instr}
use Rattle.tc_rules.specs.Gathered.{bodies, bodies_with}
use Rattle.tc_rules.specs.Usages.{eaches_in_usage}
use Rattle.tc_rules.specs.Views.{usage}
use Rattle.tc_rules.proofs.gather.put_body.Goals as goal

pub returns : goal.returns
returns c =
    map-set (λ (b : Bor (List Instr)). see.body b.now) c.args.bodies.now.items c.in-Each.number c.in-Each.body
    ∙ sym (ap (λ u. bodies_with (bodies c.args.bodies.now.items) (eaches_in_usage (usage u))) c.in-Each.is)
