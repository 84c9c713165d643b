use Rattle.std.proofs.Common.{ap, ◌∙◌}
use Rattle.tc_model.specs.Grammars.{NameClass, in_class}
use Rattle.tc_model.specs.Views.{name}
use Rattle.tc_auto.proofs.Totals.{allowed}
use Rattle.tc_auto.proofs.auto.Auto.allows.Goals as goal

pub returns : goal.returns
returns c = λ side x st e at. c.is_in_class.ensures ∙ ap (λ (w : NameClass). in_class w (name c.args.name.now)) (allowed side x c.args.self.now st c.args.number e _ at)
