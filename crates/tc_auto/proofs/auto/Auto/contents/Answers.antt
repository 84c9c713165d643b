use Rattle.tc_model.specs.Views.{grammar}
use Rattle.tc_model.specs.States.{input}
use Rattle.tc_model.proofs.StatesParts.{accepted_exactly}
use Rattle.tc_auto.proofs.auto.Auto.contents.Goals as goal

pub returns-clause-runs : goal.returns-clause-runs
returns-clause-runs c = λ k q h part. accepted_exactly (grammar c.args.grammar.now) input h part
