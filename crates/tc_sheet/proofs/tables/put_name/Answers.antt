use Rattle.std.proofs.Common.{ap, option_map, refl}
use Rattle.tc_model.specs.Views.{name}
use Rattle.tc_sheet.proofs.TableKeys.{is_there, keeps_distinct}
use Rattle.tc_sheet.proofs.tables.put_name.Goals as goal

pub returns-then-not-is_new-clause-no : goal.returns-then-not-is_new-clause-no
returns-then-not-is_new-clause-no c = (
  refl,
  (name c.in-Some.name, ap (option_map name) c.in-Some.is, is_there c.in-Some.name c.args.names.now.keys c.in_ok-is_new.is_new c.in_ok-is_new.ensures.added c.if-not-is_new.true),
)

pub returns-else-not-is_new-clause-once : goal.returns-else-not-is_new-clause-once
returns-else-not-is_new-clause-once c = λ d.
    keeps_distinct c.in-Some.name c.args.names.now.keys c.insert.new.self.keys c.in_ok-is_new.is_new c.in_ok-is_new.ensures.keys c.in_ok-is_new.ensures.added c.if-not-is_new.false d

pub returns-then-not-is_new-clause-ok : goal.returns-then-not-is_new-clause-ok
returns-then-not-is_new-clause-ok c = tt

pub returns-then-not-is_new-clause-once : goal.returns-then-not-is_new-clause-once
returns-then-not-is_new-clause-once c = λ _. tt

pub returns-else-not-is_new-clause-no : goal.returns-else-not-is_new-clause-no
returns-else-not-is_new-clause-no c = tt
