use Rattle.std.proofs.Common.{option_map}
use Rattle.tc_graph.proofs.Tops.{on_ok}
use Rattle.tc_model.specs.Views.{name}
use Rattle.tc_model.specs.SheetText.{one_name, modes_in_body}
use Rattle.tc_sheet.specs.Views.{body}
use Rattle.tc_sheet.specs.SeenCalls.{names_seen}
use Rattle.tc_sheet.proofs.TableKeys.{modes_of_template}
use Rattle.tc_sheet.proofs.tables.put_modes_of_template.Goals as goal

pub returns-clause-ok : goal.returns-clause-ok
returns-clause-ok c =
    on_ok c.put_modes.result
    (modes_of_template (names_seen c.args.modes.now) (names_seen c.put_mode.new.modes) (names_seen c.put_modes.new.modes) (one_name (option_map name c.args.template.now.mode)) (modes_in_body (body c.args.template.now.body.now))
    c.in_ok-put_mode.ensures.ok)
    c.put_modes.ensures.ok
