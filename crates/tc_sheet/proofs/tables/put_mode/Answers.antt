use Rattle.std.proofs.Common.{◌∙◌, ap, sym, option_map}
use Rattle.tc_model.specs.Views.{name}
use Rattle.tc_model.specs.SheetText.{one_name}
use Rattle.tc_sheet.specs.SeenCalls.{names_seen}
use Rattle.tc_sheet.specs.Tables.{puts}
use Rattle.tc_sheet.proofs.TableKeys.{put_key}
use Rattle.tc_sheet.proofs.tables.put_mode.Goals as goal

pub returns-in_ok-insert-clause-ok : goal.returns-in_ok-insert-clause-ok
returns-in_ok-insert-clause-ok c =
    put_key c.in-Some.name c.args.modes.now.keys c.insert.new.self.keys c.in_ok-insert.ensures.keys
    ∙ ap (λ o. puts (names_seen c.args.modes.now) (one_name (option_map name o))) (sym c.in-Some.is)

pub returns-in_ok-insert-clause-no : goal.returns-in_ok-insert-clause-no
returns-in_ok-insert-clause-no c = tt
