use Rattle.std.proofs.Common.{◌∙◌, ap, flat_map, map}
use Rattle.tc_sheet.specs.Views.{template}
use Rattle.tc_sheet.specs.SeenCalls.{names_seen}
use Rattle.tc_sheet.specs.Tables.{modes_in, puts}
use Rattle.tc_sheet.proofs.TableKeys.{modes_done, modes_more, no_keys}
use Rattle.tc_sheet.proofs.tables.modes_of.Goals as goal

pub loop-template-init : goal.loop-template-init
loop-template-init c =
    let left = flat_map modes_in (map template c.args.templates.now) in
    ap (λ z. puts (names_seen z) left) c.in_ok-modes.ensures ∙ ap (λ z. puts z left) (no_keys c.new.result.keys c.new.ensures.len)

pub loop-template-preserved : goal.loop-template-preserved
loop-template-preserved c =
    modes_more c.args.templates.now c.loop-template.template-index _ c.loop-template-test.true (names_seen c.loop-template.modes) (names_seen c.put_modes_of_template.new.modes) _
    c.in_ok-put_modes_of_template.ensures.ok c.loop-template.invariant

pub returns-clause-ok : goal.returns-clause-ok
returns-clause-ok c = modes_done c.args.templates.now c.loop-template.template-index (names_seen c.loop-template.modes) _ c.loop-template-test.false c.loop-template.invariant

pub returns-clause-no : goal.returns-clause-no
returns-clause-no c = tt
