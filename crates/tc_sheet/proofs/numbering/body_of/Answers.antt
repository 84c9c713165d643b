use Rattle.std.proofs.Common.{◌≡◌, ◌∙◌, sym}
use Rattle.tc_model.specs.Views as see
use Rattle.tc_sheet.specs.Views.{template}
use Rattle.tc_sheet.specs.SeenCalls.{names_seen}
use Rattle.tc_sheet.specs.declared.faults.SheetFault.TheVariants.{NoMemory}
use Rattle.tc_sheet.proofs.PutLaws.{numbered_in_rules, numbered_in_others}
use Rattle.tc_sheet.proofs.numbering.body_of.Goals as goal

pub returns-then-makes_rules : goal.returns-then-makes_rules
returns-then-makes_rules c =
    numbered_in_rules (names_seen c.args.tables.now.modes.now) (names_seen c.args.tables.now.names.now) (template c.args.template.now) c.args.in_rules.now c.numbered.new.next c.args.others.now c.numbered.result
    (λ r. see.body r.now) (λ e. e ≡ NoMemory) (sym c.makes_rules.ensures ∙ c.if-makes_rules.true) c.numbered.ensures

pub returns-else-makes_rules : goal.returns-else-makes_rules
returns-else-makes_rules c =
    numbered_in_others (names_seen c.args.tables.now.modes.now) (names_seen c.args.tables.now.names.now) (template c.args.template.now) c.args.in_rules.now c.args.others.now c.numbered-else-makes_rules.new.next
    c.numbered-else-makes_rules.result (λ r. see.body r.now) (λ e. e ≡ NoMemory) (sym c.makes_rules.ensures ∙ c.if-makes_rules.false) c.numbered-else-makes_rules.ensures
