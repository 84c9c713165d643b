use Rattle.std.proofs.Common.{arith}
use Rattle.tc_model.specs.Chains.{top}
use Rattle.tc_model.specs.Machine.{in_mode}
use Rattle.tc_model.specs.Paths.{fits}
use Rattle.tc_model.specs.Trees.{none}
use Rattle.tc_rules.specs.Asked.{found}
use Rattle.tc_rules.specs.Kept.{told}
use Rattle.tc_rules.specs.States.{body_of_root}
use Rattle.tc_rows.specs.Triples.{sheet, predicates}
use Rattle.tc_beh.specs.Places.{kind_of}
use Rattle.tc_beh.specs.Templates.{depth_of, depth_of_sheet}
use Rattle.tc_beh.proofs.OpenLaws.{open_less}
use Rattle.tc_beh.proofs.Meant.{rule_low}
use Rattle.tc_beh.proofs.Rooted.{root_meant}
use Rattle.tc_beh.proofs.root.put_on_root.Goals as goal

pub root_rule-found-requires : goal.root_rule-found-requires
root_rule-found-requires c = let (x, is) = c.requires.place in let some = is.place.rules.rules.tells.well_formed.modes in omega (arith, some)

pub template_of-template-requires-clause-mode : goal.template_of-template-requires-clause-mode
template_of-template-requires-clause-mode c = let (x, is) = c.requires.place in let some = is.place.rules.rules.tells.well_formed.modes in omega (arith, some)

pub template_of-template-requires-clause-found : goal.template_of-template-requires-clause-found
template_of-template-requires-clause-found c =
    let r = c.args.place.now.rules.now in
    let (x, is) = c.requires.place in
    rule_low (told r).sheet.rules 0 (λ i q. fits q.pattern (top none)) (found c.root_rule-found.result) (c.root_rule-found.ensures x.symbols is.place.rules.rules)

pub returns-clause-pairs : goal.returns-clause-pairs
returns-clause-pairs c = λ x is called.
    let r = c.args.place.now.rules.now in
    c.put_template.ensures.pairs x (body_of_root x.symbols (predicates x) (sheet x).rules x.bodies (in_mode 0)) is called
    (root_meant x r is.place.rules (found c.root_rule-found.result) c.template_of-template.result (kind_of c.args.place.now.node) c.requires.root (c.root_rule-found.ensures x.symbols is.place.rules.rules)
    (λ own y e. c.template_of-template.ensures.meant x own y is.place.rules e))

pub put_template-requires-clause-sets : goal.put_template-requires-clause-sets
put_template-requires-clause-sets c =
    open_less c.args.place.now (depth_of c.template_of-template.result) (depth_of_sheet (told c.args.place.now.rules.now).sheet) c.args.sets.now c.requires.sets c.template_of-template.ensures.depth
