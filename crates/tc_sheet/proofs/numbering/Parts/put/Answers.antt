use Rattle.std.proofs.Common.{◌≡◌, map}
use Rattle.std.proofs.lemmas.Result.{MatchResult-weaker}
use Rattle.tc_model.specs.SheetText.{mode_number, one_name}
use Rattle.tc_model.specs.Views as see
use Rattle.tc_sheet.specs.Numbers.{bodies, body_with, numbered_template}
use Rattle.tc_sheet.specs.SeenCalls.{names_seen}
use Rattle.tc_sheet.specs.Views.{template}
use Rattle.tc_sheet.specs.declared.faults.SheetFault.TheVariants.{NoMemory}
use Rattle.tc_sheet.proofs.PutLaws.{rules_put, named_put}
use Rattle.tc_sheet.proofs.Passed.{passed_on}
use Rattle.tc_sheet.proofs.numbering.Parts.put.Goals as goal

pub returns-in_err-body : goal.returns-in_err-body
returns-in_err-body c = passed_on _ (λ e. e ≡ NoMemory) c.from_residual.result c.in_err-body.field-0.0 c.from_residual.ensures.1 c.in_err-body.ensures

pub returns-in_err-mode : goal.returns-in_err-mode
returns-in_err-mode c = passed_on _ (λ e. e ≡ NoMemory) c.from_residual-in_err-mode.result c.in_err-mode.field-0.0 c.from_residual-in_err-mode.ensures.1 c.in_err-mode.ensures.no

pub returns-in_err-put_rules : goal.returns-in_err-put_rules
returns-in_err-put_rules c = passed_on _ (λ e. e ≡ NoMemory) c.from_residual-in_err-put_rules.result c.in_err-put_rules.field-0.0 c.from_residual-in_err-put_rules.ensures.1 c.in_err-put_rules.ensures.no

pub returns : goal.returns
returns c =
    let modes = names_seen c.args.tables.now.modes.now in
    let names = names_seen c.args.tables.now.names.now in
    let t = template c.args.template.now in
    let old = c.args.self.now in
    let b = see.body c.in_ok-body.body.now in
    let d = body_with modes names (numbered_template old.in_rules old.others t) in
    MatchResult-weaker c.put_named.result c.put_named.ensures
    (λ _ put. record {
      rules =
          rules_put (map see.rule old.rules.items) (map see.rule c.put_rules.new.rules.items) c.in_ok-mode.mode (mode_number modes names t.mode) b d t.alternatives c.in_ok-put_rules.ensures.ok c.in_ok-mode.ensures.ok
          c.in_ok-body.ensures.is_body;
      named = named_put (bodies old.named.items) (bodies c.put_named.new.named.items) b d (one_name t.name) put c.in_ok-body.ensures.is_body;
      counted_rules = c.in_ok-body.ensures.counted_rules;
      counted_others = c.in_ok-body.ensures.counted_others;
    })
    (λ e no. no)
