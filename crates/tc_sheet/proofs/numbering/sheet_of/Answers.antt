use Rattle.std.proofs.Common.{◌≡◌, ◌+◌, ◌++◌, ◌∙◌, ap, arith, get_or, length, map, flat_map}
use Rattle.std.proofs.lemmas.List.{length-map}
use Rattle.tc_model.specs.Views as see
use Rattle.tc_model.specs.SheetText as model
use Rattle.tc_sheet.specs.Numbers.{bodies, numbered_template}
use Rattle.tc_sheet.specs.Views.{template}
use Rattle.tc_sheet.specs.SeenCalls.{names_seen}
use Rattle.tc_sheet.proofs.NumberLaws.{all_counted, named_are, numbers_end, numbers_step, others_end, others_of, others_step, rules_are}
use Rattle.tc_sheet.proofs.TableKeys.{blank}
use Rattle.tc_sheet.proofs.numbering.sheet_of.Goals as goal

pub loop-template-init : goal.loop-template-init
loop-template-init c =
    let ts = map template c.args.templates.now in
    record {
      rules =
          ap (λ z. map see.rule z ++ flat_map (model.rules_of ts) (model.first_eaches 0 c.in_ok-others.others ts)) c.new.ensures.items
          ∙ ap (λ n. flat_map (model.rules_of ts) (model.first_eaches 0 n ts)) c.in_ok-others.ensures.ok;
      named =
          ap (λ z. bodies z ++ flat_map (model.named_of ts) (model.first_eaches 0 c.in_ok-others.others ts)) c.new-2.ensures.items
          ∙ ap (λ n. flat_map (model.named_of ts) (model.first_eaches 0 n ts)) c.in_ok-others.ensures.ok;
      others = ap (λ n. n + others_of ts) c.in_ok-others.ensures.ok ∙ all_counted ts;
    }

pub loop-template-preserved : goal.loop-template-preserved
loop-template-preserved c =
    let ts = c.args.templates.now in
    let all = map template ts in
    let k = c.loop-template.template-index in
    let old = c.loop-template.parts in
    let new = c.put.new.self in
    let modes = names_seen c.args.tables.now.modes.now in
    let names = names_seen c.args.tables.now.names.now in
    let put = c.in_ok-put.ensures in
    record {
      rules =
          numbers_step ts k blank c.loop-template-test.true (model.rules_of all) old.in_rules old.others new.in_rules new.others (map see.rule old.rules.items) (map see.rule new.rules.items) _ put.counted_rules put.counted_others
          (rules_are modes names (model.modes_of all) (model.names_of all) c.requires.modes c.requires.names (numbered_template old.in_rules old.others (template (get_or ts k blank))) (map see.rule old.rules.items) (map see.rule new.rules.items) put.rules) c.loop-template.invariant.rules;
      named =
          numbers_step ts k blank c.loop-template-test.true (model.named_of all) old.in_rules old.others new.in_rules new.others (bodies old.named.items) (bodies new.named.items) _ put.counted_rules put.counted_others
          (named_are modes names (model.modes_of all) (model.names_of all) c.requires.modes c.requires.names (numbered_template old.in_rules old.others (template (get_or ts k blank))) (bodies old.named.items) (bodies new.named.items) put.named) c.loop-template.invariant.named;
      others = others_step ts k blank c.loop-template-test.true old.others new.others _ put.counted_others c.loop-template.invariant.others;
    }

pub returns-clause-ok : goal.returns-clause-ok
returns-clause-ok c =
    let ts = c.args.templates.now in
    let all = map template ts in
    let k = c.loop-template.template-index in
    let parts = c.loop-template.parts in
    let modes : c.finished.result.modes ≡ 1 + length (model.modes_of all) =
    omega (arith, c.finished.ensures.modes, c.in_ok-modes.ensures.ok, c.len.ensures.len, length-map c.args.tables.now.modes.now.keys see.name, ap length c.requires.modes) in
    let eaches : c.finished.result.eaches ≡ model.eaches_of all = c.finished.ensures.eaches ∙ others_end ts k parts.others (model.eaches_of all) c.loop-template-test.false c.loop-template.invariant.others in
    let rules : map see.rule c.finished.result.rules.now ≡ flat_map (model.rules_of all) (model.numbered_templates all) =
    ap (map see.rule) c.finished.ensures.rules ∙ numbers_end (model.rules_of all) ts k parts.in_rules parts.others (map see.rule parts.rules.items) _ c.loop-template-test.false c.loop-template.invariant.rules in
    let named : bodies c.finished.result.named.now ≡ flat_map (model.named_of all) (model.numbered_templates all) =
    ap bodies c.finished.ensures.named ∙ numbers_end (model.named_of all) ts k parts.in_rules parts.others (bodies parts.named.items) _ c.loop-template-test.false c.loop-template.invariant.named in
    λ i. record { modes = modes i; eaches = eaches i; rules = rules i; named = named i }

pub returns-clause-no : goal.returns-clause-no
returns-clause-no c = tt
