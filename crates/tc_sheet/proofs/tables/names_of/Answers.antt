use Rattle.tc_sheet.specs.Views.{template}
use Rattle.tc_sheet.specs.SeenCalls.{names_seen}
use Rattle.tc_sheet.specs.Tables.{IsTwice}
use Rattle.std.proofs.Common.{map, ◌++◌, ◌∙◌, ap, subst, sym}
use Rattle.std.specs.List.{IsDistinct}
use Rattle.tc_model.specs.Names.{same_name}
use Rattle.tc_model.specs.SheetTextTrees.{Template}
use Rattle.tc_model.specs.SheetText as model
use Rattle.tc_sheet.proofs.TableKeys.{again_twice, flat_end, flat_step, handed, distinct_nothing, no_keys}
use Rattle.tc_sheet.proofs.Passed.{no_value}
use Rattle.tc_sheet.proofs.tables.names_of.Goals as goal

pub loop-template-init : goal.loop-template-init
loop-template-init c = record {
  names =
      ap (λ z. names_seen z ++ model.names_of (map template c.args.templates.now)) c.in_ok-names.ensures
      ∙ ap (λ z. z ++ model.names_of (map template c.args.templates.now)) (no_keys c.new.result.keys c.new.ensures.len);
  once = subst (λ z. IsDistinct same_name (names_seen z)) (sym c.in_ok-names.ensures) (distinct_nothing c.new.result.keys c.new.ensures.len);
}

pub returns-in_err-put_name-clause-no : goal.returns-in_err-put_name-clause-no
returns-in_err-put_name-clause-no c =
    let ts = c.args.templates.now in
    let k = c.loop-template.template-index in
    handed c.from_residual-in_err-put_name.result c.in_err-put_name.field-0.0 _ (IsTwice (map template ts)) c.from_residual-in_err-put_name.ensures.1
    (again_twice ts k _ c.loop-template-test.true (names_seen c.loop-template.names) c.loop-template.invariant.once c.loop-template.invariant.names) c.in_err-put_name.ensures.no

pub loop-template-preserved : goal.loop-template-preserved
loop-template-preserved c = record {
  names =
      flat_step c.args.templates.now c.loop-template.template-index _ c.loop-template-test.true (λ (t : Template). model.one_name t.name) (names_seen c.loop-template.names) (names_seen c.put_name.new.names) _
      c.in_ok-put_name.ensures.ok c.loop-template.invariant.names;
  once = c.in_ok-put_name.ensures.once c.loop-template.invariant.once;
}

pub returns-clause-once : goal.returns-clause-once
returns-clause-once c =
    subst (IsDistinct same_name) (flat_end (λ (t : Template). model.one_name t.name) c.args.templates.now c.loop-template.template-index (names_seen c.loop-template.names) _ c.loop-template-test.false c.loop-template.invariant.names)
    c.loop-template.invariant.once

pub returns-clause-ok : goal.returns-clause-ok
returns-clause-ok c = flat_end (λ (t : Template). model.one_name t.name) c.args.templates.now c.loop-template.template-index (names_seen c.loop-template.names) _ c.loop-template-test.false c.loop-template.invariant.names

pub returns-in_err-put_name-clause-ok : goal.returns-in_err-put_name-clause-ok
returns-in_err-put_name-clause-ok c = no_value c.from_residual-in_err-put_name.result _ _ c.from_residual-in_err-put_name.ensures.1

pub returns-clause-no : goal.returns-clause-no
returns-clause-no c = tt
