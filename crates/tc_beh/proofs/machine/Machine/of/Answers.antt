use Rattle.std.proofs.Common.{◌≡◌, List, max, ap, ◌∙◌, sym, subst, arith}
use Rattle.tc_model.specs.Sheets.{Sheet}
use Rattle.tc_model.specs.Symbols.{Mention}
use Rattle.tc_rows.specs.Triples.{sheet}
use Rattle.tc_beh.specs.Heights.{deepest, deepest_rule}
use Rattle.tc_beh.proofs.Sizes.{handed_on, sheet_is}
use Rattle.tc_beh.specs.Machines.{AreParts, IsMachineCause}
use Rattle.tc_beh.specs.Stands.{IsRulesIn}
use Rattle.tc_rows.specs.Triples.{Triple}
use Rattle.tc_beh.proofs.Steps.{no_value, not_done}
use Rattle.tc_beh.proofs.machine.Machine.of.Goals as goal

pub order_of-requires : goal.order_of-requires
order_of-requires c =
    let (x, p) = c.requires in
    (x, p.are_rules)

pub returns-in_err-order-clause-cause : goal.returns-in_err-order-clause-cause
returns-in_err-order-clause-cause c =
    handed_on c.from_residual.result c.in_err-order.field-0.0 (λ e. (x : Triple) → IsRulesIn x c.args.rules → IsMachineCause x e)
    (λ e. (x : Triple) → AreParts x c.args.input c.args.output c.args.rules c.args.alphabet → IsMachineCause x e) c.from_residual.ensures.1 (λ e k x p. k x p.are_rules) c.in_err-order.ensures.cause

pub returns-clause-stands : goal.returns-clause-stands
returns-clause-stands c = λ x p.
    let depth : c.depth_of_sheet-depth.result ≡ max (deepest_rule (sheet x).rules) (deepest (sheet x).named) =
    c.depth_of_sheet-depth.ensures ∙ ap (λ (s : Sheet). max (deepest_rule s.rules) (deepest s.named)) (sheet_is x c.args.rules c.sheet.result.now p.are_rules c.sheet.ensures) in
    let shallow = c.in_ok-order.ensures.shallow x p.are_rules in
    record {
      parts = subst (λ (symbols : List Mention). AreParts x c.args.input c.args.output c.args.rules symbols) (sym c.in-Ok.ensures) p;
      limits = c.in_ok-order.ensures.within x p.are_rules;
      order = c.in_ok-order.ensures.order x p.are_rules;
      depth = depth;
      shallow = omega (arith, depth, shallow);
    }

pub returns-clause-within : goal.returns-clause-within
returns-clause-within c = λ x p. c.in_ok-order.ensures.within x p.are_rules

pub returns-in_err-order-clause-stands : goal.returns-in_err-order-clause-stands
returns-in_err-order-clause-stands c = no_value c.from_residual.result _ _ c.from_residual.ensures.1

pub returns-in_err-order-clause-within : goal.returns-in_err-order-clause-within
returns-in_err-order-clause-within c = not_done c.from_residual.result _ _ c.from_residual.ensures.1
