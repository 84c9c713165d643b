use Rattle.std.proofs.Common.{◌∙◌, sym, subst}
use Rattle.tc_beh.specs.Stands.{IsRulesIn}
use Rattle.tc_close.specs.RowState.{held_of}
use Rattle.tc_close.proofs.OnceLaws.{none_known}
use Rattle.tc_close.proofs.once.OnceRows.new.Goals as goal

pub of-requires : goal.of-requires
of-requires g c = let (x, o) = c.requires.some in (x, c.requires.machine x o)

pub of-requires-2 : goal.of-requires-2
of-requires-2 g c = let (x, o) = c.requires.some in (x, subst (IsRulesIn x) (sym c.rules.ensures) (c.requires.machine x o).parts.are_rules)

pub invariant_of-result : goal.invariant_of-result
invariant_of-result g c =
    let (x, o) = c.requires.some in
    record {
      some = c.requires.some;
      count = (c.in_ok-alike.ensures x (c.requires.machine x o)).count ∙ sym (c.output_count-outputs.ensures.known.symbols x o);
      alike = λ y p. c.in_ok-alike.ensures y (c.requires.machine y p);
      free = λ y p. c.in_ok-free.ensures y (subst (IsRulesIn y) (sym c.rules.ensures) (c.requires.machine y p).parts.are_rules);
      known = none_known (held_of g.K.Over.is_of c.in_ok-rows.rows) c.in_ok-wraps.wraps c.in_ok-wraps.ensures;
    }
