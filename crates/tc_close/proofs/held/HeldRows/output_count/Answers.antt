use Rattle.std.proofs.Common.{subst, ap, arith}
use Rattle.tc_model.specs.Symbols.{symbol_count}
use Rattle.tc_close.specs.RowState.{Known}
use Rattle.tc_close.proofs.held.HeldRows.output_count.Goals as goal

pub returns-clause-known : goal.returns-clause-known
returns-clause-known g c =
    let is = c.self.invariant.0 in
    subst (Known g.K.Over.is_of) c.self.view_is (record {
      some = is.some;
      triples = λ x o. (is.over x o).parts.are_rules.triple;
      symbols = λ x o. ap symbol_count (is.over x o).parts.same_symbols;
      good = λ x o. is.good x (is.over x o);
      hedges = c.count-hedges.ensures.different;
      trees = c.count-trees.ensures.different;
      outputs = c.output_count.ensures.different;
      few = omega (arith, c.output_count.ensures.count, c.output_count.ensures.few);
    })
