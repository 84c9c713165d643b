use Rattle.std.proofs.Common.{rules}
use Rattle.tc_close.specs.LookFree.{IsFreeSymbol}
use Rattle.tc_close.proofs.LookFree.{symbol_next}
use Rattle.tc_close.proofs.look_free.FreeSymbols.learn.Goals as goal

pub returns-in-Some-None : goal.returns-in-Some-None
returns-in-Some-None c = λ x is are. record {
  bodies = are.bodies;
  known = symbol_next (IsFreeSymbol x) c.args.self.now.known.items c.args.symbol c.is_symbol_free.result (search rules) are.known (λ e. c.is_symbol_free.ensures e x is are.bodies (c.requires.symbol x is));
}
