use Rattle.std.proofs.Common.{◌∙◌, Option, Some, IfSome}
use Rattle.std.proofs.lemmas.List.{length-set}
use Rattle.std.proofs.lemmas.List.Elements.{All-set}
use Rattle.tc_model.specs.Views.{name}
use Rattle.tc_beh.specs.Named.{IsSymbol}
use Rattle.tc_beh.specs.declared.symbols.Named.{Named}
use Rattle.tc_beh.proofs.symbols.add_name.Goals as goal

pub returns : goal.returns
returns c = record {
  places = length-set c.args.names.now.items c.place_of_name.result (Some (record { name = c.args.name.now; sym = c.sym_of-sym.result })) ∙ c.requires.places;
  named = All-set (λ (o : Option Named). IfSome o (λ k. IsSymbol c.args.alphabet.now (name k.name) k.sym.0)) c.args.names.now.items c.place_of_name.result (Some (record { name = c.args.name.now; sym = c.sym_of-sym.result }))
      (record { symbol = c.sym_of-sym.ensures.symbol; below = c.sym_of-sym.ensures.below }) c.requires.named;
}
