use Rattle.std.proofs.Common.{◌≡◌, ◌<◌, List, Option, subst, sym}
use Rattle.tc_model.specs.Symbols.{Mention, symbol_of, symbol_count}
use Rattle.tc_model.specs.Views as see
use Rattle.tc_beh.specs.Named.{AreNamed}
use Rattle.tc_beh.specs.declared.symbols.Named.{Named}
use Rattle.tc_beh.proofs.symbols.Symbols.sym_of.Goals as goal

pub returns-in-Some-clause-symbol : goal.returns-in-Some-clause-symbol
returns-in-Some-clause-symbol c =
    subst (λ (symbols : List Mention). c.in-Some.sym.0 ≡ symbol_of symbols (see.name c.args.name.now)) c.self.view_is (c.in-Some.ensures c.self.inside.alphabet (subst (λ (ns : List (Option Named)). AreNamed c.self.inside.alphabet ns) (sym c.deref.ensures.value) c.self.invariant)).symbol

pub returns-in-Some-clause-below : goal.returns-in-Some-clause-below
returns-in-Some-clause-below c = subst (λ (symbols : List Mention). c.in-Some.sym.0 < symbol_count symbols) c.self.view_is (c.in-Some.ensures c.self.inside.alphabet (subst (λ (ns : List (Option Named)). AreNamed c.self.inside.alphabet ns) (sym c.deref.ensures.value) c.self.invariant)).below
