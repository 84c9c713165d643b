-- Names whose symbols are remembered.
use Rattle.std.specs.Prelude.{◌≡◌, List, All, IfSome}
use Rattle.tc_alpha.specs.declared.alphabet.Sym.{Sym}
use Rattle.tc_model.specs.Symbols.{Mention, symbol_of}
use Rattle.tc_steps.specs.declared.known_symbols.KnownSymbols.{KnownSymbols}
use Rattle.tc_steps.specs.declared.known_symbols.Place.{Place}

-- the symbol that is kept is that of the name
abbrev pub IsRight : List Mention → Place → Type 0
IsRight symbols p = IfSome p.symbol (λ (s : Sym). s.0 ≡ symbol_of symbols (record { uri = p.uri.items; local = p.local.items }))

-- all that is remembered is so
abbrev pub AreRemembered : List Mention → KnownSymbols → Type 0
AreRemembered symbols known = All (IsRight symbols) known.places.items
