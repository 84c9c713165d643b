use Rattle.std.proofs.Common.{◌<◌, ◌+◌, ◌∙◌, ap, sym, arith, length}
use Rattle.std.proofs.lemmas.List.{length-set}
use Rattle.tc_model.specs.Views as see
use Rattle.tc_model.specs.Symbols.{symbol_count, symbol_of}
use Rattle.tc_steps.specs.declared.levels.Level.{Level}
use Rattle.tc_steps.proofs.OpenLaws.{start_within}
use Rattle.tc_steps.proofs.validity.Validity.start.Goals as goal

pub returns-clause-within : goal.returns-clause-within
returns-clause-within c = λ x path run w.
    let mid = c.end_text.new.self in
    let name = see.name c.args.name.now in
    let level : Level = record { symbol = c.symbol-symbol.result; states = c.enter.new.states } in
    let now = c.end_text.ensures.within x path run w in
    let right = c.symbol-symbol.ensures.right x now.right in
    let room = c.end_text.ensures.room in
    let depth = c.end_text.ensures.depth in
    let free = c.requires in
    let low : mid.depth < length mid.levels.items = omega (arith, room, depth, free) in
    let symbol = c.symbol-symbol.ensures.symbol in
    start_within name level now right c.symbol-symbol.ensures.alphabet c.symbol-symbol.ensures.stays low symbol c.symbol-symbol.ensures.known
    (c.enter.ensures.led x name right c.symbol-symbol.ensures.known (symbol ∙ ap (λ s. symbol_of s name) (sym c.symbol-symbol.ensures.alphabet)))

pub index_mut-level-requires : goal.index_mut-level-requires
index_mut-level-requires c = omega (arith, c.end_text.ensures.room, c.end_text.ensures.depth, c.requires)

pub enter-requires-clause-symbol : goal.enter-requires-clause-symbol
enter-requires-clause-symbol c = omega (arith, c.symbol-symbol.ensures.below, ap symbol_count c.symbol-symbol.ensures.alphabet)

pub returns-clause-room : goal.returns-clause-room
returns-clause-room c = length-set _ _ _ ∙ c.end_text.ensures.room

pub returns-clause-depth : goal.returns-clause-depth
returns-clause-depth c = ap (λ d. d + 1) c.end_text.ensures.depth
