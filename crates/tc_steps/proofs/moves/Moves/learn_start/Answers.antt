use Rattle.std.proofs.Common.{◌∙◌, ap, refl, sym}
use Rattle.tc_model.specs.Symbols.{symbol_of}
use Rattle.tc_model.specs.Trees.{none}
use Rattle.tc_model.specs.Views as see
use Rattle.tc_steps.specs.declared.moves.Moves.{Moves}
use Rattle.tc_steps.specs.declared.moves.Opened.{Opened}
use Rattle.tc_steps.proofs.MovingLaws.{element_begun, keeps_grown, keeps_remembered, opened_moved}
use Rattle.tc_steps.proofs.moves.Moves.learn_start.Goals as goal

pub returns-clause-keeps : goal.returns-clause-keeps
returns-clause-keeps c = λ x right.
    let name = see.name c.args.name in
    let mid : Moves = record c.args.self.now { steps = c.symbol-symbol.new.self; sets = c.keep.new.self } in
    let opened : Opened = record { symbol = c.symbol-symbol.result; states = c.in_ok-states.states } in
    let for_it = c.symbol-symbol.ensures.right x right.right in
    let known = c.symbol-symbol.ensures.known in
    let symbol = c.symbol-symbol.ensures.symbol ∙ ap (λ s. symbol_of s name) (sym c.symbol-symbol.ensures.alphabet) in
    let begun = element_begun x mid name opened c.enter.new.states symbol known c.in_ok-states.ensures.states (c.enter.ensures.led x name for_it known symbol) in
    keeps_remembered x c.args.self.now mid c.remember_name.new.self c.remember_name.ensures.steps c.remember_name.ensures.sets (λ r. c.remember_name.ensures.right x r begun)
    (keeps_grown x c.args.self.now mid for_it c.symbol-symbol.ensures.alphabet c.symbol-symbol.ensures.stays c.in_ok-states.ensures.grown refl refl right)

pub returns-clause-element : goal.returns-clause-element
returns-clause-element c = λ x right.
    let name = see.name c.args.name in
    let mid : Moves = record c.args.self.now { steps = c.symbol-symbol.new.self; sets = c.keep.new.self } in
    let opened : Opened = record { symbol = c.symbol-symbol.result; states = c.in_ok-states.states } in
    let for_it = c.symbol-symbol.ensures.right x right.right in
    let known = c.symbol-symbol.ensures.known in
    let symbol = c.symbol-symbol.ensures.symbol ∙ ap (λ s. symbol_of s name) (sym c.symbol-symbol.ensures.alphabet) in
    let begun = element_begun x mid name opened c.enter.new.states symbol known c.in_ok-states.ensures.states (c.enter.ensures.led x name for_it known symbol) in
    opened_moved x mid c.remember_name.new.self name none opened c.remember_name.ensures.sets c.remember_name.ensures.steps begun
