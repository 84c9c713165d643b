use Rattle.std.proofs.Common.{◌<◌, ◌-◌, ◌∙◌, [], arith, length, refl}
use Rattle.std.proofs.lemmas.List.{length-set}
use Rattle.std.proofs.lemmas.Option.{slice_get_read}
use Rattle.tc_model.specs.Trees.{none, beside, kept}
use Rattle.tc_steps.specs.Open.{Open}
use Rattle.tc_steps.specs.declared.levels.Level.{Level}
use Rattle.tc_steps.proofs.OpenLaws.{root_within, element_within}
use Rattle.tc_steps.proofs.validity.Validity.end.Goals as goal

pub returns-then-self-eq0-clause-within : goal.returns-then-self-eq0-clause-within
returns-then-self-eq0-clause-within c = λ x o path run w.
    let inside = beside o.kids (kept run none) in
    let ended : Open = record { name = o.name; kids = inside } in
    root_within o.name inside (c.leave-symbol.ensures.within x ended path (c.end_text.ensures.within x _ run w)) c.if-self-eq0.true

pub returns-then-self-eq0-clause-valid : goal.returns-then-self-eq0-clause-valid
returns-then-self-eq0-clause-valid c = λ x o run w.
    let inside = beside o.kids (kept run none) in
    let ended : Open = record { name = o.name; kids = inside } in
    let now = c.end_text.ensures.within x _ run w in
    let (symbol, known, led) = c.leave-symbol.ensures.left x ended [] now in
    c.is_started-self.ensures x o.name inside (c.leave-symbol.ensures.within x ended [] now).right known symbol led

pub returns-clause-within : goal.returns-clause-within
returns-clause-within c = λ x o path run w.
    let inside = beside o.kids (kept run none) in
    let ended : Open = record { name = o.name; kids = inside } in
    let now = c.end_text.ensures.within x _ run w in
    let out = c.leave-symbol.ensures.within x ended path now in
    let (symbol, known, led) = c.leave-symbol.ensures.left x ended path now in
    let v = c.leave-symbol.new.self in
    let level = c.index_mut.result.now in
    let after : Level = record { symbol = level.symbol; states = c.pass_element.new.states } in
    let some = c.if-self-eq0.false in
    let within = v.within in
    let low : v.depth - 1 < length v.levels.items = omega (arith, some, within) in
    let at = slice_get_read v.levels.items _ (v.depth - 1) level refl low c.index_mut.ensures.value in
    element_within o.name inside level after out some c.pass_element.ensures.auto c.pass_element.ensures.alphabet c.pass_element.ensures.classes at refl
    (λ n kids h. c.pass_element.ensures.led x n o.name kids inside out.right known symbol led h)

pub returns-clause-valid : goal.returns-clause-valid
returns-clause-valid c = λ x o run w.
    let inside = beside o.kids (kept run none) in
    let ended : Open = record { name = o.name; kids = inside } in
    let out = c.leave-symbol.ensures.within x ended [] (c.end_text.ensures.within x _ run w) in
    let counted = out.counted in
    let some = c.if-self-eq0.false in
    absurd (omega (arith, counted, some))

pub leave-symbol-requires : goal.leave-symbol-requires
leave-symbol-requires c = omega (arith, c.end_text.ensures.depth, c.requires)

pub is_started-self-requires-clause-symbol : goal.is_started-self-requires-clause-symbol
is_started-self-requires-clause-symbol c = c.leave-symbol.ensures.symbol

pub is_started-self-requires-clause-ends : goal.is_started-self-requires-clause-ends
is_started-self-requires-clause-ends c = c.leave-symbol.new.self.ended_sized

pub returns-then-self-eq0-clause-room : goal.returns-then-self-eq0-clause-room
returns-then-self-eq0-clause-room c = c.leave-symbol.ensures.room ∙ c.end_text.ensures.room

pub returns-then-self-eq0-clause-depth : goal.returns-then-self-eq0-clause-depth
returns-then-self-eq0-clause-depth c = c.leave-symbol.ensures.depth ∙ c.end_text.ensures.depth

pub index_mut-requires : goal.index_mut-requires
index_mut-requires c = omega (arith, c.if-self-eq0.false, c.leave-symbol.new.self.within)

pub pass_element-requires-clause-symbol : goal.pass_element-requires-clause-symbol
pass_element-requires-clause-symbol c = c.leave-symbol.ensures.symbol

pub pass_element-requires-clause-ends : goal.pass_element-requires-clause-ends
pass_element-requires-clause-ends c = c.leave-symbol.new.self.ended_sized

pub returns-clause-room : goal.returns-clause-room
returns-clause-room c = length-set _ _ _ ∙ (c.leave-symbol.ensures.room ∙ c.end_text.ensures.room)

pub returns-clause-depth : goal.returns-clause-depth
returns-clause-depth c = c.leave-symbol.ensures.depth ∙ c.end_text.ensures.depth
