use Rattle.std.proofs.Common.{◌≡◌, ◌∙◌, ◌+◌, ◌-◌, [], ap, arith, length, take, refl, subst, sym}
use Rattle.std.proofs.lemmas.Bool.{eqb-true, eqb-false}
use Rattle.std.proofs.lemmas.List.{nil_from_length}
use Rattle.std.proofs.lemmas.Option.{IfSome_then}
use Rattle.tc_steps.specs.Moving.{IsAfterElement}
use Rattle.tc_steps.specs.declared.moves.Opened.{Opened}
use Rattle.tc_steps.proofs.JudgedLaws.{root_passed, element_passed, last_apart, last_set, one_place}
use Rattle.tc_steps.proofs.MovingLaws.{keeps_all}
use Rattle.tc_steps.proofs.judge.Judge.pass_element.Goals as goal

pub returns-then-is_empty : goal.returns-then-is_empty
returns-then-is_empty c =
    let items = c.args.self.now.levels.items in
    let zero = eqb-true _ 0 (sym c.is_empty.ensures ∙ c.if-is_empty.true) in
    let none : items ≡ [] = nil_from_length items (omega (arith, zero)) in
    IfSome_then c.end_root.result c.end_root.ensures.answer (λ u answer x p n kids is at.
    root_passed x c.args.self.now c.end_root.new.self p n kids none (ap (λ v. v.items) c.end_root.ensures.levels ∙ none) c.end_root.ensures.moves (answer x n kids at.right is) at)

pub returns-in-Some : goal.returns-in-Some
returns-in-Some c = λ x p n kids is at.
    let items = c.args.self.now.levels.items in
    let k = c.len-innermost.result - 1 in
    let some = eqb-false _ 0 (sym c.is_empty.ensures ∙ c.if-is_empty.false) in
    let long : k + 1 ≡ length items = omega (arith, some, c.len-innermost.ensures) in
    let read = c.index.result.now in
    let written = c.index_mut.result.now in
    let same : written ≡ read = one_place items k written read (omega (arith, long)) c.index_mut.ensures.value c.index.ensures in
    let after : Opened = record { symbol = written.symbol; states = c.lead_to.new.self } in
    let told : IsAfterElement x c.args.self.now.moves c.args.inner.now read.states after.states =
    subst (IsAfterElement x c.args.self.now.moves c.args.inner.now read.states) (sym c.lead_to.ensures) (c.in-Some.ensures x at.right) in
    element_passed x c.args.self.now _ c.args.self.now.moves (take k items) c.args.inner.now read after p n kids (last_apart items k read long c.index.ensures) (last_set items k after long) refl refl
    (keeps_all x c.args.self.now.moves at.right) told (ap (λ (o : Opened). o.symbol) same) is at

pub returns : goal.returns
returns c = λ x p n kids is at.
    let items = c.args.self.now.levels.items in
    let k = c.len-innermost.result - 1 in
    let some = eqb-false _ 0 (sym c.is_empty.ensures ∙ c.if-is_empty.false) in
    let long : k + 1 ≡ length items = omega (arith, some, c.len-innermost.ensures) in
    let read = c.index-2.result.now in
    let written = c.index_mut-2.result.now in
    let same : written ≡ read = one_place items k written read (omega (arith, long)) c.index_mut-2.ensures.value c.index-2.ensures in
    let after : Opened = record { symbol = written.symbol; states = c.in_ok-after.after } in
    element_passed x c.args.self.now _ c.after_element.new.self (take k items) c.args.inner.now read after p n kids (last_apart items k read long c.index-2.ensures) (last_set items k after long) refl refl
    (c.in_ok-after.ensures.keeps x at.right is.known) (c.in_ok-after.ensures.after x at.right is.known) (ap (λ (o : Opened). o.symbol) same) is at
