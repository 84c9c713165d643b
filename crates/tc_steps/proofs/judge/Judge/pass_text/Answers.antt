use Rattle.std.proofs.Common.{◌≡◌, ◌∙◌, ◌+◌, ◌-◌, [], ap, arith, length, take, refl, subst, sym}
use Rattle.std.proofs.lemmas.Bool.{eqb-true, eqb-false}
use Rattle.std.proofs.lemmas.List.{nil_from_length}
use Rattle.tc_steps.specs.Moving.{IsAfterText}
use Rattle.tc_steps.specs.declared.moves.Opened.{Opened}
use Rattle.tc_steps.proofs.JudgedLaws.{text_outside, text_passed, last_apart, last_set, one_place}
use Rattle.tc_steps.proofs.MovingLaws.{keeps_all}
use Rattle.tc_steps.proofs.judge.Judge.pass_text.Goals as goal

pub returns-then-is_empty : goal.returns-then-is_empty
returns-then-is_empty c = λ x p run white at.
    let items = c.args.self.now.levels.items in
    let zero = eqb-true _ 0 (sym c.is_empty.ensures ∙ c.if-is_empty.true) in
    let none : items ≡ [] = nil_from_length items (omega (arith, zero)) in
    text_outside x c.args.self.now _ p run none none refl at

pub returns-in-Some : goal.returns-in-Some
returns-in-Some c = λ x p run white at.
    let items = c.args.self.now.levels.items in
    let n = c.len-innermost.result - 1 in
    let some = eqb-false _ 0 (sym c.is_empty.ensures ∙ c.if-is_empty.false) in
    let long : n + 1 ≡ length items = omega (arith, some, c.len-innermost.ensures) in
    let read = c.index.result.now in
    let written = c.index_mut.result.now in
    let same : written ≡ read = one_place items n written read (omega (arith, long)) c.index_mut.ensures.value c.index.ensures in
    let after : Opened = record { symbol = written.symbol; states = c.lead_to.new.self } in
    let told : IsAfterText x c.args.self.now.moves read.states after.states = subst (IsAfterText x c.args.self.now.moves read.states) (sym c.lead_to.ensures) (c.in-Some.ensures x at.right) in
    text_passed x c.args.self.now _ c.args.self.now.moves (take n items) read after p run (last_apart items n read long c.index.ensures) (last_set items n after long) refl refl
    (keeps_all x c.args.self.now.moves at.right) told
    (ap (λ (o : Opened). o.symbol) same) white at

pub returns : goal.returns
returns c = λ x p run white at.
    let items = c.args.self.now.levels.items in
    let n = c.len-innermost.result - 1 in
    let some = eqb-false _ 0 (sym c.is_empty.ensures ∙ c.if-is_empty.false) in
    let long : n + 1 ≡ length items = omega (arith, some, c.len-innermost.ensures) in
    let read = c.index-2.result.now in
    let written = c.index_mut-2.result.now in
    let same : written ≡ read = one_place items n written read (omega (arith, long)) c.index_mut-2.ensures.value c.index-2.ensures in
    let after : Opened = record { symbol = written.symbol; states = c.in_ok-after.after } in
    text_passed x c.args.self.now _ c.after_text.new.self (take n items) read after p run (last_apart items n read long c.index-2.ensures) (last_set items n after long) refl refl
    (c.in_ok-after.ensures.keeps x at.right) (c.in_ok-after.ensures.after x at.right) (ap (λ (o : Opened). o.symbol) same) white at
