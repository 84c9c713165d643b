use Rattle.std.proofs.Common.{◌≡◌, ◌<◌, ◌≤◌, Bool, true, false, not, List, [], refl, length, arith}
use Rattle.std.specs.Prelude.{IsTrue, IsFalse}
use Rattle.tc_run.proofs.Idle.{apply_idle, each_idle, value_idle, self_idle}
use Rattle.tc_run.proofs.OnLeaves.{no_more_left}
use Rattle.tc_run.proofs.bodies.is_idle.Goals as goal

is_false : (b : Bool) → IsTrue (not b) → IsFalse b
is_false true h = cc
is_false false h = refl

pub returns-in-Apply : goal.returns-in-Apply
returns-in-Apply c = λ h.
    let none : length c.args.here.now.kids.now ≤ 0 = grind (arith, c.is_empty.ensures, c.if-not-is_empty.false) in
    let low : c.args.nesting < 8000 = omega (arith, c.if-nesting-ge-MOST_OPEN.false) in
    apply_idle c.args.here.now c.args.nesting (no_more_left c.args.here.now.kids.now none) low c.args.instruction.now _ _ c.in-Apply.is

pub returns-in-ForEach : goal.returns-in-ForEach
returns-in-ForEach c = λ h.
    let none : length c.args.here.now.kids.now ≤ 0 = grind (arith, c.is_empty.ensures, c.if-not-is_empty.false) in
    let low : c.args.nesting < 8000 = omega (arith, c.if-nesting-ge-MOST_OPEN.false) in
    each_idle c.args.here.now c.args.nesting (no_more_left c.args.here.now.kids.now none) low c.args.instruction.now _ _ _ c.in-ForEach.is

pub returns-in-ValueOf : goal.returns-in-ValueOf
returns-in-ValueOf c = λ h.
    let none : length c.args.here.now.kids.now ≤ 0 = grind (arith, c.is_empty.ensures, c.if-not-is_empty.false) in
    let low : c.args.nesting < 8000 = omega (arith, c.if-nesting-ge-MOST_OPEN.false) in
    value_idle c.args.here.now c.args.nesting (no_more_left c.args.here.now.kids.now none) low c.args.instruction.now _ c.in-ValueOf.is

pub returns-in-ValueOfSelf : goal.returns-in-ValueOfSelf
returns-in-ValueOfSelf c = λ h.
    let none : length c.args.here.now.kids.now ≤ 0 = grind (arith, c.is_empty.ensures, c.if-not-is_empty.false) in
    let low : c.args.nesting < 8000 = omega (arith, c.if-nesting-ge-MOST_OPEN.false) in
    self_idle c.args.here.now c.args.nesting (no_more_left c.args.here.now.kids.now none) low c.args.instruction.now c.in-ValueOfSelf.is (c.is_text.ensures (is_false c.is_text.result h))
