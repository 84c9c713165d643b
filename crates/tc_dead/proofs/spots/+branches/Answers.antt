use Rattle.std.proofs.Common.{◌≡◌, ◌<◌, ◌+◌, length, arith, rules}
use Rattle.tc_model.specs.Views as see
use Rattle.tc_model.specs.Sheets as model
use Rattle.tc_model.specs.declared.sheet.Instr.TheVariants as v
use Rattle.tc_dead.specs.Spots as s
use Rattle.tc_dead.proofs.InstructionParts.{branches_of_last, branches_by, branches_of_choose, branches_within}
use Rattle.tc_dead.proofs.CountSteps.{if_ok}
use Rattle.tc_dead.proofs.spots.+branches.Goals as goal

pub branches_of_last-returns : goal.branches_of_last-returns
branches_of_last-returns t c =
    let some : 0 < length c.args.last.now = search rules in
    let whole = branches_of_last c.args.last.now some in
    if_ok c.branches_of.result (λ n. n ≡ c.in_ok-this.this + s.branches_of (see.body c.args.last.now)) _ (λ n e. omega (arith, e, whole, c.in_ok-this.ensures)) c.branches_of.ensures

pub branches_of_one-returns-in_ok-chosen-in-Choose : goal.branches_of_one-returns-in_ok-chosen-in-Choose
branches_of_one-returns-in_ok-chosen-in-Choose t c =
    let whole = branches_by c.args.instruction.now (v.Choose c.in-Choose.branches c.in-Choose.last) _ c.in-Choose.is (branches_of_choose c.in-Choose.branches c.in-Choose.last) in
    if_ok c.branches_of_last.result (λ n. n ≡ c.in_ok-chosen-in-Choose.chosen + s.branches_in (model.otherwise (see.body c.in-Choose.last.now))) _ (λ n e. omega (arith, e, whole, c.in_ok-chosen-in-Choose.ensures)) c.branches_of_last.ensures

pub branches_of_one-returns-in-Elem : goal.branches_of_one-returns-in-Elem
branches_of_one-returns-in-Elem t c =
    let whole = branches_within c.args.instruction.now c.in-Elem.inner c.in-Elem.is in
    if_ok c.branches_of.result (λ n. n ≡ c.args.before + s.branches_of (see.body c.in-Elem.inner.now)) _ (λ n e. omega (arith, e, whole)) c.branches_of.ensures
