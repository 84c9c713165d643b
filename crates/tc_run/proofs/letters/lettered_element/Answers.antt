use Rattle.std.proofs.Common.{Bor, List, ap, sym, subst}
use Rattle.tc_run.specs.Lettered as l
use Rattle.tc_run.specs.Running.{IsLetteredIn, kids_of}
use Rattle.tc_run.specs.Views.{trees}
use Rattle.tc_run.specs.declared.letters.Letter.{Letter}
use Rattle.tc_run.specs.declared.letters.Lettered.{Lettered}
use Rattle.tc_run.proofs.LetteredSteps.{grown_lettered, grown_none, grown_twice}
use Rattle.tc_run.proofs.Marking.{element_lettered}
use Rattle.tc_run.proofs.Views.{before_elem}
use Rattle.tc_run.proofs.letters.lettered_element.Goals as goal

pub sym_of-sym-requires : goal.sym_of-sym-requires
sym_of-sym-requires c = record { known = c.requires.known.names }

pub returns-in_err-number-clause-known : goal.returns-in_err-number-clause-known
returns-in_err-number-clause-known c = c.in_err-number.ensures.known c.args.runner.now c.marks_so_far-marks.ensures.known

pub returns-in_err-number-clause-grown : goal.returns-in_err-number-clause-grown
returns-in_err-number-clause-grown c = grown_twice c.args.known.now c.marks_so_far-marks.new.known _ (grown_none c.args.known.now c.marks_so_far-marks.new.known c.marks_so_far-marks.ensures.same) c.in_err-number.ensures.grown

pub returns-clause-known : goal.returns-clause-known
returns-clause-known c = c.in_ok-number.ensures.known c.args.runner.now c.marks_so_far-marks.ensures.known

pub returns-clause-grown : goal.returns-clause-grown
returns-clause-grown c = grown_twice c.args.known.now c.marks_so_far-marks.new.known _ (grown_none c.args.known.now c.marks_so_far-marks.new.known c.marks_so_far-marks.ensures.same) c.in_ok-number.ensures.grown

pub returns-clause-lettered : goal.returns-clause-lettered
returns-clause-lettered c =
    let r = c.args.runner.now in
    let name = c.args.name in
    let kids = c.args.kids in
    let x : Letter = record { sym = c.sym_of-sym.result; marks = c.marks_so_far-marks.result; number = c.in_ok-number.number } in
    let so_far = c.marks_so_far-marks.new.known in
    let kids_so_far = subst (λ (ks : List (Bor (List Lettered))). IsLetteredIn r (kids_of ks) (trees kids.now)) (sym c.marks_so_far-marks.ensures.same) c.requires.kids in (
      element_lettered r c.requires.runner (kids_of c.number.new.self.numbered.items) name x kids c.sym_of-sym.ensures.symbol c.marks_so_far-marks.ensures.marks
          c.in_ok-number.ensures.number (grown_lettered r so_far c.number.new.self (trees kids.now) c.in_ok-number.ensures.grown kids_so_far),
      ap l.bare (before_elem name x kids l.none),
    )
