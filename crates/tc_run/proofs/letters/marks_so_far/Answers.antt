use Rattle.std.proofs.Common.{Bor, List, sym, subst}
use Rattle.tc_run.specs.Running.{IsLetteredIn, guide, kids_of}
use Rattle.tc_run.specs.Sights.{AreSeenUnder}
use Rattle.tc_run.specs.Views.{trees}
use Rattle.tc_run.specs.declared.letters.Lettered.{Lettered}
use Rattle.tc_run.proofs.letters.marks_so_far.Goals as goal

pub marks-requires-clause-kids : goal.marks-requires-clause-kids
marks-requires-clause-kids c =
    let r = c.args.runner.now in
    record {
      runner = c.requires.runner;
      nodes = subst (λ (ks : List (Bor (List Lettered))). IsLetteredIn r (kids_of ks) (trees c.args.kids.now)) (sym c.deref.ensures.value) c.requires.kids;
      known = subst (λ (ks : List (Bor (List Lettered))). AreSeenUnder (guide r) (kids_of ks) c.args.known.now.sights) (sym c.deref.ensures.value) c.requires.known.sights;
    }

pub marks-requires-clause-asked : goal.marks-requires-clause-asked
marks-requires-clause-asked c = c.requires.asked

pub returns-clause-known : goal.returns-clause-known
returns-clause-known c = record {
  names = c.requires.known.names;
  sights = subst (λ (ks : List (Bor (List Lettered))). AreSeenUnder (guide c.args.runner.now) (kids_of ks) c.marks.new.sights) c.deref.ensures.value c.marks.ensures.known;
}

pub returns-clause-marks : goal.returns-clause-marks
returns-clause-marks c = c.marks.ensures.marks
