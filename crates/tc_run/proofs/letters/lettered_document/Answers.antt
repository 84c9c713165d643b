use Rattle.std.proofs.Common.{[]}
use Rattle.tc_rules.specs.Kept.{told}
use Rattle.tc_run.specs.Running.{Guide, kids_of}
use Rattle.tc_run.specs.declared.runner.Runner.{Runner}
use Rattle.tc_run.proofs.LetteredSteps.{seen_still}
use Rattle.tc_run.proofs.letters.lettered_document.Goals as goal

pub marks-on_texts-requires-clause-kids : goal.marks-on_texts-requires-clause-kids
marks-on_texts-requires-clause-kids c =
    let g : Guide = record { rules = told c.args.rules.now; symbols = c.args.alphabet.now } in
    record { runner = c.requires; nodes = tt; known = c.in_ok-known.ensures.fresh g [] }

pub with_letters-requires-clause-known : goal.with_letters-requires-clause-known
with_letters-requires-clause-known c =
    let g : Guide = record { rules = told c.args.rules.now; symbols = c.args.alphabet.now } in
    let r : Runner = record { rules = c.args.rules; alphabet = c.args.alphabet; numbered = record { ref_ptr = (0, 0); now = [] } } in
    record {
      names = (c.in_ok-known.ensures.known r).names;
      sights = seen_still g [] (kids_of c.in_ok-known.known.numbered.items) c.marks-on_texts.new.sights c.marks-on_texts.ensures.known;
    }
