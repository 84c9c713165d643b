use Rattle.std.proofs.Common.{◌∙◌, Ok}
use Rattle.tc_beh.proofs.Holding.{set_kept, grows_kept}
use Rattle.tc_beh.proofs.entries.keep_open.Goals as goal

pub returns-in-Ok-clause-same : goal.returns-in-Ok-clause-same
returns-in-Ok-clause-same c = λ m.
    let new = c.keep.new.outputs in
    let (low, is) = set_kept c.args.outputs.now new c.out.result.now (Ok c.in-Ok.number) c.in-Ok.ensures.number in
    c.link.ensures m new low (is ∙ c.out.ensures.out)

pub returns-in-Ok-clause-number : goal.returns-in-Ok-clause-number
returns-in-Ok-clause-number c =
    let (low, is) = set_kept c.args.outputs.now c.keep.new.outputs c.out.result.now (Ok c.in-Ok.number) c.in-Ok.ensures.number in
    (low, is ∙ c.out.ensures.out)

pub returns-in-Ok-clause-grows : goal.returns-in-Ok-clause-grows
returns-in-Ok-clause-grows c = grows_kept c.args.outputs.now c.keep.new.outputs c.out.result.now (Ok c.in-Ok.number) c.in-Ok.ensures.number c.in-Ok.ensures.grows
