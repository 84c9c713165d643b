use Rattle.std.proofs.Common.{ap, ◌∙◌, sym, Some}
use Rattle.std.proofs.lemmas.Option.{slice_get-get_or}
use Rattle.tc_beh.proofs.alike.Alike.first.Goals as goal

pub returns : goal.returns
returns c = λ x are. are.each c.args.symbol c.index.result.now (slice_get-get_or c.args.self.now.firsts.items c.args.symbol c.index.result.now c.requires ∙ ap Some (sym c.index.ensures))
