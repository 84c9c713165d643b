use Rattle.std.proofs.Common.{ap, ◌∙◌}
use Rattle.tc_alpha.specs.Views.{mention as see_mention}
use Rattle.tc_model.specs.Symbols.{mention_cmp}
use Rattle.tc_alpha.proofs.Compared.{cmp_is}
use Rattle.tc_alpha.proofs.alphabet.Known.order.Goals as goal

pub returns : goal.returns
returns c = c.cmp.ensures ∙ (cmp_is c.lent.result c.args.mention.now ∙ ap (λ x. mention_cmp x (see_mention c.args.mention.now)) c.lent.ensures)
