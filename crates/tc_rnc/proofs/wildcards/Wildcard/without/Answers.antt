use Rattle.std.proofs.Common.{ap, ◌∙◌, sym}
use Rattle.tc_rnc.specs.Views as seen
use Rattle.tc_rnc.specs.Wildcards.{without}
use Rattle.tc_rnc.proofs.Views.{see_ns, see_any}
use Rattle.tc_rnc.proofs.wildcards.Wildcard.without.Goals as goal

pub returns-in-Ns : goal.returns-in-Ns
returns-in-Ns c = see_ns c.in-Ns.place c.in-Ns.uri c.args.except ∙ ap (λ z. without z (seen.classes c.args.except.now)) (sym c.in-Ns.is)

pub returns-in-Any : goal.returns-in-Any
returns-in-Any c = see_any c.in-Any.place c.args.except ∙ ap (λ z. without z (seen.classes c.args.except.now)) (sym c.in-Any.is)
