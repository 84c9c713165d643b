use Rattle.std.proofs.Common.{ap, sym, ◌∙◌, subst}
use Rattle.tc_alpha.specs.Views.{seen}
use Rattle.tc_model.specs.Views as see
use Rattle.tc_model.specs.Symbols.{AreSymbols}
use Rattle.tc_alpha.proofs.Lawful.{are_symbols}
use Rattle.tc_alpha.proofs.alphabet.Alphabet.of.Goals as goal

pub of_mentions-requires : goal.of_mentions-requires
of_mentions-requires c =
    subst AreSymbols (sym (ap seen c.deref.ensures.value ∙ c.in_ok-mentions.ensures)) (are_symbols (see.grammar c.args.input.now) (see.grammar c.args.output.now) (see.sheet c.args.sheet.now))
