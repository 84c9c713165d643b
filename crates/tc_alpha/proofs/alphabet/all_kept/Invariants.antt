use Rattle.std.proofs.Common.{◌≡◌, ◌++◌, drop}
use Rattle.tc_alpha.specs.Kept.{all_known}
use Rattle.tc_alpha.specs.Views.{seen}
use Rattle.tc_alpha.proofs.alphabet.all_kept.Given as goal

abbrev pub invariant-loop-mention : goal.invariant-loop-mention
invariant-loop-mention l = all_known l.symbols.items ++ seen (drop l.mention-index l.mentions) ≡ seen l.mentions
