use Rattle.std.proofs.Common.{◌≡◌, ◌++◌, drop, map, flat_map}
use Rattle.tc_alpha.specs.Views.{seen}
use Rattle.tc_model.specs.Views as see
use Rattle.tc_model.specs.Symbols.{mentions_in_class, mentions_in_grammar}
use Rattle.tc_alpha.proofs.mentions.mention_grammar.Given as goal

abbrev pub invariant-loop-element : goal.invariant-loop-element
invariant-loop-element l =
    seen l.found.items ++ flat_map (λ e. mentions_in_class e.names) (map see.element_pattern (drop l.element-index l.element-items))
    ≡ seen l.initial.found.items ++ mentions_in_grammar (see.grammar l.grammar)
