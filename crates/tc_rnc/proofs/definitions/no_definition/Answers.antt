use Rattle.tc_rnc.specs.Refusals.{unsupported}
use Rattle.tc_rnc.proofs.Constructs.{include_first, none_defined}
use Rattle.tc_rnc.proofs.RefusalLaws.{refuses_map}
use Rattle.tc_rnc.proofs.definitions.no_definition.Goals as goal

pub returns-then-is_name : goal.returns-then-is_name
returns-then-is_name c = unsupported (include_first c.requires.first c.if-is_name.ensures)

pub returns : goal.returns
returns c = refuses_map c.unexpected.ensures (λ x y. none_defined c.requires.first c.requires.more c.requires.no_div c.requires.nothing c.if-is_name.ensures y)
