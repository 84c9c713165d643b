use Rattle.tc_rnc.specs.Views as seen
use Rattle.tc_rnc.proofs.ItemLaws.{on_by_connector, on_by_suffix, not_on}
use Rattle.tc_rnc.proofs.patterns.goes_on.Goals as goal

pub returns-in-Some : goal.returns-in-Some
returns-in-Some c = on_by_connector c.in-Some.ensures

pub returns-in-Some-suffix_at : goal.returns-in-Some-suffix_at
returns-in-Some-suffix_at c = on_by_suffix c.in-Some-suffix_at.ensures

pub returns-in-None : goal.returns-in-None
returns-in-None c = not_on (seen.tokens c.args.tokens.now) c.in_default.ensures c.in-None.ensures
