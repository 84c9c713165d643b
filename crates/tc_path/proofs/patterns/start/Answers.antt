use Rattle.tc_path.specs.Phrases.{behind_slash, behind_slashes, at_once}
use Rattle.tc_path.proofs.patterns.start.Goals as goal

pub returns-in-Some : goal.returns-in-Some
returns-in-Some c = behind_slash c.in-Some.ensures

pub returns-in-Some-after_mark : goal.returns-in-Some-after_mark
returns-in-Some-after_mark c = behind_slashes c.in-Some-after_mark.ensures

pub returns-in-None : goal.returns-in-None
returns-in-None c = at_once c.in_default.ensures c.in-None.ensures
