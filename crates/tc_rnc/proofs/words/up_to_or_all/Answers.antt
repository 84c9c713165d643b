use Rattle.tc_rnc.proofs.WordLaws.{all_before, none_behind}
use Rattle.tc_rnc.proofs.words.up_to_or_all.Goals as goal

pub returns-in-None-clause-front : goal.returns-in-None-clause-front
returns-in-None-clause-front c = all_before c.args.mark.now c.args.text.now c.in-None.ensures

pub returns-in-None-clause-back : goal.returns-in-None-clause-back
returns-in-None-clause-back c = none_behind c.args.mark.now c.args.text.now c.in-None.ensures
