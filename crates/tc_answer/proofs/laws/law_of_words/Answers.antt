use Rattle.tc_answer.proofs.OneCommand.{words_give_one}
use Rattle.tc_answer.proofs.laws.law_of_words.Goals as goal

pub returns : goal.returns
returns c = words_give_one
