use Rattle.tc_scan.specs.Views.{written_name}
use Rattle.tc_path.proofs.ReasonLaws.{this_word, no_word}
use Rattle.tc_path.proofs.reasons.is_word.Goals as goal

pub returns-then-is_empty : goal.returns-then-is_empty
returns-then-is_empty c = this_word (written_name c.args.name.now) c.args.word.now c.is_empty.result c.eq.result c.is_empty.ensures c.if-is_empty.true c.eq.ensures

pub returns-else-is_empty : goal.returns-else-is_empty
returns-else-is_empty c = no_word (written_name c.args.name.now) c.args.word.now c.is_empty.result c.is_empty.ensures c.if-is_empty.false
