use Rattle.tc_steps.proofs.JudgedLaws.{document_answered}
use Rattle.tc_steps.proofs.judge.Judge.is_valid.Goals as goal

pub returns : goal.returns
returns c = λ x first d start at takes document. document_answered x first c.args.self.now d start document at takes
