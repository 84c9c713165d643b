use Rattle.std.proofs.Common.{None, arith}
use Rattle.std.specs.Prelude.{codes}
use Rattle.std.proofs.lemmas.Str.Pattern.{split_once_first}
use Rattle.tc_scan.proofs.NamesLaws.{at_none}
use Rattle.tc_answer.proofs.SchemaWordsLaws.{behind_is, behind_none, before_none, after_none}
use Rattle.tc_answer.proofs.sources.parts.Goals as goal

pub returns-in-None : goal.returns-in-None
returns-in-None c =
    let rest = c.in_ok-rest.rest.now in
    let end = split_once_first 58 rest None c.in-None.ensures.cases (omega arith) in
    (rest, behind_is (codes "dtd:") c.args.word.now rest c.in_ok-rest.ensures, before_none rest end, after_none rest end)

pub returns-in_err-rest : goal.returns-in_err-rest
returns-in_err-rest c = at_none _ c.from_residual.ensures (behind_none (codes "dtd:") c.args.word.now c.in_err-rest.ensures)
