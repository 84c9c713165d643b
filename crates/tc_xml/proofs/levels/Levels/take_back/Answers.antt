use Rattle.std.proofs.lemmas.Option.{IfSome_then}
use Rattle.tc_xml.proofs.levels.Levels.take_back.Goals as goal

pub returns-clause-right : goal.returns-clause-right
returns-clause-right c = λ right. IfSome_then c.take_back.result c.take_back.ensures (λ u k. c.forget.ensures _ _ right)
