use Rattle.std.proofs.Common.{◌∙◌, ap, refl}
use Rattle.tc_answer.specs.Answers.{status_by_dead}
use Rattle.tc_answer.proofs.SpotLines.{whole_lines}
use Rattle.tc_answer.proofs.answer.Answer.spots.Goals as goal

pub returns : goal.returns
returns c = record {
  status = c.status_by_dead.ensures ∙ ap status_by_dead c.count_dead-dead.ensures;
  written = c.into_bytes.ensures ∙ whole_lines c.args.told.now _ _ _ _ _ c.new-text.ensures c.in_ok-put_spots.ensures c.in_ok-put_places.ensures refl c.count_dead-dead.ensures;
}
