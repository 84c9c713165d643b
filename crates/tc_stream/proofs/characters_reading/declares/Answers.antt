use Rattle.std.proofs.Common.{◌∙◌, ◌&&◌, ap, sym, bytes_eq, codes}
use Rattle.tc_stream.specs.Phases.{is_front}
use Rattle.tc_stream.proofs.CharacterReads.{not_front}
use Rattle.tc_stream.proofs.characters_reading.declares.Goals as goal

pub returns-in-Front : goal.returns-in-Front
returns-in-Front c written keeps = c.is.ensures written keeps ∙ ap (λ p. is_front p && bytes_eq written (codes "xml")) (sym c.in-Front.is)

pub returns-in_default : goal.returns-in_default
returns-in_default c written keeps = sym (ap (λ b. b && bytes_eq written (codes "xml")) (not_front c.args.phase c.in_default.not-Front))
