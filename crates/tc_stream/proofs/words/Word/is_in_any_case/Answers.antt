use Rattle.std.proofs.Common.{◌∙◌, sym}
use Rattle.tc_stream.proofs.WordLaws.{not_kept_in_any_case}
use Rattle.tc_stream.proofs.words.Word.is_in_any_case.Goals as goal

pub returns-in-None : goal.returns-in-None
returns-in-None c written e = sym (not_kept_in_any_case written c.args.word.now (sym e ∙ c.in-None.ensures) c.requires)
