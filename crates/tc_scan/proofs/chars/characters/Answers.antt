use Rattle.std.proofs.Common.{refl, subst, sym}
use Rattle.tc_model.specs.XmlTextBytes.{FrontOf}
use Rattle.tc_model.proofs.XmlTextChars.{chars_utf8}
use Rattle.tc_scan.proofs.PlainBlocks.{front_behind}
use Rattle.tc_scan.proofs.chars.characters.Goals as goal

pub from_utf8_unchecked-requires : goal.from_utf8_unchecked-requires
from_utf8_unchecked-requires c =
    let is = front_behind c.args.bytes.now c.first_characters.result.now c.runs_len-runs.result _ c.runs_len-runs.ensures.within c.runs_len-runs.ensures.characters c.first_characters.ensures refl in
    chars_utf8 _ is.characters

pub returns : goal.returns
returns c =
    let is = front_behind c.args.bytes.now c.first_characters.result.now c.runs_len-runs.result _ c.runs_len-runs.ensures.within c.runs_len-runs.ensures.characters c.first_characters.ensures refl in
    subst (FrontOf c.args.bytes.now) (sym c.from_utf8_unchecked.ensures) is
