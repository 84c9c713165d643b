use Rattle.std.proofs.Common.{true, false, encode_utf8}
use Rattle.tc_model.specs.Views.{place}
use Rattle.tc_model.specs.XmlTextBytes.{line_ends}
use Rattle.tc_model.specs.XmlTextContent.{characters}
use Rattle.tc_xml.specs.Refusals.{Refuses}
use Rattle.tc_xml.specs.Reading.{LacksItem}
use Rattle.tc_tags.proofs.FailedLaws.{failed_ok}
use Rattle.tc_xml.proofs.MemoryLaws.{out_refuses, out_stands}
use Rattle.tc_xml.proofs.ContentLaws.{failed, refuse_both}
use Rattle.tc_xml.proofs.ItemLaws.{lacks_reference, lacks_characters, reference_item, data_item}
use Rattle.tc_xml.proofs.content.characters.Goals as goal

pub returns-in_err-character-clause-no : goal.returns-in_err-character-clause-no
returns-in_err-character-clause-no c =
    let t = c.args.text.now in
    let (r, e) = c.if-begins.ensures in
    failed c.from_residual.result (λ e. Refuses e (LacksItem true c.args.total t) (LacksItem false c.args.total t)) c.in_err-character.field-0.0 c.from_residual.ensures.1
    (refuse_both c.in_err-character.field-0.0 _ (LacksItem true c.args.total t) _ (LacksItem false c.args.total t) (lacks_reference true c.args.total t r e) (lacks_reference false c.args.total t r e) c.in_err-character.ensures.no)

pub returns-then-begins-clause-ok : goal.returns-then-begins-clause-ok
returns-then-begins-clause-ok c = (
  characters (encode_utf8 c.in_ok-character.character) (place c.place_of.result),
  reference_item c.args.total c.args.text.now (encode_utf8 c.in_ok-character.character) c.in_ok-character.rest.now (place c.place_of.result) c.in_ok-character.ensures.ok c.place_of.ensures,
  c.in_ok-gather_character.ensures,
)

pub returns-in_default-clause-no : goal.returns-in_default-clause-no
returns-in_default-clause-no c = lacks_characters true c.args.total c.args.text.now c.requires.no_markup c.if-begins.ensures c.in_default.ensures

pub returns-clause-ok : goal.returns-clause-ok
returns-clause-ok c = (
  characters (line_ends c.in-Some.run'.now) (place c.place_of-2.result),
  data_item c.args.total c.args.text.now c.in-Some.run'.now c.in-Some.rest.now (place c.place_of-2.result) c.in-Some.ensures c.place_of-2.ensures,
  c.in_ok-gather_characters.ensures,
)

pub returns-in_err-character-clause-ok : goal.returns-in_err-character-clause-ok
returns-in_err-character-clause-ok c = failed_ok _ _ _ c.from_residual.ensures.1

pub returns-in_err-gather_character-clause-ok : goal.returns-in_err-gather_character-clause-ok
returns-in_err-gather_character-clause-ok c = failed_ok _ _ _ c.from_residual-in_err-gather_character.ensures.1

pub returns-in_err-gather_characters-clause-ok : goal.returns-in_err-gather_characters-clause-ok
returns-in_err-gather_characters-clause-ok c = failed_ok _ _ _ c.from_residual-in_err-gather_characters.ensures.1

pub returns-in_err-gather_character-clause-no : goal.returns-in_err-gather_character-clause-no
returns-in_err-gather_character-clause-no c = out_refuses _ _ _ c.from_residual-in_err-gather_character.ensures.1

pub returns-in_err-gather_character-clause-stands : goal.returns-in_err-gather_character-clause-stands
returns-in_err-gather_character-clause-stands c = out_stands _ _ c.from_residual-in_err-gather_character.ensures.1

pub returns-in_err-gather_characters-clause-no : goal.returns-in_err-gather_characters-clause-no
returns-in_err-gather_characters-clause-no c = out_refuses _ _ _ c.from_residual-in_err-gather_characters.ensures.1

pub returns-in_err-gather_characters-clause-stands : goal.returns-in_err-gather_characters-clause-stands
returns-in_err-gather_characters-clause-stands c = out_stands _ _ c.from_residual-in_err-gather_characters.ensures.1
