use Rattle.std.proofs.Common.{refl, true}
use Rattle.tc_model.specs.Views.{place}
use Rattle.tc_model.specs.XmlTextBytes.{line_ends}
use Rattle.tc_model.specs.XmlTextContent.{nothing, characters, comment}
use Rattle.tc_tags.proofs.FailedLaws.{failed_ok}
use Rattle.tc_xml.proofs.MemoryLaws.{out_breaks}
use Rattle.tc_xml.proofs.ItemLaws.{lacks_bang, cdata_item}
use Rattle.tc_xml.proofs.content.comment_or_cdata.Goals as goal

pub returns-in-Some-clause-ok : goal.returns-in-Some-clause-ok
returns-in-Some-clause-ok c = (nothing, (λ outer d. comment c.in-Some.ensures), λ h. refl)

pub returns-in_default-cdata-clause-no : goal.returns-in_default-cdata-clause-no
returns-in_default-cdata-clause-no c =
    let (r, e) = c.requires.opens in lacks_bang true c.args.total c.args.text.now r e c.in_default.ensures c.in_default-cdata.ensures

pub returns-clause-ok : goal.returns-clause-ok
returns-clause-ok c = (
  characters (line_ends c.in-Some-cdata.inside.now) (place c.place_of.result),
  cdata_item c.args.total c.args.text.now c.in-Some-cdata.inside.now c.in-Some-cdata.rest.now (place c.place_of.result) c.in-Some-cdata.ensures c.place_of.ensures,
  c.in_ok-gather_characters.ensures,
)

pub returns-in_err-gather_characters-clause-ok : goal.returns-in_err-gather_characters-clause-ok
returns-in_err-gather_characters-clause-ok c = failed_ok _ _ _ c.from_residual.ensures.1

pub returns-in_err-gather_characters-clause-no : goal.returns-in_err-gather_characters-clause-no
returns-in_err-gather_characters-clause-no c = out_breaks _ _ c.from_residual.ensures.1
