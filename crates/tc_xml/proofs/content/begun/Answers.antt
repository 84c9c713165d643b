use Rattle.std.proofs.Common.{sym, subst, string_bytes, ◌≡◌, ◌++◌}
use Rattle.tc_model.specs.Views.{place}
use Rattle.tc_model.specs.XmlTextContent.{characters_before}
use Rattle.tc_xml.specs.declared.content.Run.{Run}
use Rattle.tc_xml.specs.Views.{run_before}
use Rattle.tc_xml.proofs.GatherLaws.{characters_join}
use Rattle.tc_xml.proofs.content.begun.Goals as goal

pub returns-in-Begun : goal.returns-in-Begun
returns-in-Begun c = λ s h.
    let P : Run → Type 0 = λ r. characters_before (string_bytes c.in-Begun.text ++ s) (place c.in-Begun.first) h ≡ run_before r (characters_before s (place c.args.place) h) in
    subst P (sym c.in-Begun.is) (characters_join (string_bytes c.in-Begun.text) s (place c.in-Begun.first) (place c.args.place) h)
