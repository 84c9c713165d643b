-- Marks that `<!` begins (XML 1.0, Fifth Edition, 2.5, 2.7 and 2.8).
use Rattle.std.specs.Prelude.{◌≡◌, ◌⊎◌, ℕ, List, codes}
use Rattle.tc_stream.specs.declared.parts.Mark.{Mark}
use Rattle.tc_stream.specs.declared.parts.Mark.TheVariants as marks
use Rattle.tc_stream.specs.declared.phases.Phase.{Phase}
use Rattle.tc_stream.specs.declared.phases.Phase.TheVariants as phases

abbrev pub mark_of : Mark → List ℕ
mark_of marks.Comment = codes "<!--"
mark_of marks.Cdata = codes "<![CDATA["
mark_of marks.Doctype = codes "<!DOCTYPE"

-- where such a mark may stand: a comment anywhere, a CDATA section in content, a document type declaration before the root element
abbrev pub MayStand : Phase → Mark → Type 0
MayStand phase marks.Comment = Unit {0}
MayStand phase marks.Cdata = phase ≡ phases.Content
MayStand phase marks.Doctype = (phase ≡ phases.Front) ⊎ (phase ≡ phases.Prolog)
