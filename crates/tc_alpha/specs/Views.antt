-- What contracts see of mentions: the same data without addresses.
use Rattle.std.specs.Prelude.{List, map}
use Rattle.tc_model.specs.Views as see
use Rattle.tc_model.specs.Symbols as m
use Rattle.tc_alpha.specs.declared.mentions.Mention.{Mention}
use Rattle.tc_alpha.specs.declared.mentions.Mention.TheVariants.{Name, Namespace}

abbrev pub mention : Mention → m.Mention
mention (Name n) = m.a_name (see.name n)
mention (Namespace uri) = m.a_namespace uri.now

abbrev pub seen : List Mention → List m.Mention
seen xs = map mention xs
