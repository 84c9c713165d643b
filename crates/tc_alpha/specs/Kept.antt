-- What contracts see of mentions that are kept.
use Rattle.std.specs.Prelude.{List, map, string_bytes}
use Rattle.tc_model.specs.Symbols as m
use Rattle.tc_alpha.specs.declared.alphabet.Known.{Known}
use Rattle.tc_alpha.specs.declared.alphabet.Known.TheVariants.{Name, Namespace}

abbrev pub known : Known → m.Mention
known (Name uri local) = m.a_name (record { uri = string_bytes uri; local = string_bytes local })
known (Namespace uri) = m.a_namespace (string_bytes uri)

abbrev pub all_known : List Known → List m.Mention
all_known xs = map known xs
