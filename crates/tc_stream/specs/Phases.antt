-- Where reading stands behind what is no XML declaration, and where one may stand.
use Rattle.std.specs.Prelude.{Bool, true, false}
use Rattle.tc_stream.specs.declared.phases.Phase.{Phase}
use Rattle.tc_stream.specs.declared.phases.Phase.TheVariants as phases

-- nothing but misc, a document type declaration and the root element may follow
abbrev pub past_front : Phase → Phase
past_front phases.Mark = phases.Mark
past_front phases.Front = phases.Prolog
past_front phases.Prolog = phases.Prolog
past_front phases.Root = phases.Root
past_front phases.Content = phases.Content
past_front phases.End = phases.End

-- an XML declaration may come
abbrev pub is_front : Phase → Bool
is_front phases.Front = true
is_front _ = false
