-- The mention that is looked for while a free name is sought.
use Rattle.std.specs.Prelude.{ℕ, List, Option, Some, None}
use Rattle.std.specs.Borrow.{Bor}
use Rattle.tc_model.specs.Symbols as m

-- the mention of a local name in a namespace, or of a namespace where none is given
abbrev pub mention_by : Option (Bor (List ℕ)) → List ℕ → m.Mention
mention_by (Some uri) text = m.a_name (record { uri = uri.now; local = text })
mention_by None text = m.a_namespace text
