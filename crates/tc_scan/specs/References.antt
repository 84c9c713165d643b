-- What it means that no reference to a character stands at the front.
use Rattle.std.specs.Prelude.{true, List, ℕ}
use Rattle.tc_model.specs.XmlTextReferences.{ReferenceAt}
use Rattle.tc_model.specs.XmlTextRefusals.{OtherEntityAt}
use Rattle.tc_scan.specs.declared.references.NoReference.{NoReference}
use Rattle.tc_scan.specs.declared.references.NoReference.TheVariants.{Malformed, OtherEntity}

-- there is none, not even to another entity; or one to another entity
abbrev pub Lacks : NoReference → List ℕ → Type 0
Lacks Malformed bs = (s after : List ℕ) → ReferenceAt true bs s after → ⊥
Lacks OtherEntity bs = OtherEntityAt bs
