-- Attributes that must be there, and are not.
use Rattle.std.proofs.Common.{◌≡◌, ℕ, List, None}
use Rattle.std.specs.Prelude.{codes}
use Rattle.tc_model.specs.Views.{name}
use Rattle.tc_model.specs.SheetTextPhrases.{value_of}
use Rattle.tc_model.specs.declared.tree.RawElem.{RawElem}
use Rattle.tc_sheet.specs.Changes.{both}
use Rattle.tc_sheet.specs.Constructs.{IsUnrefusedElement}
use Rattle.tc_sheet.specs.Readings.{Refuses, HasNoAttributes, HasNoRequired, HasAttributesText, alone, attributes_of, scope_of}
use Rattle.tc_sheet.specs.declared.faults.SheetFault.TheVariants.{Malformed}
use Rattle.tc_sheet.proofs.AttributeLaws.{still_none}
use Rattle.tc_sheet.proofs.NameLaws.{required_refuses}
use Rattle.tc_sheet.proofs.Refusals.{itself_at}

pub required_missing : {X : Type 0} (e : RawElem) (local : List ℕ) (M : List ℕ → X → Type 0) → IsUnrefusedElement (name e.name) → value_of local (attributes_of e) ≡ None → Refuses (Malformed e.place) (alone e) (HasNoRequired e local M)
required_missing e local M h f = required_refuses e local M (Malformed e.place) (itself_at e h, still_none e local f both)

pub select_missing : (e : RawElem) → IsUnrefusedElement (name e.name) → value_of (codes "select") (attributes_of e) ≡ None → Refuses (Malformed e.place) (alone e) (HasNoAttributes e (HasAttributesText (scope_of e)))
select_missing e h f = (itself_at e h, λ olds u t. still_none e (codes "select") f both olds u (t.written, t.has))
