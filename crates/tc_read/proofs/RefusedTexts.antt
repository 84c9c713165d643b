-- Why a text is none of a document, a schema or a stylesheet, by the cause that its reader tells.
use Rattle.std.proofs.Common.{◌≤◌, inl, inr, subst, ℕ, List, length, Contains}
use Rattle.std.specs.List.{AllByRecursion}
use Rattle.std.proofs.lemmas.List.Elements.{All-contains, All-from_recursion}
use Rattle.tc_model.specs.RawTrees.{Attribute, RawTrees, none, text, element}
use Rattle.tc_model.specs.XmlText.{XmlText}
use Rattle.tc_model.specs.XmlTextLaws.{IsLawfulAttribute, AreLawfulWithin}
use Rattle.tc_model.proofs.XmlTextTrees.{lawful_raw_tree}
use Rattle.tc_rnc.specs.Answers.{Excluded, Stands}
use Rattle.tc_rnc.specs.declared.faults.RncFault.{RncFault}
use Rattle.tc_rnc.specs.declared.faults.RncFault.TheVariants as n
use Rattle.tc_sheet.specs.LookedAt.{Where, at_top, behind, Item, place_of, IsIn, at_text, beside_text, at_element, at_attribute, inside, beside_element, IsLookedAt, the_root, has_root, within}
use Rattle.tc_sheet.specs.Faults.{IsCause}
use Rattle.tc_sheet.specs.declared.faults.SheetFault.{SheetFault}
use Rattle.tc_sheet.specs.declared.faults.SheetFault.TheVariants as f
use Rattle.tc_xml.specs.Faults.{IsFaultOf}
use Rattle.tc_xml.specs.declared.faults.XmlFault.{XmlFault}
use Rattle.tc_xml.specs.declared.faults.XmlFault.TheVariants as x
use Rattle.tc_read.specs.Faults.{of_xml, of_rnc, of_sheet, IsUnaccepted}
use Rattle.tc_read.specs.Refusals.{IsRefusedDocument, IsRefusedSchema, IsRefusedSheet}

attribute_within : (total : ℕ) (attributes : List Attribute) (a : Attribute) → AllByRecursion (IsLawfulAttribute total) attributes → Contains attributes a → a.place ≤ total
attribute_within total attributes a all there =
    let lawful = All-contains (IsLawfulAttribute total) attributes a (All-from_recursion (IsLawfulAttribute total) attributes all) there in
    lawful.within

-- nothing that is looked at in a lawful tree stands past its text
item_within : (total : ℕ) (w : Where) (raw : RawTrees) (x : Item) → AreLawfulWithin total raw → IsIn w raw x → place_of x ≤ total
item_within total w none x l h = elim h [ ]
item_within total w (text s p rest) x l at_text = l.1
item_within total w (text s p rest) x l (beside_text h) = item_within total w rest x l.2 h
item_within total w (element n attributes scope p kids rest) x l at_element = l.3
item_within total w (element n attributes scope p kids rest) x l (at_attribute {a = a} o there) = attribute_within total attributes a l.1 there
item_within total w (element n attributes scope p kids rest) x l (inside {v = v} o h) = item_within total v kids x l.4 h
item_within total w (element n attributes scope p kids rest) x l (beside_element h) = item_within total (behind n w) rest x l.5 h

looked_within : (total : ℕ) (raw : RawTrees) (x : Item) → AreLawfulWithin total raw → IsLookedAt raw x → place_of x ≤ total
looked_within total none x l h = elim h [ ]
looked_within total (text s p rest) x l h = elim h [ ]
looked_within total (element n attributes scope p kids rest) x l the_root = l.3
looked_within total (element n attributes scope p kids rest) x l (has_root {a = a} r there) = attribute_within total attributes a l.1 there
looked_within total (element n attributes scope p kids rest) x l (within r h) = item_within total at_top kids x l.4 h

-- what a tree is refused for, its text is
pub refused_tree : (bytes : List ℕ) (raw : RawTrees) (fault : SheetFault) → XmlText bytes raw → IsCause raw fault → IsUnaccepted (IsRefusedSheet bytes) (of_sheet fault)
refused_tree bytes raw (f.Malformed p) spelled cause =
    let at = cause.0 in
    let within_text = looked_within (length bytes) raw at.item (lawful_raw_tree bytes raw spelled) at.has in
    inr (subst (λ q. q ≤ length bytes) at.stands within_text, (raw, spelled, cause))
refused_tree bytes raw (f.Unsupported p why) spelled cause = inr (raw, spelled, cause)
refused_tree bytes raw (f.TooDeep p) spelled cause = inr (raw, spelled, cause)
refused_tree bytes raw (f.Undefined p) spelled cause = (raw, spelled, cause)
refused_tree bytes raw (f.CallLoop p) spelled cause = (raw, spelled, cause)
refused_tree bytes raw f.NoMemory spelled cause = tt

-- what is no XML text is no document's, and no stylesheet's

pub refused_document : (bytes : List ℕ) (fault : XmlFault) → IsFaultOf bytes fault → IsUnaccepted (IsRefusedDocument bytes) (of_xml fault)
refused_document bytes (x.Malformed p) h = h
refused_document bytes (x.Unsupported p why) h = h
refused_document bytes (x.TooDeep p) h = h
refused_document bytes x.NoMemory h = tt

pub refused_text : (bytes : List ℕ) (fault : XmlFault) → IsFaultOf bytes fault → IsUnaccepted (IsRefusedSheet bytes) (of_xml fault)
refused_text bytes (x.Malformed p) h = inl h
refused_text bytes (x.Unsupported p why) h = inl h
refused_text bytes (x.TooDeep p) h = inl h
refused_text bytes x.NoMemory h = tt

-- what is no text in compact syntax is no schema's
pub refused_schema : (bytes : List ℕ) (fault : RncFault) → Excluded fault bytes → Stands fault bytes → IsUnaccepted (IsRefusedSchema bytes) (of_rnc fault)
refused_schema bytes (n.Malformed p) h s = (s, h)
refused_schema bytes (n.Unsupported p why) h s = (s, h)
refused_schema bytes (n.TooDeep p) h s = (s, h)
refused_schema bytes n.NoMemory h s = tt
