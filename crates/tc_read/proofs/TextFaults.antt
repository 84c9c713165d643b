-- The faults of a text that is that of a raw tree.
use Rattle.std.proofs.Common.{inl, inr, refl, ℕ, List, subst}
use Rattle.tc_model.specs.RawTrees.{RawTrees}
use Rattle.tc_model.specs.XmlText.{XmlText}
use Rattle.tc_model.proofs.XmlTextTrees.{one_raw_tree}
use Rattle.tc_sheet.specs.declared.faults.SheetFault.{SheetFault}
use Rattle.tc_xml.specs.Faults.{IsFaultOf}
use Rattle.tc_xml.specs.declared.faults.XmlFault.{XmlFault}
use Rattle.tc_xml.specs.declared.faults.XmlFault.TheVariants.{Malformed, Unsupported, TooDeep, NoMemory}
use Rattle.tc_read.specs.Faults.{of_xml, of_sheet, IsOfTree}
use Rattle.tc_read.proofs.OtherEntities.{with_others}

-- only want of memory keeps it from being read
pub only_memory : (P : SheetFault → Type 0) (bytes : List ℕ) (raw : RawTrees) → XmlText bytes raw → (x : XmlFault) → IsFaultOf bytes x → IsOfTree P (of_xml x)
only_memory P bytes raw text (Malformed p) f = absurd (f.1 _ raw (with_others text))
only_memory P bytes raw text (Unsupported p why) f = absurd (f.1 _ raw text)
only_memory P bytes raw text (TooDeep p) f = absurd (f.1 raw (with_others text))
only_memory P bytes raw text NoMemory f = inl refl

-- a fault of the tree is one of the text
pub tree_fault : (P : SheetFault → Type 0) (fault : SheetFault) → P fault → IsOfTree P (of_sheet fault)
tree_fault P fault h = inr (fault, h, refl)

-- what holds of the tree of a text holds of the one that is read
pub of_tree : (P : RawTrees → Type 0) {bytes : List ℕ} {raw read : RawTrees} → XmlText bytes raw → XmlText bytes read → P raw → P read
of_tree P {bytes} {raw} {read} text reads a = subst P (one_raw_tree bytes raw read text reads) a
