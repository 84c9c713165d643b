-- What contracts see of why a text has no meaning.
use Rattle.std.specs.Prelude.{◌≡◌, ◌⊎◌, ℕ}
use Rattle.tc_model.specs.Views.{place}
use Rattle.tc_read.specs.declared.faults.Reason.{Reason}
use Rattle.tc_read.specs.declared.faults.Reason.TheVariants as r
use Rattle.tc_read.specs.declared.faults.TextFault.{TextFault}
use Rattle.tc_read.specs.declared.faults.TextFault.TheVariants.{Refused, NoMemory}
use Rattle.tc_rnc.specs.declared.faults.RncFault.{RncFault}
use Rattle.tc_rnc.specs.declared.faults.RncFault.TheVariants as rnc
use Rattle.tc_sheet.specs.declared.faults.SheetFault.{SheetFault}
use Rattle.tc_sheet.specs.declared.faults.SheetFault.TheVariants as sheet
use Rattle.tc_xml.specs.declared.faults.XmlFault.{XmlFault}
use Rattle.tc_xml.specs.declared.faults.XmlFault.TheVariants as xml

-- the fault of a text by that of its reader

abbrev pub of_xml : XmlFault → TextFault
of_xml (xml.Malformed p) = Refused r.Malformed p
of_xml (xml.Unsupported p why) = Refused (r.Unsupported why) p
of_xml (xml.TooDeep p) = Refused r.TooDeep p
of_xml xml.NoMemory = NoMemory

abbrev pub of_rnc : RncFault → TextFault
of_rnc (rnc.Malformed p) = Refused r.Malformed p
of_rnc (rnc.Unsupported p why) = Refused (r.Unsupported why) p
of_rnc (rnc.TooDeep p) = Refused r.TooDeep p
of_rnc rnc.NoMemory = NoMemory

abbrev pub of_sheet : SheetFault → TextFault
of_sheet (sheet.Malformed p) = Refused r.Malformed p
of_sheet (sheet.Unsupported p why) = Refused (r.Unsupported why) p
of_sheet (sheet.TooDeep p) = Refused r.TooDeep p
of_sheet (sheet.Undefined p) = Refused r.Undefined p
of_sheet (sheet.CallLoop p) = Refused r.CallLoop p
of_sheet sheet.NoMemory = NoMemory

-- a text is refused as this relation says, or memory was
abbrev pub IsUnaccepted : (Reason → ℕ → Type 0) → TextFault → Type 0
IsUnaccepted refuses (Refused why p) = refuses why (place p)
IsUnaccepted refuses NoMemory = Unit {0}

-- the fault is one of a stylesheet's tree, of which this holds, or want of memory
abbrev pub IsOfTree : (SheetFault → Type 0) → TextFault → Type 0
IsOfTree P e = (e ≡ NoMemory) ⊎ ((fault : SheetFault) × P fault × (e ≡ of_sheet fault))
