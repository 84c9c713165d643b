-- A text spells a stylesheet or is refused, and not both.
use Rattle.std.proofs.Common.{inl, inr, ℕ, List}
use Rattle.tc_model.specs.RawTrees.{RawTrees}
use Rattle.tc_model.specs.Sheets.{Sheet}
use Rattle.tc_model.specs.XmlText.{XmlText}
use Rattle.tc_sheet.specs.Faults.{IsCause}
use Rattle.tc_sheet.specs.Laws.{IsRefusal}
use Rattle.tc_sheet.specs.declared.faults.SheetFault.{SheetFault}
use Rattle.tc_sheet.specs.declared.faults.SheetFault.TheVariants as f
use Rattle.tc_sheet.proofs.EachSheet.{no_sheet_with_cause, sheet_or_cause}
use Rattle.tc_xml.proofs.FaultLaws.{reads_element}
use Rattle.tc_read.specs.Refusals.{IsRefusedDocument, IsRefusedSheet}
use Rattle.tc_read.specs.SheetLaws.{HasNoSheet, HasSheetOrReason}
use Rattle.tc_read.specs.Sheets.{IsSheetOf}
use Rattle.tc_read.specs.declared.faults.Reason.{Reason}
use Rattle.tc_read.specs.declared.faults.Reason.TheVariants.{Malformed, Unsupported, TooDeep, Undefined, Twice, Loop, BadStart, BadExcept, CallLoop}
use Rattle.tc_read.proofs.DocumentReasons.{no_raw_tree, raw_tree_or_reason}
use Rattle.tc_read.proofs.RefusedTexts.{refused_tree}
use Rattle.tc_read.proofs.TextFaults.{of_tree}

-- a cause of the tree of a text leaves it no stylesheet
no_sheet_of_tree : {bytes : List ℕ} (x : SheetFault) (s : Sheet) → IsRefusal x → (raw : RawTrees) × XmlText bytes raw × IsCause raw x → IsSheetOf bytes s → ⊥
no_sheet_of_tree x s i (raw, t, c) m = no_sheet_with_cause m.raw x s i (of_tree (λ h. IsCause h x) t m.text c) m.means

pub no_sheet : HasNoSheet
no_sheet bytes Malformed k s (inl d) m = no_raw_tree bytes Malformed k m.raw d m.text
no_sheet bytes Malformed k s (inr (l, c)) m = no_sheet_of_tree (f.Malformed (record { 0 = k })) s tt c m
no_sheet bytes (Unsupported why) k s (inl d) m = no_raw_tree bytes (Unsupported why) k m.raw d m.text
no_sheet bytes (Unsupported why) k s (inr c) m = no_sheet_of_tree (f.Unsupported (record { 0 = k }) why) s tt c m
no_sheet bytes TooDeep k s (inl d) m = no_raw_tree bytes TooDeep k m.raw d m.text
no_sheet bytes TooDeep k s (inr c) m = no_sheet_of_tree (f.TooDeep (record { 0 = k })) s tt c m
no_sheet bytes Undefined k s c m = no_sheet_of_tree (f.Undefined (record { 0 = k })) s tt c m
no_sheet bytes CallLoop k s c m = no_sheet_of_tree (f.CallLoop (record { 0 = k })) s tt c m
no_sheet bytes Twice k s x m = x
no_sheet bytes Loop k s x m = x
no_sheet bytes BadStart k s x m = x
no_sheet bytes BadExcept k s x m = x

-- what is no text is refused as a stylesheet too
not_text : (bytes : List ℕ) (r : Reason) (k : ℕ) → IsRefusedDocument bytes r k → (why : Reason) × ((at : ℕ) × IsRefusedSheet bytes why at)
not_text bytes Malformed k d = (Malformed, (k, inl d))
not_text bytes (Unsupported why) k d = (Unsupported why, (k, inl d))
not_text bytes TooDeep k d = (TooDeep, (k, inl d))
not_text bytes Undefined k d = absurd d
not_text bytes Twice k d = absurd d
not_text bytes Loop k d = absurd d
not_text bytes BadStart k d = absurd d
not_text bytes BadExcept k d = absurd d
not_text bytes CallLoop k d = absurd d

-- the reason of a tree's cause
reason_of_tree : (bytes : List ℕ) (raw : RawTrees) → XmlText bytes raw → (x : SheetFault) → IsRefusal x → IsCause raw x → (why : Reason) × ((at : ℕ) × IsRefusedSheet bytes why at)
reason_of_tree bytes raw t (f.Malformed p) i c = (Malformed, (p.0, refused_tree bytes raw (f.Malformed p) t c))
reason_of_tree bytes raw t (f.Unsupported p why) i c = (Unsupported why, (p.0, refused_tree bytes raw (f.Unsupported p why) t c))
reason_of_tree bytes raw t (f.TooDeep p) i c = (TooDeep, (p.0, refused_tree bytes raw (f.TooDeep p) t c))
reason_of_tree bytes raw t (f.Undefined p) i c = (Undefined, (p.0, refused_tree bytes raw (f.Undefined p) t c))
reason_of_tree bytes raw t (f.CallLoop p) i c = (CallLoop, (p.0, refused_tree bytes raw (f.CallLoop p) t c))
reason_of_tree bytes raw t f.NoMemory i c = absurd i

pub sheet_or_reason : HasSheetOrReason
sheet_or_reason bytes = elim (raw_tree_or_reason bytes) [
  | inr (r, (k, x)) ↦ inr (not_text bytes r k x)
  | inl (raw, t) ↦ elim (sheet_or_cause raw (reads_element t)) [
    | inl (s, m) ↦ inl (s, record { raw = raw; text = t; means = m })
    | inr (x, (i, c)) ↦ inr (reason_of_tree bytes raw t x i c)
  ]
]
