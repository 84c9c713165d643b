-- What a stylesheet's text means is one stylesheet, and none where it is refused; and a run of it has one result.
use Rattle.std.proofs.Common.{◌≡◌, ◌<◌, ◌≤◌, inl, inr, ℕ, List, refl, ap, ◌∙◌, sym, subst, arith}
use Rattle.tc_decide.proofs.Documents.{no_document}
use Rattle.tc_model.specs.Chains.{top}
use Rattle.tc_model.specs.Meaning.{by_mode}
use Rattle.tc_model.specs.Outcomes.{Outcome}
use Rattle.tc_model.specs.RawTrees.{RawTrees}
use Rattle.tc_model.specs.Safety.{Transforms, IsResultOf}
use Rattle.tc_model.specs.SheetText as calls
use Rattle.tc_model.specs.SheetText.{SheetText}
use Rattle.tc_model.specs.Sheets.{Sheet}
use Rattle.tc_model.specs.Stripped.{stripped}
use Rattle.tc_model.specs.Trees.{Trees, normal_form}
use Rattle.tc_model.specs.XmlText.{XmlText}
use Rattle.tc_model.proofs.SheetTextUnique as faults
use Rattle.tc_model.proofs.SheetTextUnique.{one_sheet}
use Rattle.tc_model.proofs.Unique.{instantiates_unique}
use Rattle.tc_model.proofs.XmlTextTrees.{one_raw_tree}
use Rattle.tc_print.specs.ReadBack.{IsReadAs}
use Rattle.tc_read.specs.Refusals.{IsRefusedSheet}
use Rattle.tc_read.specs.Sheets.{IsSheetOf}
use Rattle.tc_read.specs.declared.faults.Reason.{Reason}
use Rattle.tc_read.specs.declared.faults.Reason.TheVariants.{Malformed, Unsupported, TooDeep, Undefined, Twice, Loop, BadStart, BadExcept, CallLoop}
use Rattle.tc_run.specs.Limits.{KeepsLimits}
use Rattle.tc_base.specs.declared.limits.TheConstants.{MOST_WORK, MOST_OPEN}
use Rattle.tc_sheet.specs.Changes.{Change, mended, flattened, both}
use Rattle.tc_sheet.specs.Faults.{IsNoneWith}
use Rattle.tc_sheet.proofs.Changes.{as_they_are}
use Rattle.tc_sheet.proofs.NamedAgain.{not_once}

-- the one tree of a text means its stylesheet
means_at : {bytes : List ℕ} {s : Sheet} → IsSheetOf bytes s → (raw : RawTrees) → XmlText bytes raw → SheetText raw s
means_at {bytes} {s} x raw text = subst (λ (h : RawTrees). SheetText h s) (one_raw_tree bytes x.raw raw x.text text) x.means

none_with : (c : Change) (raw : RawTrees) (s : Sheet) → IsNoneWith c raw → SheetText raw s → ⊥
none_with c raw s none t = none raw t.templates (as_they_are c raw) t.written

as_document : {bytes : List ℕ} {s : Sheet} (x : IsSheetOf bytes s) → IsReadAs bytes (stripped x.raw)
as_document x = record { raw = x.raw; spells = x.text; document = refl }

pub no_sheet : {bytes : List ℕ} {s : Sheet} (reason : Reason) (place : ℕ) → IsRefusedSheet bytes reason place → IsSheetOf bytes s → ⊥
no_sheet Malformed place (inl r) x = no_document Malformed place r (as_document x)
no_sheet Malformed place (inr r) x = let t = means_at x r.1.0 r.1.1 in not_once (r.1.2.1 r.1.0 t.templates (as_they_are both r.1.0) t.written) t.once
no_sheet (Unsupported why) place (inl r) x = no_document (Unsupported why) place r (as_document x)
no_sheet {s = s} (Unsupported why) place (inr r) x = none_with flattened r.0 s r.2.1 (means_at x r.0 r.1)
no_sheet TooDeep place (inl r) x = no_document TooDeep place r (as_document x)
no_sheet {s = s} TooDeep place (inr r) x = none_with mended r.0 s r.2.1 (means_at x r.0 r.1)
no_sheet {s = s} Undefined place r x = faults.no_sheet r.0 calls.undefined place s r.2 (means_at x r.0 r.1)
no_sheet {s = s} CallLoop place r x = faults.no_sheet r.0 calls.call_loop place s r.2 (means_at x r.0 r.1)
no_sheet Twice place r x = r
no_sheet Loop place r x = r
no_sheet BadStart place r x = r
no_sheet BadExcept place r x = r

-- a text has one stylesheet
pub one_sheet_of : {bytes : List ℕ} {s t : Sheet} → IsSheetOf bytes s → IsSheetOf bytes t → s ≡ t
one_sheet_of {bytes} {s} {t} x y = one_sheet y.raw s t (means_at x y.raw y.text) y.means

one_outcome : (s : Sheet) (d : Trees) (o p : Outcome) → Transforms s d o → Transforms s d p → o ≡ p
one_outcome s d o p t u = instantiates_unique s (by_mode 0) (top d) o p t u

pub over_work : (s : Sheet) (d : Trees) (o : Outcome) → Transforms s d o → MOST_WORK < o.work → KeepsLimits s d → ⊥
over_work s d o t p k = let few = subst (λ (x : Outcome). x.work ≤ MOST_WORK) (one_outcome s d k.0 o k.1 t) k.2 in omega (arith, p, few)

pub over_open : (s : Sheet) (d : Trees) (o : Outcome) → Transforms s d o → MOST_OPEN < o.nesting → KeepsLimits s d → ⊥
over_open s d o t p k = let low = subst (λ (x : Outcome). x.nesting ≤ MOST_OPEN) (one_outcome s d k.0 o k.1 t) k.3 in omega (arith, p, low)

pub one_result : (s : Sheet) (d r q : Trees) → IsResultOf s d r → IsResultOf s d q → r ≡ q
one_result s d r q x y = x.2 ∙ (ap (λ (o : Outcome). normal_form o.out) (one_outcome s d x.0 y.0 x.1 y.1) ∙ sym y.2)
