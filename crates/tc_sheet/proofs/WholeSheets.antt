-- What is said of a whole raw tree by what is said of its root.
use Rattle.std.proofs.Common.{◌≡◌, ◌∙◌, ℕ, Bor, List, ap, sym, subst, filter, All, Result, Ok, Err, IfOk, IfErr}
use Rattle.std.specs.List.{IsDistinct}
use Rattle.tc_base.specs.declared.Place.{Place}
use Rattle.tc_model.specs.Names.{ExpandedName, same_name}
use Rattle.tc_model.specs.RawTrees.{RawTrees, none, IsOneElement}
use Rattle.tc_model.specs.Views.{raw_tree, raw_element, sheet}
use Rattle.tc_model.specs.Sheets.{Sheet}
use Rattle.tc_model.specs.SheetTextTrees.{Template, is_used}
use Rattle.tc_model.specs.SheetTextPhrases.{IsStylesheet}
use Rattle.tc_model.specs.SheetText.{names_of, sheet_of, calls_of, IsDefined, IsLoop, SheetText}
use Rattle.tc_model.specs.declared.sheet.Sheet.{Sheet as Code}
use Rattle.tc_model.specs.declared.tree.Raw.{Raw}
use Rattle.tc_model.specs.declared.tree.Raw.TheVariants.{Elem, Text}
use Rattle.tc_model.specs.declared.tree.RawElem.{RawElem}
use Rattle.tc_model.proofs.ViewsRaw.{before_elem, before_text}
use Rattle.tc_sheet.specs.Faults.{IsCause, IsNoFaultOfCalls}
use Rattle.tc_sheet.specs.Graphs.{IsCallFault}
use Rattle.tc_sheet.specs.Tables.{IsTwice}
use Rattle.tc_sheet.specs.declared.faults.SheetFault.{SheetFault}
use Rattle.tc_sheet.specs.declared.faults.SheetFault.TheVariants.{NoMemory}
use Rattle.tc_sheet.specs.FaultClauses.{IsTold}
use Rattle.tc_sheet.proofs.SheetLaws.{always_unsupported, always_deep, no_undefined, no_loop, always_again, twice_cause, twice_no_call, calls_cause, calls_unsupported, calls_deep, calls_undefined, calls_loop, calls_again, used_names}

pub element_tree : (t : Raw) (e : RawElem) → t ≡ Elem e → raw_tree t ≡ raw_element e none
element_tree t e is = ap raw_tree is ∙ before_elem e none

pub no_text : (t : Raw) (s : Bor (List ℕ)) (p : Place) → t ≡ Text s p → IsOneElement (raw_tree t) → ⊥
no_text t s p is h = subst IsOneElement (ap raw_tree is ∙ before_text s p none) h

-- all that is said of a fault
pub told : (raw : RawTrees) (x : SheetFault) → IsCause raw x → IsNoFaultOfCalls x → IsTold raw x
told raw x a n = record {
  cause = a;
  unsupported = always_unsupported raw x a n;
  deep = always_deep raw x a n;
  no_template = no_undefined raw x a n;
  loops = no_loop raw x a n;
  again = always_again raw x a n;
}

pub told_memory : (raw : RawTrees) (x : SheetFault) → x ≡ NoMemory → IsTold raw x
told_memory raw x e = subst (IsTold raw) (sym e) (told raw NoMemory tt tt)

module _ (root : RawTrees) (ts : List Template) (read : IsStylesheet root ts) where
  pub told_twice : (x : SheetFault) → IsTwice ts x → IsTold root x
  told_twice x a = told root x (twice_cause root read x a) (twice_no_call root read x a)

  pub told_calls : IsDistinct same_name (names_of ts) → (used : List Template) → used ≡ filter is_used ts → (x : SheetFault) → IsCallFault used x → IsTold root x
  told_calls d used e x b =
      let a : IsCallFault (filter is_used ts) x = subst (λ us. IsCallFault us x) e b in
      record {
        cause = calls_cause root read d x a;
        unsupported = calls_unsupported root read x a;
        deep = calls_deep root read x a;
        no_template = calls_undefined root read d x a;
        loops = calls_loop root read d x a;
        again = calls_again root read d x a;
      }

  pub whole : IsDistinct same_name (names_of ts) → (used : List Template) → used ≡ filter is_used ts → All (λ c. IsDefined used c.call) (calls_of used) → All (λ c. IsLoop used c → ⊥) (calls_of used)
      → (s : Sheet) → s ≡ sheet_of used → SheetText root s
  whole d used e f g s h =
      let P : List Template → Type 0 = λ us. All (λ c. IsDefined us c.call) (calls_of us) × All (λ c. IsLoop us c → ⊥) (calls_of us) × (s ≡ sheet_of us) in
      let (f', g', h') = subst P e (f, g, h) in
      record { templates = ts; written = read; once = d; defined = f'; no_loop = g'; means = h' }

  pub whole_read : IsDistinct same_name (names_of ts) → (used now : List Template) → used ≡ filter is_used ts → now ≡ filter is_used ts → All (λ c. IsDefined used c.call) (calls_of used)
      → All (λ c. IsLoop used c → ⊥) (calls_of used) → (r : Result Code SheetFault) → IfOk r (λ x. sheet x ≡ sheet_of now) → IfOk r (λ x. SheetText root (sheet x))
  whole_read d used now e h f g (Ok x) i = whole d used e f g (sheet x) (i ∙ ap sheet_of (h ∙ sym e))
  whole_read d used now e h f g (Err x) i = tt

-- names of all templates are those of the ones that can be used
pub names_used : (ts used : List Template) (names : List ExpandedName) → used ≡ filter is_used ts → names ≡ names_of ts → names ≡ names_of used
names_used ts used names e f = f ∙ (sym (used_names ts) ∙ ap names_of (sym e))

-- what follows from all that is said of a fault, if there is one
pub tell : {X : Type 0} (raw : RawTrees) (P : SheetFault → Type 0) → ((x : SheetFault) → IsTold raw x → P x) → (r : Result X SheetFault) → IfErr r (IsTold raw) → IfErr r P
tell raw P f (Ok v) a = tt
tell raw P f (Err x) a = f x a
