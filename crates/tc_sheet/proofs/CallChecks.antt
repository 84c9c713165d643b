-- What the calls of templates that were read say of their names.
use Rattle.std.proofs.Common.{◌≡◌, ℕ, ◌+◌, ◌<◌, ◌≤◌, List, ap, ◌∙◌, sym, subst, Option, None, Some, length, All, map, drop, get_or}
use Rattle.std.proofs.lemmas.List.{drop_all}
use Rattle.std.specs.List.{AllByRecursion, IsDistinct}
use Rattle.tc_graph.specs.Graph.{IsGraph}
use Rattle.tc_graph.specs.Walks.{AreComponents}
use Rattle.tc_graph.specs.declared.cycles.State.{State}
use Rattle.tc_model.specs.Names.{ExpandedName, same_name}
use Rattle.tc_model.specs.Views.{place}
use Rattle.tc_model.specs.SheetText.{names_of, calls_in_body, StandingCall, calls_of, IsFirst, IsDefined, IsLoop}
use Rattle.tc_model.specs.SheetTextTrees as s
use Rattle.tc_sheet.specs.Graphs.{first_back, IsWithin, callees, numbered_calls, is_undefined, first_undefined, IsFirstUndefined, all_calls, IsCallFault}
use Rattle.tc_sheet.specs.Views.{template}
use Rattle.tc_sheet.specs.SeenCalls.{call}
use Rattle.tc_sheet.specs.declared.calls.Call.{Call}
use Rattle.tc_sheet.specs.declared.faults.SheetFault.{SheetFault}
use Rattle.tc_sheet.specs.declared.faults.SheetFault.TheVariants.{Malformed, Unsupported, TooDeep, Undefined, CallLoop, NoMemory}
use Rattle.tc_sheet.specs.declared.written.Template.{Template}
use Rattle.tc_sheet.proofs.CallLaws.{first_append, first_before, first_is_undefined, defined_calls, is_graph, calls_within, loops_none, loops_first, all_unmap}
use Rattle.tc_sheet.proofs.TableKeys.{left_templates}

-- a template whose calls all are defined, and one of which one isn't
module _ (ts : List Template) (k : ℕ) (d : Template) (h : k < length ts) (names : List ExpandedName) (all : Option ℕ) (e : first_undefined names (all_calls (map template (drop k ts))) ≡ all) where
  pub first_step : first_undefined names (calls_in_body (template (get_or ts k d)).body) ≡ None → first_undefined names (all_calls (map template (drop (k + 1) ts))) ≡ all
  first_step f =
      sym (first_append (is_undefined names) (λ c. c.place) (calls_in_body (template (get_or ts k d)).body) (all_calls (map template (drop (k + 1) ts))) f)
      ∙ (ap (λ z. first_undefined names (all_calls (map template z))) (sym (left_templates ts k d h)) ∙ e)

  first_found : (p : ℕ) → first_undefined names (calls_in_body (template (get_or ts k d)).body) ≡ Some p → all ≡ Some p
  first_found p f =
      sym e
      ∙ (ap (λ z. first_undefined names (all_calls (map template z))) (left_templates ts k d h)
      ∙ first_before (is_undefined names) (λ c. c.place) (calls_in_body (template (get_or ts k d)).body) (all_calls (map template (drop (k + 1) ts))) p f)

  pub undefined_fault : names ≡ names_of (map template ts) → all ≡ first_undefined names (all_calls (map template ts)) → (f : SheetFault)
      → IsFirstUndefined names (calls_in_body (template (get_or ts k d)).body) f → IsCallFault (map template ts) f
  undefined_fault is whole (Malformed p) i = absurd i
  undefined_fault is whole (Unsupported p why) i = absurd i
  undefined_fault is whole (TooDeep p) i = absurd i
  undefined_fault is whole (Undefined p) i =
      first_is_undefined (map template ts) (place p) (ap (λ n. first_undefined n (all_calls (map template ts))) (sym is) ∙ (sym whole ∙ first_found (place p) i))
  undefined_fault is whole (CallLoop p) i = absurd i
  undefined_fault is whole NoMemory i = tt

pub first_end : (ts : List Template) (k : ℕ) (names : List ExpandedName) (all : Option ℕ) → length ts ≤ k → first_undefined names (all_calls (map template (drop k ts))) ≡ all → all ≡ None
first_end ts k names all h e = sym e ∙ ap (λ z. first_undefined names (all_calls (map template z))) (drop_all k ts h)

-- where all calls are defined
module _ (ts : List s.Template) (names : List ExpandedName) (is : names ≡ names_of ts) (once : IsDistinct same_name names) (first : first_undefined names (all_calls ts) ≡ None) where
  differ : IsDistinct same_name (names_of ts)
  differ = subst (IsDistinct same_name) is once

  defined : first_undefined (names_of ts) (all_calls ts) ≡ None
  defined = ap (λ n. first_undefined n (all_calls ts)) (sym is) ∙ first

  pub all_are_defined : All (λ c. IsDefined ts c.call) (calls_of ts)
  all_are_defined = defined_calls ts defined

  module _ (rows : List (List ℕ)) (rows_are : rows ≡ callees names ts) where
    same_rows : rows ≡ callees (names_of ts) ts
    same_rows = rows_are ∙ ap (λ n. callees n ts) is

    pub graph_rows : IsGraph rows
    graph_rows = subst IsGraph (sym same_rows) (is_graph ts differ defined)

    module _ (states : List State) (order : List ℕ) (cs : AreComponents rows states order) (calls : List Call) (calls_are : map call calls ≡ numbered_calls names ts) where
      components : AreComponents (callees (names_of ts) ts) states order
      components = subst (λ r. AreComponents r states order) same_rows cs

      same_calls : map call calls ≡ numbered_calls (names_of ts) ts
      same_calls = calls_are ∙ ap (λ n. numbered_calls n ts) is

      pub within_calls : All (λ c. IsWithin (length states) (call c)) calls
      within_calls = all_unmap (IsWithin (length states)) call calls (subst (AllByRecursion (IsWithin (length states))) (sym same_calls) (calls_within ts differ states order components defined))

      pub no_loops : None ≡ first_back states (map call calls) → All (λ c. IsLoop ts c → ⊥) (calls_of ts)
      no_loops e = loops_none ts differ states order components (ap (first_back states) (sym same_calls) ∙ sym e)

      pub has_loop : (p : ℕ) → Some p ≡ first_back states (map call calls) → All (λ c. IsDefined ts c.call) (calls_of ts) × ((c : StandingCall) × IsFirst (IsLoop ts) (calls_of ts) c × (c.call.place ≡ p))
      has_loop p e = (all_are_defined, loops_first ts differ states order components p (ap (first_back states) (sym same_calls) ∙ sym e))
