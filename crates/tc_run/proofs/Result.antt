-- What is put out on the root by states is what the stylesheet puts out on the document.
use Rattle.std.proofs.Common.{◌≡◌, ◌+◌, List, refl, sym, subst, Result, Ok, Err, IsErrAnd, IfErr, arith}
use Rattle.tc_model.specs.Trees.{Trees}
use Rattle.tc_model.specs.Chains.{top}
use Rattle.tc_model.specs.Sheets.{Sheet, CallFreeBody}
use Rattle.tc_model.specs.Outcomes.{Outcome, counted}
use Rattle.tc_model.specs.Meaning.{by_mode, body_of}
use Rattle.tc_model.specs.Machine.{in_mode, u_mode, does_at}
use Rattle.tc_model.specs.Symbols.{Mention, symbols_of}
use Rattle.tc_model.specs.Numberings.{predicates_of}
use Rattle.tc_model.specs.Safety.{Transforms}
use Rattle.tc_model.proofs.TotalExact.{does_complete}
use Rattle.tc_rules.specs.Kept.{IsRulesOf, told}
use Rattle.tc_rules.specs.States.{AllInline, states}
use Rattle.tc_rules.specs.RulesView.{AreSymbolsWith}
use Rattle.tc_rules.specs.declared.rules.Rules.{Rules}
use Rattle.tc_rules.proofs.States.{states_tell}
use Rattle.tc_run.specs.Limits.{IsCause, IsPutOut}
use Rattle.tc_run.specs.Running.{IsRunner, HasBodies, sheet_by, symbols_by}
use Rattle.tc_run.specs.Spent.{Spends, IsPassed}
use Rattle.tc_run.specs.declared.RunFault.{RunFault}
use Rattle.tc_run.specs.declared.RunFault.TheVariants.{NoMemory}
use Rattle.tc_run.specs.declared.output.Output.{Output}
use Rattle.tc_run.specs.declared.runner.Runner.{Runner}
use Rattle.tc_rules.proofs.Looking.{all_unfold}
use Rattle.tc_run.proofs.Spending.{Fails, passed_more}

abbrev on_root : List Mention → Sheet → List CallFreeBody → Trees → Outcome
on_root symbols s bodies doc =
    counted (does_at (states symbols (predicates_of s) s.rules bodies) ((states symbols (predicates_of s) s.rules bodies).root_body (in_mode 0)) (top doc))

transforms : (symbols : List Mention) (s : Sheet) → AreSymbolsWith symbols s → (bodies : List CallFreeBody) → AllInline s.named s.rules bodies → (doc : Trees)
    → Transforms s doc (on_root symbols s bodies doc)
transforms symbols s (input, output, e) bodies all doc =
    let m = states (symbols_of input output s) (predicates_of s) s.rules bodies in
    let of = states_tell input output s bodies all in
    let p = m.root_body (in_mode 0) in
    subst (λ y. Transforms s doc (on_root y s bodies doc)) (sym e)
    (does_at m p (top doc), does_complete s.rules s.named m of (body_of s.rules (by_mode 0) (top doc)) p (top doc) (of.ruled (by_mode 0) (in_mode 0) (top doc) u_mode) (of.knows (in_mode 0) (top doc) tt), refl)

-- memory may be refused at any time
no_memory : (symbols : List Mention) (x : Rules) → IsRulesOf symbols x → (doc : Trees) (e : RunFault) → e ≡ NoMemory → IsCause (told x).sheet doc e
no_memory symbols x is doc e f =
    let s = (told x).sheet in
    let (bodies, all) = all_unfold s is.tells.well_formed s.rules is.tells.well_formed.rules in
    let o = on_root symbols s bodies doc in
    (o, transforms symbols s is.tells.symbols_are bodies all doc, subst (λ w. IsPassed w o.work o.nesting) (sym f) tt)

pub refused : (symbols : List Mention) (x : Rules) → IsRulesOf symbols x → (doc : Trees) {T : Type 0} (answer : Result T RunFault) → IsErrAnd answer (λ e. e ≡ NoMemory)
    → IfErr answer (λ e. IsCause (told x).sheet doc e)
refused symbols x is doc (Ok v) h = absurd h
refused symbols x is doc (Err e) h = no_memory symbols x is doc e h

-- what a call told is told
pub told_as : {T : Type 0} (answer : Result T RunFault) (e : RunFault) (Q : RunFault → Type 0) → IsErrAnd answer (λ d. d ≡ e) → Q e → IfErr answer Q
told_as (Ok v) e Q h q = absurd h
told_as (Err d) e Q h q = subst Q (sym h) q

module _ (r : Runner) (is : IsRunner r) (doc : Trees) (x y : Output) (no_work : x.work ≡ 0) where
  pub is_put_out : ((bodies : List CallFreeBody) → HasBodies r bodies → Spends 0 x y (on_root (symbols_by r) (sheet_by r) bodies doc)) → IsPutOut (sheet_by r) doc x.taken y.taken
  is_put_out h =
      let (bodies, all) = all_unfold (sheet_by r) is.tells.well_formed (sheet_by r).rules is.tells.well_formed.rules in
      let s = h bodies all in
      record {
        outcome = on_root (symbols_by r) (sheet_by r) bodies doc;
        transforms = transforms (symbols_by r) (sheet_by r) is.tells.symbols_are bodies all doc;
        takes = s.out;
        few = omega (arith, s.work, s.few, no_work);
        low = omega (arith, s.low);
      }

  pub passes : (e : RunFault) → ((bodies : List CallFreeBody) → HasBodies r bodies → Fails 0 x e (on_root (symbols_by r) (sheet_by r) bodies doc))
      → IsCause (sheet_by r) doc e
  passes e h =
      let (bodies, all) = all_unfold (sheet_by r) is.tells.well_formed (sheet_by r).rules is.tells.well_formed.rules in
      let o = on_root (symbols_by r) (sheet_by r) bodies doc in (
        o,
        transforms (symbols_by r) (sheet_by r) is.tells.symbols_are bodies all doc,
        passed_more e (x.work + o.work) o.work (0 + o.nesting) o.nesting (omega (arith, no_work)) (omega arith) (h bodies all),
      )
