-- Phrases that take all of the tokens, where what is in scope was looked up before.
use Rattle.std.proofs.Common.{◌≡◌, Bool, List, [], sym, subst, Result, IfErr}
use Rattle.std.specs.Result.{IsErrAnd}
use Rattle.tc_model.specs.RawTrees.{Bound}
use Rattle.tc_model.specs.Sheets.{Path, Test, Tests}
use Rattle.tc_model.specs.PathTextTokens.{Token}
use Rattle.tc_model.specs.PathTextPhrases.{SelectAt, OrAt, disjunction}
use Rattle.tc_model.specs.PathText.{IsTest, of_tests}
use Rattle.tc_model.proofs.PathTextUnique.{select_unique, or_unique}
use Rattle.tc_path.specs.declared.PathFault.{PathFault}
use Rattle.tc_path.specs.declared.PathFault.TheVariants.{NoMemory}
use Rattle.tc_path.specs.Faults.{OrNoMemory}
use Rattle.tc_path.proofs.Refusals.{same_error, no_memory}

-- want of memory that is handed on
pub memory_on : {T : Type 0} (Q : Type 0) (r : Result T PathFault) (x : PathFault) → IsErrAnd r (λ e. e ≡ x) → x ≡ NoMemory → IfErr r (λ e. OrNoMemory e Q)
memory_on Q r x h e = same_error (λ f. OrNoMemory f Q) r x h (no_memory x Q e)

module _ {known scope : List Bound} (same : known ≡ scope) where
  pub select_ends : {ts rest : List Token} {q : Path} {drops : Bool} → rest ≡ [] → SelectAt known ts q drops rest → SelectAt scope ts q drops []
  select_ends {ts} {rest} {q} {drops} e a = subst (λ s. SelectAt s ts q drops []) same (subst (SelectAt known ts q drops) e a)

  pub select_goes_on : {ts rest : List Token} {q : Path} {drops : Bool} → (rest ≡ [] → ⊥) → SelectAt known ts q drops rest → (r : Path) (d : Bool) → SelectAt scope ts r d [] → ⊥
  select_goes_on {ts} {rest} {q} {drops} h a r d b = h (select_unique scope (subst (λ s. SelectAt s ts q drops rest) same a) b).2

  pub no_select : {ts : List Token} → ((q : Path) (drops : Bool) (after : List Token) → SelectAt known ts q drops after → ⊥) → (q : Path) (drops : Bool) → SelectAt scope ts q drops [] → ⊥
  no_select {ts} h q drops a = h q drops [] (subst (λ s. SelectAt s ts q drops []) (sym same) a)

  pub test_ends : {ts rest : List Token} {us : Tests} (t : Test) → rest ≡ [] → OrAt known ts us rest → t ≡ disjunction us → IsTest scope t ts
  test_ends {ts} {us = us} t e a f = subst (λ w. IsTest scope w ts) (sym f) (of_tests (subst (λ s. OrAt s ts us []) same (subst (OrAt known ts us) e a)))

  pub test_goes_on : {ts rest : List Token} {us : Tests} → (rest ≡ [] → ⊥) → OrAt known ts us rest → (t : Test) → IsTest scope t ts → ⊥
  test_goes_on {ts} {rest} {us} h a t (of_tests b) = h (or_unique scope (subst (λ s. OrAt s ts us rest) same a) b).1

  pub no_test : {ts : List Token} → ((us : Tests) (after : List Token) → OrAt known ts us after → ⊥) → (t : Test) → IsTest scope t ts → ⊥
  no_test {ts} h t (of_tests {us} b) = h us [] (subst (λ s. OrAt s ts us []) (sym same) b)
