use Rattle.std.proofs.Common.{◌≡◌, Bool, true, false, List, [], ◌∷◌, refl, sym, subst, ◌∙◌}
use Rattle.std.proofs.lemmas.Bool.{true≢false}
use Rattle.tc_model.specs.RawTrees.{Bound}
use Rattle.tc_model.specs.Sheets.{Body, Path, no_instruction, value, value_of_self}
use Rattle.tc_model.specs.PathTextTokens.{Token, mark, dot}
use Rattle.tc_model.specs.PathTextPhrases.{SelectAt}
use Rattle.tc_model.specs.PathText.{IsValue, of_self, of_path}
use Rattle.tc_model.proofs.PathTextUnique.{select_unique}
use Rattle.tc_model.proofs.ViewsBody.{see_value_of, see_value_of_self}
use Rattle.tc_path.proofs.Refusals.{failed_ok}
use Rattle.tc_path.proofs.whole.whole_value.Goals as goal

self_is : {scope : List Bound} {ts : List Token} (b : Body) → ts ≡ mark dot ∷ [] → b ≡ value_of_self no_instruction → IsValue scope b ts
self_is {scope} {ts} b e f = subst (λ w. IsValue scope w ts) (sym f) (subst (IsValue scope (value_of_self no_instruction)) (sym e) of_self)

path_is : {scope : List Bound} {ts : List Token} {q : Path} {drops : Bool} (b : Body) → SelectAt scope ts q drops [] → drops ≡ false → b ≡ value q no_instruction → IsValue scope b ts
path_is {scope} {ts} {q} b a e f = subst (λ w. IsValue scope w ts) (sym f) (of_path (subst (λ d. SelectAt scope ts q d []) e a))

no_dropped : {scope : List Bound} {ts : List Token} {q : Path} {drops : Bool} {b : Body} → (ts ≡ mark dot ∷ [] → ⊥) → SelectAt scope ts q drops [] → drops ≡ true → IsValue scope b ts → ⊥
no_dropped h a e of_self = h refl
no_dropped {scope} h a e (of_path b) = true≢false (sym e ∙ (select_unique scope a b).1)

no_value : {scope : List Bound} {ts : List Token} {b : Body} → (ts ≡ mark dot ∷ [] → ⊥) → ((q : Path) (drops : Bool) → SelectAt scope ts q drops [] → ⊥) → IsValue scope b ts → ⊥
no_value h k of_self = h refl
no_value h k (of_path {p = q} b) = k q false b

pub returns-then-is_dot-clause-ok : goal.returns-then-is_dot-clause-ok
returns-then-is_dot-clause-ok c = self_is _ c.if-is_dot.ensures (see_value_of_self no_instruction)

pub returns-then-drops-clause-no : goal.returns-then-drops-clause-no
returns-then-drops-clause-no c = λ v a. no_dropped c.if-is_dot.ensures c.in_ok-path.ensures.ok c.if-drops.true a

pub returns-clause-ok : goal.returns-clause-ok
returns-clause-ok c = path_is _ c.in_ok-path.ensures.ok c.if-drops.false (see_value_of c.in_ok-path.path no_instruction)

pub returns-in_err-path-clause-ok : goal.returns-in_err-path-clause-ok
returns-in_err-path-clause-ok c = failed_ok c.from_residual.result _ _ c.from_residual.ensures.1
