-- How lists of classes and patterns are made.
use Rattle.std.proofs.Common.{◌≡◌, ℕ, zero, suc, ◌+◌, ◌<◌, ◌≤◌, List, [], ◌∷◌, ◌++◌, refl, ap, ◌∙◌, sym, arith, length, get_or, drop, Result, Ok, Err, IfOk}
use Rattle.tc_model.specs.Grammars as g
use Rattle.tc_model.specs.Views as seen
use Rattle.tc_model.specs.Simplifies.{Element, name_class, name_classes}
use Rattle.tc_model.specs.declared.grammar.NameClass.{NameClass}
use Rattle.tc_model.specs.declared.grammar.Pat.{Pat}
use Rattle.tc_model.proofs.ViewsGrammar.{classes_then, pushed_class, classes_then_assoc, classes_then_none, patterns_then, pushed_pattern, patterns_then_assoc, patterns_then_none}
use Rattle.tc_rnc.specs.Views as see
use Rattle.tc_rnc.proofs.Views.{left_pattern, left_class}
use Rattle.tc_rnc.specs.declared.syntax.SClass.{SClass}
use Rattle.tc_rnc.specs.declared.syntax.SPat.{SPat}
use Rattle.tc_simple.specs.Becoming.{becomes, all_become}

pub drop_all : {X : Type 0} (xs : List X) (n : ℕ) → length xs ≤ n → drop n xs ≡ []
drop_all [] zero h = refl
drop_all [] (suc n) h = refl
drop_all (x ∷ xs) zero h = absurd (omega (arith, h))
drop_all (x ∷ xs) (suc n) h = drop_all xs n (omega (arith, h))

pub classes_more : (cs : List SClass) (i : ℕ) (x : SClass) (c : NameClass) (out new : List NameClass) → i < length cs → x ≡ get_or cs i x → seen.class c ≡ name_class (see.class x) → new ≡ out ++ c ∷ []
    → classes_then (seen.classes new) (name_classes (see.classes (drop (i + 1) cs))) ≡ classes_then (seen.classes out) (name_classes (see.classes (drop i cs)))
classes_more cs i x c out new small is same e =
    let rest : g.NameClasses = name_classes (see.classes (drop (i + 1) cs)) in
    ap (λ z. classes_then (seen.classes z) rest) e
    ∙ (ap (λ z. classes_then z rest) (pushed_class out c)
    ∙ (classes_then_assoc (seen.classes out) (g.class (seen.class c) g.no_class) rest
    ∙ (ap (λ z. classes_then (seen.classes out) (g.class z rest)) same
    ∙ ap (λ z. classes_then (seen.classes out) (name_classes z)) (sym (left_class cs i x small is)))))

pub classes_end : (cs : List SClass) (i : ℕ) (out : List NameClass) → length cs ≤ i → classes_then (seen.classes out) (name_classes (see.classes (drop i cs))) ≡ name_classes (see.classes cs)
    → seen.classes out ≡ name_classes (see.classes cs)
classes_end cs i out all h =
    sym (classes_then_none (seen.classes out)) ∙ (ap (λ z. classes_then (seen.classes out) (name_classes (see.classes z))) (sym (drop_all cs i all)) ∙ h)

pub patterns_more : (f : List ℕ → g.Pattern) (es : List Element) (ps : List SPat) (i : ℕ) (x : SPat) (p : Pat) (out new : List Pat) → i < length ps → x ≡ get_or ps i x
    → seen.pattern p ≡ becomes f es (see.pattern x) → new ≡ out ++ p ∷ []
    → patterns_then (seen.patterns new) (all_become f es (see.patterns (drop (i + 1) ps))) ≡ patterns_then (seen.patterns out) (all_become f es (see.patterns (drop i ps)))
patterns_more f es ps i x p out new small is same e =
    let rest : g.Patterns = all_become f es (see.patterns (drop (i + 1) ps)) in
    ap (λ z. patterns_then (seen.patterns z) rest) e
    ∙ (ap (λ z. patterns_then z rest) (pushed_pattern out p)
    ∙ (patterns_then_assoc (seen.patterns out) (g.more (seen.pattern p) g.no_more) rest
    ∙ (ap (λ z. patterns_then (seen.patterns out) (g.more z rest)) same
    ∙ ap (λ z. patterns_then (seen.patterns out) (all_become f es z)) (sym (left_pattern ps i x small is)))))

pub patterns_end : (f : List ℕ → g.Pattern) (es : List Element) (ps : List SPat) (i : ℕ) (out : List Pat) → length ps ≤ i
    → patterns_then (seen.patterns out) (all_become f es (see.patterns (drop i ps))) ≡ all_become f es (see.patterns ps) → seen.patterns out ≡ all_become f es (see.patterns ps)
patterns_end f es ps i out all h =
    sym (patterns_then_none (seen.patterns out)) ∙ (ap (λ z. patterns_then (seen.patterns out) (all_become f es (see.patterns z))) (sym (drop_all ps i all)) ∙ h)

-- where a call's result is what another clause asks for
pub made_so : {E : Type 0} (r : Result Pat E) (x y : g.Pattern) → IfOk r (λ p. seen.pattern p ≡ x) → x ≡ y → IfOk r (λ p. seen.pattern p ≡ y)
made_so (Ok p) x y h e = h ∙ e
made_so (Err n) x y h e = h
