-- Tests that are joined.
use Rattle.std.proofs.lemmas.Bool.{true≢false}
use Rattle.std.proofs.Common.{◌≡◌, ◌<◌, ◌==◌, false, List, [], ◌∷◌, refl, ap, ◌∙◌, sym, length, arith, Bor}
use Rattle.tc_model.specs.Sheets as s
use Rattle.tc_model.specs.Views.{test, tests}
use Rattle.tc_model.specs.declared.sheet.Test.{Test}
use Rattle.tc_model.specs.declared.sheet.Test.TheVariants as v
use Rattle.tc_model.specs.PathTextPhrases.{conjunction, disjunction}
use Rattle.tc_model.proofs.ViewsPath.{see_true, see_false, see_and, see_or}

pub none_all : (ts : List Test) → ts ≡ [] → test v.True ≡ conjunction (tests ts)
none_all ts e = see_true ∙ ap (λ w. conjunction (tests w)) (sym e)

pub one_all : (ts : List Test) (t : Test) (rest : List Test) → ts ≡ t ∷ rest → rest ≡ [] → test t ≡ conjunction (tests ts)
one_all ts t rest e f = ap (λ w. conjunction (tests (t ∷ w))) (sym f) ∙ ap (λ w. conjunction (tests w)) (sym e)

many : (t : Test) (rest : List Test) → 0 < length rest → s.all_of (tests (t ∷ rest)) ≡ conjunction (tests (t ∷ rest))
many t [] l = absurd (omega arith)
many t (u ∷ us) l = refl

pub many_all : (ts : Bor (List Test)) (t : Test) (rest : List Test) → ts.now ≡ t ∷ rest → 0 < length rest → test (v.And ts) ≡ conjunction (tests ts.now)
many_all ts t rest e l = see_and ts ∙ (ap (λ w. s.all_of (tests w)) e ∙ (many t rest l ∙ ap (λ w. conjunction (tests w)) (sym e)))

pub none_any : (ts : List Test) → ts ≡ [] → test v.False ≡ disjunction (tests ts)
none_any ts e = see_false ∙ ap (λ w. disjunction (tests w)) (sym e)

pub one_any : (ts : List Test) (t : Test) (rest : List Test) → ts ≡ t ∷ rest → rest ≡ [] → test t ≡ disjunction (tests ts)
one_any ts t rest e f = ap (λ w. disjunction (tests (t ∷ w))) (sym f) ∙ ap (λ w. disjunction (tests w)) (sym e)

some : (t : Test) (rest : List Test) → 0 < length rest → s.any_of (tests (t ∷ rest)) ≡ disjunction (tests (t ∷ rest))
some t [] l = absurd (omega arith)
some t (u ∷ us) l = refl

pub many_any : (ts : Bor (List Test)) (t : Test) (rest : List Test) → ts.now ≡ t ∷ rest → 0 < length rest → test (v.Or ts) ≡ disjunction (tests ts.now)
many_any ts t rest e l = see_or ts ∙ (ap (λ w. s.any_of (tests w)) e ∙ (some t rest l ∙ ap (λ w. disjunction (tests w)) (sym e)))

pub not_none : {X : Type 0} (xs : List X) → (length xs == 0) ≡ false → 0 < length xs
not_none [] e = absurd (true≢false e)
not_none (x ∷ xs) e = omega arith
