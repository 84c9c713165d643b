-- What a layer of a path or a test is, seen as plain data.
use Rattle.std.proofs.Common.{◌≡◌, ℕ, ◌+◌, ◌<◌, List, [], ◌∷◌, ◌++◌, refl, ap, ◌∙◌, sym, map, Bor, length, get_or, drop}
use Rattle.std.proofs.lemmas.List.{drop_more}
use Rattle.tc_model.specs.Sheets as s
use Rattle.tc_model.specs.Views.{node_test, step_layers, alternative_list, test_list, step_layer, path_layer, test_layer, test, tests, steps, alternatives, path}
use Rattle.tc_model.specs.declared.sheet.Step.{Step}
use Rattle.tc_model.specs.declared.sheet.Path.{Path, out-Path, roll-Path, out-roll-Path}
use Rattle.tc_model.specs.declared.sheet.Test.{Test}
use Rattle.tc_model.specs.declared.sheet.Test.TheOpen as parts
use Rattle.tc_model.specs.declared.sheet.Test.TheShapes.{former-Path-alts-at-1}
use Rattle.tc_model.specs.declared.sheet.Test.TheVariants as v
use Rattle.tc_model.specs.declared.sheet.Test.TheFolds.{fold-Step, fold-Path, fold-roll-Test, fold_out-Step, fold_out-Path}

abbrev folded_step : Step → s.Steps → s.Steps
folded_step = fold-Step s.Test s.Path (s.Steps → s.Steps) test_layer path_layer step_layer

abbrev folded_path : Path → s.Path
folded_path = fold-Path s.Test s.Path (s.Steps → s.Steps) test_layer path_layer step_layer

folded_step_is : (x : Step) (rest : s.Steps) → folded_step x rest ≡ s.step x.deep (node_test x.test) (test x.when) rest
folded_step_is x rest = ap (λ (f : s.Steps → s.Steps). f rest) (fold_out-Step s.Test s.Path (s.Steps → s.Steps) test_layer path_layer step_layer x)

steps_map : (xs : List Step) → step_layers (map folded_step xs) ≡ steps xs
steps_map [] = refl
steps_map (x ∷ xs) = folded_step_is x (step_layers (map folded_step xs)) ∙ ap (s.step x.deep (node_test x.test) (test x.when)) (steps_map xs)

alternatives_map : (ws : List (Bor (List Step))) → alternative_list (map (former-Path-alts-at-1.map Step (s.Steps → s.Steps) folded_step) ws) ≡ alternatives ws
alternatives_map [] = refl
alternatives_map (w ∷ ws) = ap (λ x. s.alternative x (alternative_list (map (former-Path-alts-at-1.map Step (s.Steps → s.Steps) folded_step) ws))) (steps_map w.now) ∙ ap (s.alternative (steps w.now)) (alternatives_map ws)

folded_path_is : (p : Path) → folded_path p ≡ path p
folded_path_is p = fold_out-Path s.Test s.Path (s.Steps → s.Steps) test_layer path_layer step_layer p ∙ alternatives_map (out-Path p).alts.now

tests_map : (ts : List Test) → test_list (map test ts) ≡ tests ts
tests_map [] = refl
tests_map (t ∷ ts) = ap (s.test (test t)) (tests_map ts)

pub see_true : test v.True ≡ s.always
see_true = ap test (sym v.rolls-True) ∙ fold-roll-Test s.Test s.Path (s.Steps → s.Steps) test_layer path_layer step_layer parts.True

pub see_false : test v.False ≡ s.never
see_false = ap test (sym v.rolls-False) ∙ fold-roll-Test s.Test s.Path (s.Steps → s.Steps) test_layer path_layer step_layer parts.False

pub see_has : (p : Path) → test (v.Has p) ≡ s.has (path p)
see_has p =
    ap test (sym (v.rolls-Has p))
    ∙ (fold-roll-Test s.Test s.Path (s.Steps → s.Steps) test_layer path_layer step_layer (parts.Has p) ∙ ap s.has (folded_path_is p))

pub see_not : (t : Bor Test) → test (v.Not t) ≡ s.negated (test t.now)
see_not t = ap test (sym (v.rolls-Not t)) ∙ fold-roll-Test s.Test s.Path (s.Steps → s.Steps) test_layer path_layer step_layer (parts.Not t)

pub see_and : (ts : Bor (List Test)) → test (v.And ts) ≡ s.all_of (tests ts.now)
see_and ts =
    ap test (sym (v.rolls-And ts))
    ∙ (fold-roll-Test s.Test s.Path (s.Steps → s.Steps) test_layer path_layer step_layer (parts.And ts) ∙ ap s.all_of (tests_map ts.now))

pub see_or : (ts : Bor (List Test)) → test (v.Or ts) ≡ s.any_of (tests ts.now)
see_or ts =
    ap test (sym (v.rolls-Or ts))
    ∙ (fold-roll-Test s.Test s.Path (s.Steps → s.Steps) test_layer path_layer step_layer (parts.Or ts) ∙ ap s.any_of (tests_map ts.now))

pub see_path : (a : Bor (List (Bor (List Step)))) → path (roll-Path (record { alts = a })) ≡ alternatives a.now
see_path a = ap (λ (x : parts.Path-F Test Path Step). alternatives x.alts.now) (out-roll-Path (record { alts = a }))

pub ruleset see_test = (see_true, see_false, see_has, see_not, see_and, see_or, see_path)

-- one step of a loop over a slice: what is left begins with the step, the alternative or the test x
pub left_step : (xs : List Step) (i : ℕ) (x : Step) → i < length xs → x ≡ get_or xs i x
    → steps (drop i xs) ≡ s.step x.deep (node_test x.test) (test x.when) (steps (drop (i + 1) xs))
left_step xs i x h e = ap steps (drop_more xs i x h) ∙ ap (λ (y : Step). s.step y.deep (node_test y.test) (test y.when) (steps (drop (i + 1) xs))) (sym e)

pub left_alternative : (ws : List (Bor (List Step))) (i : ℕ) (x : Bor (List Step)) → i < length ws → x ≡ get_or ws i x → alternatives (drop i ws) ≡ s.alternative (steps x.now) (alternatives (drop (i + 1) ws))
left_alternative ws i x h e = ap alternatives (drop_more ws i x h) ∙ ap (λ (y : Bor (List Step)). s.alternative (steps y.now) (alternatives (drop (i + 1) ws))) (sym e)

pub left_test : (ts : List Test) (i : ℕ) (x : Test) → i < length ts → x ≡ get_or ts i x → tests (drop i ts) ≡ s.test (test x) (tests (drop (i + 1) ts))
left_test ts i x h e = ap tests (drop_more ts i x h) ∙ ap (λ y. s.test (test y) (tests (drop (i + 1) ts))) (sym e)

-- the steps of the first, and then those of the second
abbrev pub steps_then : s.Steps → s.Steps → s.Steps
steps_then s.no_step ys = ys
steps_then (s.step deep n when xs) ys = s.step deep n when (steps_then xs ys)

pub steps_append : (xs ys : List Step) → steps (xs ++ ys) ≡ steps_then (steps xs) (steps ys)
steps_append [] ys = refl
steps_append (x ∷ xs) ys = ap (s.step x.deep (node_test x.test) (test x.when)) (steps_append xs ys)

pub steps_then_none : (xs : s.Steps) → steps_then xs s.no_step ≡ xs
steps_then_none s.no_step = refl
steps_then_none (s.step deep n when xs) = ap (s.step deep n when) (steps_then_none xs)

pub steps_then_assoc : (a b d : s.Steps) → steps_then (steps_then a b) d ≡ steps_then a (steps_then b d)
steps_then_assoc s.no_step b d = refl
steps_then_assoc (s.step deep n when a) b d = ap (s.step deep n when) (steps_then_assoc a b d)

-- the alternatives of the first, and then those of the second
abbrev pub alternatives_then : s.Path → s.Path → s.Path
alternatives_then s.no_alternative q = q
alternatives_then (s.alternative x p) q = s.alternative x (alternatives_then p q)

pub alternatives_append : (vs ws : List (Bor (List Step))) → alternatives (vs ++ ws) ≡ alternatives_then (alternatives vs) (alternatives ws)
alternatives_append [] ws = refl
alternatives_append (x ∷ vs) ws = ap (s.alternative (steps x.now)) (alternatives_append vs ws)

pub alternatives_then_assoc : (a b d : s.Path) → alternatives_then (alternatives_then a b) d ≡ alternatives_then a (alternatives_then b d)
alternatives_then_assoc s.no_alternative b d = refl
alternatives_then_assoc (s.alternative x a) b d = ap (s.alternative x) (alternatives_then_assoc a b d)

-- the tests of the first, and then those of the second
abbrev pub tests_then : s.Tests → s.Tests → s.Tests
tests_then s.no_test us = us
tests_then (s.test t ts) us = s.test t (tests_then ts us)

pub tests_append : (ts us : List Test) → tests (ts ++ us) ≡ tests_then (tests ts) (tests us)
tests_append [] us = refl
tests_append (t ∷ ts) us = ap (s.test (test t)) (tests_append ts us)

pub pushed_test : (ts : List Test) (x : Test) → tests (ts ++ x ∷ []) ≡ tests_then (tests ts) (s.test (test x) s.no_test)
pushed_test ts x = tests_append ts (x ∷ [])

pub tests_then_none : (ts : s.Tests) → tests_then ts s.no_test ≡ ts
tests_then_none s.no_test = refl
tests_then_none (s.test t ts) = ap (s.test t) (tests_then_none ts)

pub tests_then_assoc : (a b d : s.Tests) → tests_then (tests_then a b) d ≡ tests_then a (tests_then b d)
tests_then_assoc s.no_test b d = refl
tests_then_assoc (s.test t a) b d = ap (s.test t) (tests_then_assoc a b d)
