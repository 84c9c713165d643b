-- What a loop over a part of a stylesheet has found, one step at a time.
use Rattle.std.proofs.Common.{◌≡◌, ℕ, ◌+◌, ◌<◌, List, [], ◌++◌, refl, ap, ◌∙◌, sym, map, Bor, length, get_or, drop, append_assoc, flat_map, Result, Ok, Err, OnOk}
use Rattle.std.proofs.lemmas.List.{append-nil, drop_more, get_or_default}
use Rattle.tc_model.specs.Sheets as s
use Rattle.tc_model.specs.Views as see
use Rattle.tc_model.specs.Symbols.{in_steps, in_path, in_test, in_tests, in_body, in_branches}
use Rattle.tc_beh.specs.AlikeSymbols.{itself, no_test_of}
use Rattle.tc_model.specs.declared.sheet.Step.{Step}
use Rattle.tc_model.specs.declared.sheet.Test.{Test}
use Rattle.tc_model.specs.declared.sheet.Branch.{Branch}
use Rattle.tc_model.specs.declared.sheet.Instr.{Instr}
use Rattle.tc_model.proofs.ViewsPath.{left_step, left_alternative, left_test}
use Rattle.tc_model.proofs.ViewsBody.{left_instruction, left_branch}

-- what follows from a result that is `Ok`
pub then_on_ok : {T E : Type 0} (r : Result T E) (P Q : Type 0) → (P → Q) → OnOk r P → OnOk r Q
then_on_ok (Ok x) P Q f h = f h
then_on_ok (Err e) P Q f h = h

-- two pieces that are found one after the other
pub two_pieces : (old mid new first second whole : List s.NodeTest) → mid ≡ old ++ first → whole ≡ first ++ second → new ≡ mid ++ second → new ≡ old ++ whole
two_pieces old mid new first second whole put is again =
    again ∙ (ap (λ l. l ++ second) put ∙ (append_assoc old first second ∙ ap (λ l. old ++ l) (sym is)))

-- one piece, and then the rest
pub after_one : (old new piece rest whole : List s.NodeTest) → new ≡ old ++ piece → whole ≡ piece ++ rest → new ++ rest ≡ old ++ whole
after_one old new piece rest whole put is = ap (λ l. l ++ rest) put ∙ (append_assoc old piece rest ∙ ap (λ l. old ++ l) (sym is))

-- two pieces, and then the rest
pub after_two : (old mid new first second rest whole : List s.NodeTest) → mid ≡ old ++ first → new ≡ mid ++ second → whole ≡ first ++ (second ++ rest) → new ++ rest ≡ old ++ whole
after_two old mid new first second rest whole put again is =
    after_one mid new second rest (second ++ rest) again refl ∙ after_one old mid first (second ++ rest) whole put is

-- a piece goes from what is left to what was found
pub moved : (old new piece left rest whole : List s.NodeTest) → new ≡ old ++ piece → left ≡ piece ++ rest → old ++ left ≡ whole → new ++ rest ≡ whole
moved old new piece left rest whole put front so_far =
    ap (λ l. l ++ rest) put ∙ (append_assoc old piece rest ∙ (ap (λ l. old ++ l) (sym front) ∙ so_far))

-- two pieces
pub moved_twice : (old mid new first second left rest whole : List s.NodeTest) → mid ≡ old ++ first → new ≡ mid ++ second → left ≡ first ++ (second ++ rest) → old ++ left ≡ whole → new ++ rest ≡ whole
moved_twice old mid new first second left rest whole put again front so_far =
    moved mid new second (second ++ rest) rest whole again refl (moved old mid first left (second ++ rest) whole put front so_far)

pub mapped_step : {X Y : Type 0} (f : X → Y) (g : Y → List s.NodeTest) (xs : List X) (i : ℕ) (x : X) → i < length xs → x ≡ get_or xs i x
    → flat_map g (map f (drop i xs)) ≡ g (f x) ++ flat_map g (map f (drop (i + 1) xs))
mapped_step f g xs i x h e = ap (λ l. flat_map g (map f l)) (drop_more xs i x h) ∙ ap (λ y. g (f y) ++ flat_map g (map f (drop (i + 1) xs))) (sym e)

abbrev pub steps_in : s.Steps → List s.NodeTest
steps_in = in_steps itself no_test_of

abbrev pub path_in : s.Path → List s.NodeTest
path_in = in_path itself no_test_of

abbrev pub test_in : s.Test → List s.NodeTest
test_in = in_test itself no_test_of

abbrev pub tests_in : s.Tests → List s.NodeTest
tests_in = in_tests itself no_test_of

abbrev pub body_in : s.Body → List s.NodeTest
body_in = in_body itself no_test_of

abbrev pub branches_in : s.Branches → List s.NodeTest
branches_in = in_branches itself no_test_of

pub step_step : (xs : List Step) (i : ℕ) (x : Step) → i < length xs → x ≡ get_or xs i x
    → steps_in (see.steps (drop i xs)) ≡ itself (see.node_test x.test) ++ (test_in (see.test x.when) ++ steps_in (see.steps (drop (i + 1) xs)))
step_step xs i x h e = ap steps_in (left_step xs i x h e)

pub alternative_step : (ws : List (Bor (List Step))) (i : ℕ) (x : Bor (List Step)) → i < length ws → x ≡ get_or ws i x
    → path_in (see.alternatives (drop i ws)) ≡ steps_in (see.steps x.now) ++ path_in (see.alternatives (drop (i + 1) ws))
alternative_step ws i x h e = ap path_in (left_alternative ws i x h e)

pub test_step : (ts : List Test) (i : ℕ) (x : Test) → i < length ts → x ≡ get_or ts i x
    → tests_in (see.tests (drop i ts)) ≡ test_in (see.test x) ++ tests_in (see.tests (drop (i + 1) ts))
test_step ts i x h e = ap tests_in (left_test ts i x h e)

pub instruction_step : (is : List Instr) (i : ℕ) (x : Instr) → i < length is → x ≡ get_or is i x
    → body_in (see.body (drop i is)) ≡ body_in (see.instruction x (see.body (drop (i + 1) is)))
instruction_step is i x h e = ap body_in (left_instruction is i x h e)

pub branch_step : (bs : List Branch) (i : ℕ) (x : Branch) (rest : s.Branches) → i < length bs → x ≡ get_or bs i x
    → branches_in (see.branches (drop i bs) rest) ≡ test_in (see.test x.test) ++ (body_in (see.body x.body.now) ++ branches_in (see.branches (drop (i + 1) bs) rest))
branch_step bs i x rest h e = ap branches_in (left_branch bs i x rest h e)

-- nothing is left
pub ended : (old left whole : List s.NodeTest) → old ++ left ≡ whole → left ≡ [] → old ≡ whole
ended old left whole so_far none = sym (append-nil old) ∙ (ap (λ l. old ++ l) (sym none) ∙ so_far)

-- an item that is read whatever stands for none
same_item : {X : Type 0} (xs : List X) (i : ℕ) (d : X) → i < length xs → get_or xs i d ≡ get_or xs i (get_or xs i d)
same_item xs i d h = get_or_default xs i d (get_or xs i d) h

-- what one item gives goes from what is left to what was found
pub mapped_moved : {X Y : Type 0} (f : X → Y) (g : Y → List s.NodeTest) (xs : List X) (i : ℕ) (d : X) (old new whole : List s.NodeTest) → i < length xs → new ≡ old ++ g (f (get_or xs i d))
    → old ++ flat_map g (map f (drop i xs)) ≡ whole → new ++ flat_map g (map f (drop (i + 1) xs)) ≡ whole
mapped_moved f g xs i d old new whole h put so_far =
    moved old new (g (f (get_or xs i d))) _ _ whole put (mapped_step f g xs i (get_or xs i d) h (same_item xs i d h)) so_far

-- what is found at a place goes from what is left to what was found
pub step_moved : (xs : List Step) (i : ℕ) (d : Step) (old mid new whole : List s.NodeTest) → i < length xs
    → mid ≡ old ++ itself (see.node_test (get_or xs i d).test) → new ≡ mid ++ test_in (see.test (get_or xs i d).when)
    → old ++ steps_in (see.steps (drop i xs)) ≡ whole → new ++ steps_in (see.steps (drop (i + 1) xs)) ≡ whole
step_moved xs i d old mid new whole h put again so_far =
    let x = get_or xs i d in
    moved_twice old mid new (itself (see.node_test x.test)) (test_in (see.test x.when)) _ _ whole put again (step_step xs i x h (same_item xs i d h)) so_far

pub alternative_moved : (ws : List (Bor (List Step))) (i : ℕ) (d : Bor (List Step)) (old new whole : List s.NodeTest) → i < length ws → new ≡ old ++ steps_in (see.steps (get_or ws i d).now)
    → old ++ path_in (see.alternatives (drop i ws)) ≡ whole → new ++ path_in (see.alternatives (drop (i + 1) ws)) ≡ whole
alternative_moved ws i d old new whole h put so_far =
    let x = get_or ws i d in
    moved old new (steps_in (see.steps x.now)) _ _ whole put (alternative_step ws i x h (same_item ws i d h)) so_far
