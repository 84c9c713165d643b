-- What the usages of a stylesheet tell of is what the stylesheet has.
use Rattle.std.proofs.Common.{◌≡◌, ℕ, ◌+◌, List, [], ◌∷◌, ◌++◌, refl, ap, ◌∙◌, flat_map, append_assoc}
use Rattle.std.proofs.lemmas.Grind.{flat_map-append}
use Rattle.tc_model.specs.Sheets as s
use Rattle.tc_model.specs.Sheets.{no_instruction, put_text, put_element, copy, apply, call, for_each, value, value_of_self, choose, otherwise, branch}
use Rattle.tc_model.specs.Numbered.{each_once}
use Rattle.tc_model.specs.Numberings.{predicates_in_path, predicates_in_test, predicates_in_body, predicates_in_branches, predicates_of, looks_in_test, looks_in_body, looks_in_branches, looks_of, moves_in_body, moves_in_branches}
use Rattle.tc_model.specs.SameTests.{same_path, same_test}
use Rattle.tc_rules.specs.Eaches.{bodies_in, bodies_in_branches, bodies_of_eaches}
use Rattle.tc_rules.specs.Jobs.{written_moves}
use Rattle.tc_rules.specs.Gathered.{built_in_moves}
use Rattle.tc_rules.specs.Usages.{Usage, of_pattern, usages_in, usages_in_branches, usages_of_rules, usages_of, predicates_in_usage, looks_in_usage, moves_in_usage, eaches_in_usage}

-- two parts, each told of
module _ {X : Type 0} (f : Usage → List X) where
  two : (us vs : List Usage) (first second : List X) → flat_map f us ≡ first → flat_map f vs ≡ second → flat_map f (us ++ vs) ≡ first ++ second
  two us vs first second d e = flat_map-append f us vs ∙ (ap (λ w. w ++ flat_map f vs) d ∙ ap (λ w. first ++ w) e)

  -- of all rules, and of all bodies
  module _ (of_body : s.Body → List X) (in_body : (b : s.Body) → flat_map f (usages_in b) ≡ of_body b) where
    pub of_named : (bs : List s.Body) → flat_map f (flat_map usages_in bs) ≡ flat_map of_body bs
    of_named [] = refl
    of_named (b ∷ bs) = two (usages_in b) (flat_map usages_in bs) (of_body b) (flat_map of_body bs) (in_body b) (of_named bs)

    pub of_rules : (rs : List s.Rule) → flat_map f (usages_of_rules rs) ≡ flat_map (λ (r : s.Rule). f (of_pattern r.pattern) ++ of_body r.body) rs
    of_rules [] = refl
    of_rules (r ∷ rs) =
        let rest = flat_map (λ (r : s.Rule). f (of_pattern r.pattern) ++ of_body r.body) rs in
        flat_map-append f (of_pattern r.pattern ∷ usages_in r.body) (usages_of_rules rs)
        ∙ (ap (λ w. (f (of_pattern r.pattern) ++ w) ++ flat_map f (usages_of_rules rs)) (in_body r.body) ∙ ap (λ w. (f (of_pattern r.pattern) ++ of_body r.body) ++ w) (of_rules rs))

    pub of_sheet : (x : s.Sheet) → flat_map f (usages_of x) ≡ flat_map (λ (r : s.Rule). f (of_pattern r.pattern) ++ of_body r.body) x.rules ++ flat_map of_body x.named
    of_sheet x =
        two (usages_of_rules x.rules) (flat_map usages_in x.named) (flat_map (λ (r : s.Rule). f (of_pattern r.pattern) ++ of_body r.body) x.rules) (flat_map of_body x.named)
        (of_rules x.rules) (of_named x.named)

mutual
  pub predicates_body : (b : s.Body) → flat_map predicates_in_usage (usages_in b) ≡ predicates_in_body b
  predicates_body no_instruction = refl
  predicates_body (put_text x b) = predicates_body b
  predicates_body (put_element n inner b) = two predicates_in_usage (usages_in inner) (usages_in b) (predicates_in_body inner) (predicates_in_body b) (predicates_body inner) (predicates_body b)
  predicates_body (copy inner b) = two predicates_in_usage (usages_in inner) (usages_in b) (predicates_in_body inner) (predicates_in_body b) (predicates_body inner) (predicates_body b)
  predicates_body (apply p m b) = ap (λ w. predicates_in_path p ++ w) (predicates_body b)
  predicates_body (call n b) = predicates_body b
  predicates_body (value p b) = ap (λ w. predicates_in_path p ++ w) (predicates_body b)
  predicates_body (value_of_self b) = predicates_body b
  predicates_body (choose x b) = two predicates_in_usage (usages_in_branches x) (usages_in b) (predicates_in_branches x) (predicates_in_body b) (predicates_branches x) (predicates_body b)
  predicates_body (for_each e p inner b) = ap (λ w. predicates_in_path p ++ w) (two predicates_in_usage (usages_in inner) (usages_in b) (predicates_in_body inner) (predicates_in_body b) (predicates_body inner) (predicates_body b))

  predicates_branches : (x : s.Branches) → flat_map predicates_in_usage (usages_in_branches x) ≡ predicates_in_branches x
  predicates_branches (otherwise b) = predicates_body b
  predicates_branches (branch t b x) = ap (λ w. predicates_in_test t ++ w) (two predicates_in_usage (usages_in b) (usages_in_branches x) (predicates_in_body b) (predicates_in_branches x) (predicates_body b) (predicates_branches x))

mutual
  pub looks_body : (b : s.Body) → flat_map looks_in_usage (usages_in b) ≡ looks_in_body b
  looks_body no_instruction = refl
  looks_body (put_text x b) = looks_body b
  looks_body (put_element n inner b) = two looks_in_usage (usages_in inner) (usages_in b) (looks_in_body inner) (looks_in_body b) (looks_body inner) (looks_body b)
  looks_body (copy inner b) = two looks_in_usage (usages_in inner) (usages_in b) (looks_in_body inner) (looks_in_body b) (looks_body inner) (looks_body b)
  looks_body (apply p m b) = looks_body b
  looks_body (call n b) = looks_body b
  looks_body (value p b) = ap (λ w. p ∷ w) (looks_body b)
  looks_body (value_of_self b) = looks_body b
  looks_body (choose x b) = two looks_in_usage (usages_in_branches x) (usages_in b) (looks_in_branches x) (looks_in_body b) (looks_branches x) (looks_body b)
  looks_body (for_each e p inner b) = two looks_in_usage (usages_in inner) (usages_in b) (looks_in_body inner) (looks_in_body b) (looks_body inner) (looks_body b)

  looks_branches : (x : s.Branches) → flat_map looks_in_usage (usages_in_branches x) ≡ looks_in_branches x
  looks_branches (otherwise b) = looks_body b
  looks_branches (branch t b x) = ap (λ w. looks_in_test t ++ w) (two looks_in_usage (usages_in b) (usages_in_branches x) (looks_in_body b) (looks_in_branches x) (looks_body b) (looks_branches x))

mutual
  pub moves_body : (modes : ℕ) (b : s.Body) → flat_map (moves_in_usage modes) (usages_in b) ≡ moves_in_body modes b
  moves_body modes no_instruction = refl
  moves_body modes (put_text x b) = moves_body modes b
  moves_body modes (put_element n inner b) = two (moves_in_usage modes) (usages_in inner) (usages_in b) (moves_in_body modes inner) (moves_in_body modes b) (moves_body modes inner) (moves_body modes b)
  moves_body modes (copy inner b) = two (moves_in_usage modes) (usages_in inner) (usages_in b) (moves_in_body modes inner) (moves_in_body modes b) (moves_body modes inner) (moves_body modes b)
  moves_body modes (apply p m b) = ap (λ w. record { path = p; mode = m } ∷ w) (moves_body modes b)
  moves_body modes (call n b) = moves_body modes b
  moves_body modes (value p b) = moves_body modes b
  moves_body modes (value_of_self b) = moves_body modes b
  moves_body modes (choose x b) = two (moves_in_usage modes) (usages_in_branches x) (usages_in b) (moves_in_branches modes x) (moves_in_body modes b) (moves_branches modes x) (moves_body modes b)
  moves_body modes (for_each e p inner b) = ap (λ w. record { path = p; mode = modes + e } ∷ w) (two (moves_in_usage modes) (usages_in inner) (usages_in b) (moves_in_body modes inner) (moves_in_body modes b) (moves_body modes inner) (moves_body modes b))

  moves_branches : (modes : ℕ) (x : s.Branches) → flat_map (moves_in_usage modes) (usages_in_branches x) ≡ moves_in_branches modes x
  moves_branches modes (otherwise b) = moves_body modes b
  moves_branches modes (branch t b x) = two (moves_in_usage modes) (usages_in b) (usages_in_branches x) (moves_in_body modes b) (moves_in_branches modes x) (moves_body modes b) (moves_branches modes x)

mutual
  pub eaches_body : (b : s.Body) → flat_map eaches_in_usage (usages_in b) ≡ bodies_in b
  eaches_body no_instruction = refl
  eaches_body (put_text x b) = eaches_body b
  eaches_body (put_element n inner b) = two eaches_in_usage (usages_in inner) (usages_in b) (bodies_in inner) (bodies_in b) (eaches_body inner) (eaches_body b)
  eaches_body (copy inner b) = two eaches_in_usage (usages_in inner) (usages_in b) (bodies_in inner) (bodies_in b) (eaches_body inner) (eaches_body b)
  eaches_body (apply p m b) = eaches_body b
  eaches_body (call n b) = eaches_body b
  eaches_body (value p b) = eaches_body b
  eaches_body (value_of_self b) = eaches_body b
  eaches_body (choose x b) = two eaches_in_usage (usages_in_branches x) (usages_in b) (bodies_in_branches x) (bodies_in b) (eaches_branches x) (eaches_body b)
  eaches_body (for_each e p inner b) = ap (λ w. record { number = e; body = inner } ∷ w) (two eaches_in_usage (usages_in inner) (usages_in b) (bodies_in inner) (bodies_in b) (eaches_body inner) (eaches_body b))

  eaches_branches : (x : s.Branches) → flat_map eaches_in_usage (usages_in_branches x) ≡ bodies_in_branches x
  eaches_branches (otherwise b) = eaches_body b
  eaches_branches (branch t b x) = two eaches_in_usage (usages_in b) (usages_in_branches x) (bodies_in b) (bodies_in_branches x) (eaches_body b) (eaches_branches x)

-- of a stylesheet
pub predicates_are : (x : s.Sheet) (us : List Usage) → us ≡ usages_of x → each_once same_test (flat_map predicates_in_usage us) ≡ predicates_of x
predicates_are x us e = ap (λ w. each_once same_test (flat_map predicates_in_usage w)) e ∙ ap (each_once same_test) (of_sheet predicates_in_usage predicates_in_body predicates_body x)

pub moves_are : (x : s.Sheet) (us : List Usage) (k : ℕ) → us ≡ usages_of x → built_in_moves x.modes ++ flat_map (moves_in_usage k) us ≡ written_moves k x
moves_are x us k e = ap (λ w. built_in_moves x.modes ++ flat_map (moves_in_usage k) w) e ∙ ap (λ w. built_in_moves x.modes ++ w) (of_sheet (moves_in_usage k) (moves_in_body k) (moves_body k) x)

pub looks_are : (x : s.Sheet) (us : List Usage) (tests : List s.Test) → us ≡ usages_of x → tests ≡ predicates_of x → each_once same_path (flat_map looks_in_usage us ++ flat_map looks_in_test tests) ≡ looks_of x
looks_are x us tests e f =
    let of_rules = flat_map (λ (r : s.Rule). looks_in_body r.body) x.rules in
    let of_bodies = flat_map looks_in_body x.named in
    ap (λ w. each_once same_path (flat_map looks_in_usage w ++ flat_map looks_in_test tests)) e
    ∙ (ap (λ w. each_once same_path (w ++ flat_map looks_in_test tests)) (of_sheet looks_in_usage looks_in_body looks_body x)
    ∙ (ap (each_once same_path) (append_assoc of_rules of_bodies (flat_map looks_in_test tests))
    ∙ ap (λ w. each_once same_path (of_rules ++ (of_bodies ++ flat_map looks_in_test w))) f))

pub eaches_are : (x : s.Sheet) (us : List Usage) → us ≡ usages_of x → flat_map eaches_in_usage us ≡ bodies_of_eaches x
eaches_are x us e = ap (flat_map eaches_in_usage) e ∙ of_sheet eaches_in_usage bodies_in eaches_body x
