-- Tests hold by the looks alone: the bodies of rules don't matter to them.
use Rattle.std.proofs.Common.{◌≡◌, inl, inr, List, [], ◌∷◌, refl, ap, ◌∙◌, sym, subst, map, cond, not, ◌&&◌, ◌||◌, Some, is_some, All}
use Rattle.std.proofs.lemmas.List.Elements.{All-head, All-tail}
use Rattle.tc_model.specs.Trees.{Trees, none, text, element}
use Rattle.tc_model.specs.Chains.{Tree, an_element, top, under, children_of, one}
use Rattle.tc_model.specs.Sheets.{Path, Test, always, never, has, negated, all_of, any_of, Tests, no_test, test, Rule, Sheet, CallFreeBody}
use Rattle.tc_model.specs.Paths.{holds}
use Rattle.tc_model.specs.Machine.{known_test, known_tests, or_else, first_hit, holds_in, all_hold_in, some_holds_in}
use Rattle.tc_model.specs.Symbols.{Mention, symbols_of}
use Rattle.tc_model.specs.Numberings.{predicates_of, looks_of}
use Rattle.tc_model.specs.WellFormed.{IsRule, IsSheet}
use Rattle.tc_model.proofs.TotalByStates.{test_holds}
use Rattle.tc_model.proofs.TotalUnfolds.{body_unfolds}
use Rattle.tc_alpha.proofs.Members.{Has, every_member, has_from_contains}
use Rattle.tc_rules.specs.Covered.{IsCovered}
use Rattle.tc_rules.specs.States.{AllInline, Looking, states}
use Rattle.tc_rules.specs.RulesView.{AreSymbolsWith}
use Rattle.tc_rules.proofs.Covered.{looks_covered}
use Rattle.tc_rules.proofs.States.{states_tell}
use Rattle.tc_rules.specs.Parts.{IsPartTest, ArePartTests}
use Rattle.tc_rules.proofs.PartsOf.{predicate_part}

module _ (symbols : List Mention) (predicates : List Test) (rules : List Rule) (bodies : List CallFreeBody) where
  pub first_alike : (h : Trees) (s : Looking) → first_hit (states symbols predicates rules bodies) h s ≡ first_hit (states symbols predicates [] []) h s
  first_alike none s = refl
  first_alike (text x rest) s = ap (or_else _) (first_alike rest s)
  first_alike (element n kids rest) s =
      let m = states symbols predicates rules bodies in
      let inside = first_alike kids (m.look_step s (m.letter (an_element n kids))) in
      let later = first_alike rest s in
      λ i. or_else (cond (m.look_hits s (m.letter (an_element n kids))) (Some (one (an_element n kids))) (inside i)) (later i)

  mutual
    pub holds_alike : (w : Test) (h : Trees) → holds_in (states symbols predicates rules bodies) w h ≡ holds_in (states symbols predicates [] []) w h
    holds_alike always h = refl
    holds_alike never h = refl
    holds_alike (has p) h = ap is_some (first_alike h ((states symbols predicates rules bodies).look_first p))
    holds_alike (negated w) h = ap not (holds_alike w h)
    holds_alike (all_of ts) h = all_alike ts h
    holds_alike (any_of ts) h = some_alike ts h

    all_alike : (ts : Tests) (h : Trees) → all_hold_in (states symbols predicates rules bodies) ts h ≡ all_hold_in (states symbols predicates [] []) ts h
    all_alike no_test h = refl
    all_alike (test w ts) h = λ i. holds_alike w h i && all_alike ts h i

    some_alike : (ts : Tests) (h : Trees) → some_holds_in (states symbols predicates rules bodies) ts h ≡ some_holds_in (states symbols predicates [] []) ts h
    some_alike no_test h = refl
    some_alike (test w ts) h = λ i. holds_alike w h i || some_alike ts h i

-- the bodies of a well-formed stylesheet's rules have calls in place
pub all_unfold : (s : Sheet) → IsSheet s → (rs : List Rule) → All (IsRule s) rs → (ps : List CallFreeBody) × AllInline s.named rs ps
all_unfold s is [] a = ([], tt)
all_unfold s is (r ∷ rs) a =
    let (p, u) = body_unfolds s is r.body (All-head (IsRule s) r rs a).body in
    let (ps, us) = all_unfold s is rs (All-tail (IsRule s) r rs a) in
    (p ∷ ps, (u, us))

module _ (symbols : List Mention) (s : Sheet) (is : IsSheet s) (of : AreSymbolsWith symbols s) where
  abbrev Covered : Path → Type 0
  Covered p = IsCovered symbols (predicates_of s) p

  look_covered : (p : Path) → Has (looks_of s) p → Covered p
  look_covered p h =
      let (input, output, e) = of in
      subst (λ y. IsCovered y (predicates_of s) p) (sym e) (every_member (IsCovered (symbols_of input output s) (predicates_of s)) (looks_of s) p (looks_covered input output s) h)

  mutual
    part_known : (w : Test) → IsPartTest s w → known_test (λ j q. Covered q) Covered w
    part_known always i = tt
    part_known never i = tt
    part_known (has p) i = look_covered p (has_from_contains (looks_of s) p i)
    part_known (negated w) i = part_known w i
    part_known (all_of ts) i = parts_known ts i
    part_known (any_of ts) i = parts_known ts i

    parts_known : (ts : Tests) → ArePartTests s ts → known_tests (λ j q. Covered q) Covered ts
    parts_known no_test i = tt
    parts_known (test w ts) i = (part_known w i.0, parts_known ts i.1)

  -- a test of the stylesheet holds on a node where it does so by looks
  pub holds_by_looks : (w : Test) → IsPartTest s w → (t : Tree) → holds w (under (top none) t) ≡ holds_in (states symbols (predicates_of s) [] []) w (children_of t)
  holds_by_looks w i t =
      let (input, output, e) = of in
      let (bodies, all) = all_unfold s is s.rules is.rules in
      let known : known_test (λ j q. IsCovered (symbols_of input output s) (predicates_of s) q) (IsCovered (symbols_of input output s) (predicates_of s)) w =
      subst (λ y. known_test (λ j q. IsCovered y (predicates_of s) q) (IsCovered y (predicates_of s)) w) e (part_known w i) in
      subst (λ y. holds w (under (top none) t) ≡ holds_in (states y (predicates_of s) [] []) w (children_of t)) (sym e)
      (test_holds s.rules s.named (states (symbols_of input output s) (predicates_of s) s.rules bodies) (states_tell input output s bodies all) w known (under (top none) t)
      ∙ holds_alike (symbols_of input output s) (predicates_of s) s.rules bodies w (children_of t))

  all_by_looks : (ws : List Test) → ((w : Test) → Has ws w → IsPartTest s w) → (t : Tree)
      → map (λ w. holds w (under (top none) t)) ws ≡ map (λ w. holds_in (states symbols (predicates_of s) [] []) w (children_of t)) ws
  all_by_looks [] h t = refl
  all_by_looks (w ∷ ws) h t =
      let first = holds_by_looks w (h w (inl refl)) t in
      let rest = all_by_looks ws (λ x k. h x (inr k)) t in
      λ i. first i ∷ rest i

  pub marks_by_looks : (t : Tree)
      → map (λ w. holds w (under (top none) t)) (predicates_of s) ≡ map (λ w. holds_in (states symbols (predicates_of s) [] []) w (children_of t)) (predicates_of s)
  marks_by_looks t = all_by_looks (predicates_of s) (λ w h. predicate_part s w h) t
