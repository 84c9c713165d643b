-- The laws of path states.
use Rattle.std.proofs.Common.{◌≡◌, inl, inr, ℕ, suc, ◌+◌, ◌*◌, ◌<◌, ◌^◌, List, [], ◌∷◌, Bool, true, false, refl, ap, ◌∙◌, subst, map, length, if◌then◌else◌, Option, None, Some, arith}
use Rattle.std.proofs.Math.Nat.{pow-suc}
use Rattle.std.proofs.lemmas.List.{length-map}
use Rattle.tc_model.specs.Trees.{none}
use Rattle.tc_model.specs.Chains.{Tree, an_element, a_text, Chain, top, under}
use Rattle.tc_model.specs.Grammars.{Grammar}
use Rattle.tc_model.specs.Sheets.{Path, Test, Rule, Sheet}
use Rattle.tc_model.specs.Paths.{holds}
use Rattle.tc_model.specs.Symbols.{Mention, symbols_of, symbol_of, symbol_count}
use Rattle.tc_model.specs.Letters.{of_symbol, kind_of, letter_of, marks_of}
use Rattle.tc_model.specs.PathStates.{next_state, path_of_rules}
use Rattle.tc_model.specs.RuleStates.{IsRuleOf, fits_below}
use Rattle.tc_model.specs.Numberings.{Move, moves_of, looks_of, predicates_of}
use Rattle.tc_alpha.proofs.Members.{every_member, has_from_contains}
use Rattle.tc_rules.specs.Covered.{IsCovered}
use Rattle.tc_rules.specs.PathLaws.{TreesHaveLetters, state_at, IsPathOf, StatesSelect, rule_numbered, StatesRule, RootsRule, StatesTell}
use Rattle.tc_rules.proofs.Best.{picked, rule_by_state, root_rule_is}
use Rattle.tc_rules.proofs.Covered.{symbol_below, moves_covered, looks_covered, patterns_covered}
use Rattle.tc_rules.proofs.Exact as exact
use Rattle.tc_rules.proofs.States.{states_tell, states_steady}

-- a set of so many predicates
marks_within : (bs : List Bool) → marks_of bs < 2 ^ length bs
marks_within [] = omega arith
marks_within (b ∷ bs) = by b (marks_within bs)
  where
    by : (c : Bool) → marks_of bs < 2 ^ length bs → (if c then 1 else 0) + 2 * marks_of bs < 2 ^ suc (length bs)
    by true h = let twice : 2 ^ suc (length bs) ≡ 2 ^ length bs * 2 = pow-suc 2 (length bs) in omega (arith, twice)
    by false h = let twice : 2 ^ suc (length bs) ≡ 2 ^ length bs * 2 = pow-suc 2 (length bs) in omega (arith, twice)

pub trees_have_letters : TreesHaveLetters
trees_have_letters symbols predicates t =
    record {
      symbol = λ k e. of_kind t k e;
      marks = subst (λ n. (letter_of symbols predicates t).marks < 2 ^ n) (length-map predicates (λ p. holds p (under (top none) t))) (marks_within (map (λ p. holds p (under (top none) t)) predicates));
    }
  where
    of_kind : (u : Tree) (k : ℕ) → kind_of symbols predicates u ≡ of_symbol k → k < symbol_count symbols
    of_kind (an_element n kids) k e = let f : symbol_of symbols n ≡ k = cc in subst (λ i. i < symbol_count symbols) f (symbol_below symbols n)
    of_kind (a_text s) k e = absurd (cc)

covered : (input output : Grammar) (x : Sheet) (p : Path) → IsPathOf x p → IsCovered (symbols_of input output x) (predicates_of x) p
covered input output x p (inl (m, there, e)) =
    subst (IsCovered (symbols_of input output x) (predicates_of x)) e
    (every_member (λ (w : Move). IsCovered (symbols_of input output x) (predicates_of x) w.path) (moves_of x) m (moves_covered input output x) (has_from_contains (moves_of x) m there))
covered input output x p (inr there) = every_member (IsCovered (symbols_of input output x) (predicates_of x)) (looks_of x) p (looks_covered input output x) (has_from_contains (looks_of x) p there)

pub states_select : StatesSelect
states_select input output x p h c t ts = exact.selects (symbols_of input output x) (predicates_of x) p (covered input output x p h) c t ts

same_state_at : (symbols : List Mention) (predicates : List Test) (p : Path) (c : Chain) → state_at symbols predicates p c ≡ exact.state_at symbols predicates p c
same_state_at symbols predicates p (top doc) = refl
same_state_at symbols predicates p (under c t) = ap (λ q. next_state symbols predicates p q (letter_of symbols predicates t)) (same_state_at symbols predicates p c)

same_rule : (rs : List Rule) (o : Option ℕ) → picked rs o ≡ rule_numbered rs o
same_rule rs None = refl
same_rule rs (Some i) = refl

pub states_rule : StatesRule
states_rule input output x m c t o h =
    let symbols = symbols_of input output x in
    let ps = predicates_of x in
    rule_by_state symbols ps x.rules (patterns_covered input output x) m c t o
    (subst (λ q. IsRuleOf x.rules m (fits_below symbols ps q (letter_of symbols ps t)) o) (same_state_at symbols ps (path_of_rules x.rules) c) h)
    ∙ same_rule x.rules o

pub roots_rule : RootsRule
roots_rule x m doc o h = root_rule_is [] (predicates_of x) x.rules m doc o h ∙ same_rule x.rules o

pub machine_tells : StatesTell
machine_tells input output x bodies all = (states_tell input output x bodies all, states_steady input output x bodies all)
