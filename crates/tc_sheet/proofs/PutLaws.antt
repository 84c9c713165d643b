-- A template's body with numbers, and what is put behind the rules and the named bodies.
use Rattle.std.proofs.Common.{◌≡◌, ℕ, ◌+◌, ◌++◌, true, false, if◌then◌else◌, List, ap, ◌∙◌, sym, arith, map, Result}
use Rattle.std.specs.Prelude.{MatchResult}
use Rattle.std.proofs.lemmas.Result.{MatchResult-weaker}
use Rattle.tc_model.specs.Names.{ExpandedName}
use Rattle.tc_model.specs.PathTextPhrases.{Alternative}
use Rattle.tc_model.specs.Sheets.{Body, Rule}
use Rattle.tc_model.specs.SheetTextTrees.{Template, makes_rules}
use Rattle.tc_model.specs.SheetText.{eaches_in, numbered}
use Rattle.tc_sheet.specs.Numbers.{IsNumberedBody, rule_from}

-- the body of a template that makes rules, and of one that makes none
pub numbered_in_rules : {X E : Type 0} (modes names : List ExpandedName) (t : Template) (in_rules more others : ℕ) (r : Result X E) (seen : X → Body) (Q : E → Type 0) → makes_rules t ≡ true
    → MatchResult r (λ x. (seen x ≡ numbered modes names in_rules t.body) × (more ≡ in_rules + eaches_in t.body)) Q → MatchResult r (λ x. IsNumberedBody modes names t (seen x) in_rules more others others) Q
numbered_in_rules modes names t in_rules more others r seen Q e h =
    MatchResult-weaker r h
    (λ x f. record {
      is_body = f.0 ∙ sym (ap (λ w. numbered modes names (if w then in_rules else others) t.body) e);
      counted_rules = f.1 ∙ sym (ap (λ w. in_rules + (if w then eaches_in t.body else 0)) e);
      counted_others = omega (arith, ap (λ w. others + (if w then 0 else eaches_in t.body)) e);
    })
    (λ y g. g)

pub numbered_in_others : {X E : Type 0} (modes names : List ExpandedName) (t : Template) (in_rules others more : ℕ) (r : Result X E) (seen : X → Body) (Q : E → Type 0) → makes_rules t ≡ false
    → MatchResult r (λ x. (seen x ≡ numbered modes names others t.body) × (more ≡ others + eaches_in t.body)) Q → MatchResult r (λ x. IsNumberedBody modes names t (seen x) in_rules in_rules others more) Q
numbered_in_others modes names t in_rules others more r seen Q e h =
    MatchResult-weaker r h
    (λ x f. record {
      is_body = f.0 ∙ sym (ap (λ w. numbered modes names (if w then in_rules else others) t.body) e);
      counted_rules = omega (arith, ap (λ w. in_rules + (if w then eaches_in t.body else 0)) e);
      counted_others = f.1 ∙ sym (ap (λ w. others + (if w then 0 else eaches_in t.body)) e);
    })
    (λ y g. g)

-- what is put, with a body and a mode that are others by name alone
pub rules_put : (rules more : List Rule) (m n : ℕ) (b d : Body) (xs : List Alternative) → more ≡ rules ++ map (rule_from m b) xs → m ≡ n → b ≡ d → more ≡ rules ++ map (rule_from n d) xs
rules_put rules more m n b d xs e f g = e ∙ (ap (λ k. rules ++ map (rule_from k b) xs) f ∙ ap (λ y. rules ++ map (rule_from n y) xs) g)

pub named_put : (named more : List Body) (b d : Body) (xs : List ExpandedName) → more ≡ named ++ map (λ n. b) xs → b ≡ d → more ≡ named ++ map (λ n. d) xs
named_put named more b d xs e g = e ∙ ap (λ y. named ++ map (λ n. y) xs) g
