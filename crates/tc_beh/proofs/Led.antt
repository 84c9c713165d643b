-- Where a state of a move goes below a node.
use Rattle.std.proofs.Common.{◌≡◌, ◌<◌, ◌+◌, inl, inr, ℕ, List, length, get_or, set, Vec, Global, true, Option, Some, None, MatchOption, subst, sym, arith}
use Rattle.std.proofs.lemmas.Bool.{cases_lt}
use Rattle.std.proofs.lemmas.Grind.{get_or-set_at}
use Rattle.std.proofs.lemmas.List.{get_or-set_other, length-set, with_items_is}
use Rattle.std.specs.Vec.{with_items}
use Rattle.tc_alpha.specs.declared.alphabet.Sym.{Sym}
use Rattle.tc_model.specs.Letters.{IsLetter}
use Rattle.tc_model.specs.Numberings.{predicates_of}
use Rattle.tc_model.specs.PathStates.{State, is_empty_state}
use Rattle.tc_model.specs.StateCounts.{PathUse}
use Rattle.tc_model.specs.Symbols.{Mention}
use Rattle.tc_rules.specs.Asked as asked
use Rattle.tc_rules.specs.Kept.{IsRulesOf, told}
use Rattle.tc_rules.specs.RulesView.{IsStateOf, select_below}
use Rattle.tc_rules.specs.declared.rules.Kind.TheVariants.{Elem}
use Rattle.tc_rules.specs.declared.rules.Rules.{Rules}
use Rattle.tc_beh.specs.Leads.{IsLead, AreLeads}
use Rattle.tc_beh.specs.declared.above.Letter.{Letter}
use Rattle.tc_beh.specs.declared.leads.Lead.{Lead}

module _ (r : Rules) (l : Letter) (k : ℕ) (v : Lead) (is : IsLead r l k v) (a : Sym) (kind : l.kind ≡ Elem a) (symbols : List Mention) (b : PathUse) (s : State) (rules : IsRulesOf symbols r)
    (letter : IsLetter symbols (predicates_of (told r).sheet) (asked.letter (Elem a) l.marks)) (st : IsStateOf (told r) k b s) where
  pub led_on : (n : ℕ) → v.below ≡ Some n → IsStateOf (told r) n b (select_below symbols (told r) b s (asked.letter (Elem a) l.marks))
  led_on n e =
      subst (λ (o : Option ℕ). MatchOption o (is_empty_state (select_below symbols (told r) b s (asked.letter (Elem a) l.marks)) ≡ true) (λ n. IsStateOf (told r) n b (select_below symbols (told r) b s (asked.letter (Elem a) l.marks)))) e
      (is.below a kind symbols b s rules letter st)

  pub led_nowhere : v.below ≡ None → is_empty_state (select_below symbols (told r) b s (asked.letter (Elem a) l.marks)) ≡ true
  led_nowhere e =
      subst (λ (o : Option ℕ). MatchOption o (is_empty_state (select_below symbols (told r) b s (asked.letter (Elem a) l.marks)) ≡ true) (λ n. IsStateOf (told r) n b (select_below symbols (told r) b s (asked.letter (Elem a) l.marks)))) e
      (is.below a kind symbols b s rules letter st)

-- one more is found out
pub leads_put : (r : Rules) (l : Letter) (vs : List Lead) (i : ℕ) (v : Lead) → ((k : ℕ) (d : Lead) → k < length vs → k < i → IsLead r l k (get_or vs k d)) → IsLead r l i v
    → (k : ℕ) (d : Lead) → k < length (set vs i v) → k < i + 1 → IsLead r l k (get_or (set vs i v) k d)
leads_put r l vs i v before here k d low next =
    let inside : k < length vs = subst (λ n. k < n) (length-set vs i v) low in
    elim (cases_lt k i) [
      | inl less ↦ subst (IsLead r l k) (sym (get_or-set_other vs i k v d (λ e. omega (arith, e, less)))) (before k d inside less)
      | inr more ↦ let same : k ≡ i = omega (arith, more, next) in
          subst (IsLead r l k) (sym (get_or-set_at vs i k v d same (omega (arith, inside, same)))) (subst (λ j. IsLead r l j v) (sym same) here)
    ]

-- the same under other names
pub leads_kept : (r : Rules) (l m : Letter) (vs ws : List Lead) → AreLeads r l vs → m ≡ l → ws ≡ vs → AreLeads r m ws
leads_kept r l m vs ws are e f = subst (λ n. AreLeads r n ws) (sym e) (subst (λ us. AreLeads r l us) (sym f) are)

-- what was lent is given back
pub leads_back : (v : Vec Lead Global) (vs : List Lead) → length vs ≡ length v.items → (with_items v vs).items ≡ vs
leads_back v vs count = with_items_is v vs (let n = v.ok.0 in omega (arith, count, n))
