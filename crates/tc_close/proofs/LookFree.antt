-- Bodies as they are written that read no look read none with calls in place, and so do rules that are chosen.
use Rattle.std.proofs.Common.{◌≡◌, ◌<◌, ◌⊎◌, inl, inr, ◌+◌, ◌++◌, ◌∷◌, ℕ, zero, suc, List, [], Bor, Bool, true, false, map, get_or, Option, Some, None, IfSome, MatchOption, option_map, slice_get, slice_set, length, ◌^◌, ◌≤◌, refl, sym, subst, ap, ◌∙◌, arith}
use Rattle.std.proofs.lemmas.Bool.{cases_lt, cases_eq}
use Rattle.std.proofs.lemmas.Option.{same_Some, slice_get_within, slice_get-map, slice_get-get_or, get_or_from_slice_get}
use Rattle.std.proofs.lemmas.List.{get_or-set_same, get_or-set_other, length-set}
use Rattle.std.specs.Option.{is_some}
use Rattle.std.proofs.Math.Pow.{pow_mono}
use Rattle.std.specs.List.{Contains}
use Rattle.tc_model.specs.Letters.{Kind, of_symbol, of_text, IsLetter}
use Rattle.tc_model.specs.Symbols.{symbol_count}
use Rattle.tc_model.specs.Machine.{CallFreeJob}
use Rattle.tc_model.specs.RuleStates.{IsRuleOf, best}
use Rattle.tc_model.specs.Sheets.{Test, Body, Rule, Sheet, CallFreeBody, Inlines, u_done, u_text, u_element, u_copy, u_apply, u_call, u_value, u_self, u_choose, u_each}
use Rattle.tc_model.specs.Views as see
use Rattle.tc_model.specs.WellFormed.{ForEach, eaches_of}
use Rattle.tc_model.specs.declared.sheet.Instr.{Instr}
use Rattle.tc_rules.specs.RulesView.{ancestor}
use Rattle.tc_rules.specs.States.{Chosen, Going, chosen, plain_of, body_by}
use Rattle.tc_rules.specs.Tasks.{IsTaskOf, IsMoveAt, of_mode, of_each}
use Rattle.tc_rules.proofs.RuleOf.{chosen_number, rule_chosen}
use Rattle.tc_rows.specs.Triples.{Triple, IsTriple, sheet, predicates, ancestors}
use Rattle.tc_beh.specs.Runs.{rule_body}
use Rattle.tc_beh.proofs.RunLaws.{rule_body_got}
use Rattle.tc_close.specs.declared.look_free.FreeBodies.{FreeBodies}
use Rattle.tc_close.specs.LookFree.{IsLookFree, IsFreeBody, AreFreeNamed, AreFreeBodies, IsFreeMode, plain_letter}

-- with calls in place
pub free_inlined : (named : List Body) (calls : Bool) → (calls ≡ true → AreFreeNamed named) → {b : Body} {p : CallFreeBody} → IsFreeBody calls b → Inlines named b p → IsLookFree p
free_inlined named calls all is u_done = tt
free_inlined named calls all is (u_text u) = free_inlined named calls all is u
free_inlined named calls all is (u_element v u) = (free_inlined named calls all is.0 v, free_inlined named calls all is.1 u)
free_inlined named calls all is (u_copy v u) = (free_inlined named calls all is.0 v, free_inlined named calls all is.1 u)
free_inlined named calls all is (u_apply u) = free_inlined named calls all is u
free_inlined named calls all is (u_call {n} {i} at v u) = (free_inlined named true (λ e. all is.0) (all is.0 n i at) v, free_inlined named calls all is.1 u)
free_inlined named calls all is (u_value u) = absurd is
free_inlined named calls all is (u_self u) = free_inlined named calls all is u
free_inlined named calls all is (u_choose y u) = absurd is
free_inlined named calls all is (u_each v u) = free_inlined named calls all is u

-- one more body of a named template, and of a for-each
abbrev pub no_body : Bor (List Instr)
no_body = record { ref_ptr = (0, 0); now = [] }

pub named_next : (named : List (Bor (List Instr))) (i : ℕ) (d : Bor (List Instr)) → i < length named → ((n : ℕ) (b : Body) → n < i → slice_get (map (λ c. see.body c.now) named) n ≡ Some b → IsFreeBody true b)
    → IsFreeBody true (see.body (get_or named i d).now) → (n : ℕ) (b : Body) → n < i + 1 → slice_get (map (λ c. see.body c.now) named) n ≡ Some b → IsFreeBody true b
named_next named i d low before here n b within at = elim (cases_lt n i) [
  | inl l ↦ before n b l at
  | inr h ↦
      let same : n ≡ i = omega (arith, within, h) in
      let got : slice_get (map (λ c. see.body c.now) named) i ≡ Some (see.body (get_or named i d).now) = slice_get-map (λ c. see.body c.now) named i ∙ ap (option_map (λ c. see.body c.now)) (slice_get-get_or named i d low) in
      subst (IsFreeBody true) (same_Some (see.body (get_or named i d).now) b (sym got ∙ (ap (slice_get (map (λ c. see.body c.now) named)) (sym same) ∙ at))) here
]

pub each_next : (calls : Bool) (x : Triple) (i : ℕ) (body : Body) → ((e : ForEach) → Contains (eaches_of (sheet x)) e → e.number < i → IsFreeBody calls e.body)
    → ((e : ForEach) → Contains (eaches_of (sheet x)) e → e.number ≡ i → e.body ≡ body) → IsFreeBody calls body → (e : ForEach) → Contains (eaches_of (sheet x)) e → e.number < i + 1 → IsFreeBody calls e.body
each_next calls x i body before is here e there within = elim (cases_lt e.number i) [
  | inl l ↦ before e there l
  | inr h ↦ subst (IsFreeBody calls) (sym (is e there (omega (arith, within, h)))) here
]

-- the number of a for-each is below how many there are
pub each_low : (x : Triple) → IsTriple x → (e : ForEach) → Contains (eaches_of (sheet x)) e → e.number < (sheet x).eaches
each_low x is e there =
    let low = slice_get_within x.rules.eaches e.number e.body (is.rules.eaches_are e there) in
    let all = is.rules.all_eaches in
    omega (arith, low, all)

pushed_at : {X : Type 0} (xs : List X) (y : X) (n : ℕ) (v : X) → slice_get (xs ++ y ∷ []) n ≡ Some v → (slice_get xs n ≡ Some v) ⊎ ((n ≡ length xs) × (y ≡ v))
pushed_at [] y zero v e = inr (refl, same_Some y v e)
pushed_at [] y (suc n) v e = absurd (cc)
pushed_at (x ∷ xs) y zero v e = inl e
pushed_at (x ∷ xs) y (suc n) v e = elim (pushed_at xs y n v e) [ inl h ↦ inl h | inr h ↦ inr (ap suc h.0, h.1) ]

-- one more rule
pub rules_next : (calls : Bool) (s : Sheet) (free : List Bool) (f : Bool) (i : ℕ) (body : Body) → length free ≡ i → ((n : ℕ) → slice_get free n ≡ Some true → IsFreeBody calls (rule_body s n)) → rule_body s i ≡ body → (f ≡ true → IsFreeBody calls body)
    → (n : ℕ) → slice_get (free ++ f ∷ []) n ≡ Some true → IsFreeBody calls (rule_body s n)
rules_next calls s free f i body count before is here n at = elim (pushed_at free f n true at) [
  | inl h ↦ before n h
  | inr h ↦ subst (IsFreeBody calls) (sym is ∙ ap (rule_body s) (sym count ∙ sym h.0)) (here h.1)
]

-- a state that goes nowhere
pub none_of : (A : Type 0) (B : ℕ → Type 0) (o : Option ℕ) → is_some o ≡ false → MatchOption o A B → A
none_of A B None e m = m
none_of A B (Some n) e m = absurd (cc)

-- what is found out of one more symbol
pub symbol_next : (P : ℕ → Type 0) (known : List (Option Bool)) (a : ℕ) (b : Bool) → a < length known → ((n : ℕ) → slice_get known n ≡ Some (Some true) → P n) → (b ≡ true → P a) → (n : ℕ) → slice_get (slice_set known a (Some b)) n ≡ Some (Some true) → P n
symbol_next P known a b low before here n at =
    let new : List (Option Bool) = slice_set known a (Some b) in
    let read : get_or new n None ≡ Some true = get_or_from_slice_get new n (Some true) None at in
    elim (cases_eq n a) [
      | inl same ↦ subst P (sym same) (here (same_Some b true (sym (get_or-set_same known a (Some b) None low) ∙ (ap (λ i. get_or new i None) (sym same) ∙ read))))
      | inr other ↦
          let within : n < length known = let l = slice_get_within new n (Some true) at in let e = length-set known a (Some b) in omega (arith, l, e) in
          before n (slice_get-get_or known n None within ∙ ap Some (sym (get_or-set_other known a n (Some b) None other) ∙ read))
    ]

-- the body of the rule that is found, or else the built-in one
pub found_free : (x : Triple) (f : FreeBodies) → IsTriple x → AreFreeBodies (sheet x) f → (mode : ℕ) (own : CallFreeBody) (fits : ℕ → Rule → Bool) → IsLookFree own → (found : Option ℕ)
    → IsRuleOf (sheet x).rules mode fits found → IfSome found (λ i. slice_get f.rules.items i ≡ Some true) → IsLookFree (plain_of x.bodies own (chosen (sheet x).rules mode fits))
found_free x f is are mode own fits free found h reads = by (chosen (sheet x).rules mode fits) found h reads (chosen_number (sheet x).rules mode fits found h)
  where
    by : (o : Option Chosen) (found : Option ℕ) → IsRuleOf (sheet x).rules mode fits found → IfSome found (λ i. slice_get f.rules.items i ≡ Some true) → option_map (λ w. w.number) o ≡ found → IsLookFree (plain_of x.bodies own o)
    by None found h reads e = free
    by (Some c) None h reads e = absurd (cc)
    by (Some c) (Some i) (best {r = r} best_is more) reads e =
        free_inlined (sheet x).named f.calls are.calls (subst (IsFreeBody f.calls) (rule_body_got (sheet x) i r best_is.at) (are.rules i reads))
        (rule_chosen (sheet x).named (sheet x).rules x.bodies is.bodies own (Some c) i r e best_is.at)

-- whatever is to be done on an element of a symbol
pub task_free : (x : Triple) (f : FreeBodies) → AreFreeBodies (sheet x) f → f.eaches ≡ true → (a : ℕ) → ((mode : ℕ) → mode < (sheet x).modes → IsFreeMode x a mode)
    → (k : ℕ) (g : Going) (q : ℕ) → IsMoveAt x.rules k g → q < ancestors x → IsLookFree (body_by x.symbols (predicates x) (sheet x).rules x.bodies g.task (ancestor x.rules q) (plain_letter a))
task_free x f are eaches a modes k g q at low = by at.mode g.task at.task
  where
    by : (mode : ℕ) (task : CallFreeJob) → IsTaskOf (sheet x) mode task → IsLookFree (body_by x.symbols (predicates x) (sheet x).rules x.bodies task (ancestor x.rules q) (plain_letter a))
    by mode task (of_mode l) = modes mode l q low
    by mode task (of_each {f = e} number there u) = free_inlined (sheet x).named f.calls are.calls (are.eaches eaches e there) u

-- there is no predicate, and the letter of an element is one
pub no_test : (ps : List Test) → length ps ≡ 0 → ps ≡ []
no_test [] e = refl
no_test (p ∷ ps) e = absurd (omega (arith, e))

abbrev symbol_in : Kind → ℕ
symbol_in (of_symbol k) = k
symbol_in of_text = 0

pub plain_is_letter : (x : Triple) (a : ℕ) → a < symbol_count x.symbols → IsLetter x.symbols (predicates x) (plain_letter a)
plain_is_letter x a low = record {
  symbol = λ k e. subst (λ n. n < symbol_count x.symbols) (ap symbol_in e) low;
  marks = let some : 0 ≤ length (predicates x) = omega arith in let one : 2 ^ 0 ≤ 2 ^ length (predicates x) = pow_mono some in omega (arith, one);
}
