-- Each body of a well-formed stylesheet, and what it does on each node in a mode, has its named bodies in place.
use Rattle.std.proofs.Common.{◌≡◌, ◌<◌, ℕ, List, [], ◌∷◌, refl, Bool, true, false, ◌&&◌, cond, nat_eq, int_lt, Option, Some, None, length, All}
use Rattle.std.proofs.lemmas.Option.{slice_get-get_or}
use Rattle.std.proofs.lemmas.List.Elements.{All-get_or, All-head, All-tail}
use Rattle.tc_model.specs.Chains.{an_element, a_text, Chain, Node, whole, one, node_of, down}
use Rattle.tc_model.specs.Sheets.{Body, no_instruction, put_text, put_element, copy, apply, call, for_each, value, value_of_self, choose, Branches, otherwise, branch, Rule, Sheet, CallFreeBody, p_done, p_text, p_element, p_copy, p_apply, p_call, p_value, p_self, p_choose, p_each, CallFreeBranches, p_otherwise, p_branch, Inlines, BranchesInline, u_done, u_text, u_element, u_copy, u_apply, u_call, u_value, u_self, u_choose, u_each, u_otherwise, u_branch}
use Rattle.tc_model.specs.Paths.{fits}
use Rattle.tc_model.specs.Meaning.{by_mode, built_in, better, body_or, rule_of, body_of}
use Rattle.tc_model.specs.WellFormed.{IsBody, AreBranches, IsRule, IsSheet}
use Rattle.tc_model.proofs.TotalAbove.{fits_above}

module _ (s : Sheet) (is : IsSheet s) where
  abbrev pub BodyUnfolds : Body → Type 0
  BodyUnfolds b = (p : CallFreeBody) × Inlines s.named b p

  call_unfolds : (n : ℕ) (b : Body) → n < length s.named → BodyUnfolds b → BodyUnfolds (call n b)
  call_unfolds n b h rest =
      let inner = All-get_or BodyUnfolds s.named n no_instruction h is.calls in
      (p_call inner.0 rest.0, u_call (slice_get-get_or s.named n no_instruction h) inner.1 rest.1)

  mutual
    pub body_unfolds : (b : Body) → IsBody s b → BodyUnfolds b
    body_unfolds no_instruction i = (p_done, u_done)
    body_unfolds (put_text x b) i = let rest = body_unfolds b i.1 in (p_text x rest.0, u_text rest.1)
    body_unfolds (put_element n inner b) i =
        let in_it = body_unfolds inner i.1 in let rest = body_unfolds b i.2 in (p_element n in_it.0 rest.0, u_element in_it.1 rest.1)
    body_unfolds (copy inner b) i = let in_it = body_unfolds inner i.0 in let rest = body_unfolds b i.1 in (p_copy in_it.0 rest.0, u_copy in_it.1 rest.1)
    body_unfolds (apply p m b) i = let rest = body_unfolds b i.2 in (p_apply p m rest.0, u_apply rest.1)
    body_unfolds (call n b) i = call_unfolds n b i.0 (body_unfolds b i.1)
    body_unfolds (value p b) i = let rest = body_unfolds b i.1 in (p_value p rest.0, u_value rest.1)
    body_unfolds (value_of_self b) i = let rest = body_unfolds b i in (p_self rest.0, u_self rest.1)
    body_unfolds (choose x b) i = let in_it = branches_unfold x i.0 in let rest = body_unfolds b i.1 in (p_choose in_it.0 rest.0, u_choose in_it.1 rest.1)
    body_unfolds (for_each e p inner b) i =
        let in_it = body_unfolds inner i.2 in let rest = body_unfolds b i.3 in (p_each e p in_it.0 rest.0, u_each in_it.1 rest.1)

    branches_unfold : (x : Branches) → AreBranches s x → (p : CallFreeBranches) × BranchesInline s.named x p
    branches_unfold (otherwise b) i = let last = body_unfolds b i in (p_otherwise last.0, u_otherwise last.1)
    branches_unfold (branch t b x) i =
        let this = body_unfolds b i.1 in let later = branches_unfold x i.2 in (p_branch t this.0 later.0, u_branch this.1 later.1)

  abbrev IsOneOfTheRules : Option Rule → Type 0
  IsOneOfTheRules None = Unit {0}
  IsOneOfTheRules (Some r) = IsRule s r

  first_is : (b : Bool) (r later : Rule) → IsRule s r → IsRule s later → IsOneOfTheRules (cond b (Some r) (Some later))
  first_is true r later i k = i
  first_is false r later i k = k

  better_is : (b : Bool) (r : Rule) (o : Option Rule) → IsRule s r → IsOneOfTheRules o → IsOneOfTheRules (better b r o)
  better_is true r None i k = i
  better_is false r None i k = tt
  better_is true r (Some later) i k = first_is (int_lt later.priority r.priority) r later i k
  better_is false r (Some later) i k = k

  rule_is : (rs : List Rule) → All (IsRule s) rs → (m : ℕ) (c : Chain) → IsOneOfTheRules (rule_of rs m c)
  rule_is [] a m c = tt
  rule_is (r ∷ rs) a m c = better_is (nat_eq r.mode m && fits r.pattern c) r (rule_of rs m c) (All-head (IsRule s) r rs a) (rule_is rs (All-tail (IsRule s) r rs a) m c)

  built_in_unfolds : (m : ℕ) (n : Node) → BodyUnfolds (built_in m n)
  built_in_unfolds m (whole doc) = (_, u_apply u_done)
  built_in_unfolds m (one (an_element n kids)) = (_, u_apply u_done)
  built_in_unfolds m (one (a_text x)) = (_, u_self u_done)

  or_unfolds : (b : Body) (o : Option Rule) → BodyUnfolds b → IsOneOfTheRules o → BodyUnfolds (body_or b o)
  or_unfolds b None u i = u
  or_unfolds b (Some r) u i = body_unfolds r.body i.body

  pub mode_unfolds : (m : ℕ) (c : Chain) → BodyUnfolds (body_of s.rules (by_mode m) c)
  mode_unfolds m c = or_unfolds (built_in m (node_of c)) (rule_of s.rules m c) (built_in_unfolds m (node_of c)) (rule_is s.rules is.rules m c)

-- the rule of a node doesn't depend on the document, where the trees from the root down are given
pub rule_above : (rs : List Rule) (m : ℕ) (c d : Chain) → down c ≡ down d → rule_of rs m c ≡ rule_of rs m d
rule_above [] m c d e = refl
rule_above (r ∷ rs) m c d e = λ i. better (nat_eq r.mode m && fits_above r.pattern c d e i) r (rule_above rs m c d e i)
