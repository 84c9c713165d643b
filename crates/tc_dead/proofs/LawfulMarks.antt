-- A marked stylesheet is well-formed.
use Rattle.std.proofs.Common.{◌≡◌, ℕ, zero, suc, ◌+◌, ◌<◌, ◌≤◌, List, [], ◌∷◌, ◌++◌, refl, ap, ◌∙◌, sym, subst, map, flat_map, length, get_or, Bool, true, false, cond, Some, slice_get, All, Contains, append_assoc, append-nil, arith}
use Rattle.std.proofs.lemmas.List.{get_or_default}
use Rattle.std.proofs.lemmas.List.Elements.{All-nil, All-cons, All-head, All-tail, Contains-get_or}
use Rattle.tc_model.specs.Sheets.{no_alternative, Body, no_instruction, put_text, put_element, copy, apply, call, for_each, value, value_of_self, choose, Branches, otherwise, branch, Rule, Sheet, CallFreeBody, p_done, p_text, p_element, p_copy, p_apply, p_call, p_value, p_self, p_choose, p_each, CallFreeBranches, p_otherwise, p_branch, Inlines, BranchesInline, u_done, u_text, u_element, u_copy, u_apply, u_call, u_value, u_self, u_choose, u_each, u_otherwise, u_branch}
use Rattle.tc_model.specs.WellFormed as w
use Rattle.tc_model.specs.WellFormed.{ForEach, IsBody, AreBranches, IsRule, IsSheet}
use Rattle.tc_dead.specs.Spots.{Spot, a_rule, a_named_body, a_branch, same_spot, is_nothing, branches_of, branches_in, eaches_of, eaches_in, rules_from, bodies_from, branches_of_all, eaches_of_all, rule_bodies, numbered_bodies}
use Rattle.tc_dead.specs.Marked.{mark_name, wrapper_name, begun, marked_before, marked_branches, marked_rule, marked_body, marked_at}
use Rattle.tc_dead.proofs.NumberedSpots.{named_at, marked_named_at}
use Rattle.tc_dead.proofs.SameParts.{nothing_so, of_begun}
use Rattle.tc_dead.proofs.Lawful.{lawful_mark, lawful_wrapper}

-- numbers from one on, so many
abbrev count_from : ℕ → ℕ → List ℕ
count_from e zero = []
count_from e (suc k) = e ∷ count_from (e + 1) k

suc_add : (a b : ℕ) → suc a + b ≡ suc (a + b)
suc_add a b = omega arith

none_add : (b : ℕ) → 0 + b ≡ b
none_add b = omega arith

add_none : (e : ℕ) → e + 0 ≡ e
add_none e = omega arith

further : (e a : ℕ) → e + 1 + a ≡ e + suc a
further e a = omega arith

count_more : (e a b : ℕ) → count_from e (a + b) ≡ count_from e a ++ count_from (e + a) b
count_more e zero b = ap (count_from e) (none_add b) ∙ ap (λ z. count_from z b) (sym (add_none e))
count_more e (suc a) b = ap (count_from e) (suc_add a b) ∙ ap (λ z. e ∷ z) (count_more (e + 1) a b ∙ ap (λ z. count_from (e + 1) a ++ count_from z b) (further e a))

abbrev number : ForEach → ℕ
number a = a.number

abbrev numbers : List ForEach → List ℕ
numbers xs = map number xs

numbers_append : (xs ys : List ForEach) → numbers (xs ++ ys) ≡ numbers xs ++ numbers ys
numbers_append [] ys = refl
numbers_append (x ∷ xs) ys = ap (λ z. x.number ∷ z) (numbers_append xs ys)

abbrev in_body : Body → List ℕ
in_body b = numbers (w.eaches_in b)

abbrev in_branches : Branches → List ℕ
in_branches x = numbers (w.eaches_in_branches x)

two_counts : (e a b : ℕ) (r : List ℕ) → count_from e a ++ (count_from (e + a) b ++ r) ≡ count_from e (a + b) ++ r
two_counts e a b r = sym (append_assoc (count_from e a) (count_from (e + a) b) r) ∙ ap (λ z. z ++ r) (sym (count_more e a b))

one_count : (e a b : ℕ) (r : List ℕ) → e ∷ (count_from (e + 1) a ++ (count_from (e + 1 + a) b ++ r)) ≡ count_from e (1 + a + b) ++ r
one_count e a b r = ap (λ z. e ∷ z) (two_counts (e + 1) a b r) ∙ ap (λ z. count_from e z ++ r) (one_so a b)
  where
    one_so : (a b : ℕ) → suc (a + b) ≡ 1 + a + b
    one_so a b = omega arith

number_begun : (is_it : Bool) (b : Body) → in_body (begun is_it b) ≡ in_body b
number_begun is_it b = of_begun in_body (λ z. refl) is_it b

-- the numbers of for-eaches follow one another
module _ (p : Spot) where
  mutual
    numbered : (n e : ℕ) (b rest : Body) → in_body (marked_before p n e b rest) ≡ count_from e (eaches_of b) ++ in_body rest
    numbered n e no_instruction rest = refl
    numbered n e (put_text x b) rest = numbered n e b rest
    numbered n e (put_element a i b) rest =
        numbered n e i (marked_before p (n + branches_of i) (e + eaches_of i) b rest)
        ∙ (ap (λ z. count_from e (eaches_of i) ++ z) (numbered (n + branches_of i) (e + eaches_of i) b rest) ∙ two_counts e (eaches_of i) (eaches_of b) (in_body rest))
    numbered n e (copy i b) rest =
        let m = w.eaches_in (marked_before p n e i no_instruction) in
        let later = marked_before p (n + branches_of i) (e + eaches_of i) b rest in
        numbers_append (m ++ []) (w.eaches_in later)
        ∙ (ap (λ z. numbers z ++ in_body later) (append-nil m)
        ∙ ((λ j. (numbered n e i no_instruction ∙ append-nil (count_from e (eaches_of i))) j ++ numbered (n + branches_of i) (e + eaches_of i) b rest j) ∙ two_counts e (eaches_of i) (eaches_of b) (in_body rest)))
    numbered n e (apply q m b) rest = numbered n e b rest
    numbered n e (call k b) rest = numbered n e b rest
    numbered n e (value q b) rest = numbered n e b rest
    numbered n e (value_of_self b) rest = numbered n e b rest
    numbered n e (choose x b) rest =
        let later = marked_before p (n + branches_in x) (e + eaches_in x) b rest in
        numbers_append (w.eaches_in_branches (marked_branches p n e x)) (w.eaches_in later)
        ∙ ((λ j. numbered_in n e x j ++ numbered (n + branches_in x) (e + eaches_in x) b rest j) ∙ two_counts e (eaches_in x) (eaches_of b) (in_body rest))
    numbered n e (for_each k q i b) rest =
        let m = w.eaches_in (marked_before p n (e + 1) i no_instruction) in
        let later = marked_before p (n + branches_of i) (e + 1 + eaches_of i) b rest in
        ap (λ z. e ∷ z) (numbers_append m (w.eaches_in later)
        ∙ (λ j. (numbered n (e + 1) i no_instruction ∙ append-nil (count_from (e + 1) (eaches_of i))) j ++ numbered (n + branches_of i) (e + 1 + eaches_of i) b rest j))
        ∙ one_count e (eaches_of i) (eaches_of b) (in_body rest)

    numbered_in : (n e : ℕ) (x : Branches) → in_branches (marked_branches p n e x) ≡ count_from e (eaches_in x)
    numbered_in n e (otherwise b) =
        let m = marked_before p (n + 1) e b no_instruction in
        last_counts b (begun (same_spot p (a_branch n)) m) (number_begun (same_spot p (a_branch n)) m ∙ (numbered (n + 1) e b no_instruction ∙ append-nil (count_from e (eaches_of b))))
      where
        nothing_counts : (b : Body) (z : Bool) (m : Body) → is_nothing b ≡ z → in_body m ≡ count_from e (eaches_of b) → in_body (cond z no_instruction m) ≡ count_from e (eaches_of b)
        nothing_counts b true m is f = ap (λ y. count_from e (eaches_of y)) (sym (nothing_so b is))
        nothing_counts b false m is f = f

        last_counts : (b m : Body) → in_body m ≡ count_from e (eaches_of b) → in_body (cond (is_nothing b) no_instruction m) ≡ count_from e (eaches_of b)
        last_counts b m f = nothing_counts b (is_nothing b) m refl f
    numbered_in n e (branch t b x) =
        let m = marked_before p (n + 1) e b no_instruction in
        let later = marked_branches p (n + 1 + branches_of b) (e + eaches_of b) x in
        numbers_append (w.eaches_in (begun (same_spot p (a_branch n)) m)) (w.eaches_in_branches later)
        ∙ ((λ j. (number_begun (same_spot p (a_branch n)) m ∙ (numbered (n + 1) e b no_instruction ∙ append-nil (count_from e (eaches_of b)))) j ++ numbered_in (n + 1 + branches_of b) (e + eaches_of b) x j)
        ∙ sym (count_more e (eaches_of b) (eaches_in x)))

  numbered_begun : (is_it : Bool) (n e : ℕ) (b : Body) → in_body (begun is_it (marked_before p n e b no_instruction)) ≡ count_from e (eaches_of b)
  numbered_begun is_it n e b = number_begun is_it (marked_before p n e b no_instruction) ∙ (numbered n e b no_instruction ∙ append-nil (count_from e (eaches_of b)))

  abbrev eaches_of_rule : Rule → List ForEach
  eaches_of_rule r = w.eaches_in r.body

  numbered_in_rules : (k n e : ℕ) (rs : List Rule) → numbers (flat_map eaches_of_rule (map (marked_rule p) (rules_from k n e rs))) ≡ count_from e (eaches_of_all (map (λ r. r.body) rs))
  numbered_in_rules k n e [] = refl
  numbered_in_rules k n e (r ∷ rs) =
      let later = map (marked_rule p) (rules_from (k + 1) (n + branches_of r.body) (e + eaches_of r.body) rs) in
      numbers_append (w.eaches_in (begun (same_spot p (a_rule k)) (marked_before p n e r.body no_instruction))) (flat_map eaches_of_rule later)
      ∙ ((λ j. numbered_begun (same_spot p (a_rule k)) n e r.body j ++ numbered_in_rules (k + 1) (n + branches_of r.body) (e + eaches_of r.body) rs j)
      ∙ sym (count_more e (eaches_of r.body) (eaches_of_all (map (λ r. r.body) rs))))

  numbered_in_named : (k n e : ℕ) (bs : List Body) → numbers (flat_map (λ b. w.eaches_in b) (map (marked_body p) (bodies_from k n e bs))) ≡ count_from e (eaches_of_all bs)
  numbered_in_named k n e [] = refl
  numbered_in_named k n e (b ∷ bs) =
      let later = map (marked_body p) (bodies_from (k + 1) (n + branches_of b) (e + eaches_of b) bs) in
      numbers_append (w.eaches_in (begun (same_spot p (a_named_body k)) (marked_before p n e b no_instruction))) (flat_map (λ b. w.eaches_in b) later)
      ∙ ((λ j. numbered_begun (same_spot p (a_named_body k)) n e b j ++ numbered_in_named (k + 1) (n + branches_of b) (e + eaches_of b) bs j)
      ∙ sym (count_more e (eaches_of b) (eaches_of_all bs)))

-- of a list with such numbers each stands at its number
cons_head : (a b : ℕ) (xs ys : List ℕ) → a ∷ xs ≡ b ∷ ys → a ≡ b
cons_head a b xs ys e = cc

cons_tail : (a b : ℕ) (xs ys : List ℕ) → a ∷ xs ≡ b ∷ ys → xs ≡ ys
cons_tail a b xs ys e = cc

cons_none : (a : ℕ) (xs : List ℕ) → a ∷ xs ≡ [] → ⊥
cons_none a xs e = cc

none_cons : (a : ℕ) (xs : List ℕ) → [] ≡ a ∷ xs → ⊥
none_cons a xs e = cc

number_at : (xs : List ForEach) (e k : ℕ) → numbers xs ≡ count_from e k → (i : ℕ) (d : ForEach) → i < length xs → (get_or xs i d).number ≡ e + i
number_at [] e k is i d h = absurd (omega arith)
number_at (x ∷ xs) e zero is i d h = absurd (cons_none x.number (numbers xs) is)
number_at (x ∷ xs) e (suc k) is zero d h = cons_head x.number e (numbers xs) (count_from (e + 1) k) is ∙ sym (add_none e)
number_at (x ∷ xs) e (suc k) is (suc i) d h = number_at xs (e + 1) k (cons_tail x.number e (numbers xs) (count_from (e + 1) k) is) i d (omega arith) ∙ further e i

how_many : (xs : List ForEach) (e k : ℕ) → numbers xs ≡ count_from e k → length xs ≡ k
how_many [] e zero is = refl
how_many [] e (suc k) is = absurd (none_cons e (count_from (e + 1) k) is)
how_many (x ∷ xs) e zero is = absurd (cons_none x.number (numbers xs) is)
how_many (x ∷ xs) e (suc k) is = ap suc (how_many xs (e + 1) k (cons_tail x.number e (numbers xs) (count_from (e + 1) k) is))

same_number : (xs : List ForEach) (k : ℕ) → numbers xs ≡ count_from 0 k → (a b : ForEach) → Contains xs a → Contains xs b → a.number ≡ b.number → a ≡ b
same_number xs k is a b x y e =
    let here : (get_or xs x.0 a).number ≡ 0 + x.0 = number_at xs 0 k is x.0 a x.1 in
    let there : (get_or xs y.0 b).number ≡ 0 + y.0 = number_at xs 0 k is y.0 b y.1 in
    let one : a.number ≡ 0 + x.0 = sym (ap number x.2) ∙ here in
    let two : b.number ≡ 0 + y.0 = sym (ap number y.2) ∙ there in
    let same : x.0 ≡ y.0 = omega arith in
    sym x.2 ∙ (get_or_default xs x.0 a b x.1 ∙ (ap (λ z. get_or xs z b) same ∙ y.2))

no_each : ForEach
no_each = record { number = 0; path = no_alternative; body = no_instruction }

with_number : (xs : List ForEach) (k : ℕ) → numbers xs ≡ count_from 0 k → (i : ℕ) → i < k → (a : ForEach) × Contains xs a × (a.number ≡ i)
with_number xs k is i h =
    let long : length xs ≡ k = how_many xs 0 k is in
    let within : i < length xs = omega arith in
    (get_or xs i no_each, Contains-get_or xs i no_each within, number_at xs 0 k is i no_each within ∙ none_add i)

module _ (s : Sheet) (p : Spot) (is : IsSheet s) where
  abbrev marked : Sheet
  marked = marked_at p s

  all_numbers : numbers (w.eaches_of marked) ≡ count_from 0 marked.eaches
  all_numbers =
      let rs = eaches_of_all (rule_bodies s) in
      numbers_append (flat_map (λ r. w.eaches_in r.body) marked.rules) (flat_map (λ b. w.eaches_in b) marked.named)
      ∙ ((λ j. numbered_in_rules p 1 1 0 s.rules j ++ (numbered_in_named p 1 (1 + branches_of_all (rule_bodies s)) rs s.named ∙ ap (λ z. count_from z (eaches_of_all s.named)) (sym (none_add rs))) j)
      ∙ sym (count_more 0 rs (eaches_of_all s.named)))

  how_many_named : (k n e : ℕ) (bs : List Body) → length (map (marked_body p) (bodies_from k n e bs)) ≡ length bs
  how_many_named k n e [] = refl
  how_many_named k n e (b ∷ bs) = ap suc (how_many_named (k + 1) (n + branches_of b) (e + eaches_of b) bs)

  called : (k : ℕ) → k < length s.named → k < length marked.named
  called k h = let same : length marked.named ≡ length s.named = how_many_named 1 (1 + branches_of_all (rule_bodies s)) (eaches_of_all (rule_bodies s)) s.named in omega arith

  lawful_begun : (is_it : Bool) (b : Body) → IsBody marked b → IsBody marked (begun is_it b)
  lawful_begun true b i = (lawful_mark, (lawful_mark, tt, tt), i)
  lawful_begun false b i = i

  lawful_chosen : (z : Bool) (b : Body) → IsBody marked b → IsBody marked (cond z no_instruction b)
  lawful_chosen true b i = tt
  lawful_chosen false b i = i

  mutual
    lawful_before : (n e : ℕ) (b rest : Body) → IsBody s b → e + eaches_of b ≤ marked.eaches → IsBody marked rest → IsBody marked (marked_before p n e b rest)
    lawful_before n e no_instruction rest i h r = r
    lawful_before n e (put_text x b) rest i h r = (i.0, lawful_before n e b rest i.1 h r)
    lawful_before n e (put_element a o b) rest i h r =
        lawful_before n e o (marked_before p (n + branches_of o) (e + eaches_of o) b rest) i.1 (omega arith) (lawful_before (n + branches_of o) (e + eaches_of o) b rest i.2 (omega arith) r)
    lawful_before n e (copy o b) rest i h r =
        (lawful_wrapper, (lawful_before n e o no_instruction i.0 (omega arith) tt, tt), lawful_before (n + branches_of o) (e + eaches_of o) b rest i.1 (omega arith) r)
    lawful_before n e (apply q m b) rest i h r = (i.0, i.1, lawful_before n e b rest i.2 h r)
    lawful_before n e (call k b) rest i h r = (called k i.0, lawful_before n e b rest i.1 h r)
    lawful_before n e (value q b) rest i h r = (i.0, lawful_before n e b rest i.1 h r)
    lawful_before n e (value_of_self b) rest i h r = lawful_before n e b rest i h r
    lawful_before n e (choose x b) rest i h r = (lawful_branches n e x i.0 (omega arith), lawful_before (n + branches_in x) (e + eaches_in x) b rest i.1 (omega arith) r)
    lawful_before n e (for_each k q o b) rest i h r =
        (omega arith, i.1, lawful_before n (e + 1) o no_instruction i.2 (omega arith) tt, lawful_before (n + branches_of o) (e + 1 + eaches_of o) b rest i.3 (omega arith) r)

    lawful_branches : (n e : ℕ) (x : Branches) → AreBranches s x → e + eaches_in x ≤ marked.eaches → AreBranches marked (marked_branches p n e x)
    lawful_branches n e (otherwise b) i h =
        let m = marked_before p (n + 1) e b no_instruction in
        lawful_chosen (is_nothing b) (begun (same_spot p (a_branch n)) m) (lawful_begun (same_spot p (a_branch n)) m (lawful_before (n + 1) e b no_instruction i h tt))
    lawful_branches n e (branch t b x) i h = (
      i.0,
      lawful_begun (same_spot p (a_branch n)) (marked_before p (n + 1) e b no_instruction) (lawful_before (n + 1) e b no_instruction i.1 (omega arith) tt),
      lawful_branches (n + 1 + branches_of b) (e + eaches_of b) x i.2 (omega arith),
    )

  lawful_rules : (k n e : ℕ) (rs : List Rule) → All (IsRule s) rs → e + eaches_of_all (map (λ r. r.body) rs) ≤ marked.eaches → All (IsRule marked) (map (marked_rule p) (rules_from k n e rs))
  lawful_rules k n e [] a h = All-nil (IsRule marked)
  lawful_rules k n e (r ∷ rs) a h =
      let one = All-head (IsRule s) r rs a in
      All-cons (IsRule marked) (marked_rule p (record { number = k; branches = n; eaches = e; rule = r })) (map (marked_rule p) (rules_from (k + 1) (n + branches_of r.body) (e + eaches_of r.body) rs))
      (record {
        mode = one.mode;
        pattern = one.pattern;
        body = lawful_begun (same_spot p (a_rule k)) (marked_before p n e r.body no_instruction) (lawful_before n e r.body no_instruction one.body (omega arith) tt);
      })
      (lawful_rules (k + 1) (n + branches_of r.body) (e + eaches_of r.body) rs (All-tail (IsRule s) r rs a) (omega arith))

  lawful_named : (k n e : ℕ) (bs : List Body) → All (IsBody s) bs → e + eaches_of_all bs ≤ marked.eaches → All (IsBody marked) (map (marked_body p) (bodies_from k n e bs))
  lawful_named k n e [] a h = All-nil (IsBody marked)
  lawful_named k n e (b ∷ bs) a h =
      All-cons (IsBody marked) (marked_body p (record { number = k; branches = n; eaches = e; body = b })) (map (marked_body p) (bodies_from (k + 1) (n + branches_of b) (e + eaches_of b) bs))
      (lawful_begun (same_spot p (a_named_body k)) (marked_before p n e b no_instruction) (lawful_before n e b no_instruction (All-head (IsBody s) b bs a) (omega arith) tt))
      (lawful_named (k + 1) (n + branches_of b) (e + eaches_of b) bs (All-tail (IsBody s) b bs a) (omega arith))

  -- with its calls in place
  abbrev Inlined : Body → Type 0
  Inlined b = (q : CallFreeBody) × Inlines marked.named b q

  abbrev InlinedBranches : Branches → Type 0
  InlinedBranches x = (q : CallFreeBranches) × BranchesInline marked.named x q

  inlined_nothing : Inlined no_instruction
  inlined_nothing = (p_done, u_done)

  inlined_begun : (is_it : Bool) (b : Body) → Inlined b → Inlined (begun is_it b)
  inlined_begun true b i = (p_element mark_name (p_element mark_name p_done p_done) i.0, u_element (u_element u_done u_done) i.1)
  inlined_begun false b i = i

  inlined_last : (z : Bool) (b : Body) → Inlined b → InlinedBranches (otherwise (cond z no_instruction b))
  inlined_last true b i = (p_otherwise p_done, u_otherwise u_done)
  inlined_last false b i = (p_otherwise i.0, u_otherwise i.1)

  abbrev AllInlined : Body → Type 0
  AllInlined b = (n e : ℕ) (rest : Body) → Inlined rest → Inlined (marked_before p n e b rest)

  inlined_call : (k : ℕ) (i b : Body) → slice_get s.named k ≡ Some i → AllInlined i → AllInlined b → AllInlined (call k b)
  inlined_call k i b at v u n e rest r =
      let x = named_at 1 (1 + branches_of_all (rule_bodies s)) (eaches_of_all (rule_bodies s)) s.named k i at in
      let inner : Inlined (marked_body p x.it) =
      inlined_begun (same_spot p (a_named_body x.it.number)) (marked_before p x.it.branches x.it.eaches x.it.body no_instruction)
      (subst (λ z. Inlined (marked_before p x.it.branches x.it.eaches z no_instruction)) (sym x.is) (v x.it.branches x.it.eaches no_instruction inlined_nothing)) in
      let later = u n e rest r in
      (p_call inner.0 later.0, u_call (marked_named_at p (numbered_bodies s) k x.it x.at) inner.1 later.1)

  mutual
    inlined : {b : Body} {q : CallFreeBody} → Inlines s.named b q → AllInlined b
    inlined u_done = λ n e rest r. r
    inlined (u_text {x} u) = let f = inlined u in λ n e rest r. let t = f n e rest r in (p_text x t.0, u_text t.1)
    inlined (u_element {i} {b} v u) = let g = inlined v in let f = inlined u in
        λ n e rest r. g n e (marked_before p (n + branches_of i) (e + eaches_of i) b rest) (f (n + branches_of i) (e + eaches_of i) rest r)
    inlined (u_copy {i} {b} v u) = let g = inlined v in let f = inlined u in
        λ n e rest r. let t = f (n + branches_of i) (e + eaches_of i) rest r in let o = g n e no_instruction inlined_nothing in
        (p_element wrapper_name (p_copy o.0 p_done) t.0, u_element (u_copy o.1 u_done) t.1)
    inlined (u_apply {w = path} {m} u) = let f = inlined u in λ n e rest r. let t = f n e rest r in (p_apply path m t.0, u_apply t.1)
    inlined (u_call {n = k} {i} {b} at v u) = let g = inlined v in let f = inlined u in inlined_call k i b at g f
    inlined (u_value {w = path} u) = let f = inlined u in λ n e rest r. let t = f n e rest r in (p_value path t.0, u_value t.1)
    inlined (u_self u) = let f = inlined u in λ n e rest r. let t = f n e rest r in (p_self t.0, u_self t.1)
    inlined (u_choose {x} v u) = let g = inlined_branches v in let f = inlined u in
        λ n e rest r. let t = f (n + branches_in x) (e + eaches_in x) rest r in let o = g n e in (p_choose o.0 t.0, u_choose o.1 t.1)
    inlined (u_each {w = path} {i} v u) = let g = inlined v in let f = inlined u in
        λ n e rest r. let t = f (n + branches_of i) (e + 1 + eaches_of i) rest r in let o = g n (e + 1) no_instruction inlined_nothing in (p_each e path o.0 t.0, u_each o.1 t.1)

    inlined_branches : {x : Branches} {q : CallFreeBranches} → BranchesInline s.named x q → (n e : ℕ) → InlinedBranches (marked_branches p n e x)
    inlined_branches (u_otherwise {b} u) = let f = inlined u in
        λ n e. inlined_last (is_nothing b) (begun (same_spot p (a_branch n)) (marked_before p (n + 1) e b no_instruction))
        (inlined_begun (same_spot p (a_branch n)) (marked_before p (n + 1) e b no_instruction) (f (n + 1) e no_instruction inlined_nothing))
    inlined_branches (u_branch {t} {b} {x} u v) = let f = inlined u in let g = inlined_branches v in
        λ n e. let o = inlined_begun (same_spot p (a_branch n)) (marked_before p (n + 1) e b no_instruction) (f (n + 1) e no_instruction inlined_nothing) in
        let l = g (n + 1 + branches_of b) (e + eaches_of b) in
        (p_branch t o.0 l.0, u_branch o.1 l.1)

  abbrev InlinedBefore : Body → Type 0
  InlinedBefore b = (q : CallFreeBody) × Inlines s.named b q

  lawful_calls : (k n e : ℕ) (bs : List Body) → All InlinedBefore bs → All Inlined (map (marked_body p) (bodies_from k n e bs))
  lawful_calls k n e [] a = All-nil Inlined
  lawful_calls k n e (b ∷ bs) a =
      All-cons Inlined (marked_body p (record { number = k; branches = n; eaches = e; body = b })) (map (marked_body p) (bodies_from (k + 1) (n + branches_of b) (e + eaches_of b) bs))
      (inlined_begun (same_spot p (a_named_body k)) (marked_before p n e b no_instruction) (inlined (All-head InlinedBefore b bs a).1 n e no_instruction inlined_nothing))
      (lawful_calls (k + 1) (n + branches_of b) (e + eaches_of b) bs (All-tail InlinedBefore b bs a))

  pub lawful_sheet : IsSheet marked
  lawful_sheet = record {
    modes = is.modes;
    rules = lawful_rules 1 1 0 s.rules is.rules (omega arith);
    named = lawful_named 1 (1 + branches_of_all (rule_bodies s)) (eaches_of_all (rule_bodies s)) s.named is.named (omega arith);
    calls = lawful_calls 1 (1 + branches_of_all (rule_bodies s)) (eaches_of_all (rule_bodies s)) s.named is.calls;
    same_eaches = λ a b x y e. same_number (w.eaches_of marked) marked.eaches all_numbers a b x y e;
    each_number = λ i h. with_number (w.eaches_of marked) marked.eaches all_numbers i h;
  }
