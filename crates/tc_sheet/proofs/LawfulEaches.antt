-- Each for-each of a stylesheet has a number of its own, and all numbers are given.
use Rattle.std.proofs.Common.{◌≡◌, ◌⊎◌, inl, inr, ℕ, zero, suc, ◌+◌, ◌<◌, Bool, true, false, cond, List, [], ◌∷◌, ◌++◌, refl, ap, ◌∙◌, sym, subst, arith, length, map, filter, get_or, Contains, zero-add, if◌then◌else◌}
use Rattle.std.proofs.lemmas.List.{map-append}
use Rattle.std.proofs.lemmas.List.Elements.{Contains-append_left, Contains-append_right, Contains-append_cases}
use Rattle.tc_model.specs.Names.{ExpandedName}
use Rattle.tc_model.specs.SheetTextTrees.{WrittenBody, w_nothing, w_text, w_element, w_copy, w_apply, w_call, w_value, w_self, w_choose, w_each, WrittenBranches, w_otherwise, w_branch, Template, makes_rules}
use Rattle.tc_model.specs.SheetText.{eaches_in, eaches_in_branches, eaches_of, numbered, numbered_branches, NumberedTemplate, first_eaches}
use Rattle.tc_model.specs.WellFormed as w
use Rattle.tc_model.specs.WellFormed.{ForEach}
use Rattle.tc_sheet.proofs.NumberLaws.{others_of}

-- so many numbers from this one on
abbrev pub range : ℕ → ℕ → List ℕ
range k zero = []
range k (suc n) = k ∷ range (k + 1) n

range_more : (k m n : ℕ) → range k (m + n) ≡ range k m ++ range (k + m) n
range_more k zero n = let e : 0 + n ≡ n = omega arith in let f : k ≡ k + 0 = omega arith in ap (range k) e ∙ ap (λ z. range z n) f
range_more k (suc m) n =
    let e : suc m + n ≡ suc (m + n) = omega arith in
    let f : k + 1 + m ≡ k + suc m = omega arith in
    ap (range k) e ∙ ap (λ z. k ∷ z) (range_more (k + 1) m n ∙ ap (λ z. range (k + 1) m ++ range z n) f)

abbrev number_in : ForEach → ℕ
number_in x = x.number

abbrev pub numbers_of : List ForEach → List ℕ
numbers_of xs = map number_in xs

joined : (xs ys : List ForEach) (k m n : ℕ) → numbers_of xs ≡ range k m → numbers_of ys ≡ range (k + m) n → numbers_of (xs ++ ys) ≡ range k (m + n)
joined xs ys k m n e f = map-append number_in xs ys ∙ (ap (λ z. z ++ numbers_of ys) e ∙ (ap (λ z. range k m ++ z) f ∙ sym (range_more k m n)))

module _ (modes names : List ExpandedName) where
  mutual
    -- those of a body have the numbers from its first on
    pub body_numbers : (k : ℕ) (b : WrittenBody) → numbers_of (w.eaches_in (numbered modes names k b)) ≡ range k (eaches_in b)
    body_numbers k w_nothing = refl
    body_numbers k (w_text s b) = body_numbers k b
    body_numbers k (w_element n inner b) =
        joined (w.eaches_in (numbered modes names k inner)) (w.eaches_in (numbered modes names (k + eaches_in inner) b)) k (eaches_in inner) (eaches_in b) (body_numbers k inner) (body_numbers (k + eaches_in inner) b)
    body_numbers k (w_copy inner b) =
        joined (w.eaches_in (numbered modes names k inner)) (w.eaches_in (numbered modes names (k + eaches_in inner) b)) k (eaches_in inner) (eaches_in b) (body_numbers k inner) (body_numbers (k + eaches_in inner) b)
    body_numbers k (w_apply q mode b) = body_numbers k b
    body_numbers k (w_call n q b) = body_numbers k b
    body_numbers k (w_value q b) = body_numbers k b
    body_numbers k (w_self b) = body_numbers k b
    body_numbers k (w_choose x b) =
        joined (w.eaches_in_branches (numbered_branches modes names k x)) (w.eaches_in (numbered modes names (k + eaches_in_branches x) b)) k (eaches_in_branches x) (eaches_in b) (branches_numbers k x)
        (body_numbers (k + eaches_in_branches x) b)
    body_numbers k (w_each q inner b) =
        let e : 1 + eaches_in inner + eaches_in b ≡ suc (eaches_in inner + eaches_in b) = omega arith in
        ap (λ z. k ∷ z)
        (joined (w.eaches_in (numbered modes names (k + 1) inner)) (w.eaches_in (numbered modes names (k + 1 + eaches_in inner) b)) (k + 1) (eaches_in inner) (eaches_in b) (body_numbers (k + 1) inner)
        (body_numbers (k + 1 + eaches_in inner) b))
        ∙ ap (range k) (sym e)

    pub branches_numbers : (k : ℕ) (x : WrittenBranches) → numbers_of (w.eaches_in_branches (numbered_branches modes names k x)) ≡ range k (eaches_in_branches x)
    branches_numbers k (w_otherwise b) = body_numbers k b
    branches_numbers k (w_branch t b x) =
        joined (w.eaches_in (numbered modes names k b)) (w.eaches_in_branches (numbered_branches modes names (k + eaches_in b) x)) k (eaches_in b) (eaches_in_branches x) (body_numbers k b) (branches_numbers (k + eaches_in b) x)

  abbrev pub eaches_at : ℕ → Template → List ForEach
  eaches_at k t = w.eaches_in (numbered modes names k t.body)

  -- those of templates with rules, from this number on, and those of others
  abbrev pub in_rules_of : ℕ → List Template → List ForEach
  in_rules_of k [] = []
  in_rules_of k (t ∷ ts) = if makes_rules t then (eaches_at k t ++ in_rules_of (k + eaches_in t.body) ts) else in_rules_of k ts

  abbrev pub in_others_of : ℕ → List Template → List ForEach
  in_others_of k [] = []
  in_others_of k (t ∷ ts) = if makes_rules t then in_others_of k ts else (eaches_at k t ++ in_others_of (k + eaches_in t.body) ts)

  rules_numbers : (k : ℕ) (ts : List Template) → numbers_of (in_rules_of k ts) ≡ range k (eaches_of (filter makes_rules ts))
  rules_numbers k [] = refl
  rules_numbers k (t ∷ ts) = by (makes_rules t) (rules_numbers k ts) (rules_numbers (k + eaches_in t.body) ts)
    where
      by : (b : Bool) → numbers_of (in_rules_of k ts) ≡ range k (eaches_of (filter makes_rules ts)) → numbers_of (in_rules_of (k + eaches_in t.body) ts) ≡ range (k + eaches_in t.body) (eaches_of (filter makes_rules ts))
          → numbers_of (if b then (eaches_at k t ++ in_rules_of (k + eaches_in t.body) ts) else in_rules_of k ts) ≡ range k (eaches_of (cond b (t ∷ filter makes_rules ts) (filter makes_rules ts)))
      by true e f = joined (eaches_at k t) (in_rules_of (k + eaches_in t.body) ts) k (eaches_in t.body) (eaches_of (filter makes_rules ts)) (body_numbers k t.body) f
      by false e f = e

  others_numbers : (k : ℕ) (ts : List Template) → numbers_of (in_others_of k ts) ≡ range k (others_of ts)
  others_numbers k [] = refl
  others_numbers k (t ∷ ts) = by (makes_rules t) (others_numbers k ts) (others_numbers (k + eaches_in t.body) ts)
    where
      by : (b : Bool) → numbers_of (in_others_of k ts) ≡ range k (others_of ts) → numbers_of (in_others_of (k + eaches_in t.body) ts) ≡ range (k + eaches_in t.body) (others_of ts)
          → numbers_of (if b then in_others_of k ts else (eaches_at k t ++ in_others_of (k + eaches_in t.body) ts)) ≡ range k ((if b then 0 else eaches_in t.body) + others_of ts)
      by true e f = let same : others_of ts ≡ 0 + others_of ts = omega arith in e ∙ ap (range k) same
      by false e f = joined (eaches_at k t) (in_others_of (k + eaches_in t.body) ts) k (eaches_in t.body) (others_of ts) (body_numbers k t.body) f

  abbrev pub all_eaches : List Template → List ForEach
  all_eaches ts = in_rules_of 0 ts ++ in_others_of (eaches_of (filter makes_rules ts)) ts

  pub all_numbers : (ts : List Template) (n : ℕ) → eaches_of (filter makes_rules ts) + others_of ts ≡ n → numbers_of (all_eaches ts) ≡ range 0 n
  all_numbers ts n e =
      let first = eaches_of (filter makes_rules ts) in
      let same : first ≡ 0 + first = omega arith in
      joined (in_rules_of 0 ts) (in_others_of first ts) 0 first (others_of ts) (rules_numbers 0 ts) (others_numbers first ts ∙ ap (λ z. range z (others_of ts)) same) ∙ ap (range 0) e

  abbrev pub eaches_of_one : NumberedTemplate → List ForEach
  eaches_of_one t = eaches_at t.first t.template

  -- what a numbered template has is among all
  pub among_all : (in_rules others : ℕ) (ts : List Template) (t : NumberedTemplate) (x : ForEach) → Contains (first_eaches in_rules others ts) t → Contains (eaches_of_one t) x
      → Contains (in_rules_of in_rules ts) x ⊎ Contains (in_others_of others ts) x
  among_all in_rules others [] t x (k, l, e) h = absurd (omega (arith, l))
  among_all in_rules others (u ∷ ts) t x c h = by (makes_rules u) c (among_all (in_rules + eaches_in u.body) others ts t x) (among_all in_rules (others + eaches_in u.body) ts t x)
    where
      rest : (f : NumberedTemplate) (fs : List NumberedTemplate) → Contains (f ∷ fs) t → (f ≡ t) ⊎ Contains fs t
      rest f fs (zero, l, e) = inl e
      rest f fs (suc k, l, e) = inr (k, omega (arith, l), e)

      at : (f : NumberedTemplate) → f ≡ t → Contains (eaches_of_one f) x
      at f e = subst (λ z. Contains (eaches_of_one z) x) (sym e) h

      with_rules : (record { template = u; first = in_rules } ≡ t) ⊎ Contains (first_eaches (in_rules + eaches_in u.body) others ts) t
          → (Contains (first_eaches (in_rules + eaches_in u.body) others ts) t → Contains (eaches_of_one t) x → Contains (in_rules_of (in_rules + eaches_in u.body) ts) x ⊎ Contains (in_others_of others ts) x)
          → Contains (eaches_at in_rules u ++ in_rules_of (in_rules + eaches_in u.body) ts) x ⊎ Contains (in_others_of others ts) x
      with_rules (inl e) f = inl (Contains-append_left (eaches_at in_rules u) (in_rules_of (in_rules + eaches_in u.body) ts) x (at (record { template = u; first = in_rules }) e))
      with_rules (inr d) f = on (f d h)
        where
          on : Contains (in_rules_of (in_rules + eaches_in u.body) ts) x ⊎ Contains (in_others_of others ts) x
              → Contains (eaches_at in_rules u ++ in_rules_of (in_rules + eaches_in u.body) ts) x ⊎ Contains (in_others_of others ts) x
          on (inl g) = inl (Contains-append_right (eaches_at in_rules u) (in_rules_of (in_rules + eaches_in u.body) ts) x g)
          on (inr g) = inr g

      without : (record { template = u; first = others } ≡ t) ⊎ Contains (first_eaches in_rules (others + eaches_in u.body) ts) t
          → (Contains (first_eaches in_rules (others + eaches_in u.body) ts) t → Contains (eaches_of_one t) x → Contains (in_rules_of in_rules ts) x ⊎ Contains (in_others_of (others + eaches_in u.body) ts) x)
          → Contains (in_rules_of in_rules ts) x ⊎ Contains (eaches_at others u ++ in_others_of (others + eaches_in u.body) ts) x
      without (inl e) f = inr (Contains-append_left (eaches_at others u) (in_others_of (others + eaches_in u.body) ts) x (at (record { template = u; first = others }) e))
      without (inr d) f = on (f d h)
        where
          on : Contains (in_rules_of in_rules ts) x ⊎ Contains (in_others_of (others + eaches_in u.body) ts) x
              → Contains (in_rules_of in_rules ts) x ⊎ Contains (eaches_at others u ++ in_others_of (others + eaches_in u.body) ts) x
          on (inl g) = inl g
          on (inr g) = inr (Contains-append_right (eaches_at others u) (in_others_of (others + eaches_in u.body) ts) x g)

      by : (b : Bool)
          → Contains
          (if b
          then (record { template = u; first = in_rules } ∷ first_eaches (in_rules + eaches_in u.body) others ts)
          else (record { template = u; first = others } ∷ first_eaches in_rules (others + eaches_in u.body) ts))
          t
          → (Contains (first_eaches (in_rules + eaches_in u.body) others ts) t → Contains (eaches_of_one t) x → Contains (in_rules_of (in_rules + eaches_in u.body) ts) x ⊎ Contains (in_others_of others ts) x)
          → (Contains (first_eaches in_rules (others + eaches_in u.body) ts) t → Contains (eaches_of_one t) x → Contains (in_rules_of in_rules ts) x ⊎ Contains (in_others_of (others + eaches_in u.body) ts) x)
          → Contains (if b then (eaches_at in_rules u ++ in_rules_of (in_rules + eaches_in u.body) ts) else in_rules_of in_rules ts) x
          ⊎ Contains (if b then in_others_of others ts else (eaches_at others u ++ in_others_of (others + eaches_in u.body) ts)) x
      by true c f g = with_rules (rest (record { template = u; first = in_rules }) (first_eaches (in_rules + eaches_in u.body) others ts) c) f
      by false c f g = without (rest (record { template = u; first = others }) (first_eaches in_rules (others + eaches_in u.body) ts) c) g

  -- and what is among all is in a numbered template of that kind
  pub record IsOf (ts : List NumberedTemplate) (x : ForEach) (rules : Bool) : Type 0 where
    pub template : NumberedTemplate
    pub has : Contains ts template
    pub kind : makes_rules template.template ≡ rules
    pub eaches : Contains (eaches_of_one template) x

  beside_of : (f : NumberedTemplate) (fs : List NumberedTemplate) (x : ForEach) (r : Bool) → IsOf fs x r → IsOf (f ∷ fs) x r
  beside_of f fs x r o = record { template = o.template; has = let (k, l, e) = o.has in (suc k, omega (arith, l), e); kind = o.kind; eaches = o.eaches }

  pub of_rules : (in_rules others : ℕ) (ts : List Template) (x : ForEach) → Contains (in_rules_of in_rules ts) x → IsOf (first_eaches in_rules others ts) x true
  of_rules in_rules others [] x (k, l, e) = absurd (omega (arith, l))
  of_rules in_rules others (u ∷ ts) x c = by (makes_rules u) refl c (of_rules (in_rules + eaches_in u.body) others ts x) (of_rules in_rules (others + eaches_in u.body) ts x)
    where
      by : (b : Bool) → makes_rules u ≡ b → Contains (if b then (eaches_at in_rules u ++ in_rules_of (in_rules + eaches_in u.body) ts) else in_rules_of in_rules ts) x
          → (Contains (in_rules_of (in_rules + eaches_in u.body) ts) x → IsOf (first_eaches (in_rules + eaches_in u.body) others ts) x true)
          → (Contains (in_rules_of in_rules ts) x → IsOf (first_eaches in_rules (others + eaches_in u.body) ts) x true)
          → IsOf
          (if b
          then (record { template = u; first = in_rules } ∷ first_eaches (in_rules + eaches_in u.body) others ts)
          else (record { template = u; first = others } ∷ first_eaches in_rules (others + eaches_in u.body) ts))
          x true
      by true is c f g = at (Contains-append_cases (eaches_at in_rules u) (in_rules_of (in_rules + eaches_in u.body) ts) x c)
        where
          at : Contains (eaches_at in_rules u) x ⊎ Contains (in_rules_of (in_rules + eaches_in u.body) ts) x → IsOf (record { template = u; first = in_rules } ∷ first_eaches (in_rules + eaches_in u.body) others ts) x true
          at (inl d) = record { template = record { template = u; first = in_rules }; has = (0, omega arith, refl); kind = is; eaches = d }
          at (inr d) = beside_of (record { template = u; first = in_rules }) (first_eaches (in_rules + eaches_in u.body) others ts) x true (f d)
      by false is c f g = beside_of (record { template = u; first = others }) (first_eaches in_rules (others + eaches_in u.body) ts) x true (g c)

  pub of_others : (in_rules others : ℕ) (ts : List Template) (x : ForEach) → Contains (in_others_of others ts) x → IsOf (first_eaches in_rules others ts) x false
  of_others in_rules others [] x (k, l, e) = absurd (omega (arith, l))
  of_others in_rules others (u ∷ ts) x c = by (makes_rules u) refl c (of_others (in_rules + eaches_in u.body) others ts x) (of_others in_rules (others + eaches_in u.body) ts x)
    where
      by : (b : Bool) → makes_rules u ≡ b → Contains (if b then in_others_of others ts else (eaches_at others u ++ in_others_of (others + eaches_in u.body) ts)) x
          → (Contains (in_others_of others ts) x → IsOf (first_eaches (in_rules + eaches_in u.body) others ts) x false)
          → (Contains (in_others_of (others + eaches_in u.body) ts) x → IsOf (first_eaches in_rules (others + eaches_in u.body) ts) x false)
          → IsOf
          (if b
          then (record { template = u; first = in_rules } ∷ first_eaches (in_rules + eaches_in u.body) others ts)
          else (record { template = u; first = others } ∷ first_eaches in_rules (others + eaches_in u.body) ts))
          x false
      by true is c f g = beside_of (record { template = u; first = in_rules }) (first_eaches (in_rules + eaches_in u.body) others ts) x false (f c)
      by false is c f g = at (Contains-append_cases (eaches_at others u) (in_others_of (others + eaches_in u.body) ts) x c)
        where
          at : Contains (eaches_at others u) x ⊎ Contains (in_others_of (others + eaches_in u.body) ts) x → IsOf (record { template = u; first = others } ∷ first_eaches in_rules (others + eaches_in u.body) ts) x false
          at (inl d) = record { template = record { template = u; first = others }; has = (0, omega arith, refl); kind = is; eaches = d }
          at (inr d) = beside_of (record { template = u; first = others }) (first_eaches in_rules (others + eaches_in u.body) ts) x false (g d)

-- things whose numbers are in a row
numbered_at : (k n : ℕ) (xs : List ForEach) (x : ForEach) (i : ℕ) → numbers_of xs ≡ range k n → i < length xs → get_or xs i x ≡ x → x.number ≡ k + i
numbered_at k n [] x i e l f = absurd (omega (arith, l))
numbered_at k zero (y ∷ ys) x i e l f = absurd (omega (arith, ap length e))
numbered_at k (suc n) (y ∷ ys) x zero e l f = let first : y.number ≡ k = head e in let same : y.number ≡ x.number = ap number_in f in omega (arith, first, same)
  where
    head : {a b : ℕ} {us vs : List ℕ} → a ∷ us ≡ b ∷ vs → a ≡ b
    head e = cc
numbered_at k (suc n) (y ∷ ys) x (suc i) e l f = let later = numbered_at (k + 1) n ys x i (tail e) (omega (arith, l)) f in omega (arith, later)
  where
    tail : {a b : ℕ} {us vs : List ℕ} → a ∷ us ≡ b ∷ vs → us ≡ vs
    tail e = cc

pub same_number : (n : ℕ) (xs : List ForEach) (x y : ForEach) → numbers_of xs ≡ range 0 n → Contains xs x → Contains xs y → x.number ≡ y.number → x ≡ y
same_number n xs x y e (i, l, f) (j, m, g) h =
    let same : i ≡ j = omega (arith, numbered_at 0 n xs x i e l f, numbered_at 0 n xs y j e m g, h) in
    sym f ∙ (other xs i x y l ∙ (ap (λ k. get_or xs k y) same ∙ g))
  where
    other : (xs : List ForEach) (i : ℕ) (x y : ForEach) → i < length xs → get_or xs i x ≡ get_or xs i y
    other [] i x y l = absurd (omega (arith, l))
    other (z ∷ zs) zero x y l = refl
    other (z ∷ zs) (suc i) x y l = other zs i x y (omega (arith, l))

range_length : (k n : ℕ) → length (range k n) ≡ n
range_length k zero = refl
range_length k (suc n) = ap (λ z. suc z) (range_length (k + 1) n)

pub of_number : (n : ℕ) (xs : List ForEach) (i : ℕ) → numbers_of xs ≡ range 0 n → i < n → (x : ForEach) × Contains xs x × (x.number ≡ i)
of_number n xs i e l =
    let within : i < length xs = omega (arith, ap length e, range_length 0 n, counts xs, l) in
    let (x, f) = some xs i within in (x, (i, within, f), numbered_at 0 n xs x i e within f ∙ zero-add i)
  where
    counts : (xs : List ForEach) → length (numbers_of xs) ≡ length xs
    counts [] = refl
    counts (x ∷ xs) = ap (λ z. suc z) (counts xs)

    some : (xs : List ForEach) (i : ℕ) → i < length xs → (x : ForEach) × (get_or xs i x ≡ x)
    some [] i l = absurd (omega (arith, l))
    some (x ∷ xs) zero l = (x, refl)
    some (x ∷ xs) (suc i) l = some xs i (omega (arith, l))
