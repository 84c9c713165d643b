-- What is known of names, numbers and declarations.
use Rattle.std.proofs.Common.{◌≡◌, ◌⊎◌, inl, inr, ◌+◌, ◌≤◌, ℕ, suc, Bool, true, false, cond, List, [], ◌∷◌, refl, ap, ◌∙◌, sym, subst, arith, Option, Some, None, map, length, bytes_eq, slice_get}
use Rattle.std.specs.List.{Contains, AllByRecursion}
use Rattle.std.specs.Option.{option_map}
use Rattle.std.specs.Cmp.Lexicographic.{bytes_decides}
use Rattle.std.proofs.lemmas.List.Elements.{Contains-append_left, Contains-append_right, Contains-append_cases, Contains-push, Contains-push_cases}
use Rattle.tc_model.specs.Grammars.{ElementPattern, element_at}
use Rattle.tc_dtd.specs.Declarations.{Content, Declaration, declared}
use Rattle.tc_dtd.specs.DtdGrammar.{IsReached, Keeps, keeps_none, keeps, leaves, number_of}

pub in_cons : {X : Type 0} (y : X) (ys : List X) (x : X) → Contains (y ∷ ys) x → (y ≡ x) ⊎ Contains ys x
in_cons y ys x h = by (Contains-append_cases (y ∷ []) ys x h)
  where
    one : Contains (y ∷ []) x → y ≡ x
    one k = elim (Contains-push_cases [] y x k) [ inl (i, low, e) ↦ absurd (omega (arith, low)) | inr e ↦ e ]

    by : Contains (y ∷ []) x ⊎ Contains ys x → (y ≡ x) ⊎ Contains ys x
    by (inl k) = inl (one k)
    by (inr k) = inr k

pub in_first : {X : Type 0} (x : X) (xs : List X) → Contains (x ∷ xs) x
in_first x xs = Contains-append_left (x ∷ []) xs x (Contains-push [] x)

pub in_rest : {X : Type 0} (y : X) (xs : List X) (x : X) → Contains xs x → Contains (y ∷ xs) x
in_rest y xs x h = Contains-append_right (y ∷ []) xs x h

pub in_none : {X : Type 0} (x : X) → Contains [] x → ⊥
in_none x (i, low, e) = omega (arith, low)

pub same_bytes : (a b : List ℕ) → bytes_eq a b ≡ true → a ≡ b
same_bytes a b e = (bytes_decides a b).0 e

pub bytes_same : (a b : List ℕ) → a ≡ b → bytes_eq a b ≡ true
bytes_same a b e = (bytes_decides a b).1 e

-- numbers

-- what a number is that of
pub record Numbered {X : Type 0} (f : Declaration → X) (xs : List Declaration) (n : List ℕ) (k : ℕ) : Type 0 where
  pub before : ℕ
  pub x : Declaration
  pub from_one : k ≡ suc before
  pub named : x.name ≡ n
  pub is_declared : declared xs n ≡ Some x.content
  pub stands : slice_get (map f xs) before ≡ Some (f x)
  pub within : k ≤ length (map f xs)

some_same : {A : Type 0} {a b : A} → Some a ≡ Some b → a ≡ b
some_same {a = a} {b = b} e = cc

pub numbered : {X : Type 0} (f : Declaration → X) (xs : List Declaration) (n : List ℕ) (k : ℕ) → number_of xs n ≡ Some k → Numbered f xs n k
numbered f [] n k e = absurd (cc)
numbered f (y ∷ ys) n k e = by (λ j i. numbered f ys n j i) (bytes_eq y.name n) refl e
  where
    later : ((j : ℕ) → number_of ys n ≡ Some j → Numbered f ys n j) → (j : Option ℕ) → number_of ys n ≡ j → bytes_eq y.name n ≡ false → option_map (λ k. k + 1) j ≡ Some k
        → Numbered f (y ∷ ys) n k
    later rec None i b e = absurd (cc)
    later rec (Some j) i b e =
        let r = rec j i in
        let is : j + 1 ≡ k = some_same e in
        record {
          before = suc r.before;
          x = r.x;
          from_one = omega (arith, is, r.from_one);
          named = r.named;
          is_declared = ap (λ t. cond t (Some y.content) (declared ys n)) b ∙ r.is_declared;
          stands = r.stands;
          within = omega (arith, is, r.within);
        }

    by : ((j : ℕ) → number_of ys n ≡ Some j → Numbered f ys n j) → (t : Bool) → bytes_eq y.name n ≡ t → cond t (Some 1) (option_map (λ k. k + 1) (number_of ys n)) ≡ Some k
        → Numbered f (y ∷ ys) n k
    by rec true b e =
        let is : 1 ≡ k = some_same e in
        record {
          before = 0;
          x = y;
          from_one = omega (arith, is);
          named = same_bytes y.name n b;
          is_declared = ap (λ t. cond t (Some y.content) (declared ys n)) b;
          stands = refl;
          within = omega (arith, is);
        }
    by rec false b e = later rec (number_of ys n) refl b e

-- what is declared has a number
pub has_number : (xs : List Declaration) (n : List ℕ) (c : Content) → declared xs n ≡ Some c → (k : ℕ) × (number_of xs n ≡ Some k)
has_number [] n c e = absurd (cc)
has_number (y ∷ ys) n c e = by (λ i. has_number ys n c i) (bytes_eq y.name n) refl e
  where
    by : (declared ys n ≡ Some c → (k : ℕ) × (number_of ys n ≡ Some k)) → (t : Bool) → bytes_eq y.name n ≡ t → cond t (Some y.content) (declared ys n) ≡ Some c → (k : ℕ) × (number_of (y ∷ ys) n ≡ Some k)
    by rec true b e = (1, ap (λ t. cond t (Some 1) (option_map (λ k. k + 1) (number_of ys n))) b)
    by rec false b e =
        let (k, i) = rec e in
        (k + 1, ap (λ t. cond t (Some 1) (option_map (λ k. k + 1) (number_of ys n))) b ∙ ap (option_map (λ k. k + 1)) i)

pub element_numbered : {f : Declaration → ElementPattern} {xs : List Declaration} {n : List ℕ} {k : ℕ} → (r : Numbered f xs n k) → element_at (map f xs) k ≡ Some (f r.x)
element_numbered {f} {xs} r = ap (element_at (map f xs)) r.from_one ∙ r.stands

-- what is declared is named
pub declared_name : (xs : List Declaration) (n : List ℕ) (c : Content) → declared xs n ≡ Some c → Contains (map (λ x. x.name) xs) n
declared_name [] n c e = absurd (cc)
declared_name (y ∷ ys) n c e = by (λ i. declared_name ys n c i) (bytes_eq y.name n) refl e
  where
    by : (declared ys n ≡ Some c → Contains (map (λ x. x.name) ys) n) → (t : Bool) → bytes_eq y.name n ≡ t → cond t (Some y.content) (declared ys n) ≡ Some c → Contains (map (λ x. x.name) (y ∷ ys)) n
    by rec true b e = subst (λ m. Contains (y.name ∷ map (λ x. x.name) ys) m) (same_bytes y.name n b) (in_first y.name (map (λ x. x.name) ys))
    by rec false b e = in_rest y.name (map (λ x. x.name) ys) n (rec e)

-- what is kept

pub kept_declared : (dtd : List Declaration) (root : List ℕ) (xs kept : List Declaration) (n : List ℕ) (c : Content) → Keeps dtd root xs kept → declared kept n ≡ Some c
    → (declared xs n ≡ Some c) × IsReached dtd root n
kept_declared dtd root xs kept n c keeps_none e = absurd (cc)
kept_declared dtd root xs kept n c (keeps {x = y} {xs = ys} {kept = ks} r k) e = by (λ i. kept_declared dtd root ys ks n c k i) (bytes_eq y.name n) refl e
  where
    by : (declared ks n ≡ Some c → (declared ys n ≡ Some c) × IsReached dtd root n) → (t : Bool) → bytes_eq y.name n ≡ t → cond t (Some y.content) (declared ks n) ≡ Some c → (declared (y ∷ ys) n ≡ Some c) × IsReached dtd root n
    by rec true b e = (ap (λ t. cond t (Some y.content) (declared ys n)) b ∙ e, subst (IsReached dtd root) (same_bytes y.name n b) r)
    by rec false b e = let (d, r) = rec e in (ap (λ t. cond t (Some y.content) (declared ys n)) b ∙ d, r)
kept_declared dtd root xs kept n c (leaves {x = y} {xs = ys} left k) e =
    let (d, r) = kept_declared dtd root ys kept n c k e in (by (bytes_eq y.name n) refl r d, r)
  where
    by : (t : Bool) → bytes_eq y.name n ≡ t → IsReached dtd root n → declared ys n ≡ Some c → declared (y ∷ ys) n ≡ Some c
    by true b r d = absurd (left (subst (IsReached dtd root) (sym (same_bytes y.name n b)) r))
    by false b r d = ap (λ t. cond t (Some y.content) (declared ys n)) b ∙ d

pub declared_kept : (dtd : List Declaration) (root : List ℕ) (xs kept : List Declaration) (n : List ℕ) (c : Content) → Keeps dtd root xs kept → IsReached dtd root n → declared xs n ≡ Some c
    → declared kept n ≡ Some c
declared_kept dtd root xs kept n c keeps_none r e = absurd (cc)
declared_kept dtd root xs kept n c (keeps {x = y} {xs = ys} {kept = ks} s k) r e = by (λ i. declared_kept dtd root ys ks n c k r i) (bytes_eq y.name n) refl e
  where
    by : (declared ys n ≡ Some c → declared ks n ≡ Some c) → (t : Bool) → bytes_eq y.name n ≡ t → cond t (Some y.content) (declared ys n) ≡ Some c → declared (y ∷ ks) n ≡ Some c
    by rec true b e = ap (λ t. cond t (Some y.content) (declared ks n)) b ∙ e
    by rec false b e = ap (λ t. cond t (Some y.content) (declared ks n)) b ∙ rec e
declared_kept dtd root xs kept n c (leaves {x = y} {xs = ys} left k) r e = by (λ i. declared_kept dtd root ys kept n c k r i) (bytes_eq y.name n) refl e
  where
    by : (declared ys n ≡ Some c → declared kept n ≡ Some c) → (t : Bool) → bytes_eq y.name n ≡ t → cond t (Some y.content) (declared ys n) ≡ Some c → declared kept n ≡ Some c
    by rec true b e = absurd (left (subst (IsReached dtd root) (sym (same_bytes y.name n b)) r))
    by rec false b e = rec e

pub kept_all : (P : Declaration → Type 0) (dtd : List Declaration) (root : List ℕ) (xs kept : List Declaration) → Keeps dtd root xs kept → AllByRecursion P xs → AllByRecursion P kept
kept_all P dtd root xs kept keeps_none a = tt
kept_all P dtd root xs kept (keeps {xs = ys} {kept = ks} r k) a = (a.0, kept_all P dtd root ys ks k a.1)
kept_all P dtd root xs kept (leaves {xs = ys} left k) a = kept_all P dtd root ys kept k a.1
