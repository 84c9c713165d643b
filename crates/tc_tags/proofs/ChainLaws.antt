-- Chains of entries: what a walk along one finds is what a search of all finds.
use Rattle.std.proofs.Common.{◌≡◌, ℕ, zero, suc, ◌+◌, ◌-◌, ◌<◌, ◌≤◌, Bool, true, false, cond, ◌==◌, List, [], ◌∷◌, ◌++◌, refl, ap, ◌∙◌, sym, subst, map, length, take, drop, reverse, get_or, None, Some, arith, length-take, length-append, take-append-drop, take_all, append-nil, set, slice_index}
use Rattle.std.proofs.Math.Seq.{take-suc, take-append_seam}
use Rattle.std.proofs.lemmas.Bool.{true≢false, eqb-true, eq-eqb}
use Rattle.std.proofs.lemmas.List.{reverse-append, map-append, take-map, get_or-map, length-reverse, get_or_read, get_or-replicate, get_or-set_same, get_or-set_other, length-map}
use Rattle.std.specs.Prelude.{replicate}
use Rattle.tc_tags.specs.Chained.{newest, chains_of, AreLinked, AreNewest, first_such}
use Rattle.tc_tags.specs.declared.chains.Link.{Link}

pub reverse_map : {A B : Type 0} (f : A → B) (xs : List A) → reverse (map f xs) ≡ map f (reverse xs)
reverse_map f [] = refl
reverse_map f (x ∷ xs) =
    reverse-append (f x ∷ []) (map f xs)
    ∙ (ap (λ w. w ++ f x ∷ []) (reverse_map f xs) ∙ (sym (map-append f (reverse xs) (x ∷ [])) ∙ ap (map f) (sym (reverse-append (x ∷ []) xs))))

-- the first so many, the last of them first, and one more
pub back_suc : {A : Type 0} (xs : List A) (k : ℕ) (d : A) → k < length xs → reverse (take (suc k) xs) ≡ get_or xs k d ∷ reverse (take k xs)
back_suc xs k d l = ap reverse (take-suc xs k d l) ∙ reverse-append (take k xs) (get_or xs k d ∷ [])

pub back_length : {A : Type 0} (xs : List A) (k : ℕ) → k ≤ length xs → length (reverse (take k xs)) ≡ k
back_length xs k l = length-reverse (take k xs) ∙ (length-take k xs ∙ omega arith)

linked_front : (ls ms : List Link) → AreLinked (ls ++ ms) → AreLinked ms
linked_front [] ms h = h
linked_front (l ∷ ls) ms h = linked_front ls ms h.2

linked_take : (links : List Link) (k : ℕ) → AreLinked (reverse links) → AreLinked (reverse (take k links))
linked_take links k h =
    linked_front (reverse (drop k links)) (reverse (take k links))
    (subst AreLinked (ap reverse (sym (take-append-drop k links)) ∙ reverse-append (take k links) (drop k links)) h)

-- the link of an entry
linked_at : (links : List Link) (k : ℕ) (d : Link) → k < length links → AreLinked (reverse links) → (get_or links k d).older ≡ newest (get_or links k d).chain (reverse (take k (chains_of links)))
linked_at links k d l h =
    let here = subst AreLinked (back_suc links k d l) (linked_take links (suc k) h) in
    here.1 ∙ ap (newest (get_or links k d).chain) (sym (reverse_map (λ m. m.chain) (take k links)) ∙ ap reverse (sym (take-map (λ m. m.chain) k links)))

pub older_at : (links : List Link) (chains : List ℕ) (entry : ℕ) (r : Link) → AreLinked (reverse links) → 0 < entry → entry ≤ length chains → r ≡ get_or links (entry - 1) r → chains_of links ≡ chains
    → r.older ≡ newest (get_or chains (entry - 1) 0) (reverse (take (entry - 1) chains))
older_at links chains entry r h some within is same =
    let len : length links ≡ length chains = sym (length-map links (λ m. m.chain)) ∙ ap length same in
    let l : entry - 1 < length links = omega arith in
    let at = linked_at links (entry - 1) r l h in
    let chain : r.chain ≡ get_or chains (entry - 1) 0 =
    ap (λ m. m.chain) is ∙ (sym (get_or-map (λ m. m.chain) links (entry - 1) r 0 l) ∙ ap (λ w. get_or w (entry - 1) 0) same) in
    ap (λ m. m.older) is ∙ (at ∙ (ap (λ m. newest m.chain (reverse (take (entry - 1) (chains_of links)))) (sym is) ∙ (ap (λ c. newest c (reverse (take (entry - 1) (chains_of links)))) chain ∙ ap (λ w. newest (get_or chains (entry - 1) 0) (reverse (take (entry - 1) w))) same)))

pub newest_at : (links : List Link) (entries chains : List ℕ) (chain r : ℕ) → AreNewest (reverse links) entries → length entries ≡ 4096 → chain < 4096 → r ≡ get_or entries chain r → chains_of links ≡ chains
    → r ≡ newest chain (reverse chains)
newest_at links entries chains chain r h len l is same =
    get_or_read entries chain r (omega arith) is 0
    ∙ (h chain l ∙ ap (newest chain) (sym (reverse_map (λ m. m.chain) links) ∙ ap reverse same))

pub none_newest : (links : List Link) (entries : List ℕ) → links ≡ [] → entries ≡ replicate 4096 0 → AreLinked (reverse links) × AreNewest (reverse links) entries
none_newest links entries e f = (
  subst (λ w. AreLinked (reverse w)) (sym e) tt,
  λ chain l. ap (λ w. get_or w chain 0) f ∙ (get_or-replicate 4096 chain 0 0 l ∙ ap (λ w. newest chain (chains_of (reverse w))) (sym e)),
)

-- A walk along a chain: what is found among the first `from` entries is found among the first `at`
pub record Walk {A : Type 0} (test : A → Bool) (xs : List A) (chains : List ℕ) (chain from at : ℕ) : Type 0 where
  pub found : first_such test (reverse (take from xs)) ≡ first_such test (reverse (take at xs))
  pub within : at ≤ from
  pub chained : 0 < at → get_or chains (at - 1) 0 ≡ chain

-- entries that pass are in the chain
abbrev pub Follows : {A : Type 0} → (A → Bool) → List A → List ℕ → ℕ → Type 0
Follows {A} test xs chains chain = (i : ℕ) (d : A) → i < length xs → test (get_or xs i d) ≡ true → get_or chains i 0 ≡ chain

module _ {A : Type 0} (test : A → Bool) (xs : List A) (chains : List ℕ) (chain : ℕ) (d : A) where
  pub skip : (k : ℕ) → k ≤ length xs → length chains ≡ length xs → Follows test xs chains chain → Walk test xs chains chain k (newest chain (reverse (take k chains)))
  skip zero l same h = record { found = refl; within = omega arith; chained = λ m. absurd (no m) }
    where
      no : 0 < 0 → ⊥
      no m = omega arith
  skip (suc k) l same h = by (get_or chains k 0 == chain) refl (skip k (omega arith) same h)
    where
      inner : k < length xs
      inner = omega arith

      new : newest chain (reverse (take (suc k) chains)) ≡ cond (get_or chains k 0 == chain) (suc k) (newest chain (reverse (take k chains)))
      new = ap (newest chain) (back_suc chains k 0 (omega arith)) ∙ ap (λ n. cond (get_or chains k 0 == chain) (suc n) (newest chain (reverse (take k chains)))) (back_length chains k (omega arith))

      first : first_such test (reverse (take (suc k) xs)) ≡ cond (test (get_or xs k d)) (Some (get_or xs k d)) (first_such test (reverse (take k xs)))
      first = ap (first_such test) (back_suc xs k d inner)

      apart : (t : Bool) → test (get_or xs k d) ≡ t → (get_or chains k 0 == chain) ≡ false → t ≡ false
      apart true e f = absurd (true≢false (sym (eq-eqb (get_or chains k 0) chain (h k d inner e)) ∙ f))
      apart false e f = refl

      by : (b : Bool) → (get_or chains k 0 == chain) ≡ b → Walk test xs chains chain k (newest chain (reverse (take k chains))) → Walk test xs chains chain (suc k) (newest chain (reverse (take (suc k) chains)))
      by true e w =
          let at : newest chain (reverse (take (suc k) chains)) ≡ suc k = new ∙ ap (λ b. cond b (suc k) (newest chain (reverse (take k chains)))) e in
          let here : suc k - 1 ≡ k = omega arith in
          let there : Walk test xs chains chain (suc k) (suc k) = record { found = refl; within = omega arith; chained = λ m. subst (λ n. get_or chains n 0 ≡ chain) (sym here) (eqb-true (get_or chains k 0) chain e) } in
          subst (Walk test xs chains chain (suc k)) (sym at) there
      by false e w =
          let at : newest chain (reverse (take (suc k) chains)) ≡ newest chain (reverse (take k chains)) = new ∙ ap (λ b. cond b (suc k) (newest chain (reverse (take k chains)))) e in
          let past : first_such test (reverse (take (suc k) xs)) ≡ first_such test (reverse (take k xs)) =
          first ∙ ap (λ t. cond t (Some (get_or xs k d)) (first_such test (reverse (take k xs)))) (apart (test (get_or xs k d)) refl e) in
          let there : Walk test xs chains chain (suc k) (newest chain (reverse (take k chains))) = record { found = past ∙ w.found; within = omega (arith, w.within); chained = w.chained } in
          subst (Walk test xs chains chain (suc k)) (sym at) there

  -- from the newest entry of the chain on
  pub begin : (at : ℕ) → length chains ≡ length xs → Follows test xs chains chain → at ≡ newest chain (reverse chains) → Walk test xs chains chain (length xs) at
  begin at same h e =
      subst (Walk test xs chains chain (length xs)) (ap (λ w. newest chain (reverse w)) (take_all (length xs) chains (omega arith)) ∙ sym e) (skip (length xs) (omega arith) same h)

  here : (at : ℕ) → 0 < at → at ≤ length xs → first_such test (reverse (take at xs)) ≡ cond (test (get_or xs (at - 1) d)) (Some (get_or xs (at - 1) d)) (first_such test (reverse (take (at - 1) xs)))
  here at some l =
      let e : suc (at - 1) ≡ at = omega arith in
      ap (λ n. first_such test (reverse (take n xs))) (sym e) ∙ ap (first_such test) (back_suc xs (at - 1) d (omega arith))

  -- an entry that passes
  pub hit : (at : ℕ) → Walk test xs chains chain (length xs) at → 0 < at → d ≡ get_or xs (at - 1) d → test d ≡ true → first_such test (reverse xs) ≡ Some d
  hit at w some is e =
      ap (λ w. first_such test (reverse w)) (sym (take_all (length xs) xs (omega arith)))
      ∙ (w.found ∙ (here at some w.within
      ∙ (ap (λ x. cond (test x) (Some x) (first_such test (reverse (take (at - 1) xs)))) (sym is) ∙ ap (λ t. cond t (Some d) (first_such test (reverse (take (at - 1) xs)))) e)))

  -- one that doesn't, and the next older one
  pub next : (at older : ℕ) → Walk test xs chains chain (length xs) at → 0 < at → d ≡ get_or xs (at - 1) d → test d ≡ false → length chains ≡ length xs → Follows test xs chains chain
      → older ≡ newest (get_or chains (at - 1) 0) (reverse (take (at - 1) chains)) → Walk test xs chains chain (length xs) older
  next at older w some is e same h o =
      let within = w.within in
      let more = skip (at - 1) (omega arith) same h in
      let chained : older ≡ newest chain (reverse (take (at - 1) chains)) = o ∙ ap (λ c. newest c (reverse (take (at - 1) chains))) (w.chained some) in
      let past : first_such test (reverse (take at xs)) ≡ first_such test (reverse (take (at - 1) xs)) =
      here at some within
      ∙ (ap (λ x. cond (test x) (Some x) (first_such test (reverse (take (at - 1) xs)))) (sym is) ∙ ap (λ t. cond t (Some d) (first_such test (reverse (take (at - 1) xs)))) e) in
      let there : Walk test xs chains chain (length xs) (newest chain (reverse (take (at - 1) chains))) =
      record { found = w.found ∙ (past ∙ more.found); within = omega (arith, more.within, within); chained = more.chained } in
      subst (Walk test xs chains chain (length xs)) (sym chained) there

  -- the end of the chain
  pub miss : (at : ℕ) → Walk test xs chains chain (length xs) at → at ≡ 0 → first_such test (reverse xs) ≡ None
  miss at w e = ap (λ w. first_such test (reverse w)) (sym (take_all (length xs) xs (omega arith))) ∙ (w.found ∙ ap (λ n. first_such test (reverse (take n xs))) e)

-- the newest entry of a chain is no newer than the last one
pub newest_within : (chain k : ℕ) (chains : List ℕ) → k ≤ length chains → newest chain (reverse (take k chains)) ≤ k
newest_within chain k chains l = let len = back_length chains k l in let w = within chain (reverse (take k chains)) in omega (arith, len, w)
  where
    within : (chain : ℕ) (cs : List ℕ) → newest chain cs ≤ length cs
    within chain [] = omega arith
    within chain (c ∷ cs) = by (c == chain) (within chain cs)
      where
        by : (b : Bool) → newest chain cs ≤ length cs → cond b (suc (length cs)) (newest chain cs) ≤ suc (length cs)
        by true h = omega arith
        by false h = omega arith

-- another newest entry of one chain
changed : (entries : List ℕ) (at new : ℕ) (before after : ℕ → ℕ) → length entries ≡ 4096 → at < 4096 → new ≡ after at → ((chain : ℕ) → (at == chain) ≡ false → before chain ≡ after chain)
    → ((chain : ℕ) → chain < 4096 → slice_index entries chain ≡ before chain) → (chain : ℕ) → chain < 4096 → slice_index (set entries at new) chain ≡ after chain
changed entries at new before after len l here there h chain m = by (at == chain) refl
  where
    by : (b : Bool) → (at == chain) ≡ b → slice_index (set entries at new) chain ≡ after chain
    by true e = subst (λ k. slice_index (set entries at new) k ≡ after k) (eqb-true at chain e) (get_or-set_same entries at new 0 (omega (arith, len, l)) ∙ here)
    by false e = get_or-set_other entries at chain new 0 (λ s. true≢false (sym (eq-eqb at chain (sym s)) ∙ e)) ∙ (h chain m ∙ there chain e)

passed : (at chain : ℕ) (cs : List ℕ) → (at == chain) ≡ false → newest chain (at ∷ cs) ≡ newest chain cs
passed at chain cs e = ap (λ b. cond b (suc (length cs)) (newest chain cs)) e

-- the newest entry is taken away
pub forgotten : (links rest : List Link) (link : Link) (entries : List ℕ) → links ≡ rest ++ link ∷ [] → length entries ≡ 4096 → AreLinked (reverse links) → AreNewest (reverse links) entries
    → (link.chain < 4096) × AreLinked (reverse rest) × AreNewest (reverse rest) (set entries link.chain link.older)
forgotten links rest link entries e len h n =
    let back : reverse links ≡ link ∷ reverse rest = ap reverse e ∙ reverse-append rest (link ∷ []) in
    let cs = chains_of (reverse rest) in
    let linked : (link.chain < 4096) × (link.older ≡ newest link.chain cs) × AreLinked (reverse rest) = subst AreLinked back h in (
      linked.0,
      linked.2,
      changed entries link.chain link.older (λ chain. newest chain (link.chain ∷ cs)) (λ chain. newest chain cs) len linked.0 linked.1 (λ chain q. passed link.chain chain cs q)
          (subst (λ w. AreNewest w entries) back n),
    )

pub fewer_chains : (links rest : List Link) (link : Link) (chains : List ℕ) → links ≡ rest ++ link ∷ [] → chains_of links ≡ chains → chains_of rest ≡ take (length chains - 1) chains
fewer_chains links rest link chains e same =
    let both : chains ≡ chains_of rest ++ link.chain ∷ [] = sym same ∙ (ap chains_of e ∙ map-append (λ m. m.chain) rest (link ∷ [])) in
    let less : length (chains_of rest) ≡ length chains - 1 = omega (arith, ap length both, length-append (chains_of rest) (link.chain ∷ [])) in
    sym (take-append_seam (chains_of rest) (link.chain ∷ [])) ∙ (ap (λ n. take n (chains_of rest ++ link.chain ∷ [])) less ∙ ap (take (length chains - 1)) (sym both))

pub no_chains : (links rest : List Link) (chains : List ℕ) → links ≡ rest ++ [] → length links ≡ 0 → chains_of links ≡ chains → chains_of rest ≡ take (length chains - 1) chains
no_chains links rest chains e none same =
    let same_rest : chains_of rest ≡ chains = ap chains_of (sym (append-nil rest) ∙ sym e) ∙ same in
    let few : length chains ≤ 0 = omega (arith, ap length same, length-map links (λ m. m.chain), none) in
    same_rest ∙ (sym (empty chains few))
  where
    empty : (cs : List ℕ) → length cs ≤ 0 → take (length cs - 1) cs ≡ cs
    empty [] l = refl
    empty (c ∷ cs) l = absurd (omega (arith, l))

-- another entry is added
pub added : (links : List Link) (link : Link) (entries : List ℕ) → length entries ≡ 4096 → link.chain < 4096 → link.older ≡ get_or entries link.chain link.older → AreLinked (reverse links) → AreNewest (reverse links) entries
    → AreLinked (reverse (links ++ link ∷ [])) × AreNewest (reverse (links ++ link ∷ [])) (set entries link.chain (length links + 1))
added links link entries len l is h n =
    let back : link ∷ reverse links ≡ reverse (links ++ link ∷ []) = sym (reverse-append links (link ∷ [])) in
    let cs = chains_of (reverse links) in
    let older : link.older ≡ newest link.chain cs = get_or_read entries link.chain link.older (omega (arith, len, l)) is 0 ∙ n link.chain l in
    let count : length links + 1 ≡ suc (length cs) = omega (arith, length-map (reverse links) (λ m. m.chain), length-reverse links) in
    let here : length links + 1 ≡ newest link.chain (link.chain ∷ cs) = count ∙ ap (λ b. cond b (suc (length cs)) (newest link.chain cs)) (sym (eq-eqb link.chain link.chain refl)) in (
      subst AreLinked back (l, older, h),
      subst (λ w. AreNewest w (set entries link.chain (length links + 1))) back
          (changed entries link.chain (length links + 1) (λ chain. newest chain cs) (λ chain. newest chain (link.chain ∷ cs)) len l here (λ chain q. sym (passed link.chain chain cs q)) n),
    )

pub more_chains : (links : List Link) (link : Link) (chains : List ℕ) → chains_of links ≡ chains → chains_of (links ++ link ∷ []) ≡ chains ++ link.chain ∷ []
more_chains links link chains same = map-append (λ m. m.chain) links (link ∷ []) ∙ ap (λ w. w ++ link.chain ∷ []) same
