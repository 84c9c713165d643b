-- States are put one after another, and where each leads is told by what was put.
use Rattle.std.proofs.Common.{◌≡◌, ℕ, zero, suc, ◌+◌, ◌<◌, ◌≤◌, List, [], ◌∷◌, ◌++◌, Bool, true, false, ◌||◌, refl, ap, sym, ◌∙◌, subst, map, filter, flat_map, length, take, drop, get_or, append_assoc, Option, Some, None, slice_get, arith, if◌then◌else◌, ◌&&◌, nat_eq, bit_and}
use Rattle.std.specs.Global.{Vec}
use Rattle.std.specs.List.{list_any, AllZip}
use Rattle.std.proofs.lemmas.List.{append-nil, take-append-drop, take_more, take-append-le, length_push, map-append}
use Rattle.std.proofs.lemmas.List.Elements.{filter-append}
use Rattle.std.proofs.lemmas.Grind.{flat_map-append}
use Rattle.std.proofs.lemmas.Option.{get_or_from_slice_get, slice_get_within}
use Rattle.tc_rules.specs.Once.{put_once, put_all}
use Rattle.tc_rules.specs.Reached.{kept_by, lead_of, leads_by_set, ArePut, AreMany, IsLead, AreLeads, IsLeadOfClass, AreLeadsOfClasses, AreLeadsByClass, AreLedFrom, AreLed}
use Rattle.tc_rules.specs.Rows.{words, all_words, leads}
use Rattle.std.specs.Int.Bits.{and_zero_l, or_zero_r}
use Rattle.std.proofs.lemmas.Bool.{eqb-true}
use Rattle.tc_rules.specs.Words.{after_word, are_zero, both_words, first_word, further_words, same_words}
use Rattle.tc_rules.specs.declared.graph.Counts.{Counts}
use Rattle.tc_rules.specs.declared.graph.Leads.{Leads}
use Rattle.tc_rules.specs.declared.graph.Letters.{Letters}
use Rattle.tc_rules.specs.declared.search.Reached.{Reached}
use Rattle.tc_rules.proofs.LeadRows.{words_self}
use Rattle.tc_rules.proofs.Numbering.{put_joined, put_is}
use Rattle.tc_rules.proofs.Pieces.{get_front, unmapped_at}
use Rattle.tc_rules.proofs.Rounds.{put_grows}
use Rattle.tc_model.specs.Numbered.{each_once_after}

zip_push : {X Y : Type 0} (R : X → Y → Type 0) (xs : List X) (ys : List Y) (x : X) (y : Y) → AllZip R xs ys → R x y → AllZip R (xs ++ x ∷ []) (ys ++ y ∷ [])
zip_push R [] [] x y h e = (e, tt)
zip_push R [] (z ∷ ys) x y h e = absurd h
zip_push R (w ∷ xs) [] x y h e = absurd h
zip_push R (w ∷ xs) (z ∷ ys) x y h e = (h.0, zip_push R xs ys x y h.1 e)

zip_kept : {X Y : Type 0} (R S : X → Y → Type 0) → ((x : X) (y : Y) → R x y → S x y) → (xs : List X) (ys : List Y) → AllZip R xs ys → AllZip S xs ys
zip_kept R S f [] [] h = tt
zip_kept R S f [] (y ∷ ys) h = absurd h
zip_kept R S f (x ∷ xs) [] h = absurd h
zip_kept R S f (x ∷ xs) (y ∷ ys) h = (f x y h.0, zip_kept R S f xs ys h.1)

zip_left : {X Y : Type 0} (R : X → Y → Type 0) (xs : List X) (ys : List Y) (i : ℕ) (x : X) → AllZip R xs ys → slice_get xs i ≡ Some x → (y : Y) × (slice_get ys i ≡ Some y) × R x y
zip_left R [] [] i x h e = absurd (cc)
zip_left R [] (z ∷ ys) i x h e = absurd h
zip_left R (w ∷ xs) [] i x h e = absurd h
zip_left R (w ∷ xs) (z ∷ ys) zero x h e = let same : w ≡ x = cc in (z, refl, subst (λ v. R v z) same h.0)
zip_left R (w ∷ xs) (z ∷ ys) (suc i) x h e = zip_left R xs ys i x h.1 e

map_push : {X Y : Type 0} (f : X → Y) (xs : List X) (x : X) → map f (xs ++ x ∷ []) ≡ map f xs ++ f x ∷ []
map_push f xs x = map-append f xs (x ∷ [])

zero_front : (u : ℕ) (b : Bool) → (nat_eq u 0 && b) ≡ true → (u ≡ 0) × (b ≡ true)
zero_front u b e = by (nat_eq u 0) refl e
  where
    by : (c : Bool) → nat_eq u 0 ≡ c → (c && b) ≡ true → (u ≡ 0) × (b ≡ true)
    by true f h = (eqb-true u 0 f, h)
    by false f h = absurd (cc)

-- items that don't move on
words_stay : (ks ms m : List ℕ) → are_zero ms ≡ true → further_words 0 ks (both_words ms m) ≡ ks
words_stay [] ms m e = refl
words_stay (k ∷ ks) [] m e = ap (λ w. w ∷ further_words 0 ks []) (or_zero_r k) ∙ ap (λ w. k ∷ w) (words_stay ks [] m refl)
words_stay (k ∷ ks) (w ∷ ms) m e = by w refl e (words_stay ks ms (after_word m))
  where
    zero_met : (u : ℕ) → u ≡ 0 → bit_and u (first_word m) ≡ 0
    zero_met u f = ap (λ v. bit_and v (first_word m)) f ∙ and_zero_l (first_word m)

    by : (u : ℕ) → w ≡ u → (nat_eq u 0 && are_zero ms) ≡ true → (are_zero ms ≡ true → further_words 0 ks (both_words ms (after_word m)) ≡ ks) → further_words 0 (k ∷ ks) (bit_and w (first_word m) ∷ both_words ms (after_word m)) ≡ (k ∷ ks)
    by u f h rest =
        let (none, others) = zero_front u (are_zero ms) h in
        ap (λ v. further_words 0 (k ∷ ks) (v ∷ both_words ms (after_word m))) (zero_met w (f ∙ none))
        ∙ (ap (λ v. v ∷ further_words 0 ks (both_words ms (after_word m))) (or_zero_r k) ∙ ap (λ v. k ∷ v) (rest others))

module _ (counts : Counts) where
  -- one that doesn't count, or is there, isn't put
  pub put_none : (old : List (List ℕ)) (x : List ℕ) → kept_by counts x ≡ false → ArePut counts old (x ∷ []) old
  put_none old x e = sym (ap (λ (b : Bool). put_all same_words old (if b then (x ∷ []) else [])) e)

  pub put_one : (old new : List (List ℕ)) (x : List ℕ) → kept_by counts x ≡ true → new ≡ put_once same_words old x → ArePut counts old (x ∷ []) new
  put_one old new x e is = is ∙ sym (ap (λ (b : Bool). put_all same_words old (if b then (x ∷ []) else [])) e)

  any_at : (xs : List (List ℕ)) (i : ℕ) (x : List ℕ) → slice_get xs i ≡ Some x → list_any (same_words x) xs ≡ true
  any_at [] i x e = absurd (cc)
  any_at (y ∷ xs) zero x e = let same : y ≡ x = cc in ap (λ v. same_words x v || list_any (same_words x) xs) same ∙ ap (λ b. b || list_any (same_words x) xs) (words_self x)
  any_at (y ∷ xs) (suc i) x e = by (same_words x y) (any_at xs i x e)
    where
      by : (b : Bool) → list_any (same_words x) xs ≡ true → (b || list_any (same_words x) xs) ≡ true
      by true h = refl
      by false h = h

  pub put_known : (old : List (List ℕ)) (k : Option ℕ) (x : List ℕ) → IsLead counts old k x → ArePut counts old (x ∷ []) old
  put_known old None x e = put_none old x e
  put_known old (Some k) x e = put_one old old x e.0 (sym (ap (λ (b : Bool). if b then old else (old ++ x ∷ [])) (any_at old k x e.1)))

  -- the number of a state stays
  pub lead_kept : (old new xs : List (List ℕ)) (k : Option ℕ) (x : List ℕ) → ArePut counts old xs new → IsLead counts old k x → IsLead counts new k x
  lead_kept old new xs None x put e = e
  lead_kept old new xs (Some k) x put e =
      let more = filter (kept_by counts) xs in
      (e.0, ap (λ w. slice_get w k) (put ∙ put_is same_words old more) ∙ get_front old (each_once_after same_words old more) k x e.1)

  pub leads_kept : (old new xs : List (List ℕ)) (ks : List (Option ℕ)) (ys : List (List ℕ)) → ArePut counts old xs new → AreLeads counts old ks ys → AreLeads counts new ks ys
  leads_kept old new xs ks ys put h = zip_kept (IsLead counts old) (IsLead counts new) (λ k x e. lead_kept old new xs k x put e) ks ys h

  -- some after others
  pub put_two : (old now new xs ys : List (List ℕ)) → ArePut counts old xs now → ArePut counts now ys new → ArePut counts old (xs ++ ys) new
  put_two old now new xs ys a b =
      b ∙ (ap (λ w. put_all same_words w (filter (kept_by counts) ys)) a
      ∙ (sym (put_joined same_words old (filter (kept_by counts) xs) (filter (kept_by counts) ys)) ∙ ap (put_all same_words old) (sym (filter-append (kept_by counts) xs ys))))

  pub put_nothing : (old : List (List ℕ)) → ArePut counts old [] old
  put_nothing old = refl

  -- where some are too many, more of them are
  pub many_front : (most : ℕ) (old xs ys : List (List ℕ)) → AreMany counts most old xs → AreMany counts most old (xs ++ ys)
  many_front most old xs ys h =
      let front = put_all same_words old (filter (kept_by counts) xs) in
      let all : put_all same_words old (filter (kept_by counts) (xs ++ ys)) ≡ put_all same_words front (filter (kept_by counts) ys) =
      ap (put_all same_words old) (filter-append (kept_by counts) xs ys) ∙ put_joined same_words old (filter (kept_by counts) xs) (filter (kept_by counts) ys) in
      omega (arith, h, put_grows same_words front (put_all same_words old (filter (kept_by counts) (xs ++ ys))) (filter (kept_by counts) ys) all)

  pub many_after : (most : ℕ) (old now xs ys zs : List (List ℕ)) → ArePut counts old xs now → AreMany counts most now ys → AreMany counts most old (xs ++ (ys ++ zs))
  many_after most old now xs ys zs a h =
      subst (AreMany counts most old) (append_assoc xs ys zs)
      (many_front most old (xs ++ ys) zs (subst (λ w. most < length w) (put_two old now (put_all same_words now (filter (kept_by counts) ys)) xs ys a refl) h))

  -- ---- set by set
  module _ (staying moving : List ℕ) (old : List (List ℕ)) (marked : List (List ℕ)) (i : ℕ) where
    abbrev so_far : List (List ℕ)
    so_far = leads_by_set staying moving (take i marked)

    one_set_more : (m : List ℕ) → slice_get marked i ≡ Some m → leads_by_set staying moving (take (i + 1) marked) ≡ so_far ++ lead_of staying moving m ∷ []
    one_set_more m e = ap (leads_by_set staying moving) (take_next marked i m e) ∙ map_push (lead_of staying moving) (take i marked) m
      where
        take_next : (xs : List (List ℕ)) (i : ℕ) (x : List ℕ) → slice_get xs i ≡ Some x → take (i + 1) xs ≡ take i xs ++ x ∷ []
        take_next xs i x e = take_more xs i x (slice_get_within xs i x e) ∙ ap (λ y. take i xs ++ y ∷ []) (get_or_from_slice_get xs i x x e)

    pub set_put : (m : List ℕ) (now new : List (List ℕ)) → slice_get marked i ≡ Some m → ArePut counts old so_far now → ArePut counts now (lead_of staying moving m ∷ []) new
        → ArePut counts old (leads_by_set staying moving (take (i + 1) marked)) new
    set_put m now new e a b = subst (λ w. ArePut counts old w new) (sym (one_set_more m e)) (put_two old now new so_far (lead_of staying moving m ∷ []) a b)

    pub set_led : (m : List ℕ) (now new : List (List ℕ)) (ks more : List (Option ℕ)) (k : Option ℕ) → slice_get marked i ≡ Some m → ArePut counts now (lead_of staying moving m ∷ []) new → more ≡ ks ++ k ∷ []
        → AreLeads counts now ks so_far → IsLead counts new k (lead_of staying moving m) → AreLeads counts new more (leads_by_set staying moving (take (i + 1) marked))
    set_led m now new ks more k e put is h led =
        subst (λ w. AreLeads counts new w (leads_by_set staying moving (take (i + 1) marked))) (sym is)
        (subst (AreLeads counts new (ks ++ k ∷ [])) (sym (one_set_more m e))
        (zip_push (IsLead counts new) ks so_far k (lead_of staying moving m) (leads_kept now new (lead_of staying moving m ∷ []) ks so_far put h) led))

    pub set_many : (most : ℕ) (m : List ℕ) (now : List (List ℕ)) → slice_get marked i ≡ Some m → ArePut counts old so_far now → AreMany counts most now (lead_of staying moving m ∷ []) → AreMany counts most old (leads_by_set staying moving marked)
    set_many most m now e a h =
        let rest = leads_by_set staying moving (drop (i + 1) marked) in
        let all : leads_by_set staying moving marked ≡ so_far ++ ((lead_of staying moving m ∷ []) ++ rest) =
        ap (leads_by_set staying moving) (sym (take-append-drop (i + 1) marked))
        ∙ (map-append (lead_of staying moving) (take (i + 1) marked) (drop (i + 1) marked)
        ∙ (ap (λ w. w ++ rest) (one_set_more m e) ∙ append_assoc so_far (lead_of staying moving m ∷ []) rest)) in
        subst (AreMany counts most old) (sym all) (many_after most old now so_far (lead_of staying moving m ∷ []) rest a h)

    -- a set that has the same where items may move on leads there too
    pub set_known : (m : List ℕ) (now : List (List ℕ)) (ks : List (Option ℕ)) (k : Option ℕ) (before : ℕ) → slice_get marked i ≡ Some m → both_words moving (get_or marked before []) ≡ both_words moving (get_or marked i [])
        → AreLeads counts now ks so_far → slice_get ks before ≡ Some k → IsLead counts now k (lead_of staying moving m)
    set_known m now ks k before e same h at =
        let known = zip_left (IsLead counts now) ks so_far before k h at in
        let of_set = unmapped_at (lead_of staying moving) (take i marked) before known.0 known.1 in
        let before_is : get_or marked before [] ≡ of_set.0 = get_or_from_slice_get marked before of_set.0 [] (taken marked i before of_set.0 of_set.1) in
        let here_is : get_or marked i [] ≡ m = get_or_from_slice_get marked i m [] e in
        let alike : lead_of staying moving of_set.0 ≡ lead_of staying moving m =
        ap (further_words 0 staying) (ap (both_words moving) (sym before_is) ∙ (same ∙ ap (both_words moving) here_is)) in
        subst (IsLead counts now k) (sym of_set.2 ∙ alike) known.2
      where
        taken : (xs : List (List ℕ)) (n j : ℕ) (x : List ℕ) → slice_get (take n xs) j ≡ Some x → slice_get xs j ≡ Some x
        taken [] zero j x e = e
        taken [] (suc n) j x e = e
        taken (y ∷ xs) zero zero x e = absurd (cc)
        taken (y ∷ xs) zero (suc j) x e = absurd (cc)
        taken (y ∷ xs) (suc n) zero x e = e
        taken (y ∷ xs) (suc n) (suc j) x e = taken xs n j x e

  -- ---- class by class
  module _ (staying waiting : List ℕ) (l : Letters) (old : List (List ℕ)) (i : ℕ) where
    abbrev sets : List (List ℕ)
    sets = all_words l.marked.items

    abbrev kinds : List (List ℕ)
    kinds = all_words l.kinds.keys

    abbrev of_class : List ℕ → List (List ℕ)
    of_class kind = leads_by_set staying (both_words waiting kind) sets

    abbrev of_classes : List (List ℕ)
    of_classes = flat_map of_class (take i kinds)

    next_kind : (k : List ℕ) → slice_get kinds i ≡ Some k → take (i + 1) kinds ≡ take i kinds ++ k ∷ []
    next_kind k e = take_more kinds i k (slice_get_within kinds i k e) ∙ ap (λ y. take i kinds ++ y ∷ []) (get_or_from_slice_get kinds i k k e)

    one_class_more : (k : List ℕ) → slice_get kinds i ≡ Some k → flat_map of_class (take (i + 1) kinds) ≡ of_classes ++ of_class k
    one_class_more k e = ap (flat_map of_class) (next_kind k e) ∙ (flat_map-append of_class (take i kinds) (k ∷ []) ∙ ap (λ w. of_classes ++ w) (append-nil (of_class k)))

    pub class_put : (k : List ℕ) (now new : List (List ℕ)) → slice_get kinds i ≡ Some k → ArePut counts old of_classes now → ArePut counts now (of_class k) new → ArePut counts old (flat_map of_class (take (i + 1) kinds)) new
    class_put k now new e a b = subst (λ w. ArePut counts old w new) (sym (one_class_more k e)) (put_two old now new of_classes (of_class k) a b)

    pub class_led : (k : List ℕ) (now new : List (List ℕ)) (ls more : List Leads) (led : Leads) → slice_get kinds i ≡ Some k → ArePut counts now (of_class k) new → more ≡ ls ++ led ∷ []
        → AreLeadsOfClasses counts now l staying waiting ls (take i kinds) → AreLeads counts new (leads sets led) (of_class k) → AreLeadsOfClasses counts new l staying waiting more (take (i + 1) kinds)
    class_led k now new ls more led e put is h told =
        subst (λ w. AreLeadsOfClasses counts new l staying waiting w (take (i + 1) kinds)) (sym is)
        (subst (AreLeadsOfClasses counts new l staying waiting (ls ++ led ∷ [])) (sym (next_kind k e))
        (zip_push (IsLeadOfClass counts new l staying waiting) ls (take i kinds) led k
        (zip_kept (IsLeadOfClass counts now l staying waiting) (IsLeadOfClass counts new l staying waiting) (λ x y r. leads_kept now new (of_class k) (leads sets x) (of_class y) put r) ls (take i kinds) h) told))

    pub class_many : (most : ℕ) (k : List ℕ) (now : List (List ℕ)) → slice_get kinds i ≡ Some k → ArePut counts old of_classes now → AreMany counts most now (of_class k) → AreMany counts most old (flat_map of_class kinds)
    class_many most k now e a h =
        let rest = flat_map of_class (drop (i + 1) kinds) in
        let all : flat_map of_class kinds ≡ of_classes ++ (of_class k ++ rest) =
        ap (flat_map of_class) (sym (take-append-drop (i + 1) kinds))
        ∙ (flat_map-append of_class (take (i + 1) kinds) (drop (i + 1) kinds) ∙ (ap (λ w. w ++ rest) (one_class_more k e) ∙ append_assoc of_classes (of_class k) rest)) in
        subst (AreMany counts most old) (sym all) (many_after most old now of_classes (of_class k) rest a h)

  -- where none moves on, all sets lead to one state
  module _ (staying moving : List ℕ) (none : are_zero moving ≡ true) where
    to_staying : (m : List ℕ) → lead_of staying moving m ≡ staying
    to_staying m = words_stay staying moving m none

    again : (new : List (List ℕ)) (j : Option ℕ) → IsLead counts new j staying → (marked : List (List ℕ)) → ArePut counts new (leads_by_set staying moving marked) new
    again new j h [] = refl
    again new j h (m ∷ marked) =
        put_two new new new (lead_of staying moving m ∷ []) (leads_by_set staying moving marked) (put_known new j (lead_of staying moving m) (subst (IsLead counts new j) (sym (to_staying m)) h)) (again new j h marked)

    pub staying_put : (old new marked : List (List ℕ)) (j : Option ℕ) → 0 < length marked → ArePut counts old (staying ∷ []) new → IsLead counts new j staying → ArePut counts old (leads_by_set staying moving marked) new
    staying_put old new [] j l put h = absurd (omega (arith, l))
    staying_put old new (m ∷ marked) j l put h =
        put_two old new new (lead_of staying moving m ∷ []) (leads_by_set staying moving marked) (subst (λ x. ArePut counts old (x ∷ []) new) (sym (to_staying m)) put) (again new j h marked)

    pub staying_led : (new marked : List (List ℕ)) (j : Option ℕ) → IsLead counts new j staying → AreLeads counts new (map (λ m. j) marked) (leads_by_set staying moving marked)
    staying_led new [] j h = tt
    staying_led new (m ∷ marked) j h = (subst (IsLead counts new j) (sym (to_staying m)) h, staying_led new marked j h)

    pub staying_many : (most : ℕ) (old marked : List (List ℕ)) → 0 < length marked → AreMany counts most old (staying ∷ []) → AreMany counts most old (leads_by_set staying moving marked)
    staying_many most old [] l h = absurd (omega (arith, l))
    staying_many most old (m ∷ marked) l h = many_front most old (lead_of staying moving m ∷ []) (leads_by_set staying moving marked) (subst (λ x. AreMany counts most old (x ∷ [])) (sym (to_staying m)) h)

-- ---- state by state
module _ (counts : Counts) (l : Letters) (found new : Reached) (n : ℕ) (xs : List (List ℕ)) (put : ArePut counts (all_words found.states.keys) xs (all_words new.states.keys)) where
  abbrev before : List (List ℕ)
  before = all_words found.states.keys

  abbrev after : List (List ℕ)
  after = all_words new.states.keys

  class_kept : (staying waiting : List ℕ) (led : Leads) (kind : List ℕ) → IsLeadOfClass counts before l staying waiting led kind → IsLeadOfClass counts after l staying waiting led kind
  class_kept staying waiting led kind h = leads_kept counts before after xs (leads (all_words l.marked.items) led) (leads_by_set staying (both_words waiting kind) (all_words l.marked.items)) put h

  state_kept : (v : Vec Leads) (x : List ℕ) → AreLeadsByClass counts before l v.items x → AreLeadsByClass counts after l v.items x
  state_kept v x h =
      zip_kept (IsLeadOfClass counts before l (both_words x (words l.deep)) (both_words x (words l.inner))) (IsLeadOfClass counts after l (both_words x (words l.deep)) (both_words x (words l.inner)))
      (λ led kind r. class_kept (both_words x (words l.deep)) (both_words x (words l.inner)) led kind r) v.items (all_words l.kinds.keys) h

  pub led_more : (v : Vec Leads) → n < length before → new.next.items ≡ found.next.items ++ v ∷ [] → AreLed counts l n found → AreLeadsByClass counts after l v.items (get_or before n []) → AreLed counts l (n + 1) new
  led_more v inside is h here =
      let rest = each_once_after same_words before (filter (kept_by counts) xs) in
      let low : n + 1 ≤ length before = omega (arith, inside) in
      let taken : take (n + 1) after ≡ take n before ++ get_or before n [] ∷ [] = ap (take (n + 1)) (put ∙ put_is same_words before (filter (kept_by counts) xs)) ∙ (take-append-le (n + 1) before rest low ∙ take_more before n [] inside) in
      let all : AreLedFrom counts after l (found.next.items ++ v ∷ []) (take n before ++ get_or before n [] ∷ []) =
      zip_push (λ (w : Vec Leads) x. AreLeadsByClass counts after l w.items x) found.next.items (take n before) v (get_or before n [])
      (zip_kept (λ (w : Vec Leads) x. AreLeadsByClass counts before l w.items x) (λ (w : Vec Leads) x. AreLeadsByClass counts after l w.items x) (λ w x r. state_kept w x r) found.next.items (take n before) h.next) here in
      record {
        gone = ap length is ∙ (length_push found.next.items v ∙ ap (λ k. k + 1) h.gone);
        next = subst (λ w. AreLedFrom counts after l w (take (n + 1) after)) (sym is) (subst (AreLedFrom counts after l (found.next.items ++ v ∷ [])) (sym taken) all);
      }
