-- A pattern doesn't tell how many texts stand side by side: trees that match it still match with fewer or more texts where one stands.
use Rattle.std.proofs.Common.{◌≡◌, ℕ, List, [], ◌++◌, Bool, true, false, cond, ◌&&◌, refl, sym, ap, ◌∙◌, subst}
use Rattle.std.proofs.lemmas.List.Folds.{list_all-append}
use Rattle.tc_base.specs.Characters.{is_white}
use Rattle.tc_model.specs.Names.{ExpandedName}
use Rattle.tc_model.specs.Trees.{Trees, none, text, element, beside, is_white_space_only, joined_to, joined, kept, dropped, normal_form}
use Rattle.tc_model.specs.Grammars as p
use Rattle.tc_model.specs.Grammars.{Pattern, Patterns, no_more, more, ElementPattern}
use Rattle.tc_model.specs.Matching.{Matches, InOrder, OneOf, Shuffled, Repeated, Shuffle, AreTexts, m_empty, m_text, m_ref, m_group, m_choice, m_interleave, m_one_or_more, order_end, order_more, here, there, shuffled_end, shuffled_more, once, again, both_end, left_text, left_element, right_text, right_element}
use Rattle.tc_model.proofs.NormalForm.{joined_twice, dropped_empty}

-- the second has the elements of the first, and texts only where the first has some
pub data Thins : Trees → Trees → Type 0 where
  thin_end : Thins none none
  same_element : {n : ExpandedName} {c h k : Trees} → Thins h k → Thins (element n c h) (element n c k)
  text_less : {s : List ℕ} {h k : Trees} → Thins h k → Thins (text s h) k
  text_again : {s t : List ℕ} {h k : Trees} → Thins (text s h) k → Thins (text s h) (text t k)

-- a part in front of another thins to parts of these
thin_split : (a b : Trees) {l k : Trees} → l ≡ beside a b → Thins l k → (x : Trees) × (y : Trees) × (k ≡ beside x y) × Thins a x × Thins b y
thin_split none b {l} {k} e t = (none, k, refl, thin_end, subst (λ w. Thins w k) e t)
thin_split (text s a) b e thin_end = absurd (cc)
thin_split (text s a) b e (same_element t) = absurd (cc)
thin_split (text s a) b e (text_less t) = let r = thin_split a b (cc) t in (r.0, r.1, r.2, text_less r.3, r.4)
thin_split (text s a) b e (text_again {t = u} t) =
    let r = thin_split (text s a) b e t in (text u r.0, r.1, ap (text u) r.2, text_again r.3, r.4)
thin_split (element n c a) b e thin_end = absurd (cc)
thin_split (element n c a) b e (same_element {n = m} {c = d} t) =
    let r = thin_split a b (cc) t in
    let names : m ≡ n = cc in
    let kids : d ≡ c = cc in
    (element n c r.0, r.1, ap (element m d) r.2 ∙ ap (λ w. element w d (beside r.0 r.1)) names ∙ ap (λ w. element n w (beside r.0 r.1)) kids, same_element r.3, r.4)
thin_split (element n c a) b e (text_less t) = absurd (cc)
thin_split (element n c a) b e (text_again t) = absurd (cc)

-- so do the two parts of which trees are a shuffle
thin_shuffle : {a b l k : Trees} → Shuffle a b l → Thins l k → (x : Trees) × (y : Trees) × Shuffle x y k × Thins a x × Thins b y
thin_shuffle both_end thin_end = (none, none, both_end, thin_end, thin_end)
thin_shuffle (left_element {n} {c} m) (same_element t) = let r = thin_shuffle m t in (element n c r.0, r.1, left_element r.2, same_element r.3, r.4)
thin_shuffle (right_element {n} {c} m) (same_element t) = let r = thin_shuffle m t in (r.0, element n c r.1, right_element r.2, r.3, same_element r.4)
thin_shuffle (left_text m) (text_less t) = let r = thin_shuffle m t in (r.0, r.1, r.2, text_less r.3, r.4)
thin_shuffle (right_text m) (text_less t) = let r = thin_shuffle m t in (r.0, r.1, r.2, r.3, text_less r.4)
thin_shuffle (left_text m) (text_again {t = u} t) = let r = thin_shuffle (left_text m) t in (text u r.0, r.1, left_text r.2, text_again r.3, r.4)
thin_shuffle (right_text m) (text_again {t = u} t) = let r = thin_shuffle (right_text m) t in (r.0, text u r.1, right_text r.2, r.3, text_again r.4)

thin_texts : {h k : Trees} → AreTexts h → Thins h k → AreTexts k
thin_texts m thin_end = tt
thin_texts m (same_element t) = m
thin_texts m (text_less t) = thin_texts m t
thin_texts m (text_again t) = thin_texts m t

thin_none : {h k : Trees} → h ≡ none → Thins h k → k ≡ none
thin_none e thin_end = refl
thin_none e (same_element t) = absurd (cc)
thin_none e (text_less t) = absurd (cc)
thin_none e (text_again t) = absurd (cc)

thin_one : {n : ExpandedName} {c h k : Trees} → h ≡ element n c none → Thins h k → k ≡ element n c none
thin_one e thin_end = absurd (cc)
thin_one e (same_element {n = m} {c = d} t) = ap (element m d) (thin_none (cc) t) ∙ (sym (ap (element m d) (cc)) ∙ e)
thin_one e (text_less t) = absurd (cc)
thin_one e (text_again t) = absurd (cc)

module _ (g : List ElementPattern) where
  mutual
    -- what matches a pattern still does
    pub thin_matches : {h k : Trees} {q : Pattern} → Matches g h q → Thins h k → Matches g k q
    thin_matches (m_choice m) t = m_choice (thin_one_of m t)
    thin_matches (m_group m) t = m_group (thin_in_order m t)
    thin_matches m_empty t = subst (λ w. Matches g w p.empty) (sym (thin_none refl t)) m_empty
    thin_matches (m_text m) t = m_text (thin_texts m t)
    thin_matches (m_one_or_more m) t = m_one_or_more (thin_repeated m t)
    thin_matches (m_interleave m) t = m_interleave (thin_shuffled m t)
    thin_matches (m_ref {k = r} e at inside content) t = subst (λ w. Matches g w (p.ref r)) (sym (thin_one refl t)) (m_ref e at inside content)

    thin_in_order : {h k : Trees} {ps : Patterns} → InOrder g h ps → Thins h k → InOrder g k ps
    thin_in_order order_end t = subst (λ w. InOrder g w no_more) (sym (thin_none refl t)) order_end
    thin_in_order (order_more {h = a} {k = b} e m rest) t = let r = thin_split a b e t in order_more r.2 (thin_matches m r.3) (thin_in_order rest r.4)

    thin_one_of : {h k : Trees} {ps : Patterns} → OneOf g h ps → Thins h k → OneOf g k ps
    thin_one_of (here m) t = here (thin_matches m t)
    thin_one_of (there m) t = there (thin_one_of m t)

    thin_shuffled : {h k : Trees} {ps : Patterns} → Shuffled g h ps → Thins h k → Shuffled g k ps
    thin_shuffled shuffled_end t = subst (λ w. Shuffled g w no_more) (sym (thin_none refl t)) shuffled_end
    thin_shuffled (shuffled_more mixed m rest) t = let r = thin_shuffle mixed t in shuffled_more r.2 (thin_matches m r.3) (thin_shuffled rest r.4)

    thin_repeated : {h k : Trees} {q : Pattern} → Repeated g h q → Thins h k → Repeated g k q
    thin_repeated (once m) t = once (thin_matches m t)
    thin_repeated (again {h = a} {k = b} e m rest) t = let r = thin_split a b e t in again r.2 (thin_matches m r.3) (thin_repeated rest r.4)

pub thin_same : (h : Trees) → Thins h h
thin_same none = thin_end
thin_same (text s h) = text_again (text_less (thin_same h))
thin_same (element n c h) = same_element (thin_same h)

-- a text is met on the way
some_text : {h k l : Trees} {s t : List ℕ} → k ≡ text s l → Thins h k → (m : Trees) → Thins h m → Thins h (text t m)
some_text e thin_end m u = absurd (cc)
some_text e (same_element x) m u = absurd (cc)
some_text e (text_less x) m u = text_again u
some_text e (text_again x) m u = text_again u

fewer : {h k l : Trees} {s : List ℕ} → k ≡ text s l → Thins h k → Thins h l
fewer e thin_end = absurd (cc)
fewer e (same_element x) = absurd (cc)
fewer e (text_less x) = text_less (fewer e x)
fewer {l = l} e (text_again {s} {h} {k = w} x) = let same : w ≡ l = cc in subst (λ y. Thins (text s h) y) same x

-- an element is met behind texts
some_element : {h k m l : Trees} {n : ExpandedName} {c : Trees} → k ≡ element n c m → Thins h k → ((a : Trees) → Thins a m → Thins a l) → Thins h (element n c l)
some_element e thin_end f = absurd (cc)
some_element {l = l} {n} {c} e (same_element {n = a} {c = d} {h = h} {k = w} x) f =
    let names : a ≡ n = cc in
    let kids : d ≡ c = cc in
    let rest : w ≡ _ = cc in
    subst (λ y. Thins (element y d h) (element n c l)) (sym names) (subst (λ y. Thins (element n y h) (element n c l)) (sym kids) (same_element (f h (subst (λ y. Thins h y) rest x))))
some_element e (text_less x) f = text_less (some_element e x f)
some_element e (text_again x) f = absurd (cc)

pub thin_twice : {h k l : Trees} → Thins k l → Thins h k → Thins h l
thin_twice thin_end x = x
thin_twice (same_element y) x = some_element refl x (λ a z. thin_twice y z)
thin_twice (text_less y) x = thin_twice y (fewer refl x)
thin_twice (text_again y) x = some_text refl x _ (thin_twice y x)

-- texts of white space alone dropped, and the children of elements in normal form; adjacent texts stay apart
abbrev pub trimmed : Trees → Trees
trimmed none = none
trimmed (text s rest) = kept s (trimmed rest)
trimmed (element n c rest) = element n (normal_form c) (trimmed rest)

thin_behind : (s : List ℕ) {h k : Trees} → Thins h k → Thins (kept s h) (kept s k)
thin_behind s {h} {k} t = by (is_white_space_only s)
  where
    by : (b : Bool) → Thins (cond b h (text s h)) (cond b k (text s k))
    by true = t
    by false = text_again (text_less t)

-- two texts side by side, and both as one
to_one : (p s : List ℕ) (h : Trees) → Thins (kept p (kept s h)) (kept (p ++ s) h)
to_one p s h = subst (λ b. Thins (kept p (kept s h)) (cond b h (text (p ++ s) h))) (sym (list_all-append is_white p s)) (by (is_white_space_only p) (is_white_space_only s))
  where
    by : (a b : Bool) → Thins (cond a (cond b h (text s h)) (text p (cond b h (text s h)))) (cond (a && b) h (text (p ++ s) h))
    by true true = thin_same h
    by true false = text_again (text_less (thin_same h))
    by false true = text_again (text_less (thin_same h))
    by false false = text_again (text_less (text_less (thin_same h)))

to_two : (p s : List ℕ) (h : Trees) → Thins (kept (p ++ s) h) (kept p (kept s h))
to_two p s h = subst (λ b. Thins (cond b h (text (p ++ s) h)) (kept p (kept s h))) (sym (list_all-append is_white p s)) (by (is_white_space_only p) (is_white_space_only s))
  where
    by : (a b : Bool) → Thins (cond (a && b) h (text (p ++ s) h)) (cond a (cond b h (text s h)) (text p (cond b h (text s h))))
    by true true = thin_same h
    by true false = text_again (text_less (thin_same h))
    by false true = text_again (text_less (thin_same h))
    by false false = text_again (text_again (text_less (thin_same h)))

to_run : (p : List ℕ) (h : Trees) → Thins (kept p (trimmed h)) (dropped (joined_to p (joined h)))
to_run p none = thin_same (kept p none)
to_run p (text s rest) =
    subst (λ w. Thins (kept p (kept s (trimmed rest))) (dropped w)) (sym (joined_twice p s (joined rest))) (thin_twice (to_run (p ++ s) rest) (to_one p s (trimmed rest)))
to_run p (element n c rest) = thin_behind p (same_element (subst (λ w. Thins (trimmed rest) w) (dropped_empty (joined rest)) (to_run [] rest)))

of_run : (p : List ℕ) (h : Trees) → Thins (dropped (joined_to p (joined h))) (kept p (trimmed h))
of_run p none = thin_same (kept p none)
of_run p (text s rest) =
    subst (λ w. Thins (dropped w) (kept p (kept s (trimmed rest)))) (sym (joined_twice p s (joined rest))) (thin_twice (to_two p s (trimmed rest)) (of_run (p ++ s) rest))
of_run p (element n c rest) = thin_behind p (same_element (subst (λ w. Thins w (trimmed rest)) (dropped_empty (joined rest)) (of_run [] rest)))

pub to_normal : (h : Trees) → Thins (trimmed h) (normal_form h)
to_normal h = subst (λ w. Thins (trimmed h) w) (dropped_empty (joined h)) (to_run [] h)

pub of_normal : (h : Trees) → Thins (normal_form h) (trimmed h)
of_normal h = subst (λ w. Thins w (trimmed h)) (dropped_empty (joined h)) (of_run [] h)
