-- Which trees the plain schema matches: texts, and elements around what was copied.
use Rattle.std.proofs.Common.{◌≡◌, ◌⊎◌, inl, inr, ℕ, List, ◌++◌, refl, ap, ◌∙◌, sym, subst, Bool, true, false, cond, ◌&&◌, ◌||◌, Some}
use Rattle.std.proofs.lemmas.Bool.{true≢false}
use Rattle.tc_model.specs.Names.{ExpandedName, same_name}
use Rattle.tc_model.specs.Trees.{Trees, none, text, element, beside, is_white_space_only, joined_to, joined, kept, dropped, normal_form}
use Rattle.tc_model.specs.Grammars as g
use Rattle.tc_model.specs.Grammars.{ElementPattern, element_at, InClass}
use Rattle.tc_model.specs.Matching.{AreTexts, Matches, m_choice, m_empty, m_text, m_one_or_more, m_ref, here, there, Repeated, once, again}
use Rattle.tc_dead.specs.Marked.{wrapper_name, mark_name, either, plain_content, plain_schema}

abbrev pub is_none : Trees → Bool
is_none none = true
is_none (text s rest) = false
is_none (element n kids rest) = false

abbrev mutual
  -- texts and wrappers
  pub is_plain : Trees → Bool
  is_plain none = true
  is_plain (text s rest) = is_plain rest
  is_plain (element n kids rest) = same_name wrapper_name n && (is_wrapped kids && is_plain rest)

  -- what may stand in a wrapper
  pub is_wrapped : Trees → Bool
  is_wrapped none = true
  is_wrapped (text s rest) = is_plain rest
  is_wrapped (element n kids rest) = (is_none rest && is_plain kids) || (same_name wrapper_name n && (is_wrapped kids && is_plain rest))

abbrev parts : List ElementPattern
parts = plain_schema.elements

abbrev item : g.Pattern
item = either g.text (g.ref 1)

abbrev wrapped_content : g.Pattern
wrapped_content = either (g.ref 2) plain_content

pub and_both : (a b : Bool) → a ≡ true → b ≡ true → (a && b) ≡ true
and_both true b e f = f
and_both false b e f = e

pub and_first : (a b : Bool) → (a && b) ≡ true → a ≡ true
and_first true b e = refl
and_first false b e = e

pub and_second : (a b : Bool) → (a && b) ≡ true → b ≡ true
and_second true b e = e
and_second false b e = absurd (true≢false (sym e))

pub or_either : (a b : Bool) → (a || b) ≡ true → (a ≡ true) ⊎ (b ≡ true)
or_either true b e = inl refl
or_either false b e = inr e

pub or_first : (a b : Bool) → a ≡ true → (a || b) ≡ true
or_first true b e = refl
or_first false b e = absurd (true≢false (sym e))

pub or_second : (a b : Bool) → b ≡ true → (a || b) ≡ true
or_second true b e = refl
or_second false b e = e

is_none_so : (h : Trees) → is_none h ≡ true → h ≡ none
is_none_so none e = refl
is_none_so (text s rest) e = absurd (true≢false (sym e))
is_none_so (element n kids rest) e = absurd (true≢false (sym e))

-- plain trees match

text_item : (s : List ℕ) → Matches parts (text s none) item
text_item s = m_choice (here (m_text tt))

wrapper_item : (n : ExpandedName) (k : Trees) → same_name wrapper_name n ≡ true → Matches parts k wrapped_content → Matches parts (element n k none) item
wrapper_item n k w m = m_choice (there (here (m_ref (record { names = g.of_name wrapper_name; content = wrapped_content }) refl w m)))

-- nothing, or items
abbrev AreItems : Trees → Type 0
AreItems h = (h ≡ none) ⊎ Repeated parts h item

items_match : (h : Trees) → AreItems h → Matches parts h plain_content
items_match h (inl e) = subst (λ z. Matches parts z plain_content) (sym e) (m_choice (there (here m_empty)))
items_match h (inr r) = m_choice (here (m_one_or_more r))

text_more : (s : List ℕ) (rest : Trees) → AreItems rest → AreItems (text s rest)
text_more s rest (inl e) = inr (subst (λ z. Repeated parts (text s z) item) (sym e) (once (text_item s)))
text_more s rest (inr r) = inr (again refl (text_item s) r)

wrapper_more : (n : ExpandedName) (k rest : Trees) → same_name wrapper_name n ≡ true → Matches parts k wrapped_content → AreItems rest → AreItems (element n k rest)
wrapper_more n k rest w m (inl e) = inr (subst (λ z. Repeated parts (element n k z) item) (sym e) (once (wrapper_item n k w m)))
wrapper_more n k rest w m (inr r) = inr (again refl (wrapper_item n k w m) r)

record Fit (h : Trees) : Type 0 where
  plain : is_plain h ≡ true → AreItems h
  wrapped : is_wrapped h ≡ true → Matches parts h wrapped_content

wrapped_plain : (h : Trees) → AreItems h → Matches parts h wrapped_content
wrapped_plain h i = m_choice (there (here (items_match h i)))

one_wrapped : (n : ExpandedName) (k rest : Trees) → rest ≡ none → AreItems k → Matches parts (element n k rest) wrapped_content
one_wrapped n k rest e i = subst (λ z. Matches parts (element n k z) wrapped_content) (sym e) (m_choice (here (m_ref (record { names = g.any_name g.no_class; content = plain_content }) refl refl (items_match k i))))

element_items : (n : ExpandedName) (k rest : Trees) → Fit k → Fit rest → (same_name wrapper_name n && (is_wrapped k && is_plain rest)) ≡ true → AreItems (element n k rest)
element_items n k rest f r e =
    let later : (is_wrapped k && is_plain rest) ≡ true = and_second (same_name wrapper_name n) (is_wrapped k && is_plain rest) e in
    wrapper_more n k rest (and_first (same_name wrapper_name n) (is_wrapped k && is_plain rest) e) (f.wrapped (and_first (is_wrapped k) (is_plain rest) later)) (r.plain (and_second (is_wrapped k) (is_plain rest) later))

element_fits : (n : ExpandedName) (k rest : Trees) → Fit k → Fit rest → Fit (element n k rest)
element_fits n k rest f r = record {
  plain = λ e. element_items n k rest f r e;
  wrapped = λ e. by (or_either (is_none rest && is_plain k) (same_name wrapper_name n && (is_wrapped k && is_plain rest)) e);
}
  where
    by : ((is_none rest && is_plain k) ≡ true) ⊎ ((same_name wrapper_name n && (is_wrapped k && is_plain rest)) ≡ true) → Matches parts (element n k rest) wrapped_content
    by (inl e) = one_wrapped n k rest (is_none_so rest (and_first (is_none rest) (is_plain k) e)) (f.plain (and_second (is_none rest) (is_plain k) e))
    by (inr e) = wrapped_plain (element n k rest) (element_items n k rest f r e)

fits : (h : Trees) → Fit h
fits none = record { plain = λ e. inl refl; wrapped = λ e. wrapped_plain none (inl refl) }
fits (text s rest) =
    let r = fits rest in
    record { plain = λ e. text_more s rest (r.plain e); wrapped = λ e. wrapped_plain (text s rest) (text_more s rest (r.plain e)) }
fits (element n k rest) = element_fits n k rest (fits k) (fits rest)

pub plain_matches : (h : Trees) → is_plain h ≡ true → Matches parts h plain_content
plain_matches h e = items_match h ((fits h).plain e)

-- and what matches is plain

abbrev IsWrapper : ExpandedName → Trees → Type 0
IsWrapper n k = (same_name wrapper_name n ≡ true) × Matches parts k wrapped_content

-- each element among the trees is a wrapper
abbrev AreWrappers : Trees → Type 0
AreWrappers none = Unit {0}
AreWrappers (text s rest) = AreWrappers rest
AreWrappers (element n k rest) = IsWrapper n k × AreWrappers rest

wrappers_beside : (a b : Trees) → AreWrappers a → AreWrappers b → AreWrappers (beside a b)
wrappers_beside none b x y = y
wrappers_beside (text s rest) b x y = wrappers_beside rest b x y
wrappers_beside (element n k rest) b x y = (x.0, wrappers_beside rest b x.1 y)

texts_wrap : (h : Trees) → AreTexts h → AreWrappers h
texts_wrap none a = tt
texts_wrap (text s rest) a = texts_wrap rest a
texts_wrap (element n k rest) a = absurd a

first_part : (n : ExpandedName) (c : Trees) (e : ElementPattern) → element_at parts 1 ≡ Some e → InClass e.names n → Matches parts c e.content → IsWrapper n c
first_part n c e at i m =
    let same : record { names = g.of_name wrapper_name; content = wrapped_content } ≡ e = cc in
    (subst (λ (z : ElementPattern). InClass z.names n) (sym same) i, subst (λ (z : ElementPattern). Matches parts c z.content) (sym same) m)

second_part : (c : Trees) (e : ElementPattern) → element_at parts 2 ≡ Some e → Matches parts c e.content → Matches parts c plain_content
second_part c e at m =
    let same : record { names = g.any_name g.no_class; content = plain_content } ≡ e = cc in
    subst (λ (z : ElementPattern). Matches parts c z.content) (sym same) m

item_wraps : {h : Trees} → Matches parts h item → AreWrappers h
item_wraps {h} (m_choice (here (m_text a))) = texts_wrap h a
item_wraps (m_choice (there (here (m_ref {n} {c} e at i m)))) = (first_part n c e at i m, tt)
item_wraps (m_choice (there (there x))) = elim x [ ]

items_wrap : {h : Trees} → Repeated parts h item → AreWrappers h
items_wrap (once m) = item_wraps m
items_wrap (again {h} {k} e m r) = subst AreWrappers (sym e) (wrappers_beside h k (item_wraps m) (items_wrap r))

content_wraps : {h : Trees} → Matches parts h plain_content → AreWrappers h
content_wraps (m_choice (here (m_one_or_more r))) = items_wrap r
content_wraps (m_choice (there (here m_empty))) = tt
content_wraps (m_choice (there (there x))) = elim x [ ]

record Back (h : Trees) : Type 0 where
  plain : AreWrappers h → is_plain h ≡ true
  wrapped : Matches parts h wrapped_content → is_wrapped h ≡ true

-- one element of any name around what is plain
abbrev IsOneAround : Trees → Type 0
IsOneAround none = ⊥
IsOneAround (text s rest) = ⊥
IsOneAround (element n k rest) = (rest ≡ none) × Matches parts k plain_content

wrapped_cases : {h : Trees} → Matches parts h wrapped_content → IsOneAround h ⊎ AreWrappers h
wrapped_cases (m_choice (here (m_ref {c} e at i m))) = inl (refl, second_part c e at m)
wrapped_cases (m_choice (there (here m))) = inr (content_wraps m)
wrapped_cases (m_choice (there (there x))) = elim x [ ]

element_plain : (n : ExpandedName) (k rest : Trees) → Back k → Back rest → AreWrappers (element n k rest) → (same_name wrapper_name n && (is_wrapped k && is_plain rest)) ≡ true
element_plain n k rest f r w = and_both (same_name wrapper_name n) (is_wrapped k && is_plain rest) w.0.0 (and_both (is_wrapped k) (is_plain rest) (f.wrapped w.0.1) (r.plain w.1))

element_back : (n : ExpandedName) (k rest : Trees) → Back k → Back rest → Back (element n k rest)
element_back n k rest f r = record { plain = λ w. element_plain n k rest f r w; wrapped = λ m. by (wrapped_cases m) }
  where
    here_none : rest ≡ none → is_none rest ≡ true
    here_none e = ap is_none e

    by : IsOneAround (element n k rest) ⊎ AreWrappers (element n k rest) → is_wrapped (element n k rest) ≡ true
    by (inl o) = or_first (is_none rest && is_plain k) (same_name wrapper_name n && (is_wrapped k && is_plain rest)) (and_both (is_none rest) (is_plain k) (here_none o.0) (f.plain (content_wraps o.1)))
    by (inr w) = or_second (is_none rest && is_plain k) (same_name wrapper_name n && (is_wrapped k && is_plain rest)) (element_plain n k rest f r w)

text_back : (s : List ℕ) (rest : Trees) → Back rest → Back (text s rest)
text_back s rest r = record { plain = λ w. r.plain w; wrapped = λ m. by (wrapped_cases m) }
  where
    by : IsOneAround (text s rest) ⊎ AreWrappers (text s rest) → is_plain rest ≡ true
    by (inl o) = absurd o
    by (inr w) = r.plain w

back : (h : Trees) → Back h
back none = record { plain = λ w. refl; wrapped = λ m. refl }
back (text s rest) = text_back s rest (back rest)
back (element n k rest) = element_back n k rest (back k) (back rest)

pub matches_plain : (h : Trees) → Matches parts h plain_content → is_plain h ≡ true
matches_plain h m = (back h).plain (content_wraps m)

-- in normal form texts tell nothing

plain_chosen : (b : Bool) (s : List ℕ) (h : Trees) → is_plain (cond b h (text s h)) ≡ is_plain h
plain_chosen true s h = refl
plain_chosen false s h = refl

plain_kept : (s : List ℕ) (h : Trees) → is_plain (kept s h) ≡ is_plain h
plain_kept s h = plain_chosen (is_white_space_only s) s h

plain_joined : (s : List ℕ) (j : Trees) → is_plain (dropped (joined_to s j)) ≡ is_plain (dropped j)
plain_joined s none = plain_kept s none
plain_joined s (text t r) = plain_kept (s ++ t) (dropped r) ∙ sym (plain_kept t (dropped r))
plain_joined s (element n k r) = plain_kept s (element n (dropped k) (dropped r))

-- plain in normal form
abbrev pub is_clear : Trees → Bool
is_clear h = is_plain (normal_form h)

pub clear_text : (s : List ℕ) (rest : Trees) → is_clear (text s rest) ≡ is_clear rest
clear_text s rest = plain_joined s (joined rest)

and_assoc : (a b c d : Bool) → (a && (b && (c && d))) ≡ ((a && (b && c)) && d)
and_assoc true true c d = refl
and_assoc true false c d = refl
and_assoc false b c d = refl

pub clear_beside : (a b : Trees) → is_clear (beside a b) ≡ (is_clear a && is_clear b)
clear_beside none b = refl
clear_beside (text s rest) b = clear_text s (beside rest b) ∙ (clear_beside rest b ∙ ap (λ z. z && is_clear b) (sym (clear_text s rest)))
clear_beside (element n k rest) b =
    ap (λ z. same_name wrapper_name n && (is_wrapped (normal_form k) && z)) (clear_beside rest b)
    ∙ and_assoc (same_name wrapper_name n) (is_wrapped (normal_form k)) (is_clear rest) (is_clear b)

-- each element among the trees is a wrapper, or holds a mark's inner element alone
abbrev IsSprout : ExpandedName → Trees → Type 0
IsSprout n k = (same_name wrapper_name n ≡ true) ⊎ (k ≡ element mark_name none none)

abbrev pub IsShaped : Trees → Type 0
IsShaped none = Unit {0}
IsShaped (text s rest) = IsShaped rest
IsShaped (element n k rest) = IsSprout n k × IsShaped rest

pub shaped_beside : (a b : Trees) → IsShaped a → IsShaped b → IsShaped (beside a b)
shaped_beside none b x y = y
shaped_beside (text s rest) b x y = shaped_beside rest b x y
shaped_beside (element n k rest) b x y = (x.0, shaped_beside rest b x.1 y)

shaped_chosen : (b : Bool) (s : List ℕ) (h : Trees) → IsShaped h → IsShaped (cond b h (text s h))
shaped_chosen true s h x = x
shaped_chosen false s h x = x

unkept : (b : Bool) (s : List ℕ) (h : Trees) → IsShaped (cond b h (text s h)) → IsShaped h
unkept true s h x = x
unkept false s h x = x

shaped_joined : (s : List ℕ) (j : Trees) → IsShaped (dropped j) → IsShaped (dropped (joined_to s j))
shaped_joined s none x = shaped_chosen (is_white_space_only s) s none tt
shaped_joined s (text t r) x = shaped_chosen (is_white_space_only (s ++ t)) (s ++ t) (dropped r) (unkept (is_white_space_only t) t (dropped r) x)
shaped_joined s (element n k r) x = shaped_chosen (is_white_space_only s) s (element n (dropped k) (dropped r)) x

sprout_normal : (n : ExpandedName) (k : Trees) → IsSprout n k → IsSprout n (normal_form k)
sprout_normal n k (inl e) = inl e
sprout_normal n k (inr e) = inr (ap normal_form e)

shaped_normal : (h : Trees) → IsShaped h → IsShaped (normal_form h)
shaped_normal none x = tt
shaped_normal (text s rest) x = shaped_joined s (joined rest) (shaped_normal rest x)
shaped_normal (element n k rest) x = (sprout_normal n k x.0, shaped_normal rest x.1)

plain_is_wrapped : (h : Trees) → is_plain h ≡ true → is_wrapped h ≡ true
plain_is_wrapped none e = refl
plain_is_wrapped (text s rest) e = e
plain_is_wrapped (element n k rest) e = or_second (is_none rest && is_plain k) (same_name wrapper_name n && (is_wrapped k && is_plain rest)) e

or_none : (a b : Bool) → (a ≡ true → b ≡ true) → (a || b) ≡ b
or_none true b h = sym (h refl)
or_none false b h = refl

sprout_wraps : (n : ExpandedName) (k : Trees) → IsSprout n k → is_plain k ≡ true → (same_name wrapper_name n && (is_wrapped k && true)) ≡ true
sprout_wraps n k (inl e) p = and_both (same_name wrapper_name n) (is_wrapped k && true) e (and_both (is_wrapped k) true (plain_is_wrapped k p) refl)
sprout_wraps n k (inr e) p = absurd (true≢false (sym p ∙ ap is_plain e))

wrapped_shaped : (h : Trees) → IsShaped h → is_wrapped h ≡ is_plain h
wrapped_shaped none x = refl
wrapped_shaped (text s rest) x = refl
wrapped_shaped (element n k none) x = or_none (is_plain k) (same_name wrapper_name n && (is_wrapped k && true)) (λ p. sprout_wraps n k x.0 p)
wrapped_shaped (element n k (text s rest)) x = refl
wrapped_shaped (element n k (element a i rest)) x = refl

-- what stands in a wrapper around the copy of the root
pub wrapped_clear : (h : Trees) → IsShaped h → is_wrapped (normal_form h) ≡ is_clear h
wrapped_clear h x = wrapped_shaped (normal_form h) (shaped_normal h x)

or_absorbs : (a b : Bool) → (a || (b && (a && true))) ≡ a
or_absorbs true b = refl
or_absorbs false true = refl
or_absorbs false false = refl

-- and around the copy of an element
pub wrapped_element : (n : ExpandedName) (h : Trees) → IsShaped h → is_wrapped (normal_form (element n h none)) ≡ is_clear h
wrapped_element n h x = ap (λ z. is_clear h || (same_name wrapper_name n && (z && true))) (wrapped_clear h x) ∙ or_absorbs (is_clear h) (same_name wrapper_name n)
