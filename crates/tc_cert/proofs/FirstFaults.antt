-- The first line that isn't as it must be; and that a text has one data.
use Rattle.std.proofs.Common.{◌≡◌, ◌<◌, ◌≤◌, ◌+◌, ◌⊎◌, inl, inr, ℕ, zero, suc, List, [], ◌∷◌, ◌++◌, length, refl, sym, ap, subst, ◌∙◌, append-nil, arith}
use Rattle.tc_model.specs.declared.lists.CertData.{CertData}
use Rattle.tc_cert.specs.Texts.{Version, by_changes, text, CertificateText}
use Rattle.tc_cert.specs.Fronts.{Front, nothing, begun, in_outputs, in_trees, in_hedges, finished, line_count, IsGood, BeginsWith, IsFirstFault}
use Rattle.tc_cert.specs.Readings.{OneData, WrittenIsRead}
use Rattle.tc_cert.proofs.Chains.{Next, Reach, at_start, behind, one_next, one_more_line, reach_short, reached}

-- the next line may stand there
pub record CanGo (f : Front) (rest : List ℕ) : Type 0 where
  pub line : List ℕ
  pub to : Front
  pub after : List ℕ
  pub next : Next f line to
  pub good : IsGood to
  pub spelled : rest ≡ line ++ 10 ∷ after

next_of : (f g : Front) (l : List ℕ) (h : Front) → f ≡ g → Next g l h → Next f l h
next_of f g l h e n = subst (λ x. Next x l h) (sym e) n

pub same_count : (bytes : List ℕ) (f : Front) (r : List ℕ) (g : Front) (s : List ℕ) → length bytes ≤ 67108864 → Reach bytes f r → Reach bytes g s → line_count f ≡ line_count g → (f ≡ g) × (r ≡ s)
same_count bytes f r g s h (at_start e p) (at_start d q) c = (e ∙ sym d, p ∙ sym q)
same_count bytes f r g s h (at_start e p) (behind {f = g0} k b n good q) c = absurd (omega (arith, c, ap line_count e, one_more_line g0 k g n))
same_count bytes f r g s h (behind {f = f0} l a n good p) (at_start d q) c = absurd (omega (arith, c, ap line_count d, one_more_line f0 l f n))
same_count bytes f r g s h (behind {f = f0} {rest = r0} l a n good p) (behind {f = g0} {rest = s0} k b m fine q) c =
    let before : (f0 ≡ g0) × (r0 ≡ s0) = same_count bytes f0 r0 g0 s0 h a b (omega (arith, c, one_more_line f0 l f n, one_more_line g0 k g m)) in
    one_next f0 l k f g r s (reach_short bytes f0 r0 h a) n (next_of f0 g0 k g before.0 m) good fine (sym p ∙ before.1 ∙ q)

less_or_same : (m n : ℕ) → m < n + 1 → (m < n) ⊎ (m ≡ n)
less_or_same zero zero h = inr refl
less_or_same zero (suc n) h = inl (omega arith)
less_or_same (suc m) zero h = absurd (omega (arith, h))
less_or_same (suc m) (suc n) h = by (less_or_same m n (omega (arith, h)))
  where
    by : (m < n) ⊎ (m ≡ n) → (suc m < suc n) ⊎ (suc m ≡ suc n)
    by (inl a) = inl (omega (arith, a))
    by (inr a) = inr (ap suc a)

most_or_more : (m n : ℕ) → (m ≤ n) ⊎ (n < m)
most_or_more zero n = inl (omega arith)
most_or_more (suc m) zero = inr (omega arith)
most_or_more (suc m) (suc n) = by (most_or_more m n)
  where
    by : (m ≤ n) ⊎ (n < m) → (suc m ≤ suc n) ⊎ (suc n < suc m)
    by (inl a) = inl (omega (arith, a))
    by (inr a) = inr (omega (arith, a))

pub shorter_goes : (bytes : List ℕ) (f : Front) (r : List ℕ) (g : Front) (s : List ℕ) → length bytes ≤ 67108864 → Reach bytes f r → Reach bytes g s → line_count f < line_count g → CanGo f r
shorter_goes bytes f r g s h a (at_start d q) c = absurd (omega (arith, c, ap line_count d))
shorter_goes bytes f r g s h a (behind {f = g0} {rest = s0} k b m fine q) c =
    by (shorter_goes bytes f r g0 s0 h a b) (less_or_same (line_count f) (line_count g0) (omega (arith, c, one_more_line g0 k g m)))
  where
    here : (f ≡ g0) × (r ≡ s0) → CanGo f r
    here e = record { line = k; to = g; after = s; next = next_of f g0 k g e.0 m; good = fine; spelled = e.1 ∙ q }

    by : (line_count f < line_count g0 → CanGo f r) → (line_count f < line_count g0) ⊎ (line_count f ≡ line_count g0) → CanGo f r
    by more (inl p) = more p
    by more (inr p) = here (same_count bytes f r g0 s0 h a b p)

of_text : (bytes : List ℕ) (d : CertData) (t : CertificateText bytes d) → BeginsWith bytes (finished t.version d) []
of_text bytes d t = record { good = t.formed; spelled = t.spelled ∙ sym (append-nil _) }

pub to_text : (bytes : List ℕ) (v : Version) (d : CertData) → BeginsWith bytes (finished v d) [] → CertificateText bytes d
to_text bytes v d b = record { formed = b.good; version = v; spelled = b.spelled ∙ append-nil _ }

-- where the next line may not stand there, it is the first fault
pub is_fault : (bytes : List ℕ) (f : Front) (rest : List ℕ) → length bytes ≤ 67108864 → BeginsWith bytes f rest → (CanGo f rest → ⊥) → ((v : Version) (d : CertData) → f ≡ finished v d → rest ≡ [] → ⊥)
    → IsFirstFault bytes (line_count f + 1)
is_fault bytes f rest h b stuck unfinished = record {
  before = f;
  rest = rest;
  begins = b;
  next = refl;
  no_more = λ g after c. by g after c (most_or_more (line_count g) (line_count f));
  no_text = λ d t. none d t (most_or_more (line_count (finished t.version d)) (line_count f));
}
  where
    here : Reach bytes f rest
    here = reached bytes f rest b

    by : (g : Front) (after : List ℕ) → BeginsWith bytes g after → (line_count g ≤ line_count f) ⊎ (line_count f < line_count g) → line_count g ≤ line_count f
    by g after c (inl p) = p
    by g after c (inr p) = absurd (stuck (shorter_goes bytes f rest g after h here (reached bytes g after c) p))

    past : (v : Version) (d : CertData) (s : List ℕ) → CanGo (finished v d) s → ⊥
    past v d s c = c.next

    none : (d : CertData) (t : CertificateText bytes d) → (line_count (finished t.version d) ≤ line_count f) ⊎ (line_count f < line_count (finished t.version d)) → ⊥
    none d t (inr p) = stuck (shorter_goes bytes f rest (finished t.version d) [] h here (reached bytes (finished t.version d) [] (of_text bytes d t)) p)
    none d t (inl p) = last (less_or_same (line_count (finished t.version d)) (line_count f) (omega (arith, p)))
      where
        there : Reach bytes (finished t.version d) []
        there = reached bytes (finished t.version d) [] (of_text bytes d t)

        last : (line_count (finished t.version d) < line_count f) ⊎ (line_count (finished t.version d) ≡ line_count f) → ⊥
        last (inl q) = past t.version d [] (shorter_goes bytes (finished t.version d) [] f rest h there here q)
        last (inr q) = let e : (finished t.version d ≡ f) × ([] ≡ rest) = same_count bytes (finished t.version d) [] f rest h there here q in unfinished t.version d (sym e.0) (sym e.1)

abbrev data_or : CertData → Front → CertData
data_or e nothing = e
data_or e (begun v) = e
data_or e (in_outputs v count os) = e
data_or e (in_trees v os count ts) = e
data_or e (in_hedges v os ts count hs) = e
data_or e (finished v d) = d

past_end : (v : Version) (c : CertData) (s : List ℕ) → CanGo (finished v c) s → ⊥
past_end v c s k = k.next

two_texts : (bytes : List ℕ) (v w : Version) (d e : CertData) → length bytes ≤ 67108864 → Reach bytes (finished v d) [] → Reach bytes (finished w e) [] → d ≡ e
two_texts bytes v w d e h a b = by (most_or_more (line_count (finished v d)) (line_count (finished w e)))
  where
    last : (line_count (finished v d) < line_count (finished w e)) ⊎ (line_count (finished v d) ≡ line_count (finished w e)) → d ≡ e
    last (inl p) = absurd (past_end v d [] (shorter_goes bytes (finished v d) [] (finished w e) [] h a b p))
    last (inr p) = ap (data_or d) (same_count bytes (finished v d) [] (finished w e) [] h a b p).0

    by : (line_count (finished v d) ≤ line_count (finished w e)) ⊎ (line_count (finished w e) < line_count (finished v d)) → d ≡ e
    by (inl p) = last (less_or_same (line_count (finished v d)) (line_count (finished w e)) (omega (arith, p)))
    by (inr p) = absurd (past_end w e [] (shorter_goes bytes (finished w e) [] (finished v d) [] h b a p))

pub one_data : OneData
one_data bytes h d e t u = two_texts bytes t.version u.version d e h (reached bytes (finished t.version d) [] (of_text bytes d t)) (reached bytes (finished u.version e) [] (of_text bytes e u))

pub written_is_read : WrittenIsRead
written_is_read d h short = let own : CertificateText (text by_changes d) d = record { formed = h; version = by_changes; spelled = refl } in (own, λ e t. one_data (text by_changes d) short e d t own)
