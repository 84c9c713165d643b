-- Symbols of one kind wrap alike, and what is known of one holds of all.
use Rattle.std.proofs.Common.{◌≡◌, ◌⊎◌, inl, inr, ◌<◌, ◌++◌, ◌∷◌, [], ℕ, List, length, Option, None, Some, slice_get, MatchOption, refl, sym, subst, ◌∙◌, arith}
use Rattle.std.proofs.lemmas.Option.{same_Some, slice_get_within}
use Rattle.tc_model.specs.Grammars.{Grammar, ElementPattern, InClass}
use Rattle.tc_model.specs.Symbols.{Mention, fresh_name}
use Rattle.tc_sets.specs.Numbers.{Numbers}
use Rattle.tc_settle.specs.Held.{Held, Grows, IsHeldAs, IsUnchanged, IsWrapAt}
use Rattle.tc_incl.specs.declared.rows.Row.{Row}
use Rattle.tc_incl.specs.declared.both.Both.{Both}
use Rattle.tc_settle.specs.declared.wraps.Wraps.{Wraps}
use Rattle.tc_incl.specs.Schemas.{Schemas}
use Rattle.tc_incl.specs.Rows.{HedgeRow, TreeRow}
use Rattle.tc_incl.specs.Arithmetic.{IsPatternAround, AreAround, IsWrap, IsLiveWrap}
use Rattle.tc_incl.specs.Held.{AreTold}
use Rattle.tc_incl.specs.Sides.{AreAllowed}
use Rattle.tc_incl.specs.Alike.{AreInSameClasses, AreAlike, AlikeWrapAlike, IsCopyAt, HaveSameAt, AreKinds}
use Rattle.tc_settle.specs.Wraps.{IsKnown, IsWrapTold}
use Rattle.tc_incl.specs.Wraps.{AreKnown}
use Rattle.tc_incl.specs.Covers.{State, hedge_at, tree_at, held_of}
use Rattle.tc_incl.proofs.Taken.{pushed_at}
use Rattle.tc_incl.proofs.Stepped.{front, some_at}

classes_back : (g : Grammar) (symbols : List Mention) (a b : ℕ) → AreInSameClasses g symbols a b → AreInSameClasses g symbols b a
classes_back g symbols a b same k = ((same k).1, (same k).0)

around_alike : (g : Grammar) (symbols : List Mention) (a b : ℕ) → AreInSameClasses g symbols a b → (states : List ℕ) (k : ℕ) → IsPatternAround g symbols a states k → IsPatternAround g symbols b states k
around_alike g symbols a b same states k (e, at, inside, accepts) =
    let (f, there, held) = (same k).0 (e, at, inside) in
    let one : f ≡ e = same_Some f e (sym there ∙ at) in
    (e, at, subst (λ (p : ElementPattern). InClass p.names (fresh_name symbols b)) one held, accepts)

are_around_alike : (g : Grammar) (symbols : List Mention) (a b : ℕ) → AreInSameClasses g symbols a b → (states patterns : List ℕ) → AreAround g symbols a states patterns → AreAround g symbols b states patterns
are_around_alike g symbols a b same states patterns are k = (
  λ c. around_alike g symbols a b same states k ((are k).0 c),
  λ p. (are k).1 (around_alike g symbols b a (classes_back g symbols a b same) states k p),
)

alike_back : (x : Schemas) (a b : ℕ) → AreAlike x a b → AreAlike x b a
alike_back x a b same = record { first = classes_back x.first x.symbols a b same.first; second = classes_back x.second x.symbols a b same.second }

wrap_alike : (x : Schemas) (a b : ℕ) → AreAlike x a b → (h : HedgeRow) (u : TreeRow) → IsWrap x a h u → IsWrap x b h u
wrap_alike x a b same h u w = record {
  row = w.row;
  is_text = w.is_text;
  first = are_around_alike x.first x.symbols a b same.first h.first u.first w.first;
  second = are_around_alike x.second x.symbols a b same.second h.second u.second w.second;
}

live_alike : (x : Schemas) (a b : ℕ) → AreAlike x a b → (h : HedgeRow) → IsLiveWrap x a h → IsLiveWrap x b h
live_alike x a b same h (k, p) = (k, around_alike x.first x.symbols a b same.first h.first k p)

pub alike_wrap_alike : AlikeWrapAlike
alike_wrap_alike x a b same h = (wrap_alike x a b same h, live_alike x a b same h)

-- a row for each kind, with the sets of each symbol of it
abbrev pub AreRowsOf : List Numbers → List Numbers → List Row → List ℕ → Type 0
AreRowsOf first second rows kinds = (a k : ℕ) → slice_get kinds a ≡ Some k → (r : Row) × (slice_get rows k ≡ Some r) × IsCopyAt first a r.first × IsCopyAt second a r.second

-- one symbol more
pub rows_more : (first second : List Numbers) (rows more : List Row) (kinds longer : List ℕ) (u : ℕ) (r : Row) → AreRowsOf first second rows kinds → slice_get more u ≡ Some r
    → ((u < length rows) × (more ≡ rows)) ⊎ ((u ≡ length rows) × (more ≡ rows ++ r ∷ [])) → longer ≡ kinds ++ u ∷ [] → IsCopyAt first (length kinds) r.first → IsCopyAt second (length kinds) r.second
    → AreRowsOf first second more longer
rows_more first second rows more kinds longer u r before at kept same one other a k here = by (pushed_at kinds u a k (subst (λ w. slice_get w a ≡ Some k) same here))
  where
    stays : ((u < length rows) × (more ≡ rows)) ⊎ ((u ≡ length rows) × (more ≡ rows ++ r ∷ [])) → (t : Row) → slice_get rows k ≡ Some t → slice_get more k ≡ Some t
    stays (inl (low, e)) t there = subst (λ w. slice_get w k ≡ Some t) (sym e) there
    stays (inr (last, e)) t there = subst (λ w. slice_get w k ≡ Some t) (sym e) (front rows (r ∷ []) k t there)

    by : (slice_get kinds a ≡ Some k) ⊎ ((a ≡ length kinds) × (u ≡ k)) → (t : Row) × (slice_get more k ≡ Some t) × IsCopyAt first a t.first × IsCopyAt second a t.second
    by (inl e) = let (t, there, f, s) = before a k e in (t, stays kept t there, f, s)
    by (inr (place, e)) = (r, subst (λ w. slice_get more w ≡ Some r) e at, subst (λ w. IsCopyAt first w r.first) (sym place) one, subst (λ w. IsCopyAt second w r.second) (sym place) other)

same_at : (sets : List Numbers) (a b : ℕ) (r : Numbers) → IsCopyAt sets a r → IsCopyAt sets b r → HaveSameAt sets a b
same_at sets a b r f g s t p q k = (λ h. (g t q k).0 ((f s p k).1 h), λ h. (f s p k).0 ((g t q k).1 h))

pub are_kinds : (first second : List Numbers) (rows : List Row) (kinds : List ℕ) → AreRowsOf first second rows kinds → AreKinds first second kinds
are_kinds first second rows kinds are a b k at there =
    let (r, here, f, s) = are a k at in
    let (t, also, g, h) = are b k there in
    let one : t ≡ r = same_Some t r (sym also ∙ here) in
    (same_at first a b r.first f (subst (λ (w : Row). IsCopyAt first b w.first) one g), same_at second a b r.second s (subst (λ (w : Row). IsCopyAt second b w.second) one h))

-- symbols with the same sets are in the same classes
in_same_classes : (g : Grammar) (symbols : List Mention) (sets : List Numbers) (a b : ℕ) → AreAllowed g symbols sets → a < length sets → b < length sets → HaveSameAt sets a b → AreInSameClasses g symbols a b
in_same_classes g symbols sets a b are low high same k =
    let (s, p) = some_at sets a low in
    let (t, q) = some_at sets b high in
    (λ h. (are b t q k).0 ((same s t p q k).0 ((are a s p k).1 h)), λ h. (are a s p k).0 ((same s t p q k).1 ((are b t q k).1 h)))

-- what is known stays so where more rows are held
pub known_on : (s r : Held) (kinds : List ℕ) (w : Wraps) → Grows s r → AreKnown s kinds w → AreKnown r kinds w
known_on s r kinds w grows before a h k made at known =
    let (few, low, told) = before a h k made at known in
    (subst (λ n. a < n) (sym grows.symbols) few, omega (arith, low, grows.hedges), on made few low told)
  where
    on : (made : Option ℕ) → a < s.symbols → h < s.hedges → IsWrapTold s a h made → IsWrapTold r a h made
    on None few low dead = grows.no_wrap a h few low dead
    on (Some u) few low (here, is) = (omega (arith, here, grows.trees), grows.is_wrap a h u few low here is)

-- what is known of its kind is told of a symbol
pub known_told : (s : Held) (kinds : List ℕ) (w : Wraps) (a h k : ℕ) (o : Option (Option ℕ)) → AreKnown s kinds w → slice_get kinds a ≡ Some k → MatchOption o (Unit {0}) (λ made. IsKnown w h k made)
    → MatchOption o (Unit {0}) (λ made. IsWrapTold s a h made)
known_told s kinds w a h k None known at told = tt
known_told s kinds w a h k (Some made) known at told = let (few, low, is) = known a h k made at told in is

-- what is known is answered without a new row
pub told_again : (s : Held) (a h : ℕ) (made : Option ℕ) → IsWrapTold s a h made → MatchOption made (s.no_wrap a h × IsUnchanged s s) (λ u. IsWrapAt s a h u × IsHeldAs s.trees s.trees u)
told_again s a h None dead = (dead, (refl, refl))
told_again s a h (Some u) at = (at, inl (at.0, refl))

-- what is told where a row came on, if it did
pub told_of : (s r : Held) (a h : ℕ) (made : Option ℕ) → MatchOption made (r.no_wrap a h × IsUnchanged s r) (λ u. IsWrapAt r a h u × IsHeldAs s.trees r.trees u) → IsWrapTold r a h made
told_of s r a h None (dead, same) = dead
told_of s r a h (Some u) (at, held) = at

module _ (IsOf : Schemas → Type 0) (s : State) where
  told_of_alike : (a b h : ℕ) (made : Option ℕ) → ((x : Schemas) → IsOf x → AreAlike x a b) → IsWrapTold (held_of IsOf s) a h made → IsWrapTold (held_of IsOf s) b h made
  told_of_alike a b h None alike dead = λ x is live. dead x is (live_alike x b a (alike_back x a b (alike x is)) (hedge_at s h) live)
  told_of_alike a b h (Some u) alike (here, made) = (here, λ x is. let (live, w) = made x is in (live_alike x a b (alike x is) (hedge_at s h) live, wrap_alike x a b (alike x is) (hedge_at s h) (tree_at s u) w))

  -- what is told of a symbol is known of its kind
  pub known_more : (b : Both) (old new : Wraps) (a h k : ℕ) (made : Option ℕ) → ((x : Schemas) → IsOf x → AreTold b x) → b.symbols ≡ s.symbols → AreKinds b.first.allowed.items b.second.allowed.items b.kinds.items
      → AreKnown (held_of IsOf s) b.kinds.items old → ((j l : ℕ) (o : Option ℕ) → IsKnown new j l o → IsKnown old j l o ⊎ ((j ≡ h) × (l ≡ k) × (o ≡ made))) → h < length s.hedges → slice_get b.kinds.items a ≡ Some k
      → IsWrapTold (held_of IsOf s) a h made → AreKnown (held_of IsOf s) b.kinds.items new
  known_more b old new a h k made told count kinds before learned low at here c j l o there known = by (learned j l o known)
    where
      all : slice_get b.kinds.items c ≡ Some k → IsWrapTold (held_of IsOf s) c h made
      all also =
          let first : (n : ℕ) → slice_get b.kinds.items n ≡ Some k → n < length b.first.allowed.items = λ n e. subst (λ m. n < m) (b.kinds_counted ∙ sym b.first_counted) (slice_get_within b.kinds.items n k e) in
          let second : (n : ℕ) → slice_get b.kinds.items n ≡ Some k → n < length b.second.allowed.items = λ n e. subst (λ m. n < m) (b.kinds_counted ∙ sym b.second_counted) (slice_get_within b.kinds.items n k e) in
          let (f, g) = kinds a c k at also in
          told_of_alike a c h made (λ x is. let t = told x is in record {
            first = in_same_classes x.first x.symbols b.first.allowed.items a c t.first_allowed (first a at) (first c also) f;
            second = in_same_classes x.second x.symbols b.second.allowed.items a c t.second_allowed (second a at) (second c also) g;
          }) here

      by : IsKnown old j l o ⊎ ((j ≡ h) × (l ≡ k) × (o ≡ made)) → (c < s.symbols) × (j < length s.hedges) × IsWrapTold (held_of IsOf s) c j o
      by (inl e) = before c j l o there e
      by (inr (eh, ek, eo)) = (
        subst (λ n. c < n) (b.kinds_counted ∙ count) (slice_get_within b.kinds.items c l there),
        subst (λ n. n < length s.hedges) (sym eh) low,
        subst (λ w. IsWrapTold (held_of IsOf s) c w o) (sym eh) (subst (λ w. IsWrapTold (held_of IsOf s) c h w) (sym eo) (all (subst (λ w. slice_get b.kinds.items c ≡ Some w) ek there))),
      )
