-- Name classes are read, or their reading stops.
use Rattle.std.proofs.Common.{◌≡◌, ◌⊎◌, inl, inr, ℕ, zero, suc, ◌<◌, ◌≤◌, List, [], ◌∷◌, refl, ap, ◌∙◌, sym, length, arith, Option, None, Some}
use Rattle.tc_model.specs.Names.{ExpandedName}
use Rattle.tc_model.specs.RawTrees.{Bound}
use Rattle.tc_model.specs.XmlTextScopes.{uri_of}
use Rattle.tc_model.specs.CompactSyntaxTrees.{SyntaxClass, of_name, of_namespace, any_name, one_of, SyntaxClasses, no_class, class}
use Rattle.tc_model.specs.CompactSyntaxTokens.{Word, a_name, escaped, prefixed, all_of, literal, long_literal, mark, Token}
use Rattle.tc_model.specs.CompactSyntaxNames as n
use Rattle.tc_model.specs.CompactSyntaxNames.{IsMark, name_in, LacksMark, ClassAt, ClassesAt, SimpleAt, ExceptAt}
use Rattle.tc_model.specs.CompactSyntaxUnread.{Refusal, too_deep, End}
use Rattle.tc_model.specs.CompactSyntaxStops as st
use Rattle.tc_model.specs.CompactSyntaxStops.{ClassStops, SimpleStops}
use Rattle.tc_rnc.proofs.Deciding.{Decided, mark_is, unexpected, by_length}

module _ (end : End) (scope : List Bound) where
  data SimpleHere (d : ℕ) (ts : List Token) : Type 0 where
    reads_simple : (c : SyntaxClass) (after : List Token) → SimpleAt scope d ts c after → length after < length ts → SimpleHere d ts
    stops_simple : (r : Refusal) → SimpleStops end scope d ts r → SimpleHere d ts

  pub data ClassHere (d : ℕ) (ts : List Token) : Type 0 where
    reads_class : (c : SyntaxClass) (after : List Token) → ClassAt scope d ts c after → length after < length ts → ClassHere d ts
    stops_class : (r : Refusal) → ClassStops end scope d ts r → ClassHere d ts

  data ExceptHere (d : ℕ) : List Token → Type 0 where
    reads_except : {ts : List Token} (x : SyntaxClasses) (after : List Token) → ExceptAt scope d ts x after → length after ≤ length ts → ExceptHere d ts
    stops_except : {minus : Token} {us : List Token} (r : Refusal) → IsMark 0x2D minus → SimpleStops end scope d us r → ExceptHere d (minus ∷ us)

  -- classes behind a bar are those that stand alone
  listed : {d : ℕ} {ts after : List Token} {c : SyntaxClass} → ClassAt scope d ts c after → (cs : SyntaxClasses) × ClassesAt scope d ts cs after
  listed (n.alone {c = c} a h) = (class c no_class, n.last a h)
  listed (n.several {c = c} {cs = cs} a e l) = (class c cs, n.more a e l)

  class_of : {d : ℕ} {ts : List Token} → SimpleHere d ts → ((us : List Token) → length us < length ts → ClassHere d us) → ClassHere d ts
  class_of (stops_simple r y) rest = stops_class r (st.simple y)
  class_of (reads_simple c [] a h) rest = reads_class c [] (n.alone a tt) h
  class_of {d} {ts} (reads_simple c (t ∷ after) a h) rest = by (mark_is 0x7C t.word)
    where
      with_bar : IsMark 0x7C t → ClassHere d after → ClassHere d ts
      with_bar e (stops_class r y) = stops_class r (st.past_bar a e y)
      with_bar e (reads_class x behind b g) = let (xs, l) = listed b in reads_class (one_of (class c xs)) behind (n.several a e l) (omega (arith, h, g))

      by : Decided (IsMark 0x7C t) → ClassHere d ts
      by (inl e) = with_bar e (rest after (omega (arith, h)))
      by (inr k) = reads_class c (t ∷ after) (n.alone a k) h

  -- classes of fewer tokens than so many
  classes_below : (k : ℕ) → ((us : List Token) → length us < k → (d : ℕ) → SimpleHere d us) → (us : List Token) → length us < k → (d : ℕ) → ClassHere d us
  classes_below k simple us h d =
      by_length (λ vs. length vs < k → ClassHere d vs) (λ vs ih g. class_of (simple vs g d) (λ ws l. ih ws l (omega (arith, g, l)))) us h

  except_of : (ts : List Token) → ((us : List Token) → length us < length ts → (d : ℕ) → SimpleHere d us) → (d : ℕ) → ExceptHere d ts
  except_of [] simple d = reads_except no_class [] (n.nothing tt) (omega arith)
  except_of (t ∷ ts) simple d = by (mark_is 0x2D t.word)
    where
      with_minus : IsMark 0x2D t → SimpleHere d ts → ExceptHere d (t ∷ ts)
      with_minus e (reads_simple c after a h) = reads_except (class c no_class) after (n.except e a) (omega (arith, h))
      with_minus e (stops_simple r y) = stops_except r e y

      by : Decided (IsMark 0x2D t) → ExceptHere d (t ∷ ts)
      by (inl e) = with_minus e (simple ts (omega arith) d)
      by (inr k) = reads_except no_class (t ∷ ts) (n.nothing k) (omega arith)

  of_namespace_at : {d : ℕ} {t : Token} {ts : List Token} (p uri : List ℕ) → t.word ≡ all_of p → uri_of scope p ≡ Some uri → ExceptHere d ts → SimpleHere d (t ∷ ts)
  of_namespace_at {t = t} p uri e f (reads_except x after a h) = reads_simple (of_namespace t.place uri x) after (n.whole_namespace e f a) (omega (arith, h))
  of_namespace_at p uri e f (stops_except r k y) = stops_simple r (st.namespace_except e f k y)

  any_at : {d : ℕ} {t : Token} {ts : List Token} → IsMark 0x2A t → ExceptHere d ts → SimpleHere d (t ∷ ts)
  any_at {t = t} e (reads_except x after a h) = reads_simple (any_name t.place x) after (n.any e a) (omega (arith, h))
  any_at e (stops_except r k y) = stops_simple r (st.any_except e k y)

  in_parentheses : {d : ℕ} {t : Token} {ts : List Token} → IsMark 0x28 t → ClassHere d ts → SimpleHere (suc d) (t ∷ ts)
  in_parentheses e (stops_class r y) = stops_simple r (st.inside e y)
  in_parentheses e (reads_class c [] a h) = let (r, x) = unexpected end [] in stops_simple r (st.unclosed e a tt x)
  in_parentheses {d} {t} {ts} e (reads_class c (u ∷ after) a h) = by (mark_is 0x29 u.word)
    where
      by : Decided (IsMark 0x29 u) → SimpleHere (suc d) (t ∷ ts)
      by (inl f) = reads_simple c after (n.parentheses e a f) (omega (arith, h))
      by (inr k) = let (r, x) = unexpected end (u ∷ after) in stops_simple r (st.unclosed e a k x)

  parentheses_at : (d : ℕ) {t : Token} {ts : List Token} → IsMark 0x28 t → ((d : ℕ) → ClassHere d ts) → SimpleHere d (t ∷ ts)
  parentheses_at zero {t} e inside = stops_simple (too_deep t.place) (st.deep e)
  parentheses_at (suc d) e inside = in_parentheses e (inside d)

  -- a namespace that a prefix stands for, or none
  namespace_of : (w : Word) → ((p : List ℕ) × ((uri : List ℕ) × ((w ≡ all_of p) × (uri_of scope p ≡ Some uri)))) ⊎ ((p : List ℕ) → w ≡ all_of p → uri_of scope p ≡ None)
  namespace_of (a_name m) = inr (λ p e. absurd (no e))
    where
      no : {p : List ℕ} → a_name m ≡ all_of p → ⊥
      no e = cc
  namespace_of (escaped m) = inr (λ p e. absurd (no e))
    where
      no : {p : List ℕ} → escaped m ≡ all_of p → ⊥
      no e = cc
  namespace_of (prefixed q m) = inr (λ p e. absurd (no e))
    where
      no : {p : List ℕ} → prefixed q m ≡ all_of p → ⊥
      no e = cc
  namespace_of (literal s) = inr (λ p e. absurd (no e))
    where
      no : {p : List ℕ} → literal s ≡ all_of p → ⊥
      no e = cc
  namespace_of (long_literal s) = inr (λ p e. absurd (no e))
    where
      no : {p : List ℕ} → long_literal s ≡ all_of p → ⊥
      no e = cc
  namespace_of (mark c) = inr (λ p e. absurd (no e))
    where
      no : {p : List ℕ} → mark c ≡ all_of p → ⊥
      no e = cc
  namespace_of (all_of q) = by (uri_of scope q) refl
    where
      same : {p : List ℕ} → all_of q ≡ all_of p → q ≡ p
      same e = cc

      by : (o : Option (List ℕ)) → uri_of scope q ≡ o
          → ((p : List ℕ) × ((uri : List ℕ) × ((all_of q ≡ all_of p) × (uri_of scope p ≡ Some uri)))) ⊎ ((p : List ℕ) → all_of q ≡ all_of p → uri_of scope p ≡ None)
      by (Some uri) e = inl (q, (uri, (refl, e)))
      by None e = inr (λ p f. ap (uri_of scope) (sym (same f)) ∙ e)

  simple_at : (t : Token) (ts : List Token) → ((us : List Token) → length us < length (t ∷ ts) → (d : ℕ) → SimpleHere d us) → (d : ℕ) → SimpleHere d (t ∷ ts)
  simple_at t ts simple d = by (name_in scope t.word) refl
    where
      excepted : ExceptHere d ts
      excepted = except_of ts (λ us h. simple us (omega (arith, h))) d

      others : name_in scope t.word ≡ None → ((p : List ℕ) → t.word ≡ all_of p → uri_of scope p ≡ None) → Decided (IsMark 0x2A t) → Decided (IsMark 0x28 t) → SimpleHere d (t ∷ ts)
      others e h (inl f) g = any_at f excepted
      others e h (inr k) (inl g) = parentheses_at d g (classes_below (length (t ∷ ts)) simple ts (omega arith))
      others e h (inr k) (inr l) =
          let (r, x) = unexpected end (t ∷ ts) in
          stops_simple r (st.no_class (record { no_name = e; no_namespace = h; no_asterisk = k; no_parenthesis = l }) x)

      spaces : name_in scope t.word ≡ None → ((p : List ℕ) × ((uri : List ℕ) × ((t.word ≡ all_of p) × (uri_of scope p ≡ Some uri)))) ⊎ ((p : List ℕ) → t.word ≡ all_of p → uri_of scope p ≡ None) → SimpleHere d (t ∷ ts)
      spaces e (inl (p, (uri, (f, g)))) = of_namespace_at p uri f g excepted
      spaces e (inr h) = others e h (mark_is 0x2A t.word) (mark_is 0x28 t.word)

      by : (o : Option ExpandedName) → name_in scope t.word ≡ o → SimpleHere d (t ∷ ts)
      by (Some m) e = reads_simple (of_name m) ts (n.name e) (omega arith)
      by None e = spaces e (namespace_of t.word)

  simple_here : (ts : List Token) (d : ℕ) → SimpleHere d ts
  simple_here = by_length (λ ts. (d : ℕ) → SimpleHere d ts) step
    where
      step : (ts : List Token) → ((us : List Token) → length us < length ts → (d : ℕ) → SimpleHere d us) → (d : ℕ) → SimpleHere d ts
      step [] ih d = let (r, x) = unexpected end [] in stops_simple r (st.no_token x)
      step (t ∷ ts) ih d = simple_at t ts ih d

  -- a name class is read, or its reading stops
  pub class_here : (ts : List Token) (d : ℕ) → ClassHere d ts
  class_here ts d = classes_below (suc (length ts)) (λ us h e. simple_here us e) ts (omega arith) d
