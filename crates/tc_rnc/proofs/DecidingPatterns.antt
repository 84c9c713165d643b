-- Patterns are read, or their reading stops.
use Rattle.std.proofs.Common.{◌≡◌, ◌⊎◌, inl, inr, ℕ, zero, suc, ◌<◌, Bool, true, false, List, [], ◌∷◌, refl, ap, ◌∙◌, sym, length, arith, Option, None, Some, codes}
use Rattle.std.proofs.lemmas.Bool.{false≢true}
use Rattle.tc_base.specs.declared.reasons.Why.{Why}
use Rattle.tc_base.specs.declared.reasons.Why.TheVariants.{ValuePattern, Escape, TripleQuote}
use Rattle.tc_model.specs.RawTrees.{Bound}
use Rattle.tc_model.specs.CompactSyntaxTrees.{SyntaxClass, SyntaxPattern, SyntaxPatterns, no_more, more}
use Rattle.tc_model.specs.CompactSyntaxTrees as tree
use Rattle.tc_model.specs.CompactSyntaxTokens.{Word, a_name, escaped, prefixed, all_of, literal, long_literal, mark, Token}
use Rattle.tc_model.specs.CompactSyntaxNames.{IsWord, IsMark, identifier, ClassAt}
use Rattle.tc_model.specs.CompactSyntaxPatterns as p
use Rattle.tc_model.specs.CompactSyntaxPatterns.{Connector, comma, bar, ampersand, connector_of, joined_by, Suffix, suffix_of, suffixed, BalancedAt, PatternAt, ItemsAt, ItemAt, PrimaryAt}
use Rattle.tc_model.specs.CompactSyntaxUnread.{Refusal, malformed, unsupported, too_deep, End, EscapeAt, NoEscape, escape_within, three_quotes, is_literal, unread_pattern, NoPattern}
use Rattle.tc_model.specs.CompactSyntaxUnread as u
use Rattle.tc_model.specs.CompactSyntaxStops as st
use Rattle.tc_model.specs.CompactSyntaxStops.{BalancedStops, BracedTextStops, PatternStops, ItemsStop, PrimaryStops, EnclosedStops}
use Rattle.tc_rnc.specs.Connectors.{BeginsNone}
use Rattle.tc_rnc.proofs.Deciding.{Decided, mark_is, word_is, unexpected, escape_at, by_length}
use Rattle.tc_rnc.proofs.DecidingClasses.{ClassHere, reads_class, stops_class, class_here}

connector_is : (k c : Connector) → Decided (k ≡ c)
connector_is comma comma = inl refl
connector_is bar bar = inl refl
connector_is ampersand ampersand = inl refl
connector_is comma bar = inr (λ e. cc)
connector_is comma ampersand = inr (λ e. cc)
connector_is bar comma = inr (λ e. cc)
connector_is bar ampersand = inr (λ e. cc)
connector_is ampersand comma = inr (λ e. cc)
connector_is ampersand bar = inr (λ e. cc)

-- why no pattern that is read begins there
pub no_pattern : (end : End) (t : Token) (ts : List Token) → BeginsNone t.word → (r : Refusal) × NoPattern end (t ∷ ts) r
no_pattern end t ts b = by (unread_pattern t.word) refl
  where
    of_literal : is_literal t.word ≡ true → ((q : ℕ) × EscapeAt (t ∷ ts) q) ⊎ NoEscape (t ∷ ts) → (w : Word) → t.word ≡ w → (r : Refusal) × NoPattern end (t ∷ ts) r
    of_literal h (inl (q, a)) w e = (unsupported Escape q, u.a_literal h (escape_within a))
    of_literal h (inr g) (literal s) e = (unsupported ValuePattern t.place, u.value e g)
    of_literal h (inr g) (long_literal s) e = (unsupported TripleQuote t.place, u.a_literal h (three_quotes e g))
    of_literal h (inr g) (a_name m) e = absurd (false≢true (sym (ap is_literal e) ∙ h))
    of_literal h (inr g) (escaped m) e = absurd (false≢true (sym (ap is_literal e) ∙ h))
    of_literal h (inr g) (prefixed q m) e = absurd (false≢true (sym (ap is_literal e) ∙ h))
    of_literal h (inr g) (all_of q) e = absurd (false≢true (sym (ap is_literal e) ∙ h))
    of_literal h (inr g) (mark c) e = absurd (false≢true (sym (ap is_literal e) ∙ h))

    others : unread_pattern t.word ≡ None → (x : Bool) → is_literal t.word ≡ x → (r : Refusal) × NoPattern end (t ∷ ts) r
    others e true h = of_literal h (escape_at (t ∷ ts)) t.word refl
    others e false h =
        let (r, x) = unexpected end (t ∷ ts) in (
          r,
          u.none (record {
            no_element = b.no_element;
            no_attribute = b.no_attribute;
            no_mixed = b.no_mixed;
            no_empty = b.no_empty;
            no_text = b.no_text;
            no_not_allowed = b.no_not_allowed;
            no_parenthesis = b.no_parenthesis;
            no_reference = b.no_reference;
            no_literal = h;
            no_unread = e;
          }) x,
        )

    by : (o : Option Why) → unread_pattern t.word ≡ o → (r : Refusal) × NoPattern end (t ∷ ts) r
    by (Some why) e = (unsupported why t.place, u.unread e)
    by None e = others e (is_literal t.word) refl

module _ (end : End) where
  data BalancedHere (d : ℕ) (ts : List Token) : Type 0 where
    reads_balanced : (after : List Token) → BalancedAt d ts after → length after < length ts → BalancedHere d ts
    stops_balanced : (r : Refusal) → BalancedStops end d ts r → BalancedHere d ts

  braces_at : (d : ℕ) {t : Token} {ts : List Token} → IsMark 0x7B t → ((us : List Token) → length us < length (t ∷ ts) → (d : ℕ) → BalancedHere d us) → BalancedHere d (t ∷ ts)
  braces_at zero {t} e ih = stops_balanced (too_deep t.place) (st.deep e)
  braces_at (suc d) {t} {ts} e ih = by (ih ts (omega arith) d)
    where
      behind : {rest : List Token} → BalancedAt d ts rest → length rest < length ts → BalancedHere (suc d) rest → BalancedHere (suc d) (t ∷ ts)
      behind a h (reads_balanced after b g) = reads_balanced after (p.nested e a b) (omega (arith, h, g))
      behind a h (stops_balanced r y) = stops_balanced r (st.past_braces e a y)

      by : BalancedHere d ts → BalancedHere (suc d) (t ∷ ts)
      by (stops_balanced r y) = stops_balanced r (st.inside e y)
      by (reads_balanced rest a h) = behind a h (ih rest (omega (arith, h)) (suc d))

  balanced_here : (ts : List Token) (d : ℕ) → BalancedHere d ts
  balanced_here = by_length (λ ts. (d : ℕ) → BalancedHere d ts) step
    where
      step : (ts : List Token) → ((us : List Token) → length us < length ts → (d : ℕ) → BalancedHere d us) → (d : ℕ) → BalancedHere d ts
      step [] ih d = stops_balanced (malformed end.place) st.at_end
      step (t ∷ ts) ih d = by (mark_is 0x7D t.word) (mark_is 0x7B t.word)
        where
          other : (IsMark 0x7B t → ⊥) → (IsMark 0x7D t → ⊥) → BalancedHere d ts → BalancedHere d (t ∷ ts)
          other k h (reads_balanced after a g) = reads_balanced after (p.other k h a) (omega (arith, g))
          other k h (stops_balanced r y) = stops_balanced r (st.past_token k h y)

          by : Decided (IsMark 0x7D t) → Decided (IsMark 0x7B t) → BalancedHere d (t ∷ ts)
          by (inl e) k = reads_balanced ts (p.closed e) (omega arith)
          by (inr h) (inl e) = braces_at d e ih
          by (inr h) (inr k) = other k h (ih ts (omega arith) d)

  -- the text of an attribute
  data BracedHere : ℕ → List Token → Type 0 where
    reads_braced : {d : ℕ} {t : Token} {inside : List Token} (after : List Token) → IsMark 0x7B t → BalancedAt d inside after → length after < length inside → BracedHere (suc d) (t ∷ inside)
    stops_braced : {d : ℕ} {ts : List Token} (r : Refusal) → BracedTextStops end d ts r → BracedHere d ts

  braced_here : (ts : List Token) (d : ℕ) → BracedHere d ts
  braced_here [] d = let (r, x) = unexpected end [] in stops_braced r (st.no_brace tt x)
  braced_here (t ∷ ts) d = by d (mark_is 0x7B t.word)
    where
      inner : {d : ℕ} → IsMark 0x7B t → BalancedHere d ts → BracedHere (suc d) (t ∷ ts)
      inner e (reads_balanced after a h) = reads_braced after e a h
      inner e (stops_balanced r y) = stops_braced r (st.inside e y)

      by : (d : ℕ) → Decided (IsMark 0x7B t) → BracedHere d (t ∷ ts)
      by d (inr k) = let (r, x) = unexpected end (t ∷ ts) in stops_braced r (st.no_brace k x)
      by zero (inl e) = stops_braced (too_deep t.place) (st.deep e)
      by (suc d) (inl e) = inner e (balanced_here ts d)

module _ (end : End) (scope : List Bound) where
  data PrimaryHere (d : ℕ) (ts : List Token) : Type 0 where
    reads_primary : (q : SyntaxPattern) (after : List Token) → PrimaryAt false scope d ts q after → length after < length ts → PrimaryHere d ts
    stops_primary : (r : Refusal) → PrimaryStops end scope d ts r → PrimaryHere d ts

  data ItemHere (d : ℕ) (ts : List Token) : Type 0 where
    reads_item : (q : SyntaxPattern) (after : List Token) → ItemAt false scope d ts q after → length after < length ts → ItemHere d ts
    stops_item : (r : Refusal) → PrimaryStops end scope d ts r → ItemHere d ts

  data ItemsHere (c : Connector) (d : ℕ) (ts : List Token) : Type 0 where
    reads_items : (q : SyntaxPatterns) (after : List Token) → ItemsAt false scope c d ts q after → length after < length ts → ItemsHere c d ts
    stops_items : (r : Refusal) → ItemsStop end scope c d ts r → ItemsHere c d ts

  pub data PatternHere (d : ℕ) (ts : List Token) : Type 0 where
    reads_pattern : (q : SyntaxPattern) (after : List Token) → PatternAt false scope d ts q after → length after < length ts → PatternHere d ts
    stops_pattern : (r : Refusal) → PatternStops end scope d ts r → PatternHere d ts

  -- a pattern within these marks
  data EnclosedHere (left right : ℕ) : ℕ → List Token → Type 0 where
    reads_enclosed : {d : ℕ} {t v : Token} {inside after : List Token} (q : SyntaxPattern) → IsMark left t → PatternAt false scope d inside q (v ∷ after) → IsMark right v
        → length (v ∷ after) < length inside → EnclosedHere left right (suc d) (t ∷ inside)
    stops_enclosed : {d : ℕ} {ts : List Token} (r : Refusal) → EnclosedStops end scope left right d ts r → EnclosedHere left right d ts

  item_of : {d : ℕ} {ts : List Token} → PrimaryHere d ts → ItemHere d ts
  item_of (stops_primary r y) = stops_item r y
  item_of (reads_primary q [] a h) = reads_item q [] (p.bare a refl) h
  item_of {d} {ts} (reads_primary q (t ∷ after) a h) = by (suffix_of t.word) refl
    where
      by : (o : Option Suffix) → suffix_of t.word ≡ o → ItemHere d ts
      by None e = reads_item q (t ∷ after) (p.bare a e) h
      by (Some s) e = reads_item (suffixed s q) after (p.with_suffix a e) (omega (arith, h))

  items_of : {c : Connector} {d : ℕ} {ts : List Token} → ItemHere d ts → ((us : List Token) → length us < length ts → ItemsHere c d us) → ItemsHere c d ts
  items_of (stops_item r y) rest = stops_items r (st.next_item y)
  items_of (reads_item q [] a h) rest = reads_items (more q no_more) [] (p.last a refl) h
  items_of {c} {d} {ts} (reads_item q (t ∷ after) a h) rest = by (connector_of t.word) refl
    where
      on : connector_of t.word ≡ Some c → ItemsHere c d after → ItemsHere c d ts
      on e (reads_items qs behind b g) = reads_items (more q qs) behind (p.and_more a e b) (omega (arith, h, g))
      on e (stops_items r y) = stops_items r (st.past_item a e y)

      other : (k : Connector) → connector_of t.word ≡ Some k → Decided (k ≡ c) → ItemsHere c d ts
      other k e (inl same) = on (e ∙ ap Some same) (rest after (omega (arith, h)))
      other k e (inr g) = let (r, x) = unexpected end (t ∷ after) in stops_items r (st.other_connector a e g x)

      by : (o : Option Connector) → connector_of t.word ≡ o → ItemsHere c d ts
      by None e = reads_items (more q no_more) (t ∷ after) (p.last a e) h
      by (Some k) e = other k e (connector_is k c)

  -- items, and patterns, of fewer tokens than so many
  items_below : (k : ℕ) → ((us : List Token) → length us < k → (d : ℕ) → PrimaryHere d us) → (c : Connector) (us : List Token) → length us < k → (d : ℕ) → ItemsHere c d us
  items_below k primary c us h d =
      by_length (λ vs. length vs < k → ItemsHere c d vs) (λ vs ih g. items_of (item_of (primary vs g d)) (λ ws l. ih ws l (omega (arith, g, l)))) us h

  pattern_of : {d : ℕ} {ts : List Token} → ItemHere d ts → ((c : Connector) (us : List Token) → length us < length ts → ItemsHere c d us) → PatternHere d ts
  pattern_of (stops_item r y) rest = stops_pattern r (st.first_item y)
  pattern_of (reads_item q [] a h) rest = reads_pattern q [] (p.alone a refl) h
  pattern_of {d} {ts} (reads_item q (t ∷ after) a h) rest = by (connector_of t.word) refl
    where
      on : {c : Connector} → connector_of t.word ≡ Some c → ItemsHere c d after → PatternHere d ts
      on {c} e (reads_items qs behind b g) = reads_pattern (joined_by c (more q qs)) behind (p.several a e b) (omega (arith, h, g))
      on e (stops_items r y) = stops_pattern r (st.past_connector a e y)

      by : (o : Option Connector) → connector_of t.word ≡ o → PatternHere d ts
      by None e = reads_pattern q (t ∷ after) (p.alone a e) h
      by (Some c) e = on e (rest c after (omega (arith, h)))

  patterns_below : (k : ℕ) → ((us : List Token) → length us < k → (d : ℕ) → PrimaryHere d us) → (us : List Token) → length us < k → (d : ℕ) → PatternHere d us
  patterns_below k primary us h d = pattern_of (item_of (primary us h d)) (λ c vs g. items_below k primary c vs (omega (arith, h, g)) d)

  enclosed_of : (left right : ℕ) (ts : List Token) → ((us : List Token) → length us < length ts → (d : ℕ) → PatternHere d us) → (d : ℕ) → EnclosedHere left right d ts
  enclosed_of left right [] pattern d = let (r, x) = unexpected end [] in stops_enclosed r (st.no_mark tt x)
  enclosed_of left right (t ∷ ts) pattern d = by d (mark_is left t.word)
    where
      closing : {d : ℕ} {q : SyntaxPattern} {v : Token} {after : List Token} → IsMark left t → PatternAt false scope d ts q (v ∷ after) → length (v ∷ after) < length ts → Decided (IsMark right v)
          → EnclosedHere left right (suc d) (t ∷ ts)
      closing {q = q} e a h (inl f) = reads_enclosed q e a f h
      closing {v = v} {after = after} e a h (inr k) = let (r, x) = unexpected end (v ∷ after) in stops_enclosed r (st.unclosed e a k x)

      inner : {d : ℕ} → IsMark left t → PatternHere d ts → EnclosedHere left right (suc d) (t ∷ ts)
      inner e (stops_pattern r y) = stops_enclosed r (st.inside e y)
      inner e (reads_pattern q [] a h) = let (r, x) = unexpected end [] in stops_enclosed r (st.unclosed e a tt x)
      inner e (reads_pattern q (v ∷ after) a h) = closing e a h (mark_is right v.word)

      by : (d : ℕ) → Decided (IsMark left t) → EnclosedHere left right d (t ∷ ts)
      by d (inr k) = let (r, x) = unexpected end (t ∷ ts) in stops_enclosed r (st.no_mark k x)
      by zero (inl e) = stops_enclosed (too_deep t.place) (st.deep e)
      by (suc d) (inl e) = inner e (pattern ts (omega arith) d)

  -- an element behind its word
  element_content : {d : ℕ} {t : Token} {ts rest : List Token} {c : SyntaxClass} → IsWord (codes "element") t → ClassAt scope d ts c rest → length rest < length ts
      → EnclosedHere 0x7B 0x7D d rest → PrimaryHere d (t ∷ ts)
  element_content e a h (stops_enclosed r y) = stops_primary r (st.element_content e a y)
  element_content {t = t} {c = c} e a h (reads_enclosed {after = after} q k b g l) = reads_primary (tree.element t.place c q) after (p.an_element e a k b g) (omega (arith, h, l))

  element_at : {d : ℕ} {t : Token} {ts : List Token} → IsWord (codes "element") t → ClassHere end scope d ts
      → ((us : List Token) → length us < length ts → (d : ℕ) → PatternHere d us) → PrimaryHere d (t ∷ ts)
  element_at e (stops_class r y) pattern = stops_primary r (st.element_class e y)
  element_at {d} e (reads_class c rest a h) pattern = element_content e a h (enclosed_of 0x7B 0x7D rest (λ us g. pattern us (omega (arith, h, g))) d)

  attribute_text : {d : ℕ} {t : Token} {ts rest : List Token} {c : SyntaxClass} → IsWord (codes "attribute") t → ClassAt scope d ts c rest → length rest < length ts
      → BracedHere end d rest → PrimaryHere d (t ∷ ts)
  attribute_text e a h (stops_braced r y) = stops_primary r (st.attribute_text e a y)
  attribute_text e a h (reads_braced after k b l) = reads_primary tree.attribute after (p.an_attribute e a k b) (omega (arith, h, l))

  attribute_at : {d : ℕ} {t : Token} {ts : List Token} → IsWord (codes "attribute") t → ClassHere end scope d ts → PrimaryHere d (t ∷ ts)
  attribute_at e (stops_class r y) = stops_primary r (st.attribute_class e y)
  attribute_at {d} e (reads_class c rest a h) = attribute_text e a h (braced_here end rest d)

  mixed_at : {d : ℕ} {t : Token} {ts : List Token} → IsWord (codes "mixed") t → EnclosedHere 0x7B 0x7D d ts → PrimaryHere d (t ∷ ts)
  mixed_at e (stops_enclosed r y) = stops_primary r (st.mixed_content e y)
  mixed_at e (reads_enclosed {after = after} q k b g l) = reads_primary (tree.mixed q) after (p.a_mixed e k b g) (omega (arith, l))

  parentheses_at : {d : ℕ} {t : Token} {ts : List Token} → IsMark 0x28 t → EnclosedHere 0x28 0x29 d (t ∷ ts) → PrimaryHere d (t ∷ ts)
  parentheses_at e (stops_enclosed r y) = stops_primary r (st.parentheses e y)
  parentheses_at e (reads_enclosed {after = after} q k b g l) = reads_primary q after (p.parentheses k b g) (omega (arith, l))

  primary_at : (t : Token) (ts : List Token) → ((us : List Token) → length us < length (t ∷ ts) → (d : ℕ) → PrimaryHere d us) → (d : ℕ) → PrimaryHere d (t ∷ ts)
  primary_at t ts primary d = element_or (word_is (codes "element") t.word)
    where
      pattern : (us : List Token) → length us < length (t ∷ ts) → (d : ℕ) → PatternHere d us
      pattern = patterns_below (length (t ∷ ts)) primary

      reference_or : ((m : List ℕ) × (identifier t.word ≡ Some m)) ⊎ BeginsNone t.word → PrimaryHere d (t ∷ ts)
      reference_or (inl (m, e)) = reads_primary (tree.ref m t.place) ts (p.reference e) (omega arith)
      reference_or (inr b) = let (r, x) = no_pattern end t ts b in stops_primary r (st.no_pattern x)

      others : (t.word ≡ a_name (codes "element") → ⊥) → (t.word ≡ a_name (codes "attribute") → ⊥) → (t.word ≡ a_name (codes "mixed") → ⊥) → Decided (t.word ≡ a_name (codes "empty")) → Decided (t.word ≡ a_name (codes "text"))
          → Decided (t.word ≡ a_name (codes "notAllowed")) → Decided (t.word ≡ mark 0x28) → (o : Option (List ℕ)) → identifier t.word ≡ o → PrimaryHere d (t ∷ ts)
      others h k l (inl e) b c m o i = reads_primary tree.empty ts (p.an_empty e) (omega arith)
      others h k l (inr a) (inl e) c m o i = reads_primary tree.text ts (p.a_text e) (omega arith)
      others h k l (inr a) (inr b) (inl e) m o i = reads_primary tree.not_allowed ts (p.a_not_allowed e) (omega arith)
      others h k l (inr a) (inr b) (inr c) (inl e) o i = parentheses_at e (enclosed_of 0x28 0x29 (t ∷ ts) pattern d)
      others h k l (inr a) (inr b) (inr c) (inr m) (Some s) i = reference_or (inl (s, i))
      others h k l (inr a) (inr b) (inr c) (inr m) None i =
          reference_or (inr (record { no_element = h; no_attribute = k; no_mixed = l; no_empty = a; no_text = b; no_not_allowed = c; no_parenthesis = m; no_reference = i }))

      mixed_or : (t.word ≡ a_name (codes "element") → ⊥) → (t.word ≡ a_name (codes "attribute") → ⊥) → Decided (t.word ≡ a_name (codes "mixed")) → PrimaryHere d (t ∷ ts)
      mixed_or h k (inl e) = mixed_at e (enclosed_of 0x7B 0x7D ts (λ us g. pattern us (omega (arith, g))) d)
      mixed_or h k (inr l) = others h k l (word_is (codes "empty") t.word) (word_is (codes "text") t.word) (word_is (codes "notAllowed") t.word) (mark_is 0x28 t.word) (identifier t.word) refl

      attribute_or : (t.word ≡ a_name (codes "element") → ⊥) → Decided (t.word ≡ a_name (codes "attribute")) → PrimaryHere d (t ∷ ts)
      attribute_or h (inl e) = attribute_at e (class_here end scope ts d)
      attribute_or h (inr k) = mixed_or h k (word_is (codes "mixed") t.word)

      element_or : Decided (t.word ≡ a_name (codes "element")) → PrimaryHere d (t ∷ ts)
      element_or (inl e) = element_at e (class_here end scope ts d) (λ us g. pattern us (omega (arith, g)))
      element_or (inr h) = attribute_or h (word_is (codes "attribute") t.word)

  primary_here : (ts : List Token) (d : ℕ) → PrimaryHere d ts
  primary_here = by_length (λ ts. (d : ℕ) → PrimaryHere d ts) step
    where
      step : (ts : List Token) → ((us : List Token) → length us < length ts → (d : ℕ) → PrimaryHere d us) → (d : ℕ) → PrimaryHere d ts
      step [] ih d = let (r, x) = unexpected end [] in stops_primary r (st.no_pattern (u.no_token x))
      step (t ∷ ts) ih d = primary_at t ts ih d

  -- a pattern is read, or its reading stops
  pub pattern_here : (ts : List Token) (d : ℕ) → PatternHere d ts
  pattern_here ts d = patterns_below (suc (length ts)) (λ us h e. primary_here us e) ts (omega arith) d
