-- Why patterns and primaries are read, or not, where their parts are.
use Rattle.std.proofs.Common.{◌≡◌, ℕ, ◌<◌, inl, inr, false, List, [], ◌∷◌, ◌++◌, refl, ap, ◌∙◌, sym, subst, length, arith, None, Some, codes}
use Rattle.tc_model.specs.RawTrees.{Bound}
use Rattle.tc_model.specs.CompactSyntaxTrees.{SyntaxClass, SyntaxPattern, attribute, element, mixed, SyntaxPatterns, no_more}
use Rattle.tc_model.specs.CompactSyntaxTrees as tree
use Rattle.tc_model.specs.CompactSyntaxTokens.{Token}
use Rattle.tc_model.specs.CompactSyntaxNames.{IsWord, IsMark, ClassAt}
use Rattle.tc_model.specs.CompactSyntaxPatterns.{Connector, joined_by, connector_at, Suffix, suffix_at, suffixed, PatternAt, several, ItemsAt, last, and_more, ItemAt, with_suffix, PrimaryAt, an_element, an_attribute, a_mixed, parentheses}
use Rattle.tc_model.specs.CompactSyntaxUnread.{Refusal, End, Unexpected, no_token}
use Rattle.tc_model.specs.CompactSyntaxStops as st
use Rattle.tc_model.specs.CompactSyntaxStops.{PatternStops, ItemsStop, PrimaryStops, EnclosedStops, GoesOnAsPattern}
use Rattle.tc_model.proofs.CompactSyntaxClassesUnique.{some_none}
use Rattle.tc_rnc.specs.Readings.{GoesOn, GoesOnOtherwise, EndsWith, EnclosedAt, enclosed, NamedAt, named, BracedTextAt, braced_text, LabelledAt, labelled}
use Rattle.tc_rnc.specs.Stops as p
use Rattle.tc_rnc.specs.Stops.{NamedStops, LabelledStops}
use Rattle.tc_rnc.specs.Views as seen
use Rattle.tc_rnc.specs.declared.syntax.SPat.{SPat}

pub goes_on_shorter : {c : Connector} {ts rest : List Token} → GoesOn c ts rest → length rest < length ts
goes_on_shorter (t, e, k) = omega (arith, ap length e)

pub goes_on_at : {c : Connector} {ts rest : List Token} → GoesOn c ts rest → connector_at ts ≡ Some c
goes_on_at (t, e, k) = ap connector_at e ∙ k

-- Items.

-- those that were gathered, before others
abbrev pub then_patterns : List SPat → SyntaxPatterns → SyntaxPatterns
then_patterns [] ps = ps
then_patterns (x ∷ xs) ps = tree.more (seen.pattern x) (then_patterns xs ps)

then_pushed : (xs : List SPat) (x : SPat) (ps : SyntaxPatterns) → then_patterns (xs ++ x ∷ []) ps ≡ then_patterns xs (tree.more (seen.pattern x) ps)
then_pushed [] x ps = refl
then_pushed (y ∷ ys) x ps = ap (tree.more (seen.pattern y)) (then_pushed ys x ps)

patterns_then : (xs : List SPat) → seen.patterns xs ≡ then_patterns xs no_more
patterns_then [] = refl
patterns_then (y ∷ ys) = ap (tree.more (seen.pattern y)) (patterns_then ys)

-- Items with this connector between, of which the first and the last token before `rest` is such a connector: what was gathered, the very
-- first item included, goes before those of `rest`, and where their reading stops that of the whole does.
pub record ItemsSoFar (end : End) (scope : List Bound) (c : Connector) (deepest : ℕ) (tokens rest : List Token) (first : SPat) (all : List SPat) : Type 0 where
  pub others : List SPat
  pub gathered : all ≡ first ∷ others
  pub forth : (ps : SyntaxPatterns) (after : List Token) → ItemsAt false scope c deepest rest ps after → ItemsAt false scope c deepest tokens (then_patterns others ps) after
  pub stops : (r : Refusal) → ItemsStop end scope c deepest rest r → ItemsStop end scope c deepest tokens r

pub no_items_yet : (end : End) (scope : List Bound) (c : Connector) (n : ℕ) (ts : List Token) (first : SPat) (all : List SPat) → all ≡ first ∷ [] → ItemsSoFar end scope c n ts ts first all
no_items_yet end scope c n ts first all e = record { others = []; gathered = e; forth = λ ps after m. m; stops = λ r y. y }

one_more : {scope : List Bound} {c : Connector} {n : ℕ} {rest after behind end : List Token} {p : SyntaxPattern} {ps : SyntaxPatterns} → ItemAt false scope n rest p after → GoesOn c after behind
    → ItemsAt false scope c n behind ps end → ItemsAt false scope c n rest (tree.more p ps) end
one_more {scope} {n = n} {rest} {p = p} s (t, is, k) m = and_more (subst (λ z. ItemAt false scope n rest p z) is s) k m

pub past_item : {end : End} {scope : List Bound} {c : Connector} {n : ℕ} {ts rest behind : List Token} {q : SyntaxPattern} {r : Refusal} → ItemAt false scope n ts q rest → GoesOn c rest behind
    → ItemsStop end scope c n behind r → ItemsStop end scope c n ts r
past_item {scope = scope} {n = n} {ts = ts} {q = q} s (t, is, k) y = st.past_item (subst (λ z. ItemAt false scope n ts q z) is s) k y

pub past_connector : {end : End} {scope : List Bound} {c : Connector} {n : ℕ} {ts rest behind : List Token} {q : SyntaxPattern} {r : Refusal} → ItemAt false scope n ts q rest → GoesOn c rest behind
    → ItemsStop end scope c n behind r → PatternStops end scope n ts r
past_connector {scope = scope} {n = n} {ts = ts} {q = q} s (t, is, k) y = st.past_connector (subst (λ z. ItemAt false scope n ts q z) is s) k y

-- another connector follows
pub other_connector : {end : End} {scope : List Bound} {c : Connector} {n : ℕ} {ts rest : List Token} {q : SyntaxPattern} {r : Refusal} → ItemAt false scope n ts q rest → GoesOnOtherwise c rest
    → Unexpected end rest r → ItemsStop end scope c n ts r
other_connector {end} {scope} {c} {n} {ts} {q = q} {r} s (k, is, ne) y = by _ s is y
  where
    by : (rest : List Token) → ItemAt false scope n ts q rest → connector_at rest ≡ Some k → Unexpected end rest r → ItemsStop end scope c n ts r
    by [] s is y = absurd (some_none is refl)
    by (t ∷ us) s is y = st.other_connector s is ne y

pub more_items : (end : End) (scope : List Bound) (c : Connector) (n : ℕ) (ts rest after behind : List Token) (first x : SPat) (all full : List SPat)
    → ItemsSoFar end scope c n ts rest first all → ItemAt false scope n rest (seen.pattern x) after → GoesOn c after behind → full ≡ all ++ x ∷ [] → ItemsSoFar end scope c n ts behind first full
more_items end scope c n ts rest after behind first x all full h s b e =
    record {
      others = h.others ++ x ∷ [];
      gathered = e ∙ ap (λ z. z ++ x ∷ []) h.gathered;
      forth = λ ps z m. subst (λ w. ItemsAt false scope c n ts w z) (sym (then_pushed h.others x ps)) (h.forth (tree.more (seen.pattern x) ps) z (one_more s b m));
      stops = λ r y. h.stops r (past_item s b y);
    }

pub items_done : (end : End) (scope : List Bound) (c : Connector) (n : ℕ) (ts rest after : List Token) (first x : SPat) (all full : List SPat)
    → ItemsSoFar end scope c n ts rest first all → ItemAt false scope n rest (seen.pattern x) after → connector_at after ≡ None → full ≡ all ++ x ∷ []
    → (ps : SyntaxPatterns) × (seen.patterns full ≡ tree.more (seen.pattern first) ps) × ItemsAt false scope c n ts ps after
items_done end scope c n ts rest after first x all full h s b e = (
  then_patterns h.others (tree.more (seen.pattern x) no_more),
  ap seen.patterns (e ∙ ap (λ z. z ++ x ∷ []) h.gathered) ∙ ap (tree.more (seen.pattern first)) (patterns_then (h.others ++ x ∷ []) ∙ then_pushed h.others x no_more),
  h.forth (tree.more (seen.pattern x) no_more) after (last s b),
)

pub several_items : (scope : List Bound) (c : Connector) (n : ℕ) (ts rest behind after : List Token) (p : SyntaxPattern) (ps : SyntaxPatterns) → ItemAt false scope n ts p rest → GoesOn c rest behind
    → ItemsAt false scope c n behind ps after → PatternAt false scope n ts (joined_by c (tree.more p ps)) after
several_items scope c n ts rest behind after p ps s (t, is, k) m = several (subst (λ z. ItemAt false scope n ts p z) is s) k m

-- An item.

pub suffixed_item : (scope : List Bound) (x : Suffix) (n : ℕ) (ts rest after : List Token) (p : SyntaxPattern) → PrimaryAt false scope n ts p rest → EndsWith x rest after → ItemAt false scope n ts (suffixed x p) after
suffixed_item scope x n ts rest after p s (t, is, k) = with_suffix (subst (λ z. PrimaryAt false scope n ts p z) is s) k

-- A primary.

pub element_primary : (scope : List Bound) (n : ℕ) (t : Token) (ts rest after : List Token) (c : SyntaxClass) (p : SyntaxPattern) → ts ≡ t ∷ rest → IsWord (codes "element") t → NamedAt false scope n rest c p after
    → PrimaryAt false scope n ts (element t.place c p) after
element_primary scope n t ts rest after c p is k m = subst (λ z. PrimaryAt false scope n z (element t.place c p) after) (sym is) (by k m)
  where
    by : {n : ℕ} {rest : List Token} → IsWord (codes "element") t → NamedAt false scope n rest c p after → PrimaryAt false scope n (t ∷ rest) (element t.place c p) after
    by k (named m e) = inside m e
      where
        inside : {n : ℕ} {rest mid : List Token} → ClassAt scope n rest c mid → EnclosedAt false scope 0x7B 0x7D n mid p after → PrimaryAt false scope n (t ∷ rest) (element t.place c p) after
        inside m (enclosed x q y) = an_element k m x q y

pub attribute_primary : (scope : List Bound) (n : ℕ) (t : Token) (ts rest after : List Token) → ts ≡ t ∷ rest → IsWord (codes "attribute") t → LabelledAt scope n rest after → PrimaryAt false scope n ts attribute after
attribute_primary scope n t ts rest after is k m = subst (λ z. PrimaryAt false scope n z attribute after) (sym is) (by k m)
  where
    by : {n : ℕ} {rest : List Token} → IsWord (codes "attribute") t → LabelledAt scope n rest after → PrimaryAt false scope n (t ∷ rest) attribute after
    by k (labelled {c = c} m e) = inside m e
      where
        inside : {n : ℕ} {rest mid : List Token} → ClassAt scope n rest c mid → BracedTextAt n mid after → PrimaryAt false scope n (t ∷ rest) attribute after
        inside m (braced_text x q) = an_attribute k m x q

pub mixed_primary : (scope : List Bound) (n : ℕ) (t : Token) (ts rest after : List Token) (p : SyntaxPattern) → ts ≡ t ∷ rest → IsWord (codes "mixed") t → EnclosedAt false scope 0x7B 0x7D n rest p after
    → PrimaryAt false scope n ts (mixed p) after
mixed_primary scope n t ts rest after p is k m = subst (λ z. PrimaryAt false scope n z (mixed p) after) (sym is) (by k m)
  where
    by : {n : ℕ} {rest : List Token} → IsWord (codes "mixed") t → EnclosedAt false scope 0x7B 0x7D n rest p after → PrimaryAt false scope n (t ∷ rest) (mixed p) after
    by k (enclosed x q y) = a_mixed k x q y

pub enclosed_primary : {scope : List Bound} {n : ℕ} {ts after : List Token} {p : SyntaxPattern} → EnclosedAt false scope 0x28 0x29 n ts p after → PrimaryAt false scope n ts p after
enclosed_primary (enclosed x q y) = parentheses x q y

pub one_word : (scope : List Bound) (n : ℕ) (t : Token) (ts rest : List Token) (p : SyntaxPattern) → ts ≡ t ∷ rest → PrimaryAt false scope n (t ∷ rest) p rest → PrimaryAt false scope n ts p rest
one_word scope n t ts rest p is m = subst (λ z. PrimaryAt false scope n z p rest) (sym is) m

pub element_stops : {end : End} {scope : List Bound} {n : ℕ} {t : Token} {ts rest : List Token} {r : Refusal} → ts ≡ t ∷ rest → IsWord (codes "element") t → NamedStops end scope n rest r → PrimaryStops end scope n ts r
element_stops {end} {scope} {n} {t} {r = r} is k y = subst (λ z. PrimaryStops end scope n z r) (sym is) (by y)
  where
    by : {rest : List Token} → NamedStops end scope n rest r → PrimaryStops end scope n (t ∷ rest) r
    by (p.names y) = st.element_class k y
    by (p.content m y) = st.element_content k m y

pub attribute_stops : {end : End} {scope : List Bound} {n : ℕ} {t : Token} {ts rest : List Token} {r : Refusal} → ts ≡ t ∷ rest → IsWord (codes "attribute") t → LabelledStops end scope n rest r
    → PrimaryStops end scope n ts r
attribute_stops {end} {scope} {n} {t} {r = r} is k y = subst (λ z. PrimaryStops end scope n z r) (sym is) (by y)
  where
    by : {rest : List Token} → LabelledStops end scope n rest r → PrimaryStops end scope n (t ∷ rest) r
    by (p.label y) = st.attribute_class k y
    by (p.text m y) = st.attribute_text k m y

pub mixed_stops : {end : End} {scope : List Bound} {n : ℕ} {t : Token} {ts rest : List Token} {r : Refusal} → ts ≡ t ∷ rest → IsWord (codes "mixed") t → EnclosedStops end scope 0x7B 0x7D n rest r
    → PrimaryStops end scope n ts r
mixed_stops {end} {scope} {n} {r = r} is k y = subst (λ z. PrimaryStops end scope n z r) (sym is) (st.mixed_content k y)

pub parentheses_stop : {end : End} {scope : List Bound} {n : ℕ} {t : Token} {ts rest : List Token} {r : Refusal} → ts ≡ t ∷ rest → IsMark 0x28 t → EnclosedStops end scope 0x28 0x29 n ts r
    → PrimaryStops end scope n ts r
parentheses_stop {end} {scope} {n} {r = r} is k y = subst (λ z. PrimaryStops end scope n z r) (sym is) (st.parentheses k (subst (λ z. EnclosedStops end scope 0x28 0x29 n z r) is y))

pub ended_stops : {end : End} {scope : List Bound} {n : ℕ} {ts : List Token} {r : Refusal} → ts ≡ [] → Unexpected end ts r → PrimaryStops end scope n ts r
ended_stops {end} {scope} {n} {r = r} is y = subst (λ z. PrimaryStops end scope n z r) (sym is) (st.no_pattern (no_token (subst (λ z. Unexpected end z r) is y)))

-- whether a pattern goes on
pub on_by_connector : {c : Connector} {ts rest : List Token} → GoesOn c ts rest → GoesOnAsPattern ts
on_by_connector {c} (t, e, k) = inl (c, ap connector_at e ∙ k)

pub on_by_suffix : {x : Suffix} {ts rest : List Token} → EndsWith x ts rest → GoesOnAsPattern ts
on_by_suffix {x} (t, e, k) = inr (x, ap suffix_at e ∙ k)

pub not_on : (ts : List Token) → connector_at ts ≡ None → suffix_at ts ≡ None → GoesOnAsPattern ts → ⊥
not_on ts h k (inl (c, e)) = some_none e h
not_on ts h k (inr (x, e)) = some_none e k
