-- Why what is within marks is read, or not, where its parts are.
use Rattle.std.proofs.Common.{◌≡◌, ◌≢◌, ℕ, zero, suc, ◌-◌, ◌<◌, false, List, [], ◌∷◌, refl, sym, subst, length, arith}
use Rattle.tc_model.specs.RawTrees.{Bound}
use Rattle.tc_model.specs.CompactSyntaxTrees.{SyntaxPattern}
use Rattle.tc_model.specs.CompactSyntaxTokens.{Token}
use Rattle.tc_model.specs.CompactSyntaxNames.{IsMark, LacksMark}
use Rattle.tc_model.specs.CompactSyntaxPatterns.{BalancedAt, closed, nested, other, PatternAt}
use Rattle.tc_model.specs.CompactSyntaxUnread.{Refusal, malformed, too_deep, End, Unexpected}
use Rattle.tc_model.specs.CompactSyntaxStops as st
use Rattle.tc_model.specs.CompactSyntaxStops.{BalancedStops, BracedTextStops, PatternStops, EnclosedStops, BlockStops}
use Rattle.tc_model.proofs.CompactSyntaxBehind.{behind_shorter, balanced_behind}
use Rattle.tc_rnc.specs.Readings.{BeginsWith, EnclosedAt, enclosed, BracedTextAt, braced_text, BalancedPartAt, one_token, in_braces}
use Rattle.tc_rnc.specs.Stops as p
use Rattle.tc_rnc.specs.Stops.{OpeningStops, BalancedPartStops}

-- A brace or a parenthesis, and whether one more may open.

pub lacks_at_end : (c : ℕ) (ts : List Token) → ts ≡ [] → LacksMark c ts
lacks_at_end c ts e = subst (LacksMark c) (sym e) tt

pub lacks_first : (c : ℕ) (t : Token) (ts rest : List Token) → ts ≡ t ∷ rest → (IsMark c t → ⊥) → LacksMark c ts
lacks_first c t ts rest e h = subst (LacksMark c) (sym e) h

pub deep_opening : {end : End} {c n : ℕ} {t : Token} {ts rest : List Token} → ts ≡ t ∷ rest → IsMark c t → n ≡ 0 → OpeningStops end c n ts (too_deep t.place)
deep_opening {end} {c} {t = t} {ts} is k e = subst (λ z. OpeningStops end c z ts (too_deep t.place)) (sym e) (subst (λ z. OpeningStops end c 0 z (too_deep t.place)) (sym is) (p.deep k))

pub opening_enclosed : {end : End} {scope : List Bound} {left right n : ℕ} {ts : List Token} {r : Refusal} → OpeningStops end left n ts r → EnclosedStops end scope left right n ts r
opening_enclosed (p.no_mark h y) = st.no_mark h y
opening_enclosed (p.deep k) = st.deep k

pub opening_text : {end : End} {n : ℕ} {ts : List Token} {r : Refusal} → OpeningStops end 0x7B n ts r → BracedTextStops end n ts r
opening_text (p.no_mark h y) = st.no_brace h y
opening_text (p.deep k) = st.deep k

pub opening_block : {end : End} {scope : List Bound} {n : ℕ} {ts : List Token} {r : Refusal} → OpeningStops end 0x7B n ts r → BlockStops end scope n ts r
opening_block (p.no_mark h y) = st.no_brace h y
opening_block (p.deep k) = st.deep k

-- A pattern within marks.

pub an_enclosed : (scope : List Bound) (left right n k : ℕ) (ts inside closing after : List Token) (p : SyntaxPattern) → n ≡ suc k → BeginsWith left ts inside → PatternAt false scope k inside p closing
    → BeginsWith right closing after → EnclosedAt false scope left right n ts p after
an_enclosed scope left right n k ts inside closing after p e (t, is, x) m (u, js, y) =
    subst (λ z. EnclosedAt false scope left right z ts p after) (sym e)
    (subst (λ z. EnclosedAt false scope left right (suc k) z p after) (sym is) (enclosed x (subst (λ z. PatternAt false scope k inside p z) js m) y))

pub enclosed_stops : {end : End} {scope : List Bound} {left right n k : ℕ} {ts inside : List Token} {r : Refusal} → n ≡ suc k → BeginsWith left ts inside → PatternStops end scope k inside r
    → EnclosedStops end scope left right n ts r
enclosed_stops {end} {scope} {left} {right} {k = k} {ts} {r = r} e (t, is, x) y =
    subst (λ z. EnclosedStops end scope left right z ts r) (sym e) (subst (λ z. EnclosedStops end scope left right (suc k) z r) (sym is) (st.inside x y))

pub unclosed_stops : {end : End} {scope : List Bound} {left right n k : ℕ} {ts inside closing : List Token} {q : SyntaxPattern} {r : Refusal} → n ≡ suc k → BeginsWith left ts inside
    → PatternAt false scope k inside q closing → LacksMark right closing → Unexpected end closing r → EnclosedStops end scope left right n ts r
unclosed_stops {end} {scope} {left} {right} {k = k} {ts} {r = r} e (t, is, x) m h y =
    subst (λ z. EnclosedStops end scope left right z ts r) (sym e) (subst (λ z. EnclosedStops end scope left right (suc k) z r) (sym is) (st.unclosed x m h y))

-- Balanced text.

pub a_braced_text : (n k : ℕ) (ts inside after : List Token) → n ≡ suc k → BeginsWith 0x7B ts inside → BalancedAt k inside after → BracedTextAt n ts after
a_braced_text n k ts inside after e (t, is, x) m = subst (λ z. BracedTextAt z ts after) (sym e) (subst (λ z. BracedTextAt (suc k) z after) (sym is) (braced_text x m))

pub text_stops : {end : End} {n k : ℕ} {ts inside : List Token} {r : Refusal} → n ≡ suc k → BeginsWith 0x7B ts inside → BalancedStops end k inside r → BracedTextStops end n ts r
text_stops {end} {k = k} {ts} {r = r} e (t, is, x) y = subst (λ z. BracedTextStops end z ts r) (sym e) (subst (λ z. BracedTextStops end (suc k) z r) (sym is) (st.inside x y))

-- parts of balanced text
pub a_part : (n : ℕ) (t : Token) (ts rest : List Token) → ts ≡ t ∷ rest → (IsMark 0x7B t → ⊥) → LacksMark 0x7D ts → BalancedPartAt n ts rest
a_part n t ts rest is h k = subst (λ z. BalancedPartAt n z rest) (sym is) (one_token h (subst (LacksMark 0x7D) is k))

pub braces_part : (n : ℕ) (t : Token) (ts rest after : List Token) → n ≢ 0 → ts ≡ t ∷ rest → IsMark 0x7B t → BalancedAt (n - 1) rest after → BalancedPartAt n ts after
braces_part zero t ts rest after p is k m = absurd (p refl)
braces_part (suc n) t ts rest after p is k m =
    let less : suc n - 1 ≡ n = omega arith in
    subst (λ z. BalancedPartAt (suc n) z after) (sym is) (in_braces k (subst (λ z. BalancedAt z rest after) less m))

pub braces_stop : {end : End} (n : ℕ) {t : Token} {ts rest : List Token} {r : Refusal} → n ≢ 0 → ts ≡ t ∷ rest → IsMark 0x7B t → BalancedStops end (n - 1) rest r → BalancedPartStops end n ts r
braces_stop zero q is k y = absurd (q refl)
braces_stop {end} (suc n) {rest = rest} {r} q is k y =
    let less : suc n - 1 ≡ n = omega arith in
    subst (λ z. BalancedPartStops end (suc n) z r) (sym is) (p.in_braces k (subst (λ z. BalancedStops end z rest r) less y))

pub deep_part : {end : End} {n : ℕ} {t : Token} {ts rest : List Token} → ts ≡ t ∷ rest → IsMark 0x7B t → n ≡ 0 → BalancedPartStops end n ts (too_deep t.place)
deep_part {end} {t = t} {ts} is k e = subst (λ z. BalancedPartStops end z ts (too_deep t.place)) (sym e) (subst (λ z. BalancedPartStops end 0 z (too_deep t.place)) (sym is) (p.deep k))

pub ended_text : {end : End} {n : ℕ} {ts : List Token} → ts ≡ [] → BalancedPartStops end n ts (malformed end.place)
ended_text {end} {n} is = subst (λ z. BalancedPartStops end n z (malformed end.place)) (sym is) p.at_end

part_then : {d : ℕ} {ts rest after : List Token} → BalancedPartAt d ts rest → BalancedAt d rest after → BalancedAt d ts after
part_then (one_token h k) n = other h k n
part_then (in_braces k m) n = nested k m n

part_first : {end : End} {d : ℕ} {ts rest : List Token} {r : Refusal} → BalancedPartAt d ts rest → BalancedStops end d rest r → BalancedStops end d ts r
part_first (one_token h k) y = st.past_token h k y
part_first (in_braces k m) y = st.past_braces k m y

part_stops : {end : End} {d : ℕ} {ts : List Token} {r : Refusal} → BalancedPartStops end d ts r → BalancedStops end d ts r
part_stops p.at_end = st.at_end
part_stops (p.deep k) = st.deep k
part_stops (p.in_braces k y) = st.inside k y

-- balanced text of what is left is that of the whole, and where it stops the whole does
pub record BalancedSoFar (end : End) (deepest : ℕ) (tokens rest : List Token) : Type 0 where
  pub forth : (after : List Token) → BalancedAt deepest rest after → BalancedAt deepest tokens after
  pub stops : (r : Refusal) → BalancedStops end deepest rest r → BalancedStops end deepest tokens r

pub no_part_yet : (end : End) (n : ℕ) (ts : List Token) → BalancedSoFar end n ts ts
no_part_yet end n ts = record { forth = λ after m. m; stops = λ r y. y }

pub more_parts : {end : End} {n : ℕ} {ts rest after : List Token} → BalancedSoFar end n ts rest → BalancedPartAt n rest after → BalancedSoFar end n ts after
more_parts h m = record { forth = λ z x. h.forth z (part_then m x); stops = λ r y. h.stops r (part_first m y) }

pub parts_done : (end : End) (n : ℕ) (ts rest after : List Token) → BalancedSoFar end n ts rest → BeginsWith 0x7D rest after → BalancedAt n ts after
parts_done end n ts rest after h (t, is, k) = h.forth after (subst (λ z. BalancedAt n z after) (sym is) (closed k))

pub no_more_parts : {end : End} {n : ℕ} {ts rest : List Token} {r : Refusal} → BalancedSoFar end n ts rest → BalancedPartStops end n rest r → BalancedStops end n ts r
no_more_parts {r = r} h y = h.stops r (part_stops y)

pub part_shorter : {d : ℕ} {ts after : List Token} → BalancedPartAt d ts after → length after < length ts
part_shorter (one_token h k) = omega arith
part_shorter (in_braces k m) = omega (arith, behind_shorter (balanced_behind m))
