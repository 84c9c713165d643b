-- Why name classes are read, or not, where their parts are.
use Rattle.std.proofs.Common.{◌≡◌, ◌≢◌, ℕ, zero, suc, ◌-◌, ◌<◌, ◌≤◌, List, [], ◌∷◌, ◌++◌, refl, ap, ◌∙◌, sym, subst, length, arith, Some}
use Rattle.tc_model.specs.Names.{ExpandedName}
use Rattle.tc_model.specs.RawTrees.{Bound}
use Rattle.tc_model.specs.CompactSyntaxTrees.{SyntaxClass, of_name, one_of, SyntaxClasses, no_class, class}
use Rattle.tc_model.specs.CompactSyntaxTokens.{Token}
use Rattle.tc_model.specs.CompactSyntaxNames.{IsMark, name_in, LacksMark, ClassAt, several, ClassesAt, last, more, SimpleAt, name, parentheses, ExceptAt, except}
use Rattle.tc_model.specs.CompactSyntaxUnread.{Refusal, too_deep, End, Unexpected}
use Rattle.tc_model.specs.CompactSyntaxStops as st
use Rattle.tc_model.specs.CompactSyntaxStops.{ClassStops, SimpleStops, BeginsNoClass}
use Rattle.tc_model.proofs.CompactSyntaxBehind.{behind_shorter, simple_behind}
use Rattle.tc_model.proofs.CompactSyntaxClassesUnique.{lacks_no}
use Rattle.tc_rnc.specs.Readings.{BeginsWith, ClosedClassAt, closed_class}
use Rattle.tc_rnc.specs.Stops as parts
use Rattle.tc_rnc.specs.Stops.{ClosedClassStops}
use Rattle.tc_rnc.specs.Views as seen
use Rattle.tc_rnc.specs.declared.syntax.SClass.{SClass}

pub begins_shorter : {c : ℕ} {ts rest : List Token} → BeginsWith c ts rest → length rest < length ts
begins_shorter (t, e, k) = omega (arith, ap length e)

-- a mark that stands somewhere doesn't lack
pub lacks_begins : {c : ℕ} {ts us : List Token} {t : Token} → LacksMark c ts → ts ≡ t ∷ us → IsMark c t → ⊥
lacks_begins h e k = lacks_no h e k

-- the first class with those that were gathered behind it, before others
abbrev pub then_classes : List SClass → SyntaxClasses → SyntaxClasses
then_classes [] cs = cs
then_classes (x ∷ xs) cs = class (seen.class x) (then_classes xs cs)

then_pushed : (xs : List SClass) (x : SClass) (cs : SyntaxClasses) → then_classes (xs ++ x ∷ []) cs ≡ then_classes xs (class (seen.class x) cs)
then_pushed [] x cs = refl
then_pushed (y ∷ ys) x cs = ap (class (seen.class y)) (then_pushed ys x cs)

classes_then : (xs : List SClass) → seen.classes xs ≡ then_classes xs no_class
classes_then [] = refl
classes_then (y ∷ ys) = ap (class (seen.class y)) (classes_then ys)

-- Classes with bars between, of which the first and the last token before `rest` is a bar: what was gathered, the very first class included,
-- goes before those of `rest`, and where their reading stops that of the whole does.
pub record ClassesSoFar (end : End) (scope : List Bound) (deepest : ℕ) (tokens rest : List Token) (first : SClass) (all : List SClass) : Type 0 where
  pub others : List SClass
  pub gathered : all ≡ first ∷ others
  pub forth : (cs : SyntaxClasses) (after : List Token) → ClassesAt scope deepest rest cs after → ClassesAt scope deepest tokens (then_classes others cs) after
  pub stops : (r : Refusal) → ClassStops end scope deepest rest r → ClassStops end scope deepest tokens r
  pub shorter : length rest ≤ length tokens

pub no_classes_yet : (end : End) (scope : List Bound) (n : ℕ) (ts : List Token) (first : SClass) (all : List SClass) → all ≡ first ∷ [] → ClassesSoFar end scope n ts ts first all
no_classes_yet end scope n ts first all e = record { others = []; gathered = e; forth = λ cs after m. m; stops = λ r y. y; shorter = omega arith }

one_more : {scope : List Bound} {n : ℕ} {rest after behind end : List Token} {c : SyntaxClass} {cs : SyntaxClasses} → SimpleAt scope n rest c after → BeginsWith 0x7C after behind
    → ClassesAt scope n behind cs end → ClassesAt scope n rest (class c cs) end
one_more {scope} {n} {rest} {c = c} s (t, is, k) m = more (subst (λ z. SimpleAt scope n rest c z) is s) k m

pub past_bar : {end : End} {scope : List Bound} {n : ℕ} {ts rest behind : List Token} {c : SyntaxClass} {r : Refusal} → SimpleAt scope n ts c rest → BeginsWith 0x7C rest behind
    → ClassStops end scope n behind r → ClassStops end scope n ts r
past_bar {scope = scope} {n = n} {ts = ts} {c = c} s (t, is, k) y = st.past_bar (subst (λ z. SimpleAt scope n ts c z) is s) k y

pub more_classes : (end : End) (scope : List Bound) (n : ℕ) (ts rest after behind : List Token) (first x : SClass) (all full : List SClass)
    → ClassesSoFar end scope n ts rest first all → SimpleAt scope n rest (seen.class x) after → BeginsWith 0x7C after behind → full ≡ all ++ x ∷ [] → ClassesSoFar end scope n ts behind first full
more_classes end scope n ts rest after behind first x all full h s b e =
    record {
      others = h.others ++ x ∷ [];
      gathered = e ∙ ap (λ z. z ++ x ∷ []) h.gathered;
      forth = λ cs z m. subst (λ w. ClassesAt scope n ts w z) (sym (then_pushed h.others x cs)) (h.forth (class (seen.class x) cs) z (one_more s b m));
      stops = λ r y. h.stops r (past_bar s b y);
      shorter = omega (arith, h.shorter, behind_shorter (simple_behind s), begins_shorter b);
    }

pub classes_done : (end : End) (scope : List Bound) (n : ℕ) (ts rest after : List Token) (first x : SClass) (all full : List SClass)
    → ClassesSoFar end scope n ts rest first all → SimpleAt scope n rest (seen.class x) after → LacksMark 0x7C after → full ≡ all ++ x ∷ []
    → (ks : SyntaxClasses) × (seen.classes full ≡ class (seen.class first) ks) × ClassesAt scope n ts ks after
classes_done end scope n ts rest after first x all full h s b e = (
  then_classes h.others (class (seen.class x) no_class),
  ap seen.classes (e ∙ ap (λ z. z ++ x ∷ []) h.gathered) ∙ ap (class (seen.class first)) (classes_then (h.others ++ x ∷ []) ∙ then_pushed h.others x no_class),
  h.forth (class (seen.class x) no_class) after (last s b),
)

pub several_classes : (scope : List Bound) (n : ℕ) (ts rest behind after : List Token) (c : SyntaxClass) (ks : SyntaxClasses) → SimpleAt scope n ts c rest → BeginsWith 0x7C rest behind
    → ClassesAt scope n behind ks after → ClassAt scope n ts (one_of (class c ks)) after
several_classes scope n ts rest behind after c ks s (t, is, k) m = several (subst (λ z. SimpleAt scope n ts c z) is s) k m

-- a class in parentheses
pub simple_closed : (scope : List Bound) (n : ℕ) (ts inside after : List Token) (c : SyntaxClass) → n ≢ 0 → BeginsWith 0x28 ts inside → ClosedClassAt scope (n - 1) inside c after
    → SimpleAt scope n ts c after
simple_closed scope zero ts inside after c p b m = absurd (p refl)
simple_closed scope (suc n) ts inside after c p (t, is, k) m =
    let less : suc n - 1 ≡ n = omega arith in
    subst (λ z. SimpleAt scope (suc n) z c after) (sym is) (by k (subst (λ z. ClosedClassAt scope z inside c after) less m))
  where
    by : {t : Token} → IsMark 0x28 t → ClosedClassAt scope n inside c after → SimpleAt scope (suc n) (t ∷ inside) c after
    by k (closed_class m e) = parentheses k m e

-- a name
pub simple_name : (scope : List Bound) (n : ℕ) (t : Token) (ts rest : List Token) (m : ExpandedName) → ts ≡ t ∷ rest → name_in scope t.word ≡ Some m → SimpleAt scope n ts (of_name m) rest
simple_name scope n t ts rest m is e = subst (λ z. SimpleAt scope n z (of_name m) rest) (sym is) (name e)

-- a minus sign and what is excepted
pub one_except : (scope : List Bound) (n : ℕ) (ts rest after : List Token) (c : SyntaxClass) → BeginsWith 0x2D ts rest → SimpleAt scope n rest c after → ExceptAt scope n ts (class c no_class) after
one_except scope n ts rest after c (t, is, k) m = subst (λ z. ExceptAt scope n z (class c no_class) after) (sym is) (except k m)

-- a class and the parenthesis behind it
pub a_closed_class : (scope : List Bound) (n : ℕ) (ts rest after : List Token) (c : SyntaxClass) → ClassAt scope n ts c rest → BeginsWith 0x29 rest after → ClosedClassAt scope n ts c after
a_closed_class scope n ts rest after c m (t, is, k) = closed_class (subst (λ z. ClassAt scope n ts c z) is m) k

-- Where classes stop.

pub closed_stops : {end : End} {scope : List Bound} (n : ℕ) {ts inside : List Token} {r : Refusal} → n ≢ 0 → BeginsWith 0x28 ts inside → ClosedClassStops end scope (n - 1) inside r → SimpleStops end scope n ts r
closed_stops zero p b y = absurd (p refl)
closed_stops {end} {scope} (suc n) {inside = inside} {r = r} p (t, is, k) y =
    let less : suc n - 1 ≡ n = omega arith in
    subst (λ z. SimpleStops end scope (suc n) z r) (sym is) (by k (subst (λ z. ClosedClassStops end scope z inside r) less y))
  where
    by : {t : Token} → IsMark 0x28 t → ClosedClassStops end scope n inside r → SimpleStops end scope (suc n) (t ∷ inside) r
    by k (parts.within y) = st.inside k y
    by k (parts.unclosed m h y) = st.unclosed k m h y

pub deep_class : {end : End} {scope : List Bound} {n : ℕ} {t : Token} {ts rest : List Token} → ts ≡ t ∷ rest → IsMark 0x28 t → n ≡ 0 → SimpleStops end scope n ts (too_deep t.place)
deep_class {end} {scope} {n} {t} {ts} is k e =
    subst (λ z. SimpleStops end scope z ts (too_deep t.place)) (sym e) (subst (λ z. SimpleStops end scope 0 z (too_deep t.place)) (sym is) (st.deep k))

pub nothing_stops : {end : End} {scope : List Bound} {n : ℕ} {t : Token} {ts rest : List Token} {r : Refusal} → ts ≡ t ∷ rest → BeginsNoClass scope t.word → Unexpected end ts r → SimpleStops end scope n ts r
nothing_stops {end} {scope} {n} {r = r} is b y = subst (λ z. SimpleStops end scope n z r) (sym is) (st.no_class b (subst (λ z. Unexpected end z r) is y))

pub no_token_stops : {end : End} {scope : List Bound} {n : ℕ} {ts : List Token} {r : Refusal} → ts ≡ [] → Unexpected end ts r → SimpleStops end scope n ts r
no_token_stops {end} {scope} {n} {r = r} is y = subst (λ z. SimpleStops end scope n z r) (sym is) (st.no_token (subst (λ z. Unexpected end z r) is y))
