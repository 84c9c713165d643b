-- What wildcards at the front of tokens, and what is excepted from them, are as name classes.
use Rattle.std.proofs.Common.{◌≡◌, ℕ, ◌<◌, ◌≤◌, List, [], ◌∷◌, ◌++◌, None, refl, ap, ◌∙◌, sym, subst, length, arith}
use Rattle.std.specs.List.{push}
use Rattle.tc_model.specs.Views.{place}
use Rattle.tc_model.specs.RawTrees.{Bound}
use Rattle.tc_model.specs.XmlTextScopes.{uri_of}
use Rattle.tc_model.specs.CompactSyntaxTrees.{SyntaxClass, of_namespace, any_name, SyntaxClasses, no_class, class}
use Rattle.tc_model.specs.CompactSyntaxTokens.{all_of, Token}
use Rattle.tc_model.specs.CompactSyntaxNames.{IsMark, name_in, LacksMark, SimpleAt, whole_namespace, any, ExceptAt, nothing}
use Rattle.tc_model.specs.CompactSyntaxUnread.{Refusal, End}
use Rattle.tc_model.specs.CompactSyntaxStops as st
use Rattle.tc_model.specs.CompactSyntaxStops.{SimpleStops, BeginsNoClass}
use Rattle.tc_model.proofs.CompactSyntaxClassesUnique.{same_all_of}
use Rattle.tc_rnc.specs.Readings.{BeginsWith}
use Rattle.tc_rnc.specs.Wildcards as w
use Rattle.tc_rnc.specs.Wildcards.{without, around, WildcardAt, NoWildcard, BeginsNoWildcard, ExceptingAt, ExceptsNothing, ExceptsAt, none, more}
use Rattle.tc_rnc.specs.declared.wildcards.Wildcard.{Wildcard}
use Rattle.tc_rnc.proofs.ClassLaws.{begins_shorter, lacks_begins, one_except}

-- where no wildcard stands
pub no_token : (scope : List Bound) {ts : List Token} → ts ≡ [] → BeginsNoWildcard scope ts
no_token scope e = subst (BeginsNoWildcard scope) (sym e) tt

pub no_wildcard : (scope : List Bound) {t : Token} {ts rest : List Token} → ts ≡ t ∷ rest → (IsMark 0x2A t → ⊥) → ((p : List ℕ) → t.word ≡ all_of p → uri_of scope p ≡ None) → BeginsNoWildcard scope ts
no_wildcard scope e k h = subst (BeginsNoWildcard scope) (sym e) (record { no_namespace = h; no_asterisk = k })

pub not_bound : (scope : List Bound) (t : Token) (prefix : List ℕ) → t.word ≡ all_of prefix → uri_of scope prefix ≡ None → (p : List ℕ) → t.word ≡ all_of p → uri_of scope p ≡ None
not_bound scope t prefix k u p a = ap (uri_of scope) (same_all_of a k) ∙ u

-- where none has a minus sign behind it
pub no_wildcard_no_except : {scope : List Bound} {ts : List Token} → BeginsNoWildcard scope ts → ExceptsNothing scope ts
no_wildcard_no_except {scope} {ts} h x behind e = by e.wildcard
  where
    by : {x : Wildcard} {rest : List Token} → WildcardAt scope ts x rest → ⊥
    by (w.namespace {prefix = prefix} is k u at) =
        let there : NoWildcard scope _ = subst (BeginsNoWildcard scope) is h in
        cc (there.no_namespace prefix k, u)
    by (w.any is k at) =
        let there : NoWildcard scope _ = subst (BeginsNoWildcard scope) is h in
        there.no_asterisk k

same_rest : {scope : List Bound} {ts rest others : List Token} {x y : Wildcard} → WildcardAt scope ts x rest → WildcardAt scope ts y others → rest ≡ others
same_rest (w.namespace e k u at) (w.namespace f l v to) = cc
same_rest (w.namespace e k u at) (w.any f l to) = cc
same_rest (w.any e k at) (w.namespace f l v to) = cc
same_rest (w.any e k at) (w.any f l to) = cc

pub no_minus_no_except : {scope : List Bound} {ts rest : List Token} {x : Wildcard} → WildcardAt scope ts x rest → LacksMark 0x2D rest → ExceptsNothing scope ts
no_minus_no_except a l y behind e =
    let (t, is, k) = e.minus in
    lacks_begins (subst (LacksMark 0x2D) (same_rest a e.wildcard) l) is k

-- a wildcard and what is excepted
simple_wildcard : {scope : List Bound} {n : ℕ} {ts rest after : List Token} {x : Wildcard} {except : SyntaxClasses} → WildcardAt scope ts x rest → ExceptAt scope n rest except after
    → SimpleAt scope n ts (without x except) after
simple_wildcard {scope} {n} {after = after} {except = except} (w.namespace {t = t} {p = p} {uri = uri} {rest = rest} is k u at) m =
    subst (λ z. SimpleAt scope n z (of_namespace (place p) uri.now except) after) (sym is)
    (subst (λ q. SimpleAt scope n (t ∷ rest) (of_namespace q uri.now except) after) at (whole_namespace k u m))
simple_wildcard {scope} {n} {after = after} {except = except} (w.any {t = t} {p = p} {rest = rest} is k at) m =
    subst (λ z. SimpleAt scope n z (any_name (place p) except) after) (sym is) (subst (λ q. SimpleAt scope n (t ∷ rest) (any_name q except) after) at (any k m))

pub plain_wildcard : {scope : List Bound} {n : ℕ} {ts rest : List Token} {x : Wildcard} → ExceptsNothing scope ts → WildcardAt scope ts x rest → SimpleAt scope n ts (without x no_class) rest
plain_wildcard {scope} {ts = ts} {rest = rest} {x = x} h a = simple_wildcard a (nothing (by rest a))
  where
    by : (rest : List Token) → WildcardAt scope ts x rest → LacksMark 0x2D rest
    by [] a = tt
    by (t ∷ behind) a = λ k. h x behind (record { rest = t ∷ behind; wildcard = a; minus = (t, refl, k) })

-- more and more wildcards with a minus sign behind each
pub one_more : {scope : List Bound} {ts rest behind : List Token} {ws : List Wildcard} {x : Wildcard} → ExceptsAt scope ts ws rest → ExceptingAt scope rest x behind
    → ExceptsAt scope ts (ws ++ x ∷ []) behind
one_more none e = more e none
one_more (more d es) e = more d (one_more es e)

wildcard_shorter : {scope : List Bound} {ts rest : List Token} {x : Wildcard} → WildcardAt scope ts x rest → length rest < length ts
wildcard_shorter (w.namespace is k u at) = omega (arith, ap length is)
wildcard_shorter (w.any is k at) = omega (arith, ap length is)

pub excepting_shorter : {scope : List Bound} {ts behind : List Token} {x : Wildcard} → ExceptingAt scope ts x behind → length behind < length ts
excepting_shorter e = omega (arith, wildcard_shorter e.wildcard, begins_shorter e.minus)

pub excepts_shorter : {scope : List Bound} {ts rest : List Token} {ws : List Wildcard} → ExceptsAt scope ts ws rest → length rest ≤ length ts
excepts_shorter none = omega arith
excepts_shorter (more e es) = omega (arith, excepting_shorter e, excepts_shorter es)

-- the class that they make of the one behind them, and where they stop
pub excepts_class : {scope : List Bound} {n : ℕ} {ts rest after : List Token} {ws : List Wildcard} {c : SyntaxClass} → ExceptsAt scope ts ws rest → SimpleAt scope n rest c after
    → SimpleAt scope n ts (around ws c) after
excepts_class none m = m
excepts_class {scope} {n} {after = after} {c = c} (more {ws = ws} {behind = behind} e es) m =
    simple_wildcard e.wildcard (one_except scope n e.rest behind after (around ws c) e.minus (excepts_class es m))

wildcard_stops : {end : End} {scope : List Bound} {n : ℕ} {ts rest behind : List Token} {x : Wildcard} {r : Refusal} → WildcardAt scope ts x rest → BeginsWith 0x2D rest behind
    → SimpleStops end scope n behind r → SimpleStops end scope n ts r
wildcard_stops {end} {scope} {n} {r = r} (w.namespace {t = t} is k u at) (m, ends, l) y =
    subst (λ z. SimpleStops end scope n z r) (sym (is ∙ ap (λ z. t ∷ z) ends)) (st.namespace_except k u l y)
wildcard_stops {end} {scope} {n} {r = r} (w.any {t = t} is k at) (m, ends, l) y =
    subst (λ z. SimpleStops end scope n z r) (sym (is ∙ ap (λ z. t ∷ z) ends)) (st.any_except k l y)

pub excepts_stop : {end : End} {scope : List Bound} {n : ℕ} {ts rest : List Token} {ws : List Wildcard} {r : Refusal} → ExceptsAt scope ts ws rest → SimpleStops end scope n rest r
    → SimpleStops end scope n ts r
excepts_stop none y = y
excepts_stop (more e es) y = wildcard_stops e.wildcard e.minus (excepts_stop es y)

-- where neither a name, nor a wildcard, nor a parenthesis stands
pub no_simple : {scope : List Bound} {t : Token} {ts rest : List Token} → ts ≡ t ∷ rest → BeginsNoWildcard scope ts → (IsMark 0x28 t → ⊥) → name_in scope t.word ≡ None → BeginsNoClass scope t.word
no_simple {scope} {t} is h k e =
    let there : NoWildcard scope t = subst (BeginsNoWildcard scope) is h in
    record { no_name = e; no_namespace = there.no_namespace; no_asterisk = there.no_asterisk; no_parenthesis = k }

-- a class within wildcards, of which the last is put around it first
pub around_last : (ws : List Wildcard) (x : Wildcard) (c : SyntaxClass) → around (push ws x) c ≡ around ws (without x (class c no_class))
around_last [] x c = refl
around_last (y ∷ ys) x c = ap (λ z. without y (class z no_class)) (around_last ys x c)
