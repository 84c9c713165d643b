-- The words `element` of a text stand one after the other in its syntax tree.
use Rattle.std.proofs.Common.{◌≡◌, ℕ, ◌+◌, ◌<◌, ◌≤◌, ◌-◌, Bool, List, [], ◌∷◌, ◌++◌, refl, ap, not, true, false, cond, append_assoc, ◌∙◌, sym, subst, drop, arith, length, length-append, length-drop}
use Rattle.std.specs.Prelude.{encode_utf8, encode_utf8_all}
use Rattle.std.specs.List.{prefix_len}
use Rattle.std.proofs.lemmas.Str.{length-encode, len_utf8_bounds}
use Rattle.tc_model.specs.XmlTextBytes.{LiteralAt, length_before, begins_with}
use Rattle.tc_model.specs.XmlTextNames.{NcNameAt}
use Rattle.tc_model.specs.XmlText.{after_mark}
use Rattle.tc_model.specs.RawTrees.{Bound}
use Rattle.tc_model.specs.CompactSyntaxTrees.{SyntaxClass, SyntaxClasses, SyntaxPattern, SyntaxPatterns, no_more, Joins, Definition, Syntax}
use Rattle.tc_model.specs.CompactSyntaxTrees as tree
use Rattle.tc_model.specs.CompactSyntaxTokens.{Word, Token, is_line_end, after_line, WordAt, plain_name, prefixed_name, namespace_name, escaped_name, quoted, quoted_long, three, LongLiteralAt, backslash, TokensAt, at_end, white, comment, token}
use Rattle.tc_model.specs.CompactSyntaxTokens as w
use Rattle.tc_model.specs.CompactSyntaxNames.{DeclarationAt, namespace, default_namespace, both, datatypes, ClassAt, alone, several, ClassesAt, last, more, SimpleAt, name, whole_namespace, any, parentheses, ExceptAt, nothing, except}
use Rattle.tc_model.specs.CompactSyntaxPatterns as p
use Rattle.tc_model.specs.CompactSyntaxPatterns.{Connector, comma, bar, ampersand, joined_by, Suffix, question_mark, asterisk, plus_sign, suffixed, BalancedAt, closed, nested, other, PatternAt, ItemsAt, and_more, ItemAt, bare, with_suffix, PrimaryAt, an_element, an_attribute, a_mixed, an_empty, a_text, a_not_allowed, reference, a_datum}
use Rattle.tc_model.specs.CompactSyntax as c
use Rattle.tc_model.specs.CompactSyntax.{OperatorAt, equals, bar_equals, ampersand_equals, DefinitionAt, of_start, of_name, div, DefinitionsAt, at_brace, SchemaAt, declaration, one_pattern, definitions, grammar, Spells}
use Rattle.tc_model.specs.CompactSyntaxLawful.{places_in, places_in_all, places_of, AscendFrom}

-- places that ascend from one place on, and are below another
abbrev Within : ℕ → ℕ → List ℕ → Type 0
Within low high [] = low ≤ high
Within low high (n ∷ ns) = (low ≤ n) × Within (n + 1) high ns

within_from : (low least high : ℕ) (ns : List ℕ) → low ≤ least → Within least high ns → Within low high ns
within_from low least high [] a h = omega (arith, a, h)
within_from low least high (n ∷ ns) a (b, h) = (omega (arith, a, b), h)

within_join : (low middle high : ℕ) (ns ms : List ℕ) → Within low middle ns → Within middle high ms → Within low high (ns ++ ms)
within_join low middle high [] ms h k = within_from low middle high ms h k
within_join low middle high (n ∷ ns) ms (a, h) k = (a, within_join (n + 1) middle high ns ms h k)

within_ascends : (low high : ℕ) (ns : List ℕ) → Within low high ns → AscendFrom low ns
within_ascends low high [] h = tt
within_ascends low high (n ∷ ns) (a, h) = (a, within_ascends (n + 1) high ns h)

-- tokens whose places ascend from one place on
abbrev InOrder : ℕ → List Token → Type 0
InOrder low [] = Unit {0}
InOrder low (t ∷ ts) = (low ≤ t.place) × InOrder (t.place + 1) ts

in_order_from : (low least : ℕ) (ts : List Token) → low ≤ least → InOrder least ts → InOrder low ts
in_order_from low least [] a h = tt
in_order_from low least (t ∷ ts) a (b, h) = (omega (arith, a, b), h)

within_to : (low middle high : ℕ) (ns : List ℕ) → Within low middle ns → middle ≤ high → Within low high ns
within_to low middle high [] h a = omega (arith, h, a)
within_to low middle high (n ∷ ns) (b, h) a = (b, within_to (n + 1) middle high ns h a)

-- what is read passes these places, and leaves these tokens
record Passes (low : ℕ) (places : List ℕ) (rest : List Token) : Type 0 where
  high : ℕ
  within : Within low high places
  left : InOrder high rest

here : (low : ℕ) (ts : List Token) → InOrder low ts → Passes low [] ts
here low ts o = record { high = low; within = omega arith; left = o }

pass : (low : ℕ) (t : Token) (ts : List Token) → InOrder low (t ∷ ts) → Passes low [] ts
pass low t ts (a, o) = record { high = t.place + 1; within = omega (arith, a); left = o }

pass_word : (low : ℕ) (t : Token) (ts : List Token) → InOrder low (t ∷ ts) → Passes low (t.place ∷ []) ts
pass_word low t ts (a, o) = record { high = t.place + 1; within = (a, omega arith); left = o }

and_then : {low : ℕ} {ns ms : List ℕ} {r q : List Token} → Passes low ns r → ((m : ℕ) → InOrder m r → Passes m ms q) → Passes low (ns ++ ms) q
and_then {low} {ns} {ms} a f = let b = f a.high a.left in record { high = b.high; within = within_join low a.high b.high ns ms a.within b.within; left = b.left }

and_mark : {low : ℕ} {ns : List ℕ} {t : Token} {r : List Token} → Passes low ns (t ∷ r) → Passes low ns r
and_mark {low} {ns} {t} a = record { high = t.place + 1; within = within_to low a.high (t.place + 1) ns a.within (omega (arith, a.left.0)); left = a.left.1 }

name_shorter : {bs n r : List ℕ} → NcNameAt bs n r → length r < length bs
name_shorter {n = n} {r = r} a =
    let (c, cs, e, first, others) = a.lawful in
    let all : length n ≡ length (encode_utf8_all (c ∷ cs)) = sym (ap length e) in
    omega (arith, ap length a.parts, length-append n r, all, length-append (encode_utf8 c) (encode_utf8_all cs), length-encode c, len_utf8_bounds c)

literal_shorter : {bs v r : List ℕ} → LiteralAt bs v r → length r < length bs
literal_shorter {r = r} a =
    omega (arith, ap length a.opens, ap length a.closes.back, length-drop (length_before (a.quote ∷ []) a.rest) a.rest)

long_literal_shorter : {bs v r : List ℕ} → LongLiteralAt bs v r → length r < length bs
long_literal_shorter {r = r} a =
    let from = drop (length_before (three a.quote) a.rest) a.rest in
    omega (arith, ap length a.opens, ap length a.back, length-drop 3 from, length-drop (length_before (three a.quote) a.rest) a.rest)

pub word_shorter : {bs r : List ℕ} {v : Word} → WordAt bs v r → length r < length bs
word_shorter (plain_name a e) = name_shorter a
word_shorter (prefixed_name a b) = omega (arith, name_shorter a, name_shorter b)
word_shorter (namespace_name a) = omega (arith, name_shorter a)
word_shorter (escaped_name a) = omega (arith, ap length a.opens, name_shorter a.names)
word_shorter (quoted a e n) = literal_shorter a
word_shorter (quoted_long a) = long_literal_shorter a
word_shorter (backslash k) = omega arith
word_shorter (w.other {c = c} {after = r} e k) = omega (arith, ap length e, length-append (encode_utf8 c) r, length-encode c, len_utf8_bounds c)

tokens_in_order : {total : ℕ} {bs : List ℕ} {ts : List Token} → TokensAt total bs ts → length bs ≤ total → InOrder (total - length bs) ts
tokens_in_order at_end h = tt
tokens_in_order {total} {ts = ts} (white {b = b} {rest = rest} k m) h =
    in_order_from (total - length (b ∷ rest)) (total - length rest) ts (omega (arith, h)) (tokens_in_order m (omega (arith, h)))
tokens_in_order {total} {ts = ts} (comment {rest = rest} m) h =
    let shorter = length-drop (prefix_len (λ b. not (is_line_end b)) rest) rest in
    in_order_from (total - length (0x23 ∷ rest)) (total - length (after_line rest)) ts (omega (arith, h, shorter)) (tokens_in_order m (omega (arith, h, shorter)))
tokens_in_order {total} (token {bs = bs} {rest = rest} {tokens = ts} a m) h =
    let shorter = word_shorter a in
    (omega arith, in_order_from (total - length bs + 1) (total - length rest) ts (omega (arith, h, shorter)) (tokens_in_order m (omega (arith, h, shorter))))

declaration_order : {scope within : List Bound} {ts r : List Token} → DeclarationAt scope ts within r → (low : ℕ) → InOrder low ts → Passes low [] r
declaration_order (namespace {t = t} {u = u} {v = v} {w = x} {after = r} a b c d e) low o = and_mark (and_mark (and_mark (pass low t (u ∷ v ∷ x ∷ r) o)))
declaration_order (default_namespace {s = s} {t = t} {u = u} {v = v} {after = r} a b c d e) low o = and_mark (and_mark (and_mark (pass low s (t ∷ u ∷ v ∷ r) o)))
declaration_order (both {s = s} {t = t} {u = u} {v = v} {w = x} {after = r} a b c d e f g) low o = and_mark (and_mark (and_mark (and_mark (pass low s (t ∷ u ∷ v ∷ x ∷ r) o))))
declaration_order (datatypes {t = t} {u = u} {v = v} {w = x} {after = r} a b c d) low o = and_mark (and_mark (and_mark (pass low t (u ∷ v ∷ x ∷ r) o)))

mutual
  class_order : {scope : List Bound} {d : ℕ} {ts r : List Token} {c : SyntaxClass} → ClassAt scope d ts c r → (low : ℕ) → InOrder low ts → Passes low [] r
  class_order (alone a h) low o = simple_order a low o
  class_order (several a e m) low o = and_then (and_mark (simple_order a low o)) (λ n k. classes_order m n k)

  classes_order : {scope : List Bound} {d : ℕ} {ts r : List Token} {c : SyntaxClasses} → ClassesAt scope d ts c r → (low : ℕ) → InOrder low ts → Passes low [] r
  classes_order (last a h) low o = simple_order a low o
  classes_order (more a e m) low o = and_then (and_mark (simple_order a low o)) (λ n k. classes_order m n k)

  simple_order : {scope : List Bound} {d : ℕ} {ts r : List Token} {c : SyntaxClass} → SimpleAt scope d ts c r → (low : ℕ) → InOrder low ts → Passes low [] r
  simple_order (name {t = t} {after = r} e) low o = pass low t r o
  simple_order (whole_namespace {t = t} {tokens = ts} a e m) low o = and_then (pass low t ts o) (λ n k. except_order m n k)
  simple_order (any {t = t} {tokens = ts} a m) low o = and_then (pass low t ts o) (λ n k. except_order m n k)
  simple_order (parentheses {t = t} {tokens = ts} a m b) low o = and_mark (and_then (pass low t ts o) (λ n k. class_order m n k))

  except_order : {scope : List Bound} {d : ℕ} {ts r : List Token} {c : SyntaxClasses} → ExceptAt scope d ts c r → (low : ℕ) → InOrder low ts → Passes low [] r
  except_order (nothing {after = r} h) low o = here low r o
  except_order (except {t = t} {tokens = ts} a m) low o = and_then (pass low t ts o) (λ n k. simple_order m n k)

balanced_order : {d : ℕ} {ts r : List Token} → BalancedAt d ts r → (low : ℕ) → InOrder low ts → Passes low [] r
balanced_order (closed {t = t} {after = r} e) low o = pass low t r o
balanced_order (nested {t = t} {tokens = ts} e m n) low o = and_then (and_then (pass low t ts o) (λ x k. balanced_order m x k)) (λ x k. balanced_order n x k)
balanced_order (other {t = t} {tokens = ts} h k m) low o = and_then (pass low t ts o) (λ x l. balanced_order m x l)

joined_places : (c : Connector) (q : SyntaxPattern) (qs : SyntaxPatterns) → places_in (joined_by c (tree.more q qs)) ≡ places_in q ++ places_in_all qs
joined_places comma q qs = refl
joined_places bar q qs = refl
joined_places ampersand q qs = refl

suffixed_places : (s : Suffix) (q : SyntaxPattern) → places_in (suffixed s q) ≡ places_in q
suffixed_places question_mark q = refl
suffixed_places asterisk q = refl
suffixed_places plus_sign q = refl

mutual
  pattern_order : {o : Bool} {scope : List Bound} {d : ℕ} {ts r : List Token} {q : SyntaxPattern} → PatternAt o scope d ts q r → (low : ℕ) → InOrder low ts → Passes low (places_in q) r
  pattern_order (p.alone a h) low o = item_order a low o
  pattern_order {r = r} (p.several {p = q} {ps = qs} {c = c} a e m) low o =
      subst (λ z. Passes low z r) (sym (joined_places c q qs)) (and_then (and_mark (item_order a low o)) (λ n k. items_order m n k))

  items_order : {o : Bool} {scope : List Bound} {c : Connector} {d : ℕ} {ts r : List Token} {qs : SyntaxPatterns} → ItemsAt o scope c d ts qs r → (low : ℕ) → InOrder low ts → Passes low (places_in_all qs) r
  items_order {r = r} (p.last a h) low o = and_then (item_order a low o) (λ n k. here n r k)
  items_order (and_more a e m) low o = and_then (and_mark (item_order a low o)) (λ n k. items_order m n k)

  item_order : {o : Bool} {scope : List Bound} {d : ℕ} {ts r : List Token} {q : SyntaxPattern} → ItemAt o scope d ts q r → (low : ℕ) → InOrder low ts → Passes low (places_in q) r
  item_order (bare a h) low o = primary_order a low o
  item_order {r = r} (with_suffix {p = q} {s = s} a e) low o = subst (λ z. Passes low z r) (sym (suffixed_places s q)) (and_mark (primary_order a low o))

  primary_order : {o : Bool} {scope : List Bound} {d : ℕ} {ts r : List Token} {q : SyntaxPattern} → PrimaryAt o scope d ts q r → (low : ℕ) → InOrder low ts → Passes low (places_in q) r
  primary_order (an_element {t = t} {tokens = ts} a m b n c) low o =
      and_mark (and_then (and_mark (and_then (pass_word low t ts o) (λ x k. class_order m x k))) (λ x k. pattern_order n x k))
  primary_order (an_attribute {t = t} {tokens = ts} a m b n) low o =
      and_then (and_mark (and_then (pass low t ts o) (λ x k. class_order m x k))) (λ x k. balanced_order n x k)
  primary_order (a_mixed {t = t} {u = u} {inside = ts} a b m c) low o = and_mark (and_then (and_mark (pass low t (u ∷ ts) o)) (λ x k. pattern_order m x k))
  primary_order (an_empty {t = t} {after = r} a) low o = pass low t r o
  primary_order (a_text {t = t} {after = r} a) low o = pass low t r o
  primary_order (a_not_allowed {t = t} {after = r} a) low o = pass low t r o
  primary_order (reference {t = t} {after = r} a) low o = pass low t r o
  primary_order (a_datum {t = t} {after = r} h a) low o = pass low t r o
  primary_order (p.parentheses {t = t} {inside = ts} a m b) low o = and_mark (and_then (pass low t ts o) (λ x k. pattern_order m x k))

operator_order : {ts r : List Token} {j : Joins} → OperatorAt ts j r → (low : ℕ) → InOrder low ts → Passes low [] r
operator_order (equals {t = t} {after = r} e) low o = pass low t r o
operator_order (bar_equals {t = t} {u = u} {after = r} e f g) low o = and_mark (pass low t (u ∷ r) o)
operator_order (ampersand_equals {t = t} {u = u} {after = r} e f g) low o = and_mark (pass low t (u ∷ r) o)

places_append : (ds es : List Definition) → places_of (ds ++ es) ≡ places_of ds ++ places_of es
places_append [] es = refl
places_append (d ∷ ds) es = ap (λ z. places_in d.body ++ z) (places_append ds es) ∙ sym (append_assoc (places_in d.body) (places_of ds) (places_of es))

mutual
  definition_order : {o : Bool} {scope : List Bound} {d : ℕ} {ts r : List Token} {ds : List Definition} → DefinitionAt o scope d ts ds r → (low : ℕ) → InOrder low ts → Passes low (places_of ds) r
  definition_order {r = r} (of_start {t = t} {tokens = ts} a j m) low o =
      and_then (and_then (and_then (pass low t ts o) (λ x k. operator_order j x k)) (λ x k. pattern_order m x k)) (λ x k. here x r k)
  definition_order {r = r} (of_name {t = t} {tokens = ts} a j m) low o =
      and_then (and_then (and_then (pass low t ts o) (λ x k. operator_order j x k)) (λ x k. pattern_order m x k)) (λ x k. here x r k)
  definition_order (div {t = t} {u = u} {inside = ts} a b m c) low o = and_mark (and_then (and_mark (pass low t (u ∷ ts) o)) (λ x k. definitions_order m x k))

  definitions_order : {o : Bool} {scope : List Bound} {d : ℕ} {ts r : List Token} {ds : List Definition} → DefinitionsAt o scope d ts ds r → (low : ℕ) → InOrder low ts → Passes low (places_of ds) r
  definitions_order c.at_end low o = here low [] o
  definitions_order {r = r} (at_brace e) low o = here low r o
  definitions_order {r = r} (c.more {ds = ds} {es = es} a m) low o =
      subst (λ z. Passes low z r) (sym (places_append ds es)) (and_then (definition_order a low o) (λ n k. definitions_order m n k))

schema_order : {o : Bool} {scope : List Bound} {d : ℕ} {ts : List Token} {ds : List Definition} → SchemaAt o scope d ts ds → (low : ℕ) → InOrder low ts → Passes low (places_of ds) []
schema_order (declaration a m) low o = and_then (declaration_order a low o) (λ n k. schema_order m n k)
schema_order (one_pattern a) low o = and_then (pattern_order a low o) (λ n k. here n [] k)
schema_order (definitions a) low o = definitions_order a low o
schema_order (grammar {t = t} {u = u} {inside = ts} a b m c) low o = and_mark (and_then (and_mark (pass low t (u ∷ ts) o)) (λ n k. definitions_order m n k))

pub mark_shorter : (bytes : List ℕ) → length (after_mark bytes) ≤ length bytes
mark_shorter bytes = by (begins_with (0xEF ∷ 0xBB ∷ 0xBF ∷ []) bytes)
  where
    by : (x : Bool) → length (cond x (drop 3 bytes) bytes) ≤ length bytes
    by true = omega (arith, length-drop 3 bytes)
    by false = omega arith

pub spells_ordered : {o : Bool} {d : ℕ} {bytes : List ℕ} {s : Syntax} → Spells o d bytes s → AscendFrom 0 (places_of s.definitions)
spells_ordered {bytes = bytes} {s = s} a =
    let words = in_order_from 0 (length bytes - length (after_mark bytes)) a.tokens (omega arith) (tokens_in_order a.words (mark_shorter bytes)) in
    let all = schema_order a.schema 0 words in
    within_ascends 0 all.high (places_of s.definitions) all.within
