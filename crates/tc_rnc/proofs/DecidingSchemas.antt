-- Definitions, declarations and schemas are read, or their reading stops.
use Rattle.std.proofs.Common.{◌≡◌, ◌⊎◌, inl, inr, ℕ, zero, suc, ◌+◌, ◌<◌, ◌≤◌, Bool, true, false, List, [], ◌∷◌, ◌++◌, refl, ap, ◌∙◌, sym, length, arith, Option, None, Some, codes}
use Rattle.std.proofs.lemmas.Bool.{false≢true}
use Rattle.tc_base.specs.declared.reasons.Why.TheVariants.{Include, NestedGrammar, InheritedNamespace, Escape, TripleQuote, Concatenation}
use Rattle.tc_model.specs.Names.{xmlns_uri}
use Rattle.tc_model.specs.RawTrees.{Bound}
use Rattle.tc_model.specs.XmlTextScopes.{uri_of}
use Rattle.tc_model.specs.CompactSyntaxTrees.{Joins, plain, by_choice, by_interleave, Definition}
use Rattle.tc_model.specs.CompactSyntaxTokens.{Word, a_name, escaped, prefixed, all_of, literal, long_literal, mark, Token}
use Rattle.tc_model.specs.CompactSyntaxNames.{IsWord, IsMark, LacksMark, identifier, identifier_or_keyword, MayBind, bound_to, DeclarationAt}
use Rattle.tc_model.specs.CompactSyntaxPatterns.{Connector, connector_at, Suffix, suffix_at}
use Rattle.tc_model.specs.CompactSyntax as s
use Rattle.tc_model.specs.CompactSyntax.{OperatorAt, equals, bar_equals, ampersand_equals, one_definition, DefinitionAt, of_start, of_name, DefinitionsAt, SchemaAt}
use Rattle.tc_model.specs.CompactSyntaxUnread.{Refusal, unsupported, too_deep, End, EscapeAt, NoEscape, Unexpected, escape_within, three_quotes, is_literal, BeginsNoDefinition, NoDefinition, NoNamespaceName}
use Rattle.tc_model.specs.CompactSyntaxUnread as u
use Rattle.tc_model.specs.CompactSyntaxStops as st
use Rattle.tc_model.specs.CompactSyntaxStops.{BeginsDefinition, DefinitionsStop, DefinitionStops, BlockStops, UriStops, PrefixStops, LacksWord, DeclarationStops, BeginsDefinitions, BlockAt, block, GoesOnAsPattern, SchemaStops}
use Rattle.tc_model.proofs.CompactSyntaxClassesUnique.{some_none}
use Rattle.tc_rnc.specs.Schemas.{LiteralAt, UriAt, PrefixUriAt}
use Rattle.tc_rnc.proofs.Deciding.{Decided, both, decided_by, number_is, bytes_are, mark_is, word_is, unexpected, escape_at, by_length}
use Rattle.tc_rnc.proofs.DecidingPatterns.{PatternHere, reads_pattern, stops_pattern, pattern_here}
use Rattle.tc_rnc.proofs.DeclarationLaws as l

-- an operator and what follows it, or none
data OperatorHere (ts : List Token) : Type 0 where
  an_operator : (j : Joins) (rest : List Token) → OperatorAt ts j rest → length rest < length ts → OperatorHere ts
  no_operator : ((j : Joins) (rest : List Token) → OperatorAt ts j rest → ⊥) → OperatorHere ts

operator_behind : (t : Token) (ts : List Token) → (IsMark 0x3D t → ⊥) → OperatorHere (t ∷ ts)
operator_behind t [] h = no_operator (λ j rest a. none a)
  where
    none : {j : Joins} {rest : List Token} → OperatorAt (t ∷ []) j rest → ⊥
    none (equals a) = h a
operator_behind t (v ∷ after) h = by (both (mark_is 0x7C t.word) signs) (both (mark_is 0x26 t.word) signs)
  where
    signs : Decided ((v.word ≡ mark 0x3D) × (v.place ≡ t.place + 1))
    signs = both (mark_is 0x3D v.word) (number_is v.place (t.place + 1))

    by : Decided ((t.word ≡ mark 0x7C) × ((v.word ≡ mark 0x3D) × (v.place ≡ t.place + 1))) → Decided ((t.word ≡ mark 0x26) × ((v.word ≡ mark 0x3D) × (v.place ≡ t.place + 1))) → OperatorHere (t ∷ (v ∷ after))
    by (inl (a, (b, c))) k = an_operator by_choice after (bar_equals a b c) (omega arith)
    by (inr g) (inl (a, (b, c))) = an_operator by_interleave after (ampersand_equals a b c) (omega arith)
    by (inr g) (inr k) = no_operator (λ j rest a. none a)
      where
        none : {j : Joins} {rest : List Token} → OperatorAt (t ∷ (v ∷ after)) j rest → ⊥
        none (equals a) = h a
        none (bar_equals a b c) = g (a, (b, c))
        none (ampersand_equals a b c) = k (a, (b, c))

operator_here : (ts : List Token) → OperatorHere ts
operator_here [] = no_operator (λ j rest a. none a)
  where
    none : {j : Joins} {rest : List Token} → OperatorAt [] j rest → ⊥
    none a = elim a [ ]
operator_here (t ∷ ts) = by (mark_is 0x3D t.word)
  where
    by : Decided (IsMark 0x3D t) → OperatorHere (t ∷ ts)
    by (inl e) = an_operator plain ts (equals e) (omega arith)
    by (inr h) = operator_behind t ts h

module _ (end : End) (scope : List Bound) where
  data DefinitionHere (d : ℕ) (ts : List Token) : Type 0 where
    reads_definition : (ds : List Definition) (after : List Token) → DefinitionAt false scope d ts ds after → length after < length ts → DefinitionHere d ts
    stops_definition : (r : Refusal) → DefinitionStops end scope d ts r → DefinitionHere d ts

  pub data DefinitionsHere (d : ℕ) (ts : List Token) : Type 0 where
    reads_definitions : (ds : List Definition) (after : List Token) → DefinitionsAt false scope d ts ds after → length after ≤ length ts → DefinitionsHere d ts
    stops_definitions : (r : Refusal) → DefinitionsStop end scope d ts r → DefinitionsHere d ts

  -- definitions within braces
  pub data BlockHere : ℕ → List Token → Type 0 where
    reads_block : {d : ℕ} {t v : Token} {inside after : List Token} (ds : List Definition) → IsMark 0x7B t → DefinitionsAt false scope d inside ds (v ∷ after) → IsMark 0x7D v
        → length (v ∷ after) ≤ length inside → BlockHere (suc d) (t ∷ inside)
    stops_block : {d : ℕ} {ts : List Token} (r : Refusal) → BlockStops end scope d ts r → BlockHere d ts

  block_of : (ts : List Token) → ((us : List Token) → length us < length ts → (d : ℕ) → DefinitionsHere d us) → (d : ℕ) → BlockHere d ts
  block_of [] definitions d = let (r, x) = unexpected end [] in stops_block r (st.no_brace tt x)
  block_of (t ∷ ts) definitions d = by d (mark_is 0x7B t.word)
    where
      closing : {d : ℕ} {ds : List Definition} {v : Token} {after : List Token} → IsMark 0x7B t → DefinitionsAt false scope d ts ds (v ∷ after) → length (v ∷ after) ≤ length ts → Decided (IsMark 0x7D v)
          → BlockHere (suc d) (t ∷ ts)
      closing {ds = ds} e a h (inl f) = reads_block ds e a f h
      closing {v = v} {after = after} e a h (inr k) = let (r, x) = unexpected end (v ∷ after) in stops_block r (st.unclosed e a k x)

      inner : {d : ℕ} → IsMark 0x7B t → DefinitionsHere d ts → BlockHere (suc d) (t ∷ ts)
      inner e (stops_definitions r y) = stops_block r (st.inside e y)
      inner e (reads_definitions ds [] a h) = let (r, x) = unexpected end [] in stops_block r (st.unclosed e a tt x)
      inner e (reads_definitions ds (v ∷ after) a h) = closing e a h (mark_is 0x7D v.word)

      by : (d : ℕ) → Decided (IsMark 0x7B t) → BlockHere d (t ∷ ts)
      by d (inr k) = let (r, x) = unexpected end (t ∷ ts) in stops_block r (st.no_brace k x)
      by zero (inl e) = stops_block (too_deep t.place) (st.deep e)
      by (suc d) (inl e) = inner e (definitions ts (omega arith) d)

  -- behind the name of a definition
  start_body : {d : ℕ} {t : Token} {ts rest : List Token} {j : Joins} → IsWord (codes "start") t → OperatorAt ts j rest → length rest < length ts → PatternHere end scope d rest → DefinitionHere d (t ∷ ts)
  start_body e a h (stops_pattern r y) = stops_definition r (st.pattern (inl e) a y)
  start_body {t = t} {j = j} e a h (reads_pattern q after b g) = reads_definition (one_definition [] j q t.place) after (of_start e a b) (omega (arith, h, g))

  start_at : {d : ℕ} {t : Token} {ts : List Token} → IsWord (codes "start") t → OperatorHere ts → DefinitionHere d (t ∷ ts)
  start_at {ts = ts} e (no_operator h) = let (r, x) = unexpected end ts in stops_definition r (st.no_operator (inl e) h x)
  start_at {d} e (an_operator j rest a h) = start_body e a h (pattern_here end scope rest d)

  named_body : {d : ℕ} {t : Token} {ts rest : List Token} {j : Joins} {m : List ℕ} → identifier t.word ≡ Some m → OperatorAt ts j rest → length rest < length ts → PatternHere end scope d rest → DefinitionHere d (t ∷ ts)
  named_body {m = m} e a h (stops_pattern r y) = stops_definition r (st.pattern (inr (m, e)) a y)
  named_body {t = t} {j = j} {m = m} e a h (reads_pattern q after b g) = reads_definition (one_definition m j q t.place) after (of_name e a b) (omega (arith, h, g))

  named_at : {d : ℕ} {t : Token} {ts : List Token} {m : List ℕ} → identifier t.word ≡ Some m → OperatorHere ts → DefinitionHere d (t ∷ ts)
  named_at {ts = ts} {m = m} e (no_operator h) = let (r, x) = unexpected end ts in stops_definition r (st.no_operator (inr (m, e)) h x)
  named_at {d} e (an_operator j rest a h) = named_body e a h (pattern_here end scope rest d)

  div_at : {d : ℕ} {t : Token} {ts : List Token} → IsWord (codes "div") t → BlockHere d ts → DefinitionHere d (t ∷ ts)
  div_at e (stops_block r y) = stops_definition r (st.div e y)
  div_at e (reads_block {after = after} ds k a g h) = reads_definition ds after (s.div e k a g) (omega (arith, h))

  definition_at : (t : Token) (ts : List Token) → (IsMark 0x7D t → ⊥) → ((us : List Token) → length us < length (t ∷ ts) → (d : ℕ) → DefinitionsHere d us) → (d : ℕ) → DefinitionHere d (t ∷ ts)
  definition_at t ts brace definitions d = by (word_is (codes "start") t.word) (word_is (codes "div") t.word) (word_is (codes "include") t.word) (identifier t.word) refl
    where
      by : Decided (IsWord (codes "start") t) → Decided (IsWord (codes "div") t) → Decided (IsWord (codes "include") t) → (o : Option (List ℕ)) → identifier t.word ≡ o → DefinitionHere d (t ∷ ts)
      by (inl e) k i o f = start_at e (operator_here ts)
      by (inr h) (inl e) i o f = div_at e (block_of ts (λ us g. definitions us (omega (arith, g))) d)
      by (inr h) (inr k) (inl e) o f = stops_definition (unsupported Include t.place) (st.no_definition (u.include e))
      by (inr h) (inr k) (inr i) (Some m) f = named_at f (operator_here ts)
      by (inr h) (inr k) (inr i) None f =
          let (r, x) = unexpected end (t ∷ ts) in
          let none : BeginsNoDefinition t = record { no_start = h; no_div = k; no_include = i; no_name = f; no_brace = brace } in
          stops_definition r (st.no_definition (u.none none x))

  definitions_here : (ts : List Token) (d : ℕ) → DefinitionsHere d ts
  definitions_here = by_length (λ ts. (d : ℕ) → DefinitionsHere d ts) step
    where
      behind : {d : ℕ} {ts rest : List Token} {ds : List Definition} → DefinitionAt false scope d ts ds rest → length rest < length ts → DefinitionsHere d rest → DefinitionsHere d ts
      behind {ds = ds} a h (reads_definitions es after b g) = reads_definitions (ds ++ es) after (s.more a b) (omega (arith, h, g))
      behind a h (stops_definitions r y) = stops_definitions r (st.past_definition a y)

      with : {d : ℕ} {ts : List Token} → DefinitionHere d ts → ((us : List Token) → length us < length ts → DefinitionsHere d us) → DefinitionsHere d ts
      with (stops_definition r y) rest = stops_definitions r (st.definition y)
      with (reads_definition ds after a h) rest = behind a h (rest after h)

      step : (ts : List Token) → ((us : List Token) → length us < length ts → (d : ℕ) → DefinitionsHere d us) → (d : ℕ) → DefinitionsHere d ts
      step [] ih d = reads_definitions [] [] s.at_end (omega arith)
      step (t ∷ ts) ih d = by (mark_is 0x7D t.word)
        where
          by : Decided (IsMark 0x7D t) → DefinitionsHere d (t ∷ ts)
          by (inl e) = reads_definitions [] (t ∷ ts) (s.at_brace e) (omega arith)
          by (inr h) = with (definition_at t ts h ih d) (λ us g. ih us g d)

  pub block_here : (ts : List Token) (d : ℕ) → BlockHere d ts
  block_here ts d = block_of ts (λ us h e. definitions_here us e) d

-- Namespace names.

module _ (end : End) where
  data NameHere (i : Bool) (ts : List Token) : Type 0 where
    reads_name : (uri : List ℕ) (after : List Token) → LiteralAt ts uri after → ((r : Refusal) → NoNamespaceName end i ts r → ⊥) → NameHere i ts
    stops_name : (r : Refusal) → NoNamespaceName end i ts r → NameHere i ts

  -- a literal in single quotes, without an escape
  plain_name : {i : Bool} (t : Token) (ts : List Token) (uri : List ℕ) → t.word ≡ literal uri → NoEscape (t ∷ ts) → NameHere i (t ∷ ts)
  plain_name t [] uri e g = reads_name uri [] (l.a_literal t (t ∷ []) [] uri refl e g) (l.name_read refl e g tt)
  plain_name {i} t (v ∷ ts) uri e g = by (mark_is 0x7E v.word)
    where
      by : Decided (IsMark 0x7E v) → NameHere i (t ∷ (v ∷ ts))
      by (inl f) = stops_name (unsupported Concatenation v.place) (u.concatenation e g f)
      by (inr k) = reads_name uri (v ∷ ts) (l.a_literal t (t ∷ (v ∷ ts)) (v ∷ ts) uri refl e g) (l.name_read refl e g k)

  literal_name : {i : Bool} (t : Token) (ts : List Token) → is_literal t.word ≡ true → ((q : ℕ) × EscapeAt (t ∷ ts) q) ⊎ NoEscape (t ∷ ts) → (w : Word) → t.word ≡ w → NameHere i (t ∷ ts)
  literal_name t ts h (inl (q, a)) w e = stops_name (unsupported Escape q) (u.a_literal h (escape_within a))
  literal_name t ts h (inr g) (literal v) e = plain_name t ts v e g
  literal_name t ts h (inr g) (long_literal v) e = stops_name (unsupported TripleQuote t.place) (u.a_literal h (three_quotes e g))
  literal_name t ts h (inr g) (a_name m) e = absurd (false≢true (sym (ap is_literal e) ∙ h))
  literal_name t ts h (inr g) (escaped m) e = absurd (false≢true (sym (ap is_literal e) ∙ h))
  literal_name t ts h (inr g) (prefixed q m) e = absurd (false≢true (sym (ap is_literal e) ∙ h))
  literal_name t ts h (inr g) (all_of q) e = absurd (false≢true (sym (ap is_literal e) ∙ h))
  literal_name t ts h (inr g) (mark c) e = absurd (false≢true (sym (ap is_literal e) ∙ h))

  name_here : (i : Bool) (ts : List Token) → NameHere i ts
  name_here i [] = let (r, x) = unexpected end [] in stops_name r (u.no_token x)
  name_here i (t ∷ ts) = by (is_literal t.word) refl (inherits i)
    where
      inherits : (i : Bool) → Decided ((i ≡ true) × IsWord (codes "inherit") t)
      inherits true = decided_by (λ e. (refl, e)) (λ z. z.1) (word_is (codes "inherit") t.word)
      inherits false = inr (λ z. false≢true z.0)

      by : (x : Bool) → is_literal t.word ≡ x → Decided ((i ≡ true) × IsWord (codes "inherit") t) → NameHere i (t ∷ ts)
      by true h k = literal_name t ts h (escape_at (t ∷ ts)) t.word refl
      by false h (inl (a, b)) = stops_name (unsupported InheritedNamespace t.place) (u.inherit a b)
      by false h (inr k) = let (r, x) = unexpected end (t ∷ ts) in stops_name r (u.none h (λ a b. k (a, b)) x)

  -- an equals sign and a name
  data UriHere (i : Bool) (ts : List Token) : Type 0 where
    reads_uri : (uri : List ℕ) (after : List Token) → UriAt ts uri after → ((r : Refusal) → UriStops end i ts r → ⊥) → UriHere i ts
    stops_uri : (r : Refusal) → UriStops end i ts r → UriHere i ts

  uri_here : (i : Bool) (ts : List Token) → UriHere i ts
  uri_here i [] = let (r, x) = unexpected end [] in stops_uri r (st.no_equals tt x)
  uri_here i (t ∷ ts) = by (mark_is 0x3D t.word)
    where
      named : IsMark 0x3D t → NameHere i ts → UriHere i (t ∷ ts)
      named e (stops_name r y) = stops_uri r (st.no_namespace_name e y)
      named e (reads_name uri after a h) = reads_uri uri after (l.a_uri (t ∷ ts) ts after uri (t, refl, e) a) (l.uri_read (t, refl, e) h)

      by : Decided (IsMark 0x3D t) → UriHere i (t ∷ ts)
      by (inl e) = named e (name_here i ts)
      by (inr k) = let (r, x) = unexpected end (t ∷ ts) in stops_uri r (st.no_equals k x)

  -- the same behind a prefix
  data PrefixHere (i : Bool) (ts : List Token) : Type 0 where
    reads_prefix : (prefix uri : List ℕ) (after : List Token) → PrefixUriAt ts prefix uri after → ((r : Refusal) → PrefixStops end i ts r → ⊥) → PrefixHere i ts
    stops_prefix : (r : Refusal) → PrefixStops end i ts r → PrefixHere i ts

  prefix_here : (i : Bool) (ts : List Token) → PrefixHere i ts
  prefix_here i [] = let (r, x) = unexpected end [] in stops_prefix r (st.no_token x)
  prefix_here i (t ∷ ts) = by (identifier_or_keyword t.word) refl
    where
      named : (prefix : List ℕ) → identifier_or_keyword t.word ≡ Some prefix → UriHere i ts → PrefixHere i (t ∷ ts)
      named prefix e (stops_uri r y) = stops_prefix r (st.uri e y)
      named prefix e (reads_uri uri after a h) = reads_prefix prefix uri after (l.a_prefix_uri t (t ∷ ts) ts after prefix uri refl e a) (l.prefix_read refl e h)

      by : (o : Option (List ℕ)) → identifier_or_keyword t.word ≡ o → PrefixHere i (t ∷ ts)
      by (Some prefix) e = named prefix e (uri_here i ts)
      by None e = let (r, x) = unexpected end (t ∷ ts) in stops_prefix r (st.no_prefix e x)

-- Declarations.

may_bind : (scope : List Bound) (prefix uri : List ℕ) → Decided (MayBind scope prefix uri)
may_bind scope prefix uri = decided_by (λ z. record { once = z.0; lawful = z.1 }) (λ m. (m.once, m.lawful)) (both (unbound (uri_of scope prefix) refl) (unlike (bytes_are uri xmlns_uri)))
  where
    unbound : (o : Option (List ℕ)) → uri_of scope prefix ≡ o → Decided (uri_of scope prefix ≡ None)
    unbound None e = inl e
    unbound (Some v) e = inr (λ f. some_none e f)

    unlike : Decided (uri ≡ xmlns_uri) → Decided (uri ≡ xmlns_uri → ⊥)
    unlike (inl e) = inr (λ h. h e)
    unlike (inr h) = inl h

module _ (end : End) (scope : List Bound) where
  data DeclarationHere (ts : List Token) : Type 0 where
    declares : (within : List Bound) (rest : List Token) → DeclarationAt scope ts within rest → ((r : Refusal) → DeclarationStops end scope ts r → ⊥) → DeclarationHere ts
    stops_declaration : (r : Refusal) → DeclarationStops end scope ts r → DeclarationHere ts

  namespace_at : {t : Token} {ts : List Token} → IsWord (codes "namespace") t → PrefixHere end true ts → DeclarationHere (t ∷ ts)
  namespace_at e (stops_prefix r y) = stops_declaration r (st.namespace_prefix e y)
  namespace_at {t} {ts} e (reads_prefix prefix uri after a h) = by (may_bind scope prefix uri)
    where
      by : Decided (MayBind scope prefix uri) → DeclarationHere (t ∷ ts)
      by (inl m) = declares (bound_to prefix uri ∷ scope) after (l.declares_namespace scope (t ∷ ts) ts after prefix uri (t, refl, e) a m) (l.namespace_read (t, refl, e) a h m)
      by (inr k) = let (r, x) = unexpected end (t ∷ ts) in stops_declaration r (l.namespace_taken (t, refl, e) a h k x)

  datatypes_at : {t : Token} {ts : List Token} → IsWord (codes "datatypes") t → PrefixHere end false ts → DeclarationHere (t ∷ ts)
  datatypes_at e (stops_prefix r y) = stops_declaration r (st.datatypes_prefix e y)
  datatypes_at {t} {ts} e (reads_prefix prefix uri after a h) =
      declares scope after (l.declares_datatypes scope (t ∷ ts) ts after prefix uri (t, refl, e) a) (l.datatypes_read (t, refl, e) h)

  default_uri_at : {s t v : Token} {ts : List Token} → IsWord (codes "default") s → IsWord (codes "namespace") t → IsMark 0x3D v → UriHere end true (v ∷ ts) → DeclarationHere (s ∷ (t ∷ (v ∷ ts)))
  default_uri_at e f k (stops_uri r y) = stops_declaration r (st.default_uri e f k y)
  default_uri_at {s} {t} {v} {ts} e f k (reads_uri uri after a h) = by (may_bind scope [] uri)
    where
      by : Decided (MayBind scope [] uri) → DeclarationHere (s ∷ (t ∷ (v ∷ ts)))
      by (inl m) =
          declares (bound_to [] uri ∷ scope) after (l.declares_default scope (s ∷ (t ∷ (v ∷ ts))) (t ∷ (v ∷ ts)) (v ∷ ts) after uri (s, refl, e) (t, refl, f) a m)
          (l.default_read (s, refl, e) (t, refl, f) a h m)
      by (inr g) = let (r, x) = unexpected end (s ∷ (t ∷ (v ∷ ts))) in stops_declaration r (l.default_taken (s, refl, e) (t, refl, f) a h g x)

  both_at : {s t : Token} {ts : List Token} → IsWord (codes "default") s → IsWord (codes "namespace") t → LacksMark 0x3D ts → PrefixHere end true ts → DeclarationHere (s ∷ (t ∷ ts))
  both_at e f k (stops_prefix r y) = stops_declaration r (st.both_prefix e f k y)
  both_at {s} {t} {ts} e f k (reads_prefix prefix uri after a h) = by (may_bind scope [] uri) (may_bind scope prefix uri)
    where
      taken : (MayBind scope [] uri → MayBind scope prefix uri → ⊥) → DeclarationHere (s ∷ (t ∷ ts))
      taken g = let (r, x) = unexpected end (s ∷ (t ∷ ts)) in stops_declaration r (l.both_taken (s, refl, e) (t, refl, f) a h g x)

      by : Decided (MayBind scope [] uri) → Decided (MayBind scope prefix uri) → DeclarationHere (s ∷ (t ∷ ts))
      by (inl m) (inl o) =
          declares (bound_to [] uri ∷ bound_to prefix uri ∷ scope) after (l.declares_both scope (s ∷ (t ∷ ts)) (t ∷ ts) ts after prefix uri (s, refl, e) (t, refl, f) a m o)
          (l.both_read (s, refl, e) (t, refl, f) k a h m o)
      by (inl m) (inr g) = taken (λ x y. g y)
      by (inr g) o = taken (λ x y. g x)

  default_behind : {s t : Token} (ts : List Token) → IsWord (codes "default") s → IsWord (codes "namespace") t → DeclarationHere (s ∷ (t ∷ ts))
  default_behind [] e f = both_at e f tt (prefix_here end true [])
  default_behind {s} {t} (v ∷ ts) e f = by (mark_is 0x3D v.word)
    where
      by : Decided (IsMark 0x3D v) → DeclarationHere (s ∷ (t ∷ (v ∷ ts)))
      by (inl k) = default_uri_at e f k (uri_here end true (v ∷ ts))
      by (inr k) = both_at e f k (prefix_here end true (v ∷ ts))

  default_at : {s : Token} (ts : List Token) → IsWord (codes "default") s → DeclarationHere (s ∷ ts)
  default_at [] e = let (r, x) = unexpected end [] in stops_declaration r (st.default_word e tt x)
  default_at {s} (t ∷ ts) e = by (word_is (codes "namespace") t.word)
    where
      by : Decided (IsWord (codes "namespace") t) → DeclarationHere (s ∷ (t ∷ ts))
      by (inl f) = default_behind ts e f
      by (inr k) = let (r, x) = unexpected end (t ∷ ts) in stops_declaration r (st.default_word e k x)

-- Schemas.

goes_on : (ts : List Token) → Decided (GoesOnAsPattern ts)
goes_on ts = by (connector_at ts) refl (suffix_at ts) refl
  where
    by : (c : Option Connector) → connector_at ts ≡ c → (x : Option Suffix) → suffix_at ts ≡ x → Decided (GoesOnAsPattern ts)
    by (Some c) e x f = inl (inl (c, e))
    by None e (Some x) f = inl (inr (x, f))
    by None e None f = inr none
      where
        none : GoesOnAsPattern ts → ⊥
        none (inl (c, g)) = some_none g e
        none (inr (x, g)) = some_none g f

module _ (end : End) where
  pub data SchemaHere (scope : List Bound) (d : ℕ) (ts : List Token) : Type 0 where
    reads_schema : (ds : List Definition) → SchemaAt false scope d ts ds → SchemaHere scope d ts
    stops_schema : (r : Refusal) → SchemaStops end scope d ts r → SchemaHere scope d ts

  definitions_only : {scope : List Bound} {d : ℕ} {ts : List Token} → BeginsDefinitions ts → DefinitionsHere end scope d ts → SchemaHere scope d ts
  definitions_only b (stops_definitions r y) = stops_schema r (st.in_definitions b y)
  definitions_only b (reads_definitions ds [] a h) = reads_schema ds (s.definitions a)
  definitions_only b (reads_definitions ds (t ∷ rest) a h) = let (r, x) = unexpected end (t ∷ rest) in stops_schema r (st.past_definitions b a x)

  pattern_only : {scope : List Bound} {d : ℕ} {t : Token} {ts : List Token} → st.BeginsOnePattern t ts → PatternHere end scope d (t ∷ ts) → SchemaHere scope d (t ∷ ts)
  pattern_only b (stops_pattern r y) = stops_schema r (st.in_pattern b y)
  pattern_only b (reads_pattern q [] a h) = reads_schema (one_definition [] plain q 0) (s.one_pattern a)
  pattern_only b (reads_pattern q (v ∷ rest) a h) = let (r, x) = unexpected end (v ∷ rest) in stops_schema r (st.past_pattern b a x)

  grammar_at : {scope : List Bound} {d : ℕ} {t : Token} {ts : List Token} → IsWord (codes "grammar") t → BlockHere end scope d ts → SchemaHere scope d (t ∷ ts)
  grammar_at e (stops_block r y) = stops_schema r (st.in_grammar e y)
  grammar_at e (reads_block {after = []} ds k a g h) = reads_schema ds (s.grammar e k a g)
  grammar_at {scope} {t = t} e (reads_block {d} {t = b} {v = z} {inside = inside} {after = w ∷ rest} ds k a g h) = by (goes_on (w ∷ rest))
    where
      by : Decided (GoesOnAsPattern (w ∷ rest)) → SchemaHere scope (suc d) (t ∷ (b ∷ inside))
      by (inl o) = stops_schema (unsupported NestedGrammar t.place) (st.inner_grammar {t = t} e (block {t = b} {u = z} k a g) o)
      by (inr o) = let (r, x) = unexpected end (w ∷ rest) in stops_schema r (st.past_grammar {t = t} e (block {t = b} {u = z} k a g) o x)

  declaration_of : {scope : List Bound} {d : ℕ} {ts : List Token} → DeclarationHere end scope ts → ((within : List Bound) (us : List Token) → length us < length ts → SchemaHere within d us) → SchemaHere scope d ts
  declaration_of (stops_declaration r y) rest = stops_schema r (st.in_declaration y)
  declaration_of {scope} {d} {ts} (declares within after a k) rest = by (rest within after (l.declared_shorter a))
    where
      by : SchemaHere within d after → SchemaHere scope d ts
      by (reads_schema ds m) = reads_schema ds (s.declaration a m)
      by (stops_schema r y) = stops_schema r (st.past_declaration a k y)

  pub schema_here : (ts : List Token) (scope : List Bound) (d : ℕ) → SchemaHere scope d ts
  schema_here = by_length (λ ts. (scope : List Bound) (d : ℕ) → SchemaHere scope d ts) step
    where
      step : (ts : List Token) → ((us : List Token) → length us < length ts → (scope : List Bound) (d : ℕ) → SchemaHere scope d us) → (scope : List Bound) (d : ℕ) → SchemaHere scope d ts
      step [] ih scope d = definitions_only tt (definitions_here end scope [] d)
      step (t ∷ ts) ih scope d = declared (word_is (codes "namespace") t.word) (word_is (codes "default") t.word) (word_is (codes "datatypes") t.word)
        where
          rest : (within : List Bound) (us : List Token) → length us < length (t ∷ ts) → SchemaHere within d us
          rest within us h = ih us h within d

          definitions : BeginsDefinitions (t ∷ ts) → SchemaHere scope d (t ∷ ts)
          definitions b = definitions_only b (definitions_here end scope (t ∷ ts) d)

          one : (IsWord (codes "namespace") t → ⊥) → (IsWord (codes "default") t → ⊥) → (IsWord (codes "datatypes") t → ⊥) → (IsWord (codes "grammar") t → ⊥) → (IsWord (codes "start") t → ⊥) → (IsWord (codes "div") t → ⊥)
              → (IsWord (codes "include") t → ⊥) → (o : Option (List ℕ)) → identifier t.word ≡ o → OperatorHere ts → SchemaHere scope d (t ∷ ts)
          one a b c g h k i (Some m) e (an_operator j after p q) = definitions (inr (inr (inr (m, (j, (after, (e, p)))))))
          one a b c g h k i (Some m) e (no_operator p) =
              pattern_only (record { no_namespace = a; no_default = b; no_datatypes = c; no_grammar = g; no_start = h; no_div = k; no_include = i; no_definition = λ n j after f q. p j after q }) (pattern_here end scope (t ∷ ts) d)
          one a b c g h k i None e p =
              pattern_only (record { no_namespace = a; no_default = b; no_datatypes = c; no_grammar = g; no_start = h; no_div = k; no_include = i; no_definition = λ n j after f q. some_none f e }) (pattern_here end scope (t ∷ ts) d)

          whole : (IsWord (codes "namespace") t → ⊥) → (IsWord (codes "default") t → ⊥) → (IsWord (codes "datatypes") t → ⊥) → Decided (IsWord (codes "grammar") t) → Decided (IsWord (codes "start") t) → Decided (IsWord (codes "div") t)
              → Decided (IsWord (codes "include") t) → SchemaHere scope d (t ∷ ts)
          whole a b c (inl e) h k i = grammar_at e (block_here end scope ts d)
          whole a b c (inr g) (inl e) k i = definitions (inl e)
          whole a b c (inr g) (inr h) (inl e) i = definitions (inr (inl e))
          whole a b c (inr g) (inr h) (inr k) (inl e) = definitions (inr (inr (inl e)))
          whole a b c (inr g) (inr h) (inr k) (inr i) = one a b c g h k i (identifier t.word) refl (operator_here ts)

          declared : Decided (IsWord (codes "namespace") t) → Decided (IsWord (codes "default") t) → Decided (IsWord (codes "datatypes") t) → SchemaHere scope d (t ∷ ts)
          declared (inl e) b c = declaration_of (namespace_at end scope e (prefix_here end true ts)) rest
          declared (inr a) (inl e) c = declaration_of (default_at end scope ts e) rest
          declared (inr a) (inr b) (inl e) = declaration_of (datatypes_at end scope e (prefix_here end false ts)) rest
          declared (inr a) (inr b) (inr c) = whole a b c (word_is (codes "grammar") t.word) (word_is (codes "start") t.word) (word_is (codes "div") t.word) (word_is (codes "include") t.word)
