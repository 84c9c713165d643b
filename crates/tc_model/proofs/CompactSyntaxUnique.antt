-- A schema in compact syntax has one syntax tree.
use Rattle.std.proofs.Common.{Bool, ◌≡◌, ℕ, ◌≤◌, List, [], ◌∷◌, ◌++◌, refl, ap, ◌∙◌, sym, subst, arith, None, Some}
use Rattle.tc_model.specs.RawTrees.{Bound}
use Rattle.tc_model.specs.XmlTextScopes.{first_scope}
use Rattle.tc_model.specs.CompactSyntaxTrees.{SyntaxClass, SyntaxPattern, attribute, ref, element, mixed, SyntaxPatterns, no_more, Joins, plain, Definition, Syntax}
use Rattle.tc_model.specs.CompactSyntaxTrees as tree
use Rattle.tc_model.specs.CompactSyntaxTokens.{Word, mark, Token}
use Rattle.tc_model.specs.CompactSyntaxNames.{IsMark, identifier}
use Rattle.tc_model.specs.CompactSyntaxPatterns.{Connector, joined_by, connector_of, connector_at, Suffix, suffixed, suffix_of, suffix_at, BalancedAt, closed, nested, other, PatternAt, alone, several, ItemsAt, last, and_more, ItemAt, bare, with_suffix, PrimaryAt, an_element, an_attribute, a_mixed, an_empty, a_text, a_not_allowed, reference, parentheses, a_datum}
use Rattle.tc_model.specs.CompactSyntax.{OperatorAt, equals, bar_equals, ampersand_equals, one_definition, DefinitionAt, of_start, of_name, div, DefinitionsAt, at_end, at_brace, more, SchemaAt, declaration, one_pattern, definitions, grammar, Spells}
use Rattle.tc_model.proofs.CompactSyntaxTokensUnique.{tokens_unique}
use Rattle.tc_model.proofs.CompactSyntaxClassesUnique.{apart, same_some, some_none, same_head, same_tail, word_kind, kind_at, element_kind, attribute_kind, mixed_kind, empty_kind, text_kind, not_allowed_kind, start_kind, div_kind, grammar_kind, identifier_kind, datum_kind, declaration_kind, declaration_unique, class_unique}

unfoldable pub mark_in : Word → ℕ
mark_in (mark c) = c
mark_in _ = 0

pub no_braces : {w : Word} → w ≡ mark 0x7D → w ≡ mark 0x7B → ⊥
unfolding mark_in
no_braces e f = omega (arith, ap mark_in (sym e ∙ f))

pub balanced_unique : {d d' : ℕ} {ts r s : List Token} → BalancedAt d ts r → BalancedAt d' ts s → r ≡ s
balanced_unique (closed e) (closed f) = refl
balanced_unique (closed e) (nested f m n) = absurd (no_braces e f)
balanced_unique (closed e) (other h k m) = absurd (k e)
balanced_unique (nested f m n) (closed e) = absurd (no_braces e f)
balanced_unique {d' = d'} {s = s} (nested e m n) (nested f m' n') = balanced_unique n (subst (λ z. BalancedAt d' z s) (sym (balanced_unique m m')) n')
balanced_unique (nested e m n) (other h k m') = absurd (h e)
balanced_unique (other h k m) (closed e) = absurd (k e)
balanced_unique (other h k m') (nested e m n) = absurd (h e)
balanced_unique (other h k m) (other h' k' m') = balanced_unique m m'

pub lacks_connector : {t : Token} {c : Connector} {ts rest : List Token} → connector_at ts ≡ None → ts ≡ t ∷ rest → connector_of t.word ≡ Some c → ⊥
lacks_connector h e k = some_none k (sym (ap connector_at e) ∙ h)

pub lacks_suffix : {t : Token} {c : Suffix} {ts rest : List Token} → suffix_at ts ≡ None → ts ≡ t ∷ rest → suffix_of t.word ≡ Some c → ⊥
lacks_suffix h e k = some_none k (sym (ap suffix_at e) ∙ h)

pub same_connector : {t u : Token} {c k : Connector} {ts us : List Token} → t ∷ ts ≡ u ∷ us → connector_of t.word ≡ Some c → connector_of u.word ≡ Some k → c ≡ k
same_connector e a b = same_some (sym (ap (λ z. connector_of z.word) (same_head e)) ∙ a) b

pub same_suffix : {t u : Token} {c k : Suffix} {ts us : List Token} → t ∷ ts ≡ u ∷ us → suffix_of t.word ≡ Some c → suffix_of u.word ≡ Some k → c ≡ k
same_suffix e a b = same_some (sym (ap (λ z. suffix_of z.word) (same_head e)) ∙ a) b

-- the kind of a primary by its rule
unfoldable pub rule : {o : Bool} {scope : List Bound} {d : ℕ} {ts r : List Token} {p : SyntaxPattern} → PrimaryAt o scope d ts p r → ℕ
rule (an_element a m b n c) = 1
rule (an_attribute a m b n) = 2
rule (a_mixed a b m c) = 3
rule (an_empty a) = 4
rule (a_text a) = 5
rule (a_not_allowed a) = 6
rule (reference a) = 7
rule (parentheses a m b) = 8
rule (a_datum h a) = 9

pub primary_kind : {o : Bool} {scope : List Bound} {d : ℕ} {ts r : List Token} {p : SyntaxPattern} (a : PrimaryAt o scope d ts p r) → kind_at ts ≡ rule a
unfolding rule kind_at word_kind
primary_kind (an_element a m b n c) = element_kind a
primary_kind (an_attribute a m b n) = attribute_kind a
primary_kind (a_mixed a b m c) = mixed_kind a
primary_kind (an_empty a) = empty_kind a
primary_kind (a_text a) = text_kind a
primary_kind (a_not_allowed a) = not_allowed_kind a
primary_kind (reference {t = t} a) = identifier_kind t.word a
primary_kind (parentheses a m b) = ap word_kind a
primary_kind (a_datum {t = t} h a) = datum_kind t.word a

pub rule_bounds : {o : Bool} {scope : List Bound} {d : ℕ} {ts r : List Token} {p : SyntaxPattern} (a : PrimaryAt o scope d ts p r) → (1 ≤ rule a) × (rule a ≤ 9)
unfolding rule
rule_bounds (an_element a m b n c) = (omega arith, omega arith)
rule_bounds (an_attribute a m b n) = (omega arith, omega arith)
rule_bounds (a_mixed a b m c) = (omega arith, omega arith)
rule_bounds (an_empty a) = (omega arith, omega arith)
rule_bounds (a_text a) = (omega arith, omega arith)
rule_bounds (a_not_allowed a) = (omega arith, omega arith)
rule_bounds (reference a) = (omega arith, omega arith)
rule_bounds (parentheses a m b) = (omega arith, omega arith)
rule_bounds (a_datum h a) = (omega arith, omega arith)

same_element : {c c' : SyntaxClass} {p q : SyntaxPattern} (k : ℕ) → c ≡ c' → p ≡ q → element k c p ≡ element k c' q
same_element k a b = cc

mutual
  unfolding rule

  pub pattern_unique : {o : Bool} {scope : List Bound} {d d' : ℕ} {ts r s : List Token} {p q : SyntaxPattern} → PatternAt o scope d ts p r → PatternAt o scope d' ts q s → (p ≡ q) × (r ≡ s)
  pattern_unique (alone a h) (alone b k) = item_unique a b
  pattern_unique (alone a h) (several b e m) = absurd (lacks_connector h (item_unique a b).1 e)
  pattern_unique (several a e m) (alone b h) = absurd (lacks_connector h (sym (item_unique a b).1) e)
  pattern_unique {o} {scope} {d' = d'} {s = s} (several {ps = ps} {c = c} a e m) (several {rest = rest'} {p = q} {ps = qs} {c = k} b f n) =
      let both = item_unique a b in
      let connector = same_connector both.1 e f in
      let moved = subst (λ z. ItemsAt o scope z d' rest' qs s) (sym connector) n in
      let others = items_unique m (subst (λ z. ItemsAt o scope c d' z qs s) (sym (same_tail both.1)) moved) in
      (ap (λ z. joined_by c (tree.more z ps)) both.0 ∙ (ap (λ z. joined_by c (tree.more q z)) others.0 ∙ ap (λ z. joined_by z (tree.more q qs)) connector), others.1)

  pub items_unique : {o : Bool} {scope : List Bound} {c : Connector} {d d' : ℕ} {ts r s : List Token} {p q : SyntaxPatterns} → ItemsAt o scope c d ts p r → ItemsAt o scope c d' ts q s → (p ≡ q) × (r ≡ s)
  items_unique (last a h) (last b k) = let both = item_unique a b in (ap (λ z. tree.more z no_more) both.0, both.1)
  items_unique (last a h) (and_more b e m) = absurd (lacks_connector h (item_unique a b).1 e)
  items_unique (and_more a e m) (last b h) = absurd (lacks_connector h (sym (item_unique a b).1) e)
  items_unique {o} {scope} {c} {d' = d'} {s = s} (and_more {ps = ps} a e m) (and_more {p = q} {ps = qs} b f n) =
      let both = item_unique a b in
      let others = items_unique m (subst (λ z. ItemsAt o scope c d' z qs s) (sym (same_tail both.1)) n) in
      (ap (λ z. tree.more z ps) both.0 ∙ ap (tree.more q) others.0, others.1)

  pub item_unique : {o : Bool} {scope : List Bound} {d d' : ℕ} {ts r s : List Token} {p q : SyntaxPattern} → ItemAt o scope d ts p r → ItemAt o scope d' ts q s → (p ≡ q) × (r ≡ s)
  item_unique (bare a h) (bare b k) = primary_unique a b
  item_unique (bare a h) (with_suffix b e) = absurd (lacks_suffix h (primary_unique a b).1 e)
  item_unique (with_suffix a e) (bare b h) = absurd (lacks_suffix h (sym (primary_unique a b).1) e)
  item_unique (with_suffix {s = x} a e) (with_suffix {p = q} b f) =
      let both = primary_unique a b in
      (ap (suffixed x) both.0 ∙ ap (λ z. suffixed z q) (same_suffix both.1 e f), same_tail both.1)

  pub primary_unique : {o : Bool} {scope : List Bound} {d d' : ℕ} {ts r s : List Token} {p q : SyntaxPattern} → PrimaryAt o scope d ts p r → PrimaryAt o scope d' ts q s → (p ≡ q) × (r ≡ s)
  primary_unique {o} {scope} {s = s} (an_element {t = t} a m b n c) (an_element {deepest = d'} {v = v} {p = q} a' m' b' n' c') =
      let classes = class_unique m m' in
      let inner = pattern_unique n (subst (λ z. PatternAt o scope d' z q (v ∷ s)) (sym (same_tail classes.1)) n') in
      (same_element t.place classes.0 inner.0, same_tail inner.1)
  primary_unique {s = s} (an_attribute a m b n) (an_attribute {deepest = d'} a' m' b' n') =
      let classes = class_unique m m' in
      (refl, balanced_unique n (subst (λ z. BalancedAt d' z s) (sym (same_tail classes.1)) n'))
  primary_unique (a_mixed a b m c) (a_mixed a' b' m' c') = let inner = pattern_unique m m' in (ap mixed inner.0, same_tail inner.1)
  primary_unique (an_empty a) (an_empty b) = (refl, refl)
  primary_unique (a_text a) (a_text b) = (refl, refl)
  primary_unique (a_not_allowed a) (a_not_allowed b) = (refl, refl)
  primary_unique (reference {t = t} a) (reference b) = (ap (λ n. ref n t.place) (same_some a b), refl)
  primary_unique (parentheses a m b) (parentheses a' m' b') = let inner = pattern_unique m m' in (inner.0, same_tail inner.1)
  primary_unique (a_datum h a) (a_datum k b) = (refl, refl)
  primary_unique a b = absurd (apart (primary_kind a) (primary_kind b) refl)

-- how an operator begins
unfoldable pub operator_mark : {ts r : List Token} {j : Joins} → OperatorAt ts j r → ℕ
operator_mark (equals e) = 0x3D
operator_mark (bar_equals e f g) = 0x7C
operator_mark (ampersand_equals e f g) = 0x26

unfoldable pub mark_at : List Token → ℕ
mark_at [] = 0
mark_at (t ∷ ts) = mark_in t.word

pub operator_is : {ts r : List Token} {j : Joins} (a : OperatorAt ts j r) → mark_at ts ≡ operator_mark a
unfolding operator_mark mark_at mark_in
operator_is (equals e) = ap mark_in e
operator_is (bar_equals e f g) = ap mark_in e
operator_is (ampersand_equals e f g) = ap mark_in e

pub operator_unique : {ts r s : List Token} {j k : Joins} → OperatorAt ts j r → OperatorAt ts k s → (j ≡ k) × (r ≡ s)
unfolding operator_mark
operator_unique (equals e) (equals f) = (refl, refl)
operator_unique (bar_equals a b c) (bar_equals e f g) = (refl, refl)
operator_unique (ampersand_equals a b c) (ampersand_equals e f g) = (refl, refl)
operator_unique a b = absurd (apart (operator_is a) (operator_is b) refl)

-- the kind of a definition by its rule
unfoldable pub defines : {o : Bool} {scope : List Bound} {d : ℕ} {ts r : List Token} {ds : List Definition} → DefinitionAt o scope d ts ds r → ℕ
defines (of_start a p m) = 10
defines (of_name a p m) = 7
defines (div a b m c) = 11

pub definition_kind : {o : Bool} {scope : List Bound} {d : ℕ} {ts r : List Token} {ds : List Definition} (a : DefinitionAt o scope d ts ds r) → kind_at ts ≡ defines a
unfolding defines kind_at
definition_kind (of_start a p m) = start_kind a
definition_kind (of_name {t = t} a p m) = identifier_kind t.word a
definition_kind (div a b m c) = div_kind a

pub defines_bounds : {o : Bool} {scope : List Bound} {d : ℕ} {ts r : List Token} {ds : List Definition} (a : DefinitionAt o scope d ts ds r) → (7 ≤ defines a) × (defines a ≤ 11)
unfolding defines
defines_bounds (of_start a p m) = (omega arith, omega arith)
defines_bounds (of_name a p m) = (omega arith, omega arith)
defines_bounds (div a b m c) = (omega arith, omega arith)

pub brace_kind : {w : Word} → w ≡ mark 0x7D → word_kind w ≡ 21
unfolding word_kind
brace_kind e = ap word_kind e

pub no_definition_at_brace : {o : Bool} {scope : List Bound} {d : ℕ} {t : Token} {ts r : List Token} {ds : List Definition} → IsMark 0x7D t → DefinitionAt o scope d (t ∷ ts) ds r → ⊥
unfolding kind_at
no_definition_at_brace e a = omega (arith, brace_kind e, definition_kind a, (defines_bounds a).1)

pub no_definition_at_end : {o : Bool} {scope : List Bound} {d : ℕ} {r : List Token} {ds : List Definition} → DefinitionAt o scope d [] ds r → ⊥
unfolding kind_at
no_definition_at_end a = omega (arith, definition_kind a, (defines_bounds a).0)

one_is : {n m : List ℕ} {j k : Joins} {p q : SyntaxPattern} (place : ℕ) → n ≡ m → j ≡ k → p ≡ q → one_definition n j p place ≡ one_definition m k q place
one_is {n} {m} {j} {k} {p} {q} place a b c = ap (λ z. one_definition z j p place) a ∙ (ap (λ z. one_definition m z p place) b ∙ ap (λ z. one_definition m k z place) c)

mutual
  unfolding defines

  pub definition_unique : {o : Bool} {scope : List Bound} {d d' : ℕ} {ts r s : List Token} {ds es : List Definition} → DefinitionAt o scope d ts ds r → DefinitionAt o scope d' ts es s → (ds ≡ es) × (r ≡ s)
  definition_unique {o} {scope} {d' = d'} {s = s} (of_start {t = t} a p m) (of_start {p = q} b u n) =
      let operators = operator_unique p u in
      let both = pattern_unique m (subst (λ z. PatternAt o scope d' z q s) (sym operators.1) n) in
      (one_is t.place refl operators.0 both.0, both.1)
  definition_unique {o} {scope} {d' = d'} {s = s} (of_name {t = t} a p m) (of_name {p = q} b u n) =
      let operators = operator_unique p u in
      let both = pattern_unique m (subst (λ z. PatternAt o scope d' z q s) (sym operators.1) n) in
      (one_is t.place (same_some a b) operators.0 both.0, both.1)
  definition_unique (div a b m c) (div a' b' m' c') = let inner = definitions_unique m m' in (inner.0, same_tail inner.1)
  definition_unique a b = absurd (apart (definition_kind a) (definition_kind b) refl)

  pub definitions_unique : {o : Bool} {scope : List Bound} {d d' : ℕ} {ts r s : List Token} {ds es : List Definition} → DefinitionsAt o scope d ts ds r → DefinitionsAt o scope d' ts es s → (ds ≡ es) × (r ≡ s)
  definitions_unique at_end at_end = (refl, refl)
  definitions_unique at_end (more a m) = absurd (no_definition_at_end a)
  definitions_unique (at_brace e) (at_brace f) = (refl, refl)
  definitions_unique (at_brace e) (more a m) = absurd (no_definition_at_brace e a)
  definitions_unique (more a m) at_end = absurd (no_definition_at_end a)
  definitions_unique (more a m) (at_brace e) = absurd (no_definition_at_brace e a)
  definitions_unique {o} {scope} {d' = d'} {s = s} (more {es = xs} a m) (more {ds = us} {es = ys} b n) =
      let both = definition_unique a b in
      let rest = definitions_unique m (subst (λ z. DefinitionsAt o scope d' z ys s) (sym both.1) n) in
      (ap (λ z. z ++ xs) both.0 ∙ ap (λ z. us ++ z) rest.0, rest.1)

pub item_kind : {o : Bool} {scope : List Bound} {d : ℕ} {ts r : List Token} {p : SyntaxPattern} → ItemAt o scope d ts p r → (1 ≤ kind_at ts) × (kind_at ts ≤ 9)
item_kind (bare a h) = (omega (arith, primary_kind a, (rule_bounds a).0), omega (arith, primary_kind a, (rule_bounds a).1))
item_kind (with_suffix a h) = (omega (arith, primary_kind a, (rule_bounds a).0), omega (arith, primary_kind a, (rule_bounds a).1))

pub pattern_kind : {o : Bool} {scope : List Bound} {d : ℕ} {ts r : List Token} {p : SyntaxPattern} → PatternAt o scope d ts p r → (1 ≤ kind_at ts) × (kind_at ts ≤ 9)
pattern_kind (alone a h) = item_kind a
pattern_kind (several a e m) = item_kind a

pub items_kind : {o : Bool} {scope : List Bound} {c : Connector} {d : ℕ} {ts r : List Token} {ps : SyntaxPatterns} → ItemsAt o scope c d ts ps r → (1 ≤ kind_at ts) × (kind_at ts ≤ 9)
items_kind (last a h) = item_kind a
items_kind (and_more a e m) = item_kind a

-- a reference is one token
pub reference_rest : {o : Bool} {scope : List Bound} {d : ℕ} {t : Token} {ts r : List Token} {p : SyntaxPattern} {n : List ℕ} → identifier t.word ≡ Some n → PrimaryAt o scope d (t ∷ ts) p r → ts ≡ r
reference_rest {o} {scope} {d} {t} {ts} {n = n} e a = let one : PrimaryAt o scope d (t ∷ ts) (ref n t.place) ts = reference e in (primary_unique one a).1

pub equals_kind : {w : Word} → w ≡ mark 0x3D → word_kind w ≡ 20
unfolding word_kind
equals_kind e = ap word_kind e

-- an operator is no suffix, and no pattern goes on with one
pub no_suffix : {ts r : List Token} {j : Joins} → OperatorAt ts j r → suffix_at ts ≡ None
no_suffix (equals e) = ap suffix_of e
no_suffix (bar_equals e f g) = ap suffix_of e
no_suffix (ampersand_equals e f g) = ap suffix_of e

pub no_items : {o : Bool} {scope : List Bound} {c : Connector} {d : ℕ} {t : Token} {ts us r s : List Token} {j : Joins} {ps : SyntaxPatterns}
    → OperatorAt us j r → us ≡ t ∷ ts → connector_of t.word ≡ Some c → ItemsAt o scope c d ts ps s → ⊥
unfolding kind_at
no_items (equals e) is k m = some_none k (ap (λ z. connector_of z.word) (sym (same_head is)) ∙ ap connector_of e)
no_items {o} {scope} {c} {d} {s = s} {ps = ps} (bar_equals e f g) is k m =
    omega (arith, equals_kind f, (items_kind (subst (λ z. ItemsAt o scope c d z ps s) (sym (same_tail is)) m)).1)
no_items {o} {scope} {c} {d} {s = s} {ps = ps} (ampersand_equals e f g) is k m =
    omega (arith, equals_kind f, (items_kind (subst (λ z. ItemsAt o scope c d z ps s) (sym (same_tail is)) m)).1)

pub no_operator_at_end : {r : List Token} {j : Joins} → OperatorAt [] j r → ⊥
unfolding operator_mark mark_at
no_operator_at_end a = by a (operator_is a)
  where
    by : {ts r : List Token} {j : Joins} (a : OperatorAt ts j r) → 0 ≡ operator_mark a → ⊥
    by (equals e) h = omega (arith, h)
    by (bar_equals e f g) h = omega (arith, h)
    by (ampersand_equals e f g) h = omega (arith, h)

pub no_pattern_before_operator : {o : Bool} {scope : List Bound} {d : ℕ} {t : Token} {ts r : List Token} {p : SyntaxPattern} {n : List ℕ} {j : Joins}
    → identifier t.word ≡ Some n → OperatorAt ts j r → PatternAt o scope d (t ∷ ts) p [] → ⊥
no_pattern_before_operator {r = r} {j = j} e o (alone (bare a h) k) = no_operator_at_end (subst (λ z. OperatorAt z j r) (reference_rest e a) o)
no_pattern_before_operator e o (alone (with_suffix a h) k) = lacks_suffix (no_suffix o) (reference_rest e a) h
no_pattern_before_operator e o (several (bare a h) k m) = no_items o (reference_rest e a) k m
no_pattern_before_operator e o (several (with_suffix a h) k m) = lacks_suffix (no_suffix o) (reference_rest e a) h

pub no_pattern_is_definitions : {o : Bool} {scope : List Bound} {d d' : ℕ} {ts : List Token} {p : SyntaxPattern} {ds : List Definition} → PatternAt o scope d ts p [] → DefinitionsAt o scope d' ts ds [] → ⊥
unfolding kind_at defines
no_pattern_is_definitions a at_end = omega (arith, (pattern_kind a).0)
no_pattern_is_definitions a (more (of_start e p m) n) = omega (arith, start_kind e, (pattern_kind a).1)
no_pattern_is_definitions a (more (of_name e p m) n) = no_pattern_before_operator e p a
no_pattern_is_definitions a (more (div e f m g) n) = omega (arith, div_kind e, (pattern_kind a).1)

pub definitions_kind : {o : Bool} {scope : List Bound} {d : ℕ} {ts : List Token} {ds : List Definition} → DefinitionsAt o scope d ts ds [] → kind_at ts ≤ 11
unfolding kind_at
definitions_kind at_end = omega arith
definitions_kind (more a m) = omega (arith, definition_kind a, (defines_bounds a).1)

pub schema_unique : {o : Bool} {scope : List Bound} {d d' : ℕ} {ts : List Token} {ds es : List Definition} → SchemaAt o scope d ts ds → SchemaAt o scope d' ts es → ds ≡ es
unfolding kind_at
schema_unique {o} {d' = d'} {es = es} (declaration {rest = r} a m) (declaration {within = w} b n) =
    let both = declaration_unique a b in
    schema_unique m (subst (λ z. SchemaAt o z d' r es) (sym both.0) (subst (λ z. SchemaAt o w d' z es) (sym both.1) n))
schema_unique (declaration a m) (one_pattern b) = absurd (omega (arith, (declaration_kind a).1, (pattern_kind b).1))
schema_unique (declaration a m) (definitions b) = absurd (omega (arith, (declaration_kind a).1, definitions_kind b))
schema_unique (declaration a m) (grammar b c n e) = absurd (omega (arith, (declaration_kind a).1, grammar_kind b))
schema_unique (one_pattern b) (declaration a m) = absurd (omega (arith, (declaration_kind a).1, (pattern_kind b).1))
schema_unique (one_pattern a) (one_pattern b) = ap (λ z. one_definition [] plain z 0) (pattern_unique a b).0
schema_unique (one_pattern a) (definitions b) = absurd (no_pattern_is_definitions a b)
schema_unique (one_pattern a) (grammar b c n e) = absurd (omega (arith, (pattern_kind a).1, grammar_kind b))
schema_unique (definitions b) (declaration a m) = absurd (omega (arith, (declaration_kind a).1, definitions_kind b))
schema_unique (definitions b) (one_pattern a) = absurd (no_pattern_is_definitions a b)
schema_unique (definitions a) (definitions b) = (definitions_unique a b).0
schema_unique (definitions a) (grammar b c n e) = absurd (omega (arith, definitions_kind a, grammar_kind b))
schema_unique (grammar b c n e) (declaration a m) = absurd (omega (arith, (declaration_kind a).1, grammar_kind b))
schema_unique (grammar b c n e) (one_pattern a) = absurd (omega (arith, (pattern_kind a).1, grammar_kind b))
schema_unique (grammar b c n e) (definitions a) = absurd (omega (arith, definitions_kind a, grammar_kind b))
schema_unique (grammar a b m c) (grammar a' b' n c') = (definitions_unique m n).0

-- a text spells at most one syntax tree, however deep its braces and parentheses stand
pub spells_unique : {o : Bool} {d d' : ℕ} {bytes : List ℕ} {s t : Syntax} → Spells o d bytes s → Spells o d' bytes t → s ≡ t
spells_unique {o} {d} {d'} {bytes} {s} {t} a b =
    let tokens = tokens_unique a.words b.words in
    let definitions = schema_unique a.schema (subst (λ z. SchemaAt o first_scope d' z t.definitions) (sym tokens) b.schema) in
    let full : List Definition → ℕ → Syntax = λ ds e. record { definitions = ds; end = e } in
    ap (λ z. full z s.end) definitions ∙ ap (full t.definitions) (a.end ∙ sym b.end)
