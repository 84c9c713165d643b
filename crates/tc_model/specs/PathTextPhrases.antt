-- Paths, patterns and tests as lists of tokens (XPath 1.0, 2 and 3; XSLT 1.0, 5.2), where these prefixes are in scope.
-- A relation `PhraseAt ts value after` says that this phrase stands at the front of the tokens, what it means, and which tokens follow it.
use Rattle.std.specs.Prelude.{◌≡◌, ℕ, Bool, true, false, ◌||◌, List, [], ◌∷◌, ◌++◌, Some, codes, ℤ, pos, negsuc}
use Rattle.tc_model.specs.Names.{ExpandedName}
use Rattle.tc_model.specs.RawTrees.{Bound}
use Rattle.tc_model.specs.Sheets.{NodeTest, of_name, of_namespace, any_element, any_text, any_node, Steps, no_step, step, Path, no_alternative, alternative, Test, always, never, has, negated, all_of, any_of, Tests, no_test, test, MatchPattern, root_pattern, steps_pattern}
use Rattle.tc_model.specs.XmlTextNames.{QualifiedName}
use Rattle.tc_model.specs.XmlTextScopes.{uri_of}
use Rattle.tc_model.specs.PathTextTokens.{star, slash, slashes, bar, open_parenthesis, close_parenthesis, open_bracket, close_bracket, at, dot, colons, Token, name, all_of_prefix, mark}

-- a name without a prefix
abbrev pub word : List ℕ → Token
word w = name (record { prefix = []; local = w })

-- this token doesn't stand at the front
abbrev pub Lacks : Token → List Token → Type 0
Lacks t ts = (r : List Token) → ts ≡ t ∷ r → ⊥

-- A name is a name test where neither `(` nor `::` follows it (XPath, 3.7).
abbrev pub EndsNameTest : List Token → Type 0
EndsNameTest ts = Lacks (mark open_parenthesis) ts × Lacks (mark colons) ts

-- the name that a QName stands for as a name test: without a prefix it has no namespace (XPath, 2.3)
pub data NameMeans (scope : List Bound) : QualifiedName → ExpandedName → Type 0 where
  without_prefix : {local : List ℕ} → NameMeans scope (record { prefix = []; local = local }) (record { uri = []; local = local })
  with_prefix : {b : ℕ} {bs local uri : List ℕ} → uri_of scope (b ∷ bs) ≡ Some uri
      → NameMeans scope (record { prefix = b ∷ bs; local = local }) (record { uri = uri; local = local })

-- a node test (XPath, 2.3, [7] NodeTest; 3.7, [37] NameTest, [38] NodeType)
pub data NodeTestAt (scope : List Bound) : List Token → NodeTest → List Token → Type 0 where
  a_name : {n : QualifiedName} {m : ExpandedName} {after : List Token} → NameMeans scope n m → EndsNameTest after → NodeTestAt scope (name n ∷ after) (of_name m) after
  a_namespace : {prefix uri : List ℕ} {after : List Token} → uri_of scope prefix ≡ Some uri → NodeTestAt scope (all_of_prefix prefix ∷ after) (of_namespace uri) after
  a_star : {after : List Token} → NodeTestAt scope (mark star ∷ after) any_element after
  a_text : {after : List Token} → NodeTestAt scope (word (codes "text") ∷ mark open_parenthesis ∷ mark close_parenthesis ∷ after) any_text after
  a_node : {after : List Token} → NodeTestAt scope (word (codes "node") ∷ mark open_parenthesis ∷ mark close_parenthesis ∷ after) any_node after

-- a node test of the child axis, spelled or not (XPath, 2.1, 2.5)
pub data ChildAt (scope : List Bound) : List Token → NodeTest → List Token → Type 0 where
  abbreviated : {ts after : List Token} {t : NodeTest} → NodeTestAt scope ts t after → ChildAt scope ts t after
  spelled : {ts after : List Token} {t : NodeTest} → NodeTestAt scope ts t after → ChildAt scope (word (codes "child") ∷ mark colons ∷ ts) t after

-- what may stand as the node test of an attribute step: a name, `p:*` or `*`
pub data AttributeTestAt (scope : List Bound) : List Token → List Token → Type 0 where
  a_name : {n : QualifiedName} {m : ExpandedName} {after : List Token} → NameMeans scope n m → AttributeTestAt scope (name n ∷ after) after
  a_namespace : {prefix uri : List ℕ} {after : List Token} → uri_of scope prefix ≡ Some uri → AttributeTestAt scope (all_of_prefix prefix ∷ after) after
  a_star : {after : List Token} → AttributeTestAt scope (mark star ∷ after) after

-- a step of the attribute axis (XPath, 2.1, 2.5)
pub data AttributeAt (scope : List Bound) : List Token → List Token → Type 0 where
  abbreviated : {ts after : List Token} → AttributeTestAt scope ts after → AttributeAt scope (mark at ∷ ts) after
  spelled : {ts after : List Token} → AttributeTestAt scope ts after → AttributeAt scope (word (codes "attribute") ∷ mark colons ∷ ts) after

-- `comment()` or `processing-instruction()`, of which a tree has none
pub data OtherNodeAt : List Token → List Token → Type 0 where
  a_comment : {after : List Token} → OtherNodeAt (word (codes "comment") ∷ mark open_parenthesis ∷ mark close_parenthesis ∷ after) after
  an_instruction : {after : List Token} → OtherNodeAt (word (codes "processing-instruction") ∷ mark open_parenthesis ∷ mark close_parenthesis ∷ after) after

-- how steps are written: a node test alone, or otherwise; or with an attribute step as the last, so that they select nothing in a tree
pub data Form : Type 0 where
  lone longer dropped : Form

-- the form behind one more step
abbrev pub lengthened : Form → Form
lengthened dropped = dropped
lengthened _ = longer

-- the form of a step with these predicates
abbrev pub form_with : Tests → Form
form_with no_test = lone
form_with (test t ts) = longer

-- one test is itself, several are all to hold, and none always holds
abbrev pub conjunction : Tests → Test
conjunction no_test = always
conjunction (test t no_test) = t
conjunction (test t (test u us)) = all_of (test t (test u us))

-- one test is itself, of several one is to hold
abbrev pub disjunction : Tests → Test
disjunction no_test = never
disjunction (test t no_test) = t
disjunction (test t (test u us)) = any_of (test t (test u us))

-- an alternative before others, unless it is dropped
abbrev pub alternative_before : Form → Steps → Path → Path
alternative_before dropped ss p = p
alternative_before _ ss p = alternative ss p

abbrev pub is_dropped : Form → Bool
is_dropped dropped = true
is_dropped _ = false

module _ (scope : List Bound) where
  mutual
    -- steps, the first of which is deep or not (XPath, 2, [3] RelativeLocationPath; 2.5)
    pub data StepsAt : Bool → List Token → Steps → Form → List Token → Type 0 where
      attribute_step : {deep : Bool} {ts after : List Token} → AttributeAt scope ts after → StepsAt deep ts no_step dropped after
      last_step : {deep : Bool} {ts rest after : List Token} {t : NodeTest} {us : Tests} → ChildAt scope ts t rest → PredicatesAt rest us after
          → Lacks (mark slash) after → Lacks (mark slashes) after → StepsAt deep ts (step deep t (conjunction us) no_step) (form_with us) after
      child_step : {deep : Bool} {ts rest behind after : List Token} {t : NodeTest} {us : Tests} {ss : Steps} {form : Form} → ChildAt scope ts t rest
          → PredicatesAt rest us (mark slash ∷ behind) → StepsAt false behind ss form after → StepsAt deep ts (step deep t (conjunction us) ss) (lengthened form) after
      descendant_step : {deep : Bool} {ts rest behind after : List Token} {t : NodeTest} {us : Tests} {ss : Steps} {form : Form} → ChildAt scope ts t rest
          → PredicatesAt rest us (mark slashes ∷ behind) → StepsAt true behind ss form after → StepsAt deep ts (step deep t (conjunction us) ss) (lengthened form) after

    -- the tests of predicates, perhaps none (XPath, 2.4, [8] Predicate)
    pub data PredicatesAt : List Token → Tests → List Token → Type 0 where
      no_predicate : {ts : List Token} → Lacks (mark open_bracket) ts → PredicatesAt ts no_test ts
      predicate : {ts rest after : List Token} {us vs : Tests} → OrAt ts us (mark close_bracket ∷ rest) → PredicatesAt rest vs after
          → PredicatesAt (mark open_bracket ∷ ts) (test (disjunction us) vs) after

    -- an alternative of a select: steps, or `.//` and steps, or nodes of which a tree has none
    pub data AlternativeAt : List Token → Steps → Form → List Token → Type 0 where
      from_children : {ts after : List Token} {ss : Steps} {form : Form} → StepsAt false ts ss form after → AlternativeAt ts ss form after
      from_descendants : {ts after : List Token} {ss : Steps} {form : Form} → StepsAt true ts ss form after
          → AlternativeAt (mark dot ∷ mark slashes ∷ ts) ss form after
      other_node : {ts after : List Token} → OtherNodeAt ts after → AlternativeAt ts no_step dropped after

    -- a select, and whether an alternative of it is dropped (XPath, 3.3, [18] UnionExpr)
    pub data SelectAt : List Token → Path → Bool → List Token → Type 0 where
      last_alternative : {ts after : List Token} {ss : Steps} {form : Form} → AlternativeAt ts ss form after → Lacks (mark bar) after
          → SelectAt ts (alternative_before form ss no_alternative) (is_dropped form) after
      one_alternative : {ts rest after : List Token} {ss : Steps} {form : Form} {p : Path} {drops : Bool} → AlternativeAt ts ss form (mark bar ∷ rest)
          → SelectAt rest p drops after → SelectAt ts (alternative_before form ss p) (is_dropped form || drops) after

    -- what `and` joins (XPath, 3.1, [15] PrimaryExpr; 4.3)
    pub data PrimaryAt : List Token → Test → List Token → Type 0 where
      a_path : {ts after : List Token} {p : Path} → SelectAt ts p false after → PrimaryAt ts (has p) after
      a_negation : {ts after : List Token} {us : Tests} → OrAt ts us (mark close_parenthesis ∷ after)
          → PrimaryAt (word (codes "not") ∷ mark open_parenthesis ∷ ts) (negated (disjunction us)) after
      a_truth : {after : List Token} → PrimaryAt (word (codes "true") ∷ mark open_parenthesis ∷ mark close_parenthesis ∷ after) always after
      a_falsehood : {after : List Token} → PrimaryAt (word (codes "false") ∷ mark open_parenthesis ∷ mark close_parenthesis ∷ after) never after
      in_parentheses : {ts after : List Token} {us : Tests} → OrAt ts us (mark close_parenthesis ∷ after)
          → PrimaryAt (mark open_parenthesis ∷ ts) (disjunction us) after

    -- primaries joined by `and` (XPath, 3.4, [22] AndExpr)
    pub data AndAt : List Token → Tests → List Token → Type 0 where
      last_primary : {ts after : List Token} {t : Test} → PrimaryAt ts t after → Lacks (word (codes "and")) after → AndAt ts (test t no_test) after
      one_primary : {ts rest after : List Token} {t : Test} {us : Tests} → PrimaryAt ts t (word (codes "and") ∷ rest) → AndAt rest us after → AndAt ts (test t us) after

    -- conjunctions joined by `or` (XPath, 3.4, [21] OrExpr)
    pub data OrAt : List Token → Tests → List Token → Type 0 where
      last_conjunction : {ts after : List Token} {us : Tests} → AndAt ts us after → Lacks (word (codes "or")) after → OrAt ts (test (conjunction us) no_test) after
      one_conjunction : {ts rest after : List Token} {us vs : Tests} → AndAt ts us (word (codes "or") ∷ rest) → OrAt rest vs after
          → OrAt ts (test (conjunction us) vs) after

-- an alternative of a select that ends in an attribute step
pub data AttributesAlternativeAt (scope : List Bound) : List Token → List Token → Type 0 where
  attributes_of_children : {ts after : List Token} {ss : Steps} → StepsAt scope false ts ss dropped after → AttributesAlternativeAt scope ts after
  attributes_of_descendants : {ts after : List Token} {ss : Steps} → StepsAt scope true ts ss dropped after
      → AttributesAlternativeAt scope (mark dot ∷ mark slashes ∷ ts) after

-- a select each alternative of which ends in an attribute step
pub data AttributesAt (scope : List Bound) : List Token → List Token → Type 0 where
  last_attributes : {ts after : List Token} → AttributesAlternativeAt scope ts after → Lacks (mark bar) after → AttributesAt scope ts after
  one_attributes : {ts rest after : List Token} → AttributesAlternativeAt scope ts (mark bar ∷ rest) → AttributesAt scope rest after → AttributesAt scope ts after

-- an alternative of a pattern, and its default priority in ten-thousandths
pub record Alternative : Type 0 where
  pub pattern : MatchPattern
  pub priority : ℤ

-- the default priority of a node test alone (XSLT, 5.5)
abbrev pub priority_of_test : NodeTest → ℤ
priority_of_test (of_name n) = pos 0
priority_of_test (of_namespace uri) = negsuc 2499
priority_of_test _ = negsuc 4999

abbrev pub priority_otherwise : ℤ
priority_otherwise = pos 5000

abbrev pub default_priority : Form → Steps → ℤ
default_priority lone (step deep t when ss) = priority_of_test t
default_priority _ _ = priority_otherwise

-- an alternative by itself, or none where it is dropped
abbrev pub unless_dropped : Form → Steps → ℤ → List Alternative
unless_dropped dropped ss priority = []
unless_dropped _ ss priority = record { pattern = steps_pattern ss; priority = priority } ∷ []

-- nothing follows, or a further alternative
pub data EndsAlternative : List Token → Type 0 where
  at_end : EndsAlternative []
  at_bar : {rest : List Token} → EndsAlternative (mark bar ∷ rest)

-- an alternative of a pattern, none where it is dropped (XSLT, 5.2, [2] LocationPathPattern)
pub data PatternAlternativeAt (scope : List Bound) : List Token → List Alternative → List Token → Type 0 where
  root_alone : {after : List Token} → EndsAlternative after
      → PatternAlternativeAt scope (mark slash ∷ after) (record { pattern = root_pattern; priority = priority_otherwise } ∷ []) after
  relative : {ts after : List Token} {ss : Steps} {form : Form} → StepsAt scope true ts ss form after
      → PatternAlternativeAt scope ts (unless_dropped form ss (default_priority form ss)) after
  from_root : {ts after : List Token} {ss : Steps} {form : Form} → StepsAt scope false ts ss form after
      → PatternAlternativeAt scope (mark slash ∷ ts) (unless_dropped form ss priority_otherwise) after
  below_root : {ts after : List Token} {ss : Steps} {form : Form} → StepsAt scope true ts ss form after
      → PatternAlternativeAt scope (mark slashes ∷ ts) (unless_dropped form ss priority_otherwise) after
  other_node : {ts after : List Token} → OtherNodeAt ts after → PatternAlternativeAt scope ts [] after

-- a pattern: alternatives (XSLT, 5.2, [1] Pattern)
pub data PatternAt (scope : List Bound) : List Token → List Alternative → Type 0 where
  last_alternative : {ts : List Token} {alternatives : List Alternative} → PatternAlternativeAt scope ts alternatives [] → PatternAt scope ts alternatives
  one_alternative : {ts rest : List Token} {alternatives others : List Alternative} → PatternAlternativeAt scope ts alternatives (mark bar ∷ rest)
      → PatternAt scope rest others → PatternAt scope ts (alternatives ++ others)
