-- Symbols: the names of elements, by what two schemas and a stylesheet mention of them. The names of one symbol are alike for all three.
-- Symbols and the names that stand for them are functions; laws say that they are the only list in order and
-- the first free names that the plain words mean.
-- The field says letters, or minterms.
use Rattle.std.specs.Prelude.{◌≡◌, ◌<◌, ◌↔◌, ℕ, zero, suc, ◌+◌, nat_lt, List, [], ◌∷◌, ◌++◌, length, Bool, false, IsTrue, if◌then◌else◌, Option, Some, None, slice_get, All, Contains, flat_map, codes}
use Rattle.std.specs.List.Sorted.{IsStrictlySortedBy}
use Rattle.std.specs.declared.cmp.Ordering.{Ordering}
use Rattle.std.specs.declared.cmp.Ordering.TheVariants.{Less, Greater}
use Rattle.std.specs.Ordering.{nat_cmp, ordering_then, match_ordering, is_eq}
use Rattle.std.specs.Cmp.Lexicographic.{slice_cmp}
use Rattle.tc_model.specs.Names.{ExpandedName}
use Rattle.tc_model.specs.Trees.{Trees}
use Rattle.tc_model.specs.Grammars as g
use Rattle.tc_model.specs.Grammars.{NameClass, NameClasses, no_class, class, in_class, Grammar}
use Rattle.tc_model.specs.Chains.{an_element}
use Rattle.tc_model.specs.Paths.{passes}
use Rattle.tc_model.specs.Sheets.{NodeTest, of_name, of_namespace, any_element, any_text, any_node, Steps, no_step, step, Path, no_alternative, alternative, Test, always, never, has, negated, all_of, any_of, Tests, no_test, test, MatchPattern, root_pattern, steps_pattern, Body, no_instruction, put_text, put_element, copy, apply, call, for_each, value, value_of_self, choose, Branches, otherwise, branch, Sheet}

-- what has a symbol of its own: a name, or a namespace for its other names
pub data Mention : Type 0 where
  a_name : ExpandedName → Mention
  a_namespace : List ℕ → Mention

-- names come before namespaces; names in byte order of namespace name and local name, namespaces in byte order
abbrev pub mention_cmp : Mention → Mention → Ordering
mention_cmp (a_name n) (a_name m) = ordering_then (slice_cmp nat_cmp n.uri m.uri) (slice_cmp nat_cmp n.local m.local)
mention_cmp (a_name n) (a_namespace v) = Less
mention_cmp (a_namespace u) (a_name m) = Greater
mention_cmp (a_namespace u) (a_namespace v) = slice_cmp nat_cmp u v

abbrev pub mentions_of_name : ExpandedName → List Mention
mentions_of_name n = a_name n ∷ []

abbrev mutual
  pub mentions_in_class : NameClass → List Mention
  mentions_in_class (g.of_name n) = mentions_of_name n
  mentions_in_class (g.of_namespace uri except) = a_namespace uri ∷ mentions_in_classes except
  mentions_in_class (g.any_name except) = mentions_in_classes except
  mentions_in_class (g.one_of classes) = mentions_in_classes classes

  pub mentions_in_classes : NameClasses → List Mention
  mentions_in_classes no_class = []
  mentions_in_classes (class c classes) = mentions_in_class c ++ mentions_in_classes classes

abbrev pub mentions_in_grammar : Grammar → List Mention
mentions_in_grammar x = flat_map (λ e. mentions_in_class e.names) x.elements

-- what node tests and names of elements give, at any depth: in predicates, selects, values and tests too
module _ {X : Type 0} (of_test : NodeTest → List X) (of_element : ExpandedName → List X) where
  abbrev mutual
    pub in_steps : Steps → List X
    in_steps no_step = []
    in_steps (step deep t when ss) = of_test t ++ (in_test when ++ in_steps ss)

    pub in_path : Path → List X
    in_path no_alternative = []
    in_path (alternative ss p) = in_steps ss ++ in_path p

    pub in_test : Test → List X
    in_test always = []
    in_test never = []
    in_test (has p) = in_path p
    in_test (negated t) = in_test t
    in_test (all_of ts) = in_tests ts
    in_test (any_of ts) = in_tests ts

    pub in_tests : Tests → List X
    in_tests no_test = []
    in_tests (test t ts) = in_test t ++ in_tests ts

  abbrev pub in_pattern : MatchPattern → List X
  in_pattern root_pattern = []
  in_pattern (steps_pattern ss) = in_steps ss

  abbrev mutual
    pub in_body : Body → List X
    in_body no_instruction = []
    in_body (put_text x b) = in_body b
    in_body (put_element n inner b) = of_element n ++ (in_body inner ++ in_body b)
    in_body (copy inner b) = in_body inner ++ in_body b
    in_body (apply p m b) = in_path p ++ in_body b
    in_body (call n b) = in_body b
    in_body (value p b) = in_path p ++ in_body b
    in_body (value_of_self b) = in_body b
    in_body (choose x b) = in_branches x ++ in_body b
    in_body (for_each e p inner b) = in_path p ++ (in_body inner ++ in_body b)

    pub in_branches : Branches → List X
    in_branches (otherwise b) = in_body b
    in_branches (branch t b x) = in_test t ++ (in_body b ++ in_branches x)

  -- bodies that are never called too
  abbrev pub in_sheet : Sheet → List X
  in_sheet s = flat_map (λ r. in_pattern r.pattern ++ in_body r.body) s.rules ++ flat_map in_body s.named

abbrev pub mentions_of_test : NodeTest → List Mention
mentions_of_test (of_name n) = mentions_of_name n
mentions_of_test (of_namespace uri) = a_namespace uri ∷ []
mentions_of_test any_element = []
mentions_of_test any_text = []
mentions_of_test any_node = []

abbrev pub mentions_in_sheet : Sheet → List Mention
mentions_in_sheet s = in_sheet mentions_of_test mentions_of_name s

-- all node tests of a stylesheet
abbrev pub node_tests : Sheet → List NodeTest
node_tests s = in_sheet (λ t. t ∷ []) (λ n. []) s

-- the second list holds what the first does, in order and each once
abbrev pub IsInOrder : {K : Type 0} → (K → K → Ordering) → List K → List K → Type 0
IsInOrder {K} cmp xs ys = IsStrictlySortedBy cmp ys × ((k : K) → Contains ys k ↔ Contains xs k)

-- the only such list of mentions, made one by one: a list in order with one more, unless it is there
abbrev pub put_in_order : {K : Type 0} → (K → K → Ordering) → K → List K → List K
put_in_order cmp k [] = k ∷ []
put_in_order cmp k (x ∷ xs) = match_ordering (cmp k x) (k ∷ x ∷ xs) (x ∷ xs) (x ∷ put_in_order cmp k xs)

-- the same in order, each once
abbrev pub in_order : {K : Type 0} → (K → K → Ordering) → List K → List K
in_order cmp [] = []
in_order cmp (x ∷ xs) = put_in_order cmp x (in_order cmp xs)

-- with a name its namespace is mentioned
abbrev pub with_namespace : Mention → List Mention
with_namespace (a_name n) = a_name n ∷ a_namespace n.uri ∷ []
with_namespace (a_namespace uri) = a_namespace uri ∷ []

-- what two schemas and a stylesheet mention
abbrev pub mentions_in : Grammar → Grammar → Sheet → List Mention
mentions_in input output s = mentions_in_grammar input ++ (mentions_in_grammar output ++ mentions_in_sheet s)

-- the symbols of two schemas and a stylesheet, in order, but for the last, which is that of all other names
abbrev pub symbols_of : Grammar → Grammar → Sheet → List Mention
symbols_of input output s = in_order mention_cmp (flat_map with_namespace (mentions_in input output s))

-- the symbols of a schema by itself
abbrev pub symbols_of_schema : Grammar → List Mention
symbols_of_schema x = in_order mention_cmp (flat_map with_namespace (mentions_in_grammar x))

abbrev pub symbol_count : List Mention → ℕ
symbol_count symbols = length symbols + 1

-- the number of symbols before it, and of all but the last where it is not among them
abbrev pub place_of : Mention → List Mention → ℕ
place_of m [] = 0
place_of m (x ∷ xs) = if is_eq (mention_cmp m x) then 0 else (place_of m xs + 1)

abbrev pub is_mentioned : Mention → List Mention → Bool
is_mentioned m symbols = nat_lt (place_of m symbols) (length symbols)

-- the symbol of a name: its own, or that of its namespace, or else the last
abbrev pub symbol_of : List Mention → ExpandedName → ℕ
symbol_of symbols n = if is_mentioned (a_name n) symbols then place_of (a_name n) symbols else place_of (a_namespace n.uri) symbols

-- so many letters `n`
abbrev pub letters_n : ℕ → List ℕ
letters_n zero = []
letters_n (suc j) = 110 ∷ letters_n j

-- the first that is not taken of a text, the text with one `n` more, with two more, ..
abbrev pub IsFirstFree : (List ℕ → Bool) → List ℕ → List ℕ → Type 0
IsFirstFree taken text found =
    (j : ℕ) × (found ≡ text ++ letters_n j) × (taken found ≡ false) × ((i : ℕ) → i < j → IsTrue (taken (text ++ letters_n i)))

-- it, where one of so many is free
abbrev pub lengthened : (List ℕ → Bool) → ℕ → List ℕ → List ℕ
lengthened taken zero text = text
lengthened taken (suc more) text = if taken text then lengthened taken more (text ++ 110 ∷ []) else text

-- the shortest of `n`, `nn`, .. that is not mentioned in the namespace: each symbol is one of them at most
abbrev pub free_local : List Mention → List ℕ → List ℕ
free_local symbols uri = lengthened (λ local. is_mentioned (a_name (record { uri = uri; local = local })) symbols) (length symbols) (codes "n")

-- the shortest of `urn:n`, `urn:nn`, .. that is not mentioned
abbrev pub free_namespace : List Mention → List ℕ
free_namespace symbols = lengthened (λ uri. is_mentioned (a_namespace uri) symbols) (length symbols) (codes "urn:n")

abbrev pub fresh_for : List Mention → Option Mention → ExpandedName
fresh_for symbols (Some (a_name n)) = n
fresh_for symbols (Some (a_namespace uri)) = record { uri = uri; local = free_local symbols uri }
fresh_for symbols None = record { uri = free_namespace symbols; local = codes "n" }

-- the name that stands for a symbol
abbrev pub fresh_name : List Mention → ℕ → ExpandedName
fresh_name symbols k = fresh_for symbols (slice_get symbols k)

-- two names are in the same name classes and pass the same node tests
pub record AreAlike (input output : Grammar) (s : Sheet) (n m : ExpandedName) : Type 0 where
  pub in_input : All (λ e. in_class e.names n ≡ in_class e.names m) input.elements
  pub in_output : All (λ e. in_class e.names n ≡ in_class e.names m) output.elements
  pub pass : All (λ t. (kids : Trees) → passes t (an_element n kids) ≡ passes t (an_element m kids)) (node_tests s)

-- what all symbols have in common: they are in order, and the namespace of each name is among them
pub record AreSymbols (symbols : List Mention) : Type 0 where
  pub rise : IsStrictlySortedBy mention_cmp symbols
  pub closed : (n : ExpandedName) → Contains symbols (a_name n) → Contains symbols (a_namespace n.uri)

-- names of one symbol are alike
abbrev pub IsAlikeBySymbol : Type 0
IsAlikeBySymbol = (input output : Grammar) (s : Sheet) (n m : ExpandedName) → symbol_of (symbols_of input output s) n ≡ symbol_of (symbols_of input output s) m → AreAlike input output s n m

-- the name that stands for a symbol has this symbol
abbrev pub IsSymbolOfFresh : Type 0
IsSymbolOfFresh = (symbols : List Mention) → AreSymbols symbols → (k : ℕ) → k < symbol_count symbols → symbol_of symbols (fresh_name symbols k) ≡ k

-- what two schemas and a stylesheet give are symbols
abbrev pub GiveSymbols : Type 0
GiveSymbols = (input output : Grammar) (s : Sheet) → AreSymbols (symbols_of input output s)

-- mentions in order are the only list in order of what they hold
abbrev pub IsOnlyInOrder : Type 0
IsOnlyInOrder = (xs ys : List Mention) → IsInOrder mention_cmp xs ys ↔ (ys ≡ in_order mention_cmp xs)

-- the names and namespaces that stand for others are the first free ones
abbrev pub AreFirstFree : Type 0
AreFirstFree =
    (symbols : List Mention)
    → ((uri : List ℕ) → IsFirstFree (λ local. is_mentioned (a_name (record { uri = uri; local = local })) symbols) (codes "n") (free_local symbols uri))
    × IsFirstFree (λ uri. is_mentioned (a_namespace uri) symbols) (codes "urn:n") (free_namespace symbols)

-- a schema twice and a stylesheet that mentions nothing have the symbols of the schema
abbrev pub SchemasHaveTheirSymbols : Type 0
SchemasHaveTheirSymbols = (x : Grammar) (s : Sheet) → mentions_in_sheet s ≡ [] → symbols_of x x s ≡ symbols_of_schema x
