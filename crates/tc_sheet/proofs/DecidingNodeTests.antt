-- What stands at the front of any tokens, or doesn't: a token, a node test, a step's axis.
use Rattle.std.proofs.Common.{◌≡◌, ◌⊎◌, inl, inr, ℕ, ◌<◌, ◌==◌, Bool, true, false, List, [], ◌∷◌, refl, ap, ◌∙◌, sym, subst, length, get_or, arith, codes, Option, None, Some}
use Rattle.tc_model.specs.Names.{ExpandedName}
use Rattle.tc_model.specs.RawTrees.{Bound}
use Rattle.tc_model.specs.Sheets.{NodeTest, of_name, of_namespace, any_element, any_text, any_node}
use Rattle.tc_model.specs.XmlTextNames.{QualifiedName}
use Rattle.tc_model.specs.XmlTextScopes.{uri_of}
use Rattle.tc_model.specs.PathTextTokens.{Mark, star, slash, slashes, bar, open_parenthesis, close_parenthesis, open_bracket, close_bracket, at, dot, dots, colons, comma, comparison, arithmetic, Token, name, all_of_prefix, mark, number, literal, variable}
use Rattle.tc_model.specs.PathTextPhrases as p
use Rattle.tc_model.specs.PathTextPhrases.{word, Lacks, NameMeans, NodeTestAt, a_name, a_namespace, a_star, a_text, a_node, ChildAt, abbreviated, spelled, AttributeTestAt, AttributeAt, OtherNodeAt, a_comment, an_instruction}
use Rattle.tc_model.proofs.PathTextUnique.{same_others, no_axis}
use Rattle.tc_path.proofs.NodeTestLaws.{means_without, means_with, means_nothing}
use Rattle.tc_sheet.proofs.DecidingBytes.{Decided, none_some, number_is, bytes_are}

-- marks by numbers
abbrev marks : List Mark
marks = star ∷ slash ∷ slashes ∷ bar ∷ open_parenthesis ∷ close_parenthesis ∷ open_bracket ∷ close_bracket ∷ at ∷ dot ∷ dots ∷ colons ∷ comma ∷ comparison ∷ arithmetic ∷ []

abbrev number_of : Mark → ℕ
number_of star = 0
number_of slash = 1
number_of slashes = 2
number_of bar = 3
number_of open_parenthesis = 4
number_of close_parenthesis = 5
number_of open_bracket = 6
number_of close_bracket = 7
number_of at = 8
number_of dot = 9
number_of dots = 10
number_of colons = 11
number_of comma = 12
number_of comparison = 13
number_of arithmetic = 14

numbered : (m : Mark) → get_or marks (number_of m) star ≡ m
numbered star = refl
numbered slash = refl
numbered slashes = refl
numbered bar = refl
numbered open_parenthesis = refl
numbered close_parenthesis = refl
numbered open_bracket = refl
numbered close_bracket = refl
numbered at = refl
numbered dot = refl
numbered dots = refl
numbered colons = refl
numbered comma = refl
numbered comparison = refl
numbered arithmetic = refl

mark_equal : (m n : Mark) → Decided (m ≡ n)
mark_equal m n = elim (number_is (number_of m) (number_of n)) [
  | inl e ↦ inl (sym (numbered m) ∙ (ap (λ k. get_or marks k star) e ∙ numbered n))
  | inr h ↦ inr (λ e. h (ap number_of e))
]

-- tokens
same_mark : {m n : Mark} → mark m ≡ mark n → m ≡ n
same_mark e = cc

name_or_mark : {n : QualifiedName} {m : Mark} → name n ≡ mark m → ⊥
name_or_mark e = cc

prefix_or_mark : {q : List ℕ} {m : Mark} → all_of_prefix q ≡ mark m → ⊥
prefix_or_mark e = cc

number_or_mark : {m : Mark} → number ≡ mark m → ⊥
number_or_mark e = cc

literal_or_mark : {m : Mark} → literal ≡ mark m → ⊥
literal_or_mark e = cc

variable_or_mark : {m : Mark} → variable ≡ mark m → ⊥
variable_or_mark e = cc

is_mark : (m : Mark) (t : Token) → Decided (t ≡ mark m)
is_mark m (mark n) = elim (mark_equal n m) [ inl e ↦ inl (ap mark e) | inr h ↦ inr (λ e. h (same_mark e)) ]
is_mark m (name n) = inr name_or_mark
is_mark m (all_of_prefix q) = inr prefix_or_mark
is_mark m number = inr number_or_mark
is_mark m literal = inr literal_or_mark
is_mark m variable = inr variable_or_mark

same_written : {n m : QualifiedName} → name n ≡ name m → n ≡ m
same_written e = cc

mark_or_name : {m : Mark} {n : QualifiedName} → mark m ≡ name n → ⊥
mark_or_name e = cc

prefix_or_name : {q : List ℕ} {n : QualifiedName} → all_of_prefix q ≡ name n → ⊥
prefix_or_name e = cc

number_or_name : {n : QualifiedName} → number ≡ name n → ⊥
number_or_name e = cc

literal_or_name : {n : QualifiedName} → literal ≡ name n → ⊥
literal_or_name e = cc

variable_or_name : {n : QualifiedName} → variable ≡ name n → ⊥
variable_or_name e = cc

is_word : (w : List ℕ) (t : Token) → Decided (t ≡ word w)
is_word w (name n) = by (bytes_are n.prefix []) (bytes_are n.local w)
  where
    by : Decided (n.prefix ≡ []) → Decided (n.local ≡ w) → Decided (name n ≡ word w)
    by (inl e) (inl f) = inl (λ i. name (record { prefix = e i; local = f i }))
    by (inl e) (inr h) = inr (λ g. h (ap (λ (q : QualifiedName). q.local) (same_written g)))
    by (inr h) k = inr (λ g. h (ap (λ (q : QualifiedName). q.prefix) (same_written g)))
is_word w (mark m) = inr mark_or_name
is_word w (all_of_prefix q) = inr prefix_or_name
is_word w number = inr number_or_name
is_word w literal = inr literal_or_name
is_word w variable = inr variable_or_name

first : List Token → Token
first [] = number
first (t ∷ ts) = t

same_first : {t u : Token} {ts us : List Token} → t ∷ ts ≡ u ∷ us → t ≡ u
unfolding first
same_first e = ap first e

no_tokens : {t : Token} {r : List Token} → [] ≡ t ∷ r → ⊥
no_tokens e = omega (arith, ap length e)

-- a token at the front
abbrev pub Begins : Token → List Token → Type 0
Begins t ts = ((r : List Token) × (ts ≡ t ∷ r)) ⊎ Lacks t ts

begins_with : (t : Token) → ((u : Token) → Decided (u ≡ t)) → (ts : List Token) → Begins t ts
begins_with t d [] = inr (λ r e. no_tokens e)
begins_with t d (u ∷ ts) = elim (d u) [ inl e ↦ inl (ts, ap (λ z. z ∷ ts) e) | inr h ↦ inr (λ r e. h (same_first e)) ]

pub begins_mark : (m : Mark) (ts : List Token) → Begins (mark m) ts
begins_mark m ts = begins_with (mark m) (is_mark m) ts

pub begins_word : (w : List ℕ) (ts : List Token) → Begins (word w) ts
begins_word w ts = begins_with (word w) (is_word w) ts

-- a token and a mark
abbrev pub BeginsTwo : Token → Mark → List Token → Type 0
BeginsTwo t m ts = ((r : List Token) × (ts ≡ t ∷ mark m ∷ r)) ⊎ ((r : List Token) → ts ≡ t ∷ mark m ∷ r → ⊥)

then_mark : (t : Token) (m : Mark) (ts : List Token) → Begins t ts → BeginsTwo t m ts
then_mark t m ts (inr h) = inr (λ r e. h (mark m ∷ r) e)
then_mark t m ts (inl (r, e)) = elim (begins_mark m r) [
  | inl (s, f) ↦ inl (s, e ∙ ap (λ z. t ∷ z) f)
  | inr h ↦ inr (λ s f. h s (same_others (sym e ∙ f)))
]

pub begins_marks : (m n : Mark) (ts : List Token) → BeginsTwo (mark m) n ts
begins_marks m n ts = then_mark (mark m) n ts (begins_mark m ts)

pub begins_word_mark : (w : List ℕ) (m : Mark) (ts : List Token) → BeginsTwo (word w) m ts
begins_word_mark w m ts = then_mark (word w) m ts (begins_word w ts)

-- a call without arguments
abbrev pub BeginsCall : List ℕ → List Token → Type 0
BeginsCall w ts = ((r : List Token) × (ts ≡ word w ∷ mark open_parenthesis ∷ mark close_parenthesis ∷ r)) ⊎ ((r : List Token) → ts ≡ word w ∷ mark open_parenthesis ∷ mark close_parenthesis ∷ r → ⊥)

pub begins_call : (w : List ℕ) (ts : List Token) → BeginsCall w ts
begins_call w ts = elim (begins_word_mark w open_parenthesis ts) [
  | inr h ↦ inr (λ r e. h (mark close_parenthesis ∷ r) e)
  | inl (r, e) ↦ elim (begins_mark close_parenthesis r) [
    | inl (s, f) ↦ inl (s, e ∙ ap (λ z. word w ∷ mark open_parenthesis ∷ z) f)
    | inr h ↦ inr (λ s f. h s (same_others (same_others (sym e ∙ f))))
  ]
]

-- what a name means
abbrev pub NameMeansHere : List Bound → QualifiedName → Type 0
NameMeansHere scope n = ((m : ExpandedName) × NameMeans scope n m) ⊎ ((m : ExpandedName) → NameMeans scope n m → ⊥)

pub means_here : (scope : List Bound) (n : QualifiedName) → NameMeansHere scope n
means_here scope n = by (length n.prefix == 0) refl (uri_of scope n.prefix) refl
  where
    by : (b : Bool) → (length n.prefix == 0) ≡ b → (o : Option (List ℕ)) → uri_of scope n.prefix ≡ o → NameMeansHere scope n
    by true e o f = inl (record { uri = []; local = n.local }, means_without scope n.prefix n.local e)
    by false e (Some u) f = inl (record { uri = u; local = n.local }, means_with scope n.prefix n.local u e f)
    by false e None f = inr (λ m a. means_nothing e f m a)

-- a node test
abbrev NodeTestHere : List Bound → List Token → Type 0
NodeTestHere scope ts = ((t : NodeTest) × ((r : List Token) × (NodeTestAt scope ts t r × (length r < length ts)))) ⊎ ((t : NodeTest) (r : List Token) → NodeTestAt scope ts t r → ⊥)

no_name_test : (scope : List Bound) (n : QualifiedName) (ts : List Token) → Lacks (mark open_parenthesis) ts → (Lacks (mark colons) ts → (m : ExpandedName) → NameMeans scope n m → ⊥)
    → (t : NodeTest) (r : List Token) → NodeTestAt scope (name n ∷ ts) t r → ⊥
no_name_test scope n ts h k t r (a_name {m = m} a e) = k e.1 m a
no_name_test scope n ts h k t r (a_text {after = s}) = h (mark close_parenthesis ∷ s) refl
no_name_test scope n ts h k t r (a_node {after = s}) = h (mark close_parenthesis ∷ s) refl

no_call_test : (scope : List Bound) (n : QualifiedName) (ts : List Token) → ((s : List Token) → ts ≡ mark close_parenthesis ∷ s → (name n ≡ word (codes "text")) ⊎ (name n ≡ word (codes "node")) → ⊥)
    → (t : NodeTest) (r : List Token) → NodeTestAt scope (name n ∷ mark open_parenthesis ∷ ts) t r → ⊥
no_call_test scope n ts h t r (a_name a e) = e.0 ts refl
no_call_test scope n ts h t r (a_text {after = s}) = h s refl (inl refl)
no_call_test scope n ts h t r (a_node {after = s}) = h s refl (inr refl)

closed_here : (scope : List Bound) (n : QualifiedName) (ts : List Token) → NodeTestHere scope (name n ∷ mark open_parenthesis ∷ mark close_parenthesis ∷ ts)
closed_here scope n ts = elim (is_word (codes "text") (name n)) [
  | inl e ↦ inl (any_text, (ts, (subst (λ z. NodeTestAt scope (z ∷ mark open_parenthesis ∷ mark close_parenthesis ∷ ts) any_text ts) (sym e) a_text, omega arith)))
  | inr h ↦ elim (is_word (codes "node") (name n)) [
    | inl e ↦ inl (any_node, (ts, (subst (λ z. NodeTestAt scope (z ∷ mark open_parenthesis ∷ mark close_parenthesis ∷ ts) any_node ts) (sym e) a_node, omega arith)))
    | inr k ↦ inr (no_call_test scope n (mark close_parenthesis ∷ ts) (λ s e w. elim w [ inl f ↦ h f | inr f ↦ k f ]))
  ]
]

call_here : (scope : List Bound) (n : QualifiedName) (ts : List Token) → NodeTestHere scope (name n ∷ mark open_parenthesis ∷ ts)
call_here scope n ts = elim (begins_mark close_parenthesis ts) [
  | inl (s, e) ↦ subst (λ z. NodeTestHere scope (name n ∷ mark open_parenthesis ∷ z)) (sym e) (closed_here scope n s)
  | inr h ↦ inr (no_call_test scope n ts (λ s e w. h s e))
]

no_namespace : (scope : List Bound) (q : List ℕ) (ts : List Token) → uri_of scope q ≡ None → (t : NodeTest) (r : List Token) → NodeTestAt scope (all_of_prefix q ∷ ts) t r → ⊥
no_namespace scope q ts e t r (a_namespace f) = none_some e f

no_star : (scope : List Bound) (m : Mark) (ts : List Token) → (m ≡ star → ⊥) → (t : NodeTest) (r : List Token) → NodeTestAt scope (mark m ∷ ts) t r → ⊥
no_star scope m ts h t r a_star = h refl

node_test_here : (scope : List Bound) (ts : List Token) → NodeTestHere scope ts
node_test_here scope [] = inr (λ t r a. elim a [ ])
node_test_here scope (name n ∷ ts) = elim (begins_mark open_parenthesis ts) [
  | inl (r, e) ↦ subst (λ z. NodeTestHere scope (name n ∷ z)) (sym e) (call_here scope n r)
  | inr h ↦ elim (begins_mark colons ts) [
    | inl (r, e) ↦ inr (no_name_test scope n ts h (λ l m a. l r e))
    | inr k ↦ elim (means_here scope n) [
      | inl (m, a) ↦ inl (of_name m, (ts, (a_name a (h, k), omega arith)))
      | inr g ↦ inr (no_name_test scope n ts h (λ l m a. g m a))
    ]
  ]
]
node_test_here scope (all_of_prefix q ∷ ts) = by (uri_of scope q) refl
  where
    by : (o : Option (List ℕ)) → uri_of scope q ≡ o → NodeTestHere scope (all_of_prefix q ∷ ts)
    by (Some u) e = inl (of_namespace u, (ts, (a_namespace e, omega arith)))
    by None e = inr (no_namespace scope q ts e)
node_test_here scope (mark m ∷ ts) = elim (mark_equal m star) [
  | inl e ↦ inl (any_element, (ts, (subst (λ z. NodeTestAt scope (mark z ∷ ts) any_element ts) (sym e) a_star, omega arith)))
  | inr h ↦ inr (no_star scope m ts h)
]
node_test_here scope (number ∷ ts) = inr (λ t r a. elim a [ ])
node_test_here scope (literal ∷ ts) = inr (λ t r a. elim a [ ])
node_test_here scope (variable ∷ ts) = inr (λ t r a. elim a [ ])

-- a node test of the child axis
abbrev pub ChildHere : List Bound → List Token → Type 0
ChildHere scope ts = ((t : NodeTest) × ((r : List Token) × (ChildAt scope ts t r × (length r < length ts)))) ⊎ ((t : NodeTest) (r : List Token) → ChildAt scope ts t r → ⊥)

no_child : (scope : List Bound) (ts : List Token) → ((r : List Token) → ts ≡ word (codes "child") ∷ mark colons ∷ r → ⊥) → ((t : NodeTest) (r : List Token) → NodeTestAt scope ts t r → ⊥)
    → (t : NodeTest) (r : List Token) → ChildAt scope ts t r → ⊥
no_child scope ts h k t r (abbreviated a) = k t r a
no_child scope ts h k t r (spelled {ts = s} a) = h s refl

no_spelled : (scope : List Bound) (ts : List Token) → ((t : NodeTest) (r : List Token) → NodeTestAt scope ts t r → ⊥) → (t : NodeTest) (r : List Token) → ChildAt scope (word (codes "child") ∷ mark colons ∷ ts) t r → ⊥
no_spelled scope ts k t r (abbreviated a) = no_axis a
no_spelled scope ts k t r (spelled a) = k t r a

spelled_here : (scope : List Bound) (ts : List Token) → ChildHere scope (word (codes "child") ∷ mark colons ∷ ts)
spelled_here scope ts = elim (node_test_here scope ts) [
  | inl (t, (r, (a, l))) ↦ inl (t, (r, (spelled a, omega (arith, l))))
  | inr h ↦ inr (no_spelled scope ts h)
]

pub child_here : (scope : List Bound) (ts : List Token) → ChildHere scope ts
child_here scope ts = elim (begins_word_mark (codes "child") colons ts) [
  | inl (r, e) ↦ subst (ChildHere scope) (sym e) (spelled_here scope r)
  | inr h ↦ elim (node_test_here scope ts) [ inl (t, (r, (a, l))) ↦ inl (t, (r, (abbreviated a, l))) | inr k ↦ inr (no_child scope ts h k) ]
]

-- an attribute step
abbrev AttributeTestHere : List Bound → List Token → Type 0
AttributeTestHere scope ts = ((r : List Token) × (AttributeTestAt scope ts r × (length r < length ts))) ⊎ ((r : List Token) → AttributeTestAt scope ts r → ⊥)

no_attribute_name : (scope : List Bound) (n : QualifiedName) (ts : List Token) → ((m : ExpandedName) → NameMeans scope n m → ⊥) → (r : List Token) → AttributeTestAt scope (name n ∷ ts) r → ⊥
no_attribute_name scope n ts h r (p.AttributeTestAt.a_name {m = m} a) = h m a

no_attribute_namespace : (scope : List Bound) (q : List ℕ) (ts : List Token) → uri_of scope q ≡ None → (r : List Token) → AttributeTestAt scope (all_of_prefix q ∷ ts) r → ⊥
no_attribute_namespace scope q ts e r (p.AttributeTestAt.a_namespace f) = none_some e f

no_attribute_star : (scope : List Bound) (m : Mark) (ts : List Token) → (m ≡ star → ⊥) → (r : List Token) → AttributeTestAt scope (mark m ∷ ts) r → ⊥
no_attribute_star scope m ts h r p.AttributeTestAt.a_star = h refl

attribute_test_here : (scope : List Bound) (ts : List Token) → AttributeTestHere scope ts
attribute_test_here scope [] = inr (λ r a. elim a [ ])
attribute_test_here scope (name n ∷ ts) = elim (means_here scope n) [
  | inl (m, a) ↦ inl (ts, (p.AttributeTestAt.a_name a, omega arith))
  | inr h ↦ inr (no_attribute_name scope n ts h)
]
attribute_test_here scope (all_of_prefix q ∷ ts) = by (uri_of scope q) refl
  where
    by : (o : Option (List ℕ)) → uri_of scope q ≡ o → AttributeTestHere scope (all_of_prefix q ∷ ts)
    by (Some u) e = inl (ts, (p.AttributeTestAt.a_namespace e, omega arith))
    by None e = inr (no_attribute_namespace scope q ts e)
attribute_test_here scope (mark m ∷ ts) = elim (mark_equal m star) [
  | inl e ↦ inl (ts, (subst (λ z. AttributeTestAt scope (mark z ∷ ts) ts) (sym e) p.AttributeTestAt.a_star, omega arith))
  | inr h ↦ inr (no_attribute_star scope m ts h)
]
attribute_test_here scope (number ∷ ts) = inr (λ r a. elim a [ ])
attribute_test_here scope (literal ∷ ts) = inr (λ r a. elim a [ ])
attribute_test_here scope (variable ∷ ts) = inr (λ r a. elim a [ ])

abbrev pub AttributeHere : List Bound → List Token → Type 0
AttributeHere scope ts = ((r : List Token) × (AttributeAt scope ts r × (length r < length ts))) ⊎ ((r : List Token) → AttributeAt scope ts r → ⊥)

no_at : (scope : List Bound) (ts : List Token) → ((r : List Token) → AttributeTestAt scope ts r → ⊥) → (r : List Token) → AttributeAt scope (mark at ∷ ts) r → ⊥
no_at scope ts h r (p.AttributeAt.abbreviated a) = h r a

no_attribute_axis : (scope : List Bound) (ts : List Token) → ((r : List Token) → AttributeTestAt scope ts r → ⊥) → (r : List Token) → AttributeAt scope (word (codes "attribute") ∷ mark colons ∷ ts) r → ⊥
no_attribute_axis scope ts h r (p.AttributeAt.spelled a) = h r a

no_attribute : (scope : List Bound) (ts : List Token) → Lacks (mark at) ts → ((r : List Token) → ts ≡ word (codes "attribute") ∷ mark colons ∷ r → ⊥) → (r : List Token) → AttributeAt scope ts r → ⊥
no_attribute scope ts h k r (p.AttributeAt.abbreviated {ts = s} a) = h s refl
no_attribute scope ts h k r (p.AttributeAt.spelled {ts = s} a) = k s refl

at_here : (scope : List Bound) (ts : List Token) → AttributeHere scope (mark at ∷ ts)
at_here scope ts = elim (attribute_test_here scope ts) [ inl (r, (a, l)) ↦ inl (r, (p.AttributeAt.abbreviated a, omega (arith, l))) | inr h ↦ inr (no_at scope ts h) ]

attribute_axis_here : (scope : List Bound) (ts : List Token) → AttributeHere scope (word (codes "attribute") ∷ mark colons ∷ ts)
attribute_axis_here scope ts = elim (attribute_test_here scope ts) [ inl (r, (a, l)) ↦ inl (r, (p.AttributeAt.spelled a, omega (arith, l))) | inr h ↦ inr (no_attribute_axis scope ts h) ]

pub attribute_here : (scope : List Bound) (ts : List Token) → AttributeHere scope ts
attribute_here scope ts = elim (begins_mark at ts) [
  | inl (r, e) ↦ subst (AttributeHere scope) (sym e) (at_here scope r)
  | inr h ↦ elim (begins_word_mark (codes "attribute") colons ts) [
    | inl (r, e) ↦ subst (AttributeHere scope) (sym e) (attribute_axis_here scope r)
    | inr k ↦ inr (no_attribute scope ts h k)
  ]
]

-- nodes of which a tree has none
abbrev pub OtherNodeHere : List Token → Type 0
OtherNodeHere ts = ((r : List Token) × (OtherNodeAt ts r × (length r < length ts))) ⊎ ((r : List Token) → OtherNodeAt ts r → ⊥)

no_other_node : (ts : List Token) → ((r : List Token) → ts ≡ word (codes "comment") ∷ mark open_parenthesis ∷ mark close_parenthesis ∷ r → ⊥)
    → ((r : List Token) → ts ≡ word (codes "processing-instruction") ∷ mark open_parenthesis ∷ mark close_parenthesis ∷ r → ⊥) → (r : List Token) → OtherNodeAt ts r → ⊥
no_other_node ts h k r a_comment = h r refl
no_other_node ts h k r an_instruction = k r refl

pub other_node_here : (ts : List Token) → OtherNodeHere ts
other_node_here ts = elim (begins_call (codes "comment") ts) [
  | inl (r, e) ↦ inl (r, (subst (λ z. OtherNodeAt z r) (sym e) a_comment, omega (arith, ap length e)))
  | inr h ↦ elim (begins_call (codes "processing-instruction") ts) [
    | inl (r, e) ↦ inl (r, (subst (λ z. OtherNodeAt z r) (sym e) an_instruction, omega (arith, ap length e)))
    | inr k ↦ inr (no_other_node ts h k)
  ]
]
