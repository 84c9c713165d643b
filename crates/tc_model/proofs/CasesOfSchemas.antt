-- Worked cases of name classes, patterns, normal form, documents and printing. Each is named for what it shows, with the trees or the pattern in the notation of XML or of the compact syntax.
use Rattle.std.specs.Prelude.{◌≡◌, ◌<◌, All, ℕ, zero, suc, List, [], ◌∷◌, Bool, true, false, Option, Some, None, bytes_eq, drop, slice_index, codes}
use Rattle.std.proofs.Common.{◌==◌, refl, ap, ◌∙◌, sym, subst, rules, arith}
use Rattle.std.proofs.lemmas.Str.{encodes_same}
use Rattle.std.specs.Char.{encode_utf8}
use Rattle.std.specs.List.{list_all}
use Rattle.tc_base.specs.Characters.{is_char}
use Rattle.tc_model.specs.Names.{ExpandedName, IsNcName, IsNamespaceName, IsName, IsText, xmlns_uri, is_ncname_start, is_ncname_char}
use Rattle.tc_model.specs.Trees.{Trees, none, text, element, beside, node_count, normal_form, IsDocument}
use Rattle.tc_model.specs.Grammars as p
use Rattle.tc_model.specs.Grammars.{Pattern, Patterns, ElementPattern, Grammar, no_more, more, NameClass, NameClasses, no_class, class, of_name, of_namespace, any_name, one_of, in_class, element_at, IsPattern, IsElementPattern, IsGrammar}
use Rattle.tc_model.specs.Matching.{Matches, m_choice, m_group, m_empty, m_text, m_one_or_more, m_interleave, m_ref, order_end, order_more, here, there, shuffled_end, shuffled_more, Repeated, once, again, Shuffle, both_end, left_text, left_element, right_text, right_element}
use Rattle.tc_model.specs.Validity.{IsValid, IsValidOutput}
use Rattle.tc_model.specs.Printed.{printed, xml_uri, is_none}

-- Names

-- without a namespace
abbrev pub plain : List ℕ → ExpandedName
plain local = record { uri = []; local = local }

abbrev pub a : ExpandedName
a = plain (codes "a")

abbrev pub b : ExpandedName
b = plain (codes "b")

abbrev pub c : ExpandedName
c = plain (codes "c")

-- in the namespace `u`, to which the prefix p is bound
abbrev pub p_a : ExpandedName
p_a = record { uri = codes "u"; local = codes "a" }

abbrev pub p_n : ExpandedName
p_n = record { uri = codes "u"; local = codes "n" }

-- in another namespace
abbrev pub q_n : ExpandedName
q_n = record { uri = codes "v"; local = codes "n" }

-- Name classes

-- `p:*`
abbrev pub all_of_p : NameClass
all_of_p = of_namespace (codes "u") no_class

-- `* - p:*`
abbrev pub all_but_p : NameClass
all_but_p = any_name (class all_of_p no_class)

-- `p:* - p:n`
abbrev pub all_of_p_but_n : NameClass
all_of_p_but_n = of_namespace (codes "u") (class (of_name p_n) no_class)

-- `* - p:* - p:n`, which excepts `p:* - p:n`
abbrev pub all_but_those : NameClass
all_but_those = any_name (class all_of_p_but_n no_class)

-- `* - a | a`, a choice of two classes
abbrev pub all_but_a_or_a : NameClass
all_but_a_or_a = one_of (class (any_name (class (of_name a) no_class)) (class (of_name a) no_class))

-- `a | b`
abbrev pub a_or_b : NameClass
a_or_b = one_of (class (of_name a) (class (of_name b) no_class))

-- `p:n`: both parts of a name count
pub a_name_is_itself : in_class (of_name p_n) p_n ≡ true
a_name_is_itself = refl

-- the same local part in another namespace
pub a_name_of_another_namespace_is_another : in_class (of_name p_n) q_n ≡ false
a_name_of_another_namespace_is_another = refl

-- another local part in the same namespace
pub a_name_of_another_local_part_is_another : in_class (of_name p_n) p_a ≡ false
a_name_of_another_local_part_is_another = refl

-- `*`
pub any_name_is_any_name : in_class (any_name no_class) p_n ≡ true
any_name_is_any_name = refl

-- `p:*`: p:n
pub of_p_is_the_namespace_of_p : in_class all_of_p p_n ≡ true
of_p_is_the_namespace_of_p = refl

-- `p:*`: not q:n
pub of_p_is_no_other_namespace : in_class all_of_p q_n ≡ false
of_p_is_no_other_namespace = refl

-- `namespace q = ""` makes `q:*` the names without a namespace
pub of_no_namespace_is_plain : in_class (of_namespace [] no_class) a ≡ true
of_no_namespace_is_plain = refl

-- `* - p:*`: a
pub but_p_is_plain : in_class all_but_p a ≡ true
but_p_is_plain = refl

-- `* - p:*`: q:n
pub but_p_is_another_namespace : in_class all_but_p q_n ≡ true
but_p_is_another_namespace = refl

-- `* - p:*`: not p:n
pub but_p_is_not_of_p : in_class all_but_p p_n ≡ false
but_p_is_not_of_p = refl

-- `p:* - p:n`: p:a
pub of_p_but_n_is_a : in_class all_of_p_but_n p_a ≡ true
of_p_but_n_is_a = refl

-- `p:* - p:n`: not p:n
pub of_p_but_n_is_not_n : in_class all_of_p_but_n p_n ≡ false
of_p_but_n_is_not_n = refl

-- `p:* - p:n`: not q:n, which is no name of p
pub of_p_but_n_is_not_another_n : in_class all_of_p_but_n q_n ≡ false
of_p_but_n_is_not_another_n = refl

-- `* - p:* - p:n`: p:n, which is excepted from what is excepted
pub excepted_twice_is_in : in_class all_but_those p_n ≡ true
excepted_twice_is_in = refl

-- `* - p:* - p:n`: not p:a
pub excepted_once_is_out : in_class all_but_those p_a ≡ false
excepted_once_is_out = refl

-- `* - p:* - p:n`: q:n
pub excepted_never_is_in : in_class all_but_those q_n ≡ true
excepted_never_is_in = refl

-- `a | b`: a
pub choice_of_names_is_its_first : in_class a_or_b a ≡ true
choice_of_names_is_its_first = refl

-- `a | b`: b
pub choice_of_names_is_its_last : in_class a_or_b b ≡ true
choice_of_names_is_its_last = refl

-- `a | b`: not c
pub choice_of_names_is_no_other : in_class a_or_b c ≡ false
choice_of_names_is_no_other = refl

-- `* - a | a`: a, since an except reaches no further than its own class
pub an_except_ends_before_a_choice : in_class all_but_a_or_a a ≡ true
an_except_ends_before_a_choice = refl

-- Patterns

-- `element b { empty }`, `element c { empty }`, `element * - a { text }`, `element a { b & c }`
abbrev pub schema : List ElementPattern
schema =
    record { names = of_name b; content = p.empty }
    ∷ record { names = of_name c; content = p.empty }
    ∷ record { names = any_name (class (of_name a) no_class); content = p.text }
    ∷ record { names = of_name a; content = p.interleave (more (p.ref 1) (more (p.ref 2) no_more)) }
    ∷ []

abbrev pub ref_b : Pattern
ref_b = p.ref 1

abbrev pub ref_c : Pattern
ref_c = p.ref 2

abbrev pub ref_not_a : Pattern
ref_not_a = p.ref 3

abbrev pub ref_a : Pattern
ref_a = p.ref 4

-- two members
abbrev pub two : Pattern → Pattern → Patterns
two q r = more q (more r no_more)

-- an element without children, before other trees
abbrev pub leaf : ExpandedName → Trees → Trees
leaf n rest = element n none rest

-- a text before other trees
abbrev pub x : Trees → Trees
x rest = text (codes "x") rest

-- derivations of `<b/>` and `<c/>`
pub b_is_b : Matches schema (leaf b none) ref_b
b_is_b = m_ref _ refl refl m_empty

pub c_is_c : Matches schema (leaf c none) ref_c
c_is_c = m_ref _ refl refl m_empty

-- the first tree is an element whose name is in the class of an element pattern
abbrev starts : Option ElementPattern → Trees → Bool
starts None h = false
starts (Some e) none = false
starts (Some e) (text s rest) = false
starts (Some e) (element n kids rest) = in_class e.names n

false_is_not_true : false ≡ true → ⊥
false_is_not_true e = search (e, rules)

-- what matches a reference begins with an element of its class
begins_in_class : (g : List ElementPattern) (h k : Trees) (r : ℕ) → Matches g h (p.ref r) → starts (element_at g r) (beside h k) ≡ true
begins_in_class g h k r (m_ref {n = n} {c = kids} e is named content) = ap (λ o. starts o (element n kids k)) is ∙ named

-- so what begins otherwise doesn't match
begins_otherwise : (l h k : Trees) (r : ℕ) → starts (element_at schema r) l ≡ false → l ≡ beside h k → Matches schema h (p.ref r) → ⊥
begins_otherwise l h k r other is one = false_is_not_true (sym other ∙ ap (starts (element_at schema r)) is ∙ begins_in_class schema h k r one)

-- `b | c`: `<c/>` by the second
pub choice_takes_its_second : Matches schema (leaf c none) (p.choice (two ref_b ref_c))
choice_takes_its_second = m_choice (there (here c_is_c))

-- `b | c`: `<b/>` by the first
pub choice_takes_its_first : Matches schema (leaf b none) (p.choice (two ref_b ref_c))
choice_takes_its_first = m_choice (here b_is_b)

-- `b | c`: not both, `<b/><c/>`
pub choice_refuses_both : Matches schema (leaf b (leaf c none)) (p.choice (two ref_b ref_c)) → ⊥
choice_refuses_both (m_choice (here h)) = elim h [ ]
choice_refuses_both (m_choice (there (here h))) = elim h [ ]
choice_refuses_both (m_choice (there (there h))) = elim h [ ]

-- `b, c`: `<b/><c/>`
pub group_takes_its_parts_in_order : Matches schema (leaf b (leaf c none)) (p.group (two ref_b ref_c))
group_takes_its_parts_in_order = m_group (order_more refl b_is_b (order_more refl c_is_c order_end))

-- `b, c`: not `<c/><b/>`
pub group_refuses_another_order : Matches schema (leaf c (leaf b none)) (p.group (two ref_b ref_c)) → ⊥
group_refuses_another_order (m_group (order_more is one others)) = begins_otherwise _ _ _ 1 refl is one

-- what stands beside the first tree
abbrev after_first : Trees → Trees
after_first none = none
after_first (text s rest) = rest
after_first (element n kids rest) = rest

-- `b, c`: not `<b/>` alone
pub group_refuses_a_part_too_few : Matches schema (leaf b none) (p.group (two ref_b ref_c)) → ⊥
group_refuses_a_part_too_few (m_group (order_more is (m_ref e at named content) (order_more also one others))) = begins_otherwise none _ _ 2 refl (ap after_first is ∙ also) one

-- `b, c`: not `<b/><c/><b/>`
pub group_refuses_a_tree_too_many : Matches schema (leaf b (leaf c (leaf b none))) (p.group (two ref_b ref_c)) → ⊥
group_refuses_a_tree_too_many (m_group (order_more is (m_ref e at named content) (order_more also (m_ref f at_f named_f content_f) order_end))) =
    false_is_not_true (ap (λ h. is_none (after_first h)) (ap after_first is ∙ also))

-- `empty`: nothing
pub empty_takes_nothing : Matches schema none p.empty
empty_takes_nothing = m_empty

-- `empty`: no text, of white space neither
pub empty_refuses_white_space : Matches schema (text (codes " ") none) p.empty → ⊥
empty_refuses_white_space h = elim h [ ]

-- `text`: nothing
pub text_takes_nothing : Matches schema none p.text
text_takes_nothing = m_text tt

-- `text`: several texts
pub text_takes_texts : Matches schema (x (x none)) p.text
text_takes_texts = m_text tt

-- `text`: no element beside a text, `x<b/>`
pub text_refuses_elements : Matches schema (x (leaf b none)) p.text → ⊥
text_refuses_elements (m_text h) = h

-- `b+`: `<b/>`
pub one_or_more_takes_one : Matches schema (leaf b none) (p.one_or_more ref_b)
one_or_more_takes_one = m_one_or_more (once b_is_b)

-- `b+`: `<b/><b/>`
pub one_or_more_takes_two : Matches schema (leaf b (leaf b none)) (p.one_or_more ref_b)
one_or_more_takes_two = m_one_or_more (again refl b_is_b (once b_is_b))

-- `b+`: not nothing
pub one_or_more_refuses_nothing : Matches schema none (p.one_or_more ref_b) → ⊥
one_or_more_refuses_nothing (m_one_or_more (once h)) = elim h [ ]
one_or_more_refuses_nothing (m_one_or_more (again is one others)) = begins_otherwise _ _ _ 1 refl is one

only_c_is_no_b : Repeated schema (leaf c none) ref_b → ⊥
only_c_is_no_b (once h) = begins_otherwise _ _ none 1 refl refl h
only_c_is_no_b (again is one others) = begins_otherwise _ _ _ 1 refl is one

-- `b+`: not `<b/><c/>`
pub one_or_more_refuses_another_later : Matches schema (leaf b (leaf c none)) (p.one_or_more ref_b) → ⊥
one_or_more_refuses_another_later (m_one_or_more (once h)) = elim h [ ]
one_or_more_refuses_another_later (m_one_or_more (again is (m_ref e at named content) others)) = only_c_is_no_b (subst (λ k. Repeated schema k ref_b) (sym (ap after_first is)) others)

-- `(b, c)+`: `<b/><c/><b/><c/>`
pub one_or_more_repeats_a_group : Matches schema (leaf b (leaf c (leaf b (leaf c none)))) (p.one_or_more (p.group (two ref_b ref_c)))
one_or_more_repeats_a_group = m_one_or_more (again {h = leaf b (leaf c none)} refl group_takes_its_parts_in_order (once group_takes_its_parts_in_order))

-- `b & c`: `<c/><b/>`
pub interleave_takes_another_order : Matches schema (leaf c (leaf b none)) (p.interleave (two ref_b ref_c))
interleave_takes_another_order = m_interleave (shuffled_more (right_element (left_element both_end)) b_is_b (shuffled_more (left_element both_end) c_is_c shuffled_end))

-- `b & c & text`: `x<c/>x<b/>`
pub interleave_takes_three_parts : Matches schema (x (leaf c (x (leaf b none)))) (p.interleave (more ref_b (two ref_c p.text)))
interleave_takes_three_parts =
    m_interleave (shuffled_more (right_text (right_element (right_text (left_element both_end)))) b_is_b
    (shuffled_more (right_text (left_element (right_text both_end))) c_is_c
    (shuffled_more (left_text (left_text both_end)) (m_text tt) shuffled_end)))

-- `b & c`: not `<b/>` alone
pub interleave_refuses_one_alone : Matches schema (leaf b none) (p.interleave (two ref_b ref_c)) → ⊥
interleave_refuses_one_alone (m_interleave (shuffled_more (left_element both_end) one (shuffled_more both_end other shuffled_end))) = elim other [ ]
interleave_refuses_one_alone (m_interleave (shuffled_more (right_element both_end) one others)) = elim one [ ]

-- `(b, c) & text`: `<b/>x<c/>`
pub interleave_puts_text_between : Matches schema (leaf b (x (leaf c none))) (p.interleave (two (p.group (two ref_b ref_c)) p.text))
interleave_puts_text_between = m_interleave (shuffled_more (left_element (right_text (left_element both_end))) group_takes_its_parts_in_order (shuffled_more (left_text both_end) (m_text tt) shuffled_end))

-- `element * - a { text }`: `<b>x</b>`
pub reference_takes_an_element_of_its_class : Matches schema (element b (x none) none) ref_not_a
reference_takes_an_element_of_its_class = m_ref _ refl refl (m_text tt)

-- `element * - a { text }`: not `<a>x</a>`, whose name isn't in the class
pub reference_refuses_another_name : Matches schema (element a (x none) none) ref_not_a → ⊥
reference_refuses_another_name h = begins_otherwise _ _ none 3 refl refl h

-- `b`: not `<b/><b/>`
pub reference_refuses_two_elements : Matches schema (leaf b (leaf b none)) ref_b → ⊥
reference_refuses_two_elements h = elim h [ ]

-- `b`: not `x`
pub reference_refuses_text : Matches schema (x none) ref_b → ⊥
reference_refuses_text h = elim h [ ]

-- element patterns are numbered from 1, so no element matches by a number 0
pub reference_to_none_refuses_all : (h : Trees) → Matches schema h (p.ref 0) → ⊥
reference_to_none_refuses_all h one = begins_otherwise (beside h none) h none 0 refl refl one

-- `notAllowed`: not anything
pub not_allowed_refuses_all : (h : Trees) → Matches schema h p.not_allowed → ⊥
not_allowed_refuses_all h one = elim one [ ]

-- `notAllowed | b`: what the other allows
pub not_allowed_leaves_the_other : Matches schema (leaf b none) (p.choice (two p.not_allowed ref_b))
not_allowed_leaves_the_other = m_choice (there (here b_is_b))

-- `b, notAllowed`: not anything
pub not_allowed_spoils_a_group : (h : Trees) → Matches schema h (p.group (two ref_b p.not_allowed)) → ⊥
not_allowed_spoils_a_group h (m_group (order_more is one (order_more also never others))) = elim never [ ]

-- `(b, c) & text`: not `<c/>x<b/>`, since a shuffle keeps the order of each part's items
pub interleave_keeps_each_order : Matches schema (leaf c (x (leaf b none))) (p.interleave (two (p.group (two ref_b ref_c)) p.text)) → ⊥
interleave_keeps_each_order (m_interleave (shuffled_more (left_element mixed) (m_group (order_more is one others)) texts)) = begins_otherwise (leaf c _) _ _ 1 refl is one
interleave_keeps_each_order (m_interleave (shuffled_more (right_element mixed) parts (shuffled_more (left_element rest) (m_text not_texts) shuffled_end))) = not_texts
interleave_keeps_each_order (m_interleave (shuffled_more (right_element mixed) parts (shuffled_more (right_element rest) texts left))) = elim left [ ]

-- `<b/>x<c/>x` is a shuffle of `<b/><c/>` and two texts
pub a_shuffle_keeps_each_order : Shuffle (leaf b (leaf c none)) (x (x none)) (leaf b (x (leaf c (x none))))
a_shuffle_keeps_each_order = left_element (right_text (left_element (right_text both_end)))

-- the content of an element pattern
abbrev content_at : Option ElementPattern → Pattern
content_at None = p.not_allowed
content_at (Some e) = e.content

children_match : (n : ExpandedName) (kids : Trees) (r : ℕ) → Matches schema (element n kids none) (p.ref r) → Matches schema kids (content_at (element_at schema r))
children_match n kids r (m_ref e is named content) = subst (λ q. Matches schema kids q) (sym (ap content_at is)) content

-- `element b { empty }`: not `<b><b/></b>`
pub reference_refuses_other_children : Matches schema (element b (leaf b none) none) ref_b → ⊥
reference_refuses_other_children h = let kids : Matches schema (leaf b none) p.empty = children_match b (leaf b none) 1 h in elim kids [ ]

-- Normal form

-- texts side by side are joined
pub texts_are_joined : normal_form (text (codes "x ") (text (codes "y") none)) ≡ text (codes "x y") none
texts_are_joined = refl

-- as many as there are
pub three_texts_are_joined : normal_form (x (x (x none))) ≡ text (codes "xxx") none
three_texts_are_joined = refl

-- texts beside an element stay apart, `x<a/>x`
pub texts_around_an_element_stay : normal_form (x (leaf a (x none))) ≡ x (leaf a (x none))
texts_around_an_element_stay = refl

-- a space, a tab, a line feed, a carriage return
pub white_space_is_dropped : normal_form (text (0x20 ∷ 0x9 ∷ 0xA ∷ 0xD ∷ []) (leaf a none)) ≡ leaf a none
white_space_is_dropped = refl

-- two texts of white space
pub pieces_of_white_space_are_dropped : normal_form (text (codes " ") (text (codes " ") none)) ≡ none
pieces_of_white_space_are_dropped = refl

-- texts are joined before they are looked at
pub white_space_beside_text_is_kept : normal_form (text (codes " ") (x (text (codes " ") none))) ≡ text (codes " x ") none
white_space_beside_text_is_kept = refl

-- but an element stands between, ` <a/>x`
pub white_space_apart_from_text_is_dropped : normal_form (text (codes " ") (leaf a (x none))) ≡ leaf a (x none)
white_space_apart_from_text_is_dropped = refl

-- U+00A0 is no white space
pub no_break_space_is_kept : normal_form (text (0xC2 ∷ 0xA0 ∷ []) none) ≡ text (0xC2 ∷ 0xA0 ∷ []) none
no_break_space_is_kept = refl

-- `<a> x<b> </b></a>`, its text in two pieces, becomes `<a> x<b/></a>`
pub children_are_normal_too :
    normal_form (element a (text (codes " ") (x (element b (text (codes " ") none) none))) none)
    ≡ element a (text (codes " x") (leaf b none)) none
children_are_normal_too = refl

-- no trees stay no trees
pub nothing_is_normal : normal_form none ≡ none
nothing_is_normal = refl

-- Lawful names and texts

-- a name without a namespace
pub a_is_a_name : IsName a
unfolding encode_utf8
a_is_a_name = ((([], refl, refl), λ e. false_is_not_true (ap (λ s. bytes_eq s xmlns_uri) e)), (0x61, [], refl, refl, refl))

-- and the two others
pub b_is_a_name : IsName b
unfolding encode_utf8
b_is_a_name = ((([], refl, refl), λ e. false_is_not_true (ap (λ s. bytes_eq s xmlns_uri) e)), (0x62, [], refl, refl, refl))

pub c_is_a_name : IsName c
unfolding encode_utf8
c_is_a_name = ((([], refl, refl), λ e. false_is_not_true (ap (λ s. bytes_eq s xmlns_uri) e)), (0x63, [], refl, refl, refl))

-- U+00E9 is in two bytes
pub a_name_may_have_other_letters : IsNcName (0xC3 ∷ 0xA9 ∷ codes "-1")
unfolding encode_utf8
a_name_may_have_other_letters = (0xE9, codes "-1", refl, refl, refl)

-- `p:a` is a name with a prefix, and no local part
pub no_name_has_a_colon : IsNcName (codes "p:a") → ⊥
unfolding encode_utf8
no_name_has_a_colon (d, ds, is, begins, goes_on) = false_is_not_true (sym (ap (λ cs. list_all is_ncname_char (drop 1 cs)) (encodes_same (d ∷ ds) (codes "p:a") is)) ∙ goes_on)

-- a digit may stand later
pub no_name_begins_with_a_digit : IsNcName (codes "1a") → ⊥
unfolding encode_utf8
no_name_begins_with_a_digit (d, ds, is, begins, goes_on) = false_is_not_true (sym (ap (λ cs. is_ncname_start (slice_index cs 0)) (encodes_same (d ∷ ds) (codes "1a") is)) ∙ begins)

-- a local part has a character
pub no_name_is_empty : IsNcName [] → ⊥
no_name_is_empty (d, ds, is, begins, goes_on) = false_is_not_true (ap (list_all (λ k. false)) (encodes_same (d ∷ ds) [] is))

-- `http://www.w3.org/2000/xmlns/` is no namespace of an element
pub no_name_is_in_the_namespace_of_declarations : IsNamespaceName xmlns_uri → ⊥
no_name_is_in_the_namespace_of_declarations h = h.1 refl

-- no text is empty
pub a_text_has_a_character : IsText [] → ⊥
a_text_has_a_character h = h.0 refl

-- U+FFFE
pub a_text_has_lawful_characters : IsText (0xEF ∷ 0xBF ∷ 0xBE ∷ []) → ⊥
unfolding encode_utf8
a_text_has_lawful_characters (some, (ds, is, lawful)) = false_is_not_true (sym (ap (list_all is_char) (encodes_same ds (0xFFFE ∷ []) is)) ∙ lawful)

-- U+D800, a surrogate
pub a_text_has_no_surrogate : IsText (0xED ∷ 0xA0 ∷ 0x80 ∷ []) → ⊥
unfolding encode_utf8
a_text_has_no_surrogate (some, (ds, is, lawful)) = false_is_not_true (sym (ap (list_all is_char) (encodes_same ds (0xD800 ∷ []) is)) ∙ lawful)

-- one letter
pub x_is_a_text : IsText (codes "x")
unfolding encode_utf8
x_is_a_text = ((λ e. false_is_not_true (ap (list_all (λ k. false)) e)), (codes "x", refl, refl))

-- Documents

-- `<a>x<b/></a>`
pub one_element_is_a_document : IsDocument (element a (x (leaf b none)) none)
one_element_is_a_document = (refl, (a_is_a_name, (x_is_a_text, (b_is_a_name, tt, tt)), tt), refl)

-- `<a/><a/>`
pub two_roots_are_no_document : IsDocument (leaf a (leaf a none)) → ⊥
two_roots_are_no_document h = false_is_not_true (ap is_none h.0)

-- `x`
pub a_text_is_no_document : IsDocument (x none) → ⊥
a_text_is_no_document h = h.0

-- `x<a/>`
pub text_before_the_root_is_no_document : IsDocument (x (leaf a none)) → ⊥
text_before_the_root_is_no_document h = h.0

-- `<a/>x`
pub text_after_the_root_is_no_document : IsDocument (leaf a (x none)) → ⊥
text_after_the_root_is_no_document h = false_is_not_true (ap is_none h.0)

-- a document has a root
pub nothing_is_no_document : IsDocument none → ⊥
nothing_is_no_document h = h.0

-- `<a> </a>`
pub white_space_inside_is_no_document : IsDocument (element a (text (codes " ") none) none) → ⊥
white_space_inside_is_no_document h = false_is_not_true (ap (λ d. node_count d == 2) h.2)

-- `<a>xx</a>`, its text in two pieces
pub texts_side_by_side_are_no_document : IsDocument (element a (x (x none)) none) → ⊥
texts_side_by_side_are_no_document h = false_is_not_true (ap (λ d. node_count d == 3) h.2)

-- an element of the namespace of declarations
pub an_unlawful_name_is_no_document : IsDocument (leaf (record { uri = xmlns_uri; local = codes "a" }) none) → ⊥
an_unlawful_name_is_no_document h = h.1.0.0.1 refl

-- Schemas and validity

-- `start = element a { b & c }`
abbrev pub of_a : Grammar
of_a = record { start = ref_a; elements = schema }

-- `start = b, text, c`
abbrev pub of_b_text_c : Grammar
of_b_text_c = record { start = p.group (more ref_b (more p.text (more ref_c no_more))); elements = schema }

abbrev has_no_member : Patterns → Bool
has_no_member no_more = true
has_no_member (more q qs) = false

at_most_four : (k : ℕ) → suc (suc (suc (suc k))) < 4 → ⊥
at_most_four k h = omega (arith, h)

some_patterns : {q : Pattern} {qs : Patterns} → more q qs ≡ no_more → ⊥
some_patterns e = false_is_not_true (ap has_no_member e)

lawful_element_patterns : All (IsElementPattern 4) schema
lawful_element_patterns zero d h = (b_is_a_name, tt)
lawful_element_patterns (suc zero) d h = (c_is_a_name, tt)
lawful_element_patterns (suc (suc zero)) d h = ((a_is_a_name, tt), tt)
lawful_element_patterns (suc (suc (suc zero))) d h = (a_is_a_name, (some_patterns, ((omega arith, omega arith), ((omega arith, omega arith), tt))))
lawful_element_patterns (suc (suc (suc (suc k)))) d h = absurd (at_most_four k h)

-- each name is lawful, no list is empty, each reference leads to an element pattern
pub the_schema_is_well_formed : IsGrammar of_a
the_schema_is_well_formed = ((omega arith, omega arith), lawful_element_patterns)

-- a group, a choice or an interleave has a member
pub no_group_is_without_a_member : IsPattern 4 (p.group no_more) → ⊥
no_group_is_without_a_member h = h.0 refl

pub no_choice_is_without_a_member : IsPattern 4 (p.one_or_more (p.choice no_more)) → ⊥
no_choice_is_without_a_member h = h.0 refl

pub no_interleave_is_without_a_member : IsPattern 4 (p.group (more p.text (more (p.interleave no_more) no_more))) → ⊥
no_interleave_is_without_a_member h = h.1.1.0.0 refl

-- references are from 1
pub no_reference_is_to_zero : IsPattern 4 (p.ref 0) → ⊥
no_reference_is_to_zero h = omega (arith, h.0)

-- and to no more than there are
pub no_reference_is_beyond_the_last : IsPattern 4 (p.ref 5) → ⊥
no_reference_is_beyond_the_last h = omega (arith, h.1)

-- `<a><c/><b/></a>`
pub children_in_any_order_are_valid : IsValid of_a (element a (leaf c (leaf b none)) none)
children_in_any_order_are_valid = ((refl, (a_is_a_name, (c_is_a_name, tt, (b_is_a_name, tt, tt)), tt), refl), m_ref _ refl refl interleave_takes_another_order)

-- `<a><b/></a>`
pub a_child_too_few_is_not_valid : IsValid of_a (element a (leaf b none) none) → ⊥
a_child_too_few_is_not_valid h = interleave_refuses_one_alone (children_match a (leaf b none) 4 h.1)

-- `<b/>`
pub another_root_is_not_valid : IsValid of_a (leaf b none) → ⊥
another_root_is_not_valid h = begins_otherwise _ _ none 4 refl refl h.1

-- `start = element * - a { text }`
abbrev pub of_not_a : Grammar
of_not_a = record { start = ref_not_a; elements = schema }

-- `<b> </b>` matches the start
pub white_space_inside_matches : Matches schema (element b (text (codes " ") none) none) of_not_a.start
white_space_inside_matches = m_ref _ refl refl (m_text tt)

-- but isn't valid, since it is no document
pub white_space_inside_is_not_valid : IsValid of_not_a (element b (text (codes " ") none) none) → ⊥
white_space_inside_is_not_valid h = false_is_not_true (ap (λ d. node_count d == 2) h.0.2)

-- put out, `<b> </b>` becomes `<b/>`, which is valid
pub white_space_inside_is_valid_output : IsValidOutput of_not_a (element b (text (codes " ") none) none)
white_space_inside_is_valid_output = m_ref _ refl refl (m_text tt)

-- white space around `<a><c/><b/></a>` is dropped from what is put out
pub white_space_around_is_valid_output : IsValidOutput of_a (text (codes " ") (element a (leaf c (leaf b none)) (text (codes " ") none)))
white_space_around_is_valid_output = m_ref _ refl refl interleave_takes_another_order

-- `<b/>x<c/>`: what is put out need not be a document
pub two_roots_can_be_valid_output : IsValidOutput of_b_text_c (leaf b (x (leaf c none)))
two_roots_can_be_valid_output = m_group (order_more refl b_is_b (order_more {h = x none} refl (m_text tt) (order_more refl c_is_c order_end)))

-- nothing is put out where an element is wanted
pub nothing_is_not_valid_output : IsValidOutput of_a none → ⊥
nothing_is_not_valid_output h = elim h [ ]

-- Printing

-- `<a/>`
pub prints_an_empty_element : printed (leaf a none) ≡ codes "<a/>"
prints_an_empty_element = refl

-- between a start tag and an end tag
pub prints_children : printed (element a (leaf b (leaf c none)) none) ≡ codes "<a><b/><c/></a>"
prints_children = refl

-- two elements with a text between
pub prints_trees_one_after_the_other : printed (leaf a (x (leaf b none))) ≡ codes "<a/>x<b/>"
prints_trees_one_after_the_other = refl

-- no trees, no bytes
pub prints_nothing : printed none ≡ []
prints_nothing = refl

-- what `<p:a xmlns:p="u">x &lt; y<b/></p:a>` is read as
pub prints_namespaces_as_defaults :
    printed (element p_a (text (codes "x < y") (leaf b none)) none)
    ≡ codes "<a xmlns=\"u\">x &lt; y<b xmlns=\"\"/></a>"
prints_namespaces_as_defaults = refl

-- a declaration reaches what is within, until the next
pub declares_where_the_namespace_changes :
    printed (element p_a (leaf p_n (element q_n (leaf q_n none) (leaf p_n none))) none)
    ≡ codes "<a xmlns=\"u\"><n/><n xmlns=\"v\"><n/></n><n/></a>"
declares_where_the_namespace_changes = refl

-- and not what stands beside
pub declares_again_beside : printed (leaf p_a (leaf b (leaf p_a none))) ≡ codes "<a xmlns=\"u\"/><b/><a xmlns=\"u\"/>"
declares_again_beside = refl

-- the prefix xml needs no declaration, and leaves the default as it is
pub prints_the_prefix_xml :
    printed (element p_a (element (record { uri = xml_uri; local = codes "n" }) (leaf p_n (leaf b none)) none) none)
    ≡ codes "<a xmlns=\"u\"><xml:n><n/><b xmlns=\"\"/></xml:n></a>"
prints_the_prefix_xml = refl

-- in a text `&`, `<`, `>`, a line feed and a carriage return
pub escapes_in_a_text :
    printed (text (0x26 ∷ 0x3C ∷ 0x3E ∷ 0xA ∷ 0xD ∷ []) none) ≡ codes "&amp;&lt;&gt;&#10;&#13;"
escapes_in_a_text = refl

-- and no others: a tab, quotes, an apostrophe, U+00E9
pub leaves_the_rest_of_a_text :
    printed (text (0x9 ∷ 0x22 ∷ 0x27 ∷ 0xC3 ∷ 0xA9 ∷ []) none) ≡ 0x9 ∷ 0x22 ∷ 0x27 ∷ 0xC3 ∷ 0xA9 ∷ []
leaves_the_rest_of_a_text = refl

-- in a namespace name `&`, `<`, double quotes, a tab, a line feed and a carriage return
pub escapes_in_a_namespace_name :
    printed (leaf (record { uri = 0x26 ∷ 0x3C ∷ 0x22 ∷ 0x9 ∷ 0xA ∷ 0xD ∷ []; local = codes "a" }) none)
    ≡ codes "<a xmlns=\"&amp;&lt;&quot;&#9;&#10;&#13;\"/>"
escapes_in_a_namespace_name = refl

-- and no others: `>`, an apostrophe, a space
pub leaves_the_rest_of_a_namespace_name :
    printed (leaf (record { uri = codes "> '"; local = codes "a" }) none) ≡ codes "<a xmlns=\"> '\"/>"
leaves_the_rest_of_a_namespace_name = refl
