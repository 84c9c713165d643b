-- Node tests and attribute steps at the front of tokens.
use Rattle.std.proofs.Common.{◌≡◌, ℕ, ◌<◌, true, false, ◌==◌, List, [], ◌∷◌, refl, ap, ◌∙◌, sym, subst, length, map, arith, Option, None, Some, Result, Ok, Err}
use Rattle.std.specs.Prelude.{codes, MatchResult}
use Rattle.std.proofs.lemmas.Bool.{true≢false, eqb-true}
use Rattle.std.proofs.lemmas.List.{length-map}
use Rattle.tc_model.specs.Names.{ExpandedName}
use Rattle.tc_model.specs.RawTrees.{Bound}
use Rattle.tc_model.specs.Sheets.{NodeTest, of_name, of_namespace, any_element, any_text, any_node}
use Rattle.tc_model.specs.XmlTextNames.{QualifiedName}
use Rattle.tc_model.specs.XmlTextScopes.{uri_of}
use Rattle.tc_model.specs.PathTextTokens.{star, at, open_parenthesis, close_parenthesis, colons, Token, name, all_of_prefix, mark}
use Rattle.tc_model.specs.PathTextPhrases as p
use Rattle.tc_model.specs.PathTextPhrases.{word, EndsNameTest, NameMeans, without_prefix, with_prefix, NodeTestAt, ChildAt, AttributeTestAt, AttributeAt, OtherNodeAt}
use Rattle.tc_path.specs.declared.token.Token.{Token as CodeToken}
use Rattle.tc_path.specs.declared.PathFault.{PathFault}
use Rattle.tc_path.specs.declared.PathFault.TheVariants as faults
use Rattle.tc_path.specs.Views.{token}
use Rattle.tc_path.specs.Faults.{OrNoMemory}
use Rattle.tc_model.proofs.PathTextUnique.{no_axis}
use Rattle.tc_path.proofs.TokenLaws.{no_length}

some_none : {X : Type 0} {c : X} {o : Option X} → o ≡ Some c → o ≡ None → ⊥
some_none p q = cc

-- the tokens behind the first
tail : List Token → List Token
tail [] = []
tail (t ∷ ts) = ts

pub same_tail : {t u : Token} {ts us : List Token} → t ∷ ts ≡ u ∷ us → ts ≡ us
unfolding tail
same_tail e = ap tail e

pub or_memory : {P Q : Type 0} (e : PathFault) → (P → Q) → OrNoMemory e P → OrNoMemory e Q
or_memory faults.Malformed f h = f h
or_memory (faults.Unsupported why) f h = f h
or_memory faults.TooDeep f h = f h
or_memory faults.NoMemory f h = tt

-- the same of what is read and of what is refused
pub map_read : {T : Type 0} {R S : T → Type 0} {P Q : Type 0} (r : Result T PathFault) → ((x : T) → R x → S x) → (P → Q) → MatchResult r R (λ e. OrNoMemory e P) → MatchResult r S (λ e. OrNoMemory e Q)
map_read (Ok v) f g h = f v h
map_read (Err e) f g h = or_memory e g h

pub first_seen : (ts rest : List CodeToken) (first : CodeToken) {x : Token} → ts ≡ first ∷ rest → token first ≡ x → map token ts ≡ x ∷ map token rest
first_seen ts rest first e f = ap (map token) e ∙ ap (λ w. w ∷ map token rest) f

-- what a name means as a name test
pub means_without : (scope : List Bound) (prefix local : List ℕ) → (length prefix == 0) ≡ true → NameMeans scope (record { prefix = prefix; local = local }) (record { uri = []; local = local })
means_without scope prefix local e =
    subst (λ w. NameMeans scope (record { prefix = w; local = local }) (record { uri = []; local = local })) (sym (no_length prefix (eqb-true (length prefix) 0 e))) without_prefix

pub means_with : (scope : List Bound) (prefix local uri : List ℕ) → (length prefix == 0) ≡ false → uri_of scope prefix ≡ Some uri → NameMeans scope (record { prefix = prefix; local = local }) (record { uri = uri; local = local })
means_with scope [] local uri e f = absurd (true≢false e)
means_with scope (b ∷ bs) local uri e f = with_prefix f

pub means_nothing : {scope : List Bound} {n : QualifiedName} → (length n.prefix == 0) ≡ false → uri_of scope n.prefix ≡ None → (m : ExpandedName) → NameMeans scope n m → ⊥
means_nothing e f m without_prefix = true≢false e
means_nothing e f m (with_prefix g) = some_none g f

none_of_prefix : {scope : List Bound} {prefix : List ℕ} {rest r : List Token} → uri_of scope prefix ≡ None → AttributeTestAt scope (all_of_prefix prefix ∷ rest) r → ⊥
none_of_prefix f (p.AttributeTestAt.a_namespace e) = some_none e f

none_of_name : {scope : List Bound} {n : QualifiedName} {rest r : List Token} → ((m : ExpandedName) → NameMeans scope n m → ⊥) → AttributeTestAt scope (name n ∷ rest) r → ⊥
none_of_name f (p.AttributeTestAt.a_name {m = m} a) = f m a

unspelled : {scope : List Bound} {rest after : List Token} {t : NodeTest} → ChildAt scope (word (codes "child") ∷ mark colons ∷ rest) t after → NodeTestAt scope rest t after
unspelled (p.ChildAt.abbreviated a) = absurd (no_axis a)
unspelled (p.ChildAt.spelled b) = b

module _ (scope : List Bound) where
  pub a_star_test : (ts rest : List Token) → ts ≡ mark star ∷ rest → NodeTestAt scope ts any_element rest
  a_star_test ts rest e = subst (λ w. NodeTestAt scope w any_element rest) (sym e) p.NodeTestAt.a_star

  pub a_namespace_test : (ts rest : List Token) (prefix uri : List ℕ) → ts ≡ all_of_prefix prefix ∷ rest → uri_of scope prefix ≡ Some uri → NodeTestAt scope ts (of_namespace uri) rest
  a_namespace_test ts rest prefix uri e f = subst (λ w. NodeTestAt scope w (of_namespace uri) rest) (sym e) (p.NodeTestAt.a_namespace f)

  pub a_name_test : (ts rest : List Token) (n : QualifiedName) (uri local : List ℕ) → ts ≡ name n ∷ rest → NameMeans scope n (record { uri = uri; local = n.local }) → EndsNameTest rest → local ≡ n.local
      → NodeTestAt scope ts (of_name (record { uri = uri; local = local })) rest
  a_name_test ts rest n uri local e f g h =
      subst (λ w. NodeTestAt scope ts (of_name (record { uri = uri; local = w })) rest) (sym h)
      (subst (λ w. NodeTestAt scope w (of_name (record { uri = uri; local = n.local })) rest) (sym e) (p.NodeTestAt.a_name f g))

  -- the tests of attribute steps
  pub attribute_star : (ts rest : List Token) → ts ≡ mark star ∷ rest → AttributeTestAt scope ts rest
  attribute_star ts rest e = subst (λ w. AttributeTestAt scope w rest) (sym e) p.AttributeTestAt.a_star

  pub attribute_namespace : (ts rest : List Token) (prefix uri : List ℕ) → ts ≡ all_of_prefix prefix ∷ rest → uri_of scope prefix ≡ Some uri → AttributeTestAt scope ts rest
  attribute_namespace ts rest prefix uri e f = subst (λ w. AttributeTestAt scope w rest) (sym e) (p.AttributeTestAt.a_namespace f)

  pub attribute_name : (ts rest : List Token) (n : QualifiedName) (m : ExpandedName) → ts ≡ name n ∷ rest → NameMeans scope n m → AttributeTestAt scope ts rest
  attribute_name ts rest n m e f = subst (λ w. AttributeTestAt scope w rest) (sym e) (p.AttributeTestAt.a_name f)

  pub no_attribute_namespace : (ts rest : List Token) (prefix : List ℕ) → ts ≡ all_of_prefix prefix ∷ rest → uri_of scope prefix ≡ None → (r : List Token) → AttributeTestAt scope ts r → ⊥
  no_attribute_namespace ts rest prefix e f r a = none_of_prefix f (subst (λ w. AttributeTestAt scope w r) e a)

  pub no_attribute_name : (ts rest : List Token) (n : QualifiedName) → ts ≡ name n ∷ rest → ((m : ExpandedName) → NameMeans scope n m → ⊥) → (r : List Token) → AttributeTestAt scope ts r → ⊥
  no_attribute_name ts rest n e f r a = none_of_name f (subst (λ w. AttributeTestAt scope w r) e a)

  pub a_text_test : (ts rest : List Token) → ts ≡ word (codes "text") ∷ mark open_parenthesis ∷ mark close_parenthesis ∷ rest → NodeTestAt scope ts any_text rest
  a_text_test ts rest e = subst (λ w. NodeTestAt scope w any_text rest) (sym e) p.NodeTestAt.a_text

  pub a_node_test : (ts rest : List Token) → ts ≡ word (codes "node") ∷ mark open_parenthesis ∷ mark close_parenthesis ∷ rest → NodeTestAt scope ts any_node rest
  a_node_test ts rest e = subst (λ w. NodeTestAt scope w any_node rest) (sym e) p.NodeTestAt.a_node

  pub a_spelled_child : (ts rest after : List Token) (t : NodeTest) → ts ≡ word (codes "child") ∷ mark colons ∷ rest → NodeTestAt scope rest t after → ChildAt scope ts t after
  a_spelled_child ts rest after t e a = subst (λ w. ChildAt scope w t after) (sym e) (p.ChildAt.spelled a)

  pub no_child : (ts : List Token) → ((r : List Token) → ts ≡ word (codes "child") ∷ mark colons ∷ r → ⊥) → ((t : NodeTest) (after : List Token) → NodeTestAt scope ts t after → ⊥) → (t : NodeTest) (after : List Token)
      → ChildAt scope ts t after → ⊥
  no_child ts h k t after (p.ChildAt.abbreviated a) = k t after a
  no_child ts h k t after (p.ChildAt.spelled {ts = r} a) = h r refl

  pub no_spelled_child : (ts rest : List Token) → ts ≡ word (codes "child") ∷ mark colons ∷ rest → ((t : NodeTest) (after : List Token) → NodeTestAt scope rest t after → ⊥) → (t : NodeTest) (after : List Token)
      → ChildAt scope ts t after → ⊥
  no_spelled_child ts rest e h t after a = h t after (unspelled (subst (λ w. ChildAt scope w t after) e a))

  pub a_spelled_attribute : (ts rest after : List Token) → ts ≡ word (codes "attribute") ∷ mark colons ∷ rest → AttributeTestAt scope rest after → AttributeAt scope ts after
  a_spelled_attribute ts rest after e a = subst (λ w. AttributeAt scope w after) (sym e) (p.AttributeAt.spelled a)

  pub an_attribute : (ts rest after : List Token) → ts ≡ mark at ∷ rest → AttributeTestAt scope rest after → AttributeAt scope ts after
  an_attribute ts rest after e a = subst (λ w. AttributeAt scope w after) (sym e) (p.AttributeAt.abbreviated a)

  -- an attribute step is spelled in one of two ways
  pub no_attribute : (ts : List Token) → ((r : List Token) → ts ≡ mark at ∷ r → ⊥) → ((r : List Token) → ts ≡ word (codes "attribute") ∷ mark colons ∷ r → ⊥) → (after : List Token) → AttributeAt scope ts after → ⊥
  no_attribute ts h k after (p.AttributeAt.abbreviated {ts = r} a) = h r refl
  no_attribute ts h k after (p.AttributeAt.spelled {ts = r} a) = k r refl

  pub no_at_test : (ts rest : List Token) → ts ≡ mark at ∷ rest → ((r : List Token) → AttributeTestAt scope rest r → ⊥) → (after : List Token) → AttributeAt scope ts after → ⊥
  no_at_test ts rest e h after a = none (subst (λ w. AttributeAt scope w after) e a)
    where
      none : AttributeAt scope (mark at ∷ rest) after → ⊥
      none (p.AttributeAt.abbreviated b) = h after b

  pub no_spelled_test : (ts rest : List Token) → ts ≡ word (codes "attribute") ∷ mark colons ∷ rest → ((r : List Token) → AttributeTestAt scope rest r → ⊥) → (after : List Token) → AttributeAt scope ts after → ⊥
  no_spelled_test ts rest e h after a = none (subst (λ w. AttributeAt scope w after) e a)
    where
      none : AttributeAt scope (word (codes "attribute") ∷ mark colons ∷ rest) after → ⊥
      none (p.AttributeAt.spelled b) = h after b

-- what follows a token, or a phrase, is shorter
pub shorter_by : (ts rest : List CodeToken) {x : Token} → map token ts ≡ x ∷ map token rest → length rest < length ts
shorter_by ts rest e = omega (arith, ap length e, length-map ts token, length-map rest token)

pub shorter_by_two : (ts rest : List CodeToken) {x y : Token} → map token ts ≡ x ∷ y ∷ map token rest → length rest < length ts
shorter_by_two ts rest e = omega (arith, ap length e, length-map ts token, length-map rest token)

pub shorter_by_three : (ts rest : List CodeToken) {x y z : Token} → map token ts ≡ x ∷ y ∷ z ∷ map token rest → length rest < length ts
shorter_by_three ts rest e = omega (arith, ap length e, length-map ts token, length-map rest token)

attribute_test_less : {scope : List Bound} {ts r : List Token} → AttributeTestAt scope ts r → length r < length ts
attribute_test_less (p.AttributeTestAt.a_name a) = omega arith
attribute_test_less (p.AttributeTestAt.a_namespace e) = omega arith
attribute_test_less p.AttributeTestAt.a_star = omega arith

attribute_less : {scope : List Bound} {ts r : List Token} → AttributeAt scope ts r → length r < length ts
attribute_less (p.AttributeAt.abbreviated a) = omega (arith, attribute_test_less a)
attribute_less (p.AttributeAt.spelled a) = omega (arith, attribute_test_less a)

pub attribute_shorter : {scope : List Bound} (ts rest : List CodeToken) → AttributeAt scope (map token ts) (map token rest) → length rest < length ts
attribute_shorter ts rest a = omega (arith, attribute_less a, length-map ts token, length-map rest token)

other_less : {ts r : List Token} → OtherNodeAt ts r → length r < length ts
other_less p.OtherNodeAt.a_comment = omega arith
other_less p.OtherNodeAt.an_instruction = omega arith

pub other_shorter : (ts rest : List CodeToken) → OtherNodeAt (map token ts) (map token rest) → length rest < length ts
other_shorter ts rest a = omega (arith, other_less a, length-map ts token, length-map rest token)
