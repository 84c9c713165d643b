-- Declarations and name classes in compact syntax have one reading.
use Rattle.std.proofs.Common.{◌||◌, ◌≡◌, ℕ, ◌+◌, Bool, true, false, cond, ◌==◌, List, [], ◌∷◌, refl, ap, ◌∙◌, sym, subst, Option, None, Some, bytes_eq}
use Rattle.std.specs.Prelude.{codes}
use Rattle.tc_model.specs.Names.{ExpandedName}
use Rattle.tc_model.specs.RawTrees.{Bound}
use Rattle.tc_model.specs.XmlTextScopes.{uri_of}
use Rattle.tc_model.specs.CompactSyntaxTrees.{SyntaxClass, of_name, of_namespace, any_name, one_of, SyntaxClasses, no_class, class}
use Rattle.tc_model.specs.CompactSyntaxTokens.{Word, a_name, escaped, prefixed, all_of, literal, long_literal, mark, Token}
use Rattle.tc_model.specs.CompactSyntaxPatterns.{is_datum}
use Rattle.std.proofs.lemmas.Bool.{false≢true, eq-eqb}
use Rattle.std.proofs.lemmas.Slice.Eq.{bytes_eq-Decides}
use Rattle.tc_model.specs.CompactSyntaxNames.{is_keyword, IsMark, identifier, identifier_or_keyword, IsLiteral, bound_to, DeclarationAt, namespace, default_namespace, both, datatypes, name_in, LacksMark, ClassAt, alone, several, ClassesAt, last, more, SimpleAt, name, whole_namespace, any, parentheses, ExceptAt, nothing, except}

pub same_some : {X : Type 0} {c d : X} {o : Option X} → o ≡ Some c → o ≡ Some d → c ≡ d
same_some p q = cc

pub some_none : {X : Type 0} {c : X} {o : Option X} → o ≡ Some c → o ≡ None → ⊥
some_none p q = cc

-- one number isn't two
pub apart : {n k l : ℕ} → n ≡ k → n ≡ l → (k == l) ≡ false → ⊥
apart {n} {k} {l} e f differ = false≢true (sym differ ∙ eq-eqb k l (sym e ∙ f))

-- the first of equal tokens, and the others
head : Token → List Token → Token
head t [] = t
head t (u ∷ us) = u

tail : List Token → List Token
tail [] = []
tail (u ∷ us) = us

pub same_head : {t u : Token} {ts us : List Token} → t ∷ ts ≡ u ∷ us → t ≡ u
unfolding head
same_head {t} e = ap (head t) e

pub same_tail : {t u : Token} {ts us : List Token} → t ∷ ts ≡ u ∷ us → ts ≡ us
unfolding tail
same_tail e = ap tail e

-- What begins with a word: 1 to 9 patterns, 7 being a reference and 9 data, and definitions 7, 10 and 11.
unfoldable pub keyword_kind : List ℕ → ℕ
keyword_kind n =
    cond (bytes_eq n (codes "element")) 1 (cond (bytes_eq n (codes "attribute")) 2 (cond (bytes_eq n (codes "mixed")) 3
    (cond (bytes_eq n (codes "empty")) 4 (cond (bytes_eq n (codes "text")) 5 (cond (bytes_eq n (codes "notAllowed")) 6
    (cond (bytes_eq n (codes "start")) 10 (cond (bytes_eq n (codes "div")) 11 (cond (bytes_eq n (codes "grammar")) 12
    (cond (bytes_eq n (codes "namespace")) 13 (cond (bytes_eq n (codes "default")) 14 (cond (bytes_eq n (codes "datatypes")) 15
    (cond (bytes_eq n (codes "string")) 9 (cond (bytes_eq n (codes "token")) 9 20)))))))))))))

unfoldable pub word_kind : Word → ℕ
word_kind (a_name n) = cond (is_keyword n) (keyword_kind n) 7
word_kind (escaped n) = 7
word_kind (prefixed p n) = 9
word_kind (all_of p) = 20
word_kind (literal s) = 9
word_kind (long_literal s) = 20
word_kind (mark c) = cond (c == 0x28) 8 (cond (c == 0x7D) 21 20)

unfoldable pub kind_at : List Token → ℕ
kind_at [] = 0
kind_at (t ∷ ts) = word_kind t.word

-- each keyword that begins a phrase has its kind
pub element_kind : {w : Word} → w ≡ a_name (codes "element") → word_kind w ≡ 1
unfolding word_kind keyword_kind
element_kind e = ap word_kind e

pub attribute_kind : {w : Word} → w ≡ a_name (codes "attribute") → word_kind w ≡ 2
unfolding word_kind keyword_kind
attribute_kind e = ap word_kind e

pub mixed_kind : {w : Word} → w ≡ a_name (codes "mixed") → word_kind w ≡ 3
unfolding word_kind keyword_kind
mixed_kind e = ap word_kind e

pub empty_kind : {w : Word} → w ≡ a_name (codes "empty") → word_kind w ≡ 4
unfolding word_kind keyword_kind
empty_kind e = ap word_kind e

pub text_kind : {w : Word} → w ≡ a_name (codes "text") → word_kind w ≡ 5
unfolding word_kind keyword_kind
text_kind e = ap word_kind e

pub not_allowed_kind : {w : Word} → w ≡ a_name (codes "notAllowed") → word_kind w ≡ 6
unfolding word_kind keyword_kind
not_allowed_kind e = ap word_kind e

pub start_kind : {w : Word} → w ≡ a_name (codes "start") → word_kind w ≡ 10
unfolding word_kind keyword_kind
start_kind e = ap word_kind e

pub div_kind : {w : Word} → w ≡ a_name (codes "div") → word_kind w ≡ 11
unfolding word_kind keyword_kind
div_kind e = ap word_kind e

pub grammar_kind : {w : Word} → w ≡ a_name (codes "grammar") → word_kind w ≡ 12
unfolding word_kind keyword_kind
grammar_kind e = ap word_kind e

pub namespace_kind : {w : Word} → w ≡ a_name (codes "namespace") → word_kind w ≡ 13
unfolding word_kind keyword_kind
namespace_kind e = ap word_kind e

pub default_kind : {w : Word} → w ≡ a_name (codes "default") → word_kind w ≡ 14
unfolding word_kind keyword_kind
default_kind e = ap word_kind e

pub datatypes_kind : {w : Word} → w ≡ a_name (codes "datatypes") → word_kind w ≡ 15
unfolding word_kind keyword_kind
datatypes_kind e = ap word_kind e

pub identifier_kind : (w : Word) {n : List ℕ} → identifier w ≡ Some n → word_kind w ≡ 7
unfolding word_kind
identifier_kind (a_name m) {n} e = by (is_keyword m) e
  where
    by : (x : Bool) → cond x None (Some m) ≡ Some n → cond x (keyword_kind m) 7 ≡ 7
    by true e = absurd (some_none e refl)
    by false e = refl
identifier_kind (escaped m) e = refl
identifier_kind (prefixed p m) e = absurd (some_none e refl)
identifier_kind (all_of p) e = absurd (some_none e refl)
identifier_kind (literal s) e = absurd (some_none e refl)
identifier_kind (long_literal s) e = absurd (some_none e refl)
identifier_kind (mark c) e = absurd (some_none e refl)

pub datum_kind : (w : Word) → is_datum w ≡ true → word_kind w ≡ 9
unfolding word_kind keyword_kind
datum_kind (a_name n) e = by (bytes_eq n (codes "string")) refl e
  where
    named : (s : List ℕ) → word_kind (a_name s) ≡ 9 → bytes_eq n s ≡ true → word_kind (a_name n) ≡ 9
    named s is e = subst (λ w. word_kind (a_name w) ≡ 9) (sym ((bytes_eq-Decides n s).0 e)) is

    by : (x : Bool) → bytes_eq n (codes "string") ≡ x → (x || bytes_eq n (codes "token")) ≡ true → word_kind (a_name n) ≡ 9
    by true f e = named (codes "string") refl f
    by false f e = named (codes "token") refl e
datum_kind (escaped m) e = absurd (false≢true e)
datum_kind (prefixed p m) e = refl
datum_kind (all_of p) e = absurd (false≢true e)
datum_kind (literal s) e = refl
datum_kind (long_literal s) e = absurd (false≢true e)
datum_kind (mark c) e = absurd (false≢true e)

quoted : Word → List ℕ
quoted (literal s) = s
quoted _ = []

pub literal_unique : {u v : List ℕ} {t : Token} → IsLiteral u t → IsLiteral v t → u ≡ v
unfolding quoted
literal_unique a b = ap quoted (sym a.word ∙ b.word)

pub no_equals : {w : Word} {p : List ℕ} → w ≡ mark 0x3D → identifier_or_keyword w ≡ Some p → ⊥
no_equals e f = some_none f (ap identifier_or_keyword e)

-- the kind of a declaration by its rule
unfoldable pub declares : {scope within : List Bound} {ts rest : List Token} → DeclarationAt scope ts within rest → ℕ
declares (namespace a b c d e) = 13
declares (default_namespace a b c d e) = 14
declares (both a b c d e f g) = 14
declares (datatypes a b c d) = 15

pub declared_kind : {scope within : List Bound} {ts rest : List Token} (a : DeclarationAt scope ts within rest) → kind_at ts ≡ declares a
unfolding declares kind_at
declared_kind (namespace a b c d e) = namespace_kind a
declared_kind (default_namespace a b c d e) = default_kind a
declared_kind (both a b c d e f g) = default_kind a
declared_kind (datatypes a b c d) = datatypes_kind a

pub declaration_kind : {scope within : List Bound} {ts rest : List Token} → DeclarationAt scope ts within rest → (k : ℕ) × (kind_at ts ≡ 13 + k)
unfolding kind_at
declaration_kind (namespace a b c d e) = (0, namespace_kind a)
declaration_kind (default_namespace a b c d e) = (1, default_kind a)
declaration_kind (both a b c d e f g) = (1, default_kind a)
declaration_kind (datatypes a b c d) = (2, datatypes_kind a)

pub declaration_unique : {scope m n : List Bound} {ts r s : List Token} → DeclarationAt scope ts m r → DeclarationAt scope ts n s → (m ≡ n) × (r ≡ s)
unfolding declares
declaration_unique {scope} (namespace {uri = u} a b c d e) (namespace {prefix = q} a' b' c' d' e') =
    (ap (λ p. bound_to p u ∷ scope) (same_some b b') ∙ ap (λ w. bound_to q w ∷ scope) (literal_unique d d'), refl)
declaration_unique {scope} (default_namespace a b c d e) (default_namespace a' b' c' d' e') = (ap (λ w. bound_to [] w ∷ scope) (literal_unique d d'), refl)
declaration_unique (default_namespace a b c d e) (both a' b' c' d' e' f' g') = absurd (no_equals c c')
declaration_unique (both a' b' c' d' e' f' g') (default_namespace a b c d e) = absurd (no_equals c c')
declaration_unique {scope} (both {uri = u} a b c d e f g) (both {prefix = q} a' b' c' d' e' f' g') =
    (ap (λ p. bound_to [] u ∷ bound_to p u ∷ scope) (same_some c c') ∙ ap (λ w. bound_to [] w ∷ bound_to q w ∷ scope) (literal_unique e e'), refl)
declaration_unique (datatypes a b c d) (datatypes a' b' c' d') = (refl, refl)
declaration_unique a b = absurd (apart (declared_kind a) (declared_kind b) refl)

-- what begins with a word in a name class: 1 a name, 2 a namespace, 40 a parenthesis, 42 an asterisk
unfoldable pub simple_word : Word → ℕ
simple_word (a_name n) = 1
simple_word (escaped n) = 1
simple_word (prefixed p n) = 1
simple_word (all_of p) = 2
simple_word (literal s) = 3
simple_word (long_literal s) = 3
simple_word (mark c) = c

unfoldable pub simple_at : List Token → ℕ
simple_at [] = 0
simple_at (t ∷ ts) = simple_word t.word

name_is : (scope : List Bound) (w : Word) {n : ExpandedName} → name_in scope w ≡ Some n → simple_word w ≡ 1
unfolding simple_word
name_is scope (a_name n) e = refl
name_is scope (escaped n) e = refl
name_is scope (prefixed p n) e = refl
name_is scope (all_of p) e = absurd (some_none e refl)
name_is scope (literal s) e = absurd (some_none e refl)
name_is scope (long_literal s) e = absurd (some_none e refl)
name_is scope (mark c) e = absurd (some_none e refl)

unfoldable pub simple_rule : {scope : List Bound} {d : ℕ} {ts r : List Token} {c : SyntaxClass} → SimpleAt scope d ts c r → ℕ
simple_rule (name e) = 1
simple_rule (whole_namespace a e x) = 2
simple_rule (any a x) = 0x2A
simple_rule (parentheses a m b) = 0x28

pub simple_is : {scope : List Bound} {d : ℕ} {ts r : List Token} {c : SyntaxClass} (a : SimpleAt scope d ts c r) → simple_at ts ≡ simple_rule a
unfolding simple_rule simple_at simple_word
simple_is {scope} (name {t = t} e) = name_is scope t.word e
simple_is (whole_namespace a e x) = ap simple_word a
simple_is (any a x) = ap simple_word a
simple_is (parentheses a m b) = ap simple_word a

pub lacks_no : {c : ℕ} {t : Token} {ts rest : List Token} → LacksMark c ts → ts ≡ t ∷ rest → IsMark c t → ⊥
lacks_no {c} {t} {ts} {rest} h e k = let there : LacksMark c (t ∷ rest) = subst (LacksMark c) e h in there k

prefix_in : Word → List ℕ
prefix_in (all_of p) = p
prefix_in _ = []

pub same_all_of : {w : Word} {p q : List ℕ} → w ≡ all_of p → w ≡ all_of q → p ≡ q
unfolding prefix_in
same_all_of e f = ap prefix_in (sym e ∙ f)

mutual
  unfolding simple_rule

  pub class_unique : {scope : List Bound} {d d' : ℕ} {ts r s : List Token} {c k : SyntaxClass} → ClassAt scope d ts c r → ClassAt scope d' ts k s → (c ≡ k) × (r ≡ s)
  class_unique (alone a h) (alone b k) = simple_unique a b
  class_unique (alone a h) (several b e m) = absurd (lacks_no h (simple_unique a b).1 e)
  class_unique (several b e m) (alone a h) = absurd (lacks_no h (sym (simple_unique b a).1) e)
  class_unique {scope} {d' = d'} {s = s} (several {cs = cs} a e m) (several {c = k} {cs = ks} b f n) =
      let both = simple_unique a b in
      let rest = classes_unique m (subst (λ z. ClassesAt scope d' z ks s) (sym (same_tail both.1)) n) in
      (ap (λ z. one_of (class z cs)) both.0 ∙ ap (λ z. one_of (class k z)) rest.0, rest.1)

  pub classes_unique : {scope : List Bound} {d d' : ℕ} {ts r s : List Token} {c k : SyntaxClasses} → ClassesAt scope d ts c r → ClassesAt scope d' ts k s → (c ≡ k) × (r ≡ s)
  classes_unique (last a h) (last b k) = let both = simple_unique a b in (ap (λ z. class z no_class) both.0, both.1)
  classes_unique (last a h) (more b e m) = absurd (lacks_no h (simple_unique a b).1 e)
  classes_unique (more b e m) (last a h) = absurd (lacks_no h (sym (simple_unique b a).1) e)
  classes_unique {scope} {d' = d'} {s = s} (more {cs = cs} a e m) (more {c = k} {cs = ks} b f n) =
      let both = simple_unique a b in
      let rest = classes_unique m (subst (λ z. ClassesAt scope d' z ks s) (sym (same_tail both.1)) n) in
      (ap (λ z. class z cs) both.0 ∙ ap (class k) rest.0, rest.1)

  pub simple_unique : {scope : List Bound} {d d' : ℕ} {ts r s : List Token} {c k : SyntaxClass} → SimpleAt scope d ts c r → SimpleAt scope d' ts k s → (c ≡ k) × (r ≡ s)
  simple_unique (name e) (name f) = (ap of_name (same_some e f), refl)
  simple_unique {scope} (whole_namespace {t = t} {uri = u} {except = x} a e m) (whole_namespace {uri = v} b f n) =
      let same = same_some e (ap (uri_of scope) (same_all_of a b) ∙ f) in
      let rest = except_unique m n in
      (ap (λ z. of_namespace t.place z x) same ∙ ap (of_namespace t.place v) rest.0, rest.1)
  simple_unique (any {t = t} a m) (any b n) = let rest = except_unique m n in (ap (any_name t.place) rest.0, rest.1)
  simple_unique (parentheses a m b) (parentheses a' n b') = let both = class_unique m n in (both.0, same_tail both.1)
  simple_unique a b = absurd (apart (simple_is a) (simple_is b) refl)

  pub except_unique : {scope : List Bound} {d d' : ℕ} {ts r s : List Token} {c k : SyntaxClasses} → ExceptAt scope d ts c r → ExceptAt scope d' ts k s → (c ≡ k) × (r ≡ s)
  except_unique (nothing h) (nothing k) = (refl, refl)
  except_unique (nothing h) (except a m) = absurd (h a)
  except_unique (except a m) (nothing h) = absurd (h a)
  except_unique (except a m) (except b n) = let both = simple_unique m n in (ap (λ z. class z no_class) both.0, both.1)
