use Rattle.std.proofs.Common.{◌≡◌, ◌∷◌, [], List, ℕ, true, false, rules, refl, ap, sym, ◌∙◌, map}
use Rattle.std.specs.Prelude.{bytes_eq}
use Rattle.std.proofs.lemmas.Bool.{true≢false, and_parts}
use Rattle.std.proofs.lemmas.Slice.Eq.{bytes_eq-Decides}
use Rattle.tc_model.specs.XmlTextNames.{QualifiedName}
use Rattle.tc_model.specs.PathTextTokens.{Token, name}
use Rattle.tc_scan.specs.declared.names.QualifiedName.{QualifiedName as CodeName}
use Rattle.tc_scan.specs.Views.{written_name}
use Rattle.tc_path.specs.declared.token.Token.{Token as CodeToken}
use Rattle.tc_path.specs.declared.token.Token.TheVariants as code_tokens
use Rattle.tc_path.specs.Reasons.{is_word}
use Rattle.tc_path.specs.Views.{token}
use Rattle.tc_path.proofs.token.after_word.Goals.{in_default-via-in-Name+else-is_word, in_default-via-in_default}
use Rattle.tc_path.proofs.token.after_word.Goals as goal

word_first : (ts rest : List CodeToken) (first : CodeToken) (n : CodeName) (word : List ℕ) → ts ≡ first ∷ rest → first ≡ code_tokens.Name n → is_word (written_name n) word ≡ true
    → map token ts ≡ name (record { prefix = []; local = word }) ∷ map token rest
word_first ts rest first n word e f g =
    let both = and_parts (bytes_eq n.prefix.now []) (bytes_eq n.local.now word) g in
    ap (map token) e
    ∙ (ap (λ w. token w ∷ map token rest) f
    ∙ (ap (λ (w : List ℕ). name (record { prefix = w; local = n.local.now }) ∷ map token rest) ((bytes_eq-Decides n.prefix.now []).0 both.0)
    ∙ ap (λ (w : List ℕ). name (record { prefix = []; local = w }) ∷ map token rest) ((bytes_eq-Decides n.local.now word).0 both.1)))

same_first : {t u : Token} {ts us : List Token} → t ∷ ts ≡ u ∷ us → t ≡ u
same_first e = cc

same_name : {n m : QualifiedName} → name n ≡ name m → n ≡ m
same_name e = cc

is_itself : (word : List ℕ) → is_word (record { prefix = []; local = word }) word ≡ true
is_itself word = (bytes_eq-Decides word word).1 refl

-- another name
no_word : (ts rest : List CodeToken) (first : CodeToken) (n : CodeName) (word : List ℕ) → ts ≡ first ∷ rest → first ≡ code_tokens.Name n → is_word (written_name n) word ≡ false
    → (r : List Token) → map token ts ≡ name (record { prefix = []; local = word }) ∷ r → ⊥
no_word ts rest first n word e f g r h =
    let is : name (written_name n) ≡ name (record { prefix = []; local = word }) = same_first (sym (ap (map token) e ∙ ap (λ w. token w ∷ map token rest) f) ∙ h) in
    true≢false (sym (is_itself word) ∙ (ap (λ (w : QualifiedName). is_word w word) (sym (same_name is)) ∙ g))

pub returns-in-Name : goal.returns-in-Name
returns-in-Name c =
    word_first c.args.tokens.now c.in-Some.rest.now c.in-Some.first.now c.in-Name.name c.args.word.now c.in-Some.ensures.cases.0 c.in-Name.is (sym c.is_word.ensures ∙ c.if-is_word.true)

pub returns-in_default : goal.returns-in_default
returns-in_default c = elim c.in_default.branch [
  | in_default-via-in-Name+else-is_word w ↦
      no_word c.args.tokens.now c.in-Some.rest.now c.in-Some.first.now w.in-Name.name c.args.word.now c.in-Some.ensures.cases.0 w.in-Name.is (sym w.is_word.ensures ∙ w.if-is_word.false)
  | in_default-via-in_default w ↦ search rules
]
