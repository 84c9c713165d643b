-- Words that are no command, by what doesn't stand behind the first one.
use Rattle.std.proofs.Common.{◌≡◌, ◌∷◌, [], ◌∙◌, sym, ap, subst, refl, ℕ, zero, suc, List, Option, Bool, true, false, if◌then◌else◌, codes}
use Rattle.tc_answer.specs.Words.{Command, Words, checks, proves, verifies, runs, validates, validates_in_pieces, shows, upgrades, asks_dead, includes, compares, Limits, IsNumeral, AreOperands, AreSchemas, IsNoCommand}
use Rattle.tc_answer.specs.declared.limits.TheConstants.{MOST_DEMO}
use Rattle.tc_answer.proofs.Marked.{tails}
use Rattle.tc_answer.proofs.OneCommand.{kind}

-- no operands of this kind of command stand behind its name
abbrev pub Lacks : ℕ → List (List ℕ) → Type 0
Lacks zero words = (rest : List (List ℕ)) (limit : Option ℕ) (a b c : List ℕ) → words ≡ codes "check" ∷ rest → Limits rest limit (a ∷ b ∷ c ∷ []) → AreOperands (a ∷ b ∷ c ∷ []) → AreSchemas (a ∷ b ∷ []) → ⊥
Lacks (suc zero) words = (rest : List (List ℕ)) (limit : Option ℕ) (a b c : List ℕ) → words ≡ codes "prove" ∷ rest → Limits rest limit (a ∷ b ∷ c ∷ []) → AreOperands (a ∷ b ∷ c ∷ []) → AreSchemas (a ∷ b ∷ []) → ⊥
Lacks (suc (suc zero)) words = (a b c d : List ℕ) → words ≡ codes "verify" ∷ a ∷ b ∷ c ∷ d ∷ [] → AreOperands (a ∷ b ∷ c ∷ d ∷ []) → AreSchemas (a ∷ b ∷ []) → ⊥
Lacks (suc (suc (suc zero))) words = (a b : List ℕ) → words ≡ codes "run" ∷ a ∷ b ∷ [] → AreOperands (a ∷ b ∷ []) → ⊥
Lacks (suc (suc (suc (suc (suc zero))))) words = (numeral : List ℕ) (size : ℕ) → words ≡ codes "demo" ∷ numeral ∷ [] → IsNumeral MOST_DEMO numeral size → ⊥
Lacks (suc (suc (suc (suc (suc (suc zero)))))) words = (a : List ℕ) → words ≡ codes "upgrade" ∷ a ∷ [] → AreOperands (a ∷ []) → ⊥
Lacks (suc (suc (suc (suc (suc (suc (suc zero))))))) words = (a b : List ℕ) → words ≡ codes "include" ∷ a ∷ b ∷ [] → AreOperands (a ∷ b ∷ []) → AreSchemas (a ∷ b ∷ []) → ⊥
Lacks (suc (suc (suc (suc (suc (suc (suc (suc zero)))))))) words = (a b : List ℕ) → words ≡ codes "same" ∷ a ∷ b ∷ [] → AreOperands (a ∷ b ∷ []) → AreSchemas (a ∷ b ∷ []) → ⊥
Lacks (suc (suc (suc (suc (suc (suc (suc (suc (suc zero))))))))) words = (a b : List ℕ) → words ≡ codes "dead" ∷ a ∷ b ∷ [] → AreOperands (a ∷ b ∷ []) → AreSchemas (a ∷ []) → ⊥
Lacks _ words = ⊥

lacked : {words : List (List ℕ)} {command : Command} (k : ℕ) → kind words ≡ k → Lacks k words → Words words command → ⊥
lacked {words} k e none (checks {rest = rest} {limit = limit} {input = a} {output = b} {sheet = c} p l o s) = subst (λ n. Lacks n words) (sym e ∙ ap kind p) none rest limit a b c p l o s
lacked {words} k e none (proves {rest = rest} {limit = limit} {input = a} {output = b} {sheet = c} p l o s) = subst (λ n. Lacks n words) (sym e ∙ ap kind p) none rest limit a b c p l o s
lacked {words} k e none (verifies {input = a} {output = b} {sheet = c} {certificate = d} p o s) = subst (λ n. Lacks n words) (sym e ∙ ap kind p) none a b c d p o s
lacked {words} k e none (runs {sheet = a} {document = b} p o) = subst (λ n. Lacks n words) (sym e ∙ ap kind p) none a b p o
lacked {words} k e none (validates p o s) = subst (λ n. Lacks n words) (sym e ∙ ap kind p) none
lacked {words} k e none (validates_in_pieces p l o s) = subst (λ n. Lacks n words) (sym e ∙ ap kind p) none
lacked {words} k e none (shows {numeral = a} {size = n} p s) = subst (λ n. Lacks n words) (sym e ∙ ap kind p) none a n p s
lacked {words} k e none (upgrades {certificate = a} p o) = subst (λ n. Lacks n words) (sym e ∙ ap kind p) none a p o
lacked {words} k e none (asks_dead {input = a} {sheet = b} p o s) = subst (λ n. Lacks n words) (sym e ∙ ap kind p) none a b p o s
lacked {words} k e none (includes {first = a} {second = b} p o s) = subst (λ n. Lacks n words) (sym e ∙ ap kind p) none a b p o s
lacked {words} k e none (compares {first = a} {second = b} p o s) = subst (λ n. Lacks n words) (sym e ∙ ap kind p) none a b p o s

pub lacking : (k : ℕ) {words : List (List ℕ)} → kind words ≡ k → Lacks k words → IsNoCommand words
lacking k e none command given = lacked k e none given

-- neither a check nor a proof, and neither an inclusion nor an equality
pub no_check : {rest : List (List ℕ)} (proved : Bool)
    → ((limit : Option ℕ) (a b c : List ℕ) → Limits rest limit (a ∷ b ∷ c ∷ []) → AreOperands (a ∷ b ∷ c ∷ []) → AreSchemas (a ∷ b ∷ []) → ⊥)
    → IsNoCommand ((if proved then codes "prove" else codes "check") ∷ rest)
no_check true none = lacking 1 refl (λ behind limit a b c p l o s. none limit a b c (subst (λ w. Limits w limit (a ∷ b ∷ c ∷ [])) (tails (sym p)) l) o s)
no_check false none = lacking 0 refl (λ behind limit a b c p l o s. none limit a b c (subst (λ w. Limits w limit (a ∷ b ∷ c ∷ [])) (tails (sym p)) l) o s)

pub no_inclusion : {rest : List (List ℕ)} (both_ways : Bool) → ((a b : List ℕ) → rest ≡ a ∷ b ∷ [] → AreOperands rest → AreSchemas (a ∷ b ∷ []) → ⊥)
    → IsNoCommand ((if both_ways then codes "same" else codes "include") ∷ rest)
no_inclusion true none = lacking 8 refl (λ a b p o s. let same = tails p in none a b same (subst AreOperands (sym same) o) s)
no_inclusion false none = lacking 7 refl (λ a b p o s. let same = tails p in none a b same (subst AreOperands (sym same) o) s)
