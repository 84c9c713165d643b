-- The words of a validation.
use Rattle.std.proofs.Common.{◌≡◌, ◌∷◌, [], ◌∙◌, ap, subst, refl, arith, ℕ, List, Option, Some, None, codes}
use Rattle.tc_answer.specs.Words.{Command, valid, valid_in_pieces, Words, checks, proves, verifies, runs, validates, validates_in_pieces, shows, upgrades, asks_dead, includes, compares, PieceSizes, AreOperands, AreSchemas, IsNoCommand}
use Rattle.tc_answer.proofs.OneCommand.{kind}

-- what stands behind `valid` where that is a command: the size of pieces, if there is one, and the operands
record Behind (rest : List (List ℕ)) : Type 0 where
  size : Option ℕ
  schema : List ℕ
  document : List ℕ
  parts : PieceSizes rest size (schema ∷ document ∷ [])
  operands : AreOperands (schema ∷ document ∷ [])
  schemas : AreSchemas (schema ∷ [])

behind : {rest : List (List ℕ)} {command : Command} → Words (codes "valid" ∷ rest) command → Behind rest
behind (checks p l a x) = absurd (let e : 4 ≡ 0 = ap kind p in omega (arith, e))
behind (proves p l a x) = absurd (let e : 4 ≡ 1 = ap kind p in omega (arith, e))
behind (verifies p a x) = absurd (let e : 4 ≡ 2 = ap kind p in omega (arith, e))
behind (runs p a) = absurd (let e : 4 ≡ 3 = ap kind p in omega (arith, e))
behind {rest} (validates {schema = schema} {document = document} p a x) =
    let parts : rest ≡ schema ∷ document ∷ [] = cc in
    record { size = None; schema = schema; document = document; parts = parts; operands = a; schemas = x }
behind {rest} (validates_in_pieces {rest = other} {size = size} {schema = schema} {document = document} p l a x) =
    let same : other ≡ rest = cc in
    record { size = Some size; schema = schema; document = document; parts = subst (λ w. PieceSizes w (Some size) (schema ∷ document ∷ [])) same l; operands = a; schemas = x }
behind (shows p s) = absurd (let e : 4 ≡ 5 = ap kind p in omega (arith, e))
behind (upgrades p a) = absurd (let e : 4 ≡ 6 = ap kind p in omega (arith, e))
behind (asks_dead p a x) = absurd (let e : 4 ≡ 9 = ap kind p in omega (arith, e))
behind (includes p a x) = absurd (let e : 4 ≡ 7 = ap kind p in omega (arith, e))
behind (compares p a x) = absurd (let e : 4 ≡ 8 = ap kind p in omega (arith, e))

-- without a size and operands it is none
pub no_validation : {rest : List (List ℕ)}
    → ((size : Option ℕ) (schema document : List ℕ) → PieceSizes rest size (schema ∷ document ∷ []) → AreOperands (schema ∷ document ∷ []) → AreSchemas (schema ∷ []) → ⊥)
    → IsNoCommand (codes "valid" ∷ rest)
no_validation {rest} none command given = by (behind given)
  where
    by : Behind rest → ⊥
    by b = none b.size b.schema b.document b.parts b.operands b.schemas

pub in_pieces : {words operands : List (List ℕ)} {size : ℕ} {schema document : List ℕ} → PieceSizes words (Some size) operands → operands ≡ schema ∷ document ∷ [] → AreOperands operands
    → AreSchemas (schema ∷ []) → Words (codes "valid" ∷ words) (valid_in_pieces size schema document)
in_pieces {words} {operands} {size} {schema} {document} l same a x = validates_in_pieces refl (subst (PieceSizes words (Some size)) same l) (subst AreOperands same a) x

pub whole : {words operands : List (List ℕ)} {schema document : List ℕ} → PieceSizes words None operands → operands ≡ schema ∷ document ∷ [] → AreOperands operands → AreSchemas (schema ∷ [])
    → Words (codes "valid" ∷ words) (valid schema document)
whole {words} {operands} {schema} {document} l same a x = validates (ap (λ w. codes "valid" ∷ w) (l ∙ same)) (subst AreOperands same a) x
