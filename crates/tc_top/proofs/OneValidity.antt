-- What the texts of a schema and of a document decide is one.
use Rattle.std.proofs.Common.{◌≡◌, ℕ, List, subst, arith}
use Rattle.tc_base.specs.declared.Limit.{Limit}
use Rattle.tc_model.specs.Trees.{Trees}
use Rattle.tc_model.specs.Grammars.{Grammar}
use Rattle.tc_model.specs.Validity.{IsValid}
use Rattle.tc_print.specs.ReadBack.{IsReadAs}
use Rattle.tc_model.specs.States.{Side}
use Rattle.tc_read.specs.Schemas.{PassesSize, passes_pattern, passes_depth, passes_elements}
use Rattle.tc_decide.specs.Limits.{PassesLimit, passes_size, passes_states, IsValidityWithin}
use Rattle.tc_answer.specs.Answers.{Answer, over_limit, is_valid, is_invalid}
use Rattle.tc_top.specs.Causes.{Decides, passes, decides_valid, decides_invalid, Validates, schema_refused, document_refused, both_read}
use Rattle.tc_top.specs.OneAnswer.{AreAlike, same_answer}
use Rattle.tc_top.specs.SchemaTexts.{SchemaText}
use Rattle.tc_decide.specs.Validating.{PassesValidity, passes_schema, passes_symbols}
use Rattle.tc_decide.proofs.Documents.{no_document, one_document}
use Rattle.tc_decide.proofs.Judged.{not_within}
use Rattle.tc_decide.proofs.Passing.{too_large, over_schema}
use Rattle.tc_top.proofs.OneRefusal.{document_refusals}
use Rattle.tc_top.proofs.SchemaTextLaws.{no_schema, one_schema, text_refusals}

-- the first limit that a schema passes is one
one_size : {g : Grammar} {kind other : Limit} {number count : ℕ} → PassesSize g kind number → PassesSize g other count → AreAlike (over_limit kind number) (over_limit other count)
one_size (passes_pattern p) (passes_pattern q) = same_answer
one_size (passes_pattern p) (passes_depth q) = absurd (omega (arith, p, q.0))
one_size (passes_pattern p) (passes_elements q) = absurd (omega (arith, p, q.0))
one_size (passes_depth p) (passes_pattern q) = absurd (omega (arith, q, p.0))
one_size (passes_depth p) (passes_depth q) = same_answer
one_size (passes_depth p) (passes_elements q) = absurd (omega (arith, p.1, q.1))
one_size (passes_elements p) (passes_pattern q) = absurd (omega (arith, q, p.0))
one_size (passes_elements p) (passes_depth q) = absurd (omega (arith, q.1, p.1))
one_size (passes_elements p) (passes_elements q) = same_answer

pub one_limit : {g : Grammar} {side : Side} {most : ℕ} {kind other : Limit} {number count : ℕ} → PassesLimit g side most kind number → PassesLimit g side most other count
    → AreAlike (over_limit kind number) (over_limit other count)
one_limit (passes_size p) (passes_size q) = one_size p q
one_limit (passes_size p) (passes_states c q) = absurd (too_large p c)
one_limit (passes_states c p) (passes_size q) = absurd (too_large q c)
one_limit (passes_states c p) (passes_states d q) = same_answer

pub one_validity_limit : {g : Grammar} {kind other : Limit} {number count : ℕ} → PassesValidity g kind number → PassesValidity g other count → AreAlike (over_limit kind number) (over_limit other count)
one_validity_limit (passes_schema p) (passes_schema q) = one_limit p q
one_validity_limit (passes_schema p) (passes_symbols v q) = absurd (over_schema p v)
one_validity_limit (passes_symbols v p) (passes_schema q) = absurd (over_schema q v)
one_validity_limit (passes_symbols v p) (passes_symbols w q) = same_answer

decides_one : {g : Grammar} {d : Trees} {one other : Answer} → Decides g d one → Decides g d other → AreAlike one other
decides_one (passes p) (passes q) = one_validity_limit p q
decides_one (passes p) (decides_valid w v) = absurd (not_within p w)
decides_one (passes p) (decides_invalid w v) = absurd (not_within p w)
decides_one (decides_valid w v) (passes p) = absurd (not_within p w)
decides_one (decides_valid w v) (decides_valid x u) = same_answer
decides_one (decides_valid w v) (decides_invalid x u) = absurd (u v)
decides_one (decides_invalid w v) (passes p) = absurd (not_within p w)
decides_one (decides_invalid w v) (decides_valid x u) = absurd (v u)
decides_one (decides_invalid w v) (decides_invalid x u) = same_answer

decides_same : {g h : Grammar} {c d : Trees} {answer : Answer} → g ≡ h → c ≡ d → Decides g c answer → Decides h d answer
decides_same {g} {h} {c} {d} {answer} p q x = subst (λ y. Decides h y answer) q (subst (λ y. Decides y c answer) p x)

-- the answer that the texts decide is one
pub validates_one : {schema document b c : List ℕ} {one other : Answer} → Validates schema document b c one → Validates schema document b c other → AreAlike one other
validates_one {schema = n} (schema_refused r) (schema_refused s) = text_refusals n r s
validates_one (schema_refused {reason = w} {place = p} r) (document_refused g s) = absurd (no_schema w p r g)
validates_one (schema_refused {reason = w} {place = p} r) (both_read g d h) = absurd (no_schema w p r g)
validates_one (document_refused g r) (schema_refused {reason = w} {place = p} s) = absurd (no_schema w p s g)
validates_one {document = n} {c = c} (document_refused g r) (document_refused k s) = document_refusals c n r s
validates_one (document_refused {reason = w} {place = p} g r) (both_read k d h) = absurd (no_document w p r d)
validates_one (both_read g d h) (schema_refused {reason = w} {place = p} s) = absurd (no_schema w p s g)
validates_one (both_read g d h) (document_refused {reason = w} {place = p} k s) = absurd (no_document w p s d)
validates_one (both_read x d h) (both_read y e i) = decides_one h (decides_same (one_schema y x) (one_document e d) i)

-- what a small enough schema and a document decide
pub data Settles (g : Grammar) (d : Trees) : Answer → Type 0 where
  settles_valid : IsValid g d → Settles g d is_valid
  settles_invalid : ¬ (IsValid g d) → Settles g d is_invalid

settled : {g : Grammar} {d : Trees} {answer : Answer} → IsValidityWithin g → Decides g d answer → Settles g d answer
settled w (passes p) = absurd (not_within p w)
settled w (decides_valid x v) = settles_valid v
settled w (decides_invalid x v) = settles_invalid v

pub settles : {schema document b c : List ℕ} {g : Grammar} {d : Trees} {answer : Answer} → SchemaText schema b g → IsReadAs c d → IsValidityWithin g → Validates schema document b c answer → Settles g d answer
settles g d w (schema_refused {reason = why} {place = p} r) = absurd (no_schema why p r g)
settles g d w (document_refused {reason = why} {place = p} h r) = absurd (no_document why p r d)
settles x d w (both_read y e i) = settled w (decides_same (one_schema y x) (one_document e d) i)
