-- What the texts of a schema and of a document in pieces decide is one.
use Rattle.std.proofs.Common.{◌≡◌, ℕ, List, subst}
use Rattle.tc_model.specs.Grammars.{Grammar}
use Rattle.tc_model.specs.RawTrees.{RawTrees}
use Rattle.tc_model.specs.Stripped.{stripped}
use Rattle.tc_model.specs.Validity.{IsValid}
use Rattle.tc_model.proofs.XmlTextTrees.{one_raw_tree}
use Rattle.tc_read.specs.declared.faults.Reason.{Reason}
use Rattle.tc_stream.specs.Outcomes.{passed}
use Rattle.tc_stream.specs.XmlTextMeasures.{tag, names, IsGood, PassesFirst, IsWithinMeasures}
use Rattle.tc_stream.proofs.FaultsOnce.{comes_once}
use Rattle.tc_answer.specs.Answers.{Answer, refused}
use Rattle.tc_decide.specs.Pieces.{IsRefusedInPieces}
use Rattle.tc_top.specs.InPieces.{DecidesInPieces, schema_limited, text_refused, tag_passed, names_passed, document_valid, document_invalid, ValidatesInPieces, schema_is_refused, schema_is_read}
use Rattle.tc_top.specs.OneAnswer.{AreAlike, same_answer}
use Rattle.tc_top.specs.SchemaTexts.{SchemaText}
use Rattle.tc_top.proofs.OneRefusal.{document_refusals}
use Rattle.tc_decide.proofs.InPieces.{no_tree, good_within, passes_within}
use Rattle.tc_decide.proofs.Judged.{not_within}
use Rattle.tc_top.proofs.OneValidity.{one_validity_limit}
use Rattle.tc_top.proofs.SchemaTextLaws.{no_schema, one_schema, text_refusals}

-- a text is good, or it is refused, or one measure passes in it

pub refused_within : {bytes : List ℕ} (reason : Reason) (place : ℕ) → IsRefusedInPieces bytes reason place → IsWithinMeasures bytes
refused_within reason place r = r.1

pub one_measure : {bytes : List ℕ} {p q : ℕ} → PassesFirst bytes tag p → PassesFirst bytes names q → ⊥
one_measure {bytes} {p} {q} x y = let e : passed tag p ≡ passed names q = comes_once bytes (passed tag p) (passed names q) x y in absurd (cc)

pub one_good : {bytes : List ℕ} {h k : RawTrees} → IsGood bytes h → IsGood bytes k → h ≡ k
one_good {bytes} {h} {k} x y = one_raw_tree bytes h k x.reads y.reads

pub not_valid_at : {g : Grammar} {bytes : List ℕ} {h k : RawTrees} → IsGood bytes h → IsGood bytes k → IsValid g (stripped h) → ¬ (IsValid g (stripped k)) → ⊥
not_valid_at {g} x y v n = n (subst (λ t. IsValid g (stripped t)) (one_good x y) v)

refusals : (bytes name : List ℕ) (r q : Reason) (k m : ℕ) → IsRefusedInPieces bytes r k → IsRefusedInPieces bytes q m → AreAlike (refused name r k) (refused name q m)
refusals bytes name r q k m x y = document_refusals bytes name {r = r} {q = q} {k = k} {m = m} x.0 y.0

-- the answer is one

module _ {g : Grammar} {name bytes : List ℕ} where
  decides_one : {one other : Answer} → DecidesInPieces g name bytes one → DecidesInPieces g name bytes other → AreAlike one other
  decides_one (schema_limited p1) (schema_limited p2) = one_validity_limit p1 p2
  decides_one (schema_limited p1) (text_refused {reason = r2} {place = k2} w2 x2) = absurd (not_within p1 w2)
  decides_one (schema_limited p1) (tag_passed w2 t2) = absurd (not_within p1 w2)
  decides_one (schema_limited p1) (names_passed w2 n2) = absurd (not_within p1 w2)
  decides_one (schema_limited p1) (document_valid w2 g2 v2) = absurd (not_within p1 w2)
  decides_one (schema_limited p1) (document_invalid w2 g2 i2) = absurd (not_within p1 w2)
  decides_one (text_refused {reason = r1} {place = k1} w1 x1) (schema_limited p2) = absurd (not_within p2 w1)
  decides_one (text_refused {reason = r1} {place = k1} w1 x1) (text_refused {reason = r2} {place = k2} w2 x2) = refusals bytes name r1 r2 k1 k2 x1 x2
  decides_one (text_refused {reason = r1} {place = k1} w1 x1) (tag_passed w2 t2) = absurd (passes_within t2 (refused_within r1 k1 x1))
  decides_one (text_refused {reason = r1} {place = k1} w1 x1) (names_passed w2 n2) = absurd (passes_within n2 (refused_within r1 k1 x1))
  decides_one (text_refused {reason = r1} {place = k1} w1 x1) (document_valid w2 g2 v2) = absurd (no_tree r1 k1 x1 g2.reads)
  decides_one (text_refused {reason = r1} {place = k1} w1 x1) (document_invalid w2 g2 i2) = absurd (no_tree r1 k1 x1 g2.reads)
  decides_one (tag_passed w1 t1) (schema_limited p2) = absurd (not_within p2 w1)
  decides_one (tag_passed w1 t1) (text_refused {reason = r2} {place = k2} w2 x2) = absurd (passes_within t1 (refused_within r2 k2 x2))
  decides_one (tag_passed w1 t1) (tag_passed w2 t2) = same_answer
  decides_one (tag_passed w1 t1) (names_passed w2 n2) = absurd (one_measure t1 n2)
  decides_one (tag_passed w1 t1) (document_valid w2 g2 v2) = absurd (passes_within t1 (good_within g2))
  decides_one (tag_passed w1 t1) (document_invalid w2 g2 i2) = absurd (passes_within t1 (good_within g2))
  decides_one (names_passed w1 n1) (schema_limited p2) = absurd (not_within p2 w1)
  decides_one (names_passed w1 n1) (text_refused {reason = r2} {place = k2} w2 x2) = absurd (passes_within n1 (refused_within r2 k2 x2))
  decides_one (names_passed w1 n1) (tag_passed w2 t2) = absurd (one_measure t2 n1)
  decides_one (names_passed w1 n1) (names_passed w2 n2) = same_answer
  decides_one (names_passed w1 n1) (document_valid w2 g2 v2) = absurd (passes_within n1 (good_within g2))
  decides_one (names_passed w1 n1) (document_invalid w2 g2 i2) = absurd (passes_within n1 (good_within g2))
  decides_one (document_valid w1 g1 v1) (schema_limited p2) = absurd (not_within p2 w1)
  decides_one (document_valid w1 g1 v1) (text_refused {reason = r2} {place = k2} w2 x2) = absurd (no_tree r2 k2 x2 g1.reads)
  decides_one (document_valid w1 g1 v1) (tag_passed w2 t2) = absurd (passes_within t2 (good_within g1))
  decides_one (document_valid w1 g1 v1) (names_passed w2 n2) = absurd (passes_within n2 (good_within g1))
  decides_one (document_valid w1 g1 v1) (document_valid w2 g2 v2) = same_answer
  decides_one (document_valid w1 g1 v1) (document_invalid w2 g2 i2) = absurd (not_valid_at g1 g2 v1 i2)
  decides_one (document_invalid w1 g1 i1) (schema_limited p2) = absurd (not_within p2 w1)
  decides_one (document_invalid w1 g1 i1) (text_refused {reason = r2} {place = k2} w2 x2) = absurd (no_tree r2 k2 x2 g1.reads)
  decides_one (document_invalid w1 g1 i1) (tag_passed w2 t2) = absurd (passes_within t2 (good_within g1))
  decides_one (document_invalid w1 g1 i1) (names_passed w2 n2) = absurd (passes_within n2 (good_within g1))
  decides_one (document_invalid w1 g1 i1) (document_valid w2 g2 v2) = absurd (not_valid_at g2 g1 v2 i1)
  decides_one (document_invalid w1 g1 i1) (document_invalid w2 g2 i2) = same_answer

-- what is decided, the schema being accepted
pub decided_of : {schema name b bytes : List ℕ} {g : Grammar} {answer : Answer} → SchemaText schema b g → ValidatesInPieces schema name b bytes answer → DecidesInPieces g name bytes answer
decided_of spells (schema_is_refused {reason = why} {place = p} r) = absurd (no_schema why p r spells)
decided_of {name = name} {bytes = bytes} {answer = answer} spells (schema_is_read other d) = subst (λ x. DecidesInPieces x name bytes answer) (one_schema other spells) d

-- the answer that the texts decide is one
pub in_pieces_one : {schema name b bytes : List ℕ} {one other : Answer} → ValidatesInPieces schema name b bytes one → ValidatesInPieces schema name b bytes other → AreAlike one other
in_pieces_one {schema = n} (schema_is_refused r) (schema_is_refused q) = text_refusals n r q
in_pieces_one (schema_is_refused {reason = why} {place = p} r) (schema_is_read spells d) = absurd (no_schema why p r spells)
in_pieces_one (schema_is_read spells d) (schema_is_refused {reason = why} {place = p} r) = absurd (no_schema why p r spells)
in_pieces_one {schema = n} {name = m} (schema_is_read spells d) (schema_is_read other e) = decides_one d (decided_of {schema = n} {name = m} spells (schema_is_read other e))
