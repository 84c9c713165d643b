-- What a fault says, from why reading stops.
use Rattle.std.proofs.Common.{◌≡◌, ◌≢◌, ℕ, ◌-◌, ◌≤◌, Bool, true, false, List, [], ◌∷◌, ◌++◌, ap, ◌∙◌, sym, subst, length, arith, length-append, append-nil}
use Rattle.tc_model.specs.RawTrees.{RawTrees, IsOneElement}
use Rattle.tc_model.specs.XmlText.{Reads, deepest_element}
use Rattle.tc_model.specs.XmlTextBytes.{FrontOf}
use Rattle.tc_model.specs.XmlTextRefusals.{Cause, DocumentRefuses, IsNotRefused}
use Rattle.tc_model.proofs.XmlTextRefused.{front_unique, whole_front, document_no_reading}
use Rattle.tc_xml.specs.declared.faults.Stop.{Stop}
use Rattle.tc_xml.specs.declared.faults.Stop.TheVariants.{Malformed, Unsupported, TooDeep, NoMemory}
use Rattle.tc_xml.specs.declared.faults.XmlFault.TheVariants as faults
use Rattle.tc_base.specs.declared.Place.{Place}
use Rattle.tc_xml.specs.Faults.{IsFaultOf, fault_of}
use Rattle.tc_xml.specs.Refusals.{RefusesWithin, RefusedAt, OnMalformed}
use Rattle.tc_xml.proofs.RootLaws.{element_alone}

-- a text is its own front

pub front_within : {bytes front : List ℕ} → FrontOf bytes front → length front ≤ length bytes
front_within {front = front} f = omega (arith, ap length f.parts, length-append front f.after)

front_read : {o : Bool} {d : ℕ} {bytes front : List ℕ} {h : RawTrees} → FrontOf bytes front → Reads o d bytes h → bytes ≡ front
front_read f m = front_unique (whole_front m.characters) f

reads_front : {o : Bool} {d : ℕ} {bytes front : List ℕ} {h : RawTrees} → FrontOf bytes front → Reads o d bytes h → Reads o d front h
reads_front {o} {d} {h = h} f m = subst (λ w. Reads o d w h) (front_read f m) m

pub not_refused : {bytes front : List ℕ} → FrontOf bytes front → ((cause : Cause) (at : List ℕ) → DocumentRefuses deepest_element front cause at → ⊥) → IsNotRefused bytes
not_refused f h cause place x = h cause x.at (subst (λ w. DocumentRefuses deepest_element w cause x.at) (front_unique x.is_front f) x.refuses)

pub fault_is : (bytes front : List ℕ) (e : Stop) → FrontOf bytes front
    → RefusesWithin e ((d : ℕ) (h : RawTrees) → Reads true d front h → ⊥) ((d : ℕ) (h : RawTrees) → Reads false d front h → ⊥) ((h : RawTrees) → Reads true deepest_element front h → ⊥)
    → RefusedAt e (DocumentRefuses deepest_element front) → OnMalformed e ((cause : Cause) (at : List ℕ) → DocumentRefuses deepest_element front cause at → ⊥)
    → IsFaultOf bytes (fault_of (length front) e)
fault_is bytes front (Malformed left) f k s n = (omega (arith, front_within f), (λ d h m. k d h (reads_front f m)), not_refused f n)
fault_is bytes front (Unsupported left why) f k (at, e, s) n =
    (record { front = front; at = at; is_front = f; refuses = s; stands = ap (λ n. length front - n) e }, (λ d h m. k d h (reads_front f m)))
fault_is bytes front (TooDeep left) f k (at, e, s) n =
    (record { front = front; at = at; is_front = f; refuses = s; stands = ap (λ n. length front - n) e }, (λ h m. k h (reads_front f m)))
fault_is bytes front NoMemory f k s n = tt

-- other bytes behind a document
pub others_behind : (bytes front : List ℕ) (h : RawTrees) (p : Place) → FrontOf bytes front → Reads false deepest_element front h → length front ≢ length bytes → p.0 ≡ length front - 0
    → IsFaultOf bytes (faults.Malformed p)
others_behind bytes front h p f m other e = (omega (arith, front_within f, e), (λ d k r. other (ap length (sym (front_read f r)))), not_refused f (λ cause at x. document_no_reading x m))

-- a text that is its own front
pub whole_read : {bytes front : List ℕ} {h : RawTrees} → FrontOf bytes front → length front ≡ length bytes → Reads false deepest_element front h → Reads false deepest_element bytes h
whole_read {bytes} {front} {h} f e m = subst (λ w. Reads false deepest_element w h) (sym (f.parts ∙ none_behind f.after (omega (arith, ap length f.parts, length-append front f.after)))) m
  where
    none_behind : (after : List ℕ) → length after ≡ 0 → front ++ after ≡ front
    none_behind [] k = append-nil front
    none_behind (x ∷ xs) k = absurd (omega arith)

pub reads_element : {d : ℕ} {bytes : List ℕ} {h : RawTrees} → Reads false d bytes h → IsOneElement h
reads_element m = subst IsOneElement (sym m.is_tree) (element_alone m.element)
