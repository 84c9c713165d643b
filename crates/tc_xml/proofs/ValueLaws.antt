-- Attribute values, piece by piece.
use Rattle.std.proofs.Common.{◌≡◌, ℕ, Bool, true, false, List, [], ◌∷◌, ◌++◌, refl, ap, ◌∙◌, sym, subst, append_assoc, append-nil, Result, Ok, Err}
use Rattle.std.specs.Result.{IfErr, IsErrAnd}
use Rattle.tc_model.specs.XmlTextBytes.{IsQuote}
use Rattle.tc_model.specs.XmlTextReferences.{ReferenceAt, decimal, hexadecimal, entity, other, ValueAt, closed, plain, reference, QuotedAt}
use Rattle.tc_model.proofs.XmlTextPhrases.{same_first, same_others, run_unique, reference_unique}
use Rattle.tc_base.specs.declared.reasons.Why.{Why}
use Rattle.tc_xml.specs.Refusals.{Refuses, UnsupportedAt}
use Rattle.tc_xml.proofs.PastLaws.{past_piece}
use Rattle.tc_tags.specs.Values as pieces
use Rattle.tc_tags.specs.Values.{PieceAt}
use Rattle.tc_xml.specs.declared.faults.Stop.{Stop}
use Rattle.tc_xml.specs.declared.faults.Stop.TheVariants.{Malformed, Unsupported, TooDeep, NoMemory}
use Rattle.tc_tags.proofs.ValueLaws.{quote_no_reference, quote_no_run, run_no_reference}
use Rattle.tc_tags.proofs.FormLaws.{refuses_before, Step}

-- lifting a reading without other entities
lift_reference : {bs s after : List ℕ} → ReferenceAt false bs s after → ReferenceAt true bs s after
lift_reference (decimal a h) = decimal a h
lift_reference (hexadecimal a h) = hexadecimal a h
lift_reference (entity a h) = entity a h
lift_reference (other h a k) = other refl a k

pub lift_piece : {q : ℕ} {bs piece rest : List ℕ} → PieceAt false q bs piece rest → PieceAt true q bs piece rest
lift_piece (pieces.plain a) = pieces.plain a
lift_piece (pieces.reference a) = pieces.reference (lift_reference a)

-- a piece before the rest of a value
pub value_before : {o : Bool} {q : ℕ} {bs piece rest v after : List ℕ} → PieceAt o q bs piece rest → ValueAt o q rest v after → ValueAt o q bs (piece ++ v) after
value_before (pieces.plain a) w = plain a w
value_before (pieces.reference a) w = reference a w

-- what is left of a value past its first piece
pub value_past : {o : Bool} {q : ℕ} {bs piece rest v after : List ℕ} → IsQuote q → PieceAt o q bs piece rest → ValueAt o q bs v after → (w : List ℕ) × ValueAt o q rest w after
value_past {q = q} k (pieces.plain a) (closed e) = absurd (quote_no_run q e a)
value_past {o} {q} {after = after} k (pieces.plain a) (plain {value = w} b v) = (w, subst (λ z. ValueAt o q z w after) (run_unique b a).1 v)
value_past {q = q} k (pieces.plain a) (reference b v) = absurd (run_no_reference q a b)
value_past k (pieces.reference a) (closed e) = absurd (quote_no_reference k e a)
value_past {q = q} k (pieces.reference a) (plain b v) = absurd (run_no_reference q b a)
value_past {o} {q} {after = after} k (pieces.reference a) (reference {value = w} b v) = (w, subst (λ z. ValueAt o q z w after) (reference_unique b a).1 v)

-- no value where neither a quote nor a piece stands
pub no_value : {o : Bool} {q : ℕ} {bs : List ℕ} → ((r : List ℕ) → bs ≡ q ∷ r → ⊥) → ((piece rest : List ℕ) → PieceAt o q bs piece rest → ⊥) → (v after : List ℕ) → ValueAt o q bs v after → ⊥
no_value h k v after (closed e) = h after e
no_value h k v after (plain a w) = k _ _ (pieces.plain a)
no_value h k v after (reference a w) = k _ _ (pieces.reference a)

pub refuses_too : (e : Stop) (P Q R S : Type 0) → (P → R) → (Q → S) → Refuses e P Q → Refuses e R S
refuses_too (Malformed left) P Q R S f g h = f h
refuses_too (Unsupported left why) P Q R S f g h = g h
refuses_too (TooDeep left) P Q R S f g h = h
refuses_too NoMemory P Q R S f g h = tt

pub err_refuses : {X : Type 0} (r : Result X Stop) (x : Stop) (P Q R S : Type 0) → IsErrAnd r (λ y. y ≡ x) → Refuses x P Q → (P → R) → (Q → S) → IfErr r (λ e. Refuses e R S)
err_refuses (Ok v) x P Q R S e h f g = tt
err_refuses (Err y) x P Q R S e h f g = refuses_too y P Q R S f g (subst (λ z. Refuses z P Q) (sym e) h)

-- a construct that stands in the rest stands in the whole
stands_too : (e : Stop) (P Q : Why → List ℕ → Type 0) → ((why : Why) (at : List ℕ) → P why at → Q why at) → UnsupportedAt e P → UnsupportedAt e Q
stands_too (Malformed left) P Q f h = tt
stands_too (Unsupported left why) P Q f (at, is, h) = (at, is, f why at h)
stands_too (TooDeep left) P Q f h = h
stands_too NoMemory P Q f h = tt

pub err_stands : {X : Type 0} (r : Result X Stop) (x : Stop) (P Q : Why → List ℕ → Type 0) → IsErrAnd r (λ y. y ≡ x) → UnsupportedAt x P → ((why : Why) (at : List ℕ) → P why at → Q why at) → IfErr r (λ e. UnsupportedAt e Q)
err_stands (Ok v) x P Q e h f = tt
err_stands (Err y) x P Q e h f = stands_too y P Q f (subst (λ z. UnsupportedAt z P) (sym e) h)

pub step_more : (q : ℕ) (inside read more rest next : List ℕ) → IsQuote q → Step q inside read rest → ((piece : List ℕ) × PieceAt false q rest piece next × (more ≡ read ++ piece)) → Step q inside more next
step_more q inside read more rest next k s (piece, a, e) = record {
  forth = λ v after h. subst (λ w. ValueAt false q inside w after) (sym (append_assoc read piece v) ∙ ap (λ w. w ++ v) (sym e)) (s.forth (piece ++ v) after (value_before a h));
  any = λ v after h. let (w, f) = s.any v after h in value_past k (lift_piece a) f;
  strict = λ v after h. let (w, f) = s.strict v after h in value_past k a f;
  stops = λ at h. s.stops at (refuses_before a h);
  comes = λ at h. past_piece a at (s.comes at h);
}

pub no_quoted : {o : Bool} (q : ℕ) (text inside rest : List ℕ) → text ≡ q ∷ inside → ((v after : List ℕ) → ValueAt o q inside v after → (w : List ℕ) × ValueAt o q rest w after)
    → ((r : List ℕ) → rest ≡ q ∷ r → ⊥) → ((piece next : List ℕ) → PieceAt o q rest piece next → ⊥) → (v after : List ℕ) → QuotedAt o text v after → ⊥
no_quoted {o} q text inside rest e past h k v after a =
    let same = sym a.opens ∙ e in
    let there = subst (λ z. ValueAt o z inside v after) (same_first same) (subst (λ z. ValueAt o a.quote z v after) (same_others same) a.closes) in
    let (w, f) = past v after there in
    no_value h k w after f

pub read_whole : (q : ℕ) (text inside read value rest after : List ℕ) → IsQuote q → text ≡ q ∷ inside → Step q inside read rest → value ≡ read → rest ≡ q ∷ after → QuotedAt false text value after
read_whole q text inside read value rest after k e s f g = record {
  quote = q;
  rest = inside;
  is_quote = k;
  opens = e;
  closes = subst (λ w. ValueAt false q inside w after) (append-nil read ∙ sym f) (s.forth [] after (closed g));
}
