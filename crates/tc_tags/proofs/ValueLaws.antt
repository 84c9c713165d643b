-- Attribute values, piece by piece.
use Rattle.std.proofs.Common.{◌≡◌, inl, inr, ℕ, ◌+◌, ◌<◌, Bool, true, false, not, ◌||◌, ◌==◌, List, [], ◌∷◌, ◌++◌, refl, ap, ◌∙◌, sym, subst, length, take, drop, get_or, arith, IsUtf8, IsCharBoundary, append_assoc, append-nil, take-append-drop, length-take, ◌≢◌, length-append, nat_lt}
use Rattle.std.specs.Prelude.{codes}
use Rattle.std.specs.List.{prefix_len}
use Rattle.std.proofs.lemmas.Bool.{true≢false, eqb-true, eq-eqb}
use Rattle.std.proofs.lemmas.List.Sums.{prefix_len_stops, prefix_len-le-length}
use Rattle.std.proofs.lemmas.List.{get_or_at, drop_at}
use Rattle.std.proofs.lemmas.Str.{IsCharBoundary-before_ascii, IsCharBoundary-after_ascii, IsCharBoundary-end, IsUtf8-drop}
use borrow.Author.Tests.{ltb-true, ltb-false}
use Rattle.tc_model.specs.XmlTextBytes.{RunAt, IsQuote, line_ends}
use Rattle.tc_model.specs.XmlTextReferences.{is_digit, is_plain_within, ReferenceAt, decimal, hexadecimal, entity, other, ValueAt, closed, plain, reference, spaced}
use Rattle.tc_model.proofs.XmlTextPhrases.{same_first, run_unique, run_unless, reference_unique, reference_first}
use Rattle.tc_model.proofs.XmlTextRefused.{other_no_reference}
use Rattle.tc_scan.specs.References.{Lacks}
use Rattle.tc_scan.specs.declared.references.NoReference.{NoReference}
use Rattle.tc_scan.specs.declared.references.NoReference.TheVariants as no
use Rattle.tc_tags.specs.Values as pieces
use Rattle.tc_tags.specs.Values.{PieceAt}

-- a run ends before ASCII or at the end
pub quote_ascii : (q : ℕ) → IsQuote q → q < 128
quote_ascii q (inl e) = omega (arith, e)
quote_ascii q (inr e) = omega (arith, e)

pub ends_ascii : (q b : ℕ) → q < 128 → is_plain_within q b ≡ false → b < 128
ends_ascii q b l = by (b == q) refl (b == 0x3C) refl (b == 0x26) refl
  where
    by : (x : Bool) → (b == q) ≡ x → (y : Bool) → (b == 0x3C) ≡ y → (z : Bool) → (b == 0x26) ≡ z → not (x || y || z) ≡ false → b < 128
    by true e y f z g h = omega (arith, eqb-true b q e)
    by false e true f z g h = omega (arith, eqb-true b 0x3C f)
    by false e false f true g h = omega (arith, eqb-true b 0x26 g)
    by false e false f false g h = absurd (true≢false h)

pub cut_after_plain : (q n : ℕ) (bs : List ℕ) → IsQuote q → n ≡ prefix_len (is_plain_within q) bs → IsCharBoundary bs n
cut_after_plain q n bs k e = subst (IsCharBoundary bs) (sym e) (by (nat_lt (prefix_len (is_plain_within q) bs) (length bs)) refl)
  where
    by : (x : Bool) → nat_lt (prefix_len (is_plain_within q) bs) (length bs) ≡ x → IsCharBoundary bs (prefix_len (is_plain_within q) bs)
    by true f =
        let l = ltb-true (prefix_len (is_plain_within q) bs) (length bs) f in
        IsCharBoundary-before_ascii bs (prefix_len (is_plain_within q) bs) l (ends_ascii q _ (quote_ascii q k) (prefix_len_stops (is_plain_within q) bs 0 l))
    by false f =
        let l = ltb-false (prefix_len (is_plain_within q) bs) (length bs) f in
        let end : length bs ≡ prefix_len (is_plain_within q) bs = omega (arith, l, prefix_len-le-length (is_plain_within q) bs) in
        subst (IsCharBoundary bs) end (IsCharBoundary-end bs)

pub quote_no_reference : {o : Bool} {q : ℕ} {bs s after rest : List ℕ} → IsQuote q → bs ≡ q ∷ rest → ReferenceAt o bs s after → ⊥
quote_no_reference (inl e) at a = let (rest, is) = reference_first a in omega (arith, e, same_first (sym at ∙ is))
quote_no_reference (inr e) at a = let (rest, is) = reference_first a in omega (arith, e, same_first (sym at ∙ is))

pub quote_not_plain : (q : ℕ) → is_plain_within q q ≡ false
quote_not_plain q = ap (λ x. not (x || q == 0x3C || q == 0x26)) (eq-eqb q q refl)

pub quote_no_run : (q : ℕ) {bs run after rest : List ℕ} → bs ≡ q ∷ rest → RunAt (is_plain_within q) bs run after → ⊥
quote_no_run q {run = run} {after = after} is a = run_unless q (quote_not_plain q) (subst (λ w. RunAt (is_plain_within q) w run after) is a)

pub run_no_reference : {o : Bool} (q : ℕ) {bs run s after rest : List ℕ} → RunAt (is_plain_within q) bs run rest → ReferenceAt o bs s after → ⊥
run_no_reference q {run = run} {rest = rest} a b =
    let (r, is) = reference_first b in
    run_unless 0x26 (amp (0x26 == q)) (subst (λ w. RunAt (is_plain_within q) w run rest) is a)
  where
    amp : (x : Bool) → not (x || false || true) ≡ false
    amp true = refl
    amp false = refl

-- what is left of a value past its first piece
pub value_past : {q : ℕ} {bs piece rest v after : List ℕ} → IsQuote q → PieceAt false q bs piece rest → ValueAt false q bs v after → (w : List ℕ) × ValueAt false q rest w after × (v ≡ piece ++ w)
value_past {q = q} k (pieces.plain a) (closed e) = absurd (quote_no_run q e a)
value_past {q = q} {after = after} k (pieces.plain a) (plain {value = w} b v) =
    let same = run_unique b a in (w, subst (λ z. ValueAt false q z w after) same.1 v, ap (λ r. spaced (line_ends r) ++ w) same.0)
value_past {q = q} k (pieces.plain a) (reference b v) = absurd (run_no_reference q a b)
value_past k (pieces.reference a) (closed e) = absurd (quote_no_reference k e a)
value_past {q = q} k (pieces.reference a) (plain b v) = absurd (run_no_reference q b a)
value_past {q = q} {after = after} k (pieces.reference a) (reference {value = w} b v) =
    let same = reference_unique b a in (w, subst (λ z. ValueAt false q z w after) same.1 v, ap (λ s. s ++ w) same.0)

-- nothing of it before its quote
pub value_ends : {q : ℕ} {bs v after r : List ℕ} → IsQuote q → bs ≡ q ∷ r → ValueAt false q bs v after → v ≡ []
value_ends k e (closed f) = refl
value_ends {q = q} k e (plain a v) = absurd (quote_no_run q e a)
value_ends k e (reference a v) = absurd (quote_no_reference k e a)

-- and else a piece
pub value_front : {q : ℕ} {bs v after : List ℕ} → ((r : List ℕ) → bs ≡ q ∷ r → ⊥) → ValueAt false q bs v after → (piece rest w : List ℕ) × PieceAt false q bs piece rest × (v ≡ piece ++ w)
value_front h (closed {after = after} e) = absurd (h after e)
value_front h (plain {run = run} {rest = rest} {value = w} a v) = (spaced (line_ends run), rest, w, pieces.plain a, refl)
value_front h (reference {text = text} {rest = rest} {value = w} a v) = (text, rest, w, pieces.reference a, refl)

pub run_at : (q n : ℕ) (bs run rest : List ℕ) → n ≡ prefix_len (is_plain_within q) bs → n ≢ 0 → run ≡ take n bs → rest ≡ drop n bs → RunAt (is_plain_within q) bs run rest
run_at q n bs run rest e h f g = record { some = omega (arith, e, h); front = f ∙ ap (λ k. take k bs) e; back = g ∙ ap (λ k. drop k bs) e }

-- what a piece takes of the bytes
pub run_before : (p : ℕ → Bool) (bs run rest : List ℕ) → RunAt p bs run rest → (0 < length run) × (bs ≡ run ++ rest)
run_before p bs run rest a =
    let whole : bs ≡ run ++ rest = sym (take-append-drop (prefix_len p bs) bs) ∙ (ap (λ w. w ++ drop (prefix_len p bs) bs) (sym a.front) ∙ ap (λ w. run ++ w) (sym a.back)) in
    (omega (arith, a.some, ap length a.front, length-take (prefix_len p bs) bs, prefix_len-le-length p bs), whole)

pub reference_before : {o : Bool} (bs s rest : List ℕ) → ReferenceAt o bs s rest → (p : List ℕ) × (bs ≡ p ++ 0x3B ∷ rest)
reference_before bs s rest (decimal {rest = r} {digits = d} a h) = (codes "&#" ++ d, ap (λ w. 0x26 ∷ 0x23 ∷ w) (run_before (is_digit 10) r d (0x3B ∷ rest) a).1)
reference_before bs s rest (hexadecimal {rest = r} {digits = d} a h) = (codes "&#x" ++ d, ap (λ w. 0x26 ∷ 0x23 ∷ 0x78 ∷ w) (run_before (is_digit 16) r d (0x3B ∷ rest) a).1)
reference_before bs s rest (entity {name = n} a h) = (0x26 ∷ n, a.opens ∙ ap (λ w. 0x26 ∷ w) a.names.parts)
reference_before bs s rest (other {name = n} k a h) = (0x26 ∷ n, a.opens ∙ ap (λ w. 0x26 ∷ w) a.names.parts)

pub piece_before : {o : Bool} (q : ℕ) (bs piece rest : List ℕ) → PieceAt o q bs piece rest → (p : List ℕ) × (0 < length p) × (bs ≡ p ++ rest)
piece_before q bs piece rest (pieces.plain {run = r} a) = let (l, e) = run_before (is_plain_within q) bs r rest a in (r, l, e)
piece_before q bs piece rest (pieces.reference a) =
    let (p, e) = reference_before bs piece rest a in (p ++ 0x3B ∷ [], omega (arith, length-append p (0x3B ∷ [])), e ∙ sym (append_assoc p (0x3B ∷ []) rest))

pub after_semicolon : (bs p rest : List ℕ) → bs ≡ p ++ 0x3B ∷ rest → IsUtf8 bs → IsUtf8 rest
after_semicolon bs p rest e u =
    let whole = p ++ 0x3B ∷ rest in
    let v = subst IsUtf8 e u in
    let is : get_or whole (length p) 0 ≡ 0x3B = get_or_at p 0x3B rest 0 (length p) refl in
    let cut = IsCharBoundary-after_ascii whole (length p) v (omega (arith, length-append p (0x3B ∷ rest))) (omega (arith, is)) in
    let past : drop (length p + 1) whole ≡ rest = ap (drop (length p + 1)) (sym (append_assoc p (0x3B ∷ []) rest)) ∙ drop_at (p ++ 0x3B ∷ []) rest (length p + 1) (length-append p (0x3B ∷ [])) in
    subst IsUtf8 past (IsUtf8-drop whole (length p + 1) v cut)

pub text_past_piece : {o : Bool} (q : ℕ) (bs piece rest : List ℕ) → IsQuote q → PieceAt o q bs piece rest → IsUtf8 bs → IsUtf8 rest
text_past_piece q bs piece rest k (pieces.plain a) u = subst IsUtf8 (sym a.back) (IsUtf8-drop bs (prefix_len (is_plain_within q) bs) u (cut_after_plain q (prefix_len (is_plain_within q) bs) bs k refl))
text_past_piece q bs piece rest k (pieces.reference a) u = let (p, e) = reference_before bs piece rest a in after_semicolon bs p rest e u

pub piece_shorter : {o : Bool} (q : ℕ) (bs piece rest : List ℕ) → PieceAt o q bs piece rest → length rest < length bs
piece_shorter q bs piece rest a = let (p, l, e) = piece_before q bs piece rest a in omega (arith, l, ap length e, length-append p rest)

-- How far a value is added: what was added and what is left of it are all of it
abbrev pub Pushed : ℕ → List ℕ → List ℕ → List ℕ → List ℕ → Type 0
Pushed quote inside old rest new = (value after : List ℕ) → ValueAt false quote inside value after → (w : List ℕ) × ValueAt false quote rest w after × (new ++ w ≡ old ++ value)

pub pushed_more : (q : ℕ) (inside old rest new next : List ℕ) {now : List ℕ} → IsQuote q → Pushed q inside old rest new → ((piece : List ℕ) × PieceAt false q rest piece next × (now ≡ new ++ piece)) → Pushed q inside old next now
pushed_more q inside old rest new next k h (piece, a, e) value after v =
    let (w, there, same) = h value after v in
    let (x, left, parts) = value_past k a there in
    (x, left, ap (λ z. z ++ x) e ∙ (append_assoc new piece x ∙ (ap (λ z. new ++ z) (sym parts) ∙ same)))

pub pushed_whole : (q : ℕ) (inside old rest new r : List ℕ) → IsQuote q → Pushed q inside old rest new → rest ≡ q ∷ r → (value after : List ℕ) → ValueAt false q inside value after → new ≡ old ++ value
pushed_whole q inside old rest new r k h e value after v =
    let (w, there, same) = h value after v in
    sym (append-nil new) ∙ (ap (λ z. new ++ z) (sym (value_ends k e there)) ∙ same)

pub pushed_full : (q : ℕ) (inside old rest new : List ℕ) (most now : ℕ) → Pushed q inside old rest new → ((r : List ℕ) → rest ≡ q ∷ r → ⊥) → now ≡ most
    → ((piece next : List ℕ) → PieceAt false q rest piece next → now < length new + length piece) → (value after : List ℕ) → ValueAt false q inside value after → most < length old + length value
pushed_full q inside old rest new most now h apart same full value after v =
    let (w, there, e) = h value after v in
    let (piece, next, x, a, parts) = value_front apart there in
    let f = full piece next a in
    let le : length w ≡ length piece + length x = ap length parts ∙ length-append piece x in
    let all : length new + length w ≡ length old + length value = sym (length-append new w) ∙ (ap length e ∙ length-append old value) in
    omega (arith, f, le, all, same)

-- a value has one first piece
piece_same : {q : ℕ} {bs p r s t : List ℕ} → PieceAt false q bs p r → PieceAt false q bs s t → p ≡ s
piece_same (pieces.plain a) (pieces.plain b) = ap (λ z. spaced (line_ends z)) (run_unique a b).0
piece_same {q} (pieces.plain a) (pieces.reference b) = absurd (run_no_reference q a b)
piece_same {q} (pieces.reference a) (pieces.plain b) = absurd (run_no_reference q b a)
piece_same (pieces.reference a) (pieces.reference b) = (reference_unique a b).0

pub no_room_for_piece : {q : ℕ} {bs p r : List ℕ} (most count : ℕ) → PieceAt false q bs p r → most < count + length p → (piece rest : List ℕ) → PieceAt false q bs piece rest → most < count + length piece
no_room_for_piece most count a l piece rest b = omega (arith, l, ap length (piece_same a b))

-- no piece where neither a run nor a reference stands
pub no_piece : {o : Bool} {q : ℕ} {bs : List ℕ} → prefix_len (is_plain_within q) bs ≡ 0 → ((s after : List ℕ) → ReferenceAt o bs s after → ⊥) → (piece rest : List ℕ) → PieceAt o q bs piece rest → ⊥
no_piece e h piece rest (pieces.plain a) = omega (arith, a.some, e)
no_piece e h piece rest (pieces.reference a) = h piece rest a

-- of what is malformed
pub no_reference_there : (e : NoReference) (bs : List ℕ) → e ≡ no.Malformed → Lacks e bs → (s after : List ℕ) → ReferenceAt true bs s after → ⊥
no_reference_there no.Malformed bs e h = h
no_reference_there no.OtherEntity bs e h = absurd (differ e)
  where
    differ : no.OtherEntity ≡ no.Malformed → ⊥
    differ e = cc

pub lacks_reference : (e : NoReference) (bs : List ℕ) → Lacks e bs → (s after : List ℕ) → ReferenceAt false bs s after → ⊥
lacks_reference no.Malformed bs h s after a = h s after (lift a)
  where
    lift : {bs s after : List ℕ} → ReferenceAt false bs s after → ReferenceAt true bs s after
    lift (decimal a h) = decimal a h
    lift (hexadecimal a h) = hexadecimal a h
    lift (entity a h) = entity a h
    lift (other h a k) = other refl a k
lacks_reference no.OtherEntity bs h s after a = other_no_reference h a
