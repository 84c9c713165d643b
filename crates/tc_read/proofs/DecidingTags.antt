-- References, attribute values and start tags at the front of any bytes: each is read, or refused, or neither.
use Rattle.std.proofs.Common.{◌≡◌, ◌⊎◌, inl, inr, ℕ, ◌<◌, ◌≤◌, Bool, false, List, [], ◌∷◌, ◌++◌, refl, ap, ◌∙◌, sym, subst, length, take, drop, arith, codes, Option, None, Some, IsTrue, length-append, length-drop}
use Rattle.std.specs.Prelude.{encode_utf8}
use Rattle.std.specs.List.{prefix_len}
use Rattle.std.specs.Str.Parse.{digits_value}
use Rattle.std.proofs.lemmas.Bool.{false≢true}
use Rattle.tc_base.specs.Characters.{is_char}
use Rattle.tc_model.specs.XmlTextBytes.{RunAt, IsQuote, line_ends}
use Rattle.tc_model.specs.XmlTextNames.{NcNameAt, QualifiedName, QNameAt, unprefixed, prefixed}
use Rattle.tc_model.specs.XmlTextReferences as r
use Rattle.tc_model.specs.XmlTextReferences.{predefined, is_digit, EntityAt, ReferenceAt, decimal, hexadecimal, entity, other, is_plain_within, spaced, ValueAt, closed, plain, QuotedAt}
use Rattle.tc_model.specs.XmlTextRefusals as f
use Rattle.tc_model.specs.XmlTextRefusals.{OtherEntityAt, ValueRefuses, past_run, past_reference, QuotedRefuses, value}
use Rattle.tc_model.proofs.XmlTextPhrases.{ncname_unique, run_unique, reference_unique, reference_no_run, same_others, same_first}
use Rattle.tc_model.proofs.XmlTextRefused.{as_reference, other_no_reference}
use Rattle.tc_sheet.proofs.DecidingBytes.{Decided, is_true, begins, begins_with, same_after, quote_is}
use Rattle.tc_sheet.proofs.DecidingNames.{by_length, ncname_here}
use Rattle.tc_read.proofs.DecidingSettings.{some_bytes}

-- read, or refused, or neither
abbrev pub Known : Type 0 → Type 0 → Type 0
Known R F = R ⊎ (F ⊎ ((R → ⊥) × (F → ⊥)))

-- a run of bytes
abbrev pub RunHere : (ℕ → Bool) → List ℕ → Type 0
RunHere p bs = (run : List ℕ) × ((after : List ℕ) × RunAt p bs run after)

pub run_here : (p : ℕ → Bool) (bs : List ℕ) → RunHere p bs ⊎ ((run after : List ℕ) → RunAt p bs run after → ⊥)
run_here p bs = elim (some_bytes (prefix_len p bs)) [
  | inl l ↦ inl (take (prefix_len p bs) bs, (drop (prefix_len p bs) bs, record { some = l; front = refl; back = refl }))
  | inr h ↦ inr (λ run after a. h a.some)
]

some_length : (p : ℕ → Bool) (bs : List ℕ) → 0 < prefix_len p bs → 0 < length bs
some_length p [] l = l
some_length p (b ∷ bs) l = omega arith

pub run_shorter : {p : ℕ → Bool} {bs run after : List ℕ} → RunAt p bs run after → length after < length bs
run_shorter {p} {bs} a = let l = some_length p bs a.some in omega (arith, ap length a.back, length-drop (prefix_len p bs) bs, a.some, l)

-- digits of a character reference
digits_here : (base : ℕ) (rest : List ℕ) → ((digits : List ℕ) × ((after : List ℕ) × (RunAt (is_digit base) rest digits (0x3B ∷ after) × IsTrue (is_char (digits_value base digits)))))
    ⊎ ((digits after : List ℕ) → RunAt (is_digit base) rest digits (0x3B ∷ after) → IsTrue (is_char (digits_value base digits)) → ⊥)
digits_here base rest = elim (run_here (is_digit base) rest) [
  | inr h ↦ inr (λ digits after a k. h digits (0x3B ∷ after) a)
  | inl (digits, (behind, a)) ↦ elim (begins 0x3B behind) [
    | inr h ↦ inr (λ ds after b k. h after (run_unique a b).1)
    | inl (after, e) ↦ elim (is_true (is_char (digits_value base digits))) [
      | inl k ↦ inl (digits, (after, (subst (λ z. RunAt (is_digit base) rest digits z) e a, k)))
      | inr h ↦ inr (λ ds z b k. h (subst (λ w. IsTrue (is_char (digits_value base w))) (run_unique b a).0 k))
    ]
  ]
]

-- an entity reference
entity_here : (bs : List ℕ) → ((name : List ℕ) × ((after : List ℕ) × EntityAt bs name after)) ⊎ ((name after : List ℕ) → EntityAt bs name after → ⊥)
entity_here bs = elim (begins 0x26 bs) [
  | inr h ↦ inr (λ name after a. h a.rest a.opens)
  | inl (rest, e) ↦ elim (ncname_here rest) [
    | inr h ↦ inr (λ name after a. h name (0x3B ∷ after) (its_name rest e a))
    | inl (name, (behind, n)) ↦ elim (begins 0x3B behind) [
      | inl (after, g) ↦ inl (name, (after, record { rest = rest; opens = e; names = subst (NcNameAt rest name) g n }))
      | inr h ↦ inr (λ m after a. h after (ncname_unique n (its_name rest e a)).1)
    ]
  ]
]
  where
    its_name : (rest : List ℕ) → bs ≡ 0x26 ∷ rest → {name after : List ℕ} (a : EntityAt bs name after) → NcNameAt rest name (0x3B ∷ after)
    its_name rest e {name} {after} a = subst (λ z. NcNameAt z name (0x3B ∷ after)) (same_others (sym a.opens ∙ e)) a.names

-- a reference
abbrev pub ReferenceHere : List ℕ → Type 0
ReferenceHere bs = (t : List ℕ) × ((after : List ℕ) × ReferenceAt false bs t after)

record NoReference (bs : List ℕ) : Type 0 where
  no_decimal : (rest digits after : List ℕ) → bs ≡ codes "&#" ++ rest → RunAt (is_digit 10) rest digits (0x3B ∷ after) → IsTrue (is_char (digits_value 10 digits)) → ⊥
  no_hexadecimal : (rest digits after : List ℕ) → bs ≡ codes "&#x" ++ rest → RunAt (is_digit 16) rest digits (0x3B ∷ after) → IsTrue (is_char (digits_value 16 digits)) → ⊥

no_reference : (bs : List ℕ) → NoReference bs → ((name after : List ℕ) (c : ℕ) → EntityAt bs name after → predefined name ≡ Some c → ⊥) → (t after : List ℕ) → ReferenceAt false bs t after → ⊥
no_reference bs n h t after (decimal {rest = rest} {digits = ds} a k) = n.no_decimal rest ds after refl a k
no_reference bs n h t after (hexadecimal {rest = rest} {digits = ds} a k) = n.no_hexadecimal rest ds after refl a k
no_reference bs n h t after (entity {name = name} {c = c} a e) = h name after c a e
no_reference bs n h t after (other i a e) = false≢true i

decimal_here : (base : ℕ) (mark bs : List ℕ) → ((rest : List ℕ) × ((digits : List ℕ) × ((after : List ℕ) × ((bs ≡ mark ++ rest) × (RunAt (is_digit base) rest digits (0x3B ∷ after) × IsTrue (is_char (digits_value base digits)))))))
    ⊎ ((rest digits after : List ℕ) → bs ≡ mark ++ rest → RunAt (is_digit base) rest digits (0x3B ∷ after) → IsTrue (is_char (digits_value base digits)) → ⊥)
decimal_here base mark bs = elim (begins_with mark bs) [
  | inr h ↦ inr (λ rest digits after e a k. h rest e)
  | inl (rest, e) ↦ elim (digits_here base rest) [
    | inl (digits, (after, (a, k))) ↦ inl (rest, (digits, (after, (e, (a, k)))))
    | inr h ↦ inr (λ s ds after g a k. h ds after (subst (λ z. RunAt (is_digit base) z ds (0x3B ∷ after)) (same_after mark bs s rest g e) a) k)
  ]
]

some_none : {X : Type 0} {o : Option X} {x : X} → o ≡ None → o ≡ Some x → ⊥
some_none e g = cc

pub reference_here : (bs : List ℕ) → Known (ReferenceHere bs) (OtherEntityAt bs)
reference_here bs = elim (decimal_here 10 (codes "&#") bs) [
  | inl (rest, (digits, (after, (e, (a, k))))) ↦ inl (encode_utf8 (digits_value 10 digits), (after, subst (λ z. ReferenceAt false z (encode_utf8 (digits_value 10 digits)) after) (sym e) (decimal a k)))
  | inr d ↦ elim (decimal_here 16 (codes "&#x") bs) [
    | inl (rest, (digits, (after, (e, (a, k))))) ↦ inl (encode_utf8 (digits_value 16 digits), (after, subst (λ z. ReferenceAt false z (encode_utf8 (digits_value 16 digits)) after) (sym e) (hexadecimal a k)))
    | inr x ↦ by (record { no_decimal = d; no_hexadecimal = x }) (entity_here bs)
  ]
]
  where
    of_name : (name after : List ℕ) → EntityAt bs name after → (o : Option ℕ) → predefined name ≡ o → Known (ReferenceHere bs) (OtherEntityAt bs)
    of_name name after a None e = inr (inl (record { name = name; after = after; refers = a; not_predefined = e }))
    of_name name after a (Some c) e = inl (c ∷ [], (after, entity a e))

    by : NoReference bs → ((name : List ℕ) × ((after : List ℕ) × EntityAt bs name after)) ⊎ ((name after : List ℕ) → EntityAt bs name after → ⊥) → Known (ReferenceHere bs) (OtherEntityAt bs)
    by n (inl (name, (after, a))) = of_name name after a (predefined name) refl
    by n (inr h) = inr (inr ((λ x. no_reference bs n (λ name after c a e. h name after a) x.0 x.1.0 x.1.1), (λ o. h o.name o.after o.refers)))

pub reference_shorter : {o : Bool} {bs t after : List ℕ} → ReferenceAt o bs t after → length after < length bs
reference_shorter (decimal {rest = rest} a k) = let l = run_shorter a in omega (arith, l)
reference_shorter (hexadecimal {rest = rest} a k) = let l = run_shorter a in omega (arith, l)
reference_shorter (entity {name = name} {after = after} a e) = omega (arith, ap length a.opens, ap length a.names.parts, length-append name (0x3B ∷ after))
reference_shorter (other {name = name} {after = after} i a e) = omega (arith, ap length a.opens, ap length a.names.parts, length-append name (0x3B ∷ after))

-- an attribute value, up to its quote
abbrev ValueHere : ℕ → List ℕ → Type 0
ValueHere q bs = (v : List ℕ) × ((after : List ℕ) × ValueAt false q bs v after)

abbrev ValueStops : ℕ → List ℕ → Type 0
ValueStops q bs = (at : List ℕ) × ValueRefuses q bs at

module _ (q : ℕ) (iq : IsQuote q) where
  module _ (bs : List ℕ) (nq : (rest : List ℕ) → bs ≡ q ∷ rest → ⊥) where
    module _ (run rest : List ℕ) (a : RunAt (is_plain_within q) bs run rest) where
      no_later_value : (ValueHere q rest → ⊥) → (v after : List ℕ) → ValueAt false q bs v after → ⊥
      no_later_value h v after (closed e) = nq after e
      no_later_value h v after (plain {rest = z} {value = w} b k) = h (w, (after, subst (λ y. ValueAt false q y w after) (run_unique b a).1 k))
      no_later_value h v after (r.reference b k) = reference_no_run q a b

      no_later_stop : (ValueStops q rest → ⊥) → (at : List ℕ) → ValueRefuses q bs at → ⊥
      no_later_stop h at (f.entity o) = reference_no_run q a (as_reference o)
      no_later_stop h at (past_run b k) = h (at, subst (λ y. ValueRefuses q y at) (run_unique b a).1 k)
      no_later_stop h at (past_reference b k) = reference_no_run q a b

      past_plain : Known (ValueHere q rest) (ValueStops q rest) → Known (ValueHere q bs) (ValueStops q bs)
      past_plain (inl (v, (after, k))) = inl (spaced (line_ends run) ++ v, (after, plain a k))
      past_plain (inr (inl (at, k))) = inr (inl (at, past_run a k))
      past_plain (inr (inr h)) = inr (inr ((λ x. no_later_value h.0 x.0 x.1.0 x.1.1), (λ x. no_later_stop h.1 x.0 x.1)))

    module _ (nr : (run rest : List ℕ) → RunAt (is_plain_within q) bs run rest → ⊥) where
      module _ (t rest : List ℕ) (a : ReferenceAt false bs t rest) where
        no_value_behind : (ValueHere q rest → ⊥) → (v after : List ℕ) → ValueAt false q bs v after → ⊥
        no_value_behind h v after (closed e) = nq after e
        no_value_behind h v after (plain {run = run} {rest = z} b k) = nr run z b
        no_value_behind h v after (r.reference {value = w} b k) = h (w, (after, subst (λ y. ValueAt false q y w after) (reference_unique b a).1 k))

        no_stop_behind : (ValueStops q rest → ⊥) → (at : List ℕ) → ValueRefuses q bs at → ⊥
        no_stop_behind h at (f.entity o) = other_no_reference o a
        no_stop_behind h at (past_run {run = run} {rest = z} b k) = nr run z b
        no_stop_behind h at (past_reference b k) = h (at, subst (λ y. ValueRefuses q y at) (reference_unique b a).1 k)

        past_it : Known (ValueHere q rest) (ValueStops q rest) → Known (ValueHere q bs) (ValueStops q bs)
        past_it (inl (v, (after, k))) = inl (t ++ v, (after, r.reference a k))
        past_it (inr (inl (at, k))) = inr (inl (at, past_reference a k))
        past_it (inr (inr h)) = inr (inr ((λ x. no_value_behind h.0 x.0 x.1.0 x.1.1), (λ x. no_stop_behind h.1 x.0 x.1)))

      no_value : (ReferenceHere bs → ⊥) → (v after : List ℕ) → ValueAt false q bs v after → ⊥
      no_value h v after (closed e) = nq after e
      no_value h v after (plain {run = run} {rest = z} b k) = nr run z b
      no_value h v after (r.reference {text = t} {rest = z} b k) = h (t, (z, b))

      no_stop : (ReferenceHere bs → ⊥) → (OtherEntityAt bs → ⊥) → (at : List ℕ) → ValueRefuses q bs at → ⊥
      no_stop h g at (f.entity o) = g o
      no_stop h g at (past_run {run = run} {rest = z} b k) = nr run z b
      no_stop h g at (past_reference {s = t} {rest = z} b k) = h (t, (z, b))

      at_reference : ((cs : List ℕ) → length cs < length bs → Known (ValueHere q cs) (ValueStops q cs)) → Known (ReferenceHere bs) (OtherEntityAt bs) → Known (ValueHere q bs) (ValueStops q bs)
      at_reference ih (inl (t, (rest, a))) = past_it t rest a (ih rest (reference_shorter a))
      at_reference ih (inr (inl o)) = inr (inl (bs, f.entity o))
      at_reference ih (inr (inr h)) = inr (inr ((λ x. no_value h.0 x.0 x.1.0 x.1.1), (λ x. no_stop h.0 h.1 x.0 x.1)))

  value_here : (bs : List ℕ) → Known (ValueHere q bs) (ValueStops q bs)
  value_here = by_length (λ bs. Known (ValueHere q bs) (ValueStops q bs)) step
    where
      step : (bs : List ℕ) → ((cs : List ℕ) → length cs < length bs → Known (ValueHere q cs) (ValueStops q cs)) → Known (ValueHere q bs) (ValueStops q bs)
      step bs ih = elim (begins q bs) [
        | inl (rest, e) ↦ inl ([], (rest, closed e))
        | inr nq ↦ elim (run_here (is_plain_within q) bs) [
          | inl (run, (rest, a)) ↦ past_plain bs nq run rest a (ih rest (run_shorter a))
          | inr nr ↦ at_reference bs nq nr ih (reference_here bs)
        ]
      ]

-- a quoted value
abbrev pub QuotedHere : List ℕ → Type 0
QuotedHere bs = (v : List ℕ) × ((after : List ℕ) × QuotedAt false bs v after)

abbrev pub QuotedStops : List ℕ → Type 0
QuotedStops bs = (at : List ℕ) × QuotedRefuses bs at

pub quoted_here : (bs : List ℕ) → Known (QuotedHere bs) (QuotedStops bs)
quoted_here [] = inr (inr ((λ x. let a = x.1.1 in omega (arith, ap length a.opens)), (λ x. let a = x.1 in omega (arith, ap length a.opens))))
quoted_here (q ∷ bs) = by (quote_is q)
  where
    its_value : (v after : List ℕ) → QuotedAt false (q ∷ bs) v after → ValueAt false q bs v after
    its_value v after a = subst (λ z. ValueAt false z bs v after) (sym (same_first a.opens)) (subst (λ z. ValueAt false a.quote z v after) (sym (same_others a.opens)) a.closes)

    its_stop : (at : List ℕ) → QuotedRefuses (q ∷ bs) at → ValueRefuses q bs at
    its_stop at a = subst (λ z. ValueRefuses z bs at) (sym (same_first a.opens)) (subst (λ z. ValueRefuses a.quote z at) (sym (same_others a.opens)) a.refuses)

    of_quote : IsQuote q → Known (ValueHere q bs) (ValueStops q bs) → Known (QuotedHere (q ∷ bs)) (QuotedStops (q ∷ bs))
    of_quote i (inl (v, (after, k))) = inl (v, (after, record { quote = q; rest = bs; is_quote = i; opens = refl; closes = k }))
    of_quote i (inr (inl (at, k))) = inr (inl (at, record { quote = q; rest = bs; is_quote = i; opens = refl; refuses = k }))
    of_quote i (inr (inr h)) = inr (inr ((λ x. h.0 (x.0, (x.1.0, its_value x.0 x.1.0 x.1.1))), (λ x. h.1 (x.0, its_stop x.0 x.1))))

    by : Decided (IsQuote q) → Known (QuotedHere (q ∷ bs)) (QuotedStops (q ∷ bs))
    by (inl i) = of_quote i (value_here q i bs)
    by (inr h) = inr (inr ((λ x. let a = x.1.1 in h (subst IsQuote (sym (same_first a.opens)) a.is_quote)), (λ x. let a = x.1 in h (subst IsQuote (sym (same_first a.opens)) a.is_quote))))

value_left : {o : Bool} {q : ℕ} {bs v after : List ℕ} → ValueAt o q bs v after → length after < length bs
value_left (closed e) = omega (arith, ap length e)
value_left (plain a k) = let l = run_shorter a in let m = value_left k in omega (arith, l, m)
value_left (r.reference a k) = let l = reference_shorter a in let m = value_left k in omega (arith, l, m)

pub quoted_shorter : {o : Bool} {bs v after : List ℕ} → QuotedAt o bs v after → length after < length bs
quoted_shorter a = let l = value_left a.closes in omega (arith, l, ap length a.opens)

-- a qualified name
pub qname_left : {bs after : List ℕ} {n : QualifiedName} → QNameAt bs n after → length after ≤ length bs
qname_left (unprefixed {local = l} {after = after} a k) = omega (arith, ap length a.parts, length-append l after)
qname_left (prefixed {prefix = p} {rest = rest} {local = l} {after = after} a b) = omega (arith, ap length a.parts, length-append p (0x3A ∷ rest), ap length b.parts, length-append l after)
