-- What reading a phrase comes to is one thing: laws of single phrases, and of one phrase and then another.
use Rattle.std.proofs.Common.{◌≡◌, ◌⊎◌, inl, inr, ◌+◌, ◌≤◌, ℕ, false, List, ◌∷◌, refl, ap, ◌∙◌, sym, subst, arith, length, length-append, length-drop}
use Rattle.std.specs.List.{prefix_len}
use Rattle.tc_base.specs.Characters.{is_white}
use Rattle.tc_model.specs.Names.{is_ncname_start}
use Rattle.tc_model.specs.XmlTextBytes.{BeginsWithWhite, after_white}
use Rattle.tc_model.specs.XmlTextNames.{NcNameAt}
use Rattle.tc_model.specs.XmlTextRefusals.{Cause, too_deep}
use Rattle.tc_model.proofs.XmlTextPhrases.{same_first, same_others, no_name}
use Rattle.tc_dtd.specs.Outcomes.{Outcome, read, refused, outcome_map, Then, stops, goes_on, Past, past}

pub read_same : {A : Type 0} {a b : A} {r s : List ℕ} → read a r ≡ read b s → (a ≡ b) × (r ≡ s)
read_same {a = a} {b = b} {r = r} {s = s} e = (cc, cc)

pub read_not : {A : Type 0} {a : A} {r at : List ℕ} {cause : Cause} → read a r ≡ refused cause at → ⊥
read_not {a = a} {r = r} {at = at} {cause = cause} e = cc

-- how many bytes stand from where reading stops on
abbrev pub left_of : {A : Type 0} → Outcome A → ℕ
left_of (read a rest) = length rest
left_of (refused cause at) = length at

pub left_map : {A B : Type 0} (f : A → B) (o : Outcome A) → left_of (outcome_map f o) ≡ left_of o
left_map f (read a rest) = refl
left_map f (refused cause at) = refl

abbrev pub IsRead : {A : Type 0} → Outcome A → Type 0
IsRead (read a rest) = Unit {0}
IsRead (refused cause at) = ⊥

pub read_under : {A B : Type 0} (f : A → B) (o : Outcome A) (w : Outcome B) → w ≡ outcome_map f o → IsRead w → IsRead o
read_under f (read a rest) w e i = tt
read_under f (refused cause at) w e i = subst IsRead e i

-- whether what one phrase says another says too, or that parentheses stand too deep
abbrev pub Kept : {A : Type 0} → (List ℕ → Outcome A → Type 0) → List ℕ → Outcome A → Type 0
Kept P bs o = P bs o ⊎ ((at : List ℕ) × P bs (refused too_deep at))

-- one phrase and then another

pub then_unique : {A B : Type 0} (First : List ℕ → Outcome A → Type 0) (Second : A → List ℕ → Outcome B → Type 0) → ((bs : List ℕ) (o p : Outcome A) → First bs o → First bs p → o ≡ p)
    → ((a : A) (bs : List ℕ) (o p : Outcome B) → Second a bs o → Second a bs p → o ≡ p) → (bs : List ℕ) (o p : Outcome B) → Then First Second bs o → Then First Second bs p → o ≡ p
then_unique First Second f g bs o p (stops {at = at} {cause = c} a) (stops {at = at'} {cause = c'} b) = let e = f bs (refused c at) (refused c' at') a b in cc
then_unique First Second f g bs o p (stops {at = at} {cause = c} a) (goes_on {rest = r} {value = v} b k) = absurd (read_not (f bs (read v r) (refused c at) b a))
then_unique First Second f g bs o p (goes_on {rest = r} {value = v} a k) (stops {at = at} {cause = c} b) = absurd (read_not (f bs (read v r) (refused c at) a b))
then_unique First Second f g bs o p (goes_on {rest = r} {value = v} a k) (goes_on {rest = s} {value = w} b l) =
    let e = read_same (f bs (read v r) (read w s) a b) in
    g v r o p k (subst (λ x. Second x r p) (sym e.0) (subst (λ y. Second w y p) (sym e.1) l))

pub then_left : {A B : Type 0} (First : List ℕ → Outcome A → Type 0) (Second : A → List ℕ → Outcome B → Type 0) → ((bs : List ℕ) (o : Outcome A) → First bs o → left_of o ≤ length bs)
    → ((a : A) (bs : List ℕ) (o : Outcome B) → Second a bs o → left_of o ≤ length bs) → (bs : List ℕ) (o : Outcome B) → Then First Second bs o → left_of o ≤ length bs
then_left First Second f g bs o (stops {at = at} {cause = c} a) = f bs (refused c at) a
then_left First Second f g bs o (goes_on {rest = r} {value = v} a k) = let one = f bs (read v r) a in let two = g v r o k in omega (arith, one, two)

pub then_kept : {A B : Type 0} (First First' : List ℕ → Outcome A → Type 0) (Second Second' : A → List ℕ → Outcome B → Type 0)
    → ((bs : List ℕ) (o : Outcome A) → First bs o → IsRead o → Kept First' bs o) → ((a : A) (bs : List ℕ) (o : Outcome B) → Second a bs o → IsRead o → Kept (Second' a) bs o)
    → (bs : List ℕ) (o : Outcome B) → Then First Second bs o → IsRead o → Kept (Then First' Second') bs o
then_kept First First' Second Second' f g bs o (stops a) i = absurd i
then_kept First First' Second Second' f g bs o (goes_on {rest = r} {value = v} a k) i =
    elim (f bs (read v r) a tt) [
      | inl a' ↦ elim (g v r o k i) [ inl k' ↦ inl (goes_on a' k') | inr (at, t) ↦ inr (at, goes_on a' t) ]
      | inr (at, t) ↦ inr (at, stops t)
    ]

pub same_kept : {A : Type 0} (P : List ℕ → Outcome A → Type 0) (bs : List ℕ) (o : Outcome A) → P bs o → IsRead o → Kept P bs o
same_kept P bs o a i = inl a

pub past_unique : (P : List ℕ → List ℕ → Type 0) → ((bs r s : List ℕ) → P bs r → P bs s → r ≡ s) → (bs : List ℕ) (o p : Outcome (Unit {0})) → Past P bs o → Past P bs p → o ≡ p
past_unique P f bs o p (past {after = r} a) (past {after = s} b) = ap (read tt) (f bs r s a b)

-- bytes at the front

pub other_byte : {b c : ℕ} {bs r s : List ℕ} → bs ≡ b ∷ r → bs ≡ c ∷ s → b ≡ c
other_byte e f = same_first (sym e ∙ f)

pub same_behind : {b : ℕ} {bs r s : List ℕ} → bs ≡ b ∷ r → bs ≡ b ∷ s → r ≡ s
same_behind e f = same_others (sym e ∙ f)

pub not_named : (b : ℕ) (bs r n after : List ℕ) → b ≤ 127 → is_ncname_start b ≡ false → bs ≡ b ∷ r → NcNameAt bs n after → ⊥
not_named b bs r n after small is e a = no_name b (omega (arith, small)) is (subst (λ w. NcNameAt w n after) e a)

pub white_left : (bs : List ℕ) → length (after_white bs) ≤ length bs
white_left bs = omega (arith, length-drop (prefix_len is_white bs) bs)

pub behind_left : (b : ℕ) (bs r : List ℕ) → bs ≡ b ∷ r → length r + 1 ≤ length bs
behind_left b bs r e = omega (arith, ap length e)

pub behind_white_left : (b : ℕ) (bs r : List ℕ) → after_white bs ≡ b ∷ r → length r + 1 ≤ length bs
behind_white_left b bs r e = omega (arith, ap length e, white_left bs)

pub name_left : (bs n after : List ℕ) → NcNameAt bs n after → length after ≤ length bs
name_left bs n after a = omega (arith, ap length a.parts, length-append n after)

-- no white space where another byte stands
pub no_white : (b : ℕ) (bs r : List ℕ) → is_white b ≡ false → bs ≡ b ∷ r → BeginsWithWhite bs → ⊥
no_white b bs r is e w = let k : 0 ≤ prefix_len is_white (b ∷ r) = omega arith in by (subst BeginsWithWhite e w)
  where
    by : BeginsWithWhite (b ∷ r) → ⊥
    by h = let none : prefix_len is_white (b ∷ r) ≡ 0 = rw is refl in omega (arith, h, none)
