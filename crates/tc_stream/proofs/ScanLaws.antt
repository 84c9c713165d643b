-- Where something without a bound ends, byte by byte, is where its first end mark stands.
use Rattle.std.proofs.Common.{◌≡◌, ℕ, suc, ◌≤◌, ◌+◌, Bool, true, false, cond, ◌==◌, if◌then◌else◌, List, [], ◌∷◌, ◌++◌, refl, ap, ◌∙◌, sym, subst, length, take, drop, arith, codes, length-append, length-drop}
use Rattle.std.specs.Prelude.{◌↔◌, bytes_eq}
use Rattle.std.specs.Cmp.Lexicographic.{bytes_decides}
use Rattle.std.proofs.lemmas.Bool.{true≢false, eqb-true, eq-eqb}
use Rattle.tc_model.specs.XmlTextBytes.{begins_with, length_before, UpTo}
use Rattle.tc_model.proofs.XmlTextPhrases.{same_first, same_others}
use Rattle.tc_stream.specs.Scans.{Scan, before, going, broken, comment_scan, instruction_scan, cdata_scan}

-- the first such mark stands in these bytes, and this follows it
pub record Found (mark bs after : List ℕ) : Type 0 where
  pub is : drop (length_before mark bs) bs ≡ mark ++ after

pub found_up_to : {mark bs after : List ℕ} → Found mark bs after → UpTo mark bs (take (length_before mark bs) bs) after
found_up_to f = record { front = refl; back = f.is }

pub up_to_found : {mark bs inside after : List ℕ} → UpTo mark bs inside after → Found mark bs after
up_to_found u = record { is = u.back }

-- a mark begins elsewhere
pub record IsElsewhere (mark : List ℕ) (b : ℕ) (bs : List ℕ) : Type 0 where
  pub other : begins_with mark (b ∷ bs) ≡ false

length_elsewhere : (mark : List ℕ) (b : ℕ) (bs : List ℕ) → IsElsewhere mark b bs → length_before mark (b ∷ bs) ≡ 1 + length_before mark bs
length_elsewhere mark b bs e = ap (λ x. cond x 0 (1 + length_before mark bs)) e.other

drop_one : (n b : ℕ) (bs : List ℕ) → drop (1 + n) (b ∷ bs) ≡ drop n bs
drop_one n b bs = let one : 1 + n ≡ suc n = omega arith in ap (λ k. drop k (b ∷ bs)) one

dropped_elsewhere : (mark : List ℕ) (b : ℕ) (bs : List ℕ) → IsElsewhere mark b bs → drop (length_before mark (b ∷ bs)) (b ∷ bs) ≡ drop (length_before mark bs) bs
dropped_elsewhere mark b bs e = ap (λ n. drop n (b ∷ bs)) (length_elsewhere mark b bs e) ∙ drop_one (length_before mark bs) b bs

pub found_less : {mark bs after : List ℕ} (b : ℕ) → IsElsewhere mark b bs → Found mark (b ∷ bs) after → Found mark bs after
found_less {mark} {bs} b e f = record { is = sym (dropped_elsewhere mark b bs e) ∙ f.is }

pub found_more : {mark bs after : List ℕ} (b : ℕ) → IsElsewhere mark b bs → Found mark bs after → Found mark (b ∷ bs) after
found_more {mark} {bs} b e f = record { is = dropped_elsewhere mark b bs e ∙ f.is }

-- a mark that stands here
found_here : (mark bs after : List ℕ) → begins_with mark bs ≡ true → bs ≡ mark ++ after → Found mark bs after
found_here mark [] after h e = record { is = e }
found_here mark (b ∷ bs) after h e = record { is = ap (λ x. drop (cond x 0 (1 + length_before mark bs)) (b ∷ bs)) h ∙ e }

found_is : (mark bs after : List ℕ) → begins_with mark bs ≡ true → Found mark bs after → bs ≡ mark ++ after
found_is mark [] after h f = f.is
found_is mark (b ∷ bs) after h f = sym (ap (λ x. drop (cond x 0 (1 + length_before mark bs)) (b ∷ bs)) h) ∙ f.is

-- it stands nowhere in too few bytes
found_long : (mark bs after : List ℕ) → Found mark bs after → length mark ≤ length bs
found_long mark bs after f = omega (arith, ap length f.is, length-append mark after, length-drop (length_before mark bs) bs)

not_same : (a b : List ℕ) → ((a ≡ b) → ⊥) → bytes_eq a b ≡ false
not_same a b h = by (bytes_eq a b) refl
  where
    by : (x : Bool) → bytes_eq a b ≡ x → bytes_eq a b ≡ false
    by true e = absurd (h ((bytes_decides a b).0 e))
    by false e = e

pub not_equal : (b c : ℕ) → (b == c) ≡ false → b ≡ c → ⊥
not_equal b c e is = true≢false (sym (eq-eqb b c is) ∙ e)

-- a first byte, a second or a third one that isn't the mark's

other_first : {m : ℕ} {mark : List ℕ} (b : ℕ) (bs : List ℕ) → (m ≡ b → ⊥) → IsElsewhere (m ∷ mark) b bs
other_first {m} {mark} b bs h = record { other = not_same (m ∷ mark) (take (length (m ∷ mark)) (b ∷ bs)) (λ e. h (same_first e)) }

other_second : {m n : ℕ} {mark : List ℕ} (a b : ℕ) (bs : List ℕ) → (n ≡ b → ⊥) → IsElsewhere (m ∷ n ∷ mark) a (b ∷ bs)
other_second {m} {n} {mark} a b bs h = record { other = not_same (m ∷ n ∷ mark) (take (length (m ∷ n ∷ mark)) (a ∷ b ∷ bs)) (λ e. h (same_first (same_others e))) }

other_third : {m n o : ℕ} {mark : List ℕ} (a b c : ℕ) (bs : List ℕ) → (o ≡ c → ⊥) → IsElsewhere (m ∷ n ∷ o ∷ mark) a (b ∷ c ∷ bs)
other_third {m} {n} {o} {mark} a b c bs h = record { other = not_same (m ∷ n ∷ o ∷ mark) (take (length (m ∷ n ∷ o ∷ mark)) (a ∷ b ∷ c ∷ bs)) (λ e. h (same_first (same_others (same_others e)))) }

unlike : (b c : ℕ) → (b == c) ≡ false → c ≡ b → ⊥
unlike b c e is = not_equal b c e (sym is)

-- what a scan is behind more bytes
abbrev pub then_scan : (ℕ → List ℕ → Scan) → Scan → List ℕ → Scan
then_scan scan (before r) t = before (r ++ t)
then_scan scan (going k) t = scan k t
then_scan scan broken t = broken

rest_of : Scan → List ℕ
rest_of (before r) = r
rest_of (going k) = []
rest_of broken = []

before_same : {r s : List ℕ} → before r ≡ before s → r ≡ s
unfolding rest_of
before_same e = ap rest_of e

-- comments

pub comment_more : (h : ℕ) (w t : List ℕ) → comment_scan h (w ++ t) ≡ then_scan comment_scan (comment_scan h w) t
comment_more h [] t = refl
comment_more h (b ∷ w) t = by (h == 2) (b == 0x3E) (b == 0x2D) (comment_more (if h == 0 then 1 else 2) w t) (comment_more 0 w t)
  where
    by : (x y z : Bool) → comment_scan (if h == 0 then 1 else 2) (w ++ t) ≡ then_scan comment_scan (comment_scan (if h == 0 then 1 else 2) w) t
        → comment_scan 0 (w ++ t) ≡ then_scan comment_scan (comment_scan 0 w) t
        → (if x then (if y then before (w ++ t) else broken) else (if z then comment_scan (if h == 0 then 1 else 2) (w ++ t) else comment_scan 0 (w ++ t)))
        ≡ then_scan comment_scan (if x then (if y then before w else broken) else (if z then comment_scan (if h == 0 then 1 else 2) w else comment_scan 0 w)) t
    by true true z p q = refl
    by true false z p q = refl
    by false y true p q = p
    by false y false p q = q

abbrev two_dashes : List ℕ
two_dashes = 0x2D ∷ 0x2D ∷ []

comment_found : (bs rest : List ℕ) → (comment_scan 0 bs ≡ before rest → Found two_dashes bs (0x3E ∷ rest))
    × (comment_scan 1 bs ≡ before rest → Found two_dashes (0x2D ∷ bs) (0x3E ∷ rest))
    × (comment_scan 2 bs ≡ before rest → Found two_dashes (0x2D ∷ 0x2D ∷ bs) (0x3E ∷ rest))
comment_found [] rest = (λ e. absurd (cc), λ e. absurd (cc), λ e. absurd (cc))
comment_found (b ∷ bs) rest = let h = comment_found bs rest in (λ e. none (b == 0x2D) refl e h.0 h.1, λ e. one (b == 0x2D) refl e h.0 h.2, λ e. two (b == 0x3E) refl e)
  where
    none : (x : Bool) → (b == 0x2D) ≡ x → (if x then comment_scan 1 bs else comment_scan 0 bs) ≡ before rest
        → (comment_scan 0 bs ≡ before rest → Found two_dashes bs (0x3E ∷ rest)) → (comment_scan 1 bs ≡ before rest → Found two_dashes (0x2D ∷ bs) (0x3E ∷ rest))
        → Found two_dashes (b ∷ bs) (0x3E ∷ rest)
    none true is e f g = subst (λ z. Found two_dashes (z ∷ bs) (0x3E ∷ rest)) (sym (eqb-true b 0x2D is)) (g e)
    none false is e f g = found_more b (other_first b bs (unlike b 0x2D is)) (f e)

    one : (x : Bool) → (b == 0x2D) ≡ x → (if x then comment_scan 2 bs else comment_scan 0 bs) ≡ before rest
        → (comment_scan 0 bs ≡ before rest → Found two_dashes bs (0x3E ∷ rest)) → (comment_scan 2 bs ≡ before rest → Found two_dashes (0x2D ∷ 0x2D ∷ bs) (0x3E ∷ rest))
        → Found two_dashes (0x2D ∷ b ∷ bs) (0x3E ∷ rest)
    one true is e f g = subst (λ z. Found two_dashes (0x2D ∷ z ∷ bs) (0x3E ∷ rest)) (sym (eqb-true b 0x2D is)) (g e)
    one false is e f g = found_more 0x2D (other_second 0x2D b bs (unlike b 0x2D is)) (found_more b (other_first b bs (unlike b 0x2D is)) (f e))

    two : (x : Bool) → (b == 0x3E) ≡ x → (if x then before bs else broken) ≡ before rest → Found two_dashes (0x2D ∷ 0x2D ∷ b ∷ bs) (0x3E ∷ rest)
    two true is e =
        found_here two_dashes (0x2D ∷ 0x2D ∷ b ∷ bs) (0x3E ∷ rest) ((bytes_decides two_dashes two_dashes).1 refl)
        (ap (λ z. 0x2D ∷ 0x2D ∷ z ∷ bs) (eqb-true b 0x3E is) ∙ ap (λ z. 0x2D ∷ 0x2D ∷ 0x3E ∷ z) (before_same e))
    two false is e = absurd (cc)

comment_scanned : (bs rest : List ℕ) → (Found two_dashes bs (0x3E ∷ rest) → comment_scan 0 bs ≡ before rest)
    × (Found two_dashes (0x2D ∷ bs) (0x3E ∷ rest) → comment_scan 1 bs ≡ before rest)
    × (Found two_dashes (0x2D ∷ 0x2D ∷ bs) (0x3E ∷ rest) → comment_scan 2 bs ≡ before rest)
comment_scanned [] rest = (
  λ f. absurd (omega (arith, found_long two_dashes [] (0x3E ∷ rest) f)),
  λ f. absurd (omega (arith, found_long two_dashes (0x2D ∷ []) (0x3E ∷ rest) f)),
  λ f. absurd (omega (arith, ap length (found_is two_dashes (0x2D ∷ 0x2D ∷ []) (0x3E ∷ rest) ((bytes_decides two_dashes two_dashes).1 refl) f))),
)
comment_scanned (b ∷ bs) rest = let h = comment_scanned bs rest in (λ f. none (b == 0x2D) refl f h.0 h.1, λ f. one (b == 0x2D) refl f h.0 h.2, λ f. two (b == 0x3E) refl f)
  where
    none : (x : Bool) → (b == 0x2D) ≡ x → Found two_dashes (b ∷ bs) (0x3E ∷ rest) → (Found two_dashes bs (0x3E ∷ rest) → comment_scan 0 bs ≡ before rest)
        → (Found two_dashes (0x2D ∷ bs) (0x3E ∷ rest) → comment_scan 1 bs ≡ before rest) → (if x then comment_scan 1 bs else comment_scan 0 bs) ≡ before rest
    none true is f g h = h (subst (λ z. Found two_dashes (z ∷ bs) (0x3E ∷ rest)) (eqb-true b 0x2D is) f)
    none false is f g h = g (found_less b (other_first b bs (unlike b 0x2D is)) f)

    one : (x : Bool) → (b == 0x2D) ≡ x → Found two_dashes (0x2D ∷ b ∷ bs) (0x3E ∷ rest) → (Found two_dashes bs (0x3E ∷ rest) → comment_scan 0 bs ≡ before rest)
        → (Found two_dashes (0x2D ∷ 0x2D ∷ bs) (0x3E ∷ rest) → comment_scan 2 bs ≡ before rest) → (if x then comment_scan 2 bs else comment_scan 0 bs) ≡ before rest
    one true is f g h = h (subst (λ z. Found two_dashes (0x2D ∷ z ∷ bs) (0x3E ∷ rest)) (eqb-true b 0x2D is) f)
    one false is f g h = g (found_less b (other_first b bs (unlike b 0x2D is)) (found_less 0x2D (other_second 0x2D b bs (unlike b 0x2D is)) f))

    two : (x : Bool) → (b == 0x3E) ≡ x → Found two_dashes (0x2D ∷ 0x2D ∷ b ∷ bs) (0x3E ∷ rest) → (if x then before bs else broken) ≡ before rest
    two true is f = ap before (same_others (same_others (same_others (found_is two_dashes (0x2D ∷ 0x2D ∷ b ∷ bs) (0x3E ∷ rest) ((bytes_decides two_dashes two_dashes).1 refl) f))))
    two false is f =
        absurd (not_equal b 0x3E is (same_first (same_others (same_others (found_is two_dashes (0x2D ∷ 0x2D ∷ b ∷ bs) (0x3E ∷ rest) ((bytes_decides two_dashes two_dashes).1 refl) f)))))

-- a comment ends where the scan says
pub comment_exact : (bs rest : List ℕ) → (comment_scan 0 bs ≡ before rest) ↔ Found (codes "--") bs (0x3E ∷ rest)
comment_exact bs rest = ((comment_found bs rest).0, (comment_scanned bs rest).0)

-- processing instructions

pub instruction_more : (q : ℕ) (w t : List ℕ) → instruction_scan q (w ++ t) ≡ then_scan instruction_scan (instruction_scan q w) t
instruction_more q [] t = refl
instruction_more q (b ∷ w) t = by (b == 0x3F) (b == 0x3E) (q == 1) (instruction_more 1 w t) (instruction_more 0 w t)
  where
    by : (x y z : Bool) → instruction_scan 1 (w ++ t) ≡ then_scan instruction_scan (instruction_scan 1 w) t
        → instruction_scan 0 (w ++ t) ≡ then_scan instruction_scan (instruction_scan 0 w) t
        → (if x then instruction_scan 1 (w ++ t) else (if y then (if z then before (w ++ t) else instruction_scan 0 (w ++ t)) else instruction_scan 0 (w ++ t)))
        ≡ then_scan instruction_scan (if x then instruction_scan 1 w else (if y then (if z then before w else instruction_scan 0 w) else instruction_scan 0 w)) t
    by true y z p q = p
    by false true true p q = refl
    by false true false p q = q
    by false false z p q = q

abbrev question_end : List ℕ
question_end = 0x3F ∷ 0x3E ∷ []

instruction_found : (bs rest : List ℕ) → (instruction_scan 0 bs ≡ before rest → Found question_end bs rest)
    × (instruction_scan 1 bs ≡ before rest → Found question_end (0x3F ∷ bs) rest)
instruction_found [] rest = (λ e. absurd (cc), λ e. absurd (cc))
instruction_found (b ∷ bs) rest = let h = instruction_found bs rest in (λ e. none (b == 0x3F) (b == 0x3E) refl e h.0 h.1, λ e. one (b == 0x3F) (b == 0x3E) refl refl e h.0 h.1)
  where
    none : (x y : Bool) → (b == 0x3F) ≡ x → (if x then instruction_scan 1 bs else (if y then instruction_scan 0 bs else instruction_scan 0 bs)) ≡ before rest
        → (instruction_scan 0 bs ≡ before rest → Found question_end bs rest) → (instruction_scan 1 bs ≡ before rest → Found question_end (0x3F ∷ bs) rest)
        → Found question_end (b ∷ bs) rest
    none true y is e f g = subst (λ z. Found question_end (z ∷ bs) rest) (sym (eqb-true b 0x3F is)) (g e)
    none false true is e f g = found_more b (other_first b bs (unlike b 0x3F is)) (f e)
    none false false is e f g = found_more b (other_first b bs (unlike b 0x3F is)) (f e)

    one : (x y : Bool) → (b == 0x3F) ≡ x → (b == 0x3E) ≡ y → (if x then instruction_scan 1 bs else (if y then before bs else instruction_scan 0 bs)) ≡ before rest
        → (instruction_scan 0 bs ≡ before rest → Found question_end bs rest) → (instruction_scan 1 bs ≡ before rest → Found question_end (0x3F ∷ bs) rest)
        → Found question_end (0x3F ∷ b ∷ bs) rest
    one true y is n e f g =
        let same = eqb-true b 0x3F is in
        found_more 0x3F (other_second 0x3F b bs (λ k. omega (arith, k, same))) (subst (λ z. Found question_end (z ∷ bs) rest) (sym same) (g e))
    one false true is n e f g =
        let same = eqb-true b 0x3E n in
        found_here question_end (0x3F ∷ b ∷ bs) rest ((bytes_decides question_end (0x3F ∷ b ∷ [])).1 (ap (λ z. 0x3F ∷ z ∷ []) (sym same)))
        (ap (λ z. 0x3F ∷ z ∷ bs) same ∙ ap (λ z. 0x3F ∷ 0x3E ∷ z) (before_same e))
    one false false is n e f g = found_more 0x3F (other_second 0x3F b bs (unlike b 0x3E n)) (found_more b (other_first b bs (unlike b 0x3F is)) (f e))

instruction_scanned : (bs rest : List ℕ) → (Found question_end bs rest → instruction_scan 0 bs ≡ before rest)
    × (Found question_end (0x3F ∷ bs) rest → instruction_scan 1 bs ≡ before rest)
instruction_scanned [] rest = (
  λ f. absurd (omega (arith, found_long question_end [] rest f)),
  λ f. absurd (omega (arith, found_long question_end (0x3F ∷ []) rest f)),
)
instruction_scanned (b ∷ bs) rest = let h = instruction_scanned bs rest in (λ f. none (b == 0x3F) (b == 0x3E) refl f h.0 h.1, λ f. one (b == 0x3F) (b == 0x3E) refl refl f h.0 h.1)
  where
    none : (x y : Bool) → (b == 0x3F) ≡ x → Found question_end (b ∷ bs) rest → (Found question_end bs rest → instruction_scan 0 bs ≡ before rest)
        → (Found question_end (0x3F ∷ bs) rest → instruction_scan 1 bs ≡ before rest) → (if x then instruction_scan 1 bs else (if y then instruction_scan 0 bs else instruction_scan 0 bs)) ≡ before rest
    none true y is f g h = h (subst (λ z. Found question_end (z ∷ bs) rest) (eqb-true b 0x3F is) f)
    none false true is f g h = g (found_less b (other_first b bs (unlike b 0x3F is)) f)
    none false false is f g h = g (found_less b (other_first b bs (unlike b 0x3F is)) f)

    one : (x y : Bool) → (b == 0x3F) ≡ x → (b == 0x3E) ≡ y → Found question_end (0x3F ∷ b ∷ bs) rest → (Found question_end bs rest → instruction_scan 0 bs ≡ before rest)
        → (Found question_end (0x3F ∷ bs) rest → instruction_scan 1 bs ≡ before rest) → (if x then instruction_scan 1 bs else (if y then before bs else instruction_scan 0 bs)) ≡ before rest
    one true y is n f g h =
        let same = eqb-true b 0x3F is in
        h (subst (λ z. Found question_end (z ∷ bs) rest) same (found_less 0x3F (other_second 0x3F b bs (λ k. omega (arith, k, same))) f))
    one false true is n f g h =
        let same = eqb-true b 0x3E n in
        ap before (same_others (same_others (found_is question_end (0x3F ∷ b ∷ bs) rest ((bytes_decides question_end (0x3F ∷ b ∷ [])).1 (ap (λ z. 0x3F ∷ z ∷ []) (sym same))) f)))
    one false false is n f g h = g (found_less b (other_first b bs (unlike b 0x3F is)) (found_less 0x3F (other_second 0x3F b bs (unlike b 0x3E n)) f))

pub instruction_exact : (bs rest : List ℕ) → (instruction_scan 0 bs ≡ before rest) ↔ Found (codes "?>") bs rest
instruction_exact bs rest = ((instruction_found bs rest).0, (instruction_scanned bs rest).0)

-- CDATA sections, and character data

pub cdata_more : (h : ℕ) (w t : List ℕ) → cdata_scan h (w ++ t) ≡ then_scan cdata_scan (cdata_scan h w) t
cdata_more h [] t = refl
cdata_more h (b ∷ w) t = by (b == 0x5D) (b == 0x3E) (h == 2) (cdata_more (if h == 0 then 1 else 2) w t) (cdata_more 0 w t)
  where
    by : (x y z : Bool) → cdata_scan (if h == 0 then 1 else 2) (w ++ t) ≡ then_scan cdata_scan (cdata_scan (if h == 0 then 1 else 2) w) t
        → cdata_scan 0 (w ++ t) ≡ then_scan cdata_scan (cdata_scan 0 w) t
        → (if x then cdata_scan (if h == 0 then 1 else 2) (w ++ t) else (if y then (if z then before (w ++ t) else cdata_scan 0 (w ++ t)) else cdata_scan 0 (w ++ t)))
        ≡ then_scan cdata_scan (if x then cdata_scan (if h == 0 then 1 else 2) w else (if y then (if z then before w else cdata_scan 0 w) else cdata_scan 0 w)) t
    by true y z p q = p
    by false true true p q = refl
    by false true false p q = q
    by false false z p q = q

abbrev section_end : List ℕ
section_end = 0x5D ∷ 0x5D ∷ 0x3E ∷ []

cdata_found : (bs rest : List ℕ) → (cdata_scan 0 bs ≡ before rest → Found section_end bs rest)
    × (cdata_scan 1 bs ≡ before rest → Found section_end (0x5D ∷ bs) rest)
    × (cdata_scan 2 bs ≡ before rest → Found section_end (0x5D ∷ 0x5D ∷ bs) rest)
cdata_found [] rest = (λ e. absurd (cc), λ e. absurd (cc), λ e. absurd (cc))
cdata_found (b ∷ bs) rest =
    let h = cdata_found bs rest in
    (λ e. none (b == 0x5D) (b == 0x3E) refl e h.0 h.1, λ e. one (b == 0x5D) (b == 0x3E) refl e h.0 h.2, λ e. two (b == 0x5D) (b == 0x3E) refl refl e h.0 h.2)
  where
    plain : (b == 0x5D) ≡ false → Found section_end bs rest → Found section_end (b ∷ bs) rest
    plain is f = found_more b (other_first b bs (unlike b 0x5D is)) f

    none : (x y : Bool) → (b == 0x5D) ≡ x → (if x then cdata_scan 1 bs else (if y then cdata_scan 0 bs else cdata_scan 0 bs)) ≡ before rest
        → (cdata_scan 0 bs ≡ before rest → Found section_end bs rest) → (cdata_scan 1 bs ≡ before rest → Found section_end (0x5D ∷ bs) rest)
        → Found section_end (b ∷ bs) rest
    none true y is e f g = subst (λ z. Found section_end (z ∷ bs) rest) (sym (eqb-true b 0x5D is)) (g e)
    none false true is e f g = plain is (f e)
    none false false is e f g = plain is (f e)

    one : (x y : Bool) → (b == 0x5D) ≡ x → (if x then cdata_scan 2 bs else (if y then cdata_scan 0 bs else cdata_scan 0 bs)) ≡ before rest
        → (cdata_scan 0 bs ≡ before rest → Found section_end bs rest) → (cdata_scan 2 bs ≡ before rest → Found section_end (0x5D ∷ 0x5D ∷ bs) rest)
        → Found section_end (0x5D ∷ b ∷ bs) rest
    one true y is e f g = subst (λ z. Found section_end (0x5D ∷ z ∷ bs) rest) (sym (eqb-true b 0x5D is)) (g e)
    one false true is e f g = found_more 0x5D (other_second 0x5D b bs (unlike b 0x5D is)) (plain is (f e))
    one false false is e f g = found_more 0x5D (other_second 0x5D b bs (unlike b 0x5D is)) (plain is (f e))

    two : (x y : Bool) → (b == 0x5D) ≡ x → (b == 0x3E) ≡ y → (if x then cdata_scan 2 bs else (if y then before bs else cdata_scan 0 bs)) ≡ before rest
        → (cdata_scan 0 bs ≡ before rest → Found section_end bs rest) → (cdata_scan 2 bs ≡ before rest → Found section_end (0x5D ∷ 0x5D ∷ bs) rest)
        → Found section_end (0x5D ∷ 0x5D ∷ b ∷ bs) rest
    two true y is n e f g =
        let same = eqb-true b 0x5D is in
        found_more 0x5D (other_third 0x5D 0x5D b bs (λ k. omega (arith, k, same))) (subst (λ z. Found section_end (0x5D ∷ z ∷ bs) rest) (sym same) (g e))
    two false true is n e f g =
        let same = eqb-true b 0x3E n in
        found_here section_end (0x5D ∷ 0x5D ∷ b ∷ bs) rest ((bytes_decides section_end (0x5D ∷ 0x5D ∷ b ∷ [])).1 (ap (λ z. 0x5D ∷ 0x5D ∷ z ∷ []) (sym same)))
        (ap (λ z. 0x5D ∷ 0x5D ∷ z ∷ bs) same ∙ ap (λ z. 0x5D ∷ 0x5D ∷ 0x3E ∷ z) (before_same e))
    two false false is n e f g =
        found_more 0x5D (other_third 0x5D 0x5D b bs (unlike b 0x3E n)) (found_more 0x5D (other_second 0x5D b bs (unlike b 0x5D is)) (plain is (f e)))

cdata_scanned : (bs rest : List ℕ) → (Found section_end bs rest → cdata_scan 0 bs ≡ before rest)
    × (Found section_end (0x5D ∷ bs) rest → cdata_scan 1 bs ≡ before rest)
    × (Found section_end (0x5D ∷ 0x5D ∷ bs) rest → cdata_scan 2 bs ≡ before rest)
cdata_scanned [] rest = (
  λ f. absurd (omega (arith, found_long section_end [] rest f)),
  λ f. absurd (omega (arith, found_long section_end (0x5D ∷ []) rest f)),
  λ f. absurd (omega (arith, found_long section_end (0x5D ∷ 0x5D ∷ []) rest f)),
)
cdata_scanned (b ∷ bs) rest =
    let h = cdata_scanned bs rest in
    (λ f. none (b == 0x5D) (b == 0x3E) refl f h.0 h.1, λ f. one (b == 0x5D) (b == 0x3E) refl f h.0 h.2, λ f. two (b == 0x5D) (b == 0x3E) refl refl f h.0 h.2)
  where
    plain : (b == 0x5D) ≡ false → Found section_end (b ∷ bs) rest → Found section_end bs rest
    plain is f = found_less b (other_first b bs (unlike b 0x5D is)) f

    none : (x y : Bool) → (b == 0x5D) ≡ x → Found section_end (b ∷ bs) rest → (Found section_end bs rest → cdata_scan 0 bs ≡ before rest)
        → (Found section_end (0x5D ∷ bs) rest → cdata_scan 1 bs ≡ before rest) → (if x then cdata_scan 1 bs else (if y then cdata_scan 0 bs else cdata_scan 0 bs)) ≡ before rest
    none true y is f g h = h (subst (λ z. Found section_end (z ∷ bs) rest) (eqb-true b 0x5D is) f)
    none false true is f g h = g (plain is f)
    none false false is f g h = g (plain is f)

    one : (x y : Bool) → (b == 0x5D) ≡ x → Found section_end (0x5D ∷ b ∷ bs) rest → (Found section_end bs rest → cdata_scan 0 bs ≡ before rest)
        → (Found section_end (0x5D ∷ 0x5D ∷ bs) rest → cdata_scan 2 bs ≡ before rest) → (if x then cdata_scan 2 bs else (if y then cdata_scan 0 bs else cdata_scan 0 bs)) ≡ before rest
    one true y is f g h = h (subst (λ z. Found section_end (0x5D ∷ z ∷ bs) rest) (eqb-true b 0x5D is) f)
    one false true is f g h = g (plain is (found_less 0x5D (other_second 0x5D b bs (unlike b 0x5D is)) f))
    one false false is f g h = g (plain is (found_less 0x5D (other_second 0x5D b bs (unlike b 0x5D is)) f))

    two : (x y : Bool) → (b == 0x5D) ≡ x → (b == 0x3E) ≡ y → Found section_end (0x5D ∷ 0x5D ∷ b ∷ bs) rest → (Found section_end bs rest → cdata_scan 0 bs ≡ before rest)
        → (Found section_end (0x5D ∷ 0x5D ∷ bs) rest → cdata_scan 2 bs ≡ before rest) → (if x then cdata_scan 2 bs else (if y then before bs else cdata_scan 0 bs)) ≡ before rest
    two true y is n f g h =
        let same = eqb-true b 0x5D is in
        h (subst (λ z. Found section_end (0x5D ∷ z ∷ bs) rest) same (found_less 0x5D (other_third 0x5D 0x5D b bs (λ k. omega (arith, k, same))) f))
    two false true is n f g h =
        let same = eqb-true b 0x3E n in
        ap before (same_others (same_others (same_others (found_is section_end (0x5D ∷ 0x5D ∷ b ∷ bs) rest ((bytes_decides section_end (0x5D ∷ 0x5D ∷ b ∷ [])).1 (ap (λ z. 0x5D ∷ 0x5D ∷ z ∷ []) (sym same))) f))))
    two false false is n f g h =
        g (plain is (found_less 0x5D (other_second 0x5D b bs (unlike b 0x5D is)) (found_less 0x5D (other_third 0x5D 0x5D b bs (unlike b 0x3E n)) f)))

pub cdata_exact : (bs rest : List ℕ) → (cdata_scan 0 bs ≡ before rest) ↔ Found (codes "]]>") bs rest
cdata_exact bs rest = ((cdata_found bs rest).0, (cdata_scanned bs rest).0)
