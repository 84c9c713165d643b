-- What is cut out of a text of lawful characters has lawful characters.
use Rattle.std.proofs.Common.{◌≡◌, ◌⊎◌, inl, inr, ℕ, suc, ◌+◌, ◌<◌, ◌≤◌, Bool, true, false, cond, not, ◌&&◌, ◌||◌, ◌==◌, List, [], ◌∷◌, ◌++◌, refl, ap, ◌∙◌, sym, subst, length, take, drop, get_or, arith, IsUtf8, IsCharBoundary, append-nil, take-append-drop, length-append, length-drop, chars, leb, ltb, get_or-drop}
use Rattle.std.specs.Prelude.{encode_utf8, encode_utf8_all}
use Rattle.std.specs.List.{prefix_len, list_all}
use Rattle.std.proofs.Math.Utf8.{scalar, scalars}
use Rattle.std.proofs.lemmas.Bool.{and_parts, and_from, or_left, leb-true, eqb-true, lt-ltb, le-leb, ltb-true, cases_lt}
use Rattle.std.proofs.lemmas.List.Sums.{prefix_len-le-length, prefix_len_stops}
use Rattle.std.proofs.lemmas.List.Folds.{list_all-append}
use Rattle.std.proofs.lemmas.Str.{chars-encodes, encodes-append, IsUtf8-take, IsUtf8-drop, IsCharBoundary-before_ascii, IsCharBoundary-after_ascii, IsCharBoundary-end, IsCharBoundary-from_take}
use Rattle.tc_base.specs.Characters.{is_char, is_white, is_between, is_name_start, is_name_char}
use Rattle.tc_model.specs.Names.{IsChars, IsNcName, is_ncname_char}
use Rattle.tc_model.specs.XmlTextBytes.{RunAt, after_white, length_before, UpTo, EqualsAt}
use Rattle.tc_model.specs.XmlTextNames.{NcNameAt}
use Rattle.tc_model.proofs.XmlTextPhrases.{start_is_char}

-- lawful characters are Unicode scalar values
low_scalar : (c : ℕ) → c < 55296 → scalar c ≡ true
low_scalar c l = ap (λ x. cond x true (leb 57344 c && ltb c 1114112)) (lt-ltb c 55296 l)

high_scalar : (c : ℕ) → 57344 ≤ c → c < 1114112 → scalar c ≡ true
high_scalar c l h = by (ltb c 55296) (and_from (leb 57344 c) (ltb c 1114112) (le-leb 57344 c l) (lt-ltb c 1114112 h))
  where
    by : (x : Bool) → (leb 57344 c && ltb c 1114112) ≡ true → cond x true (leb 57344 c && ltb c 1114112) ≡ true
    by true e = refl
    by false e = e

between : (l h c : ℕ) → is_between l h c ≡ true → (l ≤ c) × (c ≤ h)
between l h c e = let (a, b) = and_parts (leb l c) (leb c h) e in (leb-true l c a, leb-true c h b)

one_of : (x y : Bool) (P : Type 0) → (x ≡ true → P) → (y ≡ true → P) → (x || y) ≡ true → P
one_of true y P f g e = f refl
one_of false y P f g e = g e

pub char_scalar : (c : ℕ) → is_char c ≡ true → scalar c ≡ true
char_scalar c =
    one_of _ _ _ (one_of _ _ _ (one_of _ _ _ (one_of _ _ _ (one_of _ _ _
    (λ e. low_scalar c (omega (arith, eqb-true c 0x9 e)))
    (λ e. low_scalar c (omega (arith, eqb-true c 0xA e))))
    (λ e. low_scalar c (omega (arith, eqb-true c 0xD e))))
    (λ e. low_scalar c (omega (arith, between 0x20 0xD7FF c e))))
    (λ e. high_scalar c (omega (arith, between 0xE000 0xFFFD c e)) (omega (arith, between 0xE000 0xFFFD c e))))
    (λ e. high_scalar c (omega (arith, between 0x10000 0x10FFFF c e)) (omega (arith, between 0x10000 0x10FFFF c e)))

chars_scalar : (cs : List ℕ) → list_all is_char cs ≡ true → scalars cs ≡ true
chars_scalar [] e = refl
chars_scalar (c ∷ cs) e = let (a, b) = and_parts (is_char c) (list_all is_char cs) e in and_from (scalar c) (scalars cs) (char_scalar c a) (chars_scalar cs b)

pub chars_utf8 : (bs : List ℕ) → IsChars bs → IsUtf8 bs
chars_utf8 bs (cs, e, h) = (cs, (chars_scalar cs h, e))

both_scalars : (cs ds : List ℕ) → scalars cs ≡ true → scalars ds ≡ true → scalars (cs ++ ds) ≡ true
both_scalars [] ds h k = k
both_scalars (c ∷ cs) ds h k = let (a, b) = and_parts (scalar c) (scalars cs) h in and_from (scalar c) (scalars (cs ++ ds)) a (both_scalars cs ds b k)

-- cut where a character begins
pub cut_chars : (bs : List ℕ) (n : ℕ) → IsChars bs → IsCharBoundary bs n → IsChars (take n bs) × IsChars (drop n bs)
cut_chars bs n (cs, e, h) b =
    let u : IsUtf8 bs = (cs, (chars_scalar cs h, e)) in
    let (fs, (sa, ea)) = IsUtf8-take bs n u b in
    let (ds, (sd, ed)) = IsUtf8-drop bs n u b in
    let whole : encode_utf8_all cs ≡ encode_utf8_all (fs ++ ds) =
    e ∙ (sym (take-append-drop n bs) ∙ (ap (λ w. w ++ drop n bs) (sym ea) ∙ (ap (λ w. encode_utf8_all fs ++ w) (sym ed) ∙ sym (encodes-append fs ds)))) in
    let same : cs ≡ fs ++ ds = sym (chars-encodes cs (chars_scalar cs h)) ∙ (ap chars whole ∙ chars-encodes (fs ++ ds) (both_scalars fs ds sa sd)) in
    let (ha, hd) = and_parts (list_all is_char fs) (list_all is_char ds) (sym (list_all-append is_char fs ds) ∙ (ap (list_all is_char) (sym same) ∙ h)) in
    ((fs, ea, ha), (ds, ed, hd))

pub no_chars : IsChars []
no_chars = ([], refl, refl)

pub join_chars : (bs ds : List ℕ) → IsChars bs → IsChars ds → IsChars (bs ++ ds)
join_chars bs ds (cs, e, h) (es, f, k) =
    (cs ++ es, encodes-append cs es ∙ (ap (λ w. w ++ encode_utf8_all es) e ∙ ap (λ w. bs ++ w) f), list_all-append is_char cs es ∙ and_from (list_all is_char cs) (list_all is_char es) h k)

pub one_char : (c : ℕ) → is_char c ≡ true → IsChars (encode_utf8 c)
one_char c h = (c ∷ [], append-nil (encode_utf8 c), and_from (is_char c) true h refl)

-- behind an ASCII byte
pub after_ascii : (b : ℕ) (bs : List ℕ) → b < 128 → IsChars (b ∷ bs) → IsChars bs
after_ascii b bs l h = (cut_chars (b ∷ bs) 1 h (IsCharBoundary-after_ascii (b ∷ bs) 0 (chars_utf8 (b ∷ bs) h) (omega arith) l)).1

abbrev is_ascii : ℕ → Bool
is_ascii b = ltb b 128

-- behind a mark of ASCII bytes
pub after_mark : (mark bs : List ℕ) → list_all is_ascii mark ≡ true → IsChars (mark ++ bs) → IsChars bs
after_mark [] bs e h = h
after_mark (m ∷ mark) bs e h = let (a, b) = and_parts (is_ascii m) (list_all is_ascii mark) e in after_mark mark bs b (after_ascii m (mark ++ bs) (ltb-true m 128 a) h)

-- before and behind an ASCII byte
pub cut_at_ascii : (bs after : List ℕ) (n b : ℕ) → IsChars bs → drop n bs ≡ b ∷ after → b < 128 → IsChars (take n bs) × IsChars after
cut_at_ascii bs after n b h e l =
    let some : n < length bs = omega (arith, ap length e, length-drop n bs) in
    let at : get_or bs n 0 ≡ b = subst (λ k. get_or bs k 0 ≡ b) (omega arith) (sym (get_or-drop n bs 0 0) ∙ ap (λ w. get_or w 0 0) e) in
    let (front, back) = cut_chars bs n h (IsCharBoundary-before_ascii bs n some (subst (λ w. w < 128) (sym at) l)) in
    (front, after_ascii b after l (subst IsChars e back))

-- a run that an ASCII byte or the end stops
pub run_chars : (p : ℕ → Bool) (bs n r : List ℕ) → ((b : ℕ) → p b ≡ false → b < 128) → RunAt p bs n r → IsChars bs → IsChars n × IsChars r
run_chars p bs n r small a h = by (cases_lt' (prefix_len p bs) (length bs))
  where
    cases_lt' : (i j : ℕ) → (i < j) ⊎ (j ≤ i)
    cases_lt' i j = cases_lt i j

    by : (prefix_len p bs < length bs) ⊎ (length bs ≤ prefix_len p bs) → IsChars n × IsChars r
    by (inl l) =
        let (x, y) = cut_chars bs (prefix_len p bs) h (IsCharBoundary-before_ascii bs (prefix_len p bs) l (small (get_or bs (prefix_len p bs) 0) (prefix_len_stops p bs 0 l))) in
        (subst IsChars (sym a.front) x, subst IsChars (sym a.back) y)
    by (inr l) =
        let all : prefix_len p bs ≡ length bs = omega (arith, prefix_len-le-length p bs) in
        let (x, y) = cut_chars bs (prefix_len p bs) h (subst (IsCharBoundary bs) (sym all) (IsCharBoundary-end bs)) in
        (subst IsChars (sym a.front) x, subst IsChars (sym a.back) y)

white_ascii : (b : ℕ) → is_white b ≡ true → b < 128
white_ascii b =
    one_of _ _ _ (one_of _ _ _ (one_of _ _ _
    (λ e. omega (arith, eqb-true b 0x20 e))
    (λ e. omega (arith, eqb-true b 0x9 e)))
    (λ e. omega (arith, eqb-true b 0xD e)))
    (λ e. omega (arith, eqb-true b 0xA e))

pub white_chars : (bs : List ℕ) → IsChars bs → IsChars (after_white bs)
white_chars [] h = h
white_chars (b ∷ bs) h = by (is_white b) refl (white_chars bs)
  where
    by : (x : Bool) → is_white b ≡ x → (IsChars bs → IsChars (after_white bs)) → IsChars (after_white (b ∷ bs))
    by true e later =
        let one : prefix_len is_white (b ∷ bs) ≡ suc (prefix_len is_white bs) = ap (λ x. cond x (1 + prefix_len is_white bs) 0) e ∙ omega arith in
        subst IsChars (sym (ap (λ k. drop k (b ∷ bs)) one)) (later (after_ascii b bs (white_ascii b e) h))
    by false e later = subst IsChars (sym (ap (λ k. drop k (b ∷ bs)) (ap (λ x. cond x (1 + prefix_len is_white bs) 0) e))) h

pub up_to_chars : (m : ℕ) (mark bs inside after : List ℕ) → list_all is_ascii (m ∷ mark) ≡ true → UpTo (m ∷ mark) bs inside after → IsChars bs → IsChars inside × IsChars after
up_to_chars m mark bs inside after e u h =
    let (a, b) = and_parts (is_ascii m) (list_all is_ascii mark) e in
    let (x, y) = cut_at_ascii bs (mark ++ after) (length_before (m ∷ mark) bs) m h u.back (ltb-true m 128 a) in
    (subst IsChars (sym u.front) x, after_mark mark after b y)

pub equals_chars : (bs after : List ℕ) → EqualsAt bs after → IsChars bs → IsChars after
equals_chars bs after a h = subst IsChars (sym a.past) (white_chars a.rest (after_ascii 0x3D a.rest (omega arith) (subst IsChars a.sign (white_chars bs h))))

-- behind what has lawful characters
pub behind_chars : (name after : List ℕ) → IsChars name → IsChars (name ++ after) → IsChars after
behind_chars name after k h =
    let front : take (length name) (name ++ after) ≡ name = take_front name in
    let u = chars_utf8 (name ++ after) h in
    let cut = IsCharBoundary-from_take (name ++ after) (length name) u (omega (arith, length-append name after)) (subst IsUtf8 (sym front) (chars_utf8 name k)) in
    subst IsChars (drop_front name) (cut_chars (name ++ after) (length name) h cut).1
  where
    take_front : (xs : List ℕ) → take (length xs) (xs ++ after) ≡ xs
    take_front [] = refl
    take_front (x ∷ xs) = ap (λ w. x ∷ w) (take_front xs)

    drop_front : (xs : List ℕ) → drop (length xs) (xs ++ after) ≡ after
    drop_front [] = refl
    drop_front (x ∷ xs) = drop_front xs

-- a name has lawful characters
or_right' : (x y : Bool) → y ≡ true → (x || y) ≡ true
or_right' true y e = refl
or_right' false y e = e

low_char : (c : ℕ) → 0x20 ≤ c → c ≤ 0xD7FF → is_char c ≡ true
low_char c l h =
    or_left _ _ (or_left _ _ (or_right' (c == 0x9 || c == 0xA || c == 0xD) (is_between 0x20 0xD7FF c) (and_from (leb 0x20 c) (leb c 0xD7FF) (le-leb 0x20 c l) (le-leb c 0xD7FF h))))

middle_char : (c : ℕ) → 0xE000 ≤ c → c ≤ 0xFFFD → is_char c ≡ true
middle_char c l h =
    or_left _ _ (or_right' (c == 0x9 || c == 0xA || c == 0xD || is_between 0x20 0xD7FF c) (is_between 0xE000 0xFFFD c) (and_from (leb 0xE000 c) (leb c 0xFFFD) (le-leb 0xE000 c l) (le-leb c 0xFFFD h)))

high_char : (c : ℕ) → 0x10000 ≤ c → c ≤ 0x10FFFF → is_char c ≡ true
high_char c l h =
    or_right' (c == 0x9 || c == 0xA || c == 0xD || is_between 0x20 0xD7FF c || is_between 0xE000 0xFFFD c) (is_between 0x10000 0x10FFFF c)
    (and_from (leb 0x10000 c) (leb c 0x10FFFF) (le-leb 0x10000 c l) (le-leb c 0x10FFFF h))

start_char : (c : ℕ) → is_name_start c ≡ true → is_char c ≡ true
start_char c =
    (one_of _ _ _ (one_of _ _ _ (one_of _ _ _ (one_of _ _ _ (one_of _ _ _ (one_of _ _ _ (one_of _ _ _ (one_of _ _ _ (one_of _ _ _ (one_of _ _ _ (one_of _ _ _ (one_of _ _ _ (one_of _ _ _ (one_of _ _ _ (one_of _ _ _ (λ e. low_char c (omega (arith, eqb-true c 0x3A e)) (omega (arith, eqb-true c 0x3A e)))
    (λ e. low_char c (omega (arith, between 0x41 0x5A c e)) (omega (arith, between 0x41 0x5A c e))))
    (λ e. low_char c (omega (arith, eqb-true c 0x5F e)) (omega (arith, eqb-true c 0x5F e))))
    (λ e. low_char c (omega (arith, between 0x61 0x7A c e)) (omega (arith, between 0x61 0x7A c e))))
    (λ e. low_char c (omega (arith, between 0xC0 0xD6 c e)) (omega (arith, between 0xC0 0xD6 c e))))
    (λ e. low_char c (omega (arith, between 0xD8 0xF6 c e)) (omega (arith, between 0xD8 0xF6 c e))))
    (λ e. low_char c (omega (arith, between 0xF8 0x2FF c e)) (omega (arith, between 0xF8 0x2FF c e))))
    (λ e. low_char c (omega (arith, between 0x370 0x37D c e)) (omega (arith, between 0x370 0x37D c e))))
    (λ e. low_char c (omega (arith, between 0x37F 0x1FFF c e)) (omega (arith, between 0x37F 0x1FFF c e))))
    (λ e. low_char c (omega (arith, between 0x200C 0x200D c e)) (omega (arith, between 0x200C 0x200D c e))))
    (λ e. low_char c (omega (arith, between 0x2070 0x218F c e)) (omega (arith, between 0x2070 0x218F c e))))
    (λ e. low_char c (omega (arith, between 0x2C00 0x2FEF c e)) (omega (arith, between 0x2C00 0x2FEF c e))))
    (λ e. low_char c (omega (arith, between 0x3001 0xD7FF c e)) (omega (arith, between 0x3001 0xD7FF c e))))
    (λ e. middle_char c (omega (arith, between 0xF900 0xFDCF c e)) (omega (arith, between 0xF900 0xFDCF c e))))
    (λ e. middle_char c (omega (arith, between 0xFDF0 0xFFFD c e)) (omega (arith, between 0xFDF0 0xFFFD c e))))
    (λ e. high_char c (omega (arith, between 0x10000 0xEFFFF c e)) (omega (arith, between 0x10000 0xEFFFF c e))))

name_char : (c : ℕ) → is_name_char c ≡ true → is_char c ≡ true
name_char c =
    (one_of _ _ _ (one_of _ _ _ (one_of _ _ _ (one_of _ _ _ (one_of _ _ _ (one_of _ _ _ (start_char c)
    (λ e. low_char c (omega (arith, eqb-true c 0x2D e)) (omega (arith, eqb-true c 0x2D e))))
    (λ e. low_char c (omega (arith, eqb-true c 0x2E e)) (omega (arith, eqb-true c 0x2E e))))
    (λ e. low_char c (omega (arith, between 0x30 0x39 c e)) (omega (arith, between 0x30 0x39 c e))))
    (λ e. low_char c (omega (arith, eqb-true c 0xB7 e)) (omega (arith, eqb-true c 0xB7 e))))
    (λ e. low_char c (omega (arith, between 0x300 0x36F c e)) (omega (arith, between 0x300 0x36F c e))))
    (λ e. low_char c (omega (arith, between 0x203F 0x2040 c e)) (omega (arith, between 0x203F 0x2040 c e))))

name_char_is : (c : ℕ) → is_ncname_char c ≡ true → is_char c ≡ true
name_char_is c h = name_char c (and_parts (is_name_char c) (not (c == 0x3A)) h).0

pub name_chars : (name : List ℕ) → IsNcName name → IsChars name
name_chars name (c, cs, e, s, k) = (c ∷ cs, e, and_from (is_char c) (list_all is_char cs) (name_char_is c (start_is_char c s)) (all cs k))
  where
    all : (cs : List ℕ) → list_all is_ncname_char cs ≡ true → list_all is_char cs ≡ true
    all [] e = refl
    all (c ∷ cs) e = let (a, b) = and_parts (is_ncname_char c) (list_all is_ncname_char cs) e in and_from (is_char c) (list_all is_char cs) (name_char_is c a) (all cs b)

pub ncname_chars : {bs name after : List ℕ} → NcNameAt bs name after → IsChars bs → IsChars name × IsChars after
ncname_chars {name = name} {after = after} a h = let k = name_chars name a.lawful in (k, behind_chars name after k (subst IsChars a.parts h))
