-- The order of lines is that of the numbers in them.
use Rattle.std.proofs.Common.{◌≡◌, ◌<◌, ◌≤◌, ℕ, Bool, List, [], ◌∷◌, ◌++◌, flat_map, get_or, All, refl, sym, ap, subst, ◌∙◌, append_assoc, append-nil, arith, codes, decimal}
use Rattle.std.specs.Str.Parse.{AllDigits, IsNumeral}
use Rattle.std.specs.Ordering.{nat_cmp, ordering_then}
use Rattle.std.specs.declared.cmp.Ordering.{Ordering}
use Rattle.std.specs.declared.cmp.Ordering.TheVariants.{Less, Equal, Greater}
use Rattle.std.specs.Cmp.{nat_cmp_is}
use Rattle.std.specs.Cmp.Lexicographic.{slice_cmp}
use Rattle.std.proofs.lemmas.Str.Parse.{digit_from_value}
use Rattle.std.proofs.lemmas.Fmt.{decimal_is_IsNumeral}
use Rattle.std.proofs.lemmas.List.Elements.{All-head, All-tail}
use Rattle.tc_model.specs.CertificateLines.{flag, numbers, row, pair, pairs_line}
use Rattle.tc_model.specs.CertificateData.{IsNumber}
use Rattle.tc_cert.specs.Pieces.{AreNumbers}
use Rattle.tc_cert.specs.Fields.{Fields, IsFormedRow, row_line, letter}
use Rattle.tc_cert.specs.Orders.{number_order, numbers_order, pair_order, pairs_order, row_order}
use Rattle.tc_cert.specs.declared.rows.Kind.{Kind}
use Rattle.tc_cert.proofs.Fields.{wide}

abbrev bytes_cmp : List ℕ → List ℕ → Ordering
bytes_cmp xs ys = slice_cmp nat_cmp xs ys

then_assoc : (a b c : Ordering) → ordering_then a (ordering_then b c) ≡ ordering_then (ordering_then a b) c
then_assoc Less b c = refl
then_assoc Equal b c = refl
then_assoc Greater b c = refl

then_equal : (a : Ordering) → ordering_then a Equal ≡ a
then_equal Less = refl
then_equal Equal = refl
then_equal Greater = refl

less : (x y : ℕ) → x < y → nat_cmp x y ≡ Less
less x y h = sym (nat_cmp_is x y Less h)

greater : (x y : ℕ) → y < x → nat_cmp x y ≡ Greater
greater x y h = sym (nat_cmp_is x y Greater h)

itself : (x : ℕ) → nat_cmp x x ≡ Equal
itself x = sym (nat_cmp_is x x Equal refl)

-- what stands behind a number begins below the digits
abbrev Low : ℕ → List ℕ → Type 0
Low bound r = (c : ℕ) (after : List ℕ) → r ≡ c ∷ after → c < bound

low_nil : (bound : ℕ) → Low bound []
low_nil bound c after e = cc

low_at : (bound c : ℕ) (r : List ℕ) → c < bound → Low bound (c ∷ r)
low_at bound c r h d after e = let same : c ≡ d = cc in subst (λ x. x < bound) same h

lower : (small great : ℕ) (r : List ℕ) → small ≤ great → Low small r → Low great r
lower small great r h l c after e = omega (arith, l c after e)

-- less than what begins higher
below : (bound y : ℕ) (r ys : List ℕ) → Low bound r → bound ≤ y → bytes_cmp r (y ∷ ys) ≡ Less
below bound y [] ys l h = refl
below bound y (c ∷ cs) ys l h = ap (λ o. ordering_then o (bytes_cmp cs ys)) (less c y (omega (arith, l c cs refl)))

above : (bound y : ℕ) (r ys : List ℕ) → Low bound r → bound ≤ y → bytes_cmp (y ∷ ys) r ≡ Greater
above bound y [] ys l h = refl
above bound y (c ∷ cs) ys l h = ap (λ o. ordering_then o (bytes_cmp ys cs)) (greater y c (omega (arith, l c cs refl)))

-- digits first, and then what stands behind them
digits_then : (xs ys r s : List ℕ) → AllDigits 10 xs → AllDigits 10 ys → Low 48 r → Low 48 s → bytes_cmp (xs ++ r) (ys ++ s) ≡ ordering_then (bytes_cmp xs ys) (bytes_cmp r s)
digits_then [] [] r s p q l m = refl
digits_then [] (y ∷ ys) r s p q l m = below 48 y r (ys ++ s) l (digit_from_value y q.0).0
digits_then (x ∷ xs) [] r s p q l m = above 48 x s (xs ++ r) m (digit_from_value x p.0).0
digits_then (x ∷ xs) (y ∷ ys) r s p q l m = ap (ordering_then (nat_cmp x y)) (digits_then xs ys r s p.1 q.1 l m) ∙ then_assoc (nat_cmp x y) (bytes_cmp xs ys) (bytes_cmp r s)

are_digits : (n : ℕ) → IsNumber n → AllDigits 10 (decimal n)
are_digits n h = (decimal_is_IsNumeral n (wide n h)).0.1

number_then : (m n : ℕ) (r s : List ℕ) → IsNumber m → IsNumber n → Low 48 r → Low 48 s → bytes_cmp (decimal m ++ r) (decimal n ++ s) ≡ ordering_then (number_order m n) (bytes_cmp r s)
number_then m n r s p q l k = digits_then (decimal m) (decimal n) r s (are_digits m p) (are_digits n q) l k

abbrev tail_of : List ℕ → List ℕ → List ℕ
tail_of ns r = flat_map (λ n. codes "," ++ decimal n) ns ++ r

tail_low : (ns r : List ℕ) → Low 44 r → Low 48 (tail_of ns r)
tail_low [] r l = lower 44 48 r (omega arith) l
tail_low (n ∷ ns) r l = low_at 48 44 _ (omega arith)

open_tail : (n : ℕ) (ns r : List ℕ) → tail_of (n ∷ ns) r ≡ 44 ∷ (decimal n ++ tail_of ns r)
open_tail n ns r = append_assoc (44 ∷ decimal n) (flat_map (λ n. codes "," ++ decimal n) ns) r

tails_then : (ms ns r s : List ℕ) → All IsNumber ms → All IsNumber ns → Low 44 r → Low 44 s → bytes_cmp (tail_of ms r) (tail_of ns s) ≡ ordering_then (numbers_order ms ns) (bytes_cmp r s)
tails_then [] [] r s p q l k = refl
tails_then [] (n ∷ ns) r s p q l k = below 44 44 r _ l (omega arith)
tails_then (m ∷ ms) [] r s p q l k = above 44 44 s _ k (omega arith)
tails_then (m ∷ ms) (n ∷ ns) r s p q l k =
    (λ i. bytes_cmp (open_tail m ms r i) (open_tail n ns s i))
    ∙ number_then m n (tail_of ms r) (tail_of ns s) (All-head IsNumber m ms p) (All-head IsNumber n ns q) (tail_low ms r l) (tail_low ns s k)
    ∙ ap (ordering_then (number_order m n)) (tails_then ms ns r s (All-tail IsNumber m ms p) (All-tail IsNumber n ns q) l k)
    ∙ then_assoc (number_order m n) (numbers_order ms ns) (bytes_cmp r s)

first_digit : (n : ℕ) → IsNumber n → (c : ℕ) × (after : List ℕ) × (decimal n ≡ c ∷ after) × (48 ≤ c)
first_digit n h = by (decimal n) (decimal_is_IsNumeral n (wide n h)).0
  where
    by : (ds : List ℕ) → IsNumeral 10 ds → (c : ℕ) × (after : List ℕ) × (ds ≡ c ∷ after) × (48 ≤ c)
    by [] p = absurd (omega (arith, p.0))
    by (c ∷ after) p = (c, after, refl, (digit_from_value c p.1.0).0)

open_numbers : (n : ℕ) (ns r : List ℕ) → numbers (n ∷ ns) ++ r ≡ decimal n ++ tail_of ns r
open_numbers n ns r = append_assoc (decimal n) (flat_map (λ n. codes "," ++ decimal n) ns) r

-- a dash is less than a digit
dash_below : (n : ℕ) (r w : List ℕ) → IsNumber n → bytes_cmp (45 ∷ r) (decimal n ++ w) ≡ Less
dash_below n r w h =
    let d = first_digit n h in
    ap (λ l. bytes_cmp (45 ∷ r) (l ++ w)) d.2 ∙ below 46 d.0 (45 ∷ r) (d.1 ++ w) (low_at 46 45 r (omega arith)) (omega (arith, d.3))

dash_above : (n : ℕ) (r w : List ℕ) → IsNumber n → bytes_cmp (decimal n ++ w) (45 ∷ r) ≡ Greater
dash_above n r w h =
    let d = first_digit n h in
    ap (λ l. bytes_cmp (l ++ w) (45 ∷ r)) d.2 ∙ above 46 d.0 (45 ∷ r) (d.1 ++ w) (low_at 46 45 r (omega arith)) (omega (arith, d.3))

list_then : (ms ns r s : List ℕ) → All IsNumber ms → All IsNumber ns → Low 44 r → Low 44 s → bytes_cmp (numbers ms ++ r) (numbers ns ++ s) ≡ ordering_then (numbers_order ms ns) (bytes_cmp r s)
list_then [] [] r s p q l k = refl
list_then [] (n ∷ ns) r s p q l k = ap (bytes_cmp (45 ∷ r)) (open_numbers n ns s) ∙ dash_below n r (tail_of ns s) (All-head IsNumber n ns q)
list_then (m ∷ ms) [] r s p q l k = ap (λ w. bytes_cmp w (45 ∷ s)) (open_numbers m ms r) ∙ dash_above m s (tail_of ms r) (All-head IsNumber m ms p)
list_then (m ∷ ms) (n ∷ ns) r s p q l k =
    (λ i. bytes_cmp (open_numbers m ms r i) (open_numbers n ns s i))
    ∙ number_then m n (tail_of ms r) (tail_of ns s) (All-head IsNumber m ms p) (All-head IsNumber n ns q) (tail_low ms r l) (tail_low ns s k)
    ∙ ap (ordering_then (number_order m n)) (tails_then ms ns r s (All-tail IsNumber m ms p) (All-tail IsNumber n ns q) l k)
    ∙ then_assoc (number_order m n) (numbers_order ms ns) (bytes_cmp r s)

last_list : (ms ns : List ℕ) → All IsNumber ms → All IsNumber ns → bytes_cmp (numbers ms) (numbers ns) ≡ numbers_order ms ns
last_list ms ns p q =
    (λ i. bytes_cmp (sym (append-nil (numbers ms)) i) (sym (append-nil (numbers ns)) i)) ∙ list_then ms ns [] [] p q (low_nil 44) (low_nil 44) ∙ then_equal (numbers_order ms ns)

-- a row
pub open_row : (l : ℕ) (a b : Bool) (ms os ls : List ℕ) → row l a b ms os ls ≡ l ∷ 32 ∷ flag a ∷ 32 ∷ flag b ∷ 32 ∷ (numbers ms ++ 32 ∷ (os ++ 32 ∷ ls))
open_row l a b ms os ls = ap (λ w. l ∷ 32 ∷ flag a ∷ 32 ∷ flag b ∷ 32 ∷ w) (append_assoc (numbers ms) (32 ∷ os) (32 ∷ ls))

pub numbers_of_looks : (ls : List ℕ) → All (λ n. n ≤ 2) ls → All IsNumber ls
numbers_of_looks ls h k d i = let low : get_or ls k d ≤ 2 = h k d i in omega arith

space_low : (r : List ℕ) → Low 44 (32 ∷ r)
space_low r = low_at 44 32 r (omega arith)

fields_then : (a c : Fields) → IsFormedRow a → IsFormedRow c
    → bytes_cmp (numbers a.members ++ 32 ∷ (numbers a.outs ++ 32 ∷ numbers a.looks)) (numbers c.members ++ 32 ∷ (numbers c.outs ++ 32 ∷ numbers c.looks))
    ≡ ordering_then (numbers_order a.members c.members) (ordering_then (numbers_order a.outs c.outs) (numbers_order a.looks c.looks))
fields_then a c p q =
    list_then a.members c.members _ _ p.members.numbers q.members.numbers (space_low _) (space_low _)
    ∙ ap (ordering_then (numbers_order a.members c.members)) (list_then a.outs c.outs _ _ p.outs q.outs (space_low _) (space_low _)
    ∙ ap (ordering_then (numbers_order a.outs c.outs)) (last_list a.looks c.looks (numbers_of_looks a.looks p.looks) (numbers_of_looks c.looks q.looks)))

-- the order of the lines of rows
pub rows_by_fields : (k : Kind) (a c : Fields) → IsFormedRow a → IsFormedRow c → slice_cmp nat_cmp (row_line k a) (row_line k c) ≡ row_order a c
rows_by_fields k a c p q =
    let one : Ordering = nat_cmp (flag a.one) (flag c.one) in
    let other : Ordering = nat_cmp (flag a.other) (flag c.other) in
    let ms : Ordering = numbers_order a.members c.members in
    let os : Ordering = numbers_order a.outs c.outs in
    let ls : Ordering = numbers_order a.looks c.looks in
    (λ i. bytes_cmp (open_row (letter k) a.one a.other a.members (numbers a.outs) (numbers a.looks) i) (open_row (letter k) c.one c.other c.members (numbers c.outs) (numbers c.looks) i))
    ∙ ap (λ o. ordering_then o (ordering_then one (ordering_then other (bytes_cmp (numbers a.members ++ 32 ∷ (numbers a.outs ++ 32 ∷ numbers a.looks)) (numbers c.members ++ 32 ∷ (numbers c.outs ++ 32 ∷ numbers c.looks)))))) (itself (letter k))
    ∙ ap (λ o. ordering_then one (ordering_then other o)) (fields_then a c p q)
    ∙ then_assoc one other (ordering_then ms (ordering_then os ls))
    ∙ then_assoc (ordering_then one other) ms (ordering_then os ls)
    ∙ then_assoc (ordering_then (ordering_then one other) ms) os ls

-- pairs
arrow_then : (xs ys r s : List ℕ) → AllDigits 10 xs → AllDigits 10 ys → bytes_cmp (xs ++ 62 ∷ r) (ys ++ 62 ∷ s) ≡ ordering_then (bytes_cmp (xs ++ 62 ∷ []) (ys ++ 62 ∷ [])) (bytes_cmp r s)
arrow_then [] [] r s p q = refl
arrow_then [] (y ∷ ys) r s p q =
    let o : nat_cmp 62 y ≡ Greater = greater 62 y (omega (arith, digit_from_value y q.0)) in
    ap (λ o. ordering_then o (bytes_cmp r (ys ++ 62 ∷ s))) o ∙ sym (ap (λ o. ordering_then (ordering_then o (bytes_cmp [] (ys ++ 62 ∷ []))) (bytes_cmp r s)) o)
arrow_then (x ∷ xs) [] r s p q =
    let o : nat_cmp x 62 ≡ Less = less x 62 (omega (arith, digit_from_value x p.0)) in
    ap (λ o. ordering_then o (bytes_cmp (xs ++ 62 ∷ r) s)) o ∙ sym (ap (λ o. ordering_then (ordering_then o (bytes_cmp (xs ++ 62 ∷ []) [])) (bytes_cmp r s)) o)
arrow_then (x ∷ xs) (y ∷ ys) r s p q = ap (ordering_then (nat_cmp x y)) (arrow_then xs ys r s p.1 q.1) ∙ then_assoc (nat_cmp x y) (bytes_cmp (xs ++ 62 ∷ []) (ys ++ 62 ∷ [])) (bytes_cmp r s)

abbrev arrow_order : ℕ → ℕ → Ordering
arrow_order m n = bytes_cmp (decimal m ++ 62 ∷ []) (decimal n ++ 62 ∷ [])

open_pair : (p : ℕ × ℕ) (r : List ℕ) → pair p ++ r ≡ 32 ∷ (decimal p.0 ++ 62 ∷ (decimal p.1 ++ r))
open_pair p r = append_assoc ((32 ∷ decimal p.0) ++ (62 ∷ [])) (decimal p.1) r ∙ append_assoc (32 ∷ decimal p.0) (62 ∷ []) (decimal p.1 ++ r)

pair_by_numbers : (p q : ℕ × ℕ) (r s : List ℕ) → AreNumbers p → AreNumbers q → Low 48 r → Low 48 s
    → bytes_cmp (pair p ++ r) (pair q ++ s) ≡ ordering_then (arrow_order p.0 q.0) (ordering_then (number_order p.1 q.1) (bytes_cmp r s))
pair_by_numbers p q r s a b l k =
    (λ i. bytes_cmp (open_pair p r i) (open_pair q s i))
    ∙ arrow_then (decimal p.0) (decimal q.0) (decimal p.1 ++ r) (decimal q.1 ++ s) (are_digits p.0 a.0) (are_digits q.0 b.0)
    ∙ ap (ordering_then (arrow_order p.0 q.0)) (number_then p.1 q.1 r s a.1 b.1 l k)

pair_alone : (p q : ℕ × ℕ) → AreNumbers p → AreNumbers q → pair_order p q ≡ ordering_then (arrow_order p.0 q.0) (number_order p.1 q.1)
pair_alone p q a b =
    (λ i. bytes_cmp (sym (append-nil (pair p)) i) (sym (append-nil (pair q)) i)) ∙ pair_by_numbers p q [] [] a b (low_nil 48) (low_nil 48) ∙ ap (ordering_then (arrow_order p.0 q.0)) (then_equal (number_order p.1 q.1))

pair_then : (p q : ℕ × ℕ) (r s : List ℕ) → AreNumbers p → AreNumbers q → Low 48 r → Low 48 s → bytes_cmp (pair p ++ r) (pair q ++ s) ≡ ordering_then (pair_order p q) (bytes_cmp r s)
pair_then p q r s a b l k =
    pair_by_numbers p q r s a b l k ∙ then_assoc (arrow_order p.0 q.0) (number_order p.1 q.1) (bytes_cmp r s) ∙ ap (λ o. ordering_then o (bytes_cmp r s)) (sym (pair_alone p q a b))

pairs_low : (ps : List (ℕ × ℕ)) → Low 48 (flat_map pair ps)
pairs_low [] = low_nil 48
pairs_low (p ∷ ps) = low_at 48 32 _ (omega arith)

pairs_then : (ps qs : List (ℕ × ℕ)) → All AreNumbers ps → All AreNumbers qs → bytes_cmp (flat_map pair ps) (flat_map pair qs) ≡ pairs_order ps qs
pairs_then [] [] a b = refl
pairs_then [] (q ∷ qs) a b = refl
pairs_then (p ∷ ps) [] a b = refl
pairs_then (p ∷ ps) (q ∷ qs) a b =
    pair_then p q (flat_map pair ps) (flat_map pair qs) (All-head AreNumbers p ps a) (All-head AreNumbers q qs b) (pairs_low ps) (pairs_low qs)
    ∙ ap (ordering_then (pair_order p q)) (pairs_then ps qs (All-tail AreNumbers p ps a) (All-tail AreNumbers q qs b))

pub outputs_by_pairs : (ps qs : List (ℕ × ℕ)) → All AreNumbers ps → All AreNumbers qs → slice_cmp nat_cmp (pairs_line ps) (pairs_line qs) ≡ pairs_order ps qs
outputs_by_pairs ps qs a b = pairs_then ps qs a b
