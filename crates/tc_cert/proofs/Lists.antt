-- Lists at the front of bytes, read one by one.
use Rattle.std.proofs.Common.{◌≡◌, ◌<◌, ◌≤◌, ◌+◌, ◌⊎◌, inl, inr, ℕ, List, [], ◌∷◌, ◌++◌, length, drop, flat_map, All, refl, sym, ap, subst, ◌∙◌, append_assoc, append-nil, length-append, arith, codes, decimal}
use Rattle.std.specs.Char.{digit_value}
use Rattle.std.proofs.lemmas.Grind.{flat_map-append}
use Rattle.std.proofs.lemmas.List.Elements.{All-head, All-tail, All-append}
use Rattle.tc_model.specs.CertificateLines.{listed, change, pair}
use Rattle.tc_model.specs.CertificateData.{IsNumber}
use Rattle.tc_cert.specs.Pieces.{Stops, IsNumberAt, AreNumbers, IsTwoAt, IsListAt, ArePairsAt}
use Rattle.tc_cert.proofs.Fields.{Ends, IsPlain, plain_numbers, stops_at, one_number}

pub all_one : {X : Type 0} (P : X → Type 0) (x : X) → P x → All P (x ∷ [])
all_one P x p = λ k d h. grind (arith, p)

first_same : (x : ℕ) (xs : List ℕ) (y : ℕ) (ys : List ℕ) → x ∷ xs ≡ y ∷ ys → x ≡ y
first_same x xs y ys e = cc

-- what is read of one of them
pub record IsItemAt {X : Type 0} (f : X → List ℕ) (ok : X → Type 0) (bytes : List ℕ) (x : X) (rest : List ℕ) : Type 0 where
  pub allowed : ok x
  pub whole : Stops rest
  pub spelled : bytes ≡ f x ++ rest

-- what is left of a list, of which some was read
pub record IsLeft {X : Type 0} (f : X → List ℕ) (ok : X → Type 0) (end : ℕ) (rest : List ℕ) (y : X) (ys : List X) (after : List ℕ) : Type 0 where
  pub first : ok y
  pub more : All ok ys
  pub spelled : rest ≡ f y ++ (flat_map (λ x. codes "," ++ f x) ys ++ end ∷ after)

pub record GoesOn {X : Type 0} (f : X → List ℕ) (ok : X → Type 0) (end : ℕ) (bytes : List ℕ) (xs : List X) (rest : List ℕ) : Type 0 where
  pub allowed : All ok xs
  pub spelled : bytes ≡ flat_map (λ x. f x ++ codes ",") xs ++ rest
  pub left : (zs : List X) (after : List ℕ) → IsListAt f ok end bytes zs after → (y : X) × (ys : List X) × IsLeft f ok end rest y ys after

module _ {X : Type 0} (f : X → List ℕ) (ok : X → Type 0) (plain : IsPlain f ok) (end : ℕ) (is_end : (end ≡ 32) ⊎ (end ≡ 10)) where
  abbrev comma_before : X → List ℕ
  comma_before y = codes "," ++ f y

  abbrev comma_behind : X → List ℕ
  comma_behind y = f y ++ codes ","

  ends : (rest : List ℕ) → Ends (end ∷ rest)
  ends rest c after e = let same : c ≡ end = cc in subst (λ x. (x ≡ 32) ⊎ (x ≡ 10)) (sym same) is_end

  low : digit_value end < 10 → ⊥
  low h = by is_end
    where
      by : (end ≡ 32) ⊎ (end ≡ 10) → ⊥
      by (inl e) = let k : digit_value 32 < 10 = subst (λ x. digit_value x < 10) e h in absurd (omega (arith, k))
      by (inr e) = let k : digit_value 10 < 10 = subst (λ x. digit_value x < 10) e h in absurd (omega (arith, k))

  no_comma : (a b : List ℕ) → end ∷ a ≡ 44 ∷ b → ⊥
  no_comma a b e = by is_end
    where
      by : (end ≡ 32) ⊎ (end ≡ 10) → ⊥
      by (inl i) = absurd (omega (arith, i, first_same end a 44 b e))
      by (inr i) = absurd (omega (arith, i, first_same end a 44 b e))

  stops_next : (ys : List X) (after : List ℕ) → Stops (flat_map comma_before ys ++ end ∷ after)
  stops_next [] after = stops_at end after low
  stops_next (y ∷ ys) after = stops_at 44 _ (λ h. absurd (omega (arith, h)))

  pub begun : (bytes : List ℕ) → ((r : List ℕ) → bytes ≡ 45 ∷ end ∷ r → ⊥) → GoesOn f ok end bytes [] bytes
  begun bytes bar = record { allowed = λ k d h. absurd (omega arith); spelled = refl; left = first }
    where
      first : (zs : List X) (after : List ℕ) → IsListAt f ok end bytes zs after → (y : X) × (ys : List X) × IsLeft f ok end bytes y ys after
      first [] after at = absurd (bar after at.spelled)
      first (z ∷ zs) after at = (
        z,
        zs,
        record {
          first = All-head ok z zs at.allowed;
          more = All-tail ok z zs at.allowed;
          spelled = at.spelled ∙ append_assoc (f z) (flat_map comma_before zs) (end ∷ after);
        },
      )

  -- no item stands there: there is no list
  pub none : {bytes rest : List ℕ} {xs : List X} → GoesOn f ok end bytes xs rest → ((x : X) (r : List ℕ) → IsItemAt f ok rest x r → ⊥)
      → (zs : List X) (after : List ℕ) → IsListAt f ok end bytes zs after → ⊥
  none {rest = rest} g bar zs after at =
      let l : (y : X) × (ys : List X) × IsLeft f ok end rest y ys after = g.left zs after at in
      bar l.0 (flat_map comma_before l.1 ++ end ∷ after) (record { allowed = l.2.first; whole = stops_next l.1 after; spelled = l.2.spelled })

  -- the item that was read is the first of what is left
  same : {rest behind : List ℕ} {x : X} (y : X) (ys : List X) (after : List ℕ) → IsItemAt f ok rest x behind → IsLeft f ok end rest y ys after → behind ≡ flat_map comma_before ys ++ end ∷ after
  same {rest = rest} {behind = behind} {x = x} y ys after i l =
      (plain.one x y behind (flat_map comma_before ys ++ end ∷ after) i.allowed l.first i.whole (stops_next ys after) (sym i.spelled ∙ l.spelled)).1

  -- neither the end nor a comma behind it
  pub stuck : {bytes rest behind : List ℕ} {xs : List X} {x : X} → GoesOn f ok end bytes xs rest → IsItemAt f ok rest x behind
      → ((r : List ℕ) → behind ≡ end ∷ r → ⊥) → ((r : List ℕ) → behind ≡ 44 ∷ r → ⊥) → (zs : List X) (after : List ℕ) → IsListAt f ok end bytes zs after → ⊥
  stuck {rest = rest} {behind = behind} g i no_end bar zs after at = by (g.left zs after at)
    where
      by : (y : X) × (ys : List X) × IsLeft f ok end rest y ys after → ⊥
      by (y, [], l) = no_end after (same y [] after i l)
      by (y, z ∷ ys, l) = bar ((f z ++ flat_map comma_before ys) ++ end ∷ after) (same y (z ∷ ys) after i l)

  snoc_behind : (xs : List X) (x : X) (r : List ℕ) → flat_map comma_behind (xs ++ x ∷ []) ++ r ≡ flat_map comma_behind xs ++ (f x ++ 44 ∷ r)
  snoc_behind xs x r =
      ap (λ l. l ++ r) (flat_map-append comma_behind xs (x ∷ []))
      ∙ append_assoc (flat_map comma_behind xs) (flat_map comma_behind (x ∷ [])) r
      ∙ ap (λ l. flat_map comma_behind xs ++ l) (ap (λ l. l ++ r) (append-nil (comma_behind x)) ∙ append_assoc (f x) (44 ∷ []) r)

  pub next : {bytes rest behind after : List ℕ} {xs : List X} {x : X} → GoesOn f ok end bytes xs rest → IsItemAt f ok rest x behind → behind ≡ 44 ∷ after → GoesOn f ok end bytes (xs ++ x ∷ []) after
  next {bytes = bytes} {rest = rest} {behind = behind} {after = after} {xs = xs} {x = x} g i e = record {
    allowed = All-append ok xs (x ∷ []) g.allowed (all_one ok x i.allowed);
    spelled = g.spelled ∙ ap (λ l. flat_map comma_behind xs ++ l) (i.spelled ∙ ap (λ l. f x ++ l) e) ∙ sym (snoc_behind xs x after);
    left = λ zs last at. more zs last (g.left zs last at);
  }
    where
      more : (zs : List X) (last : List ℕ) → (y : X) × (ys : List X) × IsLeft f ok end rest y ys last → (y : X) × (ys : List X) × IsLeft f ok end after y ys last
      more zs last (y, [], l) = absurd (no_comma last after (sym (same y [] last i l) ∙ e))
      more zs last (y, z ∷ ys, l) =
          let k : 44 ∷ after ≡ 44 ∷ ((f z ++ flat_map comma_before ys) ++ end ∷ last) = sym e ∙ same y (z ∷ ys) last i l in
          let tail : after ≡ (f z ++ flat_map comma_before ys) ++ end ∷ last = ap (drop 1) k in
          (z, ys, record { first = All-head ok z ys l.more; more = All-tail ok z ys l.more; spelled = tail ∙ append_assoc (f z) (flat_map comma_before ys) (end ∷ last) })

  shifted : (xs : List X) (x : X) → flat_map comma_before (xs ++ x ∷ []) ≡ 44 ∷ (flat_map comma_behind xs ++ f x)
  shifted [] x = ap (λ l. 44 ∷ l) (append-nil (f x))
  shifted (y ∷ ys) x = ap (λ l. 44 ∷ (f y ++ l)) (shifted ys x) ∙ ap (λ l. 44 ∷ l) (sym (append_assoc (f y) (44 ∷ []) (flat_map comma_behind ys ++ f x)) ∙ sym (append_assoc (f y ++ (44 ∷ [])) (flat_map comma_behind ys) (f x)))

  listed_snoc : (xs : List X) (x : X) → listed f (xs ++ x ∷ []) ≡ flat_map comma_behind xs ++ f x
  listed_snoc [] x = append-nil (f x)
  listed_snoc (y ∷ ys) x = ap (λ l. f y ++ l) (shifted ys x) ∙ sym (append_assoc (f y) (44 ∷ []) (flat_map comma_behind ys ++ f x)) ∙ sym (append_assoc (f y ++ (44 ∷ [])) (flat_map comma_behind ys) (f x))

  pub done : {bytes rest behind after : List ℕ} {xs : List X} {x : X} → GoesOn f ok end bytes xs rest → IsItemAt f ok rest x behind → behind ≡ end ∷ after → IsListAt f ok end bytes (xs ++ x ∷ []) after
  done {after = after} {xs = xs} {x = x} g i e = record {
    allowed = All-append ok xs (x ∷ []) g.allowed (all_one ok x i.allowed);
    spelled = g.spelled ∙ ap (λ l. flat_map comma_behind xs ++ l) (i.spelled ∙ ap (λ l. f x ++ l) e) ∙ sym (append_assoc (flat_map comma_behind xs) (f x) (end ∷ after)) ∙ ap (λ l. l ++ end ∷ after) (sym (listed_snoc xs x));
  }

  pub nothing : {bytes after : List ℕ} → bytes ≡ 45 ∷ end ∷ after → IsListAt f ok end bytes [] after
  nothing e = record { allowed = λ k d h. absurd (omega arith); spelled = e }

-- two numbers with a byte between them are an item
after_between : (between : ℕ) → (digit_value between < 10 → ⊥) → (p q : ℕ × ℕ) (r s : List ℕ) → AreNumbers p → AreNumbers q → Stops r → Stops s
    → decimal p.0 ++ between ∷ (decimal p.1 ++ r) ≡ decimal q.0 ++ between ∷ (decimal q.1 ++ s) → (p ≡ q) × (r ≡ s)
after_between between bar p q r s a b t u e =
    let one : (p.0 ≡ q.0) × (between ∷ (decimal p.1 ++ r) ≡ between ∷ (decimal q.1 ++ s)) = one_number p.0 q.0 _ _ a.0 b.0 (stops_at between _ bar) (stops_at between _ bar) e in
    let second : between ∷ (decimal p.1 ++ r) ≡ between ∷ (decimal q.1 ++ s) = one.1 in
    let tail : decimal p.1 ++ r ≡ decimal q.1 ++ s = ap (drop 1) second in
    let two : (p.1 ≡ q.1) × (r ≡ s) = one_number p.1 q.1 r s a.1 b.1 t u tail in
    (λ i. (one.0 i, two.0 i), two.1)

colon : digit_value 58 < 10 → ⊥
colon h = absurd (omega (arith, h))

open_change : (c : ℕ × ℕ) (r : List ℕ) → change c ++ r ≡ decimal c.0 ++ 58 ∷ (decimal c.1 ++ r)
open_change c r = append_assoc (decimal c.0 ++ (58 ∷ [])) (decimal c.1) r ∙ append_assoc (decimal c.0) (58 ∷ []) (decimal c.1 ++ r)

pub plain_changes : IsPlain change AreNumbers
plain_changes = record {
  digit = λ c p. first c p (plain_numbers.digit c.0 p.0);
  one = λ c d r s p q t u e. after_between 58 colon c d r s p q t u (sym (open_change c r) ∙ e ∙ open_change d s);
}
  where
    first : (c : ℕ × ℕ) → AreNumbers c → ((k : ℕ) × (after : List ℕ) × (decimal c.0 ≡ k ∷ after) × (digit_value k < 10))
        → (k : ℕ) × (after : List ℕ) × (change c ≡ k ∷ after) × (digit_value k < 10)
    first c p (k, after, e, h) = (k, (after ++ (58 ∷ [])) ++ decimal c.1, ap (λ l. (l ++ (58 ∷ [])) ++ decimal c.1) e, h)

pub number_item : {bytes rest : List ℕ} {n : ℕ} → IsNumberAt bytes n rest → IsItemAt decimal IsNumber bytes n rest
number_item at = record { allowed = at.number; whole = at.whole; spelled = at.spelled }

pub item_number : {bytes rest : List ℕ} {n : ℕ} → IsItemAt decimal IsNumber bytes n rest → IsNumberAt bytes n rest
item_number at = record { number = at.allowed; whole = at.whole; spelled = at.spelled }

pub change_item : {bytes rest : List ℕ} {c : ℕ × ℕ} → IsTwoAt 58 bytes c rest → IsItemAt change AreNumbers bytes c rest
change_item {rest = rest} {c = c} at = record { allowed = at.numbers; whole = at.whole; spelled = at.spelled ∙ sym (open_change c rest) }

pub item_change : {bytes rest : List ℕ} {c : ℕ × ℕ} → IsItemAt change AreNumbers bytes c rest → IsTwoAt 58 bytes c rest
item_change {rest = rest} {c = c} at = record { numbers = at.allowed; whole = at.whole; spelled = at.spelled ∙ open_change c rest }

-- two numbers: a first one and a second one
pub second_of : {between : ℕ} {bytes middle : List ℕ} {n : ℕ} → (digit_value between < 10 → ⊥) → IsNumberAt bytes n middle → (p : ℕ × ℕ) (rest : List ℕ) → IsTwoAt between bytes p rest
    → (n ≡ p.0) × (middle ≡ between ∷ (decimal p.1 ++ rest))
second_of {between = between} {middle = middle} {n = n} bar first p rest at = one_number n p.0 middle (between ∷ (decimal p.1 ++ rest)) first.number at.numbers.0 first.whole (stops_at between _ bar) (sym first.spelled ∙ at.spelled)

pub no_first : {between : ℕ} {bytes : List ℕ} → (digit_value between < 10 → ⊥) → ((n : ℕ) (rest : List ℕ) → IsNumberAt bytes n rest → ⊥) → (p : ℕ × ℕ) (rest : List ℕ) → IsTwoAt between bytes p rest → ⊥
no_first {between = between} bar none p rest at = none p.0 (between ∷ (decimal p.1 ++ rest)) (record { number = at.numbers.0; whole = stops_at between _ bar; spelled = at.spelled })

pub no_between : {between : ℕ} {bytes middle : List ℕ} {n : ℕ} → (digit_value between < 10 → ⊥) → IsNumberAt bytes n middle → ((r : List ℕ) → middle ≡ between ∷ r → ⊥) → (p : ℕ × ℕ) (rest : List ℕ) → IsTwoAt between bytes p rest → ⊥
no_between bar first none p rest at = none (decimal p.1 ++ rest) (second_of bar first p rest at).1

pub no_second : {between : ℕ} {bytes middle behind : List ℕ} {n : ℕ} → (digit_value between < 10 → ⊥) → IsNumberAt bytes n middle → middle ≡ between ∷ behind
    → ((m : ℕ) (rest : List ℕ) → IsNumberAt behind m rest → ⊥) → (p : ℕ × ℕ) (rest : List ℕ) → IsTwoAt between bytes p rest → ⊥
no_second {between = between} {behind = behind} bar first e none p rest at =
    let k : between ∷ behind ≡ between ∷ (decimal p.1 ++ rest) = sym e ∙ (second_of bar first p rest at).1 in
    none p.1 rest (record { number = at.numbers.1; whole = at.whole; spelled = ap (drop 1) k })

-- pairs, one by one
arrow : digit_value 62 < 10 → ⊥
arrow h = absurd (omega (arith, h))

open_pair : (p : ℕ × ℕ) (r : List ℕ) → pair p ++ r ≡ 32 ∷ (decimal p.0 ++ 62 ∷ (decimal p.1 ++ r))
open_pair p r = append_assoc ((32 ∷ decimal p.0) ++ (62 ∷ [])) (decimal p.1) r ∙ append_assoc (32 ∷ decimal p.0) (62 ∷ []) (decimal p.1 ++ r)

pub record PairsGoOn (bytes : List ℕ) (ps : List (ℕ × ℕ)) (rest : List ℕ) : Type 0 where
  pub allowed : All AreNumbers ps
  pub spelled : bytes ≡ flat_map pair ps ++ rest
  pub left : (qs : List (ℕ × ℕ)) (after : List ℕ) → ArePairsAt bytes qs after → (more_ps : List (ℕ × ℕ)) × ArePairsAt rest more_ps after
  pub few : length ps + length rest ≤ length bytes

pub pairs_begun : (bytes : List ℕ) → PairsGoOn bytes [] bytes
pairs_begun bytes = record { allowed = λ k d h. absurd (omega arith); spelled = refl; left = λ qs after at. (qs, at); few = omega arith }

pub pairs_done : {bytes rest after : List ℕ} {ps : List (ℕ × ℕ)} → PairsGoOn bytes ps rest → rest ≡ 10 ∷ after → ArePairsAt bytes ps after
pairs_done {ps = ps} g e = record { allowed = g.allowed; spelled = g.spelled ∙ ap (λ l. flat_map pair ps ++ l) e }

stops_pairs : (ps : List (ℕ × ℕ)) (after : List ℕ) → Stops (flat_map pair ps ++ 10 ∷ after)
stops_pairs [] after = stops_at 10 after (λ h. absurd (omega (arith, h)))
stops_pairs (p ∷ ps) after = stops_at 32 _ (λ h. absurd (omega (arith, h)))

first_pair : (p : ℕ × ℕ) (ps : List (ℕ × ℕ)) (after : List ℕ) → flat_map pair (p ∷ ps) ++ 10 ∷ after ≡ 32 ∷ (decimal p.0 ++ 62 ∷ (decimal p.1 ++ (flat_map pair ps ++ 10 ∷ after)))
first_pair p ps after = append_assoc (pair p) (flat_map pair ps) (10 ∷ after) ∙ open_pair p (flat_map pair ps ++ 10 ∷ after)

pub no_pair : {bytes rest : List ℕ} {ps : List (ℕ × ℕ)} → PairsGoOn bytes ps rest → ((r : List ℕ) → rest ≡ 10 ∷ r → ⊥)
    → ((p : ℕ × ℕ) (before r : List ℕ) → rest ≡ 32 ∷ before → IsTwoAt 62 before p r → ⊥) → (qs : List (ℕ × ℕ)) (after : List ℕ) → ArePairsAt bytes qs after → ⊥
no_pair {rest = rest} g no_end none qs after at = by (g.left qs after at)
  where
    by : (more_ps : List (ℕ × ℕ)) × ArePairsAt rest more_ps after → ⊥
    by ([], l) = no_end after l.spelled
    by (p ∷ more_ps, l) = none p (decimal p.0 ++ 62 ∷ (decimal p.1 ++ (flat_map pair more_ps ++ 10 ∷ after))) (flat_map pair more_ps ++ 10 ∷ after) (l.spelled ∙ first_pair p more_ps after)
        (record { numbers = All-head AreNumbers p more_ps l.allowed; whole = stops_pairs more_ps after; spelled = refl })

two_long : {bytes rest : List ℕ} {p : ℕ × ℕ} → IsTwoAt 62 bytes p rest → length rest ≤ length bytes
two_long {rest = rest} {p = p} at = omega (arith, ap length at.spelled, length-append (decimal p.0) (62 ∷ (decimal p.1 ++ rest)), length-append (decimal p.1) rest)

pub pairs_next : {bytes rest before after : List ℕ} {ps : List (ℕ × ℕ)} {p : ℕ × ℕ} → PairsGoOn bytes ps rest → rest ≡ 32 ∷ before → IsTwoAt 62 before p after → PairsGoOn bytes (ps ++ p ∷ []) after
pairs_next {bytes = bytes} {rest = rest} {before = before} {after = after} {ps = ps} {p = p} g e i = record {
  allowed = All-append AreNumbers ps (p ∷ []) g.allowed (all_one AreNumbers p i.numbers);
  spelled = g.spelled ∙ ap (λ l. flat_map pair ps ++ l) (e ∙ ap (λ l. 32 ∷ l) i.spelled ∙ sym (open_pair p after))
      ∙ sym (append_assoc (flat_map pair ps) (pair p) after)
      ∙ ap (λ l. (flat_map pair ps ++ l) ++ after) (sym (append-nil (pair p))) ∙ ap (λ l. l ++ after) (sym (flat_map-append pair ps (p ∷ [])));
  left = λ qs last at. more last (g.left qs last at);
  few = omega (arith, g.few, two_long i, ap length e, length-append ps (p ∷ []));
}
  where
    more : (last : List ℕ) → (more_ps : List (ℕ × ℕ)) × ArePairsAt rest more_ps last → (more_ps : List (ℕ × ℕ)) × ArePairsAt after more_ps last
    more last ([], l) = absurd (omega (arith, first_same 32 before 10 last (sym e ∙ l.spelled)))
    more last (q ∷ more_ps, l) =
        let tail : flat_map pair more_ps ++ 10 ∷ last ≡ after = flip_rest q more_ps last l in
        (more_ps, record { allowed = All-tail AreNumbers q more_ps l.allowed; spelled = sym tail })
      where
        flip_rest : (q : ℕ × ℕ) (more_ps : List (ℕ × ℕ)) (last : List ℕ) → ArePairsAt rest (q ∷ more_ps) last → flat_map pair more_ps ++ 10 ∷ last ≡ after
        flip_rest q more_ps last l =
            let k : 32 ∷ before ≡ 32 ∷ (decimal q.0 ++ 62 ∷ (decimal q.1 ++ (flat_map pair more_ps ++ 10 ∷ last))) = sym e ∙ l.spelled ∙ first_pair q more_ps last in
            let tail : before ≡ decimal q.0 ++ 62 ∷ (decimal q.1 ++ (flat_map pair more_ps ++ 10 ∷ last)) = ap (drop 1) k in
            sym (after_between 62 arrow p q after (flat_map pair more_ps ++ 10 ∷ last) i.numbers (All-head AreNumbers q more_ps l.allowed) i.whole (stops_pairs more_ps last) (sym i.spelled ∙ tail)).1

-- pairs up to the end of the line can be read in one way
pub one_pairs : (ps qs : List (ℕ × ℕ)) (r s : List ℕ) → All AreNumbers ps → All AreNumbers qs → flat_map pair ps ++ 10 ∷ r ≡ flat_map pair qs ++ 10 ∷ s → (ps ≡ qs) × (r ≡ s)
one_pairs [] [] r s a b e = (refl, ap (drop 1) e)
one_pairs [] (q ∷ qs) r s a b e = absurd (omega (arith, first_same 10 r 32 _ (e ∙ first_pair q qs s)))
one_pairs (p ∷ ps) [] r s a b e = absurd (omega (arith, first_same 32 _ 10 s (sym (first_pair p ps r) ∙ e)))
one_pairs (p ∷ ps) (q ∷ qs) r s a b e =
    let both : 32 ∷ (decimal p.0 ++ 62 ∷ (decimal p.1 ++ (flat_map pair ps ++ 10 ∷ r))) ≡ 32 ∷ (decimal q.0 ++ 62 ∷ (decimal q.1 ++ (flat_map pair qs ++ 10 ∷ s))) = sym (first_pair p ps r) ∙ e ∙ first_pair q qs s in
    let tail : decimal p.0 ++ 62 ∷ (decimal p.1 ++ (flat_map pair ps ++ 10 ∷ r)) ≡ decimal q.0 ++ 62 ∷ (decimal q.1 ++ (flat_map pair qs ++ 10 ∷ s)) = ap (drop 1) both in
    let one : (p ≡ q) × (flat_map pair ps ++ 10 ∷ r ≡ flat_map pair qs ++ 10 ∷ s)
    = after_between 62 arrow p q (flat_map pair ps ++ 10 ∷ r) (flat_map pair qs ++ 10 ∷ s) (All-head AreNumbers p ps a) (All-head AreNumbers q qs b) (stops_pairs ps r) (stops_pairs qs s) tail in
    let more : (ps ≡ qs) × (r ≡ s) = one_pairs ps qs r s (All-tail AreNumbers p ps a) (All-tail AreNumbers q qs b) one.1 in
    (λ i. one.0 i ∷ more.0 i, more.1)
