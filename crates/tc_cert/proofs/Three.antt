-- The fields of a row: two truth values, members, and two lists of numbers or of changes.
use Rattle.std.proofs.Common.{◌≡◌, inr, ℕ, Bool, List, ◌∷◌, ◌++◌, drop, get_or, All, refl, sym, ap, subst, ◌∙◌, append_assoc, decimal}
use Rattle.tc_model.specs.CertificateLines.{flag, numbers, row, listed}
use Rattle.tc_model.specs.CertificateData.{IsNumber, AreMembers}
use Rattle.tc_cert.specs.Pieces.{IsListAt, AreNumbersAt, FlagsAt, IsFrontAt}
use Rattle.tc_cert.proofs.Fields.{IsPlain, Ends, ends_space, one_list, plain_numbers}
use Rattle.tc_cert.proofs.Apart.{same_flag}
use Rattle.tc_cert.proofs.Orders.{open_row}

pub ends_feed : (r : List ℕ) → Ends (10 ∷ r)
ends_feed r c after e = let same : c ≡ 10 = cc in inr same

-- the letter and the truth values can be read in one way
pub record AreSame (a c b d : Bool) (r s : List ℕ) : Type 0 where
  pub one : a ≡ c
  pub other : b ≡ d
  pub rest : r ≡ s

pub one_flags : {letter : ℕ} {bytes : List ℕ} (a b c d : Bool) (r s : List ℕ) → FlagsAt letter bytes a b r → FlagsAt letter bytes c d s → AreSame a c b d r s
one_flags {letter = letter} a b c d r s e f =
    let both : letter ∷ 32 ∷ flag a ∷ 32 ∷ flag b ∷ 32 ∷ r ≡ letter ∷ 32 ∷ flag c ∷ 32 ∷ flag d ∷ 32 ∷ s = sym e ∙ f in
    let one : flag a ≡ flag c = ap (λ l. get_or l 2 0) both in
    let other : flag b ≡ flag d = ap (λ l. get_or l 4 0) both in
    record { one = same_flag a c one; other = same_flag b d other; rest = ap (drop 6) both }

pub record IsOneFront (a c b d : Bool) (ms ns r s : List ℕ) : Type 0 where
  pub one : a ≡ c
  pub other : b ≡ d
  pub members : ms ≡ ns
  pub rest : r ≡ s

pub one_front : {letter : ℕ} {bytes : List ℕ} (a b c d : Bool) (ms ns r s : List ℕ) → All IsNumber ms → All IsNumber ns
    → FlagsAt letter bytes a b (numbers ms ++ 32 ∷ r) → FlagsAt letter bytes c d (numbers ns ++ 32 ∷ s) → IsOneFront a c b d ms ns r s
one_front {letter = letter} {bytes = bytes} a b c d ms ns r s p q e f =
    let flags : AreSame a c b d (numbers ms ++ 32 ∷ r) (numbers ns ++ 32 ∷ s) = one_flags {letter = letter} {bytes = bytes} a b c d (numbers ms ++ 32 ∷ r) (numbers ns ++ 32 ∷ s) e f in
    let list : (ms ≡ ns) × (32 ∷ r ≡ 32 ∷ s) = one_list decimal IsNumber plain_numbers ms ns (32 ∷ r) (32 ∷ s) p q (ends_space r) (ends_space s) flags.rest in
    let second : 32 ∷ r ≡ 32 ∷ s = list.1 in
    record { one = flags.one; other = flags.other; members = list.0; rest = ap (drop 1) second }

-- members that don't ascend
pub no_members : (letter : ℕ) (bytes rest after : List ℕ) (a b : Bool) (ms : List ℕ) → FlagsAt letter bytes a b rest → AreNumbersAt 32 rest ms after → (AreMembers ms → ⊥)
    → (c d : Bool) (ns s : List ℕ) → IsFrontAt letter bytes c d ns s → ⊥
no_members letter bytes rest after a b ms e l bar c d ns s at =
    let same : IsOneFront a c b d ms ns after s
    = one_front {letter = letter} {bytes = bytes} a b c d ms ns after s l.allowed at.allowed.numbers (e ∙ ap (λ w. letter ∷ 32 ∷ flag a ∷ 32 ∷ flag b ∷ 32 ∷ w) l.spelled) at.spelled in
    bar (subst AreMembers (sym same.members) at.allowed)

-- two lists, the second up to the end of the line
pub record AreThree {X : Type 0} (f : X → List ℕ) (ok : X → Type 0) (letter : ℕ) (bytes : List ℕ) (a b : Bool) (ms : List ℕ) (xs ys : List X) (rest : List ℕ) : Type 0 where
  pub members : AreMembers ms
  pub first : All ok xs
  pub second : All ok ys
  pub spelled : bytes ≡ row letter a b ms (listed f xs) (listed f ys) ++ 10 ∷ rest

pub record IsOneRow {X : Type 0} (a c b d : Bool) (ms ns : List ℕ) (xs zs ys ws : List X) (r s : List ℕ) : Type 0 where
  pub one : a ≡ c
  pub other : b ≡ d
  pub members : ms ≡ ns
  pub first : xs ≡ zs
  pub second : ys ≡ ws
  pub rest : r ≡ s

module _ {X : Type 0} (f : X → List ℕ) (ok : X → Type 0) (plain : IsPlain f ok) where
  flat : (letter : ℕ) (a b : Bool) (ms : List ℕ) (xs ys : List X) (rest : List ℕ)
      → row letter a b ms (listed f xs) (listed f ys) ++ 10 ∷ rest ≡ letter ∷ 32 ∷ flag a ∷ 32 ∷ flag b ∷ 32 ∷ (numbers ms ++ 32 ∷ (listed f xs ++ 32 ∷ (listed f ys ++ 10 ∷ rest)))
  flat letter a b ms xs ys rest =
      ap (λ w. w ++ 10 ∷ rest) (open_row letter a b ms (listed f xs) (listed f ys))
      ∙ ap (λ w. letter ∷ 32 ∷ flag a ∷ 32 ∷ flag b ∷ 32 ∷ w) (append_assoc (numbers ms) (32 ∷ (listed f xs ++ 32 ∷ listed f ys)) (10 ∷ rest)
      ∙ ap (λ w. numbers ms ++ 32 ∷ w) (append_assoc (listed f xs) (32 ∷ listed f ys) (10 ∷ rest)))

  pub front_of : {letter : ℕ} {bytes ms rest : List ℕ} {a b : Bool} {xs ys : List X} → AreThree f ok letter bytes a b ms xs ys rest → IsFrontAt letter bytes a b ms (listed f xs ++ 32 ∷ (listed f ys ++ 10 ∷ rest))
  front_of {letter = letter} {ms = ms} {rest = rest} {a = a} {b = b} {xs = xs} {ys = ys} t = record { allowed = t.members; spelled = t.spelled ∙ flat letter a b ms xs ys rest }

  pub made : {letter : ℕ} {bytes ms r s rest : List ℕ} {a b : Bool} {xs ys : List X} → IsFrontAt letter bytes a b ms r → IsListAt f ok 32 r xs s → IsListAt f ok 10 s ys rest → AreThree f ok letter bytes a b ms xs ys rest
  made {letter = letter} {ms = ms} {rest = rest} {a = a} {b = b} {xs = xs} {ys = ys} h p q = record {
    members = h.allowed;
    first = p.allowed;
    second = q.allowed;
    spelled = h.spelled ∙ ap (λ w. letter ∷ 32 ∷ flag a ∷ 32 ∷ flag b ∷ 32 ∷ (numbers ms ++ 32 ∷ w)) (p.spelled ∙ ap (λ w. listed f xs ++ 32 ∷ w) q.spelled) ∙ sym (flat letter a b ms xs ys rest);
  }

  -- the parts that were read are those of any such row
  same_front : {letter : ℕ} {bytes ms r ns s : List ℕ} {a b c d : Bool} → IsFrontAt letter bytes a b ms r → IsFrontAt letter bytes c d ns s → IsOneFront a c b d ms ns r s
  same_front {letter = letter} {bytes = bytes} {ms = ms} {r = r} {ns = ns} {s = s} {a = a} {b = b} {c = c} {d = d} p q =
      one_front {letter = letter} {bytes = bytes} a b c d ms ns r s p.allowed.numbers q.allowed.numbers p.spelled q.spelled

  same_list : {end : ℕ} {bytes r s : List ℕ} {xs ys : List X} → ((t : List ℕ) → Ends (end ∷ t)) → IsListAt f ok end bytes xs r → IsListAt f ok end bytes ys s → (xs ≡ ys) × (r ≡ s)
  same_list {end = end} {r = r} {s = s} {xs = xs} {ys = ys} ends p q =
      let k : (xs ≡ ys) × (end ∷ r ≡ end ∷ s) = one_list f ok plain xs ys (end ∷ r) (end ∷ s) p.allowed q.allowed (ends r) (ends s) (sym p.spelled ∙ q.spelled) in
      let rest : end ∷ r ≡ end ∷ s = k.1 in
      (k.0, ap (drop 1) rest)

  pub first_of : {letter : ℕ} {bytes ms r ns rest : List ℕ} {a b c d : Bool} {xs ys : List X} → IsFrontAt letter bytes a b ms r → AreThree f ok letter bytes c d ns xs ys rest → IsListAt f ok 32 r xs (listed f ys ++ 10 ∷ rest)
  first_of h t = record { allowed = t.first; spelled = (same_front h (front_of t)).rest }

  pub second_of : {letter : ℕ} {bytes ms r ns s rest : List ℕ} {a b c d : Bool} {zs xs ys : List X} → IsFrontAt letter bytes a b ms r → IsListAt f ok 32 r zs s → AreThree f ok letter bytes c d ns xs ys rest → IsListAt f ok 10 s ys rest
  second_of h p t = record { allowed = t.second; spelled = (same_list ends_space p (first_of h t)).1 }

  pub one_row : {letter : ℕ} {bytes ms ns r s rest after : List ℕ} {a b c d : Bool} {xs ys zs ws : List X} → IsFrontAt letter bytes a b ms r → IsListAt f ok 32 r xs s → IsListAt f ok 10 s ys rest
      → AreThree f ok letter bytes c d ns zs ws after → IsOneRow a c b d ms ns xs zs ys ws rest after
  one_row h p q t =
      let front = same_front h (front_of t) in
      let first = same_list ends_space p (first_of h t) in
      let second = same_list ends_feed q (second_of h p t) in
      record { one = front.one; other = front.other; members = front.members; first = first.0; second = second.0; rest = second.1 }

  pub both_rows : {letter : ℕ} {bytes ms ns rest after : List ℕ} {a b c d : Bool} {xs ys zs ws : List X} → AreThree f ok letter bytes a b ms xs ys rest → AreThree f ok letter bytes c d ns zs ws after
      → IsOneRow a c b d ms ns xs zs ys ws rest after
  both_rows {rest = rest} {xs = xs} {ys = ys} t u =
      let first : IsListAt f ok 32 (listed f xs ++ 32 ∷ (listed f ys ++ 10 ∷ rest)) xs (listed f ys ++ 10 ∷ rest) = record { allowed = t.first; spelled = refl } in
      let second : IsListAt f ok 10 (listed f ys ++ 10 ∷ rest) ys rest = record { allowed = t.second; spelled = refl } in
      one_row (front_of t) first second u
