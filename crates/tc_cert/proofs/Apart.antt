-- No line is that of two outputs or rows.
use Rattle.std.proofs.Common.{◌≡◌, ◌<◌, ◌≤◌, ℕ, List, [], ◌∷◌, ◌++◌, drop, flat_map, get_or, All, Bool, true, false, refl, sym, ap, ◌∙◌, append_assoc, append-nil, arith, decimal}
use Rattle.std.specs.Char.{digit_value}
use Rattle.std.proofs.lemmas.List.Elements.{All-head, All-tail}
use Rattle.tc_model.specs.CertificateLines.{flag, numbers, pair, row}
use Rattle.tc_model.specs.CertificateData.{IsNumber}
use Rattle.tc_cert.specs.Unambiguous.{OneOutput, OneTree, OneHedge}
use Rattle.tc_cert.specs.Pieces.{Stops}
use Rattle.tc_cert.proofs.Fields.{stops_at, ends_nil, ends_space, one_number, one_list, plain_numbers}

low_enough : digit_value 32 < 10 → ⊥
low_enough h = absurd (omega (arith, h))

stops_pairs : (ps : List (ℕ × ℕ)) → Stops (flat_map pair ps)
stops_pairs [] = λ c after e h. cc
stops_pairs (p ∷ ps) = stops_at 32 _ low_enough

after_arrow : (r : List ℕ) → Stops (62 ∷ r)
after_arrow r = stops_at 62 r (λ h. absurd (omega (arith, h)))

abbrev ArePair : ℕ × ℕ → Type 0
ArePair p = IsNumber p.0 × IsNumber p.1

open_pair : (one other rest : List ℕ) → ((one ++ (62 ∷ [])) ++ other) ++ rest ≡ one ++ (62 ∷ (other ++ rest))
open_pair one other rest = append_assoc (one ++ (62 ∷ [])) other rest ∙ append_assoc one (62 ∷ []) (other ++ rest)

same_pairs : (ps qs : List (ℕ × ℕ)) → All (λ p. IsNumber p.0 × IsNumber p.1) ps → All (λ p. IsNumber p.0 × IsNumber p.1) qs → flat_map pair ps ≡ flat_map pair qs → ps ≡ qs
same_pairs [] [] a b e = refl
same_pairs [] (q ∷ qs) a b e = cc
same_pairs (p ∷ ps) [] a b e = cc
same_pairs (p ∷ ps) (q ∷ qs) a b e =
    let first_of_p : IsNumber p.0 × IsNumber p.1 = All-head ArePair p ps a in
    let first_of_q : IsNumber q.0 × IsNumber q.1 = All-head ArePair q qs b in
    let behind : ((decimal p.0 ++ (62 ∷ [])) ++ decimal p.1) ++ flat_map pair ps ≡ ((decimal q.0 ++ (62 ∷ [])) ++ decimal q.1) ++ flat_map pair qs = ap (drop 1) e in
    let flat : decimal p.0 ++ (62 ∷ (decimal p.1 ++ flat_map pair ps)) ≡ decimal q.0 ++ (62 ∷ (decimal q.1 ++ flat_map pair qs))
    = sym (open_pair (decimal p.0) (decimal p.1) (flat_map pair ps)) ∙ behind ∙ open_pair (decimal q.0) (decimal q.1) (flat_map pair qs) in
    let one : (p.0 ≡ q.0) × (62 ∷ (decimal p.1 ++ flat_map pair ps) ≡ 62 ∷ (decimal q.1 ++ flat_map pair qs))
    = one_number p.0 q.0 _ _ first_of_p.0 first_of_q.0 (after_arrow _) (after_arrow _) flat in
    let second : 62 ∷ (decimal p.1 ++ flat_map pair ps) ≡ 62 ∷ (decimal q.1 ++ flat_map pair qs) = one.1 in
    let rest : decimal p.1 ++ flat_map pair ps ≡ decimal q.1 ++ flat_map pair qs = ap (drop 1) second in
    let two : (p.1 ≡ q.1) × (flat_map pair ps ≡ flat_map pair qs) = one_number p.1 q.1 _ _ first_of_p.1 first_of_q.1 (stops_pairs ps) (stops_pairs qs) rest in
    let more : ps ≡ qs = same_pairs ps qs (All-tail ArePair p ps a) (All-tail ArePair q qs b) two.1 in
    λ i. (one.0 i, two.0 i) ∷ more i

pub one_output : OneOutput
one_output ps qs a b e =
    let behind : flat_map pair ps ≡ flat_map pair qs = ap (drop 1) e in
    same_pairs ps qs a.numbers b.numbers behind

pub same_flag : (a b : Bool) → flag a ≡ flag b → a ≡ b
same_flag false false e = refl
same_flag false true e = absurd (omega arith)
same_flag true false e = absurd (omega arith)
same_flag true true e = refl

last_list : (ns ms : List ℕ) → All IsNumber ns → All IsNumber ms → numbers ns ≡ numbers ms → ns ≡ ms
last_list ns ms a b e = (one_list decimal IsNumber plain_numbers ns ms [] [] a b ends_nil ends_nil (append-nil (numbers ns) ∙ e ∙ sym (append-nil (numbers ms)))).0

same_row : (kind : ℕ) (a b c d : Bool) (ps qs ms ns ls ks : List ℕ) → All IsNumber ps → All IsNumber qs → All IsNumber ms → All IsNumber ns → All IsNumber ls → All IsNumber ks
    → row kind a b ps (numbers ms) (numbers ls) ≡ row kind c d qs (numbers ns) (numbers ks) → (a ≡ c) × (b ≡ d) × (ps ≡ qs) × (ms ≡ ns) × (ls ≡ ks)
same_row kind a b c d ps qs ms ns ls ks p q m n l k e =
    let one : flag a ≡ flag c = ap (λ l. get_or l 2 0) e in
    let other : flag b ≡ flag d = ap (λ l. get_or l 4 0) e in
    let behind : (numbers ps ++ (32 ∷ numbers ms)) ++ (32 ∷ numbers ls) ≡ (numbers qs ++ (32 ∷ numbers ns)) ++ (32 ∷ numbers ks) = ap (drop 6) e in
    let fields : numbers ps ++ (32 ∷ (numbers ms ++ (32 ∷ numbers ls))) ≡ numbers qs ++ (32 ∷ (numbers ns ++ (32 ∷ numbers ks)))
    = sym (append_assoc (numbers ps) (32 ∷ numbers ms) (32 ∷ numbers ls)) ∙ behind ∙ append_assoc (numbers qs) (32 ∷ numbers ns) (32 ∷ numbers ks) in
    let members : (ps ≡ qs) × (32 ∷ (numbers ms ++ (32 ∷ numbers ls)) ≡ 32 ∷ (numbers ns ++ (32 ∷ numbers ks)))
    = one_list decimal IsNumber plain_numbers ps qs _ _ p q (ends_space _) (ends_space _) fields in
    let second : 32 ∷ (numbers ms ++ (32 ∷ numbers ls)) ≡ 32 ∷ (numbers ns ++ (32 ∷ numbers ks)) = members.1 in
    let two_fields : numbers ms ++ (32 ∷ numbers ls) ≡ numbers ns ++ (32 ∷ numbers ks) = ap (drop 1) second in
    let outs : (ms ≡ ns) × (32 ∷ numbers ls ≡ 32 ∷ numbers ks) = one_list decimal IsNumber plain_numbers ms ns _ _ m n (ends_space _) (ends_space _) two_fields in
    let third : 32 ∷ numbers ls ≡ 32 ∷ numbers ks = outs.1 in
    let looks : numbers ls ≡ numbers ks = ap (drop 1) third in
    (same_flag a c one, same_flag b d other, members.0, outs.0, last_list ls ks l k looks)

are_numbers : (ls : List ℕ) → All (λ n. n ≤ 2) ls → All IsNumber ls
are_numbers ls a k d h = let low : get_or ls k d ≤ 2 = a k d h in omega arith

pub one_tree : OneTree
one_tree t u a b e =
    let same : (t.text ≡ u.text) × (t.bears ≡ u.bears) × (t.patterns ≡ u.patterns) × (t.outs ≡ u.outs) × (t.looks ≡ u.looks)
    = same_row 116 t.text t.bears u.text u.bears t.patterns u.patterns t.outs u.outs t.looks u.looks a.patterns.numbers b.patterns.numbers a.outs b.outs (are_numbers t.looks a.looks) (are_numbers u.looks b.looks) e in
    λ i. record { text = same.0 i; bears = same.1 i; patterns = same.2 i; outs = same.3 i; looks = same.4 i }

pub one_hedge : OneHedge
one_hedge h k a b e =
    let same : (h.ends ≡ k.ends) × (h.bears ≡ k.bears) × (h.states ≡ k.states) × (h.outs ≡ k.outs) × (h.looks ≡ k.looks)
    = same_row 104 h.ends h.bears k.ends k.bears h.states k.states h.outs k.outs h.looks k.looks a.states.numbers b.states.numbers a.outs b.outs (are_numbers h.looks a.looks) (are_numbers k.looks b.looks) e in
    λ i. record { ends = same.0 i; bears = same.1 i; states = same.2 i; outs = same.3 i; looks = same.4 i }
