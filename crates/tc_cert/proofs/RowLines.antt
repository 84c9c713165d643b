-- The line of a row says one row, given the row before it.
use Rattle.std.proofs.Common.{◌≡◌, ◌≤◌, ◌+◌, ◌==◌, ◌&&◌, ℕ, Bool, true, false, cond, List, [], ◌∷◌, ◌++◌, length, get_or, flat_map, All, Option, Some, None, refl, sym, ap, ◌∙◌, length-append, arith, codes, decimal}
use Rattle.std.proofs.lemmas.List.Elements.{All-append, All-head, All-tail}
use Rattle.tc_model.specs.declared.lists.TreeLine.{TreeLine}
use Rattle.tc_model.specs.declared.lists.HedgeLine.{HedgeLine}
use Rattle.tc_model.specs.CertificateLines.{flag, numbers, listed, change, changes, change_at, tree_line, hedge_line, row}
use Rattle.tc_model.specs.CertificateData.{IsNumber, IsFormedTree, IsFormedHedge}
use Rattle.tc_cert.specs.Texts.{Version, whole, by_changes, tree_in, hedge_in}
use Rattle.tc_cert.specs.Pieces.{AreNumbers}
use Rattle.tc_cert.specs.Fields.{Fields, IsFormedRow, row_line, row_changes, row_in, are_like, letter, changes_letter, line_behind, tree_of, hedge_of}
use Rattle.tc_cert.specs.NextRows.{IsShort}
use Rattle.tc_cert.specs.declared.rows.Kind.{Kind}
use Rattle.tc_cert.specs.declared.rows.Kind.TheVariants.{Tree, Hedge}
use Rattle.tc_cert.proofs.Fields.{plain_numbers}
use Rattle.tc_cert.proofs.Lists.{plain_changes, all_one}
use Rattle.tc_cert.proofs.Orders.{numbers_of_looks, open_row}
use Rattle.tc_cert.proofs.Three.{AreThree, IsOneRow, both_rows}
use Rattle.tc_cert.proofs.Differing.{first_change, IsFirstChange, same_by_test, change_here, none_here, first_change_is}

abbrev pub of_tree : TreeLine → Fields
of_tree t = record { one = t.text; other = t.bears; members = t.patterns; outs = t.outs; looks = t.looks }

abbrev pub of_hedge : HedgeLine → Fields
of_hedge h = record { one = h.ends; other = h.bears; members = h.states; outs = h.outs; looks = h.looks }

pub formed_tree : (t : TreeLine) → IsFormedTree t → IsFormedRow (of_tree t)
formed_tree t h = record { members = h.patterns; outs = h.outs; looks = h.looks }

pub tree_formed : (f : Fields) → IsFormedRow f → IsFormedTree (tree_of f)
tree_formed f h = record { patterns = h.members; outs = h.outs; looks = h.looks }

pub formed_hedge : (t : HedgeLine) → IsFormedHedge t → IsFormedRow (of_hedge t)
formed_hedge t h = record { members = h.states; outs = h.outs; looks = h.looks }

pub hedge_formed : (f : Fields) → IsFormedRow f → IsFormedHedge (hedge_of f)
hedge_formed f h = record { states = h.members; outs = h.outs; looks = h.looks }

all_none : {X : Type 0} (P : X → Type 0) → All P []
all_none P k d h = absurd (omega arith)

pub three_of_line : (k : Kind) (f : Fields) (bytes rest : List ℕ) → IsFormedRow f → bytes ≡ row_line k f ++ 10 ∷ rest → AreThree decimal IsNumber (letter k) bytes f.one f.other f.members f.outs f.looks rest
three_of_line k f bytes rest h e = record { members = h.members; first = h.outs; second = numbers_of_looks f.looks h.looks; spelled = e }

pub changes_numbers : (n : ℕ) (old new : List ℕ) → n + length old ≤ 4294967296 → All IsNumber new → All AreNumbers (changes n old new)
changes_numbers n [] new h a = all_none AreNumbers
changes_numbers n (m ∷ old) [] h a = all_none AreNumbers
changes_numbers n (m ∷ old) (x ∷ new) h a = All-append AreNumbers (change_at n m x) (changes (n + 1) old new) (by (m == x)) (changes_numbers (n + 1) old new (omega (arith, h)) (All-tail IsNumber x new a))
  where
    by : (b : Bool) → All AreNumbers (cond b [] ((n, x) ∷ []))
    by true = all_none AreNumbers
    by false = all_one AreNumbers (n, x) (omega (arith, h), All-head IsNumber x new a)

pub three_of_changes : (k : Kind) (b f : Fields) (bytes rest : List ℕ) → IsShort b → IsFormedRow f → bytes ≡ row_changes k b f ++ 10 ∷ rest
    → AreThree change AreNumbers (changes_letter k) bytes f.one f.other f.members (changes 0 b.outs f.outs) (changes 0 b.looks f.looks) rest
three_of_changes k b f bytes rest s h e = record {
  members = h.members;
  first = changes_numbers 0 b.outs f.outs (omega (arith, s.outs)) h.outs;
  second = changes_numbers 0 b.looks f.looks (omega (arith, s.looks)) (numbers_of_looks f.looks h.looks);
  spelled = e;
}

-- changes tell what they make
no_early : (n : ℕ) (old xs : List ℕ) (y : ℕ) (cs : List (ℕ × ℕ)) → length xs ≡ length old → changes (n + 1) old xs ≡ (n, y) ∷ cs → ⊥
no_early n old xs y cs h e =
    let f : (k : ℕ) × IsFirstChange (n + 1) old xs n y cs k = first_change (n + 1) old xs n y cs h e in
    late n f.0 f.1.place
  where
    late : (n k : ℕ) → n ≡ n + 1 + k → ⊥
    late n k e = absurd (omega (arith, e))

pub changes_tell : (n : ℕ) (old xs ys : List ℕ) → length xs ≡ length old → length ys ≡ length old → changes n old xs ≡ changes n old ys → xs ≡ ys
changes_tell n [] [] [] h k e = refl
changes_tell n [] [] (y ∷ ys) h k e = absurd (omega (arith, k))
changes_tell n [] (x ∷ xs) ys h k e = absurd (omega (arith, h))
changes_tell n (m ∷ old) [] ys h k e = absurd (omega (arith, h))
changes_tell n (m ∷ old) (x ∷ xs) [] h k e = absurd (omega (arith, k))
changes_tell n (m ∷ old) (x ∷ xs) (y ∷ ys) h k e = by (changes_tell (n + 1) old xs ys (omega (arith, h)) (omega (arith, k))) (m == x) refl (m == y) refl
  where
    by : (changes (n + 1) old xs ≡ changes (n + 1) old ys → xs ≡ ys) → (b : Bool) → (m == x) ≡ b → (c : Bool) → (m == y) ≡ c → x ∷ xs ≡ y ∷ ys
    by more true p true q =
        let same : x ≡ y = sym (same_by_test m x p) ∙ same_by_test m y q in
        let tail : xs ≡ ys = more (sym (none_here n m x (changes (n + 1) old xs) p) ∙ e ∙ none_here n m y (changes (n + 1) old ys) q) in
        λ i. same i ∷ tail i
    by more true p false q = absurd (no_early n old xs y (changes (n + 1) old ys) (omega (arith, h)) (sym (none_here n m x (changes (n + 1) old xs) p) ∙ e ∙ change_here n m y (changes (n + 1) old ys) q))
    by more false p true q = absurd (no_early n old ys x (changes (n + 1) old xs) (omega (arith, k)) (sym (none_here n m y (changes (n + 1) old ys) q) ∙ sym e ∙ change_here n m x (changes (n + 1) old xs) p))
    by more false p false q =
        let all = first_change_is (n, x) (n, y) (changes (n + 1) old xs) (changes (n + 1) old ys) (sym (change_here n m x (changes (n + 1) old xs) p) ∙ e ∙ change_here n m y (changes (n + 1) old ys) q) in
        let tail : xs ≡ ys = more all.2 in
        λ i. all.1 i ∷ tail i

-- as many outputs and looks
pub record AreAsLong (b f : Fields) : Type 0 where
  pub outs : length f.outs ≡ length b.outs
  pub looks : length f.looks ≡ length b.looks

both_true : (a b : Bool) → (a && b) ≡ true → (a ≡ true) × (b ≡ true)
both_true true true e = (refl, refl)
both_true true false e = absurd (apart e)
  where
    apart : false ≡ true → ⊥
    apart q = cc
both_true false b e = absurd (apart e)
  where
    apart : false ≡ true → ⊥
    apart q = cc

pub as_long : (b f : Fields) → are_like b f ≡ true → AreAsLong b f
as_long b f e =
    let both : ((length b.outs == length f.outs) ≡ true) × ((length b.looks == length f.looks) ≡ true) = both_true (length b.outs == length f.outs) (length b.looks == length f.looks) e in
    record { outs = sym (same_by_test (length b.outs) (length f.outs) both.0); looks = sym (same_by_test (length b.looks) (length f.looks) both.1) }

pub whole_one : (k : Kind) (f g : Fields) (r s : List ℕ) → IsFormedRow f → IsFormedRow g → row_line k f ++ 10 ∷ r ≡ row_line k g ++ 10 ∷ s → (f ≡ g) × (r ≡ s)
whole_one k f g r s p q e =
    let o : IsOneRow f.one g.one f.other g.other f.members g.members f.outs g.outs f.looks g.looks r s
    = both_rows decimal IsNumber plain_numbers (three_of_line k f (row_line k f ++ 10 ∷ r) r p refl) (three_of_line k g (row_line k f ++ 10 ∷ r) s q e) in
    let same : f ≡ g = λ i. record { one = o.one i; other = o.other i; members = o.members i; outs = o.first i; looks = o.second i } in
    (same, o.rest)

pub changes_one : (k : Kind) (b f g : Fields) (r s : List ℕ) → IsShort b → IsFormedRow f → IsFormedRow g → AreAsLong b f → AreAsLong b g → row_changes k b f ++ 10 ∷ r ≡ row_changes k b g ++ 10 ∷ s → (f ≡ g) × (r ≡ s)
changes_one k b f g r s short p q l m e =
    let o : IsOneRow f.one g.one f.other g.other f.members g.members (changes 0 b.outs f.outs) (changes 0 b.outs g.outs) (changes 0 b.looks f.looks) (changes 0 b.looks g.looks) r s
    = both_rows change AreNumbers plain_changes (three_of_changes k b f (row_changes k b f ++ 10 ∷ r) r short p refl) (three_of_changes k b g (row_changes k b f ++ 10 ∷ r) s short q e) in
    let outs : f.outs ≡ g.outs = changes_tell 0 b.outs f.outs g.outs l.outs m.outs o.first in
    let looks : f.looks ≡ g.looks = changes_tell 0 b.looks f.looks g.looks l.looks m.looks o.second in
    let same : f ≡ g = λ i. record { one = o.one i; other = o.other i; members = o.members i; outs = outs i; looks = looks i } in
    (same, o.rest)

pub letters_differ : (k : Kind) → changes_letter k ≡ letter k → ⊥
letters_differ Tree e = absurd (omega (arith, e))
letters_differ Hedge e = absurd (omega (arith, e))

pub letters_apart : (k : Kind) (b f g : Fields) (r s : List ℕ) → row_changes k b f ++ 10 ∷ r ≡ row_line k g ++ 10 ∷ s → ⊥
letters_apart k b f g r s e = let first : changes_letter k ≡ letter k = ap (λ l. get_or l 0 0) e in letters_differ k first

abbrev pub IsShortBefore : Option Fields → Type 0
IsShortBefore None = Unit {0}
IsShortBefore (Some b) = IsShort b

abbrev text_by : Bool → Kind → Fields → Fields → List ℕ → List ℕ
text_by c k b h rest = cond c (row_changes k b h) (row_line k h) ++ 10 ∷ rest

pub one_line : (v : Version) (k : Kind) (before : Option Fields) (f g : Fields) (r s : List ℕ) → IsShortBefore before → IsFormedRow f → IsFormedRow g
    → line_behind (row_line k) (row_in v k) before f ++ 10 ∷ r ≡ line_behind (row_line k) (row_in v k) before g ++ 10 ∷ s → (f ≡ g) × (r ≡ s)
one_line v k None f g r s short p q e = whole_one k f g r s p q e
one_line whole k (Some b) f g r s short p q e = whole_one k f g r s p q e
one_line by_changes k (Some b) f g r s short p q e = by (are_like b f) refl (are_like b g) refl
  where
    by : (c : Bool) → are_like b f ≡ c → (d : Bool) → are_like b g ≡ d → (f ≡ g) × (r ≡ s)
    by true i true j = changes_one k b f g r s short p q (as_long b f i) (as_long b g j) (sym (ap (λ c. text_by c k b f r) i) ∙ e ∙ ap (λ c. text_by c k b g s) j)
    by true i false j = absurd (letters_apart k b f g r s (sym (ap (λ c. text_by c k b f r) i) ∙ e ∙ ap (λ c. text_by c k b g s) j))
    by false i true j = absurd (letters_apart k b g f s r (sym (ap (λ c. text_by c k b g s) j) ∙ sym e ∙ ap (λ c. text_by c k b f r) i))
    by false i false j = whole_one k f g r s p q (sym (ap (λ c. text_by c k b f r) i) ∙ e ∙ ap (λ c. text_by c k b g s) j)

-- a row that is written whole is no longer than its text
tail_long : (ns : List ℕ) → length ns ≤ length (flat_map (λ n. codes "," ++ decimal n) ns)
tail_long [] = omega arith
tail_long (n ∷ ns) = omega (arith, tail_long ns, length-append (decimal n) (flat_map (λ n. codes "," ++ decimal n) ns))

numbers_long : (ns : List ℕ) → length ns ≤ 1 + length (numbers ns)
numbers_long [] = omega arith
numbers_long (n ∷ ns) = omega (arith, tail_long ns, length-append (decimal n) (flat_map (λ n. codes "," ++ decimal n) ns))

row_long : (l : ℕ) (a b : Bool) (ms os ls : List ℕ) → (1 + length os ≤ length (row l a b ms os ls)) × (1 + length ls ≤ length (row l a b ms os ls)) × (1 + length (numbers ms) ≤ length (row l a b ms os ls))
row_long l a b ms os ls =
    let whole_row : length (row l a b ms os ls) ≡ length (l ∷ 32 ∷ flag a ∷ 32 ∷ flag b ∷ 32 ∷ (numbers ms ++ 32 ∷ (os ++ 32 ∷ ls))) = ap length (open_row l a b ms os ls) in
    let inner : length (os ++ 32 ∷ ls) ≡ length os + length (32 ∷ ls) = length-append os (32 ∷ ls) in
    let outer : length (numbers ms ++ 32 ∷ (os ++ 32 ∷ ls)) ≡ length (numbers ms) + length (32 ∷ (os ++ 32 ∷ ls)) = length-append (numbers ms) (32 ∷ (os ++ 32 ∷ ls)) in
    (omega (arith, whole_row, inner, outer), omega (arith, whole_row, inner, outer), omega (arith, whole_row, inner, outer))

pub whole_short : (k : Kind) (f : Fields) (bytes rest : List ℕ) → length bytes ≤ 67108864 → IsFormedRow f → bytes ≡ row_line k f ++ 10 ∷ rest → IsShort f
whole_short k f bytes rest h p e =
    let long : length bytes ≡ length (row_line k f) + length (10 ∷ rest) = ap length e ∙ length-append (row_line k f) (10 ∷ rest) in
    let row_is = row_long (letter k) f.one f.other f.members (numbers f.outs) (numbers f.looks) in
    record {
      members = omega (arith, h, long, row_is.2, numbers_long f.members);
      outs = omega (arith, h, long, row_is.0, numbers_long f.outs);
      looks = omega (arith, h, long, row_is.1, numbers_long f.looks);
      small = p.looks;
    }

changes_short : (k : Kind) (b f : Fields) (bytes rest : List ℕ) → length bytes ≤ 67108864 → AreAsLong b f → IsShort b → IsFormedRow f → bytes ≡ row_changes k b f ++ 10 ∷ rest → IsShort f
changes_short k b f bytes rest h l s p e =
    let long : length bytes ≡ length (row_changes k b f) + length (10 ∷ rest) = ap length e ∙ length-append (row_changes k b f) (10 ∷ rest) in
    let row_is = row_long (changes_letter k) f.one f.other f.members (listed change (changes 0 b.outs f.outs)) (listed change (changes 0 b.looks f.looks)) in
    record {
      members = omega (arith, h, long, row_is.2, numbers_long f.members);
      outs = omega (arith, l.outs, s.outs);
      looks = omega (arith, l.looks, s.looks);
      small = p.looks;
    }

-- each row that is read is short
pub line_short : (v : Version) (k : Kind) (before : Option Fields) (f : Fields) (bytes rest : List ℕ) → length bytes ≤ 67108864 → IsShortBefore before → IsFormedRow f
    → bytes ≡ line_behind (row_line k) (row_in v k) before f ++ 10 ∷ rest → IsShort f
line_short v k None f bytes rest h short p e = whole_short k f bytes rest h p e
line_short whole k (Some b) f bytes rest h short p e = whole_short k f bytes rest h p e
line_short by_changes k (Some b) f bytes rest h short p e = by (are_like b f) refl
  where
    by : (c : Bool) → are_like b f ≡ c → IsShort f
    by true i = changes_short k b f bytes rest h (as_long b f i) short p (e ∙ ap (λ c. text_by c k b f rest) i)
    by false i = whole_short k f bytes rest h p (e ∙ ap (λ c. text_by c k b f rest) i)

-- the same of trees and of lists of trees
pub one_tree_line : (v : Version) (before : Option TreeLine) (t u : TreeLine) (r s : List ℕ) → ((b : TreeLine) → before ≡ Some b → IsShort (of_tree b)) → IsFormedTree t → IsFormedTree u
    → line_behind tree_line (tree_in v) before t ++ 10 ∷ r ≡ line_behind tree_line (tree_in v) before u ++ 10 ∷ s → (t ≡ u) × (r ≡ s)
one_tree_line v None t u r s short p q e = let o = one_line v Tree None (of_tree t) (of_tree u) r s tt (formed_tree t p) (formed_tree u q) e in (ap tree_of o.0, o.1)
one_tree_line whole (Some b) t u r s short p q e = let o = one_line whole Tree (Some (of_tree b)) (of_tree t) (of_tree u) r s (short b refl) (formed_tree t p) (formed_tree u q) e in (ap tree_of o.0, o.1)
one_tree_line by_changes (Some b) t u r s short p q e = let o = one_line by_changes Tree (Some (of_tree b)) (of_tree t) (of_tree u) r s (short b refl) (formed_tree t p) (formed_tree u q) e in (ap tree_of o.0, o.1)

pub one_hedge_line : (v : Version) (before : Option HedgeLine) (t u : HedgeLine) (r s : List ℕ) → ((b : HedgeLine) → before ≡ Some b → IsShort (of_hedge b)) → IsFormedHedge t → IsFormedHedge u
    → line_behind hedge_line (hedge_in v) before t ++ 10 ∷ r ≡ line_behind hedge_line (hedge_in v) before u ++ 10 ∷ s → (t ≡ u) × (r ≡ s)
one_hedge_line v None t u r s short p q e = let o = one_line v Hedge None (of_hedge t) (of_hedge u) r s tt (formed_hedge t p) (formed_hedge u q) e in (ap hedge_of o.0, o.1)
one_hedge_line whole (Some b) t u r s short p q e = let o = one_line whole Hedge (Some (of_hedge b)) (of_hedge t) (of_hedge u) r s (short b refl) (formed_hedge t p) (formed_hedge u q) e in (ap hedge_of o.0, o.1)
one_hedge_line by_changes (Some b) t u r s short p q e = let o = one_line by_changes Hedge (Some (of_hedge b)) (of_hedge t) (of_hedge u) r s (short b refl) (formed_hedge t p) (formed_hedge u q) e in (ap hedge_of o.0, o.1)

pub tree_short : (v : Version) (before : Option TreeLine) (t : TreeLine) (bytes rest : List ℕ) → length bytes ≤ 67108864 → ((b : TreeLine) → before ≡ Some b → IsShort (of_tree b)) → IsFormedTree t
    → bytes ≡ line_behind tree_line (tree_in v) before t ++ 10 ∷ rest → IsShort (of_tree t)
tree_short v None t bytes rest h short p e = line_short v Tree None (of_tree t) bytes rest h tt (formed_tree t p) e
tree_short whole (Some b) t bytes rest h short p e = line_short whole Tree (Some (of_tree b)) (of_tree t) bytes rest h (short b refl) (formed_tree t p) e
tree_short by_changes (Some b) t bytes rest h short p e = line_short by_changes Tree (Some (of_tree b)) (of_tree t) bytes rest h (short b refl) (formed_tree t p) e

pub hedge_short : (v : Version) (before : Option HedgeLine) (t : HedgeLine) (bytes rest : List ℕ) → length bytes ≤ 67108864 → ((b : HedgeLine) → before ≡ Some b → IsShort (of_hedge b)) → IsFormedHedge t
    → bytes ≡ line_behind hedge_line (hedge_in v) before t ++ 10 ∷ rest → IsShort (of_hedge t)
hedge_short v None t bytes rest h short p e = line_short v Hedge None (of_hedge t) bytes rest h tt (formed_hedge t p) e
hedge_short whole (Some b) t bytes rest h short p e = line_short whole Hedge (Some (of_hedge b)) (of_hedge t) bytes rest h (short b refl) (formed_hedge t p) e
hedge_short by_changes (Some b) t bytes rest h short p e = line_short by_changes Hedge (Some (of_hedge b)) (of_hedge t) bytes rest h (short b refl) (formed_hedge t p) e
