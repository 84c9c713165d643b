-- Character data: what stands for itself, and what it lacks.
use Rattle.std.proofs.Common.{◌≡◌, ◌≢◌, ℕ, ◌+◌, ◌<◌, ◌≤◌, Bool, true, false, cond, ltb, not, ◌||◌, ◌==◌, List, [], ◌∷◌, length, take, drop, get_or, codes, refl, ap, ◌∙◌, sym, subst, arith}
use Rattle.std.specs.List.{prefix_len}
use Rattle.std.specs.Cmp.Lexicographic.{bytes_decides}
use Rattle.std.proofs.lemmas.Bool.{true≢false, eqb-true, ltb-true, ltb-false, false_from_ne_true}
use Rattle.std.proofs.lemmas.List.{length-take-le, get_or-take}
use Rattle.std.proofs.lemmas.List.Sums.{prefix_len_is, prefix_len_passes, prefix_len_stops, prefix_len-le-length}
use Rattle.tc_model.specs.XmlTextBytes.{begins_with, length_before, UpTo, Lacks, line_ends}
use Rattle.tc_model.specs.XmlTextReferences.{CharacterDataAt, is_plain}
use Rattle.tc_scan.proofs.FrontLaws.{stands_at, found as mark_found}
use Rattle.tc_xml.proofs.LineLaws.{not_return, lines_end}
use Rattle.tc_scan.specs.Blocks.{is_clear}

-- ---- runs

-- a run of characters may be cut where it ends, before `<` or `&`
plain_ascii : (b : ℕ) → is_plain b ≡ false → b < 128
plain_ascii b h = by (b == 0x3C) (b == 0x26) refl refl h
  where
    by : (x y : Bool) → (b == 0x3C) ≡ x → (b == 0x26) ≡ y → not (x || y) ≡ false → b < 128
    by true y e f h = omega (arith, eqb-true b 0x3C e)
    by false true e f h = omega (arith, eqb-true b 0x26 f)
    by false false e f h = absurd (true≢false h)

pub cut_after_run : (text : List ℕ) (n : ℕ) → n ≡ prefix_len is_plain text → (n ≤ length text) × (n < length text → 128 ≤ get_or text n 0 → 192 ≤ get_or text n 0)
cut_after_run text n e = (
  subst (λ m. m ≤ length text) (sym e) (prefix_len-le-length is_plain text),
  λ l k. absurd (omega (arith, k, subst (λ m. get_or text m 0 < 128) (sym e) (plain_ascii (get_or text (prefix_len is_plain text) 0) (prefix_len_stops is_plain text 0 (subst (λ m. m < length text) e l))))),
)

before_within : (mark bs : List ℕ) → length_before mark bs ≤ length bs
before_within mark [] = omega arith
before_within mark (b ∷ bs) = by (begins_with mark (b ∷ bs)) (before_within mark bs)
  where
    by : (x : Bool) → length_before mark bs ≤ length bs → cond x 0 (1 + length_before mark bs) ≤ length (b ∷ bs)
    by true h = omega arith
    by false h = omega arith

-- a mark that does not stand in a text is nowhere
lacks_mark : (mark bs : List ℕ) → ((inside after : List ℕ) → UpTo mark bs inside after → ⊥) → Lacks mark bs
lacks_mark mark bs h = by (ltb (length_before mark bs) (length bs)) refl
  where
    by : (x : Bool) → ltb (length_before mark bs) (length bs) ≡ x → length_before mark bs ≡ length bs
    by true e =
        let n = length_before mark bs in
        let less : n < length bs = ltb-true n (length bs) e in
        let apart : n ≢ length bs = λ q. omega (arith, less, q) in
        absurd (h (take n bs) (drop (n + length mark) bs) (mark_found mark bs (take n bs) (drop (n + length mark) bs) n refl refl (stands_at mark bs n refl (before_within mark bs) apart) refl))
    by false e = omega (arith, before_within mark bs, ltb-false (length_before mark bs) (length bs) e)

pub a_run : (text run after : List ℕ) (n : ℕ) → n ≡ prefix_len is_plain text → n ≢ 0 → run ≡ take n text → after ≡ drop n text
    → ((inside rest : List ℕ) → UpTo (codes "]]>") run inside rest → ⊥) → CharacterDataAt text run after
a_run text run after n e some f g h = record {
  plain = record {
    some = omega (arith, e, some);
    front = f ∙ ap (λ m. take m text) e;
    back = g ∙ ap (λ m. drop m text) e;
  };
  lacks_end = lacks_mark (codes "]]>") run h;
}

-- a run in which no `]` stands
abbrev no_bracket : ℕ → Bool
no_bracket b = not (b == 93)

abbrev head_of : List ℕ → ℕ
head_of [] = 0
head_of (b ∷ bs) = b

not_here : (b : ℕ) (bs : List ℕ) → no_bracket b ≡ true → begins_with (codes "]]>") (b ∷ bs) ≡ false
not_here b bs h = false_from_ne_true _ (λ e.
    let is = (bytes_decides (codes "]]>") (take (length (codes "]]>")) (b ∷ bs))).0 e in
    let same : 93 ≡ b = ap head_of is in
    true≢false (sym h ∙ ap no_bracket (sym same)))

lacks_without : (bs : List ℕ) → length bs ≡ prefix_len no_bracket bs → Lacks (codes "]]>") bs
lacks_without [] e = refl
lacks_without (b ∷ bs) e = by (no_bracket b) refl (λ f. lacks_without bs f)
  where
    by : (x : Bool) → no_bracket b ≡ x → (length bs ≡ prefix_len no_bracket bs → Lacks (codes "]]>") bs) → Lacks (codes "]]>") (b ∷ bs)
    by true h later =
        let more : prefix_len no_bracket (b ∷ bs) ≡ 1 + prefix_len no_bracket bs = ap (λ x. cond x (1 + prefix_len no_bracket bs) 0) h in
        let rest = later (omega (arith, e, more)) in
        ap (λ x. cond x 0 (1 + length_before (codes "]]>") bs)) (not_here b bs h) ∙ (ap (λ n. 1 + n) rest ∙ omega arith)
    by false h later =
        let none : prefix_len no_bracket (b ∷ bs) ≡ 0 = ap (λ x. cond x (1 + prefix_len no_bracket bs) 0) h in
        absurd (omega (arith, e, none))

pub a_clear_run : (text run after : List ℕ) (n : ℕ) → n ≡ prefix_len is_plain text → n ≢ 0 → run ≡ take n text → after ≡ drop n text → Lacks (codes "]]>") run → CharacterDataAt text run after
a_clear_run text run after n e some f g h = record {
  plain = record {
    some = omega (arith, e, some);
    front = f ∙ ap (λ m. take m text) e;
    back = g ∙ ap (λ m. drop m text) e;
  };
  lacks_end = h;
}

-- ---- a run that stands for itself

-- a byte that does is plain, no `]` and no CR
clear : (x : ℕ) → is_clear x ≡ true → (is_plain x ≡ true) × (no_bracket x ≡ true) × (not_return x ≡ true)
clear x = by (x == 0x3C) (x == 0x26) (x == 0x5D) (x == 0xD)
  where
    by : (a b c d : Bool) → not (a || b || c || d) ≡ true → (not (a || b) ≡ true) × (not c ≡ true) × (not d ≡ true)
    by true b c d e = absurd (true≢false (sym e))
    by false true c d e = absurd (true≢false (sym e))
    by false false true d e = absurd (true≢false (sym e))
    by false false false true e = absurd (true≢false (sym e))
    by false false false false e = (refl, refl, refl)

ends : (b : Bool) → true ≡ not b → b ≡ false
ends true e = absurd (true≢false e)
ends false e = refl

-- up to a `<` or `&` it is the whole run
pub clear_run : (text run after : List ℕ) (n : ℕ) → n ≡ prefix_len is_clear text → n ≢ 0 → n < length text → true ≡ not (is_plain (get_or text n 0)) → run ≡ take n text → after ≡ drop n text
    → CharacterDataAt text run after × (line_ends run ≡ run)
clear_run text run after n e some l stop f g =
    let before : (i : ℕ) → i < n → is_clear (get_or text i 0) ≡ true = λ i m. prefix_len_passes is_clear text i 0 (omega (arith, e, m)) in
    let plain : prefix_len is_plain text ≡ n = prefix_len_is is_plain text n 0 (omega arith) (λ i m. (clear (get_or text i 0) (before i m)).0) (λ m. ends (is_plain (get_or text n 0)) stop) in
    let long : length (take n text) ≡ n = length-take-le n text (omega arith) in
    let inside : (p : ℕ → Bool) → ((x : ℕ) → is_clear x ≡ true → p x ≡ true) → length (take n text) ≡ prefix_len p (take n text) =
    λ p h. sym (prefix_len_is p (take n text) (length (take n text)) 0 (omega arith) (λ i m. let m' : i < n = omega (arith, m, long) in ap p (get_or-take n text i 0 m') ∙ h (get_or text i 0) (before i m')) (λ m. absurd (omega arith))) in (
      a_clear_run text run after n (sym plain) some f g (subst (Lacks (codes "]]>")) (sym f) (lacks_without (take n text) (inside no_bracket (λ x h. (clear x h).1)))),
      subst (λ w. line_ends w ≡ w) (sym f) (lines_end (take n text) (inside not_return (λ x h. (clear x h).2))),
    )

-- and may be cut there
pub cut_after_clear : (text : List ℕ) (n : ℕ) → n < length text → true ≡ not (is_plain (get_or text n 0)) → (n ≤ length text) × (n < length text → 128 ≤ get_or text n 0 → 192 ≤ get_or text n 0)
cut_after_clear text n l stop = (omega (arith, l), λ m k. absurd (omega (arith, k, plain_ascii (get_or text n 0) (ends (is_plain (get_or text n 0)) stop))))
