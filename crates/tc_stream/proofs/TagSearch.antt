-- Where a search finds the end of a tag, or a quote.
use Rattle.std.proofs.Common.{◌≡◌, ℕ, zero, suc, ◌+◌, ◌<◌, Bool, true, false, cond, ◌||◌, ◌==◌, List, [], ◌∷◌, ◌++◌, refl, ap, ◌∙◌, sym, subst, length, take, drop, arith, Option, None, Some, eq-eqb}
use Rattle.std.specs.Prelude.{slice_index}
use Rattle.std.proofs.lemmas.Bool.{true≢false, eqb-true, ne_eqb}
use Rattle.memchr.specs.Find.{IsFirstByte, is_byte, is_byte3}
use Rattle.std.specs.Cmp.Lexicographic.{bytes_decides}
use Rattle.tc_model.specs.XmlTextBytes.{Lacks, length_before, begins_with}
use Rattle.tc_model.proofs.XmlTextPhrases.{same_first}
use Rattle.tc_stream.specs.Scans.{ended, quoted, tag_scan}
use Rattle.tc_stream.specs.TagEnds.{TellsTag, TellsEndTag}
use Rattle.tc_stream.specs.declared.tag_ends.TagEnd.TheVariants as ends

-- within quotes

within_at : (q : ℕ) (bs : List ℕ) (n : ℕ) → n < length bs → ((k : ℕ) → k < n → (slice_index bs k == q) ≡ true → ⊥) → (slice_index bs n == q) ≡ true
    → (tag_scan (Some q) bs ≡ tag_scan None (drop (suc n) bs)) × (tag_scan (Some q) (take (suc n) bs) ≡ quoted None)
within_at q [] n l h e = absurd (omega (arith, l))
within_at q (b ∷ bs) zero l h e = (ap (λ x. cond x (tag_scan None bs) (tag_scan (Some q) bs)) e, ap (λ x. cond x (tag_scan None []) (tag_scan (Some q) [])) e)
within_at q (b ∷ bs) (suc n) l h e =
    let rest = within_at q bs n (omega (arith, l)) (λ k m. h (suc k) (omega arith)) e in
    (over (b == q) (h 0 (omega arith)) bs ∙ rest.0, over (b == q) (h 0 (omega arith)) (take (suc n) bs) ∙ rest.1)
  where
    over : (x : Bool) → (x ≡ true → ⊥) → (w : List ℕ) → cond x (tag_scan None w) (tag_scan (Some q) w) ≡ tag_scan (Some q) w
    over true never w = absurd (never refl)
    over false never w = refl

within_none : (q : ℕ) (bs : List ℕ) → ((k : ℕ) → k < length bs → (slice_index bs k == q) ≡ true → ⊥) → tag_scan (Some q) bs ≡ quoted (Some q)
within_none q [] h = refl
within_none q (b ∷ bs) h = over (b == q) (h 0 (omega arith)) ∙ within_none q bs (λ k m. h (suc k) (omega arith))
  where
    over : (x : Bool) → (x ≡ true → ⊥) → cond x (tag_scan None bs) (tag_scan (Some q) bs) ≡ tag_scan (Some q) bs
    over true never = absurd (never refl)
    over false never = refl

-- out of quotes

over_plain : (b : ℕ) (w : List ℕ) → (is_byte3 0x22 0x27 0x3E b ≡ true → ⊥) → tag_scan None (b ∷ w) ≡ tag_scan None w
over_plain b w never = by (b == 0x22) (b == 0x27) (b == 0x3E) never
  where
    by : (x y z : Bool) → ((x || y || z) ≡ true → ⊥) → cond z (ended w) (cond x (tag_scan (Some b) w) (cond y (tag_scan (Some b) w) (tag_scan None w))) ≡ tag_scan None w
    by true y z k = absurd (k refl)
    by false true z k = absurd (k refl)
    by false false true k = absurd (k refl)
    by false false false k = refl

at_end : (b : ℕ) (w : List ℕ) → b ≡ 0x3E → tag_scan None (b ∷ w) ≡ ended w
at_end b w e = ap (λ x. cond x (ended w) (cond (b == 0x22) (tag_scan (Some b) w) (cond (b == 0x27) (tag_scan (Some b) w) (tag_scan None w)))) (eq-eqb b 0x3E e)

at_quote : (b : ℕ) (w : List ℕ) → is_byte3 0x22 0x27 0x3E b ≡ true → (b ≡ 0x3E → ⊥) → tag_scan None (b ∷ w) ≡ tag_scan (Some b) w
at_quote b w h never = ap (λ x. cond x (ended w) (cond (b == 0x22) (tag_scan (Some b) w) (cond (b == 0x27) (tag_scan (Some b) w) (tag_scan None w)))) (ne_eqb b 0x3E never) ∙ by (b == 0x22) (b == 0x27) (b == 0x3E) h (ne_eqb b 0x3E never)
  where
    by : (x y z : Bool) → (x || y || z) ≡ true → z ≡ false → cond x (tag_scan (Some b) w) (cond y (tag_scan (Some b) w) (tag_scan None w)) ≡ tag_scan (Some b) w
    by true y z k n = refl
    by false true z k n = refl
    by false false z k n = absurd (true≢false (sym k ∙ n))

-- up to the first mark, and what stands there
record First (bs : List ℕ) (n : ℕ) : Type 0 where
  mark : ℕ
  rest : List ℕ
  here : slice_index bs n ≡ mark
  behind : drop (suc n) bs ≡ rest
  scans : tag_scan None bs ≡ tag_scan None (mark ∷ rest)
  front : tag_scan None (take (suc n) bs) ≡ tag_scan None (mark ∷ [])

first_mark : (bs : List ℕ) (n : ℕ) → n < length bs → ((k : ℕ) → k < n → is_byte3 0x22 0x27 0x3E (slice_index bs k) ≡ true → ⊥) → First bs n
first_mark [] n l h = absurd (omega (arith, l))
first_mark (b ∷ bs) zero l h = record { mark = b; rest = bs; here = refl; behind = refl; scans = refl; front = refl }
first_mark (b ∷ bs) (suc n) l h =
    let f = first_mark bs n (omega (arith, l)) (λ k m. h (suc k) (omega arith)) in
    record {
      mark = f.mark;
      rest = f.rest;
      here = f.here;
      behind = f.behind;
      scans = over_plain b bs (h 0 (omega arith)) ∙ f.scans;
      front = over_plain b (take (suc n) bs) (h 0 (omega arith)) ∙ f.front;
    }

none_out : (bs : List ℕ) → ((k : ℕ) → k < length bs → is_byte3 0x22 0x27 0x3E (slice_index bs k) ≡ true → ⊥) → tag_scan None bs ≡ quoted None
none_out [] h = refl
none_out (b ∷ bs) h = over_plain b bs (h 0 (omega arith)) ∙ none_out bs (λ k m. h (suc k) (omega arith))

-- as the searches answer

next_is : (n : ℕ) → suc n ≡ n + 1
next_is n = omega arith

pub quote_found : (q : ℕ) (bs : List ℕ) (r : Option ℕ) (n : ℕ) → IsFirstByte (is_byte q) bs r → r ≡ Some n → TellsTag (Some q) bs (ends.Quoted None (n + 1))
quote_found q bs r n f is =
    let g = subst (λ o. IsFirstByte (is_byte q) bs o) is f in
    let low : n < length bs = g.0.high in
    let w = within_at q bs n low (λ k m. g.0.before k (omega arith) m) g.1 in
    (omega arith, omega (arith, low), w.0 ∙ ap (λ k. tag_scan None (drop k bs)) (next_is n), sym (ap (λ k. tag_scan (Some q) (take k bs)) (next_is n)) ∙ w.1)

pub quote_none : (q : ℕ) (bs : List ℕ) (r : Option ℕ) → IsFirstByte (is_byte q) bs r → r ≡ None → TellsTag (Some q) bs ends.Open
quote_none q bs r f is = let g = subst (λ o. IsFirstByte (is_byte q) bs o) is f in within_none q bs (λ k m. g k (omega arith) m)

pub end_found : (bs : List ℕ) (r : Option ℕ) (n : ℕ) → IsFirstByte (is_byte3 0x22 0x27 0x3E) bs r → r ≡ Some n → slice_index bs n ≡ 0x3E → TellsTag None bs (ends.Behind (n + 1))
end_found bs r n f is e =
    let g = subst (λ o. IsFirstByte (is_byte3 0x22 0x27 0x3E) bs o) is f in
    let low : n < length bs = g.0.high in
    let w = first_mark bs n low (λ k m. g.0.before k (omega arith) m) in
    let mark : w.mark ≡ 0x3E = sym w.here ∙ e in (
      omega arith,
      omega (arith, low),
      w.scans ∙ (at_end w.mark w.rest mark ∙ ap ended (sym w.behind ∙ ap (λ k. drop k bs) (next_is n))),
      sym (ap (λ k. tag_scan None (take k bs)) (next_is n)) ∙ (w.front ∙ at_end w.mark [] mark),
    )

pub begins_quote : (bs : List ℕ) (r : Option ℕ) (n : ℕ) → IsFirstByte (is_byte3 0x22 0x27 0x3E) bs r → r ≡ Some n → (slice_index bs n ≡ 0x3E → ⊥) → TellsTag None bs (ends.Quoted (Some (slice_index bs n)) (n + 1))
begins_quote bs r n f is never =
    let g = subst (λ o. IsFirstByte (is_byte3 0x22 0x27 0x3E) bs o) is f in
    let low : n < length bs = g.0.high in
    let w = first_mark bs n low (λ k m. g.0.before k (omega arith) m) in
    let passes : is_byte3 0x22 0x27 0x3E w.mark ≡ true = subst (λ b. is_byte3 0x22 0x27 0x3E b ≡ true) w.here g.1 in
    let other : w.mark ≡ 0x3E → ⊥ = λ e. never (w.here ∙ e) in (
      omega arith,
      omega (arith, low),
      w.scans ∙ (at_quote w.mark w.rest passes other ∙ (ap (λ b. tag_scan (Some b) w.rest) (sym w.here) ∙ ap (tag_scan (Some (slice_index bs n))) (sym w.behind ∙ ap (λ k. drop k bs) (next_is n)))),
      sym (ap (λ k. tag_scan None (take k bs)) (next_is n)) ∙ (w.front ∙ (at_quote w.mark [] passes other ∙ ap (λ b. quoted (Some b)) (sym w.here))),
    )

pub no_mark : (bs : List ℕ) (r : Option ℕ) → IsFirstByte (is_byte3 0x22 0x27 0x3E) bs r → r ≡ None → TellsTag None bs ends.Open
no_mark bs r f is = let g = subst (λ o. IsFirstByte (is_byte3 0x22 0x27 0x3E) bs o) is f in none_out bs (λ k m. g k (omega arith) m)

-- end tags

pub lacks_one : (b : ℕ) (bs : List ℕ) → ((b == 0x3E) ≡ true → ⊥) → Lacks (0x3E ∷ []) bs → Lacks (0x3E ∷ []) (b ∷ bs)
lacks_one b bs never l = ap (λ x. cond x 0 (1 + length_before (0x3E ∷ []) bs)) (not_begun (begins_with (0x3E ∷ []) (b ∷ bs)) refl) ∙ omega (arith, l)
  where
    not_begun : (x : Bool) → begins_with (0x3E ∷ []) (b ∷ bs) ≡ x → begins_with (0x3E ∷ []) (b ∷ bs) ≡ false
    not_begun false e = e
    not_begun true e = absurd (never (eq-eqb b 0x3E (sym (same_first ((bytes_decides (0x3E ∷ []) (take 1 (b ∷ bs))).0 e)))))

pub all_lack : (bs : List ℕ) → ((k : ℕ) → k < length bs → (slice_index bs k == 0x3E) ≡ true → ⊥) → Lacks (0x3E ∷ []) bs
all_lack [] h = refl
all_lack (b ∷ bs) h = lacks_one b bs (h 0 (omega arith)) (all_lack bs (λ k m. h (suc k) (omega arith)))

end_at : (bs : List ℕ) (n : ℕ) → n < length bs → ((k : ℕ) → k < n → (slice_index bs k == 0x3E) ≡ true → ⊥) → (slice_index bs n == 0x3E) ≡ true
    → (front : List ℕ) × (take (suc n) bs ≡ front ++ 0x3E ∷ []) × Lacks (0x3E ∷ []) front
end_at [] n l h e = absurd (omega (arith, l))
end_at (b ∷ bs) zero l h e = ([], ap (λ w. w ∷ []) (eqb-true b 0x3E e), refl)
end_at (b ∷ bs) (suc n) l h e =
    let (front, is, lacks) = end_at bs n (omega (arith, l)) (λ k m. h (suc k) (omega arith)) e in
    (b ∷ front, ap (λ w. b ∷ w) is, lacks_one b front (h 0 (omega arith)) lacks)

pub end_tag_found : (bs : List ℕ) (r : Option ℕ) (n : ℕ) → IsFirstByte (is_byte 0x3E) bs r → r ≡ Some n → TellsEndTag bs (Some (n + 1))
end_tag_found bs r n f is =
    let g = subst (λ o. IsFirstByte (is_byte 0x3E) bs o) is f in
    let low : n < length bs = g.0.high in
    let (front, at, lacks) = end_at bs n low (λ k m. g.0.before k (omega arith) m) g.1 in
    (front, sym (ap (λ k. take k bs) (next_is n)) ∙ at, lacks, omega arith, omega (arith, low))

pub end_tag_none : (bs : List ℕ) (r : Option ℕ) → IsFirstByte (is_byte 0x3E) bs r → r ≡ None → TellsEndTag bs None
end_tag_none bs r f is = let g = subst (λ o. IsFirstByte (is_byte 0x3E) bs o) is f in all_lack bs (λ k m. g k (omega arith) m)
