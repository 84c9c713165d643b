-- Character data that ends before a mark, and such as can't go on; references to other entities.
use Rattle.std.proofs.Common.{◌≡◌, ℕ, suc, ◌<◌, ◌+◌, Bool, true, false, cond, List, [], ◌∷◌, ◌++◌, refl, ap, ◌∙◌, sym, subst, length, take, drop, arith, codes, length-append, length-drop, take-append-drop}
use Rattle.std.specs.Prelude.{◌↔◌}
use Rattle.std.specs.List.{prefix_len, list_all}
use Rattle.std.specs.Cmp.Lexicographic.{bytes_decides}
use Rattle.std.proofs.Math.Seq.{take-append_seam, drop-append_seam, take-append-add}
use Rattle.std.proofs.lemmas.Bool.{and_parts}
use Rattle.tc_base.specs.declared.reasons.Why.TheVariants.{EntityReference}
use Rattle.tc_model.specs.RawTrees.{Bound}
use Rattle.tc_model.specs.XmlTextBytes.{RunAt, Lacks, begins_with, length_before, line_ends, place_of}
use Rattle.tc_model.specs.XmlTextReferences.{is_plain, CharacterDataAt}
use Rattle.tc_model.specs.XmlTextRefusals.{unsupported, OtherEntityAt}
use Rattle.tc_model.proofs.XmlTextPhrases.{character_data_unique}
use Rattle.tc_model.proofs.XmlTextUnique.{character_data_kind, reference_kind}
use Rattle.tc_model.proofs.XmlTextRefused.{as_reference, other_no_reference}
use Rattle.tc_stream.specs.Outcomes.{Outcome, refused}
use Rattle.tc_stream.specs.Goes.{Level, Goes, characters, entity}
use Rattle.tc_stream.specs.Scans.{before, going, cdata_scan}
use Rattle.tc_stream.proofs.OneOutcome.{AtText, words, at_text, AtReference, refers, strange, at_reference}
use Rattle.tc_stream.proofs.ScanLaws.{Found, found_more, then_scan, cdata_more, cdata_exact}

one_more : (n : ℕ) → 1 + n ≡ suc n
one_more n = omega arith

-- a mark stands nowhere or somewhere

lacks_unless : (mark bs : List ℕ) → ((after : List ℕ) → Found mark bs after → ⊥) → Lacks mark bs
lacks_unless mark [] none = refl
lacks_unless mark (b ∷ bs) none = by (begins_with mark (b ∷ bs)) refl (λ h. lacks_unless mark bs h)
  where
    by : (x : Bool) → begins_with mark (b ∷ bs) ≡ x → (((after : List ℕ) → Found mark bs after → ⊥) → Lacks mark bs) → length_before mark (b ∷ bs) ≡ suc (length bs)
    by true e later =
        let front : mark ≡ take (length mark) (b ∷ bs) = (bytes_decides mark (take (length mark) (b ∷ bs))).0 e in
        let whole : b ∷ bs ≡ mark ++ drop (length mark) (b ∷ bs) = sym (take-append-drop (length mark) (b ∷ bs)) ∙ ap (λ w. w ++ drop (length mark) (b ∷ bs)) (sym front) in
        absurd (none (drop (length mark) (b ∷ bs)) (record { is = ap (λ x. drop (cond x 0 (1 + length_before mark bs)) (b ∷ bs)) e ∙ whole }))
    by false e later =
        let behind : Lacks mark bs = later (λ after f. none after (found_more b (record { other = e }) f)) in
        ap (λ x. cond x 0 (1 + length_before mark bs)) e ∙ (ap (λ n. 1 + n) behind ∙ one_more (length bs))

found_not_lacks : (m : ℕ) (mark bs after : List ℕ) → Found (m ∷ mark) bs after → Lacks (m ∷ mark) bs → ⊥
found_not_lacks m mark bs after f h =
    omega (arith, ap length f.is, length-append mark after, length-drop (length_before (m ∷ mark) bs) bs, h)

-- a run of plain bytes up to one that isn't plain, or to the end

abbrev pub StopsRun : List ℕ → Type 0
StopsRun [] = Unit {0}
StopsRun (b ∷ bs) = is_plain b ≡ false

plain_length : (w f : List ℕ) → list_all is_plain w ≡ true → StopsRun f → prefix_len is_plain (w ++ f) ≡ length w
plain_length [] [] h s = refl
plain_length [] (b ∷ f) h s = ap (λ x. cond x (1 + prefix_len is_plain f) 0) s
plain_length (b ∷ w) f h s =
    let both = and_parts (is_plain b) (list_all is_plain w) h in
    ap (λ x. cond x (1 + prefix_len is_plain (w ++ f)) 0) both.0 ∙ (ap (λ n. 1 + n) (plain_length w f both.1 s) ∙ one_more (length w))

plain_run : (w f : List ℕ) → 0 < length w → list_all is_plain w ≡ true → StopsRun f → RunAt is_plain (w ++ f) w f
plain_run w f some h s =
    let n = plain_length w f h s in
    record {
      some = subst (λ k. 0 < k) (sym n) some;
      front = sym (ap (λ k. take k (w ++ f)) n ∙ take-append_seam w f);
      back = sym (ap (λ k. drop k (w ++ f)) n ∙ drop-append_seam w f);
    }

-- character data that has ended
pub text_whole : (w f : List ℕ) (k : ℕ) → 0 < length w → list_all is_plain w ≡ true → cdata_scan 0 w ≡ going k → StopsRun f → CharacterDataAt (w ++ f) w f
text_whole w f k some h e s = record { plain = plain_run w f some h s; lacks_end = lacks_unless (codes "]]>") w (λ after found. differ ((cdata_exact w after).1 found)) }
  where
    not_both : {r : List ℕ} → before r ≡ going k → ⊥
    not_both h = cc

    differ : {after : List ℕ} → cdata_scan 0 w ≡ before after → ⊥
    differ g = not_both (sym g ∙ e)

pub over_text : (w : List ℕ) (total : ℕ) (l : Level) (ls : List Level) (scope : List Bound) (run f : List ℕ) (o : Outcome) → CharacterDataAt (w ++ f) w f
    → Goes total (l ∷ ls) scope run (w ++ f) o ↔ Goes total (l ∷ ls) scope (run ++ line_ends w) f o
over_text w total l ls scope run f o a = (λ g. by (at_text (character_data_kind a) g), λ g. characters a g)
  where
    by : AtText total l ls scope run (w ++ f) o → Goes total (l ∷ ls) scope (run ++ line_ends w) f o
    by (words {rest = rest} b g) =
        let same = character_data_unique b a in
        subst (λ z. Goes total (l ∷ ls) scope (run ++ line_ends w) z o) same.1 (subst (λ z. Goes total (l ∷ ls) scope (run ++ line_ends z) rest o) same.0 g)

-- the plain bytes at the front and what of the run follows them
run_behind : (w f : List ℕ) → list_all is_plain w ≡ true → prefix_len is_plain (w ++ f) ≡ length w + prefix_len is_plain f
run_behind [] f h = omega arith
run_behind (b ∷ w) f h =
    let both = and_parts (is_plain b) (list_all is_plain w) h in
    ap (λ x. cond x (1 + prefix_len is_plain (w ++ f)) 0) both.0 ∙ more (prefix_len is_plain (w ++ f)) (length w) (prefix_len is_plain f) (run_behind w f both.1)
  where
    more : (n a b : ℕ) → n ≡ a + b → 1 + n ≡ suc a + b
    more n a b e = omega (arith, e)

-- character data in which the end of a CDATA section stands
pub no_text : (w f run rest found : List ℕ) → list_all is_plain w ≡ true → cdata_scan 0 w ≡ before found → CharacterDataAt (w ++ f) run rest → ⊥
no_text w f run rest found h e a =
    let n = prefix_len is_plain f in
    let is_run : run ≡ w ++ take n f = a.plain.front ∙ (ap (λ k. take k (w ++ f)) (run_behind w f h) ∙ take-append-add w f n) in
    let scanned : cdata_scan 0 (w ++ take n f) ≡ before (found ++ take n f) = cdata_more 0 w (take n f) ∙ ap (λ s. then_scan cdata_scan s (take n f)) e in
    found_not_lacks 0x5D (0x5D ∷ 0x3E ∷ []) (w ++ take n f) (found ++ take n f) ((cdata_exact (w ++ take n f) (found ++ take n f)).0 scanned)
    (subst (Lacks (codes "]]>")) is_run a.lacks_end)

-- a reference to an entity that isn't predefined
pub over_entity : (total : ℕ) (l : Level) (ls : List Level) (scope : List Bound) (run bs : List ℕ) (o : Outcome) → OtherEntityAt bs
    → Goes total (l ∷ ls) scope run bs o ↔ (o ≡ refused (unsupported EntityReference) (place_of total bs))
over_entity total l ls scope run bs o a = (λ g. by (at_reference (reference_kind (as_reference a)) g), λ e. subst (λ z. Goes total (l ∷ ls) scope run bs z) (sym e) (entity a))
  where
    by : AtReference total l ls scope run bs o → o ≡ refused (unsupported EntityReference) (place_of total bs)
    by (refers b g) = absurd (other_no_reference a b)
    by (strange b e) = e
