-- Trees that are taken piece by piece: what is written of them is the text of their normal form.
use Rattle.std.proofs.Common.{◌≡◌, ℕ, List, [], ◌++◌, append_assoc, append-nil, codes, refl, sym, ap, ◌∙◌, subst, Bool, true, false, ◌&&◌, cond, if◌then◌else◌}
use Rattle.std.specs.List.{flat_map, list_all}
use Rattle.std.proofs.lemmas.Grind.{flat_map-append}
use Rattle.std.proofs.lemmas.List.Folds.{list_all-append}
use Rattle.tc_base.specs.Characters.{is_white}
use Rattle.tc_model.specs.Names.{ExpandedName}
use Rattle.tc_model.specs.Trees.{Trees, none, text, element, beside, is_white_space_only, joined_to, joined, kept, dropped, normal_form}
use Rattle.tc_model.specs.Printed.{escaped_in_text, tag_name, default_within, is_none, printed_in, printed}
use Rattle.tc_model.proofs.NormalForm.{dropped_empty, joined_twice}
use Rattle.tc_print.specs.Pieces.{begun_tag, end_tag}
use Rattle.tc_print.specs.Writing.{Written, nothing_written, tag_closed, with_first, with_text_at, with_text, with_start, element_closed, with_end, with_trees}
use Rattle.tc_print.specs.declared.writer.Spot.{Spot}
use Rattle.tc_print.specs.declared.writer.Spot.TheVariants.{InTag, InText, Between}
use Rattle.tc_print.proofs.Trees.{content}

pub written_in_turn : (w : Written) (a b : Trees) → with_trees w (beside a b) ≡ with_trees (with_trees w a) b
written_in_turn w none b = refl
written_in_turn w (text s rest) b = written_in_turn (with_text s w) rest b
written_in_turn w (element n kids rest) b = written_in_turn (with_end n w.default (with_trees (with_start n w) kids)) rest b

abbrev escapes : List ℕ → List ℕ
escapes s = flat_map escaped_in_text s

escapes_both : (s t : List ℕ) → escapes (s ++ t) ≡ escapes s ++ escapes t
escapes_both s t = flat_map-append escaped_in_text s t

-- joined trees behind a text: a text goes on
abbrev going_on : List ℕ → Trees → List ℕ
going_on d none = []
going_on d (text t rest) = escapes t ++ printed_in d (dropped rest)
going_on d (element n kids rest) = printed_in d (dropped (element n kids rest))

-- what is to be written of joined trees, behind white space that is held back
abbrev to_come : Spot → List ℕ → List ℕ → Trees → List ℕ
to_come InText d white j = going_on d j
to_come InTag d white j = printed_in d (dropped (joined_to white j))
to_come Between d white j = printed_in d (dropped (joined_to white j))

-- the end of a start tag, if anything stands in the element; and the end of the element
abbrev tag_open : Spot → Trees → List ℕ
tag_open InTag k = if is_none k then [] else codes ">"
tag_open InText k = []
tag_open Between k = []

abbrev ends_with : Spot → Trees → ExpandedName → List ℕ
ends_with InTag k n = if is_none k then codes "/>" else end_tag n
ends_with InText k n = end_tag n
ends_with Between k n = end_tag n

-- what is written of trees from a place on
record Level (b white : List ℕ) (spot : Spot) (d : List ℕ) (h : Trees) (after : Written) : Type 0 where
  bytes : after.bytes ≡ b ++ (tag_open spot (dropped (joined_to white (joined h))) ++ to_come spot d white (joined h))
  end : (n : ExpandedName) → element_closed after.spot n ≡ ends_with spot (dropped (joined_to white (joined h))) n

kept_white : (s : List ℕ) (h : Trees) → is_white_space_only s ≡ true → kept s h ≡ h
kept_white s h e = ap (λ b. cond b h (text s h)) e

kept_other : (s : List ℕ) (h : Trees) → is_white_space_only s ≡ false → kept s h ≡ text s h
kept_other s h e = ap (λ b. cond b h (text s h)) e

white_both : (s t : List ℕ) → is_white_space_only s ≡ true → is_white_space_only t ≡ true → is_white_space_only (s ++ t) ≡ true
white_both s t e f = list_all-append is_white s t ∙ (ap (λ x. x && is_white_space_only t) e ∙ f)

other_second : (s t : List ℕ) → is_white_space_only s ≡ true → is_white_space_only t ≡ false → is_white_space_only (s ++ t) ≡ false
other_second s t e f = list_all-append is_white s t ∙ (ap (λ x. x && is_white_space_only t) e ∙ f)

other_first : (s t : List ℕ) → is_white_space_only s ≡ false → is_white_space_only (s ++ t) ≡ false
other_first s t e = list_all-append is_white s t ∙ ap (λ x. x && is_white_space_only t) e

-- a text behind a text
text_on : (d s : List ℕ) (j : Trees) → going_on d (joined_to s j) ≡ escapes s ++ going_on d j
text_on d s none = refl
text_on d s (text t rest) = ap (λ w. w ++ printed_in d (dropped rest)) (escapes_both s t) ∙ append_assoc (escapes s) (escapes t) (printed_in d (dropped rest))
text_on d s (element n kids rest) = refl

-- a text that isn't white space alone before trees
text_other : (u : List ℕ) (j : Trees) → is_white_space_only u ≡ false → (rest : Trees) × (t : List ℕ) × (dropped (joined_to u j) ≡ text t rest) × ((d : List ℕ) → escapes t ++ printed_in d rest ≡ escapes u ++ going_on d j)
text_other u none e = (none, u, kept_other u none e, λ d. refl)
text_other u (text t rest) e =
    (dropped rest, u ++ t, kept_other (u ++ t) (dropped rest) (other_first u t e), λ d. ap (λ w. w ++ printed_in d (dropped rest)) (escapes_both u t) ∙ append_assoc (escapes u) (escapes t) (printed_in d (dropped rest)))
text_other u (element n kids rest) e = (dropped (element n kids rest), u, kept_other u (dropped (element n kids rest)) e, λ d. refl)

-- an element before trees
element_kept : (white : List ℕ) (n : ExpandedName) (kids rest : Trees) → is_white_space_only white ≡ true
    → dropped (joined_to white (joined (element n kids rest))) ≡ element n (normal_form kids) (normal_form rest)
element_kept white n kids rest e = kept_white white (element n (normal_form kids) (normal_form rest)) e

-- what stands in an element, and its end
filled : (d : List ℕ) (n : ExpandedName) (k : Trees) → (tag_open InTag k ++ printed_in (default_within d n) k) ++ ends_with InTag k n ≡ content d n k
filled d n none = refl
filled d n (text s rest) =
    let begun = codes ">" ++ printed_in (default_within d n) (text s rest) in
    sym (append_assoc (begun ++ codes "</") (tag_name n) (codes ">") ∙ append_assoc begun (codes "</") (tag_name n ++ codes ">") ∙ ap (λ w. begun ++ w) (sym (append_assoc (codes "</") (tag_name n) (codes ">"))))
filled d n (element m kids rest) =
    let begun = codes ">" ++ printed_in (default_within d n) (element m kids rest) in
    sym (append_assoc (begun ++ codes "</") (tag_name n) (codes ">") ∙ append_assoc begun (codes "</") (tag_name n ++ codes ">") ∙ ap (λ w. begun ++ w) (sym (append_assoc (codes "</") (tag_name n) (codes ">"))))

six : (b c start inside end rest : List ℕ) → b ++ c ++ start ++ inside ++ end ++ rest ≡ b ++ (c ++ (start ++ (inside ++ end) ++ rest))
six b c start inside end rest = simp append_assoc

behind : (b c x y : List ℕ) → b ++ c ++ x ++ y ≡ b ++ (c ++ (x ++ y))
behind b c x y = simp append_assoc

-- an element, after what stands in it and beside it is written
element_written : (b white : List ℕ) (spot : Spot) (d : List ℕ) (n : ExpandedName) (kids rest : Trees) (inner after : Written)
    → Level (b ++ tag_closed spot ++ begun_tag d n) [] InTag (default_within d n) kids inner
    → Level (inner.bytes ++ element_closed inner.spot n) [] Between d rest after
    → after.bytes ≡ b ++ (tag_closed spot ++ printed_in d (element n (normal_form kids) (normal_form rest)))
element_written b white spot d n kids rest inner after k r =
    let dw = default_within d n in
    let start = begun_tag d n in
    let all = normal_form kids in
    let same_kids : dropped (joined_to [] (joined kids)) ≡ all = dropped_empty (joined kids) in
    let inside = tag_open InTag all ++ printed_in dw all in
    let inner_is : inner.bytes ≡ b ++ tag_closed spot ++ start ++ inside =
    k.bytes ∙ ap (λ j. b ++ tag_closed spot ++ start ++ (tag_open InTag j ++ printed_in dw j)) same_kids in
    let end_is : element_closed inner.spot n ≡ ends_with InTag all n = k.end n ∙ ap (λ j. ends_with InTag j n) same_kids in
    r.bytes
    ∙ (ap (λ j. inner.bytes ++ element_closed inner.spot n ++ printed_in d j) (dropped_empty (joined rest))
    ∙ (ap (λ w. w ++ element_closed inner.spot n ++ printed_in d (normal_form rest)) inner_is
    ∙ (ap (λ w. b ++ tag_closed spot ++ start ++ inside ++ w ++ printed_in d (normal_form rest)) end_is
    ∙ (six b (tag_closed spot) start inside (ends_with InTag all n) (printed_in d (normal_form rest))
    ∙ ap (λ w. b ++ (tag_closed spot ++ (start ++ w ++ printed_in d (normal_form rest)))) (filled d n all)))))

no_tree : (b white : List ℕ) (spot : Spot) (d : List ℕ) → is_white_space_only white ≡ true → Level b white spot d none (record { bytes = b; white = white; spot = spot; default = d })
no_tree b white InTag d e =
    let same = kept_white white none e in
    record {
      bytes = sym (ap (λ j. b ++ (tag_open InTag j ++ printed_in d j)) same ∙ append-nil b);
      end = λ n. sym (ap (λ j. ends_with InTag j n) same);
    }
no_tree b white InText d e = record { bytes = sym (append-nil b); end = λ n. refl }
no_tree b white Between d e =
    let same = kept_white white none e in
    record { bytes = sym (ap (λ j. b ++ printed_in d j) same ∙ append-nil b); end = λ n. refl }

-- a text that begins a run, or goes on with white space
module _ (b white d s : List ℕ) (rest : Trees) (e : is_white_space_only white ≡ true) where
  text_in_tag : (x : Bool) → is_white_space_only s ≡ x
      → (is_white_space_only (white ++ s) ≡ true → Level b (white ++ s) InTag d rest (with_trees (record { bytes = b; white = white ++ s; spot = InTag; default = d }) rest))
      → Level (b ++ codes ">" ++ escapes (white ++ s)) [] InText d rest (with_trees (record { bytes = b ++ codes ">" ++ escapes (white ++ s); white = []; spot = InText; default = d }) rest)
      → Level b white InTag d (text s rest) (with_trees (with_first x s (record { bytes = b; white = white; spot = InTag; default = d })) rest)
  text_in_tag true f more text_on =
      let r = more (white_both white s e f) in
      let same = sym (joined_twice white s (joined rest)) in
      record {
        bytes = r.bytes ∙ ap (λ j. b ++ (tag_open InTag (dropped j) ++ printed_in d (dropped j))) same;
        end = λ n. r.end n ∙ ap (λ j. ends_with InTag (dropped j) n) same;
      }
  text_in_tag false f more r =
      let (after, t, is, shown) = text_other (white ++ s) (joined rest) (other_second white s e f) in
      let same : dropped (joined_to white (joined (text s rest))) ≡ text t after = ap dropped (joined_twice white s (joined rest)) ∙ is in
      record {
        bytes =
            r.bytes
            ∙ (behind b (codes ">") (escapes (white ++ s)) (going_on d (joined rest))
            ∙ (ap (λ x. b ++ (codes ">" ++ x)) (sym (shown d))
            ∙ ap (λ k. b ++ (tag_open InTag k ++ printed_in d k)) (sym same)));
        end = λ n. r.end n ∙ ap (λ k. ends_with InTag k n) (sym same);
      }

  text_between : (x : Bool) → is_white_space_only s ≡ x
      → (is_white_space_only (white ++ s) ≡ true → Level b (white ++ s) Between d rest (with_trees (record { bytes = b; white = white ++ s; spot = Between; default = d }) rest))
      → Level (b ++ [] ++ escapes (white ++ s)) [] InText d rest (with_trees (record { bytes = b ++ [] ++ escapes (white ++ s); white = []; spot = InText; default = d }) rest)
      → Level b white Between d (text s rest) (with_trees (with_first x s (record { bytes = b; white = white; spot = Between; default = d })) rest)
  text_between true f more text_on =
      let r = more (white_both white s e f) in
      record {
        bytes = r.bytes ∙ ap (λ j. b ++ printed_in d (dropped j)) (sym (joined_twice white s (joined rest)));
        end = r.end;
      }
  text_between false f more r =
      let (after, t, is, shown) = text_other (white ++ s) (joined rest) (other_second white s e f) in
      let same : dropped (joined_to white (joined (text s rest))) ≡ text t after = ap dropped (joined_twice white s (joined rest)) ∙ is in
      record {
        bytes =
            r.bytes
            ∙ (behind b [] (escapes (white ++ s)) (going_on d (joined rest))
            ∙ (ap (λ x. b ++ x) (sym (shown d))
            ∙ ap (λ k. b ++ printed_in d k) (sym same)));
        end = r.end;
      }

level : (h : Trees) (b white : List ℕ) (spot : Spot) (d : List ℕ) → is_white_space_only white ≡ true
    → Level b white spot d h (with_trees (record { bytes = b; white = white; spot = spot; default = d }) h)
level none b white spot d e = no_tree b white spot d e
level (text s rest) b white InText d e =
    let r = level rest (b ++ escapes s) white InText d e in
    record {
      bytes = r.bytes ∙ (append_assoc b (escapes s) (going_on d (joined rest)) ∙ ap (λ w. b ++ w) (sym (text_on d s (joined rest))));
      end = r.end;
    }
level (text s rest) b white InTag d e = text_in_tag b white d s rest e (is_white_space_only s) refl (level rest b (white ++ s) InTag d) (level rest (b ++ codes ">" ++ escapes (white ++ s)) [] InText d refl)
level (text s rest) b white Between d e = text_between b white d s rest e (is_white_space_only s) refl (level rest b (white ++ s) Between d) (level rest (b ++ [] ++ escapes (white ++ s)) [] InText d refl)
level (element n kids rest) b white InTag d e =
    let inner = with_trees (record { bytes = b ++ codes ">" ++ begun_tag d n; white = []; spot = InTag; default = default_within d n }) kids in
    let k = level kids (b ++ codes ">" ++ begun_tag d n) [] InTag (default_within d n) refl in
    let r = level rest (inner.bytes ++ element_closed inner.spot n) [] Between d refl in
    let same = sym (element_kept white n kids rest e) in
    record {
      bytes = element_written b white InTag d n kids rest inner _ k r ∙ ap (λ j. b ++ (tag_open InTag j ++ printed_in d j)) same;
      end = λ m. r.end m ∙ ap (λ j. ends_with InTag j m) same;
    }
level (element n kids rest) b white InText d e =
    let inner = with_trees (record { bytes = b ++ [] ++ begun_tag d n; white = []; spot = InTag; default = default_within d n }) kids in
    let k = level kids (b ++ [] ++ begun_tag d n) [] InTag (default_within d n) refl in
    let r = level rest (inner.bytes ++ element_closed inner.spot n) [] Between d refl in
    record { bytes = element_written b white InText d n kids rest inner _ k r; end = r.end }
level (element n kids rest) b white Between d e =
    let inner = with_trees (record { bytes = b ++ [] ++ begun_tag d n; white = []; spot = InTag; default = default_within d n }) kids in
    let k = level kids (b ++ [] ++ begun_tag d n) [] InTag (default_within d n) refl in
    let r = level rest (inner.bytes ++ element_closed inner.spot n) [] Between d refl in
    record {
      bytes = element_written b white Between d n kids rest inner _ k r ∙ ap (λ j. b ++ printed_in d j) (sym (element_kept white n kids rest e));
      end = r.end;
    }

pub normal_form_written : (h : Trees) → (with_trees nothing_written h).bytes ≡ printed (normal_form h)
normal_form_written h = (level h [] [] Between [] refl).bytes ∙ ap (printed_in []) (dropped_empty (joined h))
