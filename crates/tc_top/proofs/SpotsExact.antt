-- What is told of the spots of held files is exact.
use Rattle.std.proofs.Common.{◌≡◌, ◌⊎◌, inl, inr, ◌<◌, ◌+◌, ◌∷◌, [], ◌∙◌, refl, sym, ap, subst, ℕ, zero, suc, List, length, map, get_or, All, Contains, Bool, true, false, cond, Option, Some, arith}
use Rattle.std.proofs.lemmas.Bool.{true≢false}
use Rattle.std.proofs.lemmas.List.Sums.{sum_by-cons}
use Rattle.tc_answer.specs.Answers.{Answer, spots, file_limit, cannot_read, status_of, status_by_dead, text_of}
use Rattle.tc_answer.specs.SpotLines.{Use, unused, used, used_large, SpotUse, is_unused, dead_count}
use Rattle.tc_answer.specs.Words.{dead, schema, plain}
use Rattle.tc_answer.specs.declared.status.Status.{Status}
use Rattle.tc_answer.specs.declared.status.Status.TheVariants.{Yes, No, Limit}
use Rattle.tc_answer.proofs.ReadsOnce.{AreHeld, no_file, holds, AreShort, none_long, is_short}
use Rattle.tc_dead.specs.Instantiated.{IsDead}
use Rattle.tc_dead.specs.Spots.{Spot, spots_of}
use Rattle.tc_decide.specs.DeadSpots.{OfEach, KeepSpots, PassSpots}
use Rattle.tc_decide.proofs.Stages.{not_all}
use Rattle.tc_io.specs.Reads.{AreTrue}
use Rattle.tc_io.specs.Sink.{Appended}
use Rattle.tc_io.specs.Store.{Files, Read}
use Rattle.tc_model.specs.Grammars.{Grammar}
use Rattle.tc_model.specs.Sheets.{Sheet}
use Rattle.tc_print.proofs.ReadBack.{read_back}
use Rattle.tc_top.specs.Answers.{IsAnswerTo, told_dead, IsAnswer}
use Rattle.tc_top.specs.DeadFiles.{AsksFiles, AsksShortFiles, WritesSpots, IsTold, IsUnusedSo, IsShownSo, IsReadBack, DecidesSpots}
use Rattle.tc_top.specs.DeadSpots.{IsUse, AreUses, FindsSpots, spots_pass_before_rows, spots_pass_rows, finds_spots, TellsDead}
use Rattle.tc_top.specs.Headline.{IsCutShort}
use Rattle.tc_top.specs.OneAnswer.{IsOfFault}
use Rattle.tc_top.proofs.Exact.{read_all, held_decided}
use Rattle.tc_top.proofs.Headline.{cut_short, deep_within, told_of_file, not_no, not_limit, no_limit, before_rows_lines}
use Rattle.tc_top.proofs.OneSpots.{found_of, not_rows, one_spot_limit}

-- of a list in which none is dead each isn't, and else one is

one_more : (u : SpotUse) (us : List SpotUse) → dead_count (u ∷ us) ≡ cond (is_unused u.found) 1 0 + dead_count us
one_more u us = sum_by-cons (λ (v : SpotUse). cond (is_unused v.found) 1 0) u us

-- a spot of a list, and what is told of it
pub record IsOne (told : List SpotUse) (u : SpotUse) : Type 0 where
  pub place : Contains told u
  pub nobody : is_unused u.found ≡ true

later_one : (u v : SpotUse) (us : List SpotUse) → IsOne us v → IsOne (u ∷ us) v
later_one u v us o = let (k, h, e) = o.place in record { place = (suc k, omega (arith, h), e); nobody = o.nobody }

either_dead : (b : Bool) → (b ≡ true) ⊎ (b ≡ false)
either_dead true = inl refl
either_dead false = inr refl

-- where the first isn't dead, those behind it count
counted_later : (u : SpotUse) (us : List SpotUse) (n : ℕ) → is_unused u.found ≡ false → dead_count (u ∷ us) ≡ n → dead_count us ≡ n
counted_later u us n not e = let whole : dead_count (u ∷ us) ≡ 0 + dead_count us = one_more u us ∙ ap (λ b. cond b 1 0 + dead_count us) not in omega (arith, whole, e)

none_yet : (n : ℕ) → 0 ≡ suc n → ⊥
none_yet n e = omega (arith, e)

one_or_later : (u : SpotUse) (us : List SpotUse) (n : ℕ) → dead_count (u ∷ us) ≡ suc n → (dead_count us ≡ suc n → (v : SpotUse) × IsOne us v) → (is_unused u.found ≡ true) ⊎ (is_unused u.found ≡ false)
    → (v : SpotUse) × IsOne (u ∷ us) v
one_or_later u us n e later (inl is) = (u, record { place = (0, omega arith, refl); nobody = is })
one_or_later u us n e later (inr not) = let (v, one) = later (counted_later u us (suc n) not e) in (v, later_one u v us one)

some_dead : (told : List SpotUse) (n : ℕ) → dead_count told ≡ suc n → (u : SpotUse) × IsOne told u
some_dead [] n e = absurd (none_yet n e)
some_dead (u ∷ us) n e = one_or_later u us n e (λ f. some_dead us n f) (either_dead (is_unused u.found))

abbrev AreUsed : List SpotUse → Type 0
AreUsed told = All (λ u. is_unused u.found ≡ false) told

used_more : (u : SpotUse) (us : List SpotUse) → is_unused u.found ≡ false → AreUsed us → (k : ℕ) (d : SpotUse) → k < length (u ∷ us) → is_unused (get_or (u ∷ us) k d).found ≡ false
used_more u us first later zero d h = first
used_more u us first later (suc k) d h = later k d (omega (arith, h))

none_or_later : (u : SpotUse) (us : List SpotUse) → dead_count (u ∷ us) ≡ 0 → (dead_count us ≡ 0 → AreUsed us) → (is_unused u.found ≡ true) ⊎ (is_unused u.found ≡ false) → AreUsed (u ∷ us)
none_or_later u us e later (inl is) = absurd (let more : 1 + dead_count us ≡ 0 = sym (one_more u us ∙ ap (λ b. cond b 1 0 + dead_count us) is) ∙ e in omega (arith, more))
none_or_later u us e later (inr not) = λ k d h. used_more u us not (later (counted_later u us 0 not e)) k d h

none_dead : (told : List SpotUse) → dead_count told ≡ 0 → AreUsed told
none_dead [] e = λ k d h. absurd (omega (arith, h))
none_dead (u ∷ us) e = none_or_later u us e (λ f. none_dead us f) (either_dead (is_unused u.found))

-- what is so of each spot of a list by what is told of it
by_each : (P : Spot → Type 0) (told : List SpotUse) → All (λ u. P u.spot) told → (p : Spot) → Contains (map (λ u. u.spot) told) p → P p
by_each P [] all p (k, l, e) = absurd (omega (arith, l))
by_each P (u ∷ us) all p (zero, l, e) = subst P e (all 0 u (omega arith))
by_each P (u ∷ us) all p (suc k, l, e) = by_each P us (λ j d h. all (suc j) d (omega (arith, h))) p (k, omega (arith, l), e)

spot_in : (told : List SpotUse) (u : SpotUse) → Contains told u → Contains (map (λ v. v.spot) told) u.spot
spot_in [] u (k, l, e) = absurd (omega (arith, l))
spot_in (v ∷ vs) u (zero, l, e) = (0, omega arith, ap (λ w. w.spot) e)
spot_in (v ∷ vs) u (suc k, l, e) = let (j, h, f) = spot_in vs u (k, omega (arith, l), e) in (suc j, omega (arith, h), f)

so_of_one : (P : SpotUse → Type 0) (told : List SpotUse) (u : SpotUse) → Contains told u → All P told → P u
so_of_one P [] u (k, l, e) all = absurd (omega (arith, l))
so_of_one P (v ∷ vs) u (zero, l, e) all = subst P e (all 0 v (omega arith))
so_of_one P (v ∷ vs) u (suc k, l, e) all = so_of_one P vs u (k, omega (arith, l), e) (λ j d h. all (suc j) d (omega (arith, h)))

weaker : {old new : Option (List ℕ)} {s : Sheet} {P Q : Spot → Use → Type 0} → ((p : Spot) (u : Use) → P p u → Q p u) → WritesSpots old new s P → WritesSpots old new s Q
weaker f w = record { told = w.told; spots = w.spots; each = λ k d h. f _ _ (w.each k d h); written = w.written }

module _ (i : Grammar) (s : Sheet) where
  unused_so : (p : Spot) (u : Use) → IsUse i s p u → IsUnusedSo i s p u
  unused_so p unused h = h
  unused_so p (used document) h = tt
  unused_so p used_large h = tt

  shown_so : (p : Spot) (u : Use) → IsUse i s p u → IsShownSo i s p u
  shown_so p unused h = tt
  shown_so p (used document) h = h.uses
  shown_so p used_large h = h.some

  -- a document that can be shown isn't nested deeper than a text may be
  reads_back : (p : Spot) (u : Use) → IsUse i s p u → IsUse i s p u × IsReadBack u
  reads_back p unused h = (h, tt)
  reads_back p (used document) h = (h, read_back document (record { document = h.uses.0.0; shallow = omega (arith, deep_within document, h.few) }))
  reads_back p used_large h = (h, tt)

  used_not_dead : (p : Spot) (u : Use) → is_unused u ≡ false → IsUse i s p u → IsDead i s p → ⊥
  used_not_dead p unused e h d = true≢false e
  used_not_dead p (used document) e h d = d document h.uses.0 h.uses.1
  used_not_dead p used_large e h d = d h.some.0 h.some.1.0 h.some.1.1

  unused_dead : (p : Spot) (u : Use) → is_unused u ≡ true → IsUse i s p u → IsDead i s p
  unused_dead p unused e h = h
  unused_dead p (used document) e h = absurd (true≢false (sym e))
  unused_dead p used_large e h = absurd (true≢false (sym e))

  none_is_dead : (told : List SpotUse) → AreUses i s told → dead_count told ≡ 0 → OfEach (spots_of s) (λ p. IsDead i s p → ⊥)
  none_is_dead told uses e = λ p c.
      let alive = none_dead told e in
      by_each (λ q. IsDead i s q → ⊥) told (λ k d h. used_not_dead _ _ (alive k d h) (uses.each k d h)) p (subst (λ (ps : List Spot). Contains ps p) (sym uses.spots) c)

  one_is_dead : (told : List SpotUse) (n : ℕ) → AreUses i s told → dead_count told ≡ suc n → (p : Spot) × Contains (spots_of s) p × IsDead i s p
  one_is_dead told n uses e =
      let (u, one) = some_dead told n e in
      (u.spot, subst (λ (ps : List Spot). Contains ps u.spot) uses.spots (spot_in told u one.place), unused_dead u.spot u.found one.nobody (so_of_one (λ v. IsUse i s v.spot v.found) told u one.place uses.each))

  module _ (status : Status) (old new : Option (List ℕ)) where
    writes : (told : List SpotUse) → AreUses i s told → Appended old new (text_of (spots told)) → WritesSpots old new s (IsUse i s)
    writes told uses written = record { told = told; spots = uses.spots; each = uses.each; written = written }

    not_told_limit : IsTold status → status ≡ Limit → ⊥
    not_told_limit (inl e) f = not_limit e f
    not_told_limit (inr e) f = no_limit e f

    is_yes : (told : List SpotUse) → status ≡ Yes → KeepSpots i s (spots_of s) → AreUses i s told → dead_count told ≡ 0 → Appended old new (text_of (spots told)) → DecidesSpots i s status old new
    is_yes told is keeps uses none written = record {
      yes = (λ _. (keeps, none_is_dead told uses none), λ _. is);
      no = (λ e. absurd (not_no is e), λ x. absurd (none_is_dead told uses none x.1.0 x.1.1 x.1.2));
      limit = (λ e. absurd (not_limit is e), λ x. absurd (not_all i s (spots_of s) keeps x.2));
      one = inl is;
      told = λ _. weaker {P = IsUse i s} {Q = λ p u. IsUse i s p u × IsReadBack u} reads_back (writes told uses written);
      before_rows_text = λ kind number p. absurd (not_all i s (spots_of s) keeps p);
      rows_text = λ count number p. absurd (not_all i s (spots_of s) keeps p);
    }

    is_no : (told : List SpotUse) (n : ℕ) → status ≡ No → KeepSpots i s (spots_of s) → AreUses i s told → dead_count told ≡ suc n → Appended old new (text_of (spots told)) → DecidesSpots i s status old new
    is_no told n is keeps uses some written =
        let one = one_is_dead told n uses some in
        record {
          yes = (λ e. absurd (not_no e is), λ x. absurd (x.1 one.0 one.1 one.2));
          no = (λ _. (keeps, one), λ _. is);
          limit = (λ e. absurd (no_limit is e), λ x. absurd (not_all i s (spots_of s) keeps x.2));
          one = inr (inl is);
          told = λ _. weaker {P = IsUse i s} {Q = λ p u. IsUse i s p u × IsReadBack u} reads_back (writes told uses written);
          before_rows_text = λ kind number p. absurd (not_all i s (spots_of s) keeps p);
          rows_text = λ count number p. absurd (not_all i s (spots_of s) keeps p);
        }

    is_told : (told : List SpotUse) (n : ℕ) → dead_count told ≡ n → status ≡ status_by_dead n → KeepSpots i s (spots_of s) → AreUses i s told → Appended old new (text_of (spots told))
        → DecidesSpots i s status old new
    is_told told zero e is keeps uses written = is_yes told is keeps uses e written
    is_told told (suc n) e is keeps uses written = is_no told n is keeps uses e written

    -- what is found decides all
    pub decides : {answer : Answer} → status ≡ status_of answer → Appended old new (text_of answer) → FindsSpots i s answer → DecidesSpots i s status old new
    decides is written (spots_pass_before_rows p) = record {
      yes = (λ e. absurd (not_limit e is), λ x. absurd (not_all i s (spots_of s) x.0 p));
      no = (λ e. absurd (no_limit e is), λ x. absurd (not_all i s (spots_of s) x.0 p));
      limit = (λ _. (_, _, p), λ _. is);
      one = inr (inr is);
      told = λ e. absurd (not_told_limit e is);
      before_rows_text = λ kind number q. before_rows_lines old new (one_spot_limit i s p q) written;
      rows_text = λ count number q. absurd (not_rows i s p q);
    }
    decides is written (spots_pass_rows {count = c} {number = n} p) = record {
      yes = (λ e. absurd (not_limit e is), λ x. absurd (not_all i s (spots_of s) x.0 p));
      no = (λ e. absurd (no_limit e is), λ x. absurd (not_all i s (spots_of s) x.0 p));
      limit = (λ _. (_, _, p), λ _. is);
      one = inr (inr is);
      told = λ e. absurd (not_told_limit e is);
      before_rows_text = λ kind number q. absurd (not_rows i s q p);
      rows_text = λ count number q. (c, n, p, written);
    }
    decides is written (finds_spots {told = told} keeps uses) = is_told told (dead_count told) refl is keeps uses written

    -- where it is yes or no, spots are told of
    found_told : {answer : Answer} → status ≡ status_of answer → IsTold status → Appended old new (text_of answer) → FindsSpots i s answer → WritesSpots old new s (IsUse i s)
    found_told is told written (spots_pass_before_rows p) = absurd (not_told_limit told is)
    found_told is told written (spots_pass_rows p) = absurd (not_told_limit told is)
    found_told is told written (finds_spots {told = all} keeps uses) = writes all uses written

tells_of : {input sheet b d : List ℕ} {answer : Answer} → IsAnswerTo (dead input sheet) (b ∷ d ∷ []) answer → TellsDead input sheet b d answer
tells_of (told_dead x) = x

files_of : {words : List (List ℕ)} {files : Files} {i : Grammar} {s : Sheet} (c : AsksFiles words files i s) → AreHeld files (schema c.input ∷ plain c.sheet ∷ []) (c.input_text ∷ c.sheet_text ∷ [])
files_of c = holds c.input_held (holds c.sheet_held no_file)

told_status : (status : Status) (answer : Answer) → status ≡ status_of answer → IsTold status → (status_of answer ≡ Yes) ⊎ (status_of answer ≡ No)
told_status status answer is (inl e) = inl (sym is ∙ e)
told_status status answer is (inr e) = inr (sym is ∙ e)

module _ {words : List (List ℕ)} {reads : List Read} (files : Files) (i : Grammar) (s : Sheet) (status : Status) (old new : Option (List ℕ)) (answer : Answer) where
  -- what is told of held files
  told_of_files : (rose : Type 0) (c : AsksFiles words files i s) → AreTrue (Some files) rose reads → IsAnswer words reads answer → status ≡ status_of answer → Appended old new (text_of answer) → IsTold status
      → WritesSpots old new s (IsUse i s)
  told_of_files rose c so right is written told = by (held_decided rose files _ c.words_are (files_of c) so right)
    where
      by : IsAnswerTo (dead c.input c.sheet) (c.input_text ∷ c.sheet_text ∷ []) answer ⊎ ((answer ≡ file_limit) ⊎ ((name : List ℕ) × (answer ≡ cannot_read name))) → WritesSpots old new s (IsUse i s)
      by (inl x) = found_told i s status old new is told written (found_of c.input_spells c.sheet_spells (tells_of x))
      by (inr file) = absurd (told_of_file file (told_status status answer is told))

  pub dead_unused : (rose : Type 0) → AsksFiles words files i s → AreTrue (Some files) rose reads → IsAnswer words reads answer → status ≡ status_of answer → Appended old new (text_of answer) → IsTold status
      → WritesSpots old new s (IsUnusedSo i s)
  dead_unused rose c so right is written told = weaker {P = IsUse i s} {Q = IsUnusedSo i s} (unused_so i s) (told_of_files rose c so right is written told)

  pub dead_shown : (rose : Type 0) → AsksFiles words files i s → AreTrue (Some files) rose reads → IsAnswer words reads answer → status ≡ status_of answer → Appended old new (text_of answer) → IsTold status
      → WritesSpots old new s (IsShownSo i s)
  dead_shown rose c so right is written told = weaker {P = IsUse i s} {Q = IsShownSo i s} (shown_so i s) (told_of_files rose c so right is written told)

  pub dead_decided : {rose wrote : Type 0} → AsksShortFiles words files i s → AreTrue (Some files) rose reads → IsAnswer words reads answer → status ≡ status_of answer → Appended old new (text_of answer)
      → IsCutShort status rose wrote ⊎ DecidesSpots i s status old new
  dead_decided {rose} {wrote} short so right is written = by (read_all rose files _ c.words_are (files_of c) (is_short short.input_short (is_short short.sheet_short none_long)) so right)
    where
      c : AsksFiles words files i s
      c = short.asks

      by : IsOfFault rose answer ⊎ IsAnswerTo (dead c.input c.sheet) (c.input_text ∷ c.sheet_text ∷ []) answer → IsCutShort status rose wrote ⊎ DecidesSpots i s status old new
      by (inl fault) = inl (cut_short status answer is fault)
      by (inr x) = inr (decides i s status old new is written (found_of c.input_spells c.sheet_spells (tells_of x)))
