-- Symbols are told apart by which node tests they pass: which steps fit them follows from it, and from which predicates hold.
use Rattle.std.proofs.Common.{◌≡◌, ℕ, zero, suc, ◌<◌, ◌≤◌, List, [], ◌∷◌, ◌++◌, Bool, true, false, ◌&&◌, ◌||◌, refl, ap, sym, ◌∙◌, subst, map, length, get_or, add-one, nat_eq, Option, Some, slice_get, Bor, if◌then◌else◌, inl, inr, arith}
use Rattle.std.specs.List.{list_any}
use Rattle.std.proofs.lemmas.Bool.{cases_lt, eq-eqb, eqb-true}
use Rattle.std.proofs.lemmas.List.{length-map, length_push}
use Rattle.std.proofs.lemmas.Option.{slice_get_within, get_or_from_slice_get}
use Rattle.std.proofs.lemmas.Simd.{map-map}
use Rattle.tc_model.specs.Sheets.{Steps, no_step, step, Path, no_alternative, alternative}
use Rattle.tc_model.specs.Numbered.{numbers_below}
use Rattle.tc_model.specs.PathStates.{State, same_state}
use Rattle.tc_model.specs.declared.sheet.Test.{Test}
use Rattle.tc_model.specs.declared.tree.Name.{Name}
use Rattle.tc_rules.specs.Classes.{fits_of, marked_by, AreAt, AreKinds, AreClasses}
use Rattle.tc_rules.specs.Once.{put_once, put_all}
use Rattle.tc_rules.specs.Rows.{fits_by}
use Rattle.tc_model.specs.Letters.{is_marked}
use Rattle.tc_rules.specs.Views.{predicates}
use Rattle.tc_rules.specs.Steps.{passes_name, steps_fit, path_fits, steps_having, path_having, both_items, both_states}
use Rattle.tc_rules.specs.declared.rows.Sought.TheVariants.{Passes, Marked}
use Rattle.tc_rules.proofs.Numbering.{put_joined}
use Rattle.tc_rules.proofs.Pieces.{get_front}
use Rattle.tc_rules.proofs.RowSteps.{map_push}

-- a step fits where its node test and its predicate do
module _ (numbered : List (Bor Test)) (n : Option Name) (m : ℕ) where
  steps_both : (ss : Steps) → both_items (steps_having numbered ss (Passes n)) (steps_having numbered ss (Marked m)) ≡ steps_fit numbered ss (record { name = n; marks = m })
  steps_both no_step = refl
  steps_both (step d t w ss) = ap (λ bs. (passes_name t n && is_marked [] (predicates numbered) w m) ∷ bs) (steps_both ss)

  pub path_both : (p : Path) → both_states (path_having numbered p (Passes n)) (path_having numbered p (Marked m)) ≡ path_fits numbered p (record { name = n; marks = m })
  path_both no_alternative = refl
  path_both (alternative ss p) =
      ap (λ x. x ∷ both_states (path_having numbered p (Passes n)) (path_having numbered p (Marked m))) (steps_both ss)
      ∙ ap (λ x. steps_fit numbered ss (record { name = n; marks = m }) ∷ x) (path_both p)

pub sets_both : (numbered : List (Bor Test)) (p : Path) (sets : ℕ) (n : Option Name) → map (both_states (path_having numbered p (Passes n))) (marked_by numbered p sets) ≡ fits_of numbered p sets n
sets_both numbered p sets n = map-map (both_states (path_having numbered p (Passes n))) (λ m. path_having numbered p (Marked m)) (numbers_below sets) ∙ each (numbers_below sets)
  where
    each : (ms : List ℕ) → map (λ m. both_states (path_having numbered p (Passes n)) (path_having numbered p (Marked m))) ms ≡ map (λ m. path_fits numbered p (record { name = n; marks = m })) ms
    each [] = refl
    each (m ∷ ms) =
        ap (λ x. x ∷ map (λ m. both_states (path_having numbered p (Passes n)) (path_having numbered p (Marked m))) ms) (path_both numbered n m p)
        ∙ ap (λ xs. path_fits numbered p (record { name = n; marks = m }) ∷ xs) (each ms)

any_push : (c d : ℕ) (xs : List ℕ) → list_any (nat_eq c) (xs ++ d ∷ []) ≡ (list_any (nat_eq c) xs || nat_eq c d)
any_push c d [] = by (nat_eq c d)
  where
    by : (b : Bool) → (b || false) ≡ b
    by true = refl
    by false = refl
any_push c d (x ∷ xs) = ap (λ b. nat_eq c x || b) (any_push c d xs) ∙ by (nat_eq c x) (list_any (nat_eq c) xs) (nat_eq c d)
  where
    by : (a b e : Bool) → (a || (b || e)) ≡ ((a || b) || e)
    by true b e = refl
    by false b e = refl

or_true : (b : Bool) → (b || true) ≡ true
or_true true = refl
or_true false = refl

any_below : (c n : ℕ) → c < n → list_any (nat_eq c) (numbers_below n) ≡ true
any_below c zero h = absurd (omega arith)
any_below c (suc n) h =
    elim (cases_lt c n) [
      | inl l ↦ any_push c n (numbers_below n) ∙ ap (λ b. b || nat_eq c n) (any_below c n l)
      | inr g ↦ let e : c ≡ n = omega arith in any_push c n (numbers_below n) ∙ (ap (λ b. list_any (nat_eq c) (numbers_below n) || b) (eq-eqb c n e) ∙ or_true (list_any (nat_eq c) (numbers_below n)))
    ]

differs : (c n : ℕ) → n < c → nat_eq c n ≡ false
differs c n h = by (nat_eq c n) refl
  where
    by : (b : Bool) → nat_eq c n ≡ b → nat_eq c n ≡ false
    by true e = let f : c ≡ n = eqb-true c n e in absurd (omega arith)
    by false e = e

any_above : (c n : ℕ) → n ≤ c → list_any (nat_eq c) (numbers_below n) ≡ false
any_above c zero h = refl
any_above c (suc n) h =
    any_push c n (numbers_below n) ∙ (ap (λ b. b || nat_eq c n) (any_above c n (omega arith)) ∙ differs c n (omega arith))

at_front : (kinds more : List State) (cs : List ℕ) (xs : List State) → AreAt kinds cs xs → AreAt (kinds ++ more) cs xs
at_front kinds more [] [] h = tt
at_front kinds more [] (x ∷ xs) h = absurd h
at_front kinds more (c ∷ cs) [] h = absurd h
at_front kinds more (c ∷ cs) (x ∷ xs) h = (get_front kinds more c x h.0, at_front kinds more cs xs h.1)

at_push : (kinds : List State) (cs : List ℕ) (xs : List State) (c : ℕ) (x : State) → AreAt kinds cs xs → slice_get kinds c ≡ Some x → AreAt kinds (cs ++ c ∷ []) (xs ++ x ∷ [])
at_push kinds [] [] c x h e = (e, tt)
at_push kinds [] (y ∷ xs) c x h e = absurd h
at_push kinds (d ∷ cs) [] c x h e = absurd h
at_push kinds (d ∷ cs) (y ∷ xs) c x h e = (h.0, at_push kinds cs xs c x h.1 e)

put_old : (c n : ℕ) (cs : List ℕ) → put_all nat_eq [] cs ≡ numbers_below n → c < n → put_all nat_eq [] (cs ++ c ∷ []) ≡ numbers_below n
put_old c n cs e h =
    put_joined nat_eq [] cs (c ∷ [])
    ∙ (ap (λ w. put_once nat_eq w c) e ∙ ap (λ (b : Bool). if b then (numbers_below n) else (numbers_below n ++ c ∷ [])) (any_below c n h))

put_new : (c n : ℕ) (cs : List ℕ) → put_all nat_eq [] cs ≡ numbers_below n → c ≡ n → put_all nat_eq [] (cs ++ c ∷ []) ≡ numbers_below (suc n)
put_new c n cs e f =
    put_joined nat_eq [] cs (c ∷ [])
    ∙ (ap (λ w. put_once nat_eq w c) e
    ∙ (ap (λ (b : Bool). if b then (numbers_below n) else (numbers_below n ++ c ∷ [])) (any_above c n (omega arith)) ∙ ap (λ d. numbers_below n ++ d ∷ []) f))

module _ (numbered : List (Bor Test)) (p : Path) where
  abbrev kind_of : Name → State
  kind_of n = path_having numbered p (Passes (Some n))

  one_kind : (names : List Name) (kinds more : List State) (classes : List ℕ) (n : Name) (place : ℕ) (known : Bool)
      → list_any (same_state (kind_of n)) kinds ≡ known
      → more ≡ put_once same_state kinds (kind_of n) → slice_get more place ≡ Some (kind_of n) → (list_any (same_state (kind_of n)) kinds ≡ false → place ≡ length kinds)
      → AreKinds numbered p names kinds classes → AreKinds numbered p (names ++ n ∷ []) more (classes ++ place ∷ [])
  one_kind names kinds more classes n place true e put got last h =
      let kind = kind_of n in
      let same : more ≡ kinds = put ∙ ap (λ (b : Bool). if b then kinds else (kinds ++ kind ∷ [])) e in
      let here : slice_get kinds place ≡ Some kind = subst (λ w. slice_get w place ≡ Some kind) same got in
      record {
        at =
            subst (λ w. AreAt w (classes ++ place ∷ []) (map kind_of (names ++ n ∷ []))) (sym same)
            (subst (AreAt kinds (classes ++ place ∷ [])) (sym (map_push kind_of names n)) (at_push kinds classes (map kind_of names) place kind h.at here));
        order = put_old place (length kinds) classes h.order (slice_get_within kinds place kind here) ∙ ap (λ w. numbers_below (length w)) (sym same);
      }
  one_kind names kinds more classes n place false e put got last h =
      let kind = kind_of n in
      let grown : more ≡ kinds ++ kind ∷ [] = put ∙ ap (λ (b : Bool). if b then kinds else (kinds ++ kind ∷ [])) e in
      let count : length more ≡ suc (length kinds) = ap length grown ∙ (length_push kinds kind ∙ add-one (length kinds)) in
      record {
        at =
            subst (λ w. AreAt more (classes ++ place ∷ []) w) (sym (map_push kind_of names n))
            (at_push more classes (map kind_of names) place kind (subst (λ w. AreAt w classes (map kind_of names)) (sym grown) (at_front kinds (kind ∷ []) classes (map kind_of names) h.at)) got);
        order = put_new place (length kinds) classes h.order (last e) ∙ ap numbers_below (sym count);
      }

  module _ (sets : ℕ) where
    mapped : (xs : List State) (marked : List State) (i : ℕ) (x : State) → slice_get xs i ≡ Some x → slice_get (fits_by xs marked) i ≡ Some (map (both_states x) marked)
    mapped [] marked i x e = absurd (cc)
    mapped (y ∷ xs) marked zero x e = let f : y ≡ x = cc in ap (λ (w : State). Some (map (both_states w) marked)) f
    mapped (y ∷ xs) marked (suc i) x e = mapped xs marked i x e

    fit_at : (names : List Name) (kinds : List State) (classes : List ℕ) → AreAt kinds classes (map kind_of names)
        → map (λ c. get_or (fits_by kinds (marked_by numbered p sets)) c []) classes ≡ map (λ n. fits_of numbered p sets (Some n)) names
    fit_at [] kinds [] h = refl
    fit_at [] kinds (c ∷ cs) h = absurd h
    fit_at (n ∷ names) kinds [] h = absurd h
    fit_at (n ∷ names) kinds (c ∷ cs) h =
        let marked = marked_by numbered p sets in
        let got : slice_get (fits_by kinds marked) c ≡ Some (map (both_states (kind_of n)) marked) = mapped kinds marked c (kind_of n) h.0 in
        ap (λ x. x ∷ map (λ c. get_or (fits_by kinds marked) c []) cs) (get_or_from_slice_get (fits_by kinds marked) c (map (both_states (kind_of n)) marked) [] got ∙ sets_both numbered p sets (Some n))
        ∙ ap (λ w. fits_of numbered p sets (Some n) ∷ w) (fit_at names kinds cs h.1)

    -- which steps fit each class follows from its kind
    pub classes_are : (names : List Name) (kinds marked : List State) (classes : List ℕ) → AreKinds numbered p names kinds classes → marked ≡ marked_by numbered p sets → AreClasses numbered p sets names classes (fits_by kinds marked)
    classes_are names kinds marked classes h is = record {
      fit = ap (λ m. map (λ c. get_or (fits_by kinds m) c []) classes) is ∙ fit_at names kinds classes h.at;
      order = h.order ∙ ap numbers_below (sym (length-map kinds (λ k. map (both_states k) marked)));
    }

  -- one symbol more is put among the kinds
  pub kind_put : (names : List Name) (n : Name) (kind : State) (kinds more : List State) (classes now : List ℕ) (place : ℕ)
      → kind ≡ kind_of n
      → more ≡ put_once same_state kinds kind → slice_get more place ≡ Some kind → (list_any (same_state kind) kinds ≡ false → place ≡ length kinds) → now ≡ classes ++ place ∷ []
      → AreKinds numbered p names kinds classes → AreKinds numbered p (names ++ n ∷ []) more now
  kind_put names n kind kinds more classes now place is put got last pushed h =
      subst (AreKinds numbered p (names ++ n ∷ []) more) (sym pushed)
      (one_kind names kinds more classes n place (list_any (same_state (kind_of n)) kinds) refl
      (put ∙ ap (put_once same_state kinds) is) (got ∙ ap Some is) (λ e. last (ap (λ (x : State). list_any (same_state x) kinds) is ∙ e)) h)

pub no_kinds : (numbered : List (Bor Test)) (p : Path) → AreKinds numbered p [] [] []
no_kinds numbered p = record { at = tt; order = refl }
