-- The limits that are tried before calls are the same for all spots of a stylesheet.
use Rattle.std.proofs.Common.{◌≡◌, ◌<◌, ◌∙◌, refl, sym, ap, subst, ℕ, List, [], ◌∷◌, ◌++◌, length, map, sum, filter, Bool, Contains, Some, None, arith}
use Rattle.tc_base.specs.declared.Limit.{Limit}
use Rattle.tc_base.specs.declared.limits.TheConstants.{MOST_SYMBOLS}
use Rattle.tc_dead.specs.Marked.{marked_at, plain_schema}
use Rattle.tc_dead.specs.Spots.{Spot, spots_of}
use Rattle.tc_dead.proofs.MarkSymbols.{same_symbols}
use Rattle.tc_dead.proofs.SameParts.{same_predicates, same_patterns, same_moves, same_looks}
use Rattle.tc_decide.specs.Checking.{PassesTripleLimit, by_input, by_output, by_sheet}
use Rattle.tc_decide.specs.Checking as triple
use Rattle.tc_decide.specs.DeadSpots.{stage, KeepsSheetLimits}
use Rattle.tc_decide.specs.Limits.{AreFew, SheetPasses, sheet_symbols, sheet_predicates, sheet_ancestors, sheet_selects}
use Rattle.tc_decide.specs.declared.failure.Kind.TheVariants.{Texts}
use Rattle.tc_model.specs.Grammars.{Grammar}
use Rattle.tc_model.specs.Numberings.{Move, predicates_of, moves_of, looks_of, letters_of_elements, rounds}
use Rattle.tc_model.specs.PathStates.{State, first_state, next_state, steps_of, path_of_rules}
use Rattle.tc_model.specs.Sheets.{MatchPattern, Path, Test, no_alternative, alternative, Rule, Sheet}
use Rattle.tc_model.specs.StateCounts.{PathUse, blocks_of, all_count, some_item, PassPredicates, PassAncestors, PassSelects}
use Rattle.tc_model.specs.Symbols.{Mention, symbols_of, symbol_count}

-- what is counted, by the parts of the stylesheet by which it is

abbrev states_by : List Mention → List Test → (State → Bool) → Path → ℕ → List State
states_by symbols predicates counts p n = rounds counts (next_state symbols predicates p) (letters_of_elements symbols predicates) n (filter counts (first_state p ∷ []))

abbrev AncestorsPass : List Mention → List Test → Path → Type 0
AncestorsPass symbols predicates path = (n : ℕ) × (64 < length (states_by symbols predicates all_count path n))

abbrev SelectsPass : List Mention → List Test → List PathUse → Type 0
SelectsPass symbols predicates blocks = (n : ℕ) × (4096 < sum (map (λ b. length (states_by symbols predicates some_item b.path n)) blocks))

ancestors_at : {a b : List Mention} {c d : List Test} {e f : Path} → a ≡ b → c ≡ d → e ≡ f → AncestorsPass a c e → AncestorsPass b d f
ancestors_at {a} {b} {c} {d} {e} {f} x y z h = subst (AncestorsPass b d) z (subst (λ w. AncestorsPass b w e) y (subst (λ w. AncestorsPass w c e) x h))

selects_at : {a b : List Mention} {c d : List Test} {e f : List PathUse} → a ≡ b → c ≡ d → e ≡ f → SelectsPass a c e → SelectsPass b d f
selects_at {a} {b} {c} {d} {e} {f} x y z h = subst (SelectsPass b d) z (subst (λ w. SelectsPass b w e) y (subst (λ w. SelectsPass w c e) x h))

-- the path of all match patterns
abbrev path_of_patterns : List MatchPattern → Path
path_of_patterns [] = no_alternative
path_of_patterns (p ∷ ps) = alternative (steps_of p) (path_of_patterns ps)

by_patterns : (rules : List Rule) → path_of_rules rules ≡ path_of_patterns (map (λ r. r.pattern) rules)
by_patterns [] = refl
by_patterns (r ∷ rules) = ap (alternative (steps_of r.pattern)) (by_patterns rules)

abbrev blocks_by : List Move → List Path → List PathUse
blocks_by moves looks = map (λ m. record { path = m.path; mode = Some m.mode }) moves ++ map (λ p. record { path = p; mode = None }) looks

module _ (i : Grammar) (s : Sheet) (p q : Spot) (at_p : Contains (spots_of s) p) (at_q : Contains (spots_of s) q) where
  abbrev symbols_at : Spot → List Mention
  symbols_at r = symbols_of i plain_schema (marked_at r s)

  symbols_same : symbols_at p ≡ symbols_at q
  symbols_same = same_symbols i s p q at_p at_q

  predicates_same : predicates_of (marked_at p s) ≡ predicates_of (marked_at q s)
  predicates_same = same_predicates s p ∙ sym (same_predicates s q)

  path_same : path_of_rules (marked_at p s).rules ≡ path_of_rules (marked_at q s).rules
  path_same = by_patterns (marked_at p s).rules ∙ (ap path_of_patterns (same_patterns s p ∙ sym (same_patterns s q)) ∙ sym (by_patterns (marked_at q s).rules))

  blocks_same : blocks_of (marked_at p s) ≡ blocks_of (marked_at q s)
  blocks_same =
      ap (λ moves. blocks_by moves (looks_of (marked_at p s))) (same_moves s p q) ∙ ap (blocks_by (moves_of (marked_at q s))) (same_looks s p ∙ sym (same_looks s q))

  few_too : AreFew (symbols_at p) → AreFew (symbols_at q)
  few_too h = subst AreFew symbols_same h

  predicates_too : PassPredicates (symbols_at p) (marked_at p s) → PassPredicates (symbols_at q) (marked_at q s)
  predicates_too h = subst (λ (ts : List Test). 6 < length ts) predicates_same h

  predicates_back : PassPredicates (symbols_at q) (marked_at q s) → PassPredicates (symbols_at p) (marked_at p s)
  predicates_back h = subst (λ (ts : List Test). 6 < length ts) (sym predicates_same) h

  ancestors_too : PassAncestors (symbols_at p) (marked_at p s) → PassAncestors (symbols_at q) (marked_at q s)
  ancestors_too h = ancestors_at symbols_same predicates_same path_same h

  ancestors_back : PassAncestors (symbols_at q) (marked_at q s) → PassAncestors (symbols_at p) (marked_at p s)
  ancestors_back h = ancestors_at (sym symbols_same) (sym predicates_same) (sym path_same) h

  selects_too : PassSelects (symbols_at p) (marked_at p s) → PassSelects (symbols_at q) (marked_at q s)
  selects_too h = selects_at symbols_same predicates_same blocks_same h

  selects_back : PassSelects (symbols_at q) (marked_at q s) → PassSelects (symbols_at p) (marked_at p s)
  selects_back h = selects_at (sym symbols_same) (sym predicates_same) (sym blocks_same) h

  sheet_passes_too : {kind : Limit} {number : ℕ} → SheetPasses (symbols_at p) (marked_at p s) kind number → SheetPasses (symbols_at q) (marked_at q s) kind number
  sheet_passes_too (sheet_symbols x) = sheet_symbols (subst (λ (z : List Mention). MOST_SYMBOLS < symbol_count z) symbols_same x)
  sheet_passes_too (sheet_predicates few x) = sheet_predicates (few_too few) (predicates_too x)
  sheet_passes_too (sheet_ancestors few a x) = sheet_ancestors (few_too few) (λ y. a (predicates_back y)) (ancestors_too x)
  sheet_passes_too (sheet_selects few a b x) = sheet_selects (few_too few) (λ y. a (predicates_back y)) (λ y. b (ancestors_back y)) (selects_too x)

  -- what one spot keeps all keep
  pub sheet_kept_too : KeepsSheetLimits i s p → KeepsSheetLimits i s q
  sheet_kept_too k = record {
    input = k.input;
    output = k.output;
    sheet = record { few = few_too k.sheet.few; numbers = (λ y. k.sheet.numbers.0 (predicates_back y), λ y. k.sheet.numbers.1 (ancestors_back y), λ y. k.sheet.numbers.2 (selects_back y)) };
  }

  -- and what one passes all pass
  pub passes_too : {kind : Limit} {number : ℕ} → stage (Texts kind) ≡ 0 → PassesTripleLimit i plain_schema (marked_at p s) kind number → PassesTripleLimit i plain_schema (marked_at q s) kind number
  passes_too e (by_input x) = by_input x
  passes_too e (by_output v x) = by_output v x
  passes_too e (by_sheet v w x) = by_sheet v w (sheet_passes_too x)
  passes_too e (triple.by_calls v w x y) = absurd (omega (arith, e))
  passes_too e (triple.by_entries v w x y z) = absurd (omega (arith, e))
