-- Tables of a graph are written row by row.
use Rattle.std.proofs.Common.{◌≡◌, ℕ, ◌+◌, ◌<◌, List, ◌∷◌, ◌++◌, [], ap, sym, ◌∙◌, length, get_or, drop, add-one, Bor}
use Rattle.std.proofs.lemmas.List.{drop_more}
use Rattle.tc_model.specs.Sheets.{Path}
use Rattle.tc_model.specs.Numbered.{numbers_below}
use Rattle.tc_model.specs.declared.sheet.Test.{Test}
use Rattle.tc_rules.specs.Classes.{marked_by, path_states}
use Rattle.tc_rules.specs.Rows.{words, all_words}
use Rattle.tc_rules.specs.Steps.{path_having}
use Rattle.tc_rules.specs.declared.rows.Row.{Row}
use Rattle.tc_rules.specs.declared.rows.Sought.TheVariants.{Marked}
use Rattle.tc_rules.proofs.LeadRows.{state_of}
use Rattle.tc_rules.proofs.RowSteps.{map_push}

module _ {X : Type 0} where
  -- what is left begins with what stands there
  pub left_one : (xs : List X) (i : ℕ) (x : X) → i < length xs → x ≡ get_or xs i x → drop i xs ≡ x ∷ drop (i + 1) xs
  left_one xs i x h e = drop_more xs i x h ∙ ap (λ w. w ∷ drop (i + 1) xs) (sym e)

pub one_set : (numbered : List (Bor Test)) (p : Path) (m : ℕ) (old : List Row) (r : Row)
    → state_of p (words r) ≡ path_having numbered p (Marked m) → path_states p (all_words old) ≡ marked_by numbered p m → path_states p (all_words (old ++ r ∷ [])) ≡ marked_by numbered p (m + 1)
one_set numbered p m old r is k =
    ap (path_states p) (map_push words old r)
    ∙ (map_push (state_of p) (all_words old) (words r)
    ∙ (ap (λ w. w ++ state_of p (words r) ∷ []) k
    ∙ (ap (λ x. marked_by numbered p m ++ x ∷ []) is
    ∙ (sym (map_push (λ m. path_having numbered p (Marked m)) (numbers_below m) m) ∙ ap (λ n. marked_by numbered p n) (sym (add-one m))))))
