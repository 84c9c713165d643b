-- Where no template leads to itself, each chain of calls ends, and so each named body can be unfolded.
use Rattle.std.proofs.Common.{◌≡◌, ◌⊎◌, inl, inr, ℕ, zero, suc, ◌+◌, ◌<◌, ◌≤◌, Bool, true, false, List, [], ◌∷◌, ◌++◌, refl, ap, ◌∙◌, sym, subst, arith, length, map, flat_map, Some, get_or, slice_get, slice_index_or, Contains, set, replicate, option_map, unwrap_or, if◌then◌else◌}
use Rattle.std.proofs.lemmas.List.{map-append, length-map, length-replicate}
use Rattle.std.proofs.lemmas.List.Elements.{Contains-get_or, recursion_from_All}
use Rattle.std.proofs.lemmas.Option.{slice_get-map, slice_get-get_or, unwrap_or-slice_get, slice_get_within}
use Rattle.std.proofs.Common.{length-set}
use Rattle.tc_graph.specs.Graph.{Edge, Path, edge, further, is_marked}
use Rattle.tc_graph.specs.Marks.{unmarked}
use Rattle.tc_graph.proofs.Marks.{marked_before, one_less, none_marked}
use Rattle.tc_model.specs.Names.{ExpandedName, same_name}
use Rattle.tc_model.specs.Numbered.{number_of}
use Rattle.tc_model.specs.Sheets.{Body}
use Rattle.tc_model.specs.SheetTextTrees.{WrittenBody, w_nothing, w_text, w_element, w_copy, w_apply, w_call, w_value, w_self, w_choose, w_each, WrittenBranches, w_otherwise, w_branch, Template, makes_rules}
use Rattle.tc_model.specs.SheetText.{one_name, Call, calls_in_body, calls_in_branches, eaches_in, eaches_in_branches, numbered, numbered_branches, NumberedTemplate, first_eaches}
use Rattle.tc_sheet.specs.Graphs.{callee_of, row_of, callees}
use Rattle.tc_sheet.specs.Numbers.{body_with, named_with}
use Rattle.tc_sheet.proofs.LawfulCalls.{called_in, called_in_branches, CanCall, HasPlain, unfolds}

module _ (modes names : List ExpandedName) where
  two : (xs ys : List Call) (us vs : List ℕ) → us ≡ map (callee_of names) xs → vs ≡ map (callee_of names) ys → us ++ vs ≡ map (callee_of names) (xs ++ ys)
  two xs ys us vs e f = ap (λ z. z ++ vs) e ∙ (ap (λ z. map (callee_of names) xs ++ z) f ∙ sym (map-append (callee_of names) xs ys))

  mutual
    -- a body calls those whose numbers its calls have
    pub called_numbers : (k : ℕ) (b : WrittenBody) → called_in (numbered modes names k b) ≡ map (callee_of names) (calls_in_body b)
    called_numbers k w_nothing = refl
    called_numbers k (w_text s b) = called_numbers k b
    called_numbers k (w_element n inner b) =
        two (calls_in_body inner) (calls_in_body b) (called_in (numbered modes names k inner)) (called_in (numbered modes names (k + eaches_in inner) b)) (called_numbers k inner) (called_numbers (k + eaches_in inner) b)
    called_numbers k (w_copy inner b) =
        two (calls_in_body inner) (calls_in_body b) (called_in (numbered modes names k inner)) (called_in (numbered modes names (k + eaches_in inner) b)) (called_numbers k inner) (called_numbers (k + eaches_in inner) b)
    called_numbers k (w_apply q mode b) = called_numbers k b
    called_numbers k (w_call n q b) = ap (λ z. number_of same_name n names ∷ z) (called_numbers k b)
    called_numbers k (w_value q b) = called_numbers k b
    called_numbers k (w_self b) = called_numbers k b
    called_numbers k (w_choose x b) =
        two (calls_in_branches x) (calls_in_body b) (called_in_branches (numbered_branches modes names k x)) (called_in (numbered modes names (k + eaches_in_branches x) b)) (called_by_branches k x)
        (called_numbers (k + eaches_in_branches x) b)
    called_numbers k (w_each q inner b) =
        two (calls_in_body inner) (calls_in_body b) (called_in (numbered modes names (k + 1) inner)) (called_in (numbered modes names (k + 1 + eaches_in inner) b)) (called_numbers (k + 1) inner)
        (called_numbers (k + 1 + eaches_in inner) b)

    pub called_by_branches : (k : ℕ) (x : WrittenBranches) → called_in_branches (numbered_branches modes names k x) ≡ map (callee_of names) (calls_in_branches x)
    called_by_branches k (w_otherwise b) = called_numbers k b
    called_by_branches k (w_branch t b x) =
        two (calls_in_body b) (calls_in_branches x) (called_in (numbered modes names k b)) (called_in_branches (numbered_branches modes names (k + eaches_in b) x)) (called_numbers k b)
        (called_by_branches (k + eaches_in b) x)

  -- the named bodies call along the rows
  one_named : (t : NumberedTemplate) → map called_in (named_with modes names t) ≡ row_of names t.template
  one_named t = by (one_name t.template.name)
    where
      by : (ns : List ExpandedName) → map called_in (map (λ n. body_with modes names t) ns) ≡ map (λ n. map (callee_of names) (calls_in_body t.template.body)) ns
      by [] = refl
      by (n ∷ ns) = ap (λ z. z ∷ map called_in (map (λ n. body_with modes names t) ns)) (called_numbers t.first t.template.body) ∙ ap (λ z. map (callee_of names) (calls_in_body t.template.body) ∷ z) (by ns)

  pub named_rows : (in_rules others : ℕ) (ts : List Template) → map called_in (flat_map (named_with modes names) (first_eaches in_rules others ts)) ≡ callees names ts
  named_rows in_rules others [] = refl
  named_rows in_rules others (t ∷ ts) = by (makes_rules t) (named_rows (in_rules + eaches_in t.body) others ts) (named_rows in_rules (others + eaches_in t.body) ts)
    where
      one : (f : NumberedTemplate) (fs : List NumberedTemplate) → f.template ≡ t → map called_in (flat_map (named_with modes names) fs) ≡ callees names ts
          → map called_in (named_with modes names f ++ flat_map (named_with modes names) fs) ≡ callees names (t ∷ ts)
      one f fs is e =
          map-append called_in (named_with modes names f) (flat_map (named_with modes names) fs)
          ∙ (ap (λ z. z ++ map called_in (flat_map (named_with modes names) fs)) (one_named f ∙ ap (row_of names) is) ∙ ap (λ z. row_of names t ++ z) e)

      by : (b : Bool) → map called_in (flat_map (named_with modes names) (first_eaches (in_rules + eaches_in t.body) others ts)) ≡ callees names ts
          → map called_in (flat_map (named_with modes names) (first_eaches in_rules (others + eaches_in t.body) ts)) ≡ callees names ts
          → map called_in
          (flat_map (named_with modes names)
          (if b
          then (record { template = t; first = in_rules } ∷ first_eaches (in_rules + eaches_in t.body) others ts)
          else (record { template = t; first = others } ∷ first_eaches in_rules (others + eaches_in t.body) ts)))
          ≡ callees names (t ∷ ts)
      by true e f = one (record { template = t; first = in_rules }) (first_eaches (in_rules + eaches_in t.body) others ts) refl e
      by false e f = one (record { template = t; first = others }) (first_eaches in_rules (others + eaches_in t.body) ts) refl f

-- bodies that call along these rows, of which no number leads to itself
module _ (named : List Body) (rows : List (List ℕ)) (are : map called_in named ≡ rows) (closed : (k j : ℕ) → Edge rows k j → j < length rows) (none : (k : ℕ) → Path rows k k → ⊥) where
  sizes : length named ≡ length rows
  sizes = sym (length-map named called_in) ∙ ap length are

  row_is : (k : ℕ) (b : Body) → slice_get named k ≡ Some b → slice_index_or rows k [] ≡ called_in b
  row_is k b e =
      sym (unwrap_or-slice_get rows k [])
      ∙ ap (λ o. unwrap_or o []) (ap (λ z. slice_get z k) (sym are) ∙ (slice_get-map called_in named k ∙ ap (option_map called_in) e))

  -- those that are marked lead here
  ends : (fuel : ℕ) (marks : List Bool) (k : ℕ) (b : Body) → slice_get named k ≡ Some b → length marks ≡ length rows → unmarked marks ≤ fuel → ((m : ℕ) → is_marked marks m ≡ true → Path rows m k) → HasPlain named b
  ends zero marks k b e size most all = absurd (left (is_marked marks k) refl)
    where
      within : k < length marks
      within = omega (arith, slice_get_within named k b e, sizes, size)

      left : (m : Bool) → is_marked marks k ≡ m → ⊥
      left true f = none k (all k f)
      left false f = omega (arith, one_less marks k within f, most)
  ends (suc fuel) marks k b e size most all = unfolds named b (recursion_from_All (CanCall named) (called_in b) (called (ends fuel)))
    where
      within : k < length marks
      within = omega (arith, slice_get_within named k b e, sizes, size)

      fresh : is_marked marks k ≡ false
      fresh = by (is_marked marks k) refl
        where
          by : (m : Bool) → is_marked marks k ≡ m → is_marked marks k ≡ false
          by true f = absurd (none k (all k f))
          by false f = f

      called : ((n : List Bool) (j : ℕ) (c : Body) → slice_get named j ≡ Some c → length n ≡ length rows → unmarked n ≤ fuel → ((m : ℕ) → is_marked n m ≡ true → Path rows m j) → HasPlain named c)
          → (i d : ℕ) → i < length (called_in b) → CanCall named (get_or (called_in b) i d)
      called again i d l =
          let j : ℕ = get_or (called_in b) i d in
          let a : Edge rows k j = subst (λ z. Contains z j) (sym (row_is k b e)) (Contains-get_or (called_in b) i d l) in
          let small : j < length named = omega (arith, closed k j a, sizes) in
          let at : slice_get named j ≡ Some (get_or named j b) = slice_get-get_or named j b small in
          let marked : List Bool = set marks k true in
          (get_or named j b, at, again marked j (get_or named j b) at (length-set marks k true ∙ size) (omega (arith, one_less marks k within fresh, most)) (λ m f. leads j a m (marked_before marks k m f)))
        where
          leads : (j : ℕ) → Edge rows k j → (m : ℕ) → (is_marked marks m ≡ true) ⊎ (k ≡ m) → Path rows m j
          leads j a m (inl f) = further (all m f) a
          leads j a m (inr f) = edge (subst (λ z. Edge rows z j) f a)

pub all_end : (named : List Body) (rows : List (List ℕ)) → map called_in named ≡ rows → ((k j : ℕ) → Edge rows k j → j < length rows) → ((k : ℕ) → Path rows k k → ⊥) → (k : ℕ) (b : Body) → slice_get named k ≡ Some b → HasPlain named b
all_end named rows are closed none k b e =
    let marks : List Bool = replicate (length rows) false in
    ends named rows are closed none (unmarked marks) marks k b e (length-replicate (length rows) false) (omega arith) (λ m f. absurd (none_marked (length rows) m f))
