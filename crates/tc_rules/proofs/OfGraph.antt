-- The tables that were written are those of a path over the symbols.
use Rattle.std.proofs.Common.{◌≡◌, ℕ, ◌<◌, ◌^◌, List, [], ◌∷◌, ◌++◌, Bool, refl, ap, sym, ◌∙◌, subst, map, filter, flat_map, length, get_or, Option, Some, None, slice_get, Bor}
use Rattle.std.proofs.lemmas.List.{length-map, map-append}
use Rattle.std.proofs.lemmas.List.Folds.{flat_map-map}
use Rattle.std.proofs.lemmas.Option.{get_or_from_slice_get}
use Rattle.std.proofs.lemmas.Simd.{map-map}
use Rattle.tc_model.specs.Trees.{none}
use Rattle.tc_model.specs.Chains.{an_element}
use Rattle.tc_model.specs.Views as see
use Rattle.tc_model.specs.Sheets.{Path}
use Rattle.tc_model.specs.Symbols.{Mention, symbol_count, fresh_name}
use Rattle.tc_model.specs.Letters.{Kind, of_symbol, of_text, IsLetter}
use Rattle.tc_model.specs.Numbered.{numbers_below}
use Rattle.tc_model.specs.Numberings as n
use Rattle.tc_model.specs.Numberings.{letters_of_elements}
use Rattle.tc_model.specs.PathStates.{State, same_state, first_state}
use Rattle.tc_model.specs.PathStates as p
use Rattle.tc_model.specs.declared.sheet.Test.{Test}
use Rattle.tc_model.specs.declared.tree.Name.{Name}
use Rattle.tc_rules.specs.Classes.{fits_of, AreClasses, IsSourceOf}
use Rattle.tc_rules.specs.Graphs as g
use Rattle.tc_rules.specs.Graphs.{class_of, fits_at, next_at, LeadsTo, path_fits, IsGraphOf}
use Rattle.tc_rules.specs.Once.{put_all}
use Rattle.tc_rules.specs.Reached.{leads_by, rounds, AreReached}
use Rattle.tc_rules.specs.Rows.{fits_by}
use Rattle.tc_rules.specs.Steps.{both_states}
use Rattle.tc_rules.proofs.RowPairs.{fit_parts}
use Rattle.tc_rules.specs.Views.{predicates}
use Rattle.tc_rules.specs.Steps as v
use Rattle.tc_rules.specs.declared.graph.Source.{Source}
use Rattle.tc_rules.proofs.Fits.{path_fits_is, next_is}
use Rattle.tc_rules.proofs.Pieces.{pieces_once, pieces_of, filter_pieces, pieces_alike, length_below, mapped_at, unmapped_at, value_at}
use Rattle.tc_rules.proofs.Rounds.{reached_alike, many_alike}
use Rattle.tc_rules.proofs.SameRows.{state_self}

module _ (symbols : List Mention) (s : Source) (h : IsSourceOf symbols s) (q : Path) (classes : List ℕ) (kinds marked : List State) (k : AreClasses s.predicates.items q s.sets s.names.items classes (fits_by kinds marked)) where
  abbrev fits : List (List State)
  fits = fits_by kinds marked

  sets_are : s.sets ≡ 2 ^ length (predicates s.predicates.items)
  sets_are = h.sets ∙ ap (λ n. 2 ^ n) (sym (length-map s.predicates.items (λ (t : Bor Test). see.test t.now)))

  -- which steps fit an element of a name is which fit its symbol
  fit_named : (nm : Name) (c m : ℕ) → see.name nm ≡ fresh_name symbols c
      → v.path_fits s.predicates.items q (record { name = Some nm; marks = m }) ≡ path_fits symbols (predicates s.predicates.items) q (record { kind = of_symbol c; marks = m })
  fit_named nm c m e =
      path_fits_is symbols (predicates s.predicates.items) s.predicates.items (record { name = Some nm; marks = m }) (record { kind = of_symbol c; marks = m }) refl (ap (λ n. an_element n none) e) refl q

  fit_text : (m : ℕ) → v.path_fits s.predicates.items q (record { name = None; marks = m }) ≡ path_fits symbols (predicates s.predicates.items) q (record { kind = of_text; marks = m })
  fit_text m = path_fits_is symbols (predicates s.predicates.items) s.predicates.items (record { name = None; marks = m }) (record { kind = of_text; marks = m }) refl refl refl q

  leads_named : (x : State) (nm : Name) (c : ℕ) → see.name nm ≡ fresh_name symbols c
      → map (p.next_state symbols (predicates s.predicates.items) q x) (map (λ m. record { kind = of_symbol c; marks = m }) (numbers_below (2 ^ length (predicates s.predicates.items))))
      ≡ map (λ f. v.next_state q f x) (fits_of s.predicates.items q s.sets (Some nm))
  leads_named x nm c e =
      map-map (p.next_state symbols (predicates s.predicates.items) q x) (λ m. record { kind = of_symbol c; marks = m }) (numbers_below (2 ^ length (predicates s.predicates.items)))
      ∙ (ap (λ n. map (λ m. p.next_state symbols (predicates s.predicates.items) q x (record { kind = of_symbol c; marks = m })) (numbers_below n)) (sym sets_are)
      ∙ (each (numbers_below s.sets)
      ∙ sym (map-map (λ f. v.next_state q f x) (λ m. v.path_fits s.predicates.items q (record { name = Some nm; marks = m })) (numbers_below s.sets))))
    where
      one : (m : ℕ) → p.next_state symbols (predicates s.predicates.items) q x (record { kind = of_symbol c; marks = m }) ≡ v.next_state q (v.path_fits s.predicates.items q (record { name = Some nm; marks = m })) x
      one m = sym (ap (λ f. v.next_state q f x) (fit_named nm c m e) ∙ next_is symbols (predicates s.predicates.items) (record { kind = of_symbol c; marks = m }) q x)

      each : (ms : List ℕ) → map (λ m. p.next_state symbols (predicates s.predicates.items) q x (record { kind = of_symbol c; marks = m })) ms ≡ map (λ m. v.next_state q (v.path_fits s.predicates.items q (record { name = Some nm; marks = m })) x) ms
      each [] = refl
      each (m ∷ ms) = ap (λ y. y ∷ map (λ m. p.next_state symbols (predicates s.predicates.items) q x (record { kind = of_symbol c; marks = m })) ms) (one m) ∙ ap (λ w. v.next_state q (v.path_fits s.predicates.items q (record { name = Some nm; marks = m })) x ∷ w) (each ms)

  map_pieces : {A B X : Type 0} (f : B → X) (G : A → List B) (xs : List A) → map f (flat_map G xs) ≡ flat_map (λ a. map f (G a)) xs
  map_pieces f G [] = refl
  map_pieces f G (x ∷ xs) = map-append f (G x) (flat_map G xs) ∙ ap (λ w. map f (G x) ++ w) (map_pieces f G xs)

  -- where a state leads by all letters, symbol by symbol, each by its class
  by_classes : (x : State) → map (p.next_state symbols (predicates s.predicates.items) q x) (letters_of_elements symbols (predicates s.predicates.items)) ≡ flat_map (λ c. map (λ f. v.next_state q f x) (get_or fits c [])) classes
  by_classes x =
      map_pieces (p.next_state symbols (predicates s.predicates.items) q x) (λ c. map (λ m. record { kind = of_symbol c; marks = m }) (numbers_below (2 ^ length (predicates s.predicates.items)))) (numbers_below (symbol_count symbols))
      ∙ (sym (pieces_alike see.name (fresh_name symbols) (λ nm. map (λ f. v.next_state q f x) (fits_of s.predicates.items q s.sets (Some nm))) (λ c. map (p.next_state symbols (predicates s.predicates.items) q x) (map (λ m. record { kind = of_symbol c; marks = m }) (numbers_below (2 ^ length (predicates s.predicates.items)))))
      (λ nm c e. sym (leads_named x nm c e)) s.names.items (numbers_below (symbol_count symbols)) h.names)
      ∙ (sym (flat_map-map (λ w. map (λ f. v.next_state q f x) w) (λ nm. fits_of s.predicates.items q s.sets (Some nm)) s.names.items)
      ∙ (ap (flat_map (λ w. map (λ f. v.next_state q f x) w)) (sym k.fit)
      ∙ flat_map-map (λ w. map (λ f. v.next_state q f x) w) (λ c. get_or fits c []) classes)))

  alike : (counts : State → Bool) (xs : List State) (x : State)
      → put_all same_state xs (filter counts (map (p.next_state symbols (predicates s.predicates.items) q x) (letters_of_elements symbols (predicates s.predicates.items)))) ≡ put_all same_state xs (filter counts (leads_by q fits x))
  alike counts xs x =
      let one : ℕ → List State = λ c. filter counts (map (λ f. v.next_state q f x) (get_or fits c [])) in
      ap (λ w. put_all same_state xs (filter counts w)) (by_classes x)
      ∙ (ap (put_all same_state xs) (filter_pieces counts (λ c. map (λ f. v.next_state q f x) (get_or fits c [])) classes)
      ∙ (pieces_once same_state state_self one xs classes
      ∙ (ap (λ cs. put_all same_state xs (flat_map one cs)) k.order
      ∙ (ap (put_all same_state xs) (pieces_of (λ w. filter counts (map (λ f. v.next_state q f x) w)) [] fits)
      ∙ ap (put_all same_state xs) (sym (filter_pieces counts (λ w. map (λ f. v.next_state q f x) w) fits))))))

  -- the name of a symbol, and the class
  name_at : (c : ℕ) → c < symbol_count symbols → (nm : Name) × (slice_get s.names.items c ≡ Some nm) × (see.name nm ≡ fresh_name symbols c)
  name_at c l = unmapped_at see.name s.names.items c (fresh_name symbols c) (ap (λ w. slice_get w c) h.names ∙ value_at (fresh_name symbols) (symbol_count symbols) c l)

  class_at : (c : ℕ) (nm : Name) → slice_get s.names.items c ≡ Some nm → get_or fits (get_or classes c 0) [] ≡ fits_of s.predicates.items q s.sets (Some nm)
  class_at c nm e =
      let t = unmapped_at (λ d. get_or fits d []) classes c (fits_of s.predicates.items q s.sets (Some nm)) (ap (λ w. slice_get w c) k.fit ∙ mapped_at (λ n. fits_of s.predicates.items q s.sets (Some n)) s.names.items c nm e) in
      ap (λ d. get_or fits d []) (get_or_from_slice_get classes c t.0 0 t.1) ∙ t.2

  within : (m : ℕ) → m < 2 ^ length (predicates s.predicates.items) → m < s.sets
  within m l = subst (λ n. m < n) (sym sets_are) l

  class_fit : (c m : ℕ) → c < symbol_count symbols → m < 2 ^ length (predicates s.predicates.items)
      → slice_get (get_or fits (get_or classes c 0) []) m ≡ Some (path_fits symbols (predicates s.predicates.items) q (record { kind = of_symbol c; marks = m }))
  class_fit c m l b =
      let nm = name_at c l in
      ap (λ w. slice_get w m) (class_at c nm.0 nm.1)
      ∙ (value_at (λ m. v.path_fits s.predicates.items q (record { name = Some nm.0; marks = m })) s.sets m (within m b) ∙ ap Some (fit_named nm.0 c m nm.2))

  count_is : length classes ≡ symbol_count symbols
  count_is =
      sym (length-map classes (λ c. get_or fits c []))
      ∙ (ap length k.fit
      ∙ (length-map s.names.items (λ nm. fits_of s.predicates.items q s.sets (Some nm))
      ∙ (sym (length-map s.names.items see.name)
      ∙ (ap length h.names ∙ (length-map (numbers_below (symbol_count symbols)) (fresh_name symbols) ∙ length_below (symbol_count symbols))))))

  module _ (counts : State → Bool) (known : List State) (texts : List State) (numbers : List (List (List (Option ℕ)))) (reached : AreReached same_state counts (leads_by q fits) (first_state q) known)
      (of_texts : texts ≡ fits_of s.predicates.items q s.sets None) where
    abbrev tables : g.Graph
    tables = record { states = known; classes = classes; fits = fits; texts = texts; next = numbers }

    fits_told : (kind : Kind) (m : ℕ) → IsLetter symbols (predicates s.predicates.items) (record { kind = kind; marks = m })
        → fits_at tables (record { kind = kind; marks = m }) ≡ Some (path_fits symbols (predicates s.predicates.items) q (record { kind = kind; marks = m }))
    fits_told (of_symbol c) m i = class_fit c m (i.symbol c refl) i.marks
    fits_told of_text m i =
        ap (λ w. slice_get w m) of_texts ∙ (value_at (λ m. v.path_fits s.predicates.items q (record { name = None; marks = m })) s.sets m (within m i.marks) ∙ ap Some (fit_text m))

    -- where a state leads is there, if it counts
    abbrev pub LeadRight : Type 0
    LeadRight = (i c m : ℕ) (x k s : State) → slice_get known i ≡ Some x → slice_get kinds c ≡ Some k → slice_get marked m ≡ Some s
        → (j : Option ℕ) × (slice_get (get_or (get_or numbers i []) c []) m ≡ Some j) × LeadsTo counts tables j (v.next_state q (both_states k s) x)

    next_told : LeadRight → (i : ℕ) (x : State) (c m : ℕ) → slice_get known i ≡ Some x → c < symbol_count symbols → m < 2 ^ length (predicates s.predicates.items)
        → (j : Option ℕ) × (next_at tables i c m ≡ Some j) × LeadsTo counts tables j (p.next_state symbols (predicates s.predicates.items) q x (record { kind = of_symbol c; marks = m }))
    next_told right i x c m e l b =
        let fit = path_fits symbols (predicates s.predicates.items) q (record { kind = of_symbol c; marks = m }) in
        let parts = fit_parts kinds marked (get_or classes c 0) m fit (class_fit c m l b) in
        let led = right i (get_or classes c 0) m x parts.0 parts.1 e parts.2 parts.3 in
        let same : v.next_state q (both_states parts.0 parts.1) x ≡ p.next_state symbols (predicates s.predicates.items) q x (record { kind = of_symbol c; marks = m }) =
        ap (λ f. v.next_state q f x) parts.4 ∙ next_is symbols (predicates s.predicates.items) (record { kind = of_symbol c; marks = m }) q x in
        (led.0, led.1, subst (LeadsTo counts tables led.0) same led.2)

    -- the graph
    pub is_graph : LeadRight → IsGraphOf symbols (predicates s.predicates.items) counts q tables
    is_graph right = record {
      states = reached_alike counts (leads_by q fits) (p.next_state symbols (predicates s.predicates.items) q) (letters_of_elements symbols (predicates s.predicates.items)) (alike counts) (first_state q) known reached;
      classes = count_is;
      fits = λ l i. fits_told l.kind l.marks i;
      next = λ i x c m e l b. next_told right i x c m e l b;
    }

  -- too many states are too many by letters
  pub are_many : (counts : State → Bool) (most m : ℕ) → most < length (rounds same_state counts (leads_by q fits) m (filter counts (first_state q ∷ [])))
      → most < length (n.rounds counts (p.next_state symbols (predicates s.predicates.items) q) (letters_of_elements symbols (predicates s.predicates.items)) m (filter counts (first_state q ∷ [])))
  are_many counts most m =
      many_alike counts (leads_by q fits) (p.next_state symbols (predicates s.predicates.items) q) (letters_of_elements symbols (predicates s.predicates.items)) (alike counts) (first_state q) most m
