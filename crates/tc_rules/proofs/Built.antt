-- Rules are those of their stylesheet once their parts are, and limits are passed where a graph is refused.
use Rattle.std.proofs.Common.{◌≡◌, ℕ, zero, suc, ◌+◌, ◌-◌, ◌<◌, ◌≤◌, ◌^◌, List, [], ◌∷◌, ◌++◌, refl, ap, sym, ◌∙◌, subst, map, sum, take, drop, None, Some, slice_get, length, get_or, Contains, arith, Result, Ok, Err, IfErr, IsErrOf}
use Rattle.std.specs.Borrow.{Bor}
use Rattle.std.proofs.Math.ListN.{get_or-map}
use Rattle.std.proofs.lemmas.List.Sums.{sum_by-cons, sum_by_push}
use Rattle.std.proofs.lemmas.List.{length-map, map-append, drop_more, take_more, take-append-drop, get_or_default}
use Rattle.std.proofs.lemmas.Option.{slice_get-get_or}
use Rattle.tc_model.specs.Sheets as s
use Rattle.tc_model.specs.Sheets.{Path}
use Rattle.tc_model.specs.Views as see
use Rattle.std.specs.Result.{IsErrAnd}
use Rattle.tc_model.specs.Symbols.{Mention, symbol_count, fresh_name}
use Rattle.tc_model.specs.Numbered.{numbers_below}
use Rattle.tc_model.specs.declared.sheet.Test.{Test as TestOf}
use Rattle.tc_rules.specs.declared.graph.GraphFault.{GraphFault}
use Rattle.tc_model.specs.Numberings.{Move, moves_of, looks_of, predicates_of, letters_of_elements}
use Rattle.tc_model.specs.PathStates.{first_state, next_state, path_of_rules}
use Rattle.tc_model.specs.WellFormed.{IsSheet, ForEach, eaches_of}
use Rattle.tc_rules.specs.Classes.{IsSourceOf}
use Rattle.tc_rules.specs.Faults.{IsCause, IsPredicatesCause}
use Rattle.tc_rules.specs.Gathered.{numbers}
use Rattle.tc_rules.specs.Graphs.{Graph, IsGraphOf}
use Rattle.tc_rules.specs.Jobs.{AreJobs}
use Rattle.tc_rules.specs.Kept.{told, IsRulesOf, numbers_in_mode}
use Rattle.tc_rules.specs.MoveTables.{IsPathsCause}
use Rattle.tc_rules.specs.Rows.{graph, graphs, AllKeepEndings}
use Rattle.tc_rules.specs.Views as seen
use Rattle.tc_rules.specs.Selects.{paths_of, selects_from, starts_from, AreGraphs, states_by, count_by, all_states_by, IsAncestorCause, IsNextCause, IsSelectCause}
use Rattle.tc_rules.specs.RulesView.{AreSymbolsWith, count_states}
use Rattle.tc_model.specs.StateCounts.{PathUse, blocks_of, PassPredicates, PassAncestors, PassSelects, some_item, all_count}
use Rattle.tc_rules.specs.declared.graph.Source.{Source}
use Rattle.tc_rules.specs.declared.rules.Rules.{Rules}
use Rattle.tc_rules.specs.declared.rules.RulesFault.{RulesFault}
use Rattle.tc_rules.specs.declared.rules.RulesFault.TheVariants.{TooManyPredicates, TooManyAncestorStates, TooManySelectStates, NoMemory}
use Rattle.tc_model.specs.declared.sheet.Path.{Path as PathOf}
use Rattle.tc_rules.specs.declared.walk.Move.{Move as MoveOf}
use Rattle.tc_rules.proofs.Answered.{mapped_at}
use Rattle.tc_rules.proofs.SelectStates.{graph_at, as_many, count_within, count_passes, graphs_more, no_more, select_at, select_same, start_at}

some_same : {X : Type 0} (a b : X) → a ≡ b → Some a ≡ Some b
some_same a b e = ap Some e

move_paths : (ms : List Move) → map (λ (b : PathUse). b.path) (map (λ (m : Move). let b : PathUse = record { path = m.path; mode = Some m.mode } in b) ms) ≡ map (λ (m : Move). m.path) ms
move_paths [] = refl
move_paths (m ∷ ms) = ap (λ w. m.path ∷ w) (move_paths ms)

look_paths : (ps : List Path) → map (λ (b : PathUse). b.path) (map (λ (p : Path). let b : PathUse = record { path = p; mode = None } in b) ps) ≡ ps
look_paths [] = refl
look_paths (p ∷ ps) = ap (λ w. p ∷ w) (look_paths ps)

two_parts : {X : Type 0} (a b c d : List X) → a ≡ c → b ≡ d → a ++ b ≡ c ++ d
two_parts a b c d e f = cc

block_paths : (x : s.Sheet) → map (λ (b : PathUse). b.path) (blocks_of x) ≡ paths_of x
block_paths x =
    let ms = map (λ (m : Move). let b : PathUse = record { path = m.path; mode = Some m.mode } in b) (moves_of x) in
    let ls = map (λ (p : Path). let b : PathUse = record { path = p; mode = None } in b) (looks_of x) in
    map-append (λ (b : PathUse). b.path) ms ls
    ∙ two_parts (map (λ (b : PathUse). b.path) ms) (map (λ (b : PathUse). b.path) ls) (map (λ (m : Move). m.path) (moves_of x)) (looks_of x) (move_paths (moves_of x)) (look_paths (looks_of x))

seen_paths : (modes : ℕ) (ms : List MoveOf) → map (λ (m : MoveOf). see.path m.path.now) ms ≡ map (λ (m : Move). m.path) (seen.moves modes ms)
seen_paths modes [] = refl
seen_paths modes (m ∷ ms) = ap (λ w. see.path m.path.now ∷ w) (seen_paths modes ms)

-- the paths of moves and looks are those of all blocks
pub paths_are : (x : s.Sheet) (modes : ℕ) (ms : List MoveOf) (ls ps : List Path) → seen.moves modes ms ≡ moves_of x → ls ≡ looks_of x → ps ≡ map (λ (m : MoveOf). see.path m.path.now) ms ++ ls → ps ≡ paths_of x
paths_are x modes ms ls ps e f g =
    g ∙ two_parts (map (λ (m : MoveOf). see.path m.path.now) ms) ls (map (λ (m : Move). m.path) (moves_of x)) (looks_of x) (seen_paths modes ms ∙ ap (map (λ (m : Move). m.path)) e) f

module _ (symbols : List Mention) (x : s.Sheet) where
  abbrev Tests : List s.Test
  Tests = predicates_of x

  sum_blocks : (bs : List PathUse) (n : ℕ) → sum (map (λ (b : PathUse). length (states_by symbols Tests b.path n)) bs) ≡ count_by symbols Tests (map (λ (b : PathUse). b.path) bs) n
  sum_blocks [] n = refl
  sum_blocks (b ∷ bs) n =
      sum_by-cons (λ x. x) (length (states_by symbols Tests b.path n)) (map (λ (b : PathUse). length (states_by symbols Tests b.path n)) bs)
      ∙ (ap (λ k. length (states_by symbols Tests b.path n) + k) (sum_blocks bs n)
      ∙ sym (sum_by-cons (λ x. x) (length (states_by symbols Tests b.path n)) (map (λ p. length (states_by symbols Tests p n)) (map (λ (b : PathUse). b.path) bs))))

  count_blocks : (n : ℕ) → sum (map (λ (b : PathUse). length (states_by symbols Tests b.path n)) (blocks_of x)) ≡ count_by symbols Tests (paths_of x) n
  count_blocks n = sum_blocks (blocks_of x) n ∙ ap (λ ps. count_by symbols Tests ps n) (block_paths x)

  pub within_predicates : length Tests ≤ 6 → ¬ PassPredicates symbols x
  within_predicates l p = omega (arith, l, p)

  pub within_ancestors : (g : Graph) → IsGraphOf symbols Tests all_count (path_of_rules x.rules) g → length g.states ≤ 64 → ¬ PassAncestors symbols x
  within_ancestors g h l p =
      omega (arith, l, p.1, no_more all_count (next_state symbols Tests (path_of_rules x.rules)) (letters_of_elements symbols Tests) (first_state (path_of_rules x.rules)) g.states h.states p.0)

  pub within_selects : (gs : List Graph) → AreGraphs symbols Tests (paths_of x) gs → count_states gs ≤ 4096 → ¬ PassSelects symbols x
  within_selects gs a l p = omega (arith, l, p.1, count_blocks p.0, count_within symbols Tests (paths_of x) gs p.0 a)

  -- the cause of a fault
  module _ (y : Source) (h : IsSourceOf symbols y) (same : seen.predicates y.predicates.items ≡ Tests) (few : length Tests ≤ 6) where
    pub ancestor_cause : (e : RulesFault) → IsAncestorCause y (path_of_rules x.rules) e → IsCause symbols x e
    ancestor_cause TooManyPredicates k = absurd k
    ancestor_cause TooManyAncestorStates k =
        (within_predicates few, subst (λ (ts : List s.Test). (n : ℕ) × (64 < length (all_states_by symbols ts (path_of_rules x.rules) n))) same (k symbols h))
    ancestor_cause TooManySelectStates k = absurd k
    ancestor_cause NoMemory k = tt

    pub select_cause : (g : Graph) → IsGraphOf symbols (seen.predicates y.predicates.items) all_count (path_of_rules x.rules) g → length g.states ≤ 64 → (ps : List Path) → ps ≡ paths_of x → (e : RulesFault) → IsSelectCause y ps e → IsCause symbols x e
    select_cause g a l ps f TooManyPredicates k = absurd k
    select_cause g a l ps f TooManyAncestorStates k = absurd k
    select_cause g a l ps f TooManySelectStates k =
        let many : (n : ℕ) × (4096 < count_by symbols Tests (paths_of x) n) =
        subst (λ (qs : List Path). (n : ℕ) × (4096 < count_by symbols Tests qs n)) f (subst (λ (ts : List s.Test). (n : ℕ) × (4096 < count_by symbols ts ps n)) same (k symbols h))
        in (
          within_predicates few,
          within_ancestors g (subst (λ (ts : List s.Test). IsGraphOf symbols ts all_count (path_of_rules x.rules) g) same a) l,
          (many.0, subst (λ k. 4096 < k) (sym (count_blocks many.0)) many.1),
        )
    select_cause g a l ps f NoMemory k = tt

-- where so many different paths have a first state that the limit is passed, it is passed by these states alone
pub asked_cause : (y : Source) (ps : List Path) (e : RulesFault) → IsPathsCause ps e → IsSelectCause y ps e
asked_cause y ps TooManyPredicates k = k
asked_cause y ps TooManyAncestorStates k = k
asked_cause y ps TooManySelectStates k = λ symbols h. (0, k)
asked_cause y ps NoMemory k = k

-- where there are too many predicates
pub predicates_cause : (symbols : List Mention) (x : s.Sheet) (e : RulesFault) → IsPredicatesCause (predicates_of x) e → IsCause symbols x e
predicates_cause symbols x TooManyPredicates k = k
predicates_cause symbols x TooManyAncestorStates k = absurd k
predicates_cause symbols x TooManySelectStates k = absurd k
predicates_cause symbols x NoMemory k = tt

-- where one more path has too many states, all paths have
pub next_cause : (y : Source) (ps : List Path) (i : ℕ) (p : Path) (gs : List Graph) (left : ℕ) → i < length ps → p ≡ get_or ps i p → left + count_states gs ≡ 4096
    → ((symbols : List Mention) → IsSourceOf symbols y → AreGraphs symbols (seen.predicates y.predicates.items) (take i ps) gs) → (e : RulesFault) → IsNextCause y p left e → IsSelectCause y ps e
next_cause y ps i p gs left l is e a TooManyPredicates k = k
next_cause y ps i p gs left l is e a TooManyAncestorStates k = k
next_cause y ps i p gs left l is e a TooManySelectStates k = λ symbols h.
    let split : take i ps ++ p ∷ drop (i + 1) ps ≡ ps = ap (λ q. take i ps ++ q ∷ drop (i + 1) ps) is ∙ (sym (ap (λ w. take i ps ++ w) (drop_more ps i p l)) ∙ take-append-drop i ps) in
    subst (λ (qs : List Path). (n : ℕ) × (4096 < count_by symbols (seen.predicates y.predicates.items) qs n)) split
    (count_passes symbols (seen.predicates y.predicates.items) (take i ps) (drop (i + 1) ps) p gs left (a symbols h) e (k symbols h))
next_cause y ps i p gs left l is e a NoMemory k = tt

-- what holds of a source's own predicates holds of the stylesheet's
module _ (symbols : List Mention) (x : s.Sheet) (y : Source) (h : IsSourceOf symbols y) (same : seen.predicates y.predicates.items ≡ predicates_of x) where
  pub above_is : (g : Graph) → ((symbols : List Mention) → IsSourceOf symbols y → IsGraphOf symbols (seen.predicates y.predicates.items) all_count (path_of_rules x.rules) g)
      → IsGraphOf symbols (predicates_of x) all_count (path_of_rules x.rules) g
  above_is g k = subst (λ (ts : List s.Test). IsGraphOf symbols ts all_count (path_of_rules x.rules) g) same (k symbols h)

  pub selected_are : (ps : List Path) (gs : List Graph) → ps ≡ paths_of x → ((symbols : List Mention) → IsSourceOf symbols y → AreGraphs symbols (seen.predicates y.predicates.items) ps gs) → AreGraphs symbols (predicates_of x) (paths_of x) gs
  selected_are ps gs e k = subst (λ (qs : List Path). AreGraphs symbols (predicates_of x) qs gs) e (subst (λ (ts : List s.Test). AreGraphs symbols ts ps gs) same (k symbols h))

-- one more path
taken : {X Y : Type 0} (f : X → Y) (xs : List X) (i : ℕ) → take i (map f xs) ≡ map f (take i xs)
taken f [] zero = refl
taken f [] (suc i) = refl
taken f (x ∷ xs) zero = refl
taken f (x ∷ xs) (suc i) = ap (λ w. f x ∷ w) (taken f xs i)

abbrev seen_path : Bor PathOf → Path
seen_path p = see.path p.now

path_at : (paths : List (Bor PathOf)) (i : ℕ) (d : Bor PathOf) → i < length paths → seen_path (get_or paths i d) ≡ get_or (seen.looks paths) i (seen_path (get_or paths i d))
path_at paths i d l = sym (get_or-map seen_path paths i (get_or paths i d) ∙ ap seen_path (sym (get_or_default paths i d (get_or paths i d) l)))

pub graphs_at : (y : Source) (paths : List (Bor PathOf)) (i : ℕ) (d : Bor PathOf) (old new : List Graph) (g : Graph) → i < length paths → new ≡ old ++ g ∷ []
    → ((symbols : List Mention) → IsSourceOf symbols y → AreGraphs symbols (seen.predicates y.predicates.items) (seen.looks (take i paths)) old)
    → ((symbols : List Mention) → IsSourceOf symbols y → IsGraphOf symbols (seen.predicates y.predicates.items) some_item (see.path (get_or paths i d).now) g)
    → (symbols : List Mention) → IsSourceOf symbols y → AreGraphs symbols (seen.predicates y.predicates.items) (seen.looks (take (i + 1) paths)) new
graphs_at y paths i d old new g l put so_far here symbols h =
    let more : seen.looks (take (i + 1) paths) ≡ seen.looks (take i paths) ++ seen_path (get_or paths i d) ∷ [] = ap seen.looks (take_more paths i d l) ∙ map-append seen_path (take i paths) (get_or paths i d ∷ []) in
    subst (λ (qs : List Path). AreGraphs symbols (seen.predicates y.predicates.items) qs new) (sym more)
    (subst (λ (gs : List Graph). AreGraphs symbols (seen.predicates y.predicates.items) (seen.looks (take i paths) ++ seen_path (get_or paths i d) ∷ []) gs) (sym put)
    (graphs_more symbols (seen.predicates y.predicates.items) (seen.looks (take i paths)) old (seen_path (get_or paths i d)) g (so_far symbols h) (here symbols h)))

pub left_at : (old new : List Graph) (g : Graph) (left n : ℕ) → new ≡ old ++ g ∷ [] → n ≡ length g.states → n ≤ left → left + count_states old ≡ 4096 → (left - n) + count_states new ≡ 4096
left_at old new g left n put is l so_far =
    let sizes : count_states new ≡ count_states old + length g.states =
    ap count_states put ∙ (ap sum (map-append (λ (w : Graph). length w.states) old (g ∷ [])) ∙ sum_by_push (λ x. x) (map (λ (w : Graph). length w.states) old) (length g.states))
    in
    omega (arith, sizes, is, l, so_far)

pub cause_at : (y : Source) (paths : List (Bor PathOf)) (i : ℕ) (d : Bor PathOf) (gs : List Graph) (left : ℕ) → i < length paths → left + count_states gs ≡ 4096
    → ((symbols : List Mention) → IsSourceOf symbols y → AreGraphs symbols (seen.predicates y.predicates.items) (seen.looks (take i paths)) gs)
    → (e : RulesFault) → IsNextCause y (see.path (get_or paths i d).now) left e → IsSelectCause y (seen.looks paths) e
cause_at y paths i d gs left l so_far a e k =
    next_cause y (seen.looks paths) i (seen_path (get_or paths i d)) gs left (omega (arith, l, length-map paths seen_path)) (path_at paths i d l) so_far
    (λ symbols h. subst (λ (qs : List Path). AreGraphs symbols (seen.predicates y.predicates.items) qs gs) (sym (taken seen_path paths i)) (a symbols h)) e k

-- a fault that is handed on
pub handed_on : {T : Type 0} (r : Result T RulesFault) (x : RulesFault) (P Q : RulesFault → Type 0) → IsErrAnd r (λ e. e ≡ x) → ((e : RulesFault) → P e → Q e) → P x → IfErr r Q
handed_on (Ok v) x P Q h f g = tt
handed_on (Err e) x P Q h f g = f e (subst P (sym h) g)

abbrev erring : (T : Type 0) → GraphFault → Result T GraphFault
erring T e = Err e

pub as_error : (T : Type 0) (e f : GraphFault) → e ≡ f → IsErrOf (erring T e) f
as_error T e f k = ap (erring T) k

-- a source of an alphabet
pub source_is : (symbols : List Mention) (y : Source) (n : ℕ) → map see.name y.names.items ≡ map (fresh_name symbols) (numbers_below (symbol_count symbols)) → y.sets ≡ 2 ^ n → n ≡ length y.predicates.items → IsSourceOf symbols y
source_is symbols y n names sets size = record { names = names; sets = sets ∙ ap (λ k. 2 ^ k) size }

pub few_tests : (x : s.Sheet) (ts : List (Bor TestOf)) → seen.predicates ts ≡ predicates_of x → length ts ≤ 6 → length (predicates_of x) ≤ 6
few_tests x ts e l = omega (arith, l, ap length e, length-map ts (λ (t : Bor TestOf). see.test t.now))

module _ (symbols : List Mention) (r : Rules) where
  abbrev X : s.Sheet
  X = (told r).sheet

  pub rules_built : IsSheet X → AreSymbolsWith symbols X → seen.predicates r.predicates.items ≡ predicates_of X → length r.predicates.items ≤ 6
      → ((f : ForEach) → Contains (eaches_of X) f → slice_get (told r).eaches f.number ≡ Some f.body) → length r.eaches.items ≡ r.sheet.eaches
      → IsGraphOf symbols (predicates_of X) all_count (path_of_rules X.rules) (graph r.above) → length (graph r.above).states ≤ 64
      → seen.moves r.sheet.modes r.moves.items ≡ moves_of X → seen.looks r.looks.items ≡ looks_of X
      → AreGraphs symbols (predicates_of X) (paths_of X) (graphs r.graphs.items) → count_states (graphs r.graphs.items) ≤ 4096
      → AreJobs X r.moves.items → r.selects.items ≡ selects_from 0 (graphs r.graphs.items) → r.starts.items ≡ starts_from 0 (graphs r.graphs.items)
      → length r.modes.items ≡ r.sheet.modes → ((m : ℕ) → m < r.sheet.modes → get_or (numbers r.modes.items) m [] ≡ numbers_in_mode m 0 X.rules)
      → AllKeepEndings r.graphs.items → IsRulesOf symbols r
  rules_built sheet alphabet tests few bodies all_bodies above few_above moves looks selected few_selected jobs selects starts all_modes modes ending =
      let as_paths : map (λ (b : PathUse). b.path) (blocks_of X) ≡ paths_of X = block_paths X in
      record {
        tells = record {
          well_formed = sheet;
          symbols_are = alphabet;
          predicates_are = tests;
          few_predicates = omega (arith, few, length-map r.predicates.items (λ t. see.test t.now));
          eaches_are = bodies;
          all_eaches = length-map r.eaches.items (λ b. see.body b.now) ∙ all_bodies;
          ancestors = above;
          few_ancestors = few_above;
          selects = λ i b e. graph_at symbols (predicates_of X) (paths_of X) (graphs r.graphs.items) i b.path selected (ap (λ w. slice_get w i) (sym as_paths) ∙ mapped_at (λ (b : PathUse). b.path) (blocks_of X) i b e);
          all_selects = as_many symbols (predicates_of X) (paths_of X) (graphs r.graphs.items) selected ∙ (sym (ap length as_paths) ∙ length-map (blocks_of X) (λ (b : PathUse). b.path));
          few_selects = few_selected;
        };
        moves = moves;
        looks = looks;
        jobs = jobs;
        starts = λ i l. ap (λ w. slice_get w i) starts ∙ (start_at 0 (graphs r.graphs.items) i (omega (arith, l, length-map r.graphs.items graph)) ∙ some_same (0 + count_states (take i (graphs r.graphs.items))) (count_states (take i (graphs r.graphs.items))) (omega arith));
        places = λ i g j e l. ap (λ w. slice_get w (count_states (take i (graphs r.graphs.items)) + j)) selects ∙ (select_at 0 (graphs r.graphs.items) i g j e l ∙ select_same (0 + i) i j (omega arith));
        ending = ending;
        modes = λ m l.
            slice_get-get_or (numbers r.modes.items) m [] (omega (arith, l, all_modes, length-map r.modes.items (λ w. w.items))) ∙ ap Some (modes m l);
      }
