-- The rows of a path's graph are its states.
use Rattle.std.proofs.Common.{◌≡◌, ℕ, zero, suc, ◌+◌, ◌<◌, ◌≤◌, List, [], ◌∷◌, ◌++◌, true, false, not, refl, ap, sym, ◌∙◌, subst, map, filter, length, take, get_or, Option, Some, None, slice_get, Bor, arith}
use Rattle.std.specs.Global.{Vec}
use Rattle.std.specs.List.{list_any, AllZip, All}
use Rattle.std.proofs.lemmas.List.{length-map, get_or_default, take_all, take_more}
use Rattle.std.proofs.lemmas.Option.{get_or_from_slice_get}
use Rattle.std.proofs.lemmas.Simd.{map-map}
use Rattle.tc_alpha.proofs.Members.{Every, all_from_every, every_from_all}
use Rattle.tc_model.specs.Numberings as n
use Rattle.tc_model.specs.PathStates as path
use Rattle.tc_model.specs.PathStates.{State, same_state, first_state}
use Rattle.tc_model.specs.Sheets.{Steps, no_step, step, Path, no_alternative, alternative}
use Rattle.tc_model.specs.Symbols.{Mention}
use Rattle.tc_model.specs.declared.sheet.Test.{Test}
use Rattle.tc_model.specs.declared.tree.Name.{Name}
use Rattle.tc_rules.specs.Classes.{path_states, AreKinds, AreKindsOf, AreLettersOf, marked_by, IsSourceOf}
use Rattle.tc_rules.specs.Graphs as g
use Rattle.tc_rules.specs.Graphs.{IsGraphOf, LeadsTo}
use Rattle.tc_rules.specs.Once.{put_once}
use Rattle.tc_rules.specs.Reached.{counted, kept_by, leads_by, leads_by_set, leads_from, lead_of, rounds, AreReached, IsLead, IsLeadOfClass, AreLeadsByClass, AreLedFrom}
use Rattle.tc_rules.specs.Rows.{words, all_words, state, states, fits, fits_by, leads, leads_of_classes, leads_of_states}
use Rattle.tc_rules.specs.Steps.{both_states, next_state, path_having, steps_having}
use Rattle.tc_rules.specs.Views.{predicates}
use Rattle.tc_rules.specs.Words.{both_words, deep_steps, inner_steps, on_path, ends_of, same_words, IsRow}
use Rattle.tc_rules.specs.declared.graph.Counts.{Counts}
use Rattle.tc_rules.specs.declared.graph.Counts.TheVariants.{All as AllCount, SomeItem}
use Rattle.tc_rules.specs.declared.graph.Kinds.{Kinds}
use Rattle.tc_rules.specs.declared.graph.Leads.{Leads}
use Rattle.tc_rules.specs.declared.graph.Letters.{Letters}
use Rattle.tc_rules.specs.declared.graph.Source.{Source}
use Rattle.tc_rules.specs.declared.rows.Row.{Row}
use Rattle.tc_rules.specs.declared.rows.Sought.TheVariants.{Passes, Deep, Inner}
use Rattle.tc_rules.proofs.Carried.{any_carried, once_carried, once_good, reached_good, reached_carried, many_carried}
use Rattle.tc_rules.proofs.LeadRows.{state_of, IsGood, zero_is, same_is, lead_good, lead_state, leads_led, leads_good}
use Rattle.tc_rules.proofs.OfGraph.{is_graph, are_many}
use Rattle.tc_rules.proofs.Pieces.{mapped_at, unmapped_at}
use Rattle.tc_rules.proofs.SameRows.{state_same, state_self}
use Rattle.tc_rules.proofs.SymbolKinds.{kind_put, classes_are, no_kinds, sets_both}

-- ---- the class of one symbol more
kind_same : (p : Path) (x y : List ℕ) → IsGood p x → IsGood p y → same_words x y ≡ same_state (state_of p x) (state_of p y)
kind_same p x y = same_is state_same state_self p x y

pub kind_added : (numbered : List (Bor Test)) (p : Path) (names : List Name) (name : Name) (old new : Kinds) (ws : List ℕ) (place : ℕ) → IsRow p (path_having numbered p (Passes (Some name))) ws
    → all_words new.kinds.keys ≡ put_once same_words (all_words old.kinds.keys) ws → slice_get (all_words new.kinds.keys) place ≡ Some ws
    → (list_any (same_words ws) (all_words old.kinds.keys) ≡ false → place ≡ length (all_words old.kinds.keys)) → new.classes.items ≡ old.classes.items ++ place ∷ []
    → AreKindsOf numbered p names old → AreKindsOf numbered p (names ++ name ∷ []) new
kind_added numbered p names name old new ws place row put at last pushed h =
    let keys = all_words old.kinds.keys in
    let good : Every (IsGood p) keys = every_from_all (IsGood p) keys h.padded in
    record {
      kinds =
          kind_put numbered p names name (state_of p ws) (path_states p keys) (path_states p (all_words new.kinds.keys)) old.classes.items new.classes.items place row.state
          (ap (path_states p) put ∙ once_carried same_words same_state (state_of p) (IsGood p) (kind_same p) keys ws good row.padded) (mapped_at (state_of p) (all_words new.kinds.keys) place ws at)
          (λ e. last (any_carried same_words same_state (state_of p) (IsGood p) (kind_same p) ws keys row.padded good ∙ e) ∙ sym (length-map keys (state_of p))) pushed h.kinds;
      padded = all_from_every (IsGood p) (all_words new.kinds.keys) (subst (Every (IsGood p)) (sym put) (once_good same_words same_state (state_of p) (IsGood p) (kind_same p) keys ws good row.padded));
    }

-- ---- what is asked of steps
deep_having : (numbered : List (Bor Test)) (ss : Steps) → steps_having numbered ss Deep ≡ deep_steps ss
deep_having numbered no_step = refl
deep_having numbered (step d t w ss) = ap (λ x. d ∷ x) (deep_having numbered ss)

deep_is : (numbered : List (Bor Test)) (p : Path) → path_having numbered p Deep ≡ on_path deep_steps p
deep_is numbered no_alternative = refl
deep_is numbered (alternative ss p) = ap (λ x. x ∷ path_having numbered p Deep) (deep_having numbered ss) ∙ ap (λ xs. deep_steps ss ∷ xs) (deep_is numbered p)

inner_having : (numbered : List (Bor Test)) (ss : Steps) → steps_having numbered ss Inner ≡ inner_steps ss
inner_having numbered no_step = refl
inner_having numbered (step d t w no_step) = refl
inner_having numbered (step d t w (step e u x ss)) = ap (λ y. true ∷ y) (inner_having numbered (step e u x ss))

inner_is : (numbered : List (Bor Test)) (p : Path) → path_having numbered p Inner ≡ on_path inner_steps p
inner_is numbered no_alternative = refl
inner_is numbered (alternative ss p) = ap (λ x. x ∷ path_having numbered p Inner) (inner_having numbered ss) ∙ ap (λ xs. inner_steps ss ∷ xs) (inner_is numbered p)

-- ---- the states of rows
pub states_are : (p : Path) (rows : List Row) → states (ends_of 0 p) rows ≡ path_states p (all_words rows)
states_are p rows = sym (map-map (state_of p) words rows)

counts_are : (counts : Counts) (p : Path) (x : List ℕ) → IsGood p x → kept_by counts x ≡ counted counts (state_of p x)
counts_are AllCount p x h = refl
counts_are SomeItem p x h = ap not (zero_is p x h)

zip_at : {X Y : Type 0} (R : X → Y → Type 0) (xs : List X) (ys : List Y) (i : ℕ) (y : Y) → AllZip R xs ys → slice_get ys i ≡ Some y → (x : X) × (slice_get xs i ≡ Some x) × R x y
zip_at R [] [] i y h e = absurd (cc)
zip_at R [] (z ∷ ys) i y h e = absurd h
zip_at R (x ∷ xs) [] i y h e = absurd h
zip_at R (x ∷ xs) (z ∷ ys) zero y h e = let same : z ≡ y = cc in (x, refl, subst (R x) same h.0)
zip_at R (x ∷ xs) (z ∷ ys) (suc i) y h e = zip_at R xs ys i y h.1 e

module _ (symbols : List Mention) (s : Source) (of_source : IsSourceOf symbols s) (p : Path) (l : Letters) (h : AreLettersOf s.predicates.items p s.sets s.names.items l) (counts : Counts) (first : List ℕ) (begun : IsRow p (first_state p) first) where
  abbrev E : List ℕ
  E = ends_of 0 p

  abbrev kinds : List State
  kinds = path_states p (all_words l.kinds.keys)

  abbrev marked : List State
  marked = path_states p (all_words l.marked.items)

  deep : IsRow p (on_path deep_steps p) (words l.deep)
  deep = subst (λ x. IsRow p x (words l.deep)) (deep_is s.predicates.items p) h.deep

  inner : IsRow p (on_path inner_steps p) (words l.inner)
  inner = subst (λ x. IsRow p x (words l.inner)) (inner_is s.predicates.items p) h.inner

  fits_are : fits l ≡ fits_by kinds marked
  fits_are =
      ap (λ e. fits_by (states e l.kinds.keys) (states e l.marked.items)) h.ends
      ∙ (ap (λ w. fits_by w (states E l.marked.items)) (states_are p l.kinds.keys) ∙ ap (fits_by kinds) (states_are p l.marked.items))

  led : (x : List ℕ) → IsGood p x → map (state_of p) (leads_from l x) ≡ leads_by p (fits l) (state_of p x)
  led x good = leads_led p (words l.deep) (words l.inner) deep inner x good (all_words l.kinds.keys) (all_words l.marked.items) ∙ ap (λ w. leads_by p w (state_of p x)) (sym fits_are)

  good_leads : (x : List ℕ) → IsGood p x → Every (IsGood p) (leads_from l x)
  good_leads x good = leads_good p (words l.deep) (words l.inner) deep inner x good (all_words l.kinds.keys) (all_words l.marked.items)

  pub too_many : (most m : ℕ) → most < length (rounds same_words (kept_by counts) (leads_from l) m (filter (kept_by counts) (first ∷ [])))
      → most < length (n.rounds (counted counts) (path.next_state symbols (predicates s.predicates.items) p) (n.letters_of_elements symbols (predicates s.predicates.items)) m (filter (counted counts) (first_state p ∷ [])))
  too_many most m many =
      are_many symbols s of_source p l.classes.items (states l.ends.items l.kinds.keys) (states l.ends.items l.marked.items) h.classes (counted counts) most m
      (subst (λ x. most < length (rounds same_state (counted counts) (leads_by p (fits l)) m (filter (counted counts) (x ∷ [])))) begun.state
      (many_carried same_words same_state (state_of p) (IsGood p) (kind_same p) (kept_by counts) (counted counts) (leads_from l) (leads_by p (fits l)) (counts_are counts p) led good_leads first begun.padded m most many))

  module _ (keys : List Row) (next : List (Vec Leads)) (reached : AreReached same_words (kept_by counts) (leads_from l) first (all_words keys))
      (of_next : AreLedFrom counts (all_words keys) l next (take (length (all_words keys)) (all_words keys))) where
    good_keys : Every (IsGood p) (all_words keys)
    good_keys = reached_good same_words same_state (state_of p) (IsGood p) (kind_same p) (kept_by counts) (counted counts) (leads_from l) (leads_by p (fits l)) (counts_are counts p) led good_leads first begun.padded (all_words keys) reached

    known_are : states l.ends.items keys ≡ path_states p (all_words keys)
    known_are = ap (λ e. states e keys) h.ends ∙ states_are p keys

    of_states : AreReached same_state (counted counts) (leads_by p (fits l)) (first_state p) (states l.ends.items keys)
    of_states =
        subst (AreReached same_state (counted counts) (leads_by p (fits l)) (first_state p)) (sym known_are)
        (subst (λ x. AreReached same_state (counted counts) (leads_by p (fits l)) x (path_states p (all_words keys))) begun.state
        (reached_carried same_words same_state (state_of p) (IsGood p) (kind_same p) (kept_by counts) (counted counts) (leads_from l) (leads_by p (fits l)) (counts_are counts p) led good_leads first begun.padded (all_words keys) reached))

    all_next : AreLedFrom counts (all_words keys) l next (all_words keys)
    all_next =
        let past : length (all_words keys) ≤ length (all_words keys) = omega arith in
        subst (AreLedFrom counts (all_words keys) l next) (take_all (length (all_words keys)) (all_words keys) past) of_next

    words_at : (rows : List Row) (i : ℕ) (x : State) → slice_get (states l.ends.items rows) i ≡ Some x → (ws : List ℕ) × (slice_get (all_words rows) i ≡ Some ws) × (state_of p ws ≡ x)
    words_at rows i x e = unmapped_at (state_of p) (all_words rows) i x (sym (ap (λ w. slice_get w i) (ap (λ e. states e rows) h.ends ∙ states_are p rows)) ∙ e)

    good_at : (xs : List (List ℕ)) (i : ℕ) (ws : List ℕ) → Every (IsGood p) xs → slice_get xs i ≡ Some ws → IsGood p ws
    good_at [] i ws h e = absurd (cc)
    good_at (x ∷ xs) zero ws h e = let same : x ≡ ws = cc in subst (IsGood p) same h.0
    good_at (x ∷ xs) (suc i) ws h e = good_at xs i ws h.1 e

    abbrev tables : g.Graph
    tables = record { states = states l.ends.items keys; classes = l.classes.items; fits = fits l; texts = map (both_states (state l.ends.items l.text)) (states l.ends.items l.marked.items); next = leads_of_states (all_words l.marked.items) next }

    leads_to : (j : Option ℕ) (ws : List ℕ) (x : State) → IsGood p ws → state_of p ws ≡ x → IsLead counts (all_words keys) j ws → LeadsTo (counted counts) tables j x
    leads_to None ws x good same e = ap (counted counts) (sym same) ∙ (sym (counts_are counts p ws good) ∙ e)
    leads_to (Some j) ws x good same e = (
      ap (counted counts) (sym same) ∙ (sym (counts_are counts p ws good) ∙ e.0),
      ap (λ w. slice_get w j) known_are ∙ (mapped_at (state_of p) (all_words keys) j ws e.1 ∙ ap Some same),
    )

    right : (i c m : ℕ) (x k t : State) → slice_get (states l.ends.items keys) i ≡ Some x → slice_get (states l.ends.items l.kinds.keys) c ≡ Some k → slice_get (states l.ends.items l.marked.items) m ≡ Some t
        → (j : Option ℕ) × (slice_get (get_or (get_or (leads_of_states (all_words l.marked.items) next) i []) c []) m ≡ Some j) × LeadsTo (counted counts) tables j (next_state p (both_states k t) x)
    right i c m x k t ex ek et =
        let a = words_at keys i x ex in
        let b = words_at l.kinds.keys c k ek in
        let d = words_at l.marked.items m t et in
        let sets = all_words l.marked.items in
        let staying = both_words a.0 (words l.deep) in
        let moving = both_words (both_words a.0 (words l.inner)) b.0 in
        let good = good_at (all_words keys) i a.0 good_keys a.1 in
        let v = zip_at (λ (led : Vec Leads) x. AreLeadsByClass counts (all_words keys) l led.items x) next (all_words keys) i a.0 all_next a.1 in
        let of_class = zip_at (IsLeadOfClass counts (all_words keys) l staying (both_words a.0 (words l.inner))) v.0.items (all_words l.kinds.keys) c b.0 v.2 b.1 in
        let target = lead_of staying moving d.0 in
        let at_set : slice_get (leads_by_set staying moving sets) m ≡ Some target = mapped_at (lead_of staying moving) sets m d.0 d.1 in
        let j = zip_at (IsLead counts (all_words keys)) (leads sets of_class.0) (leads_by_set staying moving sets) m target of_class.2 at_set in
        let state_row : get_or (leads_of_states sets next) i [] ≡ leads_of_classes sets v.0.items =
        get_or_from_slice_get (leads_of_states sets next) i (leads_of_classes sets v.0.items) [] (mapped_at (λ (w : Vec Leads). leads_of_classes sets w.items) next i v.0 v.1) in
        let class_row : get_or (leads_of_classes sets v.0.items) c [] ≡ leads sets of_class.0 =
        get_or_from_slice_get (leads_of_classes sets v.0.items) c (leads sets of_class.0) [] (mapped_at (leads sets) v.0.items c of_class.0 of_class.1) in
        let same : state_of p target ≡ next_state p (both_states k t) x =
        lead_state p (words l.deep) (words l.inner) deep inner a.0 good b.0 d.0
        ∙ (ap (λ w. next_state p (both_states w (state_of p d.0)) (state_of p a.0)) b.2
        ∙ (ap (λ w. next_state p (both_states k w) (state_of p a.0)) d.2 ∙ ap (next_state p (both_states k t)) a.2))
        in (
          j.0,
          ap (λ w. slice_get (get_or w c []) m) state_row ∙ (ap (λ w. slice_get w m) class_row ∙ j.1),
          leads_to j.0 target (next_state p (both_states k t) x) (lead_good p (words l.deep) (words l.inner) deep inner a.0 good b.0 d.0) same j.2,
        )

    pub graph_is : IsGraphOf symbols (predicates s.predicates.items) (counted counts) p tables
    graph_is =
        is_graph symbols s of_source p l.classes.items (states l.ends.items l.kinds.keys) (states l.ends.items l.marked.items) h.classes (counted counts) (states l.ends.items keys)
        (map (both_states (state l.ends.items l.text)) (states l.ends.items l.marked.items)) (leads_of_states (all_words l.marked.items) next) of_states h.texts right

-- ---- what the states of a path see of letters
pub letters_are : (numbered : List (Bor Test)) (p : Path) (sets : ℕ) (names : List Name) (l : Letters) (k : Kinds) → l.ends.items ≡ ends_of 0 p → IsRow p (path_having numbered p Deep) (words l.deep) → IsRow p (path_having numbered p Inner) (words l.inner)
    → IsRow p (path_having numbered p (Passes None)) (words l.text) → path_states p (all_words l.marked.items) ≡ marked_by numbered p sets → AreKindsOf numbered p names k → l.kinds ≡ k.kinds → l.classes ≡ k.classes → AreLettersOf numbered p sets names l
letters_are numbered p sets names l k ends deep inner text marked h same_kinds same_classes =
    let states_of : (rows : List Row) → states l.ends.items rows ≡ path_states p (all_words rows) = λ rows. ap (λ e. states e rows) ends ∙ states_are p rows in
    let kinds : AreKinds numbered p names (path_states p (all_words l.kinds.keys)) l.classes.items =
    subst (λ w. AreKinds numbered p names (path_states p (all_words w.keys)) l.classes.items) (sym same_kinds)
    (subst (λ (w : Vec ℕ). AreKinds numbered p names (path_states p (all_words k.kinds.keys)) w.items) (sym same_classes) h.kinds)
    in
    let sets_are : states l.ends.items l.marked.items ≡ marked_by numbered p sets = states_of l.marked.items ∙ marked in
    record {
      ends = ends;
      deep = deep;
      inner = inner;
      classes = classes_are numbered p sets names (states l.ends.items l.kinds.keys) (states l.ends.items l.marked.items) l.classes.items (subst (λ w. AreKinds numbered p names w l.classes.items) (sym (states_of l.kinds.keys)) kinds) sets_are;
      texts =
          ap (λ w. map (both_states w) (states l.ends.items l.marked.items)) (ap (λ e. state e l.text) ends ∙ text.state)
          ∙ (ap (map (both_states (path_having numbered p (Passes None)))) sets_are ∙ sets_both numbered p sets None);
    }

-- ---- the classes of symbols, as the code goes
pub none_kinds : (numbered : List (Bor Test)) (p : Path) (k : Kinds) → k.classes.items ≡ [] → k.kinds.keys ≡ [] → AreKindsOf numbered p [] k
none_kinds numbered p k no_classes no_kinds_yet = record {
  kinds =
      subst (λ (w : List ℕ). AreKinds numbered p [] (path_states p (all_words k.kinds.keys)) w) (sym no_classes)
      (subst (λ (w : List Row). AreKinds numbered p [] (path_states p (all_words w)) []) (sym no_kinds_yet) (no_kinds numbered p));
  padded = subst (λ (w : List Row). All (IsGood p) (all_words w)) (sym no_kinds_yet) (all_from_every (IsGood p) [] tt);
}

pub kinds_go : (numbered : List (Bor Test)) (p : Path) (xs ys : List Name) (same : ys ≡ xs) (i : ℕ) (d : Name) (old new : Kinds) → i < length ys
    → ((names : List Name) → AreKindsOf numbered p names old → AreKindsOf numbered p (names ++ get_or ys i d ∷ []) new)
    → AreKindsOf numbered p (take i xs) old → AreKindsOf numbered p (take (i + 1) xs) new
kinds_go numbered p xs ys same i d old new l put h =
    let n = get_or ys i d in
    let inside : i < length xs = subst (λ (w : List Name). i < length w) same l in
    let at : n ≡ get_or xs i n = get_or_default ys i d n l ∙ ap (λ (w : List Name). get_or w i n) same in
    let names : take (i + 1) xs ≡ take i xs ++ n ∷ [] = take_more xs i n inside ∙ ap (λ w. take i xs ++ w ∷ []) (sym at) in
    subst (λ w. AreKindsOf numbered p w new) (sym names) (put (take i xs) h)
