-- The pairs of trees, tree by tree.
use Rattle.std.proofs.Common.{◌≡◌, ◌<◌, ◌≤◌, ◌↔◌, ℕ, zero, suc, ◌+◌, ◌*◌, List, [], ◌∷◌, ◌++◌, length, take, drop, get_or, map, ◌-◌, Result, Ok, Err, IfOk, Bool, true, false, Some, slice_get, refl, sym, ap, ◌∙◌, subst, arith, add-one}
use Rattle.std.specs.List.{slice_range}
use Rattle.std.proofs.Math.Nat.{mul_comm}
use Rattle.std.proofs.Math.Seq.{take-suc}
use Rattle.std.proofs.lemmas.Option.{slice_get_read, slice_get_within}
use Rattle.std.proofs.lemmas.List.{take_all}
use Rattle.std.proofs.lemmas.Nat.{mul-add-lt}
use Rattle.tc_mat.specs.Matrix.{Matrix, HasPair, IsIdentity, IsComposition}
use Rattle.tc_model.specs.Names.{ExpandedName}
use Rattle.tc_model.specs.Trees.{Trees, none, text, is_white_space_only}
use Rattle.tc_model.specs.Views as see
use Rattle.tc_model.specs.declared.tree.Node.{Node}
use Rattle.tc_model.specs.Grammars.{Grammar, ElementPattern, element_at, in_class, InClass}
use Rattle.tc_model.specs.Validity.{IsValidOutput}
use Rattle.tc_model.specs.States.{Side, output, text_leaf, ref_leaf, automaton, state_count, IsEdge, Leads, at_end, past_white, by_text, the_start}
use Rattle.tc_model.specs.Symbols.{Mention, symbol_of}
use Rattle.tc_model.proofs.Views.{trees_append}
use Rattle.tc_auto.specs.Stands as held
use Rattle.tc_auto.specs.declared.auto.Auto.{Auto}
use Rattle.tc_hedge.specs.Leading.{ArePairsOf, ArePairsOfText, ArePairsAround, IsTaken}
use Rattle.tc_hedge.specs.declared.hedge.Hedge.{Hedge}
use Rattle.tc_hedge.specs.Stands.{Stands}
use Rattle.tc_hedge.specs.Items.{IsAround}
use Rattle.tc_model.proofs.StatesParts.{edge_within}
use Rattle.tc_hedge.proofs.Bounds.{states_of, patterns_of}
use Rattle.tc_hedge.proofs.TableRows.{get_map}
use Rattle.tc_hedge.proofs.Leading.{pairs_compose, run_of_leads, run_of_none, outputs_lead_exactly, first_below}

-- the pairs of nothing are those of each state with itself
pub nothing_led : (g : Grammar) (side : Side) (a : Auto) → held.Stands side g a → (m : Matrix) → m.size ≡ length a.rows.items → IsIdentity m → ArePairsOf g side none m
nothing_led g side a st m size is i j = (to, of)
  where
    to : HasPair m i j → (i < state_count g side) × Leads g side i none j
    to p = let (low, same) = (is i j).0 p in (omega (arith, size, states_of side g a st), subst (λ w. Leads g side i none w) same at_end)

    of : (i < state_count g side) × Leads g side i none j → HasPair m i j
    of (low, l) = (is i j).1 (omega (arith, size, states_of side g a st), run_of_none g side refl (run_of_leads g side l))

-- a text of white space alone stays where it is
pub white_led : (g : Grammar) (side : Side) (s : List ℕ) (m : Matrix) → is_white_space_only s ≡ true → ArePairsOf g side none m → ArePairsOf g side (text s none) m
white_led g side s m white pairs i j = (to, of)
  where
    to : HasPair m i j → (i < state_count g side) × Leads g side i (text s none) j
    to p = let (low, l) = (pairs i j).0 p in (low, past_white white l)

    of : (i < state_count g side) × Leads g side i (text s none) j → HasPair m i j
    of (low, past_white w l) = (pairs i j).1 (low, l)
    of (low, by_text other e l) = absurd (cc)

-- any other text takes an edge
pub text_led : (g : Grammar) (side : Side) (s : List ℕ) (m : Matrix) → is_white_space_only s ≡ false → ArePairsOfText g side m → ArePairsOf g side (text s none) m
text_led g side s m other pairs i j = (to, of)
  where
    to : HasPair m i j → (i < state_count g side) × Leads g side i (text s none) j
    to p = let edge = (pairs i j).0 p in ((edge_within g side i j text_leaf edge).0, by_text other edge at_end)

    of : (i < state_count g side) × Leads g side i (text s none) j → HasPair m i j
    of (low, past_white w l) = absurd (cc)
    of (low, by_text o edge l) = (pairs i j).1 (subst (λ w. IsEdge g side i text_leaf w) (run_of_none g side refl (run_of_leads g side l)) edge)

-- one tree more
pub tree_more : (g : Grammar) (side : Side) (ns : List Node) (i : ℕ) (x : Node) (old one new : Matrix) → i < length ns → x ≡ get_or ns i x
    → ArePairsOf g side (see.trees (take i ns)) old → ArePairsOf g side (see.before x none) one → IsComposition old one new → ArePairsOf g side (see.trees (take (i + 1) ns)) new
tree_more g side ns i x old one new low is before here both =
    let more : take (i + 1) ns ≡ take i ns ++ x ∷ [] = ap (λ m. take m ns) (add-one i) ∙ (take-suc ns i x low ∙ ap (λ (w : Node). take i ns ++ w ∷ []) (sym is)) in
    subst (λ h. ArePairsOf g side h new) (sym (ap see.trees more ∙ trees_append (take i ns) (x ∷ [])))
    (pairs_compose g side (see.trees (take i ns)) (see.before x none) old one new before here both)

pub all_trees : (g : Grammar) (side : Side) (ns : List Node) (i : ℕ) (m : Matrix) → length ns ≤ i → ArePairsOf g side (see.trees (take i ns)) m → ArePairsOf g side (see.trees ns) m
all_trees g side ns i m all pairs = subst (λ w. ArePairsOf g side (see.trees w) m) (take_all i ns all) pairs

-- valid outputs by the pairs
pub outputs_told : (g : Grammar) (h : Trees) (m : Matrix) → ArePairsOf g output h m → IsValidOutput g h ↔ ((j : ℕ) × HasPair m 0 j × (automaton g.start).accepting j)
outputs_told g h m pairs = (λ v. to ((outputs_lead_exactly g h).0 v), λ x. (outputs_lead_exactly g h).1 (of x))
  where
    to : (y : ℕ) × Leads g output 0 h y × (automaton g.start).accepting y → (j : ℕ) × HasPair m 0 j × (automaton g.start).accepting j
    to (y, l, acc) = (y, (pairs 0 y).1 (first_below g output the_start, l), acc)

    of : (j : ℕ) × HasPair m 0 j × (automaton g.start).accepting j → (y : ℕ) × Leads g output 0 h y × (automaton g.start).accepting y
    of (j, p, acc) = (j, ((pairs 0 j).0 p).1, acc)

-- flags that tell the classes of a name
abbrev pub TellsClasses : Grammar → ExpandedName → List Bool → Type 0
TellsClasses g n allowed = (k : ℕ) (e : ElementPattern) → slice_get g.elements k ≡ Some e → slice_get allowed k ≡ Some (in_class e.names n)

-- the pairs of an element by flags that tell the classes of its name
pub around_told : (g : Grammar) (side : Side) (n : ExpandedName) (allowed : List Bool) (inner m : Matrix) → TellsClasses g n allowed
    → ((i j : ℕ) → HasPair m i j ↔ IsAround g side allowed inner i j) → ArePairsAround g side n inner m
around_told g side n allowed inner m tells steps i j = (λ p. to ((steps i j).0 p), λ x. (steps i j).1 (of x))
  where
    inside : (k : ℕ) (e : ElementPattern) → element_at g.elements k ≡ Some e → slice_get allowed (k - 1) ≡ Some true → InClass e.names n
    inside zero e at told = absurd (cc)
    inside (suc k) e at told =
        let place : suc k - 1 ≡ k = omega arith in
        let found = tells k e at in
        let here : slice_get allowed k ≡ Some true = subst (λ w. slice_get allowed w ≡ Some true) place told in
        cc

    told : (k : ℕ) (e : ElementPattern) → element_at g.elements k ≡ Some e → InClass e.names n → slice_get allowed (k - 1) ≡ Some true
    told zero e at within = absurd (cc)
    told (suc k) e at within =
        let place : k ≡ suc k - 1 = omega arith in
        subst (λ w. slice_get allowed w ≡ Some true) place (tells k e at ∙ ap (λ w. Some w) within)

    to : IsAround g side allowed inner i j → (k : ℕ) × (e : ElementPattern) × (element_at g.elements k ≡ Some e) × InClass e.names n × IsTaken g side inner k e × IsEdge g side i (ref_leaf k) j
    to (k, (e, at, set, taken), edge) = (k, e, at, inside k e at set, taken, edge)

    of : (k : ℕ) × (e : ElementPattern) × (element_at g.elements k ≡ Some e) × InClass e.names n × IsTaken g side inner k e × IsEdge g side i (ref_leaf k) j → IsAround g side allowed inner i j
    of (k, e, at, within, taken, edge) = (k, (e, at, told k e at within, taken), edge)

-- the row of a symbol tells the classes of its names
pub row_tells : (g : Grammar) (n : ExpandedName) (items : List Bool) (row patterns : ℕ) → patterns ≡ length g.elements
    → ((k : ℕ) (e : ElementPattern) → slice_get g.elements k ≡ Some e → slice_get items (row + k) ≡ Some (in_class e.names n)) → TellsClasses g n (slice_range items row (row + patterns))
row_tells g n items row patterns count tells k e at =
    let low : k < patterns = omega (arith, count, slice_get_within g.elements k e at) in
    let size : row + patterns - row ≡ patterns = omega arith in
    ap (λ w. slice_get (take w (drop row items)) k) size ∙ (get_take (drop row items) patterns k low ∙ (get_drop items row k ∙ tells k e at))
  where
    get_take : (xs : List Bool) (m i : ℕ) → i < m → slice_get (take m xs) i ≡ slice_get xs i
    get_take xs zero i l = absurd (omega arith)
    get_take [] (suc m) i l = refl
    get_take (x ∷ xs) (suc m) zero l = refl
    get_take (x ∷ xs) (suc m) (suc i) l = get_take xs m i (omega arith)

    get_drop : (xs : List Bool) (m i : ℕ) → slice_get (drop m xs) i ≡ slice_get xs (m + i)
    get_drop xs zero i = let e : i ≡ 0 + i = omega arith in ap (slice_get xs) e
    get_drop [] (suc m) i = refl
    get_drop (x ∷ xs) (suc m) i = let e : suc (m + i) ≡ suc m + i = omega arith in get_drop xs m i ∙ ap (slice_get (x ∷ xs)) e

-- flags pushed for all element patterns tell the classes
pub pushed_tell : (g : Grammar) (n : ExpandedName) (allowed : List Bool) → allowed ≡ map (λ (e : ElementPattern). in_class e.names n) g.elements → TellsClasses g n allowed
pushed_tell g n allowed is k e at = ap (λ w. slice_get w k) is ∙ get_map g.elements (λ (d : ElementPattern). in_class d.names n) k e at

-- two facts of a set that was made
pub both_of : {E : Type 0} {P Q R : Matrix → Type 0} (r : Result Matrix E) → IfOk r P → IfOk r Q → ((m : Matrix) → P m → Q m → R m) → IfOk r R
both_of (Ok m) p q f = f m p q
both_of (Err e) p q f = tt

-- the row of a symbol in the table of a hedge
pub symbol_row_tells : (side : Side) (g : Grammar) (symbols : List Mention) (h : Hedge) → Stands side g symbols h → (n : ExpandedName) (symbol : ℕ) → symbol_of symbols n ≡ symbol
    → (items : List Bool) → items ≡ h.allowed.items → (patterns : ℕ) → patterns ≡ length h.auto.elements.now → TellsClasses g n (slice_range items (symbol * patterns) (symbol * patterns + patterns))
symbol_row_tells side g symbols h st n symbol is items same patterns count =
    let all : patterns ≡ length g.elements = count ∙ patterns_of side g h.auto st.auto in
    row_tells g n items (symbol * patterns) patterns all
    (λ k e at.
    ap (λ w. slice_get w (symbol * patterns + k)) same
    ∙ (ap (λ w. slice_get h.allowed.items (w * patterns + k)) (sym is)
    ∙ (ap (λ w. slice_get h.allowed.items (symbol_of symbols n * w + k)) all ∙ st.tells n k e at)))

-- the place of a symbol and of an element pattern in the table
pub class_within : (h : Hedge) (symbol count number : ℕ) → count ≡ length h.auto.elements.now → symbol < h.symbols → 1 ≤ number → number ≤ length h.auto.elements.now → symbol * count + (number - 1) < length h.allowed.items
class_within h symbol count number all low from within =
    let n = length h.auto.elements.now in
    let place : symbol * n + (number - 1) < n * h.symbols = mul-add-lt symbol n (number - 1) h.symbols low (omega (arith, from, within)) in
    subst (λ w. symbol * w + (number - 1) < length h.allowed.items) (sym all) (omega (arith, place, h.tabled, mul_comm n h.symbols))

-- what stands there
pub class_told : (side : Side) (x : Grammar) (symbols : List Mention) (h : Hedge) → Stands side x symbols h → (name : ExpandedName) (symbol : ℕ) → symbol_of symbols name ≡ symbol
    → (count : ℕ) → count ≡ length h.auto.elements.now → (number : ℕ) (e : ElementPattern) → element_at x.elements number ≡ Some e
    → (b : Bool) (place : ℕ) → place ≡ symbol * count + (number - 1) → place < length h.allowed.items → b ≡ get_or h.allowed.items place b → b ≡ in_class e.names name
class_told side x symbols h st name symbol is count all zero e at b place here low got = absurd (cc)
class_told side x symbols h st name symbol is count all (suc k) e at b place here low got =
    let n : count ≡ length x.elements = all ∙ patterns_of side x h.auto st.auto in
    let before : suc k - 1 ≡ k = omega arith in
    let same : place ≡ symbol_of symbols name * length x.elements + k = here ∙ (ap (λ w. symbol * count + w) before ∙ (ap (λ w. w * count + k) (sym is) ∙ ap (λ w. symbol_of symbols name * w + k) n)) in
    let found : Some b ≡ Some (in_class e.names name) = sym (slice_get_read h.allowed.items (length h.allowed.items) place b refl low got) ∙ (ap (slice_get h.allowed.items) same ∙ st.tells name k e at) in
    cc
