-- The table of classes and symbols.
use Rattle.std.proofs.Common.{◌≡◌, ◌<◌, ◌≤◌, ◌⊎◌, inl, inr, ℕ, zero, suc, ◌+◌, ◌*◌, List, [], ◌∷◌, ◌++◌, length, map, take, Bool, Some, slice_get, refl, sym, ap, ◌∙◌, subst, arith, add-one, append_assoc, length-append, get_or, All}
use Rattle.std.proofs.lemmas.Bool.{cases_lt}
use Rattle.std.proofs.lemmas.List.{length-map}
use Rattle.std.proofs.lemmas.Option.{slice_get_within, get_or_from_slice_get}
use Rattle.tc_model.specs.Names.{ExpandedName}
use Rattle.tc_model.specs.Grammars.{Grammar, ElementPattern, element_at, in_class}
use Rattle.tc_model.specs.Sheets.{Sheet}
use Rattle.tc_model.specs.Symbols.{Mention, a_name, a_namespace, place_of, symbol_of, symbol_count, symbols_of, fresh_name, AreAlike, AreSymbols}
use Rattle.tc_alpha.proofs.Alike.{alike, either, own_symbol, shared_symbol}
use Rattle.tc_alpha.proofs.Places.{place_le}
use Rattle.tc_alpha.proofs.Fresh.{symbol_told}
use Rattle.tc_alpha.proofs.Lawful.{are_symbols}
use Rattle.tc_model.specs.States.{Side}
use Rattle.tc_auto.specs.Stands as held
use Rattle.tc_hedge.specs.declared.hedge.Hedge.{Hedge}
use Rattle.tc_hedge.specs.Stands.{class_table, Stands}

-- one element pattern more
row_more : (es : List ElementPattern) (f : ElementPattern → Bool) (k : ℕ) (b : Bool) → k < length es → ((e : ElementPattern) → slice_get es k ≡ Some e → b ≡ f e)
    → map f (take (suc k) es) ≡ map f (take k es) ++ b ∷ []
row_more [] f k b low is = absurd (omega arith)
row_more (e ∷ es) f zero b low is = ap (λ w. w ∷ []) (sym (is e refl))
row_more (e ∷ es) f (suc k) b low is = ap (λ w. f e ∷ w) (row_more es f k b (omega arith) is)

pub allowed_more : (x : Grammar) (f : ElementPattern → Bool) (k : ℕ) (b : Bool) (start old new : List Bool) → k < length x.elements
    → ((e : ElementPattern) → element_at x.elements (k + 1) ≡ Some e → b ≡ f e) → old ≡ start ++ map f (take k x.elements) → new ≡ old ++ b ∷ []
    → new ≡ start ++ map f (take (k + 1) x.elements)
allowed_more x f k b start old new low is so_far pushed =
    pushed
    ∙ (ap (λ w. w ++ b ∷ []) so_far
    ∙ (append_assoc start (map f (take k x.elements)) (b ∷ [])
    ∙ (ap (λ w. start ++ w) (sym (row_more x.elements f k b low (λ e at. is e (subst (λ m. element_at x.elements m ≡ Some e) (sym (add-one k)) at))))
    ∙ ap (λ m. start ++ map f (take m x.elements)) (sym (add-one k)))))

-- one symbol more
pub table_more : (x : Grammar) (symbols : List Mention) (s : ℕ) (n : ExpandedName) (old new : List Bool) → n ≡ fresh_name symbols s → old ≡ class_table x symbols s
    → new ≡ old ++ map (λ (e : ElementPattern). in_class e.names n) x.elements → new ≡ class_table x symbols (s + 1)
table_more x symbols s n old new is so_far pushed =
    pushed
    ∙ (ap (λ w. w ++ map (λ (e : ElementPattern). in_class e.names n) x.elements) so_far
    ∙ (ap (λ m. class_table x symbols s ++ map (λ (e : ElementPattern). in_class e.names m) x.elements) is
    ∙ ap (class_table x symbols) (sym (add-one s))))

table_length : (x : Grammar) (symbols : List Mention) (c : ℕ) → length (class_table x symbols c) ≡ c * length x.elements
table_length x symbols zero = omega arith
table_length x symbols (suc c) =
    omega (
      arith,
      table_length x symbols c,
      length-append (class_table x symbols c) (map (λ (e : ElementPattern). in_class e.names (fresh_name symbols c)) x.elements),
      length-map x.elements (λ (e : ElementPattern). in_class e.names (fresh_name symbols c)),
    )

get_left : (xs ys : List Bool) (i : ℕ) (b : Bool) → slice_get xs i ≡ Some b → slice_get (xs ++ ys) i ≡ Some b
get_left [] ys i b at = absurd (cc)
get_left (x ∷ xs) ys zero b at = at
get_left (x ∷ xs) ys (suc i) b at = get_left xs ys i b at

get_right : (xs ys : List Bool) (i : ℕ) (b : Bool) → slice_get ys i ≡ Some b → slice_get (xs ++ ys) (length xs + i) ≡ Some b
get_right [] ys i b at = let e : i ≡ 0 + i = omega arith in subst (λ w. slice_get ys w ≡ Some b) e at
get_right (x ∷ xs) ys i b at = let e : suc (length xs + i) ≡ length (x ∷ xs) + i = omega arith in subst (λ w. slice_get (x ∷ (xs ++ ys)) w ≡ Some b) e (get_right xs ys i b at)

pub get_map : (es : List ElementPattern) (f : ElementPattern → Bool) (k : ℕ) (e : ElementPattern) → slice_get es k ≡ Some e → slice_get (map f es) k ≡ Some (f e)
get_map [] f k e at = absurd (cc)
get_map (d ∷ es) f zero e at = let same : d ≡ e = cc in ap (λ w. Some (f w)) same
get_map (d ∷ es) f (suc k) e at = get_map es f k e at

-- a symbol's row
table_at : (x : Grammar) (symbols : List Mention) (c s k : ℕ) (e : ElementPattern) → s < c → slice_get x.elements k ≡ Some e
    → slice_get (class_table x symbols c) (s * length x.elements + k) ≡ Some (in_class e.names (fresh_name symbols s))
table_at x symbols zero s k e low at = absurd (omega arith)
table_at x symbols (suc c) s k e low at = by (cases_lt s c) (λ (l : s < c). table_at x symbols c s k e l at)
  where
    f : ElementPattern → Bool
    f d = in_class d.names (fresh_name symbols c)

    by : (s < c) ⊎ (c ≤ s) → (s < c → slice_get (class_table x symbols c) (s * length x.elements + k) ≡ Some (in_class e.names (fresh_name symbols s)))
        → slice_get (class_table x symbols (suc c)) (s * length x.elements + k) ≡ Some (in_class e.names (fresh_name symbols s))
    by (inl l) before = get_left (class_table x symbols c) (map f x.elements) _ _ (before l)
    by (inr l) before =
        let same : c ≡ s = omega arith in
        let place : length (class_table x symbols c) + k ≡ s * length x.elements + k = omega (arith, table_length x symbols c, ap (λ w. w * length x.elements) same) in
        let here = get_right (class_table x symbols c) (map f x.elements) k _ (get_map x.elements f k e at) in
        subst (λ w. slice_get (class_table x symbols (suc c)) w ≡ Some (in_class e.names (fresh_name symbols s))) place
        (subst (λ w. slice_get (class_table x symbols (suc c)) (length (class_table x symbols c) + k) ≡ Some (in_class e.names (fresh_name symbols w))) same here)

symbol_below : (xs : List Mention) (n : ExpandedName) → symbol_of xs n < symbol_count xs
symbol_below xs n = by (either (a_name n) xs)
  where
    by : (place_of (a_name n) xs < length xs) ⊎ (place_of (a_name n) xs ≡ length xs) → symbol_of xs n < symbol_count xs
    by (inl l) = omega (arith, own_symbol xs n l)
    by (inr e) = omega (arith, shared_symbol xs n e, place_le (a_namespace n.uri) xs)

in_all : (es : List ElementPattern) (n m : ExpandedName) (k : ℕ) (e : ElementPattern) → slice_get es k ≡ Some e → All (λ (d : ElementPattern). in_class d.names n ≡ in_class d.names m) es → in_class e.names n ≡ in_class e.names m
in_all es n m k e at all =
    let found : get_or es k e ≡ e = get_or_from_slice_get es k e e at in
    subst (λ (d : ElementPattern). in_class d.names n ≡ in_class d.names m) found (all k e (slice_get_within es k e at))

-- the table tells of each name by its symbol
pub table_tells : (x input output : Grammar) (sheet : Sheet) (symbols : List Mention) → symbols ≡ symbols_of input output sheet → (x ≡ input) ⊎ (x ≡ output)
    → (items : List Bool) → items ≡ class_table x symbols (symbol_count symbols)
    → (n : ExpandedName) (k : ℕ) (e : ElementPattern) → slice_get x.elements k ≡ Some e → slice_get items (symbol_of symbols n * length x.elements + k) ≡ Some (in_class e.names n)
table_tells x input output sheet symbols of which items is n k e at =
    ap (λ w. slice_get w (symbol_of symbols n * length x.elements + k)) is
    ∙ (table_at x symbols (symbol_count symbols) (symbol_of symbols n) k e (symbol_below symbols n) at ∙ ap (λ w. Some w) (by which))
  where
    fresh : ExpandedName
    fresh = fresh_name symbols (symbol_of symbols n)

    one : symbol_of symbols fresh ≡ symbol_of symbols n
    one = symbol_told symbols (subst AreSymbols (sym of) (are_symbols input output sheet)) (symbol_of symbols n) (symbol_below symbols n) fresh refl

    likes : AreAlike input output sheet fresh n
    likes = alike input output sheet fresh n (subst (λ w. symbol_of w fresh ≡ symbol_of w n) of one)

    by : (x ≡ input) ⊎ (x ≡ output) → in_class e.names fresh ≡ in_class e.names n
    by (inl a) = in_all x.elements fresh n k e at (subst (λ (w : Grammar). All (λ (d : ElementPattern). in_class d.names fresh ≡ in_class d.names n) w.elements) (sym a) likes.in_input)
    by (inr a) = in_all x.elements fresh n k e at (subst (λ (w : Grammar). All (λ (d : ElementPattern). in_class d.names fresh ≡ in_class d.names n) w.elements) (sym a) likes.in_output)

pub made_stands : (side : Side) (x input output : Grammar) (sheet : Sheet) (symbols : List Mention) (h : Hedge) → held.Stands side x h.auto → symbols ≡ symbols_of input output sheet → (x ≡ input) ⊎ (x ≡ output)
    → h.symbols ≡ symbol_count symbols → h.allowed.items ≡ class_table x symbols (symbol_count symbols) → Stands side x symbols h
made_stands side x input output sheet symbols h st of which counted is = record {
  auto = st;
  counted = counted;
  tells = table_tells x input output sheet symbols of which h.allowed.items is;
}
