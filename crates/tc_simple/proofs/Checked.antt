-- What the checks of a schema say.
use Rattle.std.proofs.Common.{◌≡◌, ℕ, zero, suc, get_or, ◌<◌, List, [], ◌∷◌, refl, ap, ◌∙◌, sym, subst, arith, length, Bool, Option, None, Some}
use Rattle.std.proofs.lemmas.Option.{slice_get_within}
use Rattle.std.proofs.lemmas.List.{length-map}
use Rattle.std.specs.List.{All, filter_map}
use Rattle.tc_graph.specs.Walks.{AreComponents, state_at}
use Rattle.tc_graph.specs.declared.cycles.State.{State}
use Rattle.tc_graph.specs.declared.cycles.State.TheVariants.{New, Done}
use Rattle.tc_model.specs.CompactSyntaxTrees.{SyntaxPattern, Definition, Syntax}
use Rattle.tc_model.specs.SimplifiesParts.{joined_definitions, nodes_of}
use Rattle.tc_model.specs.SimplifiesFaults.{first_answer, first_definition, undefined_at, undefined_reference, unless_defined}
use Rattle.tc_model.proofs.CompactSyntaxClassesUnique.{some_none}
use Rattle.tc_rnc.specs.Views as see
use Rattle.tc_rnc.specs.declared.syntax.SPat.{SPat}
use Rattle.tc_graph.specs.Graph.{IsGraph}
use Rattle.tc_simple.specs.Nodes.{nodes, target, link_rows, HasNumbersBelow}
use Rattle.tc_simple.specs.Tables.{number_of, IsTable}
use Rattle.tc_simple.specs.declared.groups.Table.{Table}
use Rattle.tc_simple.specs.declared.counts.Size.{Size}
use Rattle.tc_model.specs.Simplifies.{Element}
use Rattle.tc_simple.specs.Totals.{total_of}
use Rattle.tc_simple.proofs.Answered.{one_answer, no_answer}
use Rattle.tc_simple.proofs.Reaching.{edge_out}

pub numbers_below : (s : Syntax) (t : Table) → IsTable s t → HasNumbersBelow t (length t.patterns.items)
numbers_below s t h n k e = let (p, got, is) = h.present n k e in slice_get_within t.patterns.items k p got

pub count_links : (t : Table) (w : Bool) → length (link_rows t w) ≡ length t.patterns.items
count_links t w = length-map t.patterns.items (λ (p : SPat). filter_map (target t) (nodes w (see.pattern p)))

pub undefined_here : (s : Syntax) (p : ℕ) → Some p ≡ first_answer (undefined_reference s) (nodes_of s) None → undefined_at s ≡ Some p
undefined_here s p e = one_answer (undefined_reference s) (nodes_of s) (unless_defined s [] s.end) p (sym e)

pub undefined_end : (s : Syntax) (t : Table) → IsTable s t → None ≡ first_answer (undefined_reference s) (nodes_of s) None → None ≡ number_of t [] → undefined_at s ≡ Some s.end
undefined_end s t h e n =
    no_answer (undefined_reference s) (nodes_of s) (unless_defined s [] s.end) (sym e)
    ∙ ap (λ x. elim x as (λ _. Option ℕ) [ Some p ↦ None | None ↦ Some s.end ]) (h.absent [] (sym n))

pub undefined_none : (s : Syntax) (t : Table) (k : ℕ) → IsTable s t → None ≡ first_answer (undefined_reference s) (nodes_of s) None → Some k ≡ number_of t [] → undefined_at s ≡ None
undefined_none s t k h e n =
    let (p, got, is) = h.present [] k (sym n) in
    no_answer (undefined_reference s) (nodes_of s) (unless_defined s [] s.end) (sym e)
    ∙ ap (λ x. elim x as (λ _. Option ℕ) [ Some p ↦ None | None ↦ Some s.end ]) is

pub first_exists : (ds : List Definition) {p : SyntaxPattern} → joined_definitions ds ≡ Some p → (place : ℕ) × (first_definition ds ≡ Some place)
first_exists [] e = absurd (some_none e refl)
first_exists (d ∷ ds) e = (d.place, refl)

pub graph_links : (s : Syntax) (t : Table) → IsTable s t → (w : Bool) → IsGraph (link_rows t w)
graph_links s t h w k j a = let (n, place, at, e) = edge_out s t h w k j a in subst (λ m. j < m) (sym (count_links t w)) (numbers_below s t h n j e)

pub start_within : (s : Syntax) (t : Table) (start : ℕ) → IsTable s t → number_of t [] ≡ Some start → start < length t.patterns.items
start_within s t start h e = numbers_below s t h [] start e

pub order_within : {rows : List (List ℕ)} {states : List State} {order : List ℕ} (count : ℕ) → AreComponents rows states order → length rows ≡ count → All (λ k. k < count) order
order_within {rows} {states} {order} count a same i d h = by (states) (get_or order i d) i (ap (state_at states) (default order i d 0 h) ∙ a.ordered i h) (a.size ∙ same)
  where
    default : (xs : List ℕ) (k d f : ℕ) → k < length xs → get_or xs k d ≡ get_or xs k f
    default [] k d f h = absurd (omega (arith, h))
    default (x ∷ xs) zero d f h = refl
    default (x ∷ xs) (suc k) d f h = default xs k d f (omega (arith, h))

    new_done : {c : ℕ} → New ≡ Done c → ⊥
    new_done e = cc

    at : (xs : List State) (k c : ℕ) → state_at xs k ≡ Done c → k < length xs
    at [] k c e = absurd (new_done e)
    at (x ∷ xs) zero c e = omega arith
    at (x ∷ xs) (suc k) c e = let l = at xs k c e in omega (arith, l)

    by : (xs : List State) (k c : ℕ) → state_at xs k ≡ Done c → length xs ≡ count → k < count
    by xs k c e f = subst (λ n. k < n) f (at xs k c e)

pub total_is : (t : Table) (a b : List Size) (x y : Size) (e f : List Element) (z : Size) → a ≡ b → x ≡ y → e ≡ f → z ≡ total_of t a x e → z ≡ total_of t b y f
total_is t a b x y e f z p q i h = h ∙ (ap (λ m. total_of t m x e) p ∙ (ap (λ m. total_of t b m e) q ∙ ap (λ m. total_of t b y m) i))
