-- Trees that are taken piece by piece.
use Rattle.std.proofs.Common.{◌≡◌, ◌∙◌, ◌<◌, ◌≤◌, ◌+◌, ℕ, List, ◌∷◌, ◌++◌, refl, ap, sym, subst, length, get_or, drop, append_assoc}
use Rattle.std.proofs.lemmas.List.{drop_all}
use Rattle.tc_model.specs.Events.{Event, characters, start, end, Takes, nothing, event, events}
use Rattle.tc_model.specs.Names.{ExpandedName}
use Rattle.tc_model.specs.Trees.{Trees, none, text, element, beside}
use Rattle.tc_model.specs.Views.{before, trees}
use Rattle.tc_model.specs.declared.tree.Node.{Node}
use Rattle.tc_model.proofs.Views.{before_beside, left_one}

takes_both : {S : Type 0} {one : S → Event → S → Type 0} {a b d : S} {es fs : List Event} → Takes one a es b → Takes one b fs d → Takes one a (es ++ fs) d
takes_both nothing k = k
takes_both (event o h) k = event o (takes_both h k)

events_beside : (a b : Trees) → events (beside a b) ≡ events a ++ events b
events_beside none b = refl
events_beside (text s rest) b = ap (λ w. characters s ∷ w) (events_beside rest b)
events_beside (element n kids rest) b =
    ap (λ w. start n ∷ (events kids ++ end ∷ w)) (events_beside rest b) ∙ ap (λ w. start n ∷ w) (sym (append_assoc (events kids) (end ∷ events rest) (events b)))

events_before : (x : Node) (h : Trees) → events (before x h) ≡ events (before x none) ++ events h
events_before x h = ap events (sym (before_beside x none h)) ∙ events_beside (before x none) h

module _ {S : Type 0} {one : S → Event → S → Type 0} where
  pub text_taken : {a b : S} (s : List ℕ) → one a (characters s) b → Takes one a (events (text s none)) b
  text_taken s o = event o nothing

  pub element_taken : {a b c d : S} (n : ExpandedName) (kids : Trees) → one a (start n) b → Takes one b (events kids) c → one c end d → Takes one a (events (element n kids none)) d
  element_taken n kids o k e = event o (takes_both k (event e nothing))

  -- one tree more is taken, and then those behind it
  pub one_more : {a b u : S} (ns : List Node) (i : ℕ) (x : Node) → i < length ns → x ≡ get_or ns i x → Takes one a (events (before x none)) b → Takes one b (events (trees (drop (i + 1) ns))) u → Takes one a (events (trees (drop i ns))) u
  one_more {a} {b} {u} ns i x low is t r =
      subst (λ es. Takes one a es u) (sym (ap events (left_one ns i x low is) ∙ events_before x (trees (drop (i + 1) ns)))) (takes_both t r)

  pub none_left : {a : S} (ns : List Node) (i : ℕ) → length ns ≤ i → Takes one a (events (trees (drop i ns))) a
  none_left {a} ns i high = subst (λ (w : List Node). Takes one a (events (trees w)) a) (sym (drop_all i ns high)) nothing
