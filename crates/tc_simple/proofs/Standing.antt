-- What stands in patterns, and what that says of what is reached.
use Rattle.std.proofs.Common.{◌≡◌, ◌⊎◌, inl, inr, suc, Bool, true, false, cond, List, [], ◌∷◌, ◌++◌, refl, ap, ◌∙◌, sym, subst, arith, Option, None, Some}
use Rattle.std.specs.List.{Contains, filter_map, cons_option}
use Rattle.tc_model.specs.CompactSyntaxTrees.{SyntaxPattern, empty, not_allowed, text, attribute, ref, element, mixed, optional, zero_or_more, one_or_more, group, choice, interleave, SyntaxPatterns, no_more, more, Syntax}
use Rattle.tc_model.specs.SimplifiesParts.{pattern_of, nodes_in, nodes_in_all, IsAmong, IsOpenPart, Below, Reached}
use Rattle.tc_model.specs.SimplifiesParts as m
use Rattle.tc_model.proofs.SimplifiesUnique.{Has, here, there}
use Rattle.tc_simple.specs.Nodes.{nodes, nodes_of_all}

pub has_left : {X : Type 0} {x : X} (xs ys : List X) → Has xs x → Has (xs ++ ys) x
has_left xs ys h = by ys h
  where
    by : {X : Type 0} {x : X} {xs : List X} (ys : List X) → Has xs x → Has (xs ++ ys) x
    by ys here = here
    by ys (there k) = there (by ys k)

pub has_right : {X : Type 0} {x : X} (xs ys : List X) → Has ys x → Has (xs ++ ys) x
has_right [] ys h = h
has_right (x ∷ xs) ys h = there (has_right xs ys h)

pub none_has : {X : Type 0} {x : X} → Has [] x → ⊥
none_has h = by refl h
  where
    by : {X : Type 0} {x : X} {xs : List X} → xs ≡ [] → Has xs x → ⊥
    by e here = cc
    by e (there k) = cc

-- the first, or one of the others
pub has_first : {X : Type 0} {x y : X} {xs : List X} → Has (y ∷ xs) x → (x ≡ y) ⊎ Has xs x
has_first here = inl refl
has_first (there k) = inr k

pub has_cases : {X : Type 0} {x : X} (xs ys : List X) → Has (xs ++ ys) x → Has xs x ⊎ Has ys x
has_cases [] ys h = inr h
has_cases {X} {x} (z ∷ xs) ys h = by (has_first h) (λ k. has_cases xs ys k)
  where
    more : Has xs x ⊎ Has ys x → Has (z ∷ xs) x ⊎ Has ys x
    more (inl k) = inl (there k)
    more (inr k) = inr k

    by : (x ≡ z) ⊎ Has (xs ++ ys) x → (Has (xs ++ ys) x → Has xs x ⊎ Has ys x) → Has (z ∷ xs) x ⊎ Has ys x
    by (inl e) f = inl (subst (λ w. Has (z ∷ xs) w) (sym e) here)
    by (inr k) f = more (f k)

pub either : {A B C : Type 0} → A ⊎ B → (A → C) → (B → C) → C
either (inl a) f g = f a
either (inr b) f g = g b

pub has_contains : {X : Type 0} {x : X} {xs : List X} → Has xs x → Contains xs x
has_contains here = (0, omega arith, refl)
has_contains (there h) = let (k, l, e) = has_contains h in (suc k, omega (arith, l), e)

pub record Found {X Y : Type 0} (f : X → Option Y) (xs : List X) (y : Y) : Type 0 where
  pub item : X
  pub stands : Has xs item
  pub gives : f item ≡ Some y

pub has_filter : {X Y : Type 0} (f : X → Option Y) (xs : List X) (y : Y) → Has (filter_map f xs) y → Found f xs y
has_filter f [] y h = absurd (none_has h)
has_filter {X} {Y} f (x ∷ xs) y h = by (f x) refl h (λ k. has_filter f xs y k)
  where
    further : Found f xs y → Found f (x ∷ xs) y
    further k = record { item = k.item; stands = there k.stands; gives = k.gives }

    one : (z : Y) → f x ≡ Some z → (y ≡ z) ⊎ Has (filter_map f xs) y → (Has (filter_map f xs) y → Found f xs y) → Found f (x ∷ xs) y
    one z e (inl is) g = record { item = x; stands = here; gives = e ∙ ap Some (sym is) }
    one z e (inr k) g = further (g k)

    by : (o : Option Y) → f x ≡ o → Has (cons_option o (filter_map f xs)) y → (Has (filter_map f xs) y → Found f xs y) → Found f (x ∷ xs) y
    by None e k g = further (g k)
    by (Some z) e k g = one z e (has_first k) g

pub filter_has : {X Y : Type 0} (f : X → Option Y) {x : X} {y : Y} {xs : List X} → Has xs x → f x ≡ Some y → Has (filter_map f xs) y
filter_has {X} {Y} f {x} {y} (here {xs = xs}) e = subst (λ o. Has (cons_option o (filter_map f xs)) y) (sym e) here
filter_has {X} {Y} f {x} {y} (there {y = z} {xs = xs} h) e = by (f z) (filter_has f h e)
  where
    by : (o : Option Y) → Has (filter_map f xs) y → Has (cons_option o (filter_map f xs)) y
    by None k = k
    by (Some w) k = there k

pub node_self : (w : Bool) (p : SyntaxPattern) → Has (nodes w p) p
node_self w empty = here
node_self w not_allowed = here
node_self w text = here
node_self w attribute = here
node_self w (ref n place) = here
node_self w (element place c p) = here
node_self w (mixed p) = here
node_self w (optional p) = here
node_self w (zero_or_more p) = here
node_self w (one_or_more p) = here
node_self w (group ps) = here
node_self w (choice ps) = here
node_self w (interleave ps) = here

among_nodes : (w : Bool) (ps : SyntaxPatterns) (q r : SyntaxPattern) → IsAmong ps q → Has (nodes w q) r → Has (nodes_of_all w ps) r
among_nodes w no_more q r m h = absurd m
among_nodes w (more p ps) q r (inl e) h = has_left (nodes w p) (nodes_of_all w ps) (subst (λ z. Has (nodes w z) r) e h)
among_nodes w (more p ps) q r (inr m) h = has_right (nodes w p) (nodes_of_all w ps) (among_nodes w ps q r m h)

-- a direct part stands in a pattern
pub part_node : (w : Bool) (p q : SyntaxPattern) → IsOpenPart p q → Has (nodes w p) q
part_node w empty q m = absurd m
part_node w not_allowed q m = absurd m
part_node w text q m = absurd m
part_node w attribute q m = absurd m
part_node w (ref n k) q m = absurd m
part_node w (element k c p) q m = absurd m
part_node w (mixed p) q m = there (subst (λ z. Has (nodes w p) z) (sym m) (node_self w p))
part_node w (optional p) q m = there (subst (λ z. Has (nodes w p) z) (sym m) (node_self w p))
part_node w (zero_or_more p) q m = there (subst (λ z. Has (nodes w p) z) (sym m) (node_self w p))
part_node w (one_or_more p) q m = there (subst (λ z. Has (nodes w p) z) (sym m) (node_self w p))
part_node w (group ps) q m = there (among_nodes w ps q q m (node_self w q))
part_node w (choice ps) q m = there (among_nodes w ps q q m (node_self w q))
part_node w (interleave ps) q m = there (among_nodes w ps q q m (node_self w q))

-- what stands in what stands in a pattern
within_first : (w : Bool) (p q r : SyntaxPattern) (rest : List SyntaxPattern) → nodes w p ≡ p ∷ rest → Has (nodes w p) q → Has (nodes w q) r → (Has rest q → Has rest r) → Has (nodes w p) r
within_first w p q r rest e h k f = by (has_first (subst (λ z. Has z q) e h))
  where
    by : (q ≡ p) ⊎ Has rest q → Has (nodes w p) r
    by (inl is) = subst (λ z. Has (nodes w z) r) is k
    by (inr m) = subst (λ z. Has z r) (sym e) (there (f m))

inside_element : (b : Bool) (xs : List SyntaxPattern) (q r : SyntaxPattern) → (Has xs q → Has xs r) → Has (cond b xs []) q → Has (cond b xs []) r
inside_element true xs q r f h = f h
inside_element false xs q r f h = absurd (none_has h)

mutual
  pub node_within : (w : Bool) (p q r : SyntaxPattern) → Has (nodes w p) q → Has (nodes w q) r → Has (nodes w p) r
  node_within w empty q r h k = within_first w empty q r [] refl h k (λ m. absurd (none_has m))
  node_within w not_allowed q r h k = within_first w not_allowed q r [] refl h k (λ m. absurd (none_has m))
  node_within w text q r h k = within_first w text q r [] refl h k (λ m. absurd (none_has m))
  node_within w attribute q r h k = within_first w attribute q r [] refl h k (λ m. absurd (none_has m))
  node_within w (ref n place) q r h k = within_first w (ref n place) q r [] refl h k (λ m. absurd (none_has m))
  node_within w (element place c p) q r h k = within_first w (element place c p) q r (cond w (nodes w p) []) refl h k (λ m. inside_element w (nodes w p) q r (λ x. node_within w p q r x k) m)
  node_within w (mixed p) q r h k = within_first w (mixed p) q r (nodes w p) refl h k (λ m. node_within w p q r m k)
  node_within w (optional p) q r h k = within_first w (optional p) q r (nodes w p) refl h k (λ m. node_within w p q r m k)
  node_within w (zero_or_more p) q r h k = within_first w (zero_or_more p) q r (nodes w p) refl h k (λ m. node_within w p q r m k)
  node_within w (one_or_more p) q r h k = within_first w (one_or_more p) q r (nodes w p) refl h k (λ m. node_within w p q r m k)
  node_within w (group ps) q r h k = within_first w (group ps) q r (nodes_of_all w ps) refl h k (λ m. all_within w ps q r m k)
  node_within w (choice ps) q r h k = within_first w (choice ps) q r (nodes_of_all w ps) refl h k (λ m. all_within w ps q r m k)
  node_within w (interleave ps) q r h k = within_first w (interleave ps) q r (nodes_of_all w ps) refl h k (λ m. all_within w ps q r m k)

  all_within : (w : Bool) (ps : SyntaxPatterns) (q r : SyntaxPattern) → Has (nodes_of_all w ps) q → Has (nodes w q) r → Has (nodes_of_all w ps) r
  all_within w no_more q r h k = absurd (none_has h)
  all_within w (more p ps) q r h k = either (has_cases (nodes w p) (nodes_of_all w ps) h) (λ m. has_left (nodes w p) (nodes_of_all w ps) (node_within w p q r m k)) (λ m. has_right (nodes w p) (nodes_of_all w ps) (all_within w ps q r m k))

-- what stands in a pattern and not within its elements is the pattern or below it
module _ (s : Syntax) where
  below_first : (p q : SyntaxPattern) (rest : List SyntaxPattern) → Has (p ∷ rest) q → (Has rest q → Below s p q) → (q ≡ p) ⊎ Below s p q
  below_first p q rest h f = by (has_first h)
    where
      by : (q ≡ p) ⊎ Has rest q → (q ≡ p) ⊎ Below s p q
      by (inl e) = inl e
      by (inr m) = inr (f m)

  below_part : (p q r : SyntaxPattern) → IsOpenPart p q → (r ≡ q) ⊎ Below s q r → Below s p r
  below_part p q r h (inl e) = subst (λ z. Below s p z) (sym e) (m.part h)
  below_part p q r h (inr b) = m.further (m.part h) b

  mutual
    pub node_below : (p q : SyntaxPattern) → Has (nodes false p) q → (q ≡ p) ⊎ Below s p q
    node_below empty q h = below_first empty q [] h (λ m. absurd (none_has m))
    node_below not_allowed q h = below_first not_allowed q [] h (λ m. absurd (none_has m))
    node_below text q h = below_first text q [] h (λ m. absurd (none_has m))
    node_below attribute q h = below_first attribute q [] h (λ m. absurd (none_has m))
    node_below (ref n place) q h = below_first (ref n place) q [] h (λ m. absurd (none_has m))
    node_below (element place c p) q h = below_first (element place c p) q [] h (λ m. absurd (none_has m))
    node_below (mixed p) q h = below_first (mixed p) q (nodes false p) h (λ k. below_part (mixed p) p q refl (node_below p q k))
    node_below (optional p) q h = below_first (optional p) q (nodes false p) h (λ k. below_part (optional p) p q refl (node_below p q k))
    node_below (zero_or_more p) q h = below_first (zero_or_more p) q (nodes false p) h (λ k. below_part (zero_or_more p) p q refl (node_below p q k))
    node_below (one_or_more p) q h = below_first (one_or_more p) q (nodes false p) h (λ k. below_part (one_or_more p) p q refl (node_below p q k))
    node_below (group ps) q h = below_first (group ps) q (nodes_of_all false ps) h (λ m. below_all (group ps) ps (λ r k. k) q m)
    node_below (choice ps) q h = below_first (choice ps) q (nodes_of_all false ps) h (λ m. below_all (choice ps) ps (λ r k. k) q m)
    node_below (interleave ps) q h = below_first (interleave ps) q (nodes_of_all false ps) h (λ m. below_all (interleave ps) ps (λ r k. k) q m)

    below_all : (p : SyntaxPattern) (ps : SyntaxPatterns) → ((r : SyntaxPattern) → IsAmong ps r → IsOpenPart p r) → (q : SyntaxPattern) → Has (nodes_of_all false ps) q → Below s p q
    below_all p no_more f q h = absurd (none_has h)
    below_all p (more x ps) f q h =
        either (has_cases (nodes false x) (nodes_of_all false ps) h) (λ k. below_part p x q (f x (inl refl)) (node_below x q k)) (λ m. below_all p ps (λ r k. f r (inr k)) q m)

  -- what stands in what is reached is reached
  reached_first : (p q : SyntaxPattern) (rest : List SyntaxPattern) → Reached s p → Has (p ∷ rest) q → (Has rest q → Reached s q) → Reached s q
  reached_first p q rest r h f = by (has_first h)
    where
      by : (q ≡ p) ⊎ Has rest q → Reached s q
      by (inl e) = subst (λ z. Reached s z) (sym e) r
      by (inr m) = f m

  mutual
    pub node_reached : (p q : SyntaxPattern) → Reached s p → Has (nodes true p) q → Reached s q
    node_reached empty q r h = reached_first empty q [] r h (λ m. absurd (none_has m))
    node_reached not_allowed q r h = reached_first not_allowed q [] r h (λ m. absurd (none_has m))
    node_reached text q r h = reached_first text q [] r h (λ m. absurd (none_has m))
    node_reached attribute q r h = reached_first attribute q [] r h (λ m. absurd (none_has m))
    node_reached (ref n place) q r h = reached_first (ref n place) q [] r h (λ m. absurd (none_has m))
    node_reached (element place c p) q r h = reached_first (element place c p) q (nodes true p) r h (λ k. node_reached p q (m.content r) k)
    node_reached (mixed p) q r h = reached_first (mixed p) q (nodes true p) r h (λ k. node_reached p q (m.part r refl) k)
    node_reached (optional p) q r h = reached_first (optional p) q (nodes true p) r h (λ k. node_reached p q (m.part r refl) k)
    node_reached (zero_or_more p) q r h = reached_first (zero_or_more p) q (nodes true p) r h (λ k. node_reached p q (m.part r refl) k)
    node_reached (one_or_more p) q r h = reached_first (one_or_more p) q (nodes true p) r h (λ k. node_reached p q (m.part r refl) k)
    node_reached (group ps) q r h = reached_first (group ps) q (nodes_of_all true ps) r h (λ h. all_reached ps (λ x k. m.part r k) q h)
    node_reached (choice ps) q r h = reached_first (choice ps) q (nodes_of_all true ps) r h (λ h. all_reached ps (λ x k. m.part r k) q h)
    node_reached (interleave ps) q r h = reached_first (interleave ps) q (nodes_of_all true ps) r h (λ h. all_reached ps (λ x k. m.part r k) q h)

    all_reached : (ps : SyntaxPatterns) → ((x : SyntaxPattern) → IsAmong ps x → Reached s x) → (q : SyntaxPattern) → Has (nodes_of_all true ps) q → Reached s q
    all_reached no_more f q h = absurd (none_has h)
    all_reached (more p ps) f q h =
        either (has_cases (nodes true p) (nodes_of_all true ps) h) (λ m. node_reached p q (f p (inl refl)) m) (λ m. all_reached ps (λ x k. f x (inr k)) q m)
