-- The only list in order of what mentions hold.
use Rattle.std.proofs.Common.{◌⊎◌, inl, inr, List, [], ◌∷◌, ◌++◌, flat_map, sym, subst}
use Rattle.tc_model.specs.Symbols.{Mention, mention_cmp, mentions_in_grammar, mentions_in_sheet, mentions_in, with_namespace, in_order, symbols_of, IsInOrder, IsOnlyInOrder, SchemasHaveTheirSymbols}
use Rattle.tc_alpha.proofs.Orders.{total, same}
use Rattle.tc_alpha.proofs.Members.{Has, has_from_contains, contains_from_has, has_front, has_back, has_either, has_from_in_order, in_order_has, in_order_rises, is_in_order}

pub only_in_order : IsOnlyInOrder
only_in_order xs ys = (λ (rises, members). is_in_order total same ys xs rises (λ z h. has_from_contains xs z ((members z).0 (contains_from_has ys z h))) (λ z h. has_from_contains ys z ((members z).1 (contains_from_has xs z h))), λ is. subst (λ zs. IsInOrder mention_cmp xs zs) (sym is) in_order_is)
  where
    in_order_is : IsInOrder mention_cmp xs (in_order mention_cmp xs)
    in_order_is = (
      in_order_rises total same xs,
      λ z. (
        λ h. contains_from_has xs z (has_from_in_order total same xs z (has_from_contains (in_order mention_cmp xs) z h)),
        λ h. contains_from_has (in_order mention_cmp xs) z (in_order_has total same xs z (has_from_contains xs z h)),
      ),
    )

abbrev spread : List Mention → List Mention
spread ms = flat_map with_namespace ms

spread_has : (ms ns : List Mention) (z : Mention) → Has (spread (ms ++ ns)) z → Has (spread ms) z ⊎ Has (spread ns) z
spread_has [] ns z h = inr h
spread_has (m ∷ ms) ns z h = elim (has_either (with_namespace m) (spread (ms ++ ns)) z h) [
  | inl a ↦ inl (has_front (with_namespace m) (spread ms) z a)
  | inr b ↦ elim (spread_has ms ns z b) [ inl c ↦ inl (has_back (with_namespace m) (spread ms) z c) | inr c ↦ inr c ]
]

spread_front : (ms ns : List Mention) (z : Mention) → Has (spread ms) z → Has (spread (ms ++ ns)) z
spread_front [] ns z h = absurd h
spread_front (m ∷ ms) ns z h = elim (has_either (with_namespace m) (spread ms) z h) [
  | inl a ↦ has_front (with_namespace m) (spread (ms ++ ns)) z a
  | inr b ↦ has_back (with_namespace m) (spread (ms ++ ns)) z (spread_front ms ns z b)
]

pub schemas_have_their_symbols : SchemasHaveTheirSymbols
schemas_have_their_symbols x s none =
    is_in_order total same (symbols_of x x s) (spread mine) (in_order_rises total same (spread all)) (λ z h. from z (has_from_in_order total same (spread all) z h)) (λ z h. in_order_has total same (spread all) z (spread_front mine (mine ++ mentions_in_sheet s) z h))
  where
    mine : List Mention
    mine = mentions_in_grammar x

    all : List Mention
    all = mentions_in x x s

    twice : (z : Mention) → Has (spread mine) z ⊎ Has (spread (mine ++ mentions_in_sheet s)) z → Has (spread mine) z
    twice z (inl h) = h
    twice z (inr h) = elim (spread_has mine (mentions_in_sheet s) z h) [ inl a ↦ a | inr b ↦ absurd (subst (λ w. Has (spread w) z) none b) ]

    from : (z : Mention) → Has (spread all) z → Has (spread mine) z
    from z h = twice z (spread_has mine (mine ++ mentions_in_sheet s) z h)
