-- What counts tell, and lists that hold each row once; and what passes a number.
use Rattle.std.proofs.Common.{Contains, ◌≡◌, ◌↔◌, inl, inr, ℕ, suc, ◌<◌, ◌≤◌, List, [], ◌∷◌, refl, ap, ◌∙◌, sym, length, Some, slice_get, arith}
use Rattle.std.proofs.lemmas.List.Elements.{All-contains}
use Rattle.tc_alpha.proofs.Members.{Has, has_from_contains, contains_from_has, every_from_members, all_from_every}
use Rattle.tc_rows.specs.Triples.{Triple, IsTriple}
use Rattle.tc_rows.specs.Counts.{AreDifferent, Counts, Pass, IsRowOfLiveTree, IsRowOfLiveHedge, IsOutput}
use Rattle.tc_rows.specs.Rows.{HedgeRow, TreeRow}
use Rattle.tc_rows.specs.Derivations.{HedgeFrom, TreeFrom}
use Rattle.tc_rows.specs.CountLaws.{CountsTell, ListsTell, SetsTell, IsSetFrom, SomePass, RowsAreCounted}
use Rattle.tc_rows.proofs.AllLaws.{rows_are_lawful}
use Rattle.tc_rows.proofs.Derived.{all_listed, are_exact}

module _ {R : Type 0} where
  -- without one of them
  abbrev Without : List R → R → Type 0
  Without ys y = (zs : List R) × (length ys ≡ suc (length zs)) × ((z : R) → Has ys z → (z ≡ y → ⊥) → Has zs z)

  without : (ys : List R) (y : R) → Has ys y → Without ys y
  without [] y h = absurd h
  without (x ∷ ys) y (inl e) = (ys, refl, λ z h differs. elim h [ inl same ↦ absurd (differs (sym same ∙ e)) | inr k ↦ k ])
  without (x ∷ ys) y (inr h) =
      let (zs, count, keeps) = without ys y h in
      (x ∷ zs, ap suc count, λ z k differs. elim k [ inl same ↦ inl same | inr m ↦ inr (keeps z m differs) ])

  place_of : (xs : List R) (y : R) → Has xs y → (i : ℕ) × (slice_get xs i ≡ Some y)
  place_of [] y h = absurd h
  place_of (x ∷ xs) y (inl e) = (0, ap Some e)
  place_of (x ∷ xs) y (inr h) = let (i, at) = place_of xs y h in (suc i, at)

  rest_different : (x : R) (xs : List R) → AreDifferent (x ∷ xs) → AreDifferent xs
  rest_different x xs d i j r a b = let same : suc i ≡ suc j = d (suc i) (suc j) r a b in omega (arith, same)

  not_among : (x : R) (xs : List R) → AreDifferent (x ∷ xs) → (z : R) → Has xs z → z ≡ x → ⊥
  not_among x xs d z h e =
      let (i, at) = place_of xs z h in
      let same : 0 ≡ suc i = d 0 (suc i) z (ap Some (sym e)) at in
      omega (arith, same)

  -- different members of a list are no more than it has
  pub fewer : (xs ys : List R) → AreDifferent xs → ((z : R) → Has xs z → Has ys z) → length xs ≤ length ys
  fewer [] ys d among = omega arith
  fewer (x ∷ xs) ys d among =
      let (zs, count, keeps) = without ys x (among x (inl refl)) in
      let rest : length xs ≤ length zs = fewer xs zs (rest_different x xs d) (λ z h. keeps z (among z (inr h)) (not_among x xs d z h)) in
      omega (arith, count, rest)

  pub counts_tell : (IsOne : R → Type 0) → CountsTell IsOne
  counts_tell IsOne = (one, pass)
    where
      within : (m n : ℕ) → Counts IsOne m → Counts IsOne n → m ≤ n
      within m n a b =
          let less = fewer a.all b.all a.different (λ z h. has_from_contains b.all z (b.each z (a.no_other z (contains_from_has a.all z h)))) in
          omega (arith, less, a.count, b.count)

      one : (m n : ℕ) → Counts IsOne m → Counts IsOne n → m ≡ n
      one m n a b = omega (arith, within m n a b, within n m b a)

      pass : (n most : ℕ) → Counts IsOne n → Pass IsOne most ↔ (most < n)
      pass n most a = (to, of)
        where
          to : Pass IsOne most → most < n
          to p =
              let less = fewer p.some a.all p.different (λ z h. has_from_contains a.all z (a.each z (All-contains IsOne p.some z p.each (contains_from_has p.some z h)))) in
              omega (arith, less, p.more, a.count)

          of : most < n → Pass IsOne most
          of l = record { some = a.all; different = a.different; each = all_from_every IsOne a.all (every_from_members IsOne a.all (λ z h. a.no_other z (contains_from_has a.all z h))); more = omega (arith, l, a.count) }

lists_tell : (x : Triple) → IsTriple x → ListsTell x
lists_tell x is trees hedges closed a b from_trees from_hedges =
    let laws = rows_are_lawful x is in
    let (all_trees, all_hedges) = all_listed x laws trees hedges closed in
    let exact = are_exact x laws in (
      record {
        all = trees;
        different = a;
        each = λ r (t, l, row). all_trees t r l row;
        no_other = λ r c. let (n, d) = from_trees r c in let (t, l, row, count) = (exact.trees r n).0 d in (t, l, row);
        count = refl;
      },
      record {
        all = hedges;
        different = b;
        each = λ r (h, l, row). all_hedges h r l row;
        no_other = λ r c. let (n, d) = from_hedges r c in let (h, l, row, count) = (exact.hedges r n).0 d in (h, l, row);
        count = refl;
      },
    )

sets_tell : (x : Triple) → IsTriple x → SetsTell x
sets_tell x is trees hedges sets closed from_trees from_hedges different are =
    let laws = rows_are_lawful x is in
    let (all_trees, all_hedges) = all_listed x laws trees hedges closed in
    let exact = are_exact x laws in
    record {
      all = sets;
      different = different;
      each = λ pairs o. (are pairs).1 (elim o [ inl (r, (t, l, row), there) ↦ inl (r, all_trees t r l row, there) | inr (r, (h, l, row), there) ↦ inr (r, all_hedges h r l row, there) ]);
      no_other = λ pairs c. elim ((are pairs).0 c) [
        | inl (r, listed, there) ↦ let (n, d) = from_trees r listed in let (t, l, row, count) = (exact.trees r n).0 d in inl (r, (t, l, row), there)
        | inr (r, listed, there) ↦ let (n, d) = from_hedges r listed in let (h, l, row, count) = (exact.hedges r n).0 d in inr (r, (h, l, row), there)
      ];
      count = refl;
    }

some_pass : (x : Triple) → IsTriple x → SomePass x
some_pass x is = (trees, hedges, sets)
  where
    trees : (rows : List TreeRow) (most : ℕ) → AreDifferent rows → ((r : TreeRow) → Contains rows r → (n : ℕ) × TreeFrom x r n) → most < length rows → Pass (IsRowOfLiveTree x) most
    trees rows most different comes more = record {
      some = rows;
      different = different;
      each = all_from_every (IsRowOfLiveTree x) rows
          (every_from_members (IsRowOfLiveTree x) rows
          (λ r h. let (n, d) = comes r (contains_from_has rows r h) in let (t, l, row, count) = ((are_exact x (rows_are_lawful x is)).trees r n).0 d in (t, l, row)));
      more = more;
    }

    hedges : (rows : List HedgeRow) (most : ℕ) → AreDifferent rows → ((r : HedgeRow) → Contains rows r → (n : ℕ) × HedgeFrom x r n) → most < length rows → Pass (IsRowOfLiveHedge x) most
    hedges rows most different comes more = record {
      some = rows;
      different = different;
      each = all_from_every (IsRowOfLiveHedge x) rows
          (every_from_members (IsRowOfLiveHedge x) rows
          (λ r h. let (n, d) = comes r (contains_from_has rows r h) in let (k, l, row, count) = ((are_exact x (rows_are_lawful x is)).hedges r n).0 d in (k, l, row)));
      more = more;
    }

    set_from : (pairs : List (ℕ × ℕ)) → IsSetFrom x pairs → IsOutput x pairs
    set_from pairs (inl (r, n, d, there)) = let (t, l, row, count) = ((are_exact x (rows_are_lawful x is)).trees r n).0 d in inl (r, (t, l, row), there)
    set_from pairs (inr (r, n, d, there)) = let (h, l, row, count) = ((are_exact x (rows_are_lawful x is)).hedges r n).0 d in inr (r, (h, l, row), there)

    sets : (all : List (List (ℕ × ℕ))) (most : ℕ) → AreDifferent all → ((pairs : List (ℕ × ℕ)) → Contains all pairs → IsSetFrom x pairs) → most < length all → Pass (IsOutput x) most
    sets all most different come more = record {
      some = all;
      different = different;
      each = all_from_every (IsOutput x) all (every_from_members (IsOutput x) all (λ pairs h. set_from pairs (come pairs (contains_from_has all pairs h))));
      more = more;
    }

pub rows_are_counted : RowsAreCounted
rows_are_counted x is = (counts_tell (IsRowOfLiveTree x), counts_tell (IsRowOfLiveHedge x), counts_tell (IsOutput x), lists_tell x is, sets_tell x is, some_pass x is)
