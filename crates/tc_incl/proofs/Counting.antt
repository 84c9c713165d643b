-- Closed lists hold the rows of all live trees, and what counts tell.
use Rattle.std.proofs.Common.{ℕ, ◌<◌, List, refl, length, Contains}
use Rattle.tc_alpha.proofs.Members.{contains_from_has, every_from_members, all_from_every}
use Rattle.tc_rows.specs.Counts.{AreDifferent, Pass}
use Rattle.tc_rows.proofs.Counting.{counts_tell}
use Rattle.tc_incl.specs.Schemas.{Schemas}
use Rattle.tc_incl.specs.Rows.{HedgeRow, TreeRow}
use Rattle.tc_incl.specs.Derivations.{HedgeFrom, TreeFrom, from_none, from_append, from_text, from_wrap, AreExact}
use Rattle.tc_incl.specs.Counts.{IsRowOfLiveTree, IsRowOfLiveHedge, AreClosed, ClosedHoldAll, ListsTell, SomePass, CoversAreCounted}
use Rattle.tc_incl.proofs.Derived.{derivations_are_exact}

module _ (x : Schemas) (trees : List TreeRow) (hedges : List HedgeRow) (closed : AreClosed x trees hedges) where
  mutual
    pub hedge_listed : {r : HedgeRow} {n : ℕ} → HedgeFrom x r n → Contains hedges r
    hedge_listed (from_none {u} c) = closed.empty u c
    hedge_listed (from_append {h} {u} {t} d f live c) = closed.append h u t (hedge_listed d) (tree_listed f) live c

    pub tree_listed : {r : TreeRow} {n : ℕ} → TreeFrom x r n → Contains trees r
    tree_listed (from_text {u} live c) = closed.text live u c
    tree_listed (from_wrap {a} {h} {u} low d live c) = closed.wrap a h u low (hedge_listed d) live c

module _ (x : Schemas) (exact : AreExact x) where
  closed_hold_all : ClosedHoldAll x
  closed_hold_all trees hedges closed = (λ r n d. tree_listed x trees hedges closed d, λ r n d. hedge_listed x trees hedges closed d)

  of_tree : (r : TreeRow) (n : ℕ) → TreeFrom x r n → IsRowOfLiveTree x r
  of_tree r n d = let (t, l, row, count) = (exact.trees r n).0 d in (t, l, row)

  of_hedge : (r : HedgeRow) (n : ℕ) → HedgeFrom x r n → IsRowOfLiveHedge x r
  of_hedge r n d = let (h, l, row, count) = (exact.hedges r n).0 d in (h, l, row)

  lists_tell : ListsTell x
  lists_tell trees hedges closed a b from_trees from_hedges = (
    record {
      all = trees;
      different = a;
      each = λ r (t, l, row). tree_listed x trees hedges closed ((exact.trees r _).1 (t, l, row, refl));
      no_other = λ r c. let (n, d) = from_trees r c in of_tree r n d;
      count = refl;
    },
    record {
      all = hedges;
      different = b;
      each = λ r (h, l, row). hedge_listed x trees hedges closed ((exact.hedges r _).1 (h, l, row, refl));
      no_other = λ r c. let (n, d) = from_hedges r c in of_hedge r n d;
      count = refl;
    },
  )

  some_pass : SomePass x
  some_pass = (trees, hedges)
    where
      trees : (rows : List TreeRow) (most : ℕ) → AreDifferent rows → ((r : TreeRow) → Contains rows r → (n : ℕ) × TreeFrom x r n) → most < length rows → Pass (IsRowOfLiveTree x) most
      trees rows most different comes more = record {
        some = rows;
        different = different;
        each = all_from_every (IsRowOfLiveTree x) rows (every_from_members (IsRowOfLiveTree x) rows (λ r h. let (n, d) = comes r (contains_from_has rows r h) in of_tree r n d));
        more = more;
      }

      hedges : (rows : List HedgeRow) (most : ℕ) → AreDifferent rows → ((r : HedgeRow) → Contains rows r → (n : ℕ) × HedgeFrom x r n) → most < length rows → Pass (IsRowOfLiveHedge x) most
      hedges rows most different comes more = record {
        some = rows;
        different = different;
        each = all_from_every (IsRowOfLiveHedge x) rows (every_from_members (IsRowOfLiveHedge x) rows (λ r h. let (n, d) = comes r (contains_from_has rows r h) in of_hedge r n d));
        more = more;
      }

pub covers_are_counted : CoversAreCounted
covers_are_counted x are =
    let exact = derivations_are_exact x are in
    (counts_tell (IsRowOfLiveTree x), counts_tell (IsRowOfLiveHedge x), closed_hold_all x exact, lists_tell x exact, some_pass x exact)
