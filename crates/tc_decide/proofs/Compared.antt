-- Two schemas that are compared: their automata and their symbols, what is found of them by what rows tell, and that this decides.
use Rattle.std.proofs.Common.{◌≡◌, ◌≤◌, ◌<◌, ◌⊎◌, ◌++◌, inl, inr, refl, sym, ap, subst, ◌∙◌, ℕ, List, [], Contains, Result, Ok, Err, flat_map, append-nil, arith}
use Rattle.tc_alpha.proofs.Members.{has_from_contains}
use Rattle.tc_auto.specs.Stands as a
use Rattle.tc_auto.specs.declared.auto.Auto.{Auto}
use Rattle.tc_base.specs.declared.Limit.{Limit}
use Rattle.tc_base.specs.declared.limits.TheConstants.{MOST_INPUT_STATES, MOST_SHOWN_NODES}
use Rattle.tc_decide.specs.Comparing.{Question, inclusion, equality, PassesPairLimit, by_first, by_second, by_symbols, AreWithinPairLimits, HasManyCovers, many_trees, many_hedges, HasFewCovers, symbols_of_both, forward, backward, IsOfOne, IsShown, AreKept, IsSo, Refutes, AreTooMany, in_inclusion, in_first, in_second, HasSmallRefutation, HasLargeRefutations, IsLeastRefutation, PassesComparison, OnIncluded, IfNotIncluded, OnSame, IfDifferent, DecidesInclusion, DecidesEquality, TellsInclusionCounts, TellsEqualityLimit}
use Rattle.tc_decide.specs.ComparingSeen.{of_covers, HasFewNodes, IsPairOf, FindsInclusion, FindsOneOnly, FindsEquality}
use Rattle.tc_decide.specs.Limits.{IsWithinLimits, AreFew}
use Rattle.tc_decide.specs.MachinesSeen.{IsLawful, IsReadOf}
use Rattle.tc_decide.specs.Nothing.{no_rules}
use Rattle.tc_decide.specs.RowCounts.{RowCount, row_count}
use Rattle.tc_decide.specs.declared.comparing.Pair.{Pair}
use Rattle.tc_decide.specs.declared.failure.Failure.{Failure}
use Rattle.tc_decide.specs.declared.failure.Failure.TheVariants.{Refused, Passes, NoMemory}
use Rattle.tc_decide.specs.declared.failure.Kind.{Kind}
use Rattle.tc_decide.specs.declared.failure.Kind.TheVariants.{Texts, Rows, Nodes, Certificate, Work, Open, Pieces}
use Rattle.tc_decide.specs.declared.limits.TheConstants.{MOST_ROWS}
use Rattle.tc_decide.specs.declared.verdict.Equality.{Equality}
use Rattle.tc_decide.specs.declared.verdict.Equality.TheVariants.{Same, FirstOnly, SecondOnly}
use Rattle.tc_decide.specs.declared.verdict.Inclusion as verdict
use Rattle.tc_decide.specs.declared.verdict.Inclusion.TheVariants as told
use Rattle.tc_decide.proofs.MachineLimits.{lawful}
use Rattle.tc_decide.proofs.Passing.{over_schema}
use Rattle.tc_incl.specs.Answers.{KeepsCounts, IsIncludedWith, IsLeastPlain, IsFarDifferent, IsAnswer, IsCause}
use Rattle.tc_incl.specs.Schemas.{Schemas, AreSchemas, IsIncluded, IsDifference}
use Rattle.tc_incl.specs.declared.inclusion.Cover.{Cover}
use Rattle.tc_incl.specs.declared.inclusion.Cover.TheVariants.{Included, Not, NotLarge}
use Rattle.tc_incl.specs.declared.inclusion.InclFault.{InclFault}
use Rattle.tc_incl.specs.declared.inclusion.InclFault.TheVariants as fault
use Rattle.tc_model.specs.Grammars.{Grammar, IsGrammar}
use Rattle.tc_model.specs.SimplifiesLaws.{IsStart}
use Rattle.tc_model.specs.States.{input}
use Rattle.tc_model.specs.Symbols.{Mention, mention_cmp, in_order, with_namespace, mentions_in_grammar, symbols_of}
use Rattle.tc_model.specs.Trees.{Trees, none, node_count}
use Rattle.tc_model.specs.Views.{before}
use Rattle.tc_model.specs.WellFormed.{ForEach, IsSheet, eaches_of}
use Rattle.tc_model.specs.declared.tree.Node.{Node}
use Rattle.tc_read.specs.declared.schemas.Schema.{Schema}

-- a stylesheet without rules is well-formed
no_each : (e : ForEach) → Contains (eaches_of no_rules) e → ⊥
no_each e c = has_from_contains {X = ForEach} [] e c

no_rules_lawful : IsSheet no_rules
no_rules_lawful = record {
  modes = omega arith;
  rules = λ k d low. absurd (omega (arith, low));
  named = λ k d low. absurd (omega (arith, low));
  calls = λ k d low. absurd (omega (arith, low));
  same_eaches = λ e f c. absurd (no_each e c);
  each_number = λ i low. absurd (omega (arith, low));
}

-- beside it are the symbols those of both schemas
pub symbols_beside : (g h : Grammar) → symbols_of g h no_rules ≡ symbols_of_both g h
symbols_beside g h = ap (λ mentions. in_order mention_cmp (flat_map with_namespace (mentions_in_grammar g ++ mentions))) (append-nil (mentions_in_grammar h))

module _ (g h : Grammar) (first second : Schema) (one_is : IsLawful first) (other_is : IsLawful second) (one_read : IsReadOf g first) (other_read : IsReadOf h second)
    (one_within : IsWithinLimits g input MOST_INPUT_STATES) (other_within : IsWithinLimits h input MOST_INPUT_STATES) where
  one_lawful : IsGrammar g × IsStart g.start
  one_lawful = lawful g first one_is one_read one_within.counts

  other_lawful : IsGrammar h × IsStart h.start
  other_lawful = lawful h second other_is other_read other_within.counts

  are_forward : AreSchemas (forward g h)
  are_forward = record {
    first = one_lawful.0;
    first_start = one_lawful.1;
    second = other_lawful.0;
    second_start = other_lawful.1;
    sheet = no_rules;
    well_formed = no_rules_lawful;
    symbols = inl (sym (symbols_beside g h));
  }

  are_backward : AreSchemas (backward g h)
  are_backward = record {
    first = other_lawful.0;
    first_start = other_lawful.1;
    second = one_lawful.0;
    second_start = one_lawful.1;
    sheet = no_rules;
    well_formed = no_rules_lawful;
    symbols = inr (sym (symbols_beside g h));
  }

  pub is_pair : (one other : Auto) (symbols : List Mention) → a.Stands input g one → a.Stands input h other → symbols ≡ symbols_of_both g h → AreFew symbols
      → IsPairOf g h (record { first = one; second = other; alphabet = symbols })
  is_pair one other symbols p q same few = record {
    within_limits = record { first = one_within; second = other_within; few = subst AreFew same few };
    forth = record { are = are_forward; first = p; second = q; symbols = same };
    back = record { are = are_backward; first = q; second = p; symbols = same };
  }

-- no cover count passes its limit
pub few_covers : (x : Schemas) → KeepsCounts x MOST_ROWS → HasFewCovers x
few_covers x keeps count (many_trees p) = keeps.trees p
few_covers x keeps count (many_hedges p) = keeps.hedges p

-- a document that is told has few nodes
pub few_nodes : (x : Schemas) (c : Cover) → IsAnswer x MOST_ROWS c → HasFewNodes c
few_nodes x (Included trees hedges) k = tt
few_nodes x (Not document) k = k.few
few_nodes x NotLarge k = tt

-- the counts are kept where anything is told
pub kept_counts : (x : Schemas) (c : Cover) → IsAnswer x MOST_ROWS c → KeepsCounts x MOST_ROWS
kept_counts x (Included trees hedges) k = k.keeps
kept_counts x (Not document) k = k.keeps
kept_counts x NotLarge k = k.keeps

module _ (g h : Grammar) (w : AreWithinPairLimits g h) where
  pub tells_included : (trees hedges : ℕ) → IsIncludedWith (forward g h) MOST_ROWS trees hedges → FindsInclusion g h (Ok (told.Included trees hedges))
  tells_included trees hedges k = ((w, few_covers (forward g h) k.keeps), k.included, k.trees, k.hedges)

  pub tells_not : (document : Node) → IsLeastPlain (forward g h) MOST_ROWS (before document none) → FindsInclusion g h (Ok (told.Not document))
  tells_not document k = ((w, few_covers (forward g h) k.keeps), record { refutes = k.least.differs; least = k.least.least }, record { plain = k.plain; few = k.few })

  pub tells_none : IsFarDifferent (forward g h) MOST_ROWS → FindsInclusion g h (Err (Passes Nodes MOST_SHOWN_NODES))
  tells_none k = ((w, few_covers (forward g h) k.keeps), record { some = k.some; large = k.far }, refl)

  -- a cover count passes its limit
  pub inclusion_many : (f : InclFault) → IsCause (forward g h) MOST_ROWS f → FindsInclusion g h (Err (of_covers f))
  inclusion_many fault.TooManyTrees p = (w, in_inclusion (many_trees p), refl)
  inclusion_many fault.TooManyHedges p = (w, in_inclusion (many_hedges p), refl)
  inclusion_many fault.NoMemory p = tt

  pub first_many : (f : InclFault) → IsCause (forward g h) MOST_ROWS f → FindsEquality g h (Err (of_covers f))
  first_many fault.TooManyTrees p = (w, in_first (many_trees p), refl)
  first_many fault.TooManyHedges p = (w, in_first (many_hedges p), refl)
  first_many fault.NoMemory p = tt

  pub second_many : HasFewCovers (forward g h) → (f : InclFault) → IsCause (backward g h) MOST_ROWS f → FindsEquality g h (Err (of_covers f))
  second_many few fault.TooManyTrees p = (w, in_second few (many_trees p), refl)
  second_many few fault.TooManyHedges p = (w, in_second few (many_hedges p), refl)
  second_many few fault.NoMemory p = tt

  -- all that differs one way has too many nodes
  abbrev IsBeyond : Grammar → Grammar → Type 0
  IsBeyond one other = (document : Trees) → IsDifference one other document → MOST_SHOWN_NODES < node_count document

  pub never : (one other : Grammar) → IsIncluded one other → IsBeyond one other
  never one other into document d = absurd (d.1 (into document d.0))

  pub tells_equal : (trees hedges trees' hedges' : ℕ) → IsIncludedWith (forward g h) MOST_ROWS trees hedges → IsIncludedWith (backward g h) MOST_ROWS trees' hedges' → FindsEquality g h (Ok Same)
  tells_equal trees hedges trees' hedges' k m = ((w, few_covers (forward g h) k.keeps, few_covers (backward g h) m.keeps), (k.included, m.included))

  -- the one has no more nodes than all that differs the other way
  pub tells_first : (document : Node) → IsLeastPlain (forward g h) MOST_ROWS (before document none) → KeepsCounts (backward g h) MOST_ROWS
      → ((other : Trees) → IsDifference h g other → node_count (before document none) ≤ node_count other) → FindsOneOnly g h (FirstOnly document)
  tells_first document k keeps least = (
    (w, few_covers (forward g h) k.keeps, few_covers (backward g h) keeps),
    record { refutes = inl k.least.differs; least = λ other d. elim d [ inl one ↦ k.least.least other one | inr two ↦ least other two ] },
    record { plain = k.plain; few = k.few },
    k.least.differs,
  )

  pub tells_first_beyond : (document : Node) → IsLeastPlain (forward g h) MOST_ROWS (before document none) → KeepsCounts (backward g h) MOST_ROWS → IsBeyond h g → FindsOneOnly g h (FirstOnly document)
  tells_first_beyond document k keeps beyond = tells_first document k keeps (λ other d. omega (arith, beyond other d, k.few))

  -- a document that is valid for the second alone, with fewer nodes than all that differs the other way
  second_least : (document : Trees) → ((other : Trees) → IsDifference g h other → node_count document < node_count other) → ((other : Trees) → IsDifference h g other → node_count document ≤ node_count other)
      → (other : Trees) → IsOfOne g h other → node_count document ≤ node_count other
  second_least document m l other (inl d) = let k = m other d in omega (arith, k)
  second_least document m l other (inr d) = l other d

  pub tells_second : (document : Node) → KeepsCounts (forward g h) MOST_ROWS → IsLeastPlain (backward g h) MOST_ROWS (before document none)
      → ((other : Trees) → IsDifference g h other → node_count (before document none) < node_count other) → FindsOneOnly g h (SecondOnly document)
  tells_second document keeps k less = (
    (w, few_covers (forward g h) keeps, few_covers (backward g h) k.keeps),
    record { refutes = inr k.least.differs; least = second_least (before document none) less k.least.least },
    record { plain = k.plain; few = k.few },
    k.least.differs,
    less,
  )

  pub tells_second_beyond : (document : Node) → KeepsCounts (forward g h) MOST_ROWS → IsBeyond g h → IsLeastPlain (backward g h) MOST_ROWS (before document none) → FindsOneOnly g h (SecondOnly document)
  tells_second_beyond document keeps beyond k = tells_second document keeps k (λ other d. omega (arith, beyond other d, k.few))

  pub tells_no_one : KeepsCounts (forward g h) MOST_ROWS → KeepsCounts (backward g h) MOST_ROWS → (document : Trees) → IsOfOne g h document → IsBeyond g h → IsBeyond h g
      → FindsEquality g h (Err (Passes Nodes MOST_SHOWN_NODES))
  tells_no_one keeps also document some one two = (
    (w, few_covers (forward g h) keeps, few_covers (backward g h) also),
    record { some = (document, some); large = λ other d. elim d [ inl p ↦ one other p | inr q ↦ two other q ] },
    refl,
  )

  -- of two documents the one with fewer nodes, the first of equals
  pub tells_smaller_second : (one two : Node) → node_count (before two none) < node_count (before one none) → IsLeastPlain (forward g h) MOST_ROWS (before one none)
      → IsLeastPlain (backward g h) MOST_ROWS (before two none) → FindsOneOnly g h (SecondOnly two)
  tells_smaller_second one two less k m = tells_second two k.keeps m (λ other d. omega (arith, less, k.least.least other d))

  pub tells_smaller_first : (one two : Node) → (node_count (before two none) < node_count (before one none) → ⊥) → IsLeastPlain (forward g h) MOST_ROWS (before one none)
      → IsLeastPlain (backward g h) MOST_ROWS (before two none) → FindsOneOnly g h (FirstOnly one)
  tells_smaller_first one two not k m = tells_first one k m.keeps (λ other d. by (m.least.least other d) (or_less (node_count (before two none)) (node_count (before one none))))
    where
      or_less : (m n : ℕ) → (m < n) ⊎ (n ≤ m)
      or_less m n = grind arith

      by : {n : ℕ} → node_count (before two none) ≤ n → (node_count (before two none) < node_count (before one none)) ⊎ (node_count (before one none) ≤ node_count (before two none))
          → node_count (before one none) ≤ n
      by l (inl less) = absurd (not less)
      by l (inr more) = omega (arith, l, more)

-- a schema that is included in another has no document that isn't valid for that
pub not_different : {a b : Grammar} {document : Trees} → IsIncluded a b → IsDifference a b document → ⊥
not_different {document = document} i d = d.1 (i document d.0)

module _ {a b : Grammar} where
  pub over_pair : {kind : Limit} {number : ℕ} → PassesPairLimit a b kind number → AreWithinPairLimits a b → ⊥
  over_pair (by_first p) w = over_schema p w.first
  over_pair (by_second v p) w = over_schema p w.second
  over_pair (by_symbols v x p) w = omega (arith, p, w.few)

  -- a document that both schemas have no use for
  pub equal_not_of_one : {document : Trees} → IsIncluded a b → IsIncluded b a → IsOfOne a b document → ⊥
  equal_not_of_one i j (inl d) = not_different i d
  equal_not_of_one i j (inr d) = not_different j d

module _ (g h : Grammar) where
  pub one_only : (e : Equality) → FindsOneOnly g h e → FindsEquality g h (Ok e)
  one_only Same f = absurd f
  one_only (FirstOnly document) f = f
  one_only (SecondOnly document) f = f

  pub within_limits : (question : Question) → AreKept g h question → AreWithinPairLimits g h
  within_limits inclusion k = k.0
  within_limits equality k = k.0

  -- what is so isn't refuted
  pub not_refuted : (question : Question) (document : Trees) → IsSo g h question → Refutes g h question document → ⊥
  not_refuted inclusion document into d = not_different into d
  not_refuted equality document (i, j) d = equal_not_of_one i j d

  -- counts that are kept don't pass
  pub kept_few : (question : Question) (count : RowCount) → AreKept g h question → AreTooMany g h question count → ⊥
  kept_few inclusion count k (in_inclusion p) = k.1 _ p
  kept_few equality count k (in_first p) = k.1 _ p
  kept_few equality count k (in_second f p) = k.2 _ p

  pub small_large : (question : Question) → HasSmallRefutation g h question → HasLargeRefutations g h question → ⊥
  small_large question (document, refutes, few) large = let far = large.large document refutes in omega (arith, few, far)

  -- nothing is passed where all is kept
  not_passed : (question : Question) (kind : Kind) (number : ℕ) → AreKept g h question → (HasLargeRefutations g h question → ⊥) → PassesComparison g h question kind number → ⊥
  not_passed question (Texts kind) number k n p = over_pair p (within_limits question k)
  not_passed question (Rows count) number k n p = kept_few question _ k p.1
  not_passed question Nodes number k n p = n p.1
  not_passed question Certificate number k n p = absurd p
  not_passed question Work number k n p = absurd p
  not_passed question Open number k n p = absurd p
  not_passed question (Pieces measure) number k n p = absurd p

  so_not_passed : (question : Question) (kind : Kind) (number : ℕ) → AreKept g h question → IsSo g h question → PassesComparison g h question kind number → ⊥
  so_not_passed question kind number k so p = not_passed question kind number k (λ l. not_refuted question _ so l.some.1) p

  small_not_passed : (question : Question) (kind : Kind) (number : ℕ) → AreKept g h question → HasSmallRefutation g h question → PassesComparison g h question kind number → ⊥
  small_not_passed question kind number k small p = not_passed question kind number k (λ l. small_large question small l) p

  pub inclusion_decides : (result : Result verdict.Inclusion Failure) → FindsInclusion g h result → (result ≡ Err NoMemory) ⊎ DecidesInclusion g h result
  inclusion_decides (Ok (told.Included tree_rows hedge_rows)) (k, so, n, m) = inr (record {
    yes = (λ _. (k, so), λ _. tt);
    no = (λ e. absurd e, λ x. absurd (not_refuted inclusion _ so x.1.1));
    least = tt;
    limit = (λ e. absurd e, λ (kind, number, p). absurd (so_not_passed inclusion kind number k so p));
  })
  inclusion_decides (Ok (told.Not document)) (k, l, s) = inr (record {
    yes = (λ e. absurd e, λ x. absurd (not_refuted inclusion _ x.1 l.refutes));
    no = (λ _. (k, (before document none, l.refutes, s.few)), λ _. tt);
    least = (l, s);
    limit = (λ e. absurd e, λ (kind, number, p). absurd (small_not_passed inclusion kind number k (before document none, l.refutes, s.few) p));
  })
  inclusion_decides (Err (Refused which reason at)) f = absurd f
  inclusion_decides (Err (Passes kind number)) p = inr (record {
    yes = (λ e. absurd e, λ x. absurd (so_not_passed inclusion kind number x.0 x.1 p));
    no = (λ e. absurd e, λ x. absurd (small_not_passed inclusion kind number x.0 x.1 p));
    least = tt;
    limit = (λ _. (kind, number, p), λ _. tt);
  })
  inclusion_decides (Err NoMemory) f = inl refl

  pub equality_decides : (result : Result Equality Failure) → FindsEquality g h result → (result ≡ Err NoMemory) ⊎ DecidesEquality g h result
  equality_decides (Ok Same) (k, so) = inr (record {
    yes = (λ _. (k, so), λ _. tt);
    no = (λ e. absurd e, λ x. absurd (not_refuted equality _ so x.1.1));
    least = tt;
    limit = (λ e. absurd e, λ (kind, number, p). absurd (so_not_passed equality kind number k so p));
  })
  equality_decides (Ok (FirstOnly document)) (k, l, s, d) = inr (record {
    yes = (λ e. absurd e, λ x. absurd (not_refuted equality _ x.1 l.refutes));
    no = (λ _. (k, (before document none, l.refutes, s.few)), λ _. tt);
    least = (l, s);
    limit = (λ e. absurd e, λ (kind, number, p). absurd (small_not_passed equality kind number k (before document none, l.refutes, s.few) p));
  })
  equality_decides (Ok (SecondOnly document)) (k, l, s, d, less) = inr (record {
    yes = (λ e. absurd e, λ x. absurd (not_refuted equality _ x.1 l.refutes));
    no = (λ _. (k, (before document none, l.refutes, s.few)), λ _. tt);
    least = (l, s);
    limit = (λ e. absurd e, λ (kind, number, p). absurd (small_not_passed equality kind number k (before document none, l.refutes, s.few) p));
  })
  equality_decides (Err (Refused which reason at)) f = absurd f
  equality_decides (Err (Passes kind number)) p = inr (record {
    yes = (λ e. absurd e, λ x. absurd (so_not_passed equality kind number x.0 x.1 p));
    no = (λ e. absurd e, λ x. absurd (small_not_passed equality kind number x.0 x.1 p));
    least = tt;
    limit = (λ _. (kind, number, p), λ _. tt);
  })
  equality_decides (Err NoMemory) f = inl refl

  pub says_included : (result : Result verdict.Inclusion Failure) → FindsInclusion g h result → OnIncluded result (IsIncluded g h)
  says_included (Ok (told.Included tree_rows hedge_rows)) f = f.1
  says_included (Ok (told.Not document)) f = tt
  says_included (Err failure) f = tt

  pub shows_difference : (result : Result verdict.Inclusion Failure) → FindsInclusion g h result → IfNotIncluded result (IsDifference g h)
  shows_difference (Ok (told.Included tree_rows hedge_rows)) f = tt
  shows_difference (Ok (told.Not document)) f = f.1.refutes
  shows_difference (Err failure) f = tt

  pub inclusion_counts : (result : Result verdict.Inclusion Failure) → FindsInclusion g h result → TellsInclusionCounts g h result
  inclusion_counts (Ok (told.Included tree_rows hedge_rows)) f = (f.2, f.3)
  inclusion_counts (Ok (told.Not document)) f = tt
  inclusion_counts (Err (Refused which reason at)) f = absurd f
  inclusion_counts (Err (Passes kind number)) f = f
  inclusion_counts (Err NoMemory) f = tt

  pub says_same : (result : Result Equality Failure) → FindsEquality g h result → OnSame result (IsSo g h equality)
  says_same (Ok Same) f = f.1
  says_same (Ok (FirstOnly document)) f = tt
  says_same (Ok (SecondOnly document)) f = tt
  says_same (Err failure) f = tt

  pub shows_different : (result : Result Equality Failure) → FindsEquality g h result → IfDifferent g h result
  shows_different (Ok Same) f = tt
  shows_different (Ok (FirstOnly document)) f = f.3
  shows_different (Ok (SecondOnly document)) f = (f.3, f.4)
  shows_different (Err failure) f = tt

  pub equality_limits : (result : Result Equality Failure) → FindsEquality g h result → TellsEqualityLimit g h result
  equality_limits (Ok verdict) f = tt
  equality_limits (Err (Refused which reason at)) f = absurd f
  equality_limits (Err (Passes kind number)) f = f
  equality_limits (Err NoMemory) f = tt
