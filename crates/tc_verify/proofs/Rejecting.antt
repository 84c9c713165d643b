-- What breaks a rule first, and that data with a broken rule is no certificate.
use Rattle.std.proofs.Common.{◌≡◌, ◌<◌, ◌≤◌, ◌⊎◌, inl, inr, ℕ, zero, suc, List, [], ◌∷◌, length, get_or, map, subst, sym, ap, ◌∙◌, refl, arith}
use Rattle.std.specs.List.{All}
use Rattle.std.proofs.lemmas.List.{length-map, get_or-map}
use Rattle.std.proofs.lemmas.List.Elements.{All-contains, Contains-get_or}
use Rattle.tc_model.specs.Symbols.{symbol_count}
use Rattle.tc_model.specs.declared.lists.TreeLine.{TreeLine}
use Rattle.tc_model.specs.declared.lists.HedgeLine.{HedgeLine}
use Rattle.tc_model.specs.declared.lists.CertData.{CertData}
use Rattle.tc_rows.specs.Triples.{Triple}
use Rattle.tc_rows.specs.Triples as t
use Rattle.tc_rows.specs.PairSets.{IsPairs}
use Rattle.tc_rows.specs.Rows.{HedgeRow, TreeRow, IsHedgeRow, IsTreeRow}
use Rattle.tc_rows.specs.Certificates.{AreCertified, tree_of, hedge_of}
use Rattle.tc_beh.specs.Machines.{IsMachineOf}
use Rattle.tc_model.specs.CertificateData.{IsFormed}
use Rattle.tc_verify.specs.Rules.{IsEmptyListed, IsTextListed, AppendIsListed, WrapIsListed, RootIsGood}
use Rattle.tc_rows.specs.CertificateRows.{numbered_tree, numbered_hedge, trees_of, hedges_of, IsCertificateData}
use Rattle.tc_model.specs.CertificateFits.{AllFit, HedgeFits, IsFirstUnfit, IsUnfit, OutputFits, TreeFits, line_of_hedge, line_of_tree}
use Rattle.tc_verify.specs.Fits.{sizes}
use Rattle.tc_verify.specs.Listings.{Listing, hedge_rows, tree_rows, EmptyHolds, EmptyBreaks, TextHolds, TextBreaks, AppendHolds, AppendBreaks, WrapHolds, WrapBreaks, RootHolds, RootBreaks}
use Rattle.tc_verify.specs.Firsts.{ListsHold, RowsHold, WrapsToo, IsFirstOf, symbols}
use Rattle.tc_verify.specs.RejectedPlaces.{Tells, IsRejectOf, AreIn}
use Rattle.tc_verify.specs.Rejects.{IsBroken, IsFirstBroken, IsRejected, rank}
use Rattle.tc_verify.specs.declared.reject.Reject.{Reject}
use Rattle.tc_verify.specs.declared.reject.RejectRule.{RejectRule}
use Rattle.tc_verify.specs.declared.reject.RejectRule.TheVariants as rule
use Rattle.tc_verify.specs.declared.first.Broken.{Broken}
use Rattle.tc_verify.specs.declared.first.Broken.TheVariants as broken
use Rattle.tc_verify.proofs.Kept.{contains_at}
use Rattle.tc_verify.proofs.Made.{hedge_count, tree_count, symbols_are, over}

later_or_same : (a b : ℕ) → a ≤ b → (a < b) ⊎ (a ≡ b)
later_or_same zero zero h = inr refl
later_or_same zero (suc b) h = inl (omega arith)
later_or_same (suc a) zero h = absurd (omega (arith, h))
later_or_same (suc a) (suc b) h = elim (later_or_same a b (omega (arith, h))) [ inl l ↦ inl (omega (arith, l)) | inr e ↦ inr (ap suc e) ]

below_or : (a b : ℕ) → (a < b) ⊎ (b ≤ a)
below_or a b = grind arith

module _ (x : Triple) (c : CertData) where
  -- where all fit no line is unfit
  none_unfit : AllFit (sizes x) c → (l : ℕ) → ¬ IsUnfit (sizes x) c l
  none_unfit fit l (inl (k, ps, e, at, bad)) = bad (All-contains (OutputFits (sizes x) c) c.outputs ps fit.outputs (contains_at c.outputs k ps at))
  none_unfit fit l (inr (inl (k, ps, e, at, bad))) = bad (All-contains (TreeFits (sizes x) c) c.trees ps fit.trees (contains_at c.trees k ps at))
  none_unfit fit l (inr (inr (k, ps, e, at, bad))) = bad (All-contains (HedgeFits (sizes x) c) c.hedges ps fit.hedges (contains_at c.hedges k ps at))

unmapped : {A B : Type 0} (P : B → Type 0) (f : A → B) (ys : List A) → All P (map f ys) → All (λ y. P (f y)) ys
unmapped P f ys all k d low = subst P (get_or-map f ys k d (f d) low) (all k (f d) (subst (λ n. k < n) (sym (length-map ys f)) low))

maps : {A B C : Type 0} (f : B → C) (g : A → B) (ys : List A) → map f (map g ys) ≡ map (λ y. f (g y)) ys
maps f g [] = refl
maps f g (y ∷ ys) = ap (λ zs. f (g y) ∷ zs) (maps f g ys)

-- a certificate's numbers fit
certificate_fits : (x : Triple) (c : CertData) → IsCertificateData x c → AllFit (sizes x) c
certificate_fits x c is = record {
  outputs = λ k d low. pairs (get_or c.outputs k d) (is.outputs_fit k d low);
  trees = λ k d low.
      let l : TreeLine = get_or c.trees k d in
      let row = unmapped (IsTreeRow x) (λ (y : TreeLine). tree_of c.outputs (numbered_tree y)) c.trees (subst (All (IsTreeRow x)) (maps (tree_of c.outputs) numbered_tree c.trees) is.certified.tree_rows) k d low in
      let outs = unmapped (λ y. All (λ n. n < length c.outputs) y.entries) numbered_tree c.trees is.trees_fit k d low in
      record {
        members_fit = λ i e s. let (a, b) = row.patterns i e s in (a, omega (arith, b));
        out_count = sym (length-map l.outs (λ n. get_or c.outputs n [])) ∙ row.entries.count;
        outs_fit = λ i e s. let low = outs i e s in (omega arith, omega (arith, low));
        look_count = row.looks.count;
      };
  hedges = λ k d low.
      let l : HedgeLine = get_or c.hedges k d in
      let row = unmapped (IsHedgeRow x) (λ (y : HedgeLine). hedge_of c.outputs (numbered_hedge y)) c.hedges (subst (All (IsHedgeRow x)) (maps (hedge_of c.outputs) numbered_hedge c.hedges) is.certified.hedge_rows) k d low in
      let outs = unmapped (λ y. All (λ n. n < length c.outputs) y.entries) numbered_hedge c.hedges is.hedges_fit k d low in
      record {
        members_fit = λ i e s. let low = row.states i e s in (omega arith, omega (arith, low));
        out_count = sym (length-map l.outs (λ n. get_or c.outputs n [])) ∙ row.entries.count;
        outs_fit = λ i e s. let low = outs i e s in (omega arith, omega (arith, low));
        look_count = row.looks.count;
      };
}
  where
    pairs : (ps : List (ℕ × ℕ)) → IsPairs (t.outputs x) ps → OutputFits (sizes x) c ps
    pairs ps is k d low = is.within (get_or ps k d).0 (get_or ps k d).1 (Contains-get_or ps k d low)

-- data with a rule that is broken is none
module _ (x : Triple) (c : CertData) (is : IsCertificateData x c) where
  hedges_in : map (hedge_of c.outputs) (map numbered_hedge c.hedges) ≡ hedges_of c
  hedges_in = maps (hedge_of c.outputs) numbered_hedge c.hedges

  trees_in : map (tree_of c.outputs) (map numbered_tree c.trees) ≡ trees_of c
  trees_in = maps (tree_of c.outputs) numbered_tree c.trees

  pub certified : AreCertified x (trees_of c) (hedges_of c)
  certified = subst (λ ts. AreCertified x ts (hedges_of c)) trees_in (subst (λ hs. AreCertified x (map (tree_of c.outputs) (map numbered_tree c.trees)) hs) hedges_in is.certified)

  none_broken : (r : RejectRule) (l o : ℕ) → ¬ IsBroken x c r l o
  none_broken rule.Form l o b = b
  none_broken rule.Fit l o (u, e) = none_unfit x c (certificate_fits x c is) l u
  none_broken rule.Empty l o (bad, e, f) = bad certified.closed.empty
  none_broken rule.Text l o (bad, e, f) = bad (λ live u made. certified.closed.text live u made)
  none_broken rule.Append l o (i, j, a, b, e, f, bad) = bad (λ h s p q live u made. certified.closed.append h u s (contains_at (hedges_of c) i h p) (contains_at (trees_of c) j s q) live made)
  none_broken rule.Wrap l o (i, a, low, e, bad) = bad (λ h p live u made. certified.closed.wrap o h u low (contains_at (hedges_of c) i h p) live made)
  none_broken rule.Root l o (j, a, e, f, bad) = bad (λ s p good. certified.root s (contains_at (trees_of c) j s p) good)

-- a first break of a rule with none before it
rejected : (x : Triple) (c : CertData) (r : Reject) → IsFirstBroken x c r.rule r.line r.other → ((s : RejectRule) (l o : ℕ) → rank s < rank r.rule → ¬ IsBroken x c s l o) → IsRejected x c r
rejected x c r first earlier = record { first = first; earlier = earlier; none = λ is. none_broken x c is r.rule r.line r.other first.broken }

-- a line that doesn't fit
unfit_rejected : (x : Triple) (c : CertData) (line : ℕ) → IsFirstUnfit (sizes x) c line → IsRejected x c (record { line = line; rule = rule.Fit; other = 0 })
unfit_rejected x c line is = rejected x c (record { line = line; rule = rule.Fit; other = 0 }) first earlier
  where
    first : IsFirstBroken x c rule.Fit line 0
    first = record { broken = (is.unfit, refl); least = λ l o b. elim (later_or_same line l (is.least l b.0)) [ inl a ↦ inl a | inr e ↦ inr (e, omega arith) ] }

    earlier : (s : RejectRule) (l o : ℕ) → rank s < 1 → ¬ IsBroken x c s l o
    earlier rule.Form l o low b = b
    earlier rule.Fit l o low b = omega (arith, low)
    earlier rule.Empty l o low b = omega (arith, low)
    earlier rule.Text l o low b = omega (arith, low)
    earlier rule.Append l o low b = omega (arith, low)
    earlier rule.Wrap l o low b = omega (arith, low)
    earlier rule.Root l o low b = omega (arith, low)

told : (x : Triple) (c : CertData) (ru : RejectRule) (li ot : ℕ) (r : Reject) → Tells r ru li ot → IsRejected x c (record { line = li; rule = ru; other = ot }) → IsRejected x c r
told x c ru li ot r t p =
    let Made : ℕ → RejectRule → ℕ → Reject = λ a b d. record { line = a; rule = b; other = d } in
    subst (IsRejected x c) (ap (λ a. Made a ru ot) (sym t.by_line) ∙ (ap (λ b. Made r.line b ot) (sym t.by_rule) ∙ ap (λ d. Made r.line r.rule d) (sym t.by_other))) p

pub unfit_told : (x : Triple) (c : CertData) (line : ℕ) (r : Reject) → Tells r rule.Fit line 0 → IsFirstUnfit (sizes x) c line → IsRejected x c r
unfit_told x c line r t is = told x c rule.Fit line 0 r t (unfit_rejected x c line is)

-- the first rule that the listing breaks is the first that the certificate breaks
module _ (x : Triple) (c : CertData) (formed : IsFormed c) (fit : AllFit (sizes x) c) (l : Listing) (is : IsMachineOf x l.machine) (hs : hedge_rows l x ≡ hedges_of c) (ts : tree_rows l x ≡ trees_of c) where
  abbrev Appends : Type 0
  Appends = (i j : ℕ) → i < length c.hedges → j < length c.trees → AppendIsListed x (trees_of c) (hedges_of c) i j

  abbrev Wraps : Type 0
  Wraps = (i a : ℕ) → i < length c.hedges → a < symbol_count x.symbols → WrapIsListed x (trees_of c) (hedges_of c) i a

  all_before : (n : ℕ) → (2 < n → IsEmptyListed x (hedges_of c)) → (3 < n → IsTextListed x (trees_of c)) → (4 < n → Appends) → (5 < n → Wraps) → n ≤ 6 → (s : RejectRule) (k o : ℕ) → rank s < n → ¬ IsBroken x c s k o
  all_before n e t a w m rule.Form k o low b = b
  all_before n e t a w m rule.Fit k o low (u, z) = none_unfit x c fit k u
  all_before n e t a w m rule.Empty k o low (bad, y, z) = bad (e low)
  all_before n e t a w m rule.Text k o low (bad, y, z) = bad (t low)
  all_before n e t a w m rule.Append k o low (i, j, p, q, y, z, bad) = bad (a low i j p q)
  all_before n e t a w m rule.Wrap k o low (i, p, q, z, bad) = bad (w low i o p q)
  all_before n e t a w m rule.Root k o low b = absurd (omega (arith, low, m))

  hedge_in : (i : ℕ) → i < length c.hedges → i < length l.hedges
  hedge_in i a = subst (λ n. i < n) (sym (hedge_count x c formed fit l is hs ts)) a

  tree_in : (j : ℕ) → j < length c.trees → j < length l.trees
  tree_in j a = subst (λ n. j < n) (sym (tree_count x c formed fit l is hs ts)) a

  symbol_in : (a : ℕ) → a < symbol_count x.symbols → a < symbols l
  symbol_in a b = subst (λ n. a < n) (sym (symbols_are x c formed fit l is hs ts)) b

  on : (P : List TreeRow → List HedgeRow → Type 0) → P (tree_rows l x) (hedge_rows l x) → P (trees_of c) (hedges_of c)
  on = over x c formed fit l is hs ts

  empty_listed : ListsHold l → IsEmptyListed x (hedges_of c)
  unfolding EmptyHolds
  empty_listed a = subst (IsEmptyListed x) hs (a.empty x is)

  text_listed : ListsHold l → IsTextListed x (trees_of c)
  unfolding TextHolds
  text_listed a = subst (IsTextListed x) ts (a.text x is)

  appends_listed : RowsHold l → Appends
  unfolding AppendHolds
  appends_listed a i j p q = on (λ t h. AppendIsListed x t h i j) (a.appends i (hedge_in i p) j (tree_in j q) x is)

  wraps_listed : WrapsToo l → Wraps
  unfolding WrapHolds
  wraps_listed a i s p q = on (λ t h. WrapIsListed x t h i s) (a.wraps i (hedge_in i p) s (symbol_in s q) x is)

  never : {A : Type 0} (n m : ℕ) → m ≤ n → n < m → A
  never n m a b = absurd (omega (arith, a, b))

  empty_first : IsFirstOf l broken.Empty → IsRejected x c (record { line = 0; rule = rule.Empty; other = 0 })
  unfolding EmptyBreaks
  empty_first bad =
      rejected x c (record { line = 0; rule = rule.Empty; other = 0 })
      (record { broken = (subst (λ h. ¬ IsEmptyListed x h) hs (bad x is), refl, refl); least = λ k o b. inr (sym b.1, omega arith) })
      (all_before 2 (never 2 2 (omega arith)) (never 3 2 (omega arith)) (never 4 2 (omega arith)) (never 5 2 (omega arith)) (omega arith))

  text_first : IsFirstOf l broken.Text → IsRejected x c (record { line = 0; rule = rule.Text; other = 0 })
  unfolding EmptyHolds TextBreaks
  text_first (e, bad) =
      rejected x c (record { line = 0; rule = rule.Text; other = 0 })
      (record { broken = (subst (λ t. ¬ IsTextListed x t) ts (bad x is), refl, refl); least = λ k o b. inr (sym b.1, omega arith) })
      (all_before 3 (λ y. subst (IsEmptyListed x) hs (e x is)) (never 3 3 (omega arith)) (never 4 3 (omega arith)) (never 5 3 (omega arith)) (omega arith))

  append_first : (i j : ℕ) → IsFirstOf l (broken.Append i j) → IsRejected x c (record { line = line_of_hedge c i; rule = rule.Append; other = line_of_tree c j })
  unfolding AppendHolds AppendBreaks
  append_first i j (lists, first) =
      rejected x c (record { line = line_of_hedge c i; rule = rule.Append; other = line_of_tree c j })
      (record {
        broken = (i, j, subst (λ n. i < n) (hedge_count x c formed fit l is hs ts) first.low, subst (λ n. j < n) (tree_count x c formed fit l is hs ts) first.here.low, refl, refl, on (λ t h. ¬ AppendIsListed x t h i j) (first.here.breaks x is));
        least = least;
      })
      (all_before 4 (λ y. empty_listed lists) (λ y. text_listed lists) (never 4 4 (omega arith)) (never 5 4 (omega arith)) (omega arith))
    where
      listed : (k m : ℕ) → AppendHolds l k m → AppendIsListed x (trees_of c) (hedges_of c) k m
      listed k m holds = on (λ t h. AppendIsListed x t h k m) (holds x is)

      least : (k o : ℕ) → IsBroken x c rule.Append k o → (line_of_hedge c i < k) ⊎ ((line_of_hedge c i ≡ k) × (line_of_tree c j ≤ o))
      least k o (a, b, p, q, e, f, bad) = elim (below_or a i) [
        | inl low ↦ absurd (bad (listed a b (first.earlier a low b (tree_in b q))))
        | inr high ↦ elim (later_or_same i a high) [
          | inl more ↦ inl (omega (arith, more, e))
          | inr same ↦ elim (below_or b j) [
            | inl low ↦ absurd (bad (listed a b (subst (λ n. AppendHolds l n b) same (first.here.before b low))))
            | inr high2 ↦ inr (omega (arith, same, e), omega (arith, high2, f))
          ]
        ]
      ]

  wrap_first : (i s : ℕ) → IsFirstOf l (broken.Wrap i s) → IsRejected x c (record { line = line_of_hedge c i; rule = rule.Wrap; other = s })
  unfolding WrapHolds WrapBreaks
  wrap_first i s (rows, first) =
      rejected x c (record { line = line_of_hedge c i; rule = rule.Wrap; other = s })
      (record {
        broken = (i, subst (λ n. i < n) (hedge_count x c formed fit l is hs ts) first.low, subst (λ n. s < n) (symbols_are x c formed fit l is hs ts) first.here.low, refl, on (λ t h. ¬ WrapIsListed x t h i s) (first.here.breaks x is));
        least = least;
      })
      (all_before 5 (λ y. empty_listed rows.lists) (λ y. text_listed rows.lists) (λ y. appends_listed rows) (never 5 5 (omega arith)) (omega arith))
    where
      listed : (k m : ℕ) → WrapHolds l k m → WrapIsListed x (trees_of c) (hedges_of c) k m
      listed k m holds = on (λ t h. WrapIsListed x t h k m) (holds x is)

      least : (k o : ℕ) → IsBroken x c rule.Wrap k o → (line_of_hedge c i < k) ⊎ ((line_of_hedge c i ≡ k) × (s ≤ o))
      least k o (a, p, q, e, bad) = elim (below_or a i) [
        | inl low ↦ absurd (bad (listed a o (first.earlier a low o (symbol_in o q))))
        | inr high ↦ elim (later_or_same i a high) [
          | inl more ↦ inl (omega (arith, more, e))
          | inr same ↦ elim (below_or o s) [
            | inl low ↦ absurd (bad (listed a o (subst (λ n. WrapHolds l n o) same (first.here.before o low))))
            | inr high2 ↦ inr (omega (arith, same, e), high2)
          ]
        ]
      ]

  root_first : (j : ℕ) → IsFirstOf l (broken.Root j) → IsRejected x c (record { line = line_of_tree c j; rule = rule.Root; other = 0 })
  unfolding RootHolds RootBreaks
  root_first j (rows, first) =
      rejected x c (record { line = line_of_tree c j; rule = rule.Root; other = 0 })
      (record {
        broken = (j, subst (λ n. j < n) (tree_count x c formed fit l is hs ts) first.low, refl, refl, on (λ t h. ¬ RootIsGood x t h j) (first.breaks x is));
        least = least;
      })
      (all_before 6 (λ y. empty_listed rows.rows.lists) (λ y. text_listed rows.rows.lists) (λ y. appends_listed rows.rows) (λ y. wraps_listed rows) (omega arith))
    where
      least : (k o : ℕ) → IsBroken x c rule.Root k o → (line_of_tree c j < k) ⊎ ((line_of_tree c j ≡ k) × (0 ≤ o))
      least k o (a, p, e, f, bad) = elim (below_or a j) [
        | inl low ↦ absurd (bad (on (λ t h. RootIsGood x t h a) (first.before a low x is)))
        | inr high ↦ elim (later_or_same j a high) [ inl more ↦ inl (omega (arith, more, e)) | inr same ↦ inr (omega (arith, same, e), omega arith) ]
      ]

  pub broken_rejected : (b : Broken) (r : Reject) → IsFirstOf l b → IsRejectOf c b r → IsRejected x c r
  broken_rejected broken.Empty r f e = told x c rule.Empty 0 0 r e (empty_first f)
  broken_rejected broken.Text r f e = told x c rule.Text 0 0 r e (text_first f)
  broken_rejected (broken.Append i j) r f e = told x c rule.Append (line_of_hedge c i) (line_of_tree c j) r e (append_first i j f)
  broken_rejected (broken.Wrap i s) r f e = told x c rule.Wrap (line_of_hedge c i) s r e (wrap_first i s f)
  broken_rejected (broken.Root j) r f e = told x c rule.Root (line_of_tree c j) 0 r e (root_first j f)

  -- the places are those of the certificate
  pub places_in : (b : Broken) → IsFirstOf l b → AreIn c b
  places_in broken.Empty f = tt
  places_in broken.Text f = tt
  places_in (broken.Append i j) (a, f) = (subst (λ n. i < n) (hedge_count x c formed fit l is hs ts) f.low, subst (λ n. j < n) (tree_count x c formed fit l is hs ts) f.here.low)
  places_in (broken.Wrap i s) (a, f) = subst (λ n. i < n) (hedge_count x c formed fit l is hs ts) f.low
  places_in (broken.Root j) (a, f) = subst (λ n. j < n) (tree_count x c formed fit l is hs ts) f.low
