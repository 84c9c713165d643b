-- A reader behind the lines that were read: what the next line makes of them, or that it is the first fault.
use Rattle.std.proofs.Common.{◌≡◌, ◌<◌, ◌≤◌, ◌+◌, inl, inr, ℕ, suc, List, [], ◌∷◌, ◌++◌, length, take, drop, nat_eq, Bool, true, false, Option, Some, None, Result, Ok, Err, IfSome, IsErrAnd, MatchResult, refl, sym, ap, subst, ◌∙◌, append_assoc, length-append, arith, codes, decimal, slice_get, MatchOption, ◌-◌}
use Rattle.std.specs.Borrow.{Bor}
use Rattle.std.specs.Option.{option_map}
use Rattle.std.specs.Cmp.Lexicographic.{pointwise, bytes_decides, slice_cmp}
use Rattle.std.specs.Ordering.{nat_cmp}
use Rattle.std.specs.declared.cmp.Ordering.{Ordering}
use Rattle.std.specs.declared.cmp.Ordering.TheVariants.{Less}
use Rattle.tc_cert.specs.Orders.{pairs_order}
use Rattle.tc_cert.proofs.Orders.{outputs_by_pairs}
use Rattle.std.proofs.lemmas.List.{take-append-drop, take_rest}
use Rattle.tc_cert.proofs.Numbers.{bool_apart}
use Rattle.std.proofs.lemmas.List.Elements.{All-append}
use Rattle.tc_model.specs.declared.lists.TreeLine.{TreeLine}
use Rattle.tc_model.specs.declared.lists.HedgeLine.{HedgeLine}
use Rattle.tc_model.specs.declared.lists.CertData.{CertData}
use Rattle.tc_model.specs.CertificateLines.{pairs_line, tree_line, hedge_line}
use Rattle.tc_model.specs.CertificateData.{ArePairs, IsFormedTree, IsFormedHedge, IsFormed}
use Rattle.tc_cert.specs.Texts.{Version, whole, by_changes, heading, counted, tree_in, hedge_in, CertificateText}
use Rattle.tc_cert.specs.Fronts.{Front, begun, in_outputs, in_trees, in_hedges, finished, line_count, AreOutputs, AreTrees, AreHedges, IsGood, BeginsWith, IsFirstFault}
use Rattle.tc_cert.specs.Fields.{Fields, IsFormedRow, IsBehind, IsNextRow, row_line, row_in, line_behind, last_of, tree_of, hedge_of, fields_of}
use Rattle.tc_cert.specs.Readings.{IsUnread}
use Rattle.tc_cert.specs.Standing.{Passes, Stands, IsAfterLent, IsNextFault, IsEndFault}
use Rattle.tc_cert.specs.declared.cursor.Reader.{Reader}
use Rattle.tc_cert.specs.declared.faults.CertFault.{CertFault}
use Rattle.tc_cert.specs.declared.faults.CertFault.TheVariants as cert
use Rattle.tc_cert.specs.Styles.{version_of}
use Rattle.tc_cert.specs.declared.rows.Kind.{Kind}
use Rattle.tc_cert.specs.declared.rows.Kind.TheVariants.{Tree, Hedge}
use Rattle.tc_cert.specs.Pieces.{Stops, IsNumberAt, ArePairsAt}
use Rattle.tc_cert.specs.NextRows.{IsShort}
use Rattle.tc_cert.specs.declared.rows.Row.{Row}
use Rattle.tc_cert.proofs.Fields.{one_number, stops_at}
use Rattle.tc_cert.proofs.Lists.{all_one, one_pairs}
use Rattle.tc_cert.proofs.RowLines.{IsShortBefore, of_tree, of_hedge, formed_tree, tree_formed, formed_hedge, hedge_formed}
use Rattle.tc_cert.proofs.Sorted.{ordered_nil, ordered_snoc, behind_of_ordered}
use Rattle.tc_cert.proofs.Chains.{Next, goes_on, one_more_line, last_all, too_many}
use Rattle.tc_cert.proofs.FirstFaults.{CanGo, is_fault, to_text}

-- a line more
pub stands_on : (v : Version) (bytes : List ℕ) (f g : Front) (l : List ℕ) (old new : Reader) → Stands v bytes f old → Passes l old new → Next f l g → IsGood g → Stands v bytes g new
stands_on v bytes f g l old new s p n good = record {
  short = s.short;
  begins = goes_on l n good s.begins p.read;
  lines = p.lines ∙ ap (λ k. k + 1) s.lines ∙ sym (one_more_line f l g n);
  style = ap version_of p.style ∙ s.style;
}

-- or a fault
pub next_fault : (v : Version) (bytes : List ℕ) (f : Front) (r : Reader) (Piece : Type 0) (e : CertFault) → Stands v bytes f r → (CanGo f r.rest.now → Piece) → ((w : Version) (d : CertData) → f ≡ finished w d → ⊥)
    → IsNextFault r.lines Piece e → IsUnread bytes e
next_fault v bytes f r Piece (cert.Form line) s go unfinished h =
    let place : line_count f + 1 ≡ line = ap (λ k. k + 1) (sym s.lines) ∙ sym h.0 in
    subst (IsFirstFault bytes) place (is_fault bytes f r.rest.now s.short s.begins (λ c. h.1 (go c)) (λ w d e _. unfinished w d e))
next_fault v bytes f r Piece cert.NoMemory s go unfinished h = tt

pub more_lines : {X : Type 0} (xs : List X) (x : X) (count : ℕ) → length xs < count → length (xs ++ x ∷ []) ≤ count
more_lines xs x count h = omega (arith, h, length-append xs (x ∷ []))

-- outputs
pub output_on : (v : Version) (bytes : List ℕ) (count : ℕ) (os : List (List (ℕ × ℕ))) (ps : List (ℕ × ℕ)) (old new : Reader) → length os < count → Stands v bytes (in_outputs v count os) old
    → ArePairs ps → IsBehind pairs_line (last_of os) ps → Passes (pairs_line ps) old new → Stands v bytes (in_outputs v count (os ++ ps ∷ [])) new
output_on v bytes count os ps old new few s formed behind p =
    let good : AreOutputs count os = s.begins.good in
    stands_on v bytes (in_outputs v count os) (in_outputs v count (os ++ ps ∷ [])) (pairs_line ps) old new s p (inl (record { pairs = ps; line = refl; to = refl }))
    (record { few = more_lines os ps count few; most_few = good.most_few; formed = All-append ArePairs os (ps ∷ []) good.formed (all_one ArePairs ps formed); ordered = ordered_snoc pairs_line os ps good.ordered behind })

outputs_apart : (v w : Version) (count : ℕ) (os : List (List (ℕ × ℕ))) (d : CertData) → in_outputs v count os ≡ finished w d → ⊥
outputs_apart v w count os d e = cc

trees_apart : (v w : Version) (os : List (List (ℕ × ℕ))) (count : ℕ) (ts : List TreeLine) (d : CertData) → in_trees v os count ts ≡ finished w d → ⊥
trees_apart v w os count ts d e = cc

hedges_apart : (v w : Version) (os : List (List (ℕ × ℕ))) (ts : List TreeLine) (count : ℕ) (hs : List HedgeLine) (d : CertData) → in_hedges v os ts count hs ≡ finished w d → ⊥
hedges_apart v w os ts count hs d e = cc

begun_apart : (v w : Version) (d : CertData) → begun v ≡ finished w d → ⊥
begun_apart v w d e = cc

abbrev pub AnOutput : List (List (ℕ × ℕ)) → List ℕ → Type 0
AnOutput os bytes = (ps : List (ℕ × ℕ)) × (rest : List ℕ) × ArePairs ps × IsBehind pairs_line (last_of os) ps × (bytes ≡ pairs_line ps ++ 10 ∷ rest)

pub output_fault : (v : Version) (bytes : List ℕ) (count : ℕ) (os : List (List (ℕ × ℕ))) (r : Reader) (e : CertFault) → length os < count → Stands v bytes (in_outputs v count os) r → IsNextFault r.lines (AnOutput os r.rest.now) e → IsUnread bytes e
output_fault v bytes count os r e few s h = next_fault v bytes (in_outputs v count os) r (AnOutput os r.rest.now) e s go (λ w d q. outputs_apart v w count os d q) h
  where
    by : (l : List ℕ) (g : Front) (after : List ℕ) → Next (in_outputs v count os) l g → IsGood g → r.rest.now ≡ l ++ 10 ∷ after → AnOutput os r.rest.now
    by l g after (inl n) good e =
        let good_now : AreOutputs count (os ++ n.pairs ∷ []) = subst IsGood n.to good in
        (n.pairs, after, last_all ArePairs os n.pairs good_now.formed, behind_of_ordered pairs_line os n.pairs good_now.ordered, e ∙ ap (λ w. w ++ 10 ∷ after) n.line)
    by l g after (inr n) good e = absurd (omega (arith, few, n.all))

    go : CanGo (in_outputs v count os) r.rest.now → AnOutput os r.rest.now
    go c = by c.line c.to c.after c.next c.good c.spelled

-- counts
no_outputs : (count : ℕ) → count ≤ 65536 → AreOutputs count []
no_outputs count h = record { few = omega arith; most_few = h; formed = λ k d i. absurd (omega arith); ordered = ordered_nil }

no_trees : (count : ℕ) → count ≤ 4000 → AreTrees count []
no_trees count h = record { few = omega arith; most_few = h; formed = λ k d i. absurd (omega arith); ordered = ordered_nil }

no_hedges : (count : ℕ) → count ≤ 4000 → AreHedges count []
no_hedges count h = record { few = omega arith; most_few = h; formed = λ k d i. absurd (omega arith); ordered = ordered_nil }

abbrev pub ACount : List ℕ → ℕ → List ℕ → Type 0
ACount kind most bytes = (n : ℕ) × (rest : List ℕ) × (n ≤ most) × (bytes ≡ counted kind n ++ 10 ∷ rest)

pub outputs_on : (v : Version) (bytes : List ℕ) (count : ℕ) (old new : Reader) → Stands v bytes (begun v) old → count ≤ 65536 → Passes (counted (codes "outputs") count) old new → Stands v bytes (in_outputs v count []) new
outputs_on v bytes count old new s h p = stands_on v bytes (begun v) (in_outputs v count []) (counted (codes "outputs") count) old new s p (record { outputs = count; line = refl; to = refl }) (no_outputs count h)

pub outputs_fault : (v : Version) (bytes : List ℕ) (r : Reader) (e : CertFault) → Stands v bytes (begun v) r → IsNextFault r.lines (ACount (codes "outputs") 65536 r.rest.now) e → IsUnread bytes e
outputs_fault v bytes r e s h = next_fault v bytes (begun v) r (ACount (codes "outputs") 65536 r.rest.now) e s go (λ w d q. begun_apart v w d q) h
  where
    go : CanGo (begun v) r.rest.now → ACount (codes "outputs") 65536 r.rest.now
    go c = (c.next.outputs, c.after, (subst IsGood c.next.to c.good).most_few, c.spelled ∙ ap (λ w. w ++ 10 ∷ c.after) c.next.line)

pub trees_on : (v : Version) (bytes : List ℕ) (os : List (List (ℕ × ℕ))) (count : ℕ) (old new : Reader) → Stands v bytes (in_outputs v (length os) os) old → count ≤ 4000 → Passes (counted (codes "trees") count) old new → Stands v bytes (in_trees v os count []) new
trees_on v bytes os count old new s h p = stands_on v bytes (in_outputs v (length os) os) (in_trees v os count []) (counted (codes "trees") count) old new s p (inr (record { trees = count; all = refl; line = refl; to = refl })) (s.begins.good, no_trees count h)

pub trees_fault : (v : Version) (bytes : List ℕ) (os : List (List (ℕ × ℕ))) (r : Reader) (e : CertFault) → Stands v bytes (in_outputs v (length os) os) r → IsNextFault r.lines (ACount (codes "trees") 4000 r.rest.now) e → IsUnread bytes e
trees_fault v bytes os r e s h = next_fault v bytes (in_outputs v (length os) os) r (ACount (codes "trees") 4000 r.rest.now) e s go (λ w d q. outputs_apart v w (length os) os d q) h
  where
    by : (l : List ℕ) (g : Front) (after : List ℕ) → Next (in_outputs v (length os) os) l g → IsGood g → r.rest.now ≡ l ++ 10 ∷ after → ACount (codes "trees") 4000 r.rest.now
    by l g after (inl n) good e = absurd (too_many os n.pairs (length os) (subst IsGood n.to good).few refl)
    by l g after (inr n) good e = (n.trees, after, (subst IsGood n.to good).1.most_few, e ∙ ap (λ w. w ++ 10 ∷ after) n.line)

    go : CanGo (in_outputs v (length os) os) r.rest.now → ACount (codes "trees") 4000 r.rest.now
    go c = by c.line c.to c.after c.next c.good c.spelled

pub hedges_on : (v : Version) (bytes : List ℕ) (os : List (List (ℕ × ℕ))) (ts : List TreeLine) (count : ℕ) (old new : Reader) → Stands v bytes (in_trees v os (length ts) ts) old → count ≤ 4000 → Passes (counted (codes "hedges") count) old new
    → Stands v bytes (in_hedges v os ts count []) new
hedges_on v bytes os ts count old new s h p =
    stands_on v bytes (in_trees v os (length ts) ts) (in_hedges v os ts count []) (counted (codes "hedges") count) old new s p (inr (record { hedges = count; all = refl; line = refl; to = refl })) (s.begins.good.0, s.begins.good.1, no_hedges count h)

pub hedges_fault : (v : Version) (bytes : List ℕ) (os : List (List (ℕ × ℕ))) (ts : List TreeLine) (r : Reader) (e : CertFault) → Stands v bytes (in_trees v os (length ts) ts) r → IsNextFault r.lines (ACount (codes "hedges") 4000 r.rest.now) e → IsUnread bytes e
hedges_fault v bytes os ts r e s h = next_fault v bytes (in_trees v os (length ts) ts) r (ACount (codes "hedges") 4000 r.rest.now) e s go (λ w d q. trees_apart v w os (length ts) ts d q) h
  where
    by : (l : List ℕ) (g : Front) (after : List ℕ) → Next (in_trees v os (length ts) ts) l g → IsGood g → r.rest.now ≡ l ++ 10 ∷ after → ACount (codes "hedges") 4000 r.rest.now
    by l g after (inl n) good e = absurd (too_many ts n.tree (length ts) (subst IsGood n.to good).1.few refl)
    by l g after (inr n) good e = (n.hedges, after, (subst IsGood n.to good).2.most_few, e ∙ ap (λ w. w ++ 10 ∷ after) n.line)

    go : CanGo (in_trees v os (length ts) ts) r.rest.now → ACount (codes "hedges") 4000 r.rest.now
    go c = by c.line c.to c.after c.next c.good c.spelled

-- rows
tree_behind_is : (v : Version) (before : Option TreeLine) (t : TreeLine) → line_behind (row_line Tree) (row_in v Tree) (option_map of_tree before) (of_tree t) ≡ line_behind tree_line (tree_in v) before t
tree_behind_is v None t = refl
tree_behind_is whole (Some b) t = refl
tree_behind_is by_changes (Some b) t = refl

hedge_behind_is : (v : Version) (before : Option HedgeLine) (t : HedgeLine) → line_behind (row_line Hedge) (row_in v Hedge) (option_map of_hedge before) (of_hedge t) ≡ line_behind hedge_line (hedge_in v) before t
hedge_behind_is v None t = refl
hedge_behind_is whole (Some b) t = refl
hedge_behind_is by_changes (Some b) t = refl

tree_order_is : (before : Option TreeLine) (t : TreeLine) → IsBehind (row_line Tree) (option_map of_tree before) (of_tree t) → IsBehind tree_line before t
tree_order_is None t h = tt
tree_order_is (Some b) t h = h

is_tree_order : (before : Option TreeLine) (t : TreeLine) → IsBehind tree_line before t → IsBehind (row_line Tree) (option_map of_tree before) (of_tree t)
is_tree_order None t h = tt
is_tree_order (Some b) t h = h

hedge_order_is : (before : Option HedgeLine) (t : HedgeLine) → IsBehind (row_line Hedge) (option_map of_hedge before) (of_hedge t) → IsBehind hedge_line before t
hedge_order_is None t h = tt
hedge_order_is (Some b) t h = h

is_hedge_order : (before : Option HedgeLine) (t : HedgeLine) → IsBehind hedge_line before t → IsBehind (row_line Hedge) (option_map of_hedge before) (of_hedge t)
is_hedge_order None t h = tt
is_hedge_order (Some b) t h = h

-- a row was read behind others
pub record PassesRow (v : Version) (k : Kind) (before : Option Fields) (f : Fields) (old new : Reader) : Type 0 where
  pub row : IsNextRow v k before old.rest.now f new.rest.now
  pub lines : new.lines ≡ old.lines + 1
  pub style : new.style ≡ old.style

pub tree_on : (v : Version) (bytes : List ℕ) (os : List (List (ℕ × ℕ))) (count : ℕ) (ts : List TreeLine) (f : Fields) (old new : Reader) → length ts < count → Stands v bytes (in_trees v os count ts) old
    → PassesRow v Tree (option_map of_tree (last_of ts)) f old new → Stands v bytes (in_trees v os count (ts ++ tree_of f ∷ [])) new
tree_on v bytes os count ts f old new few s p =
    let t : TreeLine = tree_of f in
    let good : AreTrees count ts = s.begins.good.1 in
    stands_on v bytes (in_trees v os count ts) (in_trees v os count (ts ++ t ∷ [])) (line_behind tree_line (tree_in v) (last_of ts) t) old new s
    (record { read = p.row.spelled ∙ ap (λ w. w ++ 10 ∷ new.rest.now) (tree_behind_is v (last_of ts) t); lines = p.lines; style = p.style })
    (inl (record { tree = t; line = refl; to = refl }))
    (s.begins.good.0, record { few = more_lines ts t count few; most_few = good.most_few; formed = All-append IsFormedTree ts (t ∷ []) good.formed (all_one IsFormedTree t (tree_formed f p.row.formed)); ordered = ordered_snoc tree_line ts t good.ordered (tree_order_is (last_of ts) t p.row.behind) })

pub hedge_on : (v : Version) (bytes : List ℕ) (os : List (List (ℕ × ℕ))) (ts : List TreeLine) (count : ℕ) (hs : List HedgeLine) (f : Fields) (old new : Reader) → length hs < count → Stands v bytes (in_hedges v os ts count hs) old
    → PassesRow v Hedge (option_map of_hedge (last_of hs)) f old new → Stands v bytes (in_hedges v os ts count (hs ++ hedge_of f ∷ [])) new
hedge_on v bytes os ts count hs f old new few s p =
    let t : HedgeLine = hedge_of f in
    let good : AreHedges count hs = s.begins.good.2 in
    stands_on v bytes (in_hedges v os ts count hs) (in_hedges v os ts count (hs ++ t ∷ [])) (line_behind hedge_line (hedge_in v) (last_of hs) t) old new s
    (record { read = p.row.spelled ∙ ap (λ w. w ++ 10 ∷ new.rest.now) (hedge_behind_is v (last_of hs) t); lines = p.lines; style = p.style })
    (inl (record { hedge = t; line = refl; to = refl }))
    (s.begins.good.0, s.begins.good.1, record { few = more_lines hs t count few; most_few = good.most_few; formed = All-append IsFormedHedge hs (t ∷ []) good.formed (all_one IsFormedHedge t (hedge_formed f p.row.formed)); ordered = ordered_snoc hedge_line hs t good.ordered (hedge_order_is (last_of hs) t p.row.behind) })

abbrev pub ARow : Version → Kind → Option Fields → List ℕ → Type 0
ARow v k before bytes = (f : Fields) × (rest : List ℕ) × IsNextRow v k before bytes f rest

pub tree_fault : (v : Version) (bytes : List ℕ) (os : List (List (ℕ × ℕ))) (count : ℕ) (ts : List TreeLine) (r : Reader) (e : CertFault) → length ts < count → Stands v bytes (in_trees v os count ts) r
    → IsNextFault r.lines (ARow v Tree (option_map of_tree (last_of ts)) r.rest.now) e → IsUnread bytes e
tree_fault v bytes os count ts r e few s h = next_fault v bytes (in_trees v os count ts) r (ARow v Tree (option_map of_tree (last_of ts)) r.rest.now) e s go (λ w d q. trees_apart v w os count ts d q) h
  where
    by : (l : List ℕ) (g : Front) (after : List ℕ) → Next (in_trees v os count ts) l g → IsGood g → r.rest.now ≡ l ++ 10 ∷ after → ARow v Tree (option_map of_tree (last_of ts)) r.rest.now
    by l g after (inl n) good e =
        let good_now : AreTrees count (ts ++ n.tree ∷ []) = (subst IsGood n.to good).1 in (
          of_tree n.tree,
          after,
          record {
            formed = formed_tree n.tree (last_all IsFormedTree ts n.tree good_now.formed);
            behind = is_tree_order (last_of ts) n.tree (behind_of_ordered tree_line ts n.tree good_now.ordered);
            spelled = e ∙ ap (λ w. w ++ 10 ∷ after) (n.line ∙ sym (tree_behind_is v (last_of ts) n.tree));
          },
        )
    by l g after (inr n) good e = absurd (omega (arith, few, n.all))

    go : CanGo (in_trees v os count ts) r.rest.now → ARow v Tree (option_map of_tree (last_of ts)) r.rest.now
    go c = by c.line c.to c.after c.next c.good c.spelled

pub hedge_fault : (v : Version) (bytes : List ℕ) (os : List (List (ℕ × ℕ))) (ts : List TreeLine) (count : ℕ) (hs : List HedgeLine) (r : Reader) (e : CertFault) → length hs < count → Stands v bytes (in_hedges v os ts count hs) r
    → IsNextFault r.lines (ARow v Hedge (option_map of_hedge (last_of hs)) r.rest.now) e → IsUnread bytes e
hedge_fault v bytes os ts count hs r e few s h = next_fault v bytes (in_hedges v os ts count hs) r (ARow v Hedge (option_map of_hedge (last_of hs)) r.rest.now) e s go (λ w d q. hedges_apart v w os ts count hs d q) h
  where
    by : (l : List ℕ) (g : Front) (after : List ℕ) → Next (in_hedges v os ts count hs) l g → IsGood g → r.rest.now ≡ l ++ 10 ∷ after → ARow v Hedge (option_map of_hedge (last_of hs)) r.rest.now
    by l g after (inl n) good e =
        let good_now : AreHedges count (hs ++ n.hedge ∷ []) = (subst IsGood n.to good).2 in (
          of_hedge n.hedge,
          after,
          record {
            formed = formed_hedge n.hedge (last_all IsFormedHedge hs n.hedge good_now.formed);
            behind = is_hedge_order (last_of hs) n.hedge (behind_of_ordered hedge_line hs n.hedge good_now.ordered);
            spelled = e ∙ ap (λ w. w ++ 10 ∷ after) (n.line ∙ sym (hedge_behind_is v (last_of hs) n.hedge));
          },
        )
    by l g after (inr n) good e = absurd (omega (arith, few, n.all))

    go : CanGo (in_hedges v os ts count hs) r.rest.now → ARow v Hedge (option_map of_hedge (last_of hs)) r.rest.now
    go c = by c.line c.to c.after c.next c.good c.spelled

-- the end
end_next : (v : Version) (os : List (List (ℕ × ℕ))) (ts : List TreeLine) (hs : List HedgeLine) → Next (in_hedges v os ts (length hs) hs) (codes "end") (finished v (record { outputs = os; trees = ts; hedges = hs }))
end_next v os ts hs = inr (record { all = refl; line = refl; to = refl })

formed_of : (v : Version) (os : List (List (ℕ × ℕ))) (ts : List TreeLine) (hs : List HedgeLine) → IsGood (in_hedges v os ts (length hs) hs) → IsFormed (record { outputs = os; trees = ts; hedges = hs })
formed_of v os ts hs (a, b, c) = record {
  few_outputs = a.most_few;
  few_trees = b.most_few;
  few_hedges = c.most_few;
  outputs = a.formed;
  trees = b.formed;
  hedges = c.formed;
  outputs_ordered = a.ordered;
  trees_ordered = b.ordered;
  hedges_ordered = c.ordered;
}

pub whole_text : (v : Version) (bytes : List ℕ) (os : List (List (ℕ × ℕ))) (ts : List TreeLine) (hs : List HedgeLine) (r : Reader) → Stands v bytes (in_hedges v os ts (length hs) hs) r → r.rest.now ≡ codes "end" ++ 10 ∷ []
    → CertificateText bytes (record { outputs = os; trees = ts; hedges = hs })
whole_text v bytes os ts hs r s e = to_text bytes v (record { outputs = os; trees = ts; hedges = hs }) (goes_on (codes "end") (end_next v os ts hs) (formed_of v os ts hs s.begins.good) s.begins e)

pub end_fault : (v : Version) (bytes : List ℕ) (os : List (List (ℕ × ℕ))) (ts : List TreeLine) (hs : List HedgeLine) (r : Reader) (e : CertFault) → Stands v bytes (in_hedges v os ts (length hs) hs) r → IsEndFault r e → IsUnread bytes e
end_fault v bytes os ts hs r cert.NoMemory s h = tt
end_fault v bytes os ts hs r (cert.Form line) s (inl h) =
    next_fault v bytes (in_hedges v os ts (length hs) hs) r ((rest : List ℕ) × (r.rest.now ≡ codes "end" ++ 10 ∷ rest)) (cert.Form line) s go (λ w d q. hedges_apart v w os ts (length hs) hs d q) (h.0, λ p. h.1 p.0 p.1)
  where
    by : (l : List ℕ) (g : Front) (after : List ℕ) → Next (in_hedges v os ts (length hs) hs) l g → IsGood g → r.rest.now ≡ l ++ 10 ∷ after → (rest : List ℕ) × (r.rest.now ≡ codes "end" ++ 10 ∷ rest)
    by l g after (inl n) good e = absurd (too_many hs n.hedge (length hs) (subst IsGood n.to good).2.few refl)
    by l g after (inr n) good e = (after, e ∙ ap (λ w. w ++ 10 ∷ after) n.line)

    go : CanGo (in_hedges v os ts (length hs) hs) r.rest.now → (rest : List ℕ) × (r.rest.now ≡ codes "end" ++ 10 ∷ rest)
    go c = by c.line c.to c.after c.next c.good c.spelled
end_fault v bytes os ts hs r (cert.Form line) s (inr h) =
    let d : CertData = record { outputs = os; trees = ts; hedges = hs } in
    let begins : BeginsWith bytes (finished v d) h.1.0 = goes_on (codes "end") (end_next v os ts hs) (formed_of v os ts hs s.begins.good) s.begins h.1.1 in
    let place : line_count (finished v d) + 1 ≡ line = omega (arith, h.0, s.lines, one_more_line (in_hedges v os ts (length hs) hs) (codes "end") (finished v d) (end_next v os ts hs)) in
    subst (IsFirstFault bytes) place (is_fault bytes (finished v d) h.1.0 s.short begins (λ c. c.next) (λ w c q z. h.1.2 z))

-- the line of an output behind the last of others
pub behind_of : (os : List (List (ℕ × ℕ))) (ps : List (ℕ × ℕ)) (r : Option (Bor (List (ℕ × ℕ)))) → MatchOption r (last_of os ≡ None) (λ b. last_of os ≡ Some b.now) → IsAfterLent r ps → IsBehind pairs_line (last_of os) ps
behind_of os ps None e h = subst (λ o. IsBehind pairs_line o ps) (sym e) tt
behind_of os ps (Some b) e h = subst (λ o. IsBehind pairs_line o ps) (sym e) h

pub of_behind : (os : List (List (ℕ × ℕ))) (ps : List (ℕ × ℕ)) (r : Option (Bor (List (ℕ × ℕ)))) → MatchOption r (last_of os ≡ None) (λ b. last_of os ≡ Some b.now) → IsBehind pairs_line (last_of os) ps → IsAfterLent r ps
of_behind os ps None e h = tt
of_behind os ps (Some b) e h = subst (λ o. IsBehind pairs_line o ps) e h

-- the last of a list, by its place
pub last_get : {X : Type 0} (xs : List X) (x : X) → 0 < length xs → slice_get xs (length xs - 1) ≡ Some x → last_of xs ≡ Some x
last_get [] x h e = absurd (omega (arith, h))
last_get (y ∷ []) x h e = e
last_get (y ∷ (z ∷ zs)) x h e = last_get (z ∷ zs) x (omega arith) (ap (slice_get (y ∷ (z ∷ zs))) (places (length zs)) ∙ e)
  where
    places : (n : ℕ) → suc (suc n - 1) ≡ suc (suc n) - 1
    places n = omega arith

-- what stands at the front of a line that counts
pub count_behind : (kind bytes behind : List ℕ) (n : ℕ) (rest : List ℕ) → bytes ≡ kind ++ behind → bytes ≡ counted kind n ++ 10 ∷ rest → behind ≡ 32 ∷ (decimal n ++ 10 ∷ rest)
count_behind kind bytes behind n rest e d = cancel kind behind (32 ∷ (decimal n ++ 10 ∷ rest)) (sym e ∙ d ∙ append_assoc (kind ++ 32 ∷ []) (decimal n) (10 ∷ rest) ∙ append_assoc kind (32 ∷ []) (decimal n ++ 10 ∷ rest))
  where
    cancel : (k xs ys : List ℕ) → k ++ xs ≡ k ++ ys → xs ≡ ys
    cancel [] xs ys e = e
    cancel (c ∷ k) xs ys e = let tail : k ++ xs ≡ k ++ ys = ap (drop 1) e in cancel k xs ys tail

pub count_digits : (kind bytes behind digits : List ℕ) (n : ℕ) (rest : List ℕ) → bytes ≡ kind ++ behind → behind ≡ 32 ∷ digits → bytes ≡ counted kind n ++ 10 ∷ rest → digits ≡ decimal n ++ 10 ∷ rest
count_digits kind bytes behind digits n rest e b d = let k : 32 ∷ digits ≡ 32 ∷ (decimal n ++ 10 ∷ rest) = sym b ∙ count_behind kind bytes behind n rest e d in ap (drop 1) k

stops_feed : (r : List ℕ) → Stops (10 ∷ r)
stops_feed r = stops_at 10 r (λ h. absurd (omega (arith, h)))

pub count_number : (kind bytes behind digits : List ℕ) (n : ℕ) (rest : List ℕ) → n < 4294967296 → bytes ≡ kind ++ behind → behind ≡ 32 ∷ digits → bytes ≡ counted kind n ++ 10 ∷ rest → IsNumberAt digits n (10 ∷ rest)
count_number kind bytes behind digits n rest h e b d = record { number = h; whole = stops_feed rest; spelled = count_digits kind bytes behind digits n rest e b d }

pub count_same : (kind bytes behind digits end : List ℕ) (m n : ℕ) (rest : List ℕ) → n < 4294967296 → bytes ≡ kind ++ behind → behind ≡ 32 ∷ digits → IsNumberAt digits m end → bytes ≡ counted kind n ++ 10 ∷ rest → (m ≡ n) × (end ≡ 10 ∷ rest)
count_same kind bytes behind digits end m n rest h e b at d = one_number m n end (10 ∷ rest) at.number h at.whole (stops_feed rest) (sym at.spelled ∙ count_digits kind bytes behind digits n rest e b d)

-- neither heading
pub no_heading : (bytes : List ℕ) → ((r : List ℕ) → bytes ≡ codes "xslt-typecheck certificate 1\n" ++ r → ⊥) → ((r : List ℕ) → bytes ≡ codes "xslt-typecheck certificate 2\n" ++ r → ⊥)
    → (v : Version) (rest : List ℕ) → bytes ≡ heading v ++ 10 ∷ rest → ⊥
no_heading bytes one two whole rest e = one rest e
no_heading bytes one two by_changes rest e = two rest e

-- what a refusal leaves
pub refused : {T E : Type 0} (P : T → Type 0) (Q : E → Type 0) (r : Result T E) (x : E) → IsErrAnd r (λ e. e ≡ x) → Q x → MatchResult r P Q
refused P Q (Ok x) e h q = absurd h
refused P Q (Err x) e h q = subst Q (sym h) q

-- a text that bytes begin with
pub begins : (mark bs : List ℕ) → pointwise nat_eq mark (take (length mark) bs) ≡ true → bs ≡ mark ++ take (length bs - length mark) (drop (length mark) bs)
begins mark bs e =
    sym (take-append-drop (length mark) bs) ∙ ap (λ w. w ++ drop (length mark) bs) (sym ((bytes_decides mark (take (length mark) bs)).0 e)) ∙ ap (λ w. mark ++ w) (sym (take_rest bs (length mark)))

take_front : (mark r : List ℕ) → take (length mark) (mark ++ r) ≡ mark
take_front [] r = refl
take_front (m ∷ mark) r = ap (λ w. m ∷ w) (take_front mark r)

pub begins_not : (mark bs r : List ℕ) → pointwise nat_eq mark (take (length mark) bs) ≡ false → bs ≡ mark ++ r → ⊥
begins_not mark bs r h e = bool_apart (pointwise nat_eq mark (take (length mark) bs)) ((bytes_decides mark (take (length mark) bs)).1 (sym (ap (take (length mark)) e ∙ take_front mark r))) h

-- an output at the front
abbrev pub AnOutputLine : Option (Bor (List (ℕ × ℕ))) → List ℕ → Type 0
AnOutputLine before bytes = (ps : List (ℕ × ℕ)) × (rest : List ℕ) × ArePairs ps × IsAfterLent before ps × (bytes ≡ pairs_line ps ++ 10 ∷ rest)

pub pairs_of_line : (bytes inside : List ℕ) (ps : List (ℕ × ℕ)) (rest : List ℕ) → bytes ≡ 109 ∷ inside → ArePairs ps → bytes ≡ pairs_line ps ++ 10 ∷ rest → ArePairsAt inside ps rest
pairs_of_line bytes inside ps rest e p d = let k : 109 ∷ inside ≡ pairs_line ps ++ 10 ∷ rest = sym e ∙ d in record { allowed = p.numbers; spelled = ap (drop 1) k }

pub line_of_pairs : (bytes inside : List ℕ) (ps : List (ℕ × ℕ)) (rest : List ℕ) → bytes ≡ 109 ∷ inside → ArePairsAt inside ps rest → bytes ≡ pairs_line ps ++ 10 ∷ rest
line_of_pairs bytes inside ps rest e at = e ∙ ap (λ w. 109 ∷ w) at.spelled

pub same_pairs_at : (inside : List ℕ) (ps qs : List (ℕ × ℕ)) (r s : List ℕ) → ArePairsAt inside ps r → ArePairsAt inside qs s → (ps ≡ qs) × (r ≡ s)
same_pairs_at inside ps qs r s a b = one_pairs ps qs r s a.allowed b.allowed (sym a.spelled ∙ b.spelled)

pub fault_as : (lines : ℕ) (A B : Type 0) (e : CertFault) → (B → A) → IsNextFault lines A e → IsNextFault lines B e
fault_as lines A B (cert.Form line) f h = (h.0, λ b. h.1 (f b))
fault_as lines A B cert.NoMemory f h = tt

pub formed_before : (os : List (List (ℕ × ℕ))) (r : Option (Bor (List (ℕ × ℕ)))) → MatchOption r (last_of os ≡ None) (λ b. last_of os ≡ Some b.now) → IfSome (last_of os) ArePairs → IfSome r (λ b. ArePairs b.now)
formed_before os None e h = tt
formed_before os (Some b) e h = subst (λ o. IfSome o ArePairs) e h

pub short_before : (o : Option Row) → IfSome o (λ b. IsFormedRow (fields_of b) × IsShort (fields_of b)) → IsShortBefore (option_map fields_of o)
short_before None h = tt
short_before (Some b) h = h.1

pub after_by_order : (before : Option (Bor (List (ℕ × ℕ)))) (b : Bor (List (ℕ × ℕ))) (ps : List (ℕ × ℕ)) (order : Ordering) (is : Bool) → before ≡ Some b → ArePairs ps → IfSome before (λ x. ArePairs x.now) → order ≡ pairs_order b.now ps
    → ((is ≡ true → order ≡ Less) × (order ≡ Less → is ≡ true)) → (is ≡ true → IsAfterLent before ps) × (IsAfterLent before ps → is ≡ true)
after_by_order before b ps order is e p q o h =
    let lent : ArePairs b.now = subst (λ x. IfSome x (λ y. ArePairs y.now)) e q in
    let same : slice_cmp nat_cmp (pairs_line b.now) (pairs_line ps) ≡ order = outputs_by_pairs b.now ps lent.numbers p.numbers ∙ sym o in
    (λ t. subst (λ x. IsAfterLent x ps) (sym e) (same ∙ h.0 t), λ t. h.1 (sym same ∙ subst (λ x. IsAfterLent x ps) e t))
