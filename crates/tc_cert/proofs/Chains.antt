-- Lines one after another from the front of a text: what may follow, and that it is one.
use Rattle.std.proofs.Common.{◌≡◌, ◌<◌, ◌≤◌, ◌+◌, ◌⊎◌, inl, inr, ℕ, List, [], ◌∷◌, ◌++◌, length, drop, get_or, flat_map, All, Option, Some, None, refl, sym, ap, subst, ◌∙◌, append_assoc, append-nil, length-append, arith, codes, decimal}
use Rattle.std.specs.Char.{digit_value}
use Rattle.std.proofs.lemmas.Grind.{flat_map-append}
use Rattle.std.proofs.lemmas.List.Elements.{All-append, All-head, All-tail}
use Rattle.tc_model.specs.declared.lists.TreeLine.{TreeLine}
use Rattle.tc_model.specs.declared.lists.HedgeLine.{HedgeLine}
use Rattle.tc_model.specs.declared.lists.CertData.{CertData}
use Rattle.tc_model.specs.CertificateLines.{pairs_line, pair, tree_line, hedge_line}
use Rattle.tc_model.specs.CertificateData.{ArePairs, IsFormedTree, IsFormedHedge, IsFormed}
use Rattle.tc_cert.specs.Texts.{Version, whole, by_changes, ended, heading, counted, tree_in, hedge_in, rows_in, rows_behind, output_text, outputs_part, trees_part, hedges_part, rows_part, text}
use Rattle.tc_cert.specs.Fronts.{Front, nothing, begun, in_outputs, in_trees, in_hedges, finished, line_count, front_text, AreOutputs, AreTrees, AreHedges, IsGood, BeginsWith}
use Rattle.tc_cert.specs.Fields.{last_of, line_behind}
use Rattle.tc_cert.specs.NextRows.{IsShort}
use Rattle.tc_cert.proofs.Fields.{one_number, stops_at}
use Rattle.tc_cert.proofs.RowLines.{of_tree, of_hedge, one_tree_line, one_hedge_line, tree_short, hedge_short}
use Rattle.tc_cert.proofs.Lists.{one_pairs, all_one}
use Rattle.tc_cert.proofs.Sorted.{last_snoc, ordered_front}

-- the fronts that have one line more
pub record IsNextOutput (v : Version) (count : ℕ) (os : List (List (ℕ × ℕ))) (l : List ℕ) (g : Front) : Type 0 where
  pub pairs : List (ℕ × ℕ)
  pub line : l ≡ pairs_line pairs
  pub to : g ≡ in_outputs v count (os ++ pairs ∷ [])

pub record IsNextTrees (v : Version) (count : ℕ) (os : List (List (ℕ × ℕ))) (l : List ℕ) (g : Front) : Type 0 where
  pub trees : ℕ
  pub all : length os ≡ count
  pub line : l ≡ counted (codes "trees") trees
  pub to : g ≡ in_trees v os trees []

pub record IsNextTree (v : Version) (os : List (List (ℕ × ℕ))) (count : ℕ) (ts : List TreeLine) (l : List ℕ) (g : Front) : Type 0 where
  pub tree : TreeLine
  pub line : l ≡ line_behind tree_line (tree_in v) (last_of ts) tree
  pub to : g ≡ in_trees v os count (ts ++ tree ∷ [])

pub record IsNextHedges (v : Version) (os : List (List (ℕ × ℕ))) (count : ℕ) (ts : List TreeLine) (l : List ℕ) (g : Front) : Type 0 where
  pub hedges : ℕ
  pub all : length ts ≡ count
  pub line : l ≡ counted (codes "hedges") hedges
  pub to : g ≡ in_hedges v os ts hedges []

pub record IsNextHedge (v : Version) (os : List (List (ℕ × ℕ))) (ts : List TreeLine) (count : ℕ) (hs : List HedgeLine) (l : List ℕ) (g : Front) : Type 0 where
  pub hedge : HedgeLine
  pub line : l ≡ line_behind hedge_line (hedge_in v) (last_of hs) hedge
  pub to : g ≡ in_hedges v os ts count (hs ++ hedge ∷ [])

pub record IsNextEnd (v : Version) (os : List (List (ℕ × ℕ))) (ts : List TreeLine) (count : ℕ) (hs : List HedgeLine) (l : List ℕ) (g : Front) : Type 0 where
  pub all : length hs ≡ count
  pub line : l ≡ codes "end"
  pub to : g ≡ finished v (record { outputs = os; trees = ts; hedges = hs })

pub record IsNextHeading (l : List ℕ) (g : Front) : Type 0 where
  pub version : Version
  pub line : l ≡ heading version
  pub to : g ≡ begun version

pub record IsNextOutputs (v : Version) (l : List ℕ) (g : Front) : Type 0 where
  pub outputs : ℕ
  pub line : l ≡ counted (codes "outputs") outputs
  pub to : g ≡ in_outputs v outputs []

abbrev pub Next : Front → List ℕ → Front → Type 0
Next nothing l g = IsNextHeading l g
Next (begun v) l g = IsNextOutputs v l g
Next (in_outputs v count os) l g = IsNextOutput v count os l g ⊎ IsNextTrees v count os l g
Next (in_trees v os count ts) l g = IsNextTree v os count ts l g ⊎ IsNextHedges v os count ts l g
Next (in_hedges v os ts count hs) l g = IsNextHedge v os ts count hs l g ⊎ IsNextEnd v os ts count hs l g
Next (finished v d) l g = ⊥

-- its text
abbrev HasMore : Front → List ℕ → Front → Type 0
HasMore f l g = front_text g ≡ front_text f ++ ended l

rows_snoc : {X : Type 0} (first : X → List ℕ) (later : X → X → List ℕ) (xs : List X) (x : X) → rows_in first later (xs ++ x ∷ []) ≡ rows_in first later xs ++ ended (line_behind first later (last_of xs) x)
rows_snoc first later [] x = append-nil (ended (first x))
rows_snoc {X = X} first later (y ∷ ys) x = ap (λ l. ended (first y) ++ l) (behind y ys) ∙ sym (append_assoc (ended (first y)) (rows_behind later y ys) (ended (line_behind first later (last_of (y ∷ ys)) x)))
  where
    behind : (b : X) (zs : List X) → rows_behind later b (zs ++ x ∷ []) ≡ rows_behind later b zs ++ ended (line_behind first later (last_of (b ∷ zs)) x)
    behind b [] = append-nil (ended (later b x))
    behind b (z ∷ zs) = ap (λ l. ended (later b z) ++ l) (behind z zs) ∙ sym (append_assoc (ended (later b z)) (rows_behind later z zs) (ended (line_behind first later (last_of (z ∷ zs)) x)))

outputs_snoc : (os : List (List (ℕ × ℕ))) (ps : List (ℕ × ℕ)) → flat_map output_text (os ++ ps ∷ []) ≡ flat_map output_text os ++ ended (pairs_line ps)
outputs_snoc os ps = flat_map-append output_text os (ps ∷ []) ∙ ap (λ l. flat_map output_text os ++ l) (append-nil (output_text ps))

more_front : (f : Front) (l : List ℕ) (g : Front) → Next f l g → HasMore f l g
more_front nothing l g n = ap front_text n.to ∙ sym (ap ended n.line)
more_front (begun v) l g n = ap front_text n.to ∙ append-nil (ended (heading v) ++ ended (counted (codes "outputs") n.outputs)) ∙ ap (λ w. ended (heading v) ++ ended w) (sym n.line)
more_front (in_outputs v count os) l g (inl n) =
    let front : List ℕ = ended (heading v) ++ ended (counted (codes "outputs") count) in
    ap front_text n.to ∙ ap (λ w. front ++ w) (outputs_snoc os n.pairs) ∙ sym (append_assoc front (flat_map output_text os) (ended (pairs_line n.pairs))) ∙ ap (λ w. (front ++ flat_map output_text os) ++ ended w) (sym n.line)
more_front (in_outputs v count os) l g (inr n) =
    let part : List ℕ = flat_map output_text os in
    ap front_text n.to
    ∙ append-nil ((ended (heading v) ++ outputs_part os) ++ ended (counted (codes "trees") n.trees))
    ∙ ap (λ w. w ++ ended (counted (codes "trees") n.trees)) (sym (append_assoc (ended (heading v)) (ended (counted (codes "outputs") (length os))) part) ∙ ap (λ c. (ended (heading v) ++ ended (counted (codes "outputs") c)) ++ part) n.all)
    ∙ ap (λ w. ((ended (heading v) ++ ended (counted (codes "outputs") count)) ++ part) ++ ended w) (sym n.line)
more_front (in_trees v os count ts) l g (inl n) =
    let front : List ℕ = (ended (heading v) ++ outputs_part os) ++ ended (counted (codes "trees") count) in
    let rows : List ℕ = rows_in tree_line (tree_in v) ts in
    ap front_text n.to ∙ ap (λ w. front ++ w) (rows_snoc tree_line (tree_in v) ts n.tree) ∙ sym (append_assoc front rows (ended (line_behind tree_line (tree_in v) (last_of ts) n.tree))) ∙ ap (λ w. (front ++ rows) ++ ended w) (sym n.line)
more_front (in_trees v os count ts) l g (inr n) =
    let part : List ℕ = rows_in tree_line (tree_in v) ts in
    let front : List ℕ = ended (heading v) ++ outputs_part os in
    ap front_text n.to
    ∙ append-nil ((front ++ trees_part v ts) ++ ended (counted (codes "hedges") n.hedges))
    ∙ ap (λ w. w ++ ended (counted (codes "hedges") n.hedges)) (sym (append_assoc front (ended (counted (codes "trees") (length ts))) part) ∙ ap (λ c. (front ++ ended (counted (codes "trees") c)) ++ part) n.all)
    ∙ ap (λ w. ((front ++ ended (counted (codes "trees") count)) ++ part) ++ ended w) (sym n.line)
more_front (in_hedges v os ts count hs) l g (inl n) =
    let front : List ℕ = ((ended (heading v) ++ outputs_part os) ++ trees_part v ts) ++ ended (counted (codes "hedges") count) in
    let rows : List ℕ = rows_in hedge_line (hedge_in v) hs in
    ap front_text n.to ∙ ap (λ w. front ++ w) (rows_snoc hedge_line (hedge_in v) hs n.hedge) ∙ sym (append_assoc front rows (ended (line_behind hedge_line (hedge_in v) (last_of hs) n.hedge))) ∙ ap (λ w. (front ++ rows) ++ ended w) (sym n.line)
more_front (in_hedges v os ts count hs) l g (inr n) =
    let rows : List ℕ = rows_in hedge_line (hedge_in v) hs in
    let head : List ℕ = ended (heading v) in
    let outs : List ℕ = outputs_part os in
    let trees : List ℕ = trees_part v ts in
    let last : List ℕ = ended (codes "end") in
    let count_line : ℕ → List ℕ = λ c. ended (counted (codes "hedges") c) in
    ap front_text n.to
    ∙ sym (append_assoc head outs ((trees ++ hedges_part v hs) ++ last))
    ∙ sym (append_assoc (head ++ outs) (trees ++ hedges_part v hs) last)
    ∙ ap (λ w. w ++ last) (sym (append_assoc (head ++ outs) trees (hedges_part v hs)) ∙ sym (append_assoc ((head ++ outs) ++ trees) (count_line (length hs)) rows) ∙ ap (λ c. (((head ++ outs) ++ trees) ++ count_line c) ++ rows) n.all)
    ∙ ap (λ w. ((((head ++ outs) ++ trees) ++ count_line count) ++ rows) ++ ended w) (sym n.line)
more_front (finished v d) l g n = absurd n

-- one line on
pub goes_on : {bytes rest after : List ℕ} {f g : Front} (l : List ℕ) → Next f l g → IsGood g → BeginsWith bytes f rest → rest ≡ l ++ 10 ∷ after → BeginsWith bytes g after
goes_on {after = after} {f = f} {g = g} l n good b e = record {
  good = good;
  spelled = b.spelled ∙ ap (λ w. front_text f ++ w) (e ∙ sym (append_assoc l (10 ∷ []) after)) ∙ sym (append_assoc (front_text f) (ended l) after) ∙ ap (λ w. w ++ after) (sym (more_front f l g n));
}

pub one_more_line : (f : Front) (l : List ℕ) (g : Front) → Next f l g → line_count g ≡ line_count f + 1
one_more_line nothing l g n = ap line_count n.to
one_more_line (begun v) l g n = ap line_count n.to
one_more_line (in_outputs v count os) l g (inl n) = ap line_count n.to ∙ omega (arith, length-append os (n.pairs ∷ []))
one_more_line (in_outputs v count os) l g (inr n) = ap line_count n.to ∙ omega arith
one_more_line (in_trees v os count ts) l g (inl n) = ap line_count n.to ∙ omega (arith, length-append ts (n.tree ∷ []))
one_more_line (in_trees v os count ts) l g (inr n) = ap line_count n.to ∙ omega arith
one_more_line (in_hedges v os ts count hs) l g (inl n) = ap line_count n.to ∙ omega (arith, length-append hs (n.hedge ∷ []))
one_more_line (in_hedges v os ts count hs) l g (inr n) = ap line_count n.to ∙ omega arith
one_more_line (finished v d) l g n = absurd n

-- the rows so far are short
abbrev pub IsShortFront : Front → Type 0
IsShortFront (in_trees v os count ts) = (b : TreeLine) → last_of ts ≡ Some b → IsShort (of_tree b)
IsShortFront (in_hedges v os ts count hs) = (b : HedgeLine) → last_of hs ≡ Some b → IsShort (of_hedge b)
IsShortFront nothing = Unit {0}
IsShortFront (begun v) = Unit {0}
IsShortFront (in_outputs v count os) = Unit {0}
IsShortFront (finished v d) = Unit {0}

some_same : {X : Type 0} (x y : X) → Some x ≡ Some y → x ≡ y
some_same x y e = cc

none_some : {X : Type 0} (y : X) → None ≡ Some y → ⊥
none_some y e = cc

-- the last of a list that is good is good
pub last_all : {X : Type 0} (P : X → Type 0) (xs : List X) (x : X) → All P (xs ++ x ∷ []) → P x
last_all P [] x a = All-head P x [] a
last_all P (y ∷ ys) x a = last_all P ys x (All-tail P y (ys ++ x ∷ []) a)

pub short_on : (f : Front) (l : List ℕ) (g : Front) (rest after : List ℕ) → length rest ≤ 67108864 → Next f l g → IsGood g → IsShortFront f → rest ≡ l ++ 10 ∷ after → IsShortFront g
short_on nothing l g rest after h n good s e = subst IsShortFront (sym n.to) tt
short_on (begun v) l g rest after h n good s e = subst IsShortFront (sym n.to) tt
short_on (in_outputs v count os) l g rest after h (inl n) good s e = subst IsShortFront (sym n.to) tt
short_on (in_outputs v count os) l g rest after h (inr n) good s e = subst IsShortFront (sym n.to) (λ b q. absurd (none_some b q))
short_on (in_trees v os count ts) l g rest after h (inl n) good s e =
    let formed : IsFormedTree n.tree = last_all IsFormedTree ts n.tree (subst IsGood n.to good).1.formed in
    let short : IsShort (of_tree n.tree) = tree_short v (last_of ts) n.tree rest after h s formed (e ∙ ap (λ w. w ++ 10 ∷ after) n.line) in
    subst IsShortFront (sym n.to) (λ b q. subst (λ t. IsShort (of_tree t)) (some_same n.tree b (sym (last_snoc ts n.tree) ∙ q)) short)
short_on (in_trees v os count ts) l g rest after h (inr n) good s e = subst IsShortFront (sym n.to) (λ b q. absurd (none_some b q))
short_on (in_hedges v os ts count hs) l g rest after h (inl n) good s e =
    let formed : IsFormedHedge n.hedge = last_all IsFormedHedge hs n.hedge (subst IsGood n.to good).2.formed in
    let short : IsShort (of_hedge n.hedge) = hedge_short v (last_of hs) n.hedge rest after h s formed (e ∙ ap (λ w. w ++ 10 ∷ after) n.line) in
    subst IsShortFront (sym n.to) (λ b q. subst (λ t. IsShort (of_hedge t)) (some_same n.hedge b (sym (last_snoc hs n.hedge) ∙ q)) short)
short_on (in_hedges v os ts count hs) l g rest after h (inr n) good s e = subst IsShortFront (sym n.to) tt
short_on (finished v d) l g rest after h n good s e = absurd n

-- one line at most may follow
headings : (v w : Version) (r s : List ℕ) → heading v ++ 10 ∷ r ≡ heading w ++ 10 ∷ s → (v ≡ w) × (r ≡ s)
headings whole whole r s e = (refl, ap (drop 29) e)
headings by_changes by_changes r s e = (refl, ap (drop 29) e)
headings whole by_changes r s e = let d : 49 ≡ 50 = ap (λ l. get_or l 27 0) e in absurd (omega (arith, d))
headings by_changes whole r s e = let d : 50 ≡ 49 = ap (λ l. get_or l 27 0) e in absurd (omega (arith, d))

counts : (kind : List ℕ) (k : ℕ) (m n : ℕ) (r s : List ℕ) → length kind ≡ k → m ≤ 65536 → n ≤ 65536 → counted kind m ++ 10 ∷ r ≡ counted kind n ++ 10 ∷ s → (m ≡ n) × (r ≡ s)
counts kind k m n r s long p q e =
    let open_count : (i : ℕ) (t : List ℕ) → counted kind i ++ 10 ∷ t ≡ kind ++ 32 ∷ (decimal i ++ 10 ∷ t) = λ (i : ℕ) (t : List ℕ). append_assoc (kind ++ 32 ∷ []) (decimal i) (10 ∷ t) ∙ append_assoc kind (32 ∷ []) (decimal i ++ 10 ∷ t) in
    let flat : kind ++ 32 ∷ (decimal m ++ 10 ∷ r) ≡ kind ++ 32 ∷ (decimal n ++ 10 ∷ s) = sym (open_count m r) ∙ e ∙ open_count n s in
    let behind : 32 ∷ (decimal m ++ 10 ∷ r) ≡ 32 ∷ (decimal n ++ 10 ∷ s) = cancel kind _ _ flat in
    let numbers : decimal m ++ 10 ∷ r ≡ decimal n ++ 10 ∷ s = ap (drop 1) behind in
    let one : (m ≡ n) × (10 ∷ r ≡ 10 ∷ s) = one_number m n (10 ∷ r) (10 ∷ s) (omega (arith, p)) (omega (arith, q)) (stops_at 10 r feed) (stops_at 10 s feed) numbers in
    let rest : 10 ∷ r ≡ 10 ∷ s = one.1 in
    (one.0, ap (drop 1) rest)
  where
    feed : digit_value 10 < 10 → ⊥
    feed h = absurd (omega (arith, h))

    cancel : (k xs ys : List ℕ) → k ++ xs ≡ k ++ ys → xs ≡ ys
    cancel [] xs ys e = e
    cancel (c ∷ k) xs ys e = let tail : k ++ xs ≡ k ++ ys = ap (drop 1) e in cancel k xs ys tail

outputs_lines : (ps qs : List (ℕ × ℕ)) (r s : List ℕ) → ArePairs ps → ArePairs qs → pairs_line ps ++ 10 ∷ r ≡ pairs_line qs ++ 10 ∷ s → (ps ≡ qs) × (r ≡ s)
outputs_lines ps qs r s p q e = let behind : flat_map pair ps ++ 10 ∷ r ≡ flat_map pair qs ++ 10 ∷ s = ap (drop 1) e in one_pairs ps qs r s p.numbers q.numbers behind

lines_are : (l k m n r s : List ℕ) → l ≡ m → k ≡ n → l ++ 10 ∷ r ≡ k ++ 10 ∷ s → m ++ 10 ∷ r ≡ n ++ 10 ∷ s
lines_are l k m n r s p q e = sym (ap (λ w. w ++ 10 ∷ r) p) ∙ e ∙ ap (λ w. w ++ 10 ∷ s) q

pub too_many : {X : Type 0} (xs : List X) (x : X) (count : ℕ) → length (xs ++ x ∷ []) ≤ count → length xs ≡ count → ⊥
too_many xs x count h e = absurd (omega (arith, h, e, length-append xs (x ∷ [])))

pub one_next : (f : Front) (l k : List ℕ) (g h : Front) (r s : List ℕ) → IsShortFront f → Next f l g → Next f k h → IsGood g → IsGood h → l ++ 10 ∷ r ≡ k ++ 10 ∷ s → (g ≡ h) × (r ≡ s)
one_next nothing l k g h r s short n m p q e =
    let o = headings n.version m.version r s (lines_are l k _ _ r s n.line m.line e) in
    (n.to ∙ ap begun o.0 ∙ sym m.to, o.1)
one_next (begun v) l k g h r s short n m p q e =
    let o = counts (codes "outputs") 7 n.outputs m.outputs r s refl (subst IsGood n.to p).most_few (subst IsGood m.to q).most_few (lines_are l k _ _ r s n.line m.line e) in
    (n.to ∙ ap (λ c. in_outputs v c []) o.0 ∙ sym m.to, o.1)
one_next (in_outputs v count os) l k g h r s short (inl n) (inl m) p q e =
    let o = outputs_lines n.pairs m.pairs r s (last_all ArePairs os n.pairs (subst IsGood n.to p).formed) (last_all ArePairs os m.pairs (subst IsGood m.to q).formed) (lines_are l k _ _ r s n.line m.line e) in
    (n.to ∙ ap (λ x. in_outputs v count (os ++ x ∷ [])) o.0 ∙ sym m.to, o.1)
one_next (in_outputs v count os) l k g h r s short (inl n) (inr m) p q e = absurd (too_many os n.pairs count (subst IsGood n.to p).few m.all)
one_next (in_outputs v count os) l k g h r s short (inr n) (inl m) p q e = absurd (too_many os m.pairs count (subst IsGood m.to q).few n.all)
one_next (in_outputs v count os) l k g h r s short (inr n) (inr m) p q e =
    let o = counts (codes "trees") 5 n.trees m.trees r s refl (four (subst IsGood n.to p).1.most_few) (four (subst IsGood m.to q).1.most_few) (lines_are l k _ _ r s n.line m.line e) in
    (n.to ∙ ap (λ c. in_trees v os c []) o.0 ∙ sym m.to, o.1)
  where
    four : {c : ℕ} → c ≤ 4000 → c ≤ 65536
    four h = omega (arith, h)
one_next (in_trees v os count ts) l k g h r s short (inl n) (inl m) p q e =
    let o = one_tree_line v (last_of ts) n.tree m.tree r s short (last_all IsFormedTree ts n.tree (subst IsGood n.to p).1.formed) (last_all IsFormedTree ts m.tree (subst IsGood m.to q).1.formed) (lines_are l k _ _ r s n.line m.line e) in
    (n.to ∙ ap (λ x. in_trees v os count (ts ++ x ∷ [])) o.0 ∙ sym m.to, o.1)
one_next (in_trees v os count ts) l k g h r s short (inl n) (inr m) p q e = absurd (too_many ts n.tree count (subst IsGood n.to p).1.few m.all)
one_next (in_trees v os count ts) l k g h r s short (inr n) (inl m) p q e = absurd (too_many ts m.tree count (subst IsGood m.to q).1.few n.all)
one_next (in_trees v os count ts) l k g h r s short (inr n) (inr m) p q e =
    let o = counts (codes "hedges") 6 n.hedges m.hedges r s refl (four (subst IsGood n.to p).2.most_few) (four (subst IsGood m.to q).2.most_few) (lines_are l k _ _ r s n.line m.line e) in
    (n.to ∙ ap (λ c. in_hedges v os ts c []) o.0 ∙ sym m.to, o.1)
  where
    four : {c : ℕ} → c ≤ 4000 → c ≤ 65536
    four h = omega (arith, h)
one_next (in_hedges v os ts count hs) l k g h r s short (inl n) (inl m) p q e =
    let o = one_hedge_line v (last_of hs) n.hedge m.hedge r s short (last_all IsFormedHedge hs n.hedge (subst IsGood n.to p).2.formed) (last_all IsFormedHedge hs m.hedge (subst IsGood m.to q).2.formed) (lines_are l k _ _ r s n.line m.line e) in
    (n.to ∙ ap (λ x. in_hedges v os ts count (hs ++ x ∷ [])) o.0 ∙ sym m.to, o.1)
one_next (in_hedges v os ts count hs) l k g h r s short (inl n) (inr m) p q e = absurd (too_many hs n.hedge count (subst IsGood n.to p).2.few m.all)
one_next (in_hedges v os ts count hs) l k g h r s short (inr n) (inl m) p q e = absurd (too_many hs m.hedge count (subst IsGood m.to q).2.few n.all)
one_next (in_hedges v os ts count hs) l k g h r s short (inr n) (inr m) p q e =
    let same : codes "end" ++ 10 ∷ r ≡ codes "end" ++ 10 ∷ s = lines_are l k _ _ r s n.line m.line e in
    (n.to ∙ sym m.to, ap (drop 4) same)
one_next (finished v d) l k g h r s short n m p q e = absurd n

-- what is reached by lines, each as it must be
pub data Reach (bytes : List ℕ) : Front → List ℕ → Type 0 where
  at_start : {f : Front} {rest : List ℕ} → f ≡ nothing → rest ≡ bytes → Reach bytes f rest
  behind : {f g : Front} {rest after : List ℕ} (l : List ℕ) → Reach bytes f rest → Next f l g → IsGood g → rest ≡ l ++ 10 ∷ after → Reach bytes g after

rest_short : (bytes : List ℕ) (f : Front) (rest : List ℕ) → Reach bytes f rest → length rest ≤ length bytes
rest_short bytes f rest (at_start e q) = omega (arith, ap length q)
rest_short bytes g after (behind {f = f} {rest = rest} l r n good e) = omega (arith, rest_short bytes f rest r, ap length e, length-append l (10 ∷ after))

pub reach_short : (bytes : List ℕ) (f : Front) (rest : List ℕ) → length bytes ≤ 67108864 → Reach bytes f rest → IsShortFront f
reach_short bytes f rest h (at_start e q) = subst IsShortFront (sym e) tt
reach_short bytes g after h (behind {f = f} {rest = rest} l r n good e) = short_on f l g rest after (omega (arith, h, rest_short bytes f rest r)) n good (reach_short bytes f rest h r) e

module _ (bytes : List ℕ) {X : Type 0} (mk : List X → Front) (line : Option X → X → List ℕ)
    (next : (xs : List X) (x : X) → Next (mk xs) (line (last_of xs) x) (mk (xs ++ x ∷ [])))
    (front : (xs ys : List X) → IsGood (mk (xs ++ ys)) → IsGood (mk xs)) where
  abbrev text_from : Option X → List X → List ℕ
  text_from b [] = []
  text_from b (x ∷ xs) = ended (line b x) ++ text_from (Some x) xs

  all_from : (done todo : List X) (rest s : List ℕ) → Reach bytes (mk done) rest → rest ≡ text_from (last_of done) todo ++ s → IsGood (mk (done ++ todo)) → Reach bytes (mk (done ++ todo)) s
  all_from done [] rest s r e good = subst (λ xs. Reach bytes (mk xs) s) (sym (append-nil done)) (subst (Reach bytes (mk done)) e r)
  all_from done (x ∷ xs) rest s r e good =
      let across : (done ++ x ∷ []) ++ xs ≡ done ++ x ∷ xs = append_assoc done (x ∷ []) xs in
      let good_now : IsGood (mk ((done ++ x ∷ []) ++ xs)) = subst (λ ys. IsGood (mk ys)) (sym across) good in
      let cut : rest ≡ line (last_of done) x ++ 10 ∷ (text_from (Some x) xs ++ s)
      = e ∙ append_assoc (ended (line (last_of done) x)) (text_from (Some x) xs) s ∙ append_assoc (line (last_of done) x) (10 ∷ []) (text_from (Some x) xs ++ s) in
      let here : Reach bytes (mk (done ++ x ∷ [])) (text_from (Some x) xs ++ s) = behind (line (last_of done) x) r (next done x) (front (done ++ x ∷ []) xs good_now) cut in
      subst (λ ys. Reach bytes (mk ys) s) across
      (all_from (done ++ x ∷ []) xs (text_from (Some x) xs ++ s) s here (ap (λ b. text_from b xs ++ s) (sym (last_snoc done x))) good_now)

front_all : {X : Type 0} (P : X → Type 0) (xs ys : List X) → All P (xs ++ ys) → All P xs
front_all P [] ys a = λ k d h. absurd (omega arith)
front_all P (x ∷ xs) ys a = All-append P (x ∷ []) xs (all_one P x (All-head P x (xs ++ ys) a)) (front_all P xs ys (All-tail P x (xs ++ ys) a))

front_outputs : (count : ℕ) (xs ys : List (List (ℕ × ℕ))) → AreOutputs count (xs ++ ys) → AreOutputs count xs
front_outputs count xs ys a = record { few = omega (arith, a.few, length-append xs ys); most_few = a.most_few; formed = front_all ArePairs xs ys a.formed; ordered = ordered_front pairs_line xs ys a.ordered }

front_trees : (count : ℕ) (xs ys : List TreeLine) → AreTrees count (xs ++ ys) → AreTrees count xs
front_trees count xs ys a = record { few = omega (arith, a.few, length-append xs ys); most_few = a.most_few; formed = front_all IsFormedTree xs ys a.formed; ordered = ordered_front tree_line xs ys a.ordered }

front_hedges : (count : ℕ) (xs ys : List HedgeLine) → AreHedges count (xs ++ ys) → AreHedges count xs
front_hedges count xs ys a = record { few = omega (arith, a.few, length-append xs ys); most_few = a.most_few; formed = front_all IsFormedHedge xs ys a.formed; ordered = ordered_front hedge_line xs ys a.ordered }

abbrev outputs_text : List (List (ℕ × ℕ)) → List ℕ
outputs_text os = flat_map output_text os

module _ (bytes : List ℕ) where
  output_from : (v : Version) (count : ℕ) (b : Option (List (ℕ × ℕ))) (os : List (List (ℕ × ℕ)))
      → text_from bytes (in_outputs v count) (λ b ps. pairs_line ps) (λ xs x. inl (record { pairs = x; line = refl; to = refl })) (front_outputs count) b os ≡ outputs_text os
  output_from v count b [] = refl
  output_from v count b (ps ∷ os) = ap (λ w. ended (pairs_line ps) ++ w) (output_from v count (Some ps) os)

  pub reach_outputs : (v : Version) (count : ℕ) (os : List (List (ℕ × ℕ))) (s : List ℕ) → AreOutputs count os
      → bytes ≡ heading v ++ 10 ∷ (counted (codes "outputs") count ++ 10 ∷ (outputs_text os ++ s)) → Reach bytes (in_outputs v count os) s
  reach_outputs v count os s good e =
      let first : Reach bytes (begun v) (counted (codes "outputs") count ++ 10 ∷ (outputs_text os ++ s)) = behind _ (at_start refl refl) (record { version = v; line = refl; to = refl }) tt e in
      let second : Reach bytes (in_outputs v count []) (outputs_text os ++ s) = behind _ first (record { outputs = count; line = refl; to = refl }) (front_outputs count [] os good) refl in
      all_from bytes (in_outputs v count) (λ b ps. pairs_line ps) (λ xs x. inl (record { pairs = x; line = refl; to = refl })) (front_outputs count) [] os (outputs_text os ++ s) s second
      (ap (λ w. w ++ s) (sym (output_from v count None os))) good

  next_tree : (v : Version) (os : List (List (ℕ × ℕ))) (count : ℕ) (xs : List TreeLine) (x : TreeLine) → Next (in_trees v os count xs) (line_behind tree_line (tree_in v) (last_of xs) x) (in_trees v os count (xs ++ x ∷ []))
  next_tree v os count xs x = inl (record { tree = x; line = refl; to = refl })

  front_in_trees : (v : Version) (os : List (List (ℕ × ℕ))) (count : ℕ) (xs ys : List TreeLine) → IsGood (in_trees v os count (xs ++ ys)) → IsGood (in_trees v os count xs)
  front_in_trees v os count xs ys g = (g.0, front_trees count xs ys g.1)

  tree_behind_text : (v : Version) (os : List (List (ℕ × ℕ))) (count : ℕ) (b : TreeLine) (ts : List TreeLine)
      → text_from bytes (in_trees v os count) (line_behind tree_line (tree_in v)) (next_tree v os count) (front_in_trees v os count) (Some b) ts ≡ rows_behind (tree_in v) b ts
  tree_behind_text v os count b [] = refl
  tree_behind_text v os count b (t ∷ ts) = ap (λ w. ended (tree_in v b t) ++ w) (tree_behind_text v os count t ts)

  tree_text : (v : Version) (os : List (List (ℕ × ℕ))) (count : ℕ) (ts : List TreeLine)
      → text_from bytes (in_trees v os count) (line_behind tree_line (tree_in v)) (next_tree v os count) (front_in_trees v os count) None ts ≡ rows_in tree_line (tree_in v) ts
  tree_text v os count [] = refl
  tree_text v os count (t ∷ ts) = ap (λ w. ended (tree_line t) ++ w) (tree_behind_text v os count t ts)

  pub reach_trees : (v : Version) (os : List (List (ℕ × ℕ))) (count : ℕ) (ts : List TreeLine) (s : List ℕ) → IsGood (in_trees v os count ts)
      → Reach bytes (in_outputs v (length os) os) (counted (codes "trees") count ++ 10 ∷ (rows_in tree_line (tree_in v) ts ++ s)) → Reach bytes (in_trees v os count ts) s
  reach_trees v os count ts s good r =
      let first : Reach bytes (in_trees v os count []) (rows_in tree_line (tree_in v) ts ++ s) = behind _ r (inr (record { trees = count; all = refl; line = refl; to = refl })) (good.0, front_trees count [] ts good.1) refl in
      all_from bytes (in_trees v os count) (line_behind tree_line (tree_in v)) (next_tree v os count) (front_in_trees v os count) [] ts (rows_in tree_line (tree_in v) ts ++ s) s first
      (ap (λ w. w ++ s) (sym (tree_text v os count ts))) good

  next_hedge : (v : Version) (os : List (List (ℕ × ℕ))) (ts : List TreeLine) (count : ℕ) (xs : List HedgeLine) (x : HedgeLine)
      → Next (in_hedges v os ts count xs) (line_behind hedge_line (hedge_in v) (last_of xs) x) (in_hedges v os ts count (xs ++ x ∷ []))
  next_hedge v os ts count xs x = inl (record { hedge = x; line = refl; to = refl })

  front_in_hedges : (v : Version) (os : List (List (ℕ × ℕ))) (ts : List TreeLine) (count : ℕ) (xs ys : List HedgeLine) → IsGood (in_hedges v os ts count (xs ++ ys)) → IsGood (in_hedges v os ts count xs)
  front_in_hedges v os ts count xs ys g = (g.0, g.1, front_hedges count xs ys g.2)

  hedge_behind_text : (v : Version) (os : List (List (ℕ × ℕ))) (ts : List TreeLine) (count : ℕ) (b : HedgeLine) (hs : List HedgeLine)
      → text_from bytes (in_hedges v os ts count) (line_behind hedge_line (hedge_in v)) (next_hedge v os ts count) (front_in_hedges v os ts count) (Some b) hs ≡ rows_behind (hedge_in v) b hs
  hedge_behind_text v os ts count b [] = refl
  hedge_behind_text v os ts count b (h ∷ hs) = ap (λ w. ended (hedge_in v b h) ++ w) (hedge_behind_text v os ts count h hs)

  hedge_text : (v : Version) (os : List (List (ℕ × ℕ))) (ts : List TreeLine) (count : ℕ) (hs : List HedgeLine)
      → text_from bytes (in_hedges v os ts count) (line_behind hedge_line (hedge_in v)) (next_hedge v os ts count) (front_in_hedges v os ts count) None hs ≡ rows_in hedge_line (hedge_in v) hs
  hedge_text v os ts count [] = refl
  hedge_text v os ts count (h ∷ hs) = ap (λ w. ended (hedge_line h) ++ w) (hedge_behind_text v os ts count h hs)

  pub reach_hedges : (v : Version) (os : List (List (ℕ × ℕ))) (ts : List TreeLine) (count : ℕ) (hs : List HedgeLine) (s : List ℕ) → IsGood (in_hedges v os ts count hs)
      → Reach bytes (in_trees v os (length ts) ts) (counted (codes "hedges") count ++ 10 ∷ (rows_in hedge_line (hedge_in v) hs ++ s)) → Reach bytes (in_hedges v os ts count hs) s
  reach_hedges v os ts count hs s good r =
      let first : Reach bytes (in_hedges v os ts count []) (rows_in hedge_line (hedge_in v) hs ++ s)
      = behind _ r (inr (record { hedges = count; all = refl; line = refl; to = refl })) (good.0, good.1, front_hedges count [] hs good.2) refl in
      all_from bytes (in_hedges v os ts count) (line_behind hedge_line (hedge_in v)) (next_hedge v os ts count) (front_in_hedges v os ts count) [] hs (rows_in hedge_line (hedge_in v) hs ++ s) s first
      (ap (λ w. w ++ s) (sym (hedge_text v os ts count hs))) good

  -- texts from the front, cut behind their lines
  cut_line : (l s : List ℕ) → ended l ++ s ≡ l ++ 10 ∷ s
  cut_line l s = append_assoc l (10 ∷ []) s

  cut_part : (l part s : List ℕ) → (ended l ++ part) ++ s ≡ l ++ 10 ∷ (part ++ s)
  cut_part l part s = append_assoc (ended l) part s ∙ cut_line l (part ++ s)

  outputs_front : (v : Version) (os : List (List (ℕ × ℕ))) (s : List ℕ) → AreOutputs (length os) os → bytes ≡ (ended (heading v) ++ outputs_part os) ++ s → Reach bytes (in_outputs v (length os) os) s
  outputs_front v os s good e = reach_outputs v (length os) os s good (e ∙ cut_part (heading v) (outputs_part os) s ∙ ap (λ w. heading v ++ 10 ∷ w) (cut_part (counted (codes "outputs") (length os)) (outputs_text os) s))

  trees_front : (v : Version) (os : List (List (ℕ × ℕ))) (ts : List TreeLine) (s : List ℕ) → IsGood (in_trees v os (length ts) ts) → bytes ≡ ((ended (heading v) ++ outputs_part os) ++ trees_part v ts) ++ s
      → Reach bytes (in_trees v os (length ts) ts) s
  trees_front v os ts s good e =
      reach_trees v os (length ts) ts s good (outputs_front v os (counted (codes "trees") (length ts) ++ 10 ∷ (rows_in tree_line (tree_in v) ts ++ s)) good.0
      (e ∙ append_assoc (ended (heading v) ++ outputs_part os) (trees_part v ts) s ∙ ap (λ w. (ended (heading v) ++ outputs_part os) ++ w) (cut_part (counted (codes "trees") (length ts)) (rows_in tree_line (tree_in v) ts) s)))

  hedges_front : (v : Version) (os : List (List (ℕ × ℕ))) (ts : List TreeLine) (hs : List HedgeLine) (s : List ℕ) → IsGood (in_hedges v os ts (length hs) hs)
      → bytes ≡ (((ended (heading v) ++ outputs_part os) ++ trees_part v ts) ++ hedges_part v hs) ++ s → Reach bytes (in_hedges v os ts (length hs) hs) s
  hedges_front v os ts hs s good e =
      let front : List ℕ = (ended (heading v) ++ outputs_part os) ++ trees_part v ts in
      reach_hedges v os ts (length hs) hs s good (trees_front v os ts (counted (codes "hedges") (length hs) ++ 10 ∷ (rows_in hedge_line (hedge_in v) hs ++ s)) (good.0, good.1)
      (e ∙ append_assoc front (hedges_part v hs) s ∙ ap (λ w. front ++ w) (cut_part (counted (codes "hedges") (length hs)) (rows_in hedge_line (hedge_in v) hs) s)))

  good_parts : (d : CertData) → IsFormed d → IsGood (in_hedges whole d.outputs d.trees (length d.hedges) d.hedges)
  good_parts d h = (
    record { few = omega arith; most_few = h.few_outputs; formed = h.outputs; ordered = h.outputs_ordered },
    record { few = omega arith; most_few = h.few_trees; formed = h.trees; ordered = h.trees_ordered },
    record { few = omega arith; most_few = h.few_hedges; formed = h.hedges; ordered = h.hedges_ordered },
  )

  finished_front : (v : Version) (d : CertData) (s : List ℕ) → IsFormed d → bytes ≡ text v d ++ s → Reach bytes (finished v d) s
  finished_front v d s h e =
      let head : List ℕ = ended (heading v) in
      let front : List ℕ = (head ++ outputs_part d.outputs) ++ trees_part v d.trees in
      let flat : text v d ≡ (front ++ hedges_part v d.hedges) ++ ended (codes "end")
      = sym (append_assoc head (outputs_part d.outputs) (rows_part v d)) ∙ sym (append_assoc (head ++ outputs_part d.outputs) (trees_part v d.trees ++ hedges_part v d.hedges) (ended (codes "end")))
      ∙ ap (λ w. w ++ ended (codes "end")) (sym (append_assoc (head ++ outputs_part d.outputs) (trees_part v d.trees) (hedges_part v d.hedges))) in
      let before : Reach bytes (in_hedges v d.outputs d.trees (length d.hedges) d.hedges) (codes "end" ++ 10 ∷ s)
      = hedges_front v d.outputs d.trees d.hedges (codes "end" ++ 10 ∷ s) (good_parts d h) (e ∙ ap (λ w. w ++ s) flat ∙ append_assoc (front ++ hedges_part v d.hedges) (ended (codes "end")) s) in
      behind _ before (inr (record { all = refl; line = refl; to = refl })) h refl

  pub reached : (g : Front) (s : List ℕ) → BeginsWith bytes g s → Reach bytes g s
  reached nothing s b = at_start refl (sym b.spelled)
  reached (begun v) s b = behind _ (at_start refl refl) (record { version = v; line = refl; to = refl }) tt (b.spelled ∙ cut_line (heading v) s)
  reached (in_outputs v count os) s b =
      reach_outputs v count os s b.good (b.spelled ∙ append_assoc (ended (heading v) ++ ended (counted (codes "outputs") count)) (outputs_text os) s
      ∙ append_assoc (ended (heading v)) (ended (counted (codes "outputs") count)) (outputs_text os ++ s) ∙ cut_line (heading v) (ended (counted (codes "outputs") count) ++ (outputs_text os ++ s))
      ∙ ap (λ w. heading v ++ 10 ∷ w) (cut_line (counted (codes "outputs") count) (outputs_text os ++ s)))
  reached (in_trees v os count ts) s b =
      let front : List ℕ = ended (heading v) ++ outputs_part os in
      let rows : List ℕ = rows_in tree_line (tree_in v) ts in
      reach_trees v os count ts s b.good (outputs_front v os (counted (codes "trees") count ++ 10 ∷ (rows ++ s)) b.good.0
      (b.spelled ∙ append_assoc (front ++ ended (counted (codes "trees") count)) rows s ∙ append_assoc front (ended (counted (codes "trees") count)) (rows ++ s)
      ∙ ap (λ w. front ++ w) (cut_line (counted (codes "trees") count) (rows ++ s))))
  reached (in_hedges v os ts count hs) s b =
      let front : List ℕ = (ended (heading v) ++ outputs_part os) ++ trees_part v ts in
      let rows : List ℕ = rows_in hedge_line (hedge_in v) hs in
      reach_hedges v os ts count hs s b.good (trees_front v os ts (counted (codes "hedges") count ++ 10 ∷ (rows ++ s)) (b.good.0, b.good.1)
      (b.spelled ∙ append_assoc (front ++ ended (counted (codes "hedges") count)) rows s ∙ append_assoc front (ended (counted (codes "hedges") count)) (rows ++ s)
      ∙ ap (λ w. front ++ w) (cut_line (counted (codes "hedges") count) (rows ++ s))))
  reached (finished v d) s b = finished_front v d s b.good b.spelled
