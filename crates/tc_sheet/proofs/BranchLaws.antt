-- What stands in an `xsl:choose`, and what no change of it is.
use Rattle.std.proofs.Common.{◌≡◌, ◌==◌, ℕ, suc, length, arith, Bool, MatchBool, true, false, List, [], ◌∷◌, ◌++◌, refl, ap, sym, subst, Some, IsTrue, IsFalse}
use Rattle.std.specs.Prelude.{codes}
use Rattle.std.proofs.lemmas.Bool.{true≢false, eqb-true}
use Rattle.std.proofs.Common.{◌-◌, take, drop, length-drop}
use Rattle.std.proofs.lemmas.List.{take_all}
use Rattle.tc_model.specs.Names.{ExpandedName}
use Rattle.tc_model.specs.RawTrees.{Attribute, Bound, RawTrees, none, text, element}
use Rattle.tc_model.specs.Trees.{is_white_space_only}
use Rattle.tc_model.specs.Views.{name, test, raw_trees, raw_element}
use Rattle.tc_model.specs.Sheets.{Test}
use Rattle.tc_model.specs.SheetTextTrees.{WrittenBody, w_nothing, w_choose, WrittenBranches, w_otherwise, w_branch}
use Rattle.tc_model.specs.SheetTextPhrases as p
use Rattle.tc_model.specs.SheetTextPhrases.{IsXsl, value_of, HasOnly, IsBlank, Required, Tag, tag, IsTag, i_choose, instruction_of, IsInstruction, IsBody, AreBranches}
use Rattle.tc_model.specs.declared.tree.Raw.{Raw}
use Rattle.tc_model.specs.declared.tree.RawElem.{RawElem}
use Rattle.tc_sheet.specs.LookedAt.{in_body, in_choose, in_blank, IsIn, IsAt, IsUnrefused}
use Rattle.tc_sheet.specs.LookedAt as looked
use Rattle.tc_sheet.specs.Changes.{Change, both, TakesAway, ChangedAttributes, Changed, a_text}
use Rattle.tc_sheet.specs.Readings.{Refuses, IsMisplaced, alone, attributes_of, scope_of, HasTest, HasNoTest, IsTested, HasNoTested, HasNoAttributes, HasNoBody, IsNotBlank, HasNoBranches, IsElementItem, HasNoElementItem}
use Rattle.tc_sheet.specs.Views.{tag_of, body, branches}
use Rattle.tc_sheet.specs.declared.written.WrittenBranch.{WrittenBranch}
use Rattle.tc_sheet.specs.declared.faults.SheetFault.{SheetFault}
use Rattle.tc_sheet.proofs.SameBodies.{xsl_reason, not_taken, when_or_otherwise, branches_same}
use Rattle.tc_sheet.proofs.Refusals.{Covers, lifted, moved, covers_itself, both_cover, covers_tag, covers_kids, covers_rest, covers_one, covers_beside_text, text_at}
use Rattle.tc_sheet.proofs.ViewsWritten.{pushed_branch}
use Rattle.tc_sheet.proofs.BodyLaws.{by_element, no_item, item_of, misplaced_is}

-- what an element of an `xsl:choose` is
when_there : {n : ExpandedName} {bs : List Attribute} {scope : List Bound} {q : ℕ} {others behind : RawTrees} {x : WrittenBranches} → IsXsl (codes "when") n → AreBranches (element n bs scope q others behind) x → (u : Test) × (b : WrittenBody) × IsTested (tag n bs scope q) others u b
when_there e (p.a_when {test = u} {inner = b} o s i y) = (u, b, record { only = o.only; test = s; body = i })
when_there {n} e (p.an_otherwise o i y) = absurd (when_or_otherwise n e o.name)

behind_when : {n : ExpandedName} {bs : List Attribute} {scope : List Bound} {q : ℕ} {others behind : RawTrees} {x : WrittenBranches} → IsXsl (codes "when") n → AreBranches (element n bs scope q others behind) x → (y : WrittenBranches) × AreBranches behind y
behind_when e (p.a_when {x = z} o s i y) = (z, y)
behind_when {n} e (p.an_otherwise o i y) = absurd (when_or_otherwise n e o.name)

otherwise_there : {n : ExpandedName} {bs : List Attribute} {scope : List Bound} {q : ℕ} {others behind : RawTrees} {x : WrittenBranches} → IsXsl (codes "otherwise") n → AreBranches (element n bs scope q others behind) x → HasOnly [] bs × ((b : WrittenBody) × IsBody others b) × IsBlank behind
otherwise_there {n} e (p.a_when o s i y) = absurd (when_or_otherwise n o.name e)
otherwise_there e (p.an_otherwise {inner = b} o i y) = (o.only, (b, i), y)

no_branch : {n : ExpandedName} {bs : List Attribute} {scope : List Bound} {q : ℕ} {others behind : RawTrees} {x : WrittenBranches} → (IsXsl (codes "when") n → ⊥) → (IsXsl (codes "otherwise") n → ⊥) → AreBranches (element n bs scope q others behind) x → ⊥
no_branch f g (p.a_when o s i y) = f o.name
no_branch f g (p.an_otherwise o i y) = g o.name

behind_white : {s : List ℕ} {q : ℕ} {behind : RawTrees} {x : WrittenBranches} → AreBranches (text s q behind) x → AreBranches behind x
behind_white (p.between w y) = y

white_there : {s : List ℕ} {q : ℕ} {behind : RawTrees} {x : WrittenBranches} → AreBranches (text s q behind) x → IsTrue (is_white_space_only s)
white_there (p.between w y) = w

when_stays : (c : Change) (n : ExpandedName) → IsXsl (codes "when") n → TakesAway c n → ⊥
when_stays c n e = not_taken c n (xsl_reason n (codes "when") refl e)

otherwise_stays : (c : Change) (n : ExpandedName) → IsXsl (codes "otherwise") n → TakesAway c n → ⊥
otherwise_stays c n e = not_taken c n (xsl_reason n (codes "otherwise") refl e)

-- an `xsl:when`: its test and its body
pub when_read : (e : RawElem) (u : Test) (b : WrittenBody) → HasTest (scope_of e) (attributes_of e) u → IsBody (raw_trees e.kids.now) b → IsTested (tag_of e) (raw_trees e.kids.now) u b
when_read e u b h i = record { only = h.only; test = h.test; body = i }

pub when_test_refuses : (e : RawElem) → IsXsl (codes "when") (name e.name) → (x : SheetFault) → Refuses x (alone e) (HasNoTest e) → Refuses x (IsIn in_choose (raw_element e none)) (HasNoTested e)
when_test_refuses e n x r = lifted (covers_tag (looked.a_when n)) (λ c h olds kids u b v w y. h olds u v (record { only = y.only; test = y.test })) x r

pub when_body_refuses : (e : RawElem) → IsXsl (codes "when") (name e.name) → (x : SheetFault) → Refuses x (IsIn in_body (raw_trees e.kids.now)) (HasNoBody (raw_trees e.kids.now)) → Refuses x (IsIn in_choose (raw_element e none)) (HasNoTested e)
when_body_refuses e n x r = lifted (covers_kids (looked.a_when n)) (λ c h olds kids u b v w y. h kids b w y.body) x r

-- an `xsl:otherwise`, and what stands behind it
module _ (e : RawElem) (after : RawTrees) (is : IsXsl (codes "otherwise") (name e.name)) where
  pub otherwise_read : (b : WrittenBody) → HasOnly [] (attributes_of e) → IsBody (raw_trees e.kids.now) b → IsBlank after → AreBranches (raw_element e after) (w_otherwise b)
  otherwise_read b o i y = p.an_otherwise (record { name = is; only = o }) i y

  otherwise_by : (c : Change) → ((bs : List Attribute) (others behind : RawTrees) → ChangedAttributes c (attributes_of e) bs → Changed c (raw_trees e.kids.now) others → Changed c after behind
      → HasOnly [] bs × ((b : WrittenBody) × IsBody others b) × IsBlank behind → ⊥) → HasNoBranches (raw_element e after) c
  otherwise_by c f = λ k x u. by_element c (otherwise_stays c (name e.name) is) (λ (k : RawTrees). AreBranches k x → ⊥) (λ bs others behind v w z y. f bs others behind v w z (otherwise_there is y)) k u

  pub otherwise_only_refuses : (x : SheetFault) → Refuses x (alone e) (HasNoAttributes e (HasOnly [])) → Refuses x (IsIn in_choose (raw_element e after)) (HasNoBranches (raw_element e after))
  otherwise_only_refuses x r = lifted (covers_tag (looked.an_otherwise is)) (λ c h. otherwise_by c (λ bs others behind v w z t. h bs v t.0)) x r

  pub otherwise_body_refuses : (x : SheetFault) → Refuses x (IsIn in_body (raw_trees e.kids.now)) (HasNoBody (raw_trees e.kids.now)) → Refuses x (IsIn in_choose (raw_element e after)) (HasNoBranches (raw_element e after))
  otherwise_body_refuses x r = lifted (covers_kids (looked.an_otherwise is)) (λ c h. otherwise_by c (λ bs others behind v w z t. h others t.1.0 w t.1.1)) x r

  pub otherwise_blank_refuses : (x : SheetFault) → Refuses x (IsIn in_blank after) (IsNotBlank after) → Refuses x (IsIn in_choose (raw_element e after)) (HasNoBranches (raw_element e after))
  otherwise_blank_refuses x r = lifted (covers_rest (ap (λ (m : ExpandedName). looked.behind m in_choose) is)) (λ c h. otherwise_by c (λ bs others behind v w z t. h behind z t.2)) x r

-- a text that is no white space, or another element, stands in no `xsl:choose`
pub text_no_branch : (s : List ℕ) (q : ℕ) → IsFalse (is_white_space_only s) → (c : Change) (rest : RawTrees) → HasNoBranches (text s q rest) c
text_no_branch s q f c rest k x (a_text h) y = differ (white_there y) f
  where
    differ : {b : _} → IsTrue b → IsFalse b → ⊥
    differ a b = cc

pub element_no_branch : (e : RawElem) → (IsXsl (codes "when") (name e.name) → ⊥) → (IsXsl (codes "otherwise") (name e.name) → ⊥) → (x : SheetFault) → IsMisplaced e x
    → Refuses x (IsIn in_choose (raw_element e none)) (λ c. (rest : RawTrees) → HasNoBranches (raw_element e rest) c)
element_no_branch e f g x r =
    misplaced_is in_choose e none (λ c. (rest : RawTrees) → HasNoBranches (raw_element e rest) c)
    (λ c stays rest k y u. by_element c stays (λ (k : RawTrees). AreBranches k y → ⊥) (λ bs others behind v w z a. no_branch f g a) k u) x r

-- the branches that are read, and what is left
pub record BranchLoop (whole rest : RawTrees) (found : List WrittenBranch) : Type 0 where
  pub so_far : (x : WrittenBranches) → AreBranches rest x → AreBranches whole (branches found x)
  pub no_more : (c : Change) → HasNoBranches rest c → HasNoBranches whole c
  pub covers : Covers (IsIn in_choose rest) (IsIn in_choose whole)

pub branches_begin : (whole : RawTrees) → BranchLoop whole whole []
branches_begin whole = record { so_far = λ b y. y; no_more = λ c g. g; covers = covers_itself (IsIn in_choose whole) }

white_rest : {s : List ℕ} {q : ℕ} {rest : RawTrees} (c : Change) → HasNoBranches rest c → (k : RawTrees) (x : WrittenBranches) → Changed c (text s q rest) k → AreBranches k x → ⊥
white_rest c g k x (a_text {k = behind} h) y = g behind x h (behind_white y)

module _ {whole rest left : RawTrees} {found : List WrittenBranch} (l : BranchLoop whole left found) where
  pub past_blank : (s : List ℕ) (q : ℕ) → left ≡ text s q rest → IsTrue (is_white_space_only s) → BranchLoop whole rest found
  past_blank s q e w = record {
    so_far = λ x y. l.so_far x (subst (λ h. AreBranches h x) (sym e) (p.between w y));
    no_more = λ c g. l.no_more c (subst (λ h. HasNoBranches h c) (sym e) (white_rest c g));
    covers = both_cover (subst (λ h. Covers (IsIn in_choose rest) (IsIn in_choose h)) (sym e) covers_beside_text) l.covers;
  }

  module _ (e : RawElem) (is : left ≡ raw_element e rest) where
    pub past_when : (b : WrittenBranch) (now : List WrittenBranch) → IsXsl (codes "when") (name e.name) → IsTested (tag_of e) (raw_trees e.kids.now) (test b.test) (body b.body.now) → now ≡ found ++ b ∷ []
        → BranchLoop whole rest now
    past_when b now n t f = record {
      so_far = λ x y.
          subst (λ bs. AreBranches whole (branches bs x)) (sym f)
          (subst (AreBranches whole) (sym (pushed_branch found b x))
          (l.so_far (w_branch (test b.test) (body b.body.now) x) (subst (λ h. AreBranches h (w_branch (test b.test) (body b.body.now) x)) (sym is) (p.a_when (record { name = n; only = t.only }) t.test t.body y))));
      no_more = λ c g. l.no_more c (subst (λ h. HasNoBranches h c) (sym is)
          (λ k x u. by_element c (when_stays c (name e.name) n) (λ (k : RawTrees). AreBranches k x → ⊥) (λ bs others behind v w z y. let (d, a) = behind_when n y in g behind d z a) k u));
      covers = both_cover (subst (λ h. Covers (IsIn in_choose rest) (IsIn in_choose h)) (sym is) (covers_rest (ap (λ (m : ExpandedName). looked.behind m in_choose) n))) l.covers;
    }

    pub when_refuses : IsXsl (codes "when") (name e.name) → (x : SheetFault) → Refuses x (IsIn in_choose (raw_element e none)) (HasNoTested e) → Refuses x (IsIn in_choose whole) (HasNoBranches whole)
    when_refuses n x r = lifted (both_cover (subst (λ h. Covers (IsIn in_choose (raw_element e none)) (IsIn in_choose h)) (sym is) covers_one) l.covers) (λ c h. l.no_more c (subst (λ h. HasNoBranches h c) (sym is)
        (λ k y u. by_element c (when_stays c (name e.name) n) (λ (k : RawTrees). AreBranches k y → ⊥) (λ bs others behind v w z a. let (t, b, j) = when_there n a in h bs others t b v w j) k u))) x r

    pub all_read : (inner : WrittenBody) → AreBranches (raw_element e rest) (w_otherwise inner) → AreBranches whole (branches found (w_otherwise inner))
    all_read inner a = l.so_far (w_otherwise inner) (subst (λ h. AreBranches h (w_otherwise inner)) (sym is) a)

    pub otherwise_refuses : (x : SheetFault) → Refuses x (IsIn in_choose (raw_element e rest)) (HasNoBranches (raw_element e rest)) → Refuses x (IsIn in_choose whole) (HasNoBranches whole)
    otherwise_refuses x r = lifted (both_cover (subst (λ h. Covers (IsIn in_choose (raw_element e rest)) (IsIn in_choose h)) (sym is) (covers_itself (IsIn in_choose (raw_element e rest)))) l.covers)
        (λ c h. l.no_more c (subst (λ h. HasNoBranches h c) (sym is) h)) x r

pub none_left : {whole left : RawTrees} {found : List WrittenBranch} → BranchLoop whole left found → left ≡ none → AreBranches whole (branches found (w_otherwise w_nothing))
none_left l e = l.so_far (w_otherwise w_nothing) (subst (λ h. AreBranches h (w_otherwise w_nothing)) (sym e) p.no_otherwise)

-- the whole `xsl:choose`
choose_branches : {t : Tag} {kids : RawTrees} {b d : WrittenBody} → IsInstruction i_choose t kids b d → (u : Test) × (i : WrittenBody) × (x : WrittenBranches) × AreBranches kids (w_branch u i x)
choose_branches (p.a_choose {test = u} {inner = i} {others = x} o s) = (u, i, x, s)

no_when : {u : Test} {i b : WrittenBody} {x : WrittenBranches} → w_otherwise b ≡ w_branch u i x → ⊥
no_when e = cc

module _ (e : RawElem) (is : instruction_of (name e.name) ≡ Some i_choose) where
  pub choose_refuses : (x : SheetFault) → Refuses x (IsIn in_choose (raw_trees e.kids.now)) (HasNoBranches (raw_trees e.kids.now)) → Refuses x (IsIn in_body (raw_element e none)) (HasNoElementItem e)
  choose_refuses x r = lifted (covers_kids (looked.an_instruction is refl)) (λ c h. no_item c e i_choose is (λ olds kids b d v w y. let (u, i, z, s) = choose_branches y in h kids (w_branch u i z) w s)) x r

  pub without_when : (b : WrittenBody) → AreBranches (raw_trees e.kids.now) (w_otherwise b) → (c : Change) → HasNoElementItem e c
  without_when b a c = no_item c e i_choose is (λ olds kids y d v w j. let (u, i, z, s) = choose_branches j in no_when (branches_same c w a s))

  pub choose_read : (w : WrittenBranch) (ws : List WrittenBranch) (last : WrittenBody) → HasOnly [] (attributes_of e) → AreBranches (raw_trees e.kids.now) (branches (w ∷ ws) (w_otherwise last))
      → IsElementItem e (λ rest. w_choose (branches (w ∷ ws) (w_otherwise last)) rest)
  choose_read w ws last o a = item_of e i_choose (λ rest. w_choose (branches (w ∷ ws) (w_otherwise last)) rest) is (λ b. p.a_choose o a)

-- faults of a tree in an `xsl:choose`
module _ {whole left : RawTrees} {found : List WrittenBranch} (l : BranchLoop whole left found) where
  pub black_refuses : (s : List ℕ) (q : ℕ) (rest : RawTrees) → left ≡ text s q rest → IsFalse (is_white_space_only s) → IsAt (IsIn in_choose whole) IsUnrefused q × HasNoBranches whole both
  black_refuses s q rest e f = (moved l.covers (subst (λ h. IsAt (IsIn in_choose h) IsUnrefused q) (sym e) (text_at in_choose s q rest)), l.no_more both (subst (λ h. HasNoBranches h both) (sym e) (text_no_branch s q f both rest)))

  pub odd_refuses : (e : RawElem) (rest : RawTrees) → left ≡ raw_element e rest → (x : SheetFault) → Refuses x (IsIn in_choose (raw_element e none)) (λ c. (rest : RawTrees) → HasNoBranches (raw_element e rest) c) → Refuses x (IsIn in_choose whole) (HasNoBranches whole)
  odd_refuses e rest is x r =
      lifted (both_cover (subst (λ h. Covers (IsIn in_choose (raw_element e none)) (IsIn in_choose h)) (sym is) covers_one) l.covers) (λ c h. l.no_more c (subst (λ h. HasNoBranches h c) (sym is) (h rest))) x r

pub is_when : (b : Bool) (n : ExpandedName) → b ≡ false → MatchBool b (IsXsl (codes "otherwise") n) (IsXsl (codes "when") n) → IsXsl (codes "when") n
is_when false n e m = m
is_when true n e m = absurd (true≢false e)

pub is_last : (b : Bool) (n : ExpandedName) → b ≡ true → MatchBool b (IsXsl (codes "otherwise") n) (IsXsl (codes "when") n) → IsXsl (codes "otherwise") n
is_last true n e m = m
is_last false n e m = absurd (true≢false (sym e))

pub empty_branches : {kids : RawTrees} {b : WrittenBody} (ws : List WrittenBranch) → (length ws == 0) ≡ true → AreBranches kids (branches ws (w_otherwise b)) → AreBranches kids (w_otherwise b)
empty_branches [] e a = a
empty_branches (w ∷ ws) e a = absurd (has_length (length ws) e)
  where
    has_length : (n : ℕ) → (suc n == 0) ≡ true → ⊥
    has_length n e = absurd (omega (arith, eqb-true (suc n) 0 e))

pub choose_item : (e : RawElem) → instruction_of (name e.name) ≡ Some i_choose → (ws : List WrittenBranch) (last : WrittenBody) → (length ws == 0) ≡ false → HasOnly [] (attributes_of e)
    → AreBranches (raw_trees e.kids.now) (branches ws (w_otherwise last)) → IsElementItem e (λ rest. w_choose (branches ws (w_otherwise last)) rest)
choose_item e is [] last f o a = absurd (true≢false f)
choose_item e is (w ∷ ws) last f o a = choose_read e is w ws last o a

-- what stands behind an index, as a part of the slice
pub rest_whole : (ts : List Raw) (k : ℕ) → raw_trees (take (length ts - k) (drop k ts)) ≡ raw_trees (drop k ts)
rest_whole ts k = ap raw_trees (take_all (length ts - k) (drop k ts) (omega (arith, length-drop k ts)))
