-- A raw tree means a stylesheet, or it has a cause for which it is refused, and not both: which, is decided by reading it.
use Rattle.std.proofs.Common.{◌≡◌, ◌⊎◌, inl, inr, ℕ, Bool, true, false, List, [], ◌∷◌, ◌++◌, refl, ap, ◌∙◌, sym, subst, Option, None, Some, append_assoc, append-nil}
use Rattle.std.specs.Prelude.{filter}
use Rattle.std.specs.List.{IsDistinct, list_any}
use Rattle.tc_base.specs.declared.reasons.Why.{Why}
use Rattle.tc_base.specs.declared.reasons.Why.TheVariants.{Arithmetic, VariableReference, StringLiteral}
use Rattle.tc_model.specs.Names.{ExpandedName, same_name}
use Rattle.tc_model.specs.RawTrees.{Attribute, Bound, RawTrees, none, text, element}
use Rattle.tc_model.specs.PathTextTokens.{Token, Tokens, IsTooDeep}
use Rattle.tc_model.specs.PathText.{Forms}
use Rattle.tc_model.specs.Sheets.{Sheet}
use Rattle.tc_model.specs.SheetTextTrees.{Template, is_used}
use Rattle.tc_model.specs.SheetTextPhrases.{Tag, tag, value_of, IsStylesheet}
use Rattle.tc_model.specs.SheetText.{one_name, names_of, sheet_of, IsDefined, IsUndefined, IsLoop, StandingCall, calls_of, SheetText, of_undefined, of_loop}
use Rattle.tc_model.proofs.PathTextLexing.{tokens_unique}
use Rattle.tc_model.proofs.SheetTextUnique.{no_sheet}
use Rattle.tc_path.specs.Faults.{Deep}
use Rattle.tc_path.specs.Contexts.{Context}
use Rattle.tc_path.specs.Reasons.{first_from, first_reason, reason_at, within, behind, brackets_behind, or_else, Renamed, no_more, as_it_is, a_number, a_literal, a_variable}
use Rattle.tc_sheet.specs.Changes.{mended, flattened, both, IsRenamed, ChangedAttributes, no_attribute, an_exchange, Changed, no_tree, a_text, an_element}
use Rattle.tc_sheet.specs.Changes as changes
use Rattle.tc_sheet.specs.Constructs.{Form, select, value, pattern, test, context_of, HasForm, MustHave, in_path, of_reason}
use Rattle.tc_sheet.specs.Faults.{IsNoneWith, IsCause}
use Rattle.tc_sheet.specs.Laws.{IsRefusal, HasNoSheetWithCause, HasSheetOrCause}
use Rattle.tc_sheet.specs.LookedAt.{Item, of_text, of_root, of_element, of_attribute, place_of, IsLookedAt, the_root, IsDeep, IsUnrefused}
use Rattle.tc_sheet.specs.Tables.{IsNamedAgain}
use Rattle.tc_sheet.specs.declared.faults.SheetFault.{SheetFault}
use Rattle.tc_sheet.specs.declared.faults.SheetFault.TheVariants.{Malformed, Unsupported, TooDeep, Undefined, CallLoop, NoMemory}
use Rattle.tc_sheet.proofs.Changes.{as_they_are}
use Rattle.tc_sheet.proofs.DecidingAttributes.{is_not}
use Rattle.tc_sheet.proofs.DecidingBodies.{stylesheet_here}
use Rattle.tc_sheet.proofs.DecidingBytes.{Decided}
use Rattle.tc_sheet.proofs.DecidingCalls.{same_name_here, loop_here}
use Rattle.tc_sheet.proofs.DecidingItems.{LookedAtHere, looked_at_here, reads_deep_here, IsRefusedItem, refused_here}
use Rattle.tc_sheet.proofs.DecidingLists.{contains_here, first_here, all_so}
use Rattle.tc_sheet.proofs.DeepForms.{renamed_deep, ReadsDeep, stylesheet_none}
use Rattle.tc_sheet.proofs.LessChanged.{LessAttributes, less_none, less_same, less_other, Less, less_end, less_text, less_element, stylesheet_less}
use Rattle.tc_sheet.proofs.NamedAgain.{not_once, names_append}
use Rattle.tc_sheet.proofs.Plain.{ArePlain, select_plain, value_plain, pattern_plain, test_plain}
use Rattle.tc_sheet.proofs.SheetLaws.{twice_cause}
use Rattle.tc_sheet.proofs.TableKeys.{distinct_put}

-- a tree with a cause means none
pub no_sheet_with_cause : HasNoSheetWithCause
no_sheet_with_cause raw (Malformed p) s i a t = not_once (a.1 raw t.templates (as_they_are both raw) t.written) t.once
no_sheet_with_cause raw (Unsupported p why) s i a t = a.1 raw t.templates (as_they_are flattened raw) t.written
no_sheet_with_cause raw (TooDeep p) s i a t = a.1 raw t.templates (as_they_are mended raw) t.written
no_sheet_with_cause raw (Undefined p) s i a t = no_sheet raw _ _ s a t
no_sheet_with_cause raw (CallLoop p) s i a t = no_sheet raw _ _ s a t
no_sheet_with_cause raw NoMemory s i a t = i

-- names of templates are different, or there is a first that comes again
abbrev ComesAgain : List Template → Template → Type 0
ComesAgain before x = (n : ExpandedName) × (x.name ≡ Some n) × (list_any (same_name n) (names_of before) ≡ true)

one_more : (before : List Template) (x : Template) (o : Option ExpandedName) → x.name ≡ o → IsDistinct same_name (names_of before) → IsDistinct same_name (names_of (before ++ x ∷ [])) ⊎ ComesAgain before x
one_more before x None e u =
    inl (subst (IsDistinct same_name) (sym (names_append before (x ∷ []) ∙ (ap (λ o. names_of before ++ (one_name o ++ [])) e ∙ append-nil (names_of before)))) u)
one_more before x (Some n) e u = by (list_any (same_name n) (names_of before)) refl
  where
    by : (b : Bool) → list_any (same_name n) (names_of before) ≡ b → IsDistinct same_name (names_of (before ++ x ∷ [])) ⊎ ComesAgain before x
    by true f = inr (n, e, f)
    by false f = inl (subst (IsDistinct same_name) (sym (names_append before (x ∷ []) ∙ ap (λ o. names_of before ++ (one_name o ++ [])) e)) (distinct_put (names_of before) n u f))

abbrev OnceOrAgain : List Template → Type 0
OnceOrAgain ts = IsDistinct same_name (names_of ts) ⊎ ((p : ℕ) × IsNamedAgain ts p)

once_or_again : (before rest : List Template) → IsDistinct same_name (names_of before) → OnceOrAgain (before ++ rest)
once_or_again before [] u = inl (subst (λ w. IsDistinct same_name (names_of w)) (sym (append-nil before)) u)
once_or_again before (x ∷ rest) u = by (one_more before x x.name refl u) (λ k. once_or_again (before ++ x ∷ []) rest k)
  where
    by : IsDistinct same_name (names_of (before ++ x ∷ [])) ⊎ ComesAgain before x → (IsDistinct same_name (names_of (before ++ x ∷ [])) → OnceOrAgain ((before ++ x ∷ []) ++ rest)) → OnceOrAgain (before ++ x ∷ rest)
    by (inl k) go = subst OnceOrAgain (append_assoc before (x ∷ []) rest) (go k)
    by (inr (n, e, f)) go = inr (x.place, record { before = before; template = x; after = rest; parts = refl; once = u; name = n; named = e; again = f; stands = refl })

nothing_twice : IsDistinct same_name (names_of [])
unfolding IsDistinct
nothing_twice = tt

-- what is renamed has a reason of its own, and no form
one_of_two : (o p : Option Why) → (why : Why) × (p ≡ Some why) → (why : Why) × (or_else o p ≡ Some why)
one_of_two None p h = h
one_of_two (Some why) p h = (why, refl)

abbrev HasReason : List Token → Type 0
HasReason ts = (c : Context) (n : ℕ) (b : _) → (why : Why) × (first_from c n b ts ≡ Some why)

of_first : (c : Context) (ts : List Token) → ((n : ℕ) (b : _) → (why : Why) × (first_from c n b ts ≡ Some why)) → (why : Why) × (first_reason c ts ≡ Some why)
of_first c ts h = h 0 _

same_or_renamed : {ts us : List Token} → Renamed ts us → (us ≡ ts) ⊎ ((ArePlain ts → ⊥) × HasReason ts)
same_or_renamed no_more = inl refl
same_or_renamed (as_it_is {t = t} {ts = ts} r) = by (same_or_renamed r)
  where
    by : {us : List Token} → (us ≡ ts) ⊎ ((ArePlain ts → ⊥) × HasReason ts) → (t ∷ us ≡ t ∷ ts) ⊎ ((ArePlain (t ∷ ts) → ⊥) × HasReason (t ∷ ts))
    by (inl e) = inl (ap (λ w. t ∷ w) e)
    by (inr (p, h)) = inr ((λ a. p a.1), (λ c n b. one_of_two (reason_at (within c n) b t ts) (first_from c (brackets_behind n t) (behind b t) ts) (h c (brackets_behind n t) (behind b t))))
same_or_renamed (a_number r) = inr ((λ a. a.0), (λ c n b. (Arithmetic, refl)))
same_or_renamed (a_literal r) = inr ((λ a. a.0), (λ c n b. (StringLiteral, refl)))
same_or_renamed (a_variable r) = inr ((λ a. a.0), (λ c n b. (VariableReference, refl)))

form_plain : (f : Form) (scope : List Bound) (s : List ℕ) (ts : List Token) → HasForm f scope s → Tokens s ts → ArePlain ts
form_plain select scope s ts (v, m) a = subst ArePlain (tokens_unique m.are_tokens a) (select_plain m.tokens m.phrase)
form_plain value scope s ts (v, m) a = subst ArePlain (tokens_unique m.are_tokens a) (value_plain m.tokens m.phrase)
form_plain pattern scope s ts (v, m) a = subst ArePlain (tokens_unique m.are_tokens a) (pattern_plain m.tokens m.phrase)
form_plain test scope s ts (v, m) a = subst ArePlain (tokens_unique m.are_tokens a) (test_plain m.tokens m.phrase)

renamed_reads : (t : Tag) (a : Attribute) (f : Form) → IsUnrefused (of_attribute t a) → value_of a.name.local t.attributes ≡ Some a.value → MustHave t.name a.name f
    → (Q : List Token → Type 0) (s : List ℕ) → IsRenamed a.value s → Forms Q s → Forms Q a.value
renamed_reads t a f fine first must Q s r m = by (same_or_renamed r.renames)
  where
    same : m.tokens ≡ r.renamed
    same = tokens_unique m.are_tokens r.after

    by : (r.renamed ≡ r.tokens) ⊎ ((ArePlain r.tokens → ⊥) × HasReason r.tokens) → Forms Q a.value
    by (inl e) = record { tokens = r.tokens; are_tokens = r.before; not_too_deep = λ d. m.not_too_deep (subst IsTooDeep (sym (same ∙ e)) d); phrase = subst Q (same ∙ e) m.phrase }
    by (inr (p, h)) =
        let (why, g) = of_first (context_of f) r.tokens (h (context_of f)) in
        absurd
        (fine why (in_path must (λ u. p (form_plain f t.scope a.value r.tokens u r.before))
        (record { tokens = r.tokens; are_tokens = r.before; not_too_deep = λ d. m.not_too_deep (subst IsTooDeep (sym same) (renamed_deep r.renames d)); is_first = g })))

-- with nothing exchanged a tree is the same, and with what nests too deep exchanged it is flattened
as_they_stand : {olds ls : List Attribute} → LessAttributes (λ s t. ⊥) olds ls → olds ≡ ls
as_they_stand less_none = refl
as_they_stand (less_same {a = a} l) = ap (λ w. a ∷ w) (as_they_stand l)
as_they_stand (less_other e x l) = absurd x

as_it_stands : {h l : RawTrees} → Less (λ s t. ⊥) h l → h ≡ l
as_it_stands less_end = refl
as_it_stands (less_text {s = s} {q = q} x) = ap (text s q) (as_it_stands x)
as_it_stands (less_element {n = n} {scope = scope} {q = q} x y z) = let a = as_they_stand x in let b = as_it_stands y in let c = as_it_stands z in λ i. element n (a i) scope q (b i) (c i)

flat_attributes : {olds ls : List Attribute} → LessAttributes (λ s t. Deep s) olds ls → ChangedAttributes flattened olds ls
flat_attributes less_none = no_attribute
flat_attributes (less_same l) = changes.as_it_is (flat_attributes l)
flat_attributes (less_other e x l) = an_exchange e x (flat_attributes l)

flat : {h l : RawTrees} → Less (λ s t. Deep s) h l → Changed flattened h l
flat less_end = no_tree
flat (less_text x) = a_text (flat x)
flat (less_element x y z) = an_element (flat_attributes x) (flat y) (flat z)

deep_is : (x : Item) → ReadsDeep x → IsDeep x
deep_is (of_text q) d = absurd d
deep_is (of_root t) d = absurd d
deep_is (of_element t) d = absurd d
deep_is (of_attribute t a) d = (d.form, d.must, d.deep)

abbrev SheetOrCauseOf : RawTrees → Type 0
SheetOrCauseOf raw = ((s : Sheet) × SheetText raw s) ⊎ ((x : SheetFault) × (IsRefusal x × IsCause raw x))

module _ (n : ExpandedName) (olds : List Attribute) (scope : List Bound) (q : ℕ) (kids : RawTrees) where
  abbrev raw : RawTrees
  raw = element n olds scope q kids none

  abbrev root : Item
  root = of_root (tag n olds scope q)

  abbrev SheetOrCause : Type 0
  SheetOrCause = SheetOrCauseOf raw

  -- a stylesheet but for its calls
  read_calls : (ts : List Template) → IsStylesheet raw ts → IsDistinct same_name (names_of ts) → SheetOrCause
  read_calls ts w d =
      let used = filter is_used ts in
      let defined_here : (c : StandingCall) → Decided (IsDefined used c.call) = λ c. contains_here same_name_here (names_of used) c.call.name in
      elim (first_here (IsUndefined used) (λ c. is_not (defined_here c)) (calls_of used)) [
        | inl (c, f) ↦ inr (Undefined (record { 0 = c.call.place }), (tt, of_undefined w d f))
        | inr a ↦ let b = all_so (λ (c : StandingCall). IsDefined used c.call) defined_here (calls_of used) a in elim (first_here (IsLoop used) (loop_here used) (calls_of used)) [
          | inl (c, f) ↦ inr (CallLoop (record { 0 = c.call.place }), (tt, of_loop w d b f))
          | inr e ↦ inl (sheet_of used, record { templates = ts; written = w; once = d; defined = b; no_loop = e; means = refl })
        ]
      ]

  read_names : (ts : List Template) → IsStylesheet raw ts → SheetOrCause
  read_names ts w = by (once_or_again [] ts nothing_twice)
    where
      by : OnceOrAgain ts → SheetOrCause
      by (inl d) = read_calls ts w d
      by (inr (p, a)) = inr (Malformed (record { 0 = p }), (tt, twice_cause raw w (Malformed (record { 0 = p })) a))

  module _ (unread : (ts : List Template) → IsStylesheet raw ts → ⊥) where
    -- something that is read nests too deep
    too_deep : (x : Item) → IsLookedAt raw x → ReadsDeep x → SheetOrCause
    too_deep x g d = inr (TooDeep (record { 0 = place_of x }), (tt, (record { item = x; has = g; holds = deep_is x d; stands = refl }, λ changed ts c w. stylesheet_none g d c w)))

    module _ (no_deep : (x : Item) → IsLookedAt raw x → ReadsDeep x → ⊥) where
      -- nothing does, so the tree is none once it is flattened
      none_flattened : IsNoneWith flattened raw
      none_flattened changed ts c w =
          let (l, y, v) = stylesheet_less flattened (λ s t. Deep s) (λ s t. ⊥) (λ s t x. inl x) (λ x. ReadsDeep x → ⊥) (λ t fine h. h)
          (λ t a f fine first must Q s d m. absurd (fine (record { form = f; must = must; first = first; deep = d }))) n olds scope q kids no_deep c w in
          unread ts (subst (λ h. IsStylesheet h ts) (sym (as_it_stands y)) v)

      -- no reason of its own refuses anything, so it is none with both changes
      none_with_both : ((x : Item) → IsLookedAt raw x → IsUnrefused x) → IsNoneWith both raw
      none_with_both unrefused changed ts c w =
          let (l, y, v) = stylesheet_less both IsRenamed (λ s t. Deep s) (λ s t x. x) IsUnrefused (λ t fine h. fine h.0 (of_reason h.1)) renamed_reads n olds scope q kids unrefused c w in
          none_flattened l ts (flat y) v

      refused_by : LookedAtHere IsRefusedItem refused_here raw → SheetOrCause
      refused_by (inl (x, (g, (why, r)))) = inr (Unsupported (record { 0 = place_of x }) why, (tt, (record { item = x; has = g; holds = r; stands = refl }, none_flattened)))
      refused_by (inr h) =
          let unrefused : (x : Item) → IsLookedAt raw x → IsUnrefused x = λ x g why r. h x g (why, r) in
          inr (
            Malformed (record { 0 = q }),
            (tt, (record { item = root; has = the_root; holds = unrefused root the_root; stands = refl }, λ changed ts c w. absurd (none_with_both unrefused changed ts c w))),
          )

    unread_by : LookedAtHere ReadsDeep reads_deep_here raw → SheetOrCause
    unread_by (inl (x, (g, d))) = too_deep x g d
    unread_by (inr h) = refused_by h (looked_at_here IsRefusedItem refused_here n olds scope q kids)

  read_or_refused : SheetOrCause
  read_or_refused = elim (stylesheet_here n olds scope q kids) [
    | inl (ts, w) ↦ read_names ts w
    | inr h ↦ unread_by h (looked_at_here ReadsDeep reads_deep_here n olds scope q kids)
  ]

pub sheet_or_cause : HasSheetOrCause
sheet_or_cause none i = absurd i
sheet_or_cause (text s q rest) i = absurd i
sheet_or_cause (element n olds scope q kids rest) i = subst (λ h. SheetOrCauseOf (element n olds scope q kids h)) (sym i) (read_or_refused n olds scope q kids)
