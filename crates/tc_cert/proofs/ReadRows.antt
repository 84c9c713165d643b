-- Rows that are read field by field.
use Rattle.std.proofs.Common.{◌≡◌, ◌≤◌, ◌&&◌, ℕ, Bool, true, false, cond, List, ◌∷◌, ◌++◌, length, drop, get_or, All, Some, refl, sym, ap, subst, ◌∙◌, decimal}
use Rattle.std.specs.declared.cmp.Ordering.TheVariants.{Less}
use Rattle.tc_model.specs.CertificateLines.{change, changes, numbers, listed, row}
use Rattle.tc_model.specs.CertificateData.{IsNumber, AreMembers}
use Rattle.tc_cert.specs.Texts.{by_changes}
use Rattle.tc_cert.specs.Pieces.{AreNumbers, AreNumbersAt, AreChangesAt, IsFrontAt}
use Rattle.tc_cert.specs.Fields.{Fields, IsFormedRow, IsBehind, IsNextRow, row_line, row_changes, row_in, are_like, letter, changes_letter}
use Rattle.tc_cert.specs.Orders.{row_order}
use Rattle.tc_cert.specs.NextRows.{IsWholeAt, IsChangedAt, IsMade, IsMadeBehind, IsShort}
use Rattle.tc_cert.specs.Styles.{version_of, IsWholeBehind, MayBeWhole, IsByChanges}
use Rattle.tc_cert.specs.declared.rows.Kind.{Kind}
use Rattle.tc_cert.specs.declared.rows.Style.{Style}
use Rattle.tc_cert.specs.declared.rows.Style.TheVariants.{Whole, ByChanges}
use Rattle.tc_cert.proofs.Fields.{plain_numbers}
use Rattle.tc_cert.proofs.Lists.{plain_changes}
use Rattle.tc_cert.proofs.Numbers.{bool_apart}
use Rattle.tc_cert.proofs.Orders.{rows_by_fields}
use Rattle.tc_cert.proofs.Three.{AreThree, IsOneRow, first_of, second_of, front_of, one_row, made}
use Rattle.tc_cert.proofs.Differing.{changes_keep, test_same}
use Rattle.tc_cert.proofs.RowLines.{three_of_line, three_of_changes, whole_one, as_long, letters_differ}

-- some row that is written whole, or by changes
abbrev AnyWhole : Kind → List ℕ → Type 0
AnyWhole k bytes = (f : Fields) × (rest : List ℕ) × IsWholeAt k bytes f rest

pub whole_no_front : (k : Kind) (bytes : List ℕ) (l : ℕ) → l ≡ letter k → ((one : Bool) × (other : Bool) × (ms : List ℕ) × (r : List ℕ) × IsFrontAt l bytes one other ms r → ⊥) → AnyWhole k bytes → ⊥
whole_no_front k bytes l is bar w =
    bar (
      w.0.one,
      w.0.other,
      w.0.members,
      numbers w.0.outs ++ 32 ∷ (numbers w.0.looks ++ 10 ∷ w.1),
      subst (λ c. IsFrontAt c bytes w.0.one w.0.other w.0.members (numbers w.0.outs ++ 32 ∷ (numbers w.0.looks ++ 10 ∷ w.1))) (sym is) (front_of decimal IsNumber plain_numbers (three_of_line k w.0 bytes w.1 w.2.formed w.2.spelled)),
    )

module _ (k : Kind) (bytes : List ℕ) (l : ℕ) (is : l ≡ letter k) (a b : Bool) (ms r : List ℕ) (h : IsFrontAt l bytes a b ms r) where
  head : IsFrontAt (letter k) bytes a b ms r
  head = subst (λ c. IsFrontAt c bytes a b ms r) is h

  pub whole_no_outs : ((ns : List ℕ) × (s : List ℕ) × AreNumbersAt 32 r ns s → ⊥) → AnyWhole k bytes → ⊥
  whole_no_outs bar w = bar (w.0.outs, numbers w.0.looks ++ 10 ∷ w.1, first_of decimal IsNumber plain_numbers head (three_of_line k w.0 bytes w.1 w.2.formed w.2.spelled))

  pub whole_no_looks : (os s : List ℕ) → AreNumbersAt 32 r os s → ((ns : List ℕ) × (t : List ℕ) × AreNumbersAt 10 s ns t → ⊥) → AnyWhole k bytes → ⊥
  whole_no_looks os s p bar w = bar (w.0.looks, w.1, second_of decimal IsNumber plain_numbers head p (three_of_line k w.0 bytes w.1 w.2.formed w.2.spelled))

  pub whole_not_small : (os s ls t : List ℕ) → AreNumbersAt 32 r os s → AreNumbersAt 10 s ls t → (All (λ n. n ≤ 2) ls → ⊥) → AnyWhole k bytes → ⊥
  whole_not_small os s ls t p q bar w =
      let o : IsOneRow a w.0.one b w.0.other ms w.0.members os w.0.outs ls w.0.looks t w.1 = one_row decimal IsNumber plain_numbers head p q (three_of_line k w.0 bytes w.1 w.2.formed w.2.spelled) in
      bar (subst (All (λ n. n ≤ 2)) (sym o.second) w.2.formed.looks)

  pub whole_ok : (os s ls t : List ℕ) → AreNumbersAt 32 r os s → AreNumbersAt 10 s ls t → All (λ n. n ≤ 2) ls → IsWholeAt k bytes (record { one = a; other = b; members = ms; outs = os; looks = ls }) t
  whole_ok os s ls t p q small = record {
    formed = record { members = h.allowed; outs = p.allowed; looks = small };
    spelled = (made decimal IsNumber plain_numbers head p q).spelled;
  }

-- a row behind another, written whole
pub not_whole : (s : Style) (k : Kind) (b f : Fields) (bytes rest : List ℕ) → IsFormedRow b → IsWholeAt k bytes f rest → (MayBeWhole s b f → ⊥) → ((g : Fields) × (after : List ℕ) × IsWholeBehind s k b bytes g after) → ⊥
not_whole s k b f bytes rest formed at bar w =
    let one : (w.0 ≡ f) × (w.1 ≡ rest) = whole_one k w.0 f w.1 rest w.2.at.formed at.formed (sym w.2.at.spelled ∙ at.spelled) in
    bar (subst (MayBeWhole s b) one.0 (record { unlike = w.2.unlike; order = sym (rows_by_fields k b w.0 formed w.2.at.formed) ∙ w.2.behind }))

pub is_whole : (s : Style) (k : Kind) (b f : Fields) (bytes rest : List ℕ) → IsFormedRow b → IsWholeAt k bytes f rest → MayBeWhole s b f → IsWholeBehind s k b bytes f rest
is_whole s k b f bytes rest formed at may = record { at = at; unlike = may.unlike; behind = rows_by_fields k b f formed at.formed ∙ may.order }

abbrev row_text : Kind → List ℕ → Bool → Bool → List ℕ → List (ℕ × ℕ) → List (ℕ × ℕ) → List ℕ
row_text k t x y ns xs ys = row (changes_letter k) x y ns (listed change xs) (listed change ys) ++ 10 ∷ t

-- a row behind another, by its changes
abbrev AnyChanged : Kind → Fields → List ℕ → Type 0
AnyChanged k b bytes = (f : Fields) × (rest : List ℕ) × IsChangedAt k b bytes f rest × IsBehind (row_line k) (Some b) f

three_of : (k : Kind) (b : Fields) (bytes : List ℕ) (f : Fields) (rest : List ℕ) → IsShort b → IsChangedAt k b bytes f rest
    → AreThree change AreNumbers (changes_letter k) bytes f.one f.other f.members (changes 0 b.outs f.outs) (changes 0 b.looks f.looks) rest
three_of k b bytes f rest short c = three_of_changes k b f bytes rest short c.formed c.spelled

pub changed_no_front : (k : Kind) (b : Fields) (bytes : List ℕ) (l : ℕ) → l ≡ changes_letter k → IsShort b → ((one : Bool) × (other : Bool) × (ms : List ℕ) × (r : List ℕ) × IsFrontAt l bytes one other ms r → ⊥) → AnyChanged k b bytes → ⊥
changed_no_front k b bytes l is short bar w =
    bar (
      w.0.one,
      w.0.other,
      w.0.members,
      listed change (changes 0 b.outs w.0.outs) ++ 32 ∷ (listed change (changes 0 b.looks w.0.looks) ++ 10 ∷ w.1),
      subst (λ c. IsFrontAt c bytes w.0.one w.0.other w.0.members (listed change (changes 0 b.outs w.0.outs) ++ 32 ∷ (listed change (changes 0 b.looks w.0.looks) ++ 10 ∷ w.1))) (sym is) (front_of change AreNumbers plain_changes (three_of k b bytes w.0 w.1 short w.2)),
    )

module _ (k : Kind) (b : Fields) (bytes : List ℕ) (l : ℕ) (is : l ≡ changes_letter k) (short : IsShort b) (one other : Bool) (ms r : List ℕ) (h : IsFrontAt l bytes one other ms r) where
  head_of : IsFrontAt (changes_letter k) bytes one other ms r
  head_of = subst (λ c. IsFrontAt c bytes one other ms r) is h

  pub changed_no_outs : ((cs : List (ℕ × ℕ)) × (s : List ℕ) × AreChangesAt 32 r cs s → ⊥) → AnyChanged k b bytes → ⊥
  changed_no_outs bar w = bar (changes 0 b.outs w.0.outs, listed change (changes 0 b.looks w.0.looks) ++ 10 ∷ w.1, first_of change AreNumbers plain_changes head_of (three_of k b bytes w.0 w.1 short w.2))

  pub changed_no_looks : (cs : List (ℕ × ℕ)) (s : List ℕ) → AreChangesAt 32 r cs s → ((ds : List (ℕ × ℕ)) × (t : List ℕ) × AreChangesAt 10 s ds t → ⊥) → AnyChanged k b bytes → ⊥
  changed_no_looks cs s p bar w = bar (changes 0 b.looks w.0.looks, w.1, second_of change AreNumbers plain_changes head_of p (three_of k b bytes w.0 w.1 short w.2))

  is_made : (cs ds : List (ℕ × ℕ)) (s t : List ℕ) → AreChangesAt 32 r cs s → AreChangesAt 10 s ds t → (f : Fields) (rest : List ℕ) → IsChangedAt k b bytes f rest → IsMade b one other ms cs ds f
  is_made cs ds s t p q f rest c =
      let o : IsOneRow one f.one other f.other ms f.members cs (changes 0 b.outs f.outs) ds (changes 0 b.looks f.looks) t rest = one_row change AreNumbers plain_changes head_of p q (three_of k b bytes f rest short c) in
      let long = as_long b f c.like in
      record {
        one_is = sym o.one;
        other_is = sym o.other;
        members_are = sym o.members;
        outs_are = record { long = long.outs; are = sym o.first };
        looks_are = record { long = long.looks; are = sym o.second };
        small = c.formed.looks;
      }

  pub changed_not_behind : (cs ds : List (ℕ × ℕ)) (s t : List ℕ) (result : Bool) → IsFormedRow b → AreChangesAt 32 r cs s → AreChangesAt 10 s ds t → IsMadeBehind b one other ms cs ds result → result ≡ false → AnyChanged k b bytes → ⊥
  changed_not_behind cs ds s t result formed p q m off w =
      let order : row_order b w.0 ≡ Less = sym (rows_by_fields k b w.0 formed w.2.formed) ∙ w.3 in
      bool_apart result ((m w.0 (is_made cs ds s t p q w.0 w.1 w.2)).1 order) off

  pub changed_not_made : (cs ds : List (ℕ × ℕ)) (s t : List ℕ) → AreChangesAt 32 r cs s → AreChangesAt 10 s ds t → ((f : Fields) → IsMade b one other ms cs ds f → ⊥) → AnyChanged k b bytes → ⊥
  changed_not_made cs ds s t p q bar w = bar w.0 (is_made cs ds s t p q w.0 w.1 w.2)

  like_of : (f : Fields) → length f.outs ≡ length b.outs → length f.looks ≡ length b.looks → are_like b f ≡ true
  like_of f p q = λ i. test_same (length b.outs) (length f.outs) (sym p) i && test_same (length b.looks) (length f.looks) (sym q) i

  pub changed_ok : (cs ds : List (ℕ × ℕ)) (s t : List ℕ) (result : Bool) → IsFormedRow b → AreChangesAt 32 r cs s → AreChangesAt 10 s ds t → IsMadeBehind b one other ms cs ds result → result ≡ true
      → (f : Fields) → IsMade b one other ms cs ds f → IsChangedAt k b bytes f t × IsBehind (row_line k) (Some b) f
  changed_ok cs ds s t result formed p q m on f made_of =
      let outs : All IsNumber f.outs = changes_keep IsNumber 0 b.outs f.outs made_of.outs_are.long formed.outs (subst (All (λ c. IsNumber c.1)) (sym made_of.outs_are.are) (λ j d i. (p.allowed j d i).1)) in
      let good : IsFormedRow f = record { members = subst AreMembers (sym made_of.members_are) h.allowed; outs = outs; looks = made_of.small } in
      let three : AreThree change AreNumbers (changes_letter k) bytes one other ms cs ds t = made change AreNumbers plain_changes head_of p q in (
        record {
          formed = good;
          like = like_of f made_of.outs_are.long made_of.looks_are.long;
          spelled = three.spelled ∙ sym (λ i. row_text k t (made_of.one_is i) (made_of.other_is i) (made_of.members_are i) (made_of.outs_are.are i) (made_of.looks_are.are i));
        },
        rows_by_fields k b f formed good ∙ (m f made_of).0 on,
      )

-- the next row, whole or by its changes
text_by : (b : Bool) (k : Kind) (p f : Fields) (rest : List ℕ) → are_like p f ≡ b → row_in by_changes k p f ++ 10 ∷ rest ≡ cond b (row_changes k p f) (row_line k f) ++ 10 ∷ rest
text_by b k p f rest e = ap (λ c. cond c (row_changes k p f) (row_line k f) ++ 10 ∷ rest) e

first_byte : (x : ℕ) (xs : List ℕ) (y : ℕ) (ys : List ℕ) → x ∷ xs ≡ y ∷ ys → x ≡ y
first_byte x xs y ys e = cc

pub next_of_changed : (s : Style) (k : Kind) (b : Fields) (bytes : List ℕ) (f : Fields) (rest : List ℕ) → IsByChanges s k bytes → IsChangedAt k b bytes f rest → IsBehind (row_line k) (Some b) f → IsNextRow (version_of s) k (Some b) bytes f rest
next_of_changed s k b bytes f rest by c behind =
    subst (λ x. IsNextRow (version_of x) k (Some b) bytes f rest) (sym by.style) (record { formed = c.formed; behind = behind; spelled = c.spelled ∙ sym (text_by true k b f rest c.like) })

pub changed_of_next : (s : Style) (k : Kind) (b : Fields) (bytes : List ℕ) (f : Fields) (rest : List ℕ) → IsByChanges s k bytes → IsNextRow (version_of s) k (Some b) bytes f rest → IsChangedAt k b bytes f rest × IsBehind (row_line k) (Some b) f
changed_of_next s k b bytes f rest by n = here (are_like b f) refl (subst (λ x. IsNextRow (version_of x) k (Some b) bytes f rest) by.style n)
  where
    here : (c : Bool) → are_like b f ≡ c → IsNextRow by_changes k (Some b) bytes f rest → IsChangedAt k b bytes f rest × IsBehind (row_line k) (Some b) f
    here true e m = (record { formed = m.formed; like = e; spelled = m.spelled ∙ text_by true k b f rest e }, m.behind)
    here false e m =
        let whole_text : changes_letter k ∷ by.rest ≡ row_line k f ++ 10 ∷ rest = sym by.spelled ∙ m.spelled ∙ text_by false k b f rest e in
        absurd (letters_differ k (ap (λ l. get_or l 0 0) whole_text))

style_apart : Whole ≡ ByChanges → ⊥
style_apart e = cc

pub next_of_whole : (s : Style) (k : Kind) (b : Fields) (bytes : List ℕ) (f : Fields) (rest : List ℕ) → IsWholeBehind s k b bytes f rest → IsNextRow (version_of s) k (Some b) bytes f rest
next_of_whole Whole k b bytes f rest w = record { formed = w.at.formed; behind = w.behind; spelled = w.at.spelled }
next_of_whole ByChanges k b bytes f rest w = record { formed = w.at.formed; behind = w.behind; spelled = w.at.spelled ∙ sym (text_by false k b f rest (w.unlike refl)) }

pub whole_of_next : (s : Style) (k : Kind) (b : Fields) (bytes : List ℕ) (f : Fields) (rest : List ℕ) → (IsByChanges s k bytes → ⊥) → IsNextRow (version_of s) k (Some b) bytes f rest → IsWholeBehind s k b bytes f rest
whole_of_next Whole k b bytes f rest bar n = record { at = record { formed = n.formed; spelled = n.spelled }; unlike = λ e. absurd (style_apart e); behind = n.behind }
whole_of_next ByChanges k b bytes f rest bar n = by (are_like b f) refl
  where
    by : (c : Bool) → are_like b f ≡ c → IsWholeBehind ByChanges k b bytes f rest
    by true e =
        let changed_text : bytes ≡ row_changes k b f ++ 10 ∷ rest = n.spelled ∙ text_by true k b f rest e in
        absurd (bar (record { style = refl; rest = drop 1 (row_changes k b f ++ 10 ∷ rest); spelled = changed_text }))
    by false e = record { at = record { formed = n.formed; spelled = n.spelled ∙ text_by false k b f rest e }; unlike = λ _. e; behind = n.behind }
