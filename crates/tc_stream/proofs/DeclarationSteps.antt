-- What still comes of a text where an XML declaration has begun.
use Rattle.std.proofs.Common.{◌≡◌, ℕ, ◌≤◌, ◌+◌, false, List, [], ◌++◌, refl, ap, ◌∙◌, sym, subst, length, arith, codes, None, append_assoc, append-nil, length-append}
use Rattle.std.specs.Prelude.{◌↔◌}
use Rattle.std.proofs.lemmas.List.{append_cancel_left}
use Rattle.tc_base.specs.declared.reasons.Why.{Why}
use Rattle.tc_model.specs.Names.{IsChars}
use Rattle.tc_model.specs.XmlTextBytes.{BeginsWithWhite, place_of}
use Rattle.tc_model.specs.XmlTextMisc.{DeclarationAt}
use Rattle.tc_model.specs.XmlTextMisc as m
use Rattle.tc_model.specs.XmlTextRefusals.{unsupported, DeclarationRefuses}
use Rattle.tc_stream.specs.Cuts.{BeginsNoChar}
use Rattle.tc_stream.specs.Declarations.{Declaring, between, DeclarationScan, declared, declaring, refuses, no_declaration, declaration_scan}
use Rattle.tc_stream.specs.Outcomes.{Outcome, refused}
use Rattle.tc_stream.specs.From.{Standing, FromProlog, FromFront, declaration, prolog, StillComes}
use Rattle.tc_stream.specs.declared.phases.Phase.TheVariants as phases
use Rattle.tc_stream.proofs.TagExtendLaws.{white_begins_kept}
use Rattle.tc_stream.proofs.ContentSteps.{step_both}
use Rattle.tc_stream.proofs.FinalSteps.{refused_step}
use Rattle.tc_stream.proofs.NothingSteps.{nothing_step, last_step}
use Rattle.tc_stream.proofs.DeclarationLaws.{then_declaration, declaration_more, scan_at, IsDeclared, declared_scanned, refused_scanned}
use Rattle.tc_stream.proofs.DeclarationFound.{Told, is_declared, is_refused, goes_on, is_none, told}

-- where a declaration begins, what comes is what its scan tells
data AtDeclaration (t total : ℕ) (bs : List ℕ) (o : Outcome) : Type 0 where
  is_unread : {why : Why} (at : List ℕ) → scan_at t (between None false) bs ≡ refuses why (place_of t at) → o ≡ refused (unsupported why) (place_of total at) → AtDeclaration t total bs o
  is_read : {r : List ℕ} → scan_at t (between None false) bs ≡ declared r → FromProlog total r o → AtDeclaration t total bs o

at_declaration : {total : ℕ} {bs : List ℕ} {o : Outcome} (t : ℕ) → BeginsWithWhite bs → length bs ≤ t → FromFront total (codes "<?xml" ++ bs) o → AtDeclaration t total bs o
at_declaration {bs = bs} t w low (declaration {at = at} {why = why} r) = is_unread at (refused_scanned t bs at why r low) refl
at_declaration {bs = bs} t w low (prolog (m.no_declaration h) p) = absurd (h bs refl w)
at_declaration {bs = bs} t w low (prolog {past_declaration = r} (m.declaration {rest = rest} {past_version = u} {past_encoding = v} {past_standalone = x} is a e s q) p) =
    let one : IsDeclared rest r = record { past_version = u; past_encoding = v; past_standalone = x; version = a; encoding = e; standalone = s; end = q } in
    is_read (declared_scanned t bs r (subst (λ z. IsDeclared z r) (sym (append_cancel_left (codes "<?xml") bs rest is)) one) low) p

declared_same : {r s : List ℕ} → declared r ≡ declared s → r ≡ s
declared_same e = cc

-- a declaration that ends before these bytes
declared_there : {t : ℕ} {bs r : List ℕ} {x : DeclarationScan} → Told t bs x → x ≡ declared r → IsDeclared bs r
declared_there {bs = bs} (is_declared d) e = subst (λ z. IsDeclared bs z) (declared_same e) d
declared_there (is_refused d) e = absurd (cc)
declared_there goes_on e = absurd (cc)
declared_there is_none e = absurd (cc)

-- and one that is refused
record Unread (t : ℕ) (bs : List ℕ) (why : Why) (place : ℕ) : Type 0 where
  at : List ℕ
  refuses_there : DeclarationRefuses (codes "<?xml" ++ bs) why at
  stands : place ≡ place_of t at

unread_same : {t : ℕ} {bs at : List ℕ} {w why : Why} {p place : ℕ} → DeclarationRefuses (codes "<?xml" ++ bs) w at → p ≡ place_of t at → refuses w p ≡ refuses why place → Unread t bs why place
unread_same {bs = bs} {at = at} {w = w} {why = why} {p = p} {place = place} d s e = record {
  at = at;
  refuses_there = subst (λ z. DeclarationRefuses (codes "<?xml" ++ bs) z at) (same_why e) d;
  stands = sym (same_place e) ∙ s;
}
  where
    same_why : refuses w p ≡ refuses why place → w ≡ why
    same_why e = cc

    same_place : refuses w p ≡ refuses why place → p ≡ place
    same_place e = cc

unread_there : {t : ℕ} {bs : List ℕ} {x : DeclarationScan} {why : Why} {place : ℕ} → Told t bs x → x ≡ refuses why place → Unread t bs why place
unread_there (is_declared d) e = absurd (cc)
unread_there (is_refused d) e = unread_same d refl e
unread_there goes_on e = absurd (cc)
unread_there is_none e = absurd (cc)

-- the bytes behind `<?xml` of which a part has come, at so many bytes behind the text's begin
scanned_behind : (n : ℕ) (w f : List ℕ) → scan_at (n + 5 + length (w ++ f)) (between None false) (w ++ f) ≡ then_declaration (n + 5 + length w) (declaration_scan (between None false) (n + 5) w) f
scanned_behind n w f =
    let here : place_of (n + 5 + length (w ++ f)) (w ++ f) ≡ n + 5 = omega arith in
    ap (λ p. declaration_scan (between None false) p (w ++ f)) here ∙ declaration_more (between None false) (n + 5) w f

scanned_as : (n : ℕ) (w f : List ℕ) {x : DeclarationScan} → declaration_scan (between None false) (n + 5) w ≡ x
    → scan_at (n + 5 + length (w ++ f)) (between None false) (w ++ f) ≡ then_declaration (n + 5 + length w) x f
scanned_as n w f e = scanned_behind n w f ∙ ap (λ x. then_declaration (n + 5 + length w) x f) e

within : (n : ℕ) (bs : List ℕ) → length bs ≤ n + 5 + length bs
within n bs = omega arith

told_behind : (n : ℕ) (w f : List ℕ) → Told (n + 5 + length (w ++ f)) (w ++ f) (scan_at (n + 5 + length (w ++ f)) (between None false) (w ++ f))
told_behind n w f = told (n + 5 + length (w ++ f)) (w ++ f) (within n (w ++ f))

there : (n total : ℕ) (w f : List ℕ) (o : Outcome) → BeginsWithWhite w → FromFront total ((codes "<?xml" ++ w) ++ f) o → AtDeclaration (n + 5 + length (w ++ f)) total (w ++ f) o
there n total w f o white g =
    at_declaration (n + 5 + length (w ++ f)) (white_begins_kept w f white) (within n (w ++ f)) (subst (λ z. FromFront total z o) (append_assoc (codes "<?xml") w f) g)

-- one that has ended

over_declaration : (n total : ℕ) (w f : List ℕ) (o : Outcome) → BeginsWithWhite w → declaration_scan (between None false) (n + 5) w ≡ declared []
    → FromFront total ((codes "<?xml" ++ w) ++ f) o ↔ FromProlog total f o
over_declaration n total w f o white e = (λ g. past (there n total w f o white g), back)
  where
    ends : scan_at (n + 5 + length (w ++ f)) (between None false) (w ++ f) ≡ declared f
    ends = scanned_as n w f e

    past : AtDeclaration (n + 5 + length (w ++ f)) total (w ++ f) o → FromProlog total f o
    past (is_unread at u i) = absurd (no_both (sym ends ∙ u))
      where
        no_both : {why : Why} {place : ℕ} → declared f ≡ refuses why place → ⊥
        no_both h = cc
    past (is_read u p) = subst (λ z. FromProlog total z o) (sym (declared_same (sym ends ∙ u))) p

    back : FromProlog total f o → FromFront total ((codes "<?xml" ++ w) ++ f) o
    back p =
        let d = declared_there (told_behind n w f) ends in
        prolog (subst (λ z. DeclarationAt z f) (sym (append_assoc (codes "<?xml") w f)) (m.declaration refl d.version d.encoding d.standalone d.end)) p

pub declaration_step : (n : ℕ) (w r : List ℕ) (s : Standing) (o : Outcome) → IsChars (codes "<?xml" ++ w) → BeginsWithWhite w → declaration_scan (between None false) (n + 5) w ≡ declared []
    → StillComes n phases.Front s ((codes "<?xml" ++ w) ++ r) o ↔ StillComes (n + length (codes "<?xml" ++ w)) phases.Prolog s r o
declaration_step n w r s o chars white e =
    step_both n (codes "<?xml" ++ w) r phases.Front phases.Prolog s s o chars (λ total f k. over_declaration n total w f o white e)

-- one of another version or encoding

total_there : (n : ℕ) (w f : List ℕ) → n + length ((codes "<?xml" ++ w) ++ f) ≡ n + 5 + length (w ++ f)
total_there n w f = omega (arith, length-append (codes "<?xml" ++ w) f, length-append w f)

pub unread_step : (n : ℕ) (w r : List ℕ) (s : Standing) (why : Why) (place : ℕ) (o : Outcome) → IsChars (codes "<?xml" ++ w) → BeginsWithWhite w
    → declaration_scan (between None false) (n + 5) w ≡ refuses why place
    → StillComes n phases.Front s ((codes "<?xml" ++ w) ++ r) o ↔ (o ≡ refused (unsupported why) place)
unread_step n w r s why place o chars white e =
    refused_step n (codes "<?xml" ++ w) r phases.Front s (unsupported why) place o chars (λ f z. over f z)
  where
    over : (f : List ℕ) (z : Outcome) → FromFront (n + length ((codes "<?xml" ++ w) ++ f)) ((codes "<?xml" ++ w) ++ f) z ↔ (z ≡ refused (unsupported why) place)
    over f z = (λ g. past (there n total w f z white g), back)
      where
        total : ℕ
        total = n + length ((codes "<?xml" ++ w) ++ f)

        ends : scan_at (n + 5 + length (w ++ f)) (between None false) (w ++ f) ≡ refuses why place
        ends = scanned_as n w f e

        past : AtDeclaration (n + 5 + length (w ++ f)) total (w ++ f) z → z ≡ refused (unsupported why) place
        past (is_read u p) = absurd (no_both (sym u ∙ ends))
          where
            no_both : {r : List ℕ} → declared r ≡ refuses why place → ⊥
            no_both h = cc
        past (is_unread {why = v} at u i) =
            i ∙ (ap (λ m. refused (unsupported v) (place_of m at)) (total_there n w f) ∙ same (sym u ∙ ends))
          where
            same : {v : Why} {p : ℕ} → refuses v p ≡ refuses why place → refused (unsupported v) p ≡ refused (unsupported why) place
            same h = cc

        back : z ≡ refused (unsupported why) place → FromFront total ((codes "<?xml" ++ w) ++ f) z
        back h =
            let u = unread_there (told_behind n w f) ends in
            let is : refused (unsupported why) (place_of total u.at) ≡ z = ap (λ m. refused (unsupported why) (place_of m u.at)) (total_there n w f) ∙ (ap (refused (unsupported why)) (sym u.stands) ∙ sym h) in
            subst (λ y. FromFront total ((codes "<?xml" ++ w) ++ f) y) is
            (declaration (subst (λ y. DeclarationRefuses y why u.at) (sym (append_assoc (codes "<?xml") w f)) u.refuses_there))

-- where none stands whatever follows, and where the text ends in one

pub declaration_broken : (n : ℕ) (w r : List ℕ) (s : Standing) (o : Outcome) → IsChars (codes "<?xml" ++ w) → BeginsWithWhite w
    → declaration_scan (between None false) (n + 5) w ≡ no_declaration → StillComes n phases.Front s ((codes "<?xml" ++ w) ++ r) o → ⊥
declaration_broken n w r s o chars white e =
    nothing_step n (codes "<?xml" ++ w) r phases.Front s o chars (λ f k g. by f (there n (n + length ((codes "<?xml" ++ w) ++ f)) w f o white g))
  where
    not_unread : {why : Why} {place : ℕ} → no_declaration ≡ refuses why place → ⊥
    not_unread h = cc

    not_read : {r : List ℕ} → no_declaration ≡ declared r → ⊥
    not_read h = cc

    by : (f : List ℕ) → AtDeclaration (n + 5 + length (w ++ f)) (n + length ((codes "<?xml" ++ w) ++ f)) (w ++ f) o → ⊥
    by f (is_unread at u i) = not_unread (sym (scanned_as n w f e) ∙ u)
    by f (is_read u p) = not_read (sym (scanned_as n w f e) ∙ u)

pub declaration_unended : (n : ℕ) (w r : List ℕ) (s : Standing) (o : Outcome) (known : Declaring) → IsChars (codes "<?xml" ++ w) → BeginsWithWhite w → BeginsNoChar r
    → declaration_scan (between None false) (n + 5) w ≡ declaring known → StillComes n phases.Front s ((codes "<?xml" ++ w) ++ r) o → ⊥
declaration_unended n w r s o known chars white end e =
    last_step n (codes "<?xml" ++ w) r phases.Front s o chars end
    (λ g. by (there n (n + length (codes "<?xml" ++ w)) w [] o white (subst (λ z. FromFront (n + length (codes "<?xml" ++ w)) z o) (sym (append-nil (codes "<?xml" ++ w))) g)))
  where
    not_unread : {why : Why} {place : ℕ} → declaring known ≡ refuses why place → ⊥
    not_unread h = cc

    not_read : {r : List ℕ} → declaring known ≡ declared r → ⊥
    not_read h = cc

    by : AtDeclaration (n + 5 + length (w ++ [])) (n + length (codes "<?xml" ++ w)) (w ++ []) o → ⊥
    by (is_unread at u i) = not_unread (sym (scanned_as n w [] e) ∙ u)
    by (is_read u p) = not_read (sym (scanned_as n w [] e) ∙ u)
