-- Names of marks are lawful, and so is the plain schema.
use Rattle.std.proofs.Common.{◌≡◌, ◌≢◌, ◌∙◌, ℕ, List, [], ◌∷◌, ◌++◌, refl, ap, sym, true, false, ltb, bytes_eq, codes, arith}
use Rattle.std.specs.Prelude.{encode_utf8_all}
use Rattle.std.specs.List.{list_all}
use Rattle.std.specs.Cmp.Lexicographic.{bytes_decides}
use Rattle.std.proofs.lemmas.Str.{encode_ascii}
use Rattle.std.proofs.lemmas.Bool.{true≢false, and_parts, ltb-true}
use Rattle.std.proofs.lemmas.List.Elements.{All-nil, All-cons}
use Rattle.tc_model.specs.Names.{IsNamespaceName, IsName, xmlns_uri}
use Rattle.tc_model.specs.Grammars as g
use Rattle.tc_model.specs.Grammars.{IsPattern, IsElementPattern, IsGrammar}
use Rattle.tc_dead.specs.Marked.{dead_uri, mark_name, wrapper_name, either, plain_content, plain_schema}

unequal : (a b : List ℕ) → bytes_eq a b ≡ false → a ≢ b
unequal a b e q = true≢false (sym ((bytes_decides a b).1 q) ∙ e)

ascii_encodes : (bs : List ℕ) → list_all (λ b. ltb b 128) bs ≡ true → encode_utf8_all bs ≡ bs
ascii_encodes [] e = refl
ascii_encodes (b ∷ bs) e =
    let (x, y) = and_parts (ltb b 128) (list_all (λ b. ltb b 128) bs) e in
    ap (λ w. w ++ encode_utf8_all bs) (encode_ascii b (ltb-true b 128 x)) ∙ ap (λ w. b ∷ w) (ascii_encodes bs y)

lawful_uri : IsNamespaceName dead_uri
lawful_uri = ((dead_uri, ascii_encodes dead_uri refl, refl), unequal dead_uri xmlns_uri refl)

pub lawful_mark : IsName mark_name
lawful_mark = (lawful_uri, (0x6D, [], ascii_encodes (codes "m") refl, refl, refl))

pub lawful_wrapper : IsName wrapper_name
lawful_wrapper = (lawful_uri, (0x77, [], ascii_encodes (codes "w") refl, refl, refl))

some : (q : g.Pattern) (qs : g.Patterns) → g.more q qs ≢ g.no_more
some q qs e = cc

lawful_either : (n : ℕ) (a b : g.Pattern) → IsPattern n a → IsPattern n b → IsPattern n (either a b)
lawful_either n a b i j = (some a (g.more b g.no_more), (i, (j, tt)))

lawful_content : IsPattern 2 plain_content
lawful_content = lawful_either 2 (g.one_or_more (either g.text (g.ref 1))) g.empty (lawful_either 2 g.text (g.ref 1) tt (omega arith, omega arith)) tt

pub lawful_schema : IsGrammar plain_schema
lawful_schema = (
  lawful_content,
  All-cons (IsElementPattern 2) (record { names = g.of_name wrapper_name; content = either (g.ref 2) plain_content }) ((record { names = g.any_name g.no_class; content = plain_content }) ∷ [])
      (lawful_wrapper, lawful_either 2 (g.ref 2) plain_content (omega arith, omega arith) lawful_content)
      (All-cons (IsElementPattern 2) (record { names = g.any_name g.no_class; content = plain_content }) [] (tt, lawful_content) (All-nil (IsElementPattern 2))),
)
