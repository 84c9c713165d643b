-- A list of words gives one command at most.
use Rattle.std.proofs.Common.{◌≡◌, ◌∷◌, [], ◌∙◌, sym, ap, subst, refl, arith, ℕ, List, Option, Some, None, if◌then◌else◌, codes}
use Rattle.std.specs.Str.{bytes_eq}
use Rattle.tc_answer.specs.Words.{Command, check, prove, verify, run, valid, valid_in_pieces, demo, upgrade, dead, include, same, Words, checks, proves, verifies, runs, validates, validates_in_pieces, shows, upgrades, asks_dead, includes, compares, Limits, PieceSizes, IsNumeral, AreOperands, WordsGiveOne, value_from}

-- which of the commands the first word names
abbrev pub kind : List (List ℕ) → ℕ
kind [] = 10
kind (word ∷ words) =
    if bytes_eq word (codes "check") then 0 else
    if bytes_eq word (codes "prove") then 1 else
    if bytes_eq word (codes "verify") then 2 else
    if bytes_eq word (codes "run") then 3 else
    if bytes_eq word (codes "valid") then 4 else
    if bytes_eq word (codes "demo") then 5 else
    if bytes_eq word (codes "upgrade") then 6 else
    if bytes_eq word (codes "include") then 7 else
    if bytes_eq word (codes "dead") then 9 else 8

abbrev kind_of : Command → ℕ
kind_of (check limit input output sheet) = 0
kind_of (prove limit input output sheet) = 1
kind_of (verify input output sheet certificate) = 2
kind_of (run sheet document) = 3
kind_of (valid schema document) = 4
kind_of (valid_in_pieces size schema document) = 4
kind_of (demo size) = 5
kind_of (upgrade certificate) = 6
kind_of (dead input sheet) = 9
kind_of (include first second) = 7
kind_of (same first second) = 8

kind_is : {words : List (List ℕ)} {command : Command} → Words words command → kind words ≡ kind_of command
kind_is (checks parts limits operands schemas) = ap kind parts
kind_is (proves parts limits operands schemas) = ap kind parts
kind_is (verifies parts operands schemas) = ap kind parts
kind_is (runs parts operands) = ap kind parts
kind_is (validates parts operands schemas) = ap kind parts
kind_is (validates_in_pieces parts size operands schemas) = ap kind parts
kind_is (shows parts spelled) = ap kind parts
kind_is (upgrades parts operands) = ap kind parts
kind_is (asks_dead parts operands schemas) = ap kind parts
kind_is (includes parts operands schemas) = ap kind parts
kind_is (compares parts operands schemas) = ap kind parts

-- no operand is `--limit`
no_option : (operands rest : List (List ℕ)) → operands ≡ codes "--limit" ∷ rest → AreOperands operands → ⊥
no_option operands rest parts are = let h : AreOperands (codes "--limit" ∷ rest) = subst AreOperands parts are in absurd cc

same_number : {most : ℕ} (word other : List ℕ) {one two : ℕ} → word ≡ other → IsNumeral most word one → IsNumeral most other two → one ≡ two
same_number word other agree p q = sym p.value ∙ (ap (value_from 0) agree ∙ q.value)

-- the words behind a name give one limit, and the same operands
limits_one : (rest other : List (List ℕ)) (one two : Option ℕ) (operands others : List (List ℕ)) → rest ≡ other → Limits rest one operands → Limits other two others → AreOperands operands → AreOperands others
    → (one ≡ two) × (operands ≡ others)
limits_one rest other None None operands others agree p q a b = (refl, sym p ∙ (agree ∙ q))
limits_one rest other None (Some two) operands others agree p q a b = absurd (no_option operands (q.0 ∷ others) (sym p ∙ (agree ∙ q.1)) a)
limits_one rest other (Some one) None operands others agree p q a b = absurd (no_option others (p.0 ∷ operands) (sym q ∙ (sym agree ∙ p.1)) b)
limits_one rest other (Some one) (Some two) operands others agree p q a b =
    let whole : codes "--limit" ∷ p.0 ∷ operands ≡ codes "--limit" ∷ q.0 ∷ others = sym p.1 ∙ (agree ∙ q.1) in
    let numeral : p.0 ≡ q.0 = cc in
    (ap Some (same_number p.0 q.0 numeral p.2 q.2), cc)

-- words of which two stand behind the first one aren't those of which four do
whole_or_not : {words rest : List (List ℕ)} {size : ℕ} {schema document first other : List ℕ} → words ≡ codes "valid" ∷ schema ∷ document ∷ [] → words ≡ codes "valid" ∷ rest
    → PieceSizes rest (Some size) (first ∷ other ∷ []) → ⊥
whole_or_not {schema = schema} {document = document} {first = first} {other = other} p q (numeral, parts, spelled) =
    let whole : codes "valid" ∷ schema ∷ document ∷ [] ≡ codes "valid" ∷ codes "--stream" ∷ numeral ∷ first ∷ other ∷ [] = sym p ∙ (q ∙ ap (λ w. codes "valid" ∷ w) parts) in
    absurd (cc)

-- the words behind a name give one size of pieces, and the same operands
sizes_one : (rest next : List (List ℕ)) (one two : ℕ) (operands others : List (List ℕ)) → rest ≡ next → PieceSizes rest (Some one) operands → PieceSizes next (Some two) others
    → (one ≡ two) × (operands ≡ others)
sizes_one rest next one two operands others agree p q =
    let whole : codes "--stream" ∷ p.0 ∷ operands ≡ codes "--stream" ∷ q.0 ∷ others = sym p.1 ∙ (agree ∙ q.1) in
    let numeral : p.0 ≡ q.0 = cc in
    (same_number p.0 q.0 numeral p.2 q.2, cc)

pub one_command : {words : List (List ℕ)} {one other : Command} → Words words one → Words words other → one ≡ other
one_command (checks p l a x) (checks q m b y) =
    let agree = limits_one _ _ _ _ _ _ (cc) l m a b in
    let limit = agree.0 in
    let operands = agree.1 in
    cc
one_command (proves p l a x) (proves q m b y) =
    let agree = limits_one _ _ _ _ _ _ (cc) l m a b in
    let limit = agree.0 in
    let operands = agree.1 in
    cc
one_command (verifies p a x) (verifies q b y) = cc
one_command (runs p a) (runs q b) = cc
one_command (validates p a x) (validates q b y) = cc
one_command (validates p a x) (validates_in_pieces {size = k} {schema = u} {document = e} q m b y) = absurd (whole_or_not {size = k} {first = u} {other = e} p q m)
one_command (validates_in_pieces {size = j} {schema = s} {document = d} p l a x) (validates q b y) = absurd (whole_or_not {size = j} {first = s} {other = d} q p l)
one_command (validates_in_pieces {rest = r} {size = j} {schema = s} {document = d} p l a x) (validates_in_pieces {rest = t} {size = k} {schema = u} {document = e} q m b y) =
    let agree = sizes_one r t j k (s ∷ d ∷ []) (u ∷ e ∷ []) (cc) l m in
    let size = agree.0 in
    let operands = agree.1 in
    cc
one_command (shows p s) (shows q t) =
    let agree = same_number _ _ (cc) s t in
    cc
one_command (upgrades p a) (upgrades q b) = cc
one_command (asks_dead p a x) (asks_dead q b y) = cc
one_command (includes p a x) (includes q b y) = cc
one_command (compares p a x) (compares q b y) = cc
one_command p q =
    let agree = sym (kind_is p) ∙ kind_is q in
    absurd (omega (arith, agree))

pub words_give_one : WordsGiveOne
words_give_one words one other p q = one_command p q
