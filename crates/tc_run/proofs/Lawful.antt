-- The result of a well-formed stylesheet on a document has lawful names and texts.
use Rattle.std.proofs.Common.{ℕ, Bool, true, false, cond, ◌<◌, List, [], ◌∷◌, sym, subst, map, filter, ◌&&◌, nat_eq, int_lt, Option, Some, None, All}
use Rattle.std.proofs.lemmas.List.Elements.{All-head, All-tail}
use Rattle.tc_model.specs.Names.{IsChars, IsText, IsName}
use Rattle.tc_model.specs.Trees.{Trees, none, text, element, beside, joined, AreLawful}
use Rattle.tc_model.specs.Chains.{Tree, an_element, a_text, Chain, top, under, below, joined_texts, onto, Node, whole, one, node_of, children, string_value, found, first_node}
use Rattle.tc_model.specs.Sheets.{Path, Body, Branches, Rule, Sheet}
use Rattle.tc_model.specs.Paths.{any_along, selected, fits}
use Rattle.tc_model.specs.Outcomes.{Outcome, put, copied}
use Rattle.tc_model.specs.Meaning.{value_of_first, Job, by_mode, by_body, built_in, better, body_or, rule_of, body_of, Does, Takes, Each, does_no_instruction, does_text, does_element, does_copy, does_copy_text, does_apply, does_call, does_value, does_self, does_choose, does_for_each, takes_last, takes_this, takes_later, on_none, on_one}
use Rattle.tc_model.specs.WellFormed.{IsBody, AreBranches, IsRule, IsSheet}
use Rattle.tc_model.specs.Safety.{IsResultOf}
use Rattle.tc_model.proofs.XmlTextChars.{join_chars, no_chars}
use Rattle.tc_model.proofs.XmlTextDocument.{joined_lawful, dropped_lawful}
use Rattle.tc_alpha.proofs.Members.{Every, every_append, every_from_all, every_member}
use Rattle.tc_run.specs.Lawful.{HasLawfulResults}
use Rattle.tc_run.proofs.Members.{has_got}

beside_lawful : (h k : Trees) → AreLawful h → AreLawful k → AreLawful (beside h k)
beside_lawful none k l m = m
beside_lawful (text s rest) k (t, l) m = (t, beside_lawful rest k l m)
beside_lawful (element n kids rest) k (a, b, l) m = (a, b, beside_lawful rest k l m)

-- nodes
abbrev IsLawfulTree : Tree → Type 0
IsLawfulTree (an_element n kids) = IsName n × AreLawful kids
IsLawfulTree (a_text s) = IsText s

abbrev IsLawfulNode : Node → Type 0
IsLawfulNode (whole doc) = AreLawful doc
IsLawfulNode (one t) = IsLawfulTree t

abbrev IsLawfulChain : Chain → Type 0
IsLawfulChain c = IsLawfulNode (node_of c)

children_lawful : (n : Node) → IsLawfulNode n → AreLawful (children n)
children_lawful (whole doc) l = l
children_lawful (one (an_element n kids)) l = l.1
children_lawful (one (a_text s)) l = tt

texts_lawful : (h : Trees) → AreLawful h → IsChars (joined_texts h)
texts_lawful none l = no_chars
texts_lawful (text s rest) ((some, t), l) = join_chars s (joined_texts rest) t (texts_lawful rest l)
texts_lawful (element n kids rest) (a, k, l) = join_chars (joined_texts kids) (joined_texts rest) (texts_lawful kids k) (texts_lawful rest l)

string_lawful : (n : Node) → IsLawfulNode n → IsChars (string_value n)
string_lawful (whole doc) l = texts_lawful doc l
string_lawful (one (an_element n kids)) l = texts_lawful kids l.1
string_lawful (one (a_text s)) l = l.1

put_lawful : (s : List ℕ) → IsChars s → AreLawful (put s).out
put_lawful [] c = tt
put_lawful (b ∷ bs) c = (((λ e. cc), c), tt)

-- the trees that lead to nodes below lawful ones
prepended : (t : Tree) (ds : List (List Tree)) → IsLawfulTree t → Every (Every IsLawfulTree) ds → Every (Every IsLawfulTree) (map (λ d. t ∷ d) ds)
prepended t [] l a = tt
prepended t (d ∷ ds) l a = ((l, a.0), prepended t ds l a.1)

below_lawful : (h : Trees) → AreLawful h → Every (Every IsLawfulTree) (below h)
below_lawful none l = tt
below_lawful (text s rest) (t, l) = ((t, tt), below_lawful rest l)
below_lawful (element n kids rest) (a, k, l) =
    (((a, k), tt), every_append (Every IsLawfulTree) (map (λ d. an_element n kids ∷ d) (below kids)) (below rest) (prepended (an_element n kids) (below kids) (a, k) (below_lawful kids k)) (below_lawful rest l))

onto_lawful : (c : Chain) (ts : List Tree) → IsLawfulChain c → Every IsLawfulTree ts → IsLawfulChain (onto c ts)
onto_lawful c [] l a = l
onto_lawful c (t ∷ ts) l a = onto_lawful (under c t) ts a.0 a.1

found_lawful : (p : List Tree → Bool) (c : Chain) (ds : List (List Tree)) → IsLawfulChain c → Every (Every IsLawfulTree) ds → Every IsLawfulChain (found p c ds)
found_lawful p c [] l a = tt
found_lawful p c (d ∷ ds) l a = by (p d) (found_lawful p c ds l a.1)
  where
    by : (b : Bool) → Every IsLawfulChain (map (λ w. onto c w) (filter p ds)) → Every IsLawfulChain (map (λ w. onto c w) (cond b (d ∷ filter p ds) (filter p ds)))
    by true rest = (onto_lawful c d l a.0, rest)
    by false rest = rest

selected_lawful : (p : Path) (c : Chain) → IsLawfulChain c → Every IsLawfulChain (selected p c)
selected_lawful p c l = found_lawful (λ d. any_along p c d) c (below (children (node_of c))) l (below_lawful (children (node_of c)) (children_lawful (node_of c) l))

first_lawful : (cs : List Chain) → Every IsLawfulChain cs → IsChars (value_of_first (first_node cs))
first_lawful [] a = no_chars
first_lawful (c ∷ cs) a = string_lawful (node_of c) a.0

module _ (s : Sheet) (is : IsSheet s) where
  abbrev IsOneOfTheRules : Option Rule → Type 0
  IsOneOfTheRules None = Unit {0}
  IsOneOfTheRules (Some r) = IsRule s r

  first_is : (b : Bool) (r later : Rule) → IsRule s r → IsRule s later → IsOneOfTheRules (cond b (Some r) (Some later))
  first_is true r later i k = i
  first_is false r later i k = k

  better_is : (b : Bool) (r : Rule) (o : Option Rule) → IsRule s r → IsOneOfTheRules o → IsOneOfTheRules (better b r o)
  better_is true r None i k = i
  better_is false r None i k = tt
  better_is true r (Some later) i k = first_is (int_lt later.priority r.priority) r later i k
  better_is false r (Some later) i k = k

  rule_is : (rs : List Rule) → All (IsRule s) rs → (m : ℕ) (c : Chain) → IsOneOfTheRules (rule_of rs m c)
  rule_is [] a m c = tt
  rule_is (r ∷ rs) a m c = better_is (nat_eq r.mode m && fits r.pattern c) r (rule_of rs m c) (All-head (IsRule s) r rs a) (rule_is rs (All-tail (IsRule s) r rs a) m c)

  abbrev IsJobIn : Job → Type 0
  IsJobIn (by_mode m) = m < s.modes
  IsJobIn (by_body b) = IsBody s b

  built_in_is : (m : ℕ) (n : Node) → m < s.modes → IsBody s (built_in m n)
  built_in_is m (whole doc) h = (((λ e. cc), (tt, tt, tt), tt), h, tt)
  built_in_is m (one (an_element n kids)) h = (((λ e. cc), (tt, tt, tt), tt), h, tt)
  built_in_is m (one (a_text x)) h = tt

  or_is : (b : Body) (o : Option Rule) → IsBody s b → IsOneOfTheRules o → IsBody s (body_or b o)
  or_is b None i k = i
  or_is b (Some r) i k = k.body

  job_is : (j : Job) (c : Chain) → IsJobIn j → IsBody s (body_of s.rules j c)
  job_is (by_mode m) c h = or_is (built_in m (node_of c)) (rule_of s.rules m c) (built_in_is m (node_of c) h) (rule_is s.rules is.rules m c)
  job_is (by_body b) c h = h

  copied_lawful : (n : Node) (a : Outcome) → IsLawfulNode n → AreLawful a.out → AreLawful (copied n a).out
  copied_lawful (whole doc) a l k = k
  copied_lawful (one (an_element n kids)) a l k = (l.0, k, tt)
  copied_lawful (one (a_text x)) a l k = put_lawful x l.1

  mutual
    does_lawful : {b : Body} {c : Chain} {h : Outcome} → Does s.rules s.named b c h → IsBody s b → IsLawfulChain c → AreLawful h.out
    does_lawful does_no_instruction i l = tt
    does_lawful (does_text {x} {h} d) i l = beside_lawful (put x).out h.out (put_lawful x i.0) (does_lawful d i.1 l)
    does_lawful (does_element {n} {k} {h} e d) i l = beside_lawful (element n k.out none) h.out (i.0, does_lawful e i.1 l, tt) (does_lawful d i.2 l)
    does_lawful (does_copy {c} {k} {h} o e d) i l = beside_lawful (copied (node_of c) k).out h.out (copied_lawful (node_of c) k l (does_lawful e i.0 l)) (does_lawful d i.1 l)
    does_lawful (does_copy_text {c} {x} {h} e d) i l = beside_lawful (put x).out h.out (put_lawful x (subst IsLawfulNode e l).1) (does_lawful d i.1 l)
    does_lawful (does_apply {p} {c} {k} {h} e d) i l = beside_lawful k.out h.out (each_lawful e i.1 (selected_lawful p c l)) (does_lawful d i.2 l)
    does_lawful (does_call {k} {h} b at e d) i l = beside_lawful k.out h.out (does_lawful e (every_member (IsBody s) s.named b (every_from_all (IsBody s) s.named is.named) (has_got s.named _ b at)) l) (does_lawful d i.1 l)
    does_lawful (does_value {p} {c} {h} d) i l = beside_lawful _ h.out (put_lawful _ (first_lawful (selected p c) (selected_lawful p c l))) (does_lawful d i.1 l)
    does_lawful (does_self {c} {h} d) i l = beside_lawful _ h.out (put_lawful _ (string_lawful (node_of c) l)) (does_lawful d i l)
    does_lawful (does_for_each {p} {c} {k} {h} e d) i l = beside_lawful k.out h.out (each_lawful e i.2 (selected_lawful p c l)) (does_lawful d i.3 l)
    does_lawful (does_choose {k} {h} e d) i l = beside_lawful k.out h.out (takes_lawful e i.0 l) (does_lawful d i.1 l)

    takes_lawful : {x : Branches} {c : Chain} {h : Outcome} → Takes s.rules s.named x c h → AreBranches s x → IsLawfulChain c → AreLawful h.out
    takes_lawful (takes_last d) i l = does_lawful d i l
    takes_lawful (takes_this t d) i l = does_lawful d i.1 l
    takes_lawful (takes_later t d) i l = takes_lawful d i.2 l

    each_lawful : {j : Job} {cs : List Chain} {h : Outcome} → Each s.rules s.named j cs h → IsJobIn j → Every IsLawfulChain cs → AreLawful h.out
    each_lawful on_none i a = tt
    each_lawful (on_one {j} {c} {h} {k} d e) i a = beside_lawful h.out k.out (does_lawful d (job_is j c i) a.0) (each_lawful e i a.1)

  result_lawful : (doc result : Trees) → AreLawful doc → IsResultOf s doc result → AreLawful result
  result_lawful doc result l r =
      let outcome : Outcome = r.0 in
      let (inner, d, e) = r.1 in
      let lawful : AreLawful inner.out = does_lawful d (job_is (by_mode 0) (top doc) is.modes) l in
      subst AreLawful (sym r.2) (dropped_lawful (joined outcome.out) (joined_lawful outcome.out (subst (λ (w : Outcome). AreLawful w.out) (sym e) lawful)))

pub lawful_results : HasLawfulResults
lawful_results s doc result is d r = result_lawful s is doc result d.1 r
