use Rattle.std.specs.List.{IsDistinct, AllByRecursion}
use Rattle.tc_tags.specs.Listed.{HasNoPrefix, same_parts, all_parts}
use Rattle.std.proofs.Common.{◌≡◌, ◌∙◌, refl, MatchBool, subst, Bool, [], sym, arith, vec_len}
use Rattle.std.proofs.lemmas.Bool.{eqb-true}
use Rattle.std.proofs.lemmas.List.{nil_from_length}
use Rattle.tc_tags.specs.declared.attributes.Sort.TheVariants.{Written, Expanded}
use Rattle.tc_tags.proofs.ListedLaws.{none_alike, written_tells}
use Rattle.tc_tags.proofs.attributes.Attributes.are_apart.Goals as goal

pub returns-then-is_empty-clause-apart : goal.returns-then-is_empty-clause-apart
returns-then-is_empty-clause-apart c =
    let list = c.args.self.now.list in
    let empty : vec_len list ≡ 0 = eqb-true (vec_len list) 0 (sym {A = Bool} c.if-is_empty.ensures) in
    let none : list.items ≡ [] = nil_from_length list.items (omega (arith, empty, list.ok.0)) in
    let tag = c.args.tag.now in
    let names = c.args.names.now.bytes.items in
    let declared = c.args.scopes.now.declared.items in
    (none_alike Written tag names declared list.items none, none_alike Expanded tag names declared list.items none)

pub returns-then-have_no_prefix-clause-apart : goal.returns-then-have_no_prefix-clause-apart
returns-then-have_no_prefix-clause-apart c =
    let tag = c.args.tag.now in
    let names = c.args.names.now.bytes.items in
    let declared = c.args.scopes.now.declared.items in
    let list = c.args.self.now.list.items in
    let none : AllByRecursion HasNoPrefix list = subst (AllByRecursion HasNoPrefix) (c.deref.ensures.value ∙ c.if-are_once.ensures.list) (c.if-have_no_prefix.ensures refl) in
    let W = IsDistinct same_parts (all_parts Written tag names declared list) in
    let E = IsDistinct same_parts (all_parts Expanded tag names declared list) in
    let written : W = c.if-are_once.ensures.once in
    subst (λ b. MatchBool b (W × E) (W → E → ⊥)) (sym c.if-have_no_prefix.true) (written, written_tells tag names declared list none written)
