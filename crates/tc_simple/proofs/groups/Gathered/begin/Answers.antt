use Rattle.std.proofs.Common.{◌∙◌, ℕ, List, ap, cond, Bool, refl, Some, Option}
use Rattle.std.proofs.lemmas.Map.Text.{btree_map_updates_str}
use Rattle.tc_simple.specs.Gathered.{number_in}
use Rattle.tc_simple.proofs.Gathering.{same_bytes}
use Rattle.tc_simple.proofs.Answered.{failed_on}
use Rattle.tc_simple.proofs.groups.Gathered.begin.Goals as goal

pub returns : goal.returns
returns c =
    let all = btree_map_updates_str c.args.def.now.name.now c.args.self.now.numbers c.insert.new.self _ c.in_ok-insert.ensures.updates in
    let choice : Bool → List ℕ → Option ℕ = λ b n. cond b (Some c.len-number.result) (number_in c.args.self.now.numbers n) in
    record {
      group = c.in_ok-group.group;
      starts = c.in_ok-group.ensures;
      groups = c.in_ok-push.ensures.items;
      here = all c.args.def.now.name.now ∙ (ap (λ b. choice b c.args.def.now.name.now) (same_bytes c.args.def.now.name.now) ∙ ap Some (c.len-number.ensures ∙ c.args.self.now.groups.ok.0));
      others = λ n e. all n ∙ ap (λ b. choice b n) e;
      first = refl;
    }

pub returns-in_err-group : goal.returns-in_err-group
returns-in_err-group c = failed_on c.from_residual.result _ _ c.from_residual.ensures.1

pub returns-in_err-push : goal.returns-in_err-push
returns-in_err-push c = failed_on c.from_residual-in_err-push.result _ _ c.from_residual-in_err-push.ensures.1

pub returns-in_err-insert : goal.returns-in_err-insert
returns-in_err-insert c = failed_on c.from_residual-in_err-insert.result _ _ c.from_residual-in_err-insert.ensures.1
