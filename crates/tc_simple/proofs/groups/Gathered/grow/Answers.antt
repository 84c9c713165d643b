use Rattle.std.proofs.Common.{◌∙◌, ap, refl}
use Rattle.std.proofs.lemmas.Option.{slice_get_read}
use Rattle.tc_model.specs.Views.{place}
use Rattle.tc_model.specs.SimplifiesFaults.{clash}
use Rattle.tc_rnc.specs.Views.{joins}
use Rattle.tc_simple.specs.Groups.{any_of}
use Rattle.tc_simple.specs.Places.{or_clash, maybe_place}
use Rattle.tc_simple.proofs.Answered.{failed_on}
use Rattle.tc_simple.proofs.groups.Gathered.grow.Goals as goal

pub returns : goal.returns
returns c = record {
  before = c.index_mut-group.result.now;
  group = c.add.new.self;
  was = slice_get_read c.args.self.now.groups.items _ c.args.number c.index_mut-group.result.now refl c.requires c.index_mut-group.ensures.value;
  groups = refl;
  name = c.in_ok-add.ensures.name;
  more = c.in_ok-add.ensures.group;
  numbers = refl;
  first = λ front g n. c.earlier-self.ensures ∙ ap (λ b. or_clash (maybe_place c.args.self.now.clash) b (place c.args.def.now.place))
      (c.clashes-clashes.ensures front g ∙ ap (λ m. any_of (λ j. clash j (joins c.args.def.now.joins)) m front) n);
}

pub returns-in_err-add : goal.returns-in_err-add
returns-in_err-add c = failed_on c.from_residual.result _ _ c.from_residual.ensures.1
