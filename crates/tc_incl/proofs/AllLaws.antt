-- All laws of cover rows together.
use Rattle.std.proofs.Common.{[], ◌∷◌, refl, codes}
use Rattle.tc_model.specs.Names.{IsText}
use Rattle.tc_model.specs.Chains.{a_text}
use Rattle.tc_model.specs.TreesApart.{alone}
use Rattle.tc_model.specs.LiveTrees.{empty_is_live}
use Rattle.tc_model.proofs.TreesApart.{from_back, nodes_beside, normal_apart}
use Rattle.tc_rules.proofs.Covered.{symbol_below}
use Rattle.tc_rows.proofs.Live.{tree_apart, live_last, live_front, live_inside}
use Rattle.tc_incl.specs.Schemas.{Schemas, AreSchemas}
use Rattle.tc_incl.specs.Laws.{Commute, AreMade, Tell, RowLaws, RowsAreLawful}
use Rattle.tc_incl.proofs.OneSchema.{start_told}
use Rattle.tc_incl.proofs.One.{are_one}
use Rattle.tc_incl.proofs.There.{empty_row, text_row, append_row, wrap_row, are_there}
use Rattle.tc_incl.proofs.Lives.{first_blind, second_blind, fresh_told, fresh_lawful, text_live, append_live, wrap_live, document_live}

module _ (x : Schemas) (are : AreSchemas x) where
  commute : Commute x
  commute = record {
    empty = empty_row x;
    text = λ s u ink c. text_row x s u c;
    text_live = text_live x are;
    appended = λ h t r s u normal a b c. append_row x h t r s u ((normal_apart (alone t)).0 normal) a b c;
    append_live = append_live x are;
    wrapped = λ n h r u normal a c. wrap_row x (first_blind x are) (second_blind x are) n h r u ((normal_apart h).0 normal) a c;
    wrap_live = wrap_live x are;
  }

  -- one letter is a text
  plain : IsText (codes "t")
  unfolding lib.Utf8.encode
  plain = (λ e. cc, (0x74 ∷ [], refl, refl))

  made : AreMade x
  made = record {
    from_back = from_back;
    none_is_live = empty_is_live;
    no_white_text = λ s l. (l.0.0.0, (tree_apart x.first (a_text s) l).1);
    name_inside = λ n h l. l.0.0.0;
    inside = live_inside x.first;
    front = live_front x.first;
    last = live_last x.first;
    nodes = λ h t. nodes_beside h (alone t);
    symbol = λ n. symbol_below x.symbols n;
    fresh = λ a low. (fresh_lawful x are a, fresh_told x are a low);
    plain_text = (plain, refl);
  }

  tell : Tell x
  tell = record {
    documents = document_live x are;
    first = λ t r lawful a. start_told x.first are.first_start t r.first lawful a.first;
    second = λ t r lawful a. start_told x.second are.second_start t r.second lawful a.second;
  }

  are_lawful : RowLaws x
  are_lawful = record { one = are_one x; there = are_there x (first_blind x are) (second_blind x are); commute = commute; made = made; tell = tell }

pub rows_are_lawful : RowsAreLawful
rows_are_lawful = are_lawful
