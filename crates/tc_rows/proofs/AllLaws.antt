-- All laws of rows together.
use Rattle.std.proofs.Common.{[], ◌∷◌, refl, codes, ◌≡◌, ◌↔◌, false, ◌&&◌}
use Rattle.tc_model.specs.Names.{IsText}
use Rattle.tc_model.specs.Trees.{Trees, text, element, none, IsNormal}
use Rattle.tc_model.specs.Chains.{Tree, a_text}
use Rattle.tc_model.specs.TreesApart.{alone, followed_by, is_text, ends_in_text}
use Rattle.tc_model.specs.LiveTrees.{empty_is_live}
use Rattle.tc_model.specs.Symbols.{fresh_name}
use Rattle.tc_model.proofs.TreesApart.{from_back, nodes_beside, apart_followed, normal_apart}
use Rattle.tc_model.proofs.Total.{one_result}
use Rattle.tc_alpha.proofs.Fresh.{lawful_told}
use Rattle.tc_rules.proofs.Covered.{symbol_below}
use Rattle.tc_rows.specs.Triples.{Triple, IsTriple, sheet}
use Rattle.tc_rows.specs.Laws.{Commute, AreNormal, AreMade, Tell, RowLaws, RowsAreLawful}
use Rattle.tc_rows.proofs.One.{are_one}
use Rattle.tc_rows.proofs.There.{are_there}
use Rattle.tc_rows.proofs.Append.{append_row}
use Rattle.tc_rows.proofs.Wrap.{wrap_row, text_row, empty_row}
use Rattle.tc_rows.proofs.Live.{tree_apart, live_last, live_front, live_inside, text_live, append_live, wrap_live, fresh_told, document_alone, document_live, admitted_told}
use Rattle.tc_rows.proofs.Root.{passing_told}

module _ (x : Triple) (is : IsTriple x) where
  commute : Commute x
  commute = record {
    empty = empty_row x is;
    text = λ s u ink c. text_row x is s u ink c;
    text_live = text_live x is;
    appended = λ h t r s u normal a b c. append_row x is h t r s u ((normal_apart (alone t)).0 normal) a b c;
    append_live = append_live x is;
    wrapped = λ n h r u normal a c. wrap_row x is n h r u ((normal_apart h).0 normal) a c;
    wrap_live = wrap_live x is;
  }

  followed : (h : Trees) (t : Tree) → IsNormal (followed_by h t) ↔ (IsNormal h × IsNormal (alone t) × ((ends_in_text h && is_text t) ≡ false))
  followed h t = (
    λ all. let (front, back, meet) = (apart_followed h t).0 ((normal_apart (followed_by h t)).0 all) in ((normal_apart h).1 front, (normal_apart (alone t)).1 back, meet),
    λ (front, back, meet). (normal_apart (followed_by h t)).1 ((apart_followed h t).1 ((normal_apart h).0 front, (normal_apart (alone t)).0 back, meet)),
  )

  normal : AreNormal x
  normal = record {
    text = λ s. (λ all. ((normal_apart (text s none)).0 all).1, λ ink. (normal_apart (text s none)).1 (refl, ink, tt));
    element = λ n h. (λ all. (normal_apart h).1 ((normal_apart (element n h none)).0 all).0, λ inner. (normal_apart (element n h none)).1 ((normal_apart h).0 inner, tt));
    followed = followed;
  }

  -- one letter is a text
  plain : IsText (codes "t")
  unfolding lib.Utf8.encode
  plain = (λ e. cc, (0x74 ∷ [], refl, refl))

  made : AreMade x
  made = record {
    from_back = from_back;
    none_is_live = empty_is_live;
    no_white_text = λ s l. (l.0.0.0, (tree_apart x.input (a_text s) l).1);
    name_inside = λ n h l. l.0.0.0;
    inside = live_inside x.input;
    front = live_front x.input;
    last = live_last x.input;
    nodes = λ h t. nodes_beside h (alone t);
    symbol = λ n. symbol_below x.symbols n;
    fresh = λ a low. (lawful_told x.symbols a (fresh_name x.symbols a) refl x.input x.output (sheet x) is.input is.output is.rules.well_formed is.symbols, fresh_told x is a low);
    plain_text = (plain, refl);
  }

  tell : Tell x
  tell = record {
    one_tree = document_alone x is;
    documents = document_live x is;
    admitted = admitted_told x is;
    passing = λ t r result normal a e. passing_told x is t r result ((normal_apart (alone t)).0 normal) a e;
    has_result = λ t. let (result, a, unique) = one_result (sheet x) is.rules.well_formed (alone t) in (result, a);
  }

  are_lawful : RowLaws x
  are_lawful = record { one = are_one x is; there = are_there x is; commute = commute; normal = normal; made = made; tell = tell }

pub rows_are_lawful : RowsAreLawful
rows_are_lawful = are_lawful
