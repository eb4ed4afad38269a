use Rattle.std.specs.Prelude.{Some}
use Rattle.std.proofs.Common.{◌∙◌, ap, arith, refl, sym}
use Rattle.std.proofs.lemmas.Option.{slice_get_read}
use Rattle.cil_names.proofs.permissions.add_names.Goals as goal

pub index_mut-requires : goal.index_mut-requires
index_mut-requires c = let h = c.requires in let n = c.args.lists.now.ok.0 in omega (arith, h, n)

pub index_mut-requires-2 : goal.index_mut-requires-2
index_mut-requires-2 c = let h = c.requires in let n = c.args.lists.now.ok.0 in omega (arith, h, n)

pub returns : goal.returns
returns c = record {
  before = c.replace-listed.result;
  none_yet = c.replace-listed.new.dest;
  after = c.in_ok-lists.field-0;
  was = slice_get_read _ _ _ _ refl c.requires c.index_mut.ensures.value ∙ ap Some (sym c.replace-listed.ensures.value);
  all = c.in_ok-lists.ensures;
  is = refl;
}
