use Rattle.std.specs.Prelude.{All}
use Rattle.std.proofs.Common.{refl, subst}
use Rattle.std.proofs.lemmas.List.{take_all}
use Rattle.cil_mls.specs.declared.categories.Categories.{Categories}
use Rattle.cil_mls.specs.Bits.{AreWords}
use Rattle.cil_level_rows.proofs.KeptLemmas.{all_upto}
use Rattle.cil_level_rows.proofs.words.sets_have_words.Goals as goal

pub loop-set-preserved : goal.loop-set-preserved
loop-set-preserved c = all_upto (λ (p : Categories). AreWords p.words) c.args.sets.now c.loop-set.set-index _ _ c.loop-set-test.true refl c.has_words.ensures c.loop-set.invariant

pub returns : goal.returns
returns c = subst (λ l. All (λ (p : Categories). AreWords p.words) l) (take_all c.loop-set.set-index c.args.sets.now c.loop-set-test.false) c.loop-set.invariant
