use Rattle.std.proofs.Common.{◌<◌, ◌≤◌, ◌∙◌, length, refl, arith}
use Rattle.cil_mls.proofs.HashLemmas.{all_written, word_written}
use Rattle.cil_mls.proofs.categories.CategoriesHash.hash.Goals as goal

pub loop-at-preserved : goal.loop-at-preserved
loop-at-preserved g c =
    let within : c.loop-at.at < length c.args.self.now.words = omega (arith, c.loop-at-test.true, c.well_formed) in
    (omega (arith, c.loop-at-test.true), word_written g.H.Hasher.write c.args.self.now.words c.loop-at.at _ c.loop-at.state c.hash_word.new.state _ within refl c.hash_word.ensures c.loop-at.invariant.1)

pub returns : goal.returns
returns g c =
    let over : length c.args.self.now.words ≤ c.loop-at.at = omega (arith, c.loop-at-test.false, c.well_formed) in
    c.write_u8.ensures ∙ all_written g.H.Hasher.write c.args.self.now.words c.loop-at.at c.loop-at.state _ over c.loop-at.invariant.1
