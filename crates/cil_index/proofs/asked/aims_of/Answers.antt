use Rattle.std.proofs.Common.{◌≡◌, ap, arith, ◌∙◌}
use Rattle.cil_index.specs.Entries.{aim_of, in_class, several}
use Rattle.cil_index.proofs.asked.aims_of.Goals as goal

pub returns : goal.returns
returns c =
    let last : c.aim-3.result ≡ aim_of (in_class c.args.asked.now.class) c.last_key.result = c.aim-3.ensures ∙ ap (λ k. aim_of k c.last_key.result) c.class_key-class.ensures.key in
    let low = c.last_key.ensures.low in
    let high = c.last_key.ensures.high in
    record {
      alone_is = c.aim.ensures ∙ ap (λ k. aim_of k c.type_key.result) c.class_key-class.ensures.key ∙ ap (aim_of _) c.type_key.ensures;
      several_is = c.aim-2.ensures ∙ ap (λ k. aim_of k several) c.class_key-class.ensures.key;
      small_below = c.small_sets.ensures.below;
      sets_below = c.small_sets.ensures.room;
      last_low = omega (arith, last, low);
      last_high = omega (arith, last, high);
      last_own = λ own. last ∙ ap (aim_of (in_class c.args.asked.now.class)) (c.last_key.ensures.own own);
      filtered = c.filter.ensures;
    }
