use Rattle.cil_macros.specs.Macros.{all_standing}
use Rattle.cil_macros.proofs.FirstLemmas.{no_firsts}
use Rattle.cil_macros.proofs.WalkLemmas.{no_bodies, no_scopes, no_spaces}
use Rattle.cil_macros.proofs.walk.walk.Goals as goal

pub open_all-requires-clause-brought : goal.open_all-requires-clause-brought
open_all-requires-clause-brought c =
    let s = c.args.source.now.spaces.now in
    record {
      bodies = no_bodies s c.new.result.items c.new-2.result.items c.new.ensures.items c.new-2.ensures.items;
      firsts = no_firsts (all_standing s) _ c.new-2.ensures.items c.new-3.ensures.empty;
      scopes = no_scopes s c.new.result.items c.new-2.result.items c.new-2.ensures.items;
      spaces = no_spaces s c.new.result.items c.new-2.result.items c.new-2.ensures.items;
    }

pub returns-then-not-all-clause-many : goal.returns-then-not-all-clause-many
returns-then-not-all-clause-many c = c.in_ok-all.ensures.many c.if-not-all.true

pub returns-clause-all : goal.returns-clause-all
returns-clause-all c = (c.in_ok-all.ensures.all c.if-not-all.false).all

pub returns-clause-brought : goal.returns-clause-brought
returns-clause-brought c = (c.in_ok-all.ensures.all c.if-not-all.false).brought

pub returns-clause-turn : goal.returns-clause-turn
returns-clause-turn c = (c.in_ok-all.ensures.all c.if-not-all.false).turn

pub returns-clause-few : goal.returns-clause-few
returns-clause-few c = (c.in_ok-all.ensures.all c.if-not-all.false).few
