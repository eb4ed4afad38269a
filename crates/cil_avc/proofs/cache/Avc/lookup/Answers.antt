use Rattle.std.proofs.Common.{◌≡◌, sym, ◌∙◌, Some}
use Rattle.std.specs.Map.{lookup}
use Rattle.cil_decide.specs.conditions.Bits.{is_on}
use Rattle.cil_avc.specs.declared.key.Key.{Key}
use Rattle.cil_avc.proofs.CacheLemmas.{same, found, either, after_hit, true_hit, after_miss, true_miss}
use Rattle.cil_avc.proofs.cache.Avc.lookup.Goals as goal

pub returns-in-Some-clause-answer : goal.returns-in-Some-clause-answer
returns-in-Some-clause-answer g c =
    let key : Key = record { source = c.args.source.now; target = c.args.target.now; class = c.args.class } in
    let e : lookup (same key) c.args.self.now.entries ≡ Some c.in-Some.known = sym c.known.ensures ∙ c.in-Some.is in
    c.requires key c.in-Some.known (found key c.args.self.now.entries c.in-Some.known e)

pub returns-in-Some-clause-is_true : goal.returns-in-Some-clause-is_true
returns-in-Some-clause-is_true g c =
    let key : Key = record { source = c.args.source.now; target = c.args.target.now; class = c.args.class } in
    let all = rw (← c.self.view_is) at c.requires in
    true_hit c.args.tables.now (is_on c.args.settings.now) c.self.inside.cache c.promote.new.self key all c.promote.ensures.entries

pub returns-in-Some-clause-entries : goal.returns-in-Some-clause-entries
returns-in-Some-clause-entries g c =
    let key : Key = record { source = c.args.source.now; target = c.args.target.now; class = c.args.class } in
    rw (← c.self.view_is)
    (let e = rw (← c.self.view_is) at (sym c.known.ensures ∙ c.in-Some.is) in
    after_hit c.self.inside.cache c.promote.new.self key c.in-Some.known e c.promote.ensures.entries)

pub returns-clause-is_true : goal.returns-clause-is_true
returns-clause-is_true g c =
    let key : Key = record { source = c.args.source.now; target = c.args.target.now; class = c.args.class } in
    let all = rw (← c.self.view_is) at c.requires in
    let e = rw (← c.self.view_is) at (sym c.known.ensures ∙ c.in_default.is) in
    true_miss c.args.tables.now (is_on c.args.settings.now) c.self.inside.cache c.put.new.self key c.decide-decision.result e all c.decide-decision.ensures
    (either c.put.result c.put.new.self _ c.self.inside.cache c.put.ensures.entries c.put.ensures.err)

pub returns-clause-entries : goal.returns-clause-entries
returns-clause-entries g c =
    let key : Key = record { source = c.args.source.now; target = c.args.target.now; class = c.args.class } in
    rw (← c.self.view_is)
    (let e = rw (← c.self.view_is) at (sym c.known.ensures ∙ c.in_default.is) in
    after_miss c.self.inside.cache c.put.new.self key c.decide-decision.result e
    (either c.put.result c.put.new.self _ c.self.inside.cache c.put.ensures.entries c.put.ensures.err))
